-- Kills, crashes and losses keep the law.
use Rattle.std.proofs.Common.{ℕ, ◌≡◌, ◌<◌, false, List, [], length, slice_get, Option, Some, None, option_map, refl, ◌∙◌, ap, sym, subst}
use Rattle.pat_base.specs.declared.server_state.State.{State}
use Rattle.pat_base.specs.declared.server_state.State.TheVariants as states
use Rattle.pat_base.specs.ServerState.{live}
use Rattle.pg_model.specs.Facts.{ServerFacts}
use Rattle.pg_model.specs.Running.{crashed, crashed_state}
use Rattle.event_book.specs.declared.event.AgentEvent.TheVariants as agents
use Rattle.event_book.specs.declared.event.Event.{Event}
use Rattle.event_book.specs.declared.event.EventKind.TheVariants as kinds
use Rattle.event_book.specs.declared.event.MessageEvent.TheVariants as messages
use Rattle.event_book.specs.declared.event.ServerEvent.TheVariants as servers
use Rattle.event_book.specs.declared.member.Member.{Member}
use Rattle.event_book.specs.declared.member.ServerOf.{ServerOf}
use Rattle.event_book.specs.Functions.{put_at}
use Rattle.agent_model.specs.Agents.{AgentFacts}
use Rattle.cluster_model.specs.Cluster.{cluster_after}
use Rattle.script_model.specs.Script.{HeadText}
use Rattle.cluster_model.specs.Parts.{event_of}
use Rattle.cluster_model.specs.State.{Cluster}
use Rattle.lease_model.specs.Actions.{Kill, Crash, Lose}
use Rattle.lease_model.specs.Claims.{MayBeginBehind}
use Rattle.lease_model.specs.Past.{past_of, state_of}
use Rattle.lease_model.specs.States.{crash_machine, kill_machine}
use Rattle.lease_law.proofs.LocalActions.{loss-shown}
use Rattle.lease_parts.specs.Bridged.{Bridged}
use Rattle.lease_parts.specs.Declaring.{declared_of}
use Rattle.run_promise.specs.Members.{member_count}
use Rattle.lease_parts.specs.Kept.{IsKept}
use Rattle.lease_parts.specs.Machines.{live_now, run_in, run_now}
use Rattle.lease_parts.specs.Volatile.{agent_now, machine_in, volatile_of}
use Rattle.lease_parts.proofs.Actions.{action-kept, local-kept}
use Rattle.lease_parts.proofs.Asides.{asides-begin, matched-behind}
use Rattle.lease_parts.proofs.Machines.{ended-run, seen-kept}
use Rattle.lease_parts.proofs.SameMachine.{machine-same, machines-put}
use Rattle.cluster_model.proofs.Places.{get-here, get-elsewhere, there}

-- without its agent a member has none
pub agent-without : (agents : List (Option AgentFacts)) (k : ℕ) → k < length agents
    → agent_now (option_map (λ (agent : Option AgentFacts). let none : Option AgentFacts = None in none)
    (slice_get agents k))
    ≡ None
agent-without agents k small = let found = there agents k small in
    ap (λ (o : Option (Option AgentFacts)).
    agent_now (option_map (λ (agent : Option AgentFacts). let none : Option AgentFacts = None in none) o))
    found.1

killed-machine : (cluster : Cluster) (member : Member) → member.id.number < length cluster.agents → (m : ℕ)
    → machine_in (cluster_after cluster (kinds.Agent (agents.Killed member))) m
    ≡ put_at (machine_in cluster) member.id.number (kill_machine (machine_in cluster member.id.number)) m
killed-machine cluster member small =
    let k : ℕ = member.id.number in
    let runs : (m : ℕ) → run_in _ m ≡ run_in cluster.facts.processes m =
    λ m. seen-kept run_now cluster.facts.processes k m _ ended-run in
    machines-put (machine_in cluster) (machine_in (cluster_after cluster (kinds.Agent (agents.Killed member)))) k
    (kill_machine (machine_in cluster k))
    (machine-same _ _ _ _ _ _ _ _ _ _ _ _ refl refl refl refl
    (ap agent_now (get-here cluster.agents k _) ∙ agent-without cluster.agents k small) (runs k))
    (λ m other. machine-same _ _ _ _ _ _ _ _ _ _ _ _ refl refl refl refl
    (ap agent_now (get-elsewhere cluster.agents k m _ other)) (runs m))

pub kept-kill : (head : HeadText) (book : List Event) (cluster : Cluster) (member : Member)
    → member.id.number < member_count head → Bridged head book cluster
    → IsKept head book cluster (event_of cluster (kinds.Agent (agents.Killed member)))
kept-kill head book cluster member small good =
    local-kept head book cluster (event_of cluster (kinds.Agent (agents.Killed member)))
    (Kill member.id.number) good tt (tt, tt) (tt, tt)
    (killed-machine cluster member (subst (λ (n : ℕ). member.id.number < n) (sym good.matched.agents_sized) small))

crashed-dead : (state : State) → live (crashed_state state) ≡ false
crashed-dead states.Creating = refl
crashed-dead _ = refl

pub crashed-now : (found : Option ServerFacts) → live_now (option_map crashed found) ≡ false
crashed-now None = refl
crashed-now (Some s) = crashed-dead s.state

crashed-machine : (cluster : Cluster) (server : ServerOf) (m : ℕ)
    → machine_in (cluster_after cluster (kinds.Server (servers.Crashed server))) m
    ≡ put_at (machine_in cluster) server.id.number (crash_machine (machine_in cluster server.id.number)) m
crashed-machine cluster server =
    let k : ℕ = server.id.number in
    machines-put (machine_in cluster) (machine_in (cluster_after cluster (kinds.Server (servers.Crashed server)))) k
    (crash_machine (machine_in cluster k))
    (machine-same _ _ _ _ _ _ _ _ _ _ _ _
    (ap live_now (get-here cluster.facts.servers k _) ∙ crashed-now (slice_get cluster.facts.servers k)) refl
    refl refl refl refl)
    (λ m other. machine-same _ _ _ _ _ _ _ _ _ _ _ _
    (ap live_now (get-elsewhere cluster.facts.servers k m _ other)) refl refl refl refl refl)

pub kept-crash : (head : HeadText) (book : List Event) (cluster : Cluster) (server : ServerOf)
    → Bridged head book cluster
    → IsKept head book cluster (event_of cluster (kinds.Server (servers.Crashed server)))
kept-crash head book cluster server good =
    local-kept head book cluster (event_of cluster (kinds.Server (servers.Crashed server)))
    (Crash server.id.number) good tt (tt, tt) (tt, tt) (crashed-machine cluster server)

pub kept-loss : (head : HeadText) (book : List Event) (cluster : Cluster) (number : ℕ) → Bridged head book cluster
    → IsKept head book cluster (event_of cluster (kinds.Message (messages.Lost number)))
kept-loss head book cluster number good =
    let events : List Event = event_of cluster (kinds.Message (messages.Lost number)) in
    action-kept head book cluster events (Lose number) good
    (asides-begin (MayBeginBehind (state_of (declared_of head) (past_of book) (volatile_of cluster)) (Lose number)) []
    events (tt, tt))
    (λ meets. record {
      lawful = tt;
      shows = tt;
      shown = loss-shown (declared_of head) book (volatile_of cluster) (record { 0 = cluster.facts.clock }) number;
      matched = matched-behind head book cluster events (tt, tt) good.matched;
    })
