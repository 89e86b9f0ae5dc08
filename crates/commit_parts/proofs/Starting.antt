-- An agent that starts upholds commits.
use Rattle.std.proofs.Common.{ℕ, ◌≡◌, ◌<◌, ◌+◌, ◌==◌, ◌++◌, Bool, true, false, cond, List, [], ◌∷◌, length, slice_get, Option, Some, None, option_map, refl, ◌∙◌, ap, sym, subst, inr}
use Rattle.pat_base.specs.ServerState.{live}
use Rattle.pat_base.specs.declared.ticks.Ticks.{Ticks}
use Rattle.script_model.specs.Script.{HeadText}
use Rattle.event_book.specs.declared.agent_process.AgentProcess.{AgentProcess}
use Rattle.event_book.specs.declared.event.AgentEvent.TheVariants as agents
use Rattle.event_book.specs.declared.event.Event.{Event}
use Rattle.event_book.specs.declared.event.EventKind.{EventKind}
use Rattle.event_book.specs.declared.event.EventKind.TheVariants as kinds
use Rattle.event_book.specs.declared.event.Note.TheVariants.{AlreadyRunning}
use Rattle.event_book.specs.declared.member.Member.{Member}
use Rattle.event_book.specs.Facts.{Facts}
use Rattle.event_book.specs.Functions.{put_at}
use Rattle.agent_model.specs.declared.machine.Machine.{Machine}
use Rattle.agent_model.specs.Agents.{AgentFacts}
use Rattle.agent_commit_law.proofs.CommitInputs.{fresh-asks}
use Rattle.cluster_model.specs.Cluster.{cluster_after, cluster_over}
use Rattle.cluster_model.specs.Commands.{disarm_if, disarm_of, kinds_of}
use Rattle.cluster_model.specs.Inputs.{starting_agent}
use Rattle.cluster_model.specs.Machines.{machine_of, who_of}
use Rattle.cluster_model.specs.Next.{agent_start_events, agent_start_events_of}
use Rattle.cluster_model.specs.Parts.{event_of, events_of, for_some}
use Rattle.cluster_model.specs.State.{Cluster}
use Rattle.lease_model.specs.Past as lease_past
use Rattle.event_book.specs.Kinds.{AllAre}
use Rattle.lease_model.proofs.Tools.{none-some, some-is}
use Rattle.commit_actions.specs.Keys.{strict_quorum}
use Rattle.commit_actions.specs.Actions.{Start, fresh_agent}
use Rattle.commit_actions.specs.Past.{Past, Setup, VolatileState, past_after, past_over}
use Rattle.commit_actions.specs.States.{Agent}
use Rattle.commit_showing.proofs.ShownServers.{start-shown}
use Rattle.commit_servers.specs.Acting.{Fits}
use Rattle.commit_servers.specs.Happening.{MayFollow, MayHappen}
use Rattle.commit_servers.proofs.Beginning.{fits-agents, fits-aside}
use Rattle.commit_servers.proofs.Kept.{change-once}
use Rattle.run_promise.specs.Members.{member_count}
use Rattle.lease_parts.specs.Kept.{IsKept}
use Rattle.lease_parts.specs.Machines.{run_in, run_now}
use Rattle.run_promise.specs.Promise.{Upholds}
use Rattle.cluster_model.proofs.Lists.{HoldsIf}
use Rattle.cluster_model.proofs.Places.{get-changed, get-elsewhere, get-here, there}
use Rattle.lease_parts.proofs.Starting.{kept-restart}
use Rattle.run_promise.proofs.Upholding.{upheld-none}
use Rattle.commit_showing.proofs.FromLease.{same-lease}
use Rattle.commit_parts.specs.Agents.{AreAgentsSynchronous, IsAgentSynchronous}
use Rattle.commit_parts.specs.Bridged.{CommitsBridged, kept_commits}
use Rattle.commit_parts.specs.Reading.{agent_now, past_of, setup_of, volatile_of}
use Rattle.commit_parts.proofs.Agents.{volatile-put}
use Rattle.commit_parts.proofs.Moving.{agents-leave, moves-then, upheld-moves}
use Rattle.commit_parts.specs.Moving.{Moves}
use Rattle.commit_parts.proofs.Still.{IsStill}
use Rattle.commit_parts.proofs.Servers.{leave-follow, moves-follow, upheld-still}
use Rattle.commit_parts.proofs.Transitions.{composable, state_behind}

pub runs-now : (head : HeadText) (book : List Event) (cluster : Cluster) → CommitsBridged head book cluster
    → (m : ℕ) → (past_of head book).lease.runs m ≡ run_in cluster.facts.processes m
runs-now head book cluster good m =
    ap (λ (p : lease_past.Past). p.runs m) (same-lease (past_of head []) book) ∙ good.lease.matched.machines.runs m

-- ---- what is seen of an agent that starts
starts-at : (known : List (Option AgentFacts)) (k : ℕ) (started : AgentFacts) (agent : Agent)
    → k < length known → agent_now (Some (Some started)) ≡ Some agent
    → agent_now (option_map (λ (a : Option AgentFacts). Some started) (slice_get known k)) ≡ Some agent
starts-at known k started agent small seen =
    ap (λ (o : Option (Option AgentFacts)). agent_now (option_map (λ (a : Option AgentFacts). Some started) o))
    (there known k small).1
    ∙ seen

-- an agent behind a start is the one that starts, or was there
started-there : (k : ℕ) (started : AgentFacts) (test : Bool) (found : Option (Option AgentFacts))
    (agent : AgentFacts) (P : AgentFacts → Type 0) → P started → (found ≡ Some (Some agent) → P agent)
    → cond test (option_map (λ (a : Option AgentFacts). Some started) found) found ≡ Some (Some agent) → P agent
started-there k started true None agent P new old is = absurd (none-some (Some agent) is)
started-there k started true (Some one) agent P new old is =
    subst P (some-is started agent (some-is (Some started) (Some agent) is)) new
started-there k started false found agent P new old is = old is

module _ (cluster : Cluster) (member : Member) (incarnation : ℕ) where
  abbrev Kind : EventKind
  Kind = kinds.Agent (agents.Started member incarnation)

  abbrev Started : AgentFacts
  Started =
      starting_agent (who_of cluster.scope cluster.options cluster.facts.members member) cluster.facts.clock incarnation

  pub moves-start : (setup : Setup) (past : Past) → incarnation ≡ past.lease.runs member.id.number + 1
      → member.id.number < length cluster.agents → Fits past cluster.facts (volatile_of cluster)
      → Moves setup past cluster (event_of cluster Kind)
  moves-start setup past next small fits =
      let later : Cluster = cluster_after cluster Kind in
      let k : ℕ = member.id.number in
      let states : (ℕ → VolatileState) = put_at (volatile_of cluster) k
      (record (volatile_of cluster k) { agent = Some (fresh_agent (past.lease.runs k + 1)) }) in
      let same : states ≡ volatile_of later =
      volatile-put (volatile_of cluster) (volatile_of later) k (Some (fresh_agent (past.lease.runs k + 1))) (λ m. refl)
      (ap agent_now (get-here cluster.agents k _) ∙ starts-at cluster.agents k Started
      (fresh_agent (past.lease.runs k + 1)) small (ap (λ (r : ℕ). Some (fresh_agent r)) next))
      (λ m other. ap agent_now (get-elsewhere cluster.agents k m _ other)) in
      record {
        transitions = record { action = Start k; events = event_of cluster Kind; volatile_states = states } ∷ [];
        whole = refl;
        allowed = (
          tt,
          start-shown setup past (volatile_of cluster) (record { 0 = later.facts.clock }) member incarnation next,
          change-once (record { 0 = later.facts.clock }) Kind,
          tt,
        );
        once = (inr tt, tt);
        last = same;
        fits = subst (λ (v : ℕ → VolatileState). Fits (past_after past Kind) later.facts v) same
            (fits-agents (past_after past Kind) later.facts (volatile_of cluster) k
            (Some (fresh_agent (past.lease.runs k + 1)))
            (fits-aside past cluster.facts (volatile_of cluster) Kind tt fits));
      }

  -- it waits for nothing
  pub agents-start : (count : ℕ) (named : lease_past.Past) (past : Past)
      → AreAgentsSynchronous count named.asked past.asked cluster.agents
      → AreAgentsSynchronous count (lease_past.past_after named Kind).asked (past_after past Kind).asked
      (cluster_after cluster Kind).agents
  agents-start count named past all = record {
    each = λ m agent is. started-there member.id.number Started (m == member.id.number)
        (slice_get cluster.agents m) agent (IsAgentSynchronous named.asked past.asked m)
        (record {
          on = fresh-asks (who_of cluster.scope cluster.options cluster.facts.members member)
              (record { 0 = cluster.facts.clock + 1 }) incarnation;
          writes = λ waited waits. absurd (none-some waited waits);
        })
        (all.each m agent) (sym (get-changed cluster.agents member.id.number m _) ∙ is);
    members = all.members;
  }

-- ---- its watchdog is disarmed with it
record IsDisarm (facts : Facts) (kind : EventKind) : Type 0 where
  still : IsStill kind
  may : MayHappen facts kind

disarms-by : (facts : Facts) (member : Member) (is_live : Bool) (deadline : Option Ticks)
    → HoldsIf (IsDisarm facts) (cond is_live None (disarm_if member deadline))
disarms-by facts member true deadline = tt
disarms-by facts member false None = tt
disarms-by facts member false (Some deadline) = record { still = tt; may = tt }

disarms : (facts : Facts) (member : Member) (machine : Option Machine)
    → HoldsIf (IsDisarm facts) (disarm_of member machine)
disarms facts member None = tt
disarms facts member (Some machine) = disarms-by facts member (live machine.server.state) machine.watchdog.deadline

disarm-still : (cluster : Cluster) (found : Option EventKind) → HoldsIf (IsDisarm cluster.facts) found
    → AllAre IsStill (events_of cluster (kinds_of found)) × MayFollow cluster.facts (events_of cluster (kinds_of found))
disarm-still cluster None is = (tt, tt)
disarm-still cluster (Some kind) is = ((is.still, tt), (is.may, tt))

module _ (head : HeadText) (book : List Event) (cluster : Cluster) (member : Member)
    (small : member.id.number < member_count head) (good : CommitsBridged head book cluster) where
  upheld-start : (incarnation : ℕ) (found : Option EventKind)
      → incarnation ≡ run_in cluster.facts.processes member.id.number + 1
      → HoldsIf (IsDisarm (cluster_after cluster (kinds.Agent (agents.Started member incarnation))).facts) found
      → IsKept head book cluster (events_of cluster (kinds.Agent (agents.Started member incarnation) ∷ kinds_of found))
      → Upholds (kept_commits head) book cluster
      (events_of cluster (kinds.Agent (agents.Started member incarnation) ∷ kinds_of found))
  upheld-start incarnation found next is kept =
      let kind : EventKind = kinds.Agent (agents.Started member incarnation) in
      let started : Cluster = cluster_after cluster kind in
      let rest : List Event = events_of started (kinds_of found) in
      let parts = disarm-still started found is in
      let named : lease_past.Past = lease_past.past_after (lease_past.past_of book) kind in
      let past : Past = past_after (past_of head book) kind in
      let left = leave-follow (member_count head) strict_quorum named past started rest parts.0 parts.1 in
      upheld-moves head book cluster (event_of cluster kind ++ rest) good
      (moves-then (setup_of head) (past_of head book) cluster (event_of cluster kind) rest
      (moves-start cluster member incarnation (setup_of head) (past_of head book)
      (next ∙ ap (λ (r : ℕ). r + 1) (sym (runs-now head book cluster good member.id.number)))
      (subst (λ (n : ℕ). member.id.number < n) (sym good.lease.matched.agents_sized) small) good.fits.servers)
      (λ later. moves-follow (setup_of head) past started rest later parts.0 parts.1))
      kept ((tt, (tt, left.causal.0)), (tt, left.causal.1))
      (tt, left.asks (state_behind head book cluster (event_of cluster kind ++ rest))) (tt, left.ordered)
      (agents-leave (member_count head) named past started (lease_past.past_over named rest)
      (past_over past rest) (cluster_over started rest) left.leave
      (agents-start cluster member incarnation (member_count head) (lease_past.past_of book)
      (past_of head book) good.fits.agents))

  upheld-restart-by : (process : AgentProcess) (running : Bool)
      → slice_get cluster.facts.processes member.id.number ≡ Some process
      → IsKept head book cluster
      (events_of cluster
      (cond running (kinds.Note (AlreadyRunning member)) (kinds.Agent (agents.Started member (process.incarnation + 1)))
      ∷ kinds_of (cond running None (disarm_of member (machine_of cluster member)))))
      → Upholds (kept_commits head) book cluster
      (events_of cluster
      (cond running (kinds.Note (AlreadyRunning member)) (kinds.Agent (agents.Started member (process.incarnation + 1)))
      ∷ kinds_of (cond running None (disarm_of member (machine_of cluster member)))))
  upheld-restart-by process true is kept =
      upheld-still head book cluster (kinds.Note (AlreadyRunning member)) good tt tt kept
  upheld-restart-by process false is kept =
      upheld-start (process.incarnation + 1) (disarm_of member (machine_of cluster member))
      (ap (λ (o : Option AgentProcess). run_now o + 1) (sym is)) (disarms _ member (machine_of cluster member)) kept

  upheld-restart-of : (found : Option AgentProcess) → slice_get cluster.facts.processes member.id.number ≡ found
      → IsKept head book cluster (for_some found (agent_start_events_of cluster member))
      → Upholds (kept_commits head) book cluster (for_some found (agent_start_events_of cluster member))
  upheld-restart-of None is kept = upheld-none (kept_commits head) (composable head) book cluster good
  upheld-restart-of (Some process) is kept = upheld-restart-by process process.running is kept

  pub upheld-restart : Upholds (kept_commits head) book cluster (agent_start_events cluster member)
  upheld-restart = upheld-restart-of (slice_get cluster.facts.processes member.id.number) refl
      (kept-restart head book cluster member small good.lease)
