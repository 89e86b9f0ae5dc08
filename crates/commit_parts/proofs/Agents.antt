-- An agent that ends, and one that starts, uphold commits.
use Rattle.std.proofs.Common.{ℕ, ◌≡◌, ◌≢◌, ◌<◌, ◌==◌, Bool, true, false, cond, List, [], ◌∷◌, length, slice_get, Option, Some, None, option_map, refl, ◌∙◌, ap, sym, subst, inr}
use Rattle.std.proofs.Math.Path.{fun_ext}
use Rattle.script_model.specs.Script.{HeadText}
use Rattle.event_book.specs.declared.event.AgentEvent.TheVariants as agents
use Rattle.event_book.specs.declared.event.Event.{Event}
use Rattle.event_book.specs.declared.event.EventKind.{EventKind}
use Rattle.event_book.specs.declared.event.EventKind.TheVariants as kinds
use Rattle.event_book.specs.declared.member.Member.{Member}
use Rattle.event_book.specs.Functions.{put_at}
use Rattle.agent_model.specs.Agents.{AgentFacts}
use Rattle.cluster_model.specs.Cluster.{cluster_after}
use Rattle.cluster_model.specs.Parts.{event_of}
use Rattle.cluster_model.specs.State.{Cluster}
use Rattle.lease_model.specs.Past as lease_past
use Rattle.lease_model.proofs.Tools.{none-some, put-all, some-is}
use Rattle.commit_actions.specs.Actions.{Kill}
use Rattle.commit_actions.specs.Past.{Past, Setup, VolatileState, past_after}
use Rattle.commit_actions.specs.States.{Agent}
use Rattle.commit_showing.proofs.ShownServers.{killed-shown}
use Rattle.commit_servers.specs.Acting.{Fits}
use Rattle.commit_servers.proofs.Beginning.{fits-agents, fits-aside}
use Rattle.commit_servers.proofs.Kept.{change-once}
use Rattle.run_promise.specs.Members.{member_count}
use Rattle.run_promise.specs.Promise.{Upholds}
use Rattle.lease_parts.proofs.Ending.{kept-kill}
use Rattle.cluster_model.proofs.Places.{get-changed, get-elsewhere, get-here, there}
use Rattle.commit_parts.specs.Bridged.{CommitsBridged, kept_commits}
use Rattle.commit_parts.specs.Reading.{agent_now, past_of, setup_of, volatile_of}
use Rattle.commit_parts.proofs.Moving.{OnlyLeave, agents-leave, upheld-moves}
use Rattle.commit_parts.specs.Moving.{Moves}
use Rattle.commit_parts.proofs.Still.{volatile-same}

-- another agent of one member, and each server live as before
pub volatile-put : (before later : ℕ → VolatileState) (k : ℕ) (agent : Option Agent)
    → ((m : ℕ) → (before m).live ≡ (later m).live) → (later k).agent ≡ agent
    → ((m : ℕ) → m ≢ k → (later m).agent ≡ (before m).agent)
    → put_at before k (record (before k) { agent = agent }) ≡ later
volatile-put before later k agent live here there =
    fun_ext (λ m. put-all before k (record (before k) { agent = agent }) (λ n state. state ≡ later n)
    (volatile-same _ _ _ _ (live k) (sym here)) (λ n other. volatile-same _ _ _ _ (live n) (sym (there n other))) m)

-- ---- an agent ends
no-agent : (known : List (Option AgentFacts)) (k : ℕ) → k < length known
    → agent_now (option_map (λ (agent : Option AgentFacts). let none : Option AgentFacts = None in none)
    (slice_get known k))
    ≡ None
no-agent known k small =
    ap (λ (o : Option (Option AgentFacts)).
    agent_now (option_map (λ (agent : Option AgentFacts). let none : Option AgentFacts = None in none) o))
    (there known k small).1

none-there : (found : Option (Option AgentFacts)) (agent : AgentFacts)
    → option_map (λ (a : Option AgentFacts). let none : Option AgentFacts = None in none) found ≡ Some (Some agent) → ⊥
none-there None agent is = none-some (Some agent) is
none-there (Some one) agent is = none-some agent (some-is _ (Some agent) is)

still-there : (test : Bool) (found : Option (Option AgentFacts)) (agent : AgentFacts)
    → cond test (option_map (λ (a : Option AgentFacts). let none : Option AgentFacts = None in none) found) found
    ≡ Some (Some agent)
    → found ≡ Some (Some agent)
still-there true found agent is = absurd (none-there found agent is)
still-there false found agent is = is

module _ (cluster : Cluster) (member : Member) where
  pub gone-leave : (named : lease_past.Past) (past : Past)
      → OnlyLeave named past cluster (lease_past.past_after named (kinds.Agent (agents.Killed member)))
      (past_after past (kinds.Agent (agents.Killed member)))
      (cluster_after cluster (kinds.Agent (agents.Killed member)))
  gone-leave named past = record {
    agents = λ m agent is. still-there (m == member.id.number) (slice_get cluster.agents m) agent
        (sym (get-changed cluster.agents member.id.number m _) ∙ is);
    asked = λ i question is. (is, refl);
  }

  -- what no event says of members once an agent is gone
  pub volatile-gone : (later : Cluster)
      → later.agents ≡ (cluster_after cluster (kinds.Agent (agents.Killed member))).agents
      → member.id.number < length cluster.agents
      → (before : ℕ → VolatileState) → ((m : ℕ) → (before m).live ≡ (volatile_of later m).live)
      → ((m : ℕ) → (before m).agent ≡ (volatile_of cluster m).agent)
      → put_at before member.id.number (record (before member.id.number) { agent = None }) ≡ volatile_of later
  volatile-gone later same small before live agent =
      volatile-put before (volatile_of later) member.id.number None live
      (ap (λ (known : List (Option AgentFacts)). agent_now (slice_get known member.id.number)) same
      ∙ ap agent_now (get-here cluster.agents member.id.number _) ∙ no-agent cluster.agents member.id.number small)
      (λ m other. ap (λ (known : List (Option AgentFacts)). agent_now (slice_get known m)) same
      ∙ ap agent_now (get-elsewhere cluster.agents member.id.number m _ other) ∙ sym (agent m))

pub moves-kill : (setup : Setup) (past : Past) (cluster : Cluster) (member : Member)
    → member.id.number < length cluster.agents → Fits past cluster.facts (volatile_of cluster)
    → Moves setup past cluster (event_of cluster (kinds.Agent (agents.Killed member)))
moves-kill setup past cluster member small fits =
    let kind : EventKind = kinds.Agent (agents.Killed member) in
    let later : Cluster = cluster_after cluster kind in
    let states : (ℕ → VolatileState) =
    put_at (volatile_of cluster) member.id.number (record (volatile_of cluster member.id.number) { agent = None }) in
    let same : states ≡ volatile_of later =
    volatile-gone cluster member later refl small (volatile_of cluster) (λ m. refl) (λ m. refl) in
    record {
      transitions =
          record { action = Kill member.id.number; events = event_of cluster kind; volatile_states = states } ∷ [];
      whole = refl;
      allowed = (
        tt,
        killed-shown setup past (volatile_of cluster) (record { 0 = later.facts.clock }) member,
        change-once (record { 0 = later.facts.clock }) kind,
        tt,
      );
      once = (inr tt, tt);
      last = same;
      fits = subst (λ (v : ℕ → VolatileState). Fits (past_after past kind) later.facts v) same
          (fits-agents (past_after past kind) later.facts (volatile_of cluster) member.id.number None
          (fits-aside past cluster.facts (volatile_of cluster) kind tt fits));
    }

pub upheld-kill : (head : HeadText) (book : List Event) (cluster : Cluster) (member : Member)
    → member.id.number < member_count head → CommitsBridged head book cluster
    → Upholds (kept_commits head) book cluster (event_of cluster (kinds.Agent (agents.Killed member)))
upheld-kill head book cluster member small good =
    let kind : EventKind = kinds.Agent (agents.Killed member) in
    upheld-moves head book cluster (event_of cluster kind) good
    (moves-kill (setup_of head) (past_of head book) cluster member
    (subst (λ (n : ℕ). member.id.number < n) (sym good.lease.matched.agents_sized) small) good.fits.servers)
    (kept-kill head book cluster member small good.lease) ((tt, (tt, tt)), (tt, tt)) (tt, tt) (tt, tt)
    (agents-leave (member_count head) (lease_past.past_of book) (past_of head book) cluster
    (lease_past.past_after (lease_past.past_of book) kind) (past_after (past_of head book) kind)
    (cluster_after cluster kind)
    (gone-leave cluster member (lease_past.past_of book) (past_of head book)) good.fits.agents)
