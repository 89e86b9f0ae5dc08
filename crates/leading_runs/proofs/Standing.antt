-- How a leader stands, and how it stands behind its own inputs.
use Rattle.std.proofs.Common.{ℕ, ◌≡◌, ◌+◌, ◌*◌, ◌≤◌, ◌<◌, ◌==◌, nat_le, Bool, true, false, List, Option, Some, None, option_map, option_and_then, slice_get, refl, sym, ap, subst, ◌∙◌, arith}
use Rattle.std.specs.FinMap.{find}
use Rattle.std.proofs.lemmas.Bool.Decides.{nat_tests}
use Rattle.std.proofs.lemmas.Option.{slice_get_within}
use Rattle.pat_base.specs.declared.server_state.State.TheVariants as states
use Rattle.pat_base.specs.declared.ticks.Ticks.{Ticks}
use Rattle.store_keys.specs.declared.config.Config.{Config}
use Rattle.store_keys.specs.declared.key.Key.TheVariants as keys
use Rattle.store_keys.specs.declared.value.KeyEntry.{KeyEntry}
use Rattle.lease_store.specs.Keys.{Keys}
use Rattle.lease_store.specs.KeyOrder.{key_cmp}
use Rattle.cluster_view.specs.Snapshots.{settings_by, settings_of_entry}
use Rattle.pg_model.specs.Facts.{ServerFacts}
use Rattle.script_model.specs.Script.{HeadText}
use Rattle.event_book.specs.declared.event.EventKind.TheVariants as kinds
use Rattle.event_book.specs.declared.event.MessageEvent.TheVariants.{Delivered}
use Rattle.event_book.specs.declared.member.Member.{Member}
use Rattle.event_book.specs.declared.message.Message.{Message}
use Rattle.event_book.specs.Flight.{Flight, InFlightFacts, in_flight}
use Rattle.agent_model.specs.Agents.{AgentFacts, Leader, Outcome, RoleFacts, is_leader}
use Rattle.cluster_model.specs.Cluster.{cluster_after}
use Rattle.cluster_model.specs.State.{Cluster}
use Rattle.cluster_model.proofs.Places.{there}
use Rattle.lease_model.proofs.Tools.{eq-from, ne-from, none-some, some-is}
use Rattle.lease_model.specs.Stores.{leader_key_of}
use Rattle.lease_book.specs.Flights.{Rises}
use Rattle.lease_owners.specs.Kept.{IsOwned, KnowsItsRun}
use Rattle.leading_law.specs.OwnInputs.{IsUntouched, SendsOne, StandsSo}
use Rattle.lease_owners.specs.Asking.{AsksFor}
use Rattle.leading_parts.specs.Holding.{NoneAsks}
use Rattle.leading_parts.proofs.Answering.{without-there}
use Rattle.leading_runs.specs.Joining.{StandsLeading}
use Rattle.leading_runs.specs.Steady.{IsUndisturbed, SetsConfig, TurnsInTime}
use Rattle.leading_runs.proofs.Joins.{stands-leading}
use Rattle.leading_runs.proofs.Keeping.{settings-same, undisturbed-left}
use Rattle.leading_runs.proofs.Stages.{IsMail, IsOwn, OlderMail, OnlyMail, Seen, Stage, Stands, limit_of, settings_seen}

-- ---- its agent and its machine
server-of : (found : Option ServerFacts) → option_map (λ (s : ServerFacts). s.state) found ≡ Some states.Primary
    → (s : ServerFacts) × ((found ≡ Some s) × (s.state ≡ states.Primary))
server-of None e = absurd (none-some states.Primary e)
server-of (Some s) e = (s, (refl, some-is s.state states.Primary e))

pub standing : (head : HeadText) (cluster : Cluster) (member : Member) (seen : Seen)
    → IsOwned head cluster → Stands member seen cluster
    → StandsLeading member seen.agent seen.options cluster
standing head cluster member seen good stands =
    let n : ℕ = member.id.number in
    let sized = good.sized in
    let within = slice_get_within cluster.facts.processes n seen.process stands.process_is in
    let server = server-of (slice_get cluster.facts.servers n) stands.primary in
    let deadline = there cluster.facts.deadlines n
    (subst (λ (count : ℕ). n < count) (sized.agents ∙ sym sized.deadlines) within) in
    let hold = there cluster.facts.holds n
    (subst (λ (count : ℕ). n < count) (sized.agents ∙ sym sized.holds) within) in
    stands-leading member cluster seen.agent server.0 seen.options deadline.0 hold.0 stands.revision stands.agent_is
    server.1.0 stands.options_are deadline.1 hold.1 stands.role server.1.1

agent-found : (found : Option (Option AgentFacts)) (agent : AgentFacts)
    → option_and_then (λ (a : Option AgentFacts). a) found ≡ Some agent → found ≡ Some (Some agent)
agent-found None agent e = absurd (none-some agent e)
agent-found (Some found) agent e = ap Some e

-- what its agent knows of its run
pub knows-itself : (head : HeadText) (cluster : Cluster) (member : Member) (seen : Seen)
    → IsOwned head cluster → Stands member seen cluster
    → KnowsItsRun member.id.number (slice_get cluster.facts.processes member.id.number) seen.agent
knows-itself head cluster member seen good stands =
    (good.agents member.id.number seen.agent
    (agent-found (slice_get cluster.agents member.id.number) seen.agent stands.agent_is)).0

-- ---- behind an input of its own
leader-role : (role : RoleFacts) → is_leader role ≡ true → (revision : ℕ) × (role ≡ Leader revision)
leader-role (Leader revision) e = (revision, refl)
leader-role _ e = absurd (clash e)
  where
    clash : false ≡ true → ⊥
    clash e = cc

abbrev pub acting : Seen → AgentFacts → Option (Option Ticks) → Seen
acting seen agent deadline = record seen { agent = agent; deadline = deadline }

pub stands-acting : (member : Member) (seen : Seen) (before after : Cluster) (outcome : Outcome)
    (deadline : Option (Option Ticks)) → Stands member seen before
    → StandsSo member outcome after → is_leader outcome.role ≡ true → outcome.knows.operating ≡ None
    → outcome.knows.settings ≡ settings_seen seen → IsUntouched member.id.number before after
    → after.options ≡ before.options
    → slice_get after.facts.deadlines member.id.number ≡ deadline
    → Stands member (acting seen (record { role = outcome.role; knows = outcome.knows }) deadline) after
stands-acting member seen before after outcome deadline was agent leads nobody settings same options guard =
    let role = leader-role outcome.role leads in
    record {
      clock_is = same.clock ∙ was.clock_is;
      process_is = ap (λ xs. slice_get xs member.id.number) same.processes ∙ was.process_is;
      acts = was.acts;
      agent_is = agent;
      revision = role.0;
      role = role.1;
      unasked = nobody;
      declared = ap (λ (ms : List Member). slice_get ms member.id.number) same.members ∙ was.declared;
      options_are = ap (λ os. slice_get os member.id.number) options ∙ was.options_are;
      primary = same.state ∙ was.primary;
      key_is = ap (λ (stored : Keys). leader_key_of (find key_cmp keys.Leader stored.pairs)) same.keys ∙ was.key_is;
      holder = was.holder;
      deadline_is = guard;
      settings = subst (λ (config : Config). IsUndisturbed config after) (sym settings)
          (undisturbed-left member seen before after (settings-same before after same.keys) was.settings);
      times = subst (λ (config : Config). TurnsInTime config seen.options) (sym settings) was.times;
    }

-- ---- what was read of the configuration
pub sets-config : (config other : Config) (found : Option KeyEntry) → SetsConfig config found
    → settings_of_entry other found ≡ config
sets-config config other found sets =
    ap (settings_of_entry other) sets.is ∙ ap (settings_by other) sets.value ∙ sets.config_is

-- ---- moments
pub not-before : (clock retry : ℕ) → 1 ≤ retry → nat_le (clock + 10 * retry) clock ≡ false
not-before clock retry more = grind (arith, nat_tests, more)

-- ---- what is in flight before its own question
pub record IsAlone (member : Member) (seen : Seen) (limit : ℕ) (flight : Flight) : Type 0 where
  pub none : NoneAsks seen.key.revision flight
  pub older : (i : ℕ) (carried : InFlightFacts) → in_flight flight i ≡ Some carried
      → IsOwn member seen carried.message → carried.message.sequence < limit

module _ (member : Member) (seen : Seen) (agent : AgentFacts) (deadline : Option (Option Ticks)) (limit : ℕ)
    (message : Message) (before after : Cluster) (alone : IsAlone member seen limit before.facts.flight)
    (sends : SendsOne message before after) (stage : Stage member (acting seen agent deadline))
    (mail : (i : ℕ) → i ≡ before.facts.sent + 1 → IsMail member (acting seen agent deadline) stage i)
    (less : limit ≤ limit_of member (acting seen agent deadline) stage) where
  abbrev Now : Seen
  Now = acting seen agent deadline

  was-or-new : (P : Type 0) (i : ℕ) (carried : InFlightFacts) → in_flight after.facts.flight i ≡ Some carried
      → (new : Bool) → (i == before.facts.sent + 1) ≡ new → (i ≡ before.facts.sent + 1 → P)
      → (in_flight before.facts.flight i ≡ Some carried → P) → P
  was-or-new P i carried found true same is_new was = is_new (eq-from i (before.facts.sent + 1) same)
  was-or-new P i carried found false same is_new was =
      was (sym (sends.others i (ne-from i (before.facts.sent + 1) same)) ∙ found)

  pub only-asked : OnlyMail member Now stage after.facts.flight
  only-asked i carried found asks =
      was-or-new (IsMail member Now stage i) i carried found (i == before.facts.sent + 1) refl (mail i)
      (λ was. absurd (alone.none i carried was asks))

  below : (sequence : ℕ) → sequence < limit → sequence < limit_of member Now stage
  below sequence small = omega (arith, small, less)

  pub older-asked : OlderMail member Now stage after.facts.flight
  older-asked i carried found other own =
      was-or-new (carried.message.sequence < limit_of member Now stage) i carried found
      (i == before.facts.sent + 1) refl (λ same. absurd (other (mail i same)))
      (λ was. below carried.message.sequence (alone.older i carried was own))

-- a message that came leaves its other facts
pub untouched-before : (n number : ℕ) (cluster after : Cluster)
    → IsUntouched n (cluster_after cluster (kinds.Message (Delivered number))) after → IsUntouched n cluster after
untouched-before n number cluster after same = record {
  clock = same.clock;
  keys = same.keys;
  members = same.members;
  cuts = same.cuts;
  processes = same.processes;
  hold = same.hold;
  state = same.state;
}

-- once what it waits for came, nobody asks for its key, and all of its run is older
pub arrived-alone : (member : Member) (seen : Seen) (limit number : ℕ) (cluster : Cluster)
    → Rises 0 cluster.facts.flight
    → ((i : ℕ) (carried : InFlightFacts) → in_flight cluster.facts.flight i ≡ Some carried →
    AsksFor seen.key.revision carried.message.body → i ≡ number)
    → ((i : ℕ) (carried : InFlightFacts) → in_flight cluster.facts.flight i ≡ Some carried → (i ≡ number → ⊥) →
    IsOwn member seen carried.message → carried.message.sequence < limit)
    → IsAlone member seen limit (cluster_after cluster (kinds.Message (Delivered number))).facts.flight
arrived-alone member seen limit number cluster order only older = record {
  none = λ i carried found asks.
      let was = without-there cluster.facts.flight number order i carried found in
      was.0 (only i carried was.1 asks);
  older = λ i carried found own.
      let was = without-there cluster.facts.flight number order i carried found in
      older i carried was.1 was.0 own;
}
