-- What leaves a leader, what it waits for and the key store leaves how far its turn has come.
use Rattle.std.proofs.Common.{ℕ, ◌≡◌, ◌≤◌, ◌<◌, true, List, [], ◌∷◌, Option, Some, option_map, option_and_then, slice_get, refl, sym, ap, subst, ◌∙◌, inl, inr, arith}
use Rattle.std.specs.FinMap.{find}
use Rattle.std.specs.Prelude.{◌⊎◌}
use Rattle.pg_model.specs.Facts.{ServerFacts}
use Rattle.store_keys.specs.declared.key.Key.TheVariants as keys
use Rattle.store_keys.specs.declared.txn.Txn.TheVariants as txns
use Rattle.store_keys.specs.declared.txn.LeaseTxn.TheVariants as lease_txns
use Rattle.lease_store.specs.Keys.{Keys}
use Rattle.lease_store.specs.KeyOrder.{key_cmp}
use Rattle.script_model.specs.Script.{HeadText}
use Rattle.event_book.specs.declared.event.Event.{Event}
use Rattle.event_book.specs.declared.link.LinkEnd.{LinkEnd}
use Rattle.event_book.specs.declared.link.LinkEnd.TheVariants as ends
use Rattle.event_book.specs.declared.member.Member.{Member}
use Rattle.event_book.specs.declared.message.Body.{Body}
use Rattle.event_book.specs.declared.message.Body.TheVariants as bodies
use Rattle.event_book.specs.declared.message.Message.{Message}
use Rattle.event_book.specs.Flight.{InFlightFacts, in_flight}
use Rattle.event_book.specs.Kinds.{AllAre}
use Rattle.agent_model.specs.declared.knowledge.PendingQuestion.{PendingQuestion}
use Rattle.agent_model.specs.Agents.{AgentFacts}
use Rattle.cluster_model.specs.Cluster.{cluster_after, cluster_over}
use Rattle.cluster_model.specs.Inputs.{agent_at}
use Rattle.cluster_model.specs.Messages.{answer_message, decision_body}
use Rattle.cluster_model.specs.State.{Cluster}
use Rattle.lease_model.specs.Stores.{leader_key_of}
use Rattle.lease_owners.specs.Kept.{IsOwned}
use Rattle.run_promise.proofs.Members.{members-over}
use Rattle.leading_parts.specs.Alone.{IsWithStore, LeaveAlone}
use Rattle.leading_parts.specs.Aside.{IsBeside, IsOther, LeavesMail}
use Rattle.leading_parts.specs.Elsewhere.{AreElsewhere}
use Rattle.lease_owners.specs.Asking.{AsksFor}
use Rattle.leading_parts.specs.Holding.{HasKey, IsMemberOf, IsUnasked, LeavesKey, LeavesSettings}
use Rattle.leading_parts.proofs.Askers.{asks-own}
use Rattle.leading_parts.proofs.Aside.{leaves-over}
use Rattle.leading_parts.proofs.Frames.{same-over}
use Rattle.leading_runs.specs.Steady.{IsOfRun, IsUndisturbed, SetsConfig}
use Rattle.leading_runs.proofs.Stages.{Asked, Decides, Grants, IsDue, IsFlying, IsMail, IsOwn, Mail, OlderMail, OnlyMail, Phase, Reads, Renews, Seen, Shows, Sleeps, Stage, Stands, Syncs, Turns, limit_of, number_of, settings_seen}

-- ---- what a part leaves of the member and of the key store
pub record Leaves (member : Member) (before after : Cluster) : Type 0 where
  pub clock : after.facts.clock ≡ before.facts.clock
  pub agent : agent_at after.agents member.id.number ≡ agent_at before.agents member.id.number
  pub process : slice_get after.facts.processes member.id.number ≡ slice_get before.facts.processes member.id.number
  pub deadline : slice_get after.facts.deadlines member.id.number ≡ slice_get before.facts.deadlines member.id.number
  pub state : option_map (λ (s : ServerFacts). s.state) (slice_get after.facts.servers member.id.number)
      ≡ option_map (λ (s : ServerFacts). s.state) (slice_get before.facts.servers member.id.number)
  pub members : after.facts.members ≡ before.facts.members
  pub options : after.options ≡ before.options
  pub leader : LeavesKey before after
  pub settings : LeavesSettings before after

pub undisturbed-left : (member : Member) (seen : Seen) (before after : Cluster) → LeavesSettings before after
    → IsUndisturbed (settings_seen seen) before → IsUndisturbed (settings_seen seen) after
undisturbed-left member seen before after leaves was = record {
  sets = subst (SetsConfig (settings_seen seen)) (sym leaves.config) was.sets;
  unpaused = was.unpaused;
  unasked = leaves.unasked was.unasked;
}

pub stands-left : (member : Member) (seen : Seen) (before after : Cluster) → Leaves member before after
    → Stands member seen before → Stands member seen after
stands-left member seen before after leaves was = record {
  clock_is = leaves.clock ∙ was.clock_is;
  process_is = leaves.process ∙ was.process_is;
  acts = was.acts;
  agent_is = leaves.agent ∙ was.agent_is;
  revision = was.revision;
  role = was.role;
  unasked = was.unasked;
  declared = ap (λ (ms : List Member). slice_get ms member.id.number) leaves.members ∙ was.declared;
  options_are = ap (λ os. slice_get os member.id.number) leaves.options ∙ was.options_are;
  primary = leaves.state ∙ was.primary;
  key_is = ap leader_key_of leaves.leader ∙ was.key_is;
  holder = was.holder;
  deadline_is = leaves.deadline ∙ was.deadline_is;
  settings = undisturbed-left member seen before after leaves.settings was.settings;
  times = was.times;
}

pub options-over : (cluster : Cluster) (events : List Event) → (cluster_over cluster events).options ≡ cluster.options
options-over cluster [] = refl
options-over cluster (event ∷ events) = options-over (cluster_after cluster event.kind) events

pub settings-same : (before after : Cluster) → after.facts.keys ≡ before.facts.keys → LeavesSettings before after
settings-same before after same = record {
  config = ap (λ (k : Keys). find key_cmp keys.Config k.pairs) same;
  unasked = subst (λ (k : Keys). IsUnasked k.pairs) (sym same);
}

pub leader-same : (before after : Cluster) → after.facts.keys ≡ before.facts.keys → LeavesKey before after
leader-same before after same = ap (λ (k : Keys). find key_cmp keys.Leader k.pairs) same

-- what happens elsewhere, by what it leaves of the key store
pub leaves-elsewhere : (member : Member) (cluster : Cluster) (events : List Event)
    → AreElsewhere member.id.number cluster events
    → (cluster_over cluster events).facts.clock ≡ cluster.facts.clock
    → LeavesKey cluster (cluster_over cluster events) → LeavesSettings cluster (cluster_over cluster events)
    → Leaves member cluster (cluster_over cluster events)
leaves-elsewhere member cluster events elsewhere clock leader settings =
    let same = same-over member.id.number cluster events elsewhere in
    record {
      clock = clock;
      agent = ap (option_and_then (λ (a : Option AgentFacts). a)) same.agent;
      process = same.process;
      deadline = same.deadline;
      state = same.state;
      members = members-over cluster events;
      options = options-over cluster events;
      leader = leader;
      settings = settings;
    }

-- ---- what it waits for goes between it and the key store
pub mail-with : (member : Member) (seen : Seen) (waited : PendingQuestion) (carried : InFlightFacts)
    → Mail member seen waited carried → IsWithStore member.id.number carried.message.from carried.message.to
mail-with member seen waited carried mail = with mail
  where
    asked : (sequence : ℕ) (body : Body) → carried.message ≡ Asked member seen sequence body
        → IsWithStore member.id.number carried.message.from carried.message.to
    asked sequence body is =
        subst (λ (m : Message). IsWithStore member.id.number m.from m.to) (sym is) refl

    answered : (sequence : ℕ) (body said : Body)
        → carried.message ≡ answer_message (Asked member seen sequence body) said
        → IsWithStore member.id.number carried.message.from carried.message.to
    answered sequence body said is =
        subst (λ (m : Message). IsWithStore member.id.number m.from m.to) (sym is) refl

    with : Mail member seen waited carried → IsWithStore member.id.number carried.message.from carried.message.to
    with (Reads asks last is) = asked waited.sequence bodies.Read is
    with (Shows asks last is shows sets failover) = answered waited.sequence bodies.Read bodies.Snapshot is
    with (Renews asks sent span none info status row listed is) = asked waited.sequence
        (bodies.Request (txns.Lease (lease_txns.Renew seen.key.revision info waited.ttl status row listed))) is
    with (Grants asks sent span none txn request is grant sets lasts) =
        answered waited.sequence (bodies.Request txn) (bodies.Granted request true) is
    with (Syncs settling asks past txn writes is) = asked waited.sequence (bodies.Request txn) is
    with (Decides settling asks past txn writes request decision is granted grant sets) =
        answered waited.sequence (bodies.Request txn) (decision_body request txn decision) is

-- it is still in flight
pub flying-left : (member : Member) (seen : Seen) (stage : Stage member seen) (before after : Cluster)
    → ((carried : InFlightFacts) → in_flight before.facts.flight (number_of member seen stage) ≡ Some carried →
    IsWithStore member.id.number carried.message.from carried.message.to →
    in_flight after.facts.flight (number_of member seen stage) ≡ Some carried)
    → IsFlying member seen stage before.facts.flight → IsFlying member seen stage after.facts.flight
flying-left member seen (Sleeps waits later past) before after mail flying = tt
flying-left member seen (IsDue waits due) before after mail flying = tt
flying-left member seen (Turns number carried turn mail_is) before after mail flying =
    mail carried flying (mail-with member seen turn.waited carried mail_is)

-- ---- messages that are new
-- a message doesn't ask for the member's key, and is an older one of its run, if it is one
pub record IsHarmless (member : Member) (seen : Seen) (limit : ℕ) (message : Message) : Type 0 where
  pub unasked : IsMemberOf member.id.number message.from → AsksFor seen.key.revision message.body → ⊥
  pub older : IsOwn member seen message → message.sequence < limit

other-member : (n : ℕ) (end : LinkEnd) → IsOther n end → IsMemberOf n end → ⊥
other-member n (ends.Member by) other same = other (sym same)
other-member n ends.Store other same = other

other-run : (n run incarnation : ℕ) (from to : LinkEnd) → IsOther n from → IsOfRun n run from to incarnation → ⊥
other-run n run incarnation (ends.Member by) ends.Store other own = other own.0
other-run n run incarnation (ends.Member by) (ends.Member to) other own = own
other-run n run incarnation ends.Store to other own = other

pub other-harmless : (member : Member) (seen : Seen) (limit : ℕ) (message : Message)
    → IsOther member.id.number message.from → IsHarmless member seen limit message
other-harmless member seen limit message other = record {
  unasked = λ same asks. other-member member.id.number message.from other same;
  older = λ own. absurd
      (other-run member.id.number seen.process.incarnation message.incarnation message.from message.to other own);
}

-- behind a part all in flight was so before, or is harmless
abbrev pub AddsHarmless : (member : Member) (seen : Seen) → Stage member seen → Cluster → Cluster → Type 0
AddsHarmless member seen stage before after = (i : ℕ) (carried : InFlightFacts)
    → in_flight after.facts.flight i ≡ Some carried
    → (in_flight before.facts.flight i ≡ Some carried)
    ⊎ IsHarmless member seen (limit_of member seen stage) carried.message

module _ (head : HeadText) (member : Member) (seen : Seen) (stage : Stage member seen)
    (before after : Cluster) (good : IsOwned head after) (has : HasKey seen.key after)
    (holder : seen.key.holder ≡ member.id.number) (adds : AddsHarmless member seen stage before after) where
  only-by : OnlyMail member seen stage before.facts.flight → (i : ℕ) (carried : InFlightFacts)
      → in_flight after.facts.flight i ≡ Some carried → AsksFor seen.key.revision carried.message.body
      → (in_flight before.facts.flight i ≡ Some carried)
      ⊎ IsHarmless member seen (limit_of member seen stage) carried.message
      → IsMail member seen stage i
  only-by only i carried found asks (inl was) = only i carried was asks
  only-by only i carried found asks (inr new) =
      absurd (new.unasked
      (subst (λ (n : ℕ). IsMemberOf n carried.message.from) holder
      (asks-own head after good i carried found seen.key has asks))
      asks)

  pub only-left : OnlyMail member seen stage before.facts.flight → OnlyMail member seen stage after.facts.flight
  only-left only i carried found asks = only-by only i carried found asks (adds i carried found)

  older-by : OlderMail member seen stage before.facts.flight → (i : ℕ) (carried : InFlightFacts)
      → (IsMail member seen stage i → ⊥) → IsOwn member seen carried.message
      → (in_flight before.facts.flight i ≡ Some carried)
      ⊎ IsHarmless member seen (limit_of member seen stage) carried.message
      → carried.message.sequence < limit_of member seen stage
  older-by older i carried other own (inl was) = older i carried was other own
  older-by older i carried other own (inr new) = new.older own

  pub older-left : OlderMail member seen stage before.facts.flight → OlderMail member seen stage after.facts.flight
  older-left older i carried found other own = older-by older i carried other own (adds i carried found)

-- ---- a part that leaves all that, and adds what is harmless, leaves how far the turn has come
pub phase-left : (head : HeadText) (member : Member) (rank number : ℕ)
    (before after : Cluster) (phase : Phase member rank number before) → IsOwned head after
    → Leaves member before after
    → IsFlying member phase.seen phase.stage after.facts.flight
    → AddsHarmless member phase.seen phase.stage before after → Phase member rank number after
phase-left head member rank number before after phase good leaves flying adds =
    let stands = stands-left member phase.seen before after leaves phase.stands in
    record {
      seen = phase.seen;
      stands = stands;
      stage = phase.stage;
      numbered = phase.numbered;
      ranked = phase.ranked;
      flying = flying;
      only = only-left head member phase.seen phase.stage before after good stands.key_is stands.holder adds
          phase.only;
      older = older-left head member phase.seen phase.stage before after good stands.key_is stands.holder adds
          phase.older;
    }

adds-beside : (member : Member) (seen : Seen) (stage : Stage member seen) (before after : Cluster)
    → ((i : ℕ) (carried : InFlightFacts) → in_flight after.facts.flight i ≡ Some carried →
    (in_flight before.facts.flight i ≡ Some carried) ⊎ IsOther member.id.number carried.message.from)
    → AddsHarmless member seen stage before after
adds-beside member seen stage before after fresh i carried found = by (fresh i carried found)
  where
    by : (in_flight before.facts.flight i ≡ Some carried) ⊎ IsOther member.id.number carried.message.from
        → (in_flight before.facts.flight i ≡ Some carried)
        ⊎ IsHarmless member seen (limit_of member seen stage) carried.message
    by (inl was) = inl was
    by (inr other) = inr (other-harmless member seen (limit_of member seen stage) carried.message other)

-- the number that it waits for was sent
pub mail-sent : (head : HeadText) (member : Member) (seen : Seen) (stage : Stage member seen)
    (cluster : Cluster) → IsOwned head cluster → IsFlying member seen stage cluster.facts.flight
    → number_of member seen stage ≤ cluster.facts.sent
mail-sent head member seen (Sleeps waits later past) cluster good flying = omega arith
mail-sent head member seen (IsDue waits due) cluster good flying = omega arith
mail-sent head member seen (Turns number carried turn mail) cluster good flying =
    good.facts.flown number carried flying

-- events elsewhere and beside
module _ (head : HeadText) (member : Member) (rank number : ℕ) (cluster : Cluster)
    (events : List Event) (good : IsOwned head cluster)
    (then : IsOwned head (cluster_over cluster events))
    (alone : LeaveAlone member.id.number cluster events) where
  pub phase-beside : Phase member rank number cluster → AreElsewhere member.id.number cluster events
      → ((last : ℕ) → last ≤ cluster.facts.sent → AllAre (IsBeside member.id.number last) events)
      → Phase member rank number (cluster_over cluster events)
  phase-beside phase elsewhere beside =
      let last : ℕ = number_of member phase.seen phase.stage in
      let low = mail-sent head member phase.seen phase.stage cluster good phase.flying in
      let left : LeavesMail member.id.number last cluster (cluster_over cluster events) =
      leaves-over member.id.number last cluster events (beside last low) alone good.facts.order low in
      phase-left head member rank number cluster (cluster_over cluster events) phase then
      (leaves-elsewhere member cluster events elsewhere left.clock
      (leader-same cluster (cluster_over cluster events) left.keys)
      (settings-same cluster (cluster_over cluster events) left.keys))
      (flying-left member phase.seen phase.stage cluster (cluster_over cluster events) left.mail phase.flying)
      (adds-beside member phase.seen phase.stage cluster (cluster_over cluster events) left.fresh)
