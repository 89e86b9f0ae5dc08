-- What a steady leader waits for comes: its turn goes on.
use Rattle.std.proofs.Common.{Bool, List, Some, ap, arith, cond, false, length, not, refl, subst, suc, sym, true, ℕ, ◌&&◌, ◌+◌, ◌<◌, ◌==◌, ◌||◌, ◌∙◌, ◌≡◌, ◌≤◌}
use Rattle.cluster_model.proofs.Places.{eq-self}
use Rattle.cluster_model.specs.Cluster.{cluster_over}
use Rattle.cluster_model.specs.Deliveries.{delivery_of, delivery_to, delivery_to_agent, is_answer, is_stale, link_of_message}
use Rattle.cluster_model.specs.Inputs.{may_act}
use Rattle.cluster_model.specs.Messages.{arrival_events_at, hear_events, message_events_by}
use Rattle.cluster_model.specs.State.{Cluster}
use Rattle.cluster_model.specs.declared.delivery.Delivery.TheVariants as deliveries
use Rattle.cluster_model.specs.declared.delivery.Delivery.{Delivery}
use Rattle.event_book.specs.Flight.{InFlightFacts, in_flight, without_message}
use Rattle.event_book.specs.Kinds.{AllAre}
use Rattle.event_book.specs.Links.{is_cut}
use Rattle.event_book.specs.declared.agent_process.AgentProcess.{AgentProcess}
use Rattle.event_book.specs.declared.event.Event.{Event}
use Rattle.event_book.specs.declared.link.LinkEnd.TheVariants as ends
use Rattle.event_book.specs.declared.member.Member.{Member}
use Rattle.event_book.specs.declared.message.Message.{Message}
use Rattle.leading_parts.proofs.Aside.{serves-elsewhere}
use Rattle.leading_parts.proofs.Others.{arrival-elsewhere}
use Rattle.leading_parts.specs.Alone.{IsWithStore, LeaveAlone}
use Rattle.leading_parts.specs.Aside.{ServesOn}
use Rattle.lease_owners.specs.Asking.{AsksFor}
use Rattle.leading_runs.proofs.Asking.{turn-decides, turn-grants, turn-shows}
use Rattle.leading_runs.proofs.Feeding.{feeds-serving, turn-feeds, turn-settles}
use Rattle.leading_runs.proofs.Joins.{hears-key}
use Rattle.leading_runs.proofs.Stages.{Decides, Grants, InTurn, IsOwn, Mail, Phase, Reads, Renews, Seen, Shows, Stands, Syncs, mail_rank}
use Rattle.leading_runs.proofs.Standing.{IsAlone, arrived-alone}
use Rattle.leading_runs.proofs.Turning.{renews-serving, turn-renews}
use Rattle.leading_runs.proofs.Waking.{raised}
use Rattle.leading_runs.proofs.Walking.{Goes, Leave, Within}
use Rattle.lease_owners.proofs.Arrivals.{arrival-owned}
use Rattle.lease_owners.proofs.EveryRun.{hears-owned}
use Rattle.lease_owners.specs.Kept.{IsOwned}
use Rattle.pat_base.specs.declared.member_id.TheConstants.{MOST_MEMBERS}
use Rattle.run_promise.specs.Members.{IsDeclared}
use Rattle.script_model.specs.Script.{HeadText, names_of}

module _ (head : HeadText) (few : length (names_of head) ≤ MOST_MEMBERS) (member : Member)
    (declared : IsDeclared head member) where
  abbrev N : ℕ
  N = member.id.number

  abbrev In : ℕ → Cluster → Type 0
  In rank = Within head member rank

  -- ---- what stands between what it waits for and its receiver
  uncut-by : (cluster : Cluster) (number : ℕ) (carried : InFlightFacts) (cut : Bool) (delivery : Delivery)
      → in_flight cluster.facts.flight number ≡ Some carried → IsWithStore N carried.message.from carried.message.to
      → LeaveAlone N cluster (message_events_by cluster number carried (cond cut deliveries.Cut delivery)) → cut ≡ false
  uncut-by cluster number carried true delivery flies with alone = absurd (alone.0 carried flies with)
  uncut-by cluster number carried false delivery flies with alone = refl

  opened : (cluster : Cluster) (message : Message) (delivery : Delivery)
      → is_cut cluster.facts.cuts (link_of_message message) ≡ false
      → delivery_to cluster.facts.processes message message.to ≡ delivery
      → delivery_of cluster.facts.cuts cluster.facts.processes message ≡ delivery
  opened cluster message delivery uncut is =
      ap (λ (b : Bool). cond b deliveries.Cut (delivery_to cluster.facts.processes message message.to)) uncut ∙ is

  acts-so : (process : AgentProcess) → may_act process ≡ true → (process.running ≡ true) × (process.suspended ≡ false)
  acts-so process acts = by process.running process.suspended acts
    where
      by : (running suspended : Bool) → running && not suspended ≡ true → (running ≡ true) × (suspended ≡ false)
      by true false e = (refl, refl)
      by true true e = absurd (no-way e)
        where
          no-way : false ≡ true → ⊥
          no-way f = cc
      by false suspended e = absurd (no-way e)
        where
          no-way : false ≡ true → ⊥
          no-way f = cc

  -- an answer to it of its own incarnation comes
  comes-to-it : (message : Message) (process : AgentProcess) → may_act process ≡ true
      → message.incarnation ≡ process.incarnation → delivery_to_agent message (Some process) ≡ deliveries.Open
  comes-to-it message process acts same =
      let is = acts-so process acts in
      ap (λ (b : Bool). cond b deliveries.Suspended
      (cond (not process.running || is_stale message process) deliveries.Gone deliveries.Open)) is.1
      ∙ ap (λ (b : Bool). cond (not b || is_stale message process) deliveries.Gone deliveries.Open) is.0
      ∙ ap (λ (b : Bool). cond (is_answer message.body && not b) deliveries.Gone deliveries.Open)
      (ap (λ (k : ℕ). k == process.incarnation) same ∙ eq-self process.incarnation)
      ∙ unstale (is_answer message.body)
    where
      unstale : (answer : Bool) → cond (answer && false) deliveries.Gone deliveries.Open ≡ deliveries.Open
      unstale true = refl
      unstale false = refl

  -- ---- what it waits for comes: its turn goes on
  module _ (rank : ℕ) (cluster : Cluster) (good : IsOwned head cluster) (seen : Seen)
      (stands : Stands member seen cluster) (number : ℕ) (carried : InFlightFacts) (turn : InTurn seen)
      (flies : in_flight cluster.facts.flight number ≡ Some carried)
      (only : (i : ℕ) (one : InFlightFacts) → in_flight cluster.facts.flight i ≡ Some one →
      AsksFor seen.key.revision one.message.body → i ≡ number)
      (older : (i : ℕ) (one : InFlightFacts) → in_flight cluster.facts.flight i ≡ Some one → (i ≡ number → ⊥) →
      IsOwn member seen one.message → one.message.sequence < seen.agent.knows.sequence)
      (leave : Leave head member cluster
      (message_events_by cluster number carried
      (delivery_of cluster.facts.cuts cluster.facts.processes carried.message)))
      (with : IsWithStore N carried.message.from carried.message.to) where
    uncut : is_cut cluster.facts.cuts (link_of_message carried.message) ≡ false
    uncut = uncut-by cluster number carried (is_cut cluster.facts.cuts (link_of_message carried.message))
        (delivery_to cluster.facts.processes carried.message carried.message.to) flies with leave

    abbrev Events : List Event
    Events = message_events_by cluster number carried
        (delivery_of cluster.facts.cuts cluster.facts.processes carried.message)

    -- to the key store
    to-store-is : carried.message.to ≡ ends.Store → Events ≡ arrival_events_at cluster number carried ends.Store
    to-store-is to =
        ap (message_events_by cluster number carried)
        (opened cluster carried.message deliveries.Open uncut
        (ap (delivery_to cluster.facts.processes carried.message) to))
        ∙ ap (arrival_events_at cluster number carried) to

    goes-store : (to : carried.message.to ≡ ends.Store) (next now : ℕ) → next ≤ rank
        → (IsOwned head
        (cluster_over cluster (arrival_events_at cluster number carried ends.Store)) →
        LeaveAlone N cluster (arrival_events_at cluster number carried ends.Store) →
        Phase member next now (cluster_over cluster (arrival_events_at cluster number carried ends.Store)))
        → Goes head member (In rank) cluster Events
    goes-store to next now less phase =
        let same = to-store-is to in
        let left = subst (Leave head member cluster) same leave in
        let then = arrival-owned head cluster number carried good flies to in
        subst (Goes head member (In rank) cluster) (sym same) (record {
          good = then;
          within = (now, raised head few member declared next rank now _ less (phase then left));
          serves = serves-elsewhere N cluster (arrival_events_at cluster number carried ends.Store)
              (arrival-elsewhere N cluster number carried flies to);
        })

    -- to its agent
    to-it-is : carried.message.to ≡ ends.Member member → carried.message.incarnation ≡ seen.process.incarnation
        → (delivery_of cluster.facts.cuts cluster.facts.processes carried.message ≡ deliveries.Open)
        × (Events ≡ hear_events cluster number carried member)
    to-it-is to same =
        let free = opened cluster carried.message deliveries.Open uncut
        (ap (delivery_to cluster.facts.processes carried.message) to
        ∙ ap (delivery_to_agent carried.message) stands.process_is
        ∙ comes-to-it carried.message seen.process stands.acts same) in
        (free, ap (message_events_by cluster number carried) free ∙ ap (arrival_events_at cluster number carried) to)

    goes-heard : (to : carried.message.to ≡ ends.Member member)
        → carried.message.incarnation ≡ seen.process.incarnation → (next : ℕ) → next ≤ rank
        → (LeaveAlone N cluster (hear_events cluster number carried member) →
        ((now : ℕ) × Phase member next now (cluster_over cluster (hear_events cluster number carried member)))
        × AllAre (ServesOn N) (hear_events cluster number carried member))
        → Goes head member (In rank) cluster Events
    goes-heard to run next less phase =
        let is = to-it-is to run in
        let left = subst (Leave head member cluster) is.1 leave in
        let result = phase left in
        subst (Goes head member (In rank) cluster) (sym is.1) (record {
          good = hears-owned head few cluster number carried member good flies to;
          within = (result.0.0, raised head few member declared next rank result.0.0 _ less result.0.1);
          serves = result.1;
        })

    alone-arrived : IsAlone member seen seen.agent.knows.sequence (without_message cluster.facts.flight number)
    alone-arrived =
        arrived-alone member seen seen.agent.knows.sequence number cluster good.facts.order only older

    pub moves : (mail : Mail member seen turn.waited carried)
        → mail_rank member seen turn.waited carried mail ≤ suc rank
        → Goes head member (In rank) cluster Events
    moves (Reads asks last is) less =
        let to = ap (λ (m : Message). m.to) is in
        goes-store to 5 (cluster.facts.sent + 1) (omega (arith, less))
        (λ then left. turn-shows head member cluster
        seen number carried good stands flies to left only older then turn asks last is)
    moves (Renews asks sent span none info status row listed is) less =
        let to = ap (λ (m : Message). m.to) is in
        goes-store to 3 (cluster.facts.sent + 1) (omega (arith, less))
        (λ then left. turn-grants head member cluster
        seen number carried good stands flies to left only older then turn asks sent span none info status row listed
        is)
    moves (Syncs settling asks past txn writes is) less =
        let to = ap (λ (m : Message). m.to) is in
        goes-store to 1 (cluster.facts.sent + 1) (omega (arith, less))
        (λ then left. turn-decides head member
        cluster seen number carried good stands flies to left only older then turn settling asks past txn writes is)
    moves (Shows asks last is shows sets failover) less =
        let hears = hears-key member seen.process.incarnation turn.waited.sequence seen.key cluster carried is shows
        stands.holder in
        goes-heard hears.to (ap (λ (m : Message). m.incarnation) is) 4 (omega (arith, less)) (λ left. (
          (
            cluster.facts.sent + 1,
            turn-renews head member cluster seen number carried turn good stands flies asks
                last is hears sets failover alone-arrived left,
          ),
          renews-serving head member cluster seen number carried turn good stands flies asks last is hears sets
              failover alone-arrived left,
        ))
    moves (Grants asks sent span none txn request is grant sets lasts) less =
        goes-heard (ap (λ (m : Message). m.to) is) (ap (λ (m : Message). m.incarnation) is) 2 (omega (arith, less))
        (λ left. (
          turn-feeds head member cluster seen number carried turn good stands flies asks sent span none txn request
              is grant sets lasts alone-arrived left,
          feeds-serving head member cluster seen number carried turn good stands flies asks sent span none txn
              request is grant sets lasts alone-arrived left,
        ))
    moves (Decides settling asks past txn writes request decision is granted grant sets) less =
        let to = ap (λ (m : Message). m.to) is in
        let settled = turn-settles head member cluster seen number carried turn good stands flies to settling asks
        past alone-arrived txn writes request decision is granted grant sets in
        goes-heard to (ap (λ (m : Message). m.incarnation) is) 0 (omega (arith, less))
        (λ left. ((0, settled.phase), settled.serves))
