-- Another message comes than the one that a steady leader waits for: its turn stays as far as it was.
use Rattle.std.proofs.Common.{Bool, List, None, Some, ap, arith, false, inl, inr, length, refl, subst, sym, true, ℕ, ◌+◌, ◌<◌, ◌==◌, ◌∙◌, ◌≡◌, ◌≢◌, ◌≤◌}
use Rattle.cluster_model.specs.Cluster.{cluster_after, cluster_over}
use Rattle.cluster_model.specs.Deliveries.{delivery_of}
use Rattle.cluster_model.specs.Hearing.{heard_from}
use Rattle.cluster_model.specs.Inputs.{outcome_of_heard}
use Rattle.cluster_model.specs.Messages.{answer_message, arrival_events_at, hear_events, heard_message, input_events, message_events_by}
use Rattle.cluster_model.specs.Parts.{event_of}
use Rattle.cluster_model.specs.State.{Cluster}
use Rattle.cluster_model.specs.declared.delivery.Delivery.TheVariants as deliveries
use Rattle.cluster_model.specs.declared.delivery.Delivery.{Delivery}
use Rattle.event_book.specs.Flight.{InFlightFacts, in_flight}
use Rattle.event_book.specs.declared.event.Event.{Event}
use Rattle.event_book.specs.declared.event.EventKind.TheVariants as kinds
use Rattle.event_book.specs.declared.event.MessageEvent.TheVariants.{Delivered, Lost}
use Rattle.event_book.specs.declared.link.LinkEnd.TheVariants as ends
use Rattle.event_book.specs.declared.link.LinkEnd.{LinkEnd}
use Rattle.event_book.specs.declared.member.Member.{Member}
use Rattle.event_book.specs.declared.message.Body.{Body}
use Rattle.event_book.specs.declared.message.Message.{Message}
use Rattle.leading_parts.proofs.Answering.{without-there}
use Rattle.leading_parts.proofs.Aside.{input-beside, leaves-over, serves-elsewhere}
use Rattle.leading_parts.proofs.Others.{arrival-elsewhere, hear-elsewhere}
use Rattle.leading_parts.specs.Alone.{IsWithStore}
use Rattle.leading_parts.specs.Aside.{IsOther}
use Rattle.leading_parts.specs.Holding.{IsMemberOf}
use Rattle.leading_parts.specs.Others.{AreNumbered}
use Rattle.leading_runs.proofs.Asking.{answer-left, leaves-came}
use Rattle.leading_runs.proofs.Hearing.{hears-beside}
use Rattle.leading_runs.proofs.Keeping.{IsHarmless, mail-with, leader-same, leaves-elsewhere, mail-sent, other-harmless, phase-beside, phase-left, settings-same}
use Rattle.leading_runs.proofs.Stages.{IsDue, IsFlying, IsMail, IsOwn, Phase, Sleeps, Stage, Turns, limit_of, number_of}
use Rattle.leading_runs.proofs.Waking.{same-as-member}
use Rattle.leading_runs.proofs.Walking.{Goes, Leave, Within, goes-none}
use Rattle.leading_runs.specs.Steady.{IsOfRun}
use Rattle.lease_book.proofs.Entries.{in-without, rises-without}
use Rattle.lease_model.proofs.Tools.{eq-from, ne-from, put-there}
use Rattle.lease_owners.proofs.Arrivals.{arrival-owned}
use Rattle.lease_owners.proofs.EveryRun.{hears-owned, lost-owned, stand-numbered}
use Rattle.lease_owners.specs.Kept.{IsOwned}
use Rattle.lease_parts.specs.Waiting.{IsKnownEnd}
use Rattle.pat_base.specs.declared.member_id.TheConstants.{MOST_MEMBERS}
use Rattle.run_promise.proofs.Members.{declared-in}
use Rattle.run_promise.specs.Members.{IsDeclared}
use Rattle.script_model.specs.Script.{HeadText, names_of}
use Rattle.std.specs.Prelude.{◌⊎◌}

module _ (head : HeadText) (few : length (names_of head) ≤ MOST_MEMBERS) (member : Member)
    (declared : IsDeclared head member) where
  abbrev N : ℕ
  N = member.id.number

  abbrev In : ℕ → Cluster → Type 0
  In rank = Within head member rank

  -- ---- another message comes: its turn stays as far
  module _ (rank number : ℕ) (cluster : Cluster) (good : IsOwned head cluster)
      (phase : Phase member rank number cluster) (j : ℕ) (carried : InFlightFacts)
      (flies : in_flight cluster.facts.flight j ≡ Some carried)
      (other : IsMail member phase.seen phase.stage j → ⊥) where
    abbrev At : Cluster → Type 0
    At = Phase member rank number

    -- to the key store
    store-fresh : (i : ℕ) (one : InFlightFacts)
        → ((i ≢ j) × (in_flight cluster.facts.flight i ≡ Some one))
        ⊎ ((i ≡ cluster.facts.sent + 1) × ((said : Body) × (one.message ≡ answer_message carried.message said)))
        → carried.message.to ≡ ends.Store
        → (in_flight cluster.facts.flight i ≡ Some one)
        ⊎ IsHarmless member phase.seen (limit_of member phase.seen phase.stage) one.message
    store-fresh i one (inl was) to = inl was.1
    store-fresh i one (inr new) to = inr (record {
      unasked = λ same. absurd (subst (λ (m : Message). IsMemberOf N m.from) new.1.1 same);
      older = λ own.
          let mine : IsOwn member phase.seen (answer_message carried.message new.1.0) =
          subst (IsOwn member phase.seen) new.1.1 own in
          subst (λ (m : Message). m.sequence < limit_of member phase.seen phase.stage) (sym new.1.1)
          (phase.older j carried flies other
          (asked-own carried.message.from carried.message.to carried.message.incarnation to mine));
    })
      where
        asked-own : (from to_end : LinkEnd) (run : ℕ) → to_end ≡ ends.Store
            → IsOfRun N phase.seen.process.incarnation ends.Store from run
            → IsOfRun N phase.seen.process.incarnation from to_end run
        asked-own (ends.Member by) to_end run same mine =
            subst (λ (end : LinkEnd). IsOfRun N phase.seen.process.incarnation (ends.Member by) end run) (sym same) mine
        asked-own ends.Store to_end run same mine = absurd mine

    comes-store : carried.message.to ≡ ends.Store
        → Leave head member cluster (arrival_events_at cluster j carried ends.Store)
        → Goes head member At cluster (arrival_events_at cluster j carried ends.Store)
    comes-store to leave =
        let events : List Event = arrival_events_at cluster j carried ends.Store in
        let after : Cluster = cluster_over cluster events in
        let then = arrival-owned head cluster j carried good flies to in
        let answer =
        answer-left head member cluster phase.seen j carried good phase.stands flies to
        leave in
        let leaves =
        leaves-came head member cluster phase.seen j carried good phase.stands flies to
        leave (λ asks. other (phase.only j carried flies asks)) in
        record {
          good = then;
          within = phase-left head member rank number cluster after phase then leaves
              (kept-flying phase.stage other phase.flying)
              (λ i one found. store-fresh i one (answer.fresh i one found) to);
          serves = serves-elsewhere N cluster events (arrival-elsewhere N cluster j carried flies to);
        }
      where
        up-to : (i sent : ℕ) → i ≤ sent → i ≡ sent + 1 → ⊥
        up-to i sent low same = omega (arith, low, same)

        kept-flying : (stage : Stage member phase.seen) → (IsMail member phase.seen stage j → ⊥)
            → IsFlying member phase.seen stage cluster.facts.flight
            → IsFlying member phase.seen stage
            (cluster_over cluster (arrival_events_at cluster j carried ends.Store)).facts.flight
        kept-flying (Sleeps waits later past) apart flying = tt
        kept-flying (IsDue waits due) apart flying = tt
        kept-flying (Turns mail one turn is) apart flying =
            (answer-left head member cluster phase.seen j carried good phase.stands flies to
            leave).others
            mail (λ same. apart (sym same)) (up-to mail cluster.facts.sent (good.facts.flown mail one flying))
            ∙ flying

    abbrev Arrived : Cluster
    Arrived = cluster_after cluster (kinds.Message (Delivered j))

    -- to another member
    comes-other : (m : Member) → N ≢ m.id.number → carried.message.to ≡ ends.Member m
        → delivery_of cluster.facts.cuts cluster.facts.processes carried.message ≡ deliveries.Open
        → Leave head member cluster (hear_events cluster j carried m)
        → Goes head member At cluster (hear_events cluster j carried m)
    comes-other m apart to free leave =
        let events : List Event = hear_events cluster j carried m in
        let after : Cluster = cluster_over cluster events in
        let then = hears-owned head few cluster j carried m good flies to in
        let numbered : AreNumbered cluster = stand-numbered head few cluster good in
        let elsewhere = hear-elsewhere N m apart cluster j carried numbered flies to in
        let last : ℕ = number_of member phase.seen phase.stage in
        let low = mail-sent head member phase.seen phase.stage cluster good phase.flying in
        let order = rises-without 0 cluster.facts.flight j good.facts.order in
        let rest = leaves-over N last Arrived
        (input_events Arrived m (heard_message j carried) (outcome_of_heard cluster m (heard_from cluster carried)))
        (input-beside N last m apart (heard_message j carried)
        (outcome_of_heard cluster m (heard_from cluster carried)) Arrived numbered low)
        leave.1 order low in
        record {
          good = then;
          within = phase-left head member rank number cluster after phase then
              (leaves-elsewhere member cluster events elsewhere rest.clock (leader-same cluster after rest.keys)
              (settings-same cluster after rest.keys))
              (kept-flying phase.stage other phase.flying rest.mail)
              (λ i one found. fresh-other i one (rest.fresh i one found));
          serves = serves-elsewhere N cluster events elsewhere;
        }
      where
        fresh-other : (i : ℕ) (one : InFlightFacts)
            → (in_flight Arrived.facts.flight i ≡ Some one) ⊎ IsOther N one.message.from
            → (in_flight cluster.facts.flight i ≡ Some one)
            ⊎ IsHarmless member phase.seen (limit_of member phase.seen phase.stage) one.message
        fresh-other i one (inl was) =
            inl (without-there cluster.facts.flight j good.facts.order i one was).1
        fresh-other i one (inr new) =
            inr (other-harmless member phase.seen (limit_of member phase.seen phase.stage) one.message new)

        kept-flying : (stage : Stage member phase.seen) → (IsMail member phase.seen stage j → ⊥)
            → IsFlying member phase.seen stage cluster.facts.flight
            → ((one : InFlightFacts) →
            in_flight Arrived.facts.flight (number_of member phase.seen stage) ≡ Some one →
            IsWithStore N one.message.from one.message.to →
            in_flight (cluster_over cluster (hear_events cluster j carried m)).facts.flight
            (number_of member phase.seen stage) ≡ Some one)
            → IsFlying member phase.seen stage (cluster_over cluster (hear_events cluster j carried m)).facts.flight
        kept-flying (Sleeps waits later past) apart_mail flying mail = tt
        kept-flying (IsDue waits due) apart_mail flying mail = tt
        kept-flying (Turns its one turn is) apart_mail flying mail =
            mail one
            (in-without 0 cluster.facts.flight j its good.facts.order
            ∙ put-there (in_flight cluster.facts.flight) j None its (λ same. apart_mail (sym same)) ∙ flying)
            (mail-with member phase.seen turn.waited one is)

    pub comes-by : (to : LinkEnd) → carried.message.to ≡ to
        → delivery_of cluster.facts.cuts cluster.facts.processes carried.message ≡ deliveries.Open
        → Leave head member cluster (arrival_events_at cluster j carried to)
        → Goes head member At cluster (arrival_events_at cluster j carried to)
    comes-by ends.Store same free leave = comes-store same leave
    comes-by (ends.Member m) same free leave = by (N == m.id.number) refl
      where
        by : (here : Bool) → (N == m.id.number) ≡ here
            → Goes head member At cluster (hear_events cluster j carried m)
        by false apart = comes-other m (ne-from N m.id.number apart) same free leave
        by true at =
            let known : IsDeclared head m = declared-in head few cluster good.members m.id.number m
            (subst (IsKnownEnd cluster.facts.members) same
            (good.facts.sent j carried flies).0.to) in
            let mine : m ≡ member = same-as-member head few member declared m known (eq-from N m.id.number at) in
            let to_it : carried.message.to ≡ ends.Member member = same ∙ ap (λ (x : Member). ends.Member x) mine in
            let left =
            subst (λ (x : Member). Leave head member cluster (hear_events cluster j carried x)) mine leave in
            let then =
            hears-owned head few cluster j carried member good flies to_it in
            let heard = hears-beside head member rank number cluster
            phase good j carried flies to_it free other then in
            subst (λ (x : Member). Goes head member At cluster (hear_events cluster j carried x)) (sym mine)
            (record { good = then; within = heard.phase_is; serves = heard.serves })

    pub stays-other : Leave head member cluster
        (message_events_by cluster j carried (delivery_of cluster.facts.cuts cluster.facts.processes carried.message))
        → Goes head member At cluster
        (message_events_by cluster j carried (delivery_of cluster.facts.cuts cluster.facts.processes carried.message))
    stays-other = by (delivery_of cluster.facts.cuts cluster.facts.processes carried.message) refl
      where
        lost : Leave head member cluster (event_of cluster (kinds.Message (Lost j)))
            → Goes head member At cluster (event_of cluster (kinds.Message (Lost j)))
        lost leave =
            let then = lost-owned head cluster j good in
            record {
              good = then;
              within =
                  phase-beside head member rank number cluster
                  (event_of cluster (kinds.Message (Lost j))) good then leave phase (tt, tt)
                  (λ last low. (tt, tt));
              serves = (tt, tt);
            }

        by : (delivery : Delivery)
            → delivery_of cluster.facts.cuts cluster.facts.processes carried.message ≡ delivery
            → Leave head member cluster (message_events_by cluster j carried delivery)
            → Goes head member At cluster (message_events_by cluster j carried delivery)
        by deliveries.Open is leave = comes-by carried.message.to refl is leave
        by deliveries.Cut is leave = lost leave
        by deliveries.Suspended is leave = goes-none head member At cluster good phase
        by deliveries.Gone is leave = lost leave
