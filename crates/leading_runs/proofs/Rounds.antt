-- A round takes the turn of a steady leader further.
use Rattle.std.proofs.Common.{Bool, List, None, Option, Some, [], ap, arith, false, get_or, inl, inr, length, nat_le, refl, slice_get, subst, suc, sym, true, zero, ℕ, ◌<◌, ◌==◌, ◌∙◌, ◌∷◌, ◌≡◌, ◌≤◌}
use Rattle.cluster_model.specs.Cluster.{cluster_over}
use Rattle.cluster_model.specs.Deliveries.{delivery_of}
use Rattle.cluster_model.specs.Messages.{message_events, message_events_by, wake_events}
use Rattle.cluster_model.specs.Next.{round_events}
use Rattle.cluster_model.specs.Parts.{each, for_some}
use Rattle.cluster_model.specs.State.{Cluster}
use Rattle.event_book.specs.Flight.{Flight, InFlightFacts, in_flight}
use Rattle.event_book.specs.declared.event.Event.{Event}
use Rattle.event_book.specs.declared.member.Member.{Member}
use Rattle.leading_runs.proofs.Keeping.{mail-with}
use Rattle.leading_runs.proofs.Stages.{IsDue, IsFlying, IsMail, Phase, Sleeps, Stage, Turns, limit_of, mail_rank, number_of, rank_of}
use Rattle.leading_runs.proofs.Waking.{in-raised, wakes-due, wakes-each}
use Rattle.leading_runs.proofs.Walking.{Goes, Keeps, Leave, Within, goes-none, keeps-each, keeps-then}
use Rattle.lease_book.proofs.Entries.{at-is}
use Rattle.lease_model.proofs.Tools.{eq-from, gt-from, le-from, ne-from, some-is}
use Rattle.lease_owners.specs.Kept.{IsOwned}
use Rattle.pat_base.specs.declared.member_id.TheConstants.{MOST_MEMBERS}
use Rattle.run_promise.proofs.Members.{declared-in, each-at}
use Rattle.run_promise.proofs.Upholding.{Each}
use Rattle.run_promise.specs.Members.{IsDeclared}
use Rattle.script_model.specs.Script.{HeadText, names_of}
use Rattle.std.proofs.lemmas.Map.Views.{Contains-keys_from_lookup}
use Rattle.std.specs.BTreeMap.{is_at}
use Rattle.std.specs.Map.{keys_of}
use Rattle.std.specs.Ordering.{nat_cmp}
use Rattle.std.specs.Prelude.{Contains, is_some, ◌⊎◌}
use Rattle.leading_runs.proofs.Moving.{moves}
use Rattle.leading_runs.proofs.Coming.{stays-other}

module _ (head : HeadText) (few : length (names_of head) ≤ MOST_MEMBERS) (member : Member)
    (declared : IsDeclared head member) where
  abbrev N : ℕ
  N = member.id.number

  abbrev In : ℕ → Cluster → Type 0
  In rank = Within head member rank

  -- ---- a message: what it waits for takes its turn further, and any other leaves it
  abbrev Pending : ℕ → ℕ → ℕ → Cluster → Type 0
  Pending number rank top cluster = In rank cluster ⊎ Phase member top number cluster

  abbrev Moved : Cluster → ℕ → InFlightFacts → List Event
  Moved cluster j carried =
      message_events_by cluster j carried (delivery_of cluster.facts.cuts cluster.facts.processes carried.message)

  message-by : (rank top : ℕ) → top ≤ suc rank → (j number : ℕ) (cluster : Cluster)
      → IsOwned head cluster → (phase : Phase member top number cluster) (carried : InFlightFacts)
      → in_flight cluster.facts.flight j ≡ Some carried → Leave head member cluster (Moved cluster j carried)
      → Goes head member (Pending number rank top) cluster (Moved cluster j carried)
  message-by rank top less j number cluster good phase carried flies leave = by phase.stage refl
    where
      apart : (IsMail member phase.seen phase.stage j → ⊥)
          → Goes head member (Pending number rank top) cluster (Moved cluster j carried)
      apart away =
          let goes =
          stays-other head few member declared top number cluster good phase j carried flies away leave in
          record { good = goes.good; within = inr goes.within; serves = goes.serves }

      by : (stage : Stage member phase.seen) → phase.stage ≡ stage
          → Goes head member (Pending number rank top) cluster (Moved cluster j carried)
      by (Sleeps waits later past) same = apart (λ is. subst (λ st. IsMail member phase.seen st j) same is)
      by (IsDue waits due) same = apart (λ is. subst (λ st. IsMail member phase.seen st j) same is)
      by (Turns its one turn mail) same = test (j == its) refl
        where
          flying : in_flight cluster.facts.flight its ≡ Some one
          flying = subst (λ st. IsFlying member phase.seen st cluster.facts.flight) same phase.flying

          up-to : (m t r : ℕ) → m ≤ t → t ≤ suc r → m ≤ suc r
          up-to m t r a b = omega (arith, a, b)

          test : (here : Bool) → (j == its) ≡ here
              → Goes head member (Pending number rank top) cluster (Moved cluster j carried)
          test false at = apart (λ is. ne-from j its at (subst (λ st. IsMail member phase.seen st j) same is))
          test true at =
              let where_it : j ≡ its = eq-from j its at in
              let what : one ≡ carried =
              some-is one carried (sym flying ∙ ap (in_flight cluster.facts.flight) (sym where_it) ∙ flies) in
              let go : Leave head member cluster (Moved cluster its one)
              → Goes head member (In rank) cluster (Moved cluster its one) =
              λ left. moves head few member declared rank cluster good phase.seen phase.stands its one turn flying
              (λ i c found asks. subst (λ st. IsMail member phase.seen st i) same (phase.only i c found asks))
              (λ i c found away own. subst (λ st. c.message.sequence < limit_of member phase.seen st) same
              (phase.older i c found (λ is. away (subst (λ st. IsMail member phase.seen st i) same is)) own))
              left (mail-with member phase.seen turn.waited one mail) mail
              (up-to (mail_rank member phase.seen turn.waited one mail) top rank
              (subst (λ st. rank_of member phase.seen st ≤ top) same phase.ranked) less) in
              let goes = subst (λ (k : ℕ). Leave head member cluster (Moved cluster k carried) →
              Goes head member (In rank) cluster (Moved cluster k carried)) (sym where_it)
              (subst (λ (c : InFlightFacts). Leave head member cluster (Moved cluster its c) →
              Goes head member (In rank) cluster (Moved cluster its c)) what go) leave in
              record { good = goes.good; within = inl goes.within; serves = goes.serves }

  message-found : (rank top : ℕ) → top ≤ suc rank → (j number : ℕ) (cluster : Cluster)
      → IsOwned head cluster → Phase member top number cluster → (found : Option InFlightFacts)
      → in_flight cluster.facts.flight j ≡ found
      → Leave head member cluster (for_some found (Moved cluster j))
      → Goes head member (Pending number rank top) cluster (for_some found (Moved cluster j))
  message-found rank top less j number cluster good phase None is leave =
      goes-none head member (Pending number rank top) cluster good (inr phase)
  message-found rank top less j number cluster good phase (Some carried) is leave =
      message-by rank top less j number cluster good phase carried is leave

  message-any : (rank j : ℕ) → Keeps head member (In rank) (In rank) (λ cluster. message_events cluster j)
  message-any rank j cluster good within leave =
      let goes = message-found rank rank (omega arith) j within.0 cluster good within.1
      (in_flight cluster.facts.flight j) refl leave in
      record { good = goes.good; within = either goes.within; serves = goes.serves }
    where
      either : {c : Cluster} → Pending within.0 rank rank c → In rank c
      either (inl low) = low
      either (inr phase) = (within.0, phase)

  -- ---- the messages of a round: one of them is what it waits for
  message-pending : (rank number j : ℕ)
      → Keeps head member (Pending number rank (suc rank)) (Pending number rank (suc rank))
      (λ cluster. message_events cluster j)
  message-pending rank number j cluster good (inl within) leave =
      let goes = message-any rank j cluster good within leave in
      record { good = goes.good; within = inl goes.within; serves = goes.serves }
  message-pending rank number j cluster good (inr phase) leave =
      message-found rank (suc rank) (omega arith) j number cluster good phase
      (in_flight cluster.facts.flight j) refl leave

  -- its own message, where it waits for one
  hits : (rank number : ℕ) → suc rank ≤ 6
      → Keeps head member (Pending number rank (suc rank)) (In rank) (λ cluster. message_events cluster number)
  hits rank number small cluster good (inl within) leave = message-any rank number cluster good within leave
  hits rank number small cluster good (inr phase) leave = by phase.stage refl
    where
      none-left : (m r : ℕ) → m ≤ r → r ≤ 6 → 7 ≤ m → ⊥
      none-left m r a b c = omega (arith, a, b, c)

      by : (stage : Stage member phase.seen) → phase.stage ≡ stage
          → Goes head member (In rank) cluster (message_events cluster number)
      by (Sleeps waits later past) same =
          let low : rank_of member phase.seen phase.stage ≤ rank =
          subst (λ st. rank_of member phase.seen st ≤ rank) (sym same) (omega arith) in
          message-any rank number cluster good (
            number,
            record {
              seen = phase.seen;
              stands = phase.stands;
              stage = phase.stage;
              numbered = phase.numbered;
              ranked = low;
              flying = phase.flying;
              only = phase.only;
              older = phase.older;
            },
          ) leave
      by (IsDue waits due) same =
          absurd (none-left (rank_of member phase.seen phase.stage) (suc rank) phase.ranked small
          (subst (λ st. 7 ≤ rank_of member phase.seen st) (sym same) (omega arith)))
      by (Turns its one turn mail) same =
          let at : its ≡ number = subst (λ st. number_of member phase.seen st ≡ number) same phase.numbered in
          let flying = subst (λ st. IsFlying member phase.seen st cluster.facts.flight) same phase.flying in
          let found : in_flight cluster.facts.flight number ≡ Some one =
          ap (in_flight cluster.facts.flight) (sym at) ∙ flying in
          let is : message_events cluster number ≡ Moved cluster its one =
          ap (λ (o : Option InFlightFacts). for_some o (Moved cluster number)) found
          ∙ ap (λ (k : ℕ). Moved cluster k one) (sym at) in
          subst (Goes head member (In rank) cluster) (sym is)
          (moves head few member declared rank cluster good phase.seen phase.stands its one turn flying
          (λ i c there asks. subst (λ st. IsMail member phase.seen st i) same (phase.only i c there asks))
          (λ i c there away own. subst (λ st. c.message.sequence < limit_of member phase.seen st) same
          (phase.older i c there (λ mine. away (subst (λ st. IsMail member phase.seen st i) same mine)) own))
          (subst (Leave head member cluster) is leave) (mail-with member phase.seen turn.waited one mail) mail
          (subst (λ st. rank_of member phase.seen st ≤ suc rank) same phase.ranked))

  messages-any : (rank : ℕ) (xs : List ℕ)
      → Keeps head member (In rank) (In rank) (λ cluster. each message_events cluster xs)
  messages-any rank xs = keeps-each head member (In rank) message_events (message-any rank) xs

  messages-hit : (rank number : ℕ) → suc rank ≤ 6 → (xs : List ℕ) (k : ℕ) → k < length xs → get_or xs k number ≡ number
      → Keeps head member (Pending number rank (suc rank)) (In rank) (λ cluster. each message_events cluster xs)
  messages-hit rank number small [] k within is cluster good pending leave = absurd (omega (arith, within))
  messages-hit rank number small (x ∷ xs) zero within is cluster good pending leave =
      keeps-then head member (Pending number rank (suc rank)) (In rank) (In rank) (λ c. message_events c x)
      (λ c. each message_events c xs)
      (subst (λ (n : ℕ). Keeps head member (Pending number rank (suc rank)) (In rank) (λ c. message_events c n))
      (sym is)
      (hits rank number small))
      (messages-any rank xs) cluster good pending leave
  messages-hit rank number small (x ∷ xs) (suc k) within is cluster good pending leave =
      keeps-then head member (Pending number rank (suc rank)) (Pending number rank (suc rank)) (In rank)
      (λ c. message_events c x) (λ c. each message_events c xs) (message-pending rank number x)
      (messages-hit rank number small xs k (omega (arith, within)) is) cluster good pending leave

  in-keys : (flight : Flight) (number : ℕ) (carried : InFlightFacts) → in_flight flight number ≡ Some carried
      → Contains (keys_of flight) number
  in-keys flight number carried found =
      Contains-keys_from_lookup (λ x y e. equal-from x y e) number flight (ap is_some found)
    where
      equal-from : (x y : ℕ) → is_at (nat_cmp x) y ≡ true → x ≡ y
      equal-from x y e = eq-from x y (sym (at-is x y) ∙ e)

  -- all messages that are in flight
  messages-round : (rank : ℕ) → suc rank ≤ 6
      → Keeps head member (In (suc rank)) (In rank)
      (λ cluster. each message_events cluster (keys_of cluster.facts.flight))
  messages-round rank small cluster good within leave = by phase.stage refl
    where
      phase : Phase member (suc rank) within.0 cluster
      phase = within.1

      by : (stage : Stage member phase.seen) → phase.stage ≡ stage
          → Goes head member (In rank) cluster (each message_events cluster (keys_of cluster.facts.flight))
      by (Turns its one turn mail) same =
          let at : its ≡ within.0 = subst (λ st. number_of member phase.seen st ≡ within.0) same phase.numbered in
          let flying = subst (λ st. IsFlying member phase.seen st cluster.facts.flight) same phase.flying in
          let there = in-keys cluster.facts.flight within.0 one
          (ap (in_flight cluster.facts.flight) (sym at) ∙ flying) in
          messages-hit rank within.0 small (keys_of cluster.facts.flight) there.0 there.1 there.2 cluster good
          (inr phase) leave
      by (Sleeps waits later past) same =
          messages-any rank (keys_of cluster.facts.flight) cluster good (
            within.0,
            record {
              seen = phase.seen;
              stands = phase.stands;
              stage = phase.stage;
              numbered = phase.numbered;
              ranked = subst (λ st. rank_of member phase.seen st ≤ rank) (sym same) (omega arith);
              flying = phase.flying;
              only = phase.only;
              older = phase.older;
            },
          ) leave
      by (IsDue waits due) same =
          absurd (none-left (rank_of member phase.seen phase.stage) (suc rank) phase.ranked small
          (subst (λ st. 7 ≤ rank_of member phase.seen st) (sym same) (omega arith)))
        where
          none-left : (m r : ℕ) → m ≤ r → r ≤ 6 → 7 ≤ m → ⊥
          none-left m r a b c = omega (arith, a, b, c)

  all-declared : (cluster : Cluster) → IsOwned head cluster
      → Each (IsDeclared head) cluster.facts.members
  all-declared cluster good =
      each-at (IsDeclared head) cluster.facts.members (declared-in head few cluster good.members)

  stands-there : (cluster : Cluster) → IsOwned head cluster
      → slice_get cluster.facts.members N ≡ Some member
  stands-there cluster good = ap (λ (ms : List Member). slice_get ms N) good.members ∙ declared

  wakes-round : (rank : ℕ)
      → Keeps head member (In rank) (In rank) (λ cluster. each wake_events cluster cluster.facts.members)
  wakes-round rank cluster good within leave =
      wakes-each head few member declared rank cluster.facts.members
      (all-declared cluster good) cluster good within leave

  wakes-round-due : Keeps head member (In 7) (In 6) (λ cluster. each wake_events cluster cluster.facts.members)
  wakes-round-due cluster good within leave =
      wakes-due head few member declared cluster.facts.members N (stands-there cluster good)
      (all-declared cluster good) cluster
      good within leave

  six-of : (rank : ℕ) (test : Bool) → nat_le (suc rank) 6 ≡ test → rank ≤ 6
      → Keeps head member (In (suc rank)) (In rank) round_events
  six-of rank true is less =
      keeps-then head member (In (suc rank)) (In (suc rank)) (In rank)
      (λ c. each wake_events c c.facts.members) (λ later. each message_events later (keys_of later.facts.flight))
      (wakes-round (suc rank)) (messages-round rank (le-from (suc rank) 6 is))
  six-of rank false is less =
      let at : rank ≡ 6 = omega (arith, less, gt-from (suc rank) 6 is) in
      subst (λ (r : ℕ). Keeps head member (In (suc r)) (In r) round_events) (sym at)
      (λ cluster good within leave.
      let goes = keeps-then head member (In 7) (In 6) (In 5)
      (λ c. each wake_events c c.facts.members) (λ later. each message_events later (keys_of later.facts.flight))
      wakes-round-due (messages-round 5 (omega arith)) cluster good within leave in
      record {
        good = goes.good;
        within = in-raised head few member declared 5 6 (cluster_over cluster (round_events cluster))
            (omega arith) goes.within;
        serves = goes.serves;
      })

  pub round : (rank : ℕ) → rank ≤ 6 → Keeps head member (In (suc rank)) (In rank) round_events
  round rank less = six-of rank (nat_le (suc rank) 6) refl less
