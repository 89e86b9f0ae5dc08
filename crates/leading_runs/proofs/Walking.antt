-- A steady leader stays so over each part of a step, each round, each step and each run.
use Rattle.std.proofs.Common.{ℕ, zero, suc, ◌≡◌, ◌≤◌, ◌++◌, Bool, true, false, cond, List, [], ◌∷◌, refl, sym, subst, arith}
use Rattle.script_model.specs.Script.{HeadText}
use Rattle.event_book.specs.declared.event.Event.{Event}
use Rattle.event_book.specs.declared.member.Member.{Member}
use Rattle.event_book.specs.Kinds.{AllAre}
use Rattle.cluster_model.specs.Cluster.{cluster_over}
use Rattle.cluster_model.specs.Next.{round_events, rounds_events}
use Rattle.cluster_model.specs.Parts.{each, events_then, is_empty}
use Rattle.cluster_model.specs.State.{Cluster}
use Rattle.cluster_model.proofs.Lists.{all-both}
use Rattle.lease_owners.specs.Kept.{IsOwned}
use Rattle.run_promise.proofs.Upholding.{over-append}
use Rattle.leading_parts.specs.Alone.{LeaveAlone}
use Rattle.leading_parts.specs.Aside.{ServesOn}
use Rattle.leading_parts.proofs.Answering.{alone-back, alone-front}
use Rattle.leading_runs.proofs.Stages.{Phase}

-- ---- parts, one after another
module _ (head : HeadText) (member : Member) where
  abbrev N : ℕ
  N = member.id.number

  -- how far the member's turn has come, whatever it waits for
  abbrev pub Within : ℕ → Cluster → Type 0
  Within rank cluster = (number : ℕ) × Phase member rank number cluster

  -- these events leave the member alone
  abbrev pub Leave : Cluster → List Event → Type 0
  Leave cluster events = LeaveAlone N cluster events

  -- behind them its turn has come so far, and its server served on
  pub record Goes (P : Cluster → Type 0) (cluster : Cluster) (events : List Event) : Type 0 where
    pub good : IsOwned head (cluster_over cluster events)
    pub within : P (cluster_over cluster events)
    pub serves : AllAre (ServesOn N) events

  -- a part that finds the one finds the other behind it
  abbrev pub Keeps : (Cluster → Type 0) → (Cluster → Type 0) → (Cluster → List Event) → Type 0
  Keeps from to part = (cluster : Cluster) → IsOwned head cluster → from cluster → Leave cluster (part cluster)
      → Goes to cluster (part cluster)

  goes-both : (rank middle : Cluster → Type 0) (cluster : Cluster) (xs ys : List Event)
      → Goes middle cluster xs → Goes rank (cluster_over cluster xs) ys → Goes rank cluster (xs ++ ys)
  goes-both rank middle cluster xs ys first second = record {
    good = subst (IsOwned head) (sym (over-append cluster xs ys)) second.good;
    within = subst rank (sym (over-append cluster xs ys)) second.within;
    serves = all-both (ServesOn N) xs ys first.serves second.serves;
  }

  pub keeps-then : (from middle to : Cluster → Type 0) (first second : Cluster → List Event) → Keeps from middle first
      → Keeps middle to second → Keeps from to (λ cluster. events_then cluster (first cluster) second)
  keeps-then from middle to first second one other cluster good within leave =
      let xs : List Event = first cluster in
      let ys : List Event = second (cluster_over cluster xs) in
      let goes = one cluster good within (alone-front N cluster xs ys leave) in
      goes-both to middle cluster xs ys goes
      (other (cluster_over cluster xs) goes.good goes.within (alone-back N cluster xs ys leave))

  pub goes-none : (rank : Cluster → Type 0) (cluster : Cluster) → IsOwned head cluster
      → rank cluster → Goes rank cluster []
  goes-none rank cluster good within = record {
    good = good;
    within = within;
    serves = tt;
  }

  pub keeps-each : {X : Type 0} (rank : Cluster → Type 0) (part : Cluster → X → List Event)
      → ((x : X) → Keeps rank rank (λ cluster. part cluster x)) → (xs : List X)
      → Keeps rank rank (λ cluster. each part cluster xs)
  keeps-each rank part all [] cluster good within leave = goes-none rank cluster good within
  keeps-each rank part all (x ∷ xs) cluster good within leave =
      keeps-then rank rank rank (λ c. part c x) (λ c. each part c xs) (all x) (keeps-each rank part all xs)
      cluster good within leave

  -- ---- rounds
  module _ (round : (rank : ℕ) → rank ≤ 6 → Keeps (Within (suc rank)) (Within rank) round_events) where
    no-way : false ≡ true → ⊥
    no-way e = cc

    none-happens : (events : List Event) → is_empty events ≡ true → events ≡ []
    none-happens [] e = refl
    none-happens (x ∷ xs) e = absurd (no-way e)

    less-by : (k : ℕ) → suc k ≤ 7 → k ≤ 6
    less-by k less = omega (arith, less)

    -- a round in which nothing happens finds the turn over
    rests : (rank : ℕ) → rank ≤ 7 → (cluster : Cluster) → IsOwned head cluster
        → Within rank cluster → round_events cluster ≡ [] → Leave cluster [] → Within 0 cluster
    rests zero most cluster good within none leave = within
    rests (suc k) most cluster good within none leave =
        let goes = round k (less-by k most) cluster good within
        (subst (Leave cluster) (sym none) leave) in
        let now : Within k cluster =
        subst (λ (events : List Event). Within k (cluster_over cluster events)) none goes.within in
        rests k (omega (arith, most)) cluster good now none leave

    round-zero : Keeps (Within 0) (Within 0) round_events
    round-zero cluster good within leave =
        round 0 (omega arith) cluster good (within.0, raised within.1) leave
      where
        raised : Phase member 0 within.0 cluster → Phase member 1 within.0 cluster
        raised phase = record {
          seen = phase.seen;
          stands = phase.stands;
          stage = phase.stage;
          numbered = phase.numbered;
          ranked = omega (arith, phase.ranked);
          flying = phase.flying;
          only = phase.only;
          older = phase.older;
        }

    rounds-by : (rank to : ℕ) (more : Cluster → List Event) (cluster : Cluster) (test : Bool)
        → is_empty (round_events cluster) ≡ test → rank ≤ 7 → IsOwned head cluster → Within rank cluster
        → (Leave cluster (round_events cluster) → Goes (Within to) cluster (round_events cluster))
        → Keeps (Within to) (Within 0) more
        → Leave cluster (cond test [] (events_then cluster (round_events cluster) more))
        → Goes (Within 0) cluster (cond test [] (events_then cluster (round_events cluster) more))
    rounds-by rank to more cluster true none few good within first second leave =
        goes-none (Within 0) cluster good
        (rests rank few cluster good within (none-happens (round_events cluster) none) leave)
    rounds-by rank to more cluster false some few good within first second leave =
        let xs : List Event = round_events cluster in
        let ys : List Event = more (cluster_over cluster xs) in
        let goes = first (alone-front N cluster xs ys leave) in
        goes-both (Within 0) (Within to) cluster xs ys goes
        (second (cluster_over cluster xs) goes.good goes.within (alone-back N cluster xs ys leave))

    pub rounds-end : (rank most : ℕ) → rank ≤ most → rank ≤ 7
        → Keeps (Within rank) (Within 0) (λ cluster. rounds_events cluster most)
    unfolding rounds_events
    rounds-end zero zero less few cluster good within leave = goes-none (Within 0) cluster good within
    rounds-end (suc k) zero less few cluster good within leave = absurd (omega (arith, less))
    rounds-end zero (suc most) less few cluster good within leave =
        rounds-by 0 0 (λ later. rounds_events later most) cluster (is_empty (round_events cluster)) refl few good
        within (round-zero cluster good within) (rounds-end zero most (omega arith) few) leave
    rounds-end (suc k) (suc most) less few cluster good within leave =
        rounds-by (suc k) k (λ later. rounds_events later most) cluster (is_empty (round_events cluster)) refl few
        good within (round k (less-by k few) cluster good within)
        (rounds-end k most (omega (arith, less)) (omega (arith, few))) leave
