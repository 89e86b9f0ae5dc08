-- A part of a step on its way: what is left, from the cluster as it is, completes the whole.
use Rattle.std.proofs.Common.{◌≡◌, ℕ, ◌+◌, ◌-◌, ◌*◌, ◌≤◌, ◌<◌, Bool, true, false, List, [], ◌∷◌, ◌++◌, Some, length, length-append, drop, arith, refl, ◌∙◌, ap, sym, subst, suc}
use Rattle.std.specs.Prelude.{slice_get}
use Rattle.std.proofs.lemmas.List.{drop_all}
use Rattle.event_book.specs.declared.event.Event.{Event}
use Rattle.event_book.specs.declared.member.Member.{Member}
use Rattle.event_list.specs.Listed.{Listed, ◌+++◌}
use Rattle.event_list.proofs.Appended.{appended-nil, appended_assoc}
use Rattle.cluster_model.specs.declared.step.Step.{Step}
use Rattle.cluster_model.specs.Cluster.{cluster_over}
use Rattle.cluster_model.specs.State.{Cluster}
use Rattle.cluster_model.specs.Next.{round_events, rounds_events, step_events}
use Rattle.cluster_model.specs.Parts.{each, events_then, is_empty}
use Rattle.cluster_model.specs.Limits.{most_rounds}
use Rattle.world_model.specs.Room.{HasRoom, round_cost, step_cost}
use Rattle.world_model.specs.Emits.{Emits}
use Rattle.world_model.proofs.Rooms.{HasRoom-fewer}
use Rattle.world_model.proofs.Silence.{first-empty}
use Rattle.pat_base.proofs.Lists.{drop-get}
use Rattle.world_model.proofs.Taking.{members-stay, cluster_over-append, Emits-weaker}

-- what happened so far, and the rest, are the whole; the rest has room
pub record Left (start cluster : Cluster) (had has : Listed) (whole rest : List Event) (cost left : ℕ) : Type 0 where
  pub state : cluster_over cluster rest ≡ cluster_over start whole
  pub event : has +++ rest ≡ had +++ whole
  pub room : (more : ℕ) → HasRoom start (cost + more) → HasRoom cluster (left + more)

pub Left-more : (start cluster next : Cluster) (had has longer : Listed) (whole events : List Event)
    (more : Cluster → List Event) (rest : List Event) (cost left one fewer : ℕ)
    → Left start cluster had has whole rest cost left → rest ≡ events_then cluster events more
    → Emits cluster next has longer events one → one + fewer ≤ left
    → Left start next had longer whole (more next) cost fewer
Left-more start cluster next had has longer whole events more rest cost left one fewer l is took enough = record {
  state = ap (λ c. cluster_over c (more c)) took.state
      ∙ sym (cluster_over-append cluster events (more (cluster_over cluster events)))
      ∙ ap (cluster_over cluster) (sym is) ∙ l.state;
  event = ap (λ es. es +++ more next) took.event ∙ appended_assoc has events (more next)
      ∙ ap (λ c. has +++ (events ++ more c)) took.state ∙ ap (λ es. has +++ es) (sym is) ∙ l.event;
  room = λ spare room. took.room (fewer + spare)
      (HasRoom-fewer cluster (left + spare) (one + (fewer + spare)) (omega (arith, enough)) (l.room spare room));
}

pub Left-end : (start cluster : Cluster) (had has : Listed) (whole rest : List Event) (cost left : ℕ)
    → Left start cluster had has whole rest cost left → rest ≡ [] → Emits start cluster had has whole cost
Left-end start cluster had has whole rest cost left l none = record {
  state = ap (cluster_over cluster) (sym none) ∙ l.state;
  event = sym (appended-nil has) ∙ ap (λ es. has +++ es) (sym none) ∙ l.event;
  room = λ more room. HasRoom-fewer cluster (left + more) more (omega arith) (l.room more room);
}

-- there is room for the next part of what is left
pub Left-room : (start cluster : Cluster) (had has : Listed) (whole rest : List Event) (cost left one : ℕ)
    → Left start cluster had has whole rest cost left → HasRoom start cost → one ≤ left → HasRoom cluster one
Left-room start cluster had has whole rest cost left one l room enough = HasRoom-fewer cluster (left + 0) one
    (omega (arith, enough)) (l.room 0 (HasRoom-fewer start cost (cost + 0) (omega arith) room))

-- of these, so many have come: the others are left, and each brings so many events at most
pub record EachLeft {X : Type 0} (events : Cluster → X → List Event) (one : ℕ) (start cluster : Cluster)
    (had has : Listed) (xs : List X) (at : ℕ) : Type 0 where
  pub left : Left start cluster had has (each events start xs) (each events cluster (drop at xs))
      (one * length xs) (one * length (drop at xs))

fewer-left : (X : Type 0) (xs : List X) (at : ℕ) (x : X) → slice_get xs at ≡ Some x
    → length (drop at xs) ≡ 1 + length (drop (at + 1) xs)
fewer-left X xs at x is = omega (arith, ap length (drop-get X xs at x is))

-- the next of them comes
pub EachLeft-more : (X : Type 0) (events : Cluster → X → List Event) (one : ℕ) (start cluster next : Cluster)
    (had has longer : Listed) (xs : List X) (at : ℕ) (x : X)
    → EachLeft events one start cluster had has xs at → slice_get xs at ≡ Some x
    → Emits cluster next has longer (events cluster x) one → EachLeft events one start next had longer xs (at + 1)
EachLeft-more X events one start cluster next had has longer xs at x l is took = record {
  left = Left-more start cluster next had has longer (each events start xs) (events cluster x)
      (λ later. each events later (drop (at + 1) xs)) (each events cluster (drop at xs)) (one * length xs)
      (one * length (drop at xs)) one (one * length (drop (at + 1) xs)) l.left
      (ap (each events cluster) (drop-get X xs at x is)) took (rw (fewer-left X xs at x is) (omega arith));
}

-- there is room for it
pub EachLeft-room : (X : Type 0) (events : Cluster → X → List Event) (one : ℕ) (start cluster : Cluster)
    (had has : Listed) (xs : List X) (at : ℕ) (x : X)
    → EachLeft events one start cluster had has xs at → slice_get xs at ≡ Some x
    → HasRoom start (one * length xs) → HasRoom cluster one
EachLeft-room X events one start cluster had has xs at x l is room =
    Left-room start cluster had has (each events start xs) (each events cluster (drop at xs))
    (one * length xs) (one * length (drop at xs)) one l.left room (rw (fewer-left X xs at x is) (omega arith))

-- none of them is left
pub EachLeft-end : (X : Type 0) (events : Cluster → X → List Event) (one : ℕ) (start cluster : Cluster)
    (had has : Listed) (xs : List X) (at : ℕ)
    → EachLeft events one start cluster had has xs at → length xs ≤ at
    → Emits start cluster had has (each events start xs) (one * length xs)
EachLeft-end X events one start cluster had has xs at l h =
    Left-end start cluster had has (each events start xs) (each events cluster (drop at xs)) (one * length xs)
    (one * length (drop at xs)) l.left (ap (each events cluster) (drop_all at xs h))

-- meanwhile the members stay
pub EachLeft-members : (X : Type 0) (events : Cluster → X → List Event) (one : ℕ) (start cluster : Cluster)
    (had has : Listed) (xs : List X) (at : ℕ)
    → EachLeft events one start cluster had has xs at → cluster.facts.members ≡ start.facts.members
EachLeft-members X events one start cluster had has xs at l =
    sym (members-stay cluster (each events cluster (drop at xs)))
    ∙ ap (λ (c : Cluster). c.facts.members) l.left.state ∙ members-stay start (each events start xs)

-- so the member that is at a place was there from the start
pub EachLeft-place : (events : Cluster → Member → List Event) (one : ℕ) (start cluster : Cluster)
    (had has : Listed) (at : ℕ) (member : Member)
    → EachLeft events one start cluster had has start.facts.members at
    → slice_get cluster.facts.members at ≡ Some member → slice_get start.facts.members at ≡ Some member
EachLeft-place events one start cluster had has at member l is =
    subst (λ (ms : List Member). slice_get ms at ≡ Some member)
    (EachLeft-members Member events one start cluster had has start.facts.members at l) is

rounds_events-one : (cluster : Cluster) (n k : ℕ) → n ≡ suc k → is_empty (round_events cluster) ≡ false
    → rounds_events cluster n ≡ events_then cluster (round_events cluster) (λ later. rounds_events later k)
unfolding rounds_events
rounds_events-one cluster n k e some = rw e (rw some refl)

rounds_events-last : (cluster : Cluster) (n k : ℕ) → n ≡ suc k → is_empty (round_events cluster) ≡ true
    → rounds_events cluster n ≡ []
unfolding rounds_events
rounds_events-last cluster n k e none = rw e (rw none refl)

-- where nothing happens in a round, nothing happens in all of them
pub rounds_events-still : (cluster : Cluster) → round_events cluster ≡ [] → rounds_events cluster most_rounds ≡ []
rounds_events-still cluster none = rounds_events-last cluster most_rounds 39 refl (ap is_empty none)

pub empty-of : (events : List Event) → length events ≡ 0 → (is_empty events ≡ true) × (events ≡ [])
empty-of [] e = (refl, refl)
empty-of (event ∷ events) e = absurd (omega (arith, e))

empty-events : (events : List Event) → is_empty events ≡ true → events ≡ []
empty-events [] e = refl
empty-events (event ∷ events) e = absurd (no-way e)
  where
    no-way : false ≡ true → ⊥
    no-way e = cc

not-empty : (events : List Event) → (length events ≡ 0 → ⊥) → is_empty events ≡ false
not-empty [] e = absurd (e refl)
not-empty (event ∷ events) e = refl

silent-if : (cluster : Cluster) (is_silent : Bool) → is_empty (round_events cluster) ≡ is_silent
    → rounds_events cluster most_rounds ≡ [] → round_events cluster ≡ []
silent-if cluster true is none = empty-events (round_events cluster) is
silent-if cluster false is none =
    (first-empty (round_events cluster) (rounds_events (cluster_over cluster (round_events cluster)) 39)
    (sym (rounds_events-one cluster most_rounds 39 refl is) ∙ none)).0

-- where nothing happens in all rounds, nothing happens in the first
pub rounds_events-silent : (cluster : Cluster) → rounds_events cluster most_rounds ≡ [] → round_events cluster ≡ []
rounds_events-silent cluster none = silent-if cluster (is_empty (round_events cluster)) refl none

-- a round in which something happened, and then the rounds that may follow
pub rounds_events-next : (cluster : Cluster) (at : ℕ) (had has : Listed) → at < most_rounds
    → has ≡ had +++ round_events cluster → (length has.items ≡ length had.items → ⊥)
    → rounds_events cluster (most_rounds - at)
    ≡ events_then cluster (round_events cluster) (λ later. rounds_events later (most_rounds - (at + 1)))
rounds_events-next cluster at had has h is grew =
    rounds_events-one cluster (most_rounds - at) (most_rounds - (at + 1)) (omega (arith, h))
    (not-empty (round_events cluster)
    (λ e.
    grew (omega (arith, ap (λ (l : Listed). length l.items) is, length-append had.items (round_events cluster), e))))

-- nothing happened in a round, nor would in the next
pub record IsStill (cluster next : Cluster) (has longer : Listed) : Type 0 where
  pub same : next ≡ cluster
  pub written : longer ≡ has
  pub empty : is_empty (round_events cluster) ≡ true
  pub next_empty : round_events next ≡ []

pub round_events-still : (cluster next : Cluster) (has longer : Listed)
    → Emits cluster next has longer (round_events cluster) round_cost → length longer.items ≡ length has.items
    → IsStill cluster next has longer
round_events-still cluster next has longer took same =
    let none = empty-of (round_events cluster)
    (omega
    (arith, ap (λ (l : Listed). length l.items) took.event, length-append has.items (round_events cluster), same)) in
    let state : next ≡ cluster = took.state ∙ ap (cluster_over cluster) none.1 in
    record {
      same = state;
      written = took.event ∙ ap (λ es. has +++ es) none.1 ∙ appended-nil has;
      empty = none.0;
      next_empty = ap round_events state ∙ none.1;
    }

-- such a round is the last
pub rounds_events-done : (start cluster next : Cluster) (had has longer : Listed) (whole : List Event)
    (at cost left : ℕ) → Left start cluster had has whole (rounds_events cluster (most_rounds - at)) cost left
    → at < most_rounds
    → IsStill cluster next has longer → Emits start next had longer whole cost
rounds_events-done start cluster next had has longer whole at cost left l h still =
    let last : rounds_events cluster (most_rounds - at) ≡ [] =
    rounds_events-last cluster (most_rounds - at) (most_rounds - (at + 1)) (omega (arith, h)) still.empty in
    rw (still.same, still.written)
    (Left-end start cluster had has whole (rounds_events cluster (most_rounds - at)) cost left l last)

rounds_events-none : (cluster : Cluster) (n : ℕ) → n ≡ 0 → rounds_events cluster n ≡ []
unfolding rounds_events
rounds_events-none cluster n e = rw e refl

pub rounds_events-end : (cluster : Cluster) (at : ℕ) → most_rounds ≤ at → rounds_events cluster (most_rounds - at) ≡ []
rounds_events-end cluster at h = rounds_events-none cluster (most_rounds - at) (omega (arith, h))

-- what happens in a step, of the step as it was read
pub stepped : (cluster after : Cluster) (had has : Listed) (read step : Step) (cost : ℕ) → read ≡ step
    → Emits cluster after had has (step_events cluster step) cost → cost ≤ step_cost
    → Emits cluster after had has (step_events cluster read) step_cost
stepped cluster after had has read step cost is took enough =
    subst (λ (s : Step). Emits cluster after had has (step_events cluster s) step_cost) (sym is)
    (Emits-weaker cluster after had has (step_events cluster step) cost step_cost took enough)
