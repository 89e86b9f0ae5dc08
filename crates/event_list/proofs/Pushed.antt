-- What a list keeps after one more event.
use Rattle.std.proofs.Common.{◌≡◌, ℕ, ◌+◌, ◌<◌, ◌≤◌, ◌||◌, nat_lt, not, if◌then◌else◌, Bool, true, false, List, [], ◌∷◌, ◌++◌, length, length-append, drop, arith, refl, ap, sym, ◌∙◌, inl, inr, ◌⊎◌}
use Rattle.std.specs.List.{list_any}
use Rattle.std.proofs.lemmas.Bool.{lt-ltb, le-ltb}
use Rattle.std.proofs.lemmas.List.{drop-append-le, drop_all}
use Rattle.std.proofs.lemmas.List.Elements.{filter-append}
use Rattle.std.proofs.lemmas.List.Folds.{list_any-append}
use Rattle.event_book.specs.declared.event.Event.{Event}
use Rattle.event_book.specs.declared.event.EventKind.{EventKind}
use Rattle.event_list.specs.Kept.{IsListOf, kept_more, kept_of}
use Rattle.event_list.specs.Marks.{IsLast, rouses_agents, stirs_replicas}
use Rattle.event_list.specs.Silence.{is_silent}

-- what is kept grows by what the event adds
pub kept_of-push : (traced : Bool) (events : List Event) (event : Event)
    → kept_of traced (events ++ event ∷ []) ≡ kept_of traced events ++ kept_more traced (kept_of traced events) event
kept_of-push traced [] event = refl
kept_of-push traced (first ∷ events) event =
    ap (λ (es : List Event). first ∷ es) (filter-append (λ e. not (is_silent traced e.kind)) events (event ∷ []))

-- no event passes a test
pub none-last : (test : EventKind → Bool) → IsLast test [] 0
none-last test = record {
  behind = λ from. ap (list_any (λ (e : Event). test e.kind)) (drop_all from [] (omega arith))
      ∙ sym (le-ltb from 0 (omega arith));
}

passes-or : (passes : Bool) (before : Bool) → (before || (passes || false)) ≡ (if passes then true else before)
passes-or true true = refl
passes-or true false = refl
passes-or false true = refl
passes-or false false = refl

-- a number lies below the next one, or below the number before
below-next : (from count last : ℕ) (passes : Bool) → from ≤ count
    → (if passes then true else nat_lt from last) ≡ nat_lt from (if passes then count + 1 else last)
below-next from count last true within = sym (lt-ltb from (count + 1) (omega (arith, within)))
below-next from count last false within = refl

beyond : (from count last : ℕ) (passes : Bool) → count < from → false ≡ nat_lt from last
    → false ≡ nat_lt from (if passes then count + 1 else last)
beyond from count last true past is = sym (le-ltb from (count + 1) (omega (arith, past)))
beyond from count last false past is = is

-- the last event that passes the test is this one, where it does
pub IsLast-push : (test : EventKind → Bool) (events : List Event) (event : Event) (count last : ℕ)
    → count ≡ length events → IsLast test events last
    → IsLast test (events ++ event ∷ []) (if test event.kind then count + 1 else last)
IsLast-push test events event count last counts is = record { behind = λ from. by-place from (splits from count) }
  where
    passes : Event → Bool
    passes e = test e.kind

    splits : (from n : ℕ) → (from ≤ n) ⊎ (n < from)
    splits from n = grind arith

    by-place : (from : ℕ) → (from ≤ count) ⊎ (count < from)
        → list_any passes (drop from (events ++ event ∷ [])) ≡ nat_lt from (if test event.kind then count + 1 else last)
    by-place from (inl within) =
        ap (list_any passes) (drop-append-le from events (event ∷ []) (omega (arith, within, counts)))
        ∙ list_any-append passes (drop from events) (event ∷ [])
        ∙ ap (λ (b : Bool). b || (test event.kind || false)) (is.behind from)
        ∙ passes-or (test event.kind) (nat_lt from last)
        ∙ below-next from count last (test event.kind) within
    by-place from (inr past) =
        ap (list_any passes)
        (drop_all from (events ++ event ∷ []) (omega (arith, past, counts, length-append events (event ∷ []))))
        ∙ beyond from count last (test event.kind) past
        (sym (ap (list_any passes) (drop_all from events (omega (arith, past, counts)))) ∙ is.behind from)

-- nothing happened
pub IsListOf-none : (traced : Bool) → IsListOf [] traced 0 0 0 []
IsListOf-none traced =
    record { holds = refl; counted = refl; stirs = none-last stirs_replicas; rouses = none-last rouses_agents }

-- one more event
pub IsListOf-push : (kept longer : List Event) (traced : Bool) (count stirred roused : ℕ) (events : List Event)
    (event : Event) → IsListOf kept traced count stirred roused events → longer ≡ kept ++ kept_more traced kept event
    → IsListOf longer traced (count + 1) (if stirs_replicas event.kind then count + 1 else stirred)
    (if rouses_agents event.kind then count + 1 else roused) (events ++ event ∷ [])
IsListOf-push kept longer traced count stirred roused events event is longer_is = record {
  holds = longer_is ∙ ap (λ (k : List Event). k ++ kept_more traced k event) is.holds
      ∙ sym (kept_of-push traced events event);
  counted = omega (arith, is.counted, length-append events (event ∷ []));
  stirs = IsLast-push stirs_replicas events event count stirred is.counted is.stirs;
  rouses = IsLast-push rouses_agents events event count roused is.counted is.rouses;
}
