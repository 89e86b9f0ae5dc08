-- Fronts of a book with one more event.
use Rattle.std.proofs.Common.{◌≡◌, ℕ, ◌⊎◌, List, [], ◌∷◌, ◌++◌, length, Bool, true, false, length-append, arith, refl, sym, ap, subst, ◌∙◌, inl, inr}
use Rattle.pat_base.specs.declared.ticks.Ticks.{Ticks}
use Rattle.event_book.specs.declared.event.Event.{Event}
use Rattle.event_book.specs.Clock.{now_after}
use Rattle.lease_law.proofs.Runs.{no-cons, head-is, tail-is, cons-eq, assoc, none-more}
use Rattle.summary_model.specs.declared.answers.FirstMoment.{FirstMoment}
use Rattle.summary_model.specs.declared.answers.FirstMoment.TheVariants as firsts
use Rattle.summary_model.specs.Moments.{now_over, AreAllFronts, IsFirstBreak, IsToldFirst}
use Rattle.summary_model.specs.Noting.{first_if}

pub now-more : (now : ℕ) (book : List Event) (event : Event)
    → now_over now (book ++ event ∷ []) ≡ now_after (now_over now book) event.kind
now-more now [] event = refl
now-more now (x ∷ book) event = now-more (now_after now x.kind) book event

-- the only front of the empty book
pub front-of-none : (front rest : List Event) → front ++ rest ≡ [] → front ≡ []
front-of-none [] rest is = refl
front-of-none (x ∷ front) rest is = absurd (no-cons x (front ++ rest) is)

-- a front of a book with one more event is one of the book, or the whole
cut-more : (front rest book : List Event) (event : Event) → front ++ rest ≡ book ++ event ∷ []
    → ((more : List Event) × (front ++ more ≡ book)) ⊎ (front ≡ book ++ event ∷ [])
cut-more [] rest book event is = inl (book, refl)
cut-more (x ∷ front) rest [] event is =
    inr (cons-eq x event front [] (head-is x event (front ++ rest) [] is)
    (front-of-none front rest (tail-is x event (front ++ rest) [] is)))
cut-more (x ∷ front) rest (y ∷ book) event is =
    let first : x ≡ y = head-is x y (front ++ rest) (book ++ event ∷ []) is in
    elim (cut-more front rest book event (tail-is x y (front ++ rest) (book ++ event ∷ []) is)) [
      | inl c ↦ inl (c.0, cons-eq x y (front ++ c.0) book first c.1)
      | inr c ↦ inr (cons-eq x y front (book ++ event ∷ []) first c)
    ]

too-long : (xs ys : List Event) (x : Event) → xs ++ x ∷ ys ≡ xs → ⊥
too-long xs ys x is = let e = ap length is in let f = length-append xs (x ∷ ys) in omega (arith, e, f)

-- a shorter one is one of the book
pub shorter-more : (front more book : List Event) (x event : Event) → front ++ x ∷ more ≡ book ++ event ∷ []
    → (rest : List Event) × (front ++ rest ≡ book)
shorter-more front more book x event is =
    elim (cut-more front (x ∷ more) book event is) [ inl c ↦ c | inr c ↦ absurd (too-long front more x (is ∙ sym c)) ]

pub fronts-start : (P : List Event → Type 0) → P [] → AreAllFronts P []
fronts-start P p = record { each = λ front rest is. subst P (sym (front-of-none front rest is)) p }

pub fronts-more : (P : List Event → Type 0) (book : List Event) (event : Event) → AreAllFronts P book
    → P (book ++ event ∷ []) → AreAllFronts P (book ++ event ∷ [])
fronts-more P book event all p = record {
  each = λ front rest is.
      elim (cut-more front rest book event is) as (λ w.
      P front) [ inl c ↦ all.each front c.0 c.1 | inr c ↦ subst P (sym c) p ];
}

-- the whole is a front
pub whole-front : (P : List Event → Type 0) (book : List Event) → AreAllFronts P book → P book
whole-front P book all = all.each book [] (none-more book)

-- the book with this event is the first front that breaks
unfoldable pub breaks-now : (P : List Event → Type 0) (book : List Event) (event : Event) (moment : ℕ)
    → AreAllFronts P book → (P (book ++ event ∷ []) → ⊥) → moment ≡ now_over 0 (book ++ event ∷ [])
    → IsFirstBreak P (book ++ event ∷ []) moment
breaks-now P book event moment all broken is = record {
  front = book ++ event ∷ [];
  rest = [];
  whole = none-more (book ++ event ∷ []);
  earlier = λ shorter more x cut. let c = shorter-more shorter more book x event cut in all.each shorter c.0 c.1;
  broken = broken;
  moment_is = is;
}

unfoldable pub breaks-first : (P : List Event → Type 0) → (P [] → ⊥) → IsFirstBreak P [] 0
breaks-first P broken = record {
  front = [];
  rest = [];
  whole = refl;
  earlier = λ shorter more x cut. absurd (none-cut shorter more x cut);
  broken = broken;
  moment_is = refl;
}
  where
    none-cut : (shorter more : List Event) (x : Event) → shorter ++ x ∷ more ≡ [] → ⊥
    none-cut [] more x cut = no-cons x more cut
    none-cut (y ∷ shorter) more x cut = no-cons y (shorter ++ x ∷ more) cut

-- a break stays the first one
unfoldable pub breaks-more : (P : List Event → Type 0) (book : List Event) (event : Event) (moment : ℕ)
    → IsFirstBreak P book moment → IsFirstBreak P (book ++ event ∷ []) moment
breaks-more P book event moment b = record {
  front = b.front;
  rest = b.rest ++ event ∷ [];
  whole = sym (assoc b.front b.rest (event ∷ [])) ∙ ap (λ (l : List Event). l ++ event ∷ []) b.whole;
  earlier = b.earlier;
  broken = b.broken;
  moment_is = b.moment_is;
}

-- the answer after one more event that keeps it
pub told-kept : (P : List Event → Type 0) (book : List Event) (event : Event) (first : FirstMoment)
    → IsToldFirst P book first → (P book → P (book ++ event ∷ [])) → IsToldFirst P (book ++ event ∷ []) first
told-kept P book event firsts.Never told keeps = fronts-more P book event told (keeps (whole-front P book told))
told-kept P book event (firsts.At moment) told keeps = breaks-more P book event moment.0 told

-- the answer after one more event that is tested
pub told-tested : (P : List Event → Type 0) (book : List Event) (event : Event) (first : FirstMoment)
    (test : Bool) (now : Ticks) → IsToldFirst P book first → now.0 ≡ now_over 0 (book ++ event ∷ [])
    → (first ≡ firsts.Never → test ≡ true → P (book ++ event ∷ []) → ⊥)
    → (first ≡ firsts.Never → test ≡ false → P (book ++ event ∷ []))
    → IsToldFirst P (book ++ event ∷ []) (first_if first test now)
told-tested P book event (firsts.At moment) test now told is fails holds = breaks-more P book event moment.0 told
told-tested P book event firsts.Never true now told is fails holds =
    breaks-now P book event now.0 told (fails refl refl) is
told-tested P book event firsts.Never false now told is fails holds = fronts-more P book event told (holds refl refl)
