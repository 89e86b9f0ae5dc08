-- The premises are broken before two servers accept writes.
use Rattle.std.proofs.Common.{◌≡◌, ℕ, ◌≤◌, ◌⊎◌, List, [], ◌∷◌, ◌++◌, arith, Bool, true, refl, sym, ap, subst, ◌∙◌, inl, inr}
use Rattle.store_keys.specs.Settings.{Settings}
use Rattle.event_book.specs.declared.event.Event.{Event}
use Rattle.event_book.specs.declared.event.EventKind.{EventKind}
use Rattle.event_book.specs.declared.event.EventKind.TheVariants as kinds
use Rattle.event_book.specs.Clock.{now_after}
use Rattle.event_book.specs.Kept.{KeepsCommits}
use Rattle.event_book.specs.Logs.{Logs}
use Rattle.event_book.specs.Writers.{HasOneWriter}
use Rattle.lease_law.proofs.Runs.{head-is, tail-is, cons-eq}
use Rattle.summary_model.specs.declared.answers.Closing.{Closing}
use Rattle.summary_model.specs.declared.answers.FirstMoment.{FirstMoment}
use Rattle.summary_model.specs.declared.answers.FirstMoment.TheVariants as firsts
use Rattle.summary_model.specs.declared.answers.Premises.{Premises}
use Rattle.summary_model.specs.declared.answers.Premises.TheVariants as premises
use Rattle.summary_model.specs.declared.answers.Synchronous.{Synchronous}
use Rattle.summary_model.specs.declared.answers.Synchronous.TheVariants as synchronous
use Rattle.summary_model.specs.declared.answers.WatchOf.{WatchOf}
use Rattle.event_book.specs.Premises.{ArePremisesMet}
use Rattle.summary_model.specs.Claims.{AreCommitsGuarded, IsGuarded, IsSummaryOf, IsToldOfMode, IsToldOfPremises, KeepMode, margin_of, works_of}
use Rattle.summary_model.specs.Moments.{now_over, IsFirstBreak, IsToldFirst}

-- of two fronts of a book one is a front of the other
two-fronts : (xs rx ys ry : List Event) → xs ++ rx ≡ ys ++ ry
    → ((more : List Event) × (xs ++ more ≡ ys)) ⊎ ((event : Event) × (more : List Event) × (ys ++ event ∷ more ≡ xs))
two-fronts [] rx ys ry is = inl (ys, refl)
two-fronts (x ∷ xs) rx [] ry is = inr (x, xs, refl)
two-fronts (x ∷ xs) rx (y ∷ ys) ry is =
    let first : x ≡ y = head-is x y (xs ++ rx) (ys ++ ry) is in
    elim (two-fronts xs rx ys ry (tail-is x y (xs ++ rx) (ys ++ ry) is)) [
      | inl c ↦ inl (c.0, cons-eq x y (xs ++ c.0) ys first c.1)
      | inr c ↦ inr (c.0, c.1, cons-eq y x (ys ++ c.0 ∷ c.1) xs (sym first) c.2)
    ]

now-kind : (now : ℕ) (kind : EventKind) → now ≤ now_after now kind
now-kind now kinds.Tick = omega arith
now-kind now _ = omega arith

now-rises : (now : ℕ) (events : List Event) → now ≤ now_over now events
now-rises now [] = omega arith
now-rises now (event ∷ events) =
    let e = now-kind now event.kind in let f = now-rises (now_after now event.kind) events in omega (arith, e, f)

now-append : (now : ℕ) (xs ys : List Event) → now_over now (xs ++ ys) ≡ now_over (now_over now xs) ys
now-append now [] ys = refl
now-append now (x ∷ xs) ys = now-append (now_after now x.kind) xs ys

-- a front ends no later
front-before : (xs more ys : List Event) → xs ++ more ≡ ys → now_over 0 xs ≤ now_over 0 ys
front-before xs more ys is =
    let e = now-rises (now_over 0 xs) more in
    let f = sym (now-append 0 xs more) ∙ ap (now_over 0) is in
    omega (arith, e, f)

-- where a front that first breaks the one is none that keeps the other, the other was broken no later
no-later : (P Q : List Event → Type 0) (book : List Event) (tick moment : ℕ) (a : IsFirstBreak P book tick)
    (b : IsFirstBreak Q book moment) → (P b.front → ⊥) → tick ≤ moment
no-later P Q book tick moment a b broken =
    elim (two-fronts a.front a.rest b.front b.rest (a.whole ∙ sym b.whole)) [
      | inl c ↦
          (let e = front-before a.front c.0 b.front c.1 in let f = a.moment_is in let g = b.moment_is in
          omega (arith, e, f, g))
      | inr c ↦ absurd (broken (a.earlier b.front c.1 c.0 c.2))
    ]

pub guarded-at : (members : List WatchOf) (first : Settings) (book : List Event) (told : Premises) (two : FirstMoment)
    → IsToldOfPremises members first book told → IsToldFirst HasOneWriter book two
    → ((front rest : List Event) → front ++ rest ≡ book →
    ArePremisesMet (margin_of members) (works_of members) first front → HasOneWriter front)
    → IsGuarded told two
guarded-at members first book premises.Met firsts.Never all one guards = refl
guarded-at members first book premises.Met (firsts.At moment) all b guards =
    absurd (b.broken (guards b.front b.rest b.whole (all.each b.front b.rest b.whole)))
guarded-at members first book (premises.Broken tick why) firsts.Never a one guards = tt
guarded-at members first book (premises.Broken tick why) (firsts.At moment) a b guards =
    no-later (ArePremisesMet (margin_of members) (works_of members) first) HasOneWriter book tick.0 moment.0 a.break b
    (λ met. b.broken (guards b.front b.rest b.whole met))

pub guarded : (members : List WatchOf) (first : Settings) (logs : Logs) (book : List Event) (closing : Closing)
    → IsSummaryOf members first logs book closing
    → ((front rest : List Event) → front ++ rest ≡ book →
    ArePremisesMet (margin_of members) (works_of members) first front → HasOneWriter front)
    → IsGuarded closing.premises closing.two_writers
guarded members first logs book closing is guards =
    guarded-at members first book closing.premises closing.two_writers is.premises is.two_writers guards

-- each front that meets the premises and keeps the mode holds all commits
abbrev Guards : List WatchOf → Settings → Logs → List Event → Type 0
Guards members first logs book = (front rest : List Event) → front ++ rest ≡ book
    → ArePremisesMet (margin_of members) (works_of members) first front → KeepMode true front → KeepsCommits logs front

-- one of two breaks comes no later than the third
either : (P M Q : List Event → Type 0) (book : List Event) (tick other moment : ℕ) → IsFirstBreak P book tick
    → IsFirstBreak M book other → (b : IsFirstBreak Q book moment) → (P b.front → M b.front → ⊥)
    → (tick ≤ moment) ⊎ (other ≤ moment)
either P M Q book tick other moment a m b broken =
    elim (two-fronts a.front a.rest b.front b.rest (a.whole ∙ sym b.whole)) as (λ w.
    (tick ≤ moment) ⊎ (other ≤ moment)) [
      | inl c ↦
          inl (let e = front-before a.front c.0 b.front c.1 in let f = a.moment_is in let g = b.moment_is in
          omega (arith, e, f, g))
      | inr c ↦ inr (no-later M Q book other moment m b (broken (a.earlier b.front c.1 c.0 c.2)))
    ]

commits-at : (members : List WatchOf) (first : Settings) (logs : Logs) (book : List Event) (told : Premises)
    (mode : Synchronous) (lost : FirstMoment) → IsToldOfPremises members first book told
    → IsToldOfMode first book mode → IsToldFirst (KeepsCommits logs) book lost
    → first.config.synchronous_mode ≡ true → Guards members first logs book → AreCommitsGuarded told mode lost
commits-at members first logs book premises.Met synchronous.On firsts.Never a m b on guards = refl
commits-at members first logs book premises.Met synchronous.On (firsts.At moment) a m b on guards =
    absurd (b.broken (guards b.front b.rest b.whole (a.each b.front b.rest b.whole) (m.1.each b.front b.rest b.whole)))
commits-at members first logs book premises.Met synchronous.Off lost a m b on guards = tt
commits-at members first logs book premises.Met (synchronous.Broken other) firsts.Never a m b on guards = tt
commits-at members first logs book premises.Met (synchronous.Broken other) (firsts.At moment) a m b on guards =
    no-later (KeepMode first.config.synchronous_mode) (KeepsCommits logs) book other.0 moment.0 m b
    (λ keep.
    b.broken (guards b.front b.rest b.whole (a.each b.front b.rest b.whole)
    (subst (λ (mode : Bool). KeepMode mode b.front) on keep)))
commits-at members first logs book (premises.Broken tick why) synchronous.On firsts.Never a m b on guards = tt
commits-at members first logs book (premises.Broken tick why) synchronous.On (firsts.At moment) a m b on guards =
    no-later (ArePremisesMet (margin_of members) (works_of members) first) (KeepsCommits logs) book tick.0
    moment.0 a.break b (λ met. b.broken (guards b.front b.rest b.whole met (m.1.each b.front b.rest b.whole)))
commits-at members first logs book (premises.Broken tick why) synchronous.Off lost a m b on guards = tt
commits-at members first logs book (premises.Broken tick why) (synchronous.Broken other) firsts.Never a m b on guards =
    inl tt
commits-at members first logs book (premises.Broken tick why) (synchronous.Broken other) (firsts.At moment) a m b on
    guards =
    either (ArePremisesMet (margin_of members) (works_of members) first)
    (KeepMode first.config.synchronous_mode) (KeepsCommits logs) book tick.0 other.0 moment.0 a.break m b
    (λ met keep. b.broken (guards b.front b.rest b.whole met (subst (λ (mode : Bool). KeepMode mode b.front) on keep)))

pub commits-guarded : (members : List WatchOf) (first : Settings) (logs : Logs) (book : List Event) (closing : Closing)
    → IsSummaryOf members first logs book closing → first.config.synchronous_mode ≡ true
    → ((front rest : List Event) → front ++ rest ≡ book →
    ArePremisesMet (margin_of members) (works_of members) first front → KeepMode true front → KeepsCommits logs front)
    → AreCommitsGuarded closing.premises closing.synchronous closing.lost
commits-guarded members first logs book closing is on guards = commits-at members first logs book
    closing.premises closing.synchronous closing.lost is.premises is.synchronous is.lost on guards
