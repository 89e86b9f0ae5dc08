-- Each feed is as late as the events tell.
use Rattle.std.proofs.Common.{◌≡◌, ◌≤◌, ℕ, ◌-◌, ◌∙◌, List, [], ◌∷◌, ◌++◌, arith, refl, sym, subst, inl, inr}
use Rattle.pat_base.specs.declared.ticks.Ticks.{Ticks}
use Rattle.event_book.specs.declared.event.Event.{Event}
use Rattle.event_book.specs.declared.event.EventKind.{EventKind}
use Rattle.event_book.specs.declared.event.EventKind.TheVariants as kinds
use Rattle.event_book.specs.declared.event.WatchdogEvent.{WatchdogEvent}
use Rattle.event_book.specs.declared.event.WatchdogEvent.TheVariants as watchdogs
use Rattle.event_book.specs.declared.reason.Basis.{Basis}
use Rattle.event_book.specs.declared.reason.Basis.TheVariants as bases
use Rattle.event_book.specs.Premises.{Moments, moments_after}
use Rattle.lease_model.proofs.Tools.{some-is}
use Rattle.summary_model.specs.Moments.{now_over, moments_over}
use Rattle.summary_model.specs.Noting.{ticks_after}
use Rattle.summary_model.specs.Seeing.{IsLateness, IsLatenessOn}
use Rattle.summary_model.specs.Sights.{since_after, since_over, lateness_by_watchdog, lateness_at}
use Rattle.summary_model.specs.Telling.{IsMeasuredOn, IsMeasured, AreMeasured}

pub clock-over : (moments : Moments) (book : List Event)
    → (moments_over moments book).clock ≡ now_over moments.clock book
clock-over moments [] = refl
clock-over moments (x ∷ book) = clock-over (moments_after moments x.kind) book

pub moments-append : (moments : Moments) (xs ys : List Event)
    → moments_over moments (xs ++ ys) ≡ moments_over (moments_over moments xs) ys
moments-append moments [] ys = refl
moments-append moments (x ∷ xs) ys = moments-append (moments_after moments x.kind) xs ys

-- measured behind a book, as behind its moments
pub measured-behind : (moments : Moments) (since : Ticks) (book more events : List Event)
    → AreMeasured (moments_over (moments_over moments book) more) since events
    → AreMeasured (moments_over moments (book ++ more)) since events
measured-behind moments since book more events measured =
    subst (λ (m : Moments). AreMeasured m since events) (sym (moments-append moments book more)) measured

-- a front of measured events, and the rest
pub measured-front : (moments : Moments) (since : Ticks) (xs ys : List Event)
    → AreMeasured moments since (xs ++ ys) → AreMeasured moments since xs
measured-front moments since [] ys measured = tt
measured-front moments since (x ∷ xs) ys measured =
    (measured.0, measured-front (moments_after moments x.kind) (since_after since x.kind) xs ys measured.1)

pub measured-rest : (moments : Moments) (since : Ticks) (xs ys : List Event)
    → AreMeasured moments since (xs ++ ys) → AreMeasured (moments_over moments xs) (since_over since xs) ys
measured-rest moments since [] ys measured = measured
measured-rest moments since (x ∷ xs) ys measured =
    measured-rest (moments_after moments x.kind) (since_after since x.kind) xs ys measured.1

-- what is measured from the right moment is right
on-right : (moments : Moments) (m : ℕ) (basis : Basis) (since lateness : ℕ) → IsMeasuredOn moments m basis since
    → lateness ≡ moments.clock - since → IsLatenessOn moments m basis lateness
on-right moments m (bases.Grant answer) since lateness sent is = record {
  most = λ moment from. let same : since ≡ moment = some-is since moment (sym sent ∙ from) in omega (arith, same, is);
  one = inr (since, sent, is);
}
on-right moments m (bases.Acknowledgements members sequence) since lateness first is = record {
  most = λ moment from. let later = first.none_earlier moment from in omega (arith, later, is);
  one = elim first.one [ inl same ↦ inl (omega (arith, same, is)) | inr from ↦ inr (since, from, is) ];
}

-- there is one such lateness
no-later : (moments : Moments) (m : ℕ) (basis : Basis) (n k : ℕ) → IsLatenessOn moments m basis n
    → IsLatenessOn moments m basis k → n ≤ k
no-later moments m basis n k a b =
    elim a.one [
      | inl none ↦ omega (arith, none)
      | inr one ↦ (let most = b.most one.0 one.1 in let is = one.2 in omega (arith, most, is))
    ]

pub one-lateness : (moments : Moments) (m : ℕ) (basis : Basis) (n k : ℕ) → IsLatenessOn moments m basis n
    → IsLatenessOn moments m basis k → n ≡ k
one-lateness moments m basis n k a b =
    let e = no-later moments m basis n k a b in let f = no-later moments m basis k n b a in omega (arith, e, f)

watchdog-right : (moments : Moments) (clock since : Ticks) (happening : WatchdogEvent)
    → clock.0 ≡ moments.clock → IsMeasured moments since (kinds.Watchdog happening)
    → IsLateness moments (kinds.Watchdog happening) (lateness_by_watchdog clock since happening)
watchdog-right moments clock since (watchdogs.Armed member until answer) same measured =
    on-right moments member.id.number (bases.Grant answer) since.0 (clock.0 - since.0) measured (omega (arith, same))
watchdog-right moments clock since (watchdogs.Fed member until basis) same measured =
    on-right moments member.id.number basis since.0 (clock.0 - since.0) measured (omega (arith, same))
watchdog-right moments clock since _ same measured = tt

pub lateness-right : (moments : Moments) (clock since : Ticks) (kind : EventKind) → clock.0 ≡ moments.clock
    → IsMeasured moments since kind → IsLateness moments kind (lateness_at (ticks_after clock kind) since kind)
lateness-right moments clock since (kinds.Watchdog happening) same measured =
    watchdog-right moments clock since happening same measured
lateness-right moments clock since _ same measured = tt
