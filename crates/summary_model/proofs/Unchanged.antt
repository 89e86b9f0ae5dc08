-- What events leave of the answers of a summary as it was.
use Rattle.std.proofs.Common.{◌≡◌, ℕ, Bool, true, false, List, Option, None, refl, ap}
use Rattle.pat_base.specs.declared.ticks.Ticks.{Ticks}
use Rattle.event_book.specs.declared.event.EventKind.{EventKind}
use Rattle.summary_model.specs.declared.answers.Breach.{Breach}
use Rattle.summary_model.specs.declared.answers.Premises.{Premises}
use Rattle.summary_model.specs.declared.answers.Premises.TheVariants as premises
use Rattle.summary_model.specs.declared.answers.Synchronous.{Synchronous}
use Rattle.summary_model.specs.declared.answers.Synchronous.TheVariants as synchronous
use Rattle.summary_model.specs.Noting.{breach_of, broken_by, broken_unless, keeps_mode, premises_after, synchronous_after}

pub premises-same : (met : Premises) (now : Ticks) (margins : List (Option Ticks)) (lateness : ℕ) (kind : EventKind)
    → breach_of margins lateness kind ≡ None → premises_after met now margins lateness kind ≡ met
premises-same premises.Met now margins lateness kind none = ap (λ (why : Option Breach). broken_by why now) none
premises-same (premises.Broken tick why) now margins lateness kind none = refl

pub synchronous-same : (mode : Synchronous) (now : Ticks) (kind : EventKind)
    → ((on : Bool) → keeps_mode on kind ≡ true) → synchronous_after mode now kind ≡ mode
synchronous-same synchronous.On now kind keeps =
    ap (λ (test : Bool). broken_unless test now synchronous.On) (keeps true)
synchronous-same synchronous.Off now kind keeps =
    ap (λ (test : Bool). broken_unless test now synchronous.Off) (keeps false)
synchronous-same (synchronous.Broken tick) now kind keeps = refl
