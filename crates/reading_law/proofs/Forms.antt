-- The words of each form are told apart.
use Rattle.std.proofs.Common.{◌≡◌, ℕ, true, List, ◌++◌, Some, refl}
use Rattle.run_reading.specs.declared.happening.Happening.{Happening}
use Rattle.run_reading.specs.declared.happening.Happening.TheVariants.{KeyExpires, IsRefused, Commits, IsAcknowledged, Answers, HandsOver, DoesNotRace, EndsServer, Diverges, IsRewound, Requires, PublishesSync}
use Rattle.run_reading.specs.Forms.{is_tail, named_of, tail_of, words_of}
use Rattle.reading_law.specs.Lines.{is_named}

-- words with what may follow them tell what they are the words of; text may follow as it is
pub form-read : (happening : Happening) (tail : List ℕ) → is_named happening ≡ true
    → is_tail (tail_of happening) tail ≡ true → named_of (words_of happening ++ tail) ≡ Some happening
unfolding named_of
form-read Answers tail is follows = refl
form-read HandsOver tail is follows = refl
form-read DoesNotRace tail is follows = refl
form-read EndsServer tail is follows = refl
form-read Diverges tail is follows = refl
form-read IsRewound tail is follows = refl
form-read Requires tail is follows = refl
form-read PublishesSync tail is follows = refl
form-read KeyExpires tail is follows = cc
form-read IsRefused tail is follows = cc
form-read Commits tail is follows = cc
form-read IsAcknowledged tail is follows = cc
form-read _ tail is follows = rw follows refl
