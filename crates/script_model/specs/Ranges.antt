-- Numbers of commands, with their ranges.
use Rattle.std.specs.Prelude.{ℕ, ◌≡◌, nat_le, Bool, true, false, Option, Some, None, refl}
use Rattle.std.proofs.lemmas.Bool.{leb-true}
use Rattle.script_model.specs.Bounds.{longest_commit, longest_delay}
use Rattle.script_model.specs.declared.ranges.CommitSize.{CommitSize}
use Rattle.script_model.specs.declared.ranges.Delay.{Delay}

-- a commit, by the tests of its range
unfoldable pub commit_size_by : (number : ℕ) (some few : Bool) → nat_le 1 number ≡ some
    → nat_le number longest_commit ≡ few → Option CommitSize
commit_size_by number true true some few =
    Some (record { bytes = number; least = leb-true 1 number some; most = leb-true number longest_commit few })
commit_size_by number true false some few = None
commit_size_by number false many some few = None

-- a commit of so many bytes: 1 to 2 ^ 30
unfoldable pub commit_size_of : ℕ → Option CommitSize
commit_size_of number = commit_size_by number (nat_le 1 number) (nat_le number longest_commit) refl refl

-- a delay, by the test of its range
unfoldable pub delay_by : (number : ℕ) (few : Bool) → nat_le number longest_delay ≡ few → Option Delay
delay_by number true few = Some (record { ticks = number; most = leb-true number longest_delay few })
delay_by number false few = None

-- a delay of so many ticks: at most 100,000
unfoldable pub delay_of : ℕ → Option Delay
delay_of number = delay_by number (nat_le number longest_delay) refl
