-- Requests by their names: the member that asks, its incarnation and the
-- number in that one. The law of one writer reads the name of each one.
use Rattle.std.specs.Prelude.{ℕ, ◌≡◌, Option, Some}
use Rattle.lease_model.specs.Leases.{Question}
use Rattle.commit_actions.specs.Past.{Query}

-- a request of this name that was asked is this one, as commits read it
abbrev pub IsAskedOnce : (ℕ → Option Question) → (ℕ → Query) → ℕ → ℕ → ℕ → Query → Type 0
IsAskedOnce named asked member incarnation sequence query =
    (i : ℕ) (question : Question) → named i ≡ Some question → question.member ≡ member
    → question.incarnation ≡ incarnation → question.sequence ≡ sequence → asked i ≡ query
