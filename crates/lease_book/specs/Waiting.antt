-- Questions by their names: the member that asks, its incarnation and the number in that one.
use Rattle.std.specs.Prelude.{ℕ, ◌≡◌, ◌≤◌, Option, Some}
use Rattle.event_book.specs.declared.event.EventKind.{EventKind}
use Rattle.event_book.specs.declared.event.EventKind.TheVariants as kinds
use Rattle.event_book.specs.declared.event.MessageEvent.TheVariants.{Sent}
use Rattle.event_book.specs.declared.link.LinkEnd.{LinkEnd}
use Rattle.event_book.specs.declared.link.LinkEnd.TheVariants as ends
use Rattle.lease_model.specs.Leases.{Question}

-- a question of this name that was asked is this one
abbrev pub IsAskedOnce : (ℕ → Option Question) → Question → Type 0
IsAskedOnce asked question = (i : ℕ) (q : Question) → asked i ≡ Some q → q.member ≡ question.member
    → q.incarnation ≡ question.incarnation → q.sequence ≡ question.sequence → q ≡ question

-- in this incarnation the member asked under no number above this one
abbrev pub IsLastAsked : (ℕ → Option Question) → ℕ → ℕ → ℕ → Type 0
IsLastAsked asked m incarnation last =
    (i : ℕ) (q : Question) → asked i ≡ Some q → q.member ≡ m → q.incarnation ≡ incarnation → q.sequence ≤ last

-- the member asked in no incarnation after this one
abbrev pub IsLastRun : (ℕ → Option Question) → ℕ → ℕ → Type 0
IsLastRun asked m runs = (i : ℕ) (q : Question) → asked i ≡ Some q → q.member ≡ m → q.incarnation ≤ runs

-- where a message is a question to the key store, this holds of its member, incarnation and number
abbrev pub AsksFrom : (ℕ → ℕ → ℕ → Type 0) → LinkEnd → LinkEnd → ℕ → ℕ → Type 0
AsksFrom P (ends.Member by) ends.Store incarnation sequence = P by.id.number incarnation sequence
AsksFrom P _ to incarnation sequence = Unit {0}

-- of the question that this event sends, if it sends one, this holds by its name
abbrev pub AsksOnly : (ℕ → ℕ → ℕ → Type 0) → EventKind → Type 0
AsksOnly P (kinds.Message (Sent number message)) =
    AsksFrom P message.from message.to message.incarnation message.sequence
AsksOnly P _ = Unit {0}
