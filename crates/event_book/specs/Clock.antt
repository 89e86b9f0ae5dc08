-- The clock of a book.
use Rattle.std.specs.Prelude.{ℕ, ◌+◌}
use Rattle.event_book.specs.declared.event.EventKind.{EventKind}
use Rattle.event_book.specs.declared.event.EventKind.TheVariants as kinds

-- the moment after an event
abbrev pub now_after : ℕ → EventKind → ℕ
now_after now kinds.Tick = now + 1
now_after now _ = now
