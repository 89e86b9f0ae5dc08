-- Servers to which ticks stream nothing.
use Rattle.std.specs.Prelude.{Bool, true, false, List}
use Rattle.pat_base.specs.Changes.{with_changed}
use Rattle.event_book.specs.declared.event.EventKind.{EventKind}
use Rattle.event_book.specs.declared.event.EventKind.TheVariants as kinds
use Rattle.event_book.specs.declared.event.ServerEvent.TheVariants as servers

-- which servers are frozen after an event, by the number of their member
abbrev pub frozen_after : List Bool → EventKind → List Bool
frozen_after frozen (kinds.Server (servers.Frozen server)) = with_changed frozen server.id.number (λ before. true)
frozen_after frozen (kinds.Server (servers.Thawed server)) = with_changed frozen server.id.number (λ before. false)
frozen_after frozen _ = frozen
