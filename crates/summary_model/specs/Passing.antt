-- Ticks that bring nothing else, and events that change nothing of a summary.
use Rattle.std.specs.Prelude.{ℕ, ◌≡◌, ◌+◌, Bool, true, false, List, [], ◌∷◌}
use Rattle.event_book.specs.declared.event.AgentEvent.TheVariants as agents
use Rattle.event_book.specs.declared.event.Event.{Event}
use Rattle.event_book.specs.declared.event.EventKind.{EventKind}
use Rattle.event_book.specs.declared.event.EventKind.TheVariants as kinds
use Rattle.event_book.specs.declared.event.ReplicationEvent.TheVariants as replications
use Rattle.summary_model.specs.Noting.{WatchFacts}
use Rattle.summary_model.specs.Sights.{SummaryFacts}

-- the events of a step are one tick
abbrev pub IsTickAlone : List Event → Type 0
IsTickAlone (event ∷ []) = event.kind ≡ kinds.Tick
IsTickAlone _ = ⊥

-- the same, so many ticks later
abbrev pub watch_later : WatchFacts → ℕ → WatchFacts
watch_later watch ticks = record watch {
  closing = record watch.closing { end = record { 0 = watch.closing.end.0 + ticks } };
}

-- the same, so many ticks later
abbrev pub summary_later : SummaryFacts → ℕ → SummaryFacts
summary_later facts ticks = record facts { watch = watch_later facts.watch ticks }

-- such an event changes nothing that a summary keeps, unless it stands before a loss that is told: a
-- message, what becomes of a log, how far one is confirmed, a note, a link, an agent that is woken
abbrev pub tells_nothing : EventKind → Bool
tells_nothing (kinds.Message happening) = true
tells_nothing (kinds.Log happening) = true
tells_nothing (kinds.Replication (replications.Confirmed server by end)) = true
tells_nothing (kinds.Note note) = true
tells_nothing (kinds.Link happening) = true
tells_nothing (kinds.Agent (agents.Woken agent)) = true
tells_nothing _ = false
