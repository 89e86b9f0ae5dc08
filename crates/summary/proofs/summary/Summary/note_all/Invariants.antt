use Rattle.std.proofs.Common.{◌≡◌, ◌+◌, ◌≤◌, length}
use Rattle.summary_model.specs.Sights.{noted_step}
use Rattle.summary.proofs.summary.Summary.note_all.Given as goal

abbrev pub invariant-loop-event : goal.invariant-loop-event
invariant-loop-event l =
    (noted_step l.self l.rest ≡ noted_step l.fn.self l.events)
    × (l.self.watch.closing.end.0 + length l.rest ≤ l.fn.self.watch.closing.end.0 + length l.events)
    × (l.self.watch.closing.acknowledged + length l.rest ≤ l.fn.self.watch.closing.acknowledged + length l.events)

abbrev pub decreases-loop-event : goal.decreases-loop-event
decreases-loop-event l = length l.rest
