use Rattle.std.proofs.Common.{◌≡◌, [], drop}
use Rattle.summary_model.specs.SummaryText.{sorted_from}
use Rattle.summary.proofs.closing.writer_names.Given as goal

abbrev pub invariant-loop-writer : goal.invariant-loop-writer
invariant-loop-writer l = sorted_from l.names.items (drop l.writer-index l.writers) ≡ sorted_from [] l.writers
