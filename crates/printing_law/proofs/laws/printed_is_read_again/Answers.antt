use Rattle.printing_law.proofs.Events.{event-read}
use Rattle.printing_law.proofs.laws.printed_is_read_again.Goals as goal

pub returns : goal.returns
returns c trace event numbers = event-read trace event numbers
