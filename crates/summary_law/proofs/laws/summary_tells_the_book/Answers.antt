use Rattle.summary_law.proofs.Standing.{stands-first, stands-more, stands-all}
use Rattle.summary_law.proofs.laws.summary_tells_the_book.Goals as goal

pub returns : goal.returns
returns c = record { first = stands-first; each = stands-more; all = stands-all }
