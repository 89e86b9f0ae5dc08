use Rattle.summary_law.proofs.Listing.{are-listed, named-first, named-more, named-step}
use Rattle.summary_law.proofs.laws.writers_are_listed.Goals as goal

pub returns : goal.returns
returns c = record { listed = are-listed; first = named-first; each = named-more; step = named-step }
