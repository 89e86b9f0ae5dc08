use Rattle.lease_book.proofs.Machines.{grants-by, grants-in}
use Rattle.lease_book.proofs.laws.fed_by_grants.Goals as goal

pub returns : goal.returns
returns c = record { each = grants-by; book = grants-in }
