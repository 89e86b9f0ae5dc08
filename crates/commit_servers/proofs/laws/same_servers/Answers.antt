use Rattle.commit_servers.proofs.Matching.{same-first, same-by}
use Rattle.commit_servers.proofs.laws.same_servers.Goals as goal

pub returns : goal.returns
returns c = record { first = same-first; each = same-by }
