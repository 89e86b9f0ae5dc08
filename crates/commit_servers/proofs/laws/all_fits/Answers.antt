use Rattle.commit_servers.proofs.First.{fits-first}
use Rattle.commit_servers.proofs.Beginning.{fits-aside, fits-agents}
use Rattle.commit_servers.proofs.Kept.{others-by}
use Rattle.commit_servers.proofs.laws.all_fits.Goals as goal

pub returns : goal.returns
returns c = record { first = fits-first; aside = fits-aside; agents = fits-agents; others = others-by }
