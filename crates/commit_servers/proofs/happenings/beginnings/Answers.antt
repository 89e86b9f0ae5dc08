use Rattle.commit_servers.proofs.Beginning.{begins-ahead}
use Rattle.commit_servers.proofs.happenings.beginnings.Goals as goal

pub returns : goal.returns
returns c = begins-ahead
