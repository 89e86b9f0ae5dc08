use Rattle.commit_servers.proofs.Acknowledging.{acknowledge-follow}
use Rattle.commit_servers.proofs.happenings.acknowledgements.Goals as goal

pub returns : goal.returns
returns c = acknowledge-follow
