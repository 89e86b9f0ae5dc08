use Rattle.commit_servers.proofs.Repairing.{repair-may, repair-follow, wipe-may}
use Rattle.commit_servers.proofs.happenings.repairs.Goals as goal

pub returns : goal.returns
returns c = record { one = repair-may; events = repair-follow; wipe = wipe-may }
