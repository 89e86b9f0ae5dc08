use Rattle.commit_servers.proofs.Acting.{met-in, met-from}
use Rattle.commit_servers.proofs.laws.required_is_met.Goals as goal

pub returns : goal.returns
returns c = record { met = met-in; sets = met-from }
