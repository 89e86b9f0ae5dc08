use Rattle.commit_servers.proofs.Completions.{complete-follow, reset-follow}
use Rattle.commit_servers.proofs.happenings.ticks.Goals as goal

pub returns : goal.returns
returns c = record { resets = reset-follow; completions = complete-follow }
