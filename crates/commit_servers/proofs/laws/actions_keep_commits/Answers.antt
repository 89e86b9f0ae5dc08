use Rattle.commit_servers.proofs.Kept.{sound-over, keeps-inside, change-once}
use Rattle.commit_servers.proofs.laws.actions_keep_commits.Goals as goal

pub returns : goal.returns
returns c = record { carried = sound-over; inside = keeps-inside; once = change-once }
