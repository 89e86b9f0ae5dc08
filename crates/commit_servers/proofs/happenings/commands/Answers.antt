use Rattle.commit_servers.proofs.Commits.{commit-may}
use Rattle.commit_servers.proofs.Completions.{crash-may, freezing-may, slow-may}
use Rattle.commit_servers.proofs.happenings.commands.Goals as goal

pub returns : goal.returns
returns c = record { commit = commit-may; crash = crash-may; freeze = freezing-may; slow = slow-may }
