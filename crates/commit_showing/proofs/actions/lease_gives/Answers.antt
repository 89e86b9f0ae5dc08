use Rattle.commit_showing.proofs.FromLease.{same-lease, grant-present, grant-alone, grant-free, grant-absent, grant-holds}
use Rattle.commit_showing.proofs.actions.lease_gives.Goals as goal

pub returns : goal.returns
returns c = record {
  reads = same-lease;
  present = grant-present;
  alone = grant-alone;
  keyless = grant-free;
  leaderless = grant-absent;
  holds = grant-holds;
}
