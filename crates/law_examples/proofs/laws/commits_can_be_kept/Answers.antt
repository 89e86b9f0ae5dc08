use Rattle.law_examples.proofs.ExampleSynchronous as one
use Rattle.law_examples.proofs.QuorumStates as states
use Rattle.law_examples.proofs.ExampleQuorum as two
use Rattle.law_examples.proofs.laws.commits_can_be_kept.Goals as goal

pub returns : goal.returns
returns c = record {
  synchronous = (one.actions, one.allowed, one.writes, one.told);
  quorum = (states.actions, two.allowed, two.writes, two.told);
}
