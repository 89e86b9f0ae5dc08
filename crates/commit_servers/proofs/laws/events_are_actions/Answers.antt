use Rattle.commit_servers.proofs.Acting.{leads-to, actions-of}
use Rattle.commit_servers.proofs.Beginning.{killed-shown}
use Rattle.commit_servers.proofs.laws.events_are_actions.Goals as goal

pub returns : goal.returns
returns c = record {
  one = leads-to;
  all = actions-of;
  killed = λ setup past volatile_states m. (tt, killed-shown setup past volatile_states m);
}
