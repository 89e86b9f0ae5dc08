use Rattle.leading_law.proofs.Inputs.{drops-it, drops-peers, goes-on, leads-on-at, numbered-ask, numbered-failsafe, settles-granted, settles-refused, sleeps-on, takes-turn, waits-on}
use Rattle.leading_law.proofs.laws.a_leaders_inputs_in_the_cluster.Goals as goal

pub returns : goal.returns
returns c = record {
  turns = takes-turn;
  sleeps = sleeps-on;
  waits = waits-on;
  renews = goes-on;
  feeds = leads-on-at;
  drops = drops-it;
  peers = drops-peers;
  syncs = settles-granted;
  unsynced = settles-refused;
  answers = λ member cluster process o number carried numbers found stands leads flies to.
      numbered-ask member cluster process o number carried numbers found stands leads flies to;
  refuses = λ member cluster process o number carried numbers found stands leads flies to.
      numbered-failsafe member cluster process o number carried numbers found stands leads flies to;
}
