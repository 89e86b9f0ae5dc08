use Rattle.commit_servers.proofs.Ordering.{begin-leaves, promote-leaves, replica-leaves, require-leaves, restart-leaves, shut-leaves, stop-leaves}
use Rattle.commit_servers.proofs.happenings.orders_leave_sound.Goals as goal

pub returns : goal.returns
returns c = record {
  begin = begin-leaves;
  stop = stop-leaves;
  shut_down = shut-leaves;
  start_replica = replica-leaves;
  restart = restart-leaves;
  require = require-leaves;
  promote = promote-leaves;
}
