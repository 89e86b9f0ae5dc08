use Rattle.std.proofs.Common.{sym}
use Rattle.world_acts.proofs.carrying.reply.Goals as goal

pub send-requires-clause-grant : goal.send-requires-clause-grant
send-requires-clause-grant c = sym (c.requires.untold _ _)
