use Rattle.event_text.proofs.server_printing.write_own_server_line.Goals as goal

pub returns-in-Ended : goal.returns-in-Ended
returns-in-Ended c = rw c.in-Ended.is c.write_named_line.ensures

pub returns-in-Crashed : goal.returns-in-Crashed
returns-in-Crashed c = rw c.in-Crashed.is c.write_named_line-in-Crashed.ensures

pub returns-in-Promoted : goal.returns-in-Promoted
returns-in-Promoted c = rw c.in-Promoted.is c.write_named_line-in-Promoted.ensures

pub returns-in-StartsAsReplica : goal.returns-in-StartsAsReplica
returns-in-StartsAsReplica c = rw c.in-StartsAsReplica.is c.write_named_line-in-StartsAsReplica.ensures

pub returns-in-Frozen : goal.returns-in-Frozen
returns-in-Frozen c = rw c.in-Frozen.is c.write_named_line-in-Frozen.ensures

pub returns-in-Thawed : goal.returns-in-Thawed
returns-in-Thawed c = rw c.in-Thawed.is c.write_named_line-in-Thawed.ensures
