use Rattle.event_text.proofs.store_printing.write_operator_line.Goals as goal

pub returns-in-SetFailover : goal.returns-in-SetFailover
returns-in-SetFailover c = rw c.in-SetFailover.is c.write_failover_line.ensures

pub returns-in-DropFailover : goal.returns-in-DropFailover
returns-in-DropFailover c = rw c.in-DropFailover.is c.write_named_line.ensures

pub returns-in-SetConfig : goal.returns-in-SetConfig
returns-in-SetConfig c = rw c.in-SetConfig.is c.write_named_line-in-SetConfig.ensures

pub returns-in-Fire : goal.returns-in-Fire
returns-in-Fire c = rw c.in-Fire.is c.write_failover_line-in-Fire.ensures
