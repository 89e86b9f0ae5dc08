use Rattle.event_text.proofs.printing.write_agent_line.Goals as goal

pub returns-in-Suspended : goal.returns-in-Suspended
returns-in-Suspended c = rw c.in-Suspended.is c.write_named_line.ensures

pub returns-in-Resumed : goal.returns-in-Resumed
returns-in-Resumed c = rw c.in-Resumed.is c.write_named_line-in-Resumed.ensures

pub returns-in-Killed : goal.returns-in-Killed
returns-in-Killed c = rw c.in-Killed.is c.write_named_line-in-Killed.ensures

pub returns-in-Started : goal.returns-in-Started
returns-in-Started c = rw c.in-Started.is c.write_named_line-in-Started.ensures
