use Rattle.event_text.proofs.server_printing.write_watchdog_line.Goals as goal

pub returns-in-Armed : goal.returns-in-Armed
returns-in-Armed c = rw c.in-Armed.is c.write.ensures.bytes

pub returns-in-Reset : goal.returns-in-Reset
returns-in-Reset c = rw c.in-Reset.is c.write_named_line.ensures
