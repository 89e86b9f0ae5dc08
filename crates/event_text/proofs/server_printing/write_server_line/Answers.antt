use Rattle.event_text.proofs.server_printing.write_server_line.Goals as goal

pub returns-in-Began : goal.returns-in-Began
returns-in-Began c = rw c.in-Began.is c.write.ensures.bytes

pub returns-in-Diverged : goal.returns-in-Diverged
returns-in-Diverged c = rw c.in-Diverged.is c.write-in-Diverged.ensures.bytes
