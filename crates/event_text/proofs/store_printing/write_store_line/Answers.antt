use Rattle.event_text.proofs.store_printing.write_store_line.Goals as goal

pub returns-in-Refused : goal.returns-in-Refused
returns-in-Refused c = rw c.in-Refused.is c.write.ensures.bytes

pub returns-in-LeaderExpired : goal.returns-in-LeaderExpired
returns-in-LeaderExpired c = rw c.in-LeaderExpired.is c.write-in-LeaderExpired.ensures.bytes
