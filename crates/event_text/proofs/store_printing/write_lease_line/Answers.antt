use Rattle.event_text.proofs.store_printing.write_lease_line.Goals as goal

pub returns-in-Create : goal.returns-in-Create
returns-in-Create c = rw c.in-Create.is c.write_named_line.ensures

pub returns-in-Release : goal.returns-in-Release
returns-in-Release c = rw c.in-Release.is c.write_named_line-in-Release.ensures
