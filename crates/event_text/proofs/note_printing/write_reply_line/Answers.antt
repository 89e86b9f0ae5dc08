use Rattle.event_text.proofs.note_printing.write_reply_line.Goals as goal

pub returns-in-RefusesCommit : goal.returns-in-RefusesCommit
returns-in-RefusesCommit c = rw c.in-RefusesCommit.is c.write_named_line.ensures

pub returns-in-AlreadyRunning : goal.returns-in-AlreadyRunning
returns-in-AlreadyRunning c = rw c.in-AlreadyRunning.is c.write_named_line-in-AlreadyRunning.ensures

pub returns-in-NoAnswer : goal.returns-in-NoAnswer
returns-in-NoAnswer c = rw c.in-NoAnswer.is c.write_named_line-in-NoAnswer.ensures
