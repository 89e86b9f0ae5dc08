use Rattle.event_text.proofs.note_printing.write_note_line.Goals as goal

pub returns-in-OfAgent : goal.returns-in-OfAgent
returns-in-OfAgent c = rw c.in-OfAgent.is c.write-in-OfAgent.ensures.bytes
