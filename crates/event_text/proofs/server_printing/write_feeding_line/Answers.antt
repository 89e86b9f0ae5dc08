use Rattle.event_text.proofs.server_printing.write_feeding_line.Goals as goal

pub returns : goal.returns
returns c = rw (← c.format.ensures.text, ← c.as_str.ensures, ← c.format-2.ensures.text) c.append.ensures
