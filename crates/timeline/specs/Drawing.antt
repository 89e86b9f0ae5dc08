-- What is written of what is read.
use Rattle.std.specs.Prelude.{ℕ, ◌≡◌, ◌-◌, ◌^◌, List, take}
use Rattle.pat_outside.specs.declared.outside.Sink.{Ghosts}
use Rattle.pat_outside.specs.Outside.{Grew, GrewByPrefix}
use Rattle.picture.specs.Pictures.{picture_text}
use Rattle.run_reading.specs.Runs.{run_of}
use Rattle.script_words.specs.Lines.{lines_in}
use Rattle.timeline.specs.declared.status.Status.{Status}
use Rattle.timeline.specs.declared.status.Status.TheVariants.{Done, ReadFault, WriteFault, Memory}

-- the picture of the lines of these bytes, of which no more are read than memory has room for
abbrev pub drawn_of : List ℕ → List ℕ
drawn_of bytes = picture_text (run_of (lines_in (take (2 ^ 64 - 1) bytes)))

-- this text was written, by how drawing ended: all of it, or where the output failed a front of it; else nothing
abbrev pub IsDrawn : {K : Type 0} → Ghosts K → K → K → Status → List ℕ → Type 0
IsDrawn sink before after Done text = Grew (sink.content before) (sink.content after) text
IsDrawn sink before after WriteFault text = GrewByPrefix (sink.content before) (sink.content after) text
IsDrawn sink before after ReadFault text = after ≡ before
IsDrawn sink before after Memory text = after ≡ before
