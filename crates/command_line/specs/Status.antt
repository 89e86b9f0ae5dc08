-- Exit statuses, and what is said of each on the error output.
use Rattle.std.specs.Prelude.{ℕ, ◌≡◌, ◌≤◌, ◌⊎◌, List, [], ◌++◌, Some, None, Err, length, codes}
use Rattle.std.specs.Fmt.{decimal}
use Rattle.pat_outside.specs.declared.outside.Sink.{Ghosts}
use Rattle.pat_outside.specs.declared.transfer.ReadError.{ReadError}
use Rattle.pat_outside.specs.declared.transfer.ReadError.TheVariants as reads
use Rattle.pat_outside.specs.Outside.{Rose, Grew, GrewByPrefix}
use Rattle.script_words.specs.declared.fault.Fault.{Fault}
use Rattle.script_grammar.specs.declared.limit.Limit.{Limit}
use Rattle.script_grammar.specs.declared.script_fault.ScriptFault.{ScriptFault}
use Rattle.script_grammar.specs.declared.script_fault.ScriptFault.TheVariants as faults
use Rattle.script_words.specs.Faults.{text_of}
use Rattle.script_grammar.specs.Limits.{limit_text, limit_of}
use Rattle.script_grammar.specs.Reading.{script_of}
use Rattle.command_line.specs.declared.ending.Ending.{Ending}
use Rattle.command_line.specs.declared.ending.Ending.TheVariants as endings
use Rattle.run_printing.specs.declared.print_error.PrintError.{PrintError}
use Rattle.run_printing.specs.declared.print_error.PrintError.TheVariants as prints
use Rattle.run_printing.specs.declared.serve_error.ServeError.{ServeError}
use Rattle.run_printing.specs.declared.serve_error.ServeError.TheVariants as serves
use Rattle.command_line.specs.declared.status.Status.{Status}
use Rattle.command_line.specs.declared.status.Status.TheVariants as statuses

-- the number of an exit status
abbrev pub code_of : Status → ℕ
code_of statuses.Done = 0
code_of statuses.NotScript = 1
code_of statuses.Usage = 2
code_of statuses.ReadFault = 3
code_of statuses.WriteFault = 4
code_of statuses.Memory = 5
code_of statuses.DoorFault = 6
code_of statuses.Limit = 7

-- the exit status of an ending
abbrev pub status_of : Ending → Status
status_of endings.Done = statuses.Done
status_of (endings.NotScript line fault) = statuses.NotScript
status_of endings.UnknownMember = statuses.NotScript
status_of endings.Usage = statuses.Usage
status_of endings.ReadFault = statuses.ReadFault
status_of endings.WriteFault = statuses.WriteFault
status_of endings.Memory = statuses.Memory
status_of endings.DoorFault = statuses.DoorFault
status_of (endings.Limit limit) = statuses.Limit
status_of endings.PastCount = statuses.Limit

-- an ending refuses bytes that are to be a script for what they are, where so many ticks come beside those of its lines
abbrev pub Refuses : ℕ → Ending → List ℕ → Type 0
Refuses waited (endings.NotScript line fault) bytes =
    (limit_of waited bytes ≡ None) × (script_of bytes ≡ Err (line, fault))
Refuses waited (endings.Limit limit) bytes = limit_of waited bytes ≡ Some limit
Refuses waited _ bytes = Unit {0}

-- an ending of a run in which the input gives no script
abbrev pub IsRefusal : Ending → Type 0
IsRefusal endings.Done = ⊥
IsRefusal endings.Usage = ⊥
IsRefusal endings.WriteFault = ⊥
IsRefusal endings.UnknownMember = ⊥
IsRefusal endings.DoorFault = ⊥
IsRefusal endings.PastCount = ⊥
IsRefusal _ = Unit {0}

-- how a run ends where its input can't be read
abbrev pub ending_of_read : ReadError → Ending
ending_of_read reads.Fault = endings.ReadFault
ending_of_read reads.Memory = endings.Memory

-- how a run ends where its input is no script, or memory is wanting for one
abbrev pub ending_of_fault : ScriptFault → Ending
ending_of_fault (faults.At line fault) = endings.NotScript line fault
ending_of_fault faults.Memory = endings.Memory

-- how a run ends where its output can't be written whole
abbrev pub ending_of_print : PrintError → Ending
ending_of_print prints.Write = endings.WriteFault
ending_of_print prints.Memory = endings.Memory

-- how a run ends where connections aren't all served, or its output can't be written whole
abbrev pub ending_of_serve : ServeError → Ending
ending_of_serve serves.Write = endings.WriteFault
ending_of_serve serves.Memory = endings.Memory
ending_of_serve serves.Door = endings.DoorFault

-- the line that names the first line with a fault, and its first fault
abbrev pub fault_line : ℕ → Fault → List ℕ
fault_line line fault = codes "line " ++ (decimal line ++ (codes ": " ++ (text_of fault ++ codes "\n")))

-- the line that names the limit that the input passes
abbrev pub limit_line : Limit → List ℕ
limit_line limit = codes "limit: " ++ (limit_text limit ++ codes "\n")

-- the line on the error output
abbrev pub message_of : Ending → List ℕ
message_of endings.Done = []
message_of (endings.NotScript line fault) = fault_line line fault
message_of endings.UnknownMember = codes "serve: unknown member\n"
message_of endings.Usage =
    codes "usage: patroni_sim run | serve MEMBER ADDRESS COUNT | print | gen SEED COUNT | drill SEED COUNT\n"
message_of endings.ReadFault = codes "read fault\n"
message_of endings.WriteFault = codes "write fault\n"
message_of endings.Memory = codes "out of memory\n"
message_of endings.DoorFault = codes "door fault\n"
message_of (endings.Limit limit) = limit_line limit
message_of endings.PastCount = codes "limit: count\n"

-- the error output grew by a front of the line: by all of it, unless a fault came
pub record IsReported {E : Type 0} (sink : Ghosts E) (before after : E) (line : List ℕ) : Type 0 where
  pub part : GrewByPrefix (sink.content before) (sink.content after) line
  pub whole : Grew (sink.content before) (sink.content after) line ⊎ Rose (sink.faults before) (sink.faults after)
  pub room : (n : ℕ) → sink.can_take before n → length line ≤ n → Grew (sink.content before) (sink.content after) line
