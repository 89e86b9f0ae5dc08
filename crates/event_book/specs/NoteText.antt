-- The lines of notes.
use Rattle.std.specs.Prelude.{ℕ, List, [], ◌∷◌, ◌++◌, Option, Some, None, codes}
use Rattle.std.specs.Fmt.{decimal}
use Rattle.pat_base.specs.Name.{name_bytes}
use Rattle.event_book.specs.declared.event.Note.{Note}
use Rattle.event_book.specs.declared.event.Note.TheVariants as notes
use Rattle.event_book.specs.Reasons.{agent_note_text, reason_text}

-- what the REST interface of the agent of this name answered; behind the status stands no blank where there is no body
abbrev pub answered_line : ℕ → List ℕ → ℕ → List ℕ → Option (List ℕ)
answered_line tick name status [] =
    Some (decimal tick ++ (codes " " ++ (name ++ (codes " answers " ++ (decimal status ++ codes "\n")))))
answered_line tick name status (byte ∷ bytes) =
    Some (decimal tick
    ++ (codes " "
    ++ (name ++ (codes " answers " ++ (decimal status ++ (codes " " ++ ((byte ∷ bytes) ++ codes "\n")))))))

-- a line that patronictl prints, which stands without its moment
abbrev pub ctl_line : List ℕ → Option (List ℕ)
ctl_line line = Some (line ++ codes "\n")

-- what the lines of a script are answered
abbrev pub reply_line : ℕ → Note → Option (List ℕ)
reply_line tick (notes.RefusesCommit server) =
    Some (decimal tick ++ (codes " " ++ (name_bytes server.name ++ codes " refuses a commit\n")))
reply_line tick (notes.AlreadyRunning agent) =
    Some (decimal tick ++ (codes " " ++ (name_bytes agent.name ++ codes " is already running\n")))
reply_line tick (notes.NoMessage number) =
    Some (decimal tick ++ (codes " no message " ++ (decimal number ++ codes "\n")))
reply_line tick (notes.Undeliverable number) =
    Some (decimal tick ++ (codes " message " ++ (decimal number ++ codes " cannot be delivered\n")))
reply_line tick (notes.Answered agent status json body) = answered_line tick (name_bytes agent.name) status body
reply_line tick (notes.NoAnswer agent) =
    Some (decimal tick ++ (codes " " ++ (name_bytes agent.name ++ codes " gives no answer\n")))
reply_line tick notes.ConnectionFailed = Some (decimal tick ++ codes " connection failed\n")
reply_line tick (notes.CtlLine line) = ctl_line line
reply_line tick _ = None

-- the line of a note
abbrev pub note_line : ℕ → Note → Option (List ℕ)
note_line tick (notes.OfAgent member note about) =
    Some (decimal tick
    ++ (codes " " ++ (name_bytes member.name ++ (codes " " ++ (agent_note_text note about ++ codes "\n")))))
note_line tick (notes.EndsServer member reason) =
    Some (decimal tick
    ++ (codes " " ++ (name_bytes member.name ++ (codes " ends its server: " ++ (reason_text reason ++ codes "\n")))))
note_line tick (notes.StaysByFailsafe member) =
    Some (decimal tick ++ (codes " " ++ (name_bytes member.name ++ codes " stays primary by failsafe\n")))
note_line tick note = reply_line tick note
