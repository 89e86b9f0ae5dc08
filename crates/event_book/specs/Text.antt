-- The printed text of a book.
use Rattle.std.specs.Prelude.{ℕ, Bool, List, [], ◌∷◌, ◌++◌, Option, Some, None, codes}
use Rattle.std.specs.Fmt.{decimal}
use Rattle.pat_base.specs.Name.{name_bytes}
use Rattle.event_book.specs.declared.event.Event.{Event}
use Rattle.event_book.specs.declared.event.EventKind.{EventKind}
use Rattle.event_book.specs.declared.event.EventKind.TheVariants as kinds
use Rattle.event_book.specs.declared.event.MessageEvent.{MessageEvent}
use Rattle.event_book.specs.declared.message.Message.{Message}
use Rattle.event_book.specs.declared.event.MessageEvent.TheVariants as messages
use Rattle.event_book.specs.declared.event.AgentEvent.{AgentEvent}
use Rattle.event_book.specs.declared.event.AgentEvent.TheVariants as agents
use Rattle.event_book.specs.declared.event.LinkEvent.{LinkEvent}
use Rattle.event_book.specs.declared.event.LinkEvent.TheVariants as links
use Rattle.event_book.specs.Bodies.{body_text}
use Rattle.event_book.specs.Links.{end_text}
use Rattle.event_book.specs.NoteText.{note_line}
use Rattle.event_book.specs.ServerText.{watchdog_line, server_line, log_line, replication_line}
use Rattle.event_book.specs.StoreText.{store_line}
use Rattle.event_book.specs.Traced.{traced}

-- the line of a message that is sent
abbrev pub sent_line : ℕ → ℕ → Message → List ℕ
sent_line tick number message =
    decimal tick
    ++ (codes " message "
    ++ (decimal number
    ++ (codes " from "
    ++ (end_text message.from
    ++ (codes " to " ++ (end_text message.to ++ (codes ": " ++ (body_text message.body ++ codes "\n"))))))))

-- the line of what happens to a message, which it has only while messages are traced
abbrev pub message_line : Bool → ℕ → MessageEvent → Option (List ℕ)
message_line trace tick (messages.Sent number message) = traced trace (sent_line tick number message)
message_line trace tick (messages.Delivered number) =
    traced trace (decimal tick ++ (codes " message " ++ (decimal number ++ codes " is delivered\n")))
message_line trace tick (messages.Lost number) =
    traced trace (decimal tick ++ (codes " message " ++ (decimal number ++ codes " is lost\n")))

-- the line of what happens to an agent, if it has one
abbrev pub agent_line : ℕ → AgentEvent → Option (List ℕ)
agent_line tick (agents.Suspended agent) =
    Some (decimal tick ++ (codes " " ++ (name_bytes agent.name ++ codes " is held\n")))
agent_line tick (agents.Resumed agent) =
    Some (decimal tick ++ (codes " " ++ (name_bytes agent.name ++ codes " resumes\n")))
agent_line tick (agents.Killed agent) =
    Some (decimal tick ++ (codes " " ++ (name_bytes agent.name ++ codes " is killed\n")))
agent_line tick (agents.Started agent incarnation) =
    Some (decimal tick ++ (codes " " ++ (name_bytes agent.name ++ codes " is started\n")))
agent_line tick _ = None

-- the line of what happens to a link
abbrev pub link_line : ℕ → LinkEvent → Option (List ℕ)
link_line tick (links.Cut link) =
    Some (decimal tick
    ++ (codes " " ++ (end_text link.first ++ (codes " and " ++ (end_text link.second ++ codes " are cut\n")))))
link_line tick (links.Joined link) =
    Some (decimal tick
    ++ (codes " " ++ (end_text link.first ++ (codes " and " ++ (end_text link.second ++ codes " are joined\n")))))

-- the line of what happens at this moment, if it has one
abbrev pub kind_line : Bool → ℕ → EventKind → Option (List ℕ)
kind_line trace tick kinds.Tick = None
kind_line trace tick (kinds.Message happening) = message_line trace tick happening
kind_line trace tick (kinds.Store happening) = store_line tick happening
kind_line trace tick (kinds.Watchdog happening) = watchdog_line trace tick happening
kind_line trace tick (kinds.Server happening) = server_line tick happening
kind_line trace tick (kinds.Log happening) = log_line tick happening
kind_line trace tick (kinds.Replication happening) = replication_line tick happening
kind_line trace tick (kinds.Agent happening) = agent_line tick happening
kind_line trace tick (kinds.Link happening) = link_line tick happening
kind_line trace tick (kinds.Note note) = note_line tick note

-- the line of an event with its line feed, if it has one; some have one only while messages are traced
abbrev pub line_of : Bool → Event → Option (List ℕ)
line_of trace event = kind_line trace event.tick.0 event.kind

-- the bytes of a line, or none where there is no line
abbrev pub bytes_or_none : Option (List ℕ) → List ℕ
bytes_or_none None = []
bytes_or_none (Some line) = line

-- the lines of these events, in order
abbrev pub lines_of : Bool → List Event → List ℕ
lines_of trace [] = []
lines_of trace (event ∷ events) = bytes_or_none (line_of trace event) ++ lines_of trace events
