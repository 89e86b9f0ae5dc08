-- Which messages in flight a round has to look at.
use Rattle.std.specs.Prelude.{ℕ, ◌≡◌, ◌≢◌, ◌+◌, ◌*◌, ◌≤◌, ◌⊎◌, ◌||◌, nat_le, Bool, true, false, List, [], Some, slice_index_or}
use Rattle.std.specs.BTreeMap.{is_at}
use Rattle.std.specs.List.{list_any}
use Rattle.std.specs.Ordering.{nat_cmp}
use Rattle.event_book.specs.declared.agent_process.AgentProcess.{AgentProcess}
use Rattle.event_book.specs.declared.event.AgentEvent.{AgentEvent}
use Rattle.event_book.specs.declared.event.AgentEvent.TheVariants as agents
use Rattle.event_book.specs.declared.event.EventKind.{EventKind}
use Rattle.event_book.specs.declared.event.EventKind.TheVariants as kinds
use Rattle.event_book.specs.declared.event.LinkEvent.{LinkEvent}
use Rattle.event_book.specs.declared.event.LinkEvent.TheVariants as links
use Rattle.event_book.specs.declared.event.WatchdogEvent.{WatchdogEvent}
use Rattle.event_book.specs.declared.event.WatchdogEvent.TheVariants as watchdogs
use Rattle.event_book.specs.declared.link.Link.{Link}
use Rattle.event_book.specs.declared.message.Message.{Message}
use Rattle.event_book.specs.Flight.{Flight, InFlightFacts, in_flight}
use Rattle.event_book.specs.Links.{CutLinks, end_count, end_number}
use Rattle.cluster_model.specs.declared.delivery.Delivery.TheVariants.{Suspended}
use Rattle.cluster_model.specs.Deliveries.{delivery_of}

-- the first number at which no round has looked yet, the numbers before
-- it of messages that may move, and of those that are kept, by their ways
pub record IndexFacts : Type 0 where
  pub unseen : ℕ
  pub moving : List ℕ
  pub kept : List (List ℕ)

-- the place of the way to one end of a link from another
abbrev pub way_of : ℕ → ℕ → ℕ
way_of to from = to * end_count + from

-- the place of a message's way
abbrev pub message_way : Message → ℕ
message_way message = way_of (end_number message.to) (end_number message.from)

-- whether a number is among these
abbrev pub is_among : List ℕ → ℕ → Bool
is_among numbers number = list_any (is_at (nat_cmp number)) numbers

-- whether the message of this number may move
abbrev pub may_move : IndexFacts → ℕ → Bool
may_move index number = nat_le index.unseen number || is_among index.moving number

-- the numbers that are kept on a way
abbrev pub kept_on : IndexFacts → ℕ → List ℕ
kept_on index way = slice_index_or index.kept way []

-- whether this number is one of them
abbrev pub is_kept : IndexFacts → ℕ → ℕ → Bool
is_kept index way number = is_among (kept_on index way) number

-- a message is kept for a receiver that is suspended
pub record IsHeldBack (index : IndexFacts) (agents : List AgentProcess) (cuts : CutLinks) (number : ℕ)
    (message : Message) : Type 0 where
  pub listed : is_kept index (message_way message) number ≡ true
  pub suspended : delivery_of cuts agents message ≡ Suspended

-- each message in flight may move, or is kept for a receiver that is suspended
abbrev pub AreTended : IndexFacts → Flight → List AgentProcess → CutLinks → Type 0
AreTended index flight agents cuts = (n : ℕ) (message : InFlightFacts) → in_flight flight n ≡ Some message
    → may_move index n ≡ false → IsHeldBack index agents cuts n message.message

-- no message in flight has a number above that of the last one that was sent
abbrev pub AreNumbered : ℕ → Flight → Type 0
AreNumbered sent flight = (n : ℕ) (message : InFlightFacts) → in_flight flight n ≡ Some message → n ≤ sent

-- what may not move now didn't before, and is kept where it was
pub record IsLooser (old new : IndexFacts) : Type 0 where
  pub moving : (n : ℕ) → may_move new n ≡ false → may_move old n ≡ false
  pub kept : (n way : ℕ) → may_move new n ≡ false → is_kept old way n ≡ true → is_kept new way n ≡ true

-- but for this number
pub record IsLooserBut (number : ℕ) (old new : IndexFacts) : Type 0 where
  pub moving : (n : ℕ) → n ≢ number → may_move new n ≡ false → may_move old n ≡ false
  pub kept : (n way : ℕ) → n ≢ number → may_move new n ≡ false → is_kept old way n ≡ true → is_kept new way n ≡ true

-- what happens to an agent concerns messages to this end of a link
abbrev pub ConcernsReceiver : AgentEvent → ℕ → Type 0
ConcernsReceiver (agents.Suspended agent) to = to ≡ agent.id.number
ConcernsReceiver (agents.Resumed agent) to = to ≡ agent.id.number
ConcernsReceiver (agents.Killed agent) to = to ≡ agent.id.number
ConcernsReceiver (agents.Started agent incarnation) to = to ≡ agent.id.number
ConcernsReceiver _ to = ⊥

-- the reset of a machine concerns messages to its member
abbrev pub ConcernsMachine : WatchdogEvent → ℕ → Type 0
ConcernsMachine (watchdogs.Reset member) to = to ≡ member.id.number
ConcernsMachine _ to = ⊥

-- a message to one of these ends from the other takes this link
abbrev pub Takes : Link → ℕ → ℕ → Type 0
Takes link to from = ((to ≡ end_number link.first) × (from ≡ end_number link.second))
    ⊎ ((to ≡ end_number link.second) × (from ≡ end_number link.first))

-- what happens to a link concerns messages that take it
abbrev pub ConcernsLink : LinkEvent → ℕ → ℕ → Type 0
ConcernsLink (links.Cut link) to from = Takes link to from
ConcernsLink (links.Joined link) to from = Takes link to from

-- a happening concerns messages to this end from that one
abbrev pub Concerns : EventKind → ℕ → ℕ → Type 0
Concerns (kinds.Agent happening) to from = ConcernsReceiver happening to
Concerns (kinds.Watchdog happening) to from = ConcernsMachine happening to
Concerns (kinds.Link happening) to from = ConcernsLink happening to from
Concerns _ to from = ⊥
