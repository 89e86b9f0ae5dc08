-- Whether a message can come to its receiver.
use Rattle.std.specs.Prelude.{◌==◌, ◌||◌, ◌&&◌, not, Bool, true, false, if◌then◌else◌, List, Option, Some, None, slice_get}
use Rattle.event_book.specs.declared.agent_process.AgentProcess.{AgentProcess}
use Rattle.event_book.specs.declared.link.Link.{Link}
use Rattle.event_book.specs.declared.link.LinkEnd.{LinkEnd}
use Rattle.event_book.specs.declared.link.LinkEnd.TheVariants as link_ends
use Rattle.event_book.specs.declared.message.Body.{Body}
use Rattle.event_book.specs.declared.message.Body.TheVariants as bodies
use Rattle.event_book.specs.declared.message.Message.{Message}
use Rattle.event_book.specs.Links.{CutLinks, is_cut}
use Rattle.cluster_model.specs.declared.delivery.Delivery.{Delivery}
use Rattle.cluster_model.specs.declared.delivery.Delivery.TheVariants as deliveries

-- the link that a message takes
abbrev pub link_of_message : Message → Link
link_of_message message = record { first = message.from; second = message.to }

-- whether a message answers a question
abbrev pub is_answer : Body → Bool
is_answer bodies.Snapshot = true
is_answer (bodies.Granted request leased) = true
is_answer (bodies.Refused request key found) = true
is_answer (bodies.Answer answer) = true
is_answer (bodies.FailsafeAnswer accepted) = true
is_answer _ = false

-- it answers a question of another run of the agent
abbrev pub is_stale : Message → AgentProcess → Bool
is_stale message state = is_answer message.body && not (message.incarnation == state.incarnation)

-- what stands between a message and the agent that it is for, where their link is joined
abbrev pub delivery_to_agent : Message → Option AgentProcess → Delivery
delivery_to_agent message None = deliveries.Gone
delivery_to_agent message (Some state) = if state.suspended then deliveries.Suspended
    else (if not state.running || is_stale message state then deliveries.Gone else deliveries.Open)

-- what stands between a message and this receiver, where their link is joined; the store always takes it
abbrev pub delivery_to : List AgentProcess → Message → LinkEnd → Delivery
delivery_to processes message link_ends.Store = deliveries.Open
delivery_to processes message (link_ends.Member member) =
    delivery_to_agent message (slice_get processes member.id.number)

-- what stands between a message and its receiver, the first that applies
abbrev pub delivery_of : CutLinks → List AgentProcess → Message → Delivery
delivery_of cuts processes message =
    if is_cut cuts (link_of_message message) then deliveries.Cut else delivery_to processes message message.to
