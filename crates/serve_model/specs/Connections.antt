-- What a connection to the REST interface of a member's agent brings
-- to a run, as steps of it, and what is answered on it.
use Rattle.std.specs.Prelude.{ℕ, ◌≡◌, ◌+◌, ◌==◌, Bool, true, false, if◌then◌else◌, List, [], ◌∷◌, ◌++◌, Option, Some, None, Result, Ok, Err, unwrap_or, zero, suc}
use Rattle.std.specs.Option.{option_or}
use Rattle.pat_base.specs.declared.member_id.MemberId.{MemberId}
use Rattle.event_book.specs.declared.event.Event.{Event}
use Rattle.event_book.specs.declared.event.EventKind.{EventKind}
use Rattle.event_book.specs.declared.event.EventKind.TheVariants as kinds
use Rattle.event_book.specs.declared.event.Note.{Note}
use Rattle.event_book.specs.declared.event.Note.TheVariants as notes
use Rattle.rest_answer.specs.declared.refusal.Refusal.{Refusal}
use Rattle.rest_answer.specs.declared.refusal.Refusal.TheVariants as refusals
use Rattle.rest_answer.specs.Refusals.{refusal_reply}
use Rattle.rest_message.specs.Replies.{ReplyText}
use Rattle.rest_reply.specs.Replies.{reply_bytes}
use Rattle.rest_message.specs.declared.request.Request.{Request}
use Rattle.rest_message.specs.declared.verb.Verb.{Verb}
use Rattle.rest_message.specs.declared.verb.Verb.TheVariants.{Head}
use Rattle.cluster_model.specs.declared.step.Step.{Step}
use Rattle.cluster_model.specs.declared.step.Step.TheVariants as steps
use Rattle.cluster_model.specs.declared.step.Visit.{Visit}
use Rattle.cluster_model.specs.declared.step.Visit.TheVariants as visits
use Rattle.cluster_model.specs.Cluster.{cluster_over}
use Rattle.cluster_model.specs.Next.{next_events, run_events}
use Rattle.cluster_model.specs.State.{Cluster}

-- how a connection went: whole, or a read of it failed, or a write of the answer did
pub data Course : Type 0 where
  Whole : Course
  Unread : Course
  Unwritten : Course

-- a connection: what its bytes ask, or why they are refused, and how it went
pub record Connection : Type 0 where
  pub asks : Result Request Refusal
  pub course : Course

-- the most ticks for which a reply is waited
abbrev pub most_waiting : ℕ
most_waiting = 600

-- so many steps a connection brings at most: what it asks, the ticks, that they brought no result, and a failure
abbrev pub connection_cost : ℕ
connection_cost = most_waiting + 3

-- what a connection brings first
abbrev pub first_visit : Result Request Refusal → Visit
first_visit (Ok request) = visits.Request request
first_visit (Err refusal) = visits.Refusal refusal

-- what is replied by a note, where that is to the member of this number
abbrev pub reply_noted : MemberId → Note → Option ReplyText
reply_noted id (notes.Answered agent status json body) =
    if agent.id.number == id.number then Some (record { status = status; json = json; body = body }) else None
reply_noted id _ = None

-- what is replied by an event
abbrev pub reply_by : MemberId → EventKind → Option ReplyText
reply_by id (kinds.Note note) = reply_noted id note
reply_by id _ = None

-- the first reply of the agent of the member of this number among these events
abbrev pub reply_in : MemberId → List Event → Option ReplyText
reply_in id [] = None
reply_in id (event ∷ events) = option_or (reply_by id event.kind) (reply_in id events)

-- no more than these steps where there is a reply
abbrev pub unless_replied : Option ReplyText → List Step → List Step
unless_replied None more = more
unless_replied (Some reply) more = []

-- the steps in which a reply is waited for, over so many ticks at most
abbrev pub waiting_steps : Cluster → MemberId → ℕ → List Step
waiting_steps cluster id zero = steps.Connection id (visits.Refusal refusals.NoResult) ∷ []
waiting_steps cluster id (suc n) =
    let events = next_events cluster steps.Scheduled in
    steps.Scheduled ∷ unless_replied (reply_in id events) (waiting_steps (cluster_over cluster events) id n)

-- the steps up to a reply
abbrev pub replied_steps : Cluster → MemberId → Visit → List Step
replied_steps cluster id visit =
    let events = next_events cluster (steps.Connection id visit) in
    steps.Connection id visit
    ∷ unless_replied (reply_in id events) (waiting_steps (cluster_over cluster events) id most_waiting)

-- the steps of a connection that was read
abbrev pub read_steps : Cluster → MemberId → Connection → List Step
read_steps cluster id connection = replied_steps cluster id (first_visit connection.asks)

-- a failure of a connection is a step of its own
abbrev pub failure_steps : MemberId → List Step
failure_steps id = steps.Connection id visits.Failure ∷ []

-- the steps of a connection, by how it went
abbrev pub steps_by : Course → Cluster → MemberId → Connection → List Step
steps_by Whole cluster id connection = read_steps cluster id connection
steps_by Unread cluster id connection = failure_steps id
steps_by Unwritten cluster id connection = read_steps cluster id connection ++ failure_steps id

-- the steps that a connection brings
abbrev pub steps_of_connection : Cluster → MemberId → Connection → List Step
steps_of_connection cluster id connection = steps_by connection.course cluster id connection

-- what is replied by these steps: what the agent of the member of this
-- number replied first, or that there was no result in time
abbrev pub replied : Cluster → MemberId → List Step → ReplyText
replied cluster id steps = unwrap_or (reply_in id (run_events cluster steps)) (refusal_reply refusals.NoResult)

-- what is replied to a connection
abbrev pub reply_to : Cluster → MemberId → Connection → ReplyText
reply_to cluster id connection = replied cluster id (read_steps cluster id connection)

-- whether the content of a reply isn't sent
abbrev pub is_head : Verb → Bool
is_head Head = true
is_head _ = false

-- the same of what a connection asks
abbrev pub asks_for_a_head : Result Request Refusal → Bool
asks_for_a_head (Ok request) = is_head request.method
asks_for_a_head (Err refusal) = false

-- the bytes that are due on a connection: its reply, without the content where a head is asked for
abbrev pub bytes_due : Cluster → MemberId → Connection → List ℕ
bytes_due cluster id connection = reply_bytes (reply_to cluster id connection) (asks_for_a_head connection.asks)

-- these bytes were sent of those that were due on a connection that went so
abbrev pub IsSent : Course → List ℕ → List ℕ → Type 0
IsSent Whole due sent = sent ≡ due
IsSent Unwritten due sent = (rest : List ℕ) × (sent ++ rest ≡ due)
IsSent Unread due sent = sent ≡ []
