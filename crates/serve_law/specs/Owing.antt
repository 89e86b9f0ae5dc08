-- Whom a reply is for that an agent gives to an operator.
use Rattle.std.specs.Prelude.{ℕ, ◌≡◌, ◌⊎◌, List, [], ◌∷◌, ◌++◌, Option, Some, None, replicate}
use Rattle.pat_base.specs.declared.member_id.MemberId.{MemberId}
use Rattle.event_book.specs.declared.event.AgentEvent.TheVariants as agents
use Rattle.event_book.specs.declared.event.Event.{Event}
use Rattle.event_book.specs.declared.event.EventKind.{EventKind}
use Rattle.event_book.specs.declared.event.EventKind.TheVariants as kinds
use Rattle.event_book.specs.declared.event.MessageEvent.TheVariants as messages
use Rattle.event_book.specs.declared.link.LinkEnd.TheVariants as ends
use Rattle.event_book.specs.declared.member.Member.{Member}
use Rattle.event_book.specs.Flight.{InFlightFacts, in_flight}
use Rattle.rest_answer.specs.declared.refusal.Refusal.TheVariants.{NoResult}
use Rattle.rest_answer.specs.Refusals.{refusal_reply}
use Rattle.rest_message.specs.Replies.{ReplyText}
use Rattle.agent_model.specs.declared.heard.Heard.{Heard}
use Rattle.agent_model.specs.declared.heard.Heard.TheVariants.{Operated, Wake}
use Rattle.agent_model.specs.declared.operating.Told.{Told}
use Rattle.agent_model.specs.Agents.{Outcome}
use Rattle.agent_answers.specs.OperatorAnswers.{told_in}
use Rattle.cluster_model.specs.declared.step.Step.TheVariants as steps
use Rattle.cluster_model.specs.declared.step.Visit.{Visit}
use Rattle.cluster_model.specs.Cluster.{cluster_over}
use Rattle.cluster_model.specs.Hearing.{heard_from}
use Rattle.cluster_model.specs.Inputs.{agent_at, outcome_of}
use Rattle.cluster_model.specs.Next.{run_events}
use Rattle.cluster_model.specs.Requests.{replying, told_kind}
use Rattle.cluster_model.specs.State.{Cluster}
use Rattle.serve_model.specs.Connections.{most_waiting, reply_in}

-- a message that is in flight says this to the agent of a member
abbrev pub SaysTo : Cluster → Member → Heard → Option InFlightFacts → Type 0
SaysTo cluster member heard None = ⊥
SaysTo cluster member heard (Some message) =
    (message.message.to ≡ ends.Member member) × (heard_from cluster message ≡ Some heard)

-- the agent of a member hears this by an event
abbrev pub HearsBy : Cluster → Member → EventKind → Heard → Type 0
HearsBy cluster member (kinds.Agent (agents.Woken by)) heard = (by ≡ member) × (heard ≡ Wake)
HearsBy cluster member (kinds.Agent (agents.Operated by action)) heard = (by ≡ member) × (heard ≡ Operated action)
HearsBy cluster member (kinds.Message (messages.Delivered number)) heard =
    SaysTo cluster member heard (in_flight cluster.facts.flight number)
HearsBy cluster member _ heard = ⊥

-- At an event the agent of a member heard something, of which it told one request alone,
-- that of this number, what came of it. In these words it replied to it, by a later event.
pub record Tells (number : ℕ) (member : Member) (first behind : Cluster) (hearing reply_event : EventKind)
    (reply : ReplyText) : Type 0 where
  pub heard : Heard
  pub hears : HearsBy first member hearing heard
  pub outcome : Outcome
  pub acts : outcome_of first member heard ≡ Some outcome
  pub told : Told
  pub tells : told_in outcome.outputs ≡ (number, told) ∷ []
  pub says : told_kind member (agent_at behind.agents member.id.number) told ≡ Some (replying member reply)
  pub notes : reply_event ≡ replying member reply

-- so did the agent of the member of a number in these events
pub record IsTold (number : ℕ) (id : MemberId) (start : Cluster) (events : List Event) (reply : ReplyText) : Type
    0 where
  pub member : Member
  pub is_it : member.id.number ≡ id.number
  -- before it heard, and from then on until it replied
  pub before : List Event
  pub hearing : Event
  pub meanwhile : List Event
  pub answer : Event
  pub later : List Event
  pub parts : before ++ hearing ∷ (meanwhile ++ answer ∷ later) ≡ events
  pub told : Tells number member (cluster_over start before)
      (cluster_over start (before ++ hearing ∷ meanwhile)) hearing.kind answer.kind reply

-- nothing was replied in the step in which a connection brought this, nor in any of the 600 ticks of
-- the default schedule that came behind it, and the reply says that no result came in time
pub record IsLate (id : MemberId) (start : Cluster) (visit : Visit) (reply : ReplyText) : Type 0 where
  pub silent : reply_in id
      (run_events start (steps.Connection id visit ∷ replicate most_waiting steps.Scheduled)) ≡ None
  pub says : reply ≡ refusal_reply NoResult

-- a reply to what a connection brought is what the agent told this
-- request, or says that no result came in time, and none did
abbrev pub IsOwed : ℕ → MemberId → Cluster → Visit → List Event → ReplyText → Type 0
IsOwed number id start visit events reply = IsTold number id start events reply ⊎ IsLate id start visit reply
