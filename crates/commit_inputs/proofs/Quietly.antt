-- An input that asks to publish nobody happens in order.
use Rattle.std.proofs.Common.{ℕ, false, List, [], ◌∷◌, sym, subst}
use Rattle.event_book.specs.declared.event.Event.{Event}
use Rattle.event_book.specs.declared.event.EventKind.{EventKind}
use Rattle.event_book.specs.declared.event.EventKind.TheVariants as kinds
use Rattle.event_book.specs.declared.event.MessageEvent.TheVariants.{Delivered, Lost, Sent}
use Rattle.event_book.specs.declared.member.Member.{Member}
use Rattle.event_book.specs.declared.link.LinkEnd.TheVariants as ends
use Rattle.event_book.specs.declared.message.Body.{Body}
use Rattle.event_book.specs.declared.message.Body.TheVariants as bodies
use Rattle.event_book.specs.declared.message.Message.{Message}
use Rattle.agent_model.specs.declared.output.Output.{Output}
use Rattle.agent_model.specs.declared.output.Output.TheVariants as outputs
use Rattle.agent_model.specs.declared.output.Outgoing.TheVariants as outgoing
use Rattle.agent_commit_law.specs.Committing.{IsCovered, IsQuietBody}
use Rattle.agent_commit_law.proofs.CommitQuiet.{IsUnasking, plain-body}
use Rattle.cluster_model.specs.Cluster.{cluster_after}
use Rattle.cluster_model.specs.State.{Cluster}
use Rattle.event_book.specs.Kinds.{AllAre}
use Rattle.commit_actions.specs.Past.{Past, past_after}
use Rattle.agent_roles.specs.Asks.{IsAsk}
use Rattle.lease_inputs.specs.InputEvents.{AnswersPeer, AnswersRequest, Asks, AsksPeer, IsMessageOf, IsOfInput}
use Rattle.commit_parts.specs.Ordered.{AllInOrder, AsksInOrder, HappensInOrder}
use Rattle.commit_outputs.proofs.Covering.{quiet-ordered}

-- an output that asks for no write of the sync key
abbrev pub AsksQuietly : Output → Type 0
AsksQuietly (outputs.Message (outgoing.Send to sequence body)) = IsQuietBody body
AsksQuietly _ = Unit {0}

pub unasking-quietly : (output : Output) → IsUnasking false output → AsksQuietly output
unasking-quietly (outputs.Message (outgoing.Send to sequence body)) quiet = plain-body body quiet
unasking-quietly _ quiet = tt

pub covered-quietly : (output : Output) → IsCovered output → AsksQuietly output
covered-quietly (outputs.Message (outgoing.Send to sequence body)) covered = covered
covered-quietly _ covered = tt

-- what members ask one another asks for none
ask-ordered : (past : Past) (cluster : Cluster) (by : Member) (incarnation sequence : ℕ) (body : Body)
    → IsAsk body → AsksInOrder past cluster (ends.Member by) incarnation sequence body
ask-ordered past cluster by incarnation sequence bodies.Ask ask = tt
ask-ordered past cluster by incarnation sequence (bodies.FailsafeRequest ttl) ask = tt
ask-ordered past cluster by incarnation sequence _ ask = absurd ask

module _ (member : Member) (incarnation heard : ℕ) (Q : Output → Type 0)
    (quiet : (output : Output) → Q output → AsksQuietly output) where
  message-ordered : (past : Past) (cluster : Cluster) (message : Message) → IsMessageOf member incarnation Q message
      → AsksInOrder past cluster message.from message.incarnation message.sequence message.body
  message-ordered past cluster message (Asks question) =
      subst (λ (x : Message). AsksInOrder past cluster x.from x.incarnation x.sequence x.body) (sym question.is)
      (quiet-ordered past cluster member incarnation question.sequence question.body (quiet _ question.from))
  message-ordered past cluster message (AsksPeer peer id sequence body asks is from) =
      subst (λ (x : Message). AsksInOrder past cluster x.from x.incarnation x.sequence x.body) (sym is)
      (ask-ordered past cluster member incarnation sequence body asks)
  message-ordered past cluster message (AnswersPeer peer id asked sequence answer is from) =
      subst (λ (x : Message). AsksInOrder past cluster x.from x.incarnation x.sequence x.body) (sym is) tt
  message-ordered past cluster message (AnswersRequest peer id asked sequence accepted at is from) =
      subst (λ (x : Message). AsksInOrder past cluster x.from x.incarnation x.sequence x.body) (sym is) tt

  kind-ordered : (past : Past) (cluster : Cluster) (kind : EventKind)
      → IsOfInput member incarnation heard Q kind → HappensInOrder past cluster kind
  kind-ordered past cluster (kinds.Message (Sent number message)) is = message-ordered past cluster message is
  kind-ordered past cluster (kinds.Message (Delivered number)) is = absurd is
  kind-ordered past cluster (kinds.Message (Lost number)) is = tt
  kind-ordered past cluster (kinds.Store happening) is = absurd is
  kind-ordered past cluster _ is = tt

  pub quietly-ordered : (past : Past) (cluster : Cluster) (events : List Event)
      → AllAre (IsOfInput member incarnation heard Q) events → AllInOrder past cluster events
  quietly-ordered past cluster [] all = tt
  quietly-ordered past cluster (event ∷ events) all = (
    kind-ordered past cluster event.kind all.0,
    quietly-ordered (past_after past event.kind) (cluster_after cluster event.kind) events all.1,
  )
