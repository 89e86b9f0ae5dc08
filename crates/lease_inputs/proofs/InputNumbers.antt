-- The numbers of the messages of an input, one event after another.
use Rattle.std.proofs.Common.{◌≡◌, ◌+◌, ◌++◌, ◌≤◌, ◌<◌, ℕ, List, [], ◌∷◌, refl, sym, subst, arith}
use Rattle.event_book.specs.declared.event.Event.{Event}
use Rattle.event_book.specs.declared.event.AgentEvent.TheVariants as agents
use Rattle.event_book.specs.declared.event.EventKind.{EventKind}
use Rattle.event_book.specs.declared.event.EventKind.TheVariants as kinds
use Rattle.event_book.specs.declared.event.MessageEvent.TheVariants.{Sent, Delivered, Lost}
use Rattle.event_book.specs.declared.member.Member.{Member}
use Rattle.event_book.specs.declared.message.Message.{Message}
use Rattle.event_book.specs.Flight.{sent_after}
use Rattle.agent_model.specs.declared.output.Output.{Output}
use Rattle.agent_model.specs.declared.output.Output.TheVariants as outputs
use Rattle.cluster_model.specs.Cluster.{cluster_after, cluster_over}
use Rattle.cluster_model.specs.State.{Cluster}
use Rattle.lease_model.specs.Feeds.{KeepsMomentOf}
use Rattle.event_book.specs.Kinds.{AllAre}
use Rattle.lease_book.specs.Groups.{IsNumberedAbove, AreNumberedAbove}
use Rattle.lease_inputs.specs.InputEvents.{IsMessageOf, Asks, AsksPeer, AnswersPeer, AnswersRequest, IsOfInput}

-- the number of the message that was sent last, behind these events
abbrev pub sent_over : ℕ → List Event → ℕ
sent_over last [] = last
sent_over last (event ∷ events) = sent_over (sent_after last event.kind) events

pub sent-is : (cluster : Cluster) (events : List Event)
    → (cluster_over cluster events).facts.sent ≡ sent_over cluster.facts.sent events
sent-is cluster [] = refl
sent-is cluster (event ∷ events) = sent-is (cluster_after cluster event.kind) events

pub numbered-both : (last : ℕ) (xs ys : List Event) → AreNumberedAbove last xs
    → AreNumberedAbove (sent_over last xs) ys → AreNumberedAbove last (xs ++ ys)
numbered-both last [] ys first second = second
numbered-both last (x ∷ xs) ys first second = (first.0, numbered-both (sent_after last x.kind) xs ys first.1 second)

-- ---- one event that sends nothing, or feeds nothing
-- an output that sends no message
abbrev pub no_message : Output → Type 0
no_message (outputs.Message written) = ⊥
no_message _ = Unit {0}

pub no-sent : (member : Member) (incarnation : ℕ) (message : Message)
    → IsMessageOf member incarnation no_message message → ⊥
no-sent member incarnation message (Asks question) = question.from
no-sent member incarnation message (AsksPeer peer id sequence body asks is from) = from
no-sent member incarnation message (AnswersPeer peer id asked sequence answer is from) = from
no-sent member incarnation message (AnswersRequest peer id asked sequence accepted at is from) = from

unnumbered : (member : Member) (incarnation heard last : ℕ) (kind : EventKind)
    → IsOfInput member incarnation heard no_message kind → IsNumberedAbove last kind × (sent_after last kind ≡ last)
unnumbered member incarnation heard last (kinds.Message (Sent number message)) is =
    absurd (no-sent member incarnation message is)
unnumbered member incarnation heard last (kinds.Message (Delivered number)) is = absurd is
unnumbered member incarnation heard last (kinds.Message (Lost number)) is = (tt, refl)
unnumbered member incarnation heard last _ is = (tt, refl)

pub unnumbered-all : (member : Member) (incarnation heard last : ℕ) (events : List Event)
    → AllAre (IsOfInput member incarnation heard no_message) events → AreNumberedAbove last events
unnumbered-all member incarnation heard last [] all = tt
unnumbered-all member incarnation heard last (event ∷ events) all =
    let one = unnumbered member incarnation heard last event.kind all.0 in (
      one.0,
      subst (λ (n : ℕ). AreNumberedAbove n events) (sym one.1)
          (unnumbered-all member incarnation heard last events all.1),
    )

-- an event at which the clock stands, no agent starts, and the message of this number isn't sent
moments-kept : (member : Member) (incarnation heard n : ℕ) (kind : EventKind) → (n < 0 → ⊥)
    → IsOfInput member incarnation heard no_message kind → KeepsMomentOf n kind
moments-kept member incarnation heard n kinds.Tick low is = absurd is
moments-kept member incarnation heard n (kinds.Agent (agents.Passed by)) low is = tt
moments-kept member incarnation heard n (kinds.Agent _) low is = absurd is
moments-kept member incarnation heard n (kinds.Message (Sent number message)) low is =
    absurd (no-sent member incarnation message is)
moments-kept member incarnation heard n _ low is = tt

above-kept : (member : Member) (incarnation heard last n : ℕ) (Q : Output → Type 0) (kind : EventKind)
    → n ≤ last → IsNumberedAbove last kind → IsOfInput member incarnation heard Q kind → KeepsMomentOf n kind
above-kept member incarnation heard last n Q kinds.Tick low above is = absurd is
above-kept member incarnation heard last n Q (kinds.Agent (agents.Passed by)) low above is = tt
above-kept member incarnation heard last n Q (kinds.Agent _) low above is = absurd is
above-kept member incarnation heard last n Q (kinds.Message (Sent number message)) low above is =
    λ e. omega (arith, e, low, above)
above-kept member incarnation heard last n Q _ low above is = tt

last-rises : (kind : EventKind) (last n : ℕ) → n ≤ last → IsNumberedAbove last kind → n ≤ sent_after last kind
last-rises (kinds.Message (Sent number message)) last n small above = omega (arith, small, above)
last-rises (kinds.Message (Delivered number)) last n small above = small
last-rises (kinds.Message (Lost number)) last n small above = small
last-rises _ last n small above = small

pub moments-all : (member : Member) (incarnation heard last n : ℕ) (Q : Output → Type 0) (events : List Event)
    → n ≤ last → AreNumberedAbove last events → AllAre (IsOfInput member incarnation heard Q) events
    → AllAre (KeepsMomentOf n) events
moments-all member incarnation heard last n Q [] low numbered all = tt
moments-all member incarnation heard last n Q (event ∷ events) low numbered all = (
  above-kept member incarnation heard last n Q event.kind low numbered.0 all.0,
  moments-all member incarnation heard (sent_after last event.kind) n Q events
      (last-rises event.kind last n low numbered.0) numbered.1 all.1,
)
