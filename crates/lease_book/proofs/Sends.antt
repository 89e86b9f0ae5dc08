-- The messages in flight after the events of an input.
use Rattle.std.proofs.Common.{◌≡◌, ℕ, ◌≤◌, List, [], ◌∷◌, Option, Some, None, refl, ◌∙◌, ap, arith, inl, inr, ◌⊎◌}
use Rattle.event_book.specs.declared.event.Event.{Event}
use Rattle.event_book.specs.declared.event.EventKind.{EventKind}
use Rattle.event_book.specs.declared.event.EventKind.TheVariants as kinds
use Rattle.event_book.specs.declared.event.MessageEvent.TheVariants.{Sent, Delivered, Lost}
use Rattle.event_book.specs.declared.link.LinkEnd.{LinkEnd}
use Rattle.event_book.specs.declared.link.LinkEnd.TheVariants as ends
use Rattle.event_book.specs.declared.message.Body.{Body}
use Rattle.event_book.specs.Flight.{sent_after}
use Rattle.lease_model.specs.Leases.{Flying}
use Rattle.lease_model.specs.Past.{Past, first_past, flying_of, past_after, past_over}
use Rattle.event_book.specs.Kinds.{AllAre}
use Rattle.lease_model.proofs.Tools.{put-all, put-here, put-there, dropped}
use Rattle.lease_book.specs.Groups.{IsMemberEnd, IsNumberedAbove, AreNumberedAbove}
use Rattle.lease_book.specs.Sending.{SendsOnly}
use Rattle.lease_book.proofs.Flights.{flying-same}

member-reads : (p q : Past) (from to : LinkEnd) (incarnation sequence : ℕ) (body : Body) → IsMemberEnd from
    → p.clock ≡ q.clock → flying_of p from to incarnation sequence body ≡ flying_of q from to incarnation sequence body
member-reads p q (ends.Member by) to incarnation sequence body is same =
    flying-same p q (ends.Member by) to incarnation sequence body same tt
member-reads p q ends.Store to incarnation sequence body is same = absurd is

sent-or-old : (P : Flying → Type 0) (past : Past) (kind : EventKind) → SendsOnly P past.clock kind → (i : ℕ)
    (flying : Flying) → (past_after past kind).flight i ≡ Some flying → (past.flight i ≡ Some flying) ⊎ P flying
sent-or-old P past (kinds.Message (Sent number message)) is =
    let one : Option Flying =
    flying_of past message.from message.to message.incarnation message.sequence message.body in
    put-all past.flight number one
    (λ n o. (flying : Flying) → o ≡ Some flying → (past.flight n ≡ Some flying) ⊎ P flying)
    (λ flying e. inr (is.1 flying (member-reads (record first_past {
      clock = past.clock;
    }) past message.from message.to message.incarnation message.sequence message.body is.0 refl ∙ e)))
    (λ n other flying e. inl e)
sent-or-old P past (kinds.Message (Delivered number)) is = λ i flying e. inl (dropped past.flight number i flying e)
sent-or-old P past (kinds.Message (Lost number)) is = λ i flying e. inl (dropped past.flight number i flying e)
sent-or-old P past kinds.Tick is = absurd is
sent-or-old P past _ is = λ i flying e. inl e

still-now : (P : Flying → Type 0) (clock : ℕ) (past : Past) (kind : EventKind) → SendsOnly P clock kind
    → (past_after past kind).clock ≡ past.clock
still-now P clock past kinds.Tick is = absurd is
still-now P clock past _ is = refl

-- what is in flight after these events was in flight before them, or was sent in them
pub old-or-sent : (P : Flying → Type 0) (clock : ℕ) (past : Past) (events : List Event) → past.clock ≡ clock
    → AllAre (SendsOnly P clock) events
    → (i : ℕ) (flying : Flying) → (past_over past events).flight i ≡ Some flying
    → (past.flight i ≡ Some flying) ⊎ P flying
old-or-sent P clock past [] now all i flying e = inl e
old-or-sent P clock past (event ∷ events) now all i flying e =
    elim (old-or-sent P clock (past_after past event.kind) events
    (still-now P clock past event.kind all.0 ∙ now) all.1 i flying e) [
      | inl was ↦ sent-or-old P past event.kind (rw now all.0) i flying was
      | inr new ↦ inr new
    ]

-- what is gone stays gone while numbers rise
gone-by : (past : Past) (kind : EventKind) (last n : ℕ) → n ≤ last → IsNumberedAbove last kind
    → past.flight n ≡ None → (past_after past kind).flight n ≡ None
gone-by past (kinds.Message (Sent number message)) last n small above gone =
    put-there past.flight number
    (flying_of past message.from message.to message.incarnation message.sequence message.body) n
    (λ e. omega (arith, e, small, above))
    ∙ gone
gone-by past (kinds.Message (Delivered number)) last n small above gone =
    put-all past.flight number None (λ m o. past.flight m ≡ None → o ≡ None) (λ e. refl) (λ m other e. e) n gone
gone-by past (kinds.Message (Lost number)) last n small above gone =
    put-all past.flight number None (λ m o. past.flight m ≡ None → o ≡ None) (λ e. refl) (λ m other e. e) n gone
gone-by past _ last n small above gone = gone

last-rises : (kind : EventKind) (last n : ℕ) → n ≤ last → IsNumberedAbove last kind → n ≤ sent_after last kind
last-rises (kinds.Message (Sent number message)) last n small above = omega (arith, small, above)
last-rises (kinds.Message (Delivered number)) last n small above = small
last-rises (kinds.Message (Lost number)) last n small above = small
last-rises _ last n small above = small

pub still-gone : (past : Past) (events : List Event) (last n : ℕ) → n ≤ last → AreNumberedAbove last events
    → past.flight n ≡ None → (past_over past events).flight n ≡ None
still-gone past [] last n small all gone = gone
still-gone past (event ∷ events) last n small all gone =
    still-gone (past_after past event.kind) events (sent_after last event.kind) n
    (last-rises event.kind last n small all.0) all.1 (gone-by past event.kind last n small all.0 gone)

-- a message whose delivery these events begin with is gone after them
pub heard-gone : (past : Past) (event : Event) (events : List Event) (last n : ℕ)
    → event.kind ≡ kinds.Message (Delivered n) → n ≤ last → AreNumberedAbove last events
    → (past_over past (event ∷ events)).flight n ≡ None
heard-gone past event events last n is small all =
    still-gone (past_after past event.kind) events last n small all
    (ap (λ (k : EventKind). (past_after past k).flight n) is ∙ put-here past.flight n None)
