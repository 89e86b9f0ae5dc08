-- What is kept of the events of a step leaves of a summary what all of them do.
use Rattle.std.proofs.Common.{◌≡◌, Bool, true, false, true≢false, List, [], ◌∷◌, None, refl, ap, sym, ◌∙◌}
use Rattle.pat_base.specs.declared.ticks.Ticks.{Ticks}
use Rattle.store_keys.specs.declared.txn.Txn.{Txn}
use Rattle.store_keys.specs.declared.txn.Txn.TheVariants as txns
use Rattle.store_keys.specs.declared.txn.LeaseTxn.TheVariants as lease_txns
use Rattle.event_book.specs.declared.event.AgentEvent.TheVariants as agents
use Rattle.event_book.specs.declared.event.Event.{Event}
use Rattle.event_book.specs.declared.event.EventKind.{EventKind}
use Rattle.event_book.specs.declared.event.EventKind.TheVariants as kinds
use Rattle.event_book.specs.declared.event.LogEvent.TheVariants as logs
use Rattle.event_book.specs.declared.event.ReplicationEvent.TheVariants as replications
use Rattle.event_book.specs.declared.event.StoreEvent.TheVariants as stores
use Rattle.summary_model.specs.declared.answers.FirstMoment.{FirstMoment}
use Rattle.summary_model.specs.declared.answers.FirstMoment.TheVariants as moments
use Rattle.summary_model.specs.declared.answers.Premises.{Premises}
use Rattle.summary_model.specs.declared.answers.Synchronous.{Synchronous}
use Rattle.summary_model.specs.Noting.{breach_by_txn, breach_of, first_if, keeps_mode, keeps_mode_in_txn, premises_after, synchronous_after, ticks_after}
use Rattle.summary_model.specs.Sights.{SummaryFacts, noted_before, noted_step, tells_loss}
use Rattle.event_list.specs.Kept.{kept_of, without_silent}
use Rattle.event_list.specs.Silence.{is_silent, is_silent_grant}
use Rattle.event_list.proofs.Printed.{silent-in, silent-out}
use Rattle.summary_model.proofs.Unchanged.{premises-same, synchronous-same}

-- a loss that is told later at the same moment is told as if it had been told at once
lost-later : (lost : FirstMoment) (now : Ticks) (lacking : Bool)
    → first_if (first_if lost false now) lacking now ≡ first_if lost lacking now
lost-later moments.Never now lacking = refl
lost-later (moments.At moment) now lacking = refl

-- how the run would close, with these answers
abbrev closing_with : SummaryFacts → Premises → Synchronous → FirstMoment → SummaryFacts
closing_with facts met mode lost = record facts {
  watch = record facts.watch {
    closing = record facts.watch.closing { premises = met; synchronous = mode; lost = lost };
  };
}

-- the answers but for losses are those before
answers-same : (facts : SummaryFacts) (kind : EventKind) (lost : FirstMoment)
    → breach_of facts.watch.margins 0 kind ≡ None → ((on : Bool) → keeps_mode on kind ≡ true)
    → closing_with facts
    (premises_after facts.watch.closing.premises facts.watch.closing.end facts.watch.margins 0 kind)
    (synchronous_after facts.watch.closing.synchronous facts.watch.closing.end kind) lost
    ≡ closing_with facts facts.watch.closing.premises facts.watch.closing.synchronous lost
answers-same facts kind lost none keeps =
    let closing = facts.watch.closing in
    ap (λ (met : Premises). closing_with facts met (synchronous_after closing.synchronous closing.end kind) lost)
    (premises-same closing.premises closing.end facts.watch.margins 0 kind none)
    ∙ ap (λ (mode : Synchronous). closing_with facts closing.premises mode lost)
    (synchronous-same closing.synchronous closing.end kind keeps)

-- the same with the first loss at this moment
abbrev with_lost : SummaryFacts → FirstMoment → SummaryFacts
with_lost facts lost = record facts {
  watch = record facts.watch { closing = record facts.watch.closing { lost = lost } };
}

touches-nothing : (txn : Txn) → is_silent_grant txn ≡ true → breach_by_txn txn ≡ None
touches-nothing (txns.Touch info ttl) is = refl
touches-nothing (txns.Lease (lease_txns.Renew revision info ttl status row failsafe)) is = refl
touches-nothing _ is = absurd (true≢false (sym is))

touches-no-mode : (txn : Txn) (on : Bool) → is_silent_grant txn ≡ true → keeps_mode_in_txn on txn ≡ true
touches-no-mode (txns.Touch info ttl) on is = refl
touches-no-mode (txns.Lease (lease_txns.Renew revision info ttl status row failsafe)) on is = refl
touches-no-mode _ on is = absurd (true≢false (sym is))

-- what is silent changes nothing of a summary but that a loss may be told behind it
silent-noted : (facts : SummaryFacts) (tick : Ticks) (traced : Bool) (kind : EventKind) (behind : List Event)
    → is_silent traced kind ≡ true
    → noted_before facts (record { tick = tick; kind = kind }) behind
    ≡ with_lost facts (first_if facts.watch.closing.lost (tells_loss behind) facts.watch.closing.end)
silent-noted facts tick traced (kinds.Message happening) behind is =
    answers-same facts (kinds.Message happening) _ refl (λ on. refl)
silent-noted facts tick traced (kinds.Store (stores.Granted number by txn standbys)) behind is =
    answers-same facts (kinds.Store (stores.Granted number by txn standbys)) _ (touches-nothing txn is)
    (λ on. touches-no-mode txn on is)
silent-noted facts tick traced (kinds.Log (logs.Received server from count)) behind is =
    answers-same facts (kinds.Log (logs.Received server from count)) _ refl (λ on. refl)
silent-noted facts tick traced (kinds.Replication (replications.Confirmed server by end)) behind is =
    answers-same facts (kinds.Replication (replications.Confirmed server by end)) _ refl (λ on. refl)
silent-noted facts tick traced (kinds.Agent (agents.Woken agent)) behind is =
    answers-same facts (kinds.Agent (agents.Woken agent)) _ refl (λ on. refl)
silent-noted facts tick traced _ behind is = absurd (true≢false (sym is))

-- nor does it tell a loss
silent-is-no-loss : (traced : Bool) (other : Event) (events : List Event) → is_silent traced other.kind ≡ true
    → tells_loss (other ∷ events) ≡ false
silent-is-no-loss traced other events is = by-kind other.kind is
  where
    by-kind : (kind : EventKind) → is_silent traced kind ≡ true
        → tells_loss (record { tick = other.tick; kind = kind } ∷ events) ≡ false
    by-kind (kinds.Message happening) is = refl
    by-kind (kinds.Store happening) is = refl
    by-kind (kinds.Log happening) is = refl
    by-kind (kinds.Replication (replications.Confirmed server by end)) is = refl
    by-kind (kinds.Agent happening) is = refl
    by-kind _ is = absurd (true≢false (sym is))

-- what is silent behind an event may be left out
left-out : (facts : SummaryFacts) (traced : Bool) (event other : Event) (events : List Event)
    → is_silent traced other.kind ≡ true → noted_step facts (event ∷ other ∷ events) ≡ noted_step facts (event ∷ events)
left-out facts traced event other events is =
    let now = ticks_after facts.watch.closing.end event.kind in
    let noted : Bool → SummaryFacts =
    λ lacking. with_lost (noted_before facts event []) (first_if facts.watch.closing.lost lacking now) in
    let first : noted_before facts event (other ∷ events) ≡ noted false =
    ap noted (silent-is-no-loss traced other events is) in
    let second : noted_before (noted false) other events ≡ noted (tells_loss events)
    = silent-noted (noted false) other.tick traced other.kind events is
    ∙ ap (with_lost (noted_before facts event [])) (lost-later facts.watch.closing.lost now (tells_loss events)) in
    ap (λ (f : SummaryFacts). noted_step (noted_before f other events) events) first
    ∙ ap (λ (f : SummaryFacts). noted_step f events) second

-- so may all of them
behind-first : (facts : SummaryFacts) (traced : Bool) (event : Event) (events : List Event)
    → noted_step facts (event ∷ without_silent traced events) ≡ noted_step facts (event ∷ events)
behind-first facts traced event [] = refl
behind-first facts traced event (other ∷ events) =
    by-test (is_silent traced other.kind) refl (behind-first facts traced event events)
    (behind-first (noted_before facts event (other ∷ events)) traced other events)
  where
    by-test : (test : Bool) → is_silent traced other.kind ≡ test
        → noted_step facts (event ∷ without_silent traced events) ≡ noted_step facts (event ∷ events)
        → noted_step (noted_before facts event (other ∷ events)) (other ∷ without_silent traced events)
        ≡ noted_step (noted_before facts event (other ∷ events)) (other ∷ events)
        → noted_step facts (event ∷ without_silent traced (other ∷ events)) ≡ noted_step facts (event ∷ other ∷ events)
    by-test true is without others =
        ap (λ (es : List Event). noted_step facts (event ∷ es)) (silent-out traced other events is) ∙ without
        ∙ sym (left-out facts traced event other events is)
    by-test false is without others =
        ap (λ (es : List Event). noted_step facts (event ∷ es)) (silent-in traced other events is) ∙ others

-- what is kept of these events leaves of a summary what they do
pub kept-noted : (facts : SummaryFacts) (traced : Bool) (events : List Event)
    → noted_step facts (kept_of traced events) ≡ noted_step facts events
kept-noted facts traced [] = refl
kept-noted facts traced (event ∷ events) = behind-first facts traced event events
