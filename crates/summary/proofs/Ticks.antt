-- What ticks leave of a summary, and events that tell it nothing.
use Rattle.std.proofs.Common.{◌≡◌, ℕ, ◌+◌, Bool, true, false, true≢false, List, [], ◌∷◌, None, length, suc, arith, refl, ap, sym, ◌∙◌}
use Rattle.std.specs.Prelude.{All}
use Rattle.std.proofs.lemmas.List.Elements.{All-head, All-tail}
use Rattle.pat_base.specs.declared.ticks.Ticks.{Ticks}
use Rattle.event_book.specs.declared.event.AgentEvent.TheVariants as agents
use Rattle.event_book.specs.declared.event.Event.{Event}
use Rattle.event_book.specs.declared.event.EventKind.{EventKind}
use Rattle.event_book.specs.declared.event.EventKind.TheVariants as kinds
use Rattle.event_book.specs.declared.event.ReplicationEvent.TheVariants as replications
use Rattle.summary_model.specs.declared.answers.FirstMoment.{FirstMoment}
use Rattle.summary_model.specs.declared.answers.FirstMoment.TheVariants as moments
use Rattle.summary_model.specs.declared.answers.Premises.{Premises}
use Rattle.summary_model.specs.declared.answers.Synchronous.{Synchronous}
use Rattle.summary_model.specs.Noting.{breach_of, first_if, keeps_mode, premises_after, synchronous_after}
use Rattle.summary_model.specs.Passing.{IsTickAlone, summary_later, tells_nothing}
use Rattle.summary_model.specs.Sights.{SummaryFacts, noted_before, noted_step, noted_steps, tells_loss}
use Rattle.summary_model.proofs.Unchanged.{premises-same, synchronous-same}

lost-same : (lost : FirstMoment) (now : Ticks) → first_if lost false now ≡ lost
lost-same moments.Never now = refl
lost-same (moments.At moment) now = refl

-- how the run would close at this moment, with these answers
abbrev closing_with : SummaryFacts → Ticks → Premises → Synchronous → FirstMoment → SummaryFacts
closing_with facts now met mode lost = record facts {
  watch = record facts.watch {
    closing = record facts.watch.closing { end = now; premises = met; synchronous = mode; lost = lost };
  };
}

-- the answers are those before
answers-same : (facts : SummaryFacts) (now : Ticks) (kind : EventKind) (lateness : ℕ) (lacking : Bool)
    → breach_of facts.watch.margins lateness kind ≡ None → ((on : Bool) → keeps_mode on kind ≡ true) → lacking ≡ false
    → closing_with facts now (premises_after facts.watch.closing.premises now facts.watch.margins lateness kind)
    (synchronous_after facts.watch.closing.synchronous now kind) (first_if facts.watch.closing.lost lacking now)
    ≡ closing_with facts now facts.watch.closing.premises facts.watch.closing.synchronous facts.watch.closing.lost
answers-same facts now kind lateness lacking none keeps without =
    let closing = facts.watch.closing in
    ap (λ (met : Premises).
    closing_with facts now met (synchronous_after closing.synchronous now kind) (first_if closing.lost lacking now))
    (premises-same closing.premises now facts.watch.margins lateness kind none)
    ∙ ap (λ (mode : Synchronous). closing_with facts now closing.premises mode (first_if closing.lost lacking now))
    (synchronous-same closing.synchronous now kind keeps)
    ∙ ap (λ (lost : FirstMoment). closing_with facts now closing.premises closing.synchronous lost)
    (ap (λ (test : Bool). first_if closing.lost test now) without ∙ lost-same closing.lost now)

tick-noted : (facts : SummaryFacts) (tick : Ticks)
    → noted_step facts (record { tick = tick; kind = kinds.Tick } ∷ []) ≡ summary_later facts 1
tick-noted facts tick =
    answers-same facts (record { 0 = facts.watch.closing.end.0 + 1 }) kinds.Tick 0 false refl (λ on. refl) refl

kind-noted : (facts : SummaryFacts) (tick : Ticks) (kind : EventKind) (behind : List Event) → tells_nothing kind ≡ true
    → tells_loss behind ≡ false → noted_before facts (record { tick = tick; kind = kind }) behind ≡ facts
kind-noted facts tick (kinds.Message happening) behind is none =
    answers-same facts facts.watch.closing.end (kinds.Message happening) 0 (tells_loss behind) refl (λ on. refl) none
kind-noted facts tick (kinds.Log happening) behind is none =
    answers-same facts facts.watch.closing.end (kinds.Log happening) 0 (tells_loss behind) refl (λ on. refl) none
kind-noted facts tick (kinds.Replication (replications.Confirmed server by end)) behind is none =
    answers-same facts facts.watch.closing.end (kinds.Replication (replications.Confirmed server by end)) 0
    (tells_loss behind) refl (λ on. refl) none
kind-noted facts tick (kinds.Note note) behind is none =
    answers-same facts facts.watch.closing.end (kinds.Note note) 0 (tells_loss behind) refl (λ on. refl) none
kind-noted facts tick (kinds.Link happening) behind is none =
    answers-same facts facts.watch.closing.end (kinds.Link happening) 0 (tells_loss behind) refl (λ on. refl) none
kind-noted facts tick (kinds.Agent (agents.Woken agent)) behind is none = answers-same facts facts.watch.closing.end
    (kinds.Agent (agents.Woken agent)) 0 (tells_loss behind) refl (λ on. refl) none
kind-noted facts tick _ behind is none = absurd (true≢false (sym is))

-- what tells nothing leaves all as it was
pub nothing-noted : (facts : SummaryFacts) (event : Event) (behind : List Event)
    → tells_nothing event.kind ≡ true → tells_loss behind ≡ false → noted_before facts event behind ≡ facts
nothing-noted facts event behind is none = kind-noted facts event.tick event.kind behind is none

step-noted : (facts : SummaryFacts) (step : List Event) → IsTickAlone step
    → noted_step facts step ≡ summary_later facts 1
step-noted facts [] is = absurd is
step-noted facts (event ∷ []) is =
    ap (λ (kind : EventKind). noted_step facts (record { tick = event.tick; kind = kind } ∷ [])) is
    ∙ tick-noted facts event.tick
step-noted facts (event ∷ (other ∷ events)) is = absurd is

-- so many ticks later the summary is what it is after so many steps of one tick each
pub ticks-noted : (facts : SummaryFacts) (steps : List (List Event)) → All IsTickAlone steps
    → noted_steps facts steps ≡ summary_later facts (length steps)
ticks-noted facts [] all =
    let same : facts.watch.closing.end.0 ≡ facts.watch.closing.end.0 + 0 = omega arith in
    ap (λ (n : ℕ). record facts {
      watch = record facts.watch { closing = record facts.watch.closing { end = record { 0 = n } } };
    }) same
ticks-noted facts (step ∷ steps) all =
    let sum : facts.watch.closing.end.0 + 1 + length steps ≡ facts.watch.closing.end.0 + suc (length steps) =
    omega arith in
    ap (λ (f : SummaryFacts). noted_steps f steps) (step-noted facts step (All-head IsTickAlone step steps all))
    ∙ ticks-noted (summary_later facts 1) steps (All-tail IsTickAlone step steps all)
    ∙ ap (λ (n : ℕ). record facts {
      watch = record facts.watch { closing = record facts.watch.closing { end = record { 0 = n } } };
    }) sum
