-- Each message in flight may move, or is kept for a receiver that is suspended.
use Rattle.std.proofs.Common.{◌≡◌, ◌≢◌, ℕ, ◌+◌, ◌*◌, ◌<◌, ◌⊎◌, inl, inr, min, max, Bool, true, false, List, [], Some, None, if◌then◌else◌, arith, refl, ap, sym, ◌∙◌, subst}
use Rattle.std.proofs.lemmas.List.{get_or-set_other}
use Rattle.std.proofs.lemmas.Option.{none-some, same_Some}
use Rattle.event_book.specs.declared.agent_process.AgentProcess.{AgentProcess}
use Rattle.event_book.specs.declared.event.AgentEvent.{AgentEvent}
use Rattle.event_book.specs.declared.event.AgentEvent.TheVariants as agents
use Rattle.event_book.specs.declared.event.EventKind.{EventKind}
use Rattle.event_book.specs.declared.event.EventKind.TheVariants as kinds
use Rattle.event_book.specs.declared.event.LinkEvent.{LinkEvent}
use Rattle.event_book.specs.declared.event.LinkEvent.TheVariants as links
use Rattle.event_book.specs.declared.event.WatchdogEvent.{WatchdogEvent}
use Rattle.event_book.specs.declared.event.WatchdogEvent.TheVariants as watchdogs
use Rattle.event_book.specs.declared.link.Link.{Link}
use Rattle.event_book.specs.declared.link.LinkEnd.{LinkEnd}
use Rattle.event_book.specs.declared.link.LinkEnd.TheVariants as ends
use Rattle.event_book.specs.declared.message.Message.{Message}
use Rattle.event_book.specs.Processes.{processes_after, processes_by, processes_by_watchdog}
use Rattle.event_book.specs.Flight.{Flight, InFlightFacts, in_flight}
use Rattle.event_book.specs.Links.{CutLinks, cuts_after, end_count, end_number, is_cut, link_place}
use Rattle.cluster_model.specs.declared.delivery.Delivery.{Delivery}
use Rattle.cluster_model.specs.declared.delivery.Delivery.TheVariants as deliveries
use Rattle.cluster_model.specs.Deliveries.{delivery_of, delivery_to, delivery_to_agent, link_of_message}
use Rattle.std.proofs.lemmas.Bool.{cases_eq}
use Rattle.cluster_model.proofs.Places.{get-elsewhere}
use Rattle.world_flight.specs.FlightIndex.{AreNumbered, AreTended, Concerns, ConcernsLink, ConcernsMachine, ConcernsReceiver, IndexFacts, IsHeldBack, IsLooser, IsLooserBut, Takes, is_among, is_kept, kept_on, may_move, message_way, way_of}

no-yes : false ≡ true → ⊥
no-yes e = cc

-- ---- an index that changes
pub looser-same : (index : IndexFacts) → IsLooser index index
looser-same index = record { moving = λ n out. out; kept = λ n way out there. there }

pub looser-then : (a b c : IndexFacts) → IsLooser a b → IsLooser b c → IsLooser a c
looser-then a b c first second = record {
  moving = λ n out. first.moving n (second.moving n out);
  kept = λ n way out there. second.kept n way out (first.kept n way (second.moving n out) there);
}

pub tended-looser : (old new : IndexFacts) (flight : Flight) (states : List AgentProcess) (cuts : CutLinks)
    → IsLooser old new → AreTended old flight states cuts → AreTended new flight states cuts
tended-looser old new flight states cuts looser tended n message is out =
    let held = tended n message is (looser.moving n out) in
    record { listed = looser.kept n (message_way message.message) out held.listed; suspended = held.suspended }

-- of fewer messages the same holds
pub tended-fewer : (index : IndexFacts) (old new : Flight) (states : List AgentProcess) (cuts : CutLinks)
    → ((n : ℕ) (message : InFlightFacts) → in_flight new n ≡ Some message → in_flight old n ≡ Some message)
    → AreTended index old states cuts → AreTended index new states cuts
tended-fewer index old new states cuts others tended n message is out = tended n message (others n message is) out

pub numbered-fewer : (sent : ℕ) (old new : Flight)
    → ((n : ℕ) (message : InFlightFacts) → in_flight new n ≡ Some message → in_flight old n ≡ Some message)
    → AreNumbered sent old → AreNumbered sent new
numbered-fewer sent old new others numbered n message is = numbered n message (others n message is)

not-there : (flight : Flight) (n number : ℕ) (message : InFlightFacts) → in_flight flight number ≡ None
    → in_flight flight n ≡ Some message → n ≢ number
not-there flight n number message gone is e = none-some message (sym gone ∙ ap (in_flight flight) (sym e) ∙ is)

-- a number of which no message is in flight is let go of
pub tended-without : (old new : IndexFacts) (number : ℕ) (flight : Flight) (states : List AgentProcess)
    (cuts : CutLinks) → IsLooserBut number old new → in_flight flight number ≡ None
    → AreTended old flight states cuts → AreTended new flight states cuts
tended-without old new number flight states cuts looser gone tended n message is out =
    let other = not-there flight n number message gone is in
    let held = tended n message is (looser.moving n other out) in
    record { listed = looser.kept n (message_way message.message) other out held.listed; suspended = held.suspended }

-- a message that is sent may move, and has the next number
pub tended-sent : (index : IndexFacts) (number : ℕ) (old new : Flight) (states : List AgentProcess) (cuts : CutLinks)
    → may_move index number ≡ true
    → ((n : ℕ) (message : InFlightFacts) → n ≢ number → in_flight new n ≡ Some message → in_flight old n ≡ Some message)
    → AreTended index old states cuts → AreTended index new states cuts
tended-sent index number old new states cuts there others tended n message is out =
    tended n message (others n message (λ e. no-yes (sym out ∙ ap (may_move index) e ∙ there)) is) out

pub numbered-sent : (sent : ℕ) (old new : Flight)
    → ((n : ℕ) (message : InFlightFacts) → n ≢ sent + 1 → in_flight new n ≡ Some message →
    in_flight old n ≡ Some message)
    → AreNumbered sent old → AreNumbered (sent + 1) new
numbered-sent sent old new others numbered n message is = elim (cases_eq n (sent + 1)) [
  | inl e ↦ omega (arith, e)
  | inr other ↦ let low = numbered n message (others n message other is) in omega (arith, low)
]

-- a message is kept for its receiver
pub tended-kept : (old new : IndexFacts) (number : ℕ) (found : InFlightFacts) (flight : Flight)
    (states : List AgentProcess) (cuts : CutLinks) → in_flight flight number ≡ Some found → IsLooserBut number old new
    → is_kept new (message_way found.message) number ≡ true
    → delivery_of cuts states found.message ≡ deliveries.Suspended → AreTended old flight states cuts
    → AreTended new flight states cuts
tended-kept old new number found flight states cuts there looser listed suspended tended n message is out =
    elim (cases_eq n number) [
      | inl e ↦
          let same : found ≡ message = same_Some found message (sym there ∙ ap (in_flight flight) (sym e) ∙ is) in
          subst (λ (m : InFlightFacts). IsHeldBack new states cuts n m.message) same
          (subst (λ (k : ℕ). IsHeldBack new states cuts k found.message) (sym e)
          (record { listed = listed; suspended = suspended }))
      | inr other ↦
          let held = tended n message is (looser.moving n other out) in
          record {
            listed = looser.kept n (message_way message.message) other out held.listed;
            suspended = held.suspended;
          }
    ]

-- ---- a happening that doesn't concern a message
receiver-stays : (states : List AgentProcess) (happening : AgentEvent) (message : Message) (to : LinkEnd)
    → (ConcernsReceiver happening (end_number to) → ⊥)
    → delivery_to (processes_by states happening) message to ≡ delivery_to states message to
receiver-stays states happening message ends.Store apart = refl
receiver-stays states (agents.Suspended agent) message (ends.Member member) apart =
    ap (delivery_to_agent message) (get-elsewhere states agent.id.number member.id.number _ apart)
receiver-stays states (agents.Resumed agent) message (ends.Member member) apart =
    ap (delivery_to_agent message) (get-elsewhere states agent.id.number member.id.number _ apart)
receiver-stays states (agents.Killed agent) message (ends.Member member) apart =
    ap (delivery_to_agent message) (get-elsewhere states agent.id.number member.id.number _ apart)
receiver-stays states (agents.Started agent incarnation) message (ends.Member member) apart =
    ap (delivery_to_agent message) (get-elsewhere states agent.id.number member.id.number _ apart)
receiver-stays states _ message (ends.Member member) apart = refl

machine-stays : (states : List AgentProcess) (happening : WatchdogEvent) (message : Message) (to : LinkEnd)
    → (ConcernsMachine happening (end_number to) → ⊥)
    → delivery_to (processes_by_watchdog states happening) message to ≡ delivery_to states message to
machine-stays states happening message ends.Store apart = refl
machine-stays states (watchdogs.Reset by) message (ends.Member member) apart =
    ap (delivery_to_agent message) (get-elsewhere states by.id.number member.id.number _ apart)
machine-stays states _ message (ends.Member member) apart = refl

end-within : (end : LinkEnd) → end_number end < 17
end-within ends.Store = omega arith
end-within (ends.Member member) = omega (arith, member.id.below)

second-same : (a b f s : ℕ) → a < 17 → b < 17 → f < 17 → s < 17 → b ≡ f
    → min a b * 17 + max a b ≡ min f s * 17 + max f s → a ≡ s
second-same a b f s first second third fourth same e = omega (arith, same, e)

crossed : (a b f s : ℕ) → a < 17 → b < 17 → f < 17 → s < 17 → b ≢ f
    → min a b * 17 + max a b ≡ min f s * 17 + max f s → (b ≡ s) × (a ≡ f)
crossed a b f s first second third fourth other e = (omega (arith, other, e), omega (arith, other, e))

-- two messages that take one link have the same ends
same-ends : (a b f s : ℕ) → a < 17 → b < 17 → f < 17 → s < 17
    → min a b * 17 + max a b ≡ min f s * 17 + max f s → ((b ≡ f) × (a ≡ s)) ⊎ ((b ≡ s) × (a ≡ f))
same-ends a b f s first second third fourth e = elim (cases_eq b f) [
  | inl same ↦ inl (same, second-same a b f s first second third fourth same e)
  | inr other ↦ inr (crossed a b f s first second third fourth other e)
]

other-place : (link : Link) (message : Message) → (Takes link (end_number message.to) (end_number message.from) → ⊥)
    → link_place (link_of_message message) ≢ link_place link
other-place link message apart e =
    apart (same-ends (end_number message.from) (end_number message.to) (end_number link.first) (end_number link.second)
    (end-within message.from) (end-within message.to) (end-within link.first) (end-within link.second) e)

link-stays : (cuts : CutLinks) (happening : LinkEvent) (message : Message)
    → (ConcernsLink happening (end_number message.to) (end_number message.from) → ⊥)
    → is_cut (cuts_after cuts (kinds.Link happening)) (link_of_message message) ≡ is_cut cuts (link_of_message message)
link-stays cuts (links.Cut link) message apart = get_or-set_other cuts (link_place link)
    (link_place (link_of_message message)) true false (other-place link message apart)
link-stays cuts (links.Joined link) message apart = get_or-set_other cuts (link_place link)
    (link_place (link_of_message message)) false false (other-place link message apart)

-- leaves it where it is
delivery-stays : (cuts : CutLinks) (states : List AgentProcess) (kind : EventKind) (message : Message)
    → (Concerns kind (end_number message.to) (end_number message.from) → ⊥)
    → delivery_of (cuts_after cuts kind) (processes_after states kind) message ≡ delivery_of cuts states message
delivery-stays cuts states (kinds.Agent happening) message apart =
    ap (λ (d : Delivery). if is_cut cuts (link_of_message message) then deliveries.Cut else d)
    (receiver-stays states happening message message.to apart)
delivery-stays cuts states (kinds.Watchdog happening) message apart =
    ap (λ (d : Delivery). if is_cut cuts (link_of_message message) then deliveries.Cut else d)
    (machine-stays states happening message message.to apart)
delivery-stays cuts states (kinds.Link happening) message apart =
    ap (λ (b : Bool). if b then deliveries.Cut else delivery_to states message message.to)
    (link-stays cuts happening message apart)
delivery-stays cuts states _ message apart = refl

-- what it concerns may move, so nothing of that is kept
pub tended-after : (old new : IndexFacts) (before after : Flight) (states : List AgentProcess)
    (cuts : CutLinks) (kind : EventKind) → IsLooser old new
    → ((to from : ℕ) → from < end_count → Concerns kind to from → kept_on new (way_of to from) ≡ [])
    → ((n : ℕ) (message : InFlightFacts) → in_flight after n ≡ Some message → in_flight before n ≡ Some message)
    → AreTended old before states cuts → AreTended new after (processes_after states kind) (cuts_after cuts kind)
tended-after old new before after states cuts kind looser woken others tended n message is out =
    let held = tended-looser old new before states cuts looser tended n message (others n message is) out in
    let to = end_number message.message.to in
    let from = end_number message.message.from in
    let apart : Concerns kind to from → ⊥ = λ concerns.
    no-yes
    (sym (ap (λ (numbers : List ℕ). is_among numbers n) (woken to from (end-within message.message.from) concerns))
    ∙ held.listed) in
    record { listed = held.listed; suspended = delivery-stays cuts states kind message.message apart ∙ held.suspended }
