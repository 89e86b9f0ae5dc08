use Rattle.std.proofs.Common.{◌≡◌, ◌∙◌, ◌+◌, [], ◌∷◌, arith, refl, ap, sym, subst}
use Rattle.std.proofs.lemmas.Result.{on_ok_weaker}
use Rattle.event_list.specs.Listed.{◌+++◌}
use Rattle.lease_store.specs.Answers.{present_pairs}
use Rattle.lease_store.specs.Copied.{items_if}
use Rattle.event_book.specs.declared.event.Event.{Event}
use Rattle.event_book.specs.declared.event.EventKind.TheVariants as kinds
use Rattle.event_book.specs.declared.event.MessageEvent.TheVariants.{Sent}
use Rattle.event_book.specs.declared.message.Message.{Message}
use Rattle.event_book.specs.Flight.{grant_for, snapshot_for}
use Rattle.cluster_model.specs.State.{Cluster}
use Rattle.world_flight.specs.Launches.{launched_into}
use Rattle.cluster_model.specs.Messages.{send_events}
use Rattle.world_model.specs.Emits.{Emits}
use Rattle.world_stage.proofs.Sending.{send-took, loaded-is, with_flight, with_keys}
use Rattle.world_flight.proofs.Tending.{numbered-sent, tended-looser, tended-sent}
use Rattle.world_stage.proofs.Worlds.{seen}
use Rattle.world_stage.proofs.stage.Stage.send.Goals as goal

pub launch-requires-clause-newest : goal.launch-requires-clause-newest
launch-requires-clause-newest c = λ n message is. let numbered = c.self.invariant.1 n message is in
    omega (arith, numbered)

pub invariant_of-self-in_err-insert : goal.invariant_of-self-in_err-insert
invariant_of-self-in_err-insert c =
    let w = c.self.inside in (
      c.self.invariant.0,
      c.self.invariant.1,
      tended-looser w.index c.insert.new.self w.flight w.processes.items w.cuts c.insert.ensures.looser
          c.self.invariant.2,
      c.self.invariant.3,
      c.self.invariant.4,
    )

pub invariant_of-self-in_err-lost : goal.invariant_of-self-in_err-lost
invariant_of-self-in_err-lost c =
    let w = c.self.inside in (
      c.self.invariant.0,
      numbered-sent w.sent w.flight c.launch.new.self c.launch.ensures.others c.self.invariant.1,
      tended-sent c.insert.new.self (w.sent + 1) w.flight c.launch.new.self w.processes.items w.cuts
          c.in_ok-insert.ensures.there c.launch.ensures.others
          (tended-looser w.index c.insert.new.self w.flight w.processes.items w.cuts c.insert.ensures.looser
          c.self.invariant.2),
      c.self.invariant.3,
      c.self.invariant.4,
    )

pub invariant_of-self-in_err-write_down : goal.invariant_of-self-in_err-write_down
invariant_of-self-in_err-write_down c =
    let w = c.self.inside in (
      c.self.invariant.0,
      numbered-sent w.sent w.flight c.launch.new.self c.launch.ensures.others c.self.invariant.1,
      tended-sent c.insert.new.self (w.sent + 1) w.flight c.launch.new.self w.processes.items w.cuts
          c.in_ok-insert.ensures.there c.launch.ensures.others
          (tended-looser w.index c.insert.new.self w.flight w.processes.items w.cuts c.insert.ensures.looser
          c.self.invariant.2),
      c.self.invariant.3,
      c.self.invariant.4,
    )

pub invariant_of-self-2 : goal.invariant_of-self-2
invariant_of-self-2 c =
    let w = c.self.inside in (
      c.self.invariant.0,
      numbered-sent w.sent w.flight c.launch.new.self c.launch.ensures.others c.self.invariant.1,
      tended-sent c.insert.new.self (w.sent + 1) w.flight c.launch.new.self w.processes.items w.cuts
          c.in_ok-insert.ensures.there c.launch.ensures.others
          (tended-looser w.index c.insert.new.self w.flight w.processes.items w.cuts c.insert.ensures.looser
          c.self.invariant.2),
      c.self.invariant.3,
      c.self.invariant.4,
    )

pub returns : goal.returns
returns c =
    let before = seen c.self.inside in
    let message = c.args.message in
    let grant = c.requires.grant
    ∙ ap (λ (f : Cluster). grant_for message.body message.to f.facts.keys.revision) (sym c.self.view_is) in
    let shared = c.in_ok-message.ensures in
    let told = c.in_ok-snapshot_for.ensures.entries
    ∙ ap (λ (m : Message). snapshot_for m.body (present_pairs before.facts.clock before.facts.keys.pairs))
    (c.get.ensures ∙ shared) in
    let loaded = loaded-is before message c.in_ok-try_clone.field-0 c.self.inside.clock
    (items_if c.in_ok-snapshot_for.field-0) c.args.grant (c.in_ok-try_clone.ensures ∙ shared) refl told grant in
    let number = before.facts.sent + 1 in
    let mid = c.in_ok-write_down.ensures ∙ ap (λ (m : Message). let event : Event = record {
      tick = c.self.inside.clock;
      kind = kinds.Message (Sent number m);
    } in c.args.events.now +++ event ∷ []) shared in
    let flown = with_flight before c.launch.new.self (before.facts.sent + 1) in
    let after = with_keys flown c.snapshot_for.new.store in
    let same : after ≡ flown = ap (with_keys flown) c.snapshot_for.ensures.same in
    on_ok_weaker c.tell_lost.result
    (λ has. subst (λ (b : Cluster). Emits b after c.args.events.now c.tell_lost.new.events (send_events b message) 2)
    c.self.view_is
    (send-took before after message c.self.inside.clock c.launch.new.self c.in_ok-lost.lost c.args.events.now
    c.write_down.new.events c.tell_lost.new.events refl
    (c.in_ok-lost.ensures.flight ∙ ap (λ m. launched_into before.facts.flight (before.facts.sent + 1) m) loaded)
    c.in_ok-lost.ensures.lost same mid has))
    c.tell_lost.ensures
