use Rattle.std.proofs.Common.{◌≡◌, ◌∙◌, ◌+◌, arith, ap, rules}
use Rattle.std.proofs.lemmas.Result.{on_ok_weaker}
use Rattle.event_list.specs.Listed.{◌+++◌}
use Rattle.lease_store.specs.Answers.{expired_holder, expired_keys}
use Rattle.cluster_model.specs.Orders.{declared_member}
use Rattle.cluster_model.specs.Parts.{events_at}
use Rattle.cluster_model.specs.Ticking.{expiries_of}
use Rattle.world_model.specs.Room.{completions_cost, resets_cost, tick_cost}
use Rattle.world_ticks.proofs.Expiring.{tick-took}
use Rattle.world_model.proofs.Rooms.{HasRoom-fewer}
use Rattle.world_ticks.proofs.ticks.end_due.Goals as goal

pub happen-requires-clause-room : goal.happen-requires-clause-room
happen-requires-clause-room c = HasRoom-fewer c.args.stage.now tick_cost 1 (omega arith) c.requires

pub resets-requires : goal.resets-requires
resets-requires c = c.in_ok-happen.ensures.room resets_cost
    (HasRoom-fewer c.args.stage.now tick_cost (1 + resets_cost) (omega arith) c.requires)

pub completions-requires : goal.completions-requires
completions-requires c = c.in_ok-resets.ensures.room completions_cost
    (c.in_ok-happen.ensures.room (resets_cost + completions_cost) c.requires)

pub returns : goal.returns
returns c =
    let before = c.args.stage.now in
    let now = before.facts.clock + 1 in
    let holder : c.declared_member-holder.result
    ≡ declared_member before.facts.members (expired_holder before.facts.keys now) = search rules in
    let all : c.deref.result.now ≡ expired_keys before.facts.keys now = search rules in
    let told = c.in_ok-tell_expiries.ensures
    ∙ ap (λ ks. c.resets.new.events +++ events_at c.clock-2.result (expiries_of c.declared_member-holder.result ks)) all
    ∙ ap (λ h. c.resets.new.events +++ events_at c.clock-2.result (expiries_of h (expired_keys before.facts.keys now)))
    holder in
    on_ok_weaker c.completions.result
    (λ took. tick-took before c.happen.new.self c.resets.new.stage c.completions.new.stage c.args.events.now
    c.happen.new.events c.resets.new.events c.tell_expiries.new.events c.completions.new.events c.clock-2.result
    c.in_ok-happen.ensures c.in_ok-resets.ensures c.clock-2.ensures told took)
    c.completions.ensures
