use Rattle.std.proofs.Common.{arith}
use Rattle.std.proofs.lemmas.List.{length-map}
use Rattle.script_model.specs.Script.{MemberText}
use Rattle.cluster_model.specs.Starting.{options_of}
use Rattle.world_model.proofs.Starting.{rest-end, rest-more}
use Rattle.world_parts.proofs.from_head.options_of.Goals as goal

pub loop-place-preserved : goal.loop-place-preserved
loop-place-preserved c = rest-more _ (options_of c.args.head.now) _ _ c.loop-place.place c.options_at.result
    c.loop-place.invariant c.options_at.ensures c.in_ok-push.ensures.items

pub returns : goal.returns
returns c = rest-end _ (options_of c.args.head.now) _ c.loop-place.place c.loop-place.invariant
    (omega (
      arith,
      c.loop-place-test.false,
      c.member_count-place-end.ensures.value,
      length-map c.args.head.now.members (λ (m : MemberText). m.options),
    ))
