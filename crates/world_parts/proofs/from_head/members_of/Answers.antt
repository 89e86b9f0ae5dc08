use Rattle.std.proofs.Common.{ap, arith, drop, length, length-append}
use Rattle.std.proofs.lemmas.List.{length-map}
use Rattle.script_model.specs.Script.{MemberText, names_of}
use Rattle.event_book.specs.Members.{members_from}
use Rattle.world_model.proofs.Starting.{members-few, members-more}
use Rattle.world_parts.proofs.from_head.members_of.Goals as goal

pub loop-place-preserved : goal.loop-place-preserved
loop-place-preserved c = members-more _ _ _ c.loop-place.place c.declared_at.result c.loop-place.invariant
    c.declared_at.ensures.id c.declared_at.ensures.name c.in_ok-push.ensures.items

pub returns-clause-few : goal.returns-clause-few
returns-clause-few c =
    let names = names_of c.args.head.now in
    let place = c.loop-place.place in
    omega (
      arith,
      ap length c.loop-place.invariant,
      length-append c.loop-place.members.items (members_from place (drop place names)),
      members-few 0 names,
      length-map c.args.head.now.members (λ (m : MemberText). m.name),
      c.member_count-place-end.ensures.value,
      c.member_count-place-end.ensures.few,
    )
