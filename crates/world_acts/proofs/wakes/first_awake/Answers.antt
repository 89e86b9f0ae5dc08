use Rattle.std.proofs.Common.{◌≡◌, ◌<◌, inl, inr, Option, Some, IfSome, slice_get, get_or, arith, ap, sym, subst, ◌∙◌}
use Rattle.std.proofs.lemmas.Bool.{cases_eq}
use Rattle.std.proofs.lemmas.Option.{slice_get-get_or}
use Rattle.event_book.specs.declared.member.Member.{Member}
use Rattle.world_acts.specs.Asleep.{until_of}
use Rattle.world_acts.proofs.wakes.first_awake.Goals as goal

pub loop-place-preserved : goal.loop-place-preserved
loop-place-preserved c = record {
  least = omega (arith, c.loop-place.invariant.least);
  most = omega (arith, c.loop-place-test.true);
  asleep = λ place least most. elim (cases_eq place c.loop-place.place) [
    | inl e ↦
        let item : Member = get_or c.args.members.now c.loop-place.place c.index-members-place.result in
        let here : slice_get c.args.members.now place ≡ Some item = ap (slice_get c.args.members.now) e
        ∙ slice_get-get_or c.args.members.now c.loop-place.place c.index-members-place.result c.loop-place-test.true in
        subst (λ (o : Option Member).
        IfSome o (λ member. c.args.moment.0 < until_of c.args.asleep.now member.id.number))
        (sym here) (omega (arith, c.until.ensures, c.if-until-moment.false))
    | inr other ↦ c.loop-place.invariant.asleep place least (omega (arith, most, other))
  ];
}
