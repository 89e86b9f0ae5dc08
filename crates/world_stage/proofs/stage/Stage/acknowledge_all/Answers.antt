use Rattle.std.proofs.Common.{◌≤◌, ◌<◌, arith, ap, length}
use Rattle.cluster_model.proofs.Places.{there}
use Rattle.cluster_model.specs.State.{Cluster}
use Rattle.world_stage.proofs.Acknowledgements.{acknowledged-all}
use Rattle.world_model.proofs.Rest.{EachLeft-end, EachLeft-members, EachLeft-more, EachLeft-place}
use Rattle.world_model.proofs.Taking.{Emits-weaker}
use Rattle.world_stage.proofs.stage.Stage.acknowledge_all.Goals as goal

pub acknowledge_at-requires : goal.acknowledge_at-requires
acknowledge_at-requires c = omega (
  arith,
  c.loop-place-test.true,
  c.len-place-end.ensures,
  ap (λ (b : Cluster). length b.facts.members) c.self.view_is,
  ap length (EachLeft-members _ _ _ _ _ _ _ _ _ c.loop-place.invariant),
)

pub loop-place-preserved : goal.loop-place-preserved
loop-place-preserved c =
    let small : c.loop-place.place < length c.loop-place.self.facts.members =
    omega (
      arith,
      c.loop-place-test.true,
      c.len-place-end.ensures,
      ap (λ (b : Cluster). length b.facts.members) c.self.view_is,
      ap length (EachLeft-members _ _ _ _ _ _ _ _ _ c.loop-place.invariant),
    ) in
    let found = there c.loop-place.self.facts.members c.loop-place.place small in
    EachLeft-more _ _ _ _ _ _ _ _ _ _ c.loop-place.place _ c.loop-place.invariant
    (EachLeft-place _ _ _ _ _ _ _ _ c.loop-place.invariant found.1) (c.in_ok-acknowledge_at.ensures found.0 found.1)

pub returns : goal.returns
returns c =
    let over : length c.args.self.now.facts.members ≤ c.loop-place.place = omega (
      arith,
      c.loop-place-test.false,
      c.len-place-end.ensures,
      ap (λ (b : Cluster). length b.facts.members) c.self.view_is,
    ) in
    let took = EachLeft-end _ _ _ _ _ _ _ _ c.loop-place.place c.loop-place.invariant over in
    record {
      emits = Emits-weaker _ _ _ _ _ _ 0 took (omega arith);
      done = acknowledged-all c.args.self.now c.loop-place.self c.args.events.now c.loop-place.events _ took;
    }
