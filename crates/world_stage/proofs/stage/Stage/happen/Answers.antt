use Rattle.std.proofs.Common.{ap}
use Rattle.std.proofs.lemmas.Result.{on_ok_weaker}
use Rattle.cluster_model.specs.State.{Cluster}
use Rattle.world_stage.proofs.Comings.{Emits-bare}
use Rattle.world_stage.proofs.stage.Stage.happen.Goals as goal

pub returns : goal.returns
returns c =
    on_ok_weaker c.write_down.result
    (λ has. Emits-bare c.args.self.now c.change.new.self c.self.inside.clock c.args.kind c.args.events.now
    c.write_down.new.events c.requires.comes.bare c.requires.comes.counts c.in_ok-change.ensures
    (ap (λ (b : Cluster). b.facts.clock) c.self.view_is) has)
    c.write_down.ensures
