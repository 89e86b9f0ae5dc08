use Rattle.std.proofs.Common.{◌≡◌, [], arith, subst}
use Rattle.cluster_model.specs.Messages.{message_events}
use Rattle.cluster_model.specs.State.{Cluster}
use Rattle.world_stage.proofs.Still.{held-still}
use Rattle.world_stage.proofs.Worlds.{seen}
use Rattle.world_stage.proofs.stage.Stage.next_to_move.Goals as goal

pub returns-then-number-last-clause-still : goal.returns-then-number-last-clause-still
returns-then-number-last-clause-still c = λ k low high below.
    let out = c.first_from-number.ensures.passed k low (omega (arith, high, c.if-number-last.true)) in
    subst (λ (b : Cluster). message_events b k ≡ []) c.self.view_is
    (held-still (seen c.self.inside) c.self.inside.index k c.self.invariant.2 out)

pub returns-clause-still : goal.returns-clause-still
returns-clause-still c = λ k low high below.
    let out = c.first_from-number.ensures.passed k low below in
    subst (λ (b : Cluster). message_events b k ≡ []) c.self.view_is
    (held-still (seen c.self.inside) c.self.inside.index k c.self.invariant.2 out)
