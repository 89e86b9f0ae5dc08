use Rattle.std.proofs.Common.{ap, sym, ◌∙◌}
use Rattle.std.proofs.lemmas.Result.{on_ok_weaker}
use Rattle.simulation.specs.Steps.{WorldFacts}
use Rattle.world_model.specs.Room.{step_cost}
use Rattle.pat_world.proofs.Fenced.{step-fenced}
use Rattle.pat_world.proofs.KeptCommits.{step-keeps-commits}
use Rattle.simulation.proofs.Standing.{step-stands}
use Rattle.pat_world.proofs.OneWriter.{one-primary, step-keeps}
use Rattle.pat_world.proofs.Stepping.{TookSteps-step}
use Rattle.pat_world.proofs.world.World.step.Goals as goal

pub returns-else-is_err-clause-book : goal.returns-else-is_err-clause-book
returns-else-is_err-clause-book c = on_ok_weaker c.attempt-taken.result
    (λ took start book stands. step-stands start book _ _ _ _ c.args.step.now step_cost stands took)
    c.attempt-taken.ensures.emits

pub returns-else-is_err-clause-one_writer : goal.returns-else-is_err-clause-one_writer
returns-else-is_err-clause-one_writer c =
    on_ok_weaker c.attempt-taken.result
    (λ took. step-keeps c.args.self.now.cluster c.attempt-taken.new.self.cluster c.args.events.now
    c.attempt-taken.new.events c.args.step.now step_cost c.requires.empty took)
    c.attempt-taken.ensures.emits

pub returns-else-is_err-clause-one_primary : goal.returns-else-is_err-clause-one_primary
returns-else-is_err-clause-one_primary c =
    on_ok_weaker c.attempt-taken.result
    (λ took. one-primary c.args.self.now.cluster c.attempt-taken.new.events.items
    (step-keeps c.args.self.now.cluster c.attempt-taken.new.self.cluster c.args.events.now
    c.attempt-taken.new.events c.args.step.now step_cost c.requires.empty took))
    c.attempt-taken.ensures.emits

pub returns-else-is_err-clause-commits : goal.returns-else-is_err-clause-commits
returns-else-is_err-clause-commits c =
    on_ok_weaker c.attempt-taken.result
    (λ took. step-keeps-commits c.args.self.now.cluster c.attempt-taken.new.self.cluster
    c.args.events.now c.attempt-taken.new.events c.args.step.now step_cost c.requires.empty took)
    c.attempt-taken.ensures.emits

pub returns-else-is_err-clause-fenced : goal.returns-else-is_err-clause-fenced
returns-else-is_err-clause-fenced c =
    on_ok_weaker c.attempt-taken.result
    (λ took. step-fenced c.args.self.now.cluster c.attempt-taken.new.self.cluster c.args.events.now
    c.attempt-taken.new.events c.args.step.now step_cost c.requires.empty took)
    c.attempt-taken.ensures.emits

pub returns-else-is_err-clause-taken : goal.returns-else-is_err-clause-taken
returns-else-is_err-clause-taken c =
    on_ok_weaker c.attempt-taken.result
    (λ took. TookSteps-step c.args.self.now c.attempt-taken.new.self c.args.events.now c.attempt-taken.new.events _
    (c.requires.room (ap (λ (w : WorldFacts). w.spent) (sym c.self.view_is) ∙ c.if-self.false))
    c.attempt-taken.ensures.steps took)
    c.attempt-taken.ensures.emits
