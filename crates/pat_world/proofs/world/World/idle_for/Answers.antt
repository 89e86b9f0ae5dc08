use Rattle.std.proofs.Common.{◌≡◌, ◌+◌, replicate, arith, ap, sym, subst, ◌∙◌}
use Rattle.cluster_model.specs.declared.step.Step.TheVariants as steps
use Rattle.cluster_model.specs.Acknowledging.{AreAcknowledged}
use Rattle.cluster_model.specs.Next.{run_events}
use Rattle.cluster_model.specs.State.{Cluster}
use Rattle.simulation.specs.Steps.{WorldFacts}
use Rattle.world_model.specs.Idle.{at_moment}
use Rattle.world_model.proofs.Idling.{idle-commits}
use Rattle.world_play.proofs.Lulls.{later-lull}
use Rattle.pat_world.proofs.IdleTicks.{brings-ticks, idle-passed, passed, steps-keep, steps-stand}
use Rattle.pat_world.proofs.KeptCommits.{steps-keep-commits}
use Rattle.pat_world.proofs.OneWriter.{one-primary}
use Rattle.pat_world.proofs.Stepping.{TookSteps-idle}
use Rattle.pat_world.proofs.world.World.idle_for.Goals as goal

pub pass-requires : goal.pass-requires
pass-requires c =
    omega (arith, c.idle_ticks-ticks.ensures.fits, ap (λ (w : WorldFacts). w.cluster.facts.clock) c.self.view_is)

pub invariant_of-self : goal.invariant_of-self
invariant_of-self c =
    let later = c.self.inside.stage.facts.clock + c.idle_ticks-ticks.result in (
      idle-passed steps.Scheduled c.self.inside.idle_before later c.self.inside.stage c.pass.new.self
          c.pass.ensures c.self.invariant.0,
      idle-passed steps.Tick c.self.inside.ticks_idle_before later c.self.inside.stage c.pass.new.self
          c.pass.ensures c.self.invariant.1,
      later-lull c.self.inside.lull c.self.inside.stage c.pass.new.self later c.pass.ensures c.self.invariant.2,
    )

pub returns : goal.returns
returns c =
    let world = c.args.self.now in
    let old = world.cluster in
    let step = c.args.step.now in
    let n = c.idle_ticks-ticks.result in
    let new : c.pass.new.self ≡ at_moment old (old.facts.clock + n) = c.pass.ensures
    ∙ ap (λ (w : WorldFacts). at_moment w.cluster (w.cluster.facts.clock + n)) c.self.view_is in
    let took = ap (λ (w : WorldFacts). w.steps + n) c.self.view_is in
    let idle = c.idle_ticks-ticks.ensures.idle in
    let left = new ∙ sym (passed step old (old.facts.clock + n) n (omega arith) idle) in
    record {
      most = c.idle_ticks-ticks.ensures.most;
      ticks = brings-ticks step old (old.facts.clock + n) n (omega arith) idle;
      world = left;
      taken = TookSteps-idle world _ n new took;
      book = λ start book stands. steps-stand start book old c.pass.new.self (replicate n step) left stands;
      one_writer = steps-keep old (replicate n step);
      one_primary = one-primary old (run_events old (replicate n step)) (steps-keep old (replicate n step));
      commits = steps-keep-commits old (replicate n step);
      acknowledged = λ some. subst (λ (s : Cluster). AreAcknowledged s.facts.members s.facts.servers)
          (sym new) (idle-commits step old (old.facts.clock + n) (idle some));
      spent = ap (λ (w : WorldFacts). w.spent) c.self.view_is;
      none = c.idle_ticks-ticks.ensures.none;
    }
