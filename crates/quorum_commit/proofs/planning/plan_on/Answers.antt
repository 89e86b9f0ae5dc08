use Rattle.std.proofs.Common.{Bool, cond, ap, sym, ◌∙◌}
use Rattle.sync_state.proofs.SetBits.{same-numbers}
use Rattle.quorum_commit.specs.declared.steps.Aim.{Aim}
use Rattle.quorum_commit.specs.declared.steps.QuorumPlan.TheVariants as plans
use Rattle.quorum_commit.specs.Plans.{aim_of, quorum_change_of, quorum_plan_on}
use Rattle.quorum_commit.proofs.planning.plan_on.Goals as goal

pub returns-then-sync-view : goal.returns-then-sync-view
returns-then-sync-view c =
    let view = c.args.view.now in
    let seen = c.args.seen.now in
    let aim : Aim = aim_of view seen c.in-Some.sync in
    c.change_of.ensures ∙ ap (λ (a : Aim). quorum_change_of a) c.aim_of.ensures
    ∙ sym (ap (λ (t : Bool). cond t (quorum_change_of aim) plans.Mark)
    (same-numbers c.in-Some.sync.leader.number view.view.me.number c.if-sync-view.true))
    ∙ sym (ap (quorum_plan_on view seen) c.in-Some.is)
