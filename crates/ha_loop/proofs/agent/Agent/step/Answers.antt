use Rattle.std.proofs.Common.{◌≡◌, ◌∙◌, List, [], ap, rules, subst, sym}
use Rattle.agent_model.specs.declared.output.Output.{Output}
use Rattle.agent_model.specs.Agents.{outcome_from}
use Rattle.agent_turn.specs.Roles.{role_of}
use Rattle.agent_succession.specs.FreeKey.{AsksWhereFree, AsksWhereWon, BeginsWhereGranted}
use Rattle.agent_model.specs.Table.{prepared, step}
use Rattle.agent_cases.specs.Bounds.{IsSmall}
use Rattle.agent_cases.proofs.Bounds.{step-small}
use Rattle.agent_succession.proofs.Beginning.{step-asks, step-begins, step-wins}
use Rattle.agent_commit_law.proofs.CommitInputs.{input-commits-as}
use Rattle.agent_outputs.specs.Orders.{IsCarriedOut}
use Rattle.agent_outputs.proofs.Orders.{step-carried-out}
use Rattle.agent_model.specs.Reconciling.{reconciled}
use Rattle.agent_rules.specs.Turns.{ReadsInTurn}
use Rattle.agent_rules.proofs.InputGrounds.{input-has-grounds-as}
use Rattle.agent_rules.proofs.Turning.{input-reads}
use Rattle.agent_lease_law.proofs.LawfulSteps.{input-lawful-as}
use Rattle.agent_answers.proofs.OperatorAnswers.{input-decides-as, input-right-as, right-causes}
use Rattle.agent_roles.proofs.Staying.{input-ends-as, input-counts}
use Rattle.ha_loop.proofs.agent.Agent.step.Goals as goal

pub invariant_of-self : goal.invariant_of-self
invariant_of-self c = record {
  sound = c.hear-role.ensures.sound;
  ends = input-ends-as c.args.now c.args.history.now.points c.args.heard
      (outcome_from c.args.self.now.role c.args.self.now.knows c.args.machine.now c.args.out.now.outputs)
      (outcome_from (role_of c.fill.new.place) c.hear-role.new.knows c.hear-role.new.machine
      c.hear-role.new.out.outputs)
      (search rules) (search rules);
  counted = input-counts c.args.now c.args.history.now.points c.args.heard
      (outcome_from c.args.self.now.role c.args.self.now.knows c.args.machine.now c.args.out.now.outputs)
      (outcome_from (role_of c.fill.new.place) c.hear-role.new.knows c.hear-role.new.machine
      c.hear-role.new.out.outputs)
      (search rules) (search rules);
}

pub returns-clause-lawful : goal.returns-clause-lawful
returns-clause-lawful c = input-lawful-as c.args.now c.args.history.now.points c.args.heard
    c.args.self.now.role c.args.self.now.knows c.args.machine.now c.args.out.now.outputs
    (outcome_from (role_of c.fill.new.place) c.hear-role.new.knows c.hear-role.new.machine c.hear-role.new.out.outputs)
    (search rules) (search rules)

pub returns-clause-grounds : goal.returns-clause-grounds
returns-clause-grounds c = input-has-grounds-as c.args.now c.args.history.now.points c.args.heard
    c.args.self.now.role c.args.self.now.knows c.args.machine.now c.args.out.now.outputs
    (outcome_from (role_of c.fill.new.place) c.hear-role.new.knows c.hear-role.new.machine c.hear-role.new.out.outputs)
    (search rules) (search rules)

pub returns-clause-carried : goal.returns-clause-carried
returns-clause-carried c none =
    let made : outcome_from (role_of c.fill.new.place) c.hear-role.new.knows c.hear-role.new.machine
    c.hear-role.new.out.outputs
    ≡ step c.args.now c.args.history.now.points c.args.heard
    (outcome_from c.args.self.now.role c.args.self.now.knows c.args.machine.now c.args.out.now.outputs) =
    search rules in
    subst (IsCarriedOut c.args.now c.args.machine.now)
    (sym (made ∙ ap (λ (outs : List Output). step c.args.now c.args.history.now.points c.args.heard
    (outcome_from c.args.self.now.role c.args.self.now.knows c.args.machine.now outs)) none))
    (step-carried-out c.args.now c.args.history.now.points c.args.heard c.args.self.now.role
    c.args.self.now.knows c.args.machine.now)

pub returns-clause-reads : goal.returns-clause-reads
returns-clause-reads c =
    let o = outcome_from c.args.self.now.role c.args.self.now.knows c.args.machine.now c.args.out.now.outputs in
    subst (ReadsInTurn c.args.now c.args.heard (reconciled c.args.now o))
    (sym (let told : outcome_from (role_of c.fill.new.place) c.hear-role.new.knows c.hear-role.new.machine
    c.hear-role.new.out.outputs ≡ step c.args.now c.args.history.now.points c.args.heard o = search rules in told))
    (input-reads c.args.now c.args.history.now.points c.args.heard o)

pub returns-clause-commits : goal.returns-clause-commits
returns-clause-commits c = input-commits-as c.args.now c.args.history.now.points c.args.heard
    c.args.self.now.role c.args.self.now.knows c.args.machine.now c.args.out.now.outputs
    (outcome_from (role_of c.fill.new.place) c.hear-role.new.knows c.hear-role.new.machine c.hear-role.new.out.outputs)
    (search rules)

pub returns-clause-free_key : goal.returns-clause-free_key
returns-clause-free_key c =
    let o = outcome_from c.args.self.now.role c.args.self.now.knows c.args.machine.now c.args.out.now.outputs in
    subst (AsksWhereFree c.args.now c.args.heard (prepared c.args.now c.args.heard o))
    (sym (let told : outcome_from (role_of c.fill.new.place) c.hear-role.new.knows c.hear-role.new.machine
    c.hear-role.new.out.outputs ≡ step c.args.now c.args.history.now.points c.args.heard o = search rules in told))
    (step-asks c.args.now c.args.history.now.points c.args.heard o)

pub returns-clause-won_race : goal.returns-clause-won_race
returns-clause-won_race c =
    let o = outcome_from c.args.self.now.role c.args.self.now.knows c.args.machine.now c.args.out.now.outputs in
    subst (AsksWhereWon c.args.now c.args.heard (prepared c.args.now c.args.heard o))
    (sym (let told : outcome_from (role_of c.fill.new.place) c.hear-role.new.knows c.hear-role.new.machine
    c.hear-role.new.out.outputs ≡ step c.args.now c.args.history.now.points c.args.heard o = search rules in told))
    (step-wins c.args.now c.args.history.now.points c.args.heard o)

pub returns-clause-granted_key : goal.returns-clause-granted_key
returns-clause-granted_key c =
    let o = outcome_from c.args.self.now.role c.args.self.now.knows c.args.machine.now c.args.out.now.outputs in
    subst (BeginsWhereGranted c.args.now c.args.heard (prepared c.args.now c.args.heard o))
    (sym (let told : outcome_from (role_of c.fill.new.place) c.hear-role.new.knows c.hear-role.new.machine
    c.hear-role.new.out.outputs ≡ step c.args.now c.args.history.now.points c.args.heard o = search rules in told))
    (step-begins c.args.now c.args.history.now.points c.args.heard o)

pub returns-clause-small : goal.returns-clause-small
returns-clause-small c =
    let o = outcome_from c.args.self.now.role c.args.self.now.knows c.args.machine.now c.args.out.now.outputs in
    subst (IsSmall o)
    (sym (let told : outcome_from (role_of c.fill.new.place) c.hear-role.new.knows c.hear-role.new.machine
    c.hear-role.new.out.outputs ≡ step c.args.now c.args.history.now.points c.args.heard o = search rules in told))
    (step-small c.args.now c.args.history.now.points c.args.heard o)

pub returns-clause-answers : goal.returns-clause-answers
returns-clause-answers c none =
    (input-right-as c.args.now c.args.history.now.points c.args.heard c.args.self.now.role
    c.args.self.now.knows c.args.machine.now c.args.out.now.outputs
    (outcome_from (role_of c.fill.new.place) c.hear-role.new.knows c.hear-role.new.machine c.hear-role.new.out.outputs)
    (search rules) none).answers

pub returns-clause-causes : goal.returns-clause-causes
returns-clause-causes c none =
    let after =
    outcome_from (role_of c.fill.new.place) c.hear-role.new.knows c.hear-role.new.machine c.hear-role.new.out.outputs in
    right-causes c.args.now c.args.heard
    (outcome_from c.args.self.now.role c.args.self.now.knows c.args.machine.now []) after
    (input-right-as c.args.now c.args.history.now.points c.args.heard c.args.self.now.role
    c.args.self.now.knows c.args.machine.now c.args.out.now.outputs after (search rules) none)

pub returns-clause-waits : goal.returns-clause-waits
returns-clause-waits c none =
    (input-right-as c.args.now c.args.history.now.points c.args.heard c.args.self.now.role
    c.args.self.now.knows c.args.machine.now c.args.out.now.outputs
    (outcome_from (role_of c.fill.new.place) c.hear-role.new.knows c.hear-role.new.machine c.hear-role.new.out.outputs)
    (search rules) none).waits

pub returns-clause-decisions : goal.returns-clause-decisions
returns-clause-decisions c none = input-decides-as c.args.now c.args.history.now.points c.args.heard
    c.args.self.now.role c.args.self.now.knows c.args.machine.now c.args.out.now.outputs
    (outcome_from (role_of c.fill.new.place) c.hear-role.new.knows c.hear-role.new.machine c.hear-role.new.out.outputs)
    (search rules) none
