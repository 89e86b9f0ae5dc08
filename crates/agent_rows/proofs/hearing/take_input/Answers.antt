use Rattle.std.proofs.Common.{subst, sym, ap, ◌∙◌}
use Rattle.agent_model.specs.Agents.{IsWithin, Outcome}
use Rattle.agent_turn.specs.Roles.{role_of}
use Rattle.agent_turn.specs.Turns.{reached}
use Rattle.agent_rows.proofs.Looking.{looked-machine}
use Rattle.agent_rows.proofs.hearing.take_input.Goals as goal

pub read_answered-requires-clause-server : goal.read_answered-requires-clause-server
read_answered-requires-clause-server c =
    let before : Outcome = reached (role_of c.reconcile-role.result) c.reconcile-role.new.turn in
    subst IsWithin
    (sym (ap (λ (o : Outcome). o.machine.server)
    (c.look.ensures.outcome)
    ∙ ap (λ m. m.server) (looked-machine c.in-ReadAnswered.sequence c.in-ReadAnswered.snapshot before)
    ∙ c.reconcile-role.ensures.server)) c.requires.server
