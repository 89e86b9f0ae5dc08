use Rattle.std.proofs.Common.{sym, ◌∙◌}
use Rattle.leader_key.specs.Lease.{writer_revision}
use Rattle.agent_leadership.proofs.Seeking.{seeks-where}
use Rattle.agent_leadership.proofs.staying.leader_unanswered.Goals as goal

pub returns-clause-outcome : goal.returns-clause-outcome
returns-clause-outcome c = seeks-where c.args.turn.now.moment (writer_revision c.args.writer) c.args.turn.now
    c.seek_to_stay.new.turn c.others_known-members.result c.seek_to_stay.ensures.outcome c.others_known-members.ensures
    (sym c.may_stay.ensures ∙ c.if-not-may_stay.false)
