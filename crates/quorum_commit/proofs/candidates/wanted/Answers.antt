use Rattle.std.proofs.Common.{◌∙◌, sym, arith}
use Rattle.quorum_commit.specs.Plans.{can_be_standby}
use Rattle.quorum_commit.proofs.Sets.{numbered-in, numbered-out}
use Rattle.quorum_commit.proofs.candidates.wanted.Goals as goal
use Rattle.quorum_commit.proofs.candidates.wanted.Goals.{then-can_be_standby, else-can_be_standby}

pub loop-number-preserved : goal.loop-number-preserved
loop-number-preserved c =
    elim c.if-can_be_standby.branch [
      | then-can_be_standby w ↦
          w.members-is
          ∙ numbered-in (can_be_standby c.args.view.now c.args.seen.now) c.loop-number.number c.loop-number.members
          w.with-members.result (omega arith) c.loop-number.invariant
          (sym c.can_be_standby.ensures ∙ w.if-can_be_standby.true)
          w.with-members.ensures.same w.with-members.ensures.others
      | else-can_be_standby w ↦
          w.members-is
          ∙ numbered-out (can_be_standby c.args.view.now c.args.seen.now) c.loop-number.number c.loop-number.members
          (omega arith) c.loop-number.invariant (sym c.can_be_standby.ensures ∙ w.if-can_be_standby.false)
    ]
