use Rattle.std.proofs.Common.{◌∙◌, sym, arith}
use Rattle.quorum_commit.specs.Race.{is_told}
use Rattle.quorum_commit.proofs.Sets.{numbered-in, numbered-out}
use Rattle.quorum_commit.proofs.race.compared.Goals as goal
use Rattle.quorum_commit.proofs.race.compared.Goals.{then-is_told, else-is_told}

pub loop-number-preserved : goal.loop-number-preserved
loop-number-preserved c =
    elim c.if-is_told.branch [
      | then-is_told w ↦
          w.members-is
          ∙ numbered-in (is_told c.args.racer.now c.args.answers.now) c.loop-number.number c.loop-number.members
          w.with-members.result (omega arith) c.loop-number.invariant (sym c.is_told.ensures ∙ w.if-is_told.true)
          w.with-members.ensures.same w.with-members.ensures.others
      | else-is_told w ↦
          w.members-is
          ∙ numbered-out (is_told c.args.racer.now c.args.answers.now) c.loop-number.number c.loop-number.members
          (omega arith) c.loop-number.invariant (sym c.is_told.ensures ∙ w.if-is_told.false)
    ]
