use Rattle.std.proofs.Common.{◌∙◌, sym, arith}
use Rattle.sync_state.specs.Candidates.{is_wanted}
use Rattle.sync_state.proofs.SetBits.{set-in, set-out}
use Rattle.sync_state.proofs.candidates.wanted.Goals as goal
use Rattle.sync_state.proofs.candidates.wanted.Goals.{then-is_wanted, else-is_wanted}

pub loop-number-preserved : goal.loop-number-preserved
loop-number-preserved c =
    elim c.if-is_wanted.branch [
      | then-is_wanted w ↦
          w.members-is
          ∙ set-in (is_wanted c.args.most c.args.candidates.now) c.args.candidates.now c.loop-number.number
          c.index-candidates-number.result c.loop-number.members w.with-members.result
          (omega arith) c.loop-number.invariant
          (sym c.is_wanted.ensures ∙ w.if-is_wanted.true) w.with-members.ensures.same w.with-members.ensures.others
      | else-is_wanted w ↦
          w.members-is
          ∙ set-out (is_wanted c.args.most c.args.candidates.now) c.args.candidates.now c.loop-number.number
          c.index-candidates-number.result c.loop-number.members
          (omega arith) c.loop-number.invariant (sym c.is_wanted.ensures ∙ w.if-is_wanted.false)
    ]
