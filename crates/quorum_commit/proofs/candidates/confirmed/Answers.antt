use Rattle.std.proofs.Common.{◌∙◌, sym, arith}
use Rattle.sync_state.specs.Standbys.{has_confirmed}
use Rattle.sync_state.proofs.SetBits.{set-in, set-out}
use Rattle.quorum_commit.proofs.candidates.confirmed.Goals as goal
use Rattle.quorum_commit.proofs.candidates.confirmed.Goals.{then-has_confirmed, else-has_confirmed}

pub loop-number-preserved : goal.loop-number-preserved
loop-number-preserved c =
    elim c.if-has_confirmed.branch [
      | then-has_confirmed w ↦
          w.members-is
          ∙ set-in (has_confirmed c.args.noted) c.args.connected.now c.loop-number.number
          c.index-connected-number.result c.loop-number.members w.with-members.result
          (omega arith) c.loop-number.invariant (sym c.has_confirmed.ensures ∙ w.if-has_confirmed.true)
          w.with-members.ensures.same w.with-members.ensures.others
      | else-has_confirmed w ↦
          w.members-is
          ∙ set-out (has_confirmed c.args.noted) c.args.connected.now c.loop-number.number
          c.index-connected-number.result c.loop-number.members
          (omega arith) c.loop-number.invariant (sym c.has_confirmed.ensures ∙ w.if-has_confirmed.false)
    ]
