use Rattle.std.proofs.Common.{None, arith, rules}
use Rattle.std.proofs.lemmas.List.FromFn.{fill_by_all}
use Rattle.sync_state.specs.Candidates.{candidate_numbered, candidates_in}
use Rattle.sync_state.proofs.SetBits.{fill-more}
use Rattle.sync_state.proofs.candidates.candidates.Goals as goal

pub loop-number-preserved : goal.loop-number-preserved
loop-number-preserved c = record {
  sized = search rules;
  so_far = fill-more (candidate_numbered c.args.view.now c.args.seen.now) c.loop-number.candidates c.loop-number.number
      c.candidate_numbered.result None (omega arith) c.candidate_numbered.ensures c.loop-number.invariant.so_far;
}

pub returns : goal.returns
unfolding candidates_in
returns c = fill_by_all (candidate_numbered c.args.view.now c.args.seen.now) c.loop-number.candidates 16 None
    c.loop-number.invariant.sized (λ k below. c.loop-number.invariant.so_far k (omega arith))
