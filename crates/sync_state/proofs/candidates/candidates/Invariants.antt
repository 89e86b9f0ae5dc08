use Rattle.std.proofs.Common.{◌≡◌, ℕ, ◌<◌, get_or, length, None}
use Rattle.sync_state.specs.Candidates.{candidate_numbered}
use Rattle.sync_state.proofs.candidates.candidates.Given as goal
use Rattle.pat_base.specs.declared.member_id.TheConstants.{MOST_MEMBERS}

abbrev pub invariant-loop-number : goal.invariant-loop-number
invariant-loop-number l = record {
  sized : length l.candidates ≡ MOST_MEMBERS;
  so_far : (k : ℕ) → k < l.number → get_or l.candidates k None ≡ candidate_numbered l.view l.seen k;
}
