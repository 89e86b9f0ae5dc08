use Rattle.std.proofs.Common.{◌≡◌, map, take}
use Rattle.sync_state.specs.Candidates.{is_wanted}
use Rattle.sync_state.specs.Sets.{set_of}
use Rattle.sync_state.proofs.candidates.wanted.Given as goal

abbrev pub invariant-loop-number : goal.invariant-loop-number
invariant-loop-number l = l.members ≡ set_of (take l.number (map (is_wanted l.most l.candidates) l.candidates))
