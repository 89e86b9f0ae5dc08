use Rattle.std.proofs.Common.{◌≡◌, map, take}
use Rattle.sync_state.specs.Sets.{set_of}
use Rattle.sync_state.specs.Standbys.{has_confirmed}
use Rattle.quorum_commit.proofs.candidates.confirmed.Given as goal

abbrev pub invariant-loop-number : goal.invariant-loop-number
invariant-loop-number l = l.members ≡ set_of (take l.number (map (has_confirmed l.noted) l.connected))
