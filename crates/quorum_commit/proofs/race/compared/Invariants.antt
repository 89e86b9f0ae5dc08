use Rattle.std.proofs.Common.{◌≡◌, map, take}
use Rattle.std.specs.List.{range_with_len}
use Rattle.pat_base.specs.declared.member_id.TheConstants.{MOST_MEMBERS}
use Rattle.sync_state.specs.Sets.{set_of}
use Rattle.quorum_commit.specs.Race.{is_told}
use Rattle.quorum_commit.proofs.race.compared.Given as goal

abbrev pub invariant-loop-number : goal.invariant-loop-number
invariant-loop-number l =
    l.members ≡ set_of (take l.number (map (is_told l.racer l.answers) (range_with_len 0 MOST_MEMBERS)))
