use Rattle.std.proofs.Common.{◌≡◌}
use Rattle.failsafe.specs.Listing.{present_below}
use Rattle.failsafe.proofs.listing.present_in.Given as goal

abbrev pub invariant-loop-number : goal.invariant-loop-number
invariant-loop-number l = l.members ≡ present_below l.seen l.number
