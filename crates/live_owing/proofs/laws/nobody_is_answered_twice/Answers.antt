use Rattle.std.proofs.Common.{◌+◌, ◌≤◌, arith}
use Rattle.std.specs.Prelude.{None}
use Rattle.live_owing.proofs.Counting.{no-more-than-asked}
use Rattle.live_owing.proofs.laws.nobody_is_answered_twice.Goals as goal

pub returns : goal.returns
returns c course owner = omega (arith, no-more-than-asked owner None course)
