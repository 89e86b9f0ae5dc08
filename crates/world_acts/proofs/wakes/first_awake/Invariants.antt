use Rattle.std.proofs.Common.{ℕ, ◌≤◌, ◌<◌, IfSome, length, slice_get}
use Rattle.world_acts.specs.Asleep.{until_of}
use Rattle.world_acts.proofs.wakes.first_awake.Given as goal

abbrev pub invariant-loop-place : goal.invariant-loop-place
invariant-loop-place l = record {
  least : l.fn.from ≤ l.place;
  most : l.place ≤ length l.members;
  asleep : (place : ℕ) → l.fn.from ≤ place → place < l.place
      → IfSome (slice_get l.members place) (λ member. l.moment.0 < until_of l.asleep member.id.number);
}
