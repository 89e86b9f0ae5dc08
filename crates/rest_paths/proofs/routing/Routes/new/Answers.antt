use Rattle.std.proofs.Common.{refl}
use Rattle.rest_paths.proofs.Filling.{one-more, fails-for-memory, table-serves}
use Rattle.rest_paths.proofs.routing.Routes.new.Goals as goal

pub want_of_memory-requires : goal.want_of_memory-requires
want_of_memory-requires c =
    fails-for-memory _ c.loop-path.path-index _ c.loop-path.router c.insert.new.self _ c.loop-path.invariant
    c.loop-path-test.true c.in-Err.ensures

pub loop-path-init : goal.loop-path-init
loop-path-init c = record { rows = refl; filled = c.new-router.ensures }

pub loop-path-preserved : goal.loop-path-preserved
loop-path-preserved c =
    one-more _ c.loop-path.path-index _ c.loop-path.router c.insert.new.self c.loop-path.invariant
    c.loop-path-test.true c.in_default.ensures

pub invariant_of-result : goal.invariant_of-result
invariant_of-result c = record {
  serves = table-serves _ c.loop-path.path-index c.loop-path.router c.loop-path.invariant c.loop-path-test.false;
}
