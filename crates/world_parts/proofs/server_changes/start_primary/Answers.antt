use Rattle.std.proofs.Common.{◌≡◌, ◌&&◌, false, Some, rules}
use Rattle.std.specs.Prelude.{slice_get}
use Rattle.pg_model.specs.Facts.{is_down}
use Rattle.pg_cluster.specs.Servers.{without_spare}
use Rattle.event_book.specs.Servers.{starts_slowly}
use Rattle.world_parts.proofs.ServerCommanding.{no-primary-start}
use Rattle.world_parts.proofs.server_changes.start_primary.Goals as goal

pub returns-else-is_down : goal.returns-else-is_down
returns-else-is_down c =
    let s = without_spare c.in-Some.server.now in
    let there : slice_get c.args.servers.now c.args.place ≡ Some s = search rules in
    let quick : is_down s.state && starts_slowly s ≡ false = search rules in
    no-primary-start c.args.servers.now c.args.place c.args.now.0 s there quick
