use Rattle.std.proofs.Common.{◌≡◌, length, Some, arith, ap, rules, sym, ◌∙◌}
use Rattle.std.specs.Prelude.{slice_get}
use Rattle.std.proofs.lemmas.Option.{slice_get_read}
use Rattle.pg_model.specs.Replication.{following}
use Rattle.pg_cluster.specs.Servers.{without_spare}
use Rattle.pg_model.specs.CatchingUp.{log_position_of, upstream_number_of}
use Rattle.pg_cluster.proofs.Clusters.{changed-read, followed-at, is_place-number, marks-length}
use Rattle.pg_cluster.proofs.servers.Servers.follow.Goals as goal

pub invariant_of-self : goal.invariant_of-self
invariant_of-self c =
    let found : slice_get c.self.inside.servers.items c.args.place ≡ Some c.index_mut-server.result.now =
    slice_get_read c.self.inside.servers.items c.len.result c.args.place c.index_mut-server.result.now
    (search rules) (omega arith) c.index_mut-server.ensures.value in
    let long : c.len.result ≡ length c.self.inside.servers.items = search rules in
    let mark : slice_get c.self.inside.in_step.items c.args.place ≡ Some c.index_mut.result.now =
    slice_get_read c.self.inside.in_step.items c.len.result c.args.place c.index_mut.result.now
    (long ∙ marks-length _ _ c.self.invariant) (omega arith) c.index_mut.ensures.value in
    let after : c.set_upstream.new.self ≡ following c.args.upstream c.index_mut-server.result.now = search rules in
    followed-at c.self.inside.in_step.items c.self.inside.servers.items c.args.place
    c.index_mut-server.result.now c.set_upstream.new.self (Some c.args.upstream.number) c.index_mut.result.now
    c.follows-is_same.result c.self.invariant found mark (ap log_position_of after)
    (λ e. is_place-number c.args.upstream.number (upstream_number_of c.index_mut-server.result.now.upstream)
    (sym c.follows-is_same.ensures ∙ e))

pub returns : goal.returns
returns c =
    let after : c.set_upstream.new.self ≡ following c.args.upstream c.index_mut-server.result.now = search rules in
    changed-read _ _ _ c.len.result c.index_mut-server.result.now _ _ c.self.view_is c.index_mut-server.ensures.value
    (search rules) (omega arith) (ap without_spare after)
