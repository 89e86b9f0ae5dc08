use Rattle.std.proofs.Common.{◌≡◌, Some, map, length, get_or, false, arith}
use Rattle.std.specs.Prelude.{slice_get}
use Rattle.std.proofs.lemmas.Option.{slice_get-get_or, slice_get_read}
use Rattle.pg_model.specs.CatchingUp.{log_position_of}
use Rattle.pg_cluster.proofs.Clusters.{log_position-at}
use Rattle.pg_cluster.proofs.Rounds.{forgets-start, forgets-more, forgets-all}
use Rattle.pg_cluster.proofs.servers.forget.Goals as goal

pub loop-k-init : goal.loop-k-init
loop-k-init c = forgets-start _ _ _

pub loop-k-preserved : goal.loop-k-preserved
loop-k-preserved c =
    let mark : slice_get c.loop-k.in_step c.loop-k.k ≡ Some (get_or c.loop-k.in_step c.loop-k.k false) =
    slice_get-get_or c.loop-k.in_step c.loop-k.k false (omega arith) in
    let found : slice_get c.args.servers.now c.loop-k.k ≡ Some c.index-servers-k.result =
    slice_get_read c.args.servers.now (length c.args.in_step.now) c.loop-k.k c.index-servers-k.result
    c.requires c.loop-k-test.true c.index-servers-k.is in
    forgets-more c.args.in_step.now c.loop-k.in_step (map log_position_of c.args.servers.now) c.args.place c.loop-k.k
    (get_or c.loop-k.in_step c.loop-k.k false) c.is_concerned-concerned.result
    (log_position_of c.index-servers-k.result) c.loop-k.invariant mark
    (log_position-at c.args.servers.now c.loop-k.k c.index-servers-k.result found) c.is_concerned-concerned.ensures

pub returns : goal.returns
returns c = forgets-all _ _ _ _ c.loop-k.k c.loop-k.invariant (omega arith)
