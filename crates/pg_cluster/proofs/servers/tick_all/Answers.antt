use Rattle.std.proofs.Common.{◌∙◌, ap, sym, set}
use Rattle.pg_model.specs.Running.{ticked_unless_live}
use Rattle.pg_cluster.proofs.Rounds.{changed-more}
use Rattle.pg_cluster.proofs.servers.tick_all.Goals as goal

pub loop-place-preserved : goal.loop-place-preserved
loop-place-preserved c =
    let after = changed-more (ticked_unless_live c.args.now) c.args.servers.now c.loop-place.servers c.loop-place.place
    c.index-servers-place.result c.loop-place.invariant c.loop-place-test.true c.index-servers-place.is in
    let x = c.index-servers-place.is in
    let e = c.tick_one.ensures in
    ap (set c.loop-place.servers c.loop-place.place) (e ∙ ap (ticked_unless_live c.args.now) (sym x)) ∙ after
