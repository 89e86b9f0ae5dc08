use Rattle.std.proofs.Common.{◌≡◌, Some, get_or, arith}
use Rattle.std.specs.Prelude.{slice_get}
use Rattle.std.proofs.lemmas.Option.{slice_get-get_or}
use Rattle.std.proofs.lemmas.Result.{on_ok_weaker}
use Rattle.pg_model.specs.Rewinding.{may_clone, cloned}
use Rattle.pg_cluster.proofs.Rewinds.{changed-low, changed-high}
use Rattle.pg_cluster.proofs.servers.rewinding.clone_to.Goals as goal

pub returns-then-place-from-clause-ok : goal.returns-then-place-from-clause-ok
returns-then-place-from-clause-ok c =
    let s = get_or c.split_at_mut-low.result.0.now c.args.place c.index-low-place.result in
    let u = get_or c.split_at_mut-low.result.1.now 0 c.index-high-0.result in
    let at_place : slice_get c.split_at_mut-low.result.0.now c.args.place ≡ Some s =
    slice_get-get_or c.split_at_mut-low.result.0.now c.args.place c.index-low-place.result (omega arith) in
    let at_from : slice_get c.split_at_mut-low.result.1.now 0 ≡ Some u =
    slice_get-get_or c.split_at_mut-low.result.1.now 0 c.index-high-0.result (omega arith) in
    on_ok_weaker c.clone_one.result
    (λ is. changed-low may_clone cloned c.args.servers.now c.split_at_mut-low.result.0.now
    c.split_at_mut-low.result.1.now c.args.place c.args.from s u c.clone_one.new.server
    c.split_at_mut-low.ensures.value c.split_at_mut-low.ensures.front_len at_place at_from c.requires.may is)
    c.clone_one.ensures.ok

pub returns-else-place-from-clause-ok : goal.returns-else-place-from-clause-ok
returns-else-place-from-clause-ok c =
    let s = get_or c.split_at_mut-low-else-place-from.result.1.now 0 c.index-high-0-else-place-from.result in
    let u = get_or c.split_at_mut-low-else-place-from.result.0.now c.args.from c.index-low-from.result in
    let at_place : slice_get c.split_at_mut-low-else-place-from.result.1.now 0 ≡ Some s = slice_get-get_or
    c.split_at_mut-low-else-place-from.result.1.now 0 c.index-high-0-else-place-from.result (omega arith) in
    let at_from : slice_get c.split_at_mut-low-else-place-from.result.0.now c.args.from ≡ Some u = slice_get-get_or
    c.split_at_mut-low-else-place-from.result.0.now c.args.from c.index-low-from.result (omega arith) in
    on_ok_weaker c.clone_one-else-place-from.result
    (λ is. changed-high may_clone cloned c.args.servers.now c.split_at_mut-low-else-place-from.result.0.now
    c.split_at_mut-low-else-place-from.result.1.now c.args.place c.args.from s u
    c.clone_one-else-place-from.new.server c.split_at_mut-low-else-place-from.ensures.value
    c.split_at_mut-low-else-place-from.ensures.front_len at_place at_from c.requires.may is)
    c.clone_one-else-place-from.ensures.ok
