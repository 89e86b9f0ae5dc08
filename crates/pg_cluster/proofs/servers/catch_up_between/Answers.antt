use Rattle.std.proofs.Common.{◌≡◌, Some, get_or, arith}
use Rattle.std.specs.Prelude.{slice_get}
use Rattle.std.proofs.lemmas.Option.{slice_get-get_or}
use Rattle.std.proofs.lemmas.Result.{IfOk-weaker}
use Rattle.pg_cluster.proofs.Pairs.{got-low, got-high, hears-low, hears-high}
use Rattle.pg_cluster.proofs.servers.catch_up_between.Goals as goal

pub catch_up-requires-clause-in_step : goal.catch_up-requires-clause-in_step
catch_up-requires-clause-in_step c = λ h.
    let s = get_or c.split_at_mut-low.result.0.now c.args.place c.index-low-place.result in
    let u = get_or c.split_at_mut-low.result.1.now 0 c.index-high-0.result in
    let at_place : slice_get c.split_at_mut-low.result.0.now c.args.place ≡ Some s =
    slice_get-get_or c.split_at_mut-low.result.0.now c.args.place c.index-low-place.result (omega arith) in
    let at_from : slice_get c.split_at_mut-low.result.1.now 0 ≡ Some u =
    slice_get-get_or c.split_at_mut-low.result.1.now 0 c.index-high-0.result (omega arith) in
    c.requires.in_step h s u (got-low _ _ _ _ s c.split_at_mut-low.ensures.value at_place)
    (got-high _ _ _ _ u c.split_at_mut-low.ensures.value c.split_at_mut-low.ensures.front_len at_from)

pub catch_up-requires-else-place-from-clause-replica : goal.catch_up-requires-else-place-from-clause-replica
catch_up-requires-else-place-from-clause-replica c =
    let s = get_or c.split_at_mut-low-else-place-from.result.1.now 0 c.index-high-0-else-place-from.result in
    let at_place : slice_get c.split_at_mut-low-else-place-from.result.1.now 0 ≡ Some s = slice_get-get_or
    c.split_at_mut-low-else-place-from.result.1.now 0 c.index-high-0-else-place-from.result (omega arith) in
    c.requires.replica s
    (got-high _ _ _ _ s c.split_at_mut-low-else-place-from.ensures.value
    c.split_at_mut-low-else-place-from.ensures.front_len at_place)

pub catch_up-requires-else-place-from-clause-in_step : goal.catch_up-requires-else-place-from-clause-in_step
catch_up-requires-else-place-from-clause-in_step c = λ h.
    let s = get_or c.split_at_mut-low-else-place-from.result.1.now 0 c.index-high-0-else-place-from.result in
    let u = get_or c.split_at_mut-low-else-place-from.result.0.now c.args.from c.index-low-from.result in
    let at_place : slice_get c.split_at_mut-low-else-place-from.result.1.now 0 ≡ Some s = slice_get-get_or
    c.split_at_mut-low-else-place-from.result.1.now 0 c.index-high-0-else-place-from.result (omega arith) in
    let at_from : slice_get c.split_at_mut-low-else-place-from.result.0.now c.args.from ≡ Some u = slice_get-get_or
    c.split_at_mut-low-else-place-from.result.0.now c.args.from c.index-low-from.result (omega arith) in
    c.requires.in_step h s u
    (got-high _ _ _ _ s c.split_at_mut-low-else-place-from.ensures.value
    c.split_at_mut-low-else-place-from.ensures.front_len at_place)
    (got-low _ _ _ _ u c.split_at_mut-low-else-place-from.ensures.value at_from)

pub returns-then-place-from-clause-ok : goal.returns-then-place-from-clause-ok
returns-then-place-from-clause-ok c =
    let s = get_or c.split_at_mut-low.result.0.now c.args.place c.index-low-place.result in
    let u = get_or c.split_at_mut-low.result.1.now 0 c.index-high-0.result in
    let at_place : slice_get c.split_at_mut-low.result.0.now c.args.place ≡ Some s =
    slice_get-get_or c.split_at_mut-low.result.0.now c.args.place c.index-low-place.result (omega arith) in
    let at_from : slice_get c.split_at_mut-low.result.1.now 0 ≡ Some u =
    slice_get-get_or c.split_at_mut-low.result.1.now 0 c.index-high-0.result (omega arith) in
    IfOk-weaker c.catch_up.result _ _
    (λ caught_up h. hears-low c.args.servers.now c.split_at_mut-low.result.0.now c.split_at_mut-low.result.1.now
    c.args.place c.args.from c.args.most s u c.catch_up.new.self caught_up.news caught_up.received
    c.split_at_mut-low.ensures.value c.split_at_mut-low.ensures.front_len at_place at_from h)
    c.catch_up.ensures.ok

pub returns-else-place-from-clause-ok : goal.returns-else-place-from-clause-ok
returns-else-place-from-clause-ok c =
    let s = get_or c.split_at_mut-low-else-place-from.result.1.now 0 c.index-high-0-else-place-from.result in
    let u = get_or c.split_at_mut-low-else-place-from.result.0.now c.args.from c.index-low-from.result in
    let at_place : slice_get c.split_at_mut-low-else-place-from.result.1.now 0 ≡ Some s = slice_get-get_or
    c.split_at_mut-low-else-place-from.result.1.now 0 c.index-high-0-else-place-from.result (omega arith) in
    let at_from : slice_get c.split_at_mut-low-else-place-from.result.0.now c.args.from ≡ Some u = slice_get-get_or
    c.split_at_mut-low-else-place-from.result.0.now c.args.from c.index-low-from.result (omega arith) in
    IfOk-weaker c.catch_up-else-place-from.result _ _
    (λ caught_up h. hears-high c.args.servers.now c.split_at_mut-low-else-place-from.result.0.now
    c.split_at_mut-low-else-place-from.result.1.now c.args.place c.args.from c.args.most s u
    c.catch_up-else-place-from.new.self caught_up.news caught_up.received
    c.split_at_mut-low-else-place-from.ensures.value c.split_at_mut-low-else-place-from.ensures.front_len
    at_place at_from h)
    c.catch_up-else-place-from.ensures.ok
