use Rattle.std.proofs.Common.{◌≡◌, ◌&&◌, not, Some, map, length, arith, ap, rules, sym, subst, ◌∙◌}
use Rattle.std.specs.Prelude.{slice_get}
use Rattle.std.specs.Vec.{with_items}
use Rattle.std.proofs.lemmas.List.{with_items_is}
use Rattle.std.proofs.lemmas.Option.{slice_get-get_or, slice_get_read}
use Rattle.pg_cluster.specs.Servers.{without_spare}
use Rattle.pg_model.specs.CatchingUp.{log_position_of}
use Rattle.pg_cluster.specs.InStep.{MarksHold, Renews, CatchesUpAt, AreInStep}
use Rattle.pg_cluster.proofs.Clusters.{marks-length}
use Rattle.pg_cluster.proofs.Streams.{in-step-pair, marks-after, news-without_spare, streamed-without_spare}
use Rattle.pg_cluster.proofs.servers.Servers.stream.Goals as goal

pub catch_up_between-requires-clause-in_step : goal.catch_up_between-requires-clause-in_step
catch_up_between-requires-clause-in_step c = λ h.
    let long : c.len-count.result ≡ length c.self.inside.servers.items = search rules in
    let found : slice_get c.self.inside.servers.items c.args.place ≡ Some c.index.result.now = slice_get_read
    c.self.inside.servers.items c.len-count.result c.args.place c.index.result.now long (omega arith) c.index.ensures in
    let mark : slice_get c.self.inside.in_step.items c.args.place ≡ Some c.index-2.result.now =
    slice_get_read c.self.inside.in_step.items c.len-count.result c.args.place c.index-2.result.now
    (long ∙ marks-length _ _ c.self.invariant) (omega arith) c.index-2.ensures in
    subst (λ servers. AreInStep servers c.args.place c.args.from) (sym c.deref_mut.ensures.value)
    (in-step-pair c.self.inside.in_step.items c.self.inside.servers.items c.args.place c.args.from c.index.result.now
    c.index-2.result.now c.follows-is_upstream.result c.self.invariant found mark c.follows-is_upstream.ensures h)

pub invariant_of-self-2 : goal.invariant_of-self-2
invariant_of-self-2 c =
    let long : c.len-count.result ≡ length c.self.inside.servers.items = search rules in
    let found : slice_get c.self.inside.servers.items c.args.place ≡ Some c.index.result.now = slice_get_read
    c.self.inside.servers.items c.len-count.result c.args.place c.index.result.now long (omega arith) c.index.ensures in
    let mark : slice_get c.self.inside.in_step.items c.args.place ≡ Some c.index-2.result.now =
    slice_get_read c.self.inside.in_step.items c.len-count.result c.args.place c.index-2.result.now
    (long ∙ marks-length _ _ c.self.invariant) (omega arith) c.index-2.ensures in
    let found_from = slice_get-get_or c.self.inside.servers.items c.args.from c.index.result.now (omega arith) in
    let servers : (with_items c.self.inside.servers c.catch_up_between.new.servers).items
    ≡ c.catch_up_between.new.servers =
    with_items_is c.self.inside.servers c.catch_up_between.new.servers (search rules) in
    let marks : (with_items c.self.inside.in_step c.renew.new.in_step).items ≡ c.renew.new.in_step =
    with_items_is c.self.inside.in_step c.renew.new.in_step (search rules) in
    let hears : CatchesUpAt c.self.inside.servers.items c.catch_up_between.new.servers c.args.place
    c.args.from c.args.most c.in_ok-caught_up.caught_up.news c.in_ok-caught_up.caught_up.received =
    rw c.deref_mut.ensures.value at c.in_ok-caught_up.ensures.ok in
    let all = c.deref.ensures.value ∙ servers in
    let renews : Renews (c.in_ok-caught_up.caught_up.received
    && not (c.index-2.result.now && c.follows-is_upstream.result))
    c.follows-is_upstream.result c.self.inside.in_step.items c.renew.new.in_step
    (map log_position_of c.catch_up_between.new.servers) c.args.place =
    rw (c.deref_mut-2.ensures.value, all) at c.renew.ensures in
    subst (λ items.
    MarksHold items (map log_position_of (with_items c.self.inside.servers c.catch_up_between.new.servers).items))
    (sym marks)
    (subst (λ items. MarksHold c.renew.new.in_step (map log_position_of items)) (sym servers)
    (marks-after c.self.inside.in_step.items c.renew.new.in_step c.self.inside.servers.items
    c.catch_up_between.new.servers c.args.place c.args.from c.args.most c.index.result.now _ c.index-2.result.now
    c.follows-is_upstream.result c.in_ok-caught_up.caught_up.received c.in_ok-caught_up.caught_up.news c.self.invariant
    found found_from (λ e. c.if-place-from.false (sym e)) mark c.follows-is_upstream.ensures hears renews))

pub returns-clause-news : goal.returns-clause-news
returns-clause-news c =
    let long : c.len-count.result ≡ length c.self.inside.servers.items = search rules in
    let found : slice_get c.self.inside.servers.items c.args.place ≡ Some c.index.result.now = slice_get_read
    c.self.inside.servers.items c.len-count.result c.args.place c.index.result.now long (omega arith) c.index.ensures in
    let found_from = slice_get-get_or c.self.inside.servers.items c.args.from c.index.result.now (omega arith) in
    let hears : CatchesUpAt c.self.inside.servers.items c.catch_up_between.new.servers c.args.place
    c.args.from c.args.most c.in_ok-caught_up.caught_up.news c.in_ok-caught_up.caught_up.received =
    rw c.deref_mut.ensures.value at c.in_ok-caught_up.ensures.ok in
    news-without_spare c.self.inside.servers.items c.catch_up_between.new.servers c.args.self.now c.args.place
    c.args.from c.args.most c.index.result.now _ c.in_ok-caught_up.caught_up.received
    c.in_ok-caught_up.caught_up.news c.self.view_is found found_from hears

pub returns-clause-ok : goal.returns-clause-ok
returns-clause-ok c =
    let long : c.len-count.result ≡ length c.self.inside.servers.items = search rules in
    let found : slice_get c.self.inside.servers.items c.args.place ≡ Some c.index.result.now = slice_get_read
    c.self.inside.servers.items c.len-count.result c.args.place c.index.result.now long (omega arith) c.index.ensures in
    let found_from = slice_get-get_or c.self.inside.servers.items c.args.from c.index.result.now (omega arith) in
    let servers : (with_items c.self.inside.servers c.catch_up_between.new.servers).items
    ≡ c.catch_up_between.new.servers =
    with_items_is c.self.inside.servers c.catch_up_between.new.servers (search rules) in
    let hears : CatchesUpAt c.self.inside.servers.items c.catch_up_between.new.servers c.args.place
    c.args.from c.args.most c.in_ok-caught_up.caught_up.news c.in_ok-caught_up.caught_up.received =
    rw c.deref_mut.ensures.value at c.in_ok-caught_up.ensures.ok in
    ap (map without_spare) servers
    ∙ streamed-without_spare c.self.inside.servers.items c.catch_up_between.new.servers c.args.self.now
    c.args.place c.args.from c.args.most c.index.result.now _ c.in_ok-caught_up.caught_up.received
    c.in_ok-caught_up.caught_up.news c.self.view_is found found_from hears
