use Rattle.std.proofs.Common.{◌≡◌, ◌<◌, ◌∙◌, sym, subst, ap, true, arith, rules}
use Rattle.std.proofs.lemmas.Bool.Decides.{nat_tests}
use Rattle.std.proofs.lemmas.List.{with_items_is}
use Rattle.std.specs.Vec.{with_items}
use Rattle.lease_store.proofs.Renewing.{earlier-test, put_over-earlier}
use Rattle.lease_store.proofs.expiries.replace.Goals as goal

pub returns-then-lt-clause-expiries : goal.returns-then-lt-clause-expiries
returns-then-lt-clause-expiries c =
    let items : (with_items c.args.expiries.now c.put_over.new.expiries).items ≡ c.put_over.new.expiries =
    with_items_is c.args.expiries.now c.put_over.new.expiries (search rules) in
    items ∙ put_over-earlier c.args.added c.index.result.now c.args.at c.args.expiries.now.items
    c.deref_mut.result.now c.put_over.new.expiries c.deref_mut.ensures.value
    (subst (λ n. c.args.at < n) (sym c.deref_mut.ensures.len) c.requires.within) c.index.ensures
    (earlier-test c.index.result.now.0.0 c.args.added.0.0 (sym c.lt.ensures ∙ c.if-lt.true))
    c.requires.rise c.put_over.ensures
