use Rattle.std.proofs.Common.{rules, sym, ◌∙◌, ap}
use Rattle.std.proofs.lemmas.Fn.{filter_same}
use Rattle.lease_store.specs.Expiries.{has_come}
use Rattle.lease_store.proofs.Expiring.{expiries-present, all-present}
use Rattle.lease_store.proofs.entries.drop_absent.Goals as goal

pub returns-then-has_come-clause-entries : goal.returns-then-has_come-clause-entries
returns-then-has_come-clause-entries c = filter_same _ _ _ (λ x b f' k. search rules) _ _ c.retain.ensures.filtered

pub returns-then-has_come-clause-expiries : goal.returns-then-has_come-clause-expiries
returns-then-has_come-clause-expiries c =
    expiries-present c.args.now.0 c.args.entries.now.items _ c.args.expiries.now.items _ c.requires.order
    c.requires.expiries (filter_same _ _ _ (λ x b f' k. search rules) _ _ c.retain.ensures.filtered)
    c.drop_ended.ensures

pub returns-else-has_come-clause-entries : goal.returns-else-has_come-clause-entries
returns-else-has_come-clause-entries c =
    sym (all-present c.args.now.0 c.args.entries.now.items c.args.expiries.now.items c.requires.order
    c.requires.expiries
    (ap (has_come c.args.now.0) (sym c.deref.ensures.value) ∙ sym c.has_come.ensures ∙ c.if-has_come.false))
