use Rattle.std.proofs.Common.{rules}
use Rattle.std.proofs.lemmas.Fn.{filter_same}
use Rattle.lease_store.proofs.Expiring.{each-once, expiries-without}
use Rattle.lease_store.proofs.entries.delete.Goals as goal

pub forget-requires-clause-once : goal.forget-requires-clause-once
forget-requires-clause-once c = each-once _ _ c.requires.expiries

pub returns-clause-entries : goal.returns-clause-entries
returns-clause-entries c = filter_same _ _ _ (λ x b f' k. search rules) _ _ c.retain.ensures.filtered

pub returns-clause-expiries : goal.returns-clause-expiries
returns-clause-expiries c =
    expiries-without c.args.key c.args.entries.now.items _ c.args.expiries.now.items _ c.requires.expiries
    c.forget.ensures
    (filter_same _ _ _ (λ x b f' k. search rules) _ _ c.retain.ensures.filtered)
