use Rattle.std.proofs.Common.{rules, ◌≡◌, [], ◌∷◌, None}
use Rattle.store_keys.specs.declared.key.Key.TheVariants as keys
use Rattle.lease_store.specs.Kept.{IsKept}
use Rattle.lease_store.proofs.Expiring.{expiries-of_one}
use Rattle.lease_store.proofs.store.Store.new.Goals as goal

pub invariant_of-result : goal.invariant_of-result
invariant_of-result c =
    let kept : IsKept c.push.new.self.items = search rules in
    let lasting : c.in_ok-new.field-0.expiry ≡ None = search rules in
    let held : c.push.new.self.items ≡ (keys.Config, c.in_ok-new.field-0) ∷ [] = search rules in
    (kept, expiries-of_one keys.Config c.in_ok-new.field-0 _ _ lasting held c.new-2.ensures.items, tt)
