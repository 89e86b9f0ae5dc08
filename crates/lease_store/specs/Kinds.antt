-- Which values a key may have.
use Rattle.std.specs.Prelude.{◌≡◌}
use Rattle.store_keys.specs.declared.key.Key.{Key}
use Rattle.store_keys.specs.declared.key.Key.TheVariants as keys
use Rattle.store_keys.specs.declared.value.Value.{Value}
use Rattle.store_keys.specs.declared.value.Value.TheVariants as values

-- the value is of the key's kind. A row of the history stands under its own timeline
abbrev pub IsOfKind : Key → Value → Type 0
IsOfKind keys.Leader (values.Leader member) = Unit {0}
IsOfKind keys.Config (values.Config config) = Unit {0}
IsOfKind (keys.Member member) (values.Member info) = Unit {0}
IsOfKind keys.Failover (values.Failover failover) = Unit {0}
IsOfKind keys.Sync (values.Sync sync) = Unit {0}
IsOfKind keys.Status (values.Status end) = Unit {0}
IsOfKind (keys.History timeline) (values.History row) = row.timeline ≡ timeline
IsOfKind keys.Failsafe (values.Failsafe members) = Unit {0}
IsOfKind keys.Scheduled (values.Scheduled planned) = Unit {0}
IsOfKind _ _ = ⊥
