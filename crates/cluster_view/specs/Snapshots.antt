-- What one read of the key store gives.
use Rattle.std.specs.Prelude.{ℕ, Bool, is_some, List, Option, Some, None, IsTrue, IsSome}
use Rattle.std.specs.FinMap.{find, is_sorted}
use Rattle.pat_base.specs.declared.host.Host.{Host}
use Rattle.pat_base.specs.declared.member_set.MemberSet.{MemberSet}
use Rattle.pat_base.specs.declared.name.Name.{Name}
use Rattle.store_keys.specs.declared.config.Config.{Config}
use Rattle.store_keys.specs.declared.key.Key.{Key}
use Rattle.store_keys.specs.declared.key.Key.TheVariants as keys
use Rattle.store_keys.specs.declared.value.KeyEntry.{KeyEntry}
use Rattle.store_keys.specs.declared.value.Value.{Value}
use Rattle.store_keys.specs.declared.value.Value.TheVariants as values
use Rattle.lease_store.specs.Kept.{AreOfKind}
use Rattle.lease_store.specs.KeyOrder.{key_cmp}
use Rattle.cluster_view.specs.declared.snapshot.LeaderEntry.{LeaderEntry}

-- the cluster's name, the names and hosts of all members in the order of the
-- script, and the keys that were present, with their values and revisions
pub record SnapshotFacts : Type 0 where
  pub scope : Name
  pub members : List (Name × Host)
  pub entries : List (Key × KeyEntry)

-- the keys rise, each value is of its key's kind, and the configuration is there
pub record IsRead (entries : List (Key × KeyEntry)) : Type 0 where
  pub order : IsTrue (is_sorted key_cmp entries)
  pub kinds : AreOfKind entries
  pub config : IsSome (find key_cmp keys.Config entries)

-- the entry of a key, if it was present
abbrev pub entry_in : Key → SnapshotFacts → Option KeyEntry
entry_in key snapshot = find key_cmp key snapshot.entries

-- what is read of a value, by the entry that has it, if there is one
abbrev pub value_by : {X : Type 0} → (Value → Option X) → Option KeyEntry → Option X
value_by read None = None
value_by read (Some found) = read found.value

-- what is read of a value and of the revision at which it was written
abbrev pub found_by : {X : Type 0} → (ℕ → Value → Option X) → Option KeyEntry → Option X
found_by read None = None
found_by read (Some found) = read found.revision found.value

-- who leads, by a value that was written to the leader key at this revision
abbrev pub leader_by : ℕ → Value → Option LeaderEntry
leader_by revision (values.Leader member) = Some (record { holder = member; revision = revision })
leader_by revision _ = None

-- who leads, by which revision of the leader key
abbrev pub leader_in : SnapshotFacts → Option LeaderEntry
leader_in snapshot = found_by leader_by (entry_in keys.Leader snapshot)

-- what a value of the configuration sets, or these settings where it is none
abbrev pub settings_by : Config → Value → Config
settings_by settings (values.Config config) = config.config
settings_by settings _ = settings

-- what is set by the entry of the configuration's key, or these settings where there is none
abbrev pub settings_of_entry : Config → Option KeyEntry → Config
settings_of_entry settings None = settings
settings_of_entry settings (Some found) = settings_by settings found.value

-- what its configuration sets, or these settings where it has none
abbrev pub settings_in : Config → SnapshotFacts → Config
settings_in settings snapshot = settings_of_entry settings (entry_in keys.Config snapshot)

-- the members that a value of the failsafe key lists
abbrev pub failsafe_by : Value → Option MemberSet
failsafe_by (values.Failsafe members) = Some members
failsafe_by _ = None

-- the members that its failsafe key lists
abbrev pub failsafe_in : SnapshotFacts → Option MemberSet
failsafe_in snapshot = value_by failsafe_by (entry_in keys.Failsafe snapshot)

-- whether it has the row of this timeline
abbrev pub has_row : ℕ → SnapshotFacts → Bool
has_row timeline snapshot = is_some (entry_in (keys.History timeline) snapshot)
