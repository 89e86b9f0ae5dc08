-- The grants that come to agents.
use Rattle.std.specs.Prelude.{ℕ, ◌≡◌, Bool, true, false, Option, Some}
use Rattle.std.specs.FinMap.{find}
use Rattle.store_keys.specs.declared.key.Key.TheVariants as keys
use Rattle.lease_store.specs.KeyOrder.{key_cmp}
use Rattle.event_book.specs.declared.member.Member.{Member}
use Rattle.event_book.specs.Flight.{InFlightFacts}
use Rattle.lease_model.specs.Stores.{failsafe_key_of}
use Rattle.commit_actions.specs.Actions.{sync_key_by}
use Rattle.commit_actions.specs.Flights.{Aim, Flying, LeaseGranted, SnapshotSent, SyncGranted}
use Rattle.commit_actions.specs.Past.{Past, failsafe_revision_of}
use Rattle.commit_book.specs.Keys.{sync_key_of}

-- a snapshot that shows these keys of what is carried
abbrev pub snapshot_in : InFlightFacts → Bool → Bool → Option Flying
snapshot_in carried keyless leaderless = Some (SnapshotSent (record {
  sync = sync_key_of (find key_cmp keys.Sync carried.snapshot);
  keyless = keyless;
  leaderless = leaderless;
  failsafe_revision = failsafe_revision_of (failsafe_key_of (find key_cmp keys.Failsafe carried.snapshot));
}))

-- the answer of this number grants the lease of the leader key, under
-- the revision that it carries, with the sync key of its snapshot
pub record CarriesLease (past : Past) (i : ℕ) (carried : InFlightFacts) (member : Member)
    (incarnation sequence : ℕ) : Type 0 where
  pub revision : ℕ
  pub grant : carried.grant ≡ Some (record { revision = revision; by = member.id; leased = true })
  pub flying : past.flight i ≡ Some (LeaseGranted (record {
    member = member.id.number;
    incarnation = incarnation;
    sequence = sequence;
    revision = revision;
    sync = sync_key_of (find key_cmp keys.Sync carried.snapshot);
  }))

-- the answer of this number grants a claim or a write of the sync key: that key
-- of its snapshot is what was asked for, under the revision that it carries
pub record CarriesWrite (past : Past) (i : ℕ) (carried : InFlightFacts) (member : Member)
    (incarnation sequence : ℕ) (aim : Aim) : Type 0 where
  pub revision : ℕ
  pub grant : carried.grant ≡ Some (record { revision = revision; by = member.id; leased = false })
  pub key : sync_key_of (find key_cmp keys.Sync carried.snapshot) ≡ Some (sync_key_by member.id.number revision aim)
  pub flying : past.flight i ≡ Some (SyncGranted (record {
    member = member.id.number;
    incarnation = incarnation;
    sequence = sequence;
    key = sync_key_by member.id.number revision aim;
  }))
