-- The order of required lists and sync key at a moment of a book (Patroni, "Replication modes": who
-- accepts writes is marked as the leader, and who is published as a standby is one that commits wait for).
use Rattle.std.specs.Prelude.{ℕ, ◌≡◌, Bool, true, List, Option, Some, slice_get}
use Rattle.pat_base.specs.declared.server_state.Required.{Required}
use Rattle.commit_actions.specs.Carried.{IsLed}
use Rattle.commit_actions.specs.Keys.{Confirmers, All, Overlaps, SyncKey}
use Rattle.commit_actions.specs.Past.{Past, confirmers_of}
use Rattle.commit_actions.specs.Keys.{IsOfQuorum}

-- what who accepts writes, with these required lists, has to do with
-- the sync key, however many standbys of that may lack a commit
pub record AreOverlapping (member_count : ℕ) (writes : ℕ → Bool) (required : List Required)
    (sync : Option SyncKey) : Type 0 where
  -- the sync key names it as the leader
  pub led : (server : ℕ) → writes server ≡ true → IsLed sync server
  -- what whom its commits wait for has, the standbys in the sync key have but for so many as the key's number
  pub overlaps : (server : ℕ) (key : SyncKey) → writes server ≡ true → sync ≡ Some key
      → Overlaps member_count key.standbys key.quorum (confirmers_of (slice_get required server))

-- the same of what a book determines
abbrev pub IsOverlapping : ℕ → Past → Type 0
IsOverlapping member_count past = AreOverlapping member_count past.lease.writes past.required past.sync

-- ---- in synchronous mode
-- commits wait for this member
abbrev pub IsConfirmer : Confirmers → ℕ → Type 0
IsConfirmer (All members) n = members n ≡ true
IsConfirmer _ n = ⊥

-- what who accepts writes, with these required lists, has to do with a sync key of which no standby may lack a commit
pub record AreAwaiting (writes : ℕ → Bool) (required : List Required) (sync : Option SyncKey) : Type 0 where
  -- the sync key names it as the leader
  pub led : (server : ℕ) → writes server ≡ true → IsLed sync server
  -- its commits wait for each standby in the sync key
  pub awaited : (server : ℕ) (key : SyncKey) → writes server ≡ true → sync ≡ Some key → (standby : ℕ)
      → key.standbys standby ≡ true → IsConfirmer (confirmers_of (slice_get required server)) standby

-- the same of what a book determines
abbrev pub IsAwaiting : Past → Type 0
IsAwaiting past = AreAwaiting past.lease.writes past.required past.sync

-- the sync key, where there is one, names members alone, of which at
-- most so many may lack a commit: none in synchronous mode
abbrev pub NamesMembers : ℕ → ℕ → Option SyncKey → Type 0
NamesMembers member_count quorum sync = (key : SyncKey) → sync ≡ Some key → IsOfQuorum member_count quorum key
