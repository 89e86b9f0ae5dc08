-- What the steps of a leader come to: whom the sync key names, and whom commits wait for.
use Rattle.std.specs.Prelude.{ℕ, ◌≡◌, ◌⊎◌, Some, Bool, true, false}
use Rattle.std.specs.Int.{bit_at}
use Rattle.pat_base.specs.declared.member_id.MemberId.{MemberId}
use Rattle.pat_base.specs.declared.member_set.MemberSet.{MemberSet}
use Rattle.pat_base.specs.declared.name.Name.{Name}
use Rattle.store_keys.specs.declared.value.SyncKey.{SyncKey}
use Rattle.cluster_view.specs.declared.view.LeaderView.{LeaderView}
use Rattle.cluster_view.specs.KeyValues.{config_in, sync_in}
use Rattle.cluster_view.specs.Snapshots.{SnapshotFacts}
use Rattle.sync_state.specs.declared.steps.Plan.{Plan}
use Rattle.sync_state.specs.declared.steps.Plan.TheVariants as plans
use Rattle.sync_state.specs.Candidates.{name_in}
use Rattle.sync_state.specs.Sets.{nobody}

-- each member of the first set is in the other
abbrev pub IsWithin : MemberSet → MemberSet → Type 0
IsWithin one other = (k : ℕ) → bit_at one.bits k ≡ 1 → bit_at other.bits k ≡ 1

-- a set has the members of both, and no others
pub record IsBoth (one other set : MemberSet) : Type 0 where
  pub first : IsWithin set one
  pub second : IsWithin set other
  pub whole : (k : ℕ) → bit_at one.bits k ≡ 1 → bit_at other.bits k ≡ 1 → bit_at set.bits k ≡ 1

-- a set has the members of either, and no others
pub record IsEither (one other set : MemberSet) : Type 0 where
  pub first : IsWithin one set
  pub second : IsWithin other set
  pub whole : (k : ℕ) → bit_at set.bits k ≡ 1 → (bit_at one.bits k ≡ 1) ⊎ (bit_at other.bits k ≡ 1)

-- whom the sync key names as standby once a step is done, by whom it named before
abbrev pub published_after : Plan → MemberSet → MemberSet
published_after plans.Keep published = published
published_after plans.Mark published = nobody
published_after (plans.Withdraw standbys) published = standbys
published_after (plans.AddRequired members) published = published
published_after (plans.Publish standbys) published = standbys
published_after (plans.DropRequired members) published = published
published_after plans.SwitchOff published = nobody

-- whose confirmation commits wait for once a step is done, by whose they waited for before
abbrev pub required_after : Plan → MemberSet → MemberSet
required_after plans.Keep required = required
required_after plans.Mark required = nobody
required_after (plans.Withdraw standbys) required = standbys
required_after (plans.AddRequired members) required = members
required_after (plans.Publish standbys) required = required
required_after (plans.DropRequired members) required = members
required_after plans.SwitchOff required = nobody

-- a step changes who the standbys are, in a key that names the leader
-- already, or in the list of those that commits wait for
abbrev pub changes_standbys : Plan → Bool
changes_standbys plans.Keep = false
changes_standbys plans.Mark = false
changes_standbys (plans.Withdraw standbys) = true
changes_standbys (plans.AddRequired members) = true
changes_standbys (plans.Publish standbys) = true
changes_standbys (plans.DropRequired members) = true
changes_standbys plans.SwitchOff = false

-- the synchronous mode is on, and the sync key names this leader
pub record LeadsInSync (view : LeaderView) (seen : SnapshotFacts) : Type 0 where
  pub on : (config_in seen).synchronous_mode ≡ true
  pub key : SyncKey
  pub there : sync_in seen ≡ Some key
  pub leads : key.leader.number ≡ view.view.me.number

-- no two members of a snapshot have one name, as is so of the members of a script
abbrev pub HaveOwnNames : SnapshotFacts → Type 0
HaveOwnNames seen = (member other : MemberId) (name : Name) → name_in member seen ≡ Some name
    → name_in other seen ≡ Some name → member.number ≡ other.number
