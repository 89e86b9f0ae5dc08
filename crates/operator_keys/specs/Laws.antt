-- What the laws of the checks say.
use Rattle.std.specs.Prelude.{◌≡◌, ◌==◌, ◌*◌, ℕ, true, false, List, slice_get, Some}
use Rattle.pat_base.specs.declared.member_id.MemberId.{MemberId}
use Rattle.pat_base.specs.declared.host.Host.{Host}
use Rattle.pat_base.specs.declared.name.Name.{Name}
use Rattle.pat_base.specs.Name.{name_bytes}
use Rattle.pat_base.specs.declared.ticks.TheConstants.{TICKS_OF_SECOND}
use Rattle.store_keys.specs.declared.action.OperatorRequest.{OperatorRequest}
use Rattle.store_keys.specs.declared.action.OperatorRequest.TheVariants.{Hold}
use Rattle.store_keys.specs.declared.value.MemberInfo.{MemberInfo}
use Rattle.cluster_config.specs.SettingTable.{IsWithin, ttl_range}
use Rattle.cluster_view.specs.KeyValues.{config_in, info_in}
use Rattle.cluster_view.specs.Snapshots.{SnapshotFacts, leader_in}
use Rattle.cluster_view.specs.Naming.{leads}
use Rattle.leader_race.specs.Eligibility.{may_fail_over}

-- a member may follow whoever leads: it is another one, it has a member key, and by that key it may fail over
pub record MayFollow (member : MemberId) (seen : SnapshotFacts) : Type 0 where
  pub other : leads member (leader_in seen) ≡ false
  pub info : MemberInfo
  pub told : info_in seen member ≡ Some info
  pub may : may_fail_over info.tags ≡ true

-- the member has this name in the cluster
pub record IsCalled (member : MemberId) (text : List ℕ) (seen : SnapshotFacts) : Type 0 where
  pub known : Name × Host
  pub is : slice_get seen.members member.number ≡ Some known
  pub called : name_bytes known.0 ≡ text

-- by this snapshot failsafe mode is on, and what is asked of this member
-- is a hold: by another member, for so many seconds as a lease may last
pub record AsksForHold (me : MemberId) (seen : SnapshotFacts) (request : OperatorRequest) : Type 0 where
  pub on : (config_in seen).failsafe_mode ≡ true
  pub from : MemberId
  pub seconds : ℕ
  pub asks : request ≡ Hold from (TICKS_OF_SECOND * seconds)
  pub other : (from.number == me.number) ≡ false
  pub span : IsWithin ttl_range seconds
