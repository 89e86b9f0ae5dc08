-- Which member a failover or a sync key names.
use Rattle.std.specs.Prelude.{◌==◌, ◌&&◌, ◌||◌, is_none, Bool, false, Option, Some, None}
use Rattle.std.specs.Int.{bit_at}
use Rattle.pat_base.specs.declared.member_id.MemberId.{MemberId}
use Rattle.pat_base.specs.declared.member_set.MemberSet.{MemberSet}
use Rattle.store_keys.specs.declared.value.FailoverKey.{FailoverKey}
use Rattle.store_keys.specs.declared.value.SyncKey.{SyncKey}
use Rattle.cluster_view.specs.declared.snapshot.LeaderEntry.{LeaderEntry}

-- this is the member, if there is one
abbrev pub is_member : MemberId → Option MemberId → Bool
is_member member None = false
is_member member (Some other) = other.number == member.number

-- the leader key names the member
abbrev pub leads : MemberId → Option LeaderEntry → Bool
leads member None = false
leads member (Some leader) = leader.holder.number == member.number

-- the member is in the set
abbrev pub is_one_of : MemberId → MemberSet → Bool
is_one_of member members = bit_at members.bits member.number == 1

-- whom a failover names as candidate, if there is one and it names one
abbrev pub candidate_of : Option FailoverKey → Option MemberId
candidate_of None = None
candidate_of (Some failover) = failover.candidate

-- a failover or a switchover names the member as candidate
abbrev pub is_candidate : MemberId → Option FailoverKey → Bool
is_candidate member failover = is_member member (candidate_of failover)

-- a failover names the member as candidate, and no leader: it is no switchover
abbrev pub is_failover_to : MemberId → Option FailoverKey → Bool
is_failover_to member None = false
is_failover_to member (Some failover) = is_none failover.leader && is_member member failover.candidate

-- a sync key names the member as standby
abbrev pub is_standby : MemberId → SyncKey → Bool
is_standby member sync = is_one_of member sync.standbys

-- a sync key names the member, as leader or as standby
abbrev pub is_named : MemberId → SyncKey → Bool
is_named member sync = (sync.leader.number == member.number) || is_standby member sync
