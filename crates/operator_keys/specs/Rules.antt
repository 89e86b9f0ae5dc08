-- By which rules switchovers and failovers are refused (Patroni's
-- documentation of the REST API, "Switchover and failover endpoints").
use Rattle.std.specs.Prelude.{◌&&◌, not, is_some, is_none, Bool, true, false, [], ◌∷◌, Option, Some, None}
use Rattle.store_keys.specs.declared.value.FailoverKey.{FailoverKey}
use Rattle.store_keys.specs.declared.value.MemberInfo.{MemberInfo}
use Rattle.store_keys.specs.declared.value.SyncKey.{SyncKey}
use Rattle.cluster_view.specs.declared.snapshot.LeaderEntry.{LeaderEntry}
use Rattle.cluster_view.specs.KeyValues.{config_in, failover_in, active_sync_in}
use Rattle.cluster_view.specs.Naming.{is_standby}
use Rattle.cluster_view.specs.Snapshots.{SnapshotFacts, leader_in}
use Rattle.leader_race.specs.Eligibility.{may_fail_over}
use Rattle.operator_answers.specs.declared.answer_text.Text.TheVariants as texts
use Rattle.operator_keys.specs.declared.asked.Asked.{Asked}
use Rattle.operator_keys.specs.declared.asked.Named.{Named}
use Rattle.operator_keys.specs.declared.asked.Named.TheVariants as named
use Rattle.operator_keys.specs.declared.refusal.Refused.{Refused}
use Rattle.operator_keys.specs.Asking.{is_nobody}
use Rattle.operator_keys.specs.Candidates.{names_leader, info_of, anyone_may_take_over}
use Rattle.operator_keys.specs.Refusals.{refused_where, first_refusal}
use Rattle.operator_answers.specs.Statuses.{bad_request, precondition_failed, service_unavailable}

-- the body names no leader
abbrev pub leader_not_named : Named → Option Refused
leader_not_named leader = refused_where (is_nobody leader) bad_request texts.LeaderNotNamed

-- the body names no candidate
abbrev pub candidate_not_named : Named → Option Refused
candidate_not_named candidate = refused_where (is_nobody candidate) bad_request texts.CandidateNotNamed

-- the body names the same leader and candidate
abbrev pub target_is_source : Bool → Option Refused
target_is_source is_same = refused_where is_same bad_request texts.TargetIsSource

-- the cluster is paused, and the body names no candidate
abbrev pub paused_without_candidate : Bool → Named → Option Refused
paused_without_candidate pause candidate =
    refused_where (pause && is_nobody candidate) bad_request texts.PausedWithoutCandidate

-- it is to be done later
abbrev pub scheduled : Bool → Option Refused
scheduled is_scheduled = refused_where is_scheduled bad_request texts.ScheduledNotBuilt

-- another member leads than the one that the body names, or nobody does
abbrev pub other_leader : Named → Option LeaderEntry → Option Refused
other_leader who leader = refused_where (not (names_leader who leader)) precondition_failed texts.OtherLeader

-- the candidate leads
abbrev pub candidate_leads : Named → Option LeaderEntry → Option Refused
candidate_leads candidate leader =
    refused_where (names_leader candidate leader) precondition_failed texts.CandidateLeads

-- a failover or a switchover is asked for already
abbrev pub another_under_way : Option FailoverKey → Option Refused
another_under_way failover = refused_where (is_some failover) service_unavailable texts.AnotherUnderWay

-- the candidate, if one is named, has no member key, of which this is what it tells
abbrev pub no_such_candidate : Named → Option MemberInfo → Option Refused
no_such_candidate candidate info =
    refused_where (not (is_nobody candidate) && is_none info) precondition_failed texts.NoSuchCandidate

-- the sync key names the candidate as standby, if one is named
abbrev pub is_standby_or_nobody : Named → SyncKey → Bool
is_standby_or_nobody named.Nobody sync = true
is_standby_or_nobody named.Unknown sync = false
is_standby_or_nobody (named.Member member) sync = is_standby member sync

-- the synchronous mode is active, and the sync key doesn't name the candidate as standby
abbrev pub candidate_not_standby : Named → Option SyncKey → Option Refused
candidate_not_standby candidate None = None
candidate_not_standby candidate (Some sync) =
    refused_where (not (is_standby_or_nobody candidate sync)) precondition_failed texts.CandidateNotStandby

-- by what it tells, the candidate may not fail over
abbrev pub candidate_may_not_fail_over : Option MemberInfo → Option Refused
candidate_may_not_fail_over None = None
candidate_may_not_fail_over (Some info) =
    refused_where (not (may_fail_over info.tags)) precondition_failed texts.CandidateMayNotFailOver

-- the body names no candidate, and there is nobody who may take over
abbrev pub no_good_candidates : Named → Bool → Option Refused
no_good_candidates candidate anyone =
    refused_where (is_nobody candidate && not anyone) precondition_failed texts.NoGoodCandidates

-- what refuses a switchover that asks this, by the first rule that applies; nothing where none does
abbrev pub switchover_refusal : Asked → SnapshotFacts → Option Refused
switchover_refusal asked seen = first_refusal (
    leader_not_named asked.leader
    ∷ target_is_source asked.is_same
    ∷ paused_without_candidate (config_in seen).pause asked.candidate
    ∷ scheduled asked.is_scheduled
    ∷ other_leader asked.leader (leader_in seen)
    ∷ another_under_way (failover_in seen)
    ∷ no_such_candidate asked.candidate (info_of asked.candidate seen)
    ∷ candidate_not_standby asked.candidate (active_sync_in seen)
    ∷ candidate_may_not_fail_over (info_of asked.candidate seen)
    ∷ no_good_candidates asked.candidate (anyone_may_take_over seen)
    ∷ [])

-- what refuses a failover that asks this, by the first rule that applies; nothing where none does
abbrev pub failover_refusal : Asked → SnapshotFacts → Option Refused
failover_refusal asked seen = first_refusal (
    candidate_not_named asked.candidate
    ∷ scheduled asked.is_scheduled
    ∷ candidate_leads asked.candidate (leader_in seen)
    ∷ another_under_way (failover_in seen)
    ∷ no_such_candidate asked.candidate (info_of asked.candidate seen)
    ∷ candidate_may_not_fail_over (info_of asked.candidate seen)
    ∷ [])
