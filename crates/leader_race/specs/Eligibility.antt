-- Who may race for a free leader key: what bars a member, by its server, its tags, and what the key store told.
use Rattle.std.specs.Prelude.{ℕ, ◌-◌, ◌&&◌, not, nat_lt, int_lt, pos, Bool, true, false, [], ◌∷◌, Option, Some, None}
use Rattle.pat_base.specs.declared.lsn.Lsn.{Lsn}
use Rattle.pat_base.specs.declared.member_id.MemberId.{MemberId}
use Rattle.pat_base.specs.declared.member_set.MemberSet.{MemberSet}
use Rattle.pat_base.specs.declared.server_state.State.{State}
use Rattle.pat_base.specs.declared.server_state.State.TheVariants as states
use Rattle.pat_base.specs.declared.tags.Tags.{Tags}
use Rattle.pat_base.specs.declared.ticks.Ticks.{Ticks}
use Rattle.pat_base.specs.declared.ineligibility.Ineligibility.{Ineligibility}
use Rattle.pat_base.specs.declared.ineligibility.Ineligibility.TheVariants as bars
use Rattle.store_keys.specs.declared.value.FailoverKey.{FailoverKey}
use Rattle.store_keys.specs.declared.value.SyncKey.{SyncKey}
use Rattle.cluster_view.specs.declared.view.AgentView.{AgentView}
use Rattle.cluster_view.specs.KeyValues.{config_in, failover_in, status_in, active_sync_in}
use Rattle.cluster_view.specs.Naming.{candidate_of, is_member, is_candidate, is_failover_to, is_named, is_one_of}
use Rattle.cluster_view.specs.Snapshots.{SnapshotFacts, failsafe_in}
use Rattle.leader_race.specs.Bars.{bar_where, first_bar}

-- its server doesn't run as a replica
abbrev pub not_running : State → Option Ineligibility
not_running states.Replica = None
not_running _ = Some bars.NotRunning

-- a member may fail over: nothing forbids it, and its priority is above 0
abbrev pub may_fail_over : Tags → Bool
may_fail_over tags = not tags.nofailover && int_lt (pos 0) tags.failover_priority

-- its tags don't let it fail over
abbrev pub no_failover : Tags → Option Ineligibility
no_failover tags = bar_where (not (may_fail_over tags)) bars.NoFailover

-- the cluster is paused, and no failover names it as candidate
abbrev pub paused : Bool → Bool → Option Ineligibility
paused pause names_me = bar_where (pause && not names_me) bars.Paused

-- a failover names another candidate
abbrev pub other_candidate : MemberId → Option MemberId → Option Ineligibility
other_candidate me None = None
other_candidate me (Some candidate) = bar_where (not (is_member me (Some candidate))) (bars.Candidate candidate)

-- the synchronous mode is active, and the sync key doesn't name it; a
-- failover to it, which names no leader, lets it race all the same
abbrev pub not_sync : MemberId → Option FailoverKey → Option SyncKey → Option Ineligibility
not_sync me failover None = None
not_sync me failover (Some sync) = bar_where (not (is_named me sync) && not (is_failover_to me failover)) bars.NotSync

-- a log is behind by more bytes than these: the end that the leader told of its
-- own log, minus this end, is above them. A log that ends further on is behind by
-- none, and so is each where the leader told nothing; no log lies below every end
abbrev pub is_behind_by : ℕ → Option Lsn → Option Lsn → Bool
is_behind_by bytes None end = false
is_behind_by bytes (Some status) None = true
is_behind_by bytes (Some status) (Some end) = nat_lt bytes (status.position - end.position)

-- its log is too far behind, and no failover names it as candidate
abbrev pub too_far_behind : ℕ → Option Lsn → Option Lsn → Bool → Option Ineligibility
too_far_behind most status end names_me = bar_where (is_behind_by most status end && not names_me) bars.TooFarBehind

-- the failsafe mode is on, and the failsafe key doesn't list it
abbrev pub not_listed : MemberId → Bool → Option MemberSet → Option Ineligibility
not_listed me failsafe_mode None = None
not_listed me failsafe_mode (Some members) = bar_where (failsafe_mode && not (is_one_of me members)) bars.NotListed

-- it promised not to take the leader key, until a moment that hasn't come
abbrev pub holding : Ticks → Option Ticks → Option Ineligibility
holding now None = None
holding now (Some until) = bar_where (nat_lt now.0 until.0) bars.Hold

-- why a member may not race for a free leader key, by the first rule that applies; nothing where it may
abbrev pub eligibility_of : AgentView → SnapshotFacts → Option Ineligibility
eligibility_of view seen = first_bar (
    not_running view.state
    ∷ no_failover view.tags
    ∷ paused (config_in seen).pause (is_candidate view.me (failover_in seen))
    ∷ other_candidate view.me (candidate_of (failover_in seen))
    ∷ not_sync view.me (failover_in seen) (active_sync_in seen)
    ∷ too_far_behind (config_in seen).maximum_lag_on_failover (status_in seen) view.end
    (is_candidate view.me (failover_in seen))
    ∷ not_listed view.me (config_in seen).failsafe_mode (failsafe_in seen)
    ∷ holding view.moment view.hold
    ∷ [])
