-- Which step a leader takes next with quorum commit, towards the
-- standbys that it is to publish and whom its commits are to wait for.
use Rattle.std.specs.Prelude.{ℕ, ◌-◌, ◌==◌, ◌&&◌, not, min, nat_le, is_some, if◌then◌else◌, Bool, true, false, List, [], ◌∷◌, map, Option, Some, None}
use Rattle.std.specs.List.{range_with_len}
use Rattle.pat_base.specs.declared.member_id.TheConstants.{MOST_MEMBERS}
use Rattle.pat_base.specs.declared.member_set.MemberSet.{MemberSet}
use Rattle.pat_base.specs.declared.server_state.Required.{Required}
use Rattle.pat_base.specs.declared.server_state.Required.TheVariants as requireds
use Rattle.store_keys.specs.declared.value.SyncKey.{SyncKey}
use Rattle.cluster_view.specs.declared.view.LeaderView.{LeaderView}
use Rattle.cluster_view.specs.KeyValues.{config_in, sync_in}
use Rattle.cluster_view.specs.Snapshots.{SnapshotFacts}
use Rattle.sync_state.specs.Candidates.{candidate_numbered}
use Rattle.sync_state.specs.Sets.{are_same, both, either, nobody, set_of}
use Rattle.sync_state.specs.Standbys.{confirmed_in}
use Rattle.quorum_commit.specs.declared.steps.Aim.{Aim}
use Rattle.quorum_commit.specs.declared.steps.QuorumPlan.{QuorumPlan}
use Rattle.quorum_commit.specs.declared.steps.QuorumPlan.TheVariants as plans
use Rattle.quorum_commit.specs.declared.quorums.Need.{Need}
use Rattle.quorum_commit.specs.declared.quorums.Quorum.{Quorum}
use Rattle.quorum_commit.specs.Quorums.{may_publish, overlap, size}

-- ---- whom commits wait for
-- what a required list needs: who waits for nobody, or for any one, needs nobody of the empty set
abbrev pub need_of : Required → Need
need_of requireds.Nobody = record { number = 0; of = nobody }
need_of requireds.AnyOne = record { number = 0; of = nobody }
need_of (requireds.All members) = record { number = size members; of = members }
need_of (requireds.AtLeast number of) = record { number = number; of = of }

-- the required list that needs this: where nobody may be needed, the one of a leader without a standby
abbrev pub required_of : Required → Need → Required
required_of unnamed need = if are_same need.of nobody then unnamed else requireds.AtLeast need.number need.of

-- as many as commits wait for have confirmed the noted position, of the members that they wait for
abbrev pub confirmed_by : LeaderView → Bool
confirmed_by view = nat_le (need_of view.required).number (size (both (need_of view.required).of (confirmed_in view)))

-- ---- the target
-- the member of this number is a candidate
abbrev pub can_be_standby : LeaderView → SnapshotFacts → ℕ → Bool
can_be_standby view seen number = is_some (candidate_numbered view seen number)

-- the wanted: all candidates
abbrev pub wanted : LeaderView → SnapshotFacts → MemberSet
wanted view seen = set_of (map (can_be_standby view seen) (range_with_len 0 MOST_MEMBERS))

-- commits are to wait for so many of the wanted, or for all where these are fewer
abbrev pub target_need : ℕ → MemberSet → Need
target_need count wanted = record { number = min count (size wanted); of = wanted }

-- all wanted are to be published, and the others may lack a commit
abbrev pub target_key : ℕ → MemberSet → Quorum
target_key count wanted = record { standbys = wanted; number = size wanted - min count (size wanted) }

-- what a sync key publishes
abbrev pub quorum_of : SyncKey → Quorum
quorum_of sync = record { standbys = sync.standbys; number = sync.quorum }

-- what the leader has published by this key, whom its commits wait for, and the target
abbrev pub aim_of : LeaderView → SnapshotFacts → SyncKey → Aim
aim_of view seen sync = record {
  key = quorum_of sync;
  need = need_of view.required;
  wanted = wanted view seen;
  count = (config_in seen).synchronous_node_count;
  confirmed = confirmed_by view;
}

-- ---- the rows
abbrev pub same_key : Quorum → Quorum → Bool
same_key one other = are_same one.standbys other.standbys && one.number == other.number

abbrev pub same_need : Need → Need → Bool
same_need one other = are_same one.of other.of && one.number == other.number

-- this plan, where it is so
abbrev pub plan_where : Bool → QuorumPlan → Option QuorumPlan
plan_where false plan = None
plan_where true plan = Some plan

-- a quorum is published that isn't the one of the key, and may be
abbrev pub publishing : Aim → Quorum → Option QuorumPlan
publishing aim next =
    plan_where (not (same_key aim.key next) && may_publish aim.key next aim.need aim.confirmed) (plans.Publish next)

-- a need is required that isn't the present one, and may be
abbrev pub requiring : Aim → Need → Option QuorumPlan
requiring aim next = plan_where (not (same_need aim.need next) && overlap aim.key next) (plans.Require next)

-- the published standbys and the wanted, any of which may lack a commit
abbrev pub widest_key : Aim → Quorum
widest_key aim = record {
  standbys = either aim.key.standbys aim.wanted;
  number = size (either aim.key.standbys aim.wanted);
}

-- of the published standbys so many that no more than the key's number may lack a commit
abbrev pub published_need : Aim → Need
published_need aim = record { number = size aim.key.standbys - aim.key.number; of = aim.key.standbys }

-- the plan of the first row that applies; else nothing is changed
abbrev pub first_plan : List (Option QuorumPlan) → QuorumPlan
first_plan [] = plans.Keep
first_plan (None ∷ rows) = first_plan rows
first_plan (Some plan ∷ rows) = plan

-- the next change, where the sync key names this leader
abbrev pub quorum_change_of : Aim → QuorumPlan
quorum_change_of aim = first_plan (
    plan_where (same_key aim.key (target_key aim.count aim.wanted)
    && same_need aim.need (target_need aim.count aim.wanted))
    plans.Keep
    ∷ publishing aim (target_key aim.count aim.wanted)
    ∷ requiring aim (target_need aim.count aim.wanted)
    ∷ plan_where (same_need aim.need (target_need aim.count aim.wanted)) plans.Keep
    ∷ publishing aim (widest_key aim)
    ∷ plan_where (not (same_need aim.need (published_need aim))) (plans.Require (published_need aim))
    ∷ [])

-- where the synchronous mode is off, a sync key is removed
abbrev pub quorum_plan_off : Option SyncKey → QuorumPlan
quorum_plan_off None = plans.Keep
quorum_plan_off (Some sync) = plans.SwitchOff

-- where it is on, the sync key is made to name this leader before anything else
abbrev pub quorum_plan_on : LeaderView → SnapshotFacts → Option SyncKey → QuorumPlan
quorum_plan_on view seen None = plans.Mark
quorum_plan_on view seen (Some sync) =
    if sync.leader.number == view.view.me.number then quorum_change_of (aim_of view seen sync) else plans.Mark

-- what the leader is to do next about its standbys, with quorum commit
abbrev pub quorum_plan_of : LeaderView → SnapshotFacts → QuorumPlan
quorum_plan_of view seen =
    if (config_in seen).synchronous_mode then quorum_plan_on view seen (sync_in seen)
    else quorum_plan_off (sync_in seen)
