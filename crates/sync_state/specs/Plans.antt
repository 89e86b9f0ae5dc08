-- Which step a leader takes next, to change who its synchronous standbys are.
use Rattle.std.specs.Prelude.{◌==◌, ◌&&◌, not, if◌then◌else◌, Option, Some, None}
use Rattle.store_keys.specs.declared.value.SyncKey.{SyncKey}
use Rattle.cluster_view.specs.declared.view.LeaderView.{LeaderView}
use Rattle.cluster_view.specs.KeyValues.{config_in, sync_in}
use Rattle.cluster_view.specs.Snapshots.{SnapshotFacts}
use Rattle.sync_state.specs.declared.steps.Plan.{Plan}
use Rattle.sync_state.specs.declared.steps.Plan.TheVariants as plans
use Rattle.sync_state.specs.declared.steps.Standbys.{Standbys}
use Rattle.sync_state.specs.Sets.{both, either, is_within, are_same}
use Rattle.sync_state.specs.Standbys.{standbys_in}

-- the next change, where the sync key names this leader, by the first row that applies: a published standby
-- that isn't wanted is withdrawn; a wanted one that isn't required is added to those required; the wanted
-- are published, once each has confirmed; who is required, and neither published nor wanted, is dropped
abbrev pub change_of : Standbys → Plan
change_of standbys =
    if not (is_within standbys.published standbys.wanted) then plans.Withdraw (both standbys.published standbys.wanted)
    else (if not (is_within standbys.wanted standbys.required)
    then plans.AddRequired (either standbys.required standbys.wanted)
    else (if not (are_same standbys.wanted standbys.published) && is_within standbys.wanted standbys.confirmed
    then plans.Publish standbys.wanted
    else (if not (is_within standbys.required (either standbys.published standbys.wanted))
    then plans.DropRequired (either standbys.published standbys.wanted)
    else plans.Keep)))

-- where the synchronous mode is off, a sync key is removed
abbrev pub plan_off : Option SyncKey → Plan
plan_off None = plans.Keep
plan_off (Some sync) = plans.SwitchOff

-- where it is on, the sync key is made to name this leader before anything else
abbrev pub plan_on : LeaderView → SnapshotFacts → Option SyncKey → Plan
plan_on view seen None = plans.Mark
plan_on view seen (Some sync) =
    if sync.leader.number == view.view.me.number then change_of (standbys_in view seen) else plans.Mark

-- what the leader is to do next about its synchronous standbys
abbrev pub plan_of : LeaderView → SnapshotFacts → Plan
plan_of view seen =
    if (config_in seen).synchronous_mode then plan_on view seen (sync_in seen) else plan_off (sync_in seen)
