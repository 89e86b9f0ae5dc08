-- What stands at a name of a page.
use Rattle.std.proofs.Common.{◌≡◌, ◌∙◌, ℕ, Bool, true, false, List, Option, Some, None, refl, sym, ap, codes, if◌then◌else◌}
use Rattle.std.specs.Str.{bytes_eq}
use Rattle.serde_json.specs.Data.{Data, Members, no_members, put, boolean, object, string}
use Rattle.serde_json.specs.Find.{get_member}
use Rattle.serde_json.proofs.Views.{get_member-put, get_member-put_other}
use Rattle.json_build.specs.Members.{where_so, natural, with_flag}
use Rattle.pat_base.specs.declared.lsn.Lsn.{Lsn}
use Rattle.pat_base.specs.declared.server_state.State.{State}
use Rattle.pat_base.specs.declared.server_state.State.TheVariants as states
use Rattle.pat_base.specs.declared.ticks.Ticks.{Ticks}
use Rattle.pat_base.specs.Host.{host_bytes}
use Rattle.pat_base.specs.Name.{name_bytes}
use Rattle.pat_base.specs.Word.{word_text}
use Rattle.cluster_view.specs.declared.view.AgentView.{AgentView}
use Rattle.cluster_view.specs.Snapshots.{SnapshotFacts}
use Rattle.cluster_view.specs.Naming.{leads}
use Rattle.rest_pages.specs.Cluster.{lag_data, member_role, row_members, with_timeline}
use Rattle.rest_pages.specs.Patroni.{is_sync_standby, location_members, named_members, patroni_members_of, pauses, replica_members, role_text, server_word, streams, with_last_read, with_position, with_streaming, with_xlog}
use Rattle.rest_pages.specs.Tags.{has_tags, tags_members, with_tags}
use Rattle.member_rows.specs.declared.keys.ClusterKeys.{ClusterKeys}
use Rattle.member_rows.specs.declared.rows.Row.{Row}

-- what stands at `lag` in the row of a member, by whether it leads
lag-at : (leader : Bool) (timeline : Option ℕ) (state role name lag host : Data)
    → get_member (codes "lag")
    (with_timeline timeline (put (codes "state") state (put (codes "role") role (put (codes "name") name
    (if leader then put (codes "host") host no_members
    else put (codes "lag") lag (put (codes "host") host no_members))))))
    ≡ (if leader then None else Some lag)
lag-at true None state role name lag host = refl
lag-at true (Some timeline) state role name lag host = refl
lag-at false None state role name lag host = refl
lag-at false (Some timeline) state role name lag host = refl

lag-of-row : (keys : ClusterKeys) (row : Row)
    → get_member (codes "lag") (row_members keys row)
    ≡ (if leads row.member keys.leader then None else Some (lag_data keys.status row.info.end))
lag-of-row keys row =
    lag-at (leads row.member keys.leader) row.info.timeline (string (word_text row.info.state))
    (string (member_role keys row.member)) (string (name_bytes row.name)) (lag_data keys.status row.info.end)
    (string (host_bytes row.info.host))

pub leader-has-none : (keys : ClusterKeys) (row : Row) → leads row.member keys.leader ≡ true
    → get_member (codes "lag") (row_members keys row) ≡ None
leader-has-none keys row is = lag-of-row keys row ∙ rw is refl

pub others-have-one : (keys : ClusterKeys) (row : Row) → leads row.member keys.leader ≡ false
    → get_member (codes "lag") (row_members keys row) ≡ Some (lag_data keys.status row.info.end)
others-have-one keys row is = lag-of-row keys row ∙ rw is refl

-- what stands at `role` in the row of a member, by whether it leads
role-at : (leader : Bool) (timeline : Option ℕ) (state role name lag host : Data)
    → get_member (codes "role")
    (with_timeline timeline (put (codes "state") state (put (codes "role") role (put (codes "name") name
    (if leader then put (codes "host") host no_members
    else put (codes "lag") lag (put (codes "host") host no_members))))))
    ≡ Some role
role-at true None state role name lag host = refl
role-at true (Some timeline) state role name lag host = refl
role-at false None state role name lag host = refl
role-at false (Some timeline) state role name lag host = refl

pub role-of-row : (keys : ClusterKeys) (row : Row)
    → get_member (codes "role") (row_members keys row) ≡ Some (string (member_role keys row.member))
role-of-row keys row =
    role-at (leads row.member keys.leader) row.info.timeline (string (word_text row.info.state))
    (string (member_role keys row.member)) (string (name_bytes row.name)) (lag_data keys.status row.info.end)
    (string (host_bytes row.info.host))

true-false : true ≡ false → ⊥
true-false e = cc

-- texts are apart where their bytes are
apart : (q k : List ℕ) → bytes_eq q q ≡ true → bytes_eq q k ≡ false → q ≡ k → ⊥
apart q k own other e = true-false (sym own ∙ ap (bytes_eq q) e ∙ other)

-- what is put at another name, where it is so, changes nothing here
other-where : (so : Bool) (q k : List ℕ) (d : Data) (ms : Members) → (q ≡ k → ⊥)
    → get_member q (where_so so k d ms) ≡ get_member q ms
other-where true q k d ms differs = get_member-put_other q k d ms differs
other-where false q k d ms differs = refl

other-position : (state : State) (end : Lsn) (q : List ℕ) (ms : Members) → (q ≡ codes "xlog" → ⊥)
    → get_member q (with_position state end ms) ≡ get_member q ms
other-position states.Primary end q ms differs =
    get_member-put_other q (codes "xlog") (object (location_members end)) ms differs
other-position states.Replica end q ms differs =
    get_member-put_other q (codes "xlog") (object (replica_members end)) ms differs
other-position states.Creating end q ms differs = refl
other-position states.Stopped end q ms differs = refl
other-position (states.Starting as_primary at) end q ms differs = refl
other-position (states.Stopping was_primary at) end q ms differs = refl
other-position states.Crashed end q ms differs = refl

other-xlog : (state : State) (end : Option Lsn) (q : List ℕ) (ms : Members) → (q ≡ codes "xlog" → ⊥)
    → get_member q (with_xlog state end ms) ≡ get_member q ms
other-xlog state None q ms differs = refl
other-xlog state (Some end) q ms differs = other-position state end q ms differs

other-last_read : (last : Option Ticks) (q : List ℕ) (ms : Members) → (q ≡ codes "dcs_last_seen" → ⊥)
    → get_member q (with_last_read last ms) ≡ get_member q ms
other-last_read None q ms differs = refl
other-last_read (Some tick) q ms differs = get_member-put_other q (codes "dcs_last_seen") (natural tick.0) ms differs

-- the members of `/patroni`, up to the role, up to the state, and so on
abbrev before-role : AgentView → Option SnapshotFacts → Members
before-role view seen = with_streaming view.state view.receives
    (with_flag (codes "pause") (pauses seen)
    (put (codes "patroni") (object (named_members view.name view.scope)) (with_last_read view.last_read no_members)))

abbrev to-role : AgentView → Option SnapshotFacts → Members
to-role view seen = put (codes "role") (string (role_text view.state)) (before-role view seen)

abbrev to-state : AgentView → Option SnapshotFacts → Members
to-state view seen = put (codes "state") (string (word_text (server_word view.state))) (to-role view seen)

abbrev to-standby : AgentView → Option SnapshotFacts → Members
to-standby view seen = with_flag (codes "sync_standby") (is_sync_standby view.me seen) (to-state view seen)

abbrev to-tags : AgentView → Option SnapshotFacts → Members
to-tags view seen = with_tags view.tags (to-standby view seen)

abbrev to-timeline : AgentView → Option SnapshotFacts → Members
to-timeline view seen = put (codes "timeline") (natural view.timeline) (to-tags view seen)

-- at a name that isn't put behind the flag of standbys
behind-standby : (view : AgentView) (seen : Option SnapshotFacts) (q : List ℕ) → (q ≡ codes "xlog" → ⊥)
    → (q ≡ codes "timeline" → ⊥) → (q ≡ codes "tags" → ⊥)
    → get_member q (patroni_members_of view seen) ≡ get_member q (to-standby view seen)
behind-standby view seen q xlog timeline tags =
    other-xlog view.state view.end q (to-timeline view seen) xlog
    ∙ get_member-put_other q (codes "timeline") (natural view.timeline) (to-tags view seen) timeline
    ∙ other-where (has_tags view.tags) q (codes "tags") (object (tags_members view.tags)) (to-standby view seen) tags

pub role-is-told : (view : AgentView) (seen : Option SnapshotFacts)
    → get_member (codes "role") (patroni_members_of view seen) ≡ Some (string (role_text view.state))
role-is-told view seen =
    let role : List ℕ = codes "role" in
    behind-standby view seen role (apart role (codes "xlog") refl refl)
    (apart role (codes "timeline") refl refl) (apart role (codes "tags") refl refl)
    ∙ other-where (is_sync_standby view.me seen) role (codes "sync_standby") (boolean true)
    (to-state view seen) (apart role (codes "sync_standby") refl refl)
    ∙ get_member-put_other role (codes "state") (string (word_text (server_word view.state)))
    (to-role view seen) (apart role (codes "state") refl refl)
    ∙ get_member-put role (string (role_text view.state)) (before-role view seen)

no-standby : (view : AgentView) (seen : Option SnapshotFacts)
    → get_member (codes "sync_standby") (to-state view seen) ≡ None
no-standby view seen =
    let name : List ℕ = codes "sync_standby" in
    let last : Members = with_last_read view.last_read no_members in
    let named : Members = put (codes "patroni") (object (named_members view.name view.scope)) last in
    let paused : Members = with_flag (codes "pause") (pauses seen) named in
    get_member-put_other name (codes "state") (string (word_text (server_word view.state)))
    (to-role view seen) (apart name (codes "state") refl refl)
    ∙ get_member-put_other name (codes "role") (string (role_text view.state)) (before-role view seen)
    (apart name (codes "role") refl refl)
    ∙ other-where (streams view.state view.receives) name (codes "replication_state")
    (string (codes "streaming")) paused (apart name (codes "replication_state") refl refl)
    ∙ other-where (pauses seen) name (codes "pause") (boolean true) named (apart name (codes "pause") refl refl)
    ∙ get_member-put_other name (codes "patroni") (object (named_members view.name view.scope)) last
    (apart name (codes "patroni") refl refl)
    ∙ other-last_read view.last_read name no_members (apart name (codes "dcs_last_seen") refl refl)

flag-is-told : (flag : Bool) (name : List ℕ) (ms : Members) → get_member name ms ≡ None
    → get_member name (with_flag name flag ms) ≡ (if flag then Some (boolean true) else None)
flag-is-told true name ms none = get_member-put name (boolean true) ms
flag-is-told false name ms none = none

pub standby-is-told : (view : AgentView) (seen : Option SnapshotFacts)
    → get_member (codes "sync_standby") (patroni_members_of view seen)
    ≡ (if is_sync_standby view.me seen then Some (boolean true) else None)
standby-is-told view seen =
    let name : List ℕ = codes "sync_standby" in
    behind-standby view seen name (apart name (codes "xlog") refl refl)
    (apart name (codes "timeline") refl refl) (apart name (codes "tags") refl refl)
    ∙ flag-is-told (is_sync_standby view.me seen) name (to-state view seen) (no-standby view seen)
