-- `/patroni`: what an agent tells of its member (Patroni documentation, "Patroni REST API", "Monitoring endpoint").
use Rattle.std.specs.Prelude.{ℕ, Bool, false, List, codes, Option, Some, None}
use Rattle.std.specs.Option.{option_copied}
use Rattle.serde_json.specs.Data.{object, string, Members, no_members, put}
use Rattle.json_build.specs.Members.{natural, where_so, with_flag}
use Rattle.pat_base.specs.declared.lsn.Lsn.{Lsn}
use Rattle.pat_base.specs.declared.member_id.MemberId.{MemberId}
use Rattle.pat_base.specs.declared.name.Name.{Name}
use Rattle.pat_base.specs.declared.server_state.State.{State}
use Rattle.pat_base.specs.declared.server_state.State.TheVariants as states
use Rattle.pat_base.specs.declared.ticks.Ticks.{Ticks}
use Rattle.pat_base.specs.declared.word.Word.{Word}
use Rattle.pat_base.specs.declared.word.Word.TheVariants as words
use Rattle.pat_base.specs.Name.{name_bytes}
use Rattle.pat_base.specs.Word.{word_text}
use Rattle.cluster_view.specs.declared.view.AgentView.{AgentView}
use Rattle.cluster_view.specs.KeyValues.{config_in, sync_in}
use Rattle.cluster_view.specs.Snapshots.{SnapshotFacts}
use Rattle.member_rows.specs.Standbys.{names_standby}
use Rattle.rest_pages.specs.Tags.{with_tags}

-- the member and its cluster
abbrev pub named_members : Name → Name → Members
named_members name scope =
    put (codes "scope") (string (name_bytes scope)) (put (codes "name") (string (name_bytes name)) no_members)

-- the newest snapshot, if there is one, pauses the cluster
abbrev pub pauses : Option SnapshotFacts → Bool
pauses None = false
pauses (Some seen) = (config_in seen).pause

-- the newest snapshot, if there is one, has a sync key that names the member as standby
abbrev pub is_sync_standby : MemberId → Option SnapshotFacts → Bool
is_sync_standby me None = false
is_sync_standby me (Some seen) = names_standby (sync_in seen) me

-- the role of a server: only one that runs as a primary is told as master
abbrev pub role_text : State → List ℕ
role_text states.Primary = codes "master"
role_text _ = codes "replica"

-- the word of a server, whether or not it receives
abbrev pub server_word : State → Word
server_word states.Creating = words.CreatingReplica
server_word states.Stopped = words.Stopped
server_word (states.Starting as_primary at) = words.Starting
server_word states.Replica = words.Running
server_word states.Primary = words.Running
server_word (states.Stopping was_primary at) = words.Stopping
server_word states.Crashed = words.Crashed

-- a server streams: it is a replica, and receives
abbrev pub streams : State → Bool → Bool
streams states.Replica receives = receives
streams _ receives = false

-- the members, with the tick at which the last read was answered, if one was
abbrev pub with_last_read : Option Ticks → Members → Members
with_last_read None members = members
with_last_read (Some tick) members = put (codes "dcs_last_seen") (natural tick.0) members

-- the members, with that the server streams, where it does
abbrev pub with_streaming : State → Bool → Members → Members
with_streaming state receives members =
    where_so (streams state receives) (codes "replication_state") (string (codes "streaming")) members

-- where the log of a primary ends
abbrev pub location_members : Lsn → Members
location_members end = put (codes "location") (natural end.position) no_members

-- where the log of a replica ends, which has replayed all that it received
abbrev pub replica_members : Lsn → Members
replica_members end = put (codes "replayed_location") (natural end.position)
    (put (codes "received_location") (natural end.position) no_members)

-- the members, with where the log ends of a server that runs
abbrev pub with_position : State → Lsn → Members → Members
with_position states.Primary end members = put (codes "xlog") (object (location_members end)) members
with_position states.Replica end members = put (codes "xlog") (object (replica_members end)) members
with_position _ end members = members

-- the members, with where the log ends, where that is known
abbrev pub with_xlog : State → Option Lsn → Members → Members
with_xlog state None members = members
with_xlog state (Some end) members = with_position state end members

-- the page, by what the agent shows and by its newest snapshot, if it has one, as the members of an object
abbrev pub patroni_members_of : AgentView → Option SnapshotFacts → Members
patroni_members_of view seen =
    with_xlog view.state view.end
    (put (codes "timeline") (natural view.timeline)
    (with_tags view.tags
    (with_flag (codes "sync_standby") (is_sync_standby view.me seen)
    (put (codes "state") (string (word_text (server_word view.state)))
    (put (codes "role") (string (role_text view.state))
    (with_streaming view.state view.receives
    (with_flag (codes "pause") (pauses seen)
    (put (codes "patroni") (object (named_members view.name view.scope))
    (with_last_read view.last_read
    no_members)))))))))

-- the page, as the members of an object
abbrev pub patroni_members : AgentView → Members
patroni_members view = patroni_members_of view (option_copied view.seen)
