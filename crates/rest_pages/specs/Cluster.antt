-- `/cluster`: the members of a cluster (Patroni documentation, "Patroni REST API", "Cluster status endpoints").
use Rattle.std.specs.Prelude.{ℕ, if◌then◌else◌, List, map, codes, Option, Some, None}
use Rattle.serde_json.specs.Data.{Data, array, object, string, Members, no_members, put}
use Rattle.serde_json.specs.View.{items_of}
use Rattle.json_build.specs.Members.{natural, with_flag}
use Rattle.pat_base.specs.declared.lsn.Lsn.{Lsn}
use Rattle.pat_base.specs.declared.member_id.MemberId.{MemberId}
use Rattle.pat_base.specs.Host.{host_bytes}
use Rattle.pat_base.specs.Name.{name_bytes}
use Rattle.pat_base.specs.Word.{word_text}
use Rattle.cluster_view.specs.KeyValues.{config_in}
use Rattle.cluster_view.specs.Snapshots.{SnapshotFacts}
use Rattle.cluster_view.specs.Naming.{leads}
use Rattle.member_rows.specs.Keys.{keys_in, lag_bytes}
use Rattle.member_rows.specs.Rows.{rows_of}
use Rattle.member_rows.specs.Standbys.{names_standby}
use Rattle.member_rows.specs.declared.keys.ClusterKeys.{ClusterKeys}
use Rattle.member_rows.specs.declared.rows.Row.{Row}

-- the role of a member
abbrev pub member_role : ClusterKeys → MemberId → List ℕ
member_role keys member =
    if leads member keys.leader then codes "leader"
    else (if names_standby keys.sync member then codes "sync_standby" else codes "replica")

-- a lag in bytes, or that it isn't known
abbrev pub lag_value : Option ℕ → Data
lag_value None = string (codes "unknown")
lag_value (Some lag) = natural lag

-- how many bytes an end lies behind where the leader's log ends, and 0 where it is ahead; or that it isn't known
abbrev pub lag_data : Option Lsn → Option Lsn → Data
lag_data status end = lag_value (lag_bytes status end)

-- the members, with a lag
abbrev pub with_lag_of : Option ℕ → Members → Members
with_lag_of lag members = put (codes "lag") (lag_value lag) members

-- the members, with how far the member lags, where it isn't the leader
abbrev pub with_lag : ClusterKeys → Row → Members → Members
with_lag keys row members =
    if leads row.member keys.leader then members else put (codes "lag") (lag_data keys.status row.info.end) members

-- the members, with a timeline, where it is known
abbrev pub with_timeline : Option ℕ → Members → Members
with_timeline None members = members
with_timeline (Some timeline) members = put (codes "timeline") (natural timeline) members

-- what the page has of a member
abbrev pub row_members : ClusterKeys → Row → Members
row_members keys row =
    with_timeline row.info.timeline
    (put (codes "state") (string (word_text row.info.state))
    (put (codes "role") (string (member_role keys row.member))
    (put (codes "name") (string (name_bytes row.name))
    (with_lag keys row
    (put (codes "host") (string (host_bytes row.info.host))
    no_members)))))

-- what the page has of a member, as an object
abbrev pub row_data : ClusterKeys → Row → Data
row_data keys row = object (row_members keys row)

-- the members of the cluster that tell of themselves, in the order of their names
abbrev pub cluster_rows : SnapshotFacts → List Data
cluster_rows snapshot = map (row_data (keys_in snapshot)) (rows_of snapshot)

-- the page, as the members of an object
abbrev pub cluster_members : SnapshotFacts → Members
cluster_members snapshot =
    put (codes "scope") (string (name_bytes snapshot.scope))
    (with_flag (codes "pause") (config_in snapshot).pause
    (put (codes "members") (array (items_of (cluster_rows snapshot)))
    no_members))
