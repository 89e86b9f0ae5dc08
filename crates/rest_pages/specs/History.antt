-- `/history`: how the timelines ended (Patroni documentation, "Patroni REST API", "Cluster status endpoints").
use Rattle.std.specs.Prelude.{List, [], ◌∷◌, ◌++◌, map, Option, Some, None}
use Rattle.serde_json.specs.Data.{Data, array, string}
use Rattle.serde_json.specs.View.{items_of}
use Rattle.json_build.specs.Members.{natural}
use Rattle.pat_base.specs.declared.host.Host.{Host}
use Rattle.pat_base.specs.declared.name.Name.{Name}
use Rattle.pat_base.specs.Name.{name_bytes}
use Rattle.store_keys.specs.declared.value.HistoryRow.{HistoryRow}
use Rattle.cluster_view.specs.Snapshots.{SnapshotFacts}
use Rattle.member_rows.specs.Endings.{end_reason, endings}
use Rattle.member_rows.specs.Rows.{declared_in}

-- the items, with the name of the leader at the end, if there is such a member
abbrev pub with_leader : List Data → Option (Name × Host) → List Data
with_leader items None = items
with_leader items (Some leader) = items ++ string (name_bytes leader.0) ∷ []

-- the timeline, where, why and when it ended, and who took over
abbrev pub ending_items : SnapshotFacts → HistoryRow → List Data
ending_items snapshot row =
    with_leader (natural row.timeline ∷ natural row.at.position ∷ string end_reason ∷ natural row.tick.0 ∷ [])
    (declared_in snapshot row.leader)

-- a row of the page, as a list
abbrev pub ending_data : SnapshotFacts → HistoryRow → Data
ending_data snapshot row = array (items_of (ending_items snapshot row))

-- the page, as the items of a list
abbrev pub history_items : SnapshotFacts → List Data
history_items snapshot = map (ending_data snapshot) (endings snapshot)
