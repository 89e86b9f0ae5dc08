-- How the timelines ended.
use Rattle.std.specs.Prelude.{ℕ, List, codes, Option, Some, None}
use Rattle.std.specs.List.{filter_map}
use Rattle.store_keys.specs.declared.key.Key.{Key}
use Rattle.store_keys.specs.declared.value.HistoryRow.{HistoryRow}
use Rattle.store_keys.specs.declared.value.KeyEntry.{KeyEntry}
use Rattle.store_keys.specs.declared.value.Value.{Value}
use Rattle.store_keys.specs.declared.value.Value.TheVariants as values
use Rattle.cluster_view.specs.Snapshots.{SnapshotFacts}

-- why timelines end here
abbrev pub end_reason : List ℕ
end_reason = codes "no recovery target specified"

-- how a timeline ended, by a value, if that is a row of the history
abbrev pub ended_by : Value → Option HistoryRow
ended_by (values.History row) = Some row
ended_by _ = None

-- how a timeline ended, by a key with its entry, if that is a row of the history
abbrev pub ended_of : Key × KeyEntry → Option HistoryRow
ended_of pair = ended_by pair.1.value

-- how the timelines ended, in the order of their keys, which is that of the timelines
abbrev pub endings : SnapshotFacts → List HistoryRow
endings snapshot = filter_map ended_of snapshot.entries
