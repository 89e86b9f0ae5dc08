-- What a JSON list holds.
use Rattle.std.specs.Prelude.{List as Items, map}
use Rattle.serde_json.specs.Data.{Data}
use Rattle.serde_json.specs.View.{view}
use Rattle.json_build.specs.declared.list.List.{List}

-- the items of a list, in their order
abbrev pub list_items : List → Items Data
list_items list = map view list.items.items
