-- What a JSON object holds.
use Rattle.serde_json.specs.Data.{Members}
use Rattle.serde_json.specs.View.{members_view}
use Rattle.json_build.specs.declared.object.Object.{Object}

-- the members of an object, in the order of their names
abbrev pub object_members : Object → Members
object_members o = members_view o.members.entries
