-- Who holds the leader key.
use Rattle.std.specs.Prelude.{Option, Some, None}
use Rattle.pat_base.specs.declared.member_id.MemberId.{MemberId}
use Rattle.store_keys.specs.declared.value.Value.{Value}
use Rattle.store_keys.specs.declared.value.Value.TheVariants as values

-- the member that a value of the leader key names
abbrev pub holder_of : Value → Option MemberId
holder_of (values.Leader member) = Some member
holder_of _ = None
