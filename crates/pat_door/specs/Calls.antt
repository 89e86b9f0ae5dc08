-- Which call of a door is meant.
use Rattle.std.specs.Prelude.{ℕ, List}
use Rattle.pat_door.specs.declared.call.CallKind.{CallKind}
use Rattle.pat_door.specs.declared.call.CallKind.TheVariants as kinds
use Rattle.pat_door.specs.Doors.{Accepted, DoorCall, Failed, Opened}

-- the call of this kind, with its address
abbrev pub call_of : CallKind → List ℕ → DoorCall
call_of kinds.Opened address = Opened address
call_of kinds.Accepted address = Accepted
call_of kinds.Failed address = Failed
