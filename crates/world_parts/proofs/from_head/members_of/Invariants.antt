use Rattle.std.proofs.Common.{◌≡◌, ◌++◌, drop}
use Rattle.script_model.specs.Script.{names_of}
use Rattle.event_book.specs.Members.{members_from}
use Rattle.world_parts.proofs.from_head.members_of.Given as goal

abbrev pub invariant-loop-place : goal.invariant-loop-place
invariant-loop-place l =
    l.members.items ++ members_from l.place (drop l.place (names_of l.head)) ≡ members_from 0 (names_of l.head)
