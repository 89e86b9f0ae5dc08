use Rattle.std.proofs.Common.{◌≡◌}
use Rattle.command_line.specs.Members.{member_named}
use Rattle.command_line.proofs.Naming.{named_from}
use Rattle.command_line.proofs.members.member_named.Given as goal

abbrev pub invariant-loop-place : goal.invariant-loop-place
invariant-loop-place l = named_from l.name l.head.members l.place ≡ member_named l.head l.name
