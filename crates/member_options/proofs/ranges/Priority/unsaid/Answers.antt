use Rattle.member_options.proofs.PriorityLaws.{default-number, same_priority}
use Rattle.member_options.specs.Ranges.{default_priority}
use Rattle.std.proofs.Common.{sym}
use Rattle.member_options.proofs.ranges.Priority.unsaid.Goals as goal

pub returns : goal.returns
returns c = same_priority _ default_priority (sym default-number)
