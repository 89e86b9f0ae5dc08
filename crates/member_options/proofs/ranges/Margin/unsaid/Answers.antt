use Rattle.std.proofs.Common.{sym}
use Rattle.member_options.proofs.RangeLaws.{same_margin, default-seconds}
use Rattle.member_options.specs.Ranges.{default_margin}
use Rattle.member_options.proofs.ranges.Margin.unsaid.Goals as goal

pub returns : goal.returns
returns c = same_margin _ default_margin (sym default-seconds)
