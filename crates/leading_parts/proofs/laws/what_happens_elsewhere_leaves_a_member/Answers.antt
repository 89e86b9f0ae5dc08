use Rattle.leading_parts.proofs.Frames.{same-over}
use Rattle.leading_parts.proofs.laws.what_happens_elsewhere_leaves_a_member.Goals as goal

pub returns : goal.returns
returns c = same-over
