use Rattle.member_rows.proofs.Timelines.{timelines-rise}
use Rattle.member_rows.proofs.laws.timelines_rise.Goals as goal

pub returns : goal.returns
returns c = λ snapshot read. timelines-rise snapshot.entries read.kinds read.order
