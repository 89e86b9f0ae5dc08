use Rattle.live_owing.proofs.Courses.{replies-to}
use Rattle.live_owing.proofs.laws.nobody_gets_anothers_reply.Goals as goal

pub returns : goal.returns
returns c = replies-to
