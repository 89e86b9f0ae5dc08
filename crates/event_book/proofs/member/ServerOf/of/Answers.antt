use Rattle.event_book.proofs.Places.{server-is}
use Rattle.event_book.proofs.member.ServerOf.of.Goals as goal

pub returns : goal.returns
returns c = server-is c.of.result c.args.member c.of.ensures
