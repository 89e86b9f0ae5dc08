use Rattle.event_book.proofs.Places.{id-same}
use Rattle.event_book.specs.Members.{server_id_of}
use Rattle.agent_following.proofs.following.server_of.Goals as goal

pub returns : goal.returns
returns c = id-same c.of.result (server_id_of c.args.member) c.of.ensures
