use Rattle.world_fields.proofs.Lacking.{lacks-all}
use Rattle.world_fields.proofs.losing.lacks_any.Goals as goal

pub returns-in-None : goal.returns-in-None
returns-in-None c = search (lacks-all, c.in-None.is, c.is_empty.ensures)
