use Rattle.std.proofs.Common.{rules}
use Rattle.event_book.specs.Links.{none_cut}
use Rattle.world_fields.proofs.links.CutLinks.none.Goals as goal

pub returns : goal.returns
unfolding none_cut
returns c = search rules
