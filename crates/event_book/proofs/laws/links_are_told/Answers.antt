use Rattle.event_book.proofs.Linked.{none-cut, none-whole, cut-told, joined-told, cuts-long}
use Rattle.event_book.proofs.laws.links_are_told.Goals as goal

pub returns : goal.returns
returns c = record { first = none-cut; cut = cut-told; joined = joined-told; whole = none-whole; count = cuts-long }
