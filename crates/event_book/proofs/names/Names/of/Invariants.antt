use Rattle.std.proofs.Common.{◌≡◌, [], drop}
use Rattle.event_book.specs.NameLists.{with_names}
use Rattle.event_book.proofs.names.Names.of.Given as goal

-- the names so far, with those of what is left, are those of all
abbrev pub invariant-loop-member : goal.invariant-loop-member
invariant-loop-member l = with_names l.items.items l.set (drop l.member-index l.members) ≡ with_names [] l.set l.members
