use Rattle.event_book.proofs.NamedMembers.{gathered}
use Rattle.event_book.proofs.names.Names.of.Goals as goal

pub returns-clause-list : goal.returns-clause-list
returns-clause-list c = gathered _ _ _ _ c.loop-member-test.false c.loop-member.invariant
