use Rattle.pat_door.proofs.Growing.{after_write-nothing, after_write-twice, after_read-twice}
use Rattle.pat_door.proofs.laws.pieces_make_the_whole.Goals as goal

pub returns-clause-nothing : goal.returns-clause-nothing
returns-clause-nothing c = after_write-nothing

pub returns-clause-written : goal.returns-clause-written
returns-clause-written c = after_write-twice

pub returns-clause-read : goal.returns-clause-read
returns-clause-read c = after_read-twice
