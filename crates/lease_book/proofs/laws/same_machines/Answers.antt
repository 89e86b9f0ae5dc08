use Rattle.lease_book.proofs.Machines.{machines-first, machines-by, machines-of, count-in, writes-in}
use Rattle.lease_book.proofs.laws.same_machines.Goals as goal

pub returns : goal.returns
returns c =
    record { first = machines-first; each = machines-by; book = machines-of; count = count-in; writers = writes-in }
