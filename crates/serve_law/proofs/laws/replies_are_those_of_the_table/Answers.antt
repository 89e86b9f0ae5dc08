use Rattle.serve_law.proofs.Tabled.{refused-reply, silent-reply, told-reply}
use Rattle.serve_law.proofs.laws.replies_are_those_of_the_table.Goals as goal

pub returns-clause-refused : goal.returns-clause-refused
returns-clause-refused c = refused-reply

pub returns-clause-silent : goal.returns-clause-silent
returns-clause-silent c = silent-reply

pub returns-clause-at_once : goal.returns-clause-at_once
returns-clause-at_once c = told-reply
