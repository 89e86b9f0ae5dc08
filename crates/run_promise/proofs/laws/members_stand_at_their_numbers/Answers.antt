use Rattle.run_promise.proofs.Members.{declared-at, declared-within, few-names}
use Rattle.run_promise.proofs.laws.members_stand_at_their_numbers.Goals as goal

pub returns-clause-declared : goal.returns-clause-declared
returns-clause-declared c head i member is at = declared-at head (few-names head is) i member at

pub returns-clause-within : goal.returns-clause-within
returns-clause-within c head member is declared = declared-within head (few-names head is) member declared
