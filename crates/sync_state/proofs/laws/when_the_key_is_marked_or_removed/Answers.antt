use Rattle.sync_state.proofs.Changing.{marks-other, changes-lead}
use Rattle.sync_state.proofs.laws.when_the_key_is_marked_or_removed.Goals as goal

pub returns-clause-other : goal.returns-clause-other
returns-clause-other c = marks-other

pub returns-clause-leads : goal.returns-clause-leads
returns-clause-leads c = changes-lead
