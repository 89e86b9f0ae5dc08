use Rattle.sync_state.proofs.Changing.{withdraws, adds, drops, drops-wanted}
use Rattle.sync_state.proofs.laws.what_a_step_changes.Goals as goal

pub returns-clause-withdrawn : goal.returns-clause-withdrawn
returns-clause-withdrawn c = withdraws

pub returns-clause-added : goal.returns-clause-added
returns-clause-added c = adds

pub returns-clause-dropped : goal.returns-clause-dropped
returns-clause-dropped c = drops

pub returns-clause-wanted : goal.returns-clause-wanted
returns-clause-wanted c = drops-wanted
