use Rattle.sync_state.proofs.Changing.{stays-required_before, stays-required_after, drops-within}
use Rattle.sync_state.proofs.laws.published_standbys_stay_required.Goals as goal

pub returns-clause-before : goal.returns-clause-before
returns-clause-before c = stays-required_before

pub returns-clause-after : goal.returns-clause-after
returns-clause-after c = stays-required_after

pub returns-clause-dropped : goal.returns-clause-dropped
returns-clause-dropped c = drops-within
