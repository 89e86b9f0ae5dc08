use Rattle.live_owing.proofs.Courses.{refuses, runs-out-then}
use Rattle.live_owing.proofs.laws.no_result_comes_when_it_is_due.Goals as goal

pub returns-clause-tick : goal.returns-clause-tick
returns-clause-tick c = runs-out-then

pub returns-clause-asked : goal.returns-clause-asked
returns-clause-asked c course client asker = refuses course client
