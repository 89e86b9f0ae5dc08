use Rattle.law_examples.proofs.ExampleRun.{transitions, lawful, timely, writes}
use Rattle.law_examples.proofs.laws.a_server_can_write.Goals as goal

pub returns : goal.returns
returns c = λ name info standbys.
    (transitions name info standbys, lawful name info standbys, timely name info standbys, writes name info standbys)
