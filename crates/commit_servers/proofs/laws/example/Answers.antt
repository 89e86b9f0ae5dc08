use Rattle.commit_servers.proofs.ExampleBook.{example}
use Rattle.commit_servers.proofs.laws.example.Goals as goal

pub returns : goal.returns
returns c = example
