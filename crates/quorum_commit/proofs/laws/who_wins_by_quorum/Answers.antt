use Rattle.quorum_commit.proofs.WinningByQuorum.{wins-no_writer, wins-standby}
use Rattle.quorum_commit.proofs.laws.who_wins_by_quorum.Goals as goal

pub returns-clause-no_writer : goal.returns-clause-no_writer
returns-clause-no_writer c = wins-no_writer

pub returns-clause-standby : goal.returns-clause-standby
returns-clause-standby c = wins-standby
