use Rattle.leading_law.proofs.Turns.{answers-asked, begins, refuses, renewed, renews, sleeps, waits}
use Rattle.leading_law.proofs.Dropping.{drops, drops-peer, synced, unsynced}
use Rattle.leading_law.proofs.laws.a_leader_keeps_its_turn.Goals as goal

pub returns-clause-begins : goal.returns-clause-begins
returns-clause-begins c = begins

pub returns-clause-sleeps : goal.returns-clause-sleeps
returns-clause-sleeps c = sleeps

pub returns-clause-waits : goal.returns-clause-waits
returns-clause-waits c = waits

pub returns-clause-renews : goal.returns-clause-renews
returns-clause-renews c = renews

pub returns-clause-asked : goal.returns-clause-asked
returns-clause-asked c = answers-asked

pub returns-clause-refuses : goal.returns-clause-refuses
returns-clause-refuses c = refuses

pub returns-clause-renewed : goal.returns-clause-renewed
returns-clause-renewed c = renewed

pub returns-clause-drops : goal.returns-clause-drops
returns-clause-drops c = drops

pub returns-clause-synced : goal.returns-clause-synced
returns-clause-synced c = synced

pub returns-clause-unsynced : goal.returns-clause-unsynced
returns-clause-unsynced c = unsynced

pub returns-clause-peers : goal.returns-clause-peers
returns-clause-peers c = drops-peer
