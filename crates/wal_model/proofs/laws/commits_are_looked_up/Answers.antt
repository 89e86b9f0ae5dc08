use Rattle.wal_model.proofs.Lookups.{looked-up, looked-for}
use Rattle.wal_model.proofs.laws.commits_are_looked_up.Goals as goal

pub returns : goal.returns
returns c = record { has = looked-up; lacks = looked-for }
