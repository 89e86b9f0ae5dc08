use Rattle.std.proofs.Common.{sym, ◌∙◌}
use Rattle.wal_model.proofs.Entries.{is_prefix-from}
use Rattle.pg_model.proofs.server.Server.is_front_of.Goals as goal

pub returns-then-in_step : goal.returns-then-in_step
returns-then-in_step c = c.if-in_step.true ∙ sym (is_prefix-from _ _ (c.requires.in_step c.if-in_step.true).log)
