use Rattle.std.proofs.Common.{sym, ◌∙◌}
use Rattle.pg_model.proofs.News.{is_current-from}
use Rattle.pg_model.proofs.server.Server.is_current.Goals as goal

pub returns-then-in_step : goal.returns-then-in_step
returns-then-in_step c =
    let behind = c.requires c.if-in_step.true in
    c.if-in_step.true ∙ sym (is_current-from c.args.self.now c.args.upstream.now behind.timeline behind.history)
