use Rattle.std.proofs.Common.{sym, ◌∙◌}
use Rattle.wal_model.proofs.Points.{same-points, copied}
use Rattle.wal_model.proofs.history.History.try_clone_from.Goals as goal

pub returns-else-ne-clause-ok : goal.returns-else-ne-clause-ok
returns-else-ne-clause-ok c =
    copied c.args.self.now c.args.other.now _ _ _ _ c.self.view_is c.other.view_is
    (same-points c.self.inside.points.items c.other.inside.points.items (sym c.ne.ensures ∙ c.if-ne.false))
