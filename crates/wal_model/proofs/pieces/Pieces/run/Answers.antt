use Rattle.std.proofs.Common.{◌-◌, length, take, drop, subst, sym}
use Rattle.wal_model.specs.Log.{IsPrefixOf}
use Rattle.wal_model.proofs.Runs.{run-of-piece}
use Rattle.wal_model.proofs.pieces.Pieces.run.Goals as goal

pub returns-clause-front : goal.returns-clause-front
returns-clause-front c =
    let held = c.holding-held.result.now in
    let n = c.args.place - held.before in
    subst (λ t. IsPrefixOf (take (length t - n) (drop n t)) (drop c.args.place c.args.self.now)) (sym c.entries.ensures)
    (run-of-piece held c.args.self.now c.args.place c.holding-held.ensures)
