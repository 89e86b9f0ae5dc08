use Rattle.std.proofs.Common.{◌≡◌, ◌-◌, length, take, drop, ap, arith, ◌∙◌}
use Rattle.wal_model.specs.Log.{end_of}
use Rattle.wal_model.proofs.Chains.{end_of-split}
use Rattle.wal_model.proofs.Entries.{end_of-drop-le, end_of-rest}
use Rattle.wal_model.proofs.placed.Placed.end_within.Goals as goal

pub bytes_of-requires : goal.bytes_of-requires
bytes_of-requires c = rw c.entries.ensures
    (omega (arith, end_of-drop-le c.args.entries c.args.self.now.piece, c.requires.end, c.args.self.now.end.within))

pub overflow_sub-result : goal.overflow_sub-result
overflow_sub-result c = rw (c.bytes_of.ensures, c.entries.ensures)
    (omega (arith, end_of-drop-le c.args.entries c.args.self.now.piece, c.requires.end))

pub returns : goal.returns
returns c =
    let n = c.args.entries in
    let bytes : c.bytes_of.result ≡ end_of (drop n c.args.self.now.piece) =
    c.bytes_of.ensures ∙ ap (λ t. end_of (take (length t - n) (drop n t))) c.entries.ensures
    ∙ end_of-rest n c.args.self.now.piece in
    omega (arith, bytes, end_of-split n c.args.self.now.piece, c.requires.end)
