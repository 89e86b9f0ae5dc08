use Rattle.std.proofs.Common.{◌-◌, take, ap, arith, sym}
use Rattle.wal_model.specs.Log.{end_of}
use Rattle.wal_model.specs.Pieces.{joined}
use Rattle.wal_model.proofs.Chains.{IsLastBefore, some-before, last-before, taken-last, end_of-append, end_of-split}
use Rattle.wal_model.proofs.pieces.end_within.Goals as goal

pub returns-then-kept-eq0 : goal.returns-then-kept-eq0
returns-then-kept-eq0 c =
    ap (λ n. end_of (take n (joined c.args.placed.now)))
    (sym (some-before c.args.placed.now c.pieces_before-kept.result c.args.entries c.requires.chained
    c.requires.within c.pieces_before-kept.ensures.behind c.if-kept-eq0.true))

last : (c : goal.After-index-placed-kept)
    → IsLastBefore c.index-placed-kept.result c.args.placed.now c.pieces_before-kept.result c.args.entries
last c =
    last-before c.args.placed.now c.pieces_before-kept.result c.args.entries c.index-placed-kept.result
    c.requires.chained c.requires.within c.pieces_before-kept.ensures.within
    (omega (arith, c.if-kept-eq0.false)) c.index-placed-kept.is c.pieces_before-kept.ensures.before
    c.pieces_before-kept.ensures.behind

pub end_within-requires-clause-within : goal.end_within-requires-clause-within
end_within-requires-clause-within c = omega (arith, (last c).within)

pub end_within-requires-clause-end : goal.end_within-requires-clause-end
end_within-requires-clause-end c = omega (arith, (last c).among.end)

pub returns : goal.returns
returns c =
    let p = c.index-placed-kept.result in
    let m = c.args.entries - p.before in
    let l =
    last-before c.args.placed.now c.pieces_before-kept.result c.args.entries p c.requires.chained
    c.requires.within c.pieces_before-kept.ensures.within
    (omega (arith, c.if-kept-eq0.false)) c.index-placed-kept.is c.pieces_before-kept.ensures.before
    c.pieces_before-kept.ensures.behind in
    let first = joined (take (c.pieces_before-kept.result - 1) c.args.placed.now) in
    omega (
      arith,
      c.end_within.ensures,
      l.among.end,
      end_of-split m p.piece,
      end_of-append first (take m p.piece),
      ap end_of (taken-last c.args.placed.now c.pieces_before-kept.result c.args.entries p l),
    )
