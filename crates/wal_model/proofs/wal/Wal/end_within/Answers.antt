use Rattle.std.proofs.Common.{◌≡◌, ◌-◌, take, subst, arith}
use Rattle.wal_model.specs.Log.{end_of}
use Rattle.wal_model.proofs.Chains.{end_of-append}
use Rattle.wal_model.proofs.Entries.{end_of-drop-le}
use Rattle.wal_model.proofs.Runs.{end-before-rest}
use Rattle.wal_model.proofs.wal.Wal.end_within.Goals as goal

pub bytes_of-requires : goal.bytes_of-requires
bytes_of-requires c =
    let front = c.self.inside.pieces in
    let tail = c.self.inside.tail.items in
    rw c.deref.ensures.value (omega (
      arith,
      end_of-drop-le (c.args.entries - c.len-sealed.result) tail,
      c.self.invariant.end,
      end_of-append front tail,
      c.self.inside.end.within,
    ))

pub overflow_sub-result : goal.overflow_sub-result
overflow_sub-result c =
    omega (
      arith,
      end-before-rest c.self.inside.pieces c.self.inside.tail.items c.deref.result.now c.args.entries
          c.len-sealed.result c.bytes_of.result c.self.inside.end.position c.self.invariant
          c.deref.ensures.value c.len-sealed.ensures.count c.if-entries-sealed.false c.bytes_of.ensures,
    )

pub returns : goal.returns
returns c =
    subst (λ t. c.self.inside.end.position - c.bytes_of.result ≡ end_of (take c.args.entries t)) c.self.view_is
    (omega (
      arith,
      end-before-rest c.self.inside.pieces c.self.inside.tail.items c.deref.result.now c.args.entries
          c.len-sealed.result c.bytes_of.result c.self.inside.end.position c.self.invariant
          c.deref.ensures.value c.len-sealed.ensures.count c.if-entries-sealed.false c.bytes_of.ensures,
    ))
