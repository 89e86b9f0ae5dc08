use Rattle.std.proofs.Common.{arith}
use Rattle.pat_outside.proofs.Contents.{HasRead-more, HasRead-end, HasRead-Consumed}
use Rattle.pat_outside.proofs.transfer.read_at_most.Goals as goal

pub loop-bytes-preserved : goal.loop-bytes-preserved
loop-bytes-preserved g c = record {
  read = HasRead-more _ _ _ _ _ _ _ _ _ _ c.loop-bytes.invariant.read
      (record {
        added = c.in_ok-read_more.ensures.added;
        bytes_are = c.in_ok-read_more.ensures.bytes;
        after = c.in_ok-read_more.ensures.after;
      })
      (omega (arith, c.in_ok-read_more.ensures.within)) (omega arith);
  reliable = λ was. (c.read_more.ensures.reliable (c.loop-bytes.invariant.reliable was)).0;
}

pub returns-in_err-read_more-clause-consumed : goal.returns-in_err-read_more-clause-consumed
returns-in_err-read_more-clause-consumed g c =
    HasRead-Consumed _ _ _ _ _ _ _ _ c.loop-bytes.invariant.read (omega arith) c.read_more.ensures.consumed

pub returns-then-branch-eq0-clause-consumed : goal.returns-then-branch-eq0-clause-consumed
returns-then-branch-eq0-clause-consumed g c =
    HasRead-Consumed _ _ _ _ _ _ _ _ c.loop-bytes.invariant.read (omega arith) c.read_more.ensures.consumed

pub returns-then-branch-eq0-clause-bytes : goal.returns-then-branch-eq0-clause-bytes
returns-then-branch-eq0-clause-bytes g c all is =
    (HasRead-end _ _ _ _ _ _ _ _ _ c.loop-bytes.invariant.read
    (record {
      added = c.in_ok-read_more.ensures.added;
      bytes_are = c.in_ok-read_more.ensures.bytes;
      after = c.in_ok-read_more.ensures.after;
    })
    (λ all is. c.in_ok-read_more.ensures.end all is c.if-branch-eq0.true) all is).0

pub returns-then-branch-eq0-clause-after : goal.returns-then-branch-eq0-clause-after
returns-then-branch-eq0-clause-after g c all is =
    (HasRead-end _ _ _ _ _ _ _ _ _ c.loop-bytes.invariant.read
    (record {
      added = c.in_ok-read_more.ensures.added;
      bytes_are = c.in_ok-read_more.ensures.bytes;
      after = c.in_ok-read_more.ensures.after;
    })
    (λ all is. c.in_ok-read_more.ensures.end all is c.if-branch-eq0.true) all is).1
