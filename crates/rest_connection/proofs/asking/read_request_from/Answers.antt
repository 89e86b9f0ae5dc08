use Rattle.std.proofs.Common.{length, arith, refl, Ok, Some}
use Rattle.rest_connection.proofs.Pieces.{asked-early, asked-by-fault, asked-at-end, unseen, answered-some, fault-answered-some, heard-by, left-at-end, left-fault, left-request, left-untold, present-before, reading-more, reading-starts, still-wanted, to-answer, to-end, to-failure, to-fault}
use Rattle.rest_connection.proofs.asking.read_request_from.Goals as goal

pub returns-in_err-request-clause-asked : goal.returns-in_err-request-clause-asked
returns-in_err-request-clause-asked g c all is answer seen_is =
    asked-by-fault all c.loop-bytes.bytes.items c.in_err-request.field-0.0 c.from_residual.result answer
    (c.loop-bytes.invariant.read.front all is).1
    (rw c.deref.ensures.value at c.in_err-request.ensures) c.from_residual.ensures.1 seen_is

pub returns-in_err-request-clause-present : goal.returns-in_err-request-clause-present
returns-in_err-request-clause-present g c answer seen_is =
    c.loop-bytes.invariant.present
    (fault-answered-some c.loop-bytes.bytes.items c.in_err-request.field-0.0 c.from_residual.result answer
    (rw c.deref.ensures.value at c.in_err-request.ensures) c.from_residual.ensures.1 seen_is)

pub returns-in_err-request-clause-left : goal.returns-in_err-request-clause-left
returns-in_err-request-clause-left g c =
    left-fault g.D.Door _ _ c.loop-bytes.bytes.items c.in_err-request.field-0.0 c.from_residual.result
    c.loop-bytes.invariant (rw c.deref.ensures.value at c.in_err-request.ensures) c.from_residual.ensures.1

pub returns-in-Some-clause-asked : goal.returns-in-Some-clause-asked
returns-in-Some-clause-asked g c all is answer seen_is =
    asked-early all c.loop-bytes.bytes.items (Ok (Some c.in-Some.request)) answer
    (c.loop-bytes.invariant.read.front all is).1
    (rw (c.deref.ensures.value, c.in-Some.is) at c.in_ok-request.ensures) seen_is

pub returns-in-Some-clause-present : goal.returns-in-Some-clause-present
returns-in-Some-clause-present g c answer seen_is =
    c.loop-bytes.invariant.present
    (answered-some c.loop-bytes.bytes.items (Ok (Some c.in-Some.request)) answer
    (rw (c.deref.ensures.value, c.in-Some.is) at c.in_ok-request.ensures) seen_is)

pub returns-in-Some-clause-left : goal.returns-in-Some-clause-left
returns-in-Some-clause-left g c =
    left-request g.D.Door _ _ c.loop-bytes.bytes.items c.in-Some.request c.loop-bytes.invariant
    (rw (c.deref.ensures.value, c.in-Some.is) at c.in_ok-request.ensures)

pub returns-in_err-read_more-clause-asked : goal.returns-in_err-read_more-clause-asked
returns-in_err-read_more-clause-asked g c all is answer seen_is =
    absurd (unseen c.in_err-read_more.field-0.0 c.from_residual-in_err-read_more.result answer
    c.in_err-read_more.ensures.errors c.from_residual-in_err-read_more.ensures.1 seen_is)

pub returns-in_err-read_more-clause-present : goal.returns-in_err-read_more-clause-present
returns-in_err-read_more-clause-present g c answer seen_is =
    absurd (unseen c.in_err-read_more.field-0.0 c.from_residual-in_err-read_more.result answer
    c.in_err-read_more.ensures.errors c.from_residual-in_err-read_more.ensures.1 seen_is)

pub returns-in_err-read_more-clause-left : goal.returns-in_err-read_more-clause-left
returns-in_err-read_more-clause-left g c =
    left-untold g.D.Door _ _ _ c.loop-bytes.bytes.items _ c.loop-bytes.invariant
    (still-wanted c.loop-bytes.bytes.items (rw (c.deref.ensures.value, c.in_default.is) at c.in_ok-request.ensures))
    c.read_more.ensures.left
    (λ answer seen_is. unseen c.in_err-read_more.field-0.0 c.from_residual-in_err-read_more.result answer
    c.in_err-read_more.ensures.errors c.from_residual-in_err-read_more.ensures.1 seen_is)

pub returns-then-branch-eq0-clause-asked : goal.returns-then-branch-eq0-clause-asked
returns-then-branch-eq0-clause-asked g c all is answer seen_is =
    asked-at-end all c.loop-bytes.bytes.items answer (c.loop-bytes.invariant.read.front all is).1
    (c.in_ok-read_more.ensures.end _ (c.loop-bytes.invariant.read.rest all is) c.if-branch-eq0.true)
    (rw (c.deref.ensures.value, c.in_default.is) at c.in_ok-request.ensures) cc

pub returns-then-branch-eq0-clause-present : goal.returns-then-branch-eq0-clause-present
returns-then-branch-eq0-clause-present g c answer seen_is =
    present-before _ _ (length c.loop-bytes.bytes.items) c.loop-bytes.invariant.facts c.in_ok-read_more.ensures.present

pub returns-then-branch-eq0-clause-left : goal.returns-then-branch-eq0-clause-left
returns-then-branch-eq0-clause-left g c =
    left-at-end g.D.Door _ _ _ c.loop-bytes.bytes.items c.in_ok-read_more.field-0 c.loop-bytes.invariant
    (still-wanted c.loop-bytes.bytes.items (rw (c.deref.ensures.value, c.in_default.is) at c.in_ok-request.ensures))
    c.in_ok-read_more.ensures.within c.in_ok-read_more.ensures.after
    (λ rest is. c.in_ok-read_more.ensures.end rest is c.if-branch-eq0.true)
    (rw (c.deref.ensures.value, c.in_default.is) at c.in_ok-request.ensures)

pub loop-bytes-smaller : goal.loop-bytes-smaller
loop-bytes-smaller g c =
    omega (
      arith,
      still-wanted c.loop-bytes.bytes.items (rw (c.deref.ensures.value, c.in_default.is) at c.in_ok-request.ensures),
      c.in_ok-read_more.ensures.added,
      c.if-branch-eq0.false,
    )

pub loop-bytes-preserved : goal.loop-bytes-preserved
loop-bytes-preserved g c =
    reading-more g.D.Door _ _ _ c.loop-bytes.bytes.items _ c.in_ok-read_more.field-0 c.loop-bytes.invariant
    (still-wanted c.loop-bytes.bytes.items (rw (c.deref.ensures.value, c.in_default.is) at c.in_ok-request.ensures))
    (rw (c.deref.ensures.value, c.in_default.is) at c.in_ok-request.ensures)
    (record {
      within = c.in_ok-read_more.ensures.within;
      added = c.in_ok-read_more.ensures.added;
      bytes_are = c.in_ok-read_more.ensures.bytes;
      present = c.in_ok-read_more.ensures.present;
      facts = c.in_ok-read_more.ensures.after;
      grows = c.read_more.ensures.grows;
      calm = c.read_more.ensures.door;
      served = c.read_more.ensures.served;
      reliable = λ n takes. (c.read_more.ensures.reliable n takes).0;
      spare = c.read_more.ensures.spare;
      heard = c.in_ok-read_more.ensures.heard;
      counts = c.in_ok-read_more.ensures.counts;
    })

pub loop-bytes-init : goal.loop-bytes-init
loop-bytes-init g c = reading-starts g.D.Door c.args.door.now _ c.new-bytes.ensures.items

pub returns-in_err-request-clause-early : goal.returns-in_err-request-clause-early
returns-in_err-request-clause-early g c =
    to-fault g.D.Door _ _ c.loop-bytes.bytes.items c.in_err-request.field-0.0 c.from_residual.result
    c.loop-bytes.invariant (rw c.deref.ensures.value at c.in_err-request.ensures) c.from_residual.ensures.1

pub returns-in-Some-clause-early : goal.returns-in-Some-clause-early
returns-in-Some-clause-early g c =
    to-answer g.D.Door _ _ c.loop-bytes.bytes.items c.loop-bytes.invariant
    (answered-some c.loop-bytes.bytes.items (Ok (Some c.in-Some.request)) _
    (rw (c.deref.ensures.value, c.in-Some.is) at c.in_ok-request.ensures) refl)

pub returns-in_err-read_more-clause-early : goal.returns-in_err-read_more-clause-early
returns-in_err-read_more-clause-early g c =
    to-failure g.D.Door _ _ _ c.loop-bytes.bytes.items c.in_err-read_more.field-0.0
    c.from_residual-in_err-read_more.result c.loop-bytes.invariant
    (rw (c.deref.ensures.value, c.in_default.is) at c.in_ok-request.ensures)
    c.in_err-read_more.ensures.errors c.from_residual-in_err-read_more.ensures.1 c.in_err-read_more.ensures.counts

pub returns-then-branch-eq0-clause-early : goal.returns-then-branch-eq0-clause-early
returns-then-branch-eq0-clause-early g c =
    to-end g.D.Door _ _ _ c.loop-bytes.bytes.items c.in_ok-read_more.field-0 c.loop-bytes.invariant
    (rw (c.deref.ensures.value, c.in_default.is) at c.in_ok-request.ensures) c.in_ok-read_more.ensures.counts

pub returns-in_err-request-clause-heard : goal.returns-in_err-request-clause-heard
returns-in_err-request-clause-heard g c calls had =
    heard-by g.D.Door _ c.from_residual.result _ calls c.from_residual.ensures.1
    (c.loop-bytes.invariant.heard calls had)

pub returns-in_err-read_more-clause-heard : goal.returns-in_err-read_more-clause-heard
returns-in_err-read_more-clause-heard g c calls had =
    heard-by g.D.Door _ c.from_residual-in_err-read_more.result _ calls c.from_residual-in_err-read_more.ensures.1
    (c.in_err-read_more.ensures.heard calls (c.loop-bytes.invariant.heard calls had))
