use Rattle.std.proofs.Common.{arith, ap, Err, length, length-take}
use Rattle.rest_request.specs.declared.limits.TheConstants.{HEAD_LIMIT}
use Rattle.rest_request.proofs.Heads.{not-too-many, complete, unfinished, never}
use Rattle.rest_request.proofs.reading.read_with.Goals as goal

pub after-requires : goal.after-requires
after-requires c =
    let within = rw c.in-Ok-Complete.field-0-is at c.in-Ok-Complete.ensures.within in
    omega (arith, within.section.len_fits, ap length c.requires.room, length-take HEAD_LIMIT c.args.bytes.now)

pub returns-in-Ok-Complete : goal.returns-in-Ok-Complete
returns-in-Ok-Complete c =
    complete c.args.bytes.now c.args.room.now _ c.parse_request.new.headers c.in-Ok-Complete.head
    c.request_at.result c.requires.room c.after.ensures
    (rw c.in-Ok-Complete.field-0-is at c.in-Ok-Complete.ensures.complete) c.request_at.ensures

pub returns-in-Ok-Partial : goal.returns-in-Ok-Partial
returns-in-Ok-Partial c =
    unfinished c.args.bytes.now c.args.room.now c.before_head.result c.requires.room
    (rw c.in-Ok-Partial.field-0-is at c.in-Ok-Partial.ensures.partial)
    (rw c.in-Ok-Partial.field-0-is at c.in-Ok-Partial.ensures.unfinished) c.before_head.ensures

pub returns-in-Err : goal.returns-in-Err
returns-in-Err c =
    never c.args.bytes.now c.args.room.now c.requires.room
    (c.in-Err.ensures.invalid
    (λ same. not-too-many c.args.room.now _ c.requires.many (c.in-Err.ensures.too_many (ap Err same))))
