use Rattle.std.proofs.Common.{arith, sym, length-take, take_all}
use Rattle.rest_request.specs.declared.limits.TheConstants.{HEAD_LIMIT}
use Rattle.live_page.proofs.origin.head_room.Goals as goal

pub slice_bounds-result-end : goal.slice_bounds-result-end
slice_bounds-result-end c = omega (arith, length-take HEAD_LIMIT c.args.bytes.now)

pub returns-else-bytes-gt-HEAD_LIMIT : goal.returns-else-bytes-gt-HEAD_LIMIT
returns-else-bytes-gt-HEAD_LIMIT c = sym (take_all HEAD_LIMIT c.args.bytes.now c.if-bytes-gt-HEAD_LIMIT.false)
