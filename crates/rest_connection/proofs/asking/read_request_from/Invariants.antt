use Rattle.std.proofs.Common.{◌+◌, ◌-◌, vec_len}
use Rattle.rest_request.specs.declared.limits.TheConstants.{HEAD_LIMIT, BODY_LIMIT}
use Rattle.rest_connection.proofs.Pieces.{Reading}
use Rattle.rest_connection.proofs.asking.read_request_from.Given as goal

abbrev pub invariant-loop-bytes : goal.invariant-loop-bytes
invariant-loop-bytes g l = Reading g.D.Door l.fn.door l.door l.bytes.items

-- the bytes that may still be wanted
abbrev pub decreases-loop-bytes : goal.decreases-loop-bytes
decreases-loop-bytes g l = (HEAD_LIMIT + BODY_LIMIT) - vec_len l.bytes
