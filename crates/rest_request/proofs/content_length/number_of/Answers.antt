use Rattle.std.proofs.Common.{arith, ◌+◌, ◌∙◌}
use Rattle.rest_request.specs.declared.limits.TheConstants.{BODY_LIMIT}
use Rattle.rest_request.proofs.Digits.{capped-more}
use Rattle.rest_request.proofs.content_length.number_of.Goals as goal

pub loop-byte-preserved : goal.loop-byte-preserved
loop-byte-preserved c = record {
  number_is = c.min-number.ensures
      ∙ rw c.decimal_digit.ensures.value
      (capped-more c.args.text.now c.loop-byte.byte-index (BODY_LIMIT + 1) c.loop-byte.number
      (omega arith) c.loop-byte.invariant.number_is);
  all = c.loop-byte.invariant.all;
}
