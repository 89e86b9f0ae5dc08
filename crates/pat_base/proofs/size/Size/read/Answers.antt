use Rattle.pat_base.proofs.Digits.{digits_of-digits}
use Rattle.pat_base.proofs.size.Size.read.Goals as goal

pub number_up_to-requires : goal.number_up_to-requires
number_up_to-requires c = rw (c.split_at.ensures.front, c.digit_count.ensures.count) (digits_of-digits c.args.bytes.now)
