use Rattle.commit_showing.proofs.Inside.{overlaps-inside, overlaps-now, strict-order}
use Rattle.commit_showing.proofs.order.order_is_kept.Goals as goal

pub returns : goal.returns
returns c = record { between = overlaps-now; inside = overlaps-inside; strict = strict-order }
