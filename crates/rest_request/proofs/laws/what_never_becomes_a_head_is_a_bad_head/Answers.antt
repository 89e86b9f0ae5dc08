use Rattle.rest_request.proofs.Readings.{never-bad-head}
use Rattle.rest_request.proofs.laws.what_never_becomes_a_head_is_a_bad_head.Goals as goal

pub returns : goal.returns
returns c = never-bad-head
