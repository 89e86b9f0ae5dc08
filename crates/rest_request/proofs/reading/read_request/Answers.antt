use Rattle.std.proofs.Common.{rules}
use Rattle.rest_request.proofs.reading.read_request.Goals as goal

pub returns-in_err-headers : goal.returns-in_err-headers
returns-in_err-headers c = λ ok. absurd (search rules)
