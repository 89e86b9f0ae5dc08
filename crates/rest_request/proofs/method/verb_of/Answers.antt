use Rattle.std.proofs.Common.{rules}
use Rattle.rest_request.proofs.Tokens.{same-token}
use Rattle.rest_request.proofs.method.verb_of.Goals as goal

pub unreachable-requires : goal.unreachable-requires
unreachable-requires c =
    let refused = rw c.in-Err-Invalid.field-0-is at c.in-Err-Invalid.ensures.invalid in
    refused.0 (search rules) (same-token c.args.token.now c.requires)
