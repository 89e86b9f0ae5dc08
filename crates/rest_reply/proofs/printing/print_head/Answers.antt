use Rattle.std.proofs.Common.{rules}
use Rattle.rest_reply.proofs.Heads.{head-text}
use Rattle.rest_reply.proofs.printing.print_head.Goals as goal

pub returns : goal.returns
returns c = rw (head-text c.args.status c.args.phrase.now c.args.content_type.now c.args.length) (search rules)
