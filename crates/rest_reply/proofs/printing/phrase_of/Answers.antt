use Rattle.std.proofs.Common.{sym, ap, unwrap_or, [], ℕ, List, Option}
use Rattle.rest_reply.specs.Replies.{phrase_of}
use Rattle.rest_reply.proofs.Phrases.{no-phrase}
use Rattle.rest_reply.proofs.printing.phrase_of.Goals as goal

pub returns-in-Err : goal.returns-in-Err
unfolding phrase_of
returns-in-Err c = sym (ap (λ (o : Option (List ℕ)). unwrap_or o []) (no-phrase c.args.status c.in-Err.ensures))
