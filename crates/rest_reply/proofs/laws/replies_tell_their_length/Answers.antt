use Rattle.std.proofs.Common.{append-nil}
use Rattle.rest_reply.specs.Replies.{head_of}
use Rattle.rest_reply.proofs.Heads.{tells-length}
use Rattle.rest_reply.proofs.laws.replies_tell_their_length.Goals as goal

pub returns-clause-without_body : goal.returns-clause-without_body
returns-clause-without_body c = λ reply. append-nil (head_of reply)

pub returns-clause-length : goal.returns-clause-length
returns-clause-length c = tells-length
