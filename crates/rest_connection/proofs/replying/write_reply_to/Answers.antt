use Rattle.pat_outside.proofs.Contents.{OnErr-holds}
use Rattle.rest_message.specs.Replies.{reply_text}
use Rattle.rest_reply.specs.Replies.{reply_bytes}
use Rattle.rest_connection.proofs.Writing.{front-nothing}
use Rattle.rest_connection.proofs.replying.write_reply_to.Goals as goal

pub returns-in_err-bytes-clause-front : goal.returns-in_err-bytes-clause-front
returns-in_err-bytes-clause-front g c = OnErr-holds _
    (front-nothing (g.D.Door.told c.args.door.now) (reply_bytes (reply_text c.args.reply.now) c.args.head_only))
