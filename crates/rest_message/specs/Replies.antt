-- Replies by their parts.
use Rattle.std.specs.Prelude.{ℕ, Bool, List, string_bytes}
use Rattle.rest_message.specs.declared.reply.Reply.{Reply}

-- a status and a content, which is JSON or plain text
pub record ReplyText : Type 0 where
  pub status : ℕ
  pub json : Bool
  pub body : List ℕ

-- what a reply tells
abbrev pub reply_text : Reply → ReplyText
reply_text reply = record { status = reply.status; json = reply.json; body = string_bytes reply.body }
