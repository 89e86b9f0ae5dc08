-- Replies of one kind.
use Rattle.std.specs.Prelude.{ℕ, true, false, List, []}
use Rattle.rest_message.specs.Replies.{ReplyText}

-- JSON with this status
abbrev pub json_of : ℕ → List ℕ → ReplyText
json_of status text = record { status = status; json = true; body = text }

-- plain text with this status
abbrev pub text_of : ℕ → List ℕ → ReplyText
text_of status text = record { status = status; json = false; body = text }

-- this status with no content
abbrev pub status_alone : ℕ → ReplyText
status_alone status = text_of status []
