-- Replies that the agent has no part in.
use Rattle.std.specs.Prelude.{ℕ, List, codes}
use Rattle.operator_answers.specs.AnswerTexts.{answer_text}
use Rattle.operator_answers.specs.declared.answer_text.Text.TheVariants.{NoResultInTime}
use Rattle.operator_answers.specs.Statuses.{bad_request, service_unavailable}
use Rattle.rest_answer.specs.declared.refusal.Refusal.{Refusal}
use Rattle.rest_answer.specs.declared.refusal.Refusal.TheVariants as refusals
use Rattle.rest_message.specs.Replies.{ReplyText}
use Rattle.rest_answer.specs.Replies.{text_of}

-- the status for a reason: what was read is no request, or its agent can't answer it now
abbrev pub refusal_status : Refusal → ℕ
refusal_status refusals.BadHead = bad_request
refusal_status refusals.TooLong = bad_request
refusal_status refusals.BadLength = bad_request
refusal_status refusals.NoAgent = service_unavailable
refusal_status refusals.NoResult = service_unavailable

-- the words for a reason
abbrev pub refusal_words : Refusal → List ℕ
refusal_words refusals.BadHead = codes "BadHead"
refusal_words refusals.TooLong = codes "TooLong"
refusal_words refusals.BadLength = codes "BadLength"
refusal_words refusals.NoAgent = codes "No agent"
refusal_words refusals.NoResult = answer_text NoResultInTime

-- what is replied for a reason
abbrev pub refusal_reply : Refusal → ReplyText
refusal_reply refusal = text_of (refusal_status refusal) (refusal_words refusal)
