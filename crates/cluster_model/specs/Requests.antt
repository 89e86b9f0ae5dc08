-- Requests to the REST interface of agents: what each comes to, and what is answered.
use Rattle.std.specs.Prelude.{ℕ, ◌+◌, List, Option, Some, option_and_then, option_map}
use Rattle.pat_base.specs.declared.ticks.Ticks.{Ticks}
use Rattle.store_keys.specs.declared.action.OperatorAction.{OperatorAction}
use Rattle.store_keys.specs.declared.action.OperatorRequest.{OperatorRequest}
use Rattle.store_keys.specs.Settings.{Settings}
use Rattle.event_book.specs.declared.event.EventKind.{EventKind}
use Rattle.event_book.specs.declared.event.EventKind.TheVariants as kinds
use Rattle.event_book.specs.declared.event.Note.{Note}
use Rattle.event_book.specs.declared.event.Note.TheVariants as notes
use Rattle.event_book.specs.declared.member.Member.{Member}
use Rattle.operator_answers.specs.AnswerTexts.{answer_text}
use Rattle.operator_keys.specs.ConfigChecks.{configuration_in}
use Rattle.rest_answer.specs.Answers.{Answered, answer_to}
use Rattle.rest_answer.specs.declared.refusal.Refusal.TheVariants as refusals
use Rattle.rest_answer.specs.Refusals.{refusal_reply}
use Rattle.rest_message.specs.Replies.{ReplyText}
use Rattle.rest_answer.specs.Replies.{json_of, text_of}
use Rattle.rest_message.specs.Requests.{RequestText}
use Rattle.rest_message.specs.Verbs.{verb_of}
use Rattle.script_model.specs.declared.request_words.RequestWords.{RequestWords}
use Rattle.agent_model.specs.declared.operating.Told.{Told}
use Rattle.agent_model.specs.declared.operating.Told.TheVariants as tolds
use Rattle.agent_model.specs.Agents.{AgentFacts, Outcome}
use Rattle.operator_answers.specs.Statuses.{ok}
use Rattle.cluster_model.specs.declared.asker.Asker.{Asker}
use Rattle.cluster_model.specs.declared.asker.Asker.TheVariants as askers
use Rattle.agent_model.specs.Views.{shown}

-- what the words of a line ask
abbrev pub asked_in_words : RequestWords → RequestText
asked_in_words words = record { verb = verb_of words.method; target = words.target; body = words.body }

-- what an agent that stands so answers to a request, or what it is to do for it
abbrev pub answer_at : Ticks → Outcome → RequestText → Answered
answer_at now o asked = answer_to (shown now o) o.knows.seen asked

-- what the agent is to do as an action, under the number that its next message has
abbrev pub action_of : Outcome → OperatorRequest → OperatorAction
action_of o asked = record { request = o.knows.sequence + 1; asked = asked }

-- that the agent of a member replies so, or that this is replied for it
abbrev pub reply_note : Member → ReplyText → Note
reply_note member reply = notes.Answered member reply.status reply.json reply.body

-- the agent of a member replies so
abbrev pub replying : Member → ReplyText → EventKind
replying member reply = kinds.Note (reply_note member reply)

-- what comes of a request to the agent of a member that doesn't run or
-- is suspended: a line gets no answer, and a connection is told so
abbrev pub silence : Asker → Member → Note
silence askers.Line member = notes.NoAnswer member
silence askers.Connection member = reply_note member (refusal_reply refusals.NoAgent)

-- the configuration that an agent read last
abbrev pub configuration_read : AgentFacts → Option Settings
configuration_read agent = option_and_then configuration_in agent.knows.seen

-- its text
abbrev pub config_text_of : Option AgentFacts → Option (List ℕ)
config_text_of agent = option_map (λ (config : Settings). config.text) (option_and_then configuration_read agent)

-- what the agent of a member, which stands so, answers an operator
abbrev pub told_kind : Member → Option AgentFacts → Told → Option EventKind
told_kind member agent (tolds.Text status text) = Some (replying member (text_of status (answer_text text)))
told_kind member agent tolds.Written = option_map (λ text. replying member (json_of ok text)) (config_text_of agent)
