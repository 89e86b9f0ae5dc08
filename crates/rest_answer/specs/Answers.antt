-- What is answered to a request (Patroni documentation, "Patroni REST API").
use Rattle.std.specs.Prelude.{ℕ, Bool, true, false, List, Option, Result, Ok, Err}
use Rattle.serde_json.specs.Data.{object}
use Rattle.serde_json.specs.Written.{compact_text}
use Rattle.store_keys.specs.declared.action.OperatorRequest.{OperatorRequest}
use Rattle.cluster_view.specs.declared.view.AgentView.{AgentView}
use Rattle.cluster_view.specs.Snapshots.{SnapshotFacts}
use Rattle.operator_answers.specs.AnswerTexts.{answer_text}
use Rattle.operator_keys.specs.declared.refusal.Refused.{Refused}
use Rattle.operator_answers.specs.Statuses.{not_found}
use Rattle.rest_facts.specs.Checks.{health_of_view}
use Rattle.rest_health.specs.declared.endpoint.Endpoint.{Endpoint}
use Rattle.rest_pages.specs.Patroni.{patroni_members_of}
use Rattle.rest_paths.specs.declared.asking.Ask.{Ask}
use Rattle.rest_paths.specs.declared.asking.Ask.TheVariants as asks
use Rattle.rest_paths.specs.Asking.{ask_of}
use Rattle.rest_message.specs.Requests.{RequestText}
use Rattle.rest_message.specs.Targets.{lag_of, path_of}
use Rattle.rest_answer.specs.declared.answers.Answer.{Answer}
use Rattle.rest_answer.specs.declared.answers.Answer.TheVariants as ways
use Rattle.rest_answer.specs.Decisions.{change_on}
use Rattle.rest_answer.specs.Pages.{page_reply}
use Rattle.rest_message.specs.Replies.{ReplyText, reply_text}
use Rattle.rest_answer.specs.Replies.{json_of, status_alone, text_of}
use Rattle.rest_answer.specs.Statuses.{method_not_allowed}

-- a reply at once, or what the agent is to do
pub data Answered : Type 0 where
  Replies : ReplyText → Answered
  Acts : OperatorRequest → Answered

-- what an answer tells
abbrev pub answered : Answer → Answered
answered (ways.Now reply) = Replies (reply_text reply)
answered (ways.Act request) = Acts request

-- it is a reply at once
abbrev pub IsReplied : Answered → Type 0
IsReplied (Replies reply) = Unit {0}
IsReplied (Acts request) = ⊥

-- what comes of a request to change something that was checked
abbrev pub decided : Result OperatorRequest Refused → Answered
decided (Ok request) = Acts request
decided (Err refused) = Replies (text_of refused.status (answer_text refused.text))

-- what a health check answers: its status, and with a body what the page of the member tells
abbrev pub health_reply : AgentView → Option SnapshotFacts → Endpoint → Option (List ℕ) → Bool → ReplyText
health_reply view seen endpoint lag true =
    json_of (health_of_view endpoint view seen lag) (compact_text (object (patroni_members_of view seen)))
health_reply view seen endpoint lag false = status_alone (health_of_view endpoint view seen lag)

-- what is answered to this, by what the agent shows, its newest snapshot, the parameter lag and the content
abbrev pub answer_by : AgentView → Option SnapshotFacts → Option (List ℕ) → List ℕ → Ask → Answered
answer_by view seen lag body asks.NotFound = Replies (status_alone not_found)
answer_by view seen lag body asks.NotAllowed = Replies (status_alone method_not_allowed)
answer_by view seen lag body (asks.Health endpoint told) = Replies (health_reply view seen endpoint lag told)
answer_by view seen lag body (asks.Page page) = Replies (page_reply page view seen)
answer_by view seen lag body (asks.Change change) = decided (change_on view seen change body)

-- what is answered to a request
abbrev pub answer_to : AgentView → Option SnapshotFacts → RequestText → Answered
answer_to view seen asked =
    answer_by view seen (lag_of asked.target) asked.body (ask_of asked.verb (path_of asked.target))
