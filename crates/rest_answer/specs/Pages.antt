-- What the pages of an agent answer (Patroni documentation, "Patroni REST API").
use Rattle.std.specs.Prelude.{Bool, true, false, Option, Some, None}
use Rattle.serde_json.specs.Data.{Data, array, object}
use Rattle.serde_json.specs.View.{items_of}
use Rattle.serde_json.specs.Written.{compact_text}
use Rattle.cluster_view.specs.declared.view.AgentView.{AgentView}
use Rattle.cluster_view.specs.Snapshots.{SnapshotFacts}
use Rattle.operator_answers.specs.AnswerTexts.{answer_text}
use Rattle.operator_answers.specs.declared.answer_text.Text.TheVariants.{NoStoreAnswer}
use Rattle.operator_answers.specs.Statuses.{ok, bad_gateway, service_unavailable}
use Rattle.rest_pages.specs.Cluster.{cluster_members}
use Rattle.rest_pages.specs.Configuration.{configuration_text}
use Rattle.rest_pages.specs.Failsafe.{failsafe_data}
use Rattle.rest_pages.specs.History.{history_items}
use Rattle.rest_pages.specs.Patroni.{patroni_members_of}
use Rattle.rest_paths.specs.declared.resource.Page.{Page}
use Rattle.rest_paths.specs.declared.resource.Page.TheVariants as pages
use Rattle.rest_message.specs.Replies.{ReplyText}
use Rattle.rest_answer.specs.Replies.{json_of, status_alone, text_of}

-- the agent has read nothing of the key store
abbrev pub no_store_answer : ReplyText
no_store_answer = text_of service_unavailable (answer_text NoStoreAnswer)

-- what a page answers by the newest snapshot, if there is one
abbrev pub where_seen : (SnapshotFacts → ReplyText) → Option SnapshotFacts → ReplyText
where_seen reply None = no_store_answer
where_seen reply (Some seen) = reply seen

-- the members of the cluster
abbrev pub cluster_reply : SnapshotFacts → ReplyText
cluster_reply seen = json_of ok (compact_text (object (cluster_members seen)))

-- the history of timelines
abbrev pub history_reply : SnapshotFacts → ReplyText
history_reply seen = json_of ok (compact_text (array (items_of (history_items seen))))

-- the configuration, as it was written
abbrev pub config_reply : SnapshotFacts → ReplyText
config_reply seen = json_of ok (configuration_text seen)

-- these members of the failsafe key; nobody where the mode is off
abbrev pub members_reply : Option Data → ReplyText
members_reply None = status_alone bad_gateway
members_reply (Some members) = json_of ok (compact_text members)

-- the members of the failsafe key
abbrev pub failsafe_reply : SnapshotFacts → ReplyText
failsafe_reply seen = members_reply (failsafe_data seen)

-- what a page answers, by what the agent shows and by its newest snapshot
abbrev pub page_reply : Page → AgentView → Option SnapshotFacts → ReplyText
page_reply pages.Patroni view seen = json_of ok (compact_text (object (patroni_members_of view seen)))
page_reply pages.Cluster view seen = where_seen cluster_reply seen
page_reply pages.History view seen = where_seen history_reply seen
page_reply pages.Config view seen = where_seen config_reply seen
page_reply pages.Failsafe view seen = where_seen failsafe_reply seen

-- whether a page tells of the cluster, and not of the member alone
abbrev pub tells_of_the_cluster : Page → Bool
tells_of_the_cluster pages.Patroni = false
tells_of_the_cluster _ = true
