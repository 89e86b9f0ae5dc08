-- Whom a load balancer finds that looks for the primary.
use Rattle.std.specs.Prelude.{◌≡◌, Bool, List, Some, IsTrue}
use Rattle.script_model.specs.Script.{HeadText}
use Rattle.event_book.specs.declared.event.Event.{Event}
use Rattle.event_book.specs.declared.member.Member.{Member}
use Rattle.rest_health.specs.declared.endpoint.Endpoint.{Endpoint}
use Rattle.rest_health.specs.Laws.{is_for_primaries}
use Rattle.rest_health.specs.Statuses.{ok}
use Rattle.rest_message.specs.Requests.{RequestText}
use Rattle.rest_message.specs.Targets.{path_of}
use Rattle.rest_paths.specs.declared.asking.Ask.TheVariants.{Health}
use Rattle.rest_paths.specs.Asking.{ask_of}
use Rattle.rest_answer.specs.Answers.{Replies}
use Rattle.rest_message.specs.Replies.{ReplyText}
use Rattle.agent_model.specs.Agents.{Outcome}
use Rattle.cluster_model.specs.Cluster.{cluster_over}
use Rattle.cluster_model.specs.Inputs.{moment_of, standing_of}
use Rattle.cluster_model.specs.Requests.{answer_at}
use Rattle.cluster_model.specs.Starting.{cluster_of}
use Rattle.cluster_model.specs.State.{Cluster}

-- a request looks for the primary: it is a health check on '/', '/primary' or '/read-write'
abbrev pub LooksForPrimary : RequestText → Type 0
LooksForPrimary asked = (endpoint : Endpoint) × (told : Bool) × IsTrue (is_for_primaries endpoint)
    × (ask_of asked.verb (path_of asked.target) ≡ Health endpoint told)

-- a request that looks for the primary finds this member of a cluster
-- at this moment: its agent is there, and would answer 200
pub record IsFound (cluster : Cluster) (member : Member) : Type 0 where
  pub asked : RequestText
  pub looks : LooksForPrimary asked
  pub agent : Outcome
  pub stands : standing_of cluster member ≡ Some agent
  pub reply : ReplyText
  pub answers : answer_at (moment_of cluster) agent asked ≡ Replies reply
  pub is_ok : reply.status ≡ ok

-- behind this book at most one member of a head's cluster is found, whoever is asked
abbrev pub FindsOne : HeadText → List Event → Type 0
FindsOne head book =
    (first second : Member) → IsFound (cluster_over (cluster_of head) book) first
    → IsFound (cluster_over (cluster_of head) book) second → first.id.number ≡ second.id.number
