-- Replies at once.
use Rattle.std.proofs.Common.{◌≡◌, Some, Ok, Err, true, false, refl, ◌∙◌, ap, eq-eqb}
use Rattle.std.specs.Prelude.{slice_get}
use Rattle.pat_base.specs.declared.member_id.MemberId.{MemberId}
use Rattle.event_book.specs.declared.agent_process.AgentProcess.{AgentProcess}
use Rattle.event_book.specs.declared.member.Member.{Member}
use Rattle.agent_model.specs.Agents.{Outcome}
use Rattle.cluster_model.specs.declared.step.Step.TheVariants as steps
use Rattle.cluster_model.specs.declared.step.Visit.{Visit}
use Rattle.cluster_model.specs.declared.step.Visit.TheVariants as visits
use Rattle.cluster_model.specs.Inputs.{may_act, moment_of, standing_of}
use Rattle.cluster_model.specs.Messages.{visit_events}
use Rattle.cluster_model.specs.Next.{declared, next_events}
use Rattle.cluster_model.specs.Parts.{event_of}
use Rattle.cluster_model.specs.Requests.{answer_at, replying}
use Rattle.cluster_model.specs.State.{Cluster}
use Rattle.rest_answer.specs.Answers.{Replies}
use Rattle.rest_answer.specs.declared.refusal.Refusal.{Refusal}
use Rattle.rest_answer.specs.declared.refusal.Refusal.TheVariants.{NoAgent}
use Rattle.rest_answer.specs.Refusals.{refusal_reply}
use Rattle.rest_message.specs.declared.request.Request.{Request}
use Rattle.rest_message.specs.Replies.{ReplyText}
use Rattle.rest_message.specs.Requests.{request_text}
use Rattle.serve_model.specs.Connections.{Connection, first_visit, replied, replied_steps, reply_in, reply_to}
use Rattle.serve_model.proofs.Replies.{first-replied, replied-once}

-- the first event of a step that replies is that reply
first-reply : (cluster : Cluster) (id : MemberId) (visit : Visit) (member : Member) (reply : ReplyText)
    → declared cluster id ≡ Some member → member.id.number ≡ id.number
    → visit_events cluster visit member ≡ event_of cluster (replying member reply)
    → reply_in id (next_events cluster (steps.Connection id visit)) ≡ Some reply
first-reply cluster id visit member reply found same is = rw (found, is, same, eq-eqb id.number id.number refl) refl

-- so it is the reply to the connection
at-once : (cluster : Cluster) (id : MemberId) (visit : Visit) (member : Member) (connection : Connection)
    (reply : ReplyText) → first_visit connection.asks ≡ visit → declared cluster id ≡ Some member
    → member.id.number ≡ id.number
    → visit_events cluster visit member ≡ event_of cluster (replying member reply)
    → reply_to cluster id connection ≡ reply
at-once cluster id visit member connection reply first found same is =
    let told = first-reply cluster id visit member reply found same is in
    ap (λ (v : Visit). replied cluster id (replied_steps cluster id v)) first
    ∙ ap (replied cluster id) (first-replied cluster id visit reply told)
    ∙ replied-once cluster id (steps.Connection id visit) reply told

pub refused-reply : (cluster : Cluster) (id : MemberId) (member : Member) (connection : Connection) (refusal : Refusal)
    → declared cluster id ≡ Some member → member.id.number ≡ id.number → connection.asks ≡ Err refusal
    → reply_to cluster id connection ≡ refusal_reply refusal
refused-reply cluster id member connection refusal found same asks = at-once cluster id
    (visits.Refusal refusal) member connection (refusal_reply refusal) (ap first_visit asks) found same refl

pub silent-reply : (cluster : Cluster) (id : MemberId) (member : Member) (connection : Connection)
    (request : Request) (process : AgentProcess) → declared cluster id ≡ Some member → member.id.number ≡ id.number
    → connection.asks ≡ Ok request → slice_get cluster.facts.processes member.id.number ≡ Some process
    → may_act process ≡ false → reply_to cluster id connection ≡ refusal_reply NoAgent
silent-reply cluster id member connection request process found same asks runs rests =
    at-once cluster id (visits.Request request) member connection (refusal_reply NoAgent)
    (ap first_visit asks) found same (rw (runs, rests) refl)

pub told-reply : (cluster : Cluster) (id : MemberId) (member : Member) (connection : Connection)
    (request : Request) (process : AgentProcess) (stands : Outcome) (reply : ReplyText)
    → declared cluster id ≡ Some member → member.id.number ≡ id.number
    → connection.asks ≡ Ok request → slice_get cluster.facts.processes member.id.number ≡ Some process
    → may_act process ≡ true → standing_of cluster member ≡ Some stands
    → answer_at (moment_of cluster) stands (request_text request) ≡ Replies reply
    → reply_to cluster id connection ≡ reply
told-reply cluster id member connection request process stands reply found same asks runs acts standing answers =
    at-once cluster id (visits.Request request) member connection reply (ap first_visit asks) found same
    (rw (runs, acts, standing, answers) refl)
