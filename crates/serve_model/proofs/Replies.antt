-- What is replied by events, one after another.
use Rattle.std.proofs.Common.{◌≡◌, List, [], ◌∷◌, ◌++◌, Option, Some, None, refl, ap, sym, ◌∙◌, append-nil}
use Rattle.std.specs.Option.{option_or}
use Rattle.std.specs.Prelude.{unwrap_or}
use Rattle.pat_base.specs.declared.member_id.MemberId.{MemberId}
use Rattle.event_book.specs.declared.event.Event.{Event}
use Rattle.cluster_model.specs.declared.step.Step.{Step}
use Rattle.cluster_model.specs.declared.step.Step.TheVariants as steps
use Rattle.cluster_model.specs.declared.step.Visit.{Visit}
use Rattle.cluster_model.specs.Cluster.{cluster_over}
use Rattle.cluster_model.specs.Next.{next_events}
use Rattle.cluster_model.specs.State.{Cluster}
use Rattle.rest_answer.specs.declared.refusal.Refusal.TheVariants as refusals
use Rattle.rest_answer.specs.Refusals.{refusal_reply}
use Rattle.rest_message.specs.Replies.{ReplyText}
use Rattle.serve_model.specs.Connections.{most_waiting, replied, replied_steps, reply_by, reply_in, unless_replied, waiting_steps}

option_or-assoc : {A : Type 0} (x y z : Option A) → option_or (option_or x y) z ≡ option_or x (option_or y z)
option_or-assoc None y z = refl
option_or-assoc (Some x) y z = refl

-- the first reply is that of the first events, or else of the others
pub reply_in-append : (id : MemberId) (first more : List Event)
    → reply_in id (first ++ more) ≡ option_or (reply_in id first) (reply_in id more)
reply_in-append id [] more = refl
reply_in-append id (event ∷ first) more = ap (λ r. option_or (reply_by id event.kind) r) (reply_in-append id first more)
    ∙ sym (option_or-assoc (reply_by id event.kind) (reply_in id first) (reply_in id more))

-- what a connection asks was replied to in its own step
pub first-replied : (cluster : Cluster) (id : MemberId) (visit : Visit) (reply : ReplyText)
    → reply_in id (next_events cluster (steps.Connection id visit)) ≡ Some reply
    → replied_steps cluster id visit ≡ steps.Connection id visit ∷ []
first-replied cluster id visit reply is =
    let events = next_events cluster (steps.Connection id visit) in
    ap (λ (r : Option ReplyText).
    steps.Connection id visit ∷ unless_replied r (waiting_steps (cluster_over cluster events) id most_waiting))
    is

-- the reply in one step is what is replied by it
pub replied-once : (cluster : Cluster) (id : MemberId) (step : Step) (reply : ReplyText)
    → reply_in id (next_events cluster step) ≡ Some reply → replied cluster id (step ∷ []) ≡ reply
replied-once cluster id step reply is =
    ap (λ (r : Option ReplyText). unwrap_or r (refusal_reply refusals.NoResult))
    (ap (reply_in id) (append-nil (next_events cluster step)) ∙ is)
