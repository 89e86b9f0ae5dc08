-- What is replied in steps, one after another.
use Rattle.std.proofs.Common.{ℕ, ◌≡◌, ◌<◌, ◌+◌, List, [], ◌∷◌, ◌++◌, length, drop, get_or, Option, None, Result, subst, ap, sym, ◌∙◌, append-nil}
use Rattle.std.specs.Option.{option_or}
use Rattle.std.specs.Prelude.{IfOk, unwrap_or}
use Rattle.std.specs.declared.alloc.AllocError.{AllocError}
use Rattle.std.proofs.lemmas.List.{drop_more}
use Rattle.pat_base.specs.declared.member_id.MemberId.{MemberId}
use Rattle.event_book.specs.declared.event.Event.{Event}
use Rattle.cluster_model.specs.declared.step.Step.{Step}
use Rattle.cluster_model.specs.declared.step.Step.TheVariants as steps
use Rattle.cluster_model.specs.declared.step.Visit.{Visit}
use Rattle.cluster_model.specs.Cluster.{cluster_over}
use Rattle.cluster_model.specs.Next.{next_events, run_events}
use Rattle.cluster_model.specs.State.{Cluster}
use Rattle.rest_answer.specs.declared.refusal.Refusal.TheVariants as refusals
use Rattle.rest_answer.specs.Refusals.{refusal_reply}
use Rattle.rest_message.specs.declared.reply.Reply.{Reply}
use Rattle.rest_message.specs.Replies.{ReplyText, reply_text}
use Rattle.run_model.proofs.Steps.{run_events-both}
use Rattle.serve_model.proofs.Replies.{reply_in-append}
use Rattle.serve_model.specs.Connections.{most_waiting, replied, replied_steps, reply_by, reply_in, unless_replied, waiting_steps}

-- where nothing was replied in some steps, the reply is that of the step behind them
pub reply-behind : (id : MemberId) (start now : Cluster) (done : List Step) (step : Step)
    → now ≡ cluster_over start (run_events start done) → reply_in id (run_events start done) ≡ None
    → reply_in id (run_events start (done ++ step ∷ [])) ≡ reply_in id (next_events now step)
reply-behind id start now done step is silent =
    let later = cluster_over start (run_events start done) in
    ap (reply_in id) (run_events-both start done (step ∷ []))
    ∙ reply_in-append id (run_events start done) (run_events later (step ∷ []))
    ∙ ap (λ r. option_or r (reply_in id (run_events later (step ∷ [])))) silent
    ∙ ap (reply_in id) (append-nil (next_events later step))
    ∙ ap (λ (c : Cluster). reply_in id (next_events c step)) (sym is)

-- the first reply from a place on is that of the event there, or else of those behind it
pub reply_in-drop : (id : MemberId) (events : List Event) (i : ℕ) (event : Event) → i < length events
    → event ≡ get_or events i event
    → reply_in id (drop i events) ≡ option_or (reply_by id event.kind) (reply_in id (drop (i + 1) events))
reply_in-drop id events i event within is =
    ap (reply_in id) (drop_more events i event within)
    ∙ ap (λ (e : Event). option_or (reply_by id e.kind) (reply_in id (drop (i + 1) events))) (sym is)

-- the reply to what a connection asks is waited for
pub first-waits : (cluster later : Cluster) (id : MemberId) (visit : Visit)
    → later ≡ cluster_over cluster (run_events cluster (steps.Connection id visit ∷ []))
    → reply_in id (next_events cluster (steps.Connection id visit)) ≡ None
    → replied_steps cluster id visit ≡ steps.Connection id visit ∷ waiting_steps later id most_waiting
first-waits cluster later id visit comes none =
    let events = next_events cluster (steps.Connection id visit) in
    ap (λ (r : Option ReplyText).
    steps.Connection id visit ∷ unless_replied r (waiting_steps (cluster_over cluster events) id most_waiting))
    none
    ∙ ap (λ (c : Cluster). steps.Connection id visit ∷ waiting_steps c id most_waiting)
    (sym (comes ∙ ap (cluster_over cluster) (append-nil events)))

-- behind a step without a reply, what is replied by the others is
pub replied-later : (cluster later : Cluster) (id : MemberId) (step : Step) (more : List Step)
    → later ≡ cluster_over cluster (run_events cluster (step ∷ []))
    → reply_in id (next_events cluster step) ≡ None → replied cluster id (step ∷ more) ≡ replied later id more
replied-later cluster later id step more comes none =
    let events = next_events cluster step in
    let next : later ≡ cluster_over cluster events = comes ∙ ap (cluster_over cluster) (append-nil events) in
    ap (λ (r : Option ReplyText). unwrap_or r (refusal_reply refusals.NoResult))
    (reply_in-append id events (run_events (cluster_over cluster events) more)
    ∙ ap (λ (r : Option ReplyText). option_or r (reply_in id (run_events (cluster_over cluster events) more))) none
    ∙ ap (λ (c : Cluster). reply_in id (run_events c more)) (sym next))

-- what is replied by another word
pub replied-so : (result : Result Reply AllocError) {text same : ReplyText} → text ≡ same
    → IfOk result (λ reply. reply_text reply ≡ text) → IfOk result (λ reply. reply_text reply ≡ same)
replied-so result is told = subst (λ (t : ReplyText). IfOk result (λ reply. reply_text reply ≡ t)) is told
