-- What a connection asks that the agent is to do.
use Rattle.std.proofs.Common.{ℕ, ◌≡◌, ◌≢◌, true, false, List, [], ◌++◌, slice_get, Option, Some, None, Ok, option_and_then, option_map, refl, ◌∙◌, ap, sym, subst, inl, inr, is_some, cond, Bool, ◌∷◌, replicate}
use Rattle.std.proofs.lemmas.Option.{none-some, same_Some}
use Rattle.std.specs.Option.{option_or}
use Rattle.std.specs.Prelude.{unwrap_or}
use Rattle.pat_base.specs.declared.member_id.MemberId.{MemberId}
use Rattle.store_keys.specs.declared.action.OperatorAction.{OperatorAction}
use Rattle.store_keys.specs.declared.action.OperatorRequest.{OperatorRequest}
use Rattle.event_book.specs.declared.agent_process.AgentProcess.{AgentProcess}
use Rattle.event_book.specs.declared.event.AgentEvent.TheVariants as agents
use Rattle.event_book.specs.declared.event.Event.{Event}
use Rattle.event_book.specs.declared.event.EventKind.{EventKind}
use Rattle.event_book.specs.declared.event.EventKind.TheVariants as kinds
use Rattle.event_book.specs.declared.member.Member.{Member}
use Rattle.operator_answers.specs.Statuses.{ok}
use Rattle.rest_answer.specs.Answers.{Acts}
use Rattle.rest_answer.specs.declared.refusal.Refusal.TheVariants.{NoResult}
use Rattle.rest_answer.specs.Refusals.{refusal_reply}
use Rattle.rest_message.specs.declared.request.Request.{Request}
use Rattle.rest_message.specs.Replies.{ReplyText}
use Rattle.rest_message.specs.Requests.{request_text}
use Rattle.rest_message.specs.Targets.{lag_of, path_of}
use Rattle.rest_paths.specs.Asking.{ask_of}
use Rattle.agent_model.specs.declared.heard.Heard.TheVariants.{Operated}
use Rattle.agent_model.specs.declared.machine.Machine.{Machine}
use Rattle.agent_model.specs.declared.operating.Operating.{Operating}
use Rattle.agent_model.specs.declared.output.Output.{Output}
use Rattle.agent_model.specs.Agents.{AgentFacts, Outcome, outcome_from}
use Rattle.agent_model.specs.Reconciling.{reconciled}
use Rattle.agent_model.specs.Table.{step}
use Rattle.agent_model.specs.Views.{shown}
use Rattle.agent_answers.proofs.OperatorAnswers.{step-right}
use Rattle.cluster_model.specs.declared.asker.Asker.TheVariants as askers
use Rattle.cluster_model.specs.declared.step.Step.TheVariants as steps
use Rattle.cluster_model.specs.declared.step.Visit.{Visit}
use Rattle.cluster_model.specs.declared.step.Visit.TheVariants as visits
use Rattle.cluster_model.specs.Cluster.{agent_after, cluster_after, cluster_over}
use Rattle.cluster_model.specs.Inputs.{agent_at, may_act, moment_of, outcome_of, standing, standing_of}
use Rattle.cluster_model.specs.Machines.{machine_of, points_of}
use Rattle.cluster_model.specs.Messages.{answered_events, input_events, no_message, operate_events, request_events_if, request_events_of, visit_events}
use Rattle.cluster_model.specs.Next.{acknowledge_events, declared, next_events, run_events, step_events}
use Rattle.cluster_model.specs.Parts.{event_of, events_then, for_some}
use Rattle.cluster_model.specs.Requests.{action_of, answer_at, silence}
use Rattle.cluster_model.specs.State.{Cluster}
use Rattle.cluster_model.proofs.Places.{get-here}
use Rattle.run_promise.proofs.Upholding.{over-append}
use Rattle.serve_model.specs.Connections.{Connection, first_visit, most_waiting, read_steps, replied_steps, reply_in, reply_to, waiting_steps}
use Rattle.serve_model.proofs.Replies.{reply_in-append}
use Rattle.serve_law.specs.Owing.{IsOwed, IsTold}
use Rattle.serve_law.proofs.Apart.{acknowledge-apart, apart-each, apart-silent}
use Rattle.serve_law.proofs.Asking.{IsDoneAtOnce, acts-alone, told-at-once}
use Rattle.serve_law.proofs.Owing.{OwedBy, Owes, OwesOf, input-owes, input-told, owed-by, told-either}
use Rattle.serve_law.proofs.Telling.{each-replied}
use Rattle.serve_law.proofs.Waiting.{Acknowledged, IsOwedIf, late-if, owed-steps, settles-acknowledged, silent-steps, silent-then, silent-waiting, waited}

-- an agent with its machine
record IsStanding (agent : Option AgentFacts) (machine : Option Machine) (stands : Outcome) : Type 0 where
  found : AgentFacts
  its_machine : Machine
  agent_is : agent ≡ Some found
  machine_is : machine ≡ Some its_machine
  stands_so : outcome_from found.role found.knows its_machine [] ≡ stands

is-standing : (agent : Option AgentFacts) (machine : Option Machine) (stands : Outcome)
    → standing agent machine ≡ Some stands → IsStanding agent machine stands
is-standing None machine stands e = absurd (none-some _ e)
is-standing (Some agent) None stands e = absurd (none-some _ e)
is-standing (Some agent) (Some machine) stands e =
    record { found = agent; its_machine = machine; agent_is = refl; machine_is = refl; stands_so = same_Some _ _ e }

after-input : (number : ℕ) (agent : AgentFacts) (outcome : Option Outcome) (found : Option (Option AgentFacts))
    → option_and_then (λ a. a) found ≡ Some agent → OwesOf number (agent_after outcome (Some agent))
    → OwesOf number (option_and_then (λ a. a) (option_map (agent_after outcome) found))
after-input number agent outcome None is owes = absurd (none-some _ is)
after-input number agent outcome (Some a) is owes =
    subst (λ (x : Option AgentFacts). OwesOf number (agent_after outcome x)) (sym is) owes

none-waits : (found : Option Operating) (waiting : Operating) → is_some found ≡ false → found ≡ Some waiting → ⊥
none-waits None waiting none is = none-some _ is
none-waits (Some other) waiting none is = true-false none
  where
    true-false : true ≡ false → ⊥
    true-false e = cc

module _ (cluster : Cluster) (id : MemberId) (member : Member) (request : Request) (process : AgentProcess)
    (stands : Outcome) (asked : OperatorRequest) (found : declared cluster id ≡ Some member)
    (same : member.id.number ≡ id.number)
    (runs : slice_get cluster.facts.processes member.id.number ≡ Some process) (may : may_act process ≡ true)
    (stand : standing_of cluster member ≡ Some stands)
    (answers : answer_at (moment_of cluster) stands (request_text request) ≡ Acts asked) where
  abbrev Action : OperatorAction
  Action = action_of stands asked

  abbrev Number : ℕ
  Number = Action.request

  abbrev Opening : EventKind
  Opening = kinds.Agent (agents.Operated member Action)

  abbrev Later : Cluster
  Later = cluster_after cluster Opening

  abbrev Made : Option Outcome
  Made = outcome_of cluster member (Operated Action)

  abbrev Input : List Event
  Input = operate_events cluster member Action

  abbrev Events : List Event
  Events = Input ++ Acknowledged Number id (cluster_over cluster Input)

  abbrev Visited : Visit
  Visited = visits.Request request

  -- the agent does what is asked
  first-acts : step_events cluster (steps.Connection id Visited) ≡ Input
  first-acts =
      let asks = request_text request in
      ap (λ (o : Option Member). for_some o (visit_events cluster Visited)) found
      ∙ ap (λ (o : Option AgentProcess). for_some o (request_events_if cluster askers.Connection asks member)) runs
      ∙ ap (λ (b : Bool). cond b (for_some (standing_of cluster member) (request_events_of cluster asks member))
      (event_of cluster (kinds.Note (silence askers.Connection member))))
      may
      ∙ ap (λ (o : Option Outcome). for_some o (request_events_of cluster asks member)) stand
      ∙ ap (answered_events cluster member stands) answers

  first-events : next_events cluster (steps.Connection id Visited) ≡ Events
  first-events = ap (λ (es : List Event). events_then cluster es (Acknowledged Number id)) first-acts

  acknowledged-silent : (later : Cluster) → reply_in id (Acknowledged Number id later) ≡ None
  acknowledged-silent later = apart-silent id (Acknowledged Number id later)
      (apart-each acknowledge_events acknowledge-apart later later.facts.members)

  -- what it replies in this step it told the request
  first-told : (reply : ReplyText) → reply_in id Events ≡ Some reply → IsTold Number id cluster Events reply
  first-told reply e =
      let acks = Acknowledged Number id (cluster_over cluster Input) in
      told-either Number id cluster Input acks reply (reply_in id Input) refl
      (input-told Number id cluster member (Operated Action) no_message Opening (refl, refl)
      (λ after answer at. at.0) (λ same found is machine after answer waited. absurd waited.reason))
      (λ r is. absurd (none-some _ (sym (acknowledged-silent (cluster_over cluster Input)) ∙ is)))
      (sym (reply_in-append id Input acks) ∙ e)

  its : IsStanding (agent_at cluster.agents member.id.number) (machine_of cluster member) stands
  its = is-standing (agent_at cluster.agents member.id.number) (machine_of cluster member) stands stand

  abbrev After : Outcome
  After = step (moment_of cluster) (points_of cluster member) (Operated Action)
      (outcome_from its.found.role its.found.knows its.its_machine [])

  made-so : Made ≡ Some After
  made-so = rw (its.agent_is, its.machine_is) refl

  -- what is done at once is replied
  done-replied : IsDoneAtOnce asked → reply_in id Input ≢ None
  done-replied done none =
      let told = told-at-once (moment_of cluster) Number asked
      (reconciled (moment_of cluster) (outcome_from its.found.role its.found.knows its.its_machine [])) done in
      each-replied id member no_message same Later told.before [] Number told.status told.text
      (ap (λ (outs : List Output).
      reply_in id (input_events Later member no_message (Some (record After { outputs = outs }))))
      (sym told.is)
      ∙ (ap (λ (o : Option Outcome). reply_in id (input_events Later member no_message o)) (sym made-so) ∙ none))

  input-none : (later : Cluster) → reply_in id (Input ++ Acknowledged Number id later) ≡ None → reply_in id Input ≡ None
  input-none later none =
      front (reply_in id Input) refl (sym (reply_in-append id Input (Acknowledged Number id later)) ∙ none)
    where
      front : (first : Option ReplyText) → reply_in id Input ≡ first
          → option_or first (reply_in id (Acknowledged Number id later)) ≡ None → reply_in id Input ≡ None
      front None is e = is
      front (Some r) is e = absurd (none-some _ (sym e))

  -- where it replies nothing, it owes the reply
  new-owed : reply_in id Input ≡ None → OwedBy Number After.knows.operating
  new-owed none =
      owed-by Number After.knows.operating (λ waiting is.
      elim ((step-right (moment_of cluster) (points_of cluster member)
      (Operated Action) its.found.role its.found.knows its.its_machine).waits
      waiting is) [
        | inr new ↦ new.request
        | inl old ↦
            absurd (elim (acts-alone (shown (moment_of cluster) stands) stands.knows.seen
            (lag_of (request_text request).target) (request_text request).body
            (ask_of (request_text request).verb (path_of (request_text request).target)) asked answers) [
              | inl alone ↦ none-waits stands.knows.operating waiting alone
                  (ap (λ (o : Outcome). o.knows.operating) (sym its.stands_so) ∙ old)
              | inr done ↦ done-replied done none
            ])
      ])

  later-owes : reply_in id Input ≡ None → Owes Number id.number Later
  later-owes none =
      subst (λ (k : ℕ). Owes Number k Later) same
      (subst (λ (o : Option (Option AgentFacts)). OwesOf Number (option_and_then (λ a. a) o))
      (sym (get-here cluster.agents member.id.number (agent_after Made)))
      (after-input Number its.found Made (slice_get cluster.agents member.id.number) its.agent_is
      (subst (λ (o : Option Outcome). OwesOf Number (agent_after o (Some its.found))) (sym made-so) (new-owed none))))

  first-owes : reply_in id Events ≡ None → Owes Number id.number (cluster_over cluster Events)
  first-owes none =
      let input = input-owes Number id cluster member (Operated Action) no_message Opening (refl, refl)
      (later-owes (input-none (cluster_over cluster Input) none)) in
      subst (Owes Number id.number)
      (sym (over-append cluster Input (Acknowledged Number id (cluster_over cluster Input))))
      (settles-acknowledged Number id (cluster_over cluster Input) input).owes

  -- nothing is replied in the step, nor in any of the ticks behind it
  abbrev Silent : Type 0
  Silent = reply_in id
      (run_events cluster (steps.Connection id Visited ∷ replicate most_waiting steps.Scheduled)) ≡ None

  -- the reply to all of it
  replied-so : (reply : ReplyText) → reply_in id (run_events cluster (replied_steps cluster id Visited)) ≡ Some reply
      → IsOwedIf Number id Silent cluster (run_events cluster (replied_steps cluster id Visited)) reply
  replied-so reply e =
      let events = next_events cluster (steps.Connection id Visited) in
      let later = cluster_over cluster events in
      let ticks = run_events later (replicate most_waiting steps.Scheduled) in
      owed-steps Number id Silent cluster (steps.Connection id Visited)
      (waiting_steps later id most_waiting) (reply_in id events) refl
      (subst (λ (es : List Event). (r : ReplyText) → reply_in id es ≡ Some r → IsTold Number id cluster es r)
      (sym first-events) first-told)
      (λ none given is. late-if Number id later (run_events later (waiting_steps later id most_waiting)) given
      (λ silent. silent-then Number id events ticks none silent)
      (waited Number id most_waiting later
      (subst (λ (es : List Event). reply_in id es ≡ None → Owes Number id.number (cluster_over cluster es))
      (sym first-events) first-owes none) given is))
      reply e

  late-or-told : (reply : ReplyText)
      → IsOwedIf Number id Silent cluster (run_events cluster (replied_steps cluster id Visited)) reply
      → IsOwed Number id cluster Visited (run_events cluster (replied_steps cluster id Visited)) reply
  late-or-told reply (inl told) = inl told
  late-or-told reply (inr late) = inr (record { silent = late.0; says = late.1 })

  owed-if : (reply : Option ReplyText) → reply_in id (run_events cluster (replied_steps cluster id Visited)) ≡ reply
      → IsOwed Number id cluster Visited (run_events cluster (replied_steps cluster id Visited))
      (unwrap_or reply (refusal_reply NoResult))
  owed-if None is =
      let events = next_events cluster (steps.Connection id Visited) in
      let later = cluster_over cluster events in
      inr (record {
        silent = silent-steps Number id cluster (steps.Connection id Visited) (waiting_steps later id most_waiting)
            (replicate most_waiting steps.Scheduled) (reply_in id events) refl
            (silent-waiting Number id most_waiting later) is;
        says = refl;
      })
  owed-if (Some reply) is = late-or-told reply (replied-so reply is)

  pub reply-owed : (connection : Connection) → connection.asks ≡ Ok request
      → IsOwed Number id cluster (first_visit connection.asks) (run_events cluster (read_steps cluster id connection))
      (reply_to cluster id connection)
  reply-owed connection asks =
      subst (λ (v : Visit). IsOwed Number id cluster v (run_events cluster (replied_steps cluster id v))
      (unwrap_or (reply_in id (run_events cluster (replied_steps cluster id v))) (refusal_reply NoResult)))
      (sym (ap first_visit asks))
      (owed-if (reply_in id (run_events cluster (replied_steps cluster id Visited))) refl)
