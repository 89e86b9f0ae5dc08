-- Each step of a script upholds a promise, where its parts do.
use Rattle.std.proofs.Common.{ℕ, ◌≡◌, List, [], ◌∷◌, slice_get, Option, Some, None, true, zero, suc, refl}
use Rattle.std.specs.Map.{keys_of}
use Rattle.event_book.specs.declared.agent_process.AgentProcess.{AgentProcess}
use Rattle.event_book.specs.declared.event.Event.{Event}
use Rattle.event_book.specs.declared.event.EventKind.TheVariants as kinds
use Rattle.event_book.specs.declared.event.Note.TheVariants as notes
use Rattle.event_book.specs.declared.link.LinkEnd.{LinkEnd}
use Rattle.event_book.specs.declared.link.LinkEnd.TheVariants as ends
use Rattle.event_book.specs.declared.member.Member.{Member}
use Rattle.event_book.specs.Flight.{InFlightFacts, in_flight}
use Rattle.script_model.specs.declared.line.Command.{Command}
use Rattle.script_model.specs.declared.line.Command.TheVariants as commands
use Rattle.rest_message.specs.Requests.{RequestText, request_text}
use Rattle.rest_answer.specs.Answers.{Answered, Acts, Replies}
use Rattle.patronictl.specs.Answers.{CtlTold, Prints, Asks}
use Rattle.pat_base.specs.declared.member_id.MemberId.{MemberId}
use Rattle.rest_answer.specs.Refusals.{refusal_reply}
use Rattle.rest_message.specs.Replies.{ReplyText}
use Rattle.agent_model.specs.Agents.{Outcome}
use Rattle.cluster_model.specs.declared.step.Step.{Step}
use Rattle.cluster_model.specs.declared.step.Step.TheVariants as steps
use Rattle.cluster_model.specs.declared.asker.Asker.{Asker}
use Rattle.cluster_model.specs.declared.asker.Asker.TheVariants as askers
use Rattle.cluster_model.specs.declared.step.Visit.{Visit}
use Rattle.cluster_model.specs.declared.step.Visit.TheVariants as visits
use Rattle.cluster_model.specs.declared.delivery.Delivery.{Delivery}
use Rattle.cluster_model.specs.declared.delivery.Delivery.TheVariants as deliveries
use Rattle.cluster_model.specs.Deliveries.{delivery_of}
use Rattle.cluster_model.specs.Inputs.{has_work, is_to_wake, may_act, moment_of, standing_of}
use Rattle.cluster_model.specs.Limits.{most_rounds}
use Rattle.cluster_model.specs.Messages.{answered_events, arrival_events_at, deliver_events, deliver_events_by, lose_events, message_events, message_events_by, request_events, request_events_if, request_events_of, visit_events, turn_events, turn_events_if, wake_events, wake_events_if, wake_events_of}
use Rattle.cluster_model.specs.Next.{acknowledge_events, all_entries, asking_events, command_events, ctl_events, ctl_line_events, ctl_told_at, declared, next_events, promote_events, receive_events_at_most, receive_events_of, round_events, rounds_events, run_events, scheduled_events, step_events}
use Rattle.cluster_model.specs.Parts.{each, event_of, for_some, is_empty}
use Rattle.cluster_model.specs.Requests.{answer_at, asked_in_words, silence}
use Rattle.cluster_model.specs.State.{Cluster}
use Rattle.cluster_model.specs.Ticking.{tick_events}
use Rattle.lease_model.proofs.Tools.{and-first}
use Rattle.run_promise.specs.Parts.{PartsUphold}
use Rattle.run_promise.specs.Promise.{IsComposable, Promise, Upholds, UpholdsAlways}
use Rattle.run_promise.proofs.Members.{each-at}
use Rattle.run_promise.proofs.Upholding.{upheld-for_some, upheld-if, upheld-none, upholds-all, upholds-each, upholds-then}

module _ (IsOne : Member → Type 0) (promise : Promise) (composable : IsComposable promise)
    (parts : PartsUphold IsOne promise) where
  upheld-wake : (member : Member) → IsOne member → UpholdsAlways promise (λ cluster. wake_events cluster member)
  upheld-wake member is book cluster good =
      upheld-for_some promise composable book cluster (slice_get cluster.facts.processes member.id.number)
      (wake_events_if cluster member) good
      (λ process found. upheld-if promise composable book cluster
      (is_to_wake (moment_of cluster) process (standing_of cluster member)) (wake_events_of cluster member) []
      (λ wakes. parts.inputs.wakes book cluster member process good is found
      (and-first (may_act process) (has_work (moment_of cluster) (standing_of cluster member)) wakes))
      (λ rests. upheld-none promise composable book cluster good))

  upheld-turn : (member : Member) → IsOne member → UpholdsAlways promise (λ cluster. turn_events cluster member)
  upheld-turn member is book cluster good =
      upheld-for_some promise composable book cluster (slice_get cluster.facts.processes member.id.number)
      (turn_events_if cluster member) good
      (λ process found. upheld-if promise composable book cluster (may_act process) (wake_events_of cluster member) []
      (λ acts. parts.inputs.wakes book cluster member process good is found acts)
      (λ rests. upheld-none promise composable book cluster good))

  -- a request to the agent of a member, which may be replied to at once
  upheld-answered : (member : Member) (process : AgentProcess) (o : Outcome) (request : RequestText) (answer : Answered)
      → IsOne member → (book : List Event) (cluster : Cluster) → promise.between book cluster
      → slice_get cluster.facts.processes member.id.number ≡ Some process → may_act process ≡ true
      → standing_of cluster member ≡ Some o → answer_at (moment_of cluster) o request ≡ answer
      → Upholds promise book cluster (answered_events cluster member o answer)
  upheld-answered member process o request (Acts asked) is book cluster good found acts stands answers =
      parts.inputs.operates book cluster member process o request asked good is found acts stands answers
  upheld-answered member process o request (Replies reply) is book cluster good found acts stands answers =
      parts.notes (notes.Answered member reply.status reply.json reply.body) book cluster good

  upheld-request : (asker : Asker) (request : RequestText) (member : Member) → IsOne member
      → UpholdsAlways promise (λ cluster. request_events cluster asker request member)
  upheld-request asker request member is book cluster good =
      upheld-for_some promise composable book cluster (slice_get cluster.facts.processes member.id.number)
      (request_events_if cluster asker request member) good
      (λ process found. upheld-if promise composable book cluster (may_act process)
      (for_some (standing_of cluster member) (request_events_of cluster request member))
      (event_of cluster (kinds.Note (silence asker member)))
      (λ acts. upheld-for_some promise composable book cluster (standing_of cluster member)
      (request_events_of cluster request member) good
      (λ o stands. upheld-answered member process o request
      (answer_at (moment_of cluster) o request) is book cluster good found acts stands refl))
      (λ rests. parts.notes (silence asker member) book cluster good))

  -- what a connection brings
  upheld-visit : (visit : Visit) (member : Member) → IsOne member
      → UpholdsAlways promise (λ cluster. visit_events cluster visit member)
  upheld-visit (visits.Request request) member is = upheld-request askers.Connection (request_text request) member is
  upheld-visit (visits.Refusal refusal) member is = let reply : ReplyText = refusal_reply refusal in
      parts.notes (notes.Answered member reply.status reply.json reply.body)
  upheld-visit visits.Failure member is = parts.notes notes.ConnectionFailed

  -- a message comes to its receiver
  arrival-by : (book : List Event) (cluster : Cluster) (number : ℕ) (message : InFlightFacts) (to : LinkEnd)
      → promise.between book cluster → in_flight cluster.facts.flight number ≡ Some message
      → message.message.to ≡ to
      → delivery_of cluster.facts.cuts cluster.facts.processes message.message ≡ deliveries.Open
      → Upholds promise book cluster (arrival_events_at cluster number message to)
  arrival-by book cluster number message ends.Store good found to is =
      parts.arrivals book cluster number message good found to
  arrival-by book cluster number message (ends.Member member) good found to is =
      parts.inputs.hears book cluster number message member good found to is

  message-by : (book : List Event) (cluster : Cluster) (number : ℕ) (message : InFlightFacts) (delivery : Delivery)
      → promise.between book cluster → in_flight cluster.facts.flight number ≡ Some message
      → delivery_of cluster.facts.cuts cluster.facts.processes message.message ≡ delivery
      → Upholds promise book cluster (message_events_by cluster number message delivery)
  message-by book cluster number message deliveries.Open good found is =
      arrival-by book cluster number message message.message.to good found refl is
  message-by book cluster number message deliveries.Cut good found is = parts.losses number book cluster good
  message-by book cluster number message deliveries.Suspended good found is =
      upheld-none promise composable book cluster good
  message-by book cluster number message deliveries.Gone good found is = parts.losses number book cluster good

  upheld-message : (number : ℕ) → UpholdsAlways promise (λ cluster. message_events cluster number)
  upheld-message number book cluster good =
      upheld-for_some promise composable book cluster (in_flight cluster.facts.flight number) _ good
      (λ message found. message-by book cluster number message
      (delivery_of cluster.facts.cuts cluster.facts.processes message.message) good found refl)

  deliver-by : (book : List Event) (cluster : Cluster) (number : ℕ) (message : InFlightFacts) (delivery : Delivery)
      → promise.between book cluster → in_flight cluster.facts.flight number ≡ Some message
      → delivery_of cluster.facts.cuts cluster.facts.processes message.message ≡ delivery
      → Upholds promise book cluster (deliver_events_by cluster number message delivery)
  deliver-by book cluster number message deliveries.Open good found is =
      arrival-by book cluster number message message.message.to good found refl is
  deliver-by book cluster number message deliveries.Cut good found is =
      parts.notes (notes.Undeliverable number) book cluster good
  deliver-by book cluster number message deliveries.Suspended good found is =
      parts.notes (notes.Undeliverable number) book cluster good
  deliver-by book cluster number message deliveries.Gone good found is = parts.losses number book cluster good

  upheld-deliver : (book : List Event) (cluster : Cluster) (number : ℕ) (message : Option InFlightFacts)
      → promise.between book cluster → in_flight cluster.facts.flight number ≡ message
      → Upholds promise book cluster (deliver_events cluster number message)
  upheld-deliver book cluster number None good is = parts.notes (notes.NoMessage number) book cluster good
  upheld-deliver book cluster number (Some message) good is = deliver-by book cluster number message
      (delivery_of cluster.facts.cuts cluster.facts.processes message.message) good is refl

  upheld-lose : (number : ℕ) (message : Option InFlightFacts)
      → UpholdsAlways promise (λ cluster. lose_events cluster number message)
  upheld-lose number None book cluster good = parts.notes (notes.NoMessage number) book cluster good
  upheld-lose number (Some message) book cluster good = parts.losses number book cluster good

  -- a part for each member
  upheld-members : (part : Cluster → Member → List Event)
      → ((m : Member) → IsOne m → UpholdsAlways promise (λ cluster. part cluster m))
      → UpholdsAlways promise (λ cluster. each part cluster cluster.facts.members)
  upheld-members part all book cluster good =
      upholds-each promise composable part cluster.facts.members
      (each-at (λ m. UpholdsAlways promise (λ cluster. part cluster m)) cluster.facts.members
      (λ i m is. all m (parts.members book cluster good i m is)))
      book cluster good

  upholds-round : UpholdsAlways promise round_events
  upholds-round =
      upholds-then promise composable (λ cluster. each wake_events cluster cluster.facts.members)
      (λ later. each message_events later (keys_of later.facts.flight)) (upheld-members wake_events upheld-wake)
      (λ book cluster good.
      upholds-all promise composable message_events upheld-message (keys_of cluster.facts.flight) book cluster good)

  upholds-rounds : (count : ℕ) → UpholdsAlways promise (λ cluster. rounds_events cluster count)
  unfolding rounds_events
  upholds-rounds zero book cluster good = upheld-none promise composable book cluster good
  upholds-rounds (suc count) book cluster good =
      upheld-if promise composable book cluster (is_empty (round_events cluster)) [] _
      (λ none. upheld-none promise composable book cluster good)
      (λ some. upholds-then promise composable round_events (λ later. rounds_events later count) upholds-round
      (upholds-rounds count) book cluster good)

  upholds-receive : (member : Member) → UpholdsAlways promise (λ cluster. receive_events_of cluster member)
  upholds-receive member book cluster good =
      upheld-for_some promise composable book cluster (slice_get cluster.facts.frozen member.id.number) _ good
      (λ frozen is.
      upheld-if promise composable book cluster frozen [] (receive_events_at_most cluster all_entries member)
      (λ e. upheld-none promise composable book cluster good)
      (λ e. parts.receipts all_entries member book cluster good))

  upholds-scheduled : UpholdsAlways promise scheduled_events
  upholds-scheduled =
      upholds-then promise composable (λ cluster. each receive_events_of cluster cluster.facts.members)
      (λ later. rounds_events later most_rounds)
      (upheld-members receive_events_of (λ m is. upholds-receive m)) (upholds-rounds most_rounds)

  -- a line makes a request of the agent of a member
  upheld-asking : (id : MemberId) (asked : RequestText)
      → UpholdsAlways promise (λ cluster. asking_events cluster id asked)
  upheld-asking id asked book cluster good =
      upheld-for_some promise composable book cluster (declared cluster id)
      (request_events cluster askers.Line asked) good
      (λ m is. upheld-request askers.Line asked m (parts.members book cluster good id.number m is) book cluster good)

  -- what patronictl prints, and its request
  upheld-ctl : (told : CtlTold) → UpholdsAlways promise (λ cluster. ctl_events cluster told)
  upheld-ctl (Prints lines) =
      upholds-all promise composable ctl_line_events (λ line. parts.notes (notes.CtlLine line)) lines
  upheld-ctl (Asks id asked) = upheld-asking id asked

  upheld-command : (command : Command) → UpholdsAlways promise (λ cluster. command_events cluster command)
  upheld-command (commands.Turn id) book cluster good =
      upheld-for_some promise composable book cluster (declared cluster id) (turn_events cluster) good
      (λ m is. upheld-turn m (parts.members book cluster good id.number m is) book cluster good)
  upheld-command (commands.Deliver number) book cluster good =
      upheld-deliver book cluster number (in_flight cluster.facts.flight number) good refl
  upheld-command (commands.Lose number) book cluster good =
      upheld-lose number (in_flight cluster.facts.flight number) book cluster good
  upheld-command (commands.StartAgent id) book cluster good = parts.restarts id book cluster good
  upheld-command (commands.Promote id) book cluster good =
      upheld-for_some promise composable book cluster (declared cluster id) (promote_events cluster) good
      (λ m is. parts.promotions m (parts.members book cluster good id.number m is) book cluster good)
  upheld-command (commands.Rest id request) book cluster good =
      upheld-asking id (asked_in_words request) book cluster good
  upheld-command (commands.Ctl said) book cluster good = upheld-ctl (ctl_told_at cluster said) book cluster good
  upheld-command (commands.Stream id most) book cluster good =
      upheld-for_some promise composable book cluster (declared cluster id)
      (receive_events_at_most cluster most) good (λ m is. parts.receipts most m book cluster good)
  upheld-command command book cluster good = parts.commands command book cluster good

  upholds-step : (step : Step) → UpholdsAlways promise (λ cluster. step_events cluster step)
  upholds-step steps.Scheduled =
      upholds-then promise composable tick_events scheduled_events parts.ticks upholds-scheduled
  upholds-step steps.Tick = parts.ticks
  upholds-step (steps.Command command) = upheld-command command
  upholds-step (steps.Connection id visit) = λ book cluster good.
      upheld-for_some promise composable book cluster (declared cluster id) (visit_events cluster visit) good
      (λ m is. upheld-visit visit m (parts.members book cluster good id.number m is) book cluster good)

  pub upholds-next : (step : Step) → UpholdsAlways promise (λ cluster. next_events cluster step)
  upholds-next step =
      upholds-then promise composable (λ cluster. step_events cluster step)
      (λ later. each acknowledge_events later later.facts.members) (upholds-step step)
      (upheld-members acknowledge_events (λ m is. parts.acknowledgements m))

  pub upholds-run : (steps : List Step) → UpholdsAlways promise (λ cluster. run_events cluster steps)
  upholds-run [] book cluster good = upheld-none promise composable book cluster good
  upholds-run (step ∷ more) book cluster good =
      upholds-then promise composable (λ cluster. next_events cluster step) (λ later. run_events later more)
      (upholds-next step) (upholds-run more) book cluster good
