-- A steady leader stays so over each step of a run that leaves it alone, and so over the run.
use Rattle.std.proofs.Common.{Bool, List, None, Option, Some, [], ap, arith, cond, false, inl, length, nat_le, not, refl, slice_get, subst, suc, sym, true, ℕ, ◌==◌, ◌∙◌, ◌∷◌, ◌≡◌, ◌≤◌}
use Rattle.agent_model.specs.Agents.{AgentFacts, Outcome, RoleFacts}
use Rattle.agent_model.specs.declared.heard.Heard.TheVariants.{Wake}
use Rattle.agent_model.specs.declared.knowledge.Knowledge.{Knowledge}
use Rattle.cluster_model.specs.Cluster.{cluster_after, cluster_over}
use Rattle.cluster_model.specs.Commands.{kinds_of}
use Rattle.cluster_model.specs.Deliveries.{delivery_of}
use Rattle.cluster_model.specs.Inputs.{may_act, moment_of, standing_of}
use Rattle.cluster_model.specs.Machines.{points_of}
use Rattle.cluster_model.specs.Messages.{answered_events, arrival_events_at, deliver_events, deliver_events_by, lose_events, no_message, request_events, request_events_if, request_events_of, turn_events, turn_events_if, visit_events, wake_events_of}
use Rattle.cluster_model.specs.Next.{acknowledge_events, agent_start_events, asking_events, command_events, command_kind, ctl_events, ctl_line_events, ctl_told_at, declared, next_events, promote_events, receive_events_at_most, run_events, scheduled_events, step_events}
use Rattle.cluster_model.specs.Parts.{each, event_of, events_of, for_some}
use Rattle.cluster_model.specs.Requests.{answer_at, asked_in_words, silence}
use Rattle.cluster_model.specs.State.{Cluster}
use Rattle.cluster_model.specs.Ticking.{tick_events}
use Rattle.cluster_model.specs.declared.asker.Asker.TheVariants as askers
use Rattle.cluster_model.specs.declared.asker.Asker.{Asker}
use Rattle.cluster_model.specs.declared.delivery.Delivery.TheVariants as deliveries
use Rattle.cluster_model.specs.declared.delivery.Delivery.{Delivery}
use Rattle.cluster_model.specs.declared.step.Step.TheVariants as steps
use Rattle.cluster_model.specs.declared.step.Step.{Step}
use Rattle.cluster_model.specs.declared.step.Visit.TheVariants as visit_kinds
use Rattle.cluster_model.specs.declared.step.Visit.{Visit}
use Rattle.event_book.specs.Flight.{Flight, InFlightFacts, in_flight}
use Rattle.event_book.specs.declared.event.AgentEvent.TheVariants as agents
use Rattle.event_book.specs.declared.event.Event.{Event}
use Rattle.event_book.specs.declared.event.EventKind.TheVariants as kinds
use Rattle.event_book.specs.declared.event.Note.TheVariants as notes
use Rattle.event_book.specs.declared.member.Member.{Member}
use Rattle.leading_law.proofs.Inputs.{sleeps-on}
use Rattle.leading_law.proofs.Turns.{sleeps}
use Rattle.leading_parts.proofs.Parts.{command-beside, command-elsewhere, promotes-beside, promotes-elsewhere, starts-beside, starts-elsewhere}
use Rattle.leading_runs.proofs.Keeping.{Leaves, leader-same, options-over, phase-left, settings-same}
use Rattle.leading_runs.proofs.Own.{AreMild, input-serves}
use Rattle.leading_runs.proofs.Coming.{comes-by}
use Rattle.leading_runs.proofs.Stages.{Decides, Grants, IsDue, IsMail, Mail, OlderMail, OnlyMail, Reads, Renews, Seen, Shows, Sleeps, Stage, Stands, Syncs, Turns, mail_rank, rank_of}
use Rattle.leading_runs.proofs.Standing.{standing as standing-of}
use Rattle.leading_runs.proofs.Steps.{early-turn, goes-beside, keeps-acknowledges, keeps-loss, keeps-note, keeps-receive, wakes-other}
use Rattle.leading_runs.proofs.Ticking.{keeps-scheduled, keeps-ticks}
use Rattle.leading_runs.proofs.Waking.{same-as-member}
use Rattle.leading_runs.proofs.Walking.{Goes, Keeps, Leave, Within, goes-none, keeps-each, keeps-then}
use Rattle.leading_runs.specs.Schedule.{KeepSchedule, KeepsSchedule}
use Rattle.lease_owners.proofs.EveryRun.{commanded-owned, promoted-owned, started-owned, wake-owned}
use Rattle.lease_model.proofs.Tools.{and-first, eq-from, ne-from}
use Rattle.lease_owners.specs.Kept.{IsOwned}
use Rattle.pat_base.specs.declared.member_id.MemberId.{MemberId}
use Rattle.pat_base.specs.declared.member_id.TheConstants.{MOST_MEMBERS}
use Rattle.patronictl.specs.Answers.{Asks, CtlTold, Prints}
use Rattle.rest_answer.specs.Answers.{Acts, Answered, Replies}
use Rattle.rest_answer.specs.Refusals.{refusal_reply}
use Rattle.rest_message.specs.Replies.{ReplyText}
use Rattle.rest_message.specs.Requests.{RequestText, request_text}
use Rattle.run_promise.proofs.Members.{declared-now}
use Rattle.run_promise.specs.Members.{IsDeclared}
use Rattle.script_model.specs.Script.{HeadText, names_of}
use Rattle.script_model.specs.declared.line.Command.TheVariants as commands
use Rattle.script_model.specs.declared.line.Command.{Command}

module _ (head : HeadText) (few : length (names_of head) ≤ MOST_MEMBERS) (member : Member)
    (declared_is : IsDeclared head member) where
  abbrev N : ℕ
  N = member.id.number

  abbrev In : ℕ → Cluster → Type 0
  In rank = Within head member rank

  abbrev Kept : (Cluster → List Event) → Type 0
  Kept part = Keeps head member (In 0) (In 0) part

  goes-for_some : {X : Type 0} (found : Option X) (part : X → List Event) (cluster : Cluster)
      → IsOwned head cluster → In 0 cluster
      → ((x : X) → found ≡ Some x → Leave head member cluster (part x) →
      Goes head member (In 0) cluster (part x))
      → Leave head member cluster (for_some found part)
      → Goes head member (In 0) cluster (for_some found part)
  goes-for_some None part cluster good within each_is leave = goes-none head member (In 0) cluster good within
  goes-for_some (Some x) part cluster good within each_is leave = each_is x refl leave

  goes-if : (test : Bool) (xs ys : List Event) (cluster : Cluster)
      → (test ≡ true → Leave head member cluster xs → Goes head member (In 0) cluster xs)
      → (test ≡ false → Leave head member cluster ys → Goes head member (In 0) cluster ys)
      → Leave head member cluster (cond test xs ys) → Goes head member (In 0) cluster (cond test xs ys)
  goes-if true xs ys cluster first second leave = first refl leave
  goes-if false xs ys cluster first second leave = second refl leave

  -- at rank 0 it waits for no message
  rests : (seen : Seen) (stage : Stage member seen) → rank_of member seen stage ≤ 0 → (i : ℕ)
      → IsMail member seen stage i → ⊥
  rests seen (Sleeps waits later past) less i is = is
  rests seen (IsDue waits due) less i is = is
  rests seen (Turns number carried turn mail) less i is = by mail less
    where
      no-rank : (n : ℕ) → suc n ≤ 0 → ⊥
      no-rank n e = omega (arith, e)

      by : (mail : Mail member seen turn.waited carried) → mail_rank member seen turn.waited carried mail ≤ 0 → ⊥
      by (Reads asks last is_it) e = no-rank 5 e
      by (Shows asks last is_it shows sets failover) e = no-rank 4 e
      by (Renews asks sent span none info status row listed is_it) e = no-rank 3 e
      by (Grants asks sent span none txn request is_it grant sets lasts) e = no-rank 2 e
      by (Syncs settling asks past txn writes is_it) e = no-rank 1 e
      by (Decides settling asks past txn writes request decision is_it granted grant sets) e = no-rank 0 e

  -- ---- a message is delivered or lost by a line
  arrives : (j : ℕ) (carried : InFlightFacts) (cluster : Cluster) → IsOwned head cluster
      → In 0 cluster → in_flight cluster.facts.flight j ≡ Some carried
      → delivery_of cluster.facts.cuts cluster.facts.processes carried.message ≡ deliveries.Open
      → Leave head member cluster (arrival_events_at cluster j carried carried.message.to)
      → Goes head member (In 0) cluster (arrival_events_at cluster j carried carried.message.to)
  arrives j carried cluster good within flies free leave =
      let phase = within.1 in
      let goes = comes-by head few member declared_is 0 within.0 cluster good phase j carried flies
      (rests phase.seen phase.stage phase.ranked j) carried.message.to refl free leave in
      record { good = goes.good; within = (within.0, goes.within); serves = goes.serves }

  delivers-by : (j : ℕ) (carried : InFlightFacts) (cluster : Cluster) → IsOwned head cluster
      → In 0 cluster → in_flight cluster.facts.flight j ≡ Some carried → (delivery : Delivery)
      → delivery_of cluster.facts.cuts cluster.facts.processes carried.message ≡ delivery
      → Leave head member cluster (deliver_events_by cluster j carried delivery)
      → Goes head member (In 0) cluster (deliver_events_by cluster j carried delivery)
  delivers-by j carried cluster good within flies deliveries.Open is leave =
      arrives j carried cluster good within flies is leave
  delivers-by j carried cluster good within flies deliveries.Cut is leave =
      keeps-note head few member 0 (notes.Undeliverable j) cluster good within leave
  delivers-by j carried cluster good within flies deliveries.Suspended is leave =
      keeps-note head few member 0 (notes.Undeliverable j) cluster good within leave
  delivers-by j carried cluster good within flies deliveries.Gone is leave =
      keeps-loss head few member 0 j cluster good within leave

  delivers : (j : ℕ) (cluster : Cluster) → IsOwned head cluster → In 0 cluster
      → (found : Option InFlightFacts) → in_flight cluster.facts.flight j ≡ found
      → Leave head member cluster (deliver_events cluster j found)
      → Goes head member (In 0) cluster (deliver_events cluster j found)
  delivers j cluster good within None is leave =
      keeps-note head few member 0 (notes.NoMessage j) cluster good within leave
  delivers j cluster good within (Some carried) is leave = delivers-by j carried cluster good within is
      (delivery_of cluster.facts.cuts cluster.facts.processes carried.message) refl leave

  loses : (j : ℕ) (found : Option InFlightFacts) → Kept (λ cluster. lose_events cluster j found)
  loses j None cluster good within leave =
      keeps-note head few member 0 (notes.NoMessage j) cluster good within leave
  loses j (Some carried) cluster good within leave =
      keeps-loss head few member 0 j cluster good within leave

  -- ---- an agent is woken by a line
  turns-own : (cluster : Cluster) → IsOwned head cluster → (seen : Seen)
      → Stands member seen cluster → (stage : Stage member seen) → rank_of member seen stage ≤ 0
      → OnlyMail member seen stage cluster.facts.flight → OlderMail member seen stage cluster.facts.flight
      → Leave head member cluster (wake_events_of cluster member)
      → Goes head member (In 0) cluster (wake_events_of cluster member)
  turns-own cluster good seen stands (IsDue waits due) less only older leave = absurd (seven less)
    where
      seven : 7 ≤ 0 → ⊥
      seven e = omega (arith, e)
  turns-own cluster good seen stands (Turns number carried turn mail) less only older leave =
      absurd (rests seen (Turns number carried turn mail) less number refl)
  turns-own cluster good seen stands (Sleeps waits later past) less only older leave =
      let here = standing-of head cluster member seen good stands in
      let o : Outcome = here.o in
      let after : Cluster = cluster_over cluster (wake_events_of cluster member) in
      let none : o.knows.waited ≡ None = ap (λ (k : Knowledge). k.waited) here.knows ∙ waits in
      let early : nat_le o.knows.next_turn.0 cluster.facts.clock ≡ false =
      ap (λ (k : Knowledge). nat_le k.next_turn.0 cluster.facts.clock) here.knows
      ∙ ap (nat_le seen.agent.knows.next_turn.0) stands.clock_is
      ∙ early-turn head few member seen.clock seen.agent.knows.next_turn.0 later in
      let rest = sleeps-on member cluster seen.process o stands.process_is here.stands here.leads none early in
      let then = wake-owned head few cluster member declared_is good in
      let same : (i : ℕ) → in_flight after.facts.flight i ≡ in_flight cluster.facts.flight i =
      λ i. ap (λ (f : Flight). in_flight f i) rest.silent.flight in
      let leaves : Leaves member cluster after = record {
        clock = rest.untouched.clock;
        agent = rest.agent
            ∙ ap (λ (r : RoleFacts). let one : AgentFacts = record { role = r; knows = o.knows } in Some one) here.role
            ∙ ap (λ (k : Knowledge). let one : AgentFacts = record { role = seen.agent.role; knows = k } in Some one)
            here.knows
            ∙ sym stands.agent_is;
        process = ap (λ xs. slice_get xs N) rest.untouched.processes;
        deadline = rest.guards.deadline;
        state = rest.untouched.state;
        members = rest.untouched.members;
        options = options-over cluster (wake_events_of cluster member);
        leader = leader-same cluster after rest.untouched.keys;
        settings = settings-same cluster after rest.untouched.keys;
      } in
      record {
        good = then;
        within = (
          0,
          phase-left head member 0 0 cluster after (record {
            seen = seen;
            stands = stands;
            stage = Sleeps waits later past;
            numbered = refl;
            ranked = less;
            flying = tt;
            only = only;
            older = older;
          }) then leaves tt (λ i one found. inl (sym (same i) ∙ found)),
        );
        serves = (
          tt,
          input-serves N member no_message cluster (cluster_after cluster (kinds.Agent (agents.Woken member))) Wake o
              here.stands
              (subst AreMild
              (sym (ap (λ (x : Outcome). x.outputs)
              (sleeps (moment_of cluster) (points_of cluster member) o here.leads none early)
              ∙ here.nothing)) tt),
        );
      }

  turns-by : (m : Member) → IsDeclared head m → Kept (λ cluster. wake_events_of cluster m)
  turns-by m is cluster good within leave = by (N == m.id.number) refl
    where
      by : (here : Bool) → (N == m.id.number) ≡ here → Goes head member (In 0) cluster (wake_events_of cluster m)
      by false apart = wakes-other head few member 0 m (ne-from N m.id.number apart) is cluster good within leave
      by true at =
          let phase = within.1 in
          subst (λ (x : Member). Leave head member cluster (wake_events_of cluster x) →
          Goes head member (In 0) cluster (wake_events_of cluster x))
          (sym (same-as-member head few member declared_is m is (eq-from N m.id.number at)))
          (turns-own cluster good phase.seen phase.stands phase.stage phase.ranked phase.only phase.older) leave

  turns : (m : Member) → IsDeclared head m → Kept (λ cluster. turn_events cluster m)
  turns m is cluster good within leave =
      goes-for_some (slice_get cluster.facts.processes m.id.number) (turn_events_if cluster m) cluster good within
      (λ process found. goes-if (may_act process) (wake_events_of cluster m) [] cluster
      (λ acts. turns-by m is cluster good within)
      (λ idle left. goes-none head member (In 0) cluster good within)) leave

  -- ---- requests: a reply is told, and what operates is forbidden
  answers : (m : Member) (o : Outcome) (answer : Answered) → Kept (λ cluster. answered_events cluster m o answer)
  answers m o (Acts asked) cluster good within leave = absurd leave.0
  answers m o (Replies reply) cluster good within leave =
      keeps-note head few member 0 (notes.Answered m reply.status reply.json reply.body) cluster good within leave

  requests : (asker : Asker) (request : RequestText) (m : Member)
      → Kept (λ cluster. request_events cluster asker request m)
  requests asker request m cluster good within leave =
      goes-for_some (slice_get cluster.facts.processes m.id.number) (request_events_if cluster asker request m)
      cluster good within
      (λ process found. goes-if (may_act process)
      (for_some (standing_of cluster m) (request_events_of cluster request m))
      (event_of cluster (kinds.Note (silence asker m))) cluster
      (λ acts left. goes-for_some (standing_of cluster m) (request_events_of cluster request m) cluster good within
      (λ o stands. answers m o (answer_at (moment_of cluster) o request) cluster good within) left)
      (λ idle left. keeps-note head few member 0 (silence asker m) cluster good within left)) leave

  visits : (visit : Visit) (m : Member) → Kept (λ cluster. visit_events cluster visit m)
  visits (visit_kinds.Request request) m = requests askers.Connection (request_text request) m
  visits (visit_kinds.Refusal refusal) m = let reply : ReplyText = refusal_reply refusal in
      keeps-note head few member 0 (notes.Answered m reply.status reply.json reply.body)
  visits visit_kinds.Failure m = keeps-note head few member 0 notes.ConnectionFailed

  asks : (id : MemberId) (asked : RequestText) → Kept (λ cluster. asking_events cluster id asked)
  asks id asked cluster good within leave =
      goes-for_some (declared cluster id) (request_events cluster askers.Line asked) cluster good within
      (λ m is. requests askers.Line asked m cluster good within) leave

  tells : (told : CtlTold) → Kept (λ cluster. ctl_events cluster told)
  tells (Prints lines) = keeps-each head member (In 0) ctl_line_events
      (λ line. keeps-note head few member 0 (notes.CtlLine line)) lines
  tells (Asks id asked) = asks id asked

  -- ---- agents that start, promotions by hand, and the other commands
  starts : (m : Member) → Kept (λ cluster. agent_start_events cluster m)
  starts m cluster good within leave =
      let phase = within.1 in
      goes-beside head few member 0 cluster (agent_start_events cluster m) good within leave
      (started-owned head cluster (Some m) good)
      (starts-elsewhere N cluster m phase.seen.process phase.stands.process_is
      (and-first phase.seen.process.running (not phase.seen.process.suspended) phase.stands.acts))
      (λ last low. starts-beside N last cluster m)

  command : (line : Command) → Kept (λ cluster. command_events cluster line)
  command (commands.Turn id) cluster good within leave =
      goes-for_some (declared cluster id) (turn_events cluster) cluster good within
      (λ m is. turns m (declared-now head few cluster good.members id m is) cluster good within) leave
  command (commands.Deliver number) cluster good within leave =
      delivers number cluster good within (in_flight cluster.facts.flight number) refl leave
  command (commands.Lose number) cluster good within leave =
      loses number (in_flight cluster.facts.flight number) cluster good within leave
  command (commands.StartAgent id) cluster good within leave =
      goes-for_some (declared cluster id) (agent_start_events cluster) cluster good within
      (λ m is. starts m cluster good within) leave
  command (commands.Promote id) cluster good within leave =
      goes-for_some (declared cluster id) (promote_events cluster) cluster good within
      (λ m is left. goes-beside head few member 0 cluster (promote_events cluster m) good within left
      (promoted-owned head cluster m good) (promotes-elsewhere N cluster m within.1.stands.primary)
      (λ last low. promotes-beside N last cluster m)) leave
  command (commands.Rest id request) cluster good within leave =
      asks id (asked_in_words request) cluster good within leave
  command (commands.Ctl said) cluster good within leave =
      tells (ctl_told_at cluster said) cluster good within leave
  command (commands.Stream id most) cluster good within leave =
      goes-for_some (declared cluster id) (receive_events_at_most cluster most) cluster good within
      (λ m is. keeps-receive head few member 0 most m cluster good within) leave
  command line cluster good within leave =
      goes-beside head few member 0 cluster (events_of cluster (kinds_of (command_kind cluster line))) good within
      leave (commanded-owned head cluster line good) (command-elsewhere N cluster line leave)
      (λ last low. command-beside N last cluster line)

  -- ---- each step, and each run
  step : (one : Step) → KeepsSchedule one → Kept (λ cluster. step_events cluster one)
  step steps.Scheduled keeps =
      keeps-then head member (In 0) (In 7) (In 0) tick_events scheduled_events
      (keeps-ticks head few member declared_is) (keeps-scheduled head few member declared_is)
  step steps.Tick keeps = absurd keeps
  step (steps.Command line) keeps = command line
  step (steps.Connection id visit) keeps = λ cluster good within leave.
      goes-for_some (declared cluster id) (visit_events cluster visit) cluster good within
      (λ m is. visits visit m cluster good within) leave

  acknowledges : Kept (λ cluster. each acknowledge_events cluster cluster.facts.members)
  acknowledges cluster good within leave =
      keeps-each head member (In 0) acknowledge_events (keeps-acknowledges head few member 0) cluster.facts.members
      cluster good within leave

  next : (one : Step) → KeepsSchedule one → Kept (λ cluster. next_events cluster one)
  next one keeps =
      keeps-then head member (In 0) (In 0) (In 0) (λ c. step_events c one)
      (λ later. each acknowledge_events later later.facts.members) (step one keeps) acknowledges

  pub run : (list : List Step) → KeepSchedule list → Kept (λ cluster. run_events cluster list)
  run [] keep cluster good within leave = goes-none head member (In 0) cluster good within
  run (one ∷ more) keep cluster good within leave =
      keeps-then head member (In 0) (In 0) (In 0) (λ c. next_events c one) (λ later. run_events later more)
      (next one keep.0) (run more keep.1) cluster good within leave
