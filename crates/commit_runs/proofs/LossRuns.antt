-- Each run tells the first loss of an acknowledged commit behind the event that brings it.
use Rattle.std.proofs.Common.{◌≡◌, ◌≤◌, ◌++◌, ◌||◌, Bool, true, false, if◌then◌else◌, List, [], length, slice_get, Option, Some, None, option_and_then, refl, sym}
use Rattle.std.proofs.lemmas.List.{length-replicate}
use Rattle.pat_base.specs.declared.server_state.State.{State}
use Rattle.pat_base.specs.declared.server_state.State.TheVariants as states
use Rattle.pat_base.specs.ServerState.{live}
use Rattle.store_keys.specs.declared.action.OperatorAction.{OperatorAction}
use Rattle.pg_model.specs.Facts.{ServerFacts, is_creating, fresh}
use Rattle.pg_model.specs.Running.{stopped}
use Rattle.cluster_model.specs.declared.step.Step.{Step}
use Rattle.script_model.specs.Script.{HeadText, IsHead, names_of}
use Rattle.event_book.specs.declared.event.AgentEvent.TheVariants.{Operated, Woken}
use Rattle.event_book.specs.declared.event.Event.{Event}
use Rattle.event_book.specs.declared.event.EventKind.{EventKind}
use Rattle.event_book.specs.declared.event.EventKind.TheVariants as kinds
use Rattle.event_book.specs.declared.event.LogEvent.TheVariants as logs
use Rattle.event_book.specs.declared.event.MessageEvent.TheVariants.{Delivered}
use Rattle.event_book.specs.declared.event.ServerEvent.TheVariants as servers
use Rattle.event_book.specs.declared.member.Member.{Member}
use Rattle.event_book.specs.Members.{server_of}
use Rattle.agent_model.specs.declared.heard.Heard.TheVariants.{Operated as HearsOperator, Wake}
use Rattle.agent_model.specs.declared.output.Output.{Output}
use Rattle.agent_model.specs.declared.output.Output.TheVariants as outputs
use Rattle.agent_model.specs.declared.output.ServerOrder.TheVariants as orders
use Rattle.agent_model.specs.Agents.{Outcome}
use Rattle.agent_model.specs.declared.output.ServerOrder.{ServerOrder}
use Rattle.cluster_model.specs.declared.beginning.Beginning.{Beginning}
use Rattle.cluster_model.specs.declared.beginning.Beginning.TheVariants as beginnings
use Rattle.cluster_model.specs.declared.heard_message.HeardMessage.{HeardMessage}
use Rattle.cluster_model.specs.Beginnings.{again_by, beginning_of, kinds_by, server_restart_in}
use Rattle.cluster_model.specs.Cluster.{cluster_after}
use Rattle.cluster_model.specs.Commands.{kinds_of}
use Rattle.cluster_model.specs.Hearing.{heard_from}
use Rattle.cluster_model.specs.Inputs.{outcome_of, outcome_of_heard, outputs_of}
use Rattle.cluster_model.specs.Messages.{heard_message, input_events, no_message, output_events, feeding_kinds, order_events, telling_kind}
use Rattle.cluster_model.specs.Next.{run_events}
use Rattle.cluster_model.specs.Orders.{repair_over, server_at, wipe_of}
use Rattle.cluster_model.specs.Parts.{event_of, events_of}
use Rattle.cluster_model.specs.Starting.{cluster_of}
use Rattle.cluster_model.specs.Requests.{action_of}
use Rattle.cluster_model.specs.State.{Cluster}
use Rattle.commit_servers.specs.Happening.{MayFollow}
use Rattle.commit_servers.proofs.Matching.{same-first}
use Rattle.commit_servers.proofs.Repairing.{repair-follow}
use Rattle.run_promise.specs.Members.{IsDeclared}
use Rattle.run_promise.specs.Parts.{PartsUphold}
use Rattle.run_promise.specs.Promise.{Upholds, UpholdsAlways}
use Rattle.lease_model.proofs.Tools.{both}
use Rattle.cluster_model.proofs.Founds.{repaired-holds}
use Rattle.lease_inputs.proofs.InputStays.{item-here}
use Rattle.cluster_model.proofs.Lists.{HoldsIf, all-kinds}
use Rattle.cluster_model.proofs.Outputs.{HoldsOfOrder, LetsBegin, LetsRepair, feeding-holds, kind-holds, message-holds, noting-holds, order-holds, required-holds, telling-holds}
use Rattle.run_promise.proofs.Upholding.{upheld-for_some, upheld-none, upheld-then, upholds-all}
use Rattle.run_promise.proofs.Walking.{upholds-run}
use Rattle.summary_model.specs.Telling.{TellLosses}
use Rattle.commit_runs.specs.Runs.{first_logs}
use Rattle.run_promise.proofs.Members.{few-names, declared-in}
use Rattle.commit_runs.proofs.Losses.{LosesNone, TellsSoFar, composable, losses_told, upheld-loseless}
use Rattle.commit_runs.proofs.LossGroups.{IsRepair, upheld-acknowledge, upheld-begun, upheld-repair}
use Rattle.commit_runs.proofs.LossParts.{upheld-arrival, upholds-command, upholds-promote, upholds-receive, upholds-restart, upholds-tick}
use Rattle.pat_base.specs.declared.member_id.TheConstants.{MOST_MEMBERS}

not-or : (a b : Bool) → (a || b) ≡ false → b ≡ false
not-or true b e = absurd (both (sym e))
not-or false b e = e

-- ---- the orders of agents
-- none loses a commit that neither lets a server begin nor changes its log
orders-none : (member : Member) (order : ServerOrder) → (LetsBegin order → ⊥) → (LetsRepair order → ⊥)
    → HoldsOfOrder LosesNone member order
orders-none member order never stays = record {
  begins = λ is timeline. never is;
  lacks = λ is. never is;
  starts_as_primary = λ is. tt;
  starts_as_replica = tt;
  follows = λ leader. tt;
  says = λ reason. tt;
  ends = λ is. tt;
  stops = λ is. tt;
  wiped = λ is. stays is;
  rewound = λ is leader r. stays is;
  copied = λ is leader. stays is;
}

module _ (head : HeadText) where
  begins-upheld : (book : List Event) (cluster : Cluster) (member : Member) (s : ServerFacts) (found : Option Beginning)
      → TellsSoFar head book cluster → slice_get cluster.facts.servers member.id.number ≡ Some s
      → Upholds (losses_told head) book cluster
      (events_of cluster (kinds_by member cluster.facts.acknowledged s.log found))
  begins-upheld book cluster member s None good is = upheld-none (losses_told head) (composable head) book cluster good
  begins-upheld book cluster member s (Some (beginnings.AtOnce timeline)) good is =
      upheld-begun head book cluster good member timeline s is
  begins-upheld book cluster member s (Some beginnings.WithItsStart) good is =
      upheld-loseless head book cluster _ good (tt, tt)

  repaired-upheld : (book : List Event) (cluster : Cluster) (found : Option EventKind) → TellsSoFar head book cluster
      → HoldsIf IsRepair found → MayFollow cluster.facts (events_of cluster (kinds_of found))
      → Upholds (losses_told head) book cluster (events_of cluster (kinds_of found))
  repaired-upheld book cluster None good is may = upheld-none (losses_told head) (composable head) book cluster good
  repaired-upheld book cluster (Some kind) good is may = upheld-repair head book cluster kind good is may.0

  -- a server that is wiped accepts no writes
  wiped-by : (book : List Event) (cluster : Cluster) (member : Member) (s : ServerFacts) (test : Bool)
      → TellsSoFar head book cluster → slice_get cluster.facts.servers member.id.number ≡ Some s
      → (is_creating s.state || live s.state) ≡ test
      → Upholds (losses_told head) book cluster
      (events_of cluster (kinds_of (if test then None else Some (kinds.Log (logs.Wiped (server_of member))))))
  wiped-by book cluster member s true good is stays = upheld-none (losses_told head) (composable head) book cluster good
  wiped-by book cluster member s false good is goes =
      upheld-then (losses_told head) (composable head) book cluster
      (event_of cluster (kinds.Log (logs.Wiped (server_of member)))) []
      (upheld-repair head book cluster (kinds.Log (logs.Wiped (server_of member))) good tt
      (record { server = s; is = is; not_live = not-or (is_creating s.state) (live s.state) goes }))
      (λ later. upheld-none (losses_told head) (composable head) _ _ later)

  wiped-upheld : (book : List Event) (cluster : Cluster) (member : Member) (found : Option ServerFacts)
      → TellsSoFar head book cluster → slice_get cluster.facts.servers member.id.number ≡ found
      → Upholds (losses_told head) book cluster (events_of cluster (kinds_of (option_and_then (wipe_of member) found)))
  wiped-upheld book cluster member None good is = upheld-none (losses_told head) (composable head) book cluster good
  wiped-upheld book cluster member (Some s) good is =
      wiped-by book cluster member s (is_creating s.state || live s.state) good is refl

  -- a server that starts again tells what it lacks as one that begins does
  again-upheld : (book : List Event) (cluster : Cluster) (member : Member) (s : ServerFacts) (state : State)
      → TellsSoFar head book cluster → slice_get cluster.facts.servers member.id.number ≡ Some s
      → Upholds (losses_told head) book cluster
      (events_of cluster (server_restart_in member cluster.facts.acknowledged state s))
  again-upheld book cluster member s states.Primary good is =
      let ends : EventKind = kinds.Server (servers.Ended (server_of member)) in
      let found : Option Beginning = Some (again_by s.timeline s.start_delay) in
      upheld-then (losses_told head) (composable head) book cluster (event_of cluster ends)
      (events_of (cluster_after cluster ends) (kinds_by member cluster.facts.acknowledged s.log found))
      (upheld-loseless head book cluster _ good (tt, tt))
      (λ later. begins-upheld (book ++ event_of cluster ends) (cluster_after cluster ends) member
      (stopped s) found later (item-here cluster.facts.servers member.id.number stopped s is))
  again-upheld book cluster member s states.Replica good is = upheld-loseless head book cluster _ good (tt, tt)
  again-upheld book cluster member s _ good is = upheld-none (losses_told head) (composable head) book cluster good

  -- an order, and any output
  upholds-mild : (member : Member) (book : List Event) (cluster : Cluster) (order : ServerOrder)
      → (LetsBegin order → ⊥) → (LetsRepair order → ⊥) → TellsSoFar head book cluster
      → Upholds (losses_told head) book cluster (order_events cluster member order)
  upholds-mild member book cluster order never stays good = upheld-loseless head book cluster _ good
      (order-holds LosesNone cluster member order (orders-none member order never stays))

  upholds-order : (member : Member) (book : List Event) (cluster : Cluster) (order : ServerOrder)
      → TellsSoFar head book cluster → Upholds (losses_told head) book cluster (order_events cluster member order)
  upholds-order member book cluster orders.Begin good =
      upheld-for_some (losses_told head) (composable head) book cluster (server_at cluster member) _ good
      (λ s is. begins-upheld book cluster member s (beginning_of s) good is)
  upholds-order member book cluster (orders.Restart as_primary) good =
      upheld-for_some (losses_told head) (composable head) book cluster (server_at cluster member) _ good
      (λ s is. again-upheld book cluster member s s.state good is)
  upholds-order member book cluster orders.Wipe good =
      wiped-upheld book cluster member (server_at cluster member) good refl
  upholds-order member book cluster (orders.Repair leader repair) good =
      let found = slice_get cluster.facts.members leader.number in
      repaired-upheld book cluster
      (option_and_then (repair_over cluster.facts.cuts cluster.facts.servers member repair) found) good
      (repaired-holds IsRepair cluster.facts.cuts cluster.facts.servers member repair found (λ other r. tt)
      (λ other. tt))
      (repair-follow cluster member repair found)
  upholds-order member book cluster order good = upholds-mild member book cluster order (λ is. is) (λ is. is) good

  upholds-output : (member : Member) (heard : HeardMessage) (output : Output)
      → UpholdsAlways (losses_told head) (λ cluster. output_events member heard cluster output)
  upholds-output member heard (outputs.Server order) book cluster good = upholds-order member book cluster order good
  upholds-output member heard (outputs.Message written) book cluster good =
      upheld-loseless head book cluster _ good
      (message-holds LosesNone cluster member
      (record { sent = λ target to found incarnation sequence body. tt; lost = tt }) written)
  upholds-output member heard (outputs.Watchdog fed) book cluster good =
      upheld-loseless head book cluster _ good
      (all-kinds LosesNone cluster (feeding_kinds member heard fed)
      (feeding-holds LosesNone cluster member heard (record {
        measured = λ since. tt;
        armed = λ until answer. tt;
        fed = λ until basis. tt;
        disarmed = tt;
      }) fed))
  upholds-output member heard (outputs.Require required) book cluster good =
      upheld-loseless head book cluster _ good (required-holds LosesNone cluster member required tt)
  upholds-output member heard (outputs.Tell telling) book cluster good =
      upheld-loseless head book cluster _ good
      (kind-holds LosesNone cluster member (telling_kind cluster member heard telling)
      (telling-holds LosesNone cluster member heard telling (record {
        answers = λ is reply. tt;
        holds = λ until incarnation sequence from. tt;
        passes = λ is. tt;
      })))
  upholds-output member heard (outputs.Note noting) book cluster good =
      upheld-loseless head book cluster _ good
      (noting-holds LosesNone cluster member (λ note noted. tt) noting, tt)

  -- what an agent does behind an event
  input-upheld : (book : List Event) (cluster : Cluster) (kind : EventKind) (member : Member)
      (heard : HeardMessage) (outcome : Option Outcome) → TellsSoFar head book cluster → LosesNone kind
      → Upholds (losses_told head) book cluster
      (event_of cluster kind ++ input_events (cluster_after cluster kind) member heard outcome)
  input-upheld book cluster kind member heard outcome good none =
      upheld-then (losses_told head) (composable head) book cluster (event_of cluster kind)
      (input_events (cluster_after cluster kind) member heard outcome)
      (upheld-loseless head book cluster _ good (none, tt))
      (upholds-all (losses_told head) (composable head) (output_events member heard) (upholds-output member heard)
      (outputs_of outcome) (book ++ event_of cluster kind) (cluster_after cluster kind))

  parts : length (names_of head) ≤ MOST_MEMBERS → PartsUphold (IsDeclared head) (losses_told head)
  parts few = record {
    members = λ book cluster good. declared-in head few cluster good.members;
    inputs = record {
      wakes = λ book cluster member process good is found acts. input-upheld book cluster
          (kinds.Agent (Woken member)) member no_message (outcome_of cluster member Wake) good tt;
      hears = λ book cluster number message member good found to through.
          input-upheld book cluster (kinds.Message (Delivered number)) member (heard_message number message)
          (outcome_of_heard cluster member (heard_from cluster message)) good tt;
      operates = λ book cluster member process o request asked good is found acts stands answers.
          let action : OperatorAction = action_of o asked in
          input-upheld book cluster (kinds.Agent (Operated member action)) member no_message
          (outcome_of cluster member (HearsOperator action)) good tt;
    };
    arrivals = λ book cluster number message good found to. upheld-arrival head book cluster number message good;
    losses = λ number book cluster good. upheld-loseless head book cluster _ good (tt, tt);
    notes = λ note book cluster good. upheld-loseless head book cluster _ good (tt, tt);
    ticks = upholds-tick head;
    receipts = upholds-receive head;
    acknowledgements = upheld-acknowledge head few;
    restarts = upholds-restart head;
    promotions = λ member is. upholds-promote head member;
    commands = upholds-command head;
  }

  tells-first : TellsSoFar head [] (cluster_of head)
  tells-first = record {
    told = tt;
    same = same-first head.config (names_of head) head.base;
    members = refl;
    sized = length-replicate (length (names_of head)) (fresh head.base);
  }

  pub runs-tell : IsHead head → (steps : List Step)
      → TellLosses (first_logs head) [] (run_events (cluster_of head) steps)
  runs-tell is steps =
      ((upholds-run (IsDeclared head) (losses_told head) (composable head)
      (parts (few-names head is)) steps [] (cluster_of head) tells-first).behind
      tt).told
