-- The machine of a member behind what an input of its agent brings.
use Rattle.std.proofs.Common.{◌≡◌, ◌+◌, ◌==◌, ◌&&◌, ◌||◌, nat_le, ℕ, Bool, true, false, if◌then◌else◌, List, [], ◌∷◌, Option, Some, None, length, slice_get, option_and_then, option_map, refl, sym, subst, ap, ◌∙◌}
use Rattle.pat_base.specs.declared.member_id.MemberId.{MemberId}
use Rattle.pat_base.specs.declared.server_id.ServerId.{ServerId}
use Rattle.pat_base.specs.declared.server_state.Required.{Required}
use Rattle.pat_base.specs.declared.server_state.State.{State}
use Rattle.pat_base.specs.declared.server_state.State.TheVariants as states
use Rattle.pat_base.specs.declared.ticks.Ticks.{Ticks}
use Rattle.pat_base.specs.ServerState.{live}
use Rattle.pg_model.specs.Facts.{ServerFacts, entries_of, is_creating, is_down, is_replica, is_up}
use Rattle.pg_model.specs.declared.status.ServerStatus.{ServerStatus}
use Rattle.pg_model.specs.Running.{is_primary, moment_after, stopped}
use Rattle.pg_model.specs.Status.{status_replica_started, status_stopping, status_following, status_restarted, status_wiped}
use Rattle.event_book.specs.declared.agent_process.AgentProcess.{AgentProcess}
use Rattle.event_book.specs.declared.event.AgentEvent.TheVariants as agents
use Rattle.event_book.specs.declared.event.EventKind.{EventKind}
use Rattle.event_book.specs.declared.event.EventKind.TheVariants as kinds
use Rattle.event_book.specs.declared.event.LogEvent.{LogEvent}
use Rattle.event_book.specs.declared.event.LogEvent.TheVariants as logs
use Rattle.event_book.specs.declared.event.MessageEvent.TheVariants.{Sent, Lost}
use Rattle.event_book.specs.declared.event.ReplicationEvent.TheVariants as replications
use Rattle.event_book.specs.declared.event.ServerEvent.TheVariants as servers
use Rattle.event_book.specs.declared.event.WatchdogEvent.TheVariants as watchdogs
use Rattle.event_book.specs.declared.event.Note.TheVariants as notes
use Rattle.event_book.specs.declared.member.Member.{Member}
use Rattle.event_book.specs.declared.message.Body.{Body}
use Rattle.event_book.specs.declared.message.Body.TheVariants as bodies
use Rattle.event_book.specs.declared.message.Message.{Message}
use Rattle.event_book.specs.declared.link.LinkEnd.{LinkEnd}
use Rattle.event_book.specs.declared.reason.Basis.TheVariants as bases
use Rattle.event_book.specs.declared.reason.Reason.{Reason}
use Rattle.event_book.specs.Members.{server_of, server_id_of}
use Rattle.event_book.specs.Servers.{begun_in, loses_log, starts_as_primary, starts_as_replica, stops, servers_by_log}
use Rattle.event_book.specs.Watchdogs.{prolonged_to}
use Rattle.event_book.proofs.Parts.{logged-kept}
use Rattle.agent_model.specs.declared.machine.Machine.{Machine}
use Rattle.agent_model.specs.declared.output.Output.{Output}
use Rattle.agent_model.specs.declared.output.Output.TheVariants as outputs
use Rattle.agent_model.specs.declared.output.Feeding.TheVariants as feedings
use Rattle.agent_model.specs.declared.output.Outgoing.TheVariants as outgoing
use Rattle.agent_model.specs.declared.output.ServerOrder.TheVariants as orders
use Rattle.agent_model.specs.declared.output.Telling.TheVariants as tellings
use Rattle.agent_model.specs.declared.output.Repair.{Repair}
use Rattle.agent_model.specs.declared.output.Target.TheVariants as targets
use Rattle.agent_model.specs.Acting.{status_begun, upstream_of as upstream_id}
use Rattle.agent_outputs.specs.Orders.{IsOfTable, machine_after_output, with_server}
use Rattle.cluster_model.specs.declared.beginning.Beginning.TheVariants as beginnings
use Rattle.cluster_model.specs.declared.heard_message.HeardMessage.{HeardMessage}
use Rattle.cluster_model.specs.Cluster.{cluster_after, cluster_over}
use Rattle.cluster_model.specs.Beginnings.{beginning_in, begin_kinds, kinds_by, server_restart_in, server_restart_kinds}
use Rattle.cluster_model.specs.Commands.{kinds_of}
use Rattle.cluster_model.specs.Inputs.{agent_at}
use Rattle.cluster_model.specs.Limits.{most_in_flight}
use Rattle.cluster_model.specs.Messages.{agent_message, lost_at_once, send_events, sending_events, replying_events, receiver_of, output_events, noting_kind}
use Rattle.wal_model.specs.Lacking.{lacks_in}
use Rattle.cluster_model.specs.Losing.{loss_if}
use Rattle.cluster_model.specs.Orders.{declared_member, following_of, is_same_required, replica_start_kinds, require_of, required_names, server_at, stop_kind, stop_kinds, upstream_of, repair_over, hold_taken, stop_of, wipe_of}
use Rattle.cluster_model.specs.Parts.{events_of, for_some}
use Rattle.cluster_model.specs.Requests.{told_kind}
use Rattle.cluster_model.specs.State.{Cluster}
use Rattle.cluster_model.proofs.Founds.{repaired-holds, told-holds}
use Rattle.cluster_model.proofs.Lists.{HoldsIf}
use Rattle.cluster_model.proofs.Outputs.{noting-holds}
use Rattle.lease_model.proofs.Tools.{none-some}
use Rattle.lease_parts.proofs.Quiet.{live-kept}
use Rattle.lease_parts.specs.Machines.{live_in, live_now}
use Rattle.lease_inputs.proofs.InputStays.{item-here}
use Rattle.lease_inputs.proofs.InputServers.{Mirrors, Seen, begun-seen, ended-by, facts-replica-started, facts-wiped, facts_seen, moves, ordered, replica-again-seen, seen_again, seen_begins, seen_begun, seen_ending, seen_replica_started, seen_restarted, seen_starting, seen_stopping, seen_wiped, slowly-started, status-begun-seen, status-following, status-replica-started, status-restarted, status-stopping, status-wiped, status_seen, stays-server, stops-seen, unmoved, unwiped}

-- a hold is taken for one of these members
abbrev pub IsHeldFor : List Member → Output → Type 0
IsHeldFor members (outputs.Tell (tellings.HoldTaken until from sequence)) =
    (peer : Member) × (slice_get members from.number ≡ Some peer)
IsHeldFor members _ = Unit {0}

-- no log is repaired by this output
abbrev pub RepairsNone : Output → Type 0
RepairsNone (outputs.Server (orders.Repair leader repair)) = ⊥
RepairsNone _ = Unit {0}

-- the member's machine, of which the server may have been repaired: it is live as the machine's is
pub record Resembles (cluster : Cluster) (m : ℕ) (machine : Machine) : Type 0 where
  pub lives : live_in cluster.facts.servers m ≡ live machine.server.state
  pub deadline : slice_get cluster.facts.deadlines m ≡ Some machine.watchdog.deadline
  pub hold : slice_get cluster.facts.holds m ≡ Some machine.hold

pub mirrored : (cluster : Cluster) (m : ℕ) (machine : Machine) → Mirrors cluster m machine → Resembles cluster m machine
mirrored cluster m machine mirrors = record {
  lives = ap live_now mirrors.server.is ∙ ap (λ (x : Seen). live x.state) mirrors.server.seen_is;
  deadline = mirrors.deadline;
  hold = mirrors.hold;
}

-- a change of a log leaves who is live
logged-resembles : (cluster : Cluster) (m : ℕ) (machine : Machine) (happening : LogEvent)
    → Resembles cluster m machine → Resembles (cluster_after cluster (kinds.Log happening)) m machine
logged-resembles cluster m machine happening old = record {
  lives =
      live-kept cluster.facts.servers (servers_by_log cluster.facts.servers cluster.facts.remote happening) m
      (logged-kept (λ s. live s.state) (λ s t live writes required confirmed. live) cluster.facts.servers
      cluster.facts.remote happening)
      ∙ old.lives;
  deadline = old.deadline;
  hold = old.hold;
}

abbrev IsOfLog : EventKind → Type 0
IsOfLog (kinds.Log happening) = Unit {0}
IsOfLog _ = ⊥

one-resembles : (cluster : Cluster) (m : ℕ) (machine : Machine) (kind : EventKind) → IsOfLog kind
    → Resembles cluster m machine → Resembles (cluster_after cluster kind) m machine
one-resembles cluster m machine (kinds.Log happening) is old = logged-resembles cluster m machine happening old
one-resembles cluster m machine _ is old = absurd is

may-resemble : (cluster : Cluster) (m : ℕ) (machine : Machine) (kind : Option EventKind) → HoldsIf IsOfLog kind
    → Resembles cluster m machine → Resembles (cluster_over cluster (events_of cluster (kinds_of kind))) m machine
may-resemble cluster m machine None is old = old
may-resemble cluster m machine (Some kind) is old = one-resembles cluster m machine kind is old

-- a repair too
pub repair-resembles : (cluster : Cluster) (member : Member) (message : HeardMessage) (machine : Machine)
    (leader : MemberId) (repair : Repair) → Resembles cluster member.id.number machine
    → Resembles (cluster_over cluster
    (output_events member message cluster (outputs.Server (orders.Repair leader repair))))
    member.id.number machine
repair-resembles cluster member message machine leader repair old =
    may-resemble cluster member.id.number machine
    (option_and_then (repair_over cluster.facts.cuts cluster.facts.servers member repair)
    (slice_get cluster.facts.members leader.number))
    (repaired-holds IsOfLog cluster.facts.cuts cluster.facts.servers member repair
    (slice_get cluster.facts.members leader.number) (λ other r. tt) (λ other. tt))
    old

abbrev IsOfNote : EventKind → Type 0
IsOfNote (kinds.Note note) = Unit {0}
IsOfNote _ = ⊥

-- ---- the machine behind each output
module _ (member : Member) where
  abbrev Here : Cluster → Machine → Type 0
  Here cluster machine = Mirrors cluster member.id.number machine

  abbrev Behind : Cluster → List EventKind → Cluster
  Behind cluster list = cluster_over cluster (events_of cluster list)

  -- that a commit is lacking changes nothing
  loss-here : (cluster : Cluster) (machine : Machine) (test : Bool) → Here cluster machine
      → Here (Behind cluster (kinds_of (loss_if member test))) machine
  loss-here cluster machine true old =
      unmoved cluster (cluster_after cluster (kinds.Replication (replications.Lacks (server_of member))))
      member.id.number machine refl refl refl old
  loss-here cluster machine false old = old

  -- it ends at once
  abbrev Ends : Cluster → Cluster
  Ends cluster = cluster_after cluster (kinds.Server (servers.Ended (server_of member)))

  abbrev down-status : Machine → ServerStatus
  down-status machine = record machine.server { state = states.Stopped }

  ended-here : (cluster : Cluster) (machine : Machine) → Here cluster machine
      → Here (Ends cluster) (with_server (down-status machine) machine)
  ended-here cluster machine old =
      let x = status_seen machine.server in
      ordered cluster (Ends cluster) member.id.number machine (down-status machine)
      (record x { state = states.Stopped }) refl refl refl
      (moves cluster (Ends cluster) member.id.number stopped x (record x { state = states.Stopped }) refl
      (λ s seen. ap (λ (y : Seen). let z : Seen = record y { state = states.Stopped } in z) seen) old.server)
      old

  -- it begins at once
  at-once : (cluster : Cluster) (machine : Machine) (after : ServerStatus) (timeline : ℕ) (test : Bool)
      (s : ServerFacts) → slice_get cluster.facts.servers member.id.number ≡ Some s
      → status_seen after ≡ seen_begun (facts_seen s)
      → Here cluster machine
      → Here (Behind cluster
      (kinds.Server (servers.Began (server_of member) timeline) ∷ kinds_of (loss_if member test)))
      (with_server after machine)
  at-once cluster machine after timeline test s is e old =
      let later = cluster_after cluster (kinds.Server (servers.Began (server_of member) timeline)) in
      loss-here later (with_server after machine) test
      (ordered cluster later member.id.number machine after (seen_begun (facts_seen s)) refl refl e
      (record {
        server = begun_in s.state s;
        is = item-here cluster.facts.servers member.id.number (λ s. begun_in s.state s) s is;
        seen_is = begun-seen s.state s;
      }) old)

  -- or when its start is complete
  with-start : (cluster : Cluster) (machine : Machine) (after : ServerStatus) (s : ServerFacts)
      → slice_get cluster.facts.servers member.id.number ≡ Some s → is_down s.state ≡ true
      → (s.start_delay.0 == 0) ≡ false
      → status_seen after ≡ seen_starting true (record { 0 = cluster.facts.clock }) (facts_seen s)
      → Here cluster machine
      → Here (cluster_after cluster (kinds.Server (servers.StartsAsPrimary (server_of member))))
      (with_server after machine)
  with-start cluster machine after s is down slow e old =
      let later = cluster_after cluster (kinds.Server (servers.StartsAsPrimary (server_of member))) in
      ordered cluster later member.id.number machine after
      (seen_starting true (record { 0 = cluster.facts.clock }) (facts_seen s)) refl refl e
      (record {
        server = starts_as_primary cluster.facts.clock s;
        is = item-here cluster.facts.servers member.id.number (starts_as_primary cluster.facts.clock) s is;
        seen_is = slowly-started cluster.facts.clock s false slow down refl;
      }) old

  -- nothing comes of it
  no-start : (cluster : Cluster) (machine : Machine) (after : ServerStatus) (s : ServerFacts)
      → slice_get cluster.facts.servers member.id.number ≡ Some s → status_seen after ≡ facts_seen s
      → Here cluster machine → Here cluster (with_server after machine)
  no-start cluster machine after s is e old = ordered cluster cluster member.id.number machine after
      (facts_seen s) refl refl e (record { server = s; is = is; seen_is = refl }) old

  again-here : (cluster : Cluster) (machine : Machine) (after : ServerStatus) (s : ServerFacts) (was z : Bool)
      → slice_get cluster.facts.servers member.id.number ≡ Some s → is_down s.state ≡ true
      → s.was_primary ≡ was → (s.start_delay.0 == 0) ≡ z
      → status_seen after ≡ seen_again (record { 0 = cluster.facts.clock }) (facts_seen s) → Here cluster machine
      → Here (Behind cluster
      (kinds_by member cluster.facts.acknowledged s.log
      (if was then Some (if z then beginnings.AtOnce s.timeline else beginnings.WithItsStart) else None)))
      (with_server after machine)
  again-here cluster machine after s false z is down was zero e old =
      no-start cluster machine after s is (e ∙ ap (λ (b : Bool). if b then seen_starting true (record {
        0 = cluster.facts.clock;
      }) (facts_seen s) else facts_seen s) was) old
  again-here cluster machine after s true true is down was zero e old =
      at-once cluster machine after s.timeline (lacks_in (entries_of s.log) cluster.facts.acknowledged) s is
      (e ∙ ap (λ (b : Bool). if b then seen_starting true (record {
        0 = cluster.facts.clock;
      }) (facts_seen s) else facts_seen s) was
      ∙ ap (λ (b : Bool). if b then seen_begun (facts_seen s)
      else record (facts_seen s) {
        state = states.Starting true (moment_after (record {
          0 = cluster.facts.clock;
        }) s.start_delay);
      }) zero) old
  again-here cluster machine after s true false is down was zero e old =
      with-start cluster machine after s is down zero
      (e ∙ ap (λ (b : Bool). if b then seen_starting true (record {
        0 = cluster.facts.clock;
      }) (facts_seen s) else facts_seen s) was) old

  begin-by : (cluster : Cluster) (machine : Machine) (after : ServerStatus) (s : ServerFacts) (state : State)
      → slice_get cluster.facts.servers member.id.number ≡ Some s → s.state ≡ state
      → status_seen after ≡ seen_begins (record { 0 = cluster.facts.clock }) state (facts_seen s) → Here cluster machine
      → Here (Behind cluster (kinds_by member cluster.facts.acknowledged s.log (beginning_in state s)))
      (with_server after machine)
  begin-by cluster machine after s states.Replica is here e old =
      at-once cluster machine after (s.timeline + 1) (lacks_in (entries_of s.log) cluster.facts.acknowledged) s is e old
  begin-by cluster machine after s states.Stopped is here e old =
      again-here cluster machine after s s.was_primary (s.start_delay.0 == 0) is (ap is_down here) refl refl e old
  begin-by cluster machine after s states.Crashed is here e old =
      again-here cluster machine after s s.was_primary (s.start_delay.0 == 0) is (ap is_down here) refl refl e old
  begin-by cluster machine after s _ is here e old = no-start cluster machine after s is e old

  begin-here : (cluster : Cluster) (machine : Machine) → Here cluster machine
      → Here (cluster_over cluster
      (for_some (server_at cluster member) (λ s. events_of cluster (begin_kinds member cluster.facts.acknowledged s))))
      (with_server (status_begun (record { 0 = cluster.facts.clock }) machine.server) machine)
  begin-here cluster machine old =
      let s = old.server.server in
      let now : Ticks = record { 0 = cluster.facts.clock } in
      let after = status_begun now machine.server in
      subst (λ (found : Option ServerFacts). Here
      (cluster_over cluster (for_some found (λ s. events_of cluster (begin_kinds member cluster.facts.acknowledged s))))
      (with_server after machine))
      (sym old.server.is)
      (begin-by cluster machine after s s.state old.server.is refl
      (status-begun-seen now machine.server ∙ ap (λ (x : Seen). seen_begins now x.state x) (sym old.server.seen_is))
      old)

  -- a primary ends and starts again: at once, or when its start is complete
  ended-again : (cluster : Cluster) (machine : Machine) (after : ServerStatus) (s : ServerFacts) (z : Bool)
      → slice_get cluster.facts.servers member.id.number ≡ Some s → (s.start_delay.0 == 0) ≡ z
      → status_seen after ≡ seen_starting true (record { 0 = cluster.facts.clock }) (facts_seen s)
      → Here cluster machine
      → Here (Behind cluster
      (kinds.Server (servers.Ended (server_of member)) ∷ kinds_by member cluster.facts.acknowledged s.log
      (Some (if z then beginnings.AtOnce s.timeline else beginnings.WithItsStart))))
      (with_server after machine)
  ended-again cluster machine after s true is zero e old =
      at-once (Ends cluster) (with_server (down-status machine) machine) after s.timeline
      (lacks_in (entries_of s.log) cluster.facts.acknowledged) (stopped s)
      (item-here cluster.facts.servers member.id.number stopped s is)
      (e
      ∙ ap (λ (b : Bool). if b then seen_begun (facts_seen s)
      else record (facts_seen s) {
        state = states.Starting true (moment_after (record {
          0 = cluster.facts.clock;
        }) s.start_delay);
      }) zero) (ended-here cluster machine old)
  ended-again cluster machine after s false is zero e old =
      with-start (Ends cluster) (with_server (down-status machine) machine) after (stopped s)
      (item-here cluster.facts.servers member.id.number stopped s is) refl zero e (ended-here cluster machine old)

  -- a replica starts again
  replica-again : (cluster : Cluster) (machine : Machine) (after : ServerStatus) (s : ServerFacts)
      → slice_get cluster.facts.servers member.id.number ≡ Some s → s.state ≡ states.Replica
      → status_seen after ≡ seen_restarted (record { 0 = cluster.facts.clock }) states.Replica (facts_seen s)
      → Here cluster machine
      → Here (cluster_after cluster (kinds.Server (servers.StartsAsReplica (server_of member))))
      (with_server after machine)
  replica-again cluster machine after s is here e old =
      let later = cluster_after cluster (kinds.Server (servers.StartsAsReplica (server_of member))) in
      ordered cluster later member.id.number machine after
      (seen_restarted (record { 0 = cluster.facts.clock }) states.Replica (facts_seen s)) refl refl e
      (record {
        server = starts_as_replica cluster.facts.clock s;
        is = item-here cluster.facts.servers member.id.number (starts_as_replica cluster.facts.clock) s is;
        seen_is = replica-again-seen cluster.facts.clock s here;
      }) old

  again-by : (cluster : Cluster) (machine : Machine) (after : ServerStatus) (s : ServerFacts) (state : State)
      → slice_get cluster.facts.servers member.id.number ≡ Some s → s.state ≡ state
      → status_seen after ≡ seen_restarted (record { 0 = cluster.facts.clock }) state (facts_seen s)
      → Here cluster machine
      → Here (Behind cluster (server_restart_in member cluster.facts.acknowledged state s)) (with_server after machine)
  again-by cluster machine after s states.Primary is here e old =
      ended-again cluster machine after s (s.start_delay.0 == 0) is refl e old
  again-by cluster machine after s states.Replica is here e old = replica-again cluster machine after s is here e old
  again-by cluster machine after s _ is here e old = no-start cluster machine after s is e old

  restart-here : (cluster : Cluster) (machine : Machine) → Here cluster machine
      → Here (cluster_over cluster
      (for_some (server_at cluster member)
      (λ s. events_of cluster (server_restart_kinds member cluster.facts.acknowledged s))))
      (with_server (status_restarted (record { 0 = cluster.facts.clock }) machine.server) machine)
  restart-here cluster machine old =
      let s = old.server.server in
      let now : Ticks = record { 0 = cluster.facts.clock } in
      let after = status_restarted now machine.server in
      subst (λ (found : Option ServerFacts).
      Here (cluster_over cluster
      (for_some found (λ s. events_of cluster (server_restart_kinds member cluster.facts.acknowledged s))))
      (with_server after machine))
      (sym old.server.is)
      (again-by cluster machine after s s.state old.server.is refl
      (status-restarted now machine.server.state machine.server
      ∙ ap (λ (x : Seen). seen_restarted now x.state x) (sym old.server.seen_is))
      old)

  -- it is wiped, or isn't
  wipe-by : (cluster : Cluster) (machine : Machine) (b : Bool)
      → (is_creating machine.server.state || live machine.server.state) ≡ b → Here cluster machine
      → Here (Behind cluster (kinds_of (if b then None else Some (kinds.Log (logs.Wiped (server_of member))))))
      (with_server (status_wiped machine.server) machine)
  wipe-by cluster machine true stays old =
      let x = status_seen machine.server in
      ordered cluster cluster member.id.number machine (status_wiped machine.server) x refl refl
      (status-wiped machine.server ∙ unwiped machine.server.state machine.server.was_primary
      machine.server.stop_delay machine.server.start_delay stays)
      old.server old
  wipe-by cluster machine false stays old =
      let x = status_seen machine.server in
      let later = cluster_after cluster (kinds.Log (logs.Wiped (server_of member))) in
      ordered cluster later member.id.number machine (status_wiped machine.server) (seen_wiped x) refl refl
      (status-wiped machine.server)
      (moves cluster later member.id.number loses_log x (seen_wiped x) refl
      (λ s seen. facts-wiped s ∙ ap seen_wiped seen) old.server)
      old

  wipe-here : (cluster : Cluster) (machine : Machine) → Here cluster machine
      → Here (Behind cluster (kinds_of (option_and_then (wipe_of member) (server_at cluster member))))
      (with_server (status_wiped machine.server) machine)
  wipe-here cluster machine old =
      let s = old.server.server in
      subst (λ (found : Option ServerFacts). Here (Behind cluster (kinds_of (option_and_then (wipe_of member) found)))
      (with_server (status_wiped machine.server) machine))
      (sym old.server.is)
      (wipe-by cluster machine (is_creating s.state || live s.state)
      (ap (λ (x : Seen). is_creating x.state || live x.state) (sym old.server.seen_is)) old)

  -- what is noted changes nothing
  note-here : (cluster : Cluster) (machine : Machine) (found : Option EventKind) → HoldsIf IsOfNote found
      → Here cluster machine → Here (Behind cluster (kinds_of found)) machine
  note-here cluster machine None is old = old
  note-here cluster machine (Some (kinds.Note note)) is old =
      unmoved cluster (cluster_after cluster (kinds.Note note)) member.id.number machine refl refl refl old
  note-here cluster machine (Some _) is old = absurd is

  -- it follows another one, or doesn't
  follows-here : (cluster : Cluster) (machine : Machine) (leader : Option Member) → Here cluster machine
      → Here (Behind cluster (kinds_of (following_of member leader))) machine
  follows-here cluster machine None old = old
  follows-here cluster machine (Some leader) old =
      let later = cluster_after cluster (kinds.Server (servers.Follows (server_of member) (server_of leader))) in
      record {
        server = moves cluster later member.id.number _ (status_seen machine.server)
            (status_seen machine.server) refl (λ s seen. seen) old.server;
        deadline = old.deadline;
        hold = old.hold;
      }

  follow-by : (cluster : Cluster) (machine : Machine) (leader : Option Member) (b : Bool) → Here cluster machine
      → Here (Behind cluster (kinds_of (if b then following_of member leader else None))) machine
  follow-by cluster machine leader true old = follows-here cluster machine leader old
  follow-by cluster machine leader false old = old

  follow-here : (cluster : Cluster) (machine : Machine) (upstream : ServerId) (leader : Option Member)
      → Here cluster machine
      → Here (Behind cluster (kinds_of (option_and_then (upstream_of member leader) (server_at cluster member))))
      (with_server (status_following upstream machine.server) machine)
  follow-here cluster machine upstream leader old =
      let s = old.server.server in
      let with-it : Here cluster (with_server (status_following upstream machine.server) machine) =
      ordered cluster cluster member.id.number machine (status_following upstream machine.server)
      (status_seen machine.server) refl refl (status-following upstream machine.server) old.server old in
      subst (λ (found : Option ServerFacts).
      Here (Behind cluster (kinds_of (option_and_then (upstream_of member leader) found)))
      (with_server (status_following upstream machine.server) machine))
      (sym old.server.is)
      (follow-by cluster (with_server (status_following upstream machine.server) machine) leader
      (is_replica s.state) with-it)

  require-by : (cluster : Cluster) (machine : Machine) (required : Required) (names : List _) (b : Bool)
      → Here cluster machine
      → Here (Behind cluster
      (kinds_of (if b then None
      else Some (kinds.Replication (replications.RequiredSet (server_of member) required names)))))
      machine
  require-by cluster machine required names true old = old
  require-by cluster machine required names false old =
      let later =
      cluster_after cluster (kinds.Replication (replications.RequiredSet (server_of member) required names)) in
      record {
        server = moves cluster later member.id.number _ (status_seen machine.server)
            (status_seen machine.server) refl (λ s seen. seen) old.server;
        deadline = old.deadline;
        hold = old.hold;
      }

  require-here : (cluster : Cluster) (machine : Machine) (required : Required) → Here cluster machine
      → Here (Behind cluster
      (kinds_of (option_and_then (require_of cluster.facts.members member required) (server_at cluster member))))
      machine
  require-here cluster machine required old =
      let s = old.server.server in
      subst (λ (found : Option ServerFacts). Here
      (Behind cluster (kinds_of (option_and_then (require_of cluster.facts.members member required) found))) machine)
      (sym old.server.is)
      (require-by cluster machine required (required_names cluster.facts.members required)
      (is_same_required s.required required) old)

  -- it starts as a replica, where it is down
  start-by : (cluster : Cluster) (machine : Machine) (upstream : Option ServerId) (leader : Option Member) (b : Bool)
      → is_down machine.server.state ≡ b → Here cluster machine
      → Here (Behind cluster
      (if b then kinds.Server (servers.StartsAsReplica (server_of member)) ∷ kinds_of (following_of member leader)
      else []))
      (with_server (status_replica_started (record { 0 = cluster.facts.clock }) upstream machine.server) machine)
  start-by cluster machine upstream leader true down old =
      let now : Ticks = record { 0 = cluster.facts.clock } in
      let after = status_replica_started now upstream machine.server in
      let later = cluster_after cluster (kinds.Server (servers.StartsAsReplica (server_of member))) in
      let x = seen_replica_started now (status_seen machine.server) in
      follows-here later (with_server after machine) leader
      (ordered cluster later member.id.number machine after x refl refl
      (status-replica-started now upstream machine.server)
      (moves cluster later member.id.number (starts_as_replica cluster.facts.clock) (status_seen machine.server) x refl
      (λ s seen. facts-replica-started cluster.facts.clock s (ap (λ (x : Seen). is_down x.state) seen ∙ down)
      ∙ ap (seen_replica_started now) seen)
      old.server)
      old)
  start-by cluster machine upstream leader false down old =
      let now : Ticks = record { 0 = cluster.facts.clock } in
      ordered cluster cluster member.id.number machine (status_replica_started now upstream machine.server)
      (status_seen machine.server) refl refl
      (status-replica-started now upstream machine.server
      ∙ ap (λ (b : Bool). if b
      then seen_starting false now (record (status_seen machine.server) { was_primary = false })
      else status_seen machine.server)
      down)
      old.server old

  start-here : (cluster : Cluster) (machine : Machine) (upstream : Option ServerId) (leader : Option Member)
      → Here cluster machine
      → Here (cluster_over cluster
      (for_some (server_at cluster member) (λ s. events_of cluster (replica_start_kinds member leader s))))
      (with_server (status_replica_started (record { 0 = cluster.facts.clock }) upstream machine.server) machine)
  start-here cluster machine upstream leader old =
      let s = old.server.server in
      subst (λ (found : Option ServerFacts).
      Here (cluster_over cluster (for_some found (λ s. events_of cluster (replica_start_kinds member leader s))))
      (with_server (status_replica_started (record { 0 = cluster.facts.clock }) upstream machine.server) machine))
      (sym old.server.is)
      (start-by cluster machine upstream leader (is_down s.state)
      (ap (λ (x : Seen). is_down x.state) (sym old.server.seen_is)) old)

  -- it shuts down, where it runs or starts
  stop-kind : (cluster : Cluster) (machine : Machine) (b : Bool) → is_up machine.server.state ≡ true
      → (is_primary machine.server.state && machine.server.stop_delay.0 == 0) ≡ b → Here cluster machine
      → Here (cluster_after cluster
      (if b then kinds.Server (servers.Ended (server_of member)) else kinds.Server (servers.Stops (server_of member))))
      (with_server (status_stopping (record { 0 = cluster.facts.clock }) machine.server) machine)
  stop-kind cluster machine true up is old =
      let now : Ticks = record { 0 = cluster.facts.clock } in
      let later = cluster_after cluster (kinds.Server (servers.Ended (server_of member))) in
      let x = status_seen machine.server in
      ordered cluster later member.id.number machine (status_stopping now machine.server)
      (record x { state = states.Stopped }) refl refl
      (status-stopping now machine.server
      ∙ sym (ended-by now x (is_up machine.server.state) (is_primary machine.server.state)
      (machine.server.stop_delay.0 == 0) up is))
      (moves cluster later member.id.number _ x (record x { state = states.Stopped }) refl
      (λ s seen. ap (λ (y : Seen). let z : Seen = record y { state = states.Stopped } in z) seen) old.server)
      old
  stop-kind cluster machine false up is old =
      let now : Ticks = record { 0 = cluster.facts.clock } in
      let later = cluster_after cluster (kinds.Server (servers.Stops (server_of member))) in
      let x = status_seen machine.server in
      ordered cluster later member.id.number machine (status_stopping now machine.server)
      (seen_stopping now x) refl refl (status-stopping now machine.server)
      (moves cluster later member.id.number (stops cluster.facts.clock) x (seen_stopping now x) refl
      (λ s seen. stops-seen cluster.facts.clock s (ap (λ (y : Seen). is_primary y.state && y.stop.0 == 0) seen ∙ is)
      ∙ ap (seen_stopping now) seen)
      old.server)
      old

  stop-by : (cluster : Cluster) (machine : Machine) (s : ServerFacts) (b : Bool)
      → facts_seen s ≡ status_seen machine.server → is_up machine.server.state ≡ b → Here cluster machine
      → Here (Behind cluster (kinds_of (if b then Some (stop_kind member s.state s.stop_delay) else None)))
      (with_server (status_stopping (record { 0 = cluster.facts.clock }) machine.server) machine)
  stop-by cluster machine s true seen up old =
      stop-kind cluster machine (is_primary s.state && s.stop_delay.0 == 0) up
      (ap (λ (y : Seen). is_primary y.state && y.stop.0 == 0) (sym seen)) old
  stop-by cluster machine s false seen up old =
      let now : Ticks = record { 0 = cluster.facts.clock } in
      ordered cluster cluster member.id.number machine (status_stopping now machine.server)
      (status_seen machine.server) refl refl
      (status-stopping now machine.server
      ∙ ap (λ (b : Bool). if b then seen_ending now (is_primary machine.server.state) (status_seen machine.server)
      else status_seen machine.server)
      up)
      old.server old

  noted : (cluster : Cluster) (machine : Machine) (reason : Reason) → Here cluster machine
      → Here (cluster_after cluster (kinds.Note (notes.EndsServer member reason))) machine
  noted cluster machine reason old = record {
    server = stays-server cluster (cluster_after cluster (kinds.Note (notes.EndsServer member reason))) member.id.number
        (status_seen machine.server) refl old.server;
    deadline = old.deadline;
    hold = old.hold;
  }

  stop-here : (cluster : Cluster) (machine : Machine) (reason : Reason) → Here cluster machine
      → Here (cluster_over cluster
      (for_some (server_at cluster member) (λ s. events_of cluster (stop_kinds member reason s))))
      (with_server (status_stopping (record { 0 = cluster.facts.clock }) machine.server) machine)
  stop-here cluster machine reason old =
      let s = old.server.server in
      subst (λ (found : Option ServerFacts).
      Here (cluster_over cluster (for_some found (λ s. events_of cluster (stop_kinds member reason s))))
      (with_server (status_stopping (record { 0 = cluster.facts.clock }) machine.server) machine))
      (sym old.server.is)
      (stop-by (cluster_after cluster (kinds.Note (notes.EndsServer member reason))) machine s (is_up s.state)
      old.server.seen_is (ap (λ (x : Seen). is_up x.state) (sym old.server.seen_is)) (noted cluster machine reason old))

  lost-here : (cluster : Cluster) (machine : Machine) (test : Bool) (number : ℕ) → Here cluster machine
      → Here (Behind cluster (lost_at_once test number)) machine
  lost-here cluster machine true number old =
      unmoved cluster (cluster_after cluster (kinds.Message (Lost number))) member.id.number machine refl refl refl old
  lost-here cluster machine false number old = old

  message-here : (cluster : Cluster) (machine : Machine) (message : Message) → Here cluster machine
      → Here (cluster_over cluster (send_events cluster message)) machine
  message-here cluster machine message old =
      let sent : EventKind = kinds.Message (Sent (cluster.facts.sent + 1) message) in
      lost-here (cluster_after cluster sent) machine (nat_le most_in_flight (length cluster.facts.flight))
      (cluster.facts.sent + 1)
      (unmoved cluster (cluster_after cluster sent) member.id.number machine refl refl refl old)

  sends-here : (cluster : Cluster) (machine : Machine) (to : Option LinkEnd) (sequence : ℕ) (body : Body)
      (found : Option AgentProcess) → Here cluster machine
      → Here (cluster_over cluster (sending_events cluster member found to sequence body)) machine
  sends-here cluster machine to sequence body None old = old
  sends-here cluster machine None sequence body (Some process) old = old
  sends-here cluster machine (Some to) sequence body (Some process) old =
      message-here cluster machine (agent_message member to process.incarnation sequence body) old

  replies-here : (cluster : Cluster) (machine : Machine) (to : Option LinkEnd) (asked sequence : ℕ) (body : Body)
      → Here cluster machine
      → Here (cluster_over cluster (replying_events cluster member to asked sequence body)) machine
  replies-here cluster machine None asked sequence body old = old
  replies-here cluster machine (Some to) asked sequence body old =
      message-here cluster machine (agent_message member to asked sequence body) old

  -- it shuts down without a word
  shut-here : (cluster : Cluster) (machine : Machine) → Here cluster machine
      → Here (Behind cluster (kinds_of (option_and_then (stop_of member) (server_at cluster member))))
      (with_server (status_stopping (record { 0 = cluster.facts.clock }) machine.server) machine)
  shut-here cluster machine old =
      let s = old.server.server in
      subst (λ (found : Option ServerFacts). Here (Behind cluster (kinds_of (option_and_then (stop_of member) found)))
      (with_server (status_stopping (record { 0 = cluster.facts.clock }) machine.server) machine))
      (sym old.server.is)
      (stop-by cluster machine s (is_up s.state) old.server.seen_is
      (ap (λ (x : Seen). is_up x.state) (sym old.server.seen_is)) old)

  holds-here : (cluster : Cluster) (message : HeardMessage) (machine : Machine) (until : Ticks) (sequence : ℕ)
      (peer : Member) (found : Option Member) → found ≡ Some peer → Here cluster machine
      → Here (Behind cluster (kinds_of (option_map (hold_taken member until message.incarnation sequence) found)))
      (record machine { hold = prolonged_to until machine.hold })
  holds-here cluster message machine until sequence peer None is old = absurd (none-some peer is)
  holds-here cluster message machine until sequence peer (Some one) is old = record {
    server = stays-server cluster
        (cluster_after cluster (kinds.Watchdog (watchdogs.HoldTaken member until one message.incarnation sequence)))
        member.id.number (status_seen machine.server) refl old.server;
    deadline = old.deadline;
    hold = item-here cluster.facts.holds member.id.number (prolonged_to until) machine.hold old.hold;
  }

  pub output-here : (cluster : Cluster) (message : HeardMessage) (machine : Machine) (output : Output)
      → IsOfTable output → RepairsNone output → IsHeldFor cluster.facts.members output → Here cluster machine
      → Here (cluster_over cluster (output_events member message cluster output))
      (machine_after_output (record { 0 = cluster.facts.clock }) machine output)
  output-here cluster message machine (outputs.Server (orders.Repair leader repair)) table none held old = absurd none
  output-here cluster message machine (outputs.Server orders.ShutDown) table none held old =
      shut-here cluster machine old
  output-here cluster message machine (outputs.Message (outgoing.Send to sequence body)) table none held old =
      sends-here cluster machine
      (receiver_of cluster.facts.members to) sequence body (slice_get cluster.facts.processes member.id.number) old
  output-here cluster message machine (outputs.Message (outgoing.Answer to asked sequence answer)) table none held old =
      replies-here cluster machine (receiver_of cluster.facts.members (targets.Member to)) asked sequence
      (bodies.Answer answer) old
  output-here cluster message machine (outputs.Server orders.Begin) table none held old = begin-here cluster machine old
  output-here cluster message machine (outputs.Server (orders.StartReplica leader)) table none held old =
      start-here cluster machine (upstream_id leader) (declared_member cluster.facts.members leader) old
  output-here cluster message machine (outputs.Server (orders.Stop reason)) table none held old =
      stop-here cluster machine reason old
  output-here cluster message machine (outputs.Server (orders.Follow leader)) table none held old =
      follow-here cluster machine (server_id_of leader) (slice_get cluster.facts.members leader.number) old
  output-here cluster message machine (outputs.Require required) table none held old =
      let here : Here (cluster_over cluster (output_events member message cluster (outputs.Require required))) machine =
      require-here cluster machine required old in
      record { server = here.server; deadline = here.deadline; hold = here.hold }
  output-here cluster message machine (outputs.Watchdog (feedings.Armed until)) table none held old = record {
    server = stays-server cluster
        (cluster_after (cluster_after cluster (kinds.Watchdog (watchdogs.Measured member message.sent)))
        (kinds.Watchdog (watchdogs.Armed member until message.number)))
        member.id.number (status_seen machine.server) refl old.server;
    deadline = item-here cluster.facts.deadlines member.id.number _ machine.watchdog.deadline old.deadline;
    hold = old.hold;
  }
  output-here cluster message machine (outputs.Watchdog (feedings.Fed until)) table none held old = record {
    server = stays-server cluster
        (cluster_after (cluster_after cluster (kinds.Watchdog (watchdogs.Measured member message.sent)))
        (kinds.Watchdog (watchdogs.Fed member until (bases.Grant message.number))))
        member.id.number (status_seen machine.server) refl old.server;
    deadline = item-here cluster.facts.deadlines member.id.number _ machine.watchdog.deadline old.deadline;
    hold = old.hold;
  }
  output-here cluster message machine (outputs.Watchdog feedings.Disarmed) table none held old = record {
    server = stays-server cluster (cluster_after cluster (kinds.Watchdog (watchdogs.Disarmed member))) member.id.number
        (status_seen machine.server) refl old.server;
    deadline = item-here cluster.facts.deadlines member.id.number _ machine.watchdog.deadline old.deadline;
    hold = old.hold;
  }
  output-here cluster message machine (outputs.Note noting) table none held old =
      note-here cluster machine (Some (noting_kind cluster.facts.members member noting))
      (noting-holds IsOfNote cluster member (λ note noted. tt) noting) old
  output-here cluster message machine (outputs.Tell tellings.ClaimsOutsideSync) table none held old = unmoved cluster
      (cluster_after cluster (kinds.Agent (agents.Passed member))) member.id.number machine refl refl refl old
  output-here cluster message machine (outputs.Server (orders.Restart as_primary)) table none held old =
      restart-here cluster machine old
  output-here cluster message machine (outputs.Server orders.Wipe) table none held old = wipe-here cluster machine old
  output-here cluster message machine (outputs.Tell (tellings.Told request told)) table none held old =
      note-here cluster machine (told_kind member (agent_at cluster.agents member.id.number) told)
      (told-holds IsOfNote member (agent_at cluster.agents member.id.number) told (λ reply. tt)) old
  output-here cluster message machine (outputs.Tell (tellings.HoldTaken until from sequence)) table none held old =
      holds-here cluster message machine until sequence held.0 (slice_get cluster.facts.members from.number) held.1 old
  output-here cluster message machine (outputs.Message (outgoing.FailsafeAnswer to asked sequence accepted)) table none
      held old =
      replies-here cluster machine (receiver_of cluster.facts.members (targets.Member to)) asked sequence
      (bodies.FailsafeAnswer accepted) old
  output-here cluster message machine (outputs.Watchdog (feedings.FedByFailsafe until members sequence since)) table
      none held old =
      record {
        server = stays-server cluster
            (cluster_after (cluster_after cluster (kinds.Watchdog (watchdogs.Measured member since)))
            (kinds.Watchdog (watchdogs.Fed member until (bases.Acknowledgements members sequence))))
            member.id.number (status_seen machine.server) refl old.server;
        deadline = item-here cluster.facts.deadlines member.id.number _ machine.watchdog.deadline old.deadline;
        hold = old.hold;
      }
