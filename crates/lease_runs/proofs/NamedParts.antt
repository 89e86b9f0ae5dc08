-- Each part of a step but the inputs of agents names who begins.
use Rattle.std.proofs.Common.{ℕ, ◌≡◌, ◌≤◌, ◌+◌, ◌++◌, Bool, true, false, cond, List, [], ◌∷◌, length, slice_get, Option, Some, None, sym, subst}
use Rattle.pat_base.specs.declared.member_id.MemberId.{MemberId}
use Rattle.pat_base.specs.declared.member_id.TheConstants.{MOST_MEMBERS}
use Rattle.store_keys.specs.declared.txn.Txn.{Txn}
use Rattle.lease_store.specs.Decision.{Decision, Grant, Refusal, decision_on}
use Rattle.wal_model.specs.declared.entry.Entry.{Entry}
use Rattle.wal_model.specs.Lacking.{lacks_in}
use Rattle.pg_model.specs.Facts.{ServerFacts, entries_of, is_replica}
use Rattle.script_model.specs.declared.line.Command.{Command}
use Rattle.script_model.specs.Script.{HeadText, names_of}
use Rattle.event_book.specs.declared.event.Event.{Event}
use Rattle.event_book.specs.declared.event.EventKind.{EventKind}
use Rattle.event_book.specs.declared.event.EventKind.TheVariants as kinds
use Rattle.event_book.specs.declared.event.MessageEvent.TheVariants.{Delivered}
use Rattle.event_book.specs.declared.event.ServerEvent.TheVariants as servers
use Rattle.event_book.specs.declared.event.WatchdogEvent.TheVariants.{Reset}
use Rattle.event_book.specs.declared.link.LinkEnd.{LinkEnd}
use Rattle.event_book.specs.declared.link.LinkEnd.TheVariants as ends
use Rattle.event_book.specs.declared.member.Member.{Member}
use Rattle.event_book.specs.declared.message.Body.{Body}
use Rattle.event_book.specs.declared.message.Body.TheVariants as bodies
use Rattle.event_book.specs.declared.message.Message.{Message}
use Rattle.event_book.specs.Flight.{InFlightFacts, in_flight}
use Rattle.event_book.specs.Kinds.{AllAre}
use Rattle.event_book.specs.Members.{server_of}
use Rattle.cluster_model.specs.declared.beginning.Completion.{Completion}
use Rattle.cluster_model.specs.declared.beginning.Completion.TheVariants as completions
use Rattle.cluster_model.specs.Beginnings.{completed_by, completion_kinds, completion_of}
use Rattle.cluster_model.specs.Cluster.{cluster_after, cluster_over}
use Rattle.cluster_model.specs.Commands.{agent_started, disarm_at_start, kinds_of}
use Rattle.cluster_model.specs.Losing.{beginning_kinds, loss_if}
use Rattle.cluster_model.specs.Machines.{machine_of}
use Rattle.cluster_model.specs.Messages.{answer_events_by, answer_message, arrival_events_at, decision_body, decision_events, lost_at_once, send_events}
use Rattle.cluster_model.specs.Next.{acknowledge_events, agent_start_events, command_kind, declared, promote_events, receive_events_at_most}
use Rattle.cluster_model.specs.Parts.{each, event_of, events_of, for_some}
use Rattle.cluster_model.specs.ServerCommands.{promote_kinds}
use Rattle.cluster_model.specs.State.{Cluster}
use Rattle.cluster_model.specs.Ticking.{completion_events, next_expiries, reset_events, reset_of, tick_events}
use Rattle.cluster_model.proofs.Commanding.{each-command-holds}
use Rattle.cluster_model.proofs.Founds.{holds-if, holds-then}
use Rattle.cluster_model.proofs.Lists.{AllKinds, HoldsIf, all-kinds, all-more, one-kind}
use Rattle.lease_parts.specs.Asides.{IsQuiet}
use Rattle.run_promise.specs.Members.{declared_members, IsDeclared}
use Rattle.run_promise.specs.Promise.{Upholds, UpholdsAlways}
use Rattle.lease_parts.proofs.Commands.{command-quiet}
use Rattle.run_promise.proofs.Members.{declared-named, each-declared}
use Rattle.lease_parts.proofs.Ticks.{next-quiet}
use Rattle.run_promise.proofs.Upholding.{upheld-for_some, upheld-then, upholds-all, upholds-each}
use Rattle.lease_runs.proofs.MeasuredParts.{acknowledges-quiet, holds-more, most-quiet, starts-hold}
use Rattle.lease_runs.proofs.Naming.{HasDeclaredEnds, IsDeclaredEnd, IsOwn, NamesSoFar, composable, names_told, upheld-own}

module _ (head : HeadText) (few : length (names_of head) ≤ MOST_MEMBERS) where
  abbrev Own : EventKind → Type 0
  Own kind = IsOwn head kind

  -- ---- events that begin nothing and send nothing
  quiet-own : (kind : EventKind) → IsQuiet kind → Own kind
  quiet-own (kinds.Message happening) is = absurd is
  quiet-own (kinds.Server (servers.Began server timeline)) is = absurd is
  quiet-own _ is = tt

  upheld-quiet : (book : List Event) (cluster : Cluster) (events : List Event) → NamesSoFar head book cluster
      → AllAre IsQuiet events
      → Upholds (names_told head) book cluster events
  upheld-quiet book cluster events good all =
      upheld-own head book cluster events good (all-more IsQuiet Own events quiet-own all)

  found-own : (cluster : Cluster) (found : Option EventKind) → HoldsIf Own found
      → AllAre Own (events_of cluster (kinds_of found))
  found-own cluster found is = all-kinds Own cluster (kinds_of found) (one-kind Own found is)

  -- ---- a message that goes from and to declared members
  lost-own : (cluster : Cluster) (test : Bool) (number : ℕ) → AllAre Own (events_of cluster (lost_at_once test number))
  lost-own cluster true number = (tt, tt)
  lost-own cluster false number = tt

  sends-own : (cluster : Cluster) (message : Message) → HasDeclaredEnds head message
      → AllAre Own (send_events cluster message)
  sends-own cluster message own = (own, lost-own _ _ _)

  -- ---- a server of a declared member begins
  loss-own : (member : Member) (test : Bool) → AllKinds Own (kinds_of (loss_if member test))
  loss-own member true = (tt, tt)
  loss-own member false = tt

  begun-own : (member : Member) → IsDeclared head member
      → (timeline : ℕ) (acknowledged : List ℕ) (log : Option (List Entry))
      → AllKinds Own (beginning_kinds member timeline acknowledged log)
  begun-own member is timeline acknowledged log =
      (declared-named head few member is, loss-own member (lacks_in (entries_of log) acknowledged))

  -- ---- a tick
  upholds-reset : (member : Member) → UpholdsAlways (names_told head) (λ cluster. reset_events cluster member)
  upholds-reset member book cluster good =
      upheld-own head book cluster (reset_events cluster member) good
      (found-own cluster _
      (holds-then Own (reset_of cluster.facts.clock member) (slice_get cluster.facts.deadlines member.id.number)
      (λ deadline. holds-if Own _ (kinds.Watchdog (Reset member)) tt)))

  completed-own : (member : Member) → IsDeclared head member
      → (acknowledged : List ℕ) (log : Option (List Entry)) (found : Option Completion)
      → AllKinds Own (completed_by member acknowledged log found)
  completed-own member is acknowledged log None = tt
  completed-own member is acknowledged log (Some (completions.Begins timeline)) =
      begun-own member is timeline acknowledged log
  completed-own member is acknowledged log (Some completions.Ends) = (tt, tt)

  upholds-completion : (member : Member) → IsDeclared head member
      → UpholdsAlways (names_told head) (λ cluster. completion_events cluster member)
  upholds-completion member is book cluster good =
      upheld-for_some (names_told head) (composable head) book cluster
      (slice_get cluster.facts.servers member.id.number) _ good (λ s at.
      upheld-own head book cluster _ good
      (all-kinds Own cluster (completion_kinds cluster.facts.clock member cluster.facts.acknowledged s)
      (completed-own member is cluster.facts.acknowledged s.log (completion_of cluster.facts.clock s))))

  upholds-completions : UpholdsAlways (names_told head)
      (λ cluster. each completion_events cluster cluster.facts.members)
  upholds-completions book cluster good =
      subst (λ (ms : List Member). Upholds (names_told head) book cluster (each completion_events cluster ms))
      (sym good.members)
      (upholds-each (names_told head) (composable head) completion_events (declared_members head)
      (each-declared head few (λ m. UpholdsAlways (names_told head) (λ c. completion_events c m)) upholds-completion)
      book cluster good)

  pub upholds-tick : UpholdsAlways (names_told head) tick_events
  upholds-tick book cluster good =
      let promise = names_told head in
      let ticked : Cluster = cluster_after cluster kinds.Tick in
      let resets : List Event = each reset_events ticked ticked.facts.members in
      let reset : Cluster = cluster_over ticked resets in
      let expiries : List Event = events_of reset (next_expiries cluster) in
      let expired : Cluster = cluster_over reset expiries in
      let completes : List Event = each completion_events expired expired.facts.members in
      let first : List Event = book ++ event_of cluster kinds.Tick in
      upheld-then promise (composable head) book cluster (event_of cluster kinds.Tick)
      (resets ++ (expiries ++ completes))
      (upheld-own head book cluster _ good (tt, tt)) (λ was.
      upheld-then promise (composable head) first ticked resets (expiries ++ completes)
      (upholds-all promise (composable head) reset_events upholds-reset ticked.facts.members first ticked was) (λ later.
      upheld-then promise (composable head) (first ++ resets) reset expiries completes
      (upheld-quiet (first ++ resets) reset expiries later
      (all-kinds IsQuiet reset (next_expiries cluster) (next-quiet cluster)))
      (upholds-completions ((first ++ resets) ++ expiries) expired)))

  -- ---- streams
  pub upholds-receive : (most : ℕ) (member : Member)
      → UpholdsAlways (names_told head) (λ cluster. receive_events_at_most cluster most member)
  upholds-receive most member book cluster good =
      upheld-quiet book cluster (receive_events_at_most cluster most member) good (most-quiet cluster most member)

  pub upholds-acknowledge : (member : Member)
      → UpholdsAlways (names_told head) (λ cluster. acknowledge_events cluster member)
  upholds-acknowledge member book cluster good =
      upheld-quiet book cluster (acknowledge_events cluster member) good (acknowledges-quiet cluster member)

  -- ---- commands
  pub upholds-command : (command : Command)
      → UpholdsAlways (names_told head) (λ cluster. events_of cluster (kinds_of (command_kind cluster command)))
  upholds-command command book cluster good =
      upheld-own head book cluster _ good
      (found-own cluster (command_kind cluster command)
      (each-command-holds Own cluster (record { killed = λ m. tt; crashed = λ m. tt }) command
      (λ is. holds-more IsQuiet Own (command_kind cluster command) quiet-own (command-quiet cluster command is))))

  promoted-own : (member : Member) → IsDeclared head member → (acknowledged : List ℕ) (s : ServerFacts) (test : Bool)
      → AllKinds Own
      (cond test
      (kinds.Server (servers.Promoted (server_of member))
      ∷ beginning_kinds member (s.timeline + 1) acknowledged s.log) [])
  promoted-own member is acknowledged s true = (tt, begun-own member is (s.timeline + 1) acknowledged s.log)
  promoted-own member is acknowledged s false = tt

  pub upholds-promote : (member : Member) → IsDeclared head member
      → UpholdsAlways (names_told head) (λ cluster. promote_events cluster member)
  upholds-promote member is book cluster good =
      upheld-for_some (names_told head) (composable head) book cluster
      (slice_get cluster.facts.servers member.id.number) _ good (λ s at.
      upheld-own head book cluster _ good
      (all-kinds Own cluster (promote_kinds member cluster.facts.acknowledged s)
      (promoted-own member is cluster.facts.acknowledged s (is_replica s.state))))

  pub upholds-restart : (id : MemberId)
      → UpholdsAlways (names_told head) (λ cluster. for_some (declared cluster id) (agent_start_events cluster))
  upholds-restart id book cluster good =
      upheld-for_some (names_told head) (composable head) book cluster (declared cluster id)
      (agent_start_events cluster) good (λ m is.
      upheld-for_some (names_told head) (composable head) book cluster
      (slice_get cluster.facts.processes m.id.number) _ good (λ process at.
      upheld-own head book cluster _ good
      (all-kinds Own cluster (agent_started m process ∷ kinds_of (disarm_at_start m process (machine_of cluster m)))
      (starts-hold Own m process (machine_of cluster m) tt tt tt))))

  -- ---- the key store, which answers whoever asked
  decision-own : (cluster : Cluster) (number : ℕ) (message : Message) (txn : Txn) (decision : Decision) (from : LinkEnd)
      → IsDeclaredEnd head message.from
      → AllAre Own (decision_events cluster number message txn decision from)
  decision-own cluster number message txn decision ends.Store own = tt
  decision-own cluster number message txn Grant (ends.Member by) own =
      (tt, sends-own _ (answer_message message (decision_body number txn Grant)) (tt, own))
  decision-own cluster number message txn (Refusal key found) (ends.Member by) own =
      (tt, sends-own _ (answer_message message (decision_body number txn (Refusal key found))) (tt, own))

  answer-own : (cluster : Cluster) (number : ℕ) (message : Message) (body : Body) → IsDeclaredEnd head message.from
      → AllAre Own (answer_events_by cluster number message body)
  answer-own cluster number message bodies.Read own =
      sends-own cluster (answer_message message bodies.Snapshot) (tt, own)
  answer-own cluster number message (bodies.Request txn) own =
      decision-own cluster number message txn (decision_on cluster.facts.keys cluster.facts.clock txn) message.from own
  answer-own cluster number message _ own = tt

  pub upheld-arrival : (book : List Event) (cluster : Cluster) (number : ℕ) (message : InFlightFacts)
      → NamesSoFar head book cluster
      → in_flight cluster.facts.flight number ≡ Some message
      → Upholds (names_told head) book cluster (arrival_events_at cluster number message ends.Store)
  upheld-arrival book cluster number message good found =
      upheld-own head book cluster (arrival_events_at cluster number message ends.Store) good (
        tt,
        answer-own (cluster_after cluster (kinds.Message (Delivered number))) number message.message
            message.message.body (good.flight.ends number message found).0,
      )
