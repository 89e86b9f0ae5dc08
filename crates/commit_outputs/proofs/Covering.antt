-- Outputs that an input of the law covers: what their events leave as it was.
use Rattle.std.proofs.Common.{ℕ, ◌≡◌, ◌≤◌, ◌<◌, ◌+◌, nat_le, Bool, true, false, List, [], ◌∷◌, ◌++◌, length, Option, Some, None, option_map, slice_get, All, refl, sym, ap, ◌∙◌, subst, arith}
use Rattle.std.proofs.lemmas.List.Elements.{All-head, All-tail, All-weaker}
use Rattle.pat_base.specs.declared.lsn.Lsn.{Lsn}
use Rattle.pat_base.specs.declared.member_set.MemberSet.{MemberSet}
use Rattle.pat_base.specs.declared.server_state.Required.{Required}
use Rattle.pat_base.specs.declared.ticks.Ticks.{Ticks}
use Rattle.store_keys.specs.declared.txn.Expected.{Expected}
use Rattle.store_keys.specs.declared.txn.Txn.{Txn}
use Rattle.store_keys.specs.declared.txn.Txn.TheVariants as txns
use Rattle.store_keys.specs.declared.txn.LeaseTxn.TheVariants as lease_txns
use Rattle.store_keys.specs.declared.txn.SyncTxn.TheVariants as sync_txns
use Rattle.pg_model.specs.Facts.{ServerFacts}
use Rattle.event_book.specs.declared.agent_process.AgentProcess.{AgentProcess}
use Rattle.event_book.specs.declared.event.Event.{Event}
use Rattle.event_book.specs.declared.event.EventKind.{EventKind}
use Rattle.event_book.specs.declared.event.EventKind.TheVariants as kinds
use Rattle.event_book.specs.declared.event.MessageEvent.TheVariants.{Sent}
use Rattle.event_book.specs.declared.event.Note.{Note}
use Rattle.event_book.specs.declared.event.Note.TheVariants as notes
use Rattle.event_book.specs.declared.link.LinkEnd.TheVariants as ends
use Rattle.event_book.specs.declared.member.Member.{Member}
use Rattle.event_book.specs.declared.message.Body.{Body}
use Rattle.event_book.specs.declared.message.Body.TheVariants as bodies
use Rattle.event_book.specs.declared.message.Message.{Message}
use Rattle.event_book.specs.Functions.{put_at}
use Rattle.event_book.specs.Logs.{Logs}
use Rattle.agent_model.specs.declared.operating.Told.{Told as OperatorTold}
use Rattle.agent_model.specs.declared.operating.Told.TheVariants as tolds
use Rattle.agent_model.specs.declared.output.Output.{Output}
use Rattle.agent_model.specs.declared.output.Output.TheVariants as outputs
use Rattle.agent_model.specs.declared.output.Feeding.TheVariants as feedings
use Rattle.agent_model.specs.declared.output.Noting.TheVariants as notings
use Rattle.agent_model.specs.declared.output.Outgoing.TheVariants as outgoing
use Rattle.agent_model.specs.declared.output.Telling.TheVariants as tellings
use Rattle.agent_model.specs.declared.output.Target.TheVariants as targets
use Rattle.agent_model.specs.Agents.{AgentFacts}
use Rattle.agent_commit_law.specs.Committing.{IsCovered, IsQuietBody, IsQuietTxn}
use Rattle.operator_answers.specs.Statuses.{ok}
use Rattle.agent_outputs.specs.Orders.{IsOfTable}
use Rattle.agent_roles.specs.Asks.{IsAsk}
use Rattle.cluster_model.specs.declared.heard_message.HeardMessage.{HeardMessage}
use Rattle.cluster_model.specs.Cluster.{cluster_after, cluster_over}
use Rattle.cluster_model.specs.Commands.{kinds_of}
use Rattle.cluster_model.specs.Inputs.{agent_at}
use Rattle.cluster_model.specs.Limits.{most_in_flight}
use Rattle.cluster_model.specs.Messages.{agent_message, lost_at_once, output_events, send_events, sending_events}
use Rattle.cluster_model.specs.Parts.{each, event_of, events_of}
use Rattle.cluster_model.specs.Requests.{config_text_of, told_kind}
use Rattle.cluster_model.specs.State.{Cluster}
use Rattle.lease_model.specs.Leases.{LeaderKey}
use Rattle.lease_model.proofs.Tools.{none-some, put-all}
use Rattle.commit_showing.specs.Books.{AllLeaveCommits}
use Rattle.commit_actions.specs.Flights.{Flying}
use Rattle.commit_actions.specs.Past.{Past, create_query, flying_of, past_after, past_over, query_in_flight_of, query_of, renew_query, request_in_flight_of, was_live_by_message, was_live_by_txn}
use Rattle.commit_showing.specs.Showing.{AreOwn}
use Rattle.commit_showing.proofs.Fronts.{past-append}
use Rattle.run_promise.proofs.Upholding.{over-append}
use Rattle.commit_showing.specs.Changes.{AllLeaveOrder}
use Rattle.commit_showing.proofs.Asides.{leave-then}
use Rattle.commit_parts.specs.Ordered.{AllInOrder, AsksInOrder}
use Rattle.commit_parts.proofs.Ordering.{order-then}

-- no message is in flight under a number that isn't given yet
abbrev pub NoneAbove : Past → Cluster → Type 0
NoneAbove past cluster = (i : ℕ) → cluster.facts.sent < i → past.flight i ≡ None

-- what a book tells of servers
pub record Told : Type 0 where
  pub logs : Logs
  pub writes : ℕ → Bool
  pub required : List Required
  pub confirmed : List (List (Option Lsn))
  pub acknowledged : List ℕ

abbrev pub told_of : Past → Told
told_of past = record {
  logs = past.logs;
  writes = past.lease.writes;
  required = past.required;
  confirmed = past.confirmed;
  acknowledged = past.acknowledged;
}

-- what a cluster has of servers, of processes and of agents
pub record Held : Type 0 where
  pub servers : List ServerFacts
  pub remote : Option ServerFacts
  pub commits : ℕ
  pub acknowledged : List ℕ
  pub processes : List AgentProcess
  pub agents : List (Option AgentFacts)

abbrev pub held_by : Cluster → Held
held_by cluster = record {
  servers = cluster.facts.servers;
  remote = cluster.facts.remote;
  commits = cluster.facts.commits;
  acknowledged = cluster.facts.acknowledged;
  processes = cluster.facts.processes;
  agents = cluster.agents;
}

-- these events are an agent's own, and leave what is in flight, whom commits wait for, and all servers and agents
pub record Covers (m : ℕ) (past : Past) (cluster : Cluster) (events : List Event) : Type 0 where
  pub own : AreOwn m events
  pub leaves : AllLeaveCommits events
  pub aside : AllLeaveOrder events
  pub ordered : AllInOrder past cluster events
  pub flight : (i : ℕ) → (past_over past events).flight i ≡ past.flight i
  pub live : (past_over past events).holder_was_live ≡ past.holder_was_live
  pub leader : (past_over past events).lease.leader ≡ past.lease.leader
  pub told : told_of (past_over past events) ≡ told_of past
  pub held : held_by (cluster_over cluster events) ≡ held_by cluster
  pub later : cluster.facts.sent ≤ (cluster_over cluster events).facts.sent

pub own-both : (m : ℕ) (xs ys : List Event) → AreOwn m xs → AreOwn m ys → AreOwn m (xs ++ ys)
own-both m [] ys first second = second
own-both m (x ∷ xs) ys first second = (first.0, own-both m xs ys first.1 second)

pub leave-both : (xs ys : List Event) → AllLeaveCommits xs → AllLeaveCommits ys → AllLeaveCommits (xs ++ ys)
leave-both [] ys first second = second
leave-both (x ∷ xs) ys first second = (first.0, leave-both xs ys first.1 second)

pub covers-none : (m : ℕ) (past : Past) (cluster : Cluster) → Covers m past cluster []
covers-none m past cluster = record {
  own = tt;
  leaves = tt;
  aside = tt;
  ordered = tt;
  flight = λ i. refl;
  live = refl;
  leader = refl;
  told = refl;
  held = refl;
  later = omega arith;
}

at-most-then : (a b c : ℕ) → a ≤ b → b ≤ c → a ≤ c
at-most-then a b c first second = omega (arith, first, second)

pub covers-then : (m : ℕ) (past : Past) (cluster : Cluster) (xs ys : List Event) → Covers m past cluster xs
    → Covers m (past_over past xs) (cluster_over cluster xs) ys → Covers m past cluster (xs ++ ys)
covers-then m past cluster xs ys first second =
    let p : past_over past (xs ++ ys) ≡ past_over (past_over past xs) ys = past-append past xs ys in
    let c : cluster_over cluster (xs ++ ys) ≡ cluster_over (cluster_over cluster xs) ys = over-append cluster xs ys in
    record {
      own = own-both m xs ys first.own second.own;
      leaves = leave-both xs ys first.leaves second.leaves;
      aside = leave-then xs ys first.aside second.aside;
      ordered = order-then past cluster xs ys first.ordered second.ordered;
      flight = λ i. ap (λ (q : Past). q.flight i) p ∙ second.flight i ∙ first.flight i;
      live = ap (λ (q : Past). q.holder_was_live) p ∙ second.live ∙ first.live;
      leader = ap (λ (q : Past). q.lease.leader) p ∙ second.leader ∙ first.leader;
      told = ap told_of p ∙ second.told ∙ first.told;
      held = ap held_by c ∙ second.held ∙ first.held;
      later = at-most-then cluster.facts.sent (cluster_over cluster xs).facts.sent
          (cluster_over cluster (xs ++ ys)).facts.sent first.later
          (subst (λ (n : ℕ). (cluster_over cluster xs).facts.sent ≤ n)
          (sym (ap (λ (x : Cluster). x.facts.sent) c)) second.later);
    }

below-later : (a b i : ℕ) → a ≤ b → b < i → a < i
below-later a b i first second = omega (arith, first, second)

pub none-later : (m : ℕ) (past : Past) (cluster : Cluster) (events : List Event) → Covers m past cluster events
    → NoneAbove past cluster → NoneAbove (past_over past events) (cluster_over cluster events)
none-later m past cluster events covers none i above = covers.flight i
    ∙ none i (below-later cluster.facts.sent (cluster_over cluster events).facts.sent i covers.later above)

-- ---- a message of which commits read nothing
pub put-none : (flight : ℕ → Option Flying) (number i : ℕ) → flight number ≡ None
    → put_at flight number None i ≡ flight i
put-none flight number i is = put-all flight number None (λ n found. found ≡ flight n) (sym is) (λ n other. refl) i

quiet-create : (member incarnation sequence : ℕ) (sync : Option Expected) → sync ≡ None
    → query_in_flight_of (create_query member incarnation sequence sync) ≡ None
quiet-create member incarnation sequence None is = refl
quiet-create member incarnation sequence (Some sync) is = absurd (none-some sync (sym is))

quiet-renew : (member revision : ℕ) (failsafe : Option MemberSet)
    → query_in_flight_of (renew_query member revision failsafe) ≡ None
quiet-renew member revision None = refl
quiet-renew member revision (Some members) = refl

quiet-txn : (member incarnation sequence : ℕ) (txn : Txn) → IsQuietTxn txn
    → query_in_flight_of (query_of member incarnation sequence txn) ≡ None
quiet-txn member incarnation sequence (txns.Lease (lease_txns.Create info ttl failsafe sync)) quiet =
    quiet-create member incarnation sequence sync quiet
quiet-txn member incarnation sequence (txns.Lease (lease_txns.Renew revision info ttl status row failsafe)) quiet =
    quiet-renew member revision failsafe
quiet-txn member incarnation sequence (txns.Sync (sync_txns.Claim revision sync)) quiet = absurd quiet
quiet-txn member incarnation sequence (txns.Sync (sync_txns.SetSync revision sync standbys may_lack)) quiet =
    absurd quiet
quiet-txn member incarnation sequence _ quiet = refl

quiet-body : (member incarnation sequence : ℕ) (body : Body) → IsQuietBody body
    → request_in_flight_of member incarnation sequence body ≡ None
quiet-body member incarnation sequence (bodies.Request txn) quiet = quiet-txn member incarnation sequence txn quiet
quiet-body member incarnation sequence _ quiet = refl

live-renew : (was : Bool) (leader : Option LeaderKey) (m : ℕ) (revision : ℕ) (info : _) (ttl : Ticks)
    (status : _) (row : _) (failsafe : Option MemberSet) → failsafe ≡ None
    → was_live_by_txn was leader m (txns.Lease (lease_txns.Renew revision info ttl status row failsafe)) ≡ was
live-renew was leader m revision info ttl status row None is = refl
live-renew was leader m revision info ttl status row (Some members) is = absurd (none-some members (sym is))

live-txn : (was : Bool) (leader : Option LeaderKey) (m : ℕ) (txn : Txn) → IsQuietTxn txn
    → was_live_by_txn was leader m txn ≡ was
live-txn was leader m (txns.Lease (lease_txns.Renew revision info ttl status row failsafe)) quiet =
    live-renew was leader m revision info ttl status row failsafe quiet
live-txn was leader m _ quiet = refl

live-body : (was : Bool) (leader : Option LeaderKey) (by : Member) (body : Body) → IsQuietBody body
    → was_live_by_message was leader (ends.Member by) body ≡ was
live-body was leader by (bodies.Request txn) quiet = live-txn was leader by.id.number txn quiet
live-body was leader by _ quiet = refl

-- a message of this member that says nothing to commits
pub record SaysNothing (past : Past) (message : Message) : Type 0 where
  pub flying : flying_of past message.from message.to message.incarnation message.sequence message.body ≡ None
  pub live : was_live_by_message past.holder_was_live past.lease.leader message.from message.body ≡ past.holder_was_live
  pub ordered : (cluster : Cluster)
      → AsksInOrder past cluster message.from message.incarnation message.sequence message.body

quiet-txn-ordered : (past : Past) (cluster : Cluster) (by : Member) (incarnation sequence : ℕ) (txn : Txn)
    → IsQuietTxn txn → AsksInOrder past cluster (ends.Member by) incarnation sequence (bodies.Request txn)
quiet-txn-ordered past cluster by incarnation sequence (txns.Sync (sync_txns.SetSync revision sync standbys may_lack))
    quiet =
    absurd quiet
quiet-txn-ordered past cluster by incarnation sequence _ quiet = tt

pub quiet-ordered : (past : Past) (cluster : Cluster) (by : Member) (incarnation sequence : ℕ) (body : Body)
    → IsQuietBody body → AsksInOrder past cluster (ends.Member by) incarnation sequence body
quiet-ordered past cluster by incarnation sequence (bodies.Request txn) quiet =
    quiet-txn-ordered past cluster by incarnation sequence txn quiet
quiet-ordered past cluster by incarnation sequence _ quiet = tt

pub quiet-says : (past : Past) (member : Member) (incarnation sequence : ℕ) (body : Body) → IsQuietBody body
    → SaysNothing past (agent_message member ends.Store incarnation sequence body)
quiet-says past member incarnation sequence body quiet = record {
  flying = quiet-body member.id.number incarnation sequence body quiet;
  live = live-body past.holder_was_live past.lease.leader member body quiet;
  ordered = λ cluster. quiet-ordered past cluster member incarnation sequence body quiet;
}

pub ask-says : (past : Past) (member peer : Member) (incarnation sequence : ℕ) (body : Body) → IsAsk body
    → SaysNothing past (agent_message member (ends.Member peer) incarnation sequence body)
ask-says past member peer incarnation sequence bodies.Ask ask =
    record { flying = refl; live = refl; ordered = λ cluster. tt }
ask-says past member peer incarnation sequence (bodies.FailsafeRequest ttl) ask =
    record { flying = refl; live = refl; ordered = λ cluster. tt }
ask-says past member peer incarnation sequence _ ask = absurd ask

-- what a member says to a failsafe request
pub failsafe-says : (past : Past) (member peer : Member) (incarnation sequence : ℕ) (accepted : Bool)
    → SaysNothing past (agent_message member (ends.Member peer) incarnation sequence (bodies.FailsafeAnswer accepted))
failsafe-says past member peer incarnation sequence accepted =
    record { flying = refl; live = refl; ordered = λ cluster. tt }

module _ (m : ℕ) (past : Past) (cluster : Cluster) (none : NoneAbove past cluster) (message : Message)
    (says : SaysNothing past message) where
  abbrev Number : ℕ
  Number = cluster.facts.sent + 1

  abbrev Kind : EventKind
  Kind = kinds.Message (Sent Number message)

  sent-flight : (i : ℕ) → (past_after past Kind).flight i ≡ past.flight i
  sent-flight i = ap (λ (o : Option Flying). put_at past.flight Number o i) says.flying
      ∙ put-none past.flight Number i (none Number (omega arith))

  pub sent-covers : Covers m past cluster (event_of cluster Kind)
  sent-covers = record {
    own = (tt, tt);
    leaves = (tt, tt);
    aside = (tt, tt);
    ordered = (says.ordered cluster, tt);
    flight = sent-flight;
    live = says.live;
    leader = refl;
    told = refl;
    held = refl;
    later = omega arith;
  }

  lost-covers : (later : Past) (next : Cluster) (test : Bool) (number : ℕ) → later.flight number ≡ None
      → Covers m later next (events_of next (lost_at_once test number))
  lost-covers later next false number is = covers-none m later next
  lost-covers later next true number is = record {
    own = (tt, tt);
    leaves = (tt, tt);
    aside = (tt, tt);
    ordered = (tt, tt);
    flight = λ i. put-none later.flight number i is;
    live = refl;
    leader = refl;
    told = refl;
    held = refl;
    later = omega arith;
  }

  pub send-covers : Covers m past cluster (send_events cluster message)
  send-covers = covers-then m past cluster (event_of cluster Kind)
      (events_of (cluster_after cluster Kind)
      (lost_at_once (nat_le most_in_flight (length cluster.facts.flight)) Number))
      sent-covers
      (lost-covers (past_after past Kind) (cluster_after cluster Kind)
      (nat_le most_in_flight (length cluster.facts.flight)) Number (sent-flight Number ∙ none Number (omega arith)))

-- ---- the outputs
-- an output that the law's input covers, or the note that the sync key doesn't name the member
abbrev pub IsCarried : Output → Type 0
IsCarried (outputs.Tell tellings.ClaimsOutsideSync) = Unit {0}
IsCarried output = IsCovered output

carried-one : (output : Output) → IsCovered output → IsCarried output
carried-one (outputs.Tell tellings.ClaimsOutsideSync) covered = tt
carried-one _ covered = covered

pub carried : (outs : List Output) → All IsCovered outs → All IsCarried outs
carried outs covered = All-weaker IsCovered IsCarried carried-one outs covered

module _ (member : Member) (message : HeardMessage) where
  abbrev M : ℕ
  M = member.id.number

  question-covers : (past : Past) (cluster : Cluster) → NoneAbove past cluster
      → (found : Option AgentProcess) (sequence : ℕ) (body : Body) → IsQuietBody body
      → Covers M past cluster (sending_events cluster member found (Some ends.Store) sequence body)
  question-covers past cluster none None sequence body quiet = covers-none M past cluster
  question-covers past cluster none (Some process) sequence body quiet =
      send-covers M past cluster none (agent_message member ends.Store process.incarnation sequence body)
      (quiet-says past member process.incarnation sequence body quiet)

  member-covers : (past : Past) (cluster : Cluster) → NoneAbove past cluster
      → (found : Option AgentProcess) (peer : Option Member) (sequence : ℕ) (body : Body) → IsAsk body
      → Covers M past cluster
      (sending_events cluster member found (option_map (λ (p : Member). ends.Member p) peer) sequence body)
  member-covers past cluster none None peer sequence body ask = covers-none M past cluster
  member-covers past cluster none (Some process) None sequence body ask = covers-none M past cluster
  member-covers past cluster none (Some process) (Some peer) sequence body ask =
      send-covers M past cluster none (agent_message member (ends.Member peer) process.incarnation sequence body)
      (ask-says past member peer process.incarnation sequence body ask)

  -- a note, if there is one
  said-covers : {X : Type 0} (past : Past) (cluster : Cluster) (note : X → Note) (found : Option X)
      → Covers M past cluster (events_of cluster (kinds_of (option_map (λ x. kinds.Note (note x)) found)))
  said-covers past cluster note None = covers-none M past cluster
  said-covers past cluster note (Some x) = record {
    own = (tt, tt);
    leaves = (tt, tt);
    aside = (tt, tt);
    ordered = (tt, tt);
    flight = λ i. refl;
    live = refl;
    leader = refl;
    told = refl;
    held = refl;
    later = omega arith;
  }

  told-covers : (past : Past) (cluster : Cluster) (agent : Option AgentFacts) (told : OperatorTold)
      → Covers M past cluster (events_of cluster (kinds_of (told_kind member agent told)))
  told-covers past cluster agent (tolds.Text status text) = record {
    own = (tt, tt);
    leaves = (tt, tt);
    aside = (tt, tt);
    ordered = (tt, tt);
    flight = λ i. refl;
    live = refl;
    leader = refl;
    told = refl;
    held = refl;
    later = omega arith;
  }
  told-covers past cluster agent tolds.Written =
      said-covers past cluster (λ body. notes.Answered member ok true body) (config_text_of agent)

  pub output-covers : (past : Past) (cluster : Cluster) → NoneAbove past cluster → (output : Output)
      → IsCarried output → IsOfTable output → Covers M past cluster (output_events member message cluster output)
  output-covers past cluster none (outputs.Message (outgoing.Send targets.Store sequence body)) is table =
      question-covers past cluster none (slice_get cluster.facts.processes M) sequence body is
  output-covers past cluster none (outputs.Message (outgoing.Send (targets.Member id) sequence body)) is table =
      member-covers past cluster
      none (slice_get cluster.facts.processes M) (slice_get cluster.facts.members id.number) sequence body table
  output-covers past cluster none (outputs.Watchdog (feedings.Armed until)) is table = record {
    own = (tt, (tt, tt));
    leaves = (tt, (tt, tt));
    aside = (tt, (tt, tt));
    ordered = (tt, (tt, tt));
    flight = λ i. refl;
    live = refl;
    leader = refl;
    told = refl;
    held = refl;
    later = omega arith;
  }
  output-covers past cluster none (outputs.Watchdog (feedings.Fed until)) is table = record {
    own = (tt, (tt, tt));
    leaves = (tt, (tt, tt));
    aside = (tt, (tt, tt));
    ordered = (tt, (tt, tt));
    flight = λ i. refl;
    live = refl;
    leader = refl;
    told = refl;
    held = refl;
    later = omega arith;
  }
  output-covers past cluster none (outputs.Watchdog feedings.Disarmed) is table = record {
    own = (tt, tt);
    leaves = (tt, tt);
    aside = (tt, tt);
    ordered = (tt, tt);
    flight = λ i. refl;
    live = refl;
    leader = refl;
    told = refl;
    held = refl;
    later = omega arith;
  }
  output-covers past cluster none (outputs.Note (notings.Agent note)) is table = record {
    own = (tt, tt);
    leaves = (tt, tt);
    aside = (tt, tt);
    ordered = (tt, tt);
    flight = λ i. refl;
    live = refl;
    leader = refl;
    told = refl;
    held = refl;
    later = omega arith;
  }
  output-covers past cluster none (outputs.Tell tellings.ClaimsOutsideSync) is table = record {
    own = (tt, tt);
    leaves = (tt, tt);
    aside = (tt, tt);
    ordered = (tt, tt);
    flight = λ i. refl;
    live = refl;
    leader = refl;
    told = refl;
    held = refl;
    later = omega arith;
  }
  output-covers past cluster none (outputs.Tell (tellings.Told request told)) is table =
      told-covers past cluster (agent_at cluster.agents M) told
  output-covers past cluster none _ is table = absurd is

  pub each-covers : (past : Past) (cluster : Cluster) → NoneAbove past cluster → (outs : List Output)
      → All IsCarried outs → All IsOfTable outs
      → Covers M past cluster (each (output_events member message) cluster outs)
  each-covers past cluster none [] all table = covers-none M past cluster
  each-covers past cluster none (output ∷ more) all table =
      let events : List Event = output_events member message cluster output in
      let first = output-covers past cluster none output (All-head IsCarried output more all)
      (All-head IsOfTable output more table) in
      covers-then M past cluster events (each (output_events member message) (cluster_over cluster events) more) first
      (each-covers (past_over past events) (cluster_over cluster events) (none-later M past cluster events first none)
      more (All-tail IsCarried output more all) (All-tail IsOfTable output more table))
