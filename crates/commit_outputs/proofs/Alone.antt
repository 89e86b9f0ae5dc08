-- Outputs of an agent that are actions of their own.
use Rattle.std.proofs.Common.{◌≡◌, ◌||◌, Bool, true, false, cond, List, [], ◌∷◌, All, slice_get, Option, Some, None, option_and_then, refl}
use Rattle.std.proofs.lemmas.List.Elements.{All-head, All-tail}
use Rattle.pat_base.specs.ServerState.{live}
use Rattle.pg_model.specs.Facts.{ServerFacts, is_creating}
use Rattle.event_book.specs.declared.event.EventKind.{EventKind}
use Rattle.event_book.specs.declared.event.EventKind.TheVariants as kinds
use Rattle.event_book.specs.declared.event.LogEvent.TheVariants as logs
use Rattle.event_book.specs.declared.event.Note.{Note}
use Rattle.event_book.specs.declared.event.Note.TheVariants as notes
use Rattle.event_book.specs.declared.event.ServerEvent.TheVariants as servers
use Rattle.event_book.specs.declared.event.WatchdogEvent.TheVariants as watchdogs
use Rattle.event_book.specs.declared.member.Member.{Member}
use Rattle.event_book.specs.declared.reason.Reason.{Reason}
use Rattle.event_book.specs.Facts.{Facts, facts_after}
use Rattle.event_book.specs.Members.{server_of}
use Rattle.event_book.specs.declared.event.Event.{Event}
use Rattle.event_book.specs.Kinds.{AllAre}
use Rattle.agent_model.specs.declared.output.Output.{Output}
use Rattle.agent_model.specs.declared.output.Output.TheVariants as outputs
use Rattle.agent_model.specs.declared.output.Outgoing.TheVariants as outgoing
use Rattle.agent_model.specs.declared.output.ServerOrder.TheVariants as orders
use Rattle.agent_model.specs.declared.output.Telling.TheVariants as tellings
use Rattle.agent_model.specs.declared.output.Repair.{Repair}
use Rattle.agent_model.specs.declared.output.Target.TheVariants as targets
use Rattle.agent_model.specs.declared.output.ServerOrder.{ServerOrder}
use Rattle.agent_model.specs.declared.output.Telling.{Telling}
use Rattle.agent_commit_law.specs.Committing.{StandsAlone}
use Rattle.agent_outputs.specs.Orders.{IsOfTable}
use Rattle.cluster_model.specs.declared.heard_message.HeardMessage.{HeardMessage}
use Rattle.cluster_model.specs.Beginnings.{server_restart_kinds}
use Rattle.cluster_model.specs.Cluster.{cluster_after, cluster_over}
use Rattle.cluster_model.specs.Commands.{kinds_of}
use Rattle.cluster_model.specs.Messages.{output_events, repair_events, feeding_kinds, noting_kind, order_events, telling_kind}
use Rattle.cluster_model.specs.Orders.{repair_over, server_at, stop_kinds, stop_of, wipe_of}
use Rattle.cluster_model.specs.Parts.{each, event_of, events_of, for_some}
use Rattle.cluster_model.specs.State.{Cluster}
use Rattle.commit_actions.specs.Past.{Past, Setup, past_over}
use Rattle.commit_servers.specs.Acting.{Fits}
use Rattle.commit_servers.specs.Happening.{MayFollow, MayHappen}
use Rattle.commit_servers.proofs.Repairing.{repair-follow, wipe-follow}
use Rattle.cluster_model.proofs.Founds.{repaired-holds}
use Rattle.cluster_model.proofs.Lists.{HoldsIf, all-kinds, all-more, one-kind}
use Rattle.cluster_model.proofs.Outputs.{HoldsOfFeedings, HoldsOfOrder, HoldsOfTelling, IsPassing, LetsBegin, LetsEnd, LetsRepair, feeding-holds, kind-holds, noting-holds, order-holds, telling-holds}
use Rattle.commit_parts.specs.Reading.{volatile_of}
use Rattle.commit_parts.proofs.Moving.{moves-none, moves-then}
use Rattle.commit_parts.specs.Moving.{Moves}
use Rattle.commit_outputs.proofs.Sending.{failsafe-moves, member-moves, question-moves}
use Rattle.commit_parts.proofs.Servers.{moves-follow}
use Rattle.commit_parts.proofs.Still.{IsStill}
use Rattle.commit_outputs.proofs.Restarting.{restart-moves}
use Rattle.commit_outputs.proofs.Stopping.{stop-moves}
use Rattle.commit_outputs.specs.Answering.{AnswersNone}

-- ---- what may always happen, and is an action by itself
abbrev IsFree : EventKind → Type 0
IsFree (kinds.Server (servers.Follows server upstream)) = Unit {0}
IsFree (kinds.Server (servers.StartsAsReplica server)) = Unit {0}
IsFree (kinds.Watchdog (watchdogs.Armed member until answer)) = Unit {0}
IsFree (kinds.Watchdog (watchdogs.Fed member until basis)) = Unit {0}
IsFree (kinds.Watchdog (watchdogs.Disarmed member)) = Unit {0}
IsFree (kinds.Watchdog (watchdogs.Measured member since)) = Unit {0}
IsFree (kinds.Watchdog (watchdogs.HoldTaken member until from incarnation sequence)) = Unit {0}
IsFree (kinds.Note note) = Unit {0}
IsFree _ = ⊥

free-still : (kind : EventKind) → IsFree kind → IsStill kind
free-still (kinds.Server (servers.Follows server upstream)) free = tt
free-still (kinds.Server (servers.StartsAsReplica server)) free = tt
free-still (kinds.Watchdog (watchdogs.Armed member until answer)) free = tt
free-still (kinds.Watchdog (watchdogs.Fed member until basis)) free = tt
free-still (kinds.Watchdog (watchdogs.Disarmed member)) free = tt
free-still (kinds.Watchdog (watchdogs.Measured member since)) free = tt
free-still (kinds.Watchdog (watchdogs.HoldTaken member until from incarnation sequence)) free = tt
free-still (kinds.Note note) free = tt
free-still _ free = absurd free

free-may : (facts : Facts) (kind : EventKind) → IsFree kind → MayHappen facts kind
free-may facts (kinds.Server (servers.Follows server upstream)) free = tt
free-may facts (kinds.Server (servers.StartsAsReplica server)) free = tt
free-may facts (kinds.Watchdog (watchdogs.Armed member until answer)) free = tt
free-may facts (kinds.Watchdog (watchdogs.Fed member until basis)) free = tt
free-may facts (kinds.Watchdog (watchdogs.Disarmed member)) free = tt
free-may facts (kinds.Watchdog (watchdogs.Measured member since)) free = tt
free-may facts (kinds.Watchdog (watchdogs.HoldTaken member until from incarnation sequence)) free = tt
free-may facts (kinds.Note note) free = tt
free-may facts _ free = absurd free

free-follow : (facts : Facts) (events : List Event) → AllAre IsFree events → MayFollow facts events
free-follow facts [] all = tt
free-follow facts (event ∷ more) all =
    (free-may facts event.kind all.0, free-follow (facts_after facts event.kind) more all.1)

free-order : (member : Member) (order : ServerOrder) → (LetsBegin order → ⊥) → (LetsEnd order → ⊥)
    → (LetsRepair order → ⊥) → HoldsOfOrder IsFree member order
free-order member order begins ends repairs = record {
  begins = λ lets timeline. begins lets;
  lacks = begins;
  starts_as_primary = begins;
  starts_as_replica = tt;
  follows = λ leader. tt;
  says = λ reason. tt;
  ends = ends;
  stops = ends;
  wiped = repairs;
  rewound = λ lets leader r. repairs lets;
  copied = λ lets leader. repairs lets;
}

free-telling : (member : Member) (telling : Telling) → (IsPassing telling → ⊥) → HoldsOfTelling IsFree member telling
free-telling member telling passes = record {
  answers = λ is reply. tt;
  holds = λ until incarnation sequence from. tt;
  passes = passes;
}

free-feedings : (member : Member) → HoldsOfFeedings IsFree member
free-feedings member = record {
  measured = λ since. tt;
  armed = λ until answer. tt;
  fed = λ until basis. tt;
  disarmed = tt;
}

passes-alone : (telling : Telling) → StandsAlone (outputs.Tell telling) → IsPassing telling → ⊥
passes-alone tellings.ClaimsOutsideSync alone passes = alone
passes-alone _ alone passes = passes

wipe-still : (member : Member) (stays : Bool)
    → HoldsIf IsStill (cond stays None (Some (kinds.Log (logs.Wiped (server_of member)))))
wipe-still member true = tt
wipe-still member false = tt

-- ---- the outputs
module _ (setup : Setup) (member : Member) where
  free-moves : (past : Past) (cluster : Cluster) (events : List Event) → Fits past cluster.facts (volatile_of cluster)
      → AllAre IsFree events → Moves setup past cluster events
  free-moves past cluster events fits free =
      moves-follow setup past cluster events fits (all-more IsFree IsStill events free-still free)
      (free-follow cluster.facts events free)

  -- the agent says why it ends its server, and does
  stops-moves : (past : Past) (cluster : Cluster) (reason : Reason) (found : Option ServerFacts)
      → server_at cluster member ≡ found → Fits past cluster.facts (volatile_of cluster)
      → Moves setup past cluster (for_some found (λ s. events_of cluster (stop_kinds member reason s)))
  stops-moves past cluster reason None is fits = moves-none setup past cluster fits
  stops-moves past cluster reason (Some s) is fits =
      let note : EventKind = kinds.Note (notes.EndsServer member reason) in
      let later : Cluster = cluster_after cluster note in
      moves-then setup past cluster (event_of cluster note) (events_of later (kinds_of (stop_of member s)))
      (free-moves past cluster (event_of cluster note) fits (tt, tt))
      (λ told. stop-moves setup (past_over past (event_of cluster note)) later told member s is)

  shuts-moves : (past : Past) (cluster : Cluster) (found : Option ServerFacts)
      → server_at cluster member ≡ found → Fits past cluster.facts (volatile_of cluster)
      → Moves setup past cluster (events_of cluster (kinds_of (option_and_then (stop_of member) found)))
  shuts-moves past cluster None is fits = moves-none setup past cluster fits
  shuts-moves past cluster (Some s) is fits = stop-moves setup past cluster fits member s is

  restarts-moves : (past : Past) (cluster : Cluster) (found : Option ServerFacts)
      → server_at cluster member ≡ found → Fits past cluster.facts (volatile_of cluster)
      → Moves setup past cluster
      (for_some found (λ s. events_of cluster (server_restart_kinds member cluster.facts.acknowledged s)))
  restarts-moves past cluster None is fits = moves-none setup past cluster fits
  restarts-moves past cluster (Some s) is fits = restart-moves setup past cluster fits member s is

  wipes-moves : (past : Past) (cluster : Cluster) (found : Option ServerFacts)
      → server_at cluster member ≡ found → Fits past cluster.facts (volatile_of cluster)
      → Moves setup past cluster (events_of cluster (kinds_of (option_and_then (wipe_of member) found)))
  wipes-moves past cluster None is fits = moves-none setup past cluster fits
  wipes-moves past cluster (Some s) is fits =
      let kind : Option EventKind = wipe_of member s in
      moves-follow setup past cluster (events_of cluster (kinds_of kind)) fits
      (all-kinds IsStill cluster (kinds_of kind)
      (one-kind IsStill kind (wipe-still member (is_creating s.state || live s.state))))
      (wipe-follow cluster member s is)

  repair-moves : (past : Past) (cluster : Cluster) (repair : Repair) (leader : Option Member)
      → Fits past cluster.facts (volatile_of cluster)
      → Moves setup past cluster (repair_events cluster member repair leader)
  repair-moves past cluster repair leader fits =
      let kind : Option EventKind =
      option_and_then (repair_over cluster.facts.cuts cluster.facts.servers member repair) leader in
      moves-follow setup past cluster (repair_events cluster member repair leader) fits
      (all-kinds IsStill cluster (kinds_of kind)
      (one-kind IsStill kind
      (repaired-holds IsStill cluster.facts.cuts cluster.facts.servers member repair leader (λ other r. tt)
      (λ other. tt))))
      (repair-follow cluster member repair leader)

  order-moves : (past : Past) (cluster : Cluster) (order : ServerOrder)
      → Fits past cluster.facts (volatile_of cluster) → StandsAlone (outputs.Server order)
      → Moves setup past cluster (order_events cluster member order)
  order-moves past cluster orders.Begin fits alone = absurd alone
  order-moves past cluster (orders.Stop reason) fits alone =
      stops-moves past cluster reason (server_at cluster member) refl fits
  order-moves past cluster orders.ShutDown fits alone = shuts-moves past cluster (server_at cluster member) refl fits
  order-moves past cluster (orders.Restart as_primary) fits alone =
      restarts-moves past cluster (server_at cluster member) refl fits
  order-moves past cluster orders.Wipe fits alone = wipes-moves past cluster (server_at cluster member) refl fits
  order-moves past cluster (orders.Repair leader repair) fits alone =
      repair-moves past cluster repair (slice_get cluster.facts.members leader.number) fits
  order-moves past cluster order fits alone =
      free-moves past cluster (order_events cluster member order) fits
      (order-holds IsFree cluster member order (free-order member order (λ lets. lets) (λ lets. lets) (λ lets. lets)))

  module _ (message : HeardMessage) where
    output-moves : (past : Past) (cluster : Cluster) (output : Output)
        → Fits past cluster.facts (volatile_of cluster) → IsOfTable output → StandsAlone output → AnswersNone output
        → Moves setup past cluster (output_events member message cluster output)
    output-moves past cluster (outputs.Message (outgoing.Send targets.Store sequence body)) fits table alone answers =
        question-moves setup member past cluster
        (slice_get cluster.facts.processes member.id.number) sequence body fits alone
    output-moves past cluster (outputs.Message (outgoing.Send (targets.Member id) sequence body)) fits table alone
        answers =
        member-moves setup member past cluster (slice_get cluster.facts.processes member.id.number)
        (slice_get cluster.facts.members id.number) sequence body fits table
    output-moves past cluster (outputs.Message (outgoing.Answer to incarnation sequence answer)) fits table alone
        answers =
        absurd answers
    output-moves past cluster (outputs.Message (outgoing.FailsafeAnswer to incarnation sequence accepted)) fits table
        alone answers =
        failsafe-moves setup member past cluster
        (slice_get cluster.facts.members to.number) incarnation sequence accepted fits
    output-moves past cluster (outputs.Server order) fits table alone answers =
        order-moves past cluster order fits alone
    output-moves past cluster (outputs.Require required) fits table alone answers = absurd alone
    output-moves past cluster (outputs.Watchdog fed) fits table alone answers =
        free-moves past cluster (events_of cluster (feeding_kinds member message fed)) fits
        (all-kinds IsFree cluster (feeding_kinds member message fed)
        (feeding-holds IsFree cluster member message (free-feedings member) fed))
    output-moves past cluster (outputs.Tell telling) fits table alone answers =
        let kind : Option EventKind = telling_kind cluster member message telling in
        free-moves past cluster (events_of cluster (kinds_of kind)) fits
        (kind-holds IsFree cluster member kind
        (telling-holds IsFree cluster member message telling
        (free-telling member telling (passes-alone telling alone))))
    output-moves past cluster (outputs.Note noting) fits table alone answers =
        free-moves past cluster (event_of cluster (noting_kind cluster.facts.members member noting)) fits
        (noting-holds IsFree cluster member (λ note noted. tt) noting, tt)

    -- outputs that stand alone, of which none answers a member, are actions one after another, wherever servers fit
    pub alone-moves : (past : Past) (cluster : Cluster) (outs : List Output)
        → Fits past cluster.facts (volatile_of cluster) → All IsOfTable outs → All StandsAlone outs
        → All AnswersNone outs
        → Moves setup past cluster (each (output_events member message) cluster outs)
    alone-moves past cluster [] fits table alone answers = moves-none setup past cluster fits
    alone-moves past cluster (output ∷ more) fits table alone answers =
        let events = output_events member message cluster output in
        let later : Cluster = cluster_over cluster events in
        moves-then setup past cluster events (each (output_events member message) later more)
        (output-moves past cluster output fits (All-head IsOfTable output more table)
        (All-head StandsAlone output more alone) (All-head AnswersNone output more answers))
        (λ behind. alone-moves (past_over past events) later more behind (All-tail IsOfTable output more table)
        (All-tail StandsAlone output more alone) (All-tail AnswersNone output more answers))
