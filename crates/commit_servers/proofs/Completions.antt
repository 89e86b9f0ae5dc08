-- Servers that begin and end: by a reset, by a command, or where a start or a stop is complete.
use Rattle.std.proofs.Common.{ℕ, ◌≡◌, ◌==◌, nat_le, Bool, true, false, cond, slice_get, Option, Some, None, refl, ap, subst}
use Rattle.std.specs.Prelude.{option_and_then}
use Rattle.std.proofs.lemmas.Option.{cond_some, none-some, same_Some}
use Rattle.pat_base.specs.declared.server_state.State.{State}
use Rattle.pat_base.specs.declared.server_state.State.TheVariants as states
use Rattle.pat_base.specs.declared.ticks.Ticks.{Ticks}
use Rattle.pat_base.specs.ServerState.{live}
use Rattle.pg_model.specs.Facts.{ServerFacts, entries_of}
use Rattle.event_book.specs.declared.event.EventKind.{EventKind}
use Rattle.event_book.specs.declared.event.EventKind.TheVariants as kinds
use Rattle.event_book.specs.declared.event.ReplicationEvent.TheVariants as replications
use Rattle.event_book.specs.declared.event.ServerEvent.TheVariants as servers
use Rattle.event_book.specs.declared.event.WatchdogEvent.TheVariants as watchdogs
use Rattle.event_book.specs.declared.member.Member.{Member}
use Rattle.event_book.specs.Facts.{Facts}
use Rattle.event_book.specs.Members.{server_of}
use Rattle.leader_key.specs.Watchdog.{is_due_at}
use Rattle.cluster_model.specs.declared.beginning.Completion.TheVariants as completions
use Rattle.cluster_model.specs.Beginnings.{completed_by, completion_in, completion_kinds}
use Rattle.cluster_model.specs.Cluster.{cluster_after}
use Rattle.cluster_model.specs.Losing.{beginning_kinds, loss_if}
use Rattle.cluster_model.specs.Parts.{events_of}
use Rattle.cluster_model.specs.ServerCommands.{crash_of, freezing_of, is_gone, slow_by, slow_of, ticks_of}
use Rattle.cluster_model.specs.State.{Cluster}
use Rattle.cluster_model.specs.Ticking.{completion_events, reset_events, reset_of}
use Rattle.script_model.specs.declared.line.SlowedCall.{SlowedCall}
use Rattle.script_model.specs.declared.line.SlowedCall.TheVariants as slowed_calls
use Rattle.script_model.specs.declared.ranges.Delay.{Delay}
use Rattle.wal_model.specs.Lacking.{lacks_in}
use Rattle.commit_servers.specs.Happening.{MayFollow, MayHappen}
use Rattle.commit_servers.proofs.Following.{follow-for_some, follow-if, unless-some}

-- that a server lacks a commit may always be told
pub loss-may : (facts : Facts) (member : Member) (test : Bool) (kind : EventKind)
    → loss_if member test ≡ Some kind → MayHappen facts kind
loss-may facts member true kind e =
    subst (MayHappen facts) (same_Some (kinds.Replication (replications.Lacks (server_of member))) kind e) tt
loss-may facts member false kind e = absurd (none-some kind e)

begins-may : (cluster : Cluster) (member : Member) (timeline : ℕ) (s : ServerFacts)
    → slice_get cluster.facts.servers member.id.number ≡ Some s → live s.state ≡ true
    → MayFollow cluster.facts (events_of cluster (beginning_kinds member timeline cluster.facts.acknowledged s.log))
begins-may cluster member timeline s is is_live = (
  record { server = s; is = is; is_live = is_live },
  follow-if (cluster_after cluster (kinds.Server (servers.Began (server_of member) timeline)))
      (loss_if member (lacks_in (entries_of s.log) cluster.facts.acknowledged))
      (loss-may _ member (lacks_in (entries_of s.log) cluster.facts.acknowledged)),
)

begins-if : (cluster : Cluster) (member : Member) (s : ServerFacts) (due : Bool)
    → slice_get cluster.facts.servers member.id.number ≡ Some s → live s.state ≡ true
    → MayFollow cluster.facts
    (events_of cluster
    (completed_by member cluster.facts.acknowledged s.log (cond due (Some (completions.Begins s.timeline)) None)))
begins-if cluster member s true is is_live = begins-may cluster member s.timeline s is is_live
begins-if cluster member s false is is_live = tt

ends-if : (cluster : Cluster) (member : Member) (s : ServerFacts) (due : Bool)
    → slice_get cluster.facts.servers member.id.number ≡ Some s → live s.state ≡ true
    → MayFollow cluster.facts
    (events_of cluster (completed_by member cluster.facts.acknowledged s.log (cond due (Some completions.Ends) None)))
ends-if cluster member s true is is_live = (record { server = s; is = is; is_live = is_live }, tt)
ends-if cluster member s false is is_live = tt

complete-by : (cluster : Cluster) (member : Member) (s : ServerFacts) (state : State)
    → slice_get cluster.facts.servers member.id.number ≡ Some s → s.state ≡ state
    → MayFollow cluster.facts
    (events_of cluster
    (completed_by member cluster.facts.acknowledged s.log (completion_in cluster.facts.clock s.timeline state)))
complete-by cluster member s (states.Starting true at) is here =
    begins-if cluster member s (nat_le at.0 cluster.facts.clock) is (ap live here)
complete-by cluster member s (states.Starting false at) is here = tt
complete-by cluster member s (states.Stopping true at) is here =
    ends-if cluster member s (nat_le at.0 cluster.facts.clock) is (ap live here)
complete-by cluster member s (states.Stopping false at) is here = tt
complete-by cluster member s states.Creating is here = tt
complete-by cluster member s states.Stopped is here = tt
complete-by cluster member s states.Replica is here = tt
complete-by cluster member s states.Primary is here = tt
complete-by cluster member s states.Crashed is here = tt

pub complete-follow : (cluster : Cluster) (member : Member) → MayFollow cluster.facts (completion_events cluster member)
complete-follow cluster member =
    follow-for_some cluster.facts (slice_get cluster.facts.servers member.id.number)
    (λ s. events_of cluster (completion_kinds cluster.facts.clock member cluster.facts.acknowledged s))
    (λ s is. complete-by cluster member s s.state is refl)

-- ---- resets
reset-if : (facts : Facts) (member : Member) (now : ℕ) (deadline : Option (Option Ticks)) (kind : EventKind)
    → option_and_then (reset_of now member) deadline ≡ Some kind → MayHappen facts kind
reset-if facts member now None kind e = absurd (none-some kind e)
reset-if facts member now (Some deadline) kind e =
    let found = cond_some (is_due_at now deadline) (kinds.Watchdog (watchdogs.Reset member)) kind e in
    subst (MayHappen facts) found.1 tt

pub reset-follow : (cluster : Cluster) (member : Member) → MayFollow cluster.facts (reset_events cluster member)
reset-follow cluster member = follow-if cluster
    (option_and_then (reset_of cluster.facts.clock member) (slice_get cluster.facts.deadlines member.id.number))
    (reset-if cluster.facts member cluster.facts.clock (slice_get cluster.facts.deadlines member.id.number))

-- ---- commands
pub crash-may : (facts : Facts) (member : Member) (s : ServerFacts) (kind : EventKind)
    → crash_of member s ≡ Some kind → MayHappen facts kind
crash-may facts member s kind e = subst (MayHappen facts)
    (same_Some (kinds.Server (servers.Crashed (server_of member))) kind
    (unless-some (is_gone s.state) (Some (kinds.Server (servers.Crashed (server_of member)))) kind e))
    tt

pub freezing-may : (facts : Facts) (to frozen : Bool) (member : Member) (kind : EventKind)
    → freezing_of to member frozen ≡ Some kind → MayHappen facts kind
freezing-may facts true false member kind e =
    subst (MayHappen facts) (same_Some (kinds.Server (servers.Frozen (server_of member))) kind e) tt
freezing-may facts false true member kind e =
    subst (MayHappen facts) (same_Some (kinds.Server (servers.Thawed (server_of member))) kind e) tt
freezing-may facts true true member kind e = absurd (none-some kind e)
freezing-may facts false false member kind e = absurd (none-some kind e)

slow-may-by : (facts : Facts) (member : Member) (slowed : SlowedCall) (delay : Delay) (stop start : Ticks)
    (kind : EventKind) → slow_by member slowed delay stop start ≡ Some kind → MayHappen facts kind
slow-may-by facts member slowed_calls.Stop delay stop start kind e =
    let told : EventKind = kinds.Server (servers.Slowed (server_of member) (Some (ticks_of delay)) None) in
    subst (MayHappen facts) (same_Some told kind (unless-some (stop.0 == delay.ticks) (Some told) kind e)) tt
slow-may-by facts member slowed_calls.Start delay stop start kind e =
    let told : EventKind = kinds.Server (servers.Slowed (server_of member) None (Some (ticks_of delay))) in
    subst (MayHappen facts) (same_Some told kind (unless-some (start.0 == delay.ticks) (Some told) kind e)) tt

pub slow-may : (facts : Facts) (member : Member) (slowed : SlowedCall) (delay : Delay) (s : ServerFacts)
    (kind : EventKind) → slow_of member slowed delay s ≡ Some kind → MayHappen facts kind
slow-may facts member slowed delay s kind e = slow-may-by facts member slowed delay s.stop_delay s.start_delay kind e
