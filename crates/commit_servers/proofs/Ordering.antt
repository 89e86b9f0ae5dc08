-- What orders of agents bring at servers leaves them sound.
use Rattle.std.proofs.Common.{ℕ, ◌≡◌, ◌+◌, ◌==◌, ◌&&◌, Bool, true, false, cond, List, [], ◌∷◌, slice_get, Option, Some, None, refl, ap, subst}
use Rattle.std.proofs.lemmas.Bool.{and_parts}
use Rattle.std.proofs.lemmas.Option.{none-some, same_Some}
use Rattle.pat_base.specs.declared.server_state.Required.{Required}
use Rattle.pat_base.specs.declared.server_state.State.{State}
use Rattle.pat_base.specs.declared.server_state.State.TheVariants as states
use Rattle.pg_model.specs.Facts.{ServerFacts, entries_of, has_data, is_down, is_replica, is_up}
use Rattle.pg_model.specs.Running.{is_primary, stopped}
use Rattle.event_book.specs.declared.event.EventKind.{EventKind}
use Rattle.event_book.specs.declared.event.EventKind.TheVariants as kinds
use Rattle.event_book.specs.declared.event.Event.{Event}
use Rattle.event_book.specs.declared.event.Note.TheVariants as notes
use Rattle.event_book.specs.declared.event.ReplicationEvent.TheVariants as replications
use Rattle.event_book.specs.declared.event.ServerEvent.TheVariants as servers
use Rattle.event_book.specs.declared.member.Member.{Member}
use Rattle.event_book.specs.declared.reason.Reason.{Reason}
use Rattle.event_book.specs.Facts.{Facts}
use Rattle.event_book.specs.Members.{server_of}
use Rattle.cluster_model.specs.declared.beginning.Beginning.TheVariants as beginnings
use Rattle.cluster_model.specs.Beginnings.{begin_kinds, beginning_in, kinds_by, server_restart_in, server_restart_kinds}
use Rattle.cluster_model.specs.Cluster.{cluster_after}
use Rattle.cluster_model.specs.Commands.{kinds_of}
use Rattle.cluster_model.specs.Losing.{beginning_kinds, loss_if}
use Rattle.cluster_model.specs.Messages.{begin_events, replica_start_events, server_restart_events, stop_events}
use Rattle.cluster_model.specs.Next.{promote_events}
use Rattle.cluster_model.specs.Orders.{following_of, is_same_required, replica_start_kinds, require_of, required_names, stop_kind, stop_kinds, stop_of}
use Rattle.cluster_model.specs.Parts.{events_of, for_some}
use Rattle.cluster_model.specs.ServerCommands.{promote_kinds}
use Rattle.cluster_model.specs.State.{Cluster}
use Rattle.wal_model.specs.Lacking.{lacks_in}
use Rattle.lease_model.proofs.Tools.{both}
use Rattle.commit_servers.specs.Sound.{WaitsForMembers}
use Rattle.commit_servers.specs.Happening.{AllLeaveSound, LeavesSound}
use Rattle.commit_servers.proofs.Following.{unless-some}
use Rattle.commit_servers.proofs.Places.{changed-here}

leave-if : (cluster : Cluster) (found : Option EventKind)
    → ((kind : EventKind) → found ≡ Some kind → LeavesSound cluster.facts kind)
    → AllLeaveSound cluster.facts (events_of cluster (kinds_of found))
leave-if cluster None leaves = tt
leave-if cluster (Some kind) leaves = (leaves kind refl, tt)

leave-for_some : {X : Type 0} (facts : Facts) (found : Option X) (part : X → List Event)
    → ((x : X) → found ≡ Some x → AllLeaveSound facts (part x)) → AllLeaveSound facts (for_some found part)
leave-for_some facts None part leaves = tt
leave-for_some facts (Some x) part leaves = leaves x refl

-- ---- beginnings
loss-leaves : (facts : Facts) (member : Member) (test : Bool) (kind : EventKind)
    → loss_if member test ≡ Some kind → LeavesSound facts kind
loss-leaves facts member true kind e =
    subst (LeavesSound facts) (same_Some (kinds.Replication (replications.Lacks (server_of member))) kind e) tt
loss-leaves facts member false kind e = absurd (none-some kind e)

module _ (cluster : Cluster) (member : Member) (acknowledged : List ℕ) (s : ServerFacts)
    (found : slice_get cluster.facts.servers member.id.number ≡ Some s) where
  begun-leaves : (timeline : ℕ) → has_data s.state ≡ true
      → AllLeaveSound cluster.facts (events_of cluster (beginning_kinds member timeline acknowledged s.log))
  begun-leaves timeline with_data =
      let lacks : Bool = lacks_in (entries_of s.log) acknowledged in (
        record { server = s; is = found; with_data = with_data },
        leave-if (cluster_after cluster (kinds.Server (servers.Began (server_of member) timeline)))
            (loss_if member lacks) (loss-leaves _ member lacks),
      )

  again-leaves : (timeline : ℕ) (was_primary at_once : Bool) → has_data s.state ≡ true
      → AllLeaveSound cluster.facts
      (events_of cluster
      (kinds_by member acknowledged s.log
      (cond was_primary (Some (cond at_once (beginnings.AtOnce timeline) beginnings.WithItsStart)) None)))
  again-leaves timeline true true with_data = begun-leaves timeline with_data
  again-leaves timeline true false with_data = (tt, tt)
  again-leaves timeline false at_once with_data = tt

  begin-by : (state : State) → s.state ≡ state
      → AllLeaveSound cluster.facts (events_of cluster (kinds_by member acknowledged s.log (beginning_in state s)))
  begin-by states.Replica is = begun-leaves (s.timeline + 1) (ap has_data is)
  begin-by states.Stopped is = again-leaves s.timeline s.was_primary (s.start_delay.0 == 0) (ap has_data is)
  begin-by states.Crashed is = again-leaves s.timeline s.was_primary (s.start_delay.0 == 0) (ap has_data is)
  begin-by states.Creating is = tt
  begin-by (states.Starting as_primary at) is = tt
  begin-by states.Primary is = tt
  begin-by (states.Stopping was_primary at) is = tt

  replica-has_data : (state : State) → is_replica state ≡ true → has_data state ≡ true
  replica-has_data states.Replica e = refl
  replica-has_data states.Creating e = absurd (both e)
  replica-has_data states.Stopped e = refl
  replica-has_data (states.Starting as_primary at) e = refl
  replica-has_data states.Primary e = refl
  replica-has_data (states.Stopping was_primary at) e = refl
  replica-has_data states.Crashed e = refl

  promote-by : (test : Bool) → is_replica s.state ≡ test
      → AllLeaveSound cluster.facts
      (events_of cluster
      (cond test
      (kinds.Server (servers.Promoted (server_of member))
      ∷ beginning_kinds member (s.timeline + 1) acknowledged s.log) []))
  promote-by true is = (tt, begun-leaves (s.timeline + 1) (replica-has_data s.state is))
  promote-by false is = tt

pub begin-leaves : (cluster : Cluster) (member : Member) → AllLeaveSound cluster.facts (begin_events cluster member)
begin-leaves cluster member =
    leave-for_some cluster.facts (slice_get cluster.facts.servers member.id.number)
    (λ s. events_of cluster (begin_kinds member cluster.facts.acknowledged s))
    (λ s is. begin-by cluster member cluster.facts.acknowledged s is s.state refl)

-- a restart: a primary ends and begins again, at once or with its start
restart-by : (cluster : Cluster) (member : Member) (s : ServerFacts) (state : State)
    → slice_get cluster.facts.servers member.id.number ≡ Some s → s.state ≡ state
    → AllLeaveSound cluster.facts (events_of cluster (server_restart_in member cluster.facts.acknowledged state s))
restart-by cluster member s states.Primary found is = (
  record { server = s; is = found; with_data = ap has_data is },
  again-leaves (cluster_after cluster (kinds.Server (servers.Ended (server_of member)))) member
      cluster.facts.acknowledged (stopped s)
      (changed-here cluster.facts.servers member.id.number stopped s found) s.timeline true (s.start_delay.0 == 0) refl,
)
restart-by cluster member s states.Replica found is = (tt, tt)
restart-by cluster member s _ found is = tt

pub restart-leaves : (cluster : Cluster) (member : Member)
    → AllLeaveSound cluster.facts (server_restart_events cluster member)
restart-leaves cluster member =
    leave-for_some cluster.facts (slice_get cluster.facts.servers member.id.number)
    (λ s. events_of cluster (server_restart_kinds member cluster.facts.acknowledged s))
    (λ s is. restart-by cluster member s s.state is refl)

pub promote-leaves : (cluster : Cluster) (member : Member) → AllLeaveSound cluster.facts (promote_events cluster member)
promote-leaves cluster member =
    leave-for_some cluster.facts (slice_get cluster.facts.servers member.id.number)
    (λ s. events_of cluster (promote_kinds member cluster.facts.acknowledged s))
    (λ s is. promote-by cluster member cluster.facts.acknowledged s is (is_replica s.state) refl)

-- ---- ends
primary-has_data : (state : State) → is_primary state ≡ true → has_data state ≡ true
primary-has_data states.Primary e = refl
primary-has_data states.Replica e = refl
primary-has_data states.Creating e = absurd (both e)
primary-has_data states.Stopped e = refl
primary-has_data (states.Starting as_primary at) e = refl
primary-has_data (states.Stopping was_primary at) e = refl
primary-has_data states.Crashed e = refl

stop-kind : (facts : Facts) (member : Member) (s : ServerFacts) (test : Bool)
    → slice_get facts.servers member.id.number ≡ Some s → (is_primary s.state && s.stop_delay.0 == 0) ≡ test
    → LeavesSound facts
    (cond test (kinds.Server (servers.Ended (server_of member))) (kinds.Server (servers.Stops (server_of member))))
stop-kind facts member s true is e = record {
  server = s;
  is = is;
  with_data = primary-has_data s.state (and_parts (is_primary s.state) (s.stop_delay.0 == 0) e).0;
}
stop-kind facts member s false is e = tt

up-found : (b : Bool) (x y : EventKind) → cond b (Some x) None ≡ Some y → x ≡ y
up-found true x y e = same_Some x y e
up-found false x y e = absurd (none-some y e)

stop-of : (facts : Facts) (member : Member) (s : ServerFacts) (kind : EventKind)
    → slice_get facts.servers member.id.number ≡ Some s → stop_of member s ≡ Some kind → LeavesSound facts kind
stop-of facts member s kind is e =
    subst (LeavesSound facts) (up-found (is_up s.state) (stop_kind member s.state s.stop_delay) kind e)
    (stop-kind facts member s (is_primary s.state && s.stop_delay.0 == 0) is refl)

pub shut-leaves : (facts : Facts) (member : Member) (s : ServerFacts) (kind : EventKind)
    → slice_get facts.servers member.id.number ≡ Some s → stop_of member s ≡ Some kind → LeavesSound facts kind
shut-leaves = stop-of

pub stop-leaves : (cluster : Cluster) (member : Member) (reason : Reason)
    → AllLeaveSound cluster.facts (stop_events cluster member reason)
stop-leaves cluster member reason =
    leave-for_some cluster.facts (slice_get cluster.facts.servers member.id.number)
    (λ s. events_of cluster (stop_kinds member reason s))
    (λ s is. (
      tt,
      leave-if (cluster_after cluster (kinds.Note (notes.EndsServer member reason))) (stop_of member s)
          (λ kind e. stop-of cluster.facts member s kind is e),
    ))

-- ---- starts as a replica, and whom commits wait for
following-leaves : (facts : Facts) (member : Member) (leader : Option Member) (kind : EventKind)
    → following_of member leader ≡ Some kind → LeavesSound facts kind
following-leaves facts member None kind e = absurd (none-some kind e)
following-leaves facts member (Some leader) kind e = subst (LeavesSound facts)
    (same_Some (kinds.Server (servers.Follows (server_of member) (server_of leader))) kind e) tt

replica-if : (cluster : Cluster) (member : Member) (leader : Option Member) (test : Bool)
    → AllLeaveSound cluster.facts
    (events_of cluster
    (cond test (kinds.Server (servers.StartsAsReplica (server_of member)) ∷ kinds_of (following_of member leader)) []))
replica-if cluster member leader true = (
  tt,
  leave-if (cluster_after cluster (kinds.Server (servers.StartsAsReplica (server_of member))))
      (following_of member leader) (following-leaves _ member leader),
)
replica-if cluster member leader false = tt

pub replica-leaves : (cluster : Cluster) (member : Member) (leader : Option Member)
    → AllLeaveSound cluster.facts (replica_start_events cluster member leader)
replica-leaves cluster member leader =
    leave-for_some cluster.facts (slice_get cluster.facts.servers member.id.number)
    (λ s. events_of cluster (replica_start_kinds member leader s))
    (λ s is. replica-if cluster member leader (is_down s.state))

pub require-leaves : (facts : Facts) (members : List Member) (member : Member) (required : Required)
    (s : ServerFacts) (kind : EventKind) → WaitsForMembers required
    → require_of members member required s ≡ Some kind → LeavesSound facts kind
require-leaves facts members member required s kind waits e =
    let told : EventKind =
    kinds.Replication (replications.RequiredSet (server_of member) required (required_names members required)) in
    subst (LeavesSound facts)
    (same_Some told kind (unless-some (is_same_required s.required required) (Some told) kind e)) waits
