-- Servers that begin, and starts and stops that are complete.
use Rattle.std.proofs.Common.{◌≡◌, ℕ, ◌+◌, ◌^◌, ◌<◌, ◌==◌, ◌&&◌, nat_le, Bool, true, false, List, [], ◌∷◌, Option, Some, None, arith, refl, ◌∙◌, ap, sym, subst}
use Rattle.std.specs.Prelude.{option_and_then, slice_get, if◌then◌else◌, IfSome}
use Rattle.std.proofs.lemmas.Option.{none-some, same_Some}
use Rattle.pat_base.specs.declared.server_state.State.{State}
use Rattle.pat_base.specs.declared.server_state.State.TheVariants as states
use Rattle.pg_model.specs.Facts.{ServerFacts, is_replica}
use Rattle.event_book.specs.declared.event.Event.{Event}
use Rattle.event_book.specs.declared.event.EventKind.{EventKind}
use Rattle.event_book.specs.declared.event.EventKind.TheVariants as kinds
use Rattle.event_book.specs.declared.event.ServerEvent.TheVariants as servers
use Rattle.event_book.specs.declared.member.Member.{Member}
use Rattle.event_book.specs.declared.member.ServerOf.{ServerOf}
use Rattle.event_book.specs.Members.{server_of}
use Rattle.event_list.specs.Listed.{Listed}
use Rattle.cluster_model.specs.declared.beginning.Beginning.{Beginning}
use Rattle.cluster_model.specs.declared.beginning.Beginning.TheVariants as beginnings
use Rattle.cluster_model.specs.declared.beginning.Completion.{Completion}
use Rattle.cluster_model.specs.declared.beginning.Completion.TheVariants as completions
use Rattle.cluster_model.specs.Beginnings.{begin_kinds, beginning_in, beginning_of, completed_by, completion_in, completion_kinds, completion_of, kinds_by}
use Rattle.cluster_model.specs.Commands.{kinds_of}
use Rattle.cluster_model.specs.Losing.{beginning_kinds}
use Rattle.cluster_model.specs.Next.{promote_events}
use Rattle.cluster_model.specs.Parts.{event_of, events_of, for_some}
use Rattle.cluster_model.specs.ServerCommands.{promote_kinds}
use Rattle.cluster_model.specs.State.{Cluster}
use Rattle.world_model.specs.Comes.{MayCome, begins_in, ends_at}
use Rattle.world_model.specs.Emits.{Emits}
use Rattle.world_model.specs.Promoting.{beginning_at, loss_of_any, promoted_timeline}
use Rattle.world_model.specs.Room.{HasRoom, beginning_cost, promotion_cost}
use Rattle.world_parts.proofs.ServerCommanding.{replica-if, timeline-below}
use Rattle.world_model.proofs.Taking.{Emits-nothing, Emits-then, Emits-weaker}

-- by its agent
abbrev pub begun_at : Cluster → Member → Option ServerFacts → List Event
begun_at cluster member found =
    for_some found (λ s. events_of cluster (begin_kinds member cluster.facts.acknowledged s))

-- by its operator
abbrev pub promoted_at : Cluster → Member → Option ServerFacts → List Event
promoted_at cluster member found =
    for_some found (λ s. events_of cluster (promote_kinds member cluster.facts.acknowledged s))

-- with a tick
abbrev pub completed_at : Cluster → Member → Option ServerFacts → List Event
completed_at cluster member found =
    for_some found (λ s. events_of cluster (completion_kinds cluster.facts.clock member cluster.facts.acknowledged s))

-- it begins on this timeline, and then it may be told that it lacks a commit
abbrev begins_at : Cluster → Member → Option ServerFacts → ℕ → List EventKind
begins_at cluster member found timeline = kinds.Server (servers.Began (server_of member) timeline)
    ∷ kinds_of (option_and_then (loss_of_any cluster.facts.acknowledged member) found)

-- ---- by the order of its agent
pub none-begins : (cluster : Cluster) (member : Member) (found : Option ServerFacts)
    → option_and_then beginning_of found ≡ None → begun_at cluster member found ≡ []
none-begins cluster member None is = refl
none-begins cluster member (Some s) is =
    ap (λ (o : Option Beginning). events_of cluster (kinds_by member cluster.facts.acknowledged s.log o)) is

pub at-once-is : (cluster : Cluster) (member : Member) (found : Option ServerFacts) (timeline : ℕ)
    → option_and_then beginning_of found ≡ Some (beginnings.AtOnce timeline)
    → begun_at cluster member found ≡ events_of cluster (begins_at cluster member found timeline)
at-once-is cluster member None timeline is = absurd (none-some (beginnings.AtOnce timeline) is)
at-once-is cluster member (Some s) timeline is =
    ap (λ (o : Option Beginning). events_of cluster (kinds_by member cluster.facts.acknowledged s.log o)) is

pub with-start-is : (cluster : Cluster) (member : Member) (found : Option ServerFacts)
    → option_and_then beginning_of found ≡ Some beginnings.WithItsStart
    → begun_at cluster member found ≡ event_of cluster (kinds.Server (servers.StartsAsPrimary (server_of member)))
with-start-is cluster member None is = absurd (none-some beginnings.WithItsStart is)
with-start-is cluster member (Some s) is =
    ap (λ (o : Option Beginning). events_of cluster (kinds_by member cluster.facts.acknowledged s.log o)) is

-- who starts again at once was a primary, and its starts take no time
again-at-once : (was z : Bool) (own timeline : ℕ)
    → (if was then Some (if z then beginnings.AtOnce own else beginnings.WithItsStart) else None)
    ≡ Some (beginnings.AtOnce timeline)
    → (was && z) ≡ true
again-at-once true true own timeline is = refl
again-at-once true false own timeline is =
    absurd (other (same_Some beginnings.WithItsStart (beginnings.AtOnce timeline) is))
  where
    other : beginnings.WithItsStart ≡ beginnings.AtOnce timeline → ⊥
    other e = cc
again-at-once false z own timeline is = absurd (none-some (beginnings.AtOnce timeline) is)

at-once-can : (now : ℕ) (s : ServerFacts) (state : State) (timeline : ℕ)
    → beginning_in state s ≡ Some (beginnings.AtOnce timeline) → begins_in now s state ≡ true
at-once-can now s states.Replica timeline is = refl
at-once-can now s states.Stopped timeline is = again-at-once s.was_primary (s.start_delay.0 == 0) s.timeline timeline is
at-once-can now s states.Crashed timeline is = again-at-once s.was_primary (s.start_delay.0 == 0) s.timeline timeline is
at-once-can now s _ timeline is = absurd (none-some (beginnings.AtOnce timeline) is)

again-was : (was z : Bool) (own : ℕ)
    → (if was then Some (if z then beginnings.AtOnce own else beginnings.WithItsStart) else None)
    ≡ Some beginnings.WithItsStart
    → was ≡ true
again-was true z own is = refl
again-was false z own is = absurd (none-some beginnings.WithItsStart is)

with-start-was : (s : ServerFacts) (state : State) → beginning_in state s ≡ Some beginnings.WithItsStart
    → s.was_primary ≡ true
with-start-was s states.Replica is =
    absurd (other (same_Some (beginnings.AtOnce (s.timeline + 1)) beginnings.WithItsStart is))
  where
    other : beginnings.AtOnce (s.timeline + 1) ≡ beginnings.WithItsStart → ⊥
    other e = cc
with-start-was s states.Stopped is = again-was s.was_primary (s.start_delay.0 == 0) s.timeline is
with-start-was s states.Crashed is = again-was s.was_primary (s.start_delay.0 == 0) s.timeline is
with-start-was s _ is = absurd (none-some beginnings.WithItsStart is)

-- ---- with a tick
pub none-completes : (cluster : Cluster) (member : Member) (found : Option ServerFacts)
    → option_and_then (completion_of cluster.facts.clock) found ≡ None → completed_at cluster member found ≡ []
none-completes cluster member None is = refl
none-completes cluster member (Some s) is =
    ap (λ (o : Option Completion). events_of cluster (completed_by member cluster.facts.acknowledged s.log o)) is

pub completes-begin : (cluster : Cluster) (member : Member) (found : Option ServerFacts) (timeline : ℕ)
    → option_and_then (completion_of cluster.facts.clock) found ≡ Some (completions.Begins timeline)
    → completed_at cluster member found ≡ events_of cluster (begins_at cluster member found timeline)
completes-begin cluster member None timeline is = absurd (none-some (completions.Begins timeline) is)
completes-begin cluster member (Some s) timeline is =
    ap (λ (o : Option Completion). events_of cluster (completed_by member cluster.facts.acknowledged s.log o)) is

pub completes-end : (cluster : Cluster) (member : Member) (found : Option ServerFacts)
    → option_and_then (completion_of cluster.facts.clock) found ≡ Some completions.Ends
    → completed_at cluster member found ≡ event_of cluster (kinds.Server (servers.Ended (server_of member)))
completes-end cluster member None is = absurd (none-some completions.Ends is)
completes-end cluster member (Some s) is =
    ap (λ (o : Option Completion). events_of cluster (completed_by member cluster.facts.acknowledged s.log o)) is

no-end : (timeline : ℕ) → completions.Begins timeline ≡ completions.Ends → ⊥
no-end timeline e = cc

no-beginning : (timeline : ℕ) → completions.Ends ≡ completions.Begins timeline → ⊥
no-beginning timeline e = cc

due-begins : (due : Bool) (own timeline : ℕ)
    → (if due then Some (completions.Begins own) else None) ≡ Some (completions.Begins timeline) → due ≡ true
due-begins true own timeline is = refl
due-begins false own timeline is = absurd (none-some (completions.Begins timeline) is)

due-ends : (due : Bool) → (if due then Some completions.Ends else None) ≡ Some completions.Ends → due ≡ true
due-ends true is = refl
due-ends false is = absurd (none-some completions.Ends is)

no-end-if : (due : Bool) (timeline : ℕ)
    → (if due then Some completions.Ends else None) ≡ Some (completions.Begins timeline) → ⊥
no-end-if true timeline is = no-beginning timeline (same_Some completions.Ends (completions.Begins timeline) is)
no-end-if false timeline is = none-some (completions.Begins timeline) is

no-beginning-if : (due : Bool) (own : ℕ)
    → (if due then Some (completions.Begins own) else None) ≡ Some completions.Ends → ⊥
no-beginning-if true own is = no-end own (same_Some (completions.Begins own) completions.Ends is)
no-beginning-if false own is = none-some completions.Ends is

completes-can : (now : ℕ) (s : ServerFacts) (state : State) (timeline : ℕ)
    → completion_in now s.timeline state ≡ Some (completions.Begins timeline) → begins_in now s state ≡ true
completes-can now s (states.Starting true at) timeline is = due-begins (nat_le at.0 now) s.timeline timeline is
completes-can now s (states.Starting false at) timeline is = absurd (none-some (completions.Begins timeline) is)
completes-can now s (states.Stopping true at) timeline is = absurd (no-end-if (nat_le at.0 now) timeline is)
completes-can now s (states.Stopping false at) timeline is = absurd (none-some (completions.Begins timeline) is)
completes-can now s _ timeline is = absurd (none-some (completions.Begins timeline) is)

completes-ends : (now : ℕ) (s : ServerFacts) (state : State)
    → completion_in now s.timeline state ≡ Some completions.Ends → ends_at now state s.stop_delay ≡ true
completes-ends now s (states.Starting true at) is = absurd (no-beginning-if (nat_le at.0 now) s.timeline is)
completes-ends now s (states.Starting false at) is = absurd (none-some completions.Ends is)
completes-ends now s (states.Stopping true at) is = due-ends (nat_le at.0 now) is
completes-ends now s (states.Stopping false at) is = absurd (none-some completions.Ends is)
completes-ends now s _ is = absurd (none-some completions.Ends is)

-- ---- what may come
begins-serve : (P : ServerFacts → Type 0) (found : Option ServerFacts)
    → ((s : ServerFacts) → found ≡ Some s → P s) → IfSome found P
begins-serve P None all = tt
begins-serve P (Some s) all = all s refl

found-some : {A B : Type 0} (f : A → Option B) (found : Option A) (x : A) (y : B)
    → option_and_then f found ≡ Some y → found ≡ Some x → f x ≡ Some y
found-some f found x y is there = sym (ap (option_and_then f) there) ∙ is

timeline-of : (cluster : Cluster) (place : ℕ) → HasRoom cluster beginning_cost → (s : ServerFacts)
    → slice_get cluster.facts.servers place ≡ Some s → s.timeline < 2 ^ 60
timeline-of cluster place room s is =
    let all : IfSome (Some s) (λ s. s.timeline < 2 ^ 60) = subst
    (λ (found : Option ServerFacts). IfSome found (λ s. s.timeline < 2 ^ 60)) is (timeline-below cluster place room) in
    all

begun-comes : (cluster : Cluster) (member : Member) (timeline : ℕ) → HasRoom cluster beginning_cost
    → ((s : ServerFacts) → slice_get cluster.facts.servers member.id.number ≡ Some s →
    begins_in cluster.facts.clock s s.state ≡ true)
    → MayCome cluster (kinds.Server (servers.Began (server_of member) timeline))
begun-comes cluster member timeline room can = record {
  bare = tt;
  counts = tt;
  serves = begins-serve _ (slice_get cluster.facts.servers member.id.number)
      (λ s is. (can s is, timeline-of cluster member.id.number room s is));
}

pub promoted-comes : (cluster : Cluster) (member : Member) (timeline : ℕ) → HasRoom cluster beginning_cost
    → option_and_then promoted_timeline (slice_get cluster.facts.servers member.id.number) ≡ Some timeline
    → MayCome cluster (kinds.Server (servers.Began (server_of member) timeline))
promoted-comes cluster member timeline room is =
    begun-comes cluster member timeline room
    (λ s there. replica-can s s.state (s.timeline + 1) (found-some promoted_timeline _ s timeline is there))
  where
    replica-can : (s : ServerFacts) (state : State) (next : ℕ)
        → (if is_replica state then Some next else None) ≡ Some timeline → begins_in cluster.facts.clock s state ≡ true
    replica-can s states.Replica next e = refl
    replica-can s _ next e = absurd (none-some timeline e)

pub at-once-comes : (cluster : Cluster) (member : Member) (timeline : ℕ) → HasRoom cluster beginning_cost
    → option_and_then beginning_of (slice_get cluster.facts.servers member.id.number)
    ≡ Some (beginnings.AtOnce timeline)
    → MayCome cluster (kinds.Server (servers.Began (server_of member) timeline))
at-once-comes cluster member timeline room is =
    begun-comes cluster member timeline room
    (λ s there. at-once-can cluster.facts.clock s s.state timeline
    (found-some beginning_of _ s (beginnings.AtOnce timeline) is there))

pub completed-comes : (cluster : Cluster) (member : Member) (timeline : ℕ) → HasRoom cluster beginning_cost
    → option_and_then (completion_of cluster.facts.clock) (slice_get cluster.facts.servers member.id.number)
    ≡ Some (completions.Begins timeline)
    → MayCome cluster (kinds.Server (servers.Began (server_of member) timeline))
completed-comes cluster member timeline room is =
    begun-comes cluster member timeline room
    (λ s there. completes-can cluster.facts.clock s s.state timeline
    (found-some (completion_of cluster.facts.clock) _ s (completions.Begins timeline) is there))

pub with-start-comes : (cluster : Cluster) (member : Member) (server : ServerOf) → server ≡ server_of member
    → option_and_then beginning_of (slice_get cluster.facts.servers member.id.number) ≡ Some beginnings.WithItsStart
    → MayCome cluster (kinds.Server (servers.StartsAsPrimary server))
with-start-comes cluster member server server_is is =
    subst (λ (x : ServerOf). MayCome cluster (kinds.Server (servers.StartsAsPrimary x))) (sym server_is) (record {
      bare = tt;
      counts = tt;
      serves = begins-serve _ (slice_get cluster.facts.servers member.id.number)
          (λ s there. with-start-was s s.state (found-some beginning_of _ s beginnings.WithItsStart is there));
    })

pub ended-comes : (cluster : Cluster) (member : Member) (server : ServerOf) → server ≡ server_of member
    → option_and_then (completion_of cluster.facts.clock) (slice_get cluster.facts.servers member.id.number)
    ≡ Some completions.Ends
    → MayCome cluster (kinds.Server (servers.Ended server))
ended-comes cluster member server server_is is =
    subst (λ (x : ServerOf). MayCome cluster (kinds.Server (servers.Ended x))) (sym server_is) (record {
      bare = tt;
      counts = tt;
      serves = begins-serve _ (slice_get cluster.facts.servers member.id.number)
          (λ s there. completes-ends cluster.facts.clock s s.state
          (found-some (completion_of cluster.facts.clock) _ s completions.Ends is there));
    })

-- ---- what came
-- it began on this timeline, and then it was told that it lacks a commit, or wasn't
pub began-took : (cluster after : Cluster) (member : Member) (timeline : ℕ) (server : ServerOf)
    (loss : Option EventKind) (had has : Listed) → server ≡ server_of member
    → loss
    ≡ option_and_then (loss_of_any cluster.facts.acknowledged member) (slice_get cluster.facts.servers member.id.number)
    → Emits cluster after had has
    (events_of cluster (kinds.Server (servers.Began server timeline) ∷ kinds_of loss)) beginning_cost
    → Emits cluster after had has (beginning_at cluster member timeline) beginning_cost
began-took cluster after member timeline server loss had has server_is told took =
    subst (λ (es : List Event). Emits cluster after had has es beginning_cost)
    (ap (λ (x : ServerOf). events_of cluster (kinds.Server (servers.Began x timeline) ∷ kinds_of loss)) server_is
    ∙ ap (λ (o : Option EventKind).
    events_of cluster (kinds.Server (servers.Began (server_of member) timeline) ∷ kinds_of o))
    told)
    took

-- these events are those
pub as-took : (cluster after : Cluster) (had has : Listed) (events those : List Event) (cost : ℕ)
    → those ≡ events → Emits cluster after had has events cost → Emits cluster after had has those cost
as-took cluster after had has events those cost is took =
    subst (λ (es : List Event). Emits cluster after had has es cost) (sym is) took

-- one event of this server
pub server-took : (cluster after : Cluster) (had has : Listed) (those : List Event) (member : Member)
    (server : ServerOf) (kind : ServerOf → EventKind) → server ≡ server_of member
    → those ≡ event_of cluster (kind (server_of member))
    → Emits cluster after had has (event_of cluster (kind server)) 1 → Emits cluster after had has those beginning_cost
server-took cluster after had has those member server kind server_is is took =
    as-took cluster after had has (event_of cluster (kind (server_of member))) those beginning_cost is
    (Emits-weaker cluster after had has (event_of cluster (kind (server_of member))) 1 beginning_cost
    (subst (λ (x : ServerOf). Emits cluster after had has (event_of cluster (kind x)) 1) server_is took) (omega arith))

pub nothing-took : (cluster : Cluster) (had : Listed) (those : List Event) (cost : ℕ) → those ≡ []
    → Emits cluster cluster had had those cost
nothing-took cluster had those cost is =
    as-took cluster cluster had had [] those cost is (Emits-nothing cluster had cost)

-- ---- by its operator
none-if : (replica : Bool) (next : ℕ) (ks : List EventKind) → (if replica then Some next else None) ≡ None
    → (if replica then ks else []) ≡ []
none-if true next ks is = absurd (none-some next (sym is))
none-if false next ks is = refl

pub none-promoted : (cluster : Cluster) (member : Member) (found : Option ServerFacts)
    → option_and_then promoted_timeline found ≡ None → promoted_at cluster member found ≡ []
none-promoted cluster member None is = refl
none-promoted cluster member (Some s) is =
    ap (events_of cluster)
    (none-if (is_replica s.state) (s.timeline + 1)
    (kinds.Server (servers.Promoted (server_of member))
    ∷ beginning_kinds member (s.timeline + 1) cluster.facts.acknowledged s.log)
    is)

-- it is promoted first
promoted-is : (cluster : Cluster) (member : Member) (found : Option ServerFacts) (timeline : ℕ)
    → option_and_then promoted_timeline found ≡ Some timeline
    → promoted_at cluster member found
    ≡ events_of cluster (kinds.Server (servers.Promoted (server_of member)) ∷ begins_at cluster member found timeline)
promoted-is cluster member None timeline is = absurd (none-some timeline is)
promoted-is cluster member (Some s) timeline is =
    let replica = replica-if (is_replica s.state) (s.timeline + 1) timeline is in
    let told : EventKind = kinds.Server (servers.Promoted (server_of member)) in
    ap (λ (b : Bool). events_of cluster
    (if b then told ∷ beginning_kinds member (s.timeline + 1) cluster.facts.acknowledged s.log else []))
    replica.0
    ∙ ap (λ (t : ℕ). events_of cluster (told ∷ beginning_kinds member t cluster.facts.acknowledged s.log)) replica.1

-- which keeps it a replica, that may begin
pub told-comes : (cluster told : Cluster) (member : Member) (timeline : ℕ) (server : ServerOf) (had mid : Listed)
    → option_and_then promoted_timeline (slice_get cluster.facts.servers member.id.number) ≡ Some timeline
    → Emits cluster told had mid (event_of cluster (kinds.Server (servers.Promoted server))) 1
    → HasRoom cluster promotion_cost → MayCome told (kinds.Server (servers.Began (server_of member) timeline))
told-comes cluster told member timeline server had mid is one room =
    promoted-comes told member timeline (one.room beginning_cost room)
    (ap (λ (c : Cluster). option_and_then promoted_timeline (slice_get c.facts.servers member.id.number)) one.state
    ∙ is)

pub promoted-took : (cluster told after : Cluster) (member : Member) (timeline : ℕ) (server : ServerOf)
    (had mid has : Listed)
    → option_and_then promoted_timeline (slice_get cluster.facts.servers member.id.number) ≡ Some timeline
    → server ≡ server_of member
    → Emits cluster told had mid (event_of cluster (kinds.Server (servers.Promoted server))) 1
    → Emits told after mid has (beginning_at told member timeline) beginning_cost
    → Emits cluster after had has (promote_events cluster member) promotion_cost
promoted-took cluster told after member timeline server had mid has is server_is one two =
    let first =
    subst (λ (x : ServerOf). Emits cluster told had mid (event_of cluster (kinds.Server (servers.Promoted x))) 1)
    server_is one in
    as-took cluster after had has _ (promote_events cluster member) promotion_cost
    (promoted-is cluster member (slice_get cluster.facts.servers member.id.number) timeline is)
    (Emits-then cluster told after had mid has (event_of cluster (kinds.Server (servers.Promoted (server_of member))))
    (λ later. beginning_at later member timeline) 1 beginning_cost promotion_cost first two (omega arith))
