-- A step that brought nothing but its tick left a cluster in which nothing moves.
use Rattle.std.proofs.Common.{◌≡◌, ℕ, ◌+◌, Bool, true, false, if◌then◌else◌, List, [], ◌∷◌, ◌++◌, length, length-append, Option, Some, None, arith, append-nil, refl, ap, sym, subst, ◌∙◌}
use Rattle.std.specs.Prelude.{All, slice_get}
use Rattle.std.proofs.lemmas.List.Elements.{All-nil, All-cons}
use Rattle.pat_base.specs.declared.lsn.Lsn.{Lsn}
use Rattle.pg_model.specs.declared.answers.Streamed.{Streamed}
use Rattle.pg_model.specs.declared.answers.Streamed.TheVariants as streams
use Rattle.pg_cluster.specs.Servers.{news_at}
use Rattle.event_book.specs.declared.event.Event.{Event}
use Rattle.event_book.specs.declared.event.EventKind.TheVariants as kinds
use Rattle.event_book.specs.declared.member.Member.{Member}
use Rattle.event_list.specs.Listed.{Listed}
use Rattle.cluster_model.specs.declared.step.Step.TheVariants as steps
use Rattle.cluster_model.specs.Acknowledging.{AreAcknowledged}
use Rattle.cluster_model.specs.Cluster.{cluster_after, cluster_over}
use Rattle.cluster_model.specs.Commands.{kinds_of}
use Rattle.cluster_model.specs.Limits.{most_rounds}
use Rattle.cluster_model.specs.Next.{acknowledge_events, all_entries, next_events, receive_events, receive_events_at_most, receive_events_of, rounds_events, scheduled_events, step_events}
use Rattle.cluster_model.specs.Parts.{each, events_of, events_then, for_some}
use Rattle.cluster_model.specs.State.{Cluster}
use Rattle.cluster_model.specs.Streaming.{confirm_of, source_of, unconfirmed_end}
use Rattle.cluster_model.specs.Ticking.{completion_events, next_expiries, reset_events}
use Rattle.world_model.specs.Emits.{Emits}
use Rattle.world_model.specs.Idle.{AreCaughtUp, HasNoNewsFrom, IsNoNews, NothingMoves, ReceivesNone}
use Rattle.world_model.proofs.Rest.{empty-of, rounds_events-silent}
use Rattle.world_model.proofs.ServerRooms.{All-weaker}
use Rattle.world_model.proofs.Silence.{first-empty, no-events, round_events-kept}

-- each of them brought nothing, where all of them did
each-none : (X : Type 0) (events : Cluster → X → List Event) (cluster : Cluster) (xs : List X)
    → each events cluster xs ≡ [] → All (λ x. events cluster x ≡ []) xs
each-none X events cluster [] none = All-nil (λ (x : X). events cluster x ≡ [])
each-none X events cluster (x ∷ xs) none =
    let both = first-empty (events cluster x) (each events (cluster_over cluster (events cluster x)) xs) none in
    let rest : each events cluster xs ≡ [] =
    ap (λ (es : List Event). each events (cluster_over cluster es) xs) (sym both.0) ∙ both.1 in
    All-cons (λ (y : X). events cluster y ≡ []) x xs both.0 (each-none X events cluster xs rest)

unconfirmed-none : (cluster : Cluster) (member from : Member) (unconfirmed : Option Lsn)
    → events_of cluster (kinds_of (confirm_of member from unconfirmed)) ≡ [] → unconfirmed ≡ None
unconfirmed-none cluster member from None none = refl
unconfirmed-none cluster member from (Some end) none = no-events _ _ none

no-news : (cluster : Cluster) (member from : Member) (news : Option Streamed)
    → receive_events cluster member from news ≡ []
    → IsNoNews news
    (unconfirmed_end member (slice_get cluster.facts.servers member.id.number)
    (slice_get cluster.facts.servers from.id.number))
no-news cluster member from None none = unconfirmed-none cluster member from
    (unconfirmed_end member (slice_get cluster.facts.servers member.id.number)
    (slice_get cluster.facts.servers from.id.number))
    none
no-news cluster member from (Some streams.NotConnected) none = tt
no-news cluster member from (Some (streams.Diverged at)) none = no-events _ _ none
no-news cluster member from (Some (streams.Received count)) none = no-events _ _ none

no-source : (cluster : Cluster) (member : Member) (source : Option Member)
    → for_some source
    (λ from.
    receive_events cluster member from (news_at cluster.facts.servers member.id.number from.id.number all_entries))
    ≡ []
    → HasNoNewsFrom cluster.facts.servers member source
no-source cluster member None none = tt
no-source cluster member (Some from) none =
    no-news cluster member from (news_at cluster.facts.servers member.id.number from.id.number all_entries) none

receives-none : (cluster : Cluster) (member : Member) (frozen : Option Bool)
    → for_some frozen (λ is_frozen. if is_frozen then [] else receive_events_at_most cluster all_entries member) ≡ []
    → ReceivesNone cluster.facts.members cluster.facts.servers cluster.facts.cuts member frozen
receives-none cluster member None none = tt
receives-none cluster member (Some true) none = tt
receives-none cluster member (Some false) none =
    no-source cluster member (source_of cluster.facts.members cluster.facts.servers cluster.facts.cuts member) none

-- where nothing was received, all have caught up
pub received-all : (cluster : Cluster) → each receive_events_of cluster cluster.facts.members ≡ [] → AreCaughtUp cluster
received-all cluster none =
    All-weaker Member (λ (m : Member). receive_events_of cluster m ≡ [])
    (λ (m : Member). ReceivesNone cluster.facts.members cluster.facts.servers cluster.facts.cuts m
    (slice_get cluster.facts.frozen m.id.number))
    cluster.facts.members
    (λ m received. receives-none cluster m (slice_get cluster.facts.frozen m.id.number) received)
    (each-none Member receive_events_of cluster cluster.facts.members none)

-- nothing moves where nothing was received, no round brought anything, and no commit may be acknowledged
still-if : (cluster : Cluster) → scheduled_events cluster ≡ []
    → AreAcknowledged cluster.facts.members cluster.facts.servers → NothingMoves cluster
still-if cluster none done =
    let received = each receive_events_of cluster cluster.facts.members in
    let both = first-empty received (rounds_events (cluster_over cluster received) most_rounds) none in
    let rounds : rounds_events cluster most_rounds ≡ [] =
    ap (λ (es : List Event). rounds_events (cluster_over cluster es) most_rounds) (sym both.0) ∙ both.1 in
    record {
      messages = round_events-kept cluster (rounds_events-silent cluster rounds);
      replicas = received-all cluster both.0;
      commits = done;
    }

-- a list of one event is that event
one-event : (event : Event) (first second third : List Event)
    → length (((event ∷ first) ++ second) ++ third) ≡ 1 → (first ≡ []) × (second ≡ []) × (third ≡ [])
one-event event first second third one =
    let whole : length first + length second + length third ≡ 0 =
    omega (arith, one, length-append ((event ∷ first) ++ second) third, length-append (event ∷ first) second) in (
      (empty-of first (omega (arith, whole))).1,
      (empty-of second (omega (arith, whole))).1,
      (empty-of third (omega (arith, whole))).1,
    )

-- what a tick brings beside itself
abbrev tick_rest : Cluster → List Event
tick_rest cluster =
    events_then (cluster_after cluster kinds.Tick)
    (each reset_events (cluster_after cluster kinds.Tick) cluster.facts.members) (λ reset.
    events_then reset (events_of reset (next_expiries cluster)) (λ expired.
    each completion_events expired expired.facts.members))

-- a step of the default schedule that brought one event brought its tick alone, and nothing moves behind it
pub tick-alone : (before after : Cluster) (had has : Listed) (cost : ℕ) → had.items ≡ []
    → length has.items ≡ 1 → Emits before after had has (next_events before steps.Scheduled) cost
    → AreAcknowledged after.facts.members after.facts.servers
    → NothingMoves after
tick-alone before after had has cost none one took done =
    let ticked = cluster_after before kinds.Tick in
    let rest = tick_rest before in
    let scheduled = scheduled_events (cluster_over ticked rest) in
    let played = step_events before steps.Scheduled in
    let acks = each acknowledge_events (cluster_over before played) (cluster_over before played).facts.members in
    let event : Event = record { tick = record { 0 = ticked.facts.clock }; kind = kinds.Tick } in
    let whole : has.items ≡ next_events before steps.Scheduled = ap (λ (l : Listed). l.items) took.event
    ∙ ap (λ (es : List Event). es ++ next_events before steps.Scheduled) none in
    let parts = one-event event rest scheduled acks (ap length (sym whole) ∙ one) in
    let silent : scheduled_events ticked ≡ [] =
    ap (λ (es : List Event). scheduled_events (cluster_over ticked es)) (sym parts.0) ∙ parts.1 in
    let state : after ≡ ticked = took.state
    ∙ ap (λ (es : List Event). cluster_over before (((event ∷ rest) ++ scheduled) ++ es)) parts.2
    ∙ ap (cluster_over before) (append-nil ((event ∷ rest) ++ scheduled))
    ∙ ap (λ (es : List Event). cluster_over before ((event ∷ rest) ++ es)) parts.1
    ∙ ap (λ (es : List Event). cluster_over before ((event ∷ es) ++ [])) parts.0 in
    let acknowledged = subst (λ (c : Cluster). AreAcknowledged c.facts.members c.facts.servers) state done in
    subst NothingMoves (sym state) (still-if ticked silent acknowledged)
