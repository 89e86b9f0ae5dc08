-- Servers that have caught up with whom they follow, commits that are all acknowledged, and what leaves them so.
use Rattle.std.proofs.Common.{◌≡◌, ◌&&◌, not, ℕ, Bool, false, List, [], ◌∷◌, All, drop, length, length-append, slice_get, arith, true≢false, ap, sym, subst, ◌∙◌}
use Rattle.std.proofs.Math.Seq.{drop-append_seam}
use Rattle.std.proofs.lemmas.Bool.{and_parts, not-true, or_parts}
use Rattle.pg_model.specs.Facts.{ServerFacts}
use Rattle.event_book.specs.declared.event.Event.{Event}
use Rattle.event_book.specs.declared.event.EventKind.{EventKind}
use Rattle.event_book.specs.declared.event.EventKind.TheVariants as kinds
use Rattle.event_book.specs.declared.event.WatchdogEvent.TheVariants as watchdogs
use Rattle.event_book.specs.declared.member.Member.{Member}
use Rattle.event_book.specs.Links.{CutLinks}
use Rattle.event_list.specs.Listed.{Listed}
use Rattle.event_list.specs.Marks.{stir_replicas, stirs_replicas}
use Rattle.cluster_model.specs.Acknowledging.{AreAcknowledged}
use Rattle.cluster_model.specs.Cluster.{cluster_after, cluster_over}
use Rattle.cluster_model.specs.Next.{acknowledge_events, receive_events_of}
use Rattle.cluster_model.specs.Parts.{each}
use Rattle.cluster_model.specs.State.{Cluster}
use Rattle.world_model.specs.Emits.{Emits}
use Rattle.world_model.specs.Idle.{AreCaughtUp, AreSettled, IfCaughtUp, IfSettled, ReceivesNone, at_moment}
use Rattle.world_model.proofs.Idling.{acknowledged-none, received-none}
use Rattle.world_model.proofs.Rest.{empty-of}
use Rattle.world_model.proofs.Stillness.{received-all}
use Rattle.world_model.proofs.Taking.{Emits-nothing}

-- ---- a claim about servers and links
abbrev Claim : Type 1
Claim = List Member → List ServerFacts → CutLinks → List Bool → Type 0

-- it holds of a cluster
abbrev HoldsOf : Claim → Cluster → Type 0
HoldsOf Of cluster = Of cluster.facts.members cluster.facts.servers cluster.facts.cuts cluster.facts.frozen

-- what changes neither servers nor links leaves it so
left-after : (Of : Claim) (cluster : Cluster) (kind : EventKind) → stirs_replicas kind ≡ false
    → HoldsOf Of cluster → HoldsOf Of (cluster_after cluster kind)
left-after Of cluster kinds.Tick isnt holds = absurd (true≢false isnt)
left-after Of cluster (kinds.Watchdog (watchdogs.Reset member)) isnt holds = absurd (true≢false isnt)
left-after Of cluster (kinds.Server happening) isnt holds = absurd (true≢false isnt)
left-after Of cluster (kinds.Log happening) isnt holds = absurd (true≢false isnt)
left-after Of cluster (kinds.Replication happening) isnt holds = absurd (true≢false isnt)
left-after Of cluster (kinds.Link happening) isnt holds = absurd (true≢false isnt)
left-after Of cluster _ isnt holds = holds

left-over : (Of : Claim) (cluster : Cluster) (events : List Event) → stir_replicas events ≡ false
    → HoldsOf Of cluster → HoldsOf Of (cluster_over cluster events)
left-over Of cluster [] isnt holds = holds
left-over Of cluster (event ∷ events) isnt holds =
    let both = or_parts (stirs_replicas event.kind) (stir_replicas events) isnt in
    left-over Of (cluster_after cluster event.kind) events both.1 (left-after Of cluster event.kind both.0 holds)

-- and so do parts of a step that bring nothing else: it holds behind such a
-- part where it did before, and the events behind a place are those of the part
left-behind : (Of : Claim) (before after : Cluster) (had has : Listed) (events : List Event) (cost from : ℕ)
    → Emits before after had has events cost → from ≡ length had.items
    → stir_replicas (drop from has.items) ≡ false → HoldsOf Of before → HoldsOf Of after
left-behind Of before after had has events cost from took is isnt holds =
    let behind : drop from has.items ≡ events = ap (λ (n : ℕ). drop n has.items) is
    ∙ ap (λ (l : Listed). drop (length had.items) l.items) took.event ∙ drop-append_seam had.items events in
    subst (HoldsOf Of) (sym took.state) (left-over Of before events (sym (ap stir_replicas behind) ∙ isnt) holds)

-- ---- what is known of them behind a part of a step
abbrev catching_up : Claim
catching_up members servers cuts frozen =
    All (λ member. ReceivesNone members servers cuts member (slice_get frozen member.id.number)) members

abbrev settling : Claim
settling members servers cuts frozen = catching_up members servers cuts frozen × AreAcknowledged members servers

-- whether all servers have caught up
pub caught-up-behind : (before after : Cluster) (had has : Listed) (events : List Event) (cost from : ℕ)
    (known told : Bool) → Emits before after had has events cost → from ≡ length had.items
    → told ≡ (known && not (stir_replicas (drop from has.items))) → IfCaughtUp known before → IfCaughtUp told after
caught-up-behind before after had has events cost from known told took is so caught_up still =
    let both = and_parts known (not (stir_replicas (drop from has.items))) (sym so ∙ still) in
    left-behind catching_up before after had has events cost from took is
    (not-true (stir_replicas (drop from has.items)) both.1) (caught_up both.0)

-- whether all is settled, where it was before
pub settled-behind : (before after : Cluster) (had has : Listed) (events : List Event) (cost from : ℕ)
    (settled known told : Bool) → Emits before after had has events cost → from ≡ length had.items
    → told ≡ (known && not (stir_replicas (drop from has.items))) → IfSettled settled before
    → IfSettled (settled && told) after
settled-behind before after had has events cost from settled known told took is so was still =
    let both = and_parts settled told still in
    let quiet = and_parts known (not (stir_replicas (drop from has.items))) (sym so ∙ both.1) in
    left-behind settling before after had has events cost from took is
    (not-true (stir_replicas (drop from has.items)) quiet.1) (was both.0)

-- nor does it matter what the clock says
pub later-settled : (cluster after : Cluster) (now : ℕ) (known : Bool) → after ≡ at_moment cluster now
    → IfSettled known cluster → IfSettled known after
later-settled cluster after now known is settled = λ so. subst AreSettled (sym is) (settled so)

-- ---- where all is settled
-- nothing is received
pub none-received : (cluster : Cluster) (had : Listed) (cost : ℕ) → AreCaughtUp cluster
    → Emits cluster cluster had had (each receive_events_of cluster cluster.facts.members) cost
none-received cluster had cost caught_up = subst (λ (es : List Event). Emits cluster cluster had had es cost)
    (sym (received-none cluster caught_up)) (Emits-nothing cluster had cost)

-- so all stays settled
pub received-settled : (before after : Cluster) (had has : Listed) (cost : ℕ) (known : Bool)
    → Emits before after had has (each receive_events_of before before.facts.members) cost
    → IfSettled known before → IfSettled known after
received-settled before after had has cost known took settled = λ so.
    let still : after ≡ before = took.state ∙ ap (cluster_over before) (received-none before (settled so).0) in
    subst AreSettled (sym still) (settled so)

-- nothing is acknowledged
pub none-acknowledged : (cluster : Cluster) (had : Listed) (cost : ℕ)
    → AreAcknowledged cluster.facts.members cluster.facts.servers
    → Emits cluster cluster had had (each acknowledge_events cluster cluster.facts.members) cost
none-acknowledged cluster had cost done = subst (λ (es : List Event). Emits cluster cluster had had es cost)
    (sym (acknowledged-none cluster done)) (Emits-nothing cluster had cost)

-- and where nothing was received, all have caught up
pub caught-up-where : (before after : Cluster) (had has : Listed) (cost : ℕ)
    → Emits before after had has (each receive_events_of before before.facts.members) cost
    → length has.items ≡ length had.items → AreCaughtUp after
caught-up-where before after had has cost took same =
    let events = each receive_events_of before before.facts.members in
    let none : events ≡ [] =
    (empty-of events
    (omega (arith, same, ap (λ (l : Listed). length l.items) took.event, length-append had.items events))).1 in
    let still : after ≡ before = took.state ∙ ap (cluster_over before) none in
    subst AreCaughtUp (sym still) (received-all before none)
