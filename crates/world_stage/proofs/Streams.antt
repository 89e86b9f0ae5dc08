-- What replicas receive and confirm, one event at a time.
use Rattle.std.proofs.Common.{◌≡◌, ℕ, ◌==◌, ◌&&◌, Bool, true, false, List, [], ◌∷◌, Option, Some, None, arith, refl, ◌∙◌, ap, sym, subst}
use Rattle.std.specs.Prelude.{slice_get, if◌then◌else◌}
use Rattle.pat_base.specs.declared.lsn.Lsn.{Lsn}
use Rattle.pat_base.specs.declared.ticks.Ticks.{Ticks}
use Rattle.pat_base.specs.Changes.{with_changed}
use Rattle.pg_model.specs.declared.answers.Streamed.{Streamed}
use Rattle.pg_model.specs.declared.answers.Streamed.TheVariants as streams
use Rattle.pg_model.specs.Facts.{ServerFacts}
use Rattle.pg_model.specs.Replication.{confirming, is_current, news_by, stream_of}
use Rattle.pg_cluster.specs.Servers.{after_news_at, news_at, news_between, streamed_at, after_streamed_from}
use Rattle.event_book.specs.declared.event.EventKind.{EventKind}
use Rattle.event_book.specs.declared.event.EventKind.TheVariants as kinds
use Rattle.event_book.specs.declared.event.LogEvent.TheVariants as logs
use Rattle.event_book.specs.declared.event.ReplicationEvent.TheVariants as replications
use Rattle.event_book.specs.declared.event.ServerEvent.TheVariants as servers
use Rattle.event_book.specs.declared.member.Member.{Member}
use Rattle.event_book.specs.declared.member.ServerOf.{ServerOf}
use Rattle.event_book.specs.Members.{server_of}
use Rattle.event_book.specs.Remote.{server_at}
use Rattle.event_book.specs.Servers.{received_by}
use Rattle.event_book.proofs.Remote.{server-listed}
use Rattle.event_list.specs.Listed.{Listed, ◌+++◌}
use Rattle.cluster_model.specs.Cluster.{cluster_after}
use Rattle.cluster_model.specs.State.{Cluster}
use Rattle.cluster_model.specs.Commands.{kinds_of}
use Rattle.cluster_model.specs.Next.{confirm_events, receive_events}
use Rattle.cluster_model.specs.Parts.{events_of}
use Rattle.world_model.specs.Room.{HasRoom}
use Rattle.cluster_model.specs.Streaming.{confirm_of, unconfirmed_end}
use Rattle.world_model.specs.Emits.{Emits}
use Rattle.world_model.proofs.Deciding.{Emits-after}
use Rattle.world_model.proofs.Rooms.{HasRoom-cluster_after, HasRoom-fewer}
use Rattle.world_model.proofs.Serving.{serving-cluster_after, serving-took}
use Rattle.world_model.proofs.Taking.{Emits-weaker}

-- a cluster with other servers
abbrev pub with_servers : Cluster → List ServerFacts → Cluster
with_servers cluster servers = record cluster { facts = record cluster.facts { servers = servers } }

abbrev confirmed : ServerOf → Member → Lsn → EventKind
confirmed server member end = kinds.Replication (replications.Confirmed server member end)

-- a replica confirmed the end of its log
pub confirm-took : (cluster : Cluster) (member from : Member) (end : Lsn) (server : ServerOf)
    (known : List ServerFacts) (tick : Ticks) (had has : Listed)
    → unconfirmed_end member (slice_get cluster.facts.servers member.id.number)
    (slice_get cluster.facts.servers from.id.number) ≡ Some end
    → server ≡ server_of from
    → known ≡ with_changed cluster.facts.servers from.id.number (confirming member.id end)
    → tick.0 ≡ cluster.facts.clock → has ≡ had +++ record { tick = tick; kind = confirmed server member end } ∷ []
    → Emits cluster (with_servers cluster known) had has (confirm_events cluster member from) 1
confirm-took cluster member from end server known tick had has is of_is told at has_is =
    subst (λ (o : Option Lsn).
    Emits cluster (with_servers cluster known) had has (events_of cluster (kinds_of (confirm_of member from o))) 1)
    (sym is)
    (serving-took cluster (with_servers cluster known)
    (confirmed (server_of from) member end) tick had has tt tt (ap (with_servers cluster) told) at
    (has_is ∙ ap (λ (s : ServerOf). had +++ record { tick = tick; kind = confirmed s member end } ∷ []) of_is))

-- there was nothing new, and the replica confirms
pub quiet-took : (cluster after : Cluster) (member from : Member) (most : ℕ) (known : List ServerFacts)
    (had has : Listed) → news_at cluster.facts.servers member.id.number from.id.number most ≡ None
    → known ≡ streamed_at cluster.facts.servers member.id.number from.id.number most
    → Emits (with_servers cluster known) after had has (confirm_events (with_servers cluster known) member from) 1
    → Emits cluster after had has
    (receive_events cluster member from (news_at cluster.facts.servers member.id.number from.id.number most)) 2
quiet-took cluster after member from most known had has none state took =
    let same : known ≡ cluster.facts.servers = state
    ∙ ap (after_news_at cluster.facts.servers member.id.number from.id.number) none in
    let confirming : Emits cluster after had has (confirm_events cluster member from) 1 =
    subst (λ (s : List ServerFacts).
    Emits (with_servers cluster s) after had has (confirm_events (with_servers cluster s) member from) 1)
    same took in
    subst (λ (o : Option Streamed). Emits cluster after had has (receive_events cluster member from o) 2) (sym none)
    (Emits-weaker cluster after had has (confirm_events cluster member from) 1 2 confirming (omega arith))

pub quiet-room : (cluster : Cluster) (member from : Member) (most : ℕ) (known : List ServerFacts)
    → news_at cluster.facts.servers member.id.number from.id.number most ≡ None
    → known ≡ streamed_at cluster.facts.servers member.id.number from.id.number most → HasRoom cluster 2
    → HasRoom (with_servers cluster known) 1
quiet-room cluster member from most known none state room =
    let same : known ≡ cluster.facts.servers = state
    ∙ ap (after_news_at cluster.facts.servers member.id.number from.id.number) none in
    subst (λ (s : List ServerFacts). HasRoom (with_servers cluster s) 1) (sym same)
    (HasRoom-fewer cluster 2 1 (omega arith) room)

no-news : (answer : Streamed) → None ≡ Some answer → ⊥
no-news answer is = cc

unless-connected : (nothing : Bool) (answer : Streamed) → (answer ≡ streams.NotConnected → ⊥)
    → (if nothing then None else Some answer) ≡ Some streams.NotConnected → ⊥
unless-connected true answer other is = no-news streams.NotConnected is
unless-connected false answer other is = other (inner is)
  where
    inner : Some answer ≡ Some streams.NotConnected → answer ≡ streams.NotConnected
    inner is = cc

connected-by : (answer : Streamed) (s upstream : ServerFacts)
    → news_by answer s upstream ≡ Some streams.NotConnected → ⊥
connected-by streams.NotConnected s upstream is = no-news streams.NotConnected is
connected-by (streams.Diverged at) s upstream is = unless-connected s.diverged (streams.Diverged at) (λ e. clash e) is
  where
    clash : streams.Diverged at ≡ streams.NotConnected → ⊥
    clash e = cc
connected-by (streams.Received count) s upstream is =
    unless-connected ((count == 0) && is_current s upstream) (streams.Received count) (λ e. clash e) is
  where
    clash : streams.Received count ≡ streams.NotConnected → ⊥
    clash e = cc

connected-between : (found upstream : Option ServerFacts) (most : ℕ)
    → news_between found upstream most ≡ Some streams.NotConnected → ⊥
connected-between None upstream most is = no-news streams.NotConnected is
connected-between (Some s) None most is = no-news streams.NotConnected is
connected-between (Some s) (Some upstream) most is = connected-by (stream_of s upstream most) s upstream is

-- that a replica isn't connected is no news
pub connected : (known : List ServerFacts) (place from most : ℕ)
    → news_at known place from most ≡ Some streams.NotConnected → ⊥
connected known place from most is = connected-between (slice_get known place) (slice_get known from) most is

diverges-from : (known : List ServerFacts) (place most : ℕ) (at : Lsn) (found upstream : Option ServerFacts)
    → news_between found upstream most ≡ Some (streams.Diverged at)
    → after_streamed_from known place (streams.Diverged at) upstream
    ≡ with_changed known place (λ s. record s { diverged = true })
diverges-from known place most at None None is = absurd (no-news (streams.Diverged at) is)
diverges-from known place most at (Some s) None is = absurd (no-news (streams.Diverged at) is)
diverges-from known place most at found (Some upstream) is = refl

-- the log of a replica diverged
pub diverged-took : (cluster : Cluster) (member from : Member) (most : ℕ) (at : Lsn)
    (server upstream : ServerOf) (known : List ServerFacts) (tick : Ticks) (had has : Listed)
    → news_at cluster.facts.servers member.id.number from.id.number most ≡ Some (streams.Diverged at)
    → known ≡ streamed_at cluster.facts.servers member.id.number from.id.number most
    → server ≡ server_of member → upstream ≡ server_of from → tick.0 ≡ cluster.facts.clock
    → has ≡ had +++ record { tick = tick; kind = kinds.Server (servers.Diverged server upstream at) } ∷ []
    → Emits cluster (with_servers cluster known) had has
    (receive_events cluster member from (news_at cluster.facts.servers member.id.number from.id.number most)) 2
diverged-took cluster member from most at server upstream known tick had has news state server_is upstream_is moment
    has_is =
    let place = member.id.number in
    let told : known ≡ with_changed cluster.facts.servers place (λ s. record s { diverged = true }) = state
    ∙ ap (after_news_at cluster.facts.servers place from.id.number) news
    ∙ diverges-from cluster.facts.servers place most at (slice_get cluster.facts.servers place)
    (slice_get cluster.facts.servers from.id.number) news in
    let kind : EventKind = kinds.Server (servers.Diverged (server_of member) (server_of from) at) in
    let written : has ≡ had +++ record { tick = tick; kind = kind } ∷ [] = has_is
    ∙ ap (λ (s : ServerOf). had +++ record { tick = tick; kind = kinds.Server (servers.Diverged s upstream at) } ∷ [])
    server_is
    ∙ ap (λ (s : ServerOf). had +++ record {
      tick = tick;
      kind = kinds.Server (servers.Diverged (server_of member) s at);
    } ∷ []) upstream_is in
    subst (λ (o : Option Streamed).
    Emits cluster (with_servers cluster known) had has (receive_events cluster member from o) 2)
    (sym news)
    (Emits-weaker cluster (with_servers cluster known) had has _ 1 2
    (serving-took cluster (with_servers cluster known) kind tick had has tt tt
    (ap (with_servers cluster) told) moment written)
    (omega arith))

-- what a replica received, as an event
abbrev pub receipt : Member → Member → ℕ → EventKind
receipt member from count = kinds.Log (logs.Received (server_of member) (server_of from) count)

receive_events-by : (known : List ServerFacts) (remote : Option ServerFacts) (place from most count : ℕ)
    (found upstream : Option ServerFacts) → slice_get known from ≡ upstream
    → news_between found upstream most ≡ Some (streams.Received count)
    → after_streamed_from known place (streams.Received count) upstream
    ≡ received_by known place count (server_at known remote from)
receive_events-by known remote place from most count None None is news = absurd (no-news (streams.Received count) news)
receive_events-by known remote place from most count (Some s) None is news =
    absurd (no-news (streams.Received count) news)
receive_events-by known remote place from most count found (Some upstream) is news =
    ap (received_by known place count) (sym (server-listed known remote from upstream is))

-- a replica received what was new
pub received-state : (cluster : Cluster) (member from : Member) (most count : ℕ) (known : List ServerFacts)
    → news_at cluster.facts.servers member.id.number from.id.number most ≡ Some (streams.Received count)
    → known ≡ streamed_at cluster.facts.servers member.id.number from.id.number most
    → with_servers cluster known ≡ cluster_after cluster (receipt member from count)
received-state cluster member from most count known news state =
    ap (with_servers cluster)
    (state ∙ ap (after_news_at cluster.facts.servers member.id.number from.id.number) news
    ∙ receive_events-by cluster.facts.servers cluster.facts.remote member.id.number from.id.number most count
    (slice_get cluster.facts.servers member.id.number) (slice_get cluster.facts.servers from.id.number) refl news)
    ∙ sym (serving-cluster_after cluster (receipt member from count) tt)

pub received-room : (cluster : Cluster) (member from : Member) (most count : ℕ) (known : List ServerFacts)
    → news_at cluster.facts.servers member.id.number from.id.number most ≡ Some (streams.Received count)
    → known ≡ streamed_at cluster.facts.servers member.id.number from.id.number most → HasRoom cluster 2
    → HasRoom (with_servers cluster known) 1
received-room cluster member from most count known news state room =
    subst (λ (c : Cluster). HasRoom c 1) (sym (received-state cluster member from most count known news state))
    (HasRoom-cluster_after cluster (receipt member from count) 1 tt room)

-- and confirms
pub received-took : (cluster after : Cluster) (member from : Member) (most count : ℕ)
    (server upstream : ServerOf) (known : List ServerFacts) (tick : Ticks) (had mid has : Listed)
    → news_at cluster.facts.servers member.id.number from.id.number most ≡ Some (streams.Received count)
    → known ≡ streamed_at cluster.facts.servers member.id.number from.id.number most
    → server ≡ server_of member → upstream ≡ server_of from → tick.0 ≡ cluster.facts.clock
    → mid ≡ had +++ record { tick = tick; kind = kinds.Log (logs.Received server upstream count) } ∷ []
    → Emits (with_servers cluster known) after mid has (confirm_events (with_servers cluster known) member from) 1
    → Emits cluster after had has
    (receive_events cluster member from (news_at cluster.facts.servers member.id.number from.id.number most)) 2
received-took cluster after member from most count server upstream known tick had mid has news state server_is
    upstream_is moment mid_is rest =
    let written : mid ≡ had +++ record { tick = tick; kind = receipt member from count } ∷ [] = mid_is
    ∙ ap (λ (s : ServerOf). had +++ record { tick = tick; kind = kinds.Log (logs.Received s upstream count) } ∷ [])
    server_is
    ∙ ap (λ (s : ServerOf). had +++ record {
      tick = tick;
      kind = kinds.Log (logs.Received (server_of member) s count);
    } ∷ []) upstream_is in
    subst (λ (o : Option Streamed). Emits cluster after had has (receive_events cluster member from o) 2) (sym news)
    (Emits-after cluster (with_servers cluster known) after had mid has tick (receipt member from count)
    (λ later. confirm_events later member from) 1 2 tt moment
    (received-state cluster member from most count known news state) written rest (omega arith))
