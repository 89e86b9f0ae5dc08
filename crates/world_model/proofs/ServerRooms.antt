-- Timelines of servers, and commits, each of which an event counts up by one at most.
use Rattle.std.proofs.Common.{◌≡◌, ℕ, ◌+◌, ◌^◌, ◌≤◌, ◌<◌, nat_le, ◌==◌, ◌&&◌, Bool, true, false, cond, List, [], All, Option, Some, None, map, arith, refl, subst}
use Rattle.std.specs.Prelude.{slice_get, if◌then◌else◌, IfSome}
use Rattle.std.proofs.lemmas.List.Elements.{All-map, All-set}
use Rattle.std.proofs.lemmas.Option.{none-some, slice_get_within, get_or_from_slice_get}
use Rattle.pat_base.specs.declared.member_id.TheConstants.{MOST_MEMBERS}
use Rattle.wal_model.specs.declared.entry.Entry.{Entry}
use Rattle.pat_base.specs.declared.server_id.ServerId.{ServerId}
use Rattle.pat_base.specs.declared.server_state.State.{State}
use Rattle.pat_base.specs.declared.server_state.State.TheVariants as states
use Rattle.pat_base.specs.declared.ticks.Ticks.{Ticks}
use Rattle.pat_base.specs.Changes.{changed_at, with_changed}
use Rattle.pat_base.specs.ServerState.{live}
use Rattle.pg_model.specs.Facts.{ServerFacts, is_creating, is_down}
use Rattle.pg_model.specs.Replication.{received_from}
use Rattle.pg_model.specs.Rewinding.{cloned, is_rewindable, rewound_to}
use Rattle.pg_model.specs.Running.{completed, is_primary, primary_started, replica_started, started, stopped, stopping, ticked, wiped, ticked_unless_live}
use Rattle.event_book.specs.declared.event.EventKind.{EventKind}
use Rattle.event_book.specs.declared.event.EventKind.TheVariants as kinds
use Rattle.event_book.specs.declared.event.LogEvent.{LogEvent}
use Rattle.event_book.specs.declared.event.LogEvent.TheVariants as logs
use Rattle.event_book.specs.declared.event.ReplicationEvent.{ReplicationEvent}
use Rattle.event_book.specs.declared.event.ReplicationEvent.TheVariants as replications
use Rattle.event_book.specs.declared.event.ServerEvent.{ServerEvent}
use Rattle.event_book.specs.declared.event.ServerEvent.TheVariants as servers
use Rattle.event_book.specs.declared.event.WatchdogEvent.{WatchdogEvent}
use Rattle.event_book.specs.declared.event.WatchdogEvent.TheVariants as watchdogs
use Rattle.event_book.specs.Acknowledged.{commits_after}
use Rattle.event_book.specs.Remote.{listed_or_remote, server_at}
use Rattle.event_book.specs.Servers.{becomes_copy, begun_in, copied_by, cut_to, goes_back, loses_log, received_by, replica_starts_in, servers_after, servers_by, servers_by_log, servers_by_replication, servers_by_watchdog, remote_after, remote_by_log, supplied, starts_as_primary, starts_as_replica, starts_slowly, stops, stops_quietly}
use Rattle.world_model.specs.Comes.{CountsLog}

-- what holds of each element holds of one
pub All-at : (X : Type 0) (P : X → Type 0) (xs : List X) (n : ℕ) (x : X) → All P xs → slice_get xs n ≡ Some x → P x
All-at X P xs n x all is = subst P (get_or_from_slice_get xs n x x is) (all n x (slice_get_within xs n x is))

pub All-weaker : (X : Type 0) (P Q : X → Type 0) (xs : List X) → ((x : X) → P x → Q x) → All P xs → All Q xs
All-weaker X P Q xs so all k d h = so _ (all k d h)

with-all_at : (P Q : ServerFacts → Type 0) (servers : List ServerFacts) (place : ℕ)
    (change : ServerFacts → ServerFacts) (found : Option ServerFacts) → slice_get servers place ≡ found → All P servers
    → ((s : ServerFacts) → P s → Q s) → ((s : ServerFacts) → P s → Q (change s))
    → All Q (changed_at servers place change found)
with-all_at P Q servers place change None is all weaker at = All-weaker ServerFacts P Q servers weaker all
with-all_at P Q servers place change (Some s) is all weaker at = All-set Q servers place (change s)
    (at s (All-at ServerFacts P servers place s all is)) (All-weaker ServerFacts P Q servers weaker all)

-- what holds of each server holds with one changed
pub with-all : (P Q : ServerFacts → Type 0) (servers : List ServerFacts) (place : ℕ)
    (change : ServerFacts → ServerFacts) → All P servers
    → ((s : ServerFacts) → P s → Q s) → ((s : ServerFacts) → P s → Q (change s))
    → All Q (with_changed servers place change)
with-all P Q servers place change all weaker at =
    with-all_at P Q servers place change (slice_get servers place) refl all weaker at

map-all : (P Q : ServerFacts → Type 0) (change : ServerFacts → ServerFacts) (servers : List ServerFacts)
    → All P servers → ((s : ServerFacts) → P s → Q (change s)) → All Q (map change servers)
map-all P Q change servers all at =
    All-map Q change servers (All-weaker ServerFacts P (λ s. Q (change s)) servers at all)

abbrev pub HasTimeline : ℕ → ServerFacts → Type 0
HasTimeline events s = s.timeline + events < 2 ^ 60

-- a timeline has room for so many more
timeline-fewer : (events : ℕ) (s : ServerFacts) → HasTimeline (1 + events) s → HasTimeline events s
timeline-fewer events s room = omega (arith, room)

timeline-as : (events : ℕ) (s t : ServerFacts) → t.timeline ≡ s.timeline → HasTimeline (1 + events) s
    → HasTimeline events t
timeline-as events s t same room = omega (arith, room, same)

begun-timeline : (state : State) (s : ServerFacts) → (begun_in state s).timeline ≤ s.timeline + 1
begun-timeline states.Replica s = omega arith
begun-timeline _ s = omega arith

started-timeline : (as_primary : Bool) (s : ServerFacts) → (started as_primary s).timeline ≡ s.timeline
started-timeline true s = refl
started-timeline false s = refl

starting-if : (as_primary : Bool) (now : Ticks) (s : ServerFacts) (at_once : Bool)
    → (if at_once then started as_primary s else record s {
      state = states.Starting as_primary (record { 0 = now.0 + s.start_delay.0 });
    }).timeline ≡ s.timeline
starting-if as_primary now s true = started-timeline as_primary s
starting-if as_primary now s false = refl

replica-timeline : (now : Ticks) (upstream : Option ServerId) (s : ServerFacts)
    → (replica_started now upstream s).timeline ≡ s.timeline
replica-timeline now upstream s =
    starting-if false now (record s { upstream = upstream; was_primary = false }) (s.start_delay.0 == 0)

starts-in : (now : Ticks) (state : State) (s : ServerFacts) → (replica_starts_in state now s).timeline ≡ s.timeline
starts-in now states.Stopped s = replica-timeline now None s
starts-in now states.Crashed s = replica-timeline now None s
starts-in now states.Replica s = replica-timeline now s.upstream s
starts-in now _ s = refl

stopping-if : (now : Ticks) (s : ServerFacts) (at_once : Bool) → (if at_once then stopped s else record s {
  state = states.Stopping (is_primary s.state) (record { 0 = now.0 + s.stop_delay.0 });
}).timeline ≡ s.timeline
stopping-if now s true = refl
stopping-if now s false = refl

stops-if : (now : ℕ) (s : ServerFacts) (quiet : Bool)
    → (if quiet then stopping (record { 0 = now }) s else s).timeline ≡ s.timeline
stops-if now s true = stopping-if (record { 0 = now }) s (s.stop_delay.0 == 0)
stops-if now s false = refl

again-if : (now : ℕ) (s : ServerFacts) (slow : Bool)
    → (if slow then primary_started (record { 0 = now }) s else s).timeline ≡ s.timeline
again-if now s true = starting-if true (record { 0 = now }) s (s.start_delay.0 == 0)
again-if now s false = refl

completed-if : (as_primary : Bool) (s : ServerFacts) (due : Bool)
    → (if due then started as_primary s else s).timeline ≡ s.timeline
completed-if as_primary s true = started-timeline as_primary s
completed-if as_primary s false = refl

stopped-if : (s : ServerFacts) (due : Bool)
    → (if due then record s { state = states.Stopped; waiting = [] } else s).timeline ≡ s.timeline
stopped-if s true = refl
stopped-if s false = refl

completed-timeline : (now : Ticks) (state : State) (s : ServerFacts) → (completed now state s).timeline ≡ s.timeline
completed-timeline now (states.Starting as_primary at) s = completed-if as_primary s (nat_le at.0 now.0)
completed-timeline now (states.Stopping was_primary at) s = stopped-if s (nat_le at.0 now.0)
completed-timeline now _ s = refl

quiet-if : (now : Ticks) (s : ServerFacts) (is_live : Bool)
    → (if is_live then s else ticked now s).timeline ≡ s.timeline
quiet-if now s true = refl
quiet-if now s false = completed-timeline now s.state s

abbrev Roomy : ℕ → List ServerFacts → Type 0
Roomy events known = All (HasTimeline events) known

abbrev HasRemote : ℕ → Option ServerFacts → Type 0
HasRemote events remote = IfSome remote (HasTimeline events)

some-same : (s t : ServerFacts) → Some s ≡ Some t → s ≡ t
some-same s t is = cc

-- what holds of each server in the list and of the remote holds of whichever is found
remote-holds : (P : ServerFacts → Type 0) (remote s : ServerFacts) (own : Bool) → P remote
    → cond own (Some remote) None ≡ Some s → P s
remote-holds P remote s true holds is = subst P (some-same remote s is) holds
remote-holds P remote s false holds is = absurd (none-some s is)

either-holds : (P : ServerFacts → Type 0) (remote s : ServerFacts) (n : ℕ) (found : Option ServerFacts) → P remote
    → ((listed : ServerFacts) → found ≡ Some listed → P listed) → listed_or_remote remote n found ≡ Some s → P s
either-holds P remote s n (Some listed) holds all is = all s is
either-holds P remote s n None holds all is = remote-holds P remote s (n == MOST_MEMBERS) holds is

found-holds : (P : ServerFacts → Type 0) (known : List ServerFacts) (remote : Option ServerFacts) (n : ℕ)
    (s : ServerFacts) → All P known → IfSome remote P → server_at known remote n ≡ Some s → P s
found-holds P known None n s all holds is = All-at ServerFacts P known n s all is
found-holds P known (Some remote) n s all holds is =
    either-holds P remote s n (slice_get known n) holds (λ listed at. All-at ServerFacts P known n listed all at) is

with-same : (events : ℕ) (known : List ServerFacts) (place : ℕ) (change : ServerFacts → ServerFacts)
    → ((s : ServerFacts) → (change s).timeline ≡ s.timeline) → Roomy (1 + events) known
    → Roomy events (with_changed known place change)
with-same events known place change same all =
    with-all (HasTimeline (1 + events)) (HasTimeline events) known place change all (timeline-fewer events)
    (λ s room. timeline-as events s (change s) (same s) room)

fewer : (events : ℕ) (known : List ServerFacts) → Roomy (1 + events) known → Roomy events known
fewer events known all =
    All-weaker ServerFacts (HasTimeline (1 + events)) (HasTimeline events) known (timeline-fewer events) all

room-by : (now events : ℕ) (known : List ServerFacts) (happening : ServerEvent) → Roomy (1 + events) known
    → Roomy events (servers_by now known happening)
room-by now events known (servers.Began server timeline) all =
    with-all (HasTimeline (1 + events)) (HasTimeline events) known server.id.number (λ s. begun_in s.state s) all
    (timeline-fewer events) (λ s room. omega (arith, room, begun-timeline s.state s))
room-by now events known (servers.Ended server) all = with-same events known server.id.number _ (λ s. refl) all
room-by now events known (servers.Crashed server) all = with-same events known server.id.number _ (λ s. refl) all
room-by now events known (servers.Stops server) all =
    with-same events known server.id.number (stops now) (λ s. stops-if now s (stops_quietly s)) all
room-by now events known (servers.StartsAsPrimary server) all = with-same events known server.id.number
    (starts_as_primary now) (λ s. again-if now s (is_down s.state && starts_slowly s)) all
room-by now events known (servers.StartsAsReplica server) all =
    with-same events known server.id.number (starts_as_replica now) (λ s. starts-in (record { 0 = now }) s.state s) all
room-by now events known (servers.Follows server upstream) all =
    with-same events known server.id.number _ (λ s. refl) all
room-by now events known (servers.Diverged server upstream at) all =
    with-same events known server.id.number _ (λ s. refl) all
room-by now events known (servers.Slowed server stop start) all =
    with-same events known server.id.number _ (λ s. refl) all
room-by now events known _ all = fewer events known all

room-received : (events : ℕ) (known : List ServerFacts) (remote : Option ServerFacts) (number from count : ℕ)
    (found : Option ServerFacts) → server_at known remote from ≡ found → Roomy (1 + events) known
    → HasRemote (1 + events) remote → Roomy events (received_by known number count found)
room-received events known remote number from count None is all holds = fewer events known all
room-received events known remote number from count (Some upstream) is all holds =
    let roomy = found-holds (HasTimeline (1 + events)) known remote from upstream all holds is in
    with-all (HasTimeline (1 + events)) (HasTimeline events) known number
    (λ s. received_from count s upstream) all (timeline-fewer events) (λ s room. omega (arith, roomy))

-- a server that is rewound or cloned has its source's timeline
back-if : (events kept : ℕ) (source s : ServerFacts) (may : Bool) → HasTimeline (1 + events) source
    → HasTimeline (1 + events) s → HasTimeline events (if may then rewound_to kept s source else cut_to kept s)
back-if events kept source s true theirs own = omega (arith, theirs)
back-if events kept source s false theirs own = omega (arith, own)

room-back : (events : ℕ) (known : List ServerFacts) (remote : Option ServerFacts) (number from kept : ℕ)
    (found : Option ServerFacts) → server_at known remote from ≡ found → Roomy (1 + events) known
    → HasRemote (1 + events) remote → Roomy events (with_changed known number (goes_back kept found))
room-back events known remote number from kept None is all holds =
    with-same events known number (goes_back kept None) (λ s. refl) all
room-back events known remote number from kept (Some source) is all holds =
    let roomy = found-holds (HasTimeline (1 + events)) known remote from source all holds is in
    with-all (HasTimeline (1 + events)) (HasTimeline events) known number (goes_back kept (Some source)) all
    (timeline-fewer events) (λ s room. back-if events kept source s (is_rewindable s.state) roomy room)

copy-if : (events : ℕ) (source s : ServerFacts) (may : Bool) → HasTimeline (1 + events) source
    → HasTimeline (1 + events) s → HasTimeline events (if may then cloned s source else record s { log = source.log })
copy-if events source s true theirs own = omega (arith, theirs)
copy-if events source s false theirs own = omega (arith, own)

room-copied : (events : ℕ) (known : List ServerFacts) (remote : Option ServerFacts) (number from : ℕ)
    (found : Option ServerFacts) → server_at known remote from ≡ found → Roomy (1 + events) known
    → HasRemote (1 + events) remote → Roomy events (copied_by known number found)
room-copied events known remote number from None is all holds = fewer events known all
room-copied events known remote number from (Some source) is all holds =
    let roomy = found-holds (HasTimeline (1 + events)) known remote from source all holds is in
    with-all (HasTimeline (1 + events)) (HasTimeline events) known number (becomes_copy source) all
    (timeline-fewer events) (λ s room. copy-if events source s (is_creating s.state) roomy room)

lost-if : (s : ServerFacts) (is_live : Bool)
    → (if is_live then record s { log = None } else wiped s).timeline ≡ s.timeline
lost-if s true = refl
lost-if s false = refl

room-logged : (events : ℕ) (known : List ServerFacts) (remote : Option ServerFacts) (happening : LogEvent)
    → Roomy (1 + events) known → HasRemote (1 + events) remote → Roomy events (servers_by_log known remote happening)
room-logged events known remote (logs.Appended server entry) all holds =
    with-same events known server.id.number _ (λ s. refl) all
room-logged events known remote (logs.Received server from count) all holds =
    room-received events known remote server.id.number from.id.number count (server_at known remote from.id.number)
    refl all holds
room-logged events known remote (logs.Rewound server from kept at) all holds =
    room-back events known remote server.id.number from.id.number kept (server_at known remote from.id.number)
    refl all holds
room-logged events known remote (logs.Copied server from) all holds =
    room-copied events known remote server.id.number from.id.number (server_at known remote from.id.number)
    refl all holds
room-logged events known remote (logs.Wiped server) all holds =
    with-same events known server.id.number loses_log (λ s. lost-if s (live s.state)) all

room-replicated : (events : ℕ) (known : List ServerFacts) (happening : ReplicationEvent)
    → Roomy (1 + events) known → Roomy events (servers_by_replication known happening)
room-replicated events known (replications.RequiredSet server required names) all =
    with-same events known server.id.number _ (λ s. refl) all
room-replicated events known (replications.Confirmed server by end) all =
    with-same events known server.id.number _ (λ s. refl) all
room-replicated events known (replications.Acknowledged server commit) all =
    with-same events known server.id.number _ (λ s. refl) all
room-replicated events known (replications.Lacks server) all = fewer events known all

room-watched : (events : ℕ) (known : List ServerFacts) (happening : WatchdogEvent) → Roomy (1 + events) known
    → Roomy events (servers_by_watchdog known happening)
room-watched events known (watchdogs.Reset member) all = with-same events known member.id.number _ (λ s. refl) all
room-watched events known _ all = fewer events known all

-- one more event takes the room of one timeline
pub servers-room : (now events : ℕ) (known : List ServerFacts) (remote : Option ServerFacts) (kind : EventKind)
    → All (HasTimeline (1 + events)) known → IfSome remote (HasTimeline (1 + events))
    → All (HasTimeline events) (servers_after now known remote kind)
servers-room now events known remote kinds.Tick all holds =
    map-all (HasTimeline (1 + events)) (HasTimeline events) (ticked_unless_live (record { 0 = now })) known all
    (λ s room. timeline-as events s (ticked_unless_live (record { 0 = now }) s)
    (quiet-if (record { 0 = now }) s (live s.state)) room)
servers-room now events known remote (kinds.Watchdog happening) all holds = room-watched events known happening all
servers-room now events known remote (kinds.Server happening) all holds = room-by now events known happening all
servers-room now events known remote (kinds.Log happening) all holds =
    room-logged events known remote happening all holds
servers-room now events known remote (kinds.Replication happening) all holds =
    room-replicated events known happening all
servers-room now events known remote _ all holds = fewer events known all

-- a bound on the remote's timeline is a greater one too
pub remote-weaker : (P Q : ServerFacts → Type 0) (remote : Option ServerFacts) → ((s : ServerFacts) → P s → Q s)
    → IfSome remote P → IfSome remote Q
remote-weaker P Q None weaker holds = holds
remote-weaker P Q (Some s) weaker holds = weaker s holds

supplied-timeline : (entry : Entry) (s : ServerFacts) (own : Bool)
    → (cond own (supplied entry s) s).timeline ≡ s.timeline
supplied-timeline entry s true = refl
supplied-timeline entry s false = refl

remote-logged : (events : ℕ) (remote : Option ServerFacts) (happening : LogEvent) → HasRemote events remote
    → HasRemote events (remote_by_log remote happening)
remote-logged events None (logs.Appended server entry) holds = holds
remote-logged events (Some s) (logs.Appended server entry) holds =
    let same = supplied-timeline entry s (server.id.number == MOST_MEMBERS) in omega (arith, holds, same)
remote-logged events remote _ holds = holds

-- no event changes it
pub remote-room : (events : ℕ) (remote : Option ServerFacts) (kind : EventKind) → IfSome remote (HasTimeline events)
    → IfSome (remote_after remote kind) (HasTimeline events)
remote-room events remote (kinds.Log happening) holds = remote-logged events remote happening holds
remote-room events remote _ holds = holds

log-more : (last : ℕ) (happening : LogEvent) → CountsLog last happening
    → commits_after last (kinds.Log happening) ≤ last + 1
log-more last (logs.Appended server entry) counts = counts
log-more last _ counts = omega arith

abbrev pub CountsCommit : ℕ → EventKind → Type 0
CountsCommit last (kinds.Log happening) = CountsLog last happening
CountsCommit last _ = Unit {0}

pub commits-more : (last : ℕ) (kind : EventKind) → CountsCommit last kind → commits_after last kind ≤ last + 1
commits-more last (kinds.Log happening) counts = log-more last happening counts
commits-more last _ counts = omega arith
