-- Each event leaves each server sound.
use Rattle.std.proofs.Common.{ℕ, ◌≡◌, ◌+◌, Bool, true, false, cond, List, slice_get, Option, Some, None, refl, ◌∙◌, ap, sym, subst, arith}
use Rattle.pat_base.specs.Changes.{with_changed}
use Rattle.pat_base.specs.declared.server_state.State.{State}
use Rattle.pat_base.specs.declared.server_state.State.TheVariants as states
use Rattle.pat_base.specs.ServerState.{writes, live}
use Rattle.wal_model.specs.declared.entry.Entry.{Entry}
use Rattle.pg_model.specs.Facts.{ServerFacts, has_data, is_creating}
use Rattle.pg_model.specs.Replication.{appended, following, received_from}
use Rattle.pg_model.specs.Rewinding.{cloned, is_rewindable, rewound_to}
use Rattle.pg_model.specs.Running.{crashed, delayed, stopped, wiped, ticked_unless_live}
use Rattle.event_book.specs.declared.event.EventKind.{EventKind}
use Rattle.event_book.specs.declared.event.EventKind.TheVariants as kinds
use Rattle.event_book.specs.declared.event.LogEvent.{LogEvent}
use Rattle.event_book.specs.declared.event.LogEvent.TheVariants as logs
use Rattle.event_book.specs.declared.event.ReplicationEvent.{ReplicationEvent}
use Rattle.event_book.specs.declared.event.ReplicationEvent.TheVariants as replications
use Rattle.event_book.specs.declared.event.ServerEvent.{ServerEvent}
use Rattle.event_book.specs.declared.event.ServerEvent.TheVariants as servers
use Rattle.event_book.specs.declared.event.WatchdogEvent.{WatchdogEvent}
use Rattle.event_book.specs.declared.event.WatchdogEvent.TheVariants as watchdogs
use Rattle.event_book.specs.Acknowledged.{commits_after}
use Rattle.event_book.specs.Clock.{now_after}
use Rattle.event_book.specs.Facts.{Facts, facts_after}
use Rattle.event_book.specs.Remote.{server_at}
use Rattle.event_book.specs.Servers.{becomes_copy, copied_by, cut_to, goes_back, loses_log, received_by, servers_after, servers_by, servers_by_log, servers_by_replication, servers_by_watchdog, starts_as_primary, starts_as_replica, stops}
use Rattle.event_book.proofs.Remote.{server-listed}
use Rattle.lease_model.proofs.Tools.{some-is, both}
use Rattle.commit_actions.specs.States.{HasLog}
use Rattle.commit_servers.specs.Sound.{IsServerSound, AreServersSound}
use Rattle.commit_servers.specs.Happening.{Appends, Takes, Receives, Rewinds, Copies, Wipes, IsLiveAt, HasDataAt, MayHappenToLog, MayHappenToServer, MayBeReplicated, MayHappen, LeavesSound}
use Rattle.commit_servers.proofs.Places.{each-changed, each-mapped}
use Rattle.commit_servers.proofs.Sound.{sound-acknowledged, sound-appended, sound-as_primary, sound-as_replica, sound-aside, sound-begun, sound-cloned, sound-confirming, sound-crashed, sound-later, sound-received, sound-requiring, sound-rewound, sound-stopped, sound-stops, sound-ticked, sound-wiped}

-- each of these servers is sound
abbrev Each : ℕ → List ServerFacts → Type 0
Each commits known = (m : ℕ) (s : ServerFacts) → slice_get known m ≡ Some s → IsServerSound commits s

one-sound : (commits : ℕ) (known : List ServerFacts) (k : ℕ) (change : ServerFacts → ServerFacts)
    → ((s : ServerFacts) → IsServerSound commits s → IsServerSound commits (change s)) → Each commits known
    → Each commits (with_changed known k change)
one-sound commits known k change here all =
    each-changed (IsServerSound commits) (IsServerSound commits) known k change (λ s at is. here s is) (λ s is. is) all

-- each server stays sound where one is changed of which it is known what it is
this-sound : (commits : ℕ) (known : List ServerFacts) (k : ℕ) (change : ServerFacts → ServerFacts)
    (server : ServerFacts) → slice_get known k ≡ Some server
    → (IsServerSound commits server → IsServerSound commits (change server))
    → Each commits known → Each commits (with_changed known k change)
this-sound commits known k change server found here all =
    each-changed (IsServerSound commits) (IsServerSound commits) known k change
    (λ s at is. subst (λ (t : ServerFacts). IsServerSound commits (change t))
    (some-is server s (sym found ∙ at)) (here (all k server found)))
    (λ s is. is) all

pub live-data : (state : State) → live state ≡ true → has_data state ≡ true
live-data states.Creating e = absurd (both e)
live-data states.Stopped e = refl
live-data (states.Starting as_primary at) e = refl
live-data states.Replica e = refl
live-data states.Primary e = refl
live-data (states.Stopping was_primary at) e = refl
live-data states.Crashed e = refl

pub writes-live : (state : State) → writes state ≡ true → live state ≡ true
writes-live states.Primary e = refl
writes-live (states.Stopping was_primary at) e = e
writes-live states.Creating e = absurd (both e)
writes-live states.Stopped e = absurd (both e)
writes-live (states.Starting as_primary at) e = absurd (both e)
writes-live states.Replica e = absurd (both e)
writes-live states.Crashed e = absurd (both e)

-- who is live has a log
pub live-log : (commits : ℕ) (s : ServerFacts) → IsServerSound commits s → live s.state ≡ true → HasLog s.log
live-log commits s is is_live = is.log (live-data s.state is_live)

pub not-live-quiet : (state : State) → live state ≡ false → writes state ≡ false
not-live-quiet states.Primary e = e
not-live-quiet (states.Stopping was_primary at) e = e
not-live-quiet states.Creating e = refl
not-live-quiet states.Stopped e = refl
not-live-quiet (states.Starting as_primary at) e = refl
not-live-quiet states.Replica e = refl
not-live-quiet states.Crashed e = refl

data-at : (known : List ServerFacts) (m : ℕ) → IsLiveAt known m → HasDataAt known m
data-at known m at = record { server = at.server; is = at.is; with_data = live-data at.server.state at.is_live }

server-sound : (commits now : ℕ) (known : List ServerFacts) (happening : ServerEvent) (facts : Facts)
    → facts.servers ≡ known → LeavesSound facts (kinds.Server happening) → Each commits known
    → Each commits (servers_by now known happening)
server-sound commits now known (servers.Began server timeline) facts same leaves all =
    this-sound commits known server.id.number _ leaves.server
    (ap (λ (xs : List ServerFacts). slice_get xs server.id.number) (sym same) ∙ leaves.is)
    (sound-begun commits leaves.server.state leaves.server leaves.with_data) all
server-sound commits now known (servers.Ended server) facts same leaves all =
    this-sound commits known server.id.number stopped leaves.server
    (ap (λ (xs : List ServerFacts). slice_get xs server.id.number) (sym same) ∙ leaves.is)
    (sound-stopped commits leaves.server leaves.with_data) all
server-sound commits now known (servers.Crashed server) facts same leaves all =
    one-sound commits known server.id.number crashed (sound-crashed commits) all
server-sound commits now known (servers.Stops server) facts same leaves all =
    one-sound commits known server.id.number (stops now) (sound-stops commits now) all
server-sound commits now known (servers.StartsAsPrimary server) facts same leaves all =
    one-sound commits known server.id.number (starts_as_primary now) (sound-as_primary commits now) all
server-sound commits now known (servers.StartsAsReplica server) facts same leaves all =
    one-sound commits known server.id.number (starts_as_replica now) (sound-as_replica commits now) all
server-sound commits now known (servers.Follows server upstream) facts same leaves all =
    one-sound commits known server.id.number (following upstream.id)
    (λ s is. sound-aside commits s (following upstream.id s) refl refl refl refl refl is) all
server-sound commits now known (servers.Diverged server upstream at) facts same leaves all =
    one-sound commits known server.id.number (λ s. record s { diverged = true })
    (λ s is. sound-aside commits s (record s { diverged = true }) refl refl refl refl refl is) all
server-sound commits now known (servers.Slowed server stop start) facts same leaves all =
    one-sound commits known server.id.number (delayed stop start)
    (λ s is. sound-aside commits s (delayed stop start s) refl refl refl refl refl is) all
server-sound commits now known (servers.Promoted server) facts same leaves all = all
server-sound commits now known (servers.Frozen server) facts same leaves all = all
server-sound commits now known (servers.Thawed server) facts same leaves all = all

-- ---- logs
quiet-taker : (known : List ServerFacts) (m from : ℕ) (takes : Takes known m from) → writes takes.server.state ≡ false
quiet-taker known m from takes = not-live-quiet takes.server.state takes.not_live

received-sound : (commits : ℕ) (known : List ServerFacts) (remote : Option ServerFacts) (m from count : ℕ)
    → Receives known m from → Each commits known
    → Each commits (received_by known m count (server_at known remote from))
received-sound commits known remote m from count may all =
    let source : ServerFacts = may.takes.source in
    subst (λ (o : Option ServerFacts). Each commits (received_by known m count o))
    (sym (server-listed known remote from source may.takes.source_is))
    (this-sound commits known m (λ s. received_from count s source) may.takes.server may.takes.is
    (sound-received commits may.takes.server source count (quiet-taker known m from may.takes) may.prefix
    (all from source may.takes.source_is))
    all)

back-sound : (commits kept : ℕ) (s source : ServerFacts) (rewindable : Bool) → rewindable ≡ true
    → writes s.state ≡ false → IsServerSound commits s
    → IsServerSound commits (cond rewindable (rewound_to kept s source) (cut_to kept s))
back-sound commits kept s source true e quiet is = sound-rewound commits s source kept quiet is
back-sound commits kept s source false e quiet is = absurd (both e)

rewound-sound : (commits : ℕ) (known : List ServerFacts) (remote : Option ServerFacts) (m from kept : ℕ)
    → Rewinds known m from kept → Each commits known
    → Each commits (with_changed known m (goes_back kept (server_at known remote from)))
rewound-sound commits known remote m from kept may all =
    let source : ServerFacts = may.takes.source in
    subst (λ (o : Option ServerFacts). Each commits (with_changed known m (goes_back kept o)))
    (sym (server-listed known remote from source may.takes.source_is))
    (this-sound commits known m (goes_back kept (Some source)) may.takes.server may.takes.is
    (back-sound commits kept may.takes.server source (is_rewindable may.takes.server.state) may.rewindable
    (quiet-taker known m from may.takes))
    all)

copy-sound : (commits : ℕ) (s source : ServerFacts) (creating : Bool) → creating ≡ true → writes s.state ≡ false
    → has_data source.state ≡ true → IsServerSound commits source → IsServerSound commits s
    → IsServerSound commits (cond creating (cloned s source) (record s { log = source.log }))
copy-sound commits s source true e quiet with_data source_is is =
    sound-cloned commits s source quiet (source_is.log with_data) source_is is
copy-sound commits s source false e quiet with_data source_is is = absurd (both e)

copied-sound : (commits : ℕ) (known : List ServerFacts) (remote : Option ServerFacts) (m from : ℕ)
    → Copies known m from → Each commits known → Each commits (copied_by known m (server_at known remote from))
copied-sound commits known remote m from may all =
    let source : ServerFacts = may.takes.source in
    subst (λ (o : Option ServerFacts). Each commits (copied_by known m o))
    (sym (server-listed known remote from source may.takes.source_is))
    (this-sound commits known m (becomes_copy source) may.takes.server may.takes.is
    (copy-sound commits may.takes.server source (is_creating may.takes.server.state) may.creating
    (quiet-taker known m from may.takes)
    (live-data source.state (writes-live source.state may.takes.is_writer)) (all from source may.takes.source_is)) all)

lost-sound : (commits : ℕ) (s : ServerFacts) (is_live : Bool) → is_live ≡ false → IsServerSound commits s
    → IsServerSound commits (cond is_live (record s { log = None }) (wiped s))
lost-sound commits s true e is = absurd (both (sym e))
lost-sound commits s false e is = sound-wiped commits s is

wiped-sound : (commits : ℕ) (known : List ServerFacts) (m : ℕ) → Wipes known m → Each commits known
    → Each commits (with_changed known m loses_log)
wiped-sound commits known m may all = this-sound commits known m loses_log may.server may.is
    (lost-sound commits may.server (live may.server.state) may.not_live) all

appended-sound : (facts : Facts) (m : ℕ) (entry : Entry) → Appends facts m entry
    → Each facts.commits facts.servers → Each entry.serial (with_changed facts.servers m (appended entry))
appended-sound facts m entry may all =
    each-changed (IsServerSound facts.commits) (IsServerSound entry.serial) facts.servers m (appended entry)
    (λ s at is.
    subst (λ (t : ServerFacts). IsServerSound entry.serial (appended entry t)) (some-is may.server s (sym may.is ∙ at))
    (sound-appended facts.commits may.server entry may.is_writer may.next may.room (all m may.server may.is)))
    (λ s is. sound-later facts.commits entry.serial s (omega (arith, may.next)) is) all

log-sound : (facts : Facts) (happening : LogEvent) → MayHappenToLog facts happening → Each facts.commits facts.servers
    → Each (commits_after facts.commits (kinds.Log happening)) (servers_by_log facts.servers facts.remote happening)
log-sound facts (logs.Appended server entry) may all = appended-sound facts server.id.number entry may all
log-sound facts (logs.Received server from count) may all =
    received-sound facts.commits facts.servers facts.remote server.id.number from.id.number count may all
log-sound facts (logs.Rewound server from kept at) may all =
    rewound-sound facts.commits facts.servers facts.remote server.id.number from.id.number kept may all
log-sound facts (logs.Copied server from) may all =
    copied-sound facts.commits facts.servers facts.remote server.id.number from.id.number may all
log-sound facts (logs.Wiped server) may all = wiped-sound facts.commits facts.servers server.id.number may all

-- ---- all else
replicated-sound : (facts : Facts) (happening : ReplicationEvent) → LeavesSound facts (kinds.Replication happening)
    → Each facts.commits facts.servers → Each facts.commits (servers_by_replication facts.servers happening)
replicated-sound facts (replications.RequiredSet server required names) leaves all = one-sound facts.commits
    facts.servers server.id.number _ (λ s is. sound-requiring facts.commits required s leaves is) all
replicated-sound facts (replications.Confirmed server by end) leaves all =
    one-sound facts.commits facts.servers server.id.number _ (sound-confirming facts.commits by.id end) all
replicated-sound facts (replications.Acknowledged server commit) leaves all =
    one-sound facts.commits facts.servers server.id.number _ (sound-acknowledged facts.commits) all
replicated-sound facts (replications.Lacks server) leaves all = all

watched-sound : (commits : ℕ) (known : List ServerFacts) (happening : WatchdogEvent) → Each commits known
    → Each commits (servers_by_watchdog known happening)
watched-sound commits known (watchdogs.Reset member) all =
    one-sound commits known member.id.number crashed (sound-crashed commits) all
watched-sound commits known (watchdogs.Armed member until answer) all = all
watched-sound commits known (watchdogs.Fed member until basis) all = all
watched-sound commits known (watchdogs.Disarmed member) all = all
watched-sound commits known (watchdogs.Measured member since) all = all
watched-sound commits known (watchdogs.HoldTaken member until from incarnation sequence) all = all

each-sound : (facts : Facts) (kind : EventKind) → LeavesSound facts kind → Each facts.commits facts.servers
    → Each (commits_after facts.commits kind)
    (servers_after (now_after facts.clock kind) facts.servers facts.remote kind)
each-sound facts kinds.Tick leaves all =
    each-mapped (IsServerSound facts.commits) facts.servers (ticked_unless_live (record { 0 = facts.clock + 1 }))
    (sound-ticked facts.commits (record { 0 = facts.clock + 1 })) all
each-sound facts (kinds.Message happening) leaves all = all
each-sound facts (kinds.Store happening) leaves all = all
each-sound facts (kinds.Watchdog happening) leaves all = watched-sound facts.commits facts.servers happening all
each-sound facts (kinds.Server happening) leaves all =
    server-sound facts.commits facts.clock facts.servers happening facts refl leaves all
each-sound facts (kinds.Log happening) leaves all = log-sound facts happening leaves all
each-sound facts (kinds.Replication happening) leaves all = replicated-sound facts happening leaves all
each-sound facts (kinds.Agent happening) leaves all = all
each-sound facts (kinds.Link happening) leaves all = all
each-sound facts (kinds.Note happening) leaves all = all

pub sound-by : (facts : Facts) (kind : EventKind) → LeavesSound facts kind → AreServersSound facts
    → AreServersSound (facts_after facts kind)
sound-by facts kind leaves is = record { each = each-sound facts kind leaves is.each }

-- what may happen beside inputs leaves each sound
server-leaves : (facts : Facts) (happening : ServerEvent) → MayHappenToServer facts.servers happening
    → LeavesSound facts (kinds.Server happening)
server-leaves facts (servers.Began server timeline) may = data-at facts.servers server.id.number may
server-leaves facts (servers.Ended server) may = data-at facts.servers server.id.number may
server-leaves facts _ may = tt

replication-leaves : (facts : Facts) (happening : ReplicationEvent) → MayBeReplicated facts.servers happening
    → LeavesSound facts (kinds.Replication happening)
replication-leaves facts (replications.RequiredSet server required names) may = absurd may
replication-leaves facts _ may = tt

pub leaves-sound : (facts : Facts) (kind : EventKind) → MayHappen facts kind → LeavesSound facts kind
leaves-sound facts (kinds.Log happening) may = may
leaves-sound facts (kinds.Server happening) may = server-leaves facts happening may
leaves-sound facts (kinds.Replication happening) may = replication-leaves facts happening may
leaves-sound facts _ may = tt
