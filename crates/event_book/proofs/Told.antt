-- What a book leaves of the servers, by what the book alone says. Of
-- each part, a lemma '-of' says it of one event, and '-told' of a book.
use Rattle.std.proofs.Common.{ℕ, ◌≡◌, ◌≢◌, ◌<◌, ◌+◌, ◌==◌, ◌&&◌, ◌||◌, not, ◌++◌, nat_le, Bool, true, false, cond, List, [], ◌∷◌, length, get_or, map, take, slice_get, Option, Some, None, option_map, refl, ◌∙◌, ap, sym, subst, append_assoc, append-nil, arith}
use Rattle.std.proofs.lemmas.Option.{none-some, slice_get-get_or, slice_get-map, unwrap_or-slice_get}
use Rattle.std.proofs.lemmas.Bool.Decides.{nat_tests}
use Rattle.std.proofs.lemmas.Grind.{get_or-set_at}
use Rattle.std.proofs.lemmas.List.{get_or-set_other}
use Rattle.std.specs.Option.{unwrap_or}
use Rattle.std.proofs.Math.ListN.{length-map}
use Rattle.pat_base.specs.declared.server_state.State.{State}
use Rattle.pat_base.specs.declared.server_state.State.TheVariants as states
use Rattle.pat_base.specs.declared.server_id.ServerId.{ServerId}
use Rattle.pat_base.specs.declared.ticks.Ticks.{Ticks}
use Rattle.pat_base.specs.declared.member_id.TheConstants.{MOST_MEMBERS}
use Rattle.wal_model.specs.declared.entry.Entry.{Entry}
use Rattle.pat_base.specs.Changes.{changed_at, with_changed}
use Rattle.pat_base.specs.ServerState.{writes, live}
use Rattle.pg_model.specs.Facts.{ServerFacts, entries_of, is_creating, is_down, is_up, none_confirmed}
use Rattle.pg_model.specs.Rewinding.{cloned, is_rewindable, rewound_to}
use Rattle.pg_model.specs.Running.{completed, crashed_state, is_primary, moment_after, replica_started, started, stopped, wiped, ticked_unless_live}
use Rattle.event_book.specs.declared.event.Event.{Event}
use Rattle.event_book.specs.declared.event.EventKind.{EventKind}
use Rattle.event_book.specs.declared.event.EventKind.TheVariants as kinds
use Rattle.event_book.specs.declared.event.LogEvent.{LogEvent}
use Rattle.event_book.specs.declared.event.LogEvent.TheVariants as logs
use Rattle.event_book.specs.declared.event.ReplicationEvent.{ReplicationEvent}
use Rattle.event_book.specs.declared.event.ReplicationEvent.TheVariants as replications
use Rattle.event_book.specs.declared.event.ServerEvent.{ServerEvent}
use Rattle.event_book.specs.declared.event.ServerEvent.TheVariants as servers
use Rattle.event_book.specs.declared.event.WatchdogEvent.{WatchdogEvent}
use Rattle.event_book.specs.declared.event.WatchdogEvent.TheVariants as watchdogs
use Rattle.event_book.specs.Acknowledged.{acknowledged_after, acknowledged_of, acknowledged_in}
use Rattle.event_book.specs.Clock.{now_after}
use Rattle.event_book.specs.Facts.{Facts, facts_after, facts_over}
use Rattle.event_book.specs.Functions.{put_at}
use Rattle.event_book.specs.Logs.{Logs, MemberLogs, log_received, log_copied, log_with, logs_in, logs_of, member_logs_by, remote_log_by, logs_after, logs_over}
use Rattle.event_book.specs.Remote.{server_at}
use Rattle.event_book.specs.Required.{required_in, required_after, required_over, confirmed_in, confirmed_after, confirmed_over}
use Rattle.event_book.specs.Servers.{begun_in, replica_starts_in, servers_by, received_by, cut_to, goes_back, copied_by, servers_by_log, servers_by_replication, servers_by_watchdog, servers_after, supplied, remote_by_log}
use Rattle.event_book.specs.Writers.{writes_now, writes_in, writes_after, writes_by_server, writes_by_watchdog, writes_over}
use Rattle.event_book.proofs.Parts.{ticked-kept, others-kept, watched-kept, logged-kept, replicated-kept}
use Rattle.event_book.proofs.Remote.{server-part}
use Rattle.event_book.proofs.Changed.{changed-one, kept-one, kept-each, same-if, length-one}

-- a part of the servers that one event changes by itself is, after a
-- book, what the book's events make of it, one by one
part-told : {A : Type 0} (part : List ServerFacts → A) (one : A → EventKind → A) (each : A → List Event → A)
    → ((x : A) → each x [] ≡ x)
    → ((x : A) (event : Event) (events : List Event) → each x (event ∷ events) ≡ each (one x event.kind) events)
    → ((now : ℕ) (known : List ServerFacts) (remote : Option ServerFacts) (kind : EventKind) →
    part (servers_after now known remote kind) ≡ one (part known) kind)
    → (facts : Facts) (book : List Event) → part (facts_over facts book).servers ≡ each (part facts.servers) book
part-told part one each none more of facts [] = sym (none (part facts.servers))
part-told part one each none more of facts (event ∷ events) =
    part-told part one each none more of (facts_after facts event.kind) events
    ∙ ap (λ x. each x events) (of (now_after facts.clock event.kind) facts.servers facts.remote event.kind)
    ∙ sym (more (part facts.servers) event events)

-- the logs

abbrev logs-of-members : List ServerFacts → MemberLogs
logs-of-members known = map (λ s. s.log) known

log-begun : (state : State) (s : ServerFacts) → (begun_in state s).log ≡ s.log
log-begun states.Replica s = refl
log-begun _ s = refl

logs-by-server : (now : ℕ) (known : List ServerFacts) (happening : ServerEvent)
    → logs-of-members (servers_by now known happening) ≡ logs-of-members known
logs-by-server now known (servers.Began server timeline) = kept-one (λ s. s.log) known _ _ (λ s. log-begun s.state s)
logs-by-server now known happening = others-kept (λ s. s.log) (λ s t log required confirmed. log) now known happening tt

logs-received : (known : List ServerFacts) (number count : ℕ) (found : Option ServerFacts)
    → logs-of-members (received_by known number count found)
    ≡ log_received (logs-of-members known) number count (option_map (λ s. s.log) found)
logs-received known number count None = refl
logs-received known number count (Some upstream) = changed-one (λ s. s.log) known number _ _ (λ s. refl)

logs-copied : (known : List ServerFacts) (number : ℕ) (found : Option ServerFacts)
    → logs-of-members (copied_by known number found)
    ≡ log_copied (logs-of-members known) number (option_map (λ s. s.log) found)
logs-copied known number None = refl
logs-copied known number (Some source) = changed-one (λ s. s.log) known number _ _
    (λ s.
    same-if (λ s. s.log) (is_creating s.state) (cloned s source) (record s { log = source.log }) source.log refl refl)

log-back : (kept : ℕ) (found : Option ServerFacts) (s : ServerFacts)
    → (goes_back kept found s).log ≡ Some (take kept (entries_of s.log))
log-back kept None s = refl
log-back kept (Some source) s = same-if (λ s. s.log) (is_rewindable s.state) (rewound_to kept s source)
    (cut_to kept s) (Some (take kept (entries_of s.log))) refl refl

logs-logged : (known : List ServerFacts) (remote : Option ServerFacts) (happening : LogEvent)
    → logs-of-members (servers_by_log known remote happening) ≡ member_logs_by (logs_of known remote) happening
logs-logged known remote (logs.Appended server entry) =
    changed-one (λ s. s.log) known server.id.number _ _ (λ s. refl)
logs-logged known remote (logs.Received server from count) =
    logs-received known server.id.number count (server_at known remote from.id.number)
    ∙ ap (λ o. log_received (logs-of-members known) server.id.number count o)
    (server-part (λ s. s.log) known remote from.id.number)
logs-logged known remote (logs.Rewound server from kept at) =
    changed-one (λ s. s.log) known server.id.number _ _ (log-back kept (server_at known remote from.id.number))
logs-logged known remote (logs.Copied server from) =
    logs-copied known server.id.number (server_at known remote from.id.number)
    ∙ ap (λ o. log_copied (logs-of-members known) server.id.number o)
    (server-part (λ s. s.log) known remote from.id.number)
logs-logged known remote (logs.Wiped server) = changed-one (λ s. s.log) known server.id.number _ _
    (λ s. same-if (λ s. s.log) (live s.state) (record s { log = None }) (wiped s) None refl refl)

remote-supplied : (remote : ServerFacts) (entry : Entry) (own : Bool)
    → (cond own (supplied entry remote) remote).log ≡ cond own (log_with entry remote.log) remote.log
remote-supplied remote entry true = refl
remote-supplied remote entry false = refl

remote-logged : (remote : Option ServerFacts) (happening : LogEvent)
    → option_map (λ s. s.log) (remote_by_log remote happening)
    ≡ remote_log_by (option_map (λ s. s.log) remote) happening
remote-logged None (logs.Appended server entry) = refl
remote-logged (Some remote) (logs.Appended server entry) =
    ap (λ (log : Option (List Entry)). Some log) (remote-supplied remote entry (server.id.number == MOST_MEMBERS))
remote-logged remote _ = refl

with-members : (before after : MemberLogs) (remote : Option (Option (List Entry))) → before ≡ after
    → ◌≡◌ {A = Logs} (record { members = before; remote = remote }) (record { members = after; remote = remote })
with-members before after remote same = ap (λ (known : MemberLogs). record { members = known; remote = remote }) same

pub logs-of : (facts : Facts) (kind : EventKind) → logs_in (facts_after facts kind) ≡ logs_after (logs_in facts) kind
logs-of facts kinds.Tick = with-members _ _ _
    (ticked-kept (λ s. s.log) (λ s t log required confirmed. log) (record { 0 = facts.clock + 1 }) facts.servers)
logs-of facts (kinds.Server happening) = with-members _ _ _ (logs-by-server facts.clock facts.servers happening)
logs-of facts (kinds.Log happening) =
    with-members _ _ _ (logs-logged facts.servers facts.remote happening)
    ∙ ap (λ (remote : Option (Option (List Entry))). record {
      members = member_logs_by (logs_in facts) happening;
      remote = remote;
    }) (remote-logged facts.remote happening)
logs-of facts (kinds.Replication happening) =
    with-members _ _ _ (replicated-kept (λ s. s.log) (λ s t state log. log) facts.servers happening)
logs-of facts (kinds.Watchdog happening) =
    with-members _ _ _ (watched-kept (λ s. s.log) (λ s t log required confirmed. log) facts.servers happening)
logs-of facts _ = refl

pub logs-told : (facts : Facts) (book : List Event)
    → logs_in (facts_over facts book) ≡ logs_over (logs_in facts) book
logs-told facts [] = refl
logs-told facts (event ∷ events) =
    logs-told (facts_after facts event.kind) events ∙ ap (λ known. logs_over known events) (logs-of facts event.kind)

-- whose confirmation their commits wait for

required-begun : (state : State) (s : ServerFacts) → (begun_in state s).required ≡ s.required
required-begun states.Replica s = refl
required-begun _ s = refl

required-by-server : (now : ℕ) (known : List ServerFacts) (happening : ServerEvent)
    → required_in (servers_by now known happening) ≡ required_in known
required-by-server now known (servers.Began server timeline) =
    kept-one (λ s. s.required) known _ _ (λ s. required-begun s.state s)
required-by-server now known happening =
    others-kept (λ s. s.required) (λ s t log required confirmed. required) now known happening tt

required-replicated : (known : List ServerFacts) (happening : ReplicationEvent)
    → required_in (servers_by_replication known happening)
    ≡ required_after (required_in known) (kinds.Replication happening)
required-replicated known (replications.RequiredSet server required names) =
    changed-one (λ s. s.required) known server.id.number _ _ (λ s. refl)
required-replicated known (replications.Lacks server) = refl
required-replicated known _ = kept-one (λ s. s.required) known _ _ (λ s. refl)

pub required-of : (now : ℕ) (known : List ServerFacts) (remote : Option ServerFacts) (kind : EventKind)
    → required_in (servers_after now known remote kind) ≡ required_after (required_in known) kind
required-of now known remote kinds.Tick =
    ticked-kept (λ s. s.required) (λ s t log required confirmed. required) (record { 0 = now }) known
required-of now known remote (kinds.Server happening) = required-by-server now known happening
required-of now known remote (kinds.Log happening) =
    logged-kept (λ s. s.required) (λ s t live writes required confirmed. required) known remote happening
required-of now known remote (kinds.Replication happening) = required-replicated known happening
required-of now known remote (kinds.Watchdog happening) =
    watched-kept (λ s. s.required) (λ s t log required confirmed. required) known happening
required-of now known remote _ = refl

pub required-told : (facts : Facts) (book : List Event)
    → required_in (facts_over facts book).servers ≡ required_over (required_in facts.servers) book
required-told =
    part-told required_in required_after required_over (λ known. refl) (λ known event events. refl) required-of

-- what was confirmed to them

confirmed-begun : (state : State) (s : ServerFacts) → (begun_in state s).confirmed ≡ none_confirmed
confirmed-begun states.Replica s = refl
confirmed-begun _ s = refl

confirmed-by-server : (now : ℕ) (known : List ServerFacts) (happening : ServerEvent)
    → confirmed_in (servers_by now known happening) ≡ confirmed_after (confirmed_in known) (kinds.Server happening)
confirmed-by-server now known (servers.Began server timeline) =
    changed-one (λ s. s.confirmed) known server.id.number _ _ (λ s. confirmed-begun s.state s)
confirmed-by-server now known happening =
    others-kept (λ s. s.confirmed) (λ s t log required confirmed. confirmed) now known happening tt

confirmed-replicated : (known : List ServerFacts) (happening : ReplicationEvent)
    → confirmed_in (servers_by_replication known happening)
    ≡ confirmed_after (confirmed_in known) (kinds.Replication happening)
confirmed-replicated known (replications.Confirmed server by end) =
    changed-one (λ s. s.confirmed) known server.id.number _ _ (λ s. refl)
confirmed-replicated known (replications.Lacks server) = refl
confirmed-replicated known _ = kept-one (λ s. s.confirmed) known _ _ (λ s. refl)

pub confirmed-of : (now : ℕ) (known : List ServerFacts) (remote : Option ServerFacts) (kind : EventKind)
    → confirmed_in (servers_after now known remote kind) ≡ confirmed_after (confirmed_in known) kind
confirmed-of now known remote kinds.Tick =
    ticked-kept (λ s. s.confirmed) (λ s t log required confirmed. confirmed) (record { 0 = now }) known
confirmed-of now known remote (kinds.Server happening) = confirmed-by-server now known happening
confirmed-of now known remote (kinds.Log happening) =
    logged-kept (λ s. s.confirmed) (λ s t live writes required confirmed. confirmed) known remote happening
confirmed-of now known remote (kinds.Replication happening) = confirmed-replicated known happening
confirmed-of now known remote (kinds.Watchdog happening) =
    watched-kept (λ s. s.confirmed) (λ s t log required confirmed. confirmed) known happening
confirmed-of now known remote _ = refl

pub confirmed-told : (facts : Facts) (book : List Event)
    → confirmed_in (facts_over facts book).servers ≡ confirmed_over (confirmed_in facts.servers) book
confirmed-told =
    part-told confirmed_in confirmed_after confirmed_over (λ known. refl) (λ known event events. refl) confirmed-of

-- the commits that were acknowledged

acknowledged-replicated : (told : List ℕ) (happening : ReplicationEvent)
    → acknowledged_after told (kinds.Replication happening) ≡ told ++ acknowledged_of (kinds.Replication happening)
acknowledged-replicated told (replications.Acknowledged server commit) = refl
acknowledged-replicated told _ = sym (append-nil told)

pub acknowledged-of : (told : List ℕ) (kind : EventKind) → acknowledged_after told kind ≡ told ++ acknowledged_of kind
acknowledged-of told (kinds.Replication happening) = acknowledged-replicated told happening
acknowledged-of told _ = sym (append-nil told)

pub acknowledged-told : (facts : Facts) (book : List Event)
    → (facts_over facts book).acknowledged ≡ facts.acknowledged ++ acknowledged_in book
acknowledged-told facts [] = sym (append-nil facts.acknowledged)
acknowledged-told facts (event ∷ events) =
    acknowledged-told (facts_after facts event.kind) events
    ∙ ap (λ told. told ++ acknowledged_in events) (acknowledged-of facts.acknowledged event.kind)
    ∙ append_assoc facts.acknowledged (acknowledged_of event.kind) (acknowledged_in events)

-- how many there are: events change servers, and neither add any nor take any away

abbrev seen-as-one : ServerFacts → Bool
seen-as-one s = true

length-kept : (before known : List ServerFacts) → map seen-as-one known ≡ map seen-as-one before
    → length known ≡ length before
length-kept before known same =
    sym (length-map known seen-as-one) ∙ ap (λ xs. length xs) same ∙ length-map before seen-as-one

count-by : (now : ℕ) (known : List ServerFacts) (happening : ServerEvent)
    → length (servers_by now known happening) ≡ length known
count-by now known (servers.Began server timeline) = length-one known _ _
count-by now known happening = length-kept known (servers_by now known happening)
    (others-kept seen-as-one (λ s t log required confirmed. refl) now known happening tt)

pub count-of : (now : ℕ) (known : List ServerFacts) (remote : Option ServerFacts) (kind : EventKind)
    → length (servers_after now known remote kind) ≡ length known
count-of now known remote kinds.Tick = length-map known _
count-of now known remote (kinds.Server happening) = count-by now known happening
count-of now known remote (kinds.Log happening) = length-kept known (servers_by_log known remote happening)
    (logged-kept seen-as-one (λ s t live writes required confirmed. refl) known remote happening)
count-of now known remote (kinds.Replication happening) = length-kept known (servers_by_replication known happening)
    (replicated-kept seen-as-one (λ s t state log. refl) known happening)
count-of now known remote (kinds.Watchdog happening) = length-kept known (servers_by_watchdog known happening)
    (watched-kept seen-as-one (λ s t log required confirmed. refl) known happening)
count-of now known remote _ = refl

pub count-told : (facts : Facts) (book : List Event) → length (facts_over facts book).servers ≡ length facts.servers
count-told = part-told (λ known. length known) (λ count kind. count) (λ count events. count) (λ count. refl)
    (λ count event events. refl) count-of

-- which of them accept writes

writes-unwrapped : (found : Option ServerFacts)
    → writes_now found ≡ unwrap_or (option_map (λ s. writes s.state) found) false
writes-unwrapped None = refl
writes-unwrapped (Some s) = refl

writes-at : (known : List ServerFacts) (n : ℕ) → writes_in known n ≡ get_or (map (λ s. writes s.state) known) n false
writes-at known n =
    writes-unwrapped (slice_get known n)
    ∙ ap (λ o. unwrap_or o false) (sym (slice_get-map (λ s. writes s.state) known n))
    ∙ unwrap_or-slice_get (map (λ s. writes s.state) known) n false

writes-kept : (before known : List ServerFacts) (n : ℕ)
    → map (λ s. writes s.state) known ≡ map (λ s. writes s.state) before → writes_in known n ≡ writes_in before n
writes-kept before known n same = writes-at known n ∙ ap (λ xs. get_or xs n false) same ∙ sym (writes-at before n)

is-from : (n k : ℕ) → (n == k) ≡ true → n ≡ k
is-from n k e = grind (arith, nat_tests)

other-from : (n k : ℕ) → (n == k) ≡ false → n ≢ k
other-from n k e = grind (arith, nat_tests)

put-found : (xs : List Bool) (k n : ℕ) (value : Bool) (found : Option Bool) (same : Bool)
    → slice_get xs k ≡ found → (n == k) ≡ same → n < length xs
    → get_or (changed_at xs k (λ before. value) found) n false ≡ cond same value (get_or xs n false)
put-found xs k n value None true is e small =
    absurd (none-some (get_or xs k false)
    (sym is ∙ slice_get-get_or xs k false (subst (λ m. m < length xs) (is-from n k e) small)))
put-found xs k n value None false is e small = refl
put-found xs k n value (Some b) true is e small =
    get_or-set_at xs k n value false (is-from n k e) (subst (λ m. m < length xs) (is-from n k e) small)
put-found xs k n value (Some b) false is e small = get_or-set_other xs k n value false (other-from n k e)

-- one server changes so that it accepts writes, or doesn't
writes-put : (known : List ServerFacts) (k n : ℕ) (change : ServerFacts → ServerFacts) (value : Bool)
    → n < length known → ((s : ServerFacts) → writes (change s).state ≡ value)
    → writes_in (with_changed known k change) n ≡ put_at (writes_in known) k value n
writes-put known k n change value small same =
    let flags : List Bool = map (λ s. writes s.state) known in
    let few : n < length flags = rw (length-map known (λ s. writes s.state)) small in
    writes-at (with_changed known k change) n
    ∙ ap (λ xs. get_or xs n false) (changed-one (λ s. writes s.state) known k change (λ before. value) same)
    ∙ put-found flags k n value (slice_get flags k) (n == k) refl refl few
    ∙ ap (λ b. cond (n == k) value b) (sym (writes-at known n))

writes-one : (known : List ServerFacts) (k n : ℕ) (change : ServerFacts → ServerFacts)
    → ((s : ServerFacts) → writes (change s).state ≡ writes s.state)
    → writes_in (with_changed known k change) n ≡ writes_in known n
writes-one known k n change same =
    writes-kept known (with_changed known k change) n (kept-one (λ s. writes s.state) known k change same)

writes-completed : (now : Ticks) (state : State) (s : ServerFacts) → s.state ≡ state
    → writes (cond (live state) s (completed now state s)).state ≡ writes s.state
writes-completed now (states.Starting true at) s is = refl
writes-completed now (states.Starting false at) s is =
    same-if (λ s. writes s.state) (nat_le at.0 now.0) (started false s) s (writes s.state) (sym (ap writes is)) refl
writes-completed now (states.Stopping true at) s is = refl
writes-completed now (states.Stopping false at) s is =
    same-if (λ s. writes s.state) (nat_le at.0 now.0) (stopped s) s (writes s.state) (sym (ap writes is)) refl
writes-completed now _ s is = refl

writes-starts : (now : Ticks) (upstream : Option ServerId) (s : ServerFacts)
    → writes (replica_started now upstream s).state ≡ false
writes-starts now upstream s =
    let told : ServerFacts = record s { upstream = upstream; was_primary = false } in
    same-if (λ s. writes s.state) (s.start_delay.0 == 0) (started false told)
    (record told { state = states.Starting false (moment_after now s.start_delay) }) false refl refl

writes-replica : (now : Ticks) (state : State) (s : ServerFacts) → s.state ≡ state
    → writes (replica_starts_in state now s).state ≡ writes s.state
writes-replica now states.Stopped s is = writes-starts now None s ∙ sym (ap writes is)
writes-replica now states.Crashed s is = writes-starts now None s ∙ sym (ap writes is)
writes-replica now states.Replica s is = writes-starts now s.upstream s ∙ sym (ap writes is)
writes-replica now _ s is = refl

-- a shutdown that ends no writing at once
writes-stops : (now : Ticks) (state : State) (s : ServerFacts) (at_once : Bool) → s.state ≡ state
    → writes (cond (is_up state && (not (is_primary state) || not at_once)) (cond at_once (stopped s) (record s {
      state = states.Stopping (is_primary s.state) (moment_after now s.stop_delay);
    })) s).state ≡ writes s.state
writes-stops now states.Primary s true is = refl
writes-stops now states.Primary s false is = ap is_primary is ∙ sym (ap writes is)
writes-stops now (states.Starting as_primary at) s true is = sym (ap writes is)
writes-stops now (states.Starting as_primary at) s false is = ap is_primary is ∙ sym (ap writes is)
writes-stops now states.Replica s true is = sym (ap writes is)
writes-stops now states.Replica s false is = ap is_primary is ∙ sym (ap writes is)
writes-stops now _ s at_once is = refl

-- a start as a primary that takes time
writes-slow : (now : Ticks) (state : State) (s : ServerFacts) (at_once : Bool) → s.state ≡ state
    → writes (cond (is_down state && not at_once) (cond at_once (started true s) (record s {
      state = states.Starting true (moment_after now s.start_delay);
    })) s).state ≡ writes s.state
writes-slow now states.Stopped s true is = refl
writes-slow now states.Stopped s false is = sym (ap writes is)
writes-slow now states.Crashed s true is = refl
writes-slow now states.Crashed s false is = sym (ap writes is)
writes-slow now _ s at_once is = refl

writes-begun : (state : State) (s : ServerFacts) → writes (begun_in state s).state ≡ true
writes-begun states.Replica s = refl
writes-begun _ s = refl

writes-crashed : (state : State) → writes (crashed_state state) ≡ false
writes-crashed states.Creating = refl
writes-crashed _ = refl

writes-by-server : (now : ℕ) (known : List ServerFacts) (happening : ServerEvent) (n : ℕ) → n < length known
    → writes_in (servers_by now known happening) n ≡ writes_by_server (writes_in known) happening n
writes-by-server now known (servers.Began server timeline) n small =
    writes-put known _ n _ true small (λ s. writes-begun s.state s)
writes-by-server now known (servers.Ended server) n small = writes-put known _ n _ false small (λ s. refl)
writes-by-server now known (servers.Crashed server) n small =
    writes-put known _ n _ false small (λ s. writes-crashed s.state)
writes-by-server now known (servers.Stops server) n small =
    writes-one known _ n _ (λ s. writes-stops (record { 0 = now }) s.state s (s.stop_delay.0 == 0) refl)
writes-by-server now known (servers.StartsAsPrimary server) n small =
    writes-one known _ n _ (λ s. writes-slow (record { 0 = now }) s.state s (s.start_delay.0 == 0) refl)
writes-by-server now known (servers.StartsAsReplica server) n small =
    writes-one known _ n _ (λ s. writes-replica (record { 0 = now }) s.state s refl)
writes-by-server now known (servers.Follows server upstream) n small = writes-one known _ n _ (λ s. refl)
writes-by-server now known (servers.Diverged server upstream at) n small = writes-one known _ n _ (λ s. refl)
writes-by-server now known (servers.Slowed server stop start) n small = writes-one known _ n _ (λ s. refl)
writes-by-server now known _ n small = refl

writes-watched : (known : List ServerFacts) (happening : WatchdogEvent) (n : ℕ) → n < length known
    → writes_in (servers_by_watchdog known happening) n ≡ writes_by_watchdog (writes_in known) happening n
writes-watched known (watchdogs.Reset member) n small = writes-put known _ n _ false small (λ s. writes-crashed s.state)
writes-watched known _ n small = refl

pub writes-of : (now : ℕ) (known : List ServerFacts) (remote : Option ServerFacts) (kind : EventKind) (n : ℕ)
    → n < length known → writes_in (servers_after now known remote kind) n ≡ writes_after (writes_in known) kind n
writes-of now known remote kinds.Tick n small =
    let at : Ticks = record { 0 = now } in
    writes-kept known _ n
    (kept-each (λ s. writes s.state) (ticked_unless_live at) (λ s. writes-completed at s.state s refl) known)
writes-of now known remote (kinds.Server happening) n small = writes-by-server now known happening n small
writes-of now known remote (kinds.Log happening) n small =
    writes-kept known (servers_by_log known remote happening) n
    (logged-kept (λ s. writes s.state) (λ s t live writes required confirmed. writes) known remote happening)
writes-of now known remote (kinds.Replication happening) n small =
    writes-kept known (servers_by_replication known happening) n
    (replicated-kept (λ s. writes s.state) (λ s t state log. ap writes state) known happening)
writes-of now known remote (kinds.Watchdog happening) n small = writes-watched known happening n small
writes-of now known remote _ n small = refl

-- whether one server accepts writes depends on nothing that was said of another
put-same : (f g : ℕ → Bool) (k n : ℕ) (value : Bool) → f n ≡ g n → put_at f k value n ≡ put_at g k value n
put-same f g k n value same = ap (λ b. cond (n == k) value b) same

writes-same-server : (f g : ℕ → Bool) (happening : ServerEvent) (n : ℕ) → f n ≡ g n
    → writes_by_server f happening n ≡ writes_by_server g happening n
writes-same-server f g (servers.Began server timeline) n same = put-same f g _ n true same
writes-same-server f g (servers.Ended server) n same = put-same f g _ n false same
writes-same-server f g (servers.Crashed server) n same = put-same f g _ n false same
writes-same-server f g _ n same = same

writes-same-watchdog : (f g : ℕ → Bool) (happening : WatchdogEvent) (n : ℕ) → f n ≡ g n
    → writes_by_watchdog f happening n ≡ writes_by_watchdog g happening n
writes-same-watchdog f g (watchdogs.Reset member) n same = put-same f g _ n false same
writes-same-watchdog f g _ n same = same

writes-same-kind : (f g : ℕ → Bool) (kind : EventKind) (n : ℕ) → f n ≡ g n
    → writes_after f kind n ≡ writes_after g kind n
writes-same-kind f g (kinds.Server happening) n same = writes-same-server f g happening n same
writes-same-kind f g (kinds.Watchdog happening) n same = writes-same-watchdog f g happening n same
writes-same-kind f g _ n same = same

pub writes-same : (f g : ℕ → Bool) (book : List Event) (n : ℕ) → f n ≡ g n → writes_over f book n ≡ writes_over g book n
writes-same f g [] n same = same
writes-same f g (event ∷ events) n same = writes-same (writes_after f event.kind)
    (writes_after g event.kind) events n (writes-same-kind f g event.kind n same)

pub writes-told : (facts : Facts) (book : List Event) (n : ℕ) → n < length facts.servers
    → writes_in (facts_over facts book).servers n ≡ writes_over (writes_in facts.servers) book n
writes-told facts [] n small = refl
writes-told facts (event ∷ events) n small =
    let now : ℕ = now_after facts.clock event.kind in
    let known : List ServerFacts = servers_after now facts.servers facts.remote event.kind in
    let few : n < length known = rw (count-of now facts.servers facts.remote event.kind) small in
    writes-told (facts_after facts event.kind) events n few
    ∙ writes-same (writes_in known) (writes_after (writes_in facts.servers) event.kind) events n
    (writes-of now facts.servers facts.remote event.kind n small)
