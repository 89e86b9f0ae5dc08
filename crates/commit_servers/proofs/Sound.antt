-- Each server stays sound, whatever of these happens to it.
use Rattle.std.proofs.Common.{ℕ, ◌≡◌, ◌+◌, ◌≤◌, ◌^◌, ◌==◌, ◌&&◌, not, nat_le, Bool, true, false, cond, List, [], ◌∷◌, ◌++◌, length, take, drop, Option, Some, None, refl, ◌∙◌, ap, sym, subst, arith}
use Rattle.std.proofs.lemmas.List.{take-append-drop}
use Rattle.std.proofs.lemmas.List.Sums.{sum_by-cons}
use Rattle.std.proofs.Math.ListN.{length-set}
use Rattle.pat_base.proofs.Positions.{lsn_at-position}
use Rattle.pat_base.specs.declared.lsn.Lsn.{Lsn}
use Rattle.pat_base.specs.declared.member_id.MemberId.{MemberId}
use Rattle.pat_base.specs.declared.server_id.ServerId.{ServerId}
use Rattle.pat_base.specs.declared.server_state.Required.{Required}
use Rattle.pat_base.specs.declared.server_state.State.{State}
use Rattle.pat_base.specs.declared.server_state.State.TheVariants as states
use Rattle.pat_base.specs.declared.ticks.Ticks.{Ticks}
use Rattle.pat_base.specs.Lsn.{lsn_at}
use Rattle.pat_base.specs.ServerState.{writes, live}
use Rattle.wal_model.specs.declared.entry.Entry.{Entry}
use Rattle.wal_model.specs.Log.{IsPrefixOf, end_of, received}
use Rattle.pg_model.specs.declared.waiting.Waiting.{Waiting}
use Rattle.pg_model.specs.Facts.{ServerFacts, entries_of, has_data, is_down, is_up}
use Rattle.pg_model.specs.Replication.{appended, confirming, received_from, requiring}
use Rattle.pg_model.specs.Rewinding.{cloned, rewound_to}
use Rattle.pg_model.specs.Running.{completed, crashed, crashed_state, is_primary, moment_after, promoted, replica_started, started, stopped, stopping, wiped, ticked_unless_live}
use Rattle.event_book.specs.Servers.{begun_in, replica_starts_in, starts_as_primary, starts_as_replica, stops, stops_quietly}
use Rattle.lease_model.proofs.Tools.{both}
use Rattle.commit_actions.specs.States.{HasLog}
use Rattle.commit_law.proofs.Prefixes.{end-append, end-le, received-prefix}
use Rattle.commit_servers.specs.Sound.{AreUpTo, StandsIn, AllStandIn, WaitsForMembers, IsServerSound}
use Rattle.commit_servers.proofs.Fronts.{front-append, front-whole, entry-append, up-append, up-more, up-prefix}
use Rattle.pat_base.specs.declared.member_id.TheConstants.{MOST_MEMBERS}

-- ---- what it rests on
module _ (commits : ℕ) where
  -- in another state, with no commit that waits
  pub sound-resting : (s t : ServerFacts) → t.log ≡ s.log → t.confirmed ≡ s.confirmed
      → t.required ≡ s.required → t.waiting ≡ [] → (has_data t.state ≡ true → has_data s.state ≡ true)
      → IsServerSound commits s → IsServerSound commits t
  sound-resting s t log confirmed required waiting with_data is = record {
    end = subst (λ (l : Option (List Entry)). end_of (entries_of l) ≤ 2 ^ 63) (sym log) is.end;
    log = λ e. subst HasLog (sym log) (is.log (with_data e));
    numbered = subst (λ (l : Option (List Entry)). AreUpTo commits (entries_of l)) (sym log) is.numbered;
    waiting = subst (AllStandIn (entries_of t.log)) (sym waiting) tt;
    none_waits = λ e. waiting;
    places = ap length confirmed ∙ is.places;
    required = subst WaitsForMembers (sym required) is.required;
  }

  -- in another state that accepts writes where the first does, with the same commits that wait
  pub sound-going : (s t : ServerFacts) → t.log ≡ s.log → length t.confirmed ≡ MOST_MEMBERS
      → t.required ≡ s.required → t.waiting ≡ s.waiting → (has_data t.state ≡ true → has_data s.state ≡ true)
      → (writes t.state ≡ false → writes s.state ≡ false) → IsServerSound commits s → IsServerSound commits t
  sound-going s t log confirmed required waiting with_data writing is = record {
    end = subst (λ (l : Option (List Entry)). end_of (entries_of l) ≤ 2 ^ 63) (sym log) is.end;
    log = λ e. subst HasLog (sym log) (is.log (with_data e));
    numbered = subst (λ (l : Option (List Entry)). AreUpTo commits (entries_of l)) (sym log) is.numbered;
    waiting = subst (λ (l : Option (List Entry)). AllStandIn (entries_of l) t.waiting) (sym log)
        (subst (AllStandIn (entries_of s.log)) (sym waiting) is.waiting);
    none_waits = λ e. waiting ∙ is.none_waits (writing e);
    places = confirmed;
    required = subst WaitsForMembers (sym required) is.required;
  }

  -- with another log, where none waits
  sound-logged : (s t : ServerFacts) (log : List Entry) → t.log ≡ Some log → t.confirmed ≡ s.confirmed
      → t.required ≡ s.required → t.waiting ≡ s.waiting → writes s.state ≡ false → end_of log ≤ 2 ^ 63
      → AreUpTo commits log
      → IsServerSound commits s → IsServerSound commits t
  sound-logged s t log is_log confirmed required waiting quiet end numbered is = record {
    end = subst (λ (l : Option (List Entry)). end_of (entries_of l) ≤ 2 ^ 63) (sym is_log) end;
    log = λ e. record { entries = log; is = is_log };
    numbered = subst (λ (l : Option (List Entry)). AreUpTo commits (entries_of l)) (sym is_log) numbered;
    waiting = subst (AllStandIn (entries_of t.log)) (sym (waiting ∙ is.none_waits quiet)) tt;
    none_waits = λ e. waiting ∙ is.none_waits quiet;
    places = ap length confirmed ∙ is.places;
    required = subst WaitsForMembers (sym required) is.required;
  }

  sound-if : (b : Bool) (s t : ServerFacts) → (b ≡ true → IsServerSound commits s)
      → (b ≡ false → IsServerSound commits t) → IsServerSound commits (cond b s t)
  sound-if true s t first second = first refl
  sound-if false s t first second = second refl

  -- ---- states
  pub sound-stopped : (s : ServerFacts) → has_data s.state ≡ true → IsServerSound commits s
      → IsServerSound commits (stopped s)
  sound-stopped s with_data is = sound-resting s (stopped s) refl refl refl refl (λ e. with_data) is

  data-crashed : (state : State) → has_data (crashed_state state) ≡ true → has_data state ≡ true
  data-crashed states.Creating e = e
  data-crashed states.Stopped e = refl
  data-crashed (states.Starting as_primary at) e = refl
  data-crashed states.Replica e = refl
  data-crashed states.Primary e = refl
  data-crashed (states.Stopping was_primary at) e = refl
  data-crashed states.Crashed e = refl

  pub sound-crashed : (s : ServerFacts) → IsServerSound commits s → IsServerSound commits (crashed s)
  sound-crashed s is = sound-resting s (crashed s) refl refl refl refl (data-crashed s.state) is

  pub sound-wiped : (s : ServerFacts) → IsServerSound commits s → IsServerSound commits (wiped s)
  sound-wiped s is = record {
    end = omega arith;
    log = λ e. absurd (both e);
    numbered = tt;
    waiting = tt;
    none_waits = λ e. refl;
    places = is.places;
    required = is.required;
  }

  sound-replica : (s : ServerFacts) → has_data s.state ≡ true → writes s.state ≡ false
      → IsServerSound commits s → IsServerSound commits (started false s)
  sound-replica s with_data quiet is =
      sound-going s (started false s) refl is.places refl refl (λ e. with_data) (λ e. quiet) is

  sound-primary : (s : ServerFacts) → has_data s.state ≡ true → IsServerSound commits s
      → IsServerSound commits (started true s)
  sound-primary s with_data is =
      sound-going s (started true s) refl refl refl refl (λ e. with_data) (λ e. absurd (both (sym e))) is

  sound-promoted : (s : ServerFacts) → has_data s.state ≡ true → IsServerSound commits s
      → IsServerSound commits (promoted s)
  sound-promoted s with_data is =
      sound-going s (promoted s) refl refl refl refl (λ e. with_data) (λ e. absurd (both (sym e))) is

  pub sound-begun : (state : State) (s : ServerFacts) → has_data s.state ≡ true → IsServerSound commits s
      → IsServerSound commits (begun_in state s)
  sound-begun states.Replica s with_data is = sound-promoted s with_data is
  sound-begun states.Creating s with_data is = sound-primary s with_data is
  sound-begun states.Stopped s with_data is = sound-primary s with_data is
  sound-begun (states.Starting as_primary at) s with_data is = sound-primary s with_data is
  sound-begun states.Primary s with_data is = sound-primary s with_data is
  sound-begun (states.Stopping was_primary at) s with_data is = sound-primary s with_data is
  sound-begun states.Crashed s with_data is = sound-primary s with_data is

  -- what becomes of one that is down
  data-down : (state : State) → is_down state ≡ true → has_data state ≡ true
  data-down states.Stopped e = refl
  data-down states.Crashed e = refl
  data-down states.Creating e = absurd (both e)
  data-down (states.Starting as_primary at) e = absurd (both e)
  data-down states.Replica e = absurd (both e)
  data-down states.Primary e = absurd (both e)
  data-down (states.Stopping was_primary at) e = absurd (both e)

  quiet-down : (state : State) → is_down state ≡ true → writes state ≡ false
  quiet-down states.Stopped e = refl
  quiet-down states.Crashed e = refl
  quiet-down states.Creating e = refl
  quiet-down (states.Starting as_primary at) e = refl
  quiet-down states.Replica e = refl
  quiet-down states.Primary e = absurd (both e)
  quiet-down (states.Stopping was_primary at) e = absurd (both e)

  sound-starting : (as_primary : Bool) (at : Ticks) (s : ServerFacts) → has_data s.state ≡ true → writes s.state ≡ false
      → IsServerSound commits s → IsServerSound commits (record s { state = states.Starting as_primary at })
  sound-starting as_primary at s with_data quiet is = sound-going s
      (record s { state = states.Starting as_primary at }) refl is.places refl refl (λ e. with_data) (λ e. quiet) is

  sound-told : (upstream : Option ServerId) (s : ServerFacts) → IsServerSound commits s
      → IsServerSound commits (record s { upstream = upstream; was_primary = false })
  sound-told upstream s is = sound-going s
      (record s { upstream = upstream; was_primary = false }) refl is.places refl refl (λ e. e) (λ e. e) is

  starting-replica : (now : Ticks) (s : ServerFacts) (at_once : Bool) → has_data s.state ≡ true
      → writes s.state ≡ false → IsServerSound commits s
      → IsServerSound commits
      (cond at_once (started false s) (record s { state = states.Starting false (moment_after now s.start_delay) }))
  starting-replica now s true with_data quiet is = sound-replica s with_data quiet is
  starting-replica now s false with_data quiet is =
      sound-starting false (moment_after now s.start_delay) s with_data quiet is

  replica-started : (now : Ticks) (upstream : Option ServerId) (s : ServerFacts) → has_data s.state ≡ true
      → writes s.state ≡ false → IsServerSound commits s → IsServerSound commits (replica_started now upstream s)
  replica-started now upstream s with_data quiet is =
      starting-replica now (record s { upstream = upstream; was_primary = false })
      (s.start_delay.0 == 0) with_data quiet (sound-told upstream s is)

  replica-starts : (now : Ticks) (state : State) (s : ServerFacts) → s.state ≡ state → IsServerSound commits s
      → IsServerSound commits (replica_starts_in state now s)
  replica-starts now states.Stopped s e is = replica-started now None s (ap has_data e) (ap writes e) is
  replica-starts now states.Crashed s e is = replica-started now None s (ap has_data e) (ap writes e) is
  replica-starts now states.Replica s e is = replica-started now s.upstream s (ap has_data e) (ap writes e) is
  replica-starts now _ s e is = is

  pub sound-as_replica : (now : ℕ) (s : ServerFacts) → IsServerSound commits s
      → IsServerSound commits (starts_as_replica now s)
  sound-as_replica now s is = replica-starts (record { 0 = now }) s.state s refl is

  primary-started : (now : Ticks) (s : ServerFacts) (down at_once : Bool) → is_down s.state ≡ down
      → IsServerSound commits s
      → IsServerSound commits
      (cond (down && not at_once)
      (cond at_once (started true s) (record s { state = states.Starting true (moment_after now s.start_delay) })) s)
  primary-started now s true true e is = is
  primary-started now s true false e is =
      sound-starting true (moment_after now s.start_delay) s (data-down s.state e) (quiet-down s.state e) is
  primary-started now s false at_once e is = is

  pub sound-as_primary : (now : ℕ) (s : ServerFacts) → IsServerSound commits s
      → IsServerSound commits (starts_as_primary now s)
  sound-as_primary now s is = primary-started (record { 0 = now }) s (is_down s.state) (s.start_delay.0 == 0) refl is

  -- what becomes of one that shuts down
  stop-slow : (at : Ticks) (s : ServerFacts) → has_data s.state ≡ true
      → (is_primary s.state ≡ false → writes s.state ≡ false) → IsServerSound commits s
      → IsServerSound commits (record s { state = states.Stopping (is_primary s.state) at })
  stop-slow at s with_data quiet is = sound-going s
      (record s { state = states.Stopping (is_primary s.state) at }) refl is.places refl refl (λ e. with_data) quiet is

  data-up : (state : State) → is_up state ≡ true → has_data state ≡ true
  data-up (states.Starting as_primary at) e = refl
  data-up states.Replica e = refl
  data-up states.Primary e = refl
  data-up states.Creating e = absurd (both e)
  data-up states.Stopped e = absurd (both e)
  data-up (states.Stopping was_primary at) e = absurd (both e)
  data-up states.Crashed e = absurd (both e)

  quiet-up : (state : State) → is_up state ≡ true → is_primary state ≡ false → writes state ≡ false
  quiet-up (states.Starting as_primary at) e none = refl
  quiet-up states.Replica e none = refl
  quiet-up states.Primary e none = absurd (both (sym none))
  quiet-up states.Creating e none = absurd (both e)
  quiet-up states.Stopped e none = absurd (both e)
  quiet-up (states.Stopping was_primary at) e none = absurd (both e)
  quiet-up states.Crashed e none = absurd (both e)

  and-left : (a b : Bool) → (a && b) ≡ true → a ≡ true
  and-left true b e = refl
  and-left false b e = absurd (both e)

  pub sound-stops : (now : ℕ) (s : ServerFacts) → IsServerSound commits s → IsServerSound commits (stops now s)
  sound-stops now s is =
      let at : Ticks = record { 0 = now } in
      sound-if (stops_quietly s) (stopping at s) s
      (λ e. let up : is_up s.state ≡ true = and-left (is_up s.state) _ e in
      sound-if (s.stop_delay.0 == 0) (stopped s)
      (record s { state = states.Stopping (is_primary s.state) (moment_after at s.stop_delay) })
      (λ z. sound-stopped s (data-up s.state up) is)
      (λ z. stop-slow (moment_after at s.stop_delay) s (data-up s.state up) (quiet-up s.state up) is))
      (λ e. is)

  -- starts and stops that are complete with a tick
  tick-done : (now : Ticks) (state : State) (s : ServerFacts) → s.state ≡ state → IsServerSound commits s
      → IsServerSound commits (cond (live state) s (completed now state s))
  tick-done now (states.Starting true at) s e is = is
  tick-done now (states.Starting false at) s e is =
      sound-if (nat_le at.0 now.0) (started false s) s (λ z. sound-replica s (ap has_data e) (ap writes e) is) (λ z. is)
  tick-done now (states.Stopping true at) s e is = is
  tick-done now (states.Stopping false at) s e is =
      sound-if (nat_le at.0 now.0) (stopped s) s (λ z. sound-stopped s (ap has_data e) is) (λ z. is)
  tick-done now states.Creating s e is = is
  tick-done now states.Stopped s e is = is
  tick-done now states.Replica s e is = is
  tick-done now states.Primary s e is = is
  tick-done now states.Crashed s e is = is

  pub sound-ticked : (now : Ticks) (s : ServerFacts) → IsServerSound commits s
      → IsServerSound commits (ticked_unless_live now s)
  sound-ticked now s is = tick-done now s.state s refl is

  -- what states, logs and commits that wait don't depend on
  pub sound-aside : (s t : ServerFacts) → t.state ≡ s.state → t.log ≡ s.log → t.confirmed ≡ s.confirmed
      → t.required ≡ s.required → t.waiting ≡ s.waiting → IsServerSound commits s → IsServerSound commits t
  sound-aside s t state log confirmed required waiting is =
      sound-going s t log (ap length confirmed ∙ is.places) required waiting
      (λ e. ap has_data (sym state) ∙ e) (λ e. ap writes (sym state) ∙ e) is

  -- ---- logs
  pub sound-received : (s source : ServerFacts) (count : ℕ) → writes s.state ≡ false
      → IsPrefixOf (entries_of s.log) (entries_of source.log) → IsServerSound commits source → IsServerSound commits s
      → IsServerSound commits (received_from count s source)
  sound-received s source count quiet prefix source_is is =
      let log : List Entry = received (entries_of s.log) (entries_of source.log) count in
      let front : IsPrefixOf log (entries_of source.log) =
      received-prefix (entries_of s.log) (entries_of source.log) count prefix in
      sound-logged s (received_from count s source) log refl refl refl refl quiet
      (omega (arith, end-le log (entries_of source.log) front, source_is.end))
      (up-prefix commits log (entries_of source.log) front source_is.numbered) is

  pub sound-rewound : (s source : ServerFacts) (kept : ℕ) → writes s.state ≡ false → IsServerSound commits s
      → IsServerSound commits (rewound_to kept s source)
  sound-rewound s source kept quiet is =
      let log : List Entry = take kept (entries_of s.log) in
      let front : IsPrefixOf log (entries_of s.log) =
      record { rest = drop kept (entries_of s.log); whole = sym (take-append-drop kept (entries_of s.log)) } in
      sound-logged s (rewound_to kept s source) log refl refl refl refl quiet
      (omega (arith, end-le log (entries_of s.log) front, is.end))
      (up-prefix commits log (entries_of s.log) front is.numbered) is

  pub sound-cloned : (s source : ServerFacts) → writes s.state ≡ false → HasLog source.log
      → IsServerSound commits source → IsServerSound commits s → IsServerSound commits (cloned s source)
  sound-cloned s source quiet has source_is is =
      sound-logged s (cloned s source) has.entries has.is refl refl refl quiet
      (subst (λ (l : Option (List Entry)). end_of (entries_of l) ≤ 2 ^ 63) has.is source_is.end)
      (subst (λ (l : Option (List Entry)). AreUpTo commits (entries_of l)) has.is source_is.numbered) is

  -- ---- replication
  pub sound-confirming : (by : MemberId) (end : Lsn) (s : ServerFacts) → IsServerSound commits s
      → IsServerSound commits (confirming by end s)
  sound-confirming by end s is = sound-going s (confirming by end s) refl
      (length-set s.confirmed by.number (Some end) ∙ is.places) refl refl (λ e. e) (λ e. e) is

  pub sound-requiring : (required : Required) (s : ServerFacts) → WaitsForMembers required
      → IsServerSound commits s → IsServerSound commits (requiring required s)
  sound-requiring required s members is = record {
    end = is.end;
    log = is.log;
    numbered = is.numbered;
    waiting = is.waiting;
    none_waits = is.none_waits;
    places = is.places;
    required = members;
  }

  all-but-first : (log : List Entry) (waiting : List Waiting) → AllStandIn log waiting → AllStandIn log (drop 1 waiting)
  all-but-first log [] all = tt
  all-but-first log (first ∷ more) all = all.1

  pub sound-acknowledged : (s : ServerFacts) → IsServerSound commits s
      → IsServerSound commits (record s { waiting = drop 1 s.waiting })
  sound-acknowledged s is = record {
    end = is.end;
    log = is.log;
    numbered = is.numbered;
    waiting = all-but-first (entries_of s.log) s.waiting is.waiting;
    none_waits = λ e. ap (drop 1) (is.none_waits e);
    places = is.places;
    required = is.required;
  }

  -- ---- commits
  all-append : (log : List Entry) (entry : Entry) (waiting : List Waiting) (last : Waiting) → AllStandIn log waiting
      → StandsIn (log ++ entry ∷ []) last → AllStandIn (log ++ entry ∷ []) (waiting ++ last ∷ [])
  all-append log entry [] last all stands = (stands, tt)
  all-append log entry (first ∷ more) last all stands = (
    record {
      entry = entry-append first.serial log (entry ∷ []) all.0.entry;
      end = ap end_of (front-append first.serial log (entry ∷ []) all.0.entry) ∙ all.0.end;
    },
    all-append log entry more last all.1 stands,
  )

  pub sound-later : (later : ℕ) (s : ServerFacts) → commits ≤ later → IsServerSound commits s → IsServerSound later s
  sound-later later s le is = record {
    end = is.end;
    log = is.log;
    numbered = up-more commits later (entries_of s.log) le is.numbered;
    waiting = is.waiting;
    none_waits = is.none_waits;
    places = is.places;
    required = is.required;
  }

  pub sound-appended : (s : ServerFacts) (entry : Entry) → writes s.state ≡ true → entry.serial ≡ commits + 1
      → end_of (entries_of s.log) + entry.bytes ≤ 2 ^ 63 → IsServerSound commits s
      → IsServerSound entry.serial (appended entry s)
  sound-appended s entry writing next room is =
      let log : List Entry = entries_of s.log ++ entry ∷ [] in
      let end : end_of log ≤ 2 ^ 63 =
      omega (arith, end-append (entries_of s.log) (entry ∷ []), sum_by-cons (λ (e : Entry). e.bytes) entry [], room) in
      record {
        end = end;
        log = λ e. record { entries = log; is = refl };
        numbered = up-append entry.serial (entries_of s.log) (entry ∷ [])
            (up-more commits entry.serial (entries_of s.log) (omega (arith, next)) is.numbered) (omega arith, tt);
        waiting = all-append (entries_of s.log) entry s.waiting
            (record { serial = entry.serial; end = lsn_at (end_of log) }) is.waiting
            (record {
              entry = record { front = entries_of s.log; entry = entry; rest = []; whole = refl; serial = refl };
              end = ap end_of (front-whole commits (entries_of s.log) entry is.numbered (omega (arith, next)))
                  ∙ sym (lsn_at-position (end_of log) end);
            });
        none_waits = λ e. absurd (both (sym e ∙ writing));
        places = is.places;
        required = is.required;
      }
