-- What may happen to servers and logs is an action that is allowed and shown.
use Rattle.std.proofs.Common.{ℕ, ◌≡◌, ◌<◌, ◌==◌, true, List, [], ◌∷◌, length, take, get_or, slice_get, Option, Some, None, option_map, refl, ◌∙◌, ap, sym, subst, arith}
use Rattle.std.specs.Int.{bit_at}
use Rattle.std.proofs.lemmas.Option.{slice_get-map, slice_get-get_or, slice_get_within}
use Rattle.std.proofs.lemmas.Bool.Decides.{nat_tests}
use Rattle.pat_base.specs.declared.lsn.Lsn.{Lsn}
use Rattle.pat_base.specs.declared.member_set.MemberSet.{MemberSet}
use Rattle.pat_base.specs.declared.server_state.Required.{Required}
use Rattle.pat_base.specs.declared.server_state.Required.TheVariants as requireds
use Rattle.pat_base.specs.declared.server_state.State.{State}
use Rattle.pat_base.specs.declared.server_state.State.TheVariants as states
use Rattle.pat_base.specs.ServerState.{writes, live}
use Rattle.wal_model.specs.declared.entry.Entry.{Entry}
use Rattle.wal_model.specs.Log.{common_of, end_of}
use Rattle.pg_model.specs.Facts.{ServerFacts, entries_of, has_data}
use Rattle.pg_model.specs.Replication.{is_met, Reaches as ReachesEnd}
use Rattle.pg_model.specs.Rewinding.{common_log, is_rewindable}
use Rattle.pg_model.proofs.Acks.{is_met-to, is_met-from}
use Rattle.pg_model.proofs.Rewinds.{rewound-told}
use Rattle.event_book.specs.declared.event.EventKind.{EventKind}
use Rattle.event_book.specs.declared.event.EventKind.TheVariants as kinds
use Rattle.event_book.specs.declared.event.Event.{Event}
use Rattle.event_book.specs.declared.event.LogEvent.{LogEvent}
use Rattle.event_book.specs.declared.event.LogEvent.TheVariants as logs
use Rattle.event_book.specs.declared.event.ReplicationEvent.{ReplicationEvent}
use Rattle.event_book.specs.declared.event.ReplicationEvent.TheVariants as replications
use Rattle.event_book.specs.declared.event.ServerEvent.{ServerEvent}
use Rattle.event_book.specs.declared.event.ServerEvent.TheVariants as servers
use Rattle.event_book.specs.declared.event.WatchdogEvent.{WatchdogEvent}
use Rattle.event_book.specs.declared.event.WatchdogEvent.TheVariants as watchdogs
use Rattle.event_book.specs.declared.member.Member.{Member}
use Rattle.event_book.specs.declared.member.ServerOf.{ServerOf}
use Rattle.event_book.specs.Facts.{Facts, facts_after}
use Rattle.event_book.specs.Logs.{Logs}
use Rattle.event_book.specs.Clock.{now_after}
use Rattle.event_book.specs.Writers.{writes_now, BeginsKind}
use Rattle.lease_model.proofs.Tools.{some-is, both}
use Rattle.commit_actions.specs.Actions.{Commit, Acknowledge, Receive, Confirm, Rewind, Clone, Wipe, Accept, End, Note, CopiesFrom, MayAcknowledge}
use Rattle.commit_actions.specs.Keys.{Meets}
use Rattle.commit_actions.specs.Past.{Setup, Past, VolatileState, front_to, log_found, confirmers_in, confirmers_of, position_in, position_of, past_after, state_of}
use Rattle.commit_showing.specs.Showing.{IsIdle}
use Rattle.commit_actions.specs.States.{HasLog, HasEntryOf, Reaches}
use Rattle.commit_showing.proofs.ShownServers.{commit-shown, receive-shown, rewind-shown, clone-shown, wipe-shown, acknowledge-shown, confirm-shown, accept-shown, ended-shown, crashed-shown, reset-shown}
use Rattle.commit_showing.proofs.Showing.{idle-shown}
use Rattle.commit_servers.specs.Matching.{IsSameServers, IsLiveAs, live_now, volatile_after}
use Rattle.commit_servers.specs.Sound.{IsServerSound, StandsIn, AllStandIn, WaitsForMembers}
use Rattle.commit_servers.specs.Happening.{Appends, Takes, Receives, Rewinds, Copies, Wipes, Confirms, Acknowledges, MayHappen, MayHappenToLog, MayHappenToServer, MayBeReplicated, MayFollow}
use Rattle.commit_servers.specs.Acting.{IsAction, Fits, Leads, AreActions}
use Rattle.commit_servers.proofs.Fronts.{front-prefix, front-entry}
use Rattle.commit_servers.proofs.Keeping.{leaves-sound, live-data, sound-by, writes-live}
use Rattle.commit_servers.proofs.Live.{live-after}
use Rattle.commit_servers.proofs.Matching.{same-by}
use Rattle.pat_base.specs.declared.member_id.TheConstants.{MOST_MEMBERS}

-- ---- what the past has of a server that is there
module _ (past : Past) (facts : Facts) (same : IsSameServers past facts) (k : ℕ) (s : ServerFacts)
    (found : slice_get facts.servers k ≡ Some s) where
  pub log-at : slice_get past.logs.members k ≡ Some s.log
  log-at = ap (λ (known : Logs). slice_get known.members k) same.logs ∙ slice_get-map (λ s. s.log) facts.servers k
      ∙ ap (option_map (λ s. s.log)) found

  pub required-at : slice_get past.required k ≡ Some s.required
  required-at = ap (λ known. slice_get known k) same.required
      ∙ slice_get-map (λ s. s.required) facts.servers k ∙ ap (option_map (λ s. s.required)) found

  pub confirmed-at : slice_get past.confirmed k ≡ Some s.confirmed
  confirmed-at = ap (λ known. slice_get known k) same.confirmed
      ∙ slice_get-map (λ s. s.confirmed) facts.servers k ∙ ap (option_map (λ s. s.confirmed)) found

  pub writes-at : past.lease.writes k ≡ writes s.state
  writes-at = same.writes k ∙ ap writes_now found

  pub whole-log : HasLog s.log → log_found (slice_get past.logs.members k) ≡ Some (entries_of s.log)
  whole-log has = ap log_found log-at ∙ has.is ∙ ap (λ (o : Option (List Entry)). Some (entries_of o)) (sym has.is)

live-at : (volatile_states : ℕ → VolatileState) (known : List ServerFacts) (k : ℕ) (s : ServerFacts)
    → IsLiveAs volatile_states known → slice_get known k ≡ Some s → (volatile_states k).live ≡ live s.state
live-at volatile_states known k s is found = is.live k ∙ ap live_now found

-- ---- whom a commit waits for has confirmed it
is-one : (bit : ℕ) → bit ≡ 1 → (bit == 1) ≡ true
is-one bit e = grind (arith, nat_tests)

in-set : (bit : ℕ) → (bit == 1) ≡ true → bit ≡ 1
in-set bit e = grind (arith, nat_tests)

reached : (end : Lsn) (position : ℕ) (found : Option Lsn) → position ≡ end.position → ReachesEnd end found
    → Reaches position (position_in (Some found))
reached end position None is reaches = absurd reaches
reached end position (Some confirmed) is reaches = omega (arith, is, reaches)

met-by : (member_count : ℕ) (required : Required) (end : Lsn) (position : ℕ) (confirmed : List (Option Lsn))
    → length confirmed ≡ MOST_MEMBERS → WaitsForMembers required → position ≡ end.position
    → is_met required end confirmed ≡ true
    → Meets member_count (confirmers_in required) (λ n. Reaches position (position_in (slice_get confirmed n)))
met-by member_count requireds.Nobody end position confirmed long members is met = tt
met-by member_count requireds.AnyOne end position confirmed long members is met = tt
met-by member_count (requireds.AtLeast number of) end position confirmed long members is met = tt
met-by member_count (requireds.All set) end position confirmed long members is met = λ n within.
    let bit : bit_at set.bits n ≡ 1 = in-set (bit_at set.bits n) within in
    let few : n < length confirmed = omega (arith, members n bit, long) in
    subst (λ (o : Option (Option Lsn)). Reaches position (position_in o)) (sym (slice_get-get_or confirmed n None few))
    (reached end position (get_or confirmed n None) is (is_met-to (requireds.All set) end confirmed met n few bit))

-- in a book's words
pub met-in : (member_count : ℕ) (required : Required) (end : Lsn) (confirmed : List (Option Lsn))
    → length confirmed ≡ MOST_MEMBERS → WaitsForMembers required → is_met required end confirmed ≡ true
    → Meets member_count (confirmers_in required) (λ n. Reaches end.position (position_of (Some confirmed) n))
met-in member_count required end confirmed long members met =
    met-by member_count required end end.position confirmed long members refl met

reached-end : (end : Lsn) (found : Option Lsn) → Reaches end.position (position_in (Some found)) → ReachesEnd end found
reached-end end None reaches = absurd reaches
reached-end end (Some confirmed) reaches = reaches

pub met-from : (member_count : ℕ) (set : MemberSet) (end : Lsn) (confirmed : List (Option Lsn))
    → Meets member_count (confirmers_in (requireds.All set))
    (λ n. Reaches end.position (position_of (Some confirmed) n))
    → is_met (requireds.All set) end confirmed ≡ true
met-from member_count set end confirmed meets =
    is_met-from (requireds.All set) end confirmed (λ k few bit. reached-end end (get_or confirmed k None)
    (subst (λ (o : Option (Option Lsn)). Reaches end.position (position_in o))
    (slice_get-get_or confirmed k None few) (meets k (is-one (bit_at set.bits k) bit))))

-- ---- each by itself
module _ (setup : Setup) (past : Past) (facts : Facts) (volatile_states : ℕ → VolatileState)
    (fits : Fits past facts volatile_states) where
  appended-action : (server : ServerOf) (entry : Entry) → Appends facts server.id.number entry
      → IsAction setup past volatile_states (kinds.Log (logs.Appended server entry)) volatile_states
  appended-action server entry may =
      let k = server.id.number in
      record {
        action = Commit k entry;
        allowed = (writes-at past facts fits.same k may.server may.is ∙ may.is_writer, may.bytes);
        shown = λ tick. commit-shown setup past volatile_states tick server entry may.server.log
            (log-at past facts fits.same k may.server may.is);
      }

  copies-from : (m from : ℕ) (takes : Takes facts.servers m from) → has_data takes.server.state ≡ true
      → CopiesFrom (state_of setup past volatile_states) m from
  copies-from m from takes with_data = record {
    mine = entries_of takes.server.log;
    mine_is = whole-log past facts fits.same m takes.server takes.is
        ((fits.sound.each m takes.server takes.is).log with_data);
    theirs = entries_of takes.source.log;
    theirs_is = whole-log past facts fits.same from takes.source takes.source_is
        ((fits.sound.each from takes.source takes.source_is).log
        (live-data takes.source.state (writes-live takes.source.state takes.is_writer)));
    not_live = live-at volatile_states facts.servers m takes.server fits.live takes.is ∙ takes.not_live;
    writes = writes-at past facts fits.same from takes.source takes.source_is ∙ takes.is_writer;
  }

  received-action : (server from : ServerOf) (count : ℕ) → Receives facts.servers server.id.number from.id.number
      → IsAction setup past volatile_states (kinds.Log (logs.Received server from count)) volatile_states
  unfolding copies-from
  received-action server from count may =
      let m = server.id.number in
      let n = from.id.number in
      record {
        action = Receive m n count;
        allowed = record { copies = copies-from m n may.takes may.with_data; prefix = may.prefix };
        shown = λ tick. receive-shown setup past volatile_states tick server from count may.takes.server.log
            may.takes.source.log (log-at past facts fits.same m may.takes.server may.takes.is)
            (log-at past facts fits.same n may.takes.source may.takes.source_is);
      }

  rewindable-data : (state : State) → is_rewindable state ≡ true → has_data state ≡ true
  rewindable-data states.Replica e = refl
  rewindable-data states.Stopped e = refl
  rewindable-data states.Creating e = absurd (both e)
  rewindable-data (states.Starting as_primary at) e = refl
  rewindable-data states.Primary e = refl
  rewindable-data (states.Stopping was_primary at) e = refl
  rewindable-data states.Crashed e = refl

  kept-common : (s source : ServerFacts) (kept : ℕ) → kept ≡ length (common_log s source)
      → take kept (entries_of s.log) ≡ common_of (entries_of s.log) (entries_of source.log)
  kept-common s source kept is = ap (λ (n : ℕ). take n (entries_of s.log)) is
      ∙ some-is _ _ (ap (λ (t : ServerFacts). t.log) (rewound-told s source))

  rewound-action : (server from : ServerOf) (kept : ℕ) (at : Lsn)
      → Rewinds facts.servers server.id.number from.id.number kept
      → IsAction setup past volatile_states (kinds.Log (logs.Rewound server from kept at)) volatile_states
  rewound-action server from kept at may =
      let m = server.id.number in
      let n = from.id.number in
      record {
        action = Rewind m n;
        allowed = copies-from m n may.takes (rewindable-data may.takes.server.state may.rewindable);
        shown = λ tick.
            rewind-shown setup past volatile_states tick server from kept at may.takes.server.log may.takes.source.log
            (log-at past facts fits.same m may.takes.server may.takes.is)
            (log-at past facts fits.same n may.takes.source may.takes.source_is)
            (kept-common may.takes.server may.takes.source kept may.kept_is);
      }

  copied-action : (server from : ServerOf) → Copies facts.servers server.id.number from.id.number
      → IsAction setup past volatile_states (kinds.Log (logs.Copied server from)) volatile_states
  copied-action server from may =
      let m = server.id.number in
      let n = from.id.number in
      record {
        action = Clone m n;
        allowed = record {
          not_live =
              live-at volatile_states facts.servers m may.takes.server fits.live may.takes.is ∙ may.takes.not_live;
          writes = writes-at past facts fits.same n may.takes.source may.takes.source_is ∙ may.takes.is_writer;
        };
        shown = λ tick. clone-shown setup past volatile_states tick server from may.takes.server.log
            may.takes.source.log (log-at past facts fits.same m may.takes.server may.takes.is)
            (log-at past facts fits.same n may.takes.source may.takes.source_is);
      }

  wiped-action : (server : ServerOf) → Wipes facts.servers server.id.number
      → IsAction setup past volatile_states (kinds.Log (logs.Wiped server)) volatile_states
  wiped-action server may =
      let m = server.id.number in
      record {
        action = Wipe m;
        allowed = live-at volatile_states facts.servers m may.server fits.live may.is ∙ may.not_live;
        shown = λ tick. wipe-shown setup past volatile_states tick server may.server.log
            (log-at past facts fits.same m may.server may.is);
      }

  confirmed-action : (server : ServerOf) (by : Member) (end : Lsn)
      → Confirms facts.servers server.id.number by.id.number end
      → IsAction setup past volatile_states (kinds.Replication (replications.Confirmed server by end)) volatile_states
  confirmed-action server by end may =
      let m = server.id.number in
      let n = by.id.number in
      record {
        action = Confirm m n;
        allowed = record {
          writes = writes-at past facts fits.same m may.server may.is ∙ may.is_writer;
          mine = entries_of may.server.log;
          mine_is = whole-log past facts fits.same m may.server may.is
              ((fits.sound.each m may.server may.is).log
              (live-data may.server.state (writes-live may.server.state may.is_writer)));
          theirs = entries_of may.standby.log;
          theirs_is = whole-log past facts fits.same n may.standby may.standby_is
              ((fits.sound.each n may.standby may.standby_is).log may.with_data);
          prefix = may.prefix;
        };
        shown = λ tick. confirm-shown setup past volatile_states tick server by end may.server.confirmed
            (confirmed-at past facts fits.same m may.server may.is)
            (omega (arith, by.id.below, (fits.sound.each m may.server may.is).places))
            (may.end_is
            ∙ sym (ap (λ (o : Option (Option (List Entry))). end_of (entries_of (log_found o)))
            (log-at past facts fits.same n may.standby may.standby_is)));
      }

  acknowledge-allowed : (m commit : ℕ) (may : Acknowledges facts.servers m commit)
      → StandsIn (entries_of may.server.log) may.first
      → MayAcknowledge (state_of setup past volatile_states) m
      (front_to commit (entries_of (log_found (slice_get past.logs.members m)))) commit
  acknowledge-allowed m commit may stands =
      let s : ServerFacts = may.server in
      let log : List Entry = entries_of s.log in
      let sound : IsServerSound facts.commits s = fits.sound.each m s may.is in
      let is_log : log_found (slice_get past.logs.members m) ≡ Some log =
      whole-log past facts fits.same m s may.is (sound.log (live-data s.state (writes-live s.state may.is_writer))) in
      let end : end_of (front_to commit log) ≡ may.first.end.position =
      ap (λ (n : ℕ). end_of (front_to n log)) may.commit_is ∙ stands.end in
      subst (λ (o : Option (List Entry)).
      MayAcknowledge (state_of setup past volatile_states) m (front_to commit (entries_of o)) commit)
      (sym is_log)
      (record {
        writes = writes-at past facts fits.same m s may.is ∙ may.is_writer;
        mine = log;
        mine_is = is_log;
        prefix = front-prefix commit log;
        entry = subst (λ (n : ℕ). HasEntryOf n (front_to n log)) (sym may.commit_is)
            (front-entry may.first.serial log stands.entry);
        met =
            subst (λ (r : Option Required). Meets setup.member_count (confirmers_of r)
            (λ n. Reaches (end_of (front_to commit log)) (position_of (slice_get past.confirmed m) n)))
            (sym (required-at past facts fits.same m s may.is))
            (subst (λ (c : Option (List (Option Lsn))). Meets setup.member_count (confirmers_in s.required)
            (λ n. Reaches (end_of (front_to commit log)) (position_of c n)))
            (sym (confirmed-at past facts fits.same m s may.is))
            (met-by setup.member_count s.required may.first.end
            (end_of (front_to commit log)) s.confirmed sound.places sound.required end may.met));
      })

  acknowledged-action : (server : ServerOf) (commit : ℕ) → Acknowledges facts.servers server.id.number commit
      → IsAction setup past volatile_states
      (kinds.Replication (replications.Acknowledged server commit)) volatile_states
  acknowledged-action server commit may =
      let m = server.id.number in
      record {
        action = Acknowledge m (front_to commit (entries_of (log_found (slice_get past.logs.members m)))) commit;
        allowed = acknowledge-allowed m commit may
            (subst (AllStandIn (entries_of may.server.log)) may.waiting
            (fits.sound.each m may.server may.is).waiting).0;
        shown = λ tick. acknowledge-shown setup past volatile_states tick server commit;
      }

  idle-action : (kind : EventKind) → IsIdle kind → IsAction setup past volatile_states kind volatile_states
  idle-action kind idle = record {
    action = Note;
    allowed = tt;
    shown = λ tick. idle-shown setup past volatile_states (record { tick = tick; kind = kind } ∷ []) (idle, tt);
  }

  -- ---- all that may happen
  log-action : (happening : LogEvent) → MayHappenToLog facts happening
      → IsAction setup past volatile_states (kinds.Log happening) volatile_states
  log-action (logs.Appended server entry) may = appended-action server entry may
  log-action (logs.Received server from count) may = received-action server from count may
  log-action (logs.Rewound server from kept at) may = rewound-action server from kept at may
  log-action (logs.Copied server from) may = copied-action server from may
  log-action (logs.Wiped server) may = wiped-action server may

  replication-action : (happening : ReplicationEvent) → MayBeReplicated facts.servers happening
      → IsAction setup past volatile_states (kinds.Replication happening) volatile_states
  replication-action (replications.RequiredSet server required names) may = absurd may
  replication-action (replications.Confirmed server by end) may = confirmed-action server by end may
  replication-action (replications.Acknowledged server commit) may = acknowledged-action server commit may
  replication-action (replications.Lacks server) may = idle-action (kinds.Replication (replications.Lacks server)) tt

-- a server begins that is live by its state or ahead of it
pub began-action : (setup : Setup) (past : Past) (facts : Facts) (volatile_states : ℕ → VolatileState)
    (server : ServerOf) (timeline : ℕ) (s : ServerFacts) → IsSameServers past facts
    → slice_get facts.servers server.id.number ≡ Some s
    → (volatile_states server.id.number).live ≡ true
    → IsAction setup past volatile_states (kinds.Server (servers.Began server timeline)) volatile_states
began-action setup past facts volatile_states server timeline s same found is_live = record {
  action = Accept server.id.number;
  allowed = is_live;
  shown = λ tick. accept-shown setup past volatile_states tick server timeline s.confirmed
      (confirmed-at past facts same server.id.number s found);
}

server-action : (setup : Setup) (past : Past) (facts : Facts) (volatile_states : ℕ → VolatileState)
    (fits : Fits past facts volatile_states) (happening : ServerEvent) → MayHappenToServer facts.servers happening
    → IsAction setup past volatile_states (kinds.Server happening)
    (volatile_after volatile_states (kinds.Server happening))
server-action setup past facts volatile_states fits (servers.Began server timeline) may =
    began-action setup past facts volatile_states server timeline may.server fits.same may.is
    (live-at volatile_states facts.servers server.id.number may.server fits.live may.is ∙ may.is_live)
server-action setup past facts volatile_states fits (servers.Ended server) may = record {
  action = End server.id.number;
  allowed = tt;
  shown = λ tick. ended-shown setup past volatile_states tick server;
}
server-action setup past facts volatile_states fits (servers.Crashed server) may = record {
  action = End server.id.number;
  allowed = tt;
  shown = λ tick. crashed-shown setup past volatile_states tick server;
}
server-action setup past facts volatile_states fits (servers.Stops server) may = absurd may
server-action setup past facts volatile_states fits (servers.StartsAsPrimary server) may = absurd may
server-action setup past facts volatile_states fits (servers.StartsAsReplica server) may =
    idle-action setup past facts volatile_states fits (kinds.Server (servers.StartsAsReplica server)) tt
server-action setup past facts volatile_states fits (servers.Follows server upstream) may =
    idle-action setup past facts volatile_states fits (kinds.Server (servers.Follows server upstream)) tt
server-action setup past facts volatile_states fits (servers.Diverged server upstream at) may =
    idle-action setup past facts volatile_states fits (kinds.Server (servers.Diverged server upstream at)) tt
server-action setup past facts volatile_states fits (servers.Slowed server stop start) may =
    idle-action setup past facts volatile_states fits (kinds.Server (servers.Slowed server stop start)) tt
server-action setup past facts volatile_states fits (servers.Promoted server) may =
    idle-action setup past facts volatile_states fits (kinds.Server (servers.Promoted server)) tt
server-action setup past facts volatile_states fits (servers.Frozen server) may =
    idle-action setup past facts volatile_states fits (kinds.Server (servers.Frozen server)) tt
server-action setup past facts volatile_states fits (servers.Thawed server) may =
    idle-action setup past facts volatile_states fits (kinds.Server (servers.Thawed server)) tt

watchdog-action : (setup : Setup) (past : Past) (facts : Facts) (volatile_states : ℕ → VolatileState)
    (fits : Fits past facts volatile_states) (happening : WatchdogEvent) → MayHappen facts (kinds.Watchdog happening)
    → IsAction setup past volatile_states (kinds.Watchdog happening)
    (volatile_after volatile_states (kinds.Watchdog happening))
watchdog-action setup past facts volatile_states fits (watchdogs.Reset member) may = record {
  action = End member.id.number;
  allowed = tt;
  shown = λ tick. reset-shown setup past volatile_states tick member;
}
watchdog-action setup past facts volatile_states fits (watchdogs.Armed member until answer) may =
    idle-action setup past facts volatile_states fits (kinds.Watchdog (watchdogs.Armed member until answer)) may
watchdog-action setup past facts volatile_states fits (watchdogs.Fed member until basis) may =
    idle-action setup past facts volatile_states fits (kinds.Watchdog (watchdogs.Fed member until basis)) may
watchdog-action setup past facts volatile_states fits (watchdogs.Disarmed member) may =
    idle-action setup past facts volatile_states fits (kinds.Watchdog (watchdogs.Disarmed member)) may
watchdog-action setup past facts volatile_states fits (watchdogs.Measured member since) may =
    idle-action setup past facts volatile_states fits (kinds.Watchdog (watchdogs.Measured member since)) may
watchdog-action setup past facts volatile_states fits (watchdogs.HoldTaken member until from incarnation sequence) may =
    idle-action setup past facts volatile_states fits
    (kinds.Watchdog (watchdogs.HoldTaken member until from incarnation sequence)) may

pub action-of : (setup : Setup) (past : Past) (facts : Facts) (volatile_states : ℕ → VolatileState) (kind : EventKind)
    → Fits past facts volatile_states → MayHappen facts kind
    → IsAction setup past volatile_states kind (volatile_after volatile_states kind)
action-of setup past facts volatile_states (kinds.Log happening) fits may =
    log-action setup past facts volatile_states fits happening may
action-of setup past facts volatile_states (kinds.Server happening) fits may =
    server-action setup past facts volatile_states fits happening may
action-of setup past facts volatile_states (kinds.Replication happening) fits may =
    replication-action setup past facts volatile_states fits happening may
action-of setup past facts volatile_states (kinds.Watchdog happening) fits may =
    watchdog-action setup past facts volatile_states fits happening may
action-of setup past facts volatile_states kinds.Tick fits may = absurd may
action-of setup past facts volatile_states (kinds.Message happening) fits may = absurd may
action-of setup past facts volatile_states (kinds.Store happening) fits may =
    idle-action setup past facts volatile_states fits (kinds.Store happening) may
action-of setup past facts volatile_states (kinds.Agent happening) fits may =
    idle-action setup past facts volatile_states fits (kinds.Agent happening) may
action-of setup past facts volatile_states (kinds.Link happening) fits may =
    idle-action setup past facts volatile_states fits (kinds.Link happening) may
action-of setup past facts volatile_states (kinds.Note happening) fits may =
    idle-action setup past facts volatile_states fits (kinds.Note happening) may

-- ---- and all fits behind it
begins-inside : (facts : Facts) (happening : ServerEvent) → MayHappenToServer facts.servers happening
    → BeginsKind (λ n. n < length facts.servers) (kinds.Server happening)
begins-inside facts (servers.Began server timeline) may =
    slice_get_within facts.servers server.id.number may.server may.is
begins-inside facts _ may = tt

begins-in : (facts : Facts) (kind : EventKind) → MayHappen facts kind → BeginsKind (λ n. n < length facts.servers) kind
begins-in facts (kinds.Server happening) may = begins-inside facts happening may
begins-in facts _ may = tt

pub leads-to : (setup : Setup) (past : Past) (facts : Facts) (volatile_states : ℕ → VolatileState) (kind : EventKind)
    → Fits past facts volatile_states → MayHappen facts kind
    → Leads setup past facts volatile_states kind (volatile_after volatile_states kind)
leads-to setup past facts volatile_states kind fits may = record {
  action = action-of setup past facts volatile_states kind fits may;
  fits = record {
    same = same-by past facts kind (begins-in facts kind may) fits.same;
    live = live-after volatile_states (now_after facts.clock kind) facts kind may fits.live;
    sound = sound-by facts kind (leaves-sound facts kind may) fits.sound;
  };
}

pub actions-of : (setup : Setup) (past : Past) (facts : Facts) (volatile_states : ℕ → VolatileState)
    (events : List Event) → Fits past facts volatile_states → MayFollow facts events
    → AreActions setup past facts volatile_states events
actions-of setup past facts volatile_states [] fits may = tt
actions-of setup past facts volatile_states (event ∷ events) fits may =
    let leads = leads-to setup past facts volatile_states event.kind fits may.0 in (
      leads,
      actions-of setup (past_after past event.kind) (facts_after facts event.kind)
          (volatile_after volatile_states event.kind) events leads.fits may.1,
    )
