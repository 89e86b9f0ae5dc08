-- The events of an action, folded, are the action.
use Rattle.std.proofs.Common.{◌≡◌, ℕ, Bool, List, ◌∷◌, Option, Some, slice_get, refl, ◌∙◌, ap, []}
use Rattle.std.proofs.Math.Path.{fun_ext}
use Rattle.pat_base.specs.declared.lsn.Lsn.{Lsn}
use Rattle.wal_model.specs.declared.entry.Entry.{Entry}
use Rattle.event_book.specs.declared.event.AgentEvent.TheVariants as agents
use Rattle.event_book.specs.declared.event.Event.{Event}
use Rattle.event_book.specs.declared.event.EventKind.{EventKind}
use Rattle.event_book.specs.declared.event.EventKind.TheVariants as kinds
use Rattle.event_book.specs.declared.event.LogEvent.TheVariants as logs
use Rattle.event_book.specs.declared.event.ReplicationEvent.TheVariants as replications
use Rattle.event_book.specs.declared.event.ServerEvent.TheVariants as servers
use Rattle.event_book.specs.declared.event.StoreEvent.TheVariants as stores
use Rattle.event_book.specs.declared.event.WatchdogEvent.TheVariants as watchdogs
use Rattle.event_book.specs.Functions.{put_at}
use Rattle.event_book.specs.Logs.{Logs}
use Rattle.commit_actions.specs.Functions.{forget}
use Rattle.commit_actions.specs.Keys.{SyncKey}
use Rattle.commit_actions.specs.Flights.{Flying}
use Rattle.commit_actions.specs.States.{Agent, Machine, State}
use Rattle.commit_actions.specs.Inputs.{Sending, AgentInput}
use Rattle.commit_actions.specs.Actions.{Note, Input, send, machine_after}
use Rattle.commit_actions.specs.Past.{Setup, Past, past_after, past_over, VolatileState, log_found, confirmers_of, position_of, machine_of, state_of, leader_revision, key_holder, failsafe_revision_of}
use Rattle.commit_showing.specs.Books.{IsShown}
use Rattle.commit_showing.specs.Showing.{IsOwn, AreOwn, IsIdle, AreIdle}
use Rattle.commit_showing.specs.ShownActions.{ActionsAreShown}
use Rattle.lease_model.proofs.Tools.{put-here, put-there}
use Rattle.commit_showing.proofs.ShownServers.{accept-shown, acknowledge-shown, cease-shown, changed-there, clone-shown, commit-shown, confirm-shown, crashed-shown, ended-shown, killed-shown, machine-eq, members-shown, receive-shown, reset-shown, rewind-shown, start-shown, wipe-shown}
use Rattle.commit_showing.proofs.ShownMessages.{answered-shown, claim-shown, create-as-read-shown, create-shown, expired-shown, lost-shown, other-shown, publish-shown, race-answer-shown, refused-shown, release-shown, renew-shown, snapshot-shown, tick-shown}

-- ---- inputs
-- what the events of an input of m leave as it was
record Frame (m : ℕ) (past past' : Past) : Type 0 where
  sync : past'.sync ≡ past.sync
  leader : past'.lease.leader ≡ past.lease.leader
  failsafe : past'.lease.failsafe ≡ past.lease.failsafe
  revision : past'.lease.revision ≡ past.lease.revision
  runs : past'.lease.runs ≡ past.lease.runs
  logs : past'.logs ≡ past.logs
  writes : past'.lease.writes ≡ past.lease.writes
  confirmed : past'.confirmed ≡ past.confirmed
  required : (n : ℕ) → (n ≡ m → ⊥) → slice_get past'.required n ≡ slice_get past.required n
  acknowledged_log : past'.acknowledged_log ≡ past.acknowledged_log
  acknowledged : past'.acknowledged ≡ past.acknowledged

frame-self : (m : ℕ) (past : Past) → Frame m past past
frame-self m past = record {
  sync = refl;
  leader = refl;
  failsafe = refl;
  revision = refl;
  runs = refl;
  logs = refl;
  writes = refl;
  confirmed = refl;
  required = λ n other. refl;
  acknowledged_log = refl;
  acknowledged = refl;
}

frame-by : (m : ℕ) (past : Past) (kind : EventKind) → IsOwn m kind → Frame m past (past_after past kind)
frame-by m past (kinds.Message happening) own = record {
  sync = refl;
  leader = refl;
  failsafe = refl;
  revision = refl;
  runs = refl;
  logs = refl;
  writes = refl;
  confirmed = refl;
  required = λ n other. refl;
  acknowledged_log = refl;
  acknowledged = refl;
}
frame-by m past (kinds.Watchdog (watchdogs.Reset member)) own = absurd own
frame-by m past (kinds.Watchdog _) own = record {
  sync = refl;
  leader = refl;
  failsafe = refl;
  revision = refl;
  runs = refl;
  logs = refl;
  writes = refl;
  confirmed = refl;
  required = λ n other. refl;
  acknowledged_log = refl;
  acknowledged = refl;
}
frame-by m past (kinds.Server (servers.Began server timeline)) own = absurd own
frame-by m past (kinds.Server (servers.Ended server)) own = absurd own
frame-by m past (kinds.Server (servers.Crashed server)) own = absurd own
frame-by m past (kinds.Server _) own = record {
  sync = refl;
  leader = refl;
  failsafe = refl;
  revision = refl;
  runs = refl;
  logs = refl;
  writes = refl;
  confirmed = refl;
  required = λ n other. refl;
  acknowledged_log = refl;
  acknowledged = refl;
}
frame-by m past (kinds.Replication (replications.RequiredSet server list names)) own = record {
  sync = refl;
  leader = refl;
  failsafe = refl;
  revision = refl;
  runs = refl;
  logs = refl;
  writes = refl;
  confirmed = refl;
  required = λ n other. changed-there past.required server.id.number (λ before. list) n (λ e. other (e ∙ own));
  acknowledged_log = refl;
  acknowledged = refl;
}
frame-by m past (kinds.Replication (replications.Lacks server)) own = record {
  sync = refl;
  leader = refl;
  failsafe = refl;
  revision = refl;
  runs = refl;
  logs = refl;
  writes = refl;
  confirmed = refl;
  required = λ n other. refl;
  acknowledged_log = refl;
  acknowledged = refl;
}
frame-by m past (kinds.Agent (agents.Started agent incarnation)) own = absurd own
frame-by m past (kinds.Agent _) own = record {
  sync = refl;
  leader = refl;
  failsafe = refl;
  revision = refl;
  runs = refl;
  logs = refl;
  writes = refl;
  confirmed = refl;
  required = λ n other. refl;
  acknowledged_log = refl;
  acknowledged = refl;
}
frame-by m past (kinds.Note happening) own = record {
  sync = refl;
  leader = refl;
  failsafe = refl;
  revision = refl;
  runs = refl;
  logs = refl;
  writes = refl;
  confirmed = refl;
  required = λ n other. refl;
  acknowledged_log = refl;
  acknowledged = refl;
}
frame-by m past kinds.Tick own = absurd own
frame-by m past (kinds.Store happening) own = absurd own
frame-by m past (kinds.Log happening) own = absurd own
frame-by m past (kinds.Link happening) own = absurd own
frame-by m past (kinds.Replication _) own = absurd own

frame-trans : (m : ℕ) (a b c : Past) → Frame m a b → Frame m b c → Frame m a c
frame-trans m a b c f g = record {
  sync = g.sync ∙ f.sync;
  leader = g.leader ∙ f.leader;
  failsafe = g.failsafe ∙ f.failsafe;
  revision = g.revision ∙ f.revision;
  runs = g.runs ∙ f.runs;
  logs = g.logs ∙ f.logs;
  writes = g.writes ∙ f.writes;
  confirmed = g.confirmed ∙ f.confirmed;
  required = λ n other. g.required n other ∙ f.required n other;
  acknowledged_log = g.acknowledged_log ∙ f.acknowledged_log;
  acknowledged = g.acknowledged ∙ f.acknowledged;
}

frame-all : (m : ℕ) (past : Past) (events : List Event) → AreOwn m events → Frame m past (past_over past events)
frame-all m past [] own = frame-self m past
frame-all m past (event ∷ events) own =
    frame-trans m past (past_after past event.kind) (past_over (past_after past event.kind) events)
    (frame-by m past event.kind own.0) (frame-all m (past_after past event.kind) events own.1)

state-eq : (member_count : ℕ) (creates_compare : Bool) (sync sync' : Option SyncKey) (leader leader' : Option ℕ)
    (holder holder' : ℕ) (holder_was_live : Bool) (failsafe_revision failsafe_revision' : Option ℕ)
    (revision revision' : ℕ) (flight flight' : ℕ → Option Flying) (members members' : ℕ → Machine)
    (acknowledged_log acknowledged_log' : List Entry) (acknowledged acknowledged' : List ℕ) → sync ≡ sync'
    → leader ≡ leader' → holder ≡ holder' → failsafe_revision ≡ failsafe_revision' → revision ≡ revision'
    → flight ≡ flight' → members ≡ members' → acknowledged_log ≡ acknowledged_log' → acknowledged ≡ acknowledged' →
    ◌≡◌ {A = State} (record {
      member_count = member_count;
      creates_compare = creates_compare;
      sync = sync;
      leader = leader;
      holder = holder;
      holder_was_live = holder_was_live;
      failsafe_revision = failsafe_revision;
      revision = revision;
      flight = flight;
      members = members;
      acknowledged_log = acknowledged_log;
      acknowledged = acknowledged;
    }) (record {
      member_count = member_count;
      creates_compare = creates_compare;
      sync = sync';
      leader = leader';
      holder = holder';
      holder_was_live = holder_was_live;
      failsafe_revision = failsafe_revision';
      revision = revision';
      flight = flight';
      members = members';
      acknowledged_log = acknowledged_log';
      acknowledged = acknowledged';
    })
state-eq member_count creates_compare sync sync' leader leader' holder holder' holder_was_live failsafe_revision
    failsafe_revision' revision revision' flight flight' members members' acknowledged_log acknowledged_log'
    acknowledged acknowledged' a b c d e f g h i =
    cc

-- an input whose events are its own, and which leaves these messages in flight
pub input-shown : (setup : Setup) (past : Past) (volatile_states : ℕ → VolatileState) (m : ℕ) (heard : Option ℕ)
    (agent : Agent) (live : Bool) (sends : Option Sending) (events : List Event) → AreOwn m events →
    ((i : ℕ) → (past_over past events).flight i ≡ send sends (forget heard past.flight) i) →
    IsShown setup past volatile_states (record {
      action = Input m (record {
        heard = heard;
        agent = agent;
        live = live;
        required = confirmers_of (slice_get (past_over past events).required m);
        sends = sends;
        holder_was_live = (past_over past events).holder_was_live;
      });
      events = events;
      volatile_states = put_at volatile_states m (record { live = live; agent = Some agent });
    })
input-shown setup past volatile_states m heard agent live sends events own flight =
    let past' : Past = past_over past events in
    let f : Frame m past past' = frame-all m past events own in
    let volatile_state : VolatileState = record { live = live; agent = Some agent } in
    let input : AgentInput = record {
      heard = heard;
      agent = agent;
      live = live;
      required = confirmers_of (slice_get past'.required m);
      sends = sends;
      holder_was_live = past'.holder_was_live;
    } in
    state-eq setup.member_count setup.creates_compare past'.sync past.sync (leader_revision past'.lease.leader)
    (leader_revision past.lease.leader) (key_holder past'.lease.leader) (key_holder past.lease.leader)
    past'.holder_was_live (failsafe_revision_of past'.lease.failsafe) (failsafe_revision_of past.lease.failsafe)
    past'.lease.revision past.lease.revision past'.flight (send sends (forget heard past.flight))
    (λ n. machine_of past' (put_at volatile_states m volatile_state n) n)
    (put_at (λ n. machine_of past (volatile_states n) n) m
    (machine_after (machine_of past (volatile_states m) m) input))
    past'.acknowledged_log past.acknowledged_log past'.acknowledged past.acknowledged
    f.sync (ap leader_revision f.leader) (ap key_holder f.leader)
    (ap failsafe_revision_of f.failsafe) f.revision (fun_ext flight)
    (members-shown past past' volatile_states (put_at volatile_states m volatile_state) m
    (machine_after (machine_of past (volatile_states m) m) input)
    (ap (λ (x : VolatileState). machine_of past' x m) (put-here volatile_states m volatile_state)
    ∙ machine-eq live live (past'.lease.writes m) (past.lease.writes m) (confirmers_of (slice_get past'.required m))
    (confirmers_of (slice_get past'.required m)) (position_of (slice_get past'.confirmed m))
    (position_of (slice_get past.confirmed m)) (log_found (slice_get past'.logs.members m))
    (log_found (slice_get past.logs.members m)) (Some agent) (Some agent) (past'.lease.runs m) (past.lease.runs m)
    refl (ap (λ (w : ℕ → Bool). w m) f.writes) refl
    (ap (λ (c : List (List (Option Lsn))). position_of (slice_get c m)) f.confirmed)
    (ap (λ (l : Logs). log_found (slice_get l.members m)) f.logs) refl (ap (λ (r : ℕ → ℕ). r m) f.runs))
    (λ n other. ap (λ (x : VolatileState). machine_of past' x n) (put-there volatile_states m volatile_state n other)
    ∙ machine-eq (volatile_states n).live (volatile_states n).live (past'.lease.writes n) (past.lease.writes n)
    (confirmers_of (slice_get past'.required n)) (confirmers_of (slice_get past.required n))
    (position_of (slice_get past'.confirmed n)) (position_of (slice_get past.confirmed n))
    (log_found (slice_get past'.logs.members n)) (log_found (slice_get past.logs.members n)) (volatile_states n).agent
    (volatile_states n).agent (past'.lease.runs n) (past.lease.runs n)
    refl (ap (λ (w : ℕ → Bool). w n) f.writes) (ap confirmers_of (f.required n other))
    (ap (λ (c : List (List (Option Lsn))). position_of (slice_get c n)) f.confirmed)
    (ap (λ (l : Logs). log_found (slice_get l.members n)) f.logs) refl (ap (λ (r : ℕ → ℕ). r n) f.runs)))
    f.acknowledged_log f.acknowledged

-- ---- all else
idle-by : (setup : Setup) (past : Past) (volatile_states : ℕ → VolatileState) (kind : EventKind) → IsIdle kind
    → state_of setup (past_after past kind) volatile_states ≡ state_of setup past volatile_states
idle-by setup past volatile_states (kinds.Store (stores.Granted number by txn standbys)) idle = absurd idle
idle-by setup past volatile_states (kinds.Store _) idle = refl
idle-by setup past volatile_states (kinds.Watchdog (watchdogs.Reset member)) idle = absurd idle
idle-by setup past volatile_states (kinds.Watchdog (watchdogs.Armed member until answer)) idle = refl
idle-by setup past volatile_states (kinds.Watchdog (watchdogs.Fed member until basis)) idle = refl
idle-by setup past volatile_states (kinds.Watchdog (watchdogs.Disarmed member)) idle = refl
idle-by setup past volatile_states (kinds.Watchdog (watchdogs.Measured member since)) idle = refl
idle-by setup past volatile_states (kinds.Watchdog (watchdogs.HoldTaken member until by incarnation sequence)) idle =
    refl
idle-by setup past volatile_states (kinds.Server (servers.Began server timeline)) idle = absurd idle
idle-by setup past volatile_states (kinds.Server (servers.Ended server)) idle = absurd idle
idle-by setup past volatile_states (kinds.Server (servers.Crashed server)) idle = absurd idle
idle-by setup past volatile_states (kinds.Server _) idle = refl
idle-by setup past volatile_states (kinds.Agent (agents.Started agent incarnation)) idle = absurd idle
idle-by setup past volatile_states (kinds.Agent _) idle = refl
idle-by setup past volatile_states (kinds.Link happening) idle = refl
idle-by setup past volatile_states (kinds.Note happening) idle = refl
idle-by setup past volatile_states kinds.Tick idle = absurd idle
idle-by setup past volatile_states (kinds.Message happening) idle = absurd idle
idle-by setup past volatile_states (kinds.Log happening) idle = absurd idle
idle-by setup past volatile_states (kinds.Replication (replications.Lacks server)) idle = refl
idle-by setup past volatile_states (kinds.Replication _) idle = absurd idle

idle-all : (setup : Setup) (past : Past) (volatile_states : ℕ → VolatileState) (events : List Event)
    → AreIdle events → state_of setup (past_over past events) volatile_states ≡ state_of setup past volatile_states
idle-all setup past volatile_states [] idle = refl
idle-all setup past volatile_states (event ∷ events) idle =
    idle-all setup (past_after past event.kind) volatile_states events idle.1
    ∙ idle-by setup past volatile_states event.kind idle.0

pub idle-shown : (setup : Setup) (past : Past) (volatile_states : ℕ → VolatileState) (events : List Event)
    → AreIdle events →
    IsShown setup past volatile_states (record { action = Note; events = events; volatile_states = volatile_states })
idle-shown setup past volatile_states events idle = idle-all setup past volatile_states events idle

pub actions-are-shown : ActionsAreShown
actions-are-shown = record {
  idle = idle-shown;
  commit = commit-shown;
  receive = receive-shown;
  rewind = rewind-shown;
  clone = clone-shown;
  wipe = wipe-shown;
  acknowledge = acknowledge-shown;
  confirm = confirm-shown;
  accept = accept-shown;
  ended = ended-shown;
  crashed = crashed-shown;
  reset = reset-shown;
  cease = cease-shown;
  start = start-shown;
  killed = killed-shown;
  tick = tick-shown;
  expired = expired-shown;
  lost = lost-shown;
  claim = claim-shown;
  publish = publish-shown;
  create = create-shown;
  create_as_read = create-as-read-shown;
  renew = renew-shown;
  other = other-shown;
  release = release-shown;
  answered = answered-shown;
  refused = refused-shown;
  shown = snapshot-shown;
  replied = race-answer-shown;
  input = input-shown;
}
