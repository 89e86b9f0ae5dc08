-- The events of what happens to logs, servers and agents, folded, are the action.
use Rattle.std.proofs.Common.{◌≡◌, ℕ, zero, suc, ◌+◌, ◌<◌, Bool, true, false, List, ◌∷◌, ◌++◌, length, replicate, take, Option, Some, None, slice_get, slice_set, refl, ◌∙◌, ap, sym, arith, []}
use Rattle.std.proofs.Math.Path.{fun_ext}
use Rattle.pat_base.specs.declared.lsn.Lsn.{Lsn}
use Rattle.pat_base.specs.declared.ticks.Ticks.{Ticks}
use Rattle.wal_model.specs.declared.entry.Entry.{Entry}
use Rattle.wal_model.specs.Log.{common_of, received, end_of}
use Rattle.pg_model.specs.Facts.{entries_of, none_confirmed}
use Rattle.pg_model.proofs.Lists.{got-set_same, got-set_other}
use Rattle.event_book.specs.declared.event.AgentEvent.TheVariants as agents
use Rattle.event_book.specs.declared.event.EventKind.TheVariants as kinds
use Rattle.event_book.specs.declared.event.LogEvent.TheVariants as logs
use Rattle.event_book.specs.declared.event.ReplicationEvent.TheVariants as replications
use Rattle.event_book.specs.declared.event.ServerEvent.TheVariants as servers
use Rattle.event_book.specs.declared.event.WatchdogEvent.TheVariants as watchdogs
use Rattle.event_book.specs.declared.member.Member.{Member}
use Rattle.event_book.specs.declared.member.ServerOf.{ServerOf}
use Rattle.pat_base.specs.Changes.{changed_at, with_changed}
use Rattle.event_book.specs.Functions.{put_at}
use Rattle.event_book.specs.Logs.{Logs, log_at, log_with, logs_by, log_received, log_copied}
use Rattle.event_book.proofs.Remote.{server-listed}
use Rattle.commit_actions.specs.Keys.{Confirmers}
use Rattle.commit_actions.specs.States.{Agent, Machine}
use Rattle.commit_actions.specs.Actions.{Commit, Acknowledge, Receive, Confirm, Rewind, Clone, Wipe, Accept, Cease, End, Start, Kill, with_machine, with_log, fresh_agent}
use Rattle.commit_actions.specs.Past.{Setup, Past, VolatileState, log_found, front_to, position_in, position_of, machine_of, state_of}
use Rattle.commit_showing.specs.Books.{IsShown}
use Rattle.commit_showing.specs.Showing.{event_at, with_server_down}
use Rattle.lease_model.proofs.Tools.{none-some, put-all, put-here, put-there}

-- one item of a list is changed
changed-here : {A : Type 0} (items : List A) (k : ℕ) (f : A → A) (x : A) → slice_get items k ≡ Some x
    → slice_get (with_changed items k f) k ≡ Some (f x)
changed-here items k f x e =
    ap (λ (o : Option _). slice_get (changed_at items k f o) k) e ∙ got-set_same items k (f x) (inside items k x e)
  where
    inside : {A : Type 0} (items : List A) (k : ℕ) (x : A) → slice_get items k ≡ Some x → k < length items
    inside [] k x e = absurd (none-some x e)
    inside (y ∷ ys) zero x e = omega arith
    inside (y ∷ ys) (suc k) x e = omega (arith, inside ys k x e)

changed-at-there : {A : Type 0} (items : List A) (k : ℕ) (f : A → A) (o : Option A) (n : ℕ) → (n ≡ k → ⊥)
    → slice_get (changed_at items k f o) n ≡ slice_get items n
changed-at-there items k f None n other = refl
changed-at-there items k f (Some x) n other = got-set_other items k n (f x) other

pub changed-there : {A : Type 0} (items : List A) (k : ℕ) (f : A → A) (n : ℕ) → (n ≡ k → ⊥)
    → slice_get (with_changed items k f) n ≡ slice_get items n
changed-there items k f n other = changed-at-there items k f (slice_get items k) n other

-- the machines, where one changes
pub members-shown : (past past' : Past) (volatile_states volatile_states' : ℕ → VolatileState) (k : ℕ) (y : Machine)
    → machine_of past' (volatile_states' k) k ≡ y
    → ((n : ℕ) → (n ≡ k → ⊥) → machine_of past' (volatile_states' n) n ≡ machine_of past (volatile_states n) n)
    → ◌≡◌ {A = ℕ → Machine} (λ n. machine_of past' (volatile_states' n) n)
    (put_at (λ n. machine_of past (volatile_states n) n) k y)
members-shown past past' volatile_states volatile_states' k y here there =
    fun_ext (λ n. put-all (λ n. machine_of past (volatile_states n) n) k y
    (λ n z. machine_of past' (volatile_states' n) n ≡ z) here there n)

pub machine-eq : (live live' writes writes' : Bool) (required required' : Confirmers)
    (confirmed confirmed' : ℕ → Option ℕ)
    (log log' : Option (List Entry)) (agent agent' : Option Agent) (runs runs' : ℕ) → live ≡ live' → writes ≡ writes'
    → required ≡ required' → confirmed ≡ confirmed' → log ≡ log' → agent ≡ agent' → runs ≡ runs' →
    ◌≡◌ {A = Machine} (record {
      live = live;
      writes = writes;
      required = required;
      confirmed = confirmed;
      log = log;
      agent = agent;
      runs = runs;
    }) (record {
      live = live';
      writes = writes';
      required = required';
      confirmed = confirmed';
      log = log';
      agent = agent';
      runs = runs';
    })
machine-eq live live' writes writes' required required' confirmed confirmed' log log' agent agent' runs runs' a b c d e
    f g =
    cc

-- ---- logs
log-machine : (setup : Setup) (past : Past) (volatile_states : ℕ → VolatileState) (logs : Logs) (k : ℕ)
    (log : Option (List Entry)) → log_found (slice_get logs.members k) ≡ log
    → ((n : ℕ) → (n ≡ k → ⊥) → slice_get logs.members n ≡ slice_get past.logs.members n)
    → state_of setup (record past { logs = logs }) volatile_states
    ≡ with_log (state_of setup past volatile_states) k log
log-machine setup past volatile_states logs k log here there =
    ap (λ (members : ℕ → Machine). record (state_of setup past volatile_states) { members = members })
    (members-shown past (record past { logs = logs }) volatile_states volatile_states k
    (record (machine_of past (volatile_states k) k) { log = log })
    (ap (λ (l : Option (List Entry)). record (machine_of past (volatile_states k) k) { log = l }) here)
    (λ n other.
    ap (λ (l : Option (Option (List Entry))). record (machine_of past (volatile_states n) n) { log = log_found l })
    (there n other)))

pub commit-shown : (setup : Setup) (past : Past) (volatile_states : ℕ → VolatileState) (tick : Ticks)
    (server : ServerOf) (entry : Entry) (log : Option (List Entry))
    → slice_get past.logs.members server.id.number ≡ Some log →
    IsShown setup past volatile_states (record {
      action = Commit server.id.number entry;
      events = event_at tick (kinds.Log (logs.Appended server entry));
      volatile_states = volatile_states;
    })
commit-shown setup past volatile_states tick server entry log is =
    let k = server.id.number in
    log-machine setup past volatile_states (logs_by past.logs (logs.Appended server entry)) k
    (Some (entries_of (log_found (slice_get past.logs.members k)) ++ entry ∷ []))
    (ap log_found (changed-here past.logs.members k (log_with entry) log is)
    ∙ ap (λ (o : Option (Option (List Entry))). Some (entries_of (log_found o) ++ entry ∷ [])) (sym is))
    (changed-there past.logs.members k (log_with entry))

pub receive-shown : (setup : Setup) (past : Past) (volatile_states : ℕ → VolatileState) (tick : Ticks)
    (server from : ServerOf) (count : ℕ) (log theirs : Option (List Entry))
    → slice_get past.logs.members server.id.number ≡ Some log
    → slice_get past.logs.members from.id.number ≡ Some theirs →
    IsShown setup past volatile_states (record {
      action = Receive server.id.number from.id.number count;
      events = event_at tick (kinds.Log (logs.Received server from count));
      volatile_states = volatile_states;
    })
receive-shown setup past volatile_states tick server from count log theirs is from_is =
    let k = server.id.number in
    let f : Option (List Entry) → Option (List Entry) = λ l. Some (received (entries_of l) (entries_of theirs) count) in
    let found : log_at past.logs from.id.number ≡ Some theirs =
    server-listed past.logs.members past.logs.remote from.id.number theirs from_is in
    log-machine setup past volatile_states (logs_by past.logs (logs.Received server from count)) k
    (Some (received (entries_of (log_found (slice_get past.logs.members k)))
    (entries_of (log_found (slice_get past.logs.members from.id.number))) count))
    (ap (λ (o : Option (Option (List Entry))). log_found (slice_get (log_received past.logs.members k count o) k)) found
    ∙ ap log_found (changed-here past.logs.members k f log is)
    ∙ ap (λ (o : Option (Option (List Entry))). Some (received (entries_of (log_found o)) (entries_of theirs) count))
    (sym is)
    ∙ ap (λ (o : Option (Option (List Entry))).
    Some (received (entries_of (log_found (slice_get past.logs.members k))) (entries_of (log_found o)) count))
    (sym from_is))
    (λ n other. ap (λ (o : Option (Option (List Entry))). slice_get (log_received past.logs.members k count o) n) found
    ∙ changed-there past.logs.members k f n other)

pub rewind-shown : (setup : Setup) (past : Past) (volatile_states : ℕ → VolatileState) (tick : Ticks)
    (server from : ServerOf) (kept : ℕ) (at : Lsn) (log theirs : Option (List Entry))
    → slice_get past.logs.members server.id.number ≡ Some log → slice_get past.logs.members from.id.number ≡ Some theirs
    → take kept (entries_of log) ≡ common_of (entries_of log) (entries_of theirs) →
    IsShown setup past volatile_states (record {
      action = Rewind server.id.number from.id.number;
      events = event_at tick (kinds.Log (logs.Rewound server from kept at));
      volatile_states = volatile_states;
    })
rewind-shown setup past volatile_states tick server from kept at log theirs is from_is common =
    let k = server.id.number in
    log-machine setup past volatile_states (logs_by past.logs (logs.Rewound server from kept at)) k
    (Some (common_of (entries_of (log_found (slice_get past.logs.members k)))
    (entries_of (log_found (slice_get past.logs.members from.id.number)))))
    (ap log_found (changed-here past.logs.members k (λ l. Some (take kept (entries_of l))) log is)
    ∙ ap (λ (l : List Entry). Some l) common
    ∙ ap (λ (o : Option (Option (List Entry))). Some (common_of (entries_of (log_found o)) (entries_of theirs)))
    (sym is)
    ∙ ap (λ (o : Option (Option (List Entry))).
    Some (common_of (entries_of (log_found (slice_get past.logs.members k))) (entries_of (log_found o))))
    (sym from_is))
    (changed-there past.logs.members k (λ l. Some (take kept (entries_of l))))

pub clone-shown : (setup : Setup) (past : Past) (volatile_states : ℕ → VolatileState) (tick : Ticks)
    (server from : ServerOf) (log theirs : Option (List Entry))
    → slice_get past.logs.members server.id.number ≡ Some log
    → slice_get past.logs.members from.id.number ≡ Some theirs →
    IsShown setup past volatile_states (record {
      action = Clone server.id.number from.id.number;
      events = event_at tick (kinds.Log (logs.Copied server from));
      volatile_states = volatile_states;
    })
clone-shown setup past volatile_states tick server from log theirs is from_is =
    let k = server.id.number in
    let found : log_at past.logs from.id.number ≡ Some theirs =
    server-listed past.logs.members past.logs.remote from.id.number theirs from_is in
    log-machine setup past volatile_states (logs_by past.logs (logs.Copied server from)) k
    (log_found (slice_get past.logs.members from.id.number))
    (ap (λ (o : Option (Option (List Entry))). log_found (slice_get (log_copied past.logs.members k o) k)) found
    ∙ ap log_found (changed-here past.logs.members k (λ l. theirs) log is) ∙ ap log_found (sym from_is))
    (λ n other. ap (λ (o : Option (Option (List Entry))). slice_get (log_copied past.logs.members k o) n) found
    ∙ changed-there past.logs.members k (λ l. theirs) n other)

pub wipe-shown : (setup : Setup) (past : Past) (volatile_states : ℕ → VolatileState) (tick : Ticks)
    (server : ServerOf) (log : Option (List Entry)) → slice_get past.logs.members server.id.number ≡ Some log →
    IsShown setup past volatile_states (record {
      action = Wipe server.id.number;
      events = event_at tick (kinds.Log (logs.Wiped server));
      volatile_states = volatile_states;
    })
wipe-shown setup past volatile_states tick server log is =
    log-machine setup past volatile_states (logs_by past.logs (logs.Wiped server)) server.id.number None
    (ap log_found (changed-here past.logs.members server.id.number (λ l. None) log is))
    (changed-there past.logs.members server.id.number (λ l. None))

-- ---- replication
pub acknowledge-shown : (setup : Setup) (past : Past) (volatile_states : ℕ → VolatileState) (tick : Ticks)
    (server : ServerOf) (commit : ℕ) →
    IsShown setup past volatile_states (record {
      action = Acknowledge server.id.number
          (front_to commit (entries_of (log_found (slice_get past.logs.members server.id.number)))) commit;
      events = event_at tick (kinds.Replication (replications.Acknowledged server commit));
      volatile_states = volatile_states;
    })
acknowledge-shown setup past volatile_states tick server commit = refl

positions-shown : (positions : List (Option Lsn)) (by : ℕ) (end : Lsn) (position : ℕ) → by < length positions
    → end.position ≡ position
    → ◌≡◌ {A = ℕ → Option ℕ} (λ n. position_in (slice_get (slice_set positions by (Some end)) n))
    (put_at (λ n. position_in (slice_get positions n)) by (Some position))
positions-shown positions by end position less same =
    fun_ext (λ n. put-all (λ n. position_in (slice_get positions n)) by (Some position)
    (λ n z. position_in (slice_get (slice_set positions by (Some end)) n) ≡ z)
    (ap position_in (got-set_same positions by (Some end) less) ∙ ap (λ (p : ℕ). Some p) same)
    (λ n other. ap position_in (got-set_other positions by n (Some end) other)) n)

pub confirm-shown : (setup : Setup) (past : Past) (volatile_states : ℕ → VolatileState) (tick : Ticks)
    (server : ServerOf) (by : Member) (end : Lsn) (positions : List (Option Lsn))
    → slice_get past.confirmed server.id.number ≡ Some positions → by.id.number < length positions
    → end.position ≡ end_of (entries_of (log_found (slice_get past.logs.members by.id.number))) →
    IsShown setup past volatile_states (record {
      action = Confirm server.id.number by.id.number;
      events = event_at tick (kinds.Replication (replications.Confirmed server by end));
      volatile_states = volatile_states;
    })
confirm-shown setup past volatile_states tick server by end positions is less at_end =
    let k = server.id.number in
    let j = by.id.number in
    let f : List (Option Lsn) → List (Option Lsn) = λ before. slice_set before j (Some end) in
    let position : ℕ = end_of (entries_of (log_found (slice_get past.logs.members j))) in
    ap (λ (members : ℕ → Machine). record (state_of setup past volatile_states) { members = members })
    (members-shown past (record past { confirmed = with_changed past.confirmed k f }) volatile_states volatile_states k
    (record (machine_of past (volatile_states k) k) {
      confirmed =
          put_at (position_of (slice_get past.confirmed k)) j (Some position);
    })
    (ap (λ (c : ℕ → Option ℕ). record (machine_of past (volatile_states k) k) { confirmed = c })
    (ap position_of (changed-here past.confirmed k f positions is)
    ∙ positions-shown positions j end position less at_end
    ∙ ap (λ (o : Option (List (Option Lsn))). put_at (position_of o) j (Some position)) (sym is)))
    (λ n other. ap
    (λ (o : Option (List (Option Lsn))). record (machine_of past (volatile_states n) n) { confirmed = position_of o })
    (changed-there past.confirmed k f n other)))

-- ---- servers
none-replicated : (m n : ℕ) → position_in (slice_get (replicate m None) n) ≡ None
none-replicated zero n = refl
none-replicated (suc m) zero = refl
none-replicated (suc m) (suc n) = none-replicated m n

pub accept-shown : (setup : Setup) (past : Past) (volatile_states : ℕ → VolatileState) (tick : Ticks)
    (server : ServerOf) (timeline : ℕ) (positions : List (Option Lsn))
    → slice_get past.confirmed server.id.number ≡ Some positions →
    IsShown setup past volatile_states (record {
      action = Accept server.id.number;
      events = event_at tick (kinds.Server (servers.Began server timeline));
      volatile_states = volatile_states;
    })
accept-shown setup past volatile_states tick server timeline positions is =
    let k = server.id.number in
    let f : List (Option Lsn) → List (Option Lsn) = λ before. none_confirmed in
    ap (λ (members : ℕ → Machine). record (state_of setup past volatile_states) { members = members })
    (members-shown past (record past {
      lease = record past.lease { writes = put_at past.lease.writes k true };
      confirmed = with_changed past.confirmed k f;
    }) volatile_states volatile_states k
    (record (machine_of past (volatile_states k) k) { writes = true; confirmed = λ n. None })
    (ap (λ (w : Bool). record (machine_of past (volatile_states k) k) {
      writes = w;
      confirmed = position_of (slice_get (with_changed past.confirmed k f) k);
    }) (put-here past.lease.writes k true)
    ∙ ap (λ (c : ℕ → Option ℕ). record (machine_of past (volatile_states k) k) { writes = true; confirmed = c })
    (ap position_of (changed-here past.confirmed k f positions is) ∙ fun_ext (λ n. none-replicated 16 n)))
    (λ n other. ap (λ (w : Bool). record (machine_of past (volatile_states n) n) {
      writes = w;
      confirmed = position_of (slice_get (with_changed past.confirmed k f) n);
    }) (put-there past.lease.writes k true n other)
    ∙ ap (λ (o : Option (List (Option Lsn))).
    record (machine_of past (volatile_states n) n) { confirmed = position_of o })
    (changed-there past.confirmed k f n other)))

stopped : (setup : Setup) (past : Past) (volatile_states : ℕ → VolatileState) (k : ℕ) → state_of setup (record past {
  lease = record past.lease { writes = put_at past.lease.writes k false };
}) (with_server_down volatile_states k)
    ≡ with_machine (state_of setup past volatile_states) k
    (record (machine_of past (volatile_states k) k) { live = false; writes = false })
stopped setup past volatile_states k =
    let past' : Past = record past { lease = record past.lease { writes = put_at past.lease.writes k false } } in
    ap (λ (members : ℕ → Machine). record (state_of setup past volatile_states) { members = members })
    (members-shown past past' volatile_states (with_server_down volatile_states k) k
    (record (machine_of past (volatile_states k) k) { live = false; writes = false })
    (ap (λ (volatile_state : VolatileState). machine_of past' volatile_state k)
    (put-here volatile_states k (record (volatile_states k) { live = false }))
    ∙ ap (λ (w : Bool). record (machine_of past (volatile_states k) k) { live = false; writes = w })
    (put-here past.lease.writes k false))
    (λ n other. ap (λ (volatile_state : VolatileState). machine_of past' volatile_state n)
    (put-there volatile_states k (record (volatile_states k) { live = false }) n other)
    ∙ ap (λ (w : Bool). record (machine_of past (volatile_states n) n) { writes = w })
    (put-there past.lease.writes k false n other)))

pub ended-shown : (setup : Setup) (past : Past) (volatile_states : ℕ → VolatileState) (tick : Ticks)
    (server : ServerOf) →
    IsShown setup past volatile_states (record {
      action = End server.id.number;
      events = event_at tick (kinds.Server (servers.Ended server));
      volatile_states = with_server_down volatile_states server.id.number;
    })
ended-shown setup past volatile_states tick server = stopped setup past volatile_states server.id.number

pub crashed-shown : (setup : Setup) (past : Past) (volatile_states : ℕ → VolatileState) (tick : Ticks)
    (server : ServerOf) →
    IsShown setup past volatile_states (record {
      action = End server.id.number;
      events = event_at tick (kinds.Server (servers.Crashed server));
      volatile_states = with_server_down volatile_states server.id.number;
    })
crashed-shown setup past volatile_states tick server = stopped setup past volatile_states server.id.number

pub reset-shown : (setup : Setup) (past : Past) (volatile_states : ℕ → VolatileState) (tick : Ticks) (member : Member) →
    IsShown setup past volatile_states (record {
      action = End member.id.number;
      events = event_at tick (kinds.Watchdog (watchdogs.Reset member));
      volatile_states = with_server_down volatile_states member.id.number;
    })
reset-shown setup past volatile_states tick member = stopped setup past volatile_states member.id.number

pub cease-shown : (setup : Setup) (past : Past) (volatile_states : ℕ → VolatileState) (tick : Ticks)
    (server : ServerOf) →
    IsShown setup past volatile_states (record {
      action = Cease server.id.number;
      events = event_at tick (kinds.Server (servers.Ended server));
      volatile_states = volatile_states;
    })
cease-shown setup past volatile_states tick server =
    let k = server.id.number in
    ap (λ (members : ℕ → Machine). record (state_of setup past volatile_states) { members = members })
    (members-shown past (record past {
      lease = record past.lease { writes = put_at past.lease.writes k false };
    }) volatile_states volatile_states k (record (machine_of past (volatile_states k) k) { writes = false })
    (ap (λ (w : Bool). record (machine_of past (volatile_states k) k) { writes = w })
    (put-here past.lease.writes k false))
    (λ n other. ap (λ (w : Bool). record (machine_of past (volatile_states n) n) { writes = w })
    (put-there past.lease.writes k false n other)))

-- ---- agents
pub start-shown : (setup : Setup) (past : Past) (volatile_states : ℕ → VolatileState) (tick : Ticks)
    (agent : Member) (incarnation : ℕ) → incarnation ≡ past.lease.runs agent.id.number + 1 →
    IsShown setup past volatile_states (record {
      action = Start agent.id.number;
      events = event_at tick (kinds.Agent (agents.Started agent incarnation));
      volatile_states = put_at volatile_states agent.id.number
          (record (volatile_states agent.id.number) {
            agent =
                Some (fresh_agent (past.lease.runs agent.id.number + 1));
          });
    })
start-shown setup past volatile_states tick agent incarnation next =
    let k = agent.id.number in
    let volatile_state : VolatileState =
    record (volatile_states k) { agent = Some (fresh_agent (past.lease.runs k + 1)) } in
    let past' : Past = record past { lease = record past.lease { runs = put_at past.lease.runs k incarnation } } in
    ap (λ (members : ℕ → Machine). record (state_of setup past volatile_states) { members = members })
    (members-shown past past' volatile_states (put_at volatile_states k volatile_state) k
    (record (machine_of past (volatile_states k) k) {
      agent = Some (fresh_agent (past.lease.runs k + 1));
      runs = past.lease.runs k + 1;
    })
    (ap (λ (x : VolatileState). machine_of past' x k) (put-here volatile_states k volatile_state)
    ∙ ap (λ (r : ℕ). record (machine_of past volatile_state k) { runs = r })
    (put-here past.lease.runs k incarnation ∙ next))
    (λ n other. ap (λ (x : VolatileState). machine_of past' x n) (put-there volatile_states k volatile_state n other)
    ∙ ap (λ (r : ℕ). record (machine_of past (volatile_states n) n) { runs = r })
    (put-there past.lease.runs k incarnation n other)))

-- the agent of k is no more; a kill and a reset tell it, and neither
-- changes more of the past than a reset's end of the server
pub killed-shown : (setup : Setup) (past : Past) (volatile_states : ℕ → VolatileState) (tick : Ticks) (agent : Member) →
    IsShown setup past volatile_states (record {
      action = Kill agent.id.number;
      events = event_at tick (kinds.Agent (agents.Killed agent));
      volatile_states =
          put_at volatile_states agent.id.number (record (volatile_states agent.id.number) { agent = None });
    })
killed-shown setup past volatile_states tick agent =
    let k = agent.id.number in
    let volatile_state : VolatileState = record (volatile_states k) { agent = None } in
    ap (λ (members : ℕ → Machine). record (state_of setup past volatile_states) { members = members })
    (members-shown past past volatile_states (put_at volatile_states k volatile_state) k
    (record (machine_of past (volatile_states k) k) { agent = None })
    (ap (λ (x : VolatileState). machine_of past x k) (put-here volatile_states k volatile_state))
    (λ n other. ap (λ (x : VolatileState). machine_of past x n) (put-there volatile_states k volatile_state n other)))
