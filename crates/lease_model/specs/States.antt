-- What the past determines, as far as the lease needs it.
use Rattle.std.specs.Prelude.{ℕ, ◌≡◌, ◌⊎◌, ◌+◌, nat_le, Bool, true, false, List, Option, Some, None}
use Rattle.lease_model.specs.Leases.{LeaderKey, LeaderSeen, FailsafeKey, Flying}
use Rattle.event_book.specs.Premises.{Taking}

-- an agent waits for acknowledgements: of its failsafe request of this number, with
-- this span, sent at this moment to these members, of whom these have acknowledged it
pub record FailsafeCheck : Type 0 where
  pub sequence : ℕ
  pub ttl : ℕ
  pub sent : ℕ
  pub members : ℕ → Bool
  pub yes : ℕ → Bool

-- an agent that runs
pub record Agent : Type 0 where
  -- its incarnation, and the greatest number of a question of this incarnation
  pub incarnation : ℕ
  pub last : ℕ
  -- the number of the create or the renewal that it waits for
  pub waits : Option ℕ
  -- the revision of its lease value
  pub lease : Option ℕ
  -- it is Ready: armed, and about to begin
  pub ready : Bool
  -- it is Ready or Leader
  pub leads : Bool
  -- the leader of its newest snapshot
  pub leader : Option LeaderSeen
  -- the failsafe key of its turn's snapshot
  pub failsafe : Option FailsafeKey
  -- the members that a failsafe key which it accepted in this incarnation
  -- listed, or that a renewal which it sent in this incarnation carried
  pub known : ℕ → Bool
  -- it accepted a snapshot with a failsafe key in this incarnation
  pub informed : Bool
  pub failsafe_check : Option FailsafeCheck

-- the machine of a member
pub record Machine : Type 0 where
  -- its server accepts writes, or will when its start is complete
  pub live : Bool
  -- its watchdog resets it at this moment
  pub deadline : Option ℕ
  -- acknowledgements set that deadline last, and not a grant
  pub by_failsafe : Bool
  -- its hold ends at this moment
  pub hold : ℕ
  pub agent : Option Agent
  -- how many incarnations of its agent have begun
  pub runs : ℕ

-- what the head of a script declares: the margin between a watchdog's deadline and the end of the
-- lease in ticks, none where the watchdog fires after half a lease; and whether failsafe mode is on
pub record Declared : Type 0 where
  pub margin : ℕ → Option ℕ
  pub failsafe : Bool

-- the state of a cluster, as far as the lease needs it
pub record State : Type 0 where
  pub declared : Declared
  pub clock : ℕ
  pub leader : Option LeaderKey
  pub failsafe : Option FailsafeKey
  -- the last granted revision
  pub revision : ℕ
  -- the messages in flight by their numbers
  pub flight : ℕ → Option Flying
  -- each hold that was taken
  pub taken : List Taking
  pub members : ℕ → Machine
  pub writes : ℕ → Bool

-- the agent runs, and is Ready
abbrev pub is_ready : Option Agent → Bool
is_ready None = false
is_ready (Some agent) = agent.ready

-- its server is live, or its agent is Ready
abbrev pub Acts : Machine → Type 0
Acts machine = (machine.live ≡ true) ⊎ (is_ready machine.agent ≡ true)

-- a watchdog with this deadline resets its machine at this moment
abbrev pub is_due : ℕ → Option ℕ → Bool
is_due now None = false
is_due now (Some deadline) = nat_le deadline now

-- a machine after a tick: reset where its watchdog is due, and its server not live where its stop is complete
abbrev pub tick_machine : Bool → Bool → Machine → Machine
tick_machine true stops machine = record machine { live = false; deadline = None; agent = None }
tick_machine false true machine = record machine { live = false }
tick_machine false false machine = machine

-- the leader key, if it hasn't expired
abbrev pub kept_if : Bool → LeaderKey → Option LeaderKey
kept_if true key = None
kept_if false key = Some key

-- the leader key at this moment, which is absent from its expiry on
abbrev pub leader_kept : ℕ → Option LeaderKey → Option LeaderKey
leader_kept now None = None
leader_kept now (Some key) = kept_if (nat_le key.expiry now) key

-- the state after a tick, in which the stops of these servers are completed
abbrev pub state_after_tick : State → (ℕ → Bool) → State
state_after_tick s stops = record s {
  clock = s.clock + 1;
  leader = leader_kept (s.clock + 1) s.leader;
  members = λ m. tick_machine (is_due (s.clock + 1) (s.members m).deadline) (stops m) (s.members m);
}

-- the deadline, if the server is live over which the agent starts
abbrev pub deadline_if : Bool → Option ℕ → Option ℕ
deadline_if true deadline = deadline
deadline_if false deadline = None

-- an agent at the beginning of its incarnation: it waits for nothing, and knows nothing
abbrev pub fresh_agent : ℕ → Agent
fresh_agent incarnation = record {
  incarnation = incarnation;
  last = 0;
  waits = None;
  lease = None;
  ready = false;
  leads = false;
  leader = None;
  failsafe = None;
  known = λ p. false;
  informed = false;
  failsafe_check = None;
}

-- an agent that starts removes a deadline, but over a live server leaves it
abbrev pub start_machine : Machine → Machine
start_machine machine = record machine {
  deadline = deadline_if machine.live machine.deadline;
  agent = Some (fresh_agent (machine.runs + 1));
  runs = machine.runs + 1;
}

-- a kill ends the agent, and leaves its server and the deadline
abbrev pub kill_machine : Machine → Machine
kill_machine machine = record machine { agent = None }

-- a crash ends the server, and leaves its agent and the deadline
abbrev pub crash_machine : Machine → Machine
crash_machine machine = record machine { live = false }
