-- Before the first event book and cluster are bridged.
use Rattle.std.proofs.Common.{ℕ, ◌≡◌, ◌<◌, ◌≤◌, Bool, false, List, [], length, replicate, slice_get, Option, Some, None, option_map, zero, suc, refl, ◌∙◌, ap, sym, subst, arith}
use Rattle.std.proofs.Math.ListN.{length-map}
use Rattle.std.proofs.Math.Path.{fun_ext}
use Rattle.std.proofs.lemmas.List.{length-replicate}
use Rattle.std.proofs.lemmas.Option.{slice_get-map, slice_get_within}
use Rattle.pat_base.specs.declared.name.Name.{Name}
use Rattle.pat_base.specs.declared.ticks.Ticks.{Ticks}
use Rattle.pg_model.specs.Facts.{fresh}
use Rattle.event_book.specs.declared.member.Member.{Member}
use Rattle.event_book.specs.Processes.{first_processes, running_in}
use Rattle.event_book.specs.Writers.{writes_now}
use Rattle.agent_model.specs.Agents.{AgentFacts}
use Rattle.member_options.specs.declared.member_option.MemberOptions.{MemberOptions}
use Rattle.script_model.specs.Script.{HeadText, names_of}
use Rattle.cluster_model.specs.Machines.{who_of}
use Rattle.cluster_model.specs.Starting.{cluster_of, first_agent, options_of}
use Rattle.lease_model.specs.Books.{first_volatile_states}
use Rattle.lease_model.specs.Carried.{IsCarried}
use Rattle.lease_model.specs.Past.{VolatileState, first_past, past_of, state_of}
use Rattle.lease_model.specs.States.{Agent, fresh_agent}
use Rattle.lease_law.proofs.SameStore.{same-first}
use Rattle.lease_law.proofs.Starting.{good-start}
use Rattle.lease_model.proofs.Tools.{none-some, some-is}
use Rattle.lease_law.proofs.Unpaused.{pauses-first}
use Rattle.lease_book.proofs.Flights.{flight-first}
use Rattle.lease_parts.specs.Bridged.{Bridged, KnowsItself, KnowThemselves, SeesMode}
use Rattle.lease_parts.specs.Declaring.{declared_of}
use Rattle.run_promise.specs.Members.{declared_members, member_count}
use Rattle.lease_parts.specs.Machines.{IsSameEverywhere, deadline_now, hold_now, live_now, run_in}
use Rattle.lease_parts.specs.Volatile.{agent_now, volatile_of}
use Rattle.agent_sending.specs.Modes.{KeepsMode}
use Rattle.cluster_model.specs.FailsafeDeadlines.{is_set_by_failsafe}
use Rattle.lease_law.proofs.Modes.{mode-first}
use Rattle.lease_parts.proofs.Fresh.{fresh-keeps, fresh-seen, fresh-sees}
use Rattle.run_promise.proofs.Members.{counted, numbered}
use Rattle.lease_parts.proofs.Waiting.{waiting-first}
use Rattle.agent_model.specs.Pausing.{is_paused}
use Rattle.pat_base.specs.declared.member_id.TheConstants.{MOST_MEMBERS}

-- at each place of a list of one thing stands that thing, or none
module _ {A B : Type 0} (x : A) (see : Option A → B) (y : B) (none : see None ≡ y) (some : see (Some x) ≡ y) where
  seen-replicate : (count m : ℕ) → see (slice_get (replicate count x) m) ≡ y
  seen-replicate zero m = none
  seen-replicate (suc count) zero = some
  seen-replicate (suc count) (suc m) = seen-replicate count m

first-run : (count m : ℕ) → run_in (first_processes count) m ≡ 1
first-run zero m = refl
first-run (suc count) zero = refl
first-run (suc count) (suc m) = first-run count m

first-sized : (count : ℕ) → length (first_processes count) ≡ count
first-sized zero = refl
first-sized (suc count) = ap suc (first-sized count)

less-before : (m count : ℕ) → suc m < suc count → m < count
less-before m count small = omega (arith, small)

first-process : (count m : ℕ) → m < count → slice_get (first_processes count) m ≡ Some (running_in 1)
first-process zero m small = absurd (omega (arith, small))
first-process (suc count) zero small = refl
first-process (suc count) (suc m) small = first-process count m (less-before m count small)

first-machines : (head : HeadText) → IsSameEverywhere first_past (cluster_of head).facts
first-machines head = record {
  deadline = λ m.
      sym (seen-replicate (let none : Option Ticks = None in none) deadline_now None refl refl (member_count head) m);
  hold = λ m. sym (seen-replicate (let none : Option Ticks = None in none) hold_now 0 refl refl (member_count head) m);
  runs = λ m. sym (first-run (member_count head) m);
  writes = λ m. sym (seen-replicate (fresh head.base) writes_now false refl refl (member_count head) m);
}

-- what is seen of an agent at the beginning
agent-first : (scope : Name) (options : List MemberOptions) (members : List Member) (found : Option Member)
    → agent_now (option_map (first_agent scope options members) found) ≡ Some (fresh_agent 1)
agent-first scope options members None = refl
agent-first scope options members (Some member) =
    ap Some (fresh-seen (who_of scope options members member) member.id.number 1)

volatile-same : (a b : Bool) (x y : Option Agent) → a ≡ b → x ≡ y
    → ◌≡◌ {A = VolatileState} (record { live = a; agent = x }) (record { live = b; agent = y })
volatile-same a b x y p q = cc

first-volatile : (head : HeadText) → volatile_of (cluster_of head) ≡ first_volatile_states
first-volatile head =
    let members : List Member = declared_members head in
    fun_ext (λ m.
    volatile-same _ _ _ _ (seen-replicate (fresh head.base) live_now false refl refl (member_count head) m)
    (ap agent_now (slice_get-map (first_agent head.cluster (options_of head) members) members m)
    ∙ agent-first head.cluster (options_of head) members (slice_get members m)))

knows-first : (mode : Bool) (scope : Name) (options : List MemberOptions) (members : List Member)
    (count m : ℕ) (found : Option Member) (agent : AgentFacts) → slice_get members m ≡ found → m < count
    → ((member : Member) → slice_get members m ≡ Some member → member.id.number ≡ m)
    → option_map (first_agent scope options members) found ≡ Some (Some agent)
    → KnowsItself mode m (slice_get (first_processes count) m) agent
knows-first mode scope options members count m None agent is small number there = absurd (none-some (Some agent) there)
knows-first mode scope options members count m (Some member) agent is small number there =
    let same = some-is _ agent (some-is _ (Some agent) there) in
    record {
      found = running_in 1;
      is = first-process count m small;
      running = refl;
      incarnation = ap (λ (a : AgentFacts). a.knows.incarnation) (sym same);
      me = ap (λ (a : AgentFacts). a.knows.who.me.number) (sym same) ∙ number member is;
      keeps = subst (λ (a : AgentFacts). KeepsMode mode a.knows) same (fresh-keeps mode _ _ _);
      sees = subst (λ (a : AgentFacts). SeesMode mode a.knows) same (fresh-sees mode);
      unpaused = ap (λ (a : AgentFacts). is_paused a.knows) (sym same);
    }

first-knows : (head : HeadText) → length (names_of head) ≤ MOST_MEMBERS
    → KnowThemselves (declared_of head).failsafe (first_processes (member_count head)) (cluster_of head).agents
first-knows head few m agent is =
    let members : List Member = declared_members head in
    let there : option_map (first_agent head.cluster (options_of head) members) (slice_get members m)
    ≡ Some (Some agent) = sym (slice_get-map (first_agent head.cluster (options_of head) members) members m) ∙ is in
    let sized : length (cluster_of head).agents ≡ member_count head =
    length-map members (first_agent head.cluster (options_of head) members) ∙ counted head few in
    knows-first (declared_of head).failsafe head.cluster (options_of head) members (member_count head) m
    (slice_get members m) agent refl
    (subst (λ (n : ℕ). m < n) sized (slice_get_within (cluster_of head).agents m (Some agent) is))
    (numbered head few m) there

pub bridged-first : (head : HeadText) → length (names_of head) ≤ MOST_MEMBERS
    → head.config.config.pause ≡ false → Bridged head [] (cluster_of head)
bridged-first head few unpaused = record {
  matched = record {
    members = refl;
    options = refl;
    sized = record {
      agents = first-sized (member_count head);
      servers = length-replicate (member_count head) (fresh head.base);
      deadlines = length-replicate (member_count head) (let none : Option Ticks = None in none);
      holds = length-replicate (member_count head) (let none : Option Ticks = None in none);
    };
    agents_sized =
        length-map (declared_members head) (first_agent head.cluster (options_of head) (declared_members head))
        ∙ counted head few;
    store = same-first head.config (names_of head) head.base;
    flight = flight-first head.config (names_of head) head.base;
    machines = first-machines head;
    unpaused = pauses-first head.config (names_of head) head.base unpaused;
    failsafe = record {
      sized = length-replicate (member_count head) false;
      bases = λ m. sym (seen-replicate false is_set_by_failsafe false refl refl (member_count head) m);
      told = mode-first head.config (names_of head) head.base;
      asked = λ i carried e. absurd (none-some carried e);
      numbered = numbered head few;
      between = λ i carried e. absurd (none-some carried e);
    };
    agents = first-knows head few;
    waiting = waiting-first head;
  };
  carried = subst (λ (v : ℕ → VolatileState). IsCarried (state_of (declared_of head) (past_of []) v))
      (sym (first-volatile head)) (good-start (declared_of head));
}
