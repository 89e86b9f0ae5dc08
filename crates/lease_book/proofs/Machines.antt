-- Each event keeps that the law has the machines of members as the book leaves them.
use Rattle.std.proofs.Common.{◌≡◌, ℕ, ◌<◌, zero, suc, max, Bool, true, false, List, [], ◌∷◌, length, replicate, slice_get, get_or, Option, Some, None, refl, ◌∙◌, ap, sym, arith, inl, inr, ◌⊎◌}
use Rattle.std.proofs.lemmas.List.{length-replicate}
use Rattle.std.proofs.lemmas.Option.{slice_get-get_or, slice_get_within}
use Rattle.std.proofs.Math.ListN.{length-set}
use Rattle.pat_base.specs.declared.name.Name.{Name}
use Rattle.pat_base.specs.declared.ticks.Ticks.{Ticks}
use Rattle.pat_base.specs.Changes.{changed_at, with_changed}
use Rattle.pg_model.specs.Facts.{ServerFacts, fresh}
use Rattle.pg_model.proofs.Lists.{got-set_same, got-set_other}
use Rattle.store_keys.specs.Settings.{Settings}
use Rattle.event_book.specs.declared.agent_process.AgentProcess.{AgentProcess}
use Rattle.event_book.specs.declared.event.AgentEvent.{AgentEvent}
use Rattle.event_book.specs.declared.event.AgentEvent.TheVariants as agents
use Rattle.event_book.specs.declared.event.Event.{Event}
use Rattle.event_book.specs.declared.event.EventKind.{EventKind}
use Rattle.event_book.specs.declared.event.EventKind.TheVariants as kinds
use Rattle.event_book.specs.declared.event.WatchdogEvent.{WatchdogEvent}
use Rattle.event_book.specs.declared.event.WatchdogEvent.TheVariants as watchdogs
use Rattle.event_book.specs.declared.reason.Basis.TheVariants as bases
use Rattle.event_book.specs.Processes.{processes_after, processes_by, processes_by_watchdog, first_processes, running_in}
use Rattle.event_book.specs.Clock.{now_after}
use Rattle.event_book.specs.Facts.{Facts, facts_after, facts_over, start_of}
use Rattle.event_book.specs.Functions.{put_at}
use Rattle.event_book.specs.Servers.{servers_after}
use Rattle.event_book.specs.Watchdogs.{deadlines_after, deadlines_by, holds_after, holds_by, prolonged_to}
use Rattle.event_book.specs.Writers.{writes_in, writes_after, writes_over}
use Rattle.event_book.proofs.Told.{count-of, writes-of, writes-same}
use Rattle.lease_model.specs.Past.{Past, first_past, past_after, past_over, past_of, deadline_after, deadline_by, hold_after, hold_by}
use Rattle.event_book.specs.Premises.{runs_after}
use Rattle.event_book.specs.Kinds.{AllAre}
use Rattle.lease_model.proofs.Tools.{put-all, put-here, put-there}
use Rattle.std.proofs.lemmas.Bool.{cases_eq}
use Rattle.lease_book.specs.Machines.{deadline_if, hold_if, run_if, IsSameMachines, FeedsByGrants}

-- ---- a list of which one item changes, and a function that is put at that place
length-found : {A : Type 0} (items : List A) (k : ℕ) (change : A → A) (found : Option A)
    → length (changed_at items k change found) ≡ length items
length-found items k change None = refl
length-found items k change (Some item) = length-set items k (change item)

length-changed : {A : Type 0} (items : List A) (k : ℕ) (change : A → A)
    → length (with_changed items k change) ≡ length items
length-changed items k change = length-found items k change (slice_get items k)

there-is : {A : Type 0} (items : List A) (k : ℕ) → k < length items → (item : A) × (slice_get items k ≡ Some item)
there-is [] k small = absurd (omega (arith, small))
there-is (x ∷ items) k small = (get_or (x ∷ items) k x, slice_get-get_or (x ∷ items) k x small)

changed-here : {A : Type 0} (items : List A) (k : ℕ) (change : A → A) (item : A)
    → slice_get items k ≡ Some item → slice_get (with_changed items k change) k ≡ Some (change item)
changed-here items k change item is = ap (λ (o : Option _). slice_get (changed_at items k change o) k) is
    ∙ got-set_same items k (change item) (slice_get_within items k item is)

changed-at-there : {A : Type 0} (items : List A) (k : ℕ) (change : A → A) (found : Option A) (m : ℕ)
    → (m ≡ k → ⊥) → slice_get (changed_at items k change found) m ≡ slice_get items m
changed-at-there items k change None m other = refl
changed-at-there items k change (Some item) m other = got-set_other items k m (change item) other

changed-there : {A : Type 0} (items : List A) (k : ℕ) (change : A → A) (m : ℕ) → (m ≡ k → ⊥)
    → slice_get (with_changed items k change) m ≡ slice_get items m
changed-there items k change m other = changed-at-there items k change (slice_get items k) m other

-- a function has of each item what is found of it in the list
abbrev Agrees : {A B : Type 0} → (Option A → B) → List A → (ℕ → B) → Type 0
Agrees found items f = (m : ℕ) → m < length items → f m ≡ found (slice_get items m)

module _ {A B : Type 0} (found : Option A → B) (items : List A) (f : ℕ → B) (k : ℕ) (change : A → A) where
  pub agrees-put : (x : B) → ((item : A) → slice_get items k ≡ Some item → x ≡ found (Some (change item)))
      → Agrees found items f → Agrees found (with_changed items k change) (put_at f k x)
  agrees-put x here old m small = at-place (cases_eq m k)
    where
      few : m < length items
      few = omega (arith, small, length-changed items k change)

      at-place : ((m ≡ k) ⊎ (m ≡ k → ⊥)) → put_at f k x m ≡ found (slice_get (with_changed items k change) m)
      at-place (inl e) =
          let there = there-is items m few in
          let is : slice_get items k ≡ Some there.0 = ap (λ (n : ℕ). slice_get items n) (sym e) ∙ there.1 in
          ap (λ (n : ℕ). put_at f k x n) e ∙ put-here f k x ∙ here there.0 is
          ∙ ap found
          (sym (ap (λ (n : ℕ). slice_get (with_changed items k change) n) e ∙ changed-here items k change there.0 is))
      at-place (inr other) = put-there f k x m other ∙ old m few ∙ ap found (sym (changed-there items k change m other))

  pub agrees-kept : ((item : A) → found (Some (change item)) ≡ found (Some item)) → Agrees found items f
      → Agrees found (with_changed items k change) f
  agrees-kept same old m small = at-place (cases_eq m k)
    where
      few : m < length items
      few = omega (arith, small, length-changed items k change)

      at-place : ((m ≡ k) ⊎ (m ≡ k → ⊥)) → f m ≡ found (slice_get (with_changed items k change) m)
      at-place (inl e) =
          let there = there-is items m few in
          let is : slice_get items k ≡ Some there.0 = ap (λ (n : ℕ). slice_get items n) (sym e) ∙ there.1 in
          old m few ∙ ap found there.1 ∙ sym (same there.0)
          ∙ ap found
          (sym (ap (λ (n : ℕ). slice_get (with_changed items k change) n) e ∙ changed-here items k change there.0 is))
      at-place (inr other) = old m few ∙ ap found (sym (changed-there items k change m other))

-- ---- deadlines
deadlines-long-by : (deadlines : List (Option Ticks)) (happening : WatchdogEvent)
    → length (deadlines_by deadlines happening) ≡ length deadlines
deadlines-long-by deadlines (watchdogs.Armed member until answer) = length-changed deadlines member.id.number _
deadlines-long-by deadlines (watchdogs.Fed member until basis) = length-changed deadlines member.id.number _
deadlines-long-by deadlines (watchdogs.Disarmed member) = length-changed deadlines member.id.number _
deadlines-long-by deadlines (watchdogs.Reset member) = length-changed deadlines member.id.number _
deadlines-long-by deadlines _ = refl

deadlines-long : (deadlines : List (Option Ticks)) (kind : EventKind)
    → length (deadlines_after deadlines kind) ≡ length deadlines
deadlines-long deadlines (kinds.Watchdog happening) = deadlines-long-by deadlines happening
deadlines-long deadlines _ = refl

deadline-watched : (deadlines : List (Option Ticks)) (deadline : ℕ → Option ℕ) (happening : WatchdogEvent)
    → Agrees deadline_if deadlines deadline
    → Agrees deadline_if (deadlines_by deadlines happening) (deadline_by deadline happening)
deadline-watched deadlines deadline (watchdogs.Armed member until answer) old = agrees-put deadline_if
    deadlines deadline member.id.number (λ before. Some until) (Some until.0) (λ item is. refl) old
deadline-watched deadlines deadline (watchdogs.Fed member until basis) old = agrees-put deadline_if deadlines
    deadline member.id.number (λ before. Some until) (Some until.0) (λ item is. refl) old
deadline-watched deadlines deadline (watchdogs.Disarmed member) old =
    agrees-put deadline_if deadlines deadline member.id.number (λ before. None) None (λ item is. refl) old
deadline-watched deadlines deadline (watchdogs.Reset member) old =
    agrees-put deadline_if deadlines deadline member.id.number (λ before. None) None (λ item is. refl) old
deadline-watched deadlines deadline _ old = old

deadline-kept : (deadlines : List (Option Ticks)) (deadline : ℕ → Option ℕ) (kind : EventKind)
    → Agrees deadline_if deadlines deadline
    → Agrees deadline_if (deadlines_after deadlines kind) (deadline_after deadline kind)
deadline-kept deadlines deadline (kinds.Watchdog happening) old = deadline-watched deadlines deadline happening old
deadline-kept deadlines deadline _ old = old

-- ---- holds
holds-long-by : (holds : List (Option Ticks)) (happening : WatchdogEvent)
    → length (holds_by holds happening) ≡ length holds
holds-long-by holds (watchdogs.HoldTaken member until from incarnation sequence) =
    length-changed holds member.id.number _
holds-long-by holds _ = refl

holds-long : (holds : List (Option Ticks)) (kind : EventKind) → length (holds_after holds kind) ≡ length holds
holds-long holds (kinds.Watchdog happening) = holds-long-by holds happening
holds-long holds _ = refl

prolonged : (before : ℕ) (until : Ticks) (item : Option Ticks) → before ≡ hold_if (Some item)
    → max before until.0 ≡ hold_if (Some (prolonged_to until item))
prolonged before until None is = omega (arith, is)
prolonged before until (Some one) is = ap (λ (n : ℕ). max n until.0) is

hold-watched : (holds : List (Option Ticks)) (hold : ℕ → ℕ) (happening : WatchdogEvent)
    → Agrees hold_if holds hold → Agrees hold_if (holds_by holds happening) (hold_by hold happening)
hold-watched holds hold (watchdogs.HoldTaken member until from incarnation sequence) old =
    let k = member.id.number in
    agrees-put hold_if holds hold k (prolonged_to until) (max (hold k) until.0)
    (λ item is. prolonged (hold k) until item (old k (slice_get_within holds k item is) ∙ ap hold_if is)) old
hold-watched holds hold _ old = old

hold-kept : (holds : List (Option Ticks)) (hold : ℕ → ℕ) (kind : EventKind) → Agrees hold_if holds hold
    → Agrees hold_if (holds_after holds kind) (hold_after hold kind)
hold-kept holds hold (kinds.Watchdog happening) old = hold-watched holds hold happening old
hold-kept holds hold _ old = old

-- ---- incarnations
agents-long-by : (states : List AgentProcess) (happening : AgentEvent)
    → length (processes_by states happening) ≡ length states
agents-long-by states (agents.Suspended agent) = length-changed states agent.id.number _
agents-long-by states (agents.Resumed agent) = length-changed states agent.id.number _
agents-long-by states (agents.Killed agent) = length-changed states agent.id.number _
agents-long-by states (agents.Started agent incarnation) = length-changed states agent.id.number _
agents-long-by states _ = refl

agents-long-watched : (states : List AgentProcess) (happening : WatchdogEvent)
    → length (processes_by_watchdog states happening) ≡ length states
agents-long-watched states (watchdogs.Reset member) = length-changed states member.id.number _
agents-long-watched states _ = refl

pub agents-long : (states : List AgentProcess) (kind : EventKind) → length (processes_after states kind) ≡ length states
agents-long states (kinds.Agent happening) = agents-long-by states happening
agents-long states (kinds.Watchdog happening) = agents-long-watched states happening
agents-long states _ = refl

runs-agent : (states : List AgentProcess) (runs : ℕ → ℕ) (happening : AgentEvent) → Agrees run_if states runs
    → Agrees run_if (processes_by states happening) (runs_after runs (kinds.Agent happening))
runs-agent states runs (agents.Suspended agent) old =
    agrees-kept run_if states runs agent.id.number _ (λ item. refl) old
runs-agent states runs (agents.Resumed agent) old = agrees-kept run_if states runs agent.id.number _ (λ item. refl) old
runs-agent states runs (agents.Killed agent) old = agrees-kept run_if states runs agent.id.number _ (λ item. refl) old
runs-agent states runs (agents.Started agent incarnation) old =
    agrees-put run_if states runs agent.id.number (λ state. running_in incarnation) incarnation (λ item is. refl) old
runs-agent states runs _ old = old

runs-watched : (states : List AgentProcess) (runs : ℕ → ℕ) (happening : WatchdogEvent)
    → Agrees run_if states runs → Agrees run_if (processes_by_watchdog states happening) runs
runs-watched states runs (watchdogs.Reset member) old =
    agrees-kept run_if states runs member.id.number _ (λ item. refl) old
runs-watched states runs _ old = old

runs-kept : (states : List AgentProcess) (runs : ℕ → ℕ) (kind : EventKind) → Agrees run_if states runs
    → Agrees run_if (processes_after states kind) (runs_after runs kind)
runs-kept states runs (kinds.Agent happening) old = runs-agent states runs happening old
runs-kept states runs (kinds.Watchdog happening) old = runs-watched states runs happening old
runs-kept states runs _ old = old

-- ---- who accepts writes
abbrev WritesAgree : List ServerFacts → (ℕ → Bool) → Type 0
WritesAgree servers writes = (m : ℕ) → m < length servers → writes m ≡ writes_in servers m

writes-kept : (now : ℕ) (servers : List ServerFacts) (remote : Option ServerFacts) (writes : ℕ → Bool)
    (kind : EventKind) → WritesAgree servers writes
    → WritesAgree (servers_after now servers remote kind) (writes_after writes kind)
writes-kept now servers remote writes kind old m small =
    let few : m < length servers = omega (arith, small, count-of now servers remote kind) in
    writes-same writes (writes_in servers) (record { tick = record { 0 = 0 }; kind = kind } ∷ []) m (old m few)
    ∙ sym (writes-of now servers remote kind m few)

pub machines-by : (past : Past) (facts : Facts) (kind : EventKind) → IsSameMachines past facts
    → IsSameMachines (past_after past kind) (facts_after facts kind)
machines-by past facts kind old =
    let now : ℕ = now_after facts.clock kind in
    let agents_are = agents-long facts.processes kind in
    let deadlines_are = deadlines-long facts.deadlines kind in
    let holds_are = holds-long facts.holds kind in
    let servers_are = count-of now facts.servers facts.remote kind in
    record {
      deadline_count = deadlines_are ∙ old.deadline_count ∙ sym agents_are;
      hold_count = holds_are ∙ old.hold_count ∙ sym agents_are;
      server_count = servers_are ∙ old.server_count ∙ sym agents_are;
      deadline = λ m small. deadline-kept facts.deadlines past.deadline kind
          (λ n few. old.deadline n (omega (arith, few, old.deadline_count))) m
          (omega (arith, small, agents_are, deadlines_are, old.deadline_count));
      hold = λ m small. hold-kept facts.holds past.hold kind (λ n few. old.hold n (omega (arith, few, old.hold_count)))
          m (omega (arith, small, agents_are, holds_are, old.hold_count));
      runs = λ m small. runs-kept facts.processes past.runs kind old.runs m small;
      writes = λ m small. writes-kept now facts.servers facts.remote past.writes kind
          (λ n few. old.writes n (omega (arith, few, old.server_count))) m
          (omega (arith, small, agents_are, servers_are, old.server_count));
    }

-- ---- at the start
first-long : (count : ℕ) → length (first_processes count) ≡ count
first-long zero = refl
first-long (suc count) = ap (λ (n : ℕ). suc n) (first-long count)

first-run : (count m : ℕ) → m < length (first_processes count) → 1 ≡ run_if (slice_get (first_processes count) m)
first-run zero m small = absurd (omega (arith, small))
first-run (suc count) zero small = refl
first-run (suc count) (suc m) small = first-run count m (omega (arith, small))

none-armed : (count m : ℕ) → ◌≡◌ {A = Option ℕ} None (deadline_if (slice_get (replicate count None) m))
none-armed zero m = refl
none-armed (suc count) zero = refl
none-armed (suc count) (suc m) = none-armed count m

none-taken : (count m : ℕ) → 0 ≡ hold_if (slice_get (replicate count None) m)
none-taken zero m = refl
none-taken (suc count) zero = refl
none-taken (suc count) (suc m) = none-taken count m

none-writes : (base count m : ℕ) → false ≡ writes_in (replicate count (fresh base)) m
none-writes base zero m = refl
none-writes base (suc count) zero = refl
none-writes base (suc count) (suc m) = none-writes base count m

pub machines-first : (first : Settings) (names : List Name) (base : ℕ)
    → IsSameMachines first_past (start_of first names base)
machines-first first names base =
    let count : ℕ = length names in
    record {
      deadline_count = length-replicate count None ∙ sym (first-long count);
      hold_count = length-replicate count None ∙ sym (first-long count);
      server_count = length-replicate count (fresh base) ∙ sym (first-long count);
      deadline = λ m small. none-armed count m;
      hold = λ m small. none-taken count m;
      runs = λ m small. first-run count m small;
      writes = λ m small. none-writes base count m;
    }

-- ---- over books
machines-over : (past : Past) (facts : Facts) (book : List Event) → IsSameMachines past facts
    → IsSameMachines (past_over past book) (facts_over facts book)
machines-over past facts [] old = old
machines-over past facts (event ∷ events) old = machines-over (past_after past event.kind)
    (facts_after facts event.kind) events (machines-by past facts event.kind old)

pub machines-of : (first : Settings) (names : List Name) (base : ℕ) (book : List Event)
    → IsSameMachines (past_of book) (facts_over (start_of first names base) book)
machines-of first names base book =
    machines-over first_past (start_of first names base) book (machines-first first names base)

count-over : (facts : Facts) (book : List Event) → length (facts_over facts book).processes ≡ length facts.processes
count-over facts [] = refl
count-over facts (event ∷ events) =
    count-over (facts_after facts event.kind) events ∙ agents-long facts.processes event.kind

pub count-in : (first : Settings) (names : List Name) (base : ℕ) (book : List Event)
    → length (facts_over (start_of first names base) book).processes ≡ length names
count-in first names base book = count-over (start_of first names base) book ∙ first-long (length names)

writes-over : (past : Past) (book : List Event) → (past_over past book).writes ≡ writes_over past.writes book
writes-over past [] = refl
writes-over past (event ∷ events) = writes-over (past_after past event.kind) events

pub writes-in : (book : List Event) → (past_of book).writes ≡ writes_over (λ n. false) book
writes-in book = writes-over first_past book

-- ---- feeds by grants
granted-feed : (by_failsafe : ℕ → Bool) (k m : ℕ) → by_failsafe m ≡ false → put_at by_failsafe k false m ≡ false
granted-feed by_failsafe k m old =
    put-all by_failsafe k false (λ n b. by_failsafe n ≡ false → b ≡ false) (λ e. refl) (λ n other e. e) m old

pub grants-by : (past : Past) (kind : EventKind) (m : ℕ) → FeedsByGrants m kind → past.by_failsafe m ≡ false
    → (past_after past kind).by_failsafe m ≡ false
grants-by past (kinds.Watchdog (watchdogs.Armed member until answer)) m feeds old =
    granted-feed past.by_failsafe member.id.number m old
grants-by past (kinds.Watchdog (watchdogs.Fed member until (bases.Grant answer))) m feeds old =
    granted-feed past.by_failsafe member.id.number m old
grants-by past (kinds.Watchdog (watchdogs.Fed member until (bases.Acknowledgements members sequence))) m feeds old =
    put-there past.by_failsafe member.id.number true m (λ e. feeds (sym e)) ∙ old
grants-by past (kinds.Watchdog _) m feeds old = old
grants-by past _ m feeds old = old

grants-over : (past : Past) (book : List Event) (m : ℕ) → AllAre (FeedsByGrants m) book
    → past.by_failsafe m ≡ false → (past_over past book).by_failsafe m ≡ false
grants-over past [] m feeds old = old
grants-over past (event ∷ events) m feeds old =
    grants-over (past_after past event.kind) events m feeds.1 (grants-by past event.kind m feeds.0 old)

pub grants-in : (book : List Event) (m : ℕ) → AllAre (FeedsByGrants m) book → (past_of book).by_failsafe m ≡ false
grants-in book m feeds = grants-over first_past book m feeds refl
