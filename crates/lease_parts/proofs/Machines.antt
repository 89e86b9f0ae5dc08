-- Each event keeps what the past and the facts of a book have of machines the same.
use Rattle.std.proofs.Common.{ℕ, ◌≡◌, ◌≢◌, ◌<◌, ◌≤◌, ◌==◌, max, Bool, true, false, cond, List, [], ◌∷◌, length, slice_get, Option, Some, None, option_map, refl, ◌∙◌, ap, sym, subst, arith, inl, inr}
use Rattle.std.proofs.lemmas.Option.{slice_get_cases, slice_get_past}
use Rattle.std.proofs.lemmas.Bool.Decides.{nat_tests}
use Rattle.pat_base.specs.declared.ticks.Ticks.{Ticks}
use Rattle.pat_base.specs.Changes.{with_changed}
use Rattle.pg_model.specs.Facts.{ServerFacts}
use Rattle.event_book.specs.declared.agent_process.AgentProcess.{AgentProcess}
use Rattle.event_book.specs.declared.event.AgentEvent.{AgentEvent}
use Rattle.event_book.specs.declared.event.AgentEvent.TheVariants as agents
use Rattle.event_book.specs.declared.event.EventKind.{EventKind}
use Rattle.event_book.specs.declared.event.EventKind.TheVariants as kinds
use Rattle.event_book.specs.declared.event.ServerEvent.{ServerEvent}
use Rattle.event_book.specs.declared.event.ServerEvent.TheVariants as servers
use Rattle.event_book.specs.declared.event.WatchdogEvent.{WatchdogEvent}
use Rattle.event_book.specs.declared.event.WatchdogEvent.TheVariants as watchdogs
use Rattle.event_book.specs.Processes.{processes_after, processes_by, processes_by_watchdog, ended_process}
use Rattle.event_book.specs.Clock.{now_after}
use Rattle.event_book.specs.Facts.{Facts, facts_after}
use Rattle.event_book.specs.declared.event.Event.{Event}
use Rattle.event_book.specs.Functions.{put_at}
use Rattle.event_book.specs.Servers.{servers_after}
use Rattle.event_book.specs.Watchdogs.{is_acknowledged, deadlines_after, deadlines_by, holds_after, holds_by, prolonged_to}
use Rattle.event_book.specs.Writers.{writes_in, writes_now, writes_after, writes_by_server, writes_by_watchdog, BeginsKind, BeginsServer}
use Rattle.event_book.proofs.Told.{count-of, writes-of, writes-same}
use Rattle.lease_model.specs.Past.{Past, past_after, deadline_after, deadline_by, by_failsafe_after, by_failsafe_by, hold_after, hold_by}
use Rattle.event_book.specs.Premises.{runs_after}
use Rattle.lease_model.proofs.Tools.{put-all}
use Rattle.lease_parts.specs.Machines.{deadline_now, deadline_in, hold_now, hold_in, run_now, run_in, IsSameEverywhere, IsSized, IsWithinMembers}
use Rattle.cluster_model.specs.FailsafeDeadlines.{failsafe_deadlines_after, failsafe_deadlines_by, is_set_by_failsafe}
use Rattle.cluster_model.proofs.Places.{get-changed, length-changed, there}

-- what is put at a place is what is seen of the changed item there
module _ {A B : Type 0} (see : Option A → B) where
  seen-put-at : (f : ℕ → B) (xs : List A) (k m : ℕ) (change : A → A) (x : B) (same : Bool) → (m == k) ≡ same
      → see (option_map change (slice_get xs k)) ≡ x → f m ≡ see (slice_get xs m)
      → cond same x (f m) ≡ see (cond same (option_map change (slice_get xs m)) (slice_get xs m))
  seen-put-at f xs k m change x true e here before =
      sym here ∙ ap (λ (n : ℕ). see (option_map change (slice_get xs n))) (sym (number-from m k e))
    where
      number-from : (m k : ℕ) → (m == k) ≡ true → m ≡ k
      number-from m k e = grind (arith, nat_tests)
  seen-put-at f xs k m change x false e here before = before

  pub seen-put : (f : ℕ → B) (xs : List A) (k m : ℕ) (change : A → A) (x : B)
      → see (option_map change (slice_get xs k)) ≡ x → f m ≡ see (slice_get xs m)
      → put_at f k x m ≡ see (slice_get (with_changed xs k change) m)
  seen-put f xs k m change x here before =
      seen-put-at f xs k m change x (m == k) refl here before ∙ ap see (sym (get-changed xs k m change))

  -- nothing is seen to change
  seen-kept-at : (xs : List A) (k m : ℕ) (change : A → A) (same : Bool)
      → ((found : Option A) → see (option_map change found) ≡ see found)
      → see (cond same (option_map change (slice_get xs m)) (slice_get xs m)) ≡ see (slice_get xs m)
  seen-kept-at xs k m change true same = same (slice_get xs m)
  seen-kept-at xs k m change false same = refl

  pub seen-kept : (xs : List A) (k m : ℕ) (change : A → A)
      → ((found : Option A) → see (option_map change found) ≡ see found)
      → see (slice_get (with_changed xs k change) m) ≡ see (slice_get xs m)
  seen-kept xs k m change same = ap see (get-changed xs k m change) ∙ seen-kept-at xs k m change (m == k) same

-- within the list there is an item to change
seen-there : {A B : Type 0} (see : Option A → B) (xs : List A) (k : ℕ) (change : A → A) (x : B)
    → k < length xs → ((found : A) → see (Some (change found)) ≡ x)
    → see (option_map change (slice_get xs k)) ≡ x
seen-there see xs k change x small is =
    let found = there xs k small in ap (λ (o : Option _). see (option_map change o)) found.1 ∙ is found.0

pub no-deadline : (found : Option (Option Ticks))
    → deadline_now (option_map (λ (before : Option Ticks). let none : Option Ticks = None in none) found) ≡ None
no-deadline None = refl
no-deadline (Some found) = refl

deadline-watched : (before : ℕ → Option ℕ) (deadlines : List (Option Ticks)) (happening : WatchdogEvent)
    → IsWithinMembers (length deadlines) (kinds.Watchdog happening)
    → ((m : ℕ) → before m ≡ deadline_in deadlines m) → (m : ℕ)
    → deadline_by before happening m ≡ deadline_in (deadlines_by deadlines happening) m
deadline-watched before deadlines (watchdogs.Armed member until answer) is same m =
    seen-put deadline_now before deadlines member.id.number m _ (Some until.0)
    (seen-there deadline_now deadlines member.id.number _ (Some until.0) is (λ found. refl)) (same m)
deadline-watched before deadlines (watchdogs.Fed member until basis) is same m =
    seen-put deadline_now before deadlines member.id.number m _ (Some until.0)
    (seen-there deadline_now deadlines member.id.number _ (Some until.0) is (λ found. refl)) (same m)
deadline-watched before deadlines (watchdogs.Disarmed member) is same m = seen-put deadline_now before
    deadlines member.id.number m _ None (no-deadline (slice_get deadlines member.id.number)) (same m)
deadline-watched before deadlines (watchdogs.Reset member) is same m = seen-put deadline_now before deadlines
    member.id.number m _ None (no-deadline (slice_get deadlines member.id.number)) (same m)
deadline-watched before deadlines _ is same m = same m

pub deadline-of : (before : ℕ → Option ℕ) (deadlines : List (Option Ticks)) (kind : EventKind)
    → IsWithinMembers (length deadlines) kind
    → ((m : ℕ) → before m ≡ deadline_in deadlines m) → (m : ℕ)
    → deadline_after before kind m ≡ deadline_in (deadlines_after deadlines kind) m
deadline-of before deadlines (kinds.Watchdog happening) is same m =
    deadline-watched before deadlines happening is same m
deadline-of before deadlines _ is same m = same m

from-none : (until : ℕ) → until ≡ max 0 until
from-none until = omega arith

later-hold : (hold until : ℕ) (found : Option Ticks) → hold ≡ hold_now (Some found) → (moment : Ticks)
    → moment.0 ≡ until → hold_now (Some (prolonged_to moment found)) ≡ max hold until
later-hold hold until None is moment at = at ∙ from-none until ∙ sym (ap (λ h. max h until) is)
later-hold hold until (Some held) is moment at = ap (λ u. max held.0 u) at ∙ sym (ap (λ h. max h until) is)

hold-watched : (before : ℕ → ℕ) (holds : List (Option Ticks)) (happening : WatchdogEvent)
    → IsWithinMembers (length holds) (kinds.Watchdog happening)
    → ((m : ℕ) → before m ≡ hold_in holds m) → (m : ℕ)
    → hold_by before happening m ≡ hold_in (holds_by holds happening) m
hold-watched before holds (watchdogs.HoldTaken member until from incarnation sequence) is same m =
    let found = there holds member.id.number is in
    seen-put hold_now before holds member.id.number m _ (max (before member.id.number) until.0)
    (ap (λ (o : Option (Option Ticks)). hold_now (option_map (prolonged_to until) o)) found.1
    ∙ later-hold (before member.id.number) until.0 found.0 (same member.id.number ∙ ap hold_now found.1) until refl)
    (same m)
hold-watched before holds _ is same m = same m

pub hold-of : (before : ℕ → ℕ) (holds : List (Option Ticks)) (kind : EventKind) → IsWithinMembers (length holds) kind
    → ((m : ℕ) → before m ≡ hold_in holds m) → (m : ℕ) → hold_after before kind m ≡ hold_in (holds_after holds kind) m
hold-of before holds (kinds.Watchdog happening) is same m = hold-watched before holds happening is same m
hold-of before holds _ is same m = same m

pub ended-run : (found : Option AgentProcess) → run_now (option_map ended_process found) ≡ run_now found
ended-run None = refl
ended-run (Some process) = refl

pub suspended-run : (to : Bool) (found : Option AgentProcess)
    → run_now (option_map
    (λ (process : AgentProcess). let changed : AgentProcess = record process { suspended = to } in changed) found)
    ≡ run_now found
suspended-run to None = refl
suspended-run to (Some process) = refl

runs-by : (before : ℕ → ℕ) (processes : List AgentProcess) (happening : AgentEvent)
    → IsWithinMembers (length processes) (kinds.Agent happening)
    → ((m : ℕ) → before m ≡ run_in processes m) → (m : ℕ)
    → runs_after before (kinds.Agent happening) m ≡ run_in (processes_by processes happening) m
runs-by before processes (agents.Started agent incarnation) is same m =
    seen-put run_now before processes agent.id.number m _ incarnation
    (seen-there run_now processes agent.id.number _ incarnation is (λ found. refl)) (same m)
runs-by before processes (agents.Suspended agent) is same m =
    same m ∙ sym (seen-kept run_now processes agent.id.number m _ (suspended-run true))
runs-by before processes (agents.Resumed agent) is same m =
    same m ∙ sym (seen-kept run_now processes agent.id.number m _ (suspended-run false))
runs-by before processes (agents.Killed agent) is same m =
    same m ∙ sym (seen-kept run_now processes agent.id.number m _ ended-run)
runs-by before processes _ is same m = same m

runs-watched : (processes : List AgentProcess) (happening : WatchdogEvent) (m : ℕ)
    → run_in processes m ≡ run_in (processes_by_watchdog processes happening) m
runs-watched processes (watchdogs.Reset member) m = sym (seen-kept run_now processes member.id.number m _ ended-run)
runs-watched processes _ m = refl

pub runs-of : (before : ℕ → ℕ) (processes : List AgentProcess) (kind : EventKind)
    → IsWithinMembers (length processes) kind
    → ((m : ℕ) → before m ≡ run_in processes m) → (m : ℕ)
    → runs_after before kind m ≡ run_in (processes_after processes kind) m
runs-of before processes (kinds.Agent happening) is same m = runs-by before processes happening is same m
runs-of before processes (kinds.Watchdog happening) is same m = same m ∙ runs-watched processes happening m
runs-of before processes _ is same m = same m

basis-watched : (before : ℕ → Bool) (known : List Bool) (happening : WatchdogEvent)
    → IsWithinMembers (length known) (kinds.Watchdog happening)
    → ((m : ℕ) → before m ≡ is_set_by_failsafe (slice_get known m)) → (m : ℕ)
    → by_failsafe_by before happening m ≡ is_set_by_failsafe (slice_get (failsafe_deadlines_by known happening) m)
basis-watched before known (watchdogs.Armed member until answer) is same m =
    seen-put is_set_by_failsafe before known member.id.number m _ false
    (seen-there is_set_by_failsafe known member.id.number _ false is (λ found. refl)) (same m)
basis-watched before known (watchdogs.Fed member until basis) is same m =
    seen-put is_set_by_failsafe before known member.id.number m _ (is_acknowledged basis)
    (seen-there is_set_by_failsafe known member.id.number _ (is_acknowledged basis) is (λ found. refl)) (same m)
basis-watched before known _ is same m = same m

-- whose deadline acknowledgements set last
pub basis-of : (before : ℕ → Bool) (known : List Bool) (kind : EventKind) → IsWithinMembers (length known) kind
    → ((m : ℕ) → before m ≡ is_set_by_failsafe (slice_get known m)) → (m : ℕ)
    → by_failsafe_after before kind m ≡ is_set_by_failsafe (slice_get (failsafe_deadlines_after known kind) m)
basis-of before known (kinds.Watchdog happening) is same m = basis-watched before known happening is same m
basis-of before known _ is same m = same m

bases-watched : (known : List Bool) (happening : WatchdogEvent)
    → length (failsafe_deadlines_by known happening) ≡ length known
bases-watched known (watchdogs.Armed member until answer) = length-changed known _ _
bases-watched known (watchdogs.Fed member until basis) = length-changed known _ _
bases-watched known _ = refl

pub bases-sized : (known : List Bool) (kind : EventKind) → length (failsafe_deadlines_after known kind) ≡ length known
bases-sized known (kinds.Watchdog happening) = bases-watched known happening
bases-sized known _ = refl

-- a server that doesn't begin writes past the members no more than before
no-writes-server : (before : ℕ → Bool) (happening : ServerEvent) (n : ℕ)
    → BeginsServer (λ server. server ≢ n) happening → before n ≡ false → writes_by_server before happening n ≡ false
no-writes-server before (servers.Began server timeline) n aside none = put-all before server.id.number true
    (λ m b. m ≡ n → b ≡ false) (λ e. absurd (aside e)) (λ m other e. ap before e ∙ none) n refl
no-writes-server before (servers.Ended server) n aside none = put-all before server.id.number false
    (λ m b. m ≡ n → b ≡ false) (λ e. refl) (λ m other e. ap before e ∙ none) n refl
no-writes-server before (servers.Crashed server) n aside none = put-all before server.id.number false
    (λ m b. m ≡ n → b ≡ false) (λ e. refl) (λ m other e. ap before e ∙ none) n refl
no-writes-server before _ n aside none = none

no-writes-watchdog : (before : ℕ → Bool) (happening : WatchdogEvent) (n : ℕ) → before n ≡ false
    → writes_by_watchdog before happening n ≡ false
no-writes-watchdog before (watchdogs.Reset member) n none = put-all before member.id.number false
    (λ m b. m ≡ n → b ≡ false) (λ e. refl) (λ m other e. ap before e ∙ none) n refl
no-writes-watchdog before _ n none = none

no-writes : (before : ℕ → Bool) (kind : EventKind) (n : ℕ) → BeginsKind (λ server. server ≢ n) kind
    → before n ≡ false → writes_after before kind n ≡ false
no-writes before (kinds.Server happening) n aside none = no-writes-server before happening n aside none
no-writes before (kinds.Watchdog happening) n aside none = no-writes-watchdog before happening n none
no-writes before _ n aside none = none

below-not : (k n count : ℕ) → k < count → count ≤ n → k ≢ n
below-not k n count small past = omega (arith, small, past)

aside-server : (count n : ℕ) (happening : ServerEvent) → count ≤ n
    → IsWithinMembers count (kinds.Server happening) → BeginsServer (λ server. server ≢ n) happening
aside-server count n (servers.Began server timeline) past is = below-not server.id.number n count is past
aside-server count n _ past is = tt

aside-past : (count n : ℕ) (kind : EventKind) → count ≤ n → IsWithinMembers count kind
    → BeginsKind (λ server. server ≢ n) kind
aside-past count n (kinds.Server happening) past is = aside-server count n happening past is
aside-past count n _ past is = tt

writes-past : (known : List ServerFacts) (n : ℕ) → length known ≤ n → writes_in known n ≡ false
writes-past known n past = ap writes_now (slice_get_past known n past)

writes-kind : (before after : ℕ → Bool) (kind : EventKind) (n : ℕ) → before n ≡ after n
    → writes_after before kind n ≡ writes_after after kind n
writes-kind before after kind n same =
    let event : Event = record { tick = record { 0 = 0 }; kind = kind } in writes-same before after (event ∷ []) n same

pub writes-in : (before : ℕ → Bool) (now : ℕ) (known : List ServerFacts) (remote : Option ServerFacts)
    (kind : EventKind) → IsWithinMembers (length known) kind
    → ((n : ℕ) → before n ≡ writes_in known n) → (n : ℕ)
    → writes_after before kind n ≡ writes_in (servers_after now known remote kind) n
writes-in before now known remote kind is same n = elim (slice_get_cases known n).1 [
  | inl found ↦ writes-kind before (writes_in known) kind n (same n) ∙ sym (writes-of now known remote kind n found.1)
  | inr past ↦
      no-writes before kind n (aside-past (length known) n kind past.0 is) (same n ∙ writes-past known n past.0)
      ∙ sym (writes-past (servers_after now known remote kind) n (rw (count-of now known remote kind) past.0))
]

deadlines-sized : (deadlines : List (Option Ticks)) (happening : WatchdogEvent)
    → length (deadlines_by deadlines happening) ≡ length deadlines
deadlines-sized deadlines (watchdogs.Armed member until answer) = length-changed deadlines _ _
deadlines-sized deadlines (watchdogs.Fed member until basis) = length-changed deadlines _ _
deadlines-sized deadlines (watchdogs.Disarmed member) = length-changed deadlines _ _
deadlines-sized deadlines (watchdogs.Reset member) = length-changed deadlines _ _
deadlines-sized deadlines _ = refl

holds-sized : (holds : List (Option Ticks)) (happening : WatchdogEvent)
    → length (holds_by holds happening) ≡ length holds
holds-sized holds (watchdogs.HoldTaken member until from incarnation sequence) = length-changed holds _ _
holds-sized holds _ = refl

agents-sized : (processes : List AgentProcess) (happening : AgentEvent)
    → length (processes_by processes happening) ≡ length processes
agents-sized processes (agents.Suspended agent) = length-changed processes _ _
agents-sized processes (agents.Resumed agent) = length-changed processes _ _
agents-sized processes (agents.Killed agent) = length-changed processes _ _
agents-sized processes (agents.Started agent incarnation) = length-changed processes _ _
agents-sized processes _ = refl

agents-reset : (processes : List AgentProcess) (happening : WatchdogEvent)
    → length (processes_by_watchdog processes happening) ≡ length processes
agents-reset processes (watchdogs.Reset member) = length-changed processes _ _
agents-reset processes _ = refl

sized-agents : (processes : List AgentProcess) (kind : EventKind)
    → length (processes_after processes kind) ≡ length processes
sized-agents processes (kinds.Agent happening) = agents-sized processes happening
sized-agents processes (kinds.Watchdog happening) = agents-reset processes happening
sized-agents processes _ = refl

sized-deadlines : (deadlines : List (Option Ticks)) (kind : EventKind)
    → length (deadlines_after deadlines kind) ≡ length deadlines
sized-deadlines deadlines (kinds.Watchdog happening) = deadlines-sized deadlines happening
sized-deadlines deadlines _ = refl

sized-holds : (holds : List (Option Ticks)) (kind : EventKind) → length (holds_after holds kind) ≡ length holds
sized-holds holds (kinds.Watchdog happening) = holds-sized holds happening
sized-holds holds _ = refl

-- no event changes how many there are
pub sized-by : (count : ℕ) (facts : Facts) (kind : EventKind) → IsSized count facts
    → IsSized count (facts_after facts kind)
sized-by count facts kind old = record {
  agents = sized-agents facts.processes kind ∙ old.agents;
  servers = count-of (now_after facts.clock kind) facts.servers facts.remote kind ∙ old.servers;
  deadlines = sized-deadlines facts.deadlines kind ∙ old.deadlines;
  holds = sized-holds facts.holds kind ∙ old.holds;
}

pub machines-by : (count : ℕ) (past : Past) (facts : Facts) (kind : EventKind) → IsSized count facts
    → IsWithinMembers count kind
    → IsSameEverywhere past facts → IsSameEverywhere (past_after past kind) (facts_after facts kind)
machines-by count past facts kind sized is old = record {
  deadline = deadline-of past.deadline facts.deadlines kind
      (subst (λ (n : ℕ). IsWithinMembers n kind) (sym sized.deadlines) is) old.deadline;
  hold = hold-of past.hold facts.holds kind (subst (λ (n : ℕ). IsWithinMembers n kind) (sym sized.holds) is) old.hold;
  runs =
      runs-of past.runs facts.processes kind (subst (λ (n : ℕ). IsWithinMembers n kind) (sym sized.agents) is) old.runs;
  writes = writes-in past.writes (now_after facts.clock kind) facts.servers facts.remote kind
      (subst (λ (n : ℕ). IsWithinMembers n kind) (sym sized.servers) is) old.writes;
}
