-- A tick keeps the law: it is one action, with its resets, its expiries and the servers that begin and end in it.
use Rattle.std.proofs.Common.{ℕ, ◌≡◌, ◌<◌, ◌≤◌, ◌+◌, ◌==◌, ◌&&◌, ◌++◌, Bool, true, false, cond, List, [], ◌∷◌, length, slice_get, Option, Some, None, option_and_then, refl, ◌∙◌, ap, sym, subst, inl, inr}
use Rattle.std.proofs.lemmas.Option.{slice_get_cases}
use Rattle.pat_base.specs.declared.ticks.Ticks.{Ticks}
use Rattle.store_keys.specs.declared.key.Key.{Key}
use Rattle.store_keys.specs.declared.key.Key.TheVariants as keys
use Rattle.lease_store.specs.Answers.{expired_holder, expired_keys}
use Rattle.event_book.specs.declared.event.Event.{Event}
use Rattle.event_book.specs.declared.event.EventKind.{EventKind}
use Rattle.event_book.specs.declared.event.EventKind.TheVariants as kinds
use Rattle.event_book.specs.declared.event.ServerEvent.TheVariants as servers
use Rattle.event_book.specs.declared.event.WatchdogEvent.TheVariants as watchdogs
use Rattle.event_book.specs.declared.member.Member.{Member}
use Rattle.event_book.specs.Members.{server_of}
use Rattle.pg_model.specs.Facts.{ServerFacts, entries_of}
use Rattle.cluster_model.specs.Cluster.{cluster_after, cluster_over}
use Rattle.cluster_model.specs.declared.beginning.Completion.TheVariants as completions
use Rattle.cluster_model.specs.Beginnings.{completed_by, completion_in, completion_kinds}
use Rattle.wal_model.specs.declared.entry.Entry.{Entry}
use Rattle.cluster_model.specs.Commands.{kinds_of}
use Rattle.cluster_model.specs.Losing.{loss_if}
use Rattle.wal_model.specs.Lacking.{lacks_in}
use Rattle.script_model.specs.Script.{HeadText, names_of}
use Rattle.cluster_model.specs.Orders.{declared_member}
use Rattle.cluster_model.specs.Parts.{each, events_of, for_some}
use Rattle.cluster_model.specs.State.{Cluster}
use Rattle.cluster_model.specs.Ticking.{completion_events, expiries_of, expiry_of, leader_expiry, next_expiries, reset_events, reset_of, tick_events}
use Rattle.leader_key.specs.Watchdog.{is_due_at}
use Rattle.pat_base.specs.ServerState.{live}
use Rattle.pat_base.specs.declared.server_state.State.{State}
use Rattle.pat_base.specs.declared.server_state.State.TheVariants as states
use Rattle.std.specs.Prelude.{nat_le}
use Rattle.lease_model.specs.Actions.{Tick}
use Rattle.lease_model.specs.Claims.{MayBeginBehind}
use Rattle.lease_model.specs.Past.{past_of, state_of}
use Rattle.event_book.specs.Kinds.{AllAre}
use Rattle.lease_model.specs.Showing.{IsLocal}
use Rattle.lease_model.specs.States.{Machine, is_due, tick_machine}
use Rattle.lease_law.proofs.LocalActions.{tick-shown}
use Rattle.cluster_model.proofs.Lists.{AllKinds, all-both, kinds-both}
use Rattle.lease_parts.specs.Asides.{IsAside, IsAsideIn, IsQuiet}
use Rattle.lease_parts.specs.Declaring.{declared_of}
use Rattle.run_promise.specs.Members.{declared_members, member_count, is_listed}
use Rattle.lease_parts.specs.Kept.{Keeps}
use Rattle.lease_parts.specs.Machines.{deadline_in, deadline_now, live_in, live_now}
use Rattle.lease_parts.specs.Volatile.{machine_in, volatile_of}
use Rattle.lease_parts.proofs.Actions.{action-kept, machine-is}
use Rattle.lease_parts.proofs.Asides.{asides-begin-as, matched-behind-as}
use Rattle.run_promise.proofs.Upholding.{Each, over-append}
use Rattle.run_promise.proofs.Members.{declared-within, each-declared, listed}
use Rattle.lease_parts.proofs.Quiet.{quiet-aside, quiet-local}
use Rattle.lease_parts.proofs.TickMachines.{end-one, ends, quiet-machines, resets, stops_seen, ticked-machine}
use Rattle.pat_base.specs.declared.member_id.TheConstants.{MOST_MEMBERS}

-- events of a tick beside the clock's; whose server begins in one meets a premise
abbrev pub IsBeside : (ℕ → Type 0) → EventKind → Type 0
IsBeside May kind = IsAsideIn May kind × IsLocal kind

all-each : {X : Type 0} (P : EventKind → Type 0) (part : Cluster → X → List Event)
    → ((cluster : Cluster) (x : X) → AllAre P (part cluster x)) → (cluster : Cluster) (xs : List X)
    → AllAre P (each part cluster xs)
all-each P part all cluster [] = tt
all-each P part all cluster (x ∷ xs) =
    all-both P (part cluster x) (each part (cluster_over cluster (part cluster x)) xs) (all cluster x)
    (all-each P part all (cluster_over cluster (part cluster x)) xs)

reset-beside : (May : ℕ → Type 0) (cluster : Cluster) (now : ℕ) (x : Member) (found : Option (Option Ticks))
    → AllAre (IsBeside May) (events_of cluster (kinds_of (option_and_then (reset_of now x) found)))
reset-beside May cluster now x None = tt
reset-beside May cluster now x (Some deadline) = reset-if (is_due_at now deadline)
  where
    reset-if : (due : Bool)
        → AllAre (IsBeside May)
        (events_of cluster (kinds_of (cond due (Some (kinds.Watchdog (watchdogs.Reset x))) None)))
    reset-if true = ((tt, tt), tt)
    reset-if false = tt

-- ---- what is complete with a tick
lacks-beside : (May : ℕ → Type 0) (cluster : Cluster) (x : Member) (lacks : Bool)
    → AllAre (IsBeside May) (events_of cluster (kinds_of (loss_if x lacks)))
lacks-beside May cluster x true = ((tt, tt), tt)
lacks-beside May cluster x false = tt

begun-if : (May : ℕ → Type 0) (cluster : Cluster) (x : Member) (timeline : ℕ) (log : Option (List Entry)) (due : Bool)
    → May x.id.number
    → AllAre (IsBeside May)
    (events_of cluster
    (completed_by x cluster.facts.acknowledged log (cond due (Some (completions.Begins timeline)) None)))
begun-if May cluster x timeline log true may = (
  (may, tt),
  lacks-beside May (cluster_after cluster (kinds.Server (servers.Began (server_of x) timeline))) x
      (lacks_in (entries_of log) cluster.facts.acknowledged),
)
begun-if May cluster x timeline log false may = tt

ended-if : (May : ℕ → Type 0) (cluster : Cluster) (x : Member) (log : Option (List Entry)) (due : Bool)
    → AllAre (IsBeside May)
    (events_of cluster (completed_by x cluster.facts.acknowledged log (cond due (Some completions.Ends) None)))
ended-if May cluster x log true = ((tt, tt), tt)
ended-if May cluster x log false = tt

completed-beside : (May : ℕ → Type 0) (cluster : Cluster) (x : Member) (s : ServerFacts) (state : State)
    → (live state ≡ true → May x.id.number)
    → AllAre (IsBeside May)
    (events_of cluster
    (completed_by x cluster.facts.acknowledged s.log (completion_in cluster.facts.clock s.timeline state)))
completed-beside May cluster x s (states.Starting true at) may =
    begun-if May cluster x s.timeline s.log (nat_le at.0 cluster.facts.clock) (may refl)
completed-beside May cluster x s (states.Starting false at) may = tt
completed-beside May cluster x s (states.Stopping true at) may =
    ended-if May cluster x s.log (nat_le at.0 cluster.facts.clock)
completed-beside May cluster x s (states.Stopping false at) may = tt
completed-beside May cluster x s _ may = tt

-- who is live before may begin
complete-beside : (May : ℕ → Type 0) (cluster : Cluster) (x : Member) (found : Option ServerFacts)
    → (live_now found ≡ true → May x.id.number)
    → AllAre (IsBeside May)
    (for_some found (λ s. events_of cluster (completion_kinds cluster.facts.clock x cluster.facts.acknowledged s)))
complete-beside May cluster x None may = tt
complete-beside May cluster x (Some s) may = completed-beside May cluster x s s.state may

-- whose server is live
abbrev pub Lives : Cluster → ℕ → Type 0
Lives cluster n = (machine_in cluster n).live ≡ true

ticked-lives : (machine : Machine) (due ends : Bool) → (tick_machine due ends machine).live ≡ true → machine.live ≡ true
ticked-lives machine true ends e = absurd (no-way e)
  where
    no-way : false ≡ true → ⊥
    no-way e = cc
ticked-lives machine false true e = absurd (no-way e)
  where
    no-way : false ≡ true → ⊥
    no-way e = cc
ticked-lives machine false false e = e

completes-beside : (May : ℕ → Type 0) (xs : List Member) (cluster : Cluster)
    → ((n : ℕ) → Lives cluster n → May n) → AllAre (IsBeside May) (each completion_events cluster xs)
completes-beside May [] cluster may = tt
completes-beside May (x ∷ xs) cluster may =
    let later : Cluster = cluster_over cluster (completion_events cluster x) in
    all-both (IsBeside May) (completion_events cluster x) (each completion_events later xs)
    (complete-beside May cluster x (slice_get cluster.facts.servers x.id.number) (may x.id.number))
    (completes-beside May xs later
    (λ n lives. may n
    (ticked-lives (machine_in cluster n) false ((n == x.id.number) && stops_seen cluster n)
    (subst (λ (machine : Machine). machine.live ≡ true) (end-one cluster x n).machine lives))))

leader-quiet : (holder : Option Member) → AllKinds IsQuiet (leader_expiry holder)
leader-quiet None = tt
leader-quiet (Some holder) = (tt, tt)

expiry-quiet : (holder : Option Member) (key : Key) → AllKinds IsQuiet (expiry_of holder key)
expiry-quiet holder keys.Leader = leader-quiet holder
expiry-quiet holder _ = (tt, tt)

expiries-quiet : (holder : Option Member) (keys : List Key) → AllKinds IsQuiet (expiries_of holder keys)
expiries-quiet holder [] = tt
expiries-quiet holder (key ∷ more) = kinds-both IsQuiet (expiry_of holder key) (expiries_of holder more)
    (expiry-quiet holder key) (expiries-quiet holder more)

-- what expires with a tick is quiet
pub next-quiet : (cluster : Cluster) → AllKinds IsQuiet (next_expiries cluster)
next-quiet cluster =
    expiries-quiet (declared_member cluster.facts.members (expired_holder cluster.facts.keys (cluster.facts.clock + 1)))
    (expired_keys cluster.facts.keys (cluster.facts.clock + 1))

-- an event in which nobody begins
aside-as : (May : ℕ → Type 0) (kind : EventKind) → IsAside kind → IsAsideIn May kind
aside-as May (kinds.Server (servers.Began server timeline)) is = absurd is
aside-as May _ is = is

quiet-beside : (May : ℕ → Type 0) (cluster : Cluster) (kinds : List EventKind) → AllKinds IsQuiet kinds
    → AllAre (IsBeside May) (events_of cluster kinds)
quiet-beside May cluster [] all = tt
quiet-beside May cluster (kind ∷ more) all = (
  (aside-as May kind (quiet-aside kind all.0), quiet-local kind all.0),
  quiet-beside May (cluster_after cluster kind) more all.1,
)

-- only a server that there is can be live
live-within : (known : List ServerFacts) (n : ℕ) → live_in known n ≡ true → n < length known
live-within known n lives = elim (slice_get_cases known n).1 [
  | inl found ↦ found.1
  | inr past ↦ absurd (none-live (sym (ap live_now past.1) ∙ lives))
]
  where
    none-live : false ≡ true → ⊥
    none-live e = cc

-- ---- the parts of a tick
abbrev pub Ticked : Cluster → Cluster
Ticked cluster = cluster_after cluster kinds.Tick

abbrev pub Resets : Cluster → List Event
Resets cluster = each reset_events (Ticked cluster) (Ticked cluster).facts.members

abbrev pub Reset : Cluster → Cluster
Reset cluster = cluster_over (Ticked cluster) (Resets cluster)

abbrev pub Expiries : Cluster → List Event
Expiries cluster = events_of (Reset cluster) (next_expiries cluster)

abbrev pub Expired : Cluster → Cluster
Expired cluster = cluster_over (Reset cluster) (Expiries cluster)

abbrev pub Ends : Cluster → List Event
Ends cluster = each completion_events (Expired cluster) (Expired cluster).facts.members

-- all but the clock's event
abbrev pub Rest : Cluster → List Event
Rest cluster = Resets cluster ++ (Expiries cluster ++ Ends cluster)

-- who is live behind the expiries was live before the tick
expired-lives : (cluster : Cluster) → Each (λ (x : Member). x.id.number < length cluster.agents) cluster.facts.members
    → (n : ℕ) → Lives (Expired cluster) n → Lives cluster n
expired-lives cluster small n lives =
    let due : Bool =
    is_listed n cluster.facts.members && is_due (cluster.facts.clock + 1) (deadline_in cluster.facts.deadlines n) in
    ticked-lives (machine_in cluster n) due false
    (subst (λ (machine : Machine). machine.live ≡ true)
    (quiet-machines (next_expiries cluster) (next-quiet cluster) (Reset cluster) n
    ∙ resets (Ticked cluster).facts.members (Ticked cluster) small n
    ∙ ap (λ (machine : Machine). tick_machine due false machine) (ticked-machine cluster n))
    lives)

-- whoever begins was live before the tick
pub rest-beside : (May : ℕ → Type 0) (cluster : Cluster) → ((n : ℕ) → Lives (Expired cluster) n → May n)
    → AllAre (IsBeside May) (Rest cluster)
rest-beside May cluster may =
    all-both (IsBeside May) (Resets cluster) (Expiries cluster ++ Ends cluster)
    (all-each (IsBeside May) reset_events
    (λ c x. reset-beside May c c.facts.clock x (slice_get c.facts.deadlines x.id.number)) (Ticked cluster)
    (Ticked cluster).facts.members)
    (all-both (IsBeside May) (Expiries cluster) (Ends cluster)
    (quiet-beside May (Reset cluster) (next_expiries cluster) (next-quiet cluster))
    (completes-beside May (Expired cluster).facts.members (Expired cluster) may))

beside-aside : (May : ℕ → Type 0) (events : List Event) → AllAre (IsBeside May) events → AllAre (IsAsideIn May) events
beside-aside May [] all = tt
beside-aside May (event ∷ events) all = (all.0.0, beside-aside May events all.1)

beside-local : (May : ℕ → Type 0) (events : List Event) → AllAre (IsBeside May) events → AllAre IsLocal events
beside-local May [] all = tt
beside-local May (event ∷ events) all = (all.0.1, beside-local May events all.1)

-- ---- the machines behind a tick
-- which stops are complete
abbrev Stops : Cluster → ℕ → Bool
Stops cluster m = is_listed m (Expired cluster).facts.members && stops_seen (Expired cluster) m

ended-machine : (due ends : Bool) (machine : Machine)
    → tick_machine false ends (tick_machine due false machine) ≡ tick_machine due ends machine
ended-machine true true machine = refl
ended-machine true false machine = refl
ended-machine false ends machine = refl

tick-machines : (cluster : Cluster) (m : ℕ)
    → Each (λ (x : Member). x.id.number < length cluster.agents) cluster.facts.members
    → machine_in (cluster_over (Ticked cluster) (Rest cluster)) m
    ≡ tick_machine (is_listed m cluster.facts.members
    && is_due (cluster.facts.clock + 1) (deadline_in cluster.facts.deadlines m))
    (Stops cluster m) (machine_in cluster m)
tick-machines cluster m small =
    let due : Bool =
    is_listed m cluster.facts.members && is_due (cluster.facts.clock + 1) (deadline_in cluster.facts.deadlines m) in
    ap (λ (c : Cluster). machine_in c m)
    (over-append (Ticked cluster) (Resets cluster) (Expiries cluster ++ Ends cluster)
    ∙ over-append (Reset cluster) (Expiries cluster) (Ends cluster))
    ∙ ends (Expired cluster).facts.members (Expired cluster) m
    ∙ ap (λ (machine : Machine). tick_machine false (Stops cluster m) machine)
    (quiet-machines (next_expiries cluster) (next-quiet cluster) (Reset cluster) m
    ∙ resets (Ticked cluster).facts.members (Ticked cluster) small m
    ∙ ap (λ (machine : Machine). tick_machine due false machine) (ticked-machine cluster m))
    ∙ ended-machine due (Stops cluster m) (machine_in cluster m)

-- past the members nothing is due
listed-due : (count m now : ℕ) (deadlines : List (Option Ticks)) (is : Bool) → length deadlines ≡ count
    → (m < count → is ≡ true)
    → (is && is_due now (deadline_in deadlines m)) ≡ is_due now (deadline_in deadlines m)
listed-due count m now deadlines is sized listed = elim (slice_get_cases deadlines m).1 [
  | inl found ↦ ap (λ b. b && is_due now (deadline_in deadlines m)) (listed (subst (λ (n : ℕ). m < n) sized found.1))
  | inr past ↦
      let none : is_due now (deadline_in deadlines m) ≡ false =
      ap (λ (o : Option (Option Ticks)). is_due now (deadline_now o)) past.1 in
      ap (λ b. is && b) none ∙ and-none is ∙ sym none
]
  where
    and-none : (b : Bool) → (b && false) ≡ false
    and-none true = refl
    and-none false = refl

pub keeps-tick : (head : HeadText) → length (names_of head) ≤ MOST_MEMBERS → Keeps head tick_events
keeps-tick head few book cluster good =
    let tick : Ticks = record { 0 = cluster.facts.clock + 1 } in
    let events : List Event = record { tick = tick; kind = kinds.Tick } ∷ Rest cluster in
    let later : Cluster = cluster_over cluster events in
    let within = each-declared head few (λ (x : Member). x.id.number < length cluster.agents)
    (λ x is. subst (λ (n : ℕ). x.id.number < n) (sym good.matched.agents_sized) (declared-within head few x is)) in
    let members : cluster.facts.members ≡ declared_members head = good.matched.members in
    let small =
    subst (λ (xs : List Member). Each (λ (x : Member). x.id.number < length cluster.agents) xs) (sym members) within in
    let beside : AllAre (IsBeside (Lives cluster)) (Rest cluster) =
    rest-beside (Lives cluster) cluster (expired-lives cluster small) in
    let asides : AllAre (IsAsideIn (Lives cluster)) events = (tt, beside-aside (Lives cluster) (Rest cluster) beside) in
    let matched = matched-behind-as (Lives cluster) head book cluster events asides
    (λ n lives. subst (λ (count : ℕ). n < count) good.matched.sized.servers (live-within cluster.facts.servers n lives))
    good.matched in
    action-kept head book cluster events (Tick (Stops cluster)) good
    (asides-begin-as (Lives cluster)
    (MayBeginBehind (state_of (declared_of head) (past_of book) (volatile_of cluster)) (Tick (Stops cluster))) []
    events asides
    (λ before n lives. ap (λ (machine : Machine). machine.live) (machine-is head (past_of book) cluster good.matched n)
    ∙ lives))
    (λ meets. record {
      lawful = tt;
      shows = tt;
      shown = tick-shown (declared_of head) book (volatile_of cluster) (volatile_of later) tick (Rest cluster)
          (Stops cluster) (beside-local (Lives cluster) (Rest cluster) beside)
          (λ m.
          machine-is head (past_of (book ++ events)) later matched m
          ∙ tick-machines cluster m small
          ∙ ap (λ b. tick_machine b (Stops cluster m) (machine_in cluster m))
          (listed-due (member_count head) m (cluster.facts.clock + 1) cluster.facts.deadlines
          (is_listed m cluster.facts.members) good.matched.sized.deadlines
          (λ small. ap (λ xs. is_listed m xs) members ∙ listed head few m small))
          ∙ ap (λ (now : ℕ). tick_machine (is_due (now + 1) (deadline_in cluster.facts.deadlines m))
          (Stops cluster m) (machine_in cluster m))
          (sym good.matched.store.clock)
          ∙ ap (λ (o : Option ℕ).
          tick_machine (is_due ((past_of book).clock + 1) o) (Stops cluster m) (machine_in cluster m))
          (sym (good.matched.machines.deadline m))
          ∙ ap (λ (machine : Machine).
          tick_machine (is_due ((past_of book).clock + 1) ((past_of book).deadline m)) (Stops cluster m) machine)
          (sym (machine-is head (past_of book) cluster good.matched m)));
      matched = matched;
    })
