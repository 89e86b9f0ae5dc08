-- A grant that an agent hears is the law's.
use Rattle.std.proofs.Common.{◌≡◌, ℕ, ◌+◌, ◌-◌, ◌/◌, ◌≤◌, ◌==◌, nat_lt, ◌&&◌, Bool, true, false, if◌then◌else◌, Option, Some, None, IfSome, refl, sym, subst, ap, ◌∙◌, arith}
use Rattle.std.proofs.lemmas.Bool.Decides.{nat_tests}
use Rattle.pat_base.specs.declared.member_set.MemberSet.{MemberSet}
use Rattle.pat_base.specs.declared.ticks.Ticks.{Ticks}
use Rattle.lease_store.specs.declared.granted.Granted.{Granted}
use Rattle.store_keys.specs.declared.value.KeyEntry.{KeyEntry}
use Rattle.cluster_view.specs.Snapshots.{SnapshotFacts, failsafe_by, value_by}
use Rattle.leader_key.specs.declared.watchdog.Mode.{Mode}
use Rattle.leader_key.specs.Watchdog.{WatchdogFacts, IsLeaseSpan, greatest_margin, timeout_of, is_armable, is_late, fed}
use Rattle.lease_model.specs.Leases.{LeaderSeen, FailsafeKey}
use Rattle.lease_model.specs.States.{Machine as MachineSeen, State}
use Rattle.lease_model.specs.Inputs.{HeardGrant, HeardLeader, HeardFailsafe, IsDeadline, Fed}
use Rattle.event_book.specs.Functions.{set_members}
use Rattle.lease_model.proofs.Tools.{some-is, none-some}
use Rattle.agent_model.specs.declared.knowledge.Knowledge.{Knowledge}
use Rattle.agent_model.specs.declared.knowledge.PendingQuestion.{PendingQuestion}
use Rattle.agent_model.specs.Acting.{comes_late, is_hold_active}
use Rattle.agent_model.specs.Agents.{Outcome}
use Rattle.agent_model.specs.Decisions.{asks_lease}
use Rattle.agent_lease_law.specs.Lawful.{StandsIn, HearsAnswer, TellsLease, HearsGrant}
use Rattle.agent_roles.specs.Powers.{LeavesMachine, IsAwaitedLease}
use Rattle.agent_roles.specs.Powers.DeadlineMay.{Kept as DeadlineKept, Removed as DeadlineRemoved, Undone as DeadlineUndone}
use Rattle.agent_roles.specs.Seen.{lease_asked, leader_seen_if, failsafe_listed, failsafe_entry_seen, failsafe_seen_if, moment_seen, hold_seen}
use Rattle.agent_model.specs.Snapshots.{known_with}
use Rattle.agent_roles.proofs.GoingOn.{known-listed}
use Rattle.agent_lease_law.proofs.Lawful.{was_of, stands-agent}
use Rattle.agent_roles.proofs.Living.{no-way}

-- the keys that a heard snapshot shows
pub heard-leader : (s : State) (m sequence : ℕ) (heard : Option ℕ) (snapshot : SnapshotFacts) (knows : Knowledge)
    → HearsAnswer s m heard sequence snapshot knows → (seen : LeaderSeen)
    → leader_seen_if (Some snapshot) ≡ Some seen → HeardLeader s heard seen
heard-leader s m sequence heard snapshot knows hears seen is = record {
  number = hears.number;
  answer = hears.answer;
  heard_is = hears.heard_is;
  is = hears.is;
  seen_is = hears.leader ∙ is;
}

pub heard-failsafe : (s : State) (m sequence : ℕ) (heard : Option ℕ) (snapshot : SnapshotFacts) (knows : Knowledge)
    → HearsAnswer s m heard sequence snapshot knows → (key : FailsafeKey)
    → failsafe_seen_if (Some snapshot) ≡ Some key → HeardFailsafe s heard key
heard-failsafe s m sequence heard snapshot knows hears key is = record {
  number = hears.number;
  answer = hears.answer;
  heard_is = hears.heard_is;
  is = hears.is;
  key_is = hears.failsafe ∙ is;
}

some_of : ℕ → Option ℕ
some_of n = Some n

-- what is waited for is a lease of this number
asked-of : (asks : Bool) (number sequence : ℕ) → asks && number == sequence ≡ true
    → (if asks then Some number else None) ≡ Some sequence
unfolding some_of
asked-of true number sequence e = let is : number ≡ sequence = grind (arith, nat_tests) in ap (λ (n : ℕ). some_of n) is
asked-of false number sequence e = absurd (no-way e)

-- the grant that it waits for
pub hears-grant : (s : State) (m runs sequence : ℕ) (heard : Option ℕ) (now : Ticks) (grant : Granted)
    (snapshot : SnapshotFacts) (o : Outcome) → StandsIn s m runs now o
    → (hears : HearsGrant s m heard sequence grant snapshot o)
    → (awaited : IsAwaitedLease sequence grant o.knows) → HeardGrant s m heard (hears.lease awaited).told
unfolding some_of
hears-grant s m runs sequence heard now grant snapshot o stands hears awaited = record {
  number = hears.answer.number;
  answer = hears.answer.answer;
  heard_is = hears.answer.heard_is;
  is = hears.answer.is;
  member = hears.answer.member;
  grant_is = (hears.lease awaited).is;
  waited = record {
    agent = was_of o;
    is = ap (λ (n : ℕ). (s.members n).agent) hears.answer.member ∙ stands-agent s m runs now o stands;
    incarnation = sym hears.answer.incarnation;
    sequence = ap (λ (w : Option PendingQuestion). lease_asked w) awaited.is
        ∙ (asked-of (asks_lease awaited.waited.question) awaited.waited.sequence sequence awaited.decision
        ∙ ap (λ (n : ℕ). some_of n) (sym hears.answer.sequence_is));
  };
}

-- no more than half of the span has passed since it was asked for
at-most : (half now sent clock ttl sent_at : ℕ) → clock ≡ now → half ≡ ttl / 2 → sent_at ≡ sent
    → nat_lt half (now - sent) ≡ false → clock ≤ sent_at + ttl / 2
at-most half now sent clock ttl sent_at clock_is half_is sent_is in_time =
    let within : now - sent ≤ half = grind (arith, nat_tests) in omega (arith, within, clock_is, half_is, sent_is)

-- the deadline that it gives, by the margin
pub deadline-of : (margin : Option Ticks) (now : Ticks) (waited : PendingQuestion) (clock ttl sent : ℕ)
    → clock ≡ now.0 → ttl ≡ waited.ttl.0 → sent ≡ waited.sent.0 → IsLeaseSpan waited.ttl.0
    → IfSome margin (λ at_most. at_most.0 ≤ greatest_margin) → is_late margin now.0 waited.sent.0 waited.ttl.0 ≡ false
    → IsDeadline (moment_seen margin) clock ttl sent (now.0 + timeout_of margin waited.ttl.0)
deadline-of (Some margin) now waited clock ttl sent clock_is ttl_is sent_is span has in_time =
    (omega (arith, ttl_is, span.least, has), omega (arith, clock_is, ttl_is))
deadline-of None now waited clock ttl sent clock_is ttl_is sent_is span has in_time = (
  omega (arith, ttl_is, span.least),
  at-most (waited.ttl.0 / 2) now.0 waited.sent.0 clock ttl sent clock_is
      (ap (λ (n : ℕ). n / 2) (sym ttl_is)) sent_is in_time,
  omega (arith, clock_is, ttl_is),
)

-- the grant and its deadline
abbrev pub fed-of : (s : State) (m runs sequence : ℕ) (heard : Option ℕ) (now : Ticks) (grant : Granted)
    (snapshot : SnapshotFacts) (o : Outcome) → StandsIn s m runs now o
    → (hears : HearsGrant s m heard sequence grant snapshot o)
    → (awaited : IsAwaitedLease sequence grant o.knows) → IsLeaseSpan awaited.waited.ttl.0
    → comes_late now awaited.waited o.machine ≡ false → Fed s m heard
fed-of s m runs sequence heard now grant snapshot o stands hears awaited span in_time =
    let tells : TellsLease grant snapshot o.machine awaited.waited hears.answer.answer = hears.lease awaited in record {
      grant = tells.told;
      hears = hears-grant s m runs sequence heard now grant snapshot o stands hears awaited;
      deadline = now.0 + timeout_of o.machine.watchdog.margin awaited.waited.ttl.0;
      deadline_is =
          subst (λ (margin : Option ℕ). IsDeadline margin s.clock tells.told.ttl tells.told.sent
          (now.0 + timeout_of o.machine.watchdog.margin awaited.waited.ttl.0))
          (sym stands.margin)
          (deadline-of o.machine.watchdog.margin now awaited.waited s.clock tells.told.ttl tells.told.sent
          stands.clock tells.ttl tells.sent span tells.feeds.margin in_time);
    }

-- the members that the grant's failsafe key lists
listed-known : (known : MemberSet) (revision : ℕ) (listed : Option MemberSet) (key : FailsafeKey)
    → failsafe_listed revision listed ≡ Some key → (p : ℕ) → key.members p ≡ true
    → set_members (known_with known listed) p ≡ true
listed-known known revision (Some members) key is p e = known-listed known members p
    (ap (λ (k : FailsafeKey). k.members p)
    (some-is (record { revision = revision; members = set_members members }) key is) ∙ e)
listed-known known revision None key is p e = absurd (none-some key is)

pub entry-known : (known : MemberSet) (found : Option KeyEntry) (key : FailsafeKey)
    → failsafe_entry_seen found ≡ Some key → (p : ℕ) → key.members p ≡ true
    → set_members (known_with known (value_by failsafe_by found)) p ≡ true
entry-known known (Some found) key is p e = listed-known known found.revision (failsafe_by found.value) key is p e
entry-known known None key is p e = absurd (none-some key is)

-- a feed changes the deadline alone, and by the same of the watchdog before
record SameWatchdog (w v : WatchdogFacts) : Type 0 where
  mode : v.mode ≡ w.mode
  works : v.works ≡ w.works
  margin : v.margin ≡ w.margin

same-watchdog : (o b : Outcome) → LeavesMachine o b → SameWatchdog o.machine.watchdog b.machine.watchdog
same-watchdog o b leaves = elim leaves.deadline [
  | DeadlineKept same ↦ record {
    mode = ap (λ (w : WatchdogFacts). w.mode) same;
    works = ap (λ (w : WatchdogFacts). w.works) same;
    margin = ap (λ (w : WatchdogFacts). w.margin) same;
  }
  | DeadlineRemoved is rests ↦ record {
    mode = ap (λ (w : WatchdogFacts). w.mode) is;
    works = ap (λ (w : WatchdogFacts). w.works) is;
    margin = ap (λ (w : WatchdogFacts). w.margin) is;
  }
  | DeadlineUndone is ready lives ↦ record {
    mode = ap (λ (w : WatchdogFacts). w.mode) is;
    works = ap (λ (w : WatchdogFacts). w.works) is;
    margin = ap (λ (w : WatchdogFacts). w.margin) is;
  }
]

same-armable : (w v : WatchdogFacts) → SameWatchdog w v → is_armable w.mode w.works ≡ true
    → is_armable v.mode v.works ≡ true
same-armable w v same armable =
    ap (λ (x : Mode). is_armable x v.works) same.mode ∙ (ap (λ (x : Bool). is_armable w.mode x) same.works ∙ armable)

-- an answer comes as late by the machine that is found before the input
pub late-before : (now : Ticks) (waited : PendingQuestion) (o b : Outcome) → LeavesMachine o b
    → comes_late now waited b.machine ≡ false → comes_late now waited o.machine ≡ false
late-before now waited o b leaves in_time =
    sym (ap (λ (margin : Option Ticks). is_late margin now.0 waited.sent.0 waited.ttl.0)
    (same-watchdog o b leaves).margin)
    ∙ in_time

pub fed-deadline : (n ttl : ℕ) (v : WatchdogFacts) → is_armable v.mode v.works ≡ true
    → moment_seen (fed n ttl v).deadline ≡ Some (n + timeout_of v.margin ttl)
fed-deadline n ttl v armable = rw armable refl

pub armable-before : (o b : Outcome) → LeavesMachine o b
    → is_armable o.machine.watchdog.mode o.machine.watchdog.works ≡ true
    → is_armable b.machine.watchdog.mode b.machine.watchdog.works ≡ true
armable-before o b leaves armable =
    same-armable o.machine.watchdog b.machine.watchdog (same-watchdog o b leaves) armable

-- the deadline after the feed
pub new-deadline : (now : Ticks) (ttl : ℕ) (o b after : Outcome) → LeavesMachine o b
    → is_armable o.machine.watchdog.mode o.machine.watchdog.works ≡ true
    → after.machine.watchdog ≡ fed now.0 ttl b.machine.watchdog
    → moment_seen after.machine.watchdog.deadline ≡ Some (now.0 + timeout_of o.machine.watchdog.margin ttl)
unfolding some_of
new-deadline now ttl o b after leaves armable is =
    let same : SameWatchdog o.machine.watchdog b.machine.watchdog = same-watchdog o b leaves in
    ap (λ (w : WatchdogFacts). moment_seen w.deadline) is
    ∙ (fed-deadline now.0 ttl b.machine.watchdog (same-armable o.machine.watchdog b.machine.watchdog same armable)
    ∙ ap (λ (margin : Option Ticks). some_of (now.0 + timeout_of margin ttl)) same.margin)

-- no hold is active
hold-over : (now : Ticks) (hold : Option Ticks) → is_hold_active now hold ≡ false → hold_seen hold ≤ now.0
hold-over now None e = omega arith
hold-over now (Some hold) e = grind (arith, nat_tests)

pub free-of : (s : State) (m runs : ℕ) (now : Ticks) (o b : Outcome) → StandsIn s m runs now o
    → LeavesMachine o b → is_hold_active now b.machine.hold ≡ false → (s.members m).hold ≤ s.clock
free-of s m runs now o b stands leaves free =
    let over : hold_seen b.machine.hold ≤ now.0 = hold-over now b.machine.hold free in
    let same : hold_seen b.machine.hold ≡ hold_seen o.machine.hold =
    ap (λ (h : Option Ticks). hold_seen h) leaves.hold in
    let is : (s.members m).hold ≡ hold_seen o.machine.hold = ap (λ (x : MachineSeen). x.hold) stands.member in
    omega (arith, over, same, is, stands.clock)
