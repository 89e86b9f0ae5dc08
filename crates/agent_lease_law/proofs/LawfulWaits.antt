-- Inputs that hear no grant, acknowledgements that are waited for, and deadlines by them.
use Rattle.std.proofs.Common.{◌≡◌, ◌⊎◌, ℕ, ◌+◌, ◌≤◌, ◌<◌, ◌||◌, if◌then◌else◌, Bool, true, false, Option, Some, None, IfSome, refl, sym, ap, ◌∙◌, arith, inl}
use Rattle.std.specs.Option.{ForSome}
use Rattle.pat_base.specs.declared.ticks.Ticks.{Ticks}
use Rattle.pat_base.specs.ServerState.{live}
use Rattle.cluster_view.specs.Snapshots.{SnapshotFacts}
use Rattle.leader_key.specs.Watchdog.{IsLeaseSpan, WatchdogFacts, greatest_margin, timeout_of}
use Rattle.store_keys.specs.declared.config.Config.{Config}
use Rattle.failsafe.specs.Asks.{has}
use Rattle.failsafe.specs.declared.asks.Ask.{Ask}
use Rattle.lease_model.specs.Leases.{LeaderSeen, FailsafeKey, FailsafeRequest}
use Rattle.lease_model.specs.States.{FailsafeCheck, State}
use Rattle.lease_model.specs.Inputs.{AgentInput, HeardLeader, HeardFailsafe, WatchdogMay, MayCreate, MayTake, ContinuesCheck, BeginsCheck}
use Rattle.event_book.specs.Functions.{set_members}
use Rattle.lease_model.proofs.Tools.{some-is, none-some}
use Rattle.agent_model.specs.StayingPrimary.{is_staying}
use Rattle.agent_model.specs.Acting.{lease_span}
use Rattle.agent_model.specs.declared.knowledge.Knowledge.{Knowledge}
use Rattle.agent_model.specs.declared.knowledge.PendingQuestion.{PendingQuestion}
use Rattle.agent_model.specs.Agents.{RoleFacts, Follower, Holder, Ready, Leader, Ending, Unleased, Outcome, is_leader, is_ready}
use Rattle.agent_sending.specs.Modes.{KeepsMode}
use Rattle.agent_lease_law.specs.Lawful.{CanFeed, StandsIn, IsInputOf, MayPromote, IsLawfulAnd}
use Rattle.agent_roles.specs.Powers.{BringsNothing, LeavesMachine, IsFedByFailsafe, leads}
use Rattle.agent_roles.specs.Seen.{check_seen, leader_seen_if, moment_seen, failsafe_seen_if}
use Rattle.agent_roles.proofs.GoingOn.{Onward}
use Rattle.agent_sending.proofs.CheckingWakes.{Goes}
use Rattle.agent_lease_law.proofs.Lawful.{AreLawfulGrounds, ready-left, takes-nothing, was_of, seen-acts, watchdog-leaves, lawful-of}
use Rattle.agent_lease_law.proofs.LawfulGrants.{fed-deadline}
use Rattle.agent_roles.proofs.Living.{no-way}
use Rattle.agent_lease_law.proofs.Behind.{nobody-begins}
use Rattle.agent_sending.proofs.MaySend.{Grounds, AllMay}
use Rattle.agent_sending.proofs.StayingSends.{staying}

-- the grounds of an input that hears no grant, and acknowledges nothing: a create may expect what the law lets it
abbrev pub Ungranted : State → ℕ → AgentInput → Outcome → Grounds
Ungranted s m input o = record {
  gives = λ revision. ⊥;
  creates = λ expected. MayCreate s m input.heard (was_of o) expected;
  requests = λ sequence ttl. ⊥;
  acknowledges = λ to run sequence. ⊥;
  configures = λ config. Unit {0};
  feeds = λ members number. Unit {0};
}

-- such grounds are lawful
pub ungranted-lawful : (s : State) (m : ℕ) (input : AgentInput) (o after : Outcome)
    → AreLawfulGrounds s m input (Ungranted s m input o) o after
ungranted-lawful s m input o after = record {
  owns = λ revision e. absurd e;
  creates = λ expected may. may;
  requests = λ sequence ttl e. absurd e;
  acknowledges = λ to run sequence _ e. absurd e;
}

-- ---- acknowledgements that are waited for
some-check : FailsafeCheck → Option FailsafeCheck
some-check check = Some check

-- they are of what is waited for
pub record ChecksWaited (ask : Ask) (waited : Option PendingQuestion) (check : FailsafeCheck) : Type 0 where
  pub one : PendingQuestion
  pub is : waited ≡ Some one
  pub staying : is_staying one.question ≡ true
  pub check_is : check ≡ (record {
    sequence = one.sequence;
    ttl = one.ttl.0;
    sent = one.sent.0;
    members = set_members ask.members;
    yes = set_members ask.acknowledged;
  })

pub checks-waited : (ask : Ask) (waited : Option PendingQuestion) (check : FailsafeCheck)
    → check_seen ask waited ≡ Some check → ChecksWaited ask waited check
checks-waited ask None check e = absurd (none-some check e)
checks-waited ask (Some one) check e = by (is_staying one.question) refl e
  where
    by : (test : Bool) → is_staying one.question ≡ test
        → (if test then Some (record {
          sequence = one.sequence;
          ttl = one.ttl.0;
          sent = one.sent.0;
          members = set_members ask.members;
          yes = set_members ask.acknowledged;
        }) else None) ≡ Some check → ChecksWaited ask (Some one) check
    by true staying e = record { one = one; is = refl; staying = staying; check_is = sym (some-is _ check e) }
    by false staying e = absurd (none-some check e)

pub seen-check : (ask : Ask) (waited : PendingQuestion) → is_staying waited.question ≡ true
    → check_seen ask (Some waited) ≡ Some (record {
      sequence = waited.sequence;
      ttl = waited.ttl.0;
      sent = waited.sent.0;
      members = set_members ask.members;
      yes = set_members ask.acknowledged;
    })
seen-check ask waited staying = rw staying refl

-- an input that goes on waiting for the same ones
pub goes-check : (s : State) (m : ℕ) (mode : Bool) (o after : Outcome) → Goes mode o after
    → (check : FailsafeCheck) → check_seen after.knows.failsafe after.knows.waited ≡ Some check
    → ContinuesCheck s m (was_of o) check ⊎ BeginsCheck s m (was_of o) (was_of after) check
goes-check s m mode o after goes check e =
    let waits = checks-waited after.knows.failsafe after.knows.waited check e in
    let was = goes.check waits.one waits.is waits.staying in
    let before-it : FailsafeCheck = record {
      sequence = waits.one.sequence;
      ttl = waits.one.ttl.0;
      sent = waits.one.sent.0;
      members = set_members o.knows.failsafe.members;
      yes = set_members o.knows.failsafe.acknowledged;
    } in
    let same : check ≡ before-it = waits.check_is ∙ ap (λ (ask : Ask). let one : FailsafeCheck = record {
      sequence = waits.one.sequence;
      ttl = waits.one.ttl.0;
      sent = waits.one.sent.0;
      members = set_members ask.members;
      yes = set_members ask.acknowledged;
    } in one) was.1 in
    inl (record {
      before = before-it;
      is = ap (λ (w : Option PendingQuestion). check_seen o.knows.failsafe w) was.0
          ∙ seen-check o.knows.failsafe waits.one waits.staying;
      sequence = ap (λ (x : FailsafeCheck). x.sequence) same;
      ttl = ap (λ (x : FailsafeCheck). x.ttl) same;
      sent = ap (λ (x : FailsafeCheck). x.sent) same;
      members = ap (λ (x : FailsafeCheck). x.members) same;
      yes = λ p said. inl (sym (ap (λ (x : FailsafeCheck). x.yes p) same) ∙ said);
    })

-- an input that hears no grant is lawful, by what it does to the watchdog
pub lawful-with : (s : State) (m runs : ℕ) (input : AgentInput) (now : Ticks) (told : Option SnapshotFacts)
    (G : Grounds) (o after : Outcome) → StandsIn s m runs now o → IsInputOf s m runs o after input
    → Onward told o after → WatchdogMay s m input (was_of o) (was_of after) → BringsNothing o after
    → (is_ready after.role ≡ true → (live after.machine.server.state ≡ false) × (after.machine.by_failsafe ≡ false))
    → KeepsMode s.declared.failsafe after.knows → AllMay G o after → AreLawfulGrounds s m input G o after
    → ((revision : ℕ) → G.gives revision → ⊥)
    → ((request : FailsafeRequest) → input.takes ≡ Some request → MayTake s input request)
    → ((check : FailsafeCheck) → check_seen after.knows.failsafe after.knows.waited ≡ Some check →
    ContinuesCheck s m (was_of o) check ⊎ BeginsCheck s m (was_of o) (was_of after) check)
    → ((key : FailsafeKey) → failsafe_seen_if told ≡ Some key → HeardFailsafe s input.heard key)
    → ((seen : LeaderSeen) → leader_seen_if told ≡ Some seen → HeardLeader s input.heard seen)
    → IsLawfulAnd s m after input
lawful-with s m runs input now told G o after stands is onward watchdog brings ready mode sends grounds none takes check
    failsafe leader =
    record {
      lawful = lawful-of s m runs input now told G o after stands is (record {
        onward = onward;
        watchdog = watchdog;
        parted = λ e. (ready e).0;
        ready = λ e. (ready e).1;
        mode = mode;
        sends = sends;
        grounds = grounds;
        takes = takes;
        check = check;
        leads_by = λ e. inl (brings.leads e);
        lease = λ revision e. inl (brings.lease revision e);
        failsafe = failsafe;
        leader = leader;
      });
      begins = nobody-begins (MayPromote s m input) G o after none
          (λ outs lives. inl (seen-acts (s.members m) runs o stands.member (inl lives))) sends;
    }

-- one that hears no grant and no failsafe request, nor an answer to one, and feeds nothing
pub without-grant : (s : State) (m runs : ℕ) (input : AgentInput) (now : Ticks) (told : Option SnapshotFacts)
    (o after : Outcome) → StandsIn s m runs now o → IsInputOf s m runs o after input → Onward told o after
    → LeavesMachine o after → BringsNothing o after
    → (is_ready after.role ≡ true → live after.machine.server.state ≡ false)
    → Goes s.declared.failsafe o after → AllMay (Ungranted s m input o) o after
    → ((key : FailsafeKey) → failsafe_seen_if told ≡ Some key → HeardFailsafe s input.heard key)
    → ((seen : LeaderSeen) → leader_seen_if told ≡ Some seen → HeardLeader s input.heard seen)
    → IsLawfulAnd s m after input
without-grant s m runs input now told o after stands is onward leaves brings parted goes sends failsafe leader =
    lawful-with s m runs input now told (Ungranted s m input o) o after stands is onward
    (watchdog-leaves s m runs input now o after stands is leaves brings) brings
    (λ e. (parted e, ready-left s m runs now o after stands brings leaves.basis e))
    (goes.keeps stands.mode) sends (ungranted-lawful s m input o after) (λ revision e. e)
    (takes-nothing s m runs input (Ungranted s m input o) o after is (λ to run sequence e. e) sends)
    (goes-check s m s.declared.failsafe o after goes) failsafe leader

-- what an agent waits for asks for the span of a lease
abbrev pub AsksLeases : Knowledge → Type 0
AsksLeases knows = ForSome knows.waited (λ waited. IsLeaseSpan waited.ttl.0)

pub span-of : (knows : Knowledge) (waited : PendingQuestion) → AsksLeases knows → knows.waited ≡ Some waited
    → IsLeaseSpan waited.ttl.0
span-of knows waited asks is = asks waited is

-- ---- deadlines by acknowledgements
pub later-deadline : (margin : Option Ticks) (n ttl : ℕ) → IsLeaseSpan ttl
    → IfSome margin (λ at_most. at_most.0 ≤ greatest_margin) → n < n + timeout_of margin ttl
later-deadline None n ttl span has = omega (arith, span.least)
later-deadline (Some margin) n ttl span has = omega (arith, span.least, has)

pub settings-span : (settings : Config) → IsLeaseSpan (lease_span settings).0
settings-span settings =
    record { least = omega (arith, settings.ttl_range); greatest = omega (arith, settings.ttl_range) }

pub leader-leads : (role : RoleFacts) → is_leader role ≡ true → leads role ≡ true
leader-leads (Leader held) e = refl
leader-leads Follower e = absurd (no-way e)
leader-leads (Holder held) e = absurd (no-way e)
leader-leads (Ready held) e = absurd (no-way e)
leader-leads (Ending held why) e = absurd (no-way e)
leader-leads Unleased e = absurd (no-way e)

pub leader-unready : (role : RoleFacts) → is_leader role ≡ true → is_ready role ≡ true → ⊥
leader-unready (Leader held) e ready = no-way ready
leader-unready Follower e ready = no-way ready
leader-unready (Holder held) e ready = no-way ready
leader-unready (Ready held) e ready = no-way e
leader-unready (Ending held why) e ready = no-way ready
leader-unready Unleased e ready = no-way ready

-- what a feed on acknowledgements leaves of the deadline
pub failsafe-deadline : (now ttl : Ticks) (o after : Outcome) → CanFeed o.machine → IsFedByFailsafe now ttl o after
    → moment_seen after.machine.watchdog.deadline ≡ Some (now.0 + timeout_of o.machine.watchdog.margin ttl.0)
failsafe-deadline now ttl o after can fed =
    ap (λ (w : WatchdogFacts). moment_seen w.deadline) fed.fed ∙ fed-deadline now.0 ttl.0 o.machine.watchdog can.armable

pub failsafe-basis : (now ttl : Ticks) (o after : Outcome) → CanFeed o.machine
    → IsFedByFailsafe now ttl o after → after.machine.by_failsafe ≡ true
failsafe-basis now ttl o after can fed = fed.basis ∙ ap (λ (b : Bool). b || o.machine.by_failsafe) can.armable
