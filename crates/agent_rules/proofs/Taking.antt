-- What the tests of the table say in the words of the rules.
use Rattle.std.proofs.Common.{ℕ, ◌≡◌, ◌⊎◌, ◌<◌, ◌*◌, ◌&&◌, ◌||◌, not, nat_lt, Bool, true, false, if◌then◌else◌, Option, Some, None, refl, sym, ap, ◌∙◌, arith, inl, inr}
use Rattle.std.proofs.lemmas.Bool.Decides.{nat_tests}
use Rattle.pat_base.specs.declared.member_id.MemberId.{MemberId}
use Rattle.pat_base.specs.declared.server_state.State.{State}
use Rattle.pat_base.specs.declared.server_state.State.TheVariants as states
use Rattle.pat_base.specs.declared.ticks.TheConstants.{TICKS_OF_SECOND}
use Rattle.pat_base.specs.declared.ticks.Ticks.{Ticks}
use Rattle.pat_base.specs.ServerState.{live}
use Rattle.store_keys.specs.declared.config.Config.{Config}
use Rattle.lease_store.specs.declared.granted.Granted.{Granted}
use Rattle.pg_model.specs.declared.status.ServerStatus.{ServerStatus}
use Rattle.pg_model.specs.Facts.{is_down, is_replica}
use Rattle.cluster_view.specs.Naming.{is_candidate, is_failover_to, is_named}
use Rattle.cluster_view.specs.Snapshots.{SnapshotFacts}
use Rattle.leader_key.specs.declared.watchdog.Mode.{Mode}
use Rattle.leader_key.specs.declared.watchdog.Mode.TheVariants as modes
use Rattle.agent_model.specs.declared.heard.Heard.TheVariants as heards
use Rattle.agent_model.specs.declared.knowledge.Knowledge.{Knowledge}
use Rattle.agent_model.specs.declared.knowledge.SyncRead.{SyncRead}
use Rattle.agent_model.specs.declared.knowledge.PendingQuestion.{PendingQuestion}
use Rattle.agent_model.specs.declared.output.Repair.{Repair}
use Rattle.agent_model.specs.declared.output.Repair.TheVariants.{Rewind, Clone}
use Rattle.agent_model.specs.Acting.{comes_late, is_hold_active, is_refusing}
use Rattle.agent_model.specs.Agents.{Outcome}
use Rattle.agent_model.specs.Decisions.{can_begin, is_decision, is_lease_of, may_create, may_start_again, may_take, since_crash}
use Rattle.agent_model.specs.Pausing.{is_paused, is_wanted, lets_rewind}
use Rattle.agent_model.specs.Repairs.{is_upstream, repair_in, repair_of, repaired_if, repairing, rewind_if}
use Rattle.agent_model.specs.Snapshots.{informed}
use Rattle.agent_model.specs.Synchronous.{is_named_if, may_lead_in_sync}
use Rattle.agent_roles.proofs.Living.{no-way}
use Rattle.agent_rules.specs.Grounds.{CanBegin, IsNamed, TakeGround, NeedsRepair}
use Rattle.agent_rules.specs.Grounds.CanBegin.{Runs, StartsAgain}

pub first-true : (a b : Bool) → a && b ≡ true → a ≡ true
first-true true b e = refl
first-true false b e = e

pub second-true : (a b : Bool) → a && b ≡ true → b ≡ true
second-true true b e = e
second-true false b e = absurd (no-way e)

pub not-true : (a : Bool) → not a ≡ true → a ≡ false
not-true true e = absurd (no-way e)
not-true false e = refl

pub one-true : (a b : Bool) → a || b ≡ true → (a ≡ true) ⊎ (b ≡ true)
one-true true b e = inl refl
one-true false b e = inr e

below : (a b : ℕ) → nat_lt a b ≡ true → a < b
below a b e = grind (arith, nat_tests)

-- ---- taking the leader key
starts-again : (now : Ticks) (knows : Knowledge) (server : ServerStatus) → is_down server.state ≡ true
    → may_start_again now knows server ≡ true → CanBegin now knows server
starts-again now knows server down may =
    StartsAgain down
    (first-true server.was_primary
    (nat_lt (since_crash now knows.crashed) (TICKS_OF_SECOND * knows.turn_settings.primary_start_timeout)) may)
    (below (since_crash now knows.crashed) (TICKS_OF_SECOND * knows.turn_settings.primary_start_timeout)
    (second-true server.was_primary _ may))

can-begin : (now : Ticks) (knows : Knowledge) (server : ServerStatus) (state : State) → server.state ≡ state
    → can_begin now knows server state ≡ true → CanBegin now knows server
can-begin now knows server states.Replica is may = Runs is
can-begin now knows server states.Stopped is may = starts-again now knows server (rw is refl) may
can-begin now knows server states.Crashed is may = starts-again now knows server (rw is refl) may
can-begin now knows server states.Creating is may = absurd (no-way may)
can-begin now knows server states.Primary is may = absurd (no-way may)
can-begin now knows server (states.Starting as_primary at) is may = absurd (no-way may)
can-begin now knows server (states.Stopping was_primary at) is may = absurd (no-way may)

is-named : (knows : Knowledge) → knows.turn_settings.synchronous_mode ≡ true → may_lead_in_sync knows ≡ true
    → IsNamed knows
is-named knows on may read is =
    one-true (is_named knows.who.me read.key) (is_failover_to knows.who.me knows.turn_failover)
    (sym (ap (λ (r : Option SyncRead). is_named_if knows.who.me r || is_failover_to knows.who.me knows.turn_failover)
    is)
    ∙ sym (ap (λ (b : Bool). if b
    then is_named_if knows.who.me knows.turn_sync || is_failover_to knows.who.me knows.turn_failover else true) on)
    ∙ may)

guarded : (mode : Mode) (works : Bool) → is_refusing mode works ≡ false → mode ≡ modes.Required → works ≡ true
guarded mode true e is = refl
guarded mode false e is = absurd (no-way (sym e ∙ ap (λ (m : Mode). is_refusing m false) is))

pub replica : (state : State) → is_replica state ≡ true → state ≡ states.Replica
replica states.Replica e = refl
replica states.Creating e = absurd (no-way e)
replica states.Stopped e = absurd (no-way e)
replica states.Crashed e = absurd (no-way e)
replica states.Primary e = absurd (no-way e)
replica (states.Starting as_primary at) e = absurd (no-way e)
replica (states.Stopping was_primary at) e = absurd (no-way e)

-- what the grant of a lease that is waited for, to a follower or a holder, comes to by the tests of the table
pub record Decides (sequence : ℕ) (grant : Granted) (o : Outcome) : Type 0 where
  pub asked : PendingQuestion
  pub is : o.knows.waited ≡ Some asked
  pub decision : is_decision asked sequence && is_lease_of o.knows.who.me grant ≡ true
  pub role : may_create o.role ≡ true

pub may-take : (now : Ticks) (sequence : ℕ) (grant : Granted) (snapshot : SnapshotFacts) (o : Outcome)
    → (decides : Decides sequence grant o) → may_take now (informed snapshot o.knows) o.machine ≡ true
    → (is_paused (informed snapshot o.knows) ≡ false →
    is_refusing o.machine.watchdog.mode o.machine.watchdog.works ≡ false)
    → (is_paused (informed snapshot o.knows) ≡ false → comes_late now decides.asked o.machine ≡ false)
    → (is_paused (informed snapshot o.knows) ≡ true →
    is_wanted o.knows.who.me o.knows.turn_failover o.machine.server.state ≡ true)
    → TakeGround now (heards.Granted sequence grant snapshot) o grant.revision
may-take now sequence grant snapshot o decides may armed in_time wanted =
    let told : Knowledge = informed snapshot o.knows in
    let both : can_begin now told o.machine.server o.machine.server.state && may_lead_in_sync told ≡ true =
    second-true (not (is_hold_active now o.machine.hold)) _ may in
    record {
      sequence = sequence;
      grant = grant;
      snapshot = snapshot;
      is = refl;
      awaited = record {
        waited = decides.asked;
        is = decides.is;
        decision = first-true (is_decision decides.asked sequence) (is_lease_of o.knows.who.me grant) decides.decision;
        mine = second-true (is_decision decides.asked sequence) (is_lease_of o.knows.who.me grant) decides.decision;
      };
      revision_is = refl;
      role = decides.role;
      free = not-true (is_hold_active now o.machine.hold) (first-true (not (is_hold_active now o.machine.hold)) _ may);
      server =
          began (can-begin now told o.machine.server o.machine.server.state refl
          (first-true (can_begin now told o.machine.server o.machine.server.state) (may_lead_in_sync told) both));
      named = λ on read is. is-named told on
          (second-true (can_begin now told o.machine.server o.machine.server.state) (may_lead_in_sync told) both)
          read is;
      guarded = λ unpaused. guarded o.machine.watchdog.mode o.machine.watchdog.works (armed unpaused);
      in_time = in_time;
      wanted = λ paused. (
        first-true (is_candidate o.knows.who.me o.knows.turn_failover) (is_replica o.machine.server.state)
            (wanted paused),
        replica o.machine.server.state
            (second-true (is_candidate o.knows.who.me o.knows.turn_failover)
            (is_replica o.machine.server.state) (wanted paused)),
      );
    }
  where
    began : CanBegin now (informed snapshot o.knows) o.machine.server → CanBegin now o.knows o.machine.server
    began (Runs is) = Runs is
    began (StartsAgain down was_primary soon) = StartsAgain down was_primary soon

-- ---- repairs
-- a repair fits the server
abbrev pub IsFitting : Repair → ServerStatus → Type 0
IsFitting repair server = (live server.state ≡ false) × NeedsRepair repair server

rewinds : (lets diverged : Bool) (repair : Repair) → rewind_if lets diverged ≡ Some repair
    → (Some repair ≡ Some Rewind) × (diverged ≡ true)
rewinds true true repair e = (sym e, refl)
rewinds true false repair e = cc
rewinds false diverged repair e = cc

rewound : (server : ServerStatus) (repair : Repair) → live server.state ≡ false → server.diverged ≡ true
    → Some repair ≡ Some Rewind → IsFitting repair server
rewound server Rewind ended diverged is = (ended, diverged)
rewound server Clone ended diverged is = cc

copied : (server : ServerStatus) (repair : Repair) → server.state ≡ states.Creating → Some Clone ≡ Some repair
    → IsFitting repair server
copied server Clone waits is = (rw waits refl, waits)
copied server Rewind waits is = cc

fits-in : (lets follows : Bool) (server : ServerStatus) (state : State) (repair : Repair) → server.state ≡ state
    → repair_in lets follows server.diverged state ≡ Some repair → IsFitting repair server
fits-in lets follows server states.Replica repair is e =
    let both = rewinds (lets && follows) server.diverged repair e in rewound server repair (rw is refl) both.1 both.0
fits-in lets follows server states.Stopped repair is e =
    let both = rewinds lets server.diverged repair e in rewound server repair (rw is refl) both.1 both.0
fits-in lets follows server states.Creating repair is e = copied server repair is e
fits-in lets follows server states.Crashed repair is e = cc
fits-in lets follows server states.Primary repair is e = cc
fits-in lets follows server (states.Starting as_primary at) repair is e = cc
fits-in lets follows server (states.Stopping was_primary at) repair is e = cc

repaired-as : (P : Outcome → Type 0) (leader : MemberId) (found : Option Repair) (server : ServerStatus) (o : Outcome)
    → ((repair : Repair) → found ≡ Some repair → IsFitting repair server) → P o
    → ((repair : Repair) → IsFitting repair server → P (repairing leader repair o)) → P (repaired_if leader found o)
repaired-as P leader None server o fits kept repaired = kept
repaired-as P leader (Some repair) server o fits kept repaired = repaired repair (fits repair refl)

-- a log is repaired where that fits the server
pub repaired-fitting : (P : Outcome → Type 0) (settings : Config) (leader : MemberId) (server : ServerStatus)
    (o : Outcome) → P o → ((repair : Repair) → IsFitting repair server → P (repairing leader repair o))
    → P (repaired_if leader (repair_of settings leader server) o)
repaired-fitting P settings leader server o kept repaired =
    repaired-as P leader (repair_of settings leader server) server o
    (λ repair is.
    fits-in (lets_rewind settings) (is_upstream leader server.upstream) server server.state repair refl is)
    kept repaired
