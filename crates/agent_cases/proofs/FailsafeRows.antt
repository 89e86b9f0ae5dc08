-- The rows of failsafe mode in the decision table: what holds of each
-- row that applies holds of the whole.
use Rattle.std.proofs.Common.{◌≡◌, ℕ, ◌==◌, ◌&&◌, Bool, true, false, if◌then◌else◌, Option, Some, None, refl, sym, not}
use Rattle.pat_base.specs.declared.member_id.MemberId.{MemberId}
use Rattle.pat_base.specs.declared.ticks.Ticks.{Ticks}
use Rattle.agent_model.specs.declared.knowledge.PendingQuestion.{PendingQuestion}
use Rattle.agent_model.specs.Acting.{comes_late, waiting_no_more}
use Rattle.agent_model.specs.Agents.{RoleFacts, Follower, Holder, Ready, Leader, Ending, Unleased, Outcome}
use Rattle.agent_model.specs.Pausing.{is_paused}
use Rattle.agent_model.specs.StayingPrimary.{stays, leader_unacknowledged, stays_if, counting, accepted_failsafe, is_staying, awaits_failsafe, failsafe_answered_for, failsafe_answered, awaits_lease, answering_failsafe, holding_for, failsafe_asked}
use Rattle.failsafe.specs.Asks.{heard, moment_of_all}
use Rattle.failsafe.specs.Holding.{may_hold}
use Rattle.agent_model.specs.Views.{shown}
use Rattle.agent_cases.proofs.Rows.{and-left, if-cases, unacknowledged-by}

-- the answer of another member to a failsafe request, by when each row applies
pub record StayRows (P : Outcome → Type 0) (now : Ticks) (from : MemberId) (sent : Ticks) (o : Outcome) : Type 0 where
  pub kept : P o
  pub quiet : P (waiting_no_more o)
  pub counts : (revision : ℕ) → o.role ≡ Leader revision → P (counting from sent o)
  pub stays : (revision : ℕ) → o.role ≡ Leader revision → (waited : PendingQuestion)
      → o.knows.waited ≡ Some waited → is_staying waited.question ≡ true → (since : Ticks)
      → moment_of_all (heard o.knows.failsafe from true sent) ≡ Some since
      → (is_paused o.knows ≡ false → comes_late now waited o.machine ≡ false)
      → P (stays now waited.ttl waited.sequence since (counting from sent o))
  pub counts_late : (revision : ℕ) → o.role ≡ Leader revision → is_paused o.knows ≡ false
      → P (waiting_no_more (counting from sent o))
  pub fails : (revision : ℕ) → o.role ≡ Leader revision → is_paused o.knows ≡ false
      → P (leader_unacknowledged now revision (waiting_no_more o))

not-of : (b : Bool) → not b ≡ true → b ≡ false
not-of true e = sym e
not-of false e = refl

unless-paused : (paused late : Bool) → not paused && late ≡ false → paused ≡ false → late ≡ false
unless-paused true true e unpaused = unpaused
unless-paused true false e unpaused = refl
unless-paused false late e unpaused = e

acknowledged-by : (P : Outcome → Type 0) (now : Ticks) (waited : PendingQuestion) (from : MemberId)
    (sent : Ticks) (moment : Option Ticks) (revision : ℕ) (o : Outcome) → o.role ≡ Leader revision
    → o.knows.waited ≡ Some waited → is_staying waited.question ≡ true
    → moment_of_all (heard o.knows.failsafe from true sent) ≡ moment → StayRows P now from sent o
    → P (stays_if now waited moment (counting from sent o))
acknowledged-by P now waited from sent None revision o role is staying all rows = rows.counts revision role
acknowledged-by P now waited from sent (Some since) revision o role is staying all rows =
    if-cases P (not (is_paused o.knows) && comes_late now waited o.machine)
    (waiting_no_more (counting from sent o)) (stays now waited.ttl waited.sequence since (counting from sent o))
    (λ late. rows.counts_late revision role
    (not-of (is_paused o.knows) (and-left (not (is_paused o.knows)) (comes_late now waited o.machine) late)))
    (λ in_time. rows.stays revision role waited is staying since all
    (unless-paused (is_paused o.knows) (comes_late now waited o.machine) in_time))

-- the rows of an answer that isn't the acknowledgement which is waited for
pub record StayElse (P : Outcome → Type 0) (now : Ticks) (o : Outcome) : Type 0 where
  pub kept : P o
  pub quiet : P (waiting_no_more o)
  pub fails : (revision : ℕ) → o.role ≡ Leader revision → is_paused o.knows ≡ false
      → P (leader_unacknowledged now revision (waiting_no_more o))

-- the answer is an acknowledgement of the failsafe request that is waited for
pub record IsAwaitedYes (sequence : ℕ) (accepted : Bool) (o : Outcome) : Type 0 where
  pub waited : PendingQuestion
  pub waits : o.knows.waited ≡ Some waited
  pub awaits : awaits_failsafe waited sequence ≡ true
  pub accepts : accepted ≡ true

accepted-failsafe : (P : Outcome → Type 0) (now : Ticks) (waited : PendingQuestion) (from : MemberId)
    (accepted : Bool) (sent : Ticks) (role : RoleFacts) (o : Outcome) → o.role ≡ role
    → o.knows.waited ≡ Some waited → is_staying waited.question ≡ true → StayElse P now o
    → (accepted ≡ true → StayRows P now from sent o) → P (accepted_failsafe now waited from accepted sent role o)
accepted-failsafe P now waited from true sent (Leader revision) o role is staying rows said = acknowledged-by P now
    waited from sent (moment_of_all (heard o.knows.failsafe from true sent)) revision o role is staying refl (said refl)
accepted-failsafe P now waited from false sent (Leader revision) o role is staying rows said =
    unacknowledged-by P now o rows.quiet rows.fails
accepted-failsafe P now waited from accepted sent Follower o role is staying rows said = rows.quiet
accepted-failsafe P now waited from accepted sent (Holder held) o role is staying rows said = rows.quiet
accepted-failsafe P now waited from accepted sent (Ready held) o role is staying rows said = rows.quiet
accepted-failsafe P now waited from accepted sent (Ending held why) o role is staying rows said = rows.quiet
accepted-failsafe P now waited from accepted sent Unleased o role is staying rows said = rows.quiet

failsafe-answered-for : (P : Outcome → Type 0) (now : Ticks) (from : MemberId) (sequence : ℕ)
    (accepted : Bool) (sent : Ticks) (waited : Option PendingQuestion) (o : Outcome) → o.knows.waited ≡ waited
    → StayElse P now o → (IsAwaitedYes sequence accepted o → StayRows P now from sent o)
    → P (failsafe_answered_for now from sequence accepted sent waited o)
failsafe-answered-for P now from sequence accepted sent None o is rows said = rows.kept
failsafe-answered-for P now from sequence accepted sent (Some waited) o is rows said =
    if-cases P (awaits_failsafe waited sequence) (accepted_failsafe now waited from accepted sent o.role o) o
    (λ awaits. accepted-failsafe P now waited from accepted sent o.role o refl is
    (and-left (is_staying waited.question) (waited.sequence == sequence) awaits) rows
    (λ is_yes. said (record { waited = waited; waits = is; awaits = awaits; accepts = is_yes }))) (λ _. rows.kept)

-- those of an acknowledgement by what is heard
pub failsafe-answered-when : (P : Outcome → Type 0) (now : Ticks) (from : MemberId) (sequence : ℕ)
    (accepted : Bool) (sent : Ticks) (o : Outcome) → StayElse P now o
    → (IsAwaitedYes sequence accepted o → StayRows P now from sent o)
    → P (failsafe_answered now from sequence accepted sent o)
failsafe-answered-when P now from sequence accepted sent o rows said =
    failsafe-answered-for P now from sequence accepted sent o.knows.waited o refl rows said

pub failsafe-answered-by : (P : Outcome → Type 0) (now : Ticks) (from : MemberId) (sequence : ℕ) (accepted : Bool)
    (sent : Ticks) (o : Outcome) → StayRows P now from sent o → P (failsafe_answered now from sequence accepted sent o)
failsafe-answered-by P now from sequence accepted sent o rows =
    failsafe-answered-when P now from sequence accepted sent o
    (record { kept = rows.kept; quiet = rows.quiet; fails = rows.fails }) (λ _. rows)

-- another member asks to stay primary
pub failsafe-asked-by : (P : Outcome → Type 0) (now : Ticks) (from : MemberId) (incarnation sequence : ℕ)
    (ttl : Ticks) (o : Outcome)
    → (may_hold (shown now o) (awaits_lease o.knows.waited) ≡ true →
    P (answering_failsafe from incarnation sequence true (holding_for now from sequence ttl o)))
    → P (answering_failsafe from incarnation sequence false o) → P (failsafe_asked now from incarnation sequence ttl o)
failsafe-asked-by P now from incarnation sequence ttl o holds refuses =
    if-cases P (may_hold (shown now o) (awaits_lease o.knows.waited))
    (answering_failsafe from incarnation sequence true (holding_for now from sequence ttl o))
    (answering_failsafe from incarnation sequence false o) holds (λ _. refuses)
