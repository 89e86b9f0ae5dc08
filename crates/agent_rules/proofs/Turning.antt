-- A turn that is due reads what the key store holds, by the rows of the decision table.
use Rattle.std.proofs.Common.{ℕ, ◌≡◌, ◌≤◌, ◌<◌, ◌+◌, ◌||◌, ◌&&◌, ◌==◌, nat_le, Bool, true, false, cond, is_none, List, Option, Some, None, refl, sym, subst, ap, ◌∙◌, arith}
use Rattle.std.proofs.lemmas.Bool.Decides.{nat_tests}
use Rattle.std.proofs.lemmas.List.Elements.{Contains-push}
use Rattle.pat_base.specs.declared.ticks.Ticks.{Ticks}
use Rattle.store_keys.specs.declared.config.Config.{Config}
use Rattle.wal_model.specs.declared.entry.HistoryPoint.{HistoryPoint}
use Rattle.event_book.specs.declared.message.Body.TheVariants as bodies
use Rattle.agent_model.specs.declared.heard.Heard.{Heard}
use Rattle.agent_model.specs.declared.heard.Heard.TheVariants as heards
use Rattle.agent_model.specs.declared.knowledge.Question.{Question}
use Rattle.agent_model.specs.declared.knowledge.Question.TheVariants.{Reading, ComparingPositions, Creating, Renewing, Claiming, Syncing, FindingCandidate, StayingPrimary}
use Rattle.agent_model.specs.declared.knowledge.PendingQuestion.{PendingQuestion}
use Rattle.agent_model.specs.declared.output.Output.TheVariants as outputs
use Rattle.agent_model.specs.declared.output.Outgoing.TheVariants as outgoing
use Rattle.agent_model.specs.declared.output.Target.TheVariants as targets
use Rattle.agent_model.specs.declared.why.Why.{Why}
use Rattle.agent_model.specs.declared.why.Why.TheVariants.{HandOver, Lost}
use Rattle.agent_model.specs.Acting.{seconds_after, waiting_no_more}
use Rattle.agent_model.specs.Agents.{RoleFacts, Follower, Holder, Ready, Leader, Ending, Unleased, Outcome, is_leader}
use Rattle.agent_model.specs.Claiming.{claim_fails_as, postpones}
use Rattle.agent_model.specs.Decisions.{may_create}
use Rattle.agent_model.specs.HandingOver.{hands_over, judged_if_leading}
use Rattle.agent_model.specs.Operators.{answering, given_up}
use Rattle.agent_model.specs.Pausing.{is_paused}
use Rattle.agent_model.specs.Peers.{judged_if_racing}
use Rattle.agent_model.specs.Racing.{barred, judged}
use Rattle.agent_model.specs.Reconciling.{reconciled, has_ended}
use Rattle.agent_model.specs.StayingPrimary.{leader_unacknowledged, asking_to_stay, may_stay, others_known, seeks_to_stay, stays_alone, unacknowledged_as}
use Rattle.agent_model.specs.Table.{step}
use Rattle.agent_model.specs.Wake.{finds_ended, has_turn, is_overdue, is_stopping, leader_out_of_reach, out_of_reach, out_of_reach_as, overdue, overdue_for, reading, roused, unleased_out_of_reach, turn_as, turn_begins, turn_noted, turned, unanswered}
use Rattle.agent_cases.proofs.Rows.{dropping, before-by, given-up-by, handover-by, if-cases, judged-by}
use Rattle.agent_roles.proofs.Living.{no-way}
use Rattle.agent_rules.specs.Turns.{HasTurn, HasTurnBehind, IsEnding, FollowsUnanswered, ReadsNow, ReadsInTurn, TurnBehind, WaitsForEnd}
use Rattle.agent_rules.specs.Turns.TurnBehind.{AsksOn, GivesUp, ReadsOn, WaitsOn}

pub at-most : (a b : ℕ) → a ≤ b → nat_le a b ≡ true
at-most a b less = grind (arith, nat_tests)

pub later-by-one : (a b : ℕ) → a ≤ b → a < b + 1
later-by-one a b less = omega (arith, less)

later-by-two : (a b : ℕ) → a ≤ b → a ≤ b + 1
later-by-two a b less = omega (arith, less)

pub or-first : (a b : Bool) → a ≡ true → a || b ≡ true
or-first true b e = refl
or-first false b e = absurd (no-way e)

or-second : (a b : Bool) → b ≡ true → a || b ≡ true
or-second true b e = refl
or-second false b e = e

-- what an input makes of the agent `o` before its turn: a turn has come, under the settings from before
record Turning (now : Ticks) (o x : Outcome) : Type 0 where
  come : x.knows.next_turn.0 ≤ now.0
  settings : x.knows.settings ≡ o.knows.settings
  counted : o.knows.sequence ≤ x.knows.sequence

reads-turn : (now : Ticks) (o x : Outcome) → Turning now o x
    → ReadsNow now o (reading now (record x { knows = turn_noted now x.knows }))
reads-turn now o x t = record {
  waited = _;
  waits = refl;
  asks = refl;
  sends = Contains-push x.outputs (outputs.Message (outgoing.Send targets.Store (x.knows.sequence + 1) bodies.Read));
  later = later-by-one o.knows.sequence x.knows.sequence t.counted;
  newest = refl;
  sent = refl;
  until = ap (λ (c : Config). seconds_after now c.retry_timeout) t.settings;
  began = refl;
  next = ap (λ (c : Config). seconds_after now c.loop_wait) t.settings;
}

-- a turn that has come, where nothing is waited for
turn-begun : (now : Ticks) (x : Outcome) → x.knows.waited ≡ None → x.knows.next_turn.0 ≤ now.0
    → turned now x ≡ turn_begins now x
turn-begun now x idle come =
    ap (λ (b : Bool). cond b (turn_begins now x) x)
    (ap (λ (w : Option PendingQuestion). is_none w && nat_le x.knows.next_turn.0 now.0) idle
    ∙ at-most x.knows.next_turn.0 now.0 come)

begun-reads : (now : Ticks) (role : RoleFacts) (o x : Outcome) → x.role ≡ role → Turning now o x
    → (IsEnding x.role → ⊥) → (WaitsForEnd x → ⊥)
    → ReadsNow now o (turn_as now role (record x { knows = turn_noted now x.knows }))
begun-reads now (Ending revision why) o x is t ends waits = absurd (ends (rw is tt))
begun-reads now Unleased o x is t ends waits =
    if-cases (ReadsNow now o) (is_stopping x.machine.server.state) (record x { knows = turn_noted now x.knows })
    (reading now (record x { knows = turn_noted now x.knows }))
    (λ stops. absurd (waits (record { role = is; stops = stops }))) (λ _. reads-turn now o x t)
begun-reads now Follower o x is t ends waits = reads-turn now o x t
begun-reads now (Holder revision) o x is t ends waits = reads-turn now o x t
begun-reads now (Ready revision) o x is t ends waits = reads-turn now o x t
begun-reads now (Leader revision) o x is t ends waits = reads-turn now o x t

module _ (now : Ticks) (before : Question) (o : Outcome) where
  abbrev Behind : Outcome → Type 0
  Behind after = TurnBehind now before o after

  begun-behind : (role : RoleFacts) (x : Outcome) → x.role ≡ role → Turning now o x
      → (IsEnding x.role → is_leader o.role ≡ true)
      → Behind (turn_as now role (record x { knows = turn_noted now x.knows }))
  begun-behind (Ending revision why) x is t ends = GivesUp (ends (rw is tt)) (rw is tt)
  begun-behind Unleased x is t ends =
      if-cases Behind (is_stopping x.machine.server.state) (record x { knows = turn_noted now x.knows })
      (reading now (record x { knows = turn_noted now x.knows }))
      (λ stops. WaitsOn (record { role = is; stops = stops })) (λ _. ReadsOn (reads-turn now o x t))
  begun-behind Follower x is t ends = ReadsOn (reads-turn now o x t)
  begun-behind (Holder revision) x is t ends = ReadsOn (reads-turn now o x t)
  begun-behind (Ready revision) x is t ends = ReadsOn (reads-turn now o x t)
  begun-behind (Leader revision) x is t ends = ReadsOn (reads-turn now o x t)

  -- nothing is waited for any more
  idle-behind : (x : Outcome) → x.knows.waited ≡ None → Turning now o x
      → (IsEnding x.role → is_leader o.role ≡ true) → Behind (turned now x)
  idle-behind x idle t ends = subst Behind (sym (turn-begun now x idle t.come)) (begun-behind x.role x refl t ends)

  -- a role that doesn't end its server
  goes-on : (x : Outcome) (role : RoleFacts) → x.role ≡ role → (IsEnding role → ⊥)
      → IsEnding x.role → is_leader o.role ≡ true
  goes-on x role is goes ends = absurd (goes (subst IsEnding is ends))

  module _ (t : Outcome) (role : t.role ≡ o.role) (active : IsEnding o.role → ⊥) (is : Turning now o t) where
    still : IsEnding t.role → is_leader o.role ≡ true
    still ends = absurd (active (subst IsEnding role ends))

    leads : (revision : ℕ) → t.role ≡ Leader revision → is_leader o.role ≡ true
    leads revision leader = ap is_leader (sym role ∙ leader)

    more : Turning now o (waiting_no_more t)
    more = record { come = is.come; settings = is.settings; counted = is.counted }

    quiet : Behind (turned now (waiting_no_more t))
    quiet = idle-behind (waiting_no_more t) refl more still

    -- the key store is out of reach
    reach-as : FollowsUnanswered before StayingPrimary → (r : RoleFacts) → t.role ≡ r
        → Behind (turned now (out_of_reach_as now r (waiting_no_more t)))
    reach-as follows (Leader revision) leader =
        let x : Outcome = waiting_no_more t in
        if-cases (λ (y : Outcome). Behind (turned now y)) (may_stay t.knows)
        (seeks_to_stay now (others_known t.knows) x) (leader_out_of_reach now revision x)
        (λ _. if-cases (λ (y : Outcome). Behind (turned now y)) ((others_known t.knows).bits == 0)
        (stays_alone now (others_known t.knows) x) (asking_to_stay now (others_known t.knows) x)
        (λ _. idle-behind (stays_alone now (others_known t.knows) x) refl
        (record { come = is.come; settings = is.settings; counted = is.counted }) still)
        (λ _. AsksOn (record {
          waited = _;
          waits = refl;
          follows = follows;
          later = later-by-one o.knows.sequence t.knows.sequence is.counted;
          newest = refl;
        })))
        (λ _. idle-behind (leader_out_of_reach now revision x) refl
        (record { come = is.come; settings = is.settings; counted = is.counted })
        (λ _. leads revision leader))
    reach-as follows Unleased unleased = idle-behind (unleased_out_of_reach now (waiting_no_more t)) refl
        (record { come = is.come; settings = is.settings; counted = is.counted }) still
    reach-as follows Follower other = quiet
    reach-as follows (Holder revision) other = quiet
    reach-as follows (Ready revision) other = quiet
    reach-as follows (Ending revision why) other = quiet

    reach-behind : FollowsUnanswered before StayingPrimary → Behind (turned now (out_of_reach now t))
    reach-behind follows = if-cases (λ (y : Outcome). Behind (turned now y)) (is_paused t.knows)
        (waiting_no_more t) (out_of_reach_as now t.role (waiting_no_more t))
        (λ _. quiet) (λ _. reach-as follows t.role refl)

    claim-behind : (r : RoleFacts) → t.role ≡ r → Behind (turned now (claim_fails_as r (waiting_no_more t)))
    claim-behind (Ready revision) ready = idle-behind (postpones revision (waiting_no_more t)) refl
        (record { come = is.come; settings = is.settings; counted = is.counted }) (λ ends. absurd ends)
    claim-behind (Leader revision) other = quiet
    claim-behind Unleased other = quiet
    claim-behind Follower other = quiet
    claim-behind (Holder revision) other = quiet
    claim-behind (Ending revision why) other = quiet

    word-behind : (r : RoleFacts) → t.role ≡ r → Behind (turned now (unacknowledged_as now r (waiting_no_more t)))
    word-behind (Leader revision) leader = idle-behind (leader_unacknowledged now revision (waiting_no_more t)) refl
        (record { come = is.come; settings = is.settings; counted = is.counted }) (λ _. leads revision leader)
    word-behind (Ready revision) other = quiet
    word-behind Unleased other = quiet
    word-behind Follower other = quiet
    word-behind (Holder revision) other = quiet
    word-behind (Ending revision why) other = quiet

    handover-behind : (r : RoleFacts) → t.role ≡ r → Behind (turned now (judged_if_leading now r t))
    handover-behind (Leader revision) leader = handover-by (λ (y : Outcome). Behind (turned now y)) now revision t
        (record {
          kept = quiet;
          clears = λ compared. idle-behind (dropping compared (waiting_no_more t)) refl
              (record {
                come = is.come;
                settings = is.settings;
                counted = later-by-two o.knows.sequence t.knows.sequence is.counted;
              })
              still;
          hands = λ candidate. idle-behind (hands_over now revision candidate (waiting_no_more t)) refl
              (record { come = is.come; settings = is.settings; counted = is.counted }) (λ _. leads revision leader);
        })
    handover-behind (Ready revision) other = quiet
    handover-behind Unleased other = quiet
    handover-behind Follower other = quiet
    handover-behind (Holder revision) other = quiet
    handover-behind (Ending revision why) other = quiet

    race-behind : FollowsUnanswered before Creating → Behind (turned now (judged_if_racing now t))
    race-behind follows = if-cases (λ (y : Outcome). Behind (turned now y)) (may_create t.role) (judged now t)
        (waiting_no_more t)
        (λ _. judged-by (λ (y : Outcome). Behind (turned now y)) now t
        (AsksOn (record {
          waited = _;
          waits = refl;
          follows = follows;
          later = later-by-one o.knows.sequence t.knows.sequence is.counted;
          newest = refl;
        }))
        (λ bar. idle-behind (barred bar (waiting_no_more t)) refl
        (record {
          come = is.come;
          settings = is.settings;
          counted = later-by-two o.knows.sequence t.knows.sequence is.counted;
        })
        still))
        (λ _. quiet)

    question-behind : (question : Question) → question ≡ before → Behind (turned now (unanswered now question t))
    question-behind Reading same = reach-behind (subst (λ (q : Question). FollowsUnanswered q StayingPrimary) same tt)
    question-behind Renewing same = reach-behind (subst (λ (q : Question). FollowsUnanswered q StayingPrimary) same tt)
    question-behind ComparingPositions same =
        race-behind (subst (λ (q : Question). FollowsUnanswered q Creating) same tt)
    question-behind Creating same = quiet
    question-behind Claiming same = claim-behind t.role refl
    question-behind (Syncing settling) same = quiet
    question-behind FindingCandidate same = handover-behind t.role refl
    question-behind StayingPrimary same = if-cases (λ (y : Outcome). Behind (turned now y)) (is_paused t.knows)
        (waiting_no_more t) (unacknowledged_as now t.role (waiting_no_more t))
        (λ _. quiet) (λ _. word-behind t.role refl)

-- ---- a whole wake
-- what precedes a deadline or a turn: what is waited for, the next turn and the settings stay
pub record Keeps (o x : Outcome) : Type 0 where
  pub waited : x.knows.waited ≡ o.knows.waited
  pub next : x.knows.next_turn ≡ o.knows.next_turn
  pub settings : x.knows.settings ≡ o.knows.settings

ended-keeps : (why : Why) (revision : ℕ) (o : Outcome) → Keeps o (has_ended why revision o)
ended-keeps HandOver revision o = record { waited = refl; next = refl; settings = refl }
ended-keeps Lost revision o = record { waited = refl; next = refl; settings = refl }

pub before-keeps : (now : Ticks) (o : Outcome) → Keeps o (reconciled now o)
before-keeps now o = before-by (Keeps o) now o (record {
  kept = λ _. record { waited = refl; next = refl; settings = refl };
  leader = λ _ _ _. record { waited = refl; next = refl; settings = refl };
  ending = λ revision why _ _. ended-keeps why revision o;
  follower = λ _ _. record { waited = refl; next = refl; settings = refl };
  holder = λ _ _ _. record { waited = refl; next = refl; settings = refl };
  ready = λ _ _ _. record { waited = refl; next = refl; settings = refl };
  unleased = λ _ _. record { waited = refl; next = refl; settings = refl };
})

-- where the wake has something to do for it
pub roused-so : (P : Outcome → Type 0) (now : Ticks) (o : Outcome)
    → is_overdue now o.knows.waited || has_turn now o.knows ≡ true
    → P (turned now (overdue now (given_up now (reconciled now o)))) → (points : List HistoryPoint)
    → P (step now points heards.Wake o)
roused-so P now o due p points = subst P
    (sym (ap (λ (b : Bool). cond b (roused now o) (reconciled now o))
    (or-second (finds_ended o.role o.machine.server.state)
    (is_overdue now o.knows.waited || has_turn now o.knows) due)))
    p

-- nothing is waited for
idle-reads : (now : Ticks) (b t : Outcome) → t.knows.waited ≡ None → Turning now b t → (IsEnding t.role → ⊥)
    → (WaitsForEnd t → ⊥) → ReadsNow now b (turned now (overdue now t))
idle-reads now b t idle is ends waits =
    subst (λ (y : Outcome). ReadsNow now b (turned now y))
    (sym (ap (λ (w : Option PendingQuestion). overdue_for now w t) idle))
    (subst (ReadsNow now b) (sym (turn-begun now t idle is.come)) (begun-reads now t.role b t refl is ends waits))

due-reads : (now : Ticks) (points : List HistoryPoint) (o : Outcome) → HasTurn now (reconciled now o)
    → ReadsNow now (reconciled now o) (step now points heards.Wake o)
due-reads now points o has =
    let b : Outcome = reconciled now o in
    let keeps = before-keeps now o in
    let idle : o.knows.waited ≡ None = sym keeps.waited ∙ has.idle in
    let due : has_turn now o.knows ≡ true =
    ap (λ (w : Option PendingQuestion). is_none w && nat_le o.knows.next_turn.0 now.0) idle
    ∙ (ap (λ (m : Ticks). nat_le m.0 now.0) (sym keeps.next) ∙ at-most b.knows.next_turn.0 now.0 has.come) in
    roused-so (ReadsNow now b) now o (or-second (is_overdue now o.knows.waited) (has_turn now o.knows) due)
    (given-up-by (λ (t : Outcome). ReadsNow now b (turned now (overdue now t))) now b (record {
      kept = idle-reads now b b has.idle (record { come = has.come; settings = refl; counted = omega (arith) })
          has.ends has.waits;
      answers = λ request told. idle-reads now b (answering request told b) has.idle
          (record { come = has.come; settings = refl; counted = omega (arith) }) has.ends
          (λ w. has.waits (record { role = w.role; stops = w.stops }));
    }))
    points

-- the time for what is waited for is over
late-turns : (now : Ticks) (waited : PendingQuestion) (b t : Outcome) → t.knows.waited ≡ Some waited
    → waited.until.0 ≤ now.0 → TurnBehind now waited.question b (turned now (unanswered now waited.question t))
    → TurnBehind now waited.question b (turned now (overdue now t))
late-turns now waited b t waits over turns =
    subst (λ (y : Outcome). TurnBehind now waited.question b (turned now y))
    (sym (ap (λ (w : Option PendingQuestion). overdue_for now w t) waits
    ∙ ap (λ (late : Bool). cond late (unanswered now waited.question t) t) (at-most waited.until.0 now.0 over)))
    turns

behind-turns : (now : Ticks) (points : List HistoryPoint) (waited : PendingQuestion) (o : Outcome)
    → HasTurnBehind now waited (reconciled now o)
    → TurnBehind now waited.question (reconciled now o) (step now points heards.Wake o)
behind-turns now points waited o has =
    let b : Outcome = reconciled now o in
    let over : is_overdue now o.knows.waited ≡ true =
    ap (is_overdue now) (sym (before-keeps now o).waited ∙ has.waits) ∙ at-most waited.until.0 now.0 has.over in
    roused-so (TurnBehind now waited.question b) now o
    (or-first (is_overdue now o.knows.waited) (has_turn now o.knows) over)
    (given-up-by (λ (t : Outcome). TurnBehind now waited.question b (turned now (overdue now t))) now b (record {
      kept = late-turns now waited b b has.waits has.over
          (question-behind now waited.question b b refl has.ends
          (record { come = has.come; settings = refl; counted = omega (arith) }) waited.question refl);
      answers = λ request told. late-turns now waited b (answering request told b) has.waits has.over
          (question-behind now waited.question b (answering request told b) refl has.ends
          (record { come = has.come; settings = refl; counted = omega (arith) }) waited.question refl);
    }))
    points

pub input-reads : (now : Ticks) (points : List HistoryPoint) (heard : Heard) (o : Outcome)
    → ReadsInTurn now heard (reconciled now o) (step now points heard o)
input-reads now points heards.Wake o = record {
  due = due-reads now points o;
  behind = λ waited has. behind-turns now points waited o has;
}
input-reads now points (heards.ReadAnswered sequence snapshot) o = tt
input-reads now points (heards.Granted sequence grant snapshot) o = tt
input-reads now points (heards.Mismatch sequence key found) o = tt
input-reads now points (heards.Asked from incarnation sequence) o = tt
input-reads now points (heards.Answered sequence answer) o = tt
input-reads now points (heards.FailsafeAsked from incarnation sequence ttl) o = tt
input-reads now points (heards.FailsafeAnswered from sequence accepted sent) o = tt
input-reads now points (heards.Operated action) o = tt
