-- What a leader asks the other members that can't reach the key store.
use Rattle.std.proofs.Common.{ℕ, zero, suc, ◌≡◌, ◌⊎◌, ◌≤◌, ◌<◌, ◌+◌, ◌==◌, ◌&&◌, not, nat_le, Bool, true, false, cond, List, [], ◌∷◌, Option, Some, None, Contains, refl, sym, subst, ap, ◌∙◌, arith, inl, inr}
use Rattle.std.proofs.lemmas.Bool.{false_from_ne_true}
use Rattle.std.proofs.lemmas.Bool.Decides.{nat_tests}
use Rattle.std.proofs.lemmas.List.Elements.{Contains-append_left, Contains-push}
use Rattle.pat_base.specs.MemberId.{member_of}
use Rattle.pat_base.proofs.Members.{member_of-number}
use Rattle.pat_base.specs.declared.member_id.MemberId.{MemberId}
use Rattle.pat_base.specs.declared.member_id.TheConstants.{MOST_MEMBERS}
use Rattle.pat_base.specs.declared.member_set.MemberSet.{MemberSet}
use Rattle.pat_base.specs.declared.ticks.Ticks.{Ticks}
use Rattle.wal_model.specs.declared.entry.HistoryPoint.{HistoryPoint}
use Rattle.event_book.specs.declared.message.Body.TheVariants as bodies
use Rattle.failsafe.specs.Asks.{has}
use Rattle.agent_model.specs.declared.heard.Heard.{Heard}
use Rattle.agent_model.specs.declared.heard.Heard.TheVariants as heards
use Rattle.agent_model.specs.declared.knowledge.Question.{Question}
use Rattle.agent_model.specs.declared.knowledge.Question.TheVariants.{Reading, ComparingPositions, Creating, Renewing, Claiming, Syncing, FindingCandidate, StayingPrimary}
use Rattle.agent_model.specs.declared.knowledge.PendingQuestion.{PendingQuestion}
use Rattle.agent_model.specs.declared.output.Output.{Output}
use Rattle.agent_model.specs.declared.output.Output.TheVariants as outputs
use Rattle.agent_model.specs.declared.output.Outgoing.TheVariants as outgoing
use Rattle.agent_model.specs.declared.output.Telling.TheVariants as tellings
use Rattle.agent_model.specs.declared.output.Target.TheVariants as targets
use Rattle.agent_model.specs.Acting.{lease_span, waiting_no_more}
use Rattle.agent_model.specs.Agents.{RoleFacts, Leader, Outcome}
use Rattle.agent_model.specs.Fits.{Fits}
use Rattle.agent_model.specs.Outputs.{with_output}
use Rattle.agent_model.specs.Reconciling.{reconciled}
use Rattle.agent_model.specs.StayingPrimary.{asking_to_stay, may_stay, others_known, requesting_first, requesting_one, seeks_to_stay, stays_alone}
use Rattle.agent_model.specs.Table.{step}
use Rattle.agent_model.specs.Wake.{has_turn, is_overdue, leader_out_of_reach, out_of_reach, out_of_reach_as, overdue, overdue_for, turned, unanswered}
use Rattle.agent_cases.proofs.Rows.{AsksToLead, given-up-by, if-cases}
use Rattle.agent_roles.proofs.Living.{no-way}
use Rattle.agent_rules.specs.Grounds.{AsksEachKnown, StayGround}
use Rattle.agent_rules.specs.OutOfReach.{HasNoAnswer, asks_to_lead}
use Rattle.agent_rules.proofs.Turning.{at-most, before-keeps, later-by-one, or-first, roused-so}

pub passed : (a b : ℕ) → nat_le a b ≡ true → a ≤ b
passed a b e = grind (arith, nat_tests)

pub is-zero : (n : ℕ) → n == 0 ≡ true → n ≡ 0
is-zero n e = grind (arith, nat_tests)

-- a read or a renewal asks to lead
pub asked-to-lead : (question : Question) → AsksToLead question → asks_to_lead question ≡ true
asked-to-lead question (inl is) = ap asks_to_lead is
asked-to-lead question (inr is) = ap asks_to_lead is

-- the server of a leader that fits its role is live
pub leader-lives : (role : RoleFacts) (revision : ℕ) (lives : Bool) → role ≡ Leader revision → Fits role lives
    → lives ≡ true
leader-lives role revision lives is fits = subst (λ (r : RoleFacts). Fits r lives) is fits

-- the acknowledgement that is heard is that of this request
pub heard-yes : (from : MemberId) (sequence number : ℕ) (accepted : Bool) (sent : Ticks) → accepted ≡ true
    → number ≡ sequence
    → heards.FailsafeAnswered from sequence accepted sent ≡ heards.FailsafeAnswered from number true sent
heard-yes from sequence number accepted sent accepts same =
    ap (λ (a : Bool). heards.FailsafeAnswered from sequence a sent) accepts
    ∙ ap (λ (n : ℕ). heards.FailsafeAnswered from n true sent) (sym same)

-- only a leader whose deadline acknowledgements didn't set last has a set to carry
pub carries-leading : (leads fed : Bool) (set : Option MemberSet) (members : MemberSet)
    → cond (leads && not fed) set None ≡ Some members → (leads ≡ true) × (fed ≡ false)
carries-leading true false set members e = (refl, refl)
carries-leading true true set members e = cc
carries-leading false fed set members e = cc

-- ---- each other member is asked
ask-keeps : (members : MemberSet) (sequence : ℕ) (ttl : Ticks) (member : Option MemberId) (outs : List Output)
    (output : Output) → Contains outs output → Contains (requesting_one members sequence ttl member outs) output
ask-keeps members sequence ttl None outs output among = among
ask-keeps members sequence ttl (Some member) outs output among =
    if-cases (λ (l : List Output). Contains l output) (has members member.number)
    (with_output (outputs.Message (outgoing.Send (targets.Member member) sequence (bodies.FailsafeRequest ttl))) outs)
    outs
    (λ _. Contains-append_left outs
    (outputs.Message (outgoing.Send (targets.Member member) sequence (bodies.FailsafeRequest ttl)) ∷ []) output among)
    (λ _. among)

ask-sent : (members : MemberSet) (sequence : ℕ) (ttl : Ticks) (member : MemberId) (outs : List Output)
    → has members member.number ≡ true
    → Contains (requesting_one members sequence ttl (Some member) outs)
    (outputs.Message (outgoing.Send (targets.Member member) sequence (bodies.FailsafeRequest ttl)))
ask-sent members sequence ttl member outs known =
    subst (λ (l : List Output).
    Contains l (outputs.Message (outgoing.Send (targets.Member member) sequence (bodies.FailsafeRequest ttl))))
    (sym (ap (λ (b : Bool). cond b
    (with_output (outputs.Message (outgoing.Send (targets.Member member) sequence (bodies.FailsafeRequest ttl))) outs)
    outs)
    known))
    (Contains-push outs (outputs.Message (outgoing.Send (targets.Member member) sequence (bodies.FailsafeRequest ttl))))

below-or : (a n : ℕ) → a < suc n → (a < n) ⊎ (a ≡ n)
below-or a n less = grind (arith, less)

each-asked : (members : MemberSet) (sequence : ℕ) (ttl : Ticks) (count : ℕ) (member : MemberId) (outs : List Output)
    → has members member.number ≡ true → member.number < count
    → Contains (requesting_first members sequence ttl count outs)
    (outputs.Message (outgoing.Send (targets.Member member) sequence (bodies.FailsafeRequest ttl)))
each-asked members sequence ttl zero member outs known less = absurd (omega (arith, less))
each-asked members sequence ttl (suc count) member outs known less = elim (below-or member.number count less) [
  | inl before-it ↦
      ask-keeps members sequence ttl (member_of count) (requesting_first members sequence ttl count outs)
      (outputs.Message (outgoing.Send (targets.Member member) sequence (bodies.FailsafeRequest ttl)))
      (each-asked members sequence ttl count member outs known before-it)
  | inr here ↦ subst (λ (m : Option MemberId).
      Contains (requesting_one members sequence ttl m (requesting_first members sequence ttl count outs))
      (outputs.Message (outgoing.Send (targets.Member member) sequence (bodies.FailsafeRequest ttl))))
      (sym (member_of-number member) ∙ ap (λ (n : ℕ). member_of n) here)
      (ask-sent members sequence ttl member (requesting_first members sequence ttl count outs) known)
]

-- ---- the wake in which a leader asks them
reached : (now : Ticks) (question : Question) (t : Outcome) → asks_to_lead question ≡ true
    → unanswered now question t ≡ out_of_reach now t
reached now Reading t asks = refl
reached now Renewing t asks = refl
reached now ComparingPositions t asks = absurd (no-way asks)
reached now Creating t asks = absurd (no-way asks)
reached now Claiming t asks = absurd (no-way asks)
reached now (Syncing settling) t asks = absurd (no-way asks)
reached now FindingCandidate t asks = absurd (no-way asks)
reached now StayingPrimary t asks = absurd (no-way asks)

asks-others : (now : Ticks) (revision : ℕ) (t : Outcome) → HasNoAnswer asks_to_lead now revision t
    → may_stay t.knows ≡ true → ((others_known t.knows).bits ≡ 0 → ⊥)
    → overdue now t ≡ asking_to_stay now (others_known t.knows) (waiting_no_more t)
asks-others now revision t out may some =
    let x : Outcome = waiting_no_more t in
    ap (λ (w : Option PendingQuestion). overdue_for now w t) out.waits
    ∙ (ap (λ (late : Bool). cond late (unanswered now out.waited.question t) t)
    (at-most out.waited.until.0 now.0 out.over)
    ∙ (reached now out.waited.question t out.asked
    ∙ (ap (λ (b : Bool). cond b x (out_of_reach_as now t.role x)) out.unpaused
    ∙ (ap (λ (r : RoleFacts). out_of_reach_as now r x) out.role
    ∙ (ap (λ (b : Bool). cond b (seeks_to_stay now (others_known t.knows) x) (leader_out_of_reach now revision x)) may
    ∙ ap (λ (b : Bool). cond b (stays_alone now (others_known t.knows) x)
    (asking_to_stay now (others_known t.knows) x))
    (false_from_ne_true ((others_known t.knows).bits == 0)
    (λ e. some (is-zero (others_known t.knows).bits e))))))))

asks-each : (now : Ticks) (revision : ℕ) (t : Outcome) → HasNoAnswer asks_to_lead now revision t
    → may_stay t.knows ≡ true → ((others_known t.knows).bits ≡ 0 → ⊥) → AsksEachKnown t (turned now (overdue now t))
asks-each now revision t out may some =
    subst (λ (y : Outcome). AsksEachKnown t (turned now y)) (sym (asks-others now revision t out may some)) (record {
      waited = _;
      waits = refl;
      asks = refl;
      later = later-by-one t.knows.sequence t.knows.sequence (omega (arith));
      awaited = refl;
      each = λ member known. each-asked (others_known t.knows) (t.knows.sequence + 1) (lease_span t.knows.settings)
          MOST_MEMBERS member t.outputs known member.below;
    })

pub wake-asks-each : (now : Ticks) (points : List HistoryPoint) (o : Outcome)
    → StayGround now heards.Wake (reconciled now o) → ((others_known (reconciled now o).knows).bits ≡ 0 → ⊥)
    → AsksEachKnown (reconciled now o) (step now points heards.Wake o)
wake-asks-each now points o g some =
    let b : Outcome = reconciled now o in
    let out = g.out in
    let over : is_overdue now o.knows.waited ≡ true =
    ap (is_overdue now) (sym (before-keeps now o).waited ∙ out.waits) ∙ at-most out.waited.until.0 now.0 out.over in
    roused-so (AsksEachKnown b) now o (or-first (is_overdue now o.knows.waited) (has_turn now o.knows) over)
    (given-up-by (λ (t : Outcome). AsksEachKnown b (turned now (overdue now t))) now b (record {
      kept = asks-each now g.revision b out g.may some;
      answers = λ request told.
          let t = asks-each now g.revision (record b {
            knows = record b.knows { operating = None };
            outputs = with_output (outputs.Tell (tellings.Told request told)) b.outputs;
          }) (record {
            role = out.role;
            lives = out.lives;
            waited = out.waited;
            waits = out.waits;
            asked = out.asked;
            over = out.over;
            unpaused = out.unpaused;
          }) g.may some in
          record {
            waited = t.waited;
            waits = t.waits;
            asks = t.asks;
            later = t.later;
            awaited = t.awaited;
            each = t.each;
          };
    }))
    points

-- an input that is no wake has no leader that can't reach the key store
abbrev pub is_wake : Heard → Bool
is_wake heards.Wake = true
is_wake _ = false

pub none-out : (now : Ticks) (heard : Heard) (o after : Outcome) → is_wake heard ≡ false → StayGround now heard o
    → ((others_known o.knows).bits ≡ 0 → ⊥) → AsksEachKnown o after
none-out now heard o after other g some = absurd (no-way (sym other ∙ ap is_wake g.wakes))
