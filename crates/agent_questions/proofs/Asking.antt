-- What asks anew: the asks of a race and of a handover, operators, and requests to stay primary.
use Rattle.std.proofs.Common.{◌≡◌, ◌+◌, ◌++◌, ◌≤◌, ◌<◌, ℕ, true, false, List, [], ◌∷◌, Option, Some, None, All, refl, sym, ◌∙◌, arith, zero, suc}
use Rattle.std.proofs.lemmas.List.Elements.{All-push}
use Rattle.pat_base.specs.MemberId.{member_of}
use Rattle.pat_base.specs.declared.member_id.MemberId.{MemberId}
use Rattle.pat_base.specs.declared.ticks.Ticks.{Ticks}
use Rattle.store_keys.specs.declared.config.Config.{Config}
use Rattle.store_keys.specs.declared.txn.Txn.TheVariants as txns
use Rattle.store_keys.specs.declared.txn.LeaseTxn.TheVariants as lease_txns
use Rattle.store_keys.specs.declared.txn.OperatorTxn.TheVariants as operator_txns
use Rattle.event_book.specs.declared.agent_note.AgentNote.TheVariants as agent_notes
use Rattle.event_book.specs.declared.message.Body.{Body}
use Rattle.event_book.specs.declared.message.Body.TheVariants as bodies
use Rattle.leader_key.specs.Watchdog.{IsLeaseSpan}
use Rattle.agent_model.specs.declared.knowledge.Knowledge.{Knowledge}
use Rattle.agent_model.specs.declared.knowledge.Question.{Question}
use Rattle.agent_model.specs.declared.knowledge.Question.TheVariants.{ComparingPositions, FindingCandidate, Creating, StayingPrimary}
use Rattle.agent_model.specs.declared.knowledge.PendingQuestion.{PendingQuestion}
use Rattle.agent_model.specs.declared.operating.Told.{Told}
use Rattle.agent_model.specs.declared.output.Output.{Output}
use Rattle.agent_model.specs.declared.output.Output.TheVariants as outputs
use Rattle.agent_model.specs.declared.output.Feeding.TheVariants as feedings
use Rattle.agent_model.specs.declared.output.Noting.TheVariants as notings
use Rattle.agent_model.specs.declared.output.Outgoing.TheVariants as outgoing
use Rattle.agent_model.specs.declared.output.ServerOrder.TheVariants as orders
use Rattle.agent_model.specs.declared.output.Telling.TheVariants as tellings
use Rattle.agent_model.specs.declared.output.Target.TheVariants as targets
use Rattle.agent_model.specs.declared.why.Why.{Why}
use Rattle.agent_model.specs.declared.why.Why.TheVariants.{HandOver, Lost}
use Rattle.agent_model.specs.Acting.{seconds_after, lease_span, counted, armed, fed_until, disarmed, disarming, sending, asking, waiting, waiting_no_more}
use Rattle.agent_model.specs.Agents.{Outcome}
use Rattle.agent_model.specs.Reconciling.{has_ended, reconciled}
use Rattle.agent_model.specs.Claiming.{postpones}
use Rattle.agent_model.specs.Decisions.{asks_lease, asks_sync}
use Rattle.agent_model.specs.HandingOver.{asking_whom, checking, hands_over}
use Rattle.agent_model.specs.Operators.{answering}
use Rattle.agent_model.specs.Outputs.{with_output}
use Rattle.agent_model.specs.Racing.{judged, answers_until, asking_others}
use Rattle.pat_base.specs.declared.member_set.MemberSet.{MemberSet}
use Rattle.failsafe.specs.Asks.{has}
use Rattle.agent_model.specs.StayingPrimary.{asking_to_stay, requesting_all, requesting_first, requesting_one}
use Rattle.agent_cases.proofs.Rows.{HandoverRows, ReplyRows, dropping, if-cases, before-by, judged-by}
use Rattle.agent_model.specs.declared.who.Who.{Who}
use Rattle.agent_model.specs.Answers.{is_other, asking_all, asking_one, asking_first}
use Rattle.pat_base.specs.declared.member_id.TheConstants.{MOST_MEMBERS}
use Rattle.lease_model.proofs.Tools.{both}
use Rattle.agent_questions.specs.Questions.{IsPutByBody, span_asked, SendsBetween, AsksFor, WaitsOn, Same, Nothing, New, AsksAnew}
use Rattle.agent_roles.specs.Asks.{IsQuestion}

all-of : {X : Type 0} (P Q : X → Type 0) (xs : List X) → ((x : X) → P x → Q x) → All P xs → All Q xs
all-of P Q xs more all = λ k d h. more _ (all k d h)

abbrev no-message : Output → Type 0
no-message (outputs.Message (outgoing.Send to sequence body)) = ⊥
no-message _ = Unit {0}

between-other : (low high : ℕ) (output : Output) → no-message output → SendsBetween low high output
between-other low high (outputs.Message (outgoing.Send to sequence body)) is = absurd is
between-other low high _ is = tt

asks-other : (waited : PendingQuestion) (output : Output) → no-message output → AsksFor waited output
asks-other waited (outputs.Message (outgoing.Send to sequence body)) is = absurd is
asks-other waited _ is = tt

between-later : (low high more : ℕ) → high ≤ more → (output : Output) → SendsBetween low high output
    → SendsBetween low more output
between-later low high more h (outputs.Message (outgoing.Send to sequence body)) is =
    (is.0, omega (arith, is.1, h), is.2)
between-later low high more h _ is = tt

-- a number above all that were sent is none of theirs
above-all : (low high : ℕ) (waited : PendingQuestion) → high < waited.sequence → (output : Output)
    → SendsBetween low high output → AsksFor waited output
above-all low high waited h (outputs.Message (outgoing.Send to sequence body)) is =
    λ e. absurd (omega (arith, e, h, is.1))
above-all low high waited h _ is = tt

-- ---- what holds of an outcome so far, from what the agent knew at first
abbrev pub Reaches : Ticks → Knowledge → Outcome → Type 0
Reaches now known o = AsksAnew now known o.knows o.outputs

one-waits : (now : Ticks) (known knows : Knowledge) (outs : List Output) (output : Output) → no-message output
    → WaitsOn now known knows outs → WaitsOn now known knows (outs ++ output ∷ [])
one-waits now known knows outs output other (Same is) = Same is
one-waits now known knows outs output other (Nothing is) = Nothing is
one-waits now known knows outs output other (New waited is later counts sent span asks) =
    New waited is later counts sent span (All-push (AsksFor waited) outs output asks (asks-other waited output other))

pub one-more : (now : Ticks) (known knows : Knowledge) (outs : List Output) (output : Output) → no-message output
    → AsksAnew now known knows outs → AsksAnew now known knows (outs ++ output ∷ [])
one-more now known knows outs output other r = record {
  who = r.who;
  incarnation = r.incarnation;
  last = r.last;
  sends = All-push (SendsBetween known.sequence knows.sequence) outs output r.sends
      (between-other known.sequence knows.sequence output other);
  waits = one-waits now known knows outs output other r.waits;
}

-- what it knows beside its questions doesn't count
same-waits : (now : Ticks) (known knows after : Knowledge) (outs : List Output) → after.sequence ≡ knows.sequence
    → after.waited ≡ knows.waited → WaitsOn now known knows outs → WaitsOn now known after outs
same-waits now known knows after outs last waited (Same is) = Same (waited ∙ is)
same-waits now known knows after outs last waited (Nothing is) = Nothing (waited ∙ is)
same-waits now known knows after outs last waited (New w is later counts sent span asks) =
    New w (waited ∙ is) later (omega (arith, counts, last)) sent span asks

pub goes-on : (now : Ticks) (known knows after : Knowledge) (outs : List Output) → after.who ≡ knows.who
    → after.incarnation ≡ knows.incarnation → after.sequence ≡ knows.sequence → after.waited ≡ knows.waited
    → AsksAnew now known knows outs → AsksAnew now known after outs
goes-on now known knows after outs who incarnation last waited r = record {
  who = who ∙ r.who;
  incarnation = incarnation ∙ r.incarnation;
  last = omega (arith, r.last, last);
  sends = all-of (SendsBetween known.sequence knows.sequence) (SendsBetween known.sequence after.sequence) outs
      (between-later known.sequence knows.sequence after.sequence (omega (arith, last))) r.sends;
  waits = same-waits now known knows after outs last waited r.waits;
}

-- it waits for nothing any more
pub rests : (now : Ticks) (known knows after : Knowledge) (outs : List Output) → after.who ≡ knows.who
    → after.incarnation ≡ knows.incarnation → after.sequence ≡ knows.sequence → after.waited ≡ None
    → AsksAnew now known knows outs → AsksAnew now known after outs
rests now known knows after outs who incarnation last waited r = record {
  who = who ∙ r.who;
  incarnation = incarnation ∙ r.incarnation;
  last = omega (arith, r.last, last);
  sends = all-of (SendsBetween known.sequence knows.sequence) (SendsBetween known.sequence after.sequence) outs
      (between-later known.sequence knows.sequence after.sequence (omega (arith, last))) r.sends;
  waits = Nothing waited;
}

-- a message under the next number
next-sends : (known knows : Knowledge) (outs : List Output) (body : Body) → known.sequence ≤ knows.sequence
    → IsQuestion body → All (SendsBetween known.sequence knows.sequence) outs
    → All (SendsBetween known.sequence (knows.sequence + 1))
    (outs ++ outputs.Message (outgoing.Send targets.Store (knows.sequence + 1) body) ∷ [])
next-sends known knows outs body last span all =
    All-push (SendsBetween known.sequence (knows.sequence + 1)) outs
    (outputs.Message (outgoing.Send targets.Store (knows.sequence + 1) body))
    (all-of (SendsBetween known.sequence knows.sequence) (SendsBetween known.sequence (knows.sequence + 1)) outs
    (between-later known.sequence knows.sequence (knows.sequence + 1) (omega arith)) all)
    (omega (arith, last), omega arith, span)

next-waits : (now : Ticks) (known knows : Knowledge) (outs : List Output) (body : Body) → WaitsOn now known knows outs
    → WaitsOn now known (counted knows)
    (outs ++ outputs.Message (outgoing.Send targets.Store (knows.sequence + 1) body) ∷ [])
next-waits now known knows outs body (Same is) = Same is
next-waits now known knows outs body (Nothing is) = Nothing is
next-waits now known knows outs body (New waited is later counts sent span asks) =
    New waited is later (omega (arith, counts)) sent span
    (All-push (AsksFor waited) outs (outputs.Message (outgoing.Send targets.Store (knows.sequence + 1) body)) asks
    (λ e. absurd (omega (arith, e, counts))))

pub send-reaches : (now : Ticks) (known : Knowledge) (body : Body) (o : Outcome) → IsQuestion body
    → Reaches now known o → Reaches now known (sending body o)
send-reaches now known body o span r = record {
  who = r.who;
  incarnation = r.incarnation;
  last = omega (arith, r.last);
  sends = next-sends known o.knows o.outputs body r.last span r.sends;
  waits = next-waits now known o.knows o.outputs body r.waits;
}

is-lease : (settings : Config) → IsLeaseSpan (lease_span settings).0
is-lease settings =
    record { least = omega (arith, settings.ttl_range.0); greatest = omega (arith, settings.ttl_range.1) }

-- a question whose answer is waited for
pub ask-reaches : (now : Ticks) (known : Knowledge) (question : Question) (until : Ticks) (body : Body) (o : Outcome)
    → IsQuestion body → (asks_lease question ≡ true → span_asked body ≡ (lease_span o.knows.settings).0)
    → (asks_sync question ≡ true → IsPutByBody question body) → Reaches now known o
    → Reaches now known (asking now question until body o)
ask-reaches now known question until body o span asks puts r =
    let waited : PendingQuestion = record {
      question = question;
      sequence = o.knows.sequence + 1;
      until = until;
      ttl = lease_span o.knows.settings;
      sent = now;
    } in
    record {
      who = r.who;
      incarnation = r.incarnation;
      last = omega (arith, r.last);
      sends = next-sends known o.knows o.outputs body r.last span r.sends;
      waits = New waited refl (omega (arith, r.last)) (omega arith) refl (is-lease o.knows.settings)
          (All-push (AsksFor waited) o.outputs
          (outputs.Message (outgoing.Send targets.Store (o.knows.sequence + 1) body))
          (all-of (SendsBetween known.sequence o.knows.sequence) (AsksFor waited) o.outputs
          (above-all known.sequence o.knows.sequence waited (omega arith)) r.sends)
          (λ _. record { lease = asks; write = puts }));
    }

disarms : (now : Ticks) (known knows : Knowledge) (outs : List Output) (deadline : Option Ticks)
    → AsksAnew now known knows outs → AsksAnew now known knows (disarmed deadline outs)
disarms now known knows outs (Some deadline) r = one-more now known knows outs (outputs.Watchdog feedings.Disarmed) tt r
disarms now known knows outs None r = r

pub feeds : (now : Ticks) (known knows : Knowledge) (outs : List Output) (until : Option Ticks)
    → AsksAnew now known knows outs → AsksAnew now known knows (fed_until until outs)
feeds now known knows outs (Some until) r = one-more now known knows outs (outputs.Watchdog (feedings.Fed until)) tt r
feeds now known knows outs None r = r

pub arms-it : (now : Ticks) (known knows : Knowledge) (outs : List Output) (until : Option Ticks)
    → AsksAnew now known knows outs → AsksAnew now known knows (armed until outs)
arms-it now known knows outs (Some until) r =
    one-more now known knows outs (outputs.Watchdog (feedings.Armed until)) tt r
arms-it now known knows outs None r = r

disarm-reaches : (now : Ticks) (known : Knowledge) (o : Outcome) → Reaches now known o → Reaches now known (disarming o)
disarm-reaches now known o r = disarms now known o.knows o.outputs o.machine.watchdog.deadline r

ended-reaches : (now : Ticks) (known : Knowledge) (why : Why) (held : ℕ) (o : Outcome) → Reaches now known o
    → Reaches now known (has_ended why held o)
ended-reaches now known HandOver held o r =
    send-reaches now known (bodies.Request (txns.Lease (lease_txns.Release held))) (disarming o) tt
    (disarm-reaches now known o r)
ended-reaches now known Lost held o r = disarm-reaches now known o r

pub before-reaches : (now : Ticks) (known : Knowledge) (o : Outcome) → Reaches now known o
    → Reaches now known (reconciled now o)
before-reaches now known o r = before-by (Reaches now known) now o (record {
  kept = λ _. r;
  leader = λ held _ _. goes-on now known o.knows _ _ refl refl refl refl (disarm-reaches now known o r);
  ending = λ held why _ _. ended-reaches now known why held o r;
  follower = λ _ _. r;
  holder = λ held _ _. r;
  ready = λ held _ _. disarm-reaches now known o r;
  unleased = λ _ _. disarm-reaches now known o r;
})

pub is-spanned : (settings : Config) → 0 < (lease_span settings).0
is-spanned settings = omega (arith, settings.ttl_range.0)

-- the race is judged
pub judged-reaches : (now : Ticks) (known : Knowledge) (o : Outcome) → Reaches now known o
    → Reaches now known (judged now o)
judged-reaches now known o r =
    let quiet : Reaches now known (waiting_no_more o) = rests now known o.knows _ o.outputs refl refl refl refl r in
    judged-by (Reaches now known) now o
    (ask-reaches now known Creating (seconds_after now o.knows.settings.retry_timeout) _ (waiting_no_more o)
    (is-spanned o.knows.settings) (λ _. refl) (λ e. absurd (both e)) quiet)
    (λ bar. send-reaches now known _
    (record (waiting_no_more o) {
      outputs =
          with_output (outputs.Note (notings.Agent (agent_notes.DoesNotRace bar))) o.outputs;
    })
    tt
    (one-more now known (waiting_no_more o).knows o.outputs
    (outputs.Note (notings.Agent (agent_notes.DoesNotRace bar))) tt quiet))

-- the asks to other members, all under the next number
ask-sends : (low high : ℕ) (who : Who) (sequence : ℕ) (member : Option MemberId) (outs : List Output)
    → low < sequence → sequence ≤ high → All (SendsBetween low high) outs
    → All (SendsBetween low high) (asking_one who sequence member outs)
ask-sends low high who sequence None outs later less all = all
ask-sends low high who sequence (Some member) outs later less all =
    if-cases (λ (l : List Output). All (SendsBetween low high) l) (is_other who member)
    (with_output (outputs.Message (outgoing.Send (targets.Member member) sequence bodies.Ask)) outs) outs
    (λ _. All-push (SendsBetween low high) outs
    (outputs.Message (outgoing.Send (targets.Member member) sequence bodies.Ask)) all
    (later, less, tt))
    (λ _. all)

asks-send : (low high : ℕ) (who : Who) (sequence count : ℕ) (outs : List Output) → low < sequence → sequence ≤ high
    → All (SendsBetween low high) outs → All (SendsBetween low high) (asking_first who sequence count outs)
asks-send low high who sequence zero outs later less all = all
asks-send low high who sequence (suc count) outs later less all = ask-sends low high who sequence (member_of count)
    (asking_first who sequence count outs) later less (asks-send low high who sequence count outs later less all)

-- they ask for no lease, and for no write
asks-none : (waited : PendingQuestion) (output : Output) → asks_lease waited.question ≡ false
    → asks_sync waited.question ≡ false → AsksFor waited output
asks-none waited (outputs.Message (outgoing.Send to sequence body)) lease write = λ _. record {
  lease = λ leasing. absurd (both (sym lease ∙ leasing));
  write = λ writing. absurd (both (sym write ∙ writing));
}
asks-none waited _ lease write = tt

-- they are asked under one number more, and their answers are waited for
peers-reach : (now : Ticks) (known : Knowledge) (question : Question) (o : Outcome) (outs : List Output)
    → asks_lease question ≡ false → asks_sync question ≡ false
    → (All (SendsBetween known.sequence (o.knows.sequence + 1)) o.outputs →
    All (SendsBetween known.sequence (o.knows.sequence + 1)) outs)
    → Reaches now known o
    → AsksAnew now known (waiting now question (answers_until now) (counted o.knows)) outs
peers-reach now known question o outs lease write more r =
    let waited : PendingQuestion = record {
      question = question;
      sequence = o.knows.sequence + 1;
      until = answers_until now;
      ttl = lease_span o.knows.settings;
      sent = now;
    } in
    record {
      who = r.who;
      incarnation = r.incarnation;
      last = omega (arith, r.last);
      sends = more
          (all-of (SendsBetween known.sequence o.knows.sequence) (SendsBetween known.sequence (o.knows.sequence + 1))
          o.outputs (between-later known.sequence o.knows.sequence (o.knows.sequence + 1) (omega arith)) r.sends);
      waits = New waited refl (omega (arith, r.last)) (omega arith) refl (is-lease o.knows.settings)
          (λ k d h. asks-none waited _ lease write);
    }

pub others-reach : (now : Ticks) (known : Knowledge) (o : Outcome) → Reaches now known o
    → Reaches now known (asking_others now o)
others-reach now known o r =
    peers-reach now known ComparingPositions o (asking_all o.knows.who (o.knows.sequence + 1) o.outputs) refl refl
    (asks-send known.sequence (o.knows.sequence + 1) o.knows.who (o.knows.sequence + 1) MOST_MEMBERS o.outputs
    (omega (arith, r.last)) (omega arith))
    r

-- the asks of a leader that is to hand over have numbers in this span: to the candidate alone, or to all others
whom-send : (low high : ℕ) (who : Who) (candidate : Option MemberId) (sequence : ℕ) (outs : List Output)
    → low < sequence → sequence ≤ high → All (SendsBetween low high) outs
    → All (SendsBetween low high) (asking_whom who candidate sequence outs)
whom-send low high who None sequence outs later less all =
    asks-send low high who sequence MOST_MEMBERS outs later less all
whom-send low high who (Some candidate) sequence outs later less all =
    ask-sends low high who sequence (Some candidate) outs later less all

pub check-reaches : (now : Ticks) (known : Knowledge) (candidate : Option MemberId) (o : Outcome)
    → Reaches now known o → Reaches now known (checking now candidate o)
check-reaches now known candidate o r =
    peers-reach now known FindingCandidate o
    (asking_whom o.knows.who candidate (o.knows.sequence + 1) o.outputs) refl refl
    (whom-send known.sequence (o.knows.sequence + 1) o.knows.who candidate (o.knows.sequence + 1) o.outputs
    (omega (arith, r.last)) (omega arith))
    r

-- a failover key is to be removed
pub drop-reaches : (now : Ticks) (known : Knowledge) (revision : ℕ) (o : Outcome) → Reaches now known o
    → Reaches now known (dropping revision o)
drop-reaches now known revision o r =
    send-reaches now known (bodies.Request (txns.Operators (operator_txns.DropFailover revision))) o tt r

-- a handover is judged
pub handover-reaches : (now : Ticks) (known : Knowledge) (revision : ℕ) (o : Outcome) → Reaches now known o
    → HandoverRows (Reaches now known) now revision o
handover-reaches now known revision o r =
    let quiet : Reaches now known (waiting_no_more o) = rests now known o.knows _ o.outputs refl refl refl refl r in
    record {
      kept = quiet;
      clears = λ compared. drop-reaches now known compared (waiting_no_more o) quiet;
      hands = λ candidate.
          goes-on now known (waiting_no_more o).knows (hands_over now revision candidate (waiting_no_more o)).knows
          (with_output (outputs.Server orders.ShutDown)
          (with_output (outputs.Note (notings.Agent (agent_notes.HandsOver candidate))) o.outputs))
          refl refl refl refl
          (one-more now known (waiting_no_more o).knows
          (with_output (outputs.Note (notings.Agent (agent_notes.HandsOver candidate))) o.outputs)
          (outputs.Server orders.ShutDown) tt
          (one-more now known (waiting_no_more o).knows o.outputs
          (outputs.Note (notings.Agent (agent_notes.HandsOver candidate))) tt quiet));
    }

-- operators are answered
answer-reaches : (now : Ticks) (known : Knowledge) (request : ℕ) (told : Told) (o : Outcome)
    → Reaches now known o → Reaches now known (answering request told o)
answer-reaches now known request told o r = goes-on now known o.knows (answering request told o).knows _ refl
    refl refl refl (one-more now known o.knows o.outputs (outputs.Tell (tellings.Told request told)) tt r)

pub reply-reaches : (now : Ticks) (known : Knowledge) (o : Outcome) → Reaches now known o
    → ReplyRows (Reaches now known) o
reply-reaches now known o r = record { kept = r; answers = λ request told. answer-reaches now known request told o r }

-- a promotion that is postponed
pub postpone-reaches : (now : Ticks) (known : Knowledge) (held : ℕ) (o : Outcome) → Reaches now known o
    → Reaches now known (postpones held o)
postpone-reaches now known held o r = one-more now known o.knows (disarmed o.machine.watchdog.deadline o.outputs)
    (outputs.Note (notings.Agent agent_notes.PostponesPromotion)) tt (disarm-reaches now known o r)

-- requests to other members, all under one number
request-sends : (low high : ℕ) (members : MemberSet) (sequence : ℕ) (ttl : Ticks) (member : Option MemberId)
    (outs : List Output) → low < sequence → sequence ≤ high → All (SendsBetween low high) outs
    → All (SendsBetween low high) (requesting_one members sequence ttl member outs)
request-sends low high members sequence ttl None outs later less all = all
request-sends low high members sequence ttl (Some member) outs later less all =
    if-cases (λ (l : List Output). All (SendsBetween low high) l) (has members member.number)
    (with_output (outputs.Message (outgoing.Send (targets.Member member) sequence (bodies.FailsafeRequest ttl))) outs)
    outs
    (λ _. All-push (SendsBetween low high) outs
    (outputs.Message (outgoing.Send (targets.Member member) sequence (bodies.FailsafeRequest ttl))) all
    (later, less, tt))
    (λ _. all)

requests-send : (low high : ℕ) (members : MemberSet) (sequence : ℕ) (ttl : Ticks) (count : ℕ) (outs : List Output)
    → low < sequence → sequence ≤ high → All (SendsBetween low high) outs
    → All (SendsBetween low high) (requesting_first members sequence ttl count outs)
requests-send low high members sequence ttl zero outs later less all = all
requests-send low high members sequence ttl (suc count) outs later less all =
    request-sends low high members sequence ttl (member_of count) (requesting_first members sequence ttl count outs)
    later less (requests-send low high members sequence ttl count outs later less all)

pub seek-reaches : (now : Ticks) (known : Knowledge) (members : MemberSet) (o : Outcome) → Reaches now known o
    → Reaches now known (asking_to_stay now members o)
seek-reaches now known members o r =
    let outs : List Output = requesting_all members (o.knows.sequence + 1) (lease_span o.knows.settings) o.outputs in
    goes-on now known (waiting now StayingPrimary (answers_until now) (counted o.knows))
    (asking_to_stay now members o).knows outs refl refl refl refl
    (peers-reach now known StayingPrimary o outs refl refl
    (requests-send known.sequence (o.knows.sequence + 1) members (o.knows.sequence + 1)
    (lease_span o.knows.settings) MOST_MEMBERS o.outputs (omega (arith, r.last)) (omega arith))
    r)
