-- What operators are told, and why, and which of their requests waits for a result.
use Rattle.std.specs.Prelude.{ℕ, ◌≡◌, ◌⊎◌, ◌≤◌, ◌+◌, ◌*◌, ◌++◌, Bool, true, false, List, [], ◌∷◌, Option, Some, None, All, Contains}
use Rattle.pat_base.specs.declared.member_id.MemberId.{MemberId}
use Rattle.pat_base.specs.declared.name.Name.{Name}
use Rattle.pat_base.specs.declared.ticks.Ticks.{Ticks}
use Rattle.pat_base.specs.declared.ticks.TheConstants.{TICKS_OF_SECOND}
use Rattle.store_keys.specs.declared.action.FailoverKind.{FailoverKind}
use Rattle.store_keys.specs.declared.action.OperatorAction.{OperatorAction}
use Rattle.store_keys.specs.declared.action.OperatorRequest.{OperatorRequest}
use Rattle.store_keys.specs.declared.action.OperatorRequest.TheVariants as requests
use Rattle.store_keys.specs.declared.config.Config.{Config}
use Rattle.store_keys.specs.declared.key.Key.{Key}
use Rattle.store_keys.specs.declared.txn.Expected.{Expected}
use Rattle.store_keys.specs.declared.txn.Txn.{Txn}
use Rattle.store_keys.specs.declared.txn.Txn.TheVariants as txns
use Rattle.store_keys.specs.declared.txn.OperatorTxn.TheVariants as operator_txns
use Rattle.cluster_view.specs.KeyValues.{failover_in}
use Rattle.cluster_view.specs.Snapshots.{SnapshotFacts}
use Rattle.operator_answers.specs.declared.answer_text.Text.{Text}
use Rattle.operator_answers.specs.declared.answer_text.Text.TheVariants as texts
use Rattle.operator_answers.specs.Statuses.{service_unavailable, conflict, ok, internal_server_error}
use Rattle.event_book.specs.declared.message.Body.TheVariants as bodies
use Rattle.agent_model.specs.declared.heard.Heard.{Heard}
use Rattle.agent_model.specs.declared.heard.Heard.TheVariants.{Wake, ReadAnswered, Granted, Mismatch, Operated}
use Rattle.agent_model.specs.declared.knowledge.Knowledge.{Knowledge}
use Rattle.agent_model.specs.declared.operating.Operating.{Operating}
use Rattle.agent_model.specs.declared.operating.Operation.{Operation}
use Rattle.agent_model.specs.declared.operating.Operation.TheVariants.{FailingOver, Configuring}
use Rattle.agent_model.specs.declared.operating.Told.{Told}
use Rattle.agent_model.specs.declared.operating.Told.TheVariants as tolds
use Rattle.agent_model.specs.declared.output.Output.{Output}
use Rattle.agent_model.specs.declared.output.Output.TheVariants as outputs
use Rattle.agent_model.specs.declared.output.Outgoing.TheVariants as outgoing
use Rattle.agent_model.specs.declared.output.ServerOrder.TheVariants as orders
use Rattle.agent_model.specs.declared.output.Telling.TheVariants as tellings
use Rattle.agent_model.specs.declared.output.Target.TheVariants as targets
use Rattle.agent_model.specs.Agents.{Outcome}
use Rattle.agent_model.specs.Reconciling.{reconciled}
use Rattle.agent_model.specs.Decisions.{is_write_of}
use Rattle.agent_model.specs.Operators.{awaits_number, done_text, failed_text, holder_in, holder_if, name_in, is_same_member, most_operator_ticks, uses_read, operator_until, late_answer, refusal_of, unnumbered}

-- what an output tells an operator, with the number of the request; most tell none
abbrev pub told_by : Output → List (ℕ × Told)
told_by (outputs.Tell (tellings.Told request told)) = (request, told) ∷ []
told_by _ = []

-- what outputs tell operators
abbrev pub told_in : List Output → List (ℕ × Told)
told_in [] = []
told_in (output ∷ later) = told_by output ++ told_in later

-- by this snapshot another member leads than before, and the answer is
-- that the switchover or the failover to it is done
pub record HasNewLeader (kind : FailoverKind) (was : Option MemberId) (snapshot : SnapshotFacts) (answer : Told) : Type
    0 where
  pub leader : MemberId
  pub leads : holder_in snapshot ≡ Some leader
  pub other : is_same_member was (Some leader) ≡ false
  pub name : Name
  pub named : name_in snapshot.members (Some leader) ≡ Some name
  pub says : answer ≡ tolds.Text ok (done_text kind name)

-- by this snapshot the same member leads as before, or nobody as before, and nothing asks
-- for another leader any more: the answer is that the switchover or the failover failed
pub record HasOldLeader (kind : FailoverKind) (was : Option MemberId) (snapshot : SnapshotFacts) (answer : Told) : Type
    0 where
  pub same : is_same_member was (holder_in snapshot) ≡ true
  pub over : failover_in snapshot ≡ None
  pub says : answer ≡ tolds.Text service_unavailable (failed_text kind)

-- a snapshot shows what came of a request before which this one led,
-- and the answer says it. No snapshot shows that of a configuration
abbrev pub IsResultBy : Operation → Option MemberId → SnapshotFacts → Told → Type 0
IsResultBy (FailingOver kind) was snapshot answer =
    HasNewLeader kind was snapshot answer ⊎ HasOldLeader kind was snapshot answer
IsResultBy Configuring was snapshot answer = ⊥

-- why the request that waits gets this answer: its time is over; the read that the agent waits for shows what came of
-- it; or the key store answers the question that was asked for it, by the grant of the configuration or by a refusal
abbrev pub IsReason : Ticks → Heard → Outcome → Operating → Told → Type 0
IsReason now Wake o waiting answer = ((operator_until o.knows.settings waiting.operation waiting.since).0 ≤ now.0)
    × (answer ≡ late_answer waiting.operation)
IsReason now (ReadAnswered sequence snapshot) o waiting answer =
    (uses_read sequence (reconciled now o) ≡ true) × IsResultBy waiting.operation waiting.leader snapshot answer
IsReason now (Granted sequence grant snapshot) o waiting answer = (waiting.sequence ≡ sequence)
    × (is_write_of o.knows.who.me grant ≡ true) × (waiting.operation ≡ Configuring) × (answer ≡ tolds.Written)
IsReason now (Mismatch sequence key found) o waiting answer =
    (waiting.sequence ≡ sequence) × (answer ≡ refusal_of waiting.operation)
IsReason now _ o waiting answer = ⊥

-- the request that waited is answered, for a reason, and no request waits any more
pub record AnswersWaiting (now : Ticks) (heard : Heard) (o after : Outcome) (answer : ℕ × Told) : Type 0 where
  pub waiting : Operating
  pub waited : o.knows.operating ≡ Some waiting
  pub request : answer.0 ≡ waiting.request
  pub reason : IsReason now heard o waiting answer.1
  pub over : after.knows.operating ≡ None

-- what an operator asks is done in this input, and answered so: the server
-- restarts, or is wiped; the member holds on another one's request, or refuses to
abbrev pub IsDoneIn : List Output → OperatorRequest → Told → Type 0
IsDoneIn outs requests.Restart answer =
    ((as_primary : Bool) × Contains outs (outputs.Server (orders.Restart as_primary)))
    × (answer ≡ tolds.Text ok texts.Restarted)
IsDoneIn outs requests.Reinit answer =
    Contains outs (outputs.Server orders.Wipe) × (answer ≡ tolds.Text ok texts.ReinitializeStarted)
IsDoneIn outs (requests.Hold from ttl) answer =
    (((until : Ticks) ×
    ((member : MemberId) × Contains outs (outputs.Tell (tellings.HoldTaken until member unnumbered)))) ×
    (answer ≡ tolds.Text ok texts.Accepted))
    ⊎ (answer ≡ tolds.Text internal_server_error texts.Refused)
IsDoneIn outs _ answer = ⊥

-- the request that is heard is answered at once
abbrev pub AnswersAtOnce : Heard → Outcome → ℕ × Told → Type 0
AnswersAtOnce (Operated action) after answer =
    (answer.0 ≡ action.request) × IsDoneIn after.outputs action.asked answer.1
AnswersAtOnce _ after answer = ⊥

-- operators get no answer, or one that has its cause
abbrev pub AnswersOneAtMost : Ticks → Heard → Outcome → Outcome → List (ℕ × Told) → Type 0
AnswersOneAtMost now heard o after [] = Unit {0}
AnswersOneAtMost now heard o after (answer ∷ []) =
    AnswersWaiting now heard o after answer ⊎ AnswersAtOnce heard after answer
AnswersOneAtMost now heard o after (first ∷ second ∷ others) = ⊥

-- this is what the key store is asked for on such a request: the
-- failover key, or the configuration, that the operator wants
abbrev pub IsWish : OperatorRequest → Operation → Txn → Type 0
IsWish (requests.Failover kind failover) operation txn =
    (operation ≡ FailingOver kind) × ((ttl : Ticks) × (txn ≡ txns.Operators (operator_txns.SetFailover failover ttl)))
IsWish (requests.Configuration config) operation txn =
    (operation ≡ Configuring) × ((revision : ℕ) × (txn ≡ txns.Operators (operator_txns.SetConfig revision config)))
IsWish _ operation txn = ⊥

-- what waits is this request, for which the key store is asked at this
-- moment; noted is who leads by the newest snapshot
pub record IsAskedFor (now : Ticks) (action : OperatorAction) (o after : Outcome) (waiting : Operating) : Type 0 where
  pub request : waiting.request ≡ action.request
  pub since : waiting.since ≡ now
  pub leader : waiting.leader ≡ holder_if o.knows.seen
  pub txn : Txn
  pub wish : IsWish action.asked waiting.operation txn
  pub sent : Contains after.outputs
      (outputs.Message (outgoing.Send targets.Store waiting.sequence (bodies.Request txn)))

-- what waits is the request that is heard
abbrev pub WaitsForHeard : Ticks → Heard → Outcome → Outcome → Operating → Type 0
WaitsForHeard now (Operated action) o after waiting = IsAskedFor now action o after waiting
WaitsForHeard now _ o after waiting = ⊥

-- what waits after an input waited before, or is the request that is heard
abbrev pub WaitsAsAsked : Ticks → Heard → Outcome → Outcome → Type 0
WaitsAsAsked now heard o after = (waiting : Operating) → after.knows.operating ≡ Some waiting
    → (o.knows.operating ≡ Some waiting) ⊎ WaitsForHeard now heard o after waiting

-- the request of this number waits for its result, and this is so of it
pub record AwaitsResult (request : ℕ) (IsSo : Operating → Type 0) (knows : Knowledge) : Type 0 where
  pub waiting : Operating
  pub waits : knows.operating ≡ Some waiting
  pub number : waiting.request ≡ request
  pub so : IsSo waiting

-- the time for what comes of a switchover or a failover is over: it was asked for 600 ticks ago, or earlier
pub record IsOverdue (now : Ticks) (waiting : Operating) : Type 0 where
  pub kind : FailoverKind
  pub operation : waiting.operation ≡ FailingOver kind
  pub over : waiting.since.0 + most_operator_ticks ≤ now.0

-- the key store refused what was asked for this operation: what is heard is its refusal of that question
pub record IsRefused (heard : Heard) (waiting : Operating) : Type 0 where
  pub key : Key
  pub found : Expected
  pub hears : heard ≡ Mismatch waiting.sequence key found

-- the key store refused to write the configuration
pub record IsRefusedWrite (heard : Heard) (waiting : Operating) : Type 0 where
  pub operation : waiting.operation ≡ Configuring
  pub refused : IsRefused heard waiting

-- the key store refused to have another leader asked for
pub record IsRefusedFailover (heard : Heard) (waiting : Operating) : Type 0 where
  pub kind : FailoverKind
  pub operation : waiting.operation ≡ FailingOver kind
  pub refused : IsRefused heard waiting

-- until `retry_timeout` was over no answer was heard on whether the configuration is
-- written: nothing is heard now, and it was asked for so many seconds ago, or earlier
pub record IsUnheard (now : Ticks) (heard : Heard) (settings : Config) (waiting : Operating) : Type 0 where
  pub operation : waiting.operation ≡ Configuring
  pub unheard : heard ≡ Wake
  pub over : waiting.since.0 + TICKS_OF_SECOND * settings.retry_timeout ≤ now.0

-- words that tell of want of time, or of a refusal, have their cause. A configuration that
-- was not written is told with the status of a conflict where the key store refused it,
-- and with that of want of service where no answer came in time. Other words are free here
abbrev pub IsCause : Ticks → Heard → Knowledge → ℕ → ℕ → Text → Type 0
IsCause now heard knows request status texts.NoResultInTime =
    (status ≡ service_unavailable) × AwaitsResult request (IsOverdue now) knows
IsCause now heard knows request status texts.AnotherUnderWay =
    (status ≡ service_unavailable) × AwaitsResult request (IsRefusedFailover heard) knows
IsCause now heard knows request status texts.ConfigurationNotWritten =
    ((status ≡ conflict) × AwaitsResult request (IsRefusedWrite heard) knows)
    ⊎ ((status ≡ service_unavailable) × AwaitsResult request (IsUnheard now heard knows.settings) knows)
IsCause now heard knows request status _ = Unit {0}

-- what is told has its cause, where it tells words
abbrev pub IsCauseOf : Ticks → Heard → Knowledge → ℕ → Told → Type 0
IsCauseOf now heard knows request (tolds.Text status text) = IsCause now heard knows request status text
IsCauseOf now heard knows request tolds.Written = Unit {0}

-- an answer to the request of a number has its cause
abbrev pub HasCause : Ticks → Heard → Knowledge → ℕ × Told → Type 0
HasCause now heard knows answer = IsCauseOf now heard knows answer.0 answer.1

-- what outputs tell operators has its cause in what the agent knew, and in what it heard at this moment
abbrev pub HaveCauses : Ticks → Heard → Knowledge → List Output → Type 0
HaveCauses now heard knows outs = All (HasCause now heard knows) (told_in outs)

-- the answer of this number is one that a request waits for, and the agent waits for none of this number by itself
pub record AwaitsDecision (sequence : ℕ) (waiting : Operating) (knows : Knowledge) : Type 0 where
  pub waits : knows.operating ≡ Some waiting
  pub number : waiting.sequence ≡ sequence
  pub alone : awaits_number knows.waited sequence ≡ false

-- what the key store decided on the request that waits is told at once: its refusal, or that the
-- configuration is written. So no request waits on whose decision was heard, but for another leader
abbrev pub TellsDecision : Heard → Knowledge → List Output → Type 0
TellsDecision (Mismatch sequence key found) knows outs = (waiting : Operating)
    → AwaitsDecision sequence waiting knows → told_in outs ≡ (waiting.request, refusal_of waiting.operation) ∷ []
TellsDecision (Granted sequence grant snapshot) knows outs =
    (waiting : Operating) → AwaitsDecision sequence waiting knows → is_write_of knows.who.me grant ≡ true
    → waiting.operation ≡ Configuring → told_in outs ≡ (waiting.request, tolds.Written) ∷ []
TellsDecision _ knows outs = Unit {0}
