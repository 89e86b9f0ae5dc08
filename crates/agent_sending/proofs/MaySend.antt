-- What an input may send, and the outputs that say nothing of it: the silent and the mild.
use Rattle.std.proofs.Common.{◌≡◌, ◌⊎◌, ℕ, ◌+◌, ◌≤◌, ◌<◌, Bool, true, false, List, Option, Some, None, All, refl, sym, subst, ap, ◌∙◌, arith, inl, inr, zero, suc}
use Rattle.std.proofs.lemmas.List.Elements.{All-push, All-weaker}
use Rattle.pat_base.specs.MemberId.{member_of}
use Rattle.pat_base.specs.declared.member_id.MemberId.{MemberId}
use Rattle.pat_base.specs.declared.member_set.MemberSet.{MemberSet}
use Rattle.pat_base.specs.declared.ticks.Ticks.{Ticks}
use Rattle.pat_base.specs.ServerState.{live}
use Rattle.store_keys.specs.declared.txn.Expected.{Expected}
use Rattle.store_keys.specs.declared.txn.Txn.{Txn}
use Rattle.store_keys.specs.declared.txn.Txn.TheVariants as txns
use Rattle.store_keys.specs.declared.txn.LeaseTxn.TheVariants as lease_txns
use Rattle.store_keys.specs.declared.txn.OperatorTxn.TheVariants as operator_txns
use Rattle.event_book.specs.declared.agent_note.AgentNote.TheVariants as agent_notes
use Rattle.event_book.specs.declared.message.Body.{Body}
use Rattle.event_book.specs.declared.message.Body.TheVariants as bodies
use Rattle.event_book.specs.Functions.{set_members}
use Rattle.failsafe.specs.declared.asks.Ask.{Ask}
use Rattle.agent_model.specs.declared.knowledge.PendingQuestion.{PendingQuestion}
use Rattle.agent_model.specs.declared.output.Output.{Output}
use Rattle.agent_model.specs.declared.output.Output.TheVariants as outputs
use Rattle.agent_model.specs.declared.output.Feeding.TheVariants as feedings
use Rattle.agent_model.specs.declared.output.Noting.TheVariants as notings
use Rattle.agent_model.specs.declared.output.Outgoing.TheVariants as outgoing
use Rattle.agent_model.specs.declared.output.ServerOrder.TheVariants as orders
use Rattle.agent_model.specs.declared.output.Telling.TheVariants as tellings
use Rattle.agent_model.specs.declared.output.Target.TheVariants as targets
use Rattle.agent_model.specs.declared.why.Why.{Why}
use Rattle.agent_model.specs.declared.who.Who.{Who}
use Rattle.agent_model.specs.declared.why.Why.TheVariants.{HandOver, Lost}
use Rattle.agent_model.specs.Acting.{armed, fed_until, disarmed}
use Rattle.agent_model.specs.Agents.{Follower, Ending, Outcome}
use Rattle.agent_model.specs.FailsafeKeys.{failsafe_compared, is_fed_by_failsafe}
use Rattle.agent_model.specs.Reconciling.{has_ended, reconciled}
use Rattle.agent_model.specs.Claiming.{postpones}
use Rattle.agent_model.specs.Outputs.{with_output}
use Rattle.agent_roles.specs.Powers.{Acts, lease_of}
use Rattle.agent_roles.specs.Seen.{lease_asked, leader_seen_if}
use Rattle.agent_model.specs.HandingOver.{asking_whom, checking}
use Rattle.agent_model.specs.Operators.{answering}
use Rattle.agent_model.specs.declared.operating.Told.{Told as Tells}
use Rattle.store_keys.specs.declared.config_value.ConfigValue.{ConfigValue}
use Rattle.agent_model.specs.Racing.{judged, asking_others}
use Rattle.agent_model.specs.Answers.{is_other, asking_one, asking_first}
use Rattle.pat_base.specs.declared.member_id.TheConstants.{MOST_MEMBERS}
use Rattle.agent_model.specs.Peers.{awaits_others}
use Rattle.agent_model.specs.Wake.{reading, turn_noted, overdue}
use Rattle.agent_roles.proofs.Granting.{Told}
use Rattle.agent_roles.proofs.GoingOn.{IsAlone}
use Rattle.agent_roles.proofs.Leaving.{rests-by}
use Rattle.agent_roles.proofs.Living.{no-way}
use Rattle.agent_cases.proofs.Rows.{HandoverRows, ReplyRows, if-cases, before-by, judged-by}
use Rattle.agent_model.specs.Pausing.{disabling_told}

-- an output that sends nothing but an answer of how far the server is, takes no hold,
-- feeds no watchdog on acknowledgements, and by which no server comes to accept writes
abbrev pub IsSilent : Output → Type 0
IsSilent (outputs.Message (outgoing.Send to sequence body)) = ⊥
IsSilent (outputs.Message (outgoing.FailsafeAnswer to incarnation sequence accepted)) = ⊥
IsSilent (outputs.Tell (tellings.HoldTaken until from sequence)) = ⊥
IsSilent (outputs.Watchdog (feedings.FedByFailsafe until members sequence since)) = ⊥
IsSilent (outputs.Server orders.Begin) = ⊥
IsSilent (outputs.Server (orders.Restart as_primary)) = ⊥
IsSilent _ = Unit {0}

-- on what grounds an input sends: which revisions it is granted, what a create may expect of the
-- failsafe key, which failsafe requests it may send, which it may acknowledge, which configurations
-- an operator has it ask for, and on whose acknowledgements of which request it may feed its watchdog
pub record Grounds : Type 1 where
  pub gives : ℕ → Type 0
  pub creates : Option Expected → Type 0
  pub requests : ℕ → Ticks → Type 0
  pub acknowledges : MemberId → ℕ → ℕ → Type 0
  pub configures : ConfigValue → Type 0
  pub feeds : MemberSet → ℕ → Type 0

-- a renewal may write this set into the failsafe key: failsafe mode is on, and the agent leads
-- over a live server. Its deadline is by no acknowledgements, and it knows the members of the set
pub record CarriesSet (after : Outcome) (set : MemberSet) : Type 0 where
  pub mode : after.knows.settings.failsafe_mode ≡ true
  pub live : live after.machine.server.state ≡ true
  pub by_grant : is_fed_by_failsafe after.machine ≡ false
  pub known : (p : ℕ) → set_members set p ≡ true → set_members after.knows.known p ≡ true

-- so it may, if it writes one
abbrev pub CarriesSetIf : Outcome → Option MemberSet → Type 0
CarriesSetIf after None = Unit {0}
CarriesSetIf after (Some set) = CarriesSet after set

-- a request that an input may send under this number
abbrev pub MayTransact : Grounds → Outcome → Outcome → ℕ → Txn → Type 0
MayTransact G o after sequence (txns.Lease (lease_txns.Create info ttl failsafe sync)) = G.creates failsafe
MayTransact G o after sequence (txns.Lease (lease_txns.Renew revision info ttl status row failsafe)) =
    (leader_seen_if after.knows.seen ≡ Some (record { holder = after.knows.who.me.number; revision = revision }))
    × (lease_asked after.knows.waited ≡ Some sequence) × CarriesSetIf after failsafe
MayTransact G o after sequence (txns.Lease (lease_txns.Release revision)) =
    (Acts after → ⊥) × ((lease_of o.role ≡ Some revision) ⊎ G.gives revision)
MayTransact G o after sequence (txns.Operators (operator_txns.SetConfig revision config)) = G.configures config
MayTransact G o after sequence _ = Unit {0}

-- a question that it may send under this number
abbrev pub MayAskStore : Grounds → Outcome → Outcome → ℕ → Body → Type 0
MayAskStore G o after sequence bodies.Read = Unit {0}
MayAskStore G o after sequence (bodies.Request txn) = MayTransact G o after sequence txn
MayAskStore G o after sequence _ = ⊥

-- it sends it under a new number
pub record SendsNew (G : Grounds) (o after : Outcome) (sequence : ℕ) (body : Body) : Type 0 where
  pub later : o.knows.sequence < sequence
  pub counted : sequence ≤ after.knows.sequence
  pub asks : MayAskStore G o after sequence body

-- a question that it may send to another member under this number
abbrev pub MayAskMember : Grounds → ℕ → Body → Type 0
MayAskMember G sequence bodies.Ask = Unit {0}
MayAskMember G sequence (bodies.FailsafeRequest ttl) = G.requests sequence ttl
MayAskMember G sequence _ = ⊥

-- an output of an input
abbrev pub MayPut : Grounds → Outcome → Outcome → Output → Type 0
MayPut G o after (outputs.Message (outgoing.Send targets.Store sequence body)) = SendsNew G o after sequence body
MayPut G o after (outputs.Message (outgoing.Send (targets.Member member) sequence body)) =
    (o.knows.sequence < sequence) × (sequence ≤ after.knows.sequence) × MayAskMember G sequence body
MayPut G o after (outputs.Message (outgoing.FailsafeAnswer to incarnation sequence accepted)) =
    accepted ≡ true → G.acknowledges to incarnation sequence
MayPut G o after (outputs.Watchdog (feedings.FedByFailsafe until members sequence since)) = G.feeds members sequence
MayPut G o after (outputs.Tell (tellings.HoldTaken until from sequence)) =
    ((sequence ≡ 0) × (from ≡ o.knows.who.me)) ⊎ ((run : ℕ) × G.acknowledges from run sequence)
MayPut G o after (outputs.Server orders.Begin) = (revision : ℕ) × G.gives revision
MayPut G o after (outputs.Server (orders.Restart as_primary)) = as_primary ≡ true → live o.machine.server.state ≡ true
MayPut G o after _ = Unit {0}

abbrev pub AllMay : Grounds → Outcome → Outcome → Type 0
AllMay G o after = All (MayPut G o after) after.outputs

pub silent-may : (G : Grounds) (o after : Outcome) (output : Output) → IsSilent output → MayPut G o after output
silent-may G o after (outputs.Message (outgoing.Send to sequence body)) e = absurd e
silent-may G o after (outputs.Server orders.Begin) e = absurd e
silent-may G o after (outputs.Message (outgoing.FailsafeAnswer to incarnation sequence accepted)) e = absurd e
silent-may G o after (outputs.Tell (tellings.HoldTaken until from sequence)) e = absurd e
silent-may G o after (outputs.Watchdog (feedings.FedByFailsafe until members sequence since)) e = absurd e
silent-may G o after (outputs.Server (orders.Restart as_primary)) e = absurd e
silent-may G o after _ e = tt

-- outputs before that were silent
pub front : (G : Grounds) (o after : Outcome) (outs : List Output) → All IsSilent outs → All (MayPut G o after) outs
front G o after outs silent = All-weaker IsSilent (MayPut G o after) (silent-may G o after) outs silent

pub push : (G : Grounds) (o after : Outcome) (outs : List Output) (output : Output)
    → All (MayPut G o after) outs → MayPut G o after output → All (MayPut G o after) (with_output output outs)
push G o after outs output all may = All-push (MayPut G o after) outs output all may

pub silently : (outs : List Output) (output : Output) → All IsSilent outs → IsSilent output
    → All IsSilent (with_output output outs)
silently outs output all silent = All-push IsSilent outs output all silent

silent-disarmed : (deadline : Option Ticks) (outs : List Output) → All IsSilent outs
    → All IsSilent (disarmed deadline outs)
silent-disarmed None outs all = all
silent-disarmed (Some deadline) outs all = silently outs (outputs.Watchdog feedings.Disarmed) all tt

pub silent-armed : (deadline : Option Ticks) (outs : List Output) → All IsSilent outs
    → All IsSilent (armed deadline outs)
silent-armed None outs all = all
silent-armed (Some deadline) outs all = silently outs (outputs.Watchdog (feedings.Armed deadline)) all tt

pub silent-fed : (deadline : Option Ticks) (outs : List Output) → All IsSilent outs
    → All IsSilent (fed_until deadline outs)
silent-fed None outs all = all
silent-fed (Some deadline) outs all = silently outs (outputs.Watchdog (feedings.Fed deadline)) all tt

pub silent-disabled : (renews : Bool) (deadline : Option Ticks) (outs : List Output) → All IsSilent outs
    → All IsSilent (disabling_told renews deadline outs)
silent-disabled renews None outs all = all
silent-disabled true (Some deadline) outs all = silently (with_output (outputs.Watchdog feedings.Disarmed) outs)
    (outputs.Note (notings.Agent agent_notes.DisablesWatchdog))
    (silently outs (outputs.Watchdog feedings.Disarmed) all tt) tt
silent-disabled false (Some deadline) outs all = silently outs (outputs.Watchdog feedings.Disarmed) all tt

-- the release of this revision under this number, or a silent output
abbrev pub IsReleaseOr : ℕ → ℕ → Output → Type 0
IsReleaseOr sequence revision output =
    IsSilent output
    ⊎ (output ≡ outputs.Message
    (outgoing.Send targets.Store sequence (bodies.Request (txns.Lease (lease_txns.Release revision)))))

-- what comes before an input sends nothing; or the lease is released
-- of an agent whose server has ended, and that waits for nothing
pub data Fronts (o after : Outcome) : Type 0 where
  Silent : (all : All IsSilent after.outputs) → Fronts o after
  Released : (revision : ℕ) → (held : lease_of o.role ≡ Some revision) → (alone : after.knows.waited ≡ None)
      → (role : after.role ≡ Follower) → (ended : live after.machine.server.state ≡ false)
      → (counted : o.knows.sequence + 1 ≤ after.knows.sequence)
      → (all : All (IsReleaseOr (o.knows.sequence + 1) revision) after.outputs) → Fronts o after

-- a request that needs no more than its number, and K of what a create expects:
-- it tells of the member, asks for a free leader key, or is of a failover
abbrev pub IsPlain : (Option Expected → Type 0) → Txn → Type 0
IsPlain K (txns.Lease (lease_txns.Create info ttl failsafe sync)) = K failsafe
IsPlain K (txns.Touch info ttl) = Unit {0}
IsPlain K (txns.Operators (operator_txns.SetFailover failover ttl)) = Unit {0}
IsPlain K (txns.Operators (operator_txns.DropFailover revision)) = Unit {0}
IsPlain K _ = ⊥

-- so does a question
abbrev pub IsPlainBody : (Option Expected → Type 0) → Body → Type 0
IsPlainBody K bodies.Read = Unit {0}
IsPlainBody K (bodies.Request txn) = IsPlain K txn
IsPlainBody K _ = ⊥

-- a question of how far a server is
abbrev pub IsPositionAsk : Body → Type 0
IsPositionAsk bodies.Ask = Unit {0}
IsPositionAsk _ = ⊥

-- an output that is silent, or sends such a question, or asks another member, under a number between these
abbrev pub IsMild : (Option Expected → Type 0) → ℕ → ℕ → Output → Type 0
IsMild K low high (outputs.Message (outgoing.Send targets.Store sequence body)) =
    (low < sequence) × (sequence ≤ high) × IsPlainBody K body
IsMild K low high (outputs.Message (outgoing.Send (targets.Member member) sequence body)) =
    (low < sequence) × (sequence ≤ high) × IsPositionAsk body
IsMild K low high (outputs.Message (outgoing.FailsafeAnswer to incarnation sequence accepted)) = ⊥
IsMild K low high (outputs.Tell (tellings.HoldTaken until from sequence)) = ⊥
IsMild K low high (outputs.Watchdog (feedings.FedByFailsafe until members sequence since)) = ⊥
IsMild K low high (outputs.Server orders.Begin) = ⊥
IsMild K low high (outputs.Server (orders.Restart as_primary)) = ⊥
IsMild K low high _ = Unit {0}

abbrev pub AllMild : (Option Expected → Type 0) → ℕ → Outcome → Type 0
AllMild K low o = All (IsMild K low o.knows.sequence) o.outputs

plain-may : (G : Grounds) (o after : Outcome) (sequence : ℕ) (txn : Txn) → IsPlain G.creates txn
    → MayTransact G o after sequence txn
plain-may G o after sequence (txns.Lease (lease_txns.Create info ttl failsafe sync)) e = e
plain-may G o after sequence (txns.Touch info ttl) e = tt
plain-may G o after sequence (txns.Operators (operator_txns.SetFailover failover ttl)) e = tt
plain-may G o after sequence (txns.Operators (operator_txns.DropFailover revision)) e = tt
plain-may G o after sequence _ e = absurd e

plain-asks : (G : Grounds) (o after : Outcome) (sequence : ℕ) (body : Body) → IsPlainBody G.creates body
    → MayAskStore G o after sequence body
plain-asks G o after sequence bodies.Read e = tt
plain-asks G o after sequence (bodies.Request txn) e = plain-may G o after sequence txn e
plain-asks G o after sequence _ e = absurd e

position-asks : (G : Grounds) (sequence : ℕ) (body : Body) → IsPositionAsk body → MayAskMember G sequence body
position-asks G sequence bodies.Ask e = tt
position-asks G sequence _ e = absurd e

pub mild-may : (G : Grounds) (o after : Outcome) (output : Output)
    → IsMild G.creates o.knows.sequence after.knows.sequence output → MayPut G o after output
mild-may G o after (outputs.Message (outgoing.Send targets.Store sequence body)) e =
    record { later = e.0; counted = e.1; asks = plain-asks G o after sequence body e.2 }
mild-may G o after (outputs.Message (outgoing.Send (targets.Member member) sequence body)) e =
    (e.0, e.1, position-asks G sequence body e.2)
mild-may G o after (outputs.Message (outgoing.FailsafeAnswer to incarnation sequence accepted)) e = absurd e
mild-may G o after (outputs.Tell (tellings.HoldTaken until from sequence)) e = absurd e
mild-may G o after (outputs.Watchdog (feedings.FedByFailsafe until members sequence since)) e = absurd e
mild-may G o after (outputs.Server orders.Begin) e = absurd e
mild-may G o after (outputs.Server (orders.Restart as_primary)) e = absurd e
mild-may G o after _ e = tt

pub mild-all : (G : Grounds) (o after : Outcome) → AllMild G.creates o.knows.sequence after → AllMay G o after
mild-all G o after all = All-weaker (IsMild G.creates o.knows.sequence after.knows.sequence)
    (MayPut G o after) (mild-may G o after) after.outputs all

silent-mild : (K : Option Expected → Type 0) (low high : ℕ) (output : Output) → IsSilent output
    → IsMild K low high output
silent-mild K low high (outputs.Message (outgoing.Send to sequence body)) e = absurd e
silent-mild K low high (outputs.Message (outgoing.FailsafeAnswer to incarnation sequence accepted)) e = absurd e
silent-mild K low high (outputs.Tell (tellings.HoldTaken until from sequence)) e = absurd e
silent-mild K low high (outputs.Watchdog (feedings.FedByFailsafe until members sequence since)) e = absurd e
silent-mild K low high (outputs.Server orders.Begin) e = absurd e
silent-mild K low high (outputs.Server (orders.Restart as_primary)) e = e
silent-mild K low high _ e = tt

pub mild-front : (K : Option Expected → Type 0) (low high : ℕ) (outs : List Output) → All IsSilent outs
    → All (IsMild K low high) outs
mild-front K low high outs silent = All-weaker IsSilent (IsMild K low high) (silent-mild K low high) outs silent

pub up-to : (a b c : ℕ) → a ≤ b → b ≤ c → a ≤ c
up-to a b c first second = omega (arith, first, second)

pub more-mild : (K : Option Expected → Type 0) (low high more : ℕ) → high ≤ more → (output : Output)
    → IsMild K low high output → IsMild K low more output
more-mild K low high more less (outputs.Message (outgoing.Send targets.Store sequence body)) e =
    (e.0, up-to sequence high more e.1 less, e.2)
more-mild K low high more less (outputs.Message (outgoing.Send (targets.Member member) sequence body)) e =
    (e.0, up-to sequence high more e.1 less, e.2)
more-mild K low high more less (outputs.Message (outgoing.FailsafeAnswer to incarnation sequence accepted)) e = e
more-mild K low high more less (outputs.Tell (tellings.HoldTaken until from sequence)) e = e
more-mild K low high more less (outputs.Watchdog (feedings.FedByFailsafe until members sequence since)) e = e
more-mild K low high more less (outputs.Server orders.Begin) e = e
more-mild K low high more less (outputs.Server (orders.Restart as_primary)) e = e
more-mild K low high more less _ e = tt

-- a race that is judged asks for the leader key, or tells of the member
pub judged-mild : (K : Option Expected → Type 0) (low : ℕ) (now : Ticks) (o : Outcome)
    → K (failsafe_compared o.knows) → low ≤ o.knows.sequence → All IsSilent o.outputs → AllMild K low (judged now o)
judged-mild K low now o may less silent =
    let high : ℕ = o.knows.sequence + 1 in
    let later : low < high = omega (arith, less) in
    judged-by (AllMild K low) now o
    (All-push (IsMild K low high) o.outputs _ (mild-front K low high o.outputs silent) (later, omega arith, may))
    (λ bar.
    All-push (IsMild K low high) (with_output (outputs.Note (notings.Agent (agent_notes.DoesNotRace bar))) o.outputs) _
    (mild-front K low high (with_output (outputs.Note (notings.Agent (agent_notes.DoesNotRace bar))) o.outputs)
    (silently o.outputs (outputs.Note (notings.Agent (agent_notes.DoesNotRace bar))) silent tt))
    (later, omega arith, tt))

-- so do the asks
ask-mild : (K : Option Expected → Type 0) (low high : ℕ) (who : Who) (sequence : ℕ) (member : Option MemberId)
    (outs : List Output) → low < sequence → sequence ≤ high → All (IsMild K low high) outs
    → All (IsMild K low high) (asking_one who sequence member outs)
ask-mild K low high who sequence None outs later less all = all
ask-mild K low high who sequence (Some member) outs later less all =
    if-cases (λ (l : List Output). All (IsMild K low high) l) (is_other who member)
    (with_output (outputs.Message (outgoing.Send (targets.Member member) sequence bodies.Ask)) outs) outs
    (λ _.
    All-push (IsMild K low high) outs
    (outputs.Message (outgoing.Send (targets.Member member) sequence bodies.Ask)) all (later, less, tt))
    (λ _. all)

asks-mild : (K : Option Expected → Type 0) (low high : ℕ) (who : Who) (sequence count : ℕ) (outs : List Output)
    → low < sequence → sequence ≤ high → All (IsMild K low high) outs
    → All (IsMild K low high) (asking_first who sequence count outs)
asks-mild K low high who sequence zero outs later less all = all
asks-mild K low high who sequence (suc count) outs later less all = ask-mild K low high who sequence (member_of count)
    (asking_first who sequence count outs) later less (asks-mild K low high who sequence count outs later less all)

pub others-mild : (K : Option Expected → Type 0) (low : ℕ) (now : Ticks) (o : Outcome)
    → low ≤ o.knows.sequence → All IsSilent o.outputs → AllMild K low (asking_others now o)
others-mild K low now o less silent = let high : ℕ = o.knows.sequence + 1 in
    asks-mild K low high o.knows.who high MOST_MEMBERS o.outputs (omega (arith, less)) (omega arith)
    (mild-front K low high o.outputs silent)

-- a handover that is judged asks that the failover key be removed, or ends the server
pub handover-mild : (K : Option Expected → Type 0) (low : ℕ) (now : Ticks) (held : ℕ) (o : Outcome)
    → low ≤ o.knows.sequence → All IsSilent o.outputs → HandoverRows (AllMild K low) now held o
handover-mild K low now held o less silent = let out : ℕ = o.knows.sequence in record {
  kept = mild-front K low out o.outputs silent;
  clears = λ compared. All-push (IsMild K low (out + 1)) o.outputs _
      (mild-front K low (out + 1) o.outputs silent) (omega (arith, less), omega arith, tt);
  hands = λ candidate. mild-front K low out
      (with_output (outputs.Server orders.ShutDown)
      (with_output (outputs.Note (notings.Agent (agent_notes.HandsOver candidate))) o.outputs))
      (silently (with_output (outputs.Note (notings.Agent (agent_notes.HandsOver candidate))) o.outputs)
      (outputs.Server orders.ShutDown)
      (silently o.outputs (outputs.Note (notings.Agent (agent_notes.HandsOver candidate))) silent tt) tt);
}

-- so does who asks for whom it may hand over to
whom-mild : (K : Option Expected → Type 0) (low high : ℕ) (who : Who) (candidate : Option MemberId)
    (sequence : ℕ) (outs : List Output) → low < sequence → sequence ≤ high → All (IsMild K low high) outs
    → All (IsMild K low high) (asking_whom who candidate sequence outs)
whom-mild K low high who None sequence outs later less all =
    asks-mild K low high who sequence MOST_MEMBERS outs later less all
whom-mild K low high who (Some candidate) sequence outs later less all =
    ask-mild K low high who sequence (Some candidate) outs later less all

pub checking-mild : (K : Option Expected → Type 0) (low : ℕ) (now : Ticks) (candidate : Option MemberId) (o : Outcome)
    → low ≤ o.knows.sequence → All IsSilent o.outputs → AllMild K low (checking now candidate o)
checking-mild K low now candidate o less silent = let high : ℕ = o.knows.sequence + 1 in
    whom-mild K low high o.knows.who candidate high o.outputs (omega (arith, less)) (omega arith)
    (mild-front K low high o.outputs silent)

ended-fronts : (why : Why) (held : ℕ) (o : Outcome) → o.role ≡ Ending held why
    → live o.machine.server.state ≡ false → IsAlone o → All IsSilent o.outputs → Fronts o (has_ended why held o)
ended-fronts HandOver held o is ended alone silent =
    Released held (rw is refl) (alone (rw is refl)) refl ended (omega arith)
    (All-push (IsReleaseOr (o.knows.sequence + 1) held) (disarmed o.machine.watchdog.deadline o.outputs)
    (outputs.Message (outgoing.Send targets.Store (o.knows.sequence + 1)
    (bodies.Request (txns.Lease (lease_txns.Release held)))))
    (All-weaker IsSilent (IsReleaseOr (o.knows.sequence + 1) held) (λ output e. inl e)
    (disarmed o.machine.watchdog.deadline o.outputs) (silent-disarmed o.machine.watchdog.deadline o.outputs silent))
    (inr refl))
ended-fronts Lost held o is ended alone silent = Silent (silent-disarmed o.machine.watchdog.deadline o.outputs silent)

pub before-fronts : (now : Ticks) (o : Outcome) → IsAlone o → All IsSilent o.outputs → Fronts o (reconciled now o)
before-fronts now o alone silent =
    let rest : All IsSilent (disarmed o.machine.watchdog.deadline o.outputs) =
    silent-disarmed o.machine.watchdog.deadline o.outputs silent in
    before-by (Fronts o) now o (record {
      kept = λ _. Silent silent;
      leader = λ held _ _. Silent rest;
      ending = λ held why is ended. ended-fronts why held o is ended alone silent;
      follower = λ _ _. Silent silent;
      holder = λ held _ _. Silent silent;
      ready = λ held _ _. Silent rest;
      unleased = λ _ _. Silent rest;
    })

release-may : (G : Grounds) (o after : Outcome) (revision : ℕ) → lease_of o.role ≡ Some revision
    → after.role ≡ Follower → live after.machine.server.state ≡ false → o.knows.sequence + 1 ≤ after.knows.sequence
    → (output : Output) → IsReleaseOr (o.knows.sequence + 1) revision output → MayPut G o after output
release-may G o after revision held role ended counted output (inl silent) = silent-may G o after output silent
release-may G o after revision held role ended counted output (inr is) =
    subst (λ (y : Output). MayPut G o after y) (sym is)
    (record { later = omega arith; counted = counted; asks = (rests-by after ended (rw role refl), inl held) })

pub released : (G : Grounds) (o after : Outcome) (revision : ℕ) (outs : List Output) → lease_of o.role ≡ Some revision
    → after.role ≡ Follower → live after.machine.server.state ≡ false → o.knows.sequence + 1 ≤ after.knows.sequence
    → All (IsReleaseOr (o.knows.sequence + 1) revision) outs → All (MayPut G o after) outs
released G o after revision outs held role ended counted all = All-weaker (IsReleaseOr (o.knows.sequence + 1) revision)
    (MayPut G o after) (release-may G o after revision held role ended counted) outs all

pub fronts-may : (G : Grounds) (o after : Outcome) → Fronts o after → AllMay G o after
fronts-may G o after (Silent all) = front G o after after.outputs all
fronts-may G o after (Released revision held alone role ended counted all) =
    released G o after revision after.outputs held role ended counted all

pub before-may : (G : Grounds) (now : Ticks) (o : Outcome) → IsAlone o → All IsSilent o.outputs
    → AllMay G o (reconciled now o)
before-may G now o alone silent = fronts-may G o (reconciled now o) (before-fronts now o alone silent)

-- a promotion that is postponed sends nothing
pub postpones-silent : (held : ℕ) (o : Outcome) → All IsSilent o.outputs → All IsSilent (postpones held o).outputs
postpones-silent held o silent = silently (disarmed o.machine.watchdog.deadline o.outputs)
    (outputs.Note (notings.Agent agent_notes.PostponesPromotion))
    (silent-disarmed o.machine.watchdog.deadline o.outputs silent) tt

-- a read is sent under the next number
pub reads-new : (G : Grounds) (now : Ticks) (o b : Outcome) → o.knows.sequence ≤ b.knows.sequence
    → SendsNew G o (reading now (record b { knows = turn_noted now b.knows })) (b.knows.sequence + 1) bodies.Read
reads-new G now o b later = record { later = omega (arith, later); counted = omega arith; asks = tt }

pub overdue-none : (now : Ticks) (o : Outcome) → o.knows.waited ≡ None → overdue now o ≡ o
overdue-none now o is = rw is refl

-- a question is sent under the next number
pub sends : (G : Grounds) (o after : Outcome) (b : ℕ) (body : Body) → o.knows.sequence ≤ b
    → after.knows.sequence ≡ b + 1 → MayAskStore G o after (b + 1) body → SendsNew G o after (b + 1) body
sends G o after b body later counted asks =
    record { later = omega (arith, later); counted = omega (arith, counted); asks = asks }

-- what an operator is answered is silent
pub told-fronts : (o b : Outcome) → Fronts o b → ReplyRows (Fronts o) b
told-fronts o b fronts = record { kept = fronts; answers = λ request told. answers-front request told fronts }
  where
    answers-front : (request : ℕ) (told : Tells) → Fronts o b → Fronts o (answering request told b)
    answers-front request told (Silent all) =
        Silent (silently b.outputs (outputs.Tell (tellings.Told request told)) all tt)
    answers-front request told (Released revision held alone role ended counted all) =
        Released revision held alone role ended counted
        (All-push (IsReleaseOr (o.knows.sequence + 1) revision) b.outputs
        (outputs.Tell (tellings.Told request told)) all (inl tt))

-- what precedes an input leaves what a create expects
abbrev pub ComparesAs : Outcome → Outcome → Type 0
ComparesAs o x = failsafe_compared x.knows ≡ failsafe_compared o.knows

pub before-compares : (now : Ticks) (o : Outcome) → ComparesAs o (reconciled now o)
before-compares now o = before-by (ComparesAs o) now o (record {
  kept = λ _. refl;
  leader = λ _ _ _. refl;
  ending = λ held why _ _. ended-compares why held o;
  follower = λ _ _. refl;
  holder = λ _ _ _. refl;
  ready = λ _ _ _. refl;
  unleased = λ _ _. refl;
})
  where
    ended-compares : (why : Why) (held : ℕ) (x : Outcome) → ComparesAs x (has_ended why held x)
    ended-compares HandOver held x = refl
    ended-compares Lost held x = refl

-- who compares positions may create as it compares
abbrev pub CreatesAsCompared : Grounds → Outcome → Type 0
CreatesAsCompared G o = awaits_others o.knows.waited ≡ true → G.creates (failsafe_compared o.knows)

pub creates-behind : (G : Grounds) (o b : Outcome) → b.knows.waited ≡ o.knows.waited → ComparesAs o b
    → CreatesAsCompared G o → CreatesAsCompared G b
creates-behind G o b waits same creates awaits =
    subst G.creates (sym same) (creates (ap (λ (w : Option PendingQuestion). awaits_others w) (sym waits) ∙ awaits))

-- who is answered sends nothing more
pub told-may : (G : Grounds) (o b : Outcome) → Fronts o b → ReplyRows (AllMay G o) b
told-may G o b fronts = let rows : ReplyRows (Fronts o) b = told-fronts o b fronts in record {
  kept = fronts-may G o b fronts;
  answers = λ request told. fronts-may G o (answering request told b) (rows.answers request told);
}

-- a question may be put behind what precedes an input, and so may the orders of an operator
not-live : (x y : Bool) → (x ≡ true → y ≡ true) → y ≡ false → x ≡ false
not-live true y lives ended = absurd (no-way (sym ended ∙ lives refl))
not-live false y lives _ = refl

pub front-of : (G : Grounds) (o b after : Outcome) → Fronts o b → b.knows.sequence ≤ after.knows.sequence
    → after.role ≡ b.role → (live after.machine.server.state ≡ true → live b.machine.server.state ≡ true)
    → All (MayPut G o after) b.outputs
front-of G o b after (Silent all) later same lives = front G o after b.outputs all
front-of G o b after (Released revision held alone role ended counted all) later same lives =
    released G o after revision b.outputs held (same ∙ role)
    (not-live (live after.machine.server.state) (live b.machine.server.state) lives ended)
    (omega (arith, counted, later)) all
