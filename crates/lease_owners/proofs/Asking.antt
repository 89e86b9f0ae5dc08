-- What an input asks of the leader key it asks by a revision that its agent has.
use Rattle.std.proofs.Common.{ℕ, ◌≡◌, ◌⊎◌, ◌&&◌, Bool, true, List, [], Option, Some, None, All, refl, sym, ap, subst, ◌∙◌, inl, inr}
use Rattle.std.proofs.lemmas.List.Elements.{All-nil, All-weaker}
use Rattle.pat_base.specs.declared.member_id.MemberId.{MemberId}
use Rattle.pat_base.specs.declared.ticks.Ticks.{Ticks}
use Rattle.store_keys.specs.declared.txn.Txn.{Txn}
use Rattle.store_keys.specs.declared.txn.Txn.TheVariants as txns
use Rattle.store_keys.specs.declared.txn.LeaseTxn.TheVariants as lease_txns
use Rattle.lease_store.specs.declared.granted.Granted.{Granted}
use Rattle.cluster_view.specs.Snapshots.{SnapshotFacts}
use Rattle.wal_model.specs.declared.entry.HistoryPoint.{HistoryPoint}
use Rattle.lease_model.specs.Leases.{LeaderSeen}
use Rattle.lease_model.proofs.Tools.{some-is}
use Rattle.event_book.specs.declared.message.Body.{Body}
use Rattle.event_book.specs.declared.message.Body.TheVariants as bodies
use Rattle.agent_model.specs.declared.heard.Heard.{Heard}
use Rattle.agent_model.specs.declared.heard.Heard.TheVariants.{Wake, ReadAnswered, Granted as HeardGranted, Mismatch, Asked, Answered, FailsafeAsked, FailsafeAnswered, Operated as HearsOperator}
use Rattle.agent_model.specs.declared.knowledge.Knowledge.{Knowledge}
use Rattle.agent_model.specs.declared.knowledge.PendingQuestion.{PendingQuestion}
use Rattle.agent_model.specs.declared.machine.Machine.{Machine}
use Rattle.agent_model.specs.declared.output.Output.{Output}
use Rattle.agent_model.specs.declared.output.Output.TheVariants as outputs
use Rattle.agent_model.specs.declared.output.Outgoing.TheVariants as outgoing
use Rattle.agent_model.specs.declared.output.Target.TheVariants as targets
use Rattle.agent_model.specs.declared.who.Who.{Who}
use Rattle.agent_model.specs.Agents.{EndsAlone, Outcome, Ready, RoleFacts, outcome_from}
use Rattle.agent_model.specs.Decisions.{is_lease_of}
use Rattle.agent_model.specs.Reconciling.{reconciled}
use Rattle.agent_model.specs.Table.{granted_any, step}
use Rattle.agent_model.specs.Wake.{woken}
use Rattle.agent_roles.specs.Powers.{BringsNothing, GrantMay, IsAwaitedLease, lease_of}
use Rattle.agent_roles.specs.Powers.GrantMay.{Nothing, Leads, Keeps, Rests, Begins}
use Rattle.agent_roles.specs.Seen.{leader_seen_if}
use Rattle.agent_roles.proofs.Bringing.{answered-brings, asked-brings, before-brings, failsafe-answered-brings, failsafe-asked-brings, operated-brings, read-brings, refusal-brings, wake-brings}
use Rattle.agent_roles.proofs.Fitting.{before-fits}
use Rattle.agent_roles.proofs.GoingOn.{IsAlone, alone-of}
use Rattle.agent_roles.proofs.Granting.{any-granted-may, awaited-lease}
use Rattle.agent_roles.proofs.Knowing.{before-onward}
use Rattle.agent_roles.proofs.Staying.{before-waits}
use Rattle.agent_sending.proofs.MaySend.{AllMay, Grounds, IsSilent, MayAskStore, MayPut, MayTransact}
use Rattle.agent_sending.proofs.Sending.{Decides, answered-may, asked-may, got-may, granted-may, operated-may, refused-may}
use Rattle.agent_sending.proofs.StayingSends.{failsafe-answered-may, failsafe-asked-may, staying, wake-may}
use Rattle.lease_owners.specs.Asking.{AsksFor, AsksOwn, Gives, HasRevision}
use Rattle.lease_owners.specs.Asking.HasRevision.{Read, Held, Given}

-- ---- by which grounds an input sends
-- a revision was that of the lease, or the input gives it
abbrev pub Retains : Heard → Outcome → ℕ → Type 0
Retains heard o revision = (lease_of o.role ≡ Some revision) ⊎ Gives heard o revision

abbrev On : Heard → Outcome → Grounds
On heard o = record {
  gives = Retains heard o;
  creates = λ expected. Unit {0};
  requests = λ sequence ttl. Unit {0};
  acknowledges = λ to run sequence. Unit {0};
  configures = λ config. Unit {0};
  feeds = λ members sequence. Unit {0};
}

had : (heard : Heard) (o after : Outcome) (revision : ℕ) → Retains heard o revision → HasRevision heard o after revision
had heard o after revision (inl was) = Held was
had heard o after revision (inr gives) = Given gives

module _ (heard : Heard) (o after : Outcome) (G : Grounds)
    (owns : (revision : ℕ) → G.gives revision → Retains heard o revision) where
  released : (revision : ℕ) → (lease_of o.role ≡ Some revision) ⊎ G.gives revision → HasRevision heard o after revision
  released revision (inl was) = Held was
  released revision (inr given) = had heard o after revision (owns revision given)

  txn-own : (sequence : ℕ) (txn : Txn) → MayTransact G o after sequence txn → (revision : ℕ)
      → AsksFor revision (bodies.Request txn) → HasRevision heard o after revision
  txn-own sequence (txns.Lease (lease_txns.Renew compared info ttl status row failsafe)) may revision asks =
      subst (HasRevision heard o after) asks (Read may.0)
  txn-own sequence (txns.Lease (lease_txns.Release compared)) may revision asks =
      subst (HasRevision heard o after) asks (released compared may.1)
  txn-own sequence _ may revision asks = absurd asks

  body-own : (sequence : ℕ) (body : Body) → MayAskStore G o after sequence body → (revision : ℕ)
      → AsksFor revision body → HasRevision heard o after revision
  body-own sequence (bodies.Request txn) may revision asks = txn-own sequence txn may revision asks
  body-own sequence _ may revision asks = absurd asks

  put-own : (output : Output) → MayPut G o after output → AsksOwn heard o after output
  put-own (outputs.Message (outgoing.Send targets.Store sequence body)) may = body-own sequence body may.asks
  put-own _ may = tt

  all-own : AllMay G o after → All (AsksOwn heard o after) after.outputs
  all-own may = All-weaker (MayPut G o after) (AsksOwn heard o after) put-own after.outputs may

-- what is waited for behind what precedes an input was so before it
awaited-before : (sequence : ℕ) (grant : Granted) (now : Ticks) (o : Outcome)
    → IsAwaitedLease sequence grant (reconciled now o).knows → IsAwaitedLease sequence grant o.knows
awaited-before sequence grant now o awaited = record {
  waited = awaited.waited;
  is = sym (before-waits now o) ∙ awaited.is;
  decision = awaited.decision;
  mine = subst (λ (w : Who). is_lease_of w.me grant ≡ true) (before-onward None now o).who awaited.mine;
}

decides-given : (sequence : ℕ) (grant : Granted) (now : Ticks) (o : Outcome)
    → Decides sequence grant (reconciled now o) → IsAwaitedLease sequence grant o.knows
decides-given sequence grant now o decides = awaited-before sequence grant now o
    (awaited-lease sequence grant (reconciled now o) decides.0 decides.1 decides.2)

asks-own : (now : Ticks) (points : List HistoryPoint) (heard : Heard) (o : Outcome) → IsAlone o
    → All IsSilent o.outputs → All (AsksOwn heard o (step now points heard o)) (step now points heard o).outputs
asks-own now points Wake o alone silent =
    all-own Wake o (woken now o) (staying now (woken now o) (On Wake o)) (λ revision given. given)
    (wake-may (On Wake o) now o (λ awaits. tt) (λ none members sequence few. tt) alone silent)
asks-own now points (ReadAnswered sequence snapshot) o alone silent =
    let heard : Heard = ReadAnswered sequence snapshot in
    all-own heard o (step now points heard o) (On heard o) (λ revision given. given)
    (got-may (On heard o) now points sequence snapshot o (record { free = λ free. tt; paused = λ paused. tt })
    alone silent)
asks-own now points (HeardGranted sequence grant snapshot) o alone silent =
    let heard : Heard = HeardGranted sequence grant snapshot in
    all-own heard o (step now points heard o) (On heard o) (λ revision given. given)
    (granted-may (On heard o) now sequence grant snapshot o alone (before-onward None now o).last (before-fits now o)
    (λ decides. inr (decides-given sequence grant now o decides, refl))
    (λ revision ready. inl ((before-brings now o).lease revision (ap lease_of ready))) silent)
asks-own now points (Mismatch sequence key found) o alone silent =
    let heard : Heard = Mismatch sequence key found in
    all-own heard o (step now points heard o) (On heard o) (λ revision given. given)
    (refused-may (On heard o) now sequence o alone silent)
asks-own now points (Asked from incarnation sequence) o alone silent =
    let heard : Heard = Asked from incarnation sequence in
    all-own heard o (step now points heard o) (On heard o) (λ revision given. given)
    (asked-may (On heard o) now from incarnation sequence o alone silent)
asks-own now points (Answered sequence answer) o alone silent =
    let heard : Heard = Answered sequence answer in
    all-own heard o (step now points heard o) (On heard o) (λ revision given. given)
    (answered-may (On heard o) now sequence answer o (λ awaits. tt) alone (before-onward None now o).last silent)
asks-own now points (FailsafeAsked from incarnation sequence ttl) o alone silent =
    let heard : Heard = FailsafeAsked from incarnation sequence ttl in
    all-own heard o (step now points heard o) (On heard o) (λ revision given. given)
    (failsafe-asked-may (On heard o) now from incarnation sequence ttl o tt alone silent)
asks-own now points (FailsafeAnswered from sequence accepted sent) o alone silent =
    let heard : Heard = FailsafeAnswered from sequence accepted sent in
    all-own heard o (step now points heard o) (On heard o) (λ revision given. given)
    (failsafe-answered-may (On heard o) now from sequence accepted sent o (λ waited is staying. tt) alone silent)
asks-own now points (HearsOperator action) o alone silent =
    let heard : Heard = HearsOperator action in
    all-own heard o (step now points heard o) (On heard o) (λ revision given. given)
    (operated-may (On heard o) now action o (λ config asked. tt) alone silent)

pub input-asks-own : (now : Ticks) (points : List HistoryPoint) (heard : Heard) (role : RoleFacts) (knows : Knowledge)
    (machine : Machine) → EndsAlone role knows.waited
    → All (AsksOwn heard (outcome_from role knows machine [])
    (step now points heard (outcome_from role knows machine [])))
    (step now points heard (outcome_from role knows machine [])).outputs
input-asks-own now points heard role knows machine ends =
    let o : Outcome = outcome_from role knows machine [] in
    asks-own now points heard o (alone-of o ends) (All-nil IsSilent)

-- ---- what lease it leaves
granted-keeps : (now : Ticks) (sequence : ℕ) (grant : Granted) (snapshot : SnapshotFacts) (o after : Outcome)
    → GrantMay now sequence grant snapshot (reconciled now o) after → (revision : ℕ)
    → lease_of after.role ≡ Some revision → Retains (HeardGranted sequence grant snapshot) o revision
granted-keeps now sequence grant snapshot o after (Nothing brings deadline basis) revision e =
    inl ((before-brings now o).lease revision (brings.lease revision e))
granted-keeps now sequence grant snapshot o after
    (Leads awaited in_time fed basis lease parted known told free armed) revision e =
    inr (awaited-before sequence grant now o awaited, some-is grant.revision revision (sym lease ∙ e))
granted-keeps now sequence grant snapshot o after (Keeps awaited late led same basis lease ready known lives)
    revision e =
    inr (awaited-before sequence grant now o awaited, some-is grant.revision revision (sym lease ∙ e))
granted-keeps now sequence grant snapshot o after (Rests paused awaited rested lease free) revision e =
    inr (awaited-before sequence grant now o awaited, some-is grant.revision revision (sym lease ∙ e))
granted-keeps now sequence grant snapshot o after (Begins was_ready ready same basis lease) revision e =
    inl ((before-brings now o).lease revision (sym lease ∙ e))

pub input-keeps : (now : Ticks) (points : List HistoryPoint) (heard : Heard) (o : Outcome) (revision : ℕ)
    → lease_of (step now points heard o).role ≡ Some revision → Retains heard o revision
input-keeps now points Wake o revision e = inl ((wake-brings now o).lease revision e)
input-keeps now points (ReadAnswered sequence snapshot) o revision e =
    inl ((read-brings now points sequence snapshot o).lease revision e)
input-keeps now points (HeardGranted sequence grant snapshot) o revision e =
    granted-keeps now sequence grant snapshot o (granted_any now sequence grant snapshot (reconciled now o))
    (any-granted-may now sequence grant snapshot (reconciled now o) (before-fits now o)) revision e
input-keeps now points (Mismatch sequence key found) o revision e =
    inl ((refusal-brings now sequence o).lease revision e)
input-keeps now points (Asked from incarnation sequence) o revision e =
    inl ((asked-brings now from incarnation sequence o).lease revision e)
input-keeps now points (Answered sequence answer) o revision e =
    inl ((answered-brings now sequence answer o).lease revision e)
input-keeps now points (FailsafeAsked from incarnation sequence ttl) o revision e =
    inl ((failsafe-asked-brings now from incarnation sequence ttl o).lease revision e)
input-keeps now points (FailsafeAnswered from sequence accepted sent) o revision e =
    inl ((failsafe-answered-brings now from sequence accepted sent o).lease revision e)
input-keeps now points (HearsOperator action) o revision e = inl ((operated-brings now action o).lease revision e)

pub input-keeps-as : (now : Ticks) (points : List HistoryPoint) (heard : Heard) (role : RoleFacts) (knows : Knowledge)
    (machine : Machine) (revision : ℕ)
    → lease_of (step now points heard (outcome_from role knows machine [])).role ≡ Some revision
    → (lease_of role ≡ Some revision) ⊎ Gives heard (outcome_from role knows machine []) revision
input-keeps-as now points heard role knows machine revision e =
    input-keeps now points heard (outcome_from role knows machine []) revision e
