-- The decision table: what an input makes of an agent, of its machine and of its outputs.
use Rattle.std.specs.Prelude.{ℕ, if◌then◌else◌, List}
use Rattle.pat_base.specs.declared.ticks.Ticks.{Ticks}
use Rattle.lease_store.specs.declared.granted.Granted.{Granted}
use Rattle.cluster_view.specs.Snapshots.{SnapshotFacts}
use Rattle.wal_model.specs.declared.entry.HistoryPoint.{HistoryPoint}
use Rattle.agent_model.specs.declared.heard.Heard.{Heard}
use Rattle.agent_model.specs.declared.heard.Heard.TheVariants.{Wake, ReadAnswered, Granted as HeardGranted, Mismatch, Asked, Answered, FailsafeAsked, FailsafeAnswered, Operated}
use Rattle.agent_model.specs.Agents.{Outcome}
use Rattle.agent_model.specs.Reconciling.{reconciled}
use Rattle.agent_model.specs.Decisions.{granted, refused}
use Rattle.agent_model.specs.Operators.{looked, operates, grants_operator, operator_granted, operator_refused, operated, given_up}
use Rattle.agent_model.specs.Peers.{asked, answered}
use Rattle.agent_model.specs.Snapshots.{read_answered}
use Rattle.agent_model.specs.StayingPrimary.{failsafe_asked, failsafe_answered}
use Rattle.agent_model.specs.Wake.{is_due, woken}

-- what precedes an input's own rows: the role is brought to what is found
-- of the server, and then an operator is answered that waits for this
abbrev pub prepared : Ticks → Heard → Outcome → Outcome
prepared now Wake o = if is_due now o.role o.knows o.machine then given_up now (reconciled now o) else reconciled now o
prepared now (ReadAnswered sequence snapshot) o = looked sequence snapshot (reconciled now o)
prepared now _ o = reconciled now o

-- a request was granted: what an operator wants, or the agent by itself
abbrev pub granted_any : Ticks → ℕ → Granted → SnapshotFacts → Outcome → Outcome
granted_any now sequence grant snapshot o = if grants_operator sequence grant o.knows
    then operator_granted snapshot o.knows.operating o else granted now sequence grant snapshot o

-- a request was refused: what an operator wants, or the agent by itself
abbrev pub refused_any : Ticks → ℕ → Outcome → Outcome
refused_any now sequence o =
    if operates o.knows sequence then operator_refused o.knows.operating o else refused now sequence o

-- an input
abbrev pub step : Ticks → List HistoryPoint → Heard → Outcome → Outcome
step now points Wake o = woken now o
step now points (ReadAnswered sequence snapshot) o =
    read_answered now points sequence snapshot (looked sequence snapshot (reconciled now o))
step now points (HeardGranted sequence grant snapshot) o = granted_any now sequence grant snapshot (reconciled now o)
step now points (Mismatch sequence key found) o = refused_any now sequence (reconciled now o)
step now points (Asked from incarnation sequence) o = asked from incarnation sequence (reconciled now o)
step now points (Answered sequence answer) o = answered now sequence answer (reconciled now o)
step now points (FailsafeAsked from incarnation sequence ttl) o =
    failsafe_asked now from incarnation sequence ttl (reconciled now o)
step now points (FailsafeAnswered from sequence accepted sent) o =
    failsafe_answered now from sequence accepted sent (reconciled now o)
step now points (Operated action) o = operated now action.request action.asked (reconciled now o)
