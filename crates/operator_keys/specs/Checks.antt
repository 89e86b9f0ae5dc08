-- The checks of switchovers and failovers: the failover key that a request gives, or what refuses it.
use Rattle.std.specs.Prelude.{ℕ, Bool, true, false, List, Option, Some, None, Result, Ok, Err}
use Rattle.std.specs.Option.{option_copied}
use Rattle.store_keys.specs.declared.value.FailoverKey.{FailoverKey}
use Rattle.serde_json.specs.Data.{Data}
use Rattle.cluster_view.specs.declared.view.AgentView.{AgentView}
use Rattle.cluster_view.specs.Snapshots.{SnapshotFacts}
use Rattle.operator_answers.specs.declared.answer_text.Text.TheVariants as texts
use Rattle.operator_keys.specs.declared.asked.Asked.{Asked}
use Rattle.operator_keys.specs.declared.refusal.Refused.{Refused}
use Rattle.operator_keys.specs.Asking.{asked_by, member_if}
use Rattle.operator_keys.specs.Bodies.{body_of}
use Rattle.operator_keys.specs.Refusals.{unless_refused, on_ok}
use Rattle.operator_answers.specs.Statuses.{service_unavailable}
use Rattle.operator_keys.specs.Rules.{switchover_refusal, failover_refusal}

-- the snapshot, unless another request waits
abbrev pub unless_waits : Bool → SnapshotFacts → Result SnapshotFacts Refused
unless_waits false seen = Ok seen
unless_waits true seen = Err (record { status = service_unavailable; text = texts.AnotherWaits })

-- the snapshot, if there is one and no other request waits
abbrev pub seen_if : Option SnapshotFacts → Bool → Result SnapshotFacts Refused
seen_if None waits = Err (record { status = service_unavailable; text = texts.NoStoreAnswer })
seen_if (Some seen) waits = unless_waits waits seen

-- the snapshot by which a request is judged: the newest that the agent accepted, unless another request waits
abbrev pub seen_by : AgentView → Result SnapshotFacts Refused
seen_by view = seen_if (option_copied view.seen) view.waits

-- the key of a switchover: leader and candidate, as the body names them
abbrev pub switchover_key : Asked → FailoverKey
switchover_key asked = record { leader = member_if asked.leader; candidate = member_if asked.candidate }

-- the key of a failover: the candidate alone
abbrev pub failover_key : Asked → FailoverKey
failover_key asked = record { leader = None; candidate = member_if asked.candidate }

-- a switchover that is asked, unless something refuses it
abbrev pub switchover_asked : Asked → SnapshotFacts → Result FailoverKey Refused
switchover_asked asked seen = unless_refused (switchover_refusal asked seen) (switchover_key asked)

-- a failover that is asked, unless something refuses it
abbrev pub failover_asked : Asked → SnapshotFacts → Result FailoverKey Refused
failover_asked asked seen = unless_refused (failover_refusal asked seen) (failover_key asked)

-- a switchover by the body of its request
abbrev pub switchover_by : Data → SnapshotFacts → Result FailoverKey Refused
switchover_by body seen = switchover_asked (asked_by body seen.members) seen

-- a failover by the body of its request
abbrev pub failover_by : Data → SnapshotFacts → Result FailoverKey Refused
failover_by body seen = failover_asked (asked_by body seen.members) seen

-- the key by which a switchover is asked for by this snapshot, or the first of these that refuses
-- it: its body, the want of a snapshot, a request that waits, and the rules of switchovers
abbrev pub switchover_on : Option SnapshotFacts → Bool → List ℕ → Result FailoverKey Refused
switchover_on seen waits bytes = on_ok (body_of bytes) (λ body. on_ok (seen_if seen waits) (switchover_by body))

-- the same by what an agent shows
abbrev pub switchover_of : AgentView → List ℕ → Result FailoverKey Refused
switchover_of view bytes = switchover_on (option_copied view.seen) view.waits bytes

-- the same of a failover, by a snapshot
abbrev pub failover_on : Option SnapshotFacts → Bool → List ℕ → Result FailoverKey Refused
failover_on seen waits bytes = on_ok (body_of bytes) (λ body. on_ok (seen_if seen waits) (failover_by body))

-- the same by what an agent shows
abbrev pub failover_of : AgentView → List ℕ → Result FailoverKey Refused
failover_of view bytes = failover_on (option_copied view.seen) view.waits bytes
