-- What a run keeps of a steady leader.
use Rattle.std.specs.Prelude.{◌≡◌, ◌++◌, List}
use Rattle.script_model.specs.Script.{HeadText}
use Rattle.event_book.specs.declared.event.Event.{Event}
use Rattle.event_book.specs.declared.member.Member.{Member}
use Rattle.event_book.specs.Writers.{AcceptsWrites}
use Rattle.cluster_model.specs.declared.step.Step.{Step}
use Rattle.cluster_model.specs.Cluster.{cluster_over}
use Rattle.cluster_model.specs.Next.{run_events}
use Rattle.cluster_model.specs.Starting.{cluster_of}
use Rattle.cluster_model.specs.State.{Cluster}
use Rattle.leading_parts.specs.Alone.{LeaveAlone}
use Rattle.leading_runs.specs.Schedule.{KeepSchedule}
use Rattle.leading_runs.specs.Steady.{IsSteady}

-- the cluster that these steps leave
abbrev pub cluster_behind : HeadText → List Step → Cluster
cluster_behind head before = cluster_over (cluster_of head) (run_events (cluster_of head) before)

-- the events of the steps that follow those
abbrev pub events_behind : HeadText → List Step → List Step → List Event
events_behind head before later = run_events (cluster_behind head before) later

-- the member is a steady leader behind the steps that follow, and its server accepts writes at each moment between
pub record LeadsOnOver (head : HeadText) (before later : List Step) (member : Member) : Type 0 where
  pub steady : IsSteady member (cluster_over (cluster_behind head before) (events_behind head before later))
  pub writes : (front rest : List Event) → front ++ rest ≡ events_behind head before later
      → AcceptsWrites (run_events (cluster_of head) before ++ front) member.id.number

-- wherever a run of these steps is cut: who is a steady leader behind the first
-- of them is one over those that follow, up to where these leave it alone
abbrev pub LeadOn : HeadText → List Step → Type 0
LeadOn head steps = (before later rest : List Step) (member : Member) → (before ++ later) ++ rest ≡ steps
    → KeepSchedule later → IsSteady member (cluster_behind head before)
    → LeaveAlone member.id.number (cluster_behind head before) (events_behind head before later)
    → LeadsOnOver head before later member
