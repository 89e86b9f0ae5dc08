-- A run: which steps it plays, what happens in it, and its text.
use Rattle.std.specs.Prelude.{ℕ, ◌≡◌, Bool, false, List, [], ◌∷◌, ◌++◌}
use Rattle.event_book.specs.declared.event.Event.{Event}
use Rattle.event_book.specs.Text.{lines_of}
use Rattle.script_model.specs.Script.{HeadText, ScriptText}
use Rattle.cluster_model.specs.Steps.{steps_of}
use Rattle.script_model.specs.declared.line.Command.{Command}
use Rattle.script_model.specs.declared.line.Command.TheVariants as commands
use Rattle.cluster_model.specs.declared.step.Step.{Step}
use Rattle.cluster_model.specs.declared.step.Step.TheVariants as steps
use Rattle.cluster_model.specs.Cluster.{cluster_over}
use Rattle.cluster_model.specs.Next.{next_events, run_events}
use Rattle.cluster_model.specs.Starting.{cluster_of}
use Rattle.cluster_model.specs.State.{Cluster}
use Rattle.summary_model.specs.declared.answers.Closing.{Closing}
use Rattle.summary_model.specs.Sights.{SummaryFacts, noted_steps}
use Rattle.summary_model.specs.SummaryText.{closing_text}
use Rattle.run_model.specs.Watches.{first_summary}

-- what is played: a cluster from its beginning on, and the steps that it takes
pub record Played : Type 0 where
  pub head : HeadText
  pub steps : List Step

-- what is played of a script
abbrev pub played_of : ScriptText → Played
played_of script = record { head = script.head; steps = steps_of script.body }

-- the book of a run: what happens from its head on, step by step
abbrev pub run_of : Played → List Event
run_of played = run_events (cluster_of played.head) played.steps

-- the events of each of these steps, from a cluster on
abbrev pub events_by_step : Cluster → List Step → List (List Event)
events_by_step cluster [] = []
events_by_step cluster (step ∷ more) =
    let events = next_events cluster step in
    events ∷ events_by_step (cluster_over cluster events) more

-- whether messages are traced after a command
abbrev pub traced_by : Bool → Command → Bool
traced_by trace (commands.Trace on) = on
traced_by trace _ = trace

-- whether messages are traced after a step
abbrev pub traced_after : Bool → Step → Bool
traced_after trace (steps.Command command) = traced_by trace command
traced_after trace _ = trace

-- whether messages are traced after these steps
abbrev pub traced_over : Bool → List Step → Bool
traced_over trace [] = trace
traced_over trace (step ∷ more) = traced_over (traced_after trace step) more

-- the lines of these steps, from a cluster on
abbrev pub printed_from : Cluster → Bool → List Step → List ℕ
printed_from cluster trace [] = []
printed_from cluster trace (step ∷ more) =
    let events = next_events cluster step in
    lines_of trace events ++ printed_from (cluster_over cluster events) (traced_after trace step) more

-- what the summary keeps after these steps, from a cluster on
abbrev pub noted_from : SummaryFacts → Cluster → List Step → SummaryFacts
noted_from summary cluster steps = noted_steps summary (events_by_step cluster steps)

-- how a run closes
abbrev pub closing_of_run : Played → Closing
closing_of_run played = (noted_from (first_summary played.head) (cluster_of played.head) played.steps).watch.closing

-- the lines of a run, those of messages only while they are traced
abbrev pub lines_of_run : Played → List ℕ
lines_of_run played = printed_from (cluster_of played.head) false played.steps

-- the closing summary of a run
abbrev pub summary_of_run : Played → List ℕ
summary_of_run played = closing_text (closing_of_run played)

-- the text of a run: its lines, and then the summary
abbrev pub text_of_run : Played → List ℕ
text_of_run played = lines_of_run played ++ summary_of_run played

-- this text is the lines of a run up to the end of one of its steps
pub record EndsAtStep (played : Played) (text : List ℕ) : Type 0 where
  pub done : List Step
  pub more : List Step
  pub parts : done ++ more ≡ played.steps
  pub lines : text ≡ lines_of_run (record { head = played.head; steps = done })
