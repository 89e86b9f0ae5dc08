-- What a call that serves connections says of its player, of its sink and of its door.
use Rattle.std.specs.Prelude.{ℕ, ◌≡◌, ◌++◌, List, length, Result, Ok, OnOk, IsErrOf}
use Rattle.pat_base.specs.declared.member_id.MemberId.{MemberId}
use Rattle.pat_outside.specs.declared.outside.Sink.{Ghosts as SinkGhosts}
use Rattle.pat_outside.specs.Outside.{Grew}
use Rattle.pat_outside.specs.Prints.{Prints}
use Rattle.cluster_model.specs.declared.step.Step.{Step}
use Rattle.pat_door.specs.declared.door.Door.{Ghosts as DoorGhosts}
use Rattle.serve_model.specs.Connections.{Connection}
use Rattle.simulation.specs.Steps.{TookSteps}
use Rattle.summary_model.specs.SummaryText.{closing_text}
use Rattle.run_player.specs.Playing.{PlayerFacts, Plays, PrintsWholeSteps}
use Rattle.run_serving.specs.Served.{Came}
use Rattle.run_printing.specs.declared.serve_error.ServeError.{ServeError}
use Rattle.run_printing.specs.declared.serve_error.ServeError.TheVariants.{Door, Memory, Write}
use Rattle.run_model.specs.Run.{noted_from, printed_from}
use Rattle.run_model.specs.Visits.{after_steps, served_steps, visits_steps}

-- the lines of these steps were to be printed: they were, or where memory is wanting,
-- those of the first of them, whole, or a front of them; where no connection comes, all
pub record PrintsSteps {K X : Type 0} (sink : SinkGhosts K) (player : PlayerFacts) (out then : K)
    (result : Result X ServeError) (steps : List Step) : Type 0 where
  pub printed : Prints sink out then Write result (printed_from player.world.cluster player.trace steps)
  pub whole : IsErrOf result Memory → PrintsWholeSteps sink out then player.world.cluster player.trace steps
  pub halted : IsErrOf result Door
      → Grew (sink.content out) (sink.content then) (printed_from player.world.cluster player.trace steps)

-- so many connections were to be served: these were, and the player played what they bring
pub record Receives {K D X : Type 0} (sink : SinkGhosts K) (door : DoorGhosts D) (before after : PlayerFacts)
    (out then : K) (was now : D) (result : Result X ServeError) (id : MemberId) (count : ℕ)
    (visitors : List Connection) : Type 0 where
  pub plays : OnOk result
      (Plays {X = Unit {0}} sink before after out then (Ok tt) (visits_steps before.world.cluster id visitors))
  pub prints : PrintsSteps sink before out then result (visits_steps before.world.cluster id visitors)
  pub came : Came door was now result before.world.cluster id count visitors

-- the steps of a script were to be played, then so many connections to be served, and then the closing
-- summary to be printed: the player played these steps, and those that these connections brought
pub record ReceivesAll {K D X : Type 0} (sink : SinkGhosts K) (door : DoorGhosts D)
    (before after : PlayerFacts) (out then : K) (was now : D) (result : Result X ServeError)
    (steps : List Step) (id : MemberId) (count : ℕ) (visitors : List Connection) : Type 0 where
  pub world : OnOk result
      (after.world.cluster ≡ after_steps before.world.cluster (served_steps before.world.cluster steps id visitors))
  pub taken : OnOk result
      (TookSteps before.world after.world (length (served_steps before.world.cluster steps id visitors)))
  pub printed : Prints sink out then Write result
      (printed_from before.world.cluster before.trace (served_steps before.world.cluster steps id visitors)
      ++ closing_text (noted_from before.summary before.world.cluster
      (served_steps before.world.cluster steps id visitors)).watch.closing)
  pub whole : IsErrOf result Memory
      → PrintsWholeSteps sink out then before.world.cluster before.trace
      (served_steps before.world.cluster steps id visitors)
  pub halted : IsErrOf result Door
      → Grew (sink.content out) (sink.content then)
      (printed_from before.world.cluster before.trace (served_steps before.world.cluster steps id visitors))
  pub came : Came door was now result (after_steps before.world.cluster steps) id count visitors
