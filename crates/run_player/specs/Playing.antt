-- What a call that plays steps says of its player and of its sink.
use Rattle.std.specs.Prelude.{ℕ, ◌≡◌, ◌-◌, ◌≤◌, ◌++◌, Bool, List, length, replicate, Result, OnOk, IsErrOf}
use Rattle.pat_outside.specs.declared.outside.Sink.{Ghosts}
use Rattle.pat_outside.specs.Outside.{Grew}
use Rattle.pat_outside.specs.Prints.{Prints}
use Rattle.cluster_model.specs.declared.step.Step.{Step}
use Rattle.cluster_model.specs.Cluster.{cluster_over}
use Rattle.cluster_model.specs.Next.{run_events}
use Rattle.cluster_model.specs.State.{Cluster}
use Rattle.world_model.specs.Idle.{BringsTicks}
use Rattle.summary_model.specs.Sights.{SummaryFacts}
use Rattle.simulation.specs.Steps.{TookSteps, WorldFacts}
use Rattle.run_player.specs.declared.player.Player.{Player}
use Rattle.run_printing.specs.declared.print_error.PrintError.{PrintError}
use Rattle.run_printing.specs.declared.print_error.PrintError.TheVariants.{Memory, Write}
use Rattle.run_model.specs.Run.{noted_from, printed_from, traced_over}

-- what is known of a player: its world, whether messages are traced, and what the summary keeps
pub record PlayerFacts : Type 0 where
  pub world : WorldFacts
  pub trace : Bool
  pub summary : SummaryFacts

-- a player of a world of which this is known
abbrev pub player_of : {W : Type 0} → (W → WorldFacts) → Player W → PlayerFacts
player_of facts player = record { world = facts player.world; trace = player.trace; summary = player.summary }

-- the lines of the first of these steps were printed, each step's whole, and nothing else
pub record PrintsWholeSteps {K : Type 0} (sink : Ghosts K) (out then : K) (cluster : Cluster) (trace : Bool)
    (steps : List Step) : Type 0 where
  pub done : List Step
  pub more : List Step
  pub parts : done ++ more ≡ steps
  pub grew : Grew (sink.content out) (sink.content then) (printed_from cluster trace done)

-- the player took these steps: its world, its trace and its summary are what they leave, its world
-- counts them, and their lines were printed; where memory is wanting, those of the first of them, whole
pub record Plays {K X : Type 0} (sink : Ghosts K) (before after : PlayerFacts) (out then : K)
    (result : Result X PrintError) (steps : List Step) : Type 0 where
  pub world : OnOk result
      (after.world.cluster ≡ cluster_over before.world.cluster (run_events before.world.cluster steps))
  pub trace : OnOk result (after.trace ≡ traced_over before.trace steps)
  pub summary : OnOk result (after.summary ≡ noted_from before.summary before.world.cluster steps)
  pub taken : OnOk result (TookSteps before.world after.world (length steps))
  pub printed : Prints sink out then Write result (printed_from before.world.cluster before.trace steps)
  pub whole : IsErrOf result Memory → PrintsWholeSteps sink out then before.world.cluster before.trace steps

-- of so many ticks of one kind the player took some at once, and these are left: the world, which counts
-- the steps, and the summary are what these leave, each of which brought its tick and nothing else
pub record Idles (before after : PlayerFacts) (step : Step) (count left : ℕ) : Type 0 where
  pub within : left ≤ count
  pub ticks : BringsTicks before.world.cluster step (count - left)
  pub world : after.world.cluster
      ≡ cluster_over before.world.cluster (run_events before.world.cluster (replicate (count - left) step))
  pub trace : after.trace ≡ before.trace
  pub summary : after.summary ≡ noted_from before.summary before.world.cluster (replicate (count - left) step)
  pub taken : TookSteps before.world after.world (count - left)
