-- What many ticks of an idle cluster leave.
use Rattle.std.proofs.Common.{◌≡◌, ℕ, ◌+◌, ◌*◌, ◌≤◌, ◌<◌, List, [], ◌++◌, length, replicate, zero, suc, arith, ap, sym, subst, ◌∙◌}
use Rattle.event_book.specs.declared.event.Event.{Event}
use Rattle.event_book.specs.declared.event.EventKind.TheVariants as kinds
use Rattle.event_list.specs.Listed.{Listed}
use Rattle.cluster_model.specs.declared.step.Step.{Step}
use Rattle.cluster_model.specs.declared.step.Step.TheVariants as steps
use Rattle.cluster_model.specs.Acknowledging.{AreAcknowledged}
use Rattle.cluster_model.specs.Cluster.{cluster_after, cluster_over}
use Rattle.cluster_model.specs.Next.{next_events, run_events}
use Rattle.cluster_model.specs.Parts.{events_then}
use Rattle.cluster_model.specs.Starting.{cluster_of}
use Rattle.cluster_model.specs.State.{Cluster}
use Rattle.cluster_model.specs.Ticking.{tick_events}
use Rattle.simulation.specs.Book.{StandsFor, left_by}
use Rattle.world_model.specs.Emits.{Emits}
use Rattle.world_model.specs.Idle.{BringsTicks, IsIdleBefore, IsIdleIn, NothingEnds, NothingIsDue, at_moment}
use Rattle.pat_world.specs.OneWriter.{KeepsOneWriter}
use Rattle.world_model.specs.Room.{HasRoomFor, step_cost, tick_cost}
use Rattle.lease_runs.proofs.EveryRun.{runs-one}
use Rattle.run_model.proofs.Steps.{run_events-both}
use Rattle.world_model.proofs.Idling.{idle-after, idle-at, idle-ends, idle-ticks, next-idle, tick-idle, ticked-idle}
use Rattle.world_model.proofs.Rooms.{HasRoom-fewer}
use Rattle.simulation.proofs.Standing.{is-stands}
use Rattle.world_model.proofs.Stillness.{tick-alone}
use Rattle.world_model.proofs.Taking.{Emits-weaker, cluster_over-append}

-- each step brings its tick and nothing else
pub brings-ticks : (step : Step) (cluster : Cluster) (later count : ℕ) → cluster.facts.clock + count ≤ later
    → (0 < count → IsIdleIn step later cluster) → BringsTicks cluster step count
unfolding BringsTicks
brings-ticks step cluster later zero h idle = tt
brings-ticks step cluster later (suc count) h idle =
    let now = idle (omega arith) in
    let first = next-idle step cluster later (omega (arith, h)) now in
    let left : cluster_over cluster (next_events cluster step) ≡ cluster_after cluster kinds.Tick =
    ap (cluster_over cluster) first in (
      first,
      subst (λ (c : Cluster). BringsTicks c step count) (sym left)
          (brings-ticks step (cluster_after cluster kinds.Tick) later count (omega (arith, h))
          (λ some. idle-after step cluster later (omega (arith, h)) now)),
    )

-- and so many of them leave the cluster as it is, but for the clock
pub passed : (step : Step) (cluster : Cluster) (later count : ℕ) → cluster.facts.clock + count ≤ later
    → (0 < count → IsIdleIn step later cluster)
    → cluster_over cluster (run_events cluster (replicate count step)) ≡ at_moment cluster (cluster.facts.clock + count)
passed step cluster later zero h idle =
    let same : cluster.facts.clock ≡ cluster.facts.clock + 0 = omega arith in
    ap (at_moment cluster) same
passed step cluster later (suc count) h idle =
    let now = idle (omega arith) in
    let ticked = cluster_after cluster kinds.Tick in
    let first = next-idle step cluster later (omega (arith, h)) now in
    let moment : cluster.facts.clock + 1 + count ≡ cluster.facts.clock + suc count = omega arith in
    ap (λ (es : List Event).
    cluster_over cluster (events_then cluster es (λ after. run_events after (replicate count step))))
    first
    ∙ passed step ticked later count (omega (arith, h)) (λ some. idle-after step cluster later (omega (arith, h)) now)
    ∙ ap (λ (c : Cluster). at_moment c (cluster.facts.clock + 1 + count))
    (ticked-idle cluster later (omega (arith, h)) (idle-ends step cluster later now))
    ∙ ap (at_moment cluster) moment

-- which takes the room of so many
pub room-passed : (cluster : Cluster) (count more : ℕ) → HasRoomFor cluster (count + more)
    → HasRoomFor (at_moment cluster (cluster.facts.clock + count)) more
room-passed cluster count more has =
    let fewer = HasRoom-fewer cluster (step_cost * (count + more)) (step_cost * more) (omega arith) has.room in
    record {
      room = record {
        clock = omega (arith, has.room.clock);
        revision = fewer.revision;
        sent = fewer.sent;
        runs = fewer.runs;
        numbers = fewer.numbers;
        agents = fewer.agents;
        timelines = fewer.timelines;
        remote = fewer.remote;
        commits = fewer.commits;
      };
    }

-- a tick with which nothing ends is all that such a step brings
pub step-took : (cluster after : Cluster) (had has : Listed) (step : Step)
    → IsIdleIn step (cluster.facts.clock + 1) cluster → Emits cluster after had has (tick_events cluster) tick_cost
    → Emits cluster after had has (next_events cluster step) step_cost
step-took cluster after had has step idle took =
    let same : tick_events cluster ≡ next_events cluster step =
    tick-idle cluster (cluster.facts.clock + 1) (omega arith) (idle-ends step cluster (cluster.facts.clock + 1) idle)
    ∙ sym (next-idle step cluster (cluster.facts.clock + 1) (omega arith) idle) in
    Emits-weaker cluster after had has (next_events cluster step) tick_cost step_cost
    (subst (λ (es : List Event). Emits cluster after had has es tick_cost) same took) (omega arith)

-- what is so before a moment is so whatever the clock says
pub idle-before-at : (step : Step) (moment now : ℕ) (cluster : Cluster) → IsIdleBefore step moment cluster
    → IsIdleBefore step moment (at_moment cluster now)
idle-before-at step moment now cluster idle = λ later h. idle-at step cluster later now (idle later h)

-- before no moment
pub idle-before-none : (step : Step) (cluster : Cluster) → IsIdleBefore step 0 cluster
idle-before-none step cluster = λ now h. absurd (omega (arith, h))

-- steps of a world that a run brought keep one writer
pub steps-keep : (world : Cluster) (more : List Step) → KeepsOneWriter world (run_events world more)
steps-keep world more = record {
  sole = λ head steps is stands front rest whole met.
      let start = cluster_of head in
      let next : run_events world more ≡ run_events (cluster_over start (run_events start steps)) more =
      ap (λ (c : Cluster). run_events c more) stands.world_is in
      runs-one head is (steps ++ more) front rest
      (whole ∙ ap (λ (es : List Event). run_events start steps ++ es) next ∙ sym (run_events-both start steps more))
      met.timely met.hands_off;
}

-- and add their events to the book
pub steps-stand : (start : Cluster) (book : List Event) (world new : Cluster) (more : List Step)
    → new ≡ cluster_over world (run_events world more) → StandsFor start book world
    → StandsFor start (book ++ run_events (left_by start book) more) new
steps-stand start book world new more is stands =
    is-stands start (book ++ run_events (left_by start book) more) new
    (is ∙ ap (λ (w : Cluster). cluster_over w (run_events w more)) stands.world_is
    ∙ sym (cluster_over-append start book (run_events (left_by start book) more)))

-- so many ticks later
pub idle-passed : (step : Step) (moment now : ℕ) (stage later : Cluster) → later ≡ at_moment stage now
    → IsIdleBefore step moment stage → IsIdleBefore step moment later
idle-passed step moment now stage later same idle =
    subst (IsIdleBefore step moment) (sym same) (idle-before-at step moment now stage idle)

-- a step of the default schedule brought one event: the cluster is idle before the moment at which something is due
pub idle-found : (before after : Cluster) (had has : Listed) (read : Step) (moment count : ℕ)
    → (0 < moment → read ≡ steps.Scheduled) → (0 < moment → count ≡ 1)
    → ((now : ℕ) → now < moment → NothingIsDue now after)
    → had.items ≡ [] → length has.items ≡ count → Emits before after had has (next_events before read) step_cost
    → AreAcknowledged after.facts.members after.facts.servers → IsIdleBefore steps.Scheduled moment after
idle-found before after had has read moment count scheduled one due none long took done = λ now h.
    let some : 0 < moment = omega (arith, h) in
    let as_scheduled =
    subst (λ (s : Step). Emits before after had has (next_events before s) step_cost) (scheduled some) took in
    record {
      due = due now h;
      moves = tick-alone before after had has step_cost none (long ∙ one some) as_scheduled done;
    }

-- plain ticks bring nothing before the moment at which something ends, since no commit is left that may be acknowledged
pub ticks-idle-found : (after : Cluster) (moment : ℕ) → ((now : ℕ) → now < moment → NothingEnds now after)
    → AreAcknowledged after.facts.members after.facts.servers → IsIdleBefore steps.Tick moment after
ticks-idle-found after moment ends done = λ now h. record { ends = ends now h; commits = done }

-- where steps of the default schedule bring nothing before a moment, plain ticks don't either
pub ticks-idle-before : (moment : ℕ) (cluster : Cluster) → IsIdleBefore steps.Scheduled moment cluster
    → IsIdleBefore steps.Tick moment cluster
ticks-idle-before moment cluster idle = λ now h. idle-ticks cluster now (idle now h)
