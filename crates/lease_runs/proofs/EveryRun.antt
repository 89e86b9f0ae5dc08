-- At most one server accepts writes, at every moment of every run up to which the premises are met;
-- and behind each step of such a run who acts is guarded, and failsafe mode is as it is declared.
use Rattle.std.proofs.Common.{ℕ, Bool, Option, subst, ◌≡◌, ◌++◌, List, []}
use Rattle.std.proofs.Math.Path.{fun_ext}
use Rattle.cluster_model.specs.declared.step.Step.{Step}
use Rattle.event_book.specs.declared.event.Event.{Event}
use Rattle.event_book.specs.Writers.{HasOneWriter}
use Rattle.script_model.specs.Script.{HeadText, IsHead}
use Rattle.cluster_model.specs.Cluster.{cluster_over}
use Rattle.cluster_model.specs.Next.{run_events}
use Rattle.cluster_model.specs.Starting.{cluster_of}
use Rattle.event_book.specs.Premises.{IsTimely, IsHandsOff}
use Rattle.lease_model.specs.Modes.{IsDeclaredMode}
use Rattle.lease_model.specs.States.{Acts}
use Rattle.lease_parts.specs.Bridged.{Bridged}
use Rattle.lease_parts.specs.Declaring.{declared_of, works_of}
use Rattle.lease_parts.specs.Guarding.{IsGuarded}
use Rattle.lease_parts.specs.Kept.{MeetsPremises}
use Rattle.lease_parts.specs.Volatile.{machine_in}
use Rattle.lease_parts.proofs.First.{bridged-first}
use Rattle.lease_parts.proofs.Guarding.{acting-guarded}
use Rattle.run_promise.proofs.Members.{few-names}
use Rattle.lease_runs.proofs.Steps.{keeps-run}

pub runs-one : (head : HeadText) → IsHead head → (steps : List Step) (front rest : List Event)
    → front ++ rest ≡ run_events (cluster_of head) steps
    → IsTimely (declared_of head).margin front → IsHandsOff head.config (works_of head) front → HasOneWriter front
runs-one head is steps front rest whole timely hands_off =
    let few = few-names head is in
    (keeps-run head few steps [] (cluster_of head) (bridged-first head few hands_off.unpaused)).inside front rest whole
    (record { timely = timely; hands_off = hands_off })

-- at most one accepts writes also where the premises are read with other functions, which answer alike at each member
pub runs-one-by : (head : HeadText) → IsHead head → (steps : List Step) (front rest : List Event)
    (margin : ℕ → Option ℕ) (works : ℕ → Bool) → front ++ rest ≡ run_events (cluster_of head) steps
    → ((m : ℕ) → margin m ≡ (declared_of head).margin m) → ((m : ℕ) → works m ≡ works_of head m)
    → IsTimely margin front → IsHandsOff head.config works front → HasOneWriter front
runs-one-by head is steps front rest margin works whole margins watched timely hands_off =
    runs-one head is steps front rest whole (subst (λ (f : ℕ → Option ℕ). IsTimely f front) (fun_ext margins) timely)
    (subst (λ (f : ℕ → Bool). IsHandsOff head.config f front) (fun_ext watched) hands_off)

-- behind a run's steps what the law carries holds, where the premises are met
runs-bridged : (head : HeadText) → IsHead head → (steps : List Step)
    → MeetsPremises head (run_events (cluster_of head) steps)
    → Bridged head (run_events (cluster_of head) steps)
    (cluster_over (cluster_of head) (run_events (cluster_of head) steps))
runs-bridged head is steps met =
    let few = few-names head is in
    (keeps-run head few steps [] (cluster_of head) (bridged-first head few met.hands_off.unpaused)).behind met

pub runs-guarded : (head : HeadText) → IsHead head → (steps : List Step)
    → MeetsPremises head (run_events (cluster_of head) steps)
    → (m : ℕ) → Acts (machine_in (cluster_over (cluster_of head) (run_events (cluster_of head) steps)) m)
    → IsGuarded head.config.config.failsafe_mode (cluster_over (cluster_of head) (run_events (cluster_of head) steps)) m
runs-guarded head is steps met = acting-guarded head (run_events (cluster_of head) steps)
    (cluster_over (cluster_of head) (run_events (cluster_of head) steps)) (runs-bridged head is steps met)

pub runs-keep-mode : (head : HeadText) → IsHead head → (steps : List Step)
    → MeetsPremises head (run_events (cluster_of head) steps)
    → IsDeclaredMode head.config.config.failsafe_mode
    (cluster_over (cluster_of head) (run_events (cluster_of head) steps)).facts
runs-keep-mode head is steps met = (runs-bridged head is steps met).matched.failsafe.told
