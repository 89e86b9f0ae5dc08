-- Steps that a world takes one after another, with their events step by step.
use Rattle.std.proofs.Common.{◌≡◌, ℕ, ◌+◌, ◌≤◌, Ok, Err, Result, subst, List, [], ◌∷◌, ◌++◌, length, map, refl, ap, sym, ◌∙◌, append-nil, append_assoc}
use Rattle.std.specs.Prelude.{OnOk}
use Rattle.std.proofs.lemmas.List.{length-append, map-append}
use Rattle.pat_base.specs.declared.member_id.MemberId.{MemberId}
use Rattle.script_model.specs.Script.{IsMember}
use Rattle.event_book.specs.declared.member.Member.{Member}
use Rattle.event_list.specs.Listed.{Listed, traced_list, ◌+++◌}
use Rattle.cluster_model.specs.declared.step.Step.{Step}
use Rattle.cluster_model.specs.Cluster.{cluster_over}
use Rattle.cluster_model.specs.Next.{next_events, run_events}
use Rattle.cluster_model.specs.Starting.{cluster_of}
use Rattle.cluster_model.specs.State.{Cluster}
use Rattle.cluster_model.specs.Steps.{names_in}
use Rattle.world_model.specs.Emits.{Emits}
use Rattle.world_model.proofs.Taking.{cluster_over-append, members-stay}
use Rattle.world_model.specs.Room.{step_cost}
use Rattle.run_model.specs.Run.{Played, events_by_step, run_of}
use Rattle.simulation.specs.Book.{StandsFor}
use Rattle.simulation.specs.Steps.{HasStepsLeft, TookSteps, WorldFacts}
use Rattle.run_model.proofs.Steps.{run_events-both}
use Rattle.simulation.proofs.Standing.{is-stands}
use Rattle.simulation.proofs.Stepping.{TookSteps-none, TookSteps-then, steps-left-behind, steps-left-fewer}
use Rattle.pat_serve.specs.Serving.{Brings, GoesOn}

events_by_step-append : (world : Cluster) (steps rest : List Step)
    → events_by_step world (steps ++ rest)
    ≡ events_by_step world steps ++ events_by_step (cluster_over world (run_events world steps)) rest
events_by_step-append world [] rest = refl
events_by_step-append world (step ∷ steps) rest =
    let events = next_events world step in
    let next = cluster_over world events in
    ap (λ l. events ∷ l) (events_by_step-append next steps rest)
    ∙ ap (λ c. events ∷ (events_by_step next steps ++ events_by_step c rest))
    (sym (cluster_over-append world events (run_events next steps)))

run-over : (world : Cluster) (steps rest : List Step)
    → cluster_over (cluster_over world (run_events world steps))
    (run_events (cluster_over world (run_events world steps)) rest)
    ≡ cluster_over world (run_events world (steps ++ rest))
run-over world steps rest =
    sym (cluster_over-append world (run_events world steps)
    (run_events (cluster_over world (run_events world steps)) rest))
    ∙ ap (cluster_over world) (sym (run_events-both world steps rest))

-- where no step was taken, for want of memory
pub none-brought : {X E : Type 0} (result : Result X E) (P : Type 0) (error : E) → result ≡ Err error → OnOk result P
none-brought result P error is = rw is tt

-- they were taken, whatever is answered
pub brought-anyhow : {X E P : Type 0} (result : Result X E) → P → OnOk result P
brought-anyhow (Ok x) p = p
brought-anyhow (Err e) p = tt

-- the steps by another word
pub brings-so : {before after : WorldFacts} {had has : List Listed} {steps same : List Step} → steps ≡ same
    → Brings before after had has steps → Brings before after had has same
brings-so {before = before} {after = after} {had = had} {has = has} is b =
    subst (λ (l : List Step). Brings before after had has l) is b

-- the members stay
brings-members : (before after : WorldFacts) (had has : List Listed) (steps : List Step)
    → Brings before after had has steps → after.cluster.facts.members ≡ before.cluster.facts.members
brings-members before after had has steps b =
    ap (λ (c : Cluster). c.facts.members) b.cluster ∙ members-stay before.cluster (run_events before.cluster steps)

-- so whoever is declared is so still
pub brings-declared : (before after : WorldFacts) (had has : List Listed) (steps : List Step) (id : MemberId)
    → Brings before after had has steps → IsMember (names_in before.cluster.facts.members) id
    → IsMember (names_in after.cluster.facts.members) id
brings-declared before after had has steps id b is =
    subst (λ (l : List Member). IsMember (names_in l) id) (sym (brings-members before after had has steps b)) is

-- and the steps that weren't taken are left
pub room-behind : (before after : WorldFacts) (had has : List Listed) (steps : List Step) (whole more : ℕ)
    → Brings before after had has steps → length steps + more ≤ whole → HasStepsLeft before whole
    → HasStepsLeft after more
room-behind before after had has steps whole more b fits room = steps-left-behind before after
    (length steps) more b.taken (steps-left-fewer before whole (length steps + more) fits room)

-- no step was taken yet
pub Brings-none : (world : WorldFacts) (had : List Listed) → Brings world world had had []
Brings-none world had = record { cluster = refl; taken = TookSteps-none world; events = sym (append-nil had) }

-- one step was taken, and its events added as they are
pub Brings-one : (before after : WorldFacts) (had has : List Listed) (none brought : Listed) (step : Step)
    → none ≡ traced_list []
    → Emits before.cluster after.cluster none brought (next_events before.cluster step) step_cost
    → TookSteps before after 1
    → has ≡ had ++ brought ∷ [] → Brings before after had has (step ∷ [])
Brings-one before after had has none brought step empty took taken pushed =
    let all : brought ≡ traced_list (next_events before.cluster step) = took.event
    ∙ ap (λ (l : Listed). l +++ next_events before.cluster step) empty in
    record {
      cluster = took.state ∙ ap (cluster_over before.cluster) (sym (append-nil (next_events before.cluster step)));
      taken = taken;
      events = pushed ∙ ap (λ l. had ++ l ∷ []) all;
    }

-- some steps were taken, and then others
pub Brings-then : (first second third : WorldFacts) (had mid has : List Listed) (steps rest : List Step)
    → Brings first second had mid steps → Brings second third mid has rest → Brings first third had has (steps ++ rest)
Brings-then first second third had mid has steps rest p q = record {
  cluster = q.cluster ∙ ap (λ w. cluster_over w (run_events w rest)) p.cluster ∙ run-over first.cluster steps rest;
  taken = TookSteps-then first second third (length steps) (length rest) (length (steps ++ rest))
      (sym (length-append steps rest)) p.taken q.taken;
  events =
      q.events ∙ ap (λ l. l ++ map traced_list (events_by_step second.cluster rest)) p.events
      ∙ append_assoc had (map traced_list (events_by_step first.cluster steps))
      (map traced_list (events_by_step second.cluster rest))
      ∙ ap (λ l. had ++ l)
      (sym (map-append traced_list (events_by_step first.cluster steps) (events_by_step second.cluster rest)))
      ∙ ap (λ l. had ++ map traced_list l)
      (ap (λ w. events_by_step first.cluster steps ++ events_by_step w rest) p.cluster
      ∙ sym (events_by_step-append first.cluster steps rest));
}

-- the run that brought the world here goes on by these steps
pub goes-on : (before after : WorldFacts) (had has : List Listed) (steps : List Step)
    → Brings before after had has steps → (played : Played)
    → StandsFor (cluster_of played.head) (run_of played) before.cluster
    → GoesOn played before.cluster after.cluster had has
goes-on before after had has steps b played stands =
    let start = cluster_of played.head in
    record {
      more = steps;
      events = b.events;
      stands = is-stands start (run_of (record { head = played.head; steps = played.steps ++ steps })) after.cluster
          (b.cluster ∙ ap (λ (w : Cluster). cluster_over w (run_events w steps)) stands.world_is
          ∙ run-over start played.steps steps);
    }
