use Rattle.std.proofs.Common.{◌+◌, ◌*◌, ◌∷◌, ◌∙◌, Err, length, ap, refl, []}
use Rattle.std.proofs.lemmas.Result.{err_from_is_err_and}
use Rattle.cluster_model.specs.Starting.{cluster_of}
use Rattle.cluster_model.specs.State.{Cluster}
use Rattle.cluster_model.specs.Steps.{names_in, steps_of}
use Rattle.serve_model.specs.Connections.{connection_cost}
use Rattle.simulation.proofs.Stepping.{steps-left-fewer}
use Rattle.world_model.proofs.Declaring.{names-start}
use Rattle.world_model.specs.Room.{most_steps}
use Rattle.run_player.specs.Playing.{player_of}
use Rattle.pat_door.specs.Doors.{Opened}
use Rattle.run_printing.specs.declared.serve_error.ServeError.TheVariants.{Memory}
use Rattle.run_model.specs.Visits.{after_steps}
use Rattle.run_serving.proofs.Apart.{apart-all, apart-none, apart-so, apart-stop}
use Rattle.run_serving.proofs.Closing.{serves-all, serves-none, serves-part}
use Rattle.run_serving.proofs.serving.serve.Goals as goal
use Rattle.run_model.specs.Watches.{first_summary}

pub returns-in_err-player : goal.returns-in_err-player
returns-in_err-player g c =
    let p = err_from_is_err_and c.from_residual.result c.from_residual.ensures.1 in (
      [],
      serves-none g.K.Sink g.D.Door g.W.Simulation.facts c.args.out.now c.args.door.now c.from_residual.result
          c.args.script c.args.service.now.member c.args.service.now.count (p.1 ∙ ap Err p.2),
      apart-stop g.D.Door c.args.door.now c.args.door.now Memory c.from_residual.result _ c.args.service.now.member
          (Opened c.args.service.now.address.now ∷ []) [] (p.1 ∙ ap Err p.2)
          (apart-none {X = Unit {0}} g.D.Door c.args.door.now Memory _ c.args.service.now.member
          (Opened c.args.service.now.address.now ∷ [])),
    )

pub receive_all-requires-clause-room : goal.receive_all-requires-clause-room
receive_all-requires-clause-room g c =
    steps-left-fewer (player_of g.W.Simulation.facts c.in_ok-player.player).world most_steps
    (length (steps_of c.args.script.body) + connection_cost * c.args.service.now.count) c.requires.room
    c.in_ok-player.ensures.room

pub receive_all-requires-clause-members : goal.receive_all-requires-clause-members
receive_all-requires-clause-members g c =
    let start = c.in_ok-player.ensures.world ∙ ap (λ h. cluster_of h) c.head.ensures.value in
    ap (λ (w : Cluster). names_in w.facts.members) start
    ∙ names-start c.args.script.head (c.head.ensures.script).head.few

pub returns-in-Ok : goal.returns-in-Ok
returns-in-Ok g c =
    let first = c.in_ok-player.ensures in
    let player = (player_of g.W.Simulation.facts c.in_ok-player.player) in
    let r = c.in-Ok.ensures in (
      r.0,
      serves-all g.K.Sink g.D.Door g.W.Simulation.facts player
          (player_of g.W.Simulation.facts c.receive_all.new.player) c.args.out.now c.receive_all.new.out
          c.args.door.now c.receive_all.new.door c.args.script c.args.service.now.member c.args.service.now.count r.0
          (first.world ∙ ap (λ h. cluster_of h) c.head.ensures.value) first.trace
          (first.summary ∙ ap (λ h. first_summary h) c.head.ensures.value)
          c.into_world.result first.steps first.room first.counted c.requires.room
          (ap g.W.Simulation.facts c.into_world.ensures) r.1,
      apart-all g.D.Door c.args.door.now c.receive_all.new.door tt c.into_world.result _ c.args.service.now.member
          (Opened c.args.service.now.address.now ∷ []) r.0
          (apart-so (ap (λ w. after_steps w (steps_of c.args.script.body))
          (first.world ∙ ap (λ h. cluster_of h) c.head.ensures.value)) r.2),
    )

pub returns-in-Err : goal.returns-in-Err
returns-in-Err g c =
    let first = c.in_ok-player.ensures in
    let player = (player_of g.W.Simulation.facts c.in_ok-player.player) in
    let r = c.in-Err.ensures in (
      r.0,
      serves-part g.K.Sink g.D.Door g.W.Simulation.facts player
          (player_of g.W.Simulation.facts c.receive_all.new.player) c.args.out.now c.receive_all.new.out
          c.args.door.now c.receive_all.new.door c.args.script c.args.service.now.member c.args.service.now.count r.0
          (first.world ∙ ap (λ h. cluster_of h) c.head.ensures.value) first.trace
          (first.summary ∙ ap (λ h. first_summary h) c.head.ensures.value)
          c.in-Err.error r.1,
      apart-stop g.D.Door c.args.door.now c.receive_all.new.door c.in-Err.error (Err c.in-Err.error) _
          c.args.service.now.member (Opened c.args.service.now.address.now ∷ []) r.0 refl
          (apart-so (ap (λ w. after_steps w (steps_of c.args.script.body))
          (first.world ∙ ap (λ h. cluster_of h) c.head.ensures.value)) r.2),
    )
