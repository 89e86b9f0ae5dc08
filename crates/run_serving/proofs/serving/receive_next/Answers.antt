use Rattle.std.proofs.Common.{◌+◌, ◌∙◌, ◌∷◌, Err, Ok, arith, ap, refl, sym, subst, []}
use Rattle.std.specs.Prelude.{All, IsTrue}
use Rattle.event_list.specs.Listed.{Listed}
use Rattle.std.proofs.lemmas.Result.{err_from_is_err_and}
use Rattle.run_printing.specs.declared.serve_error.ServeError.TheVariants.{Door, Memory}
use Rattle.run_player.specs.Playing.{PlayerFacts, player_of}
use Rattle.run_serving.proofs.Received.{Receives-none, accepted, all-traced, door-is-no-write, err-is-not-ok, memory-is-no-write, no-plays, not-door, ok-is-no-door, plays-visit, prints-part, prints-visit, receives-one, shows-so}
use Rattle.run_serving.proofs.Apart.{apart-none-since, apart-one, apart-refused, apart-stop}
use Rattle.run_serving.proofs.Visiting.{Came-none-since, Came-refused}
use Rattle.run_serving.proofs.serving.receive_next.Goals as goal

pub returns-in_default : goal.returns-in_default
returns-in_default g c =
    let e = c.in_default.ensures in (
      [],
      Receives-none g.K.Sink g.D.Door (player_of g.W.Simulation.facts c.args.player.now)
          (player_of g.W.Simulation.facts c.args.player.now) c.args.out.now c.args.door.now c.accept.new.self Door
          (Err Door) c.args.member 1 refl door-is-no-write
          (Came-refused g.D.Door c.args.door.now c.accept.new.self
          (player_of g.W.Simulation.facts c.args.player.now).world.cluster c.args.member 1 e.same e.failed
          e.grows e.line
          (λ more serves. err-is-not-ok (Unit {0}) c.in_default.field-0 (e.served (1 + more) serves (omega arith)).0)),
      apart-refused g.D.Door c.args.door.now c.accept.new.self Door
          (player_of g.W.Simulation.facts c.args.player.now).world.cluster c.args.member [] e.line e.heard,
    )

pub returns-in_err-serve_one : goal.returns-in_err-serve_one
returns-in_err-serve_one g c =
    let p = err_from_is_err_and c.from_residual.result c.from_residual.ensures.1 in
    let a = c.in-Ok.ensures in
    let s = c.in_err-serve_one.ensures in (
      [],
      Receives-none g.K.Sink g.D.Door (player_of g.W.Simulation.facts c.args.player.now) _ c.args.out.now
          c.args.door.now c.serve_one.new.door Memory c.from_residual.result c.args.member 1
          (p.1 ∙ ap Err p.2) memory-is-no-write
          (Came-none-since g.D.Door c.args.door.now c.serve_one.new.door
          (player_of g.W.Simulation.facts c.args.player.now).world.cluster c.args.member 1
          (omega (arith, a.grows, s.door)) (omega (arith, a.line, s.grows))),
      apart-stop g.D.Door c.args.door.now c.serve_one.new.door Memory c.from_residual.result
          (player_of g.W.Simulation.facts c.args.player.now).world.cluster c.args.member [] [] (p.1 ∙ ap Err p.2)
          (apart-none-since {X = Unit {0}} g.D.Door c.args.door.now c.serve_one.new.door
          (player_of g.W.Simulation.facts c.args.player.now).world.cluster c.args.member []
          (omega (arith, a.line, s.grows))),
    )

pub show-requires : goal.show-requires
show-requires g c =
    let s = c.in_ok-serve_one.ensures in
    let after : PlayerFacts = record {
      world = g.W.Simulation.facts c.serve_one.new.world;
      trace = c.args.player.now.trace;
      summary = c.args.player.now.summary;
    } in
    subst (All (λ (l : Listed). IsTrue l.traced)) (sym c.deref.ensures.value)
    (all-traced g.K.Sink (player_of g.W.Simulation.facts c.args.player.now) after c.args.out.now
    c.args.out.now c.args.member s.serves.0 _ _ c.new-brought.ensures.items s.serves.1)

pub returns-in_err-show : goal.returns-in_err-show
returns-in_err-show g c =
    let final = c.from_residual-in_err-show.result in
    let p = err_from_is_err_and final c.from_residual-in_err-show.ensures.1 in
    let a = c.in-Ok.ensures in
    let s = c.in_ok-serve_one.ensures in
    let come = accepted g.D.Door c.args.door.now c.accept.new.self c.serve_one.new.door
    (player_of g.W.Simulation.facts c.args.player.now).world.cluster c.args.member s.serves.0 a.some a.after
    a.grows a.line (λ n serves above. (a.served n serves above).1) s.serves.2 s.grows s.door s.served in
    let after : PlayerFacts = record {
      world = g.W.Simulation.facts c.serve_one.new.world;
      trace = c.args.player.now.trace;
      summary = c.show.new.summary;
    } in (
      s.serves.0 ∷ [],
      receives-one g.K.Sink g.D.Door (player_of g.W.Simulation.facts c.args.player.now) after c.args.out.now
          c.show.new.out c.args.door.now c.serve_one.new.door c.args.member s.serves.0 final
          (not-door c.in_err-show.field-0.0 final (p.1 ∙ ap Err p.2))
          (prints-part g.K.Sink (player_of g.W.Simulation.facts c.args.player.now) after c.args.out.now c.show.new.out
          c.args.member s.serves.0 _ _ c.in_err-show.field-0.0 final c.new-brought.ensures.items s.serves.1
          (shows-so (λ v. v.items) c.deref.ensures.value c.in_err-show.ensures) (p.1 ∙ ap Err p.2))
          (no-plays final _ (p.1 ∙ ap Err p.2)) come,
      apart-one g.D.Door c.args.door.now c.accept.new.self c.serve_one.new.door
          (player_of g.W.Simulation.facts c.args.player.now).world.cluster c.args.member s.serves.0 final a.line
          s.grows a.heard a.spare s.serves.2,
    )

pub returns : goal.returns
returns g c =
    let a = c.in-Ok.ensures in
    let s = c.in_ok-serve_one.ensures in
    let come = accepted g.D.Door c.args.door.now c.accept.new.self c.serve_one.new.door
    (player_of g.W.Simulation.facts c.args.player.now).world.cluster c.args.member s.serves.0 a.some a.after
    a.grows a.line (λ n serves above. (a.served n serves above).1) s.serves.2 s.grows s.door s.served in
    let after : PlayerFacts = record {
      world = g.W.Simulation.facts c.serve_one.new.world;
      trace = c.args.player.now.trace;
      summary = c.show.new.summary;
    } in (
      s.serves.0 ∷ [],
      receives-one g.K.Sink g.D.Door (player_of g.W.Simulation.facts c.args.player.now) after c.args.out.now
          c.show.new.out c.args.door.now c.serve_one.new.door c.args.member s.serves.0 (Ok tt) ok-is-no-door
          (prints-visit g.K.Sink (player_of g.W.Simulation.facts c.args.player.now) after c.args.out.now
          c.show.new.out c.args.member s.serves.0 _ _ c.new-brought.ensures.items s.serves.1
          (shows-so (λ v. v.items) c.deref.ensures.value c.in_ok-show.ensures))
          (plays-visit g.K.Sink (player_of g.W.Simulation.facts c.args.player.now) after c.args.out.now
          c.show.new.out c.args.member s.serves.0 _ _ c.new-brought.ensures.items s.serves.1 refl
          (shows-so (λ v. v.items) c.deref.ensures.value c.in_ok-show.ensures))
          come,
      apart-one g.D.Door c.args.door.now c.accept.new.self c.serve_one.new.door
          (player_of g.W.Simulation.facts c.args.player.now).world.cluster c.args.member s.serves.0 (Ok tt) a.line
          s.grows a.heard a.spare s.serves.2,
    )
