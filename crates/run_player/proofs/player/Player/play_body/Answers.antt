use Rattle.std.proofs.Common.{List, length, ap, ◌∙◌, Err, arith, subst, sym}
use Rattle.std.specs.Option.{is_some}
use Rattle.std.proofs.lemmas.Result.{err_from_is_err_and}
use Rattle.pat_base.specs.declared.name.Name.{Name}
use Rattle.script_model.specs.declared.line.Line.{Line}
use Rattle.script_model.specs.Script.{AllAreLines, IsLine, names_of}
use Rattle.cluster_model.specs.Steps.{names_in, steps_of}
use Rattle.run_player.specs.Playing.{player_of}
use Rattle.run_player.proofs.Played.{Playing-members, Playing-room, Playing-more, Playing-start, Playing-stop, Playing-end, Playing, next-line}
use Rattle.run_player.proofs.player.Player.play_body.Goals as goal

pub loop-line-init : goal.loop-line-init
loop-line-init g c =
    let script = c.args.script in
    let player = player_of g.W.Simulation.facts c.args.self.now in
    subst (λ (ls : List Line).
    Playing g.K.Sink player player c.args.out.now c.args.out.now (steps_of script.body) (steps_of ls) ×
    AllAreLines (names_of script.head) ls)
    (sym c.into_lines-lines.ensures.value)
    (Playing-start g.K.Sink player c.args.out.now (steps_of script.body), (c.into_lines-lines.ensures.script).body)

pub loop-line-smaller : goal.loop-line-smaller
loop-line-smaller g c = let next = next-line c.next.ensures.line c.in-Some.is in omega (arith, ap length next)

pub play_line-requires-clause-room : goal.play_line-requires-clause-room
play_line-requires-clause-room g c =
    Playing-room _ _ c.loop-line.invariant.0 (ap steps_of (next-line c.next.ensures.line c.in-Some.is)) c.requires.room

pub play_line-requires-clause-declared : goal.play_line-requires-clause-declared
play_line-requires-clause-declared g c =
    let names = ap names_in (Playing-members c.loop-line.invariant.0) ∙ c.requires.members in
    let left = subst (λ (ls : List Line). AllAreLines (names_of c.args.script.head) ls)
    (next-line c.next.ensures.line c.in-Some.is) c.loop-line.invariant.1 in
    subst (λ (ns : List Name). IsLine ns c.in-Some.line) (sym names) left.0

pub loop-line-preserved : goal.loop-line-preserved
loop-line-preserved g c =
    let next = next-line c.next.ensures.line c.in-Some.is in (
      Playing-more _ c.loop-line.invariant.0 (ap steps_of next) c.in_ok-play_line.ensures,
      (subst (λ (ls : List Line). AllAreLines (names_of c.args.script.head) ls) next c.loop-line.invariant.1).1,
    )

pub returns-in_err-play_line : goal.returns-in_err-play_line
returns-in_err-play_line g c =
    let p = err_from_is_err_and c.from_residual.result c.from_residual.ensures.1 in
    Playing-stop c.from_residual.result _ c.loop-line.invariant.0
    (ap steps_of (next-line c.next.ensures.line c.in-Some.is)) c.in_err-play_line.ensures (p.1 ∙ ap Err p.2)

pub returns : goal.returns
returns g c = Playing-end c.loop-line.invariant.0 (ap steps_of (c.next.ensures.end.0 (ap is_some c.in_default.is)))
