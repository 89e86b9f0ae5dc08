use Rattle.std.proofs.Common.{◌≡◌, List, [], ◌∷◌, ◌++◌, length, map, ap, sym, subst, ◌∙◌, append_assoc, append-nil, arith}
use Rattle.std.specs.Prelude.{String}
use Rattle.std.specs.declared.alloc.Global.{Global}
use Rattle.std.specs.Vec.Iter.{into_iter_items}
use Rattle.event_list.specs.Listed.{◌+++◌}
use Rattle.cluster_model.specs.State.{Cluster}
use Rattle.world_stage.proofs.Printed.{none-left, printed, printed-more, printed-took}
use Rattle.world_stage.proofs.stage.Stage.print.Goals as goal

pub loop-line-preserved : goal.loop-line-preserved
loop-line-preserved c =
    let at = c.loop-line in
    let steps : into_iter_items at.line-iterator ≡ c.in-Some.line ∷ into_iter_items c.next.new.self =
    c.in-Some.ensures.steps.0 in (
      printed-more c.args.self.now _ _ _ at.yielded c.in-Some.line c.self.inside.clock c.new.result at.invariant.0
          c.in_ok-write_down.ensures (omega (arith, ap (λ (b : Cluster). b.facts.clock) c.self.view_is)) c.new.ensures,
      at.invariant.1 ∙ ap (λ ls. at.yielded ++ ls) steps ∙ sym (append_assoc at.yielded (c.in-Some.line ∷ []) _),
      let was = at.invariant.2 in
          let gone = c.in-Some.ensures.steps.1 in
          let short = ap length steps in
          omega arith,
    )

pub returns : goal.returns
returns c =
    let at = c.loop-line in
    let empty : into_iter_items at.line-iterator ≡ [] = none-left _ _ at.invariant.2 c.in-None.ensures.steps.0 in
    let all = at.invariant.1 ∙ ap (λ ls. at.yielded ++ ls) empty ∙ append-nil at.yielded in
    printed-took c.args.self.now c.args.lines.items c.args.events.now at.events
    (subst (λ (ls : List (String Global)). at.events ≡ c.args.events.now +++ map (printed c.args.self.now) ls)
    (sym all) at.invariant.0)
