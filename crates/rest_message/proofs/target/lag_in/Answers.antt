use Rattle.std.proofs.Common.{sym, ◌∙◌, ap, drop, ◌+◌}
use Rattle.std.specs.Option.{option_or}
use Rattle.rest_message.specs.Targets.{lag_in, lag_value}
use Rattle.rest_message.proofs.Parameters.{next-parameter, last-parameter, found-here, found-later}
use Rattle.rest_message.proofs.target.lag_in.Goals as goal

pub returns-then-is_some : goal.returns-then-is_some
returns-then-is_some c =
    let next = next-parameter c.parameters.rest.now c.in-Some.place (sym c.separator_in.ensures ∙ c.in-Some.is) in
    sym (sym c.parameters.invariant ∙ (next
    ∙ (ap (λ value. option_or value (lag_in (drop (c.in-Some.place + 1) c.parameters.rest.now)))
    (sym (c.lag_value-value.ensures ∙ ap lag_value c.before-in-Some.ensures))
    ∙ found-here (λ x. x.now) c.lag_value-value.result _ (sym c.is_some.ensures ∙ c.if-is_some.true))))

pub parameters-preserved : goal.parameters-preserved
parameters-preserved c =
    let next = next-parameter c.parameters.rest.now c.in-Some.place (sym c.separator_in.ensures ∙ c.in-Some.is) in
    ap lag_in c.behind-rest.ensures
    ∙ (sym (found-later (λ x. x.now) c.lag_value-value.result _ (sym c.is_some.ensures ∙ c.if-is_some.false))
    ∙ (ap (λ value. option_or value (lag_in (drop (c.in-Some.place + 1) c.parameters.rest.now)))
    (c.lag_value-value.ensures ∙ ap lag_value c.before-in-Some.ensures)
    ∙ (sym next ∙ c.parameters.invariant)))

pub returns : goal.returns
returns c =
    c.lag_value.ensures
    ∙ (sym (last-parameter c.parameters.rest.now (sym c.separator_in.ensures ∙ c.in_default.is))
    ∙ c.parameters.invariant)
