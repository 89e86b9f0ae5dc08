use Rattle.std.proofs.Common.{◌≡◌, drop}
use Rattle.operator_keys.specs.Refusals.{first_refusal}
use Rattle.operator_keys.proofs.refusal.first_refusal.Given as goal

abbrev pub invariant-loop-rule : goal.invariant-loop-rule
invariant-loop-rule l = first_refusal (drop l.rule-index l.rules) ≡ first_refusal l.rules
