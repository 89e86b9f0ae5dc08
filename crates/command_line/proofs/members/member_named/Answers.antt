use Rattle.std.proofs.Common.{◌<◌, ℕ, ◌∙◌, subst, sym}
use Rattle.command_line.proofs.Naming.{named-all, named-behind, named-here}
use Rattle.command_line.proofs.members.member_named.Goals as goal

pub loop-place-init : goal.loop-place-init
loop-place-init c = named-all c.args.name.now c.args.head.now

pub returns-then-is_named-clause-value : goal.returns-then-is_named-clause-value
returns-then-is_named-clause-value c =
    let within =
    subst (λ (n : ℕ). c.loop-place.place < n) c.member_count-place-end.ensures.value c.loop-place-test.true in
    c.new.ensures.by_number
    ∙ sym (named-here c.args.name.now c.args.head.now.members c.loop-place.place c.is_named.result within
    c.is_named.ensures c.if-is_named.true)
    ∙ c.loop-place.invariant

pub loop-place-preserved : goal.loop-place-preserved
loop-place-preserved c =
    let within =
    subst (λ (n : ℕ). c.loop-place.place < n) c.member_count-place-end.ensures.value c.loop-place-test.true in
    sym (named-behind c.args.name.now c.args.head.now.members c.loop-place.place c.is_named.result within
    c.is_named.ensures c.if-is_named.false)
    ∙ c.loop-place.invariant
