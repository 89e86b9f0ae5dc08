use Rattle.std.proofs.Common.{◌≡◌, ◌∙◌, ◌++◌, sym, ap, arith, get_or, length, take}
use Rattle.std.proofs.lemmas.List.{take_all}
use Rattle.std.specs.List.{filter_map}
use Rattle.std.specs.Option.{option_to_list}
use Rattle.store_keys.specs.declared.value.KeyEntry.{KeyEntry}
use Rattle.member_rows.specs.Endings.{ended_by, ended_of}
use Rattle.member_rows.proofs.Walks.{found-more}
use Rattle.member_rows.proofs.endings.endings_of.Goals as goal

pub loop-pair-preserved : goal.loop-pair-preserved
loop-pair-preserved c =
    let entries : c.entries-pair-items.result.now ≡ c.args.snapshot.now.entries =
    c.entries-pair-items.ensures.entries in
    let there : c.pair-item.result ≡ get_or c.args.snapshot.now.entries c.loop-pair.pair-index c.pair-item.result =
    c.pair-item.is ∙ ap (λ pairs. get_or pairs c.loop-pair.pair-index c.pair-item.result) entries in
    c.in_ok-push_ending.ensures
    ∙ ap (λ (stored : KeyEntry). c.loop-pair.rows.items ++ option_to_list (ended_by stored.value)) c.get.ensures
    ∙ ap (λ rows. rows ++ option_to_list (ended_of c.pair-item.result)) c.loop-pair.invariant
    ∙ ap (λ pair.
    filter_map ended_of (take c.loop-pair.pair-index c.args.snapshot.now.entries) ++ option_to_list (ended_of pair))
    there
    ∙ sym (found-more ended_of c.args.snapshot.now.entries c.loop-pair.pair-index c.pair-item.result
    (omega (arith, c.loop-pair-test.true, ap length entries)))

pub returns : goal.returns
returns c =
    c.loop-pair.invariant
    ∙ ap (λ pairs. filter_map ended_of (take c.loop-pair.pair-index pairs)) (sym c.entries-pair-items.ensures.entries)
    ∙ ap (filter_map ended_of)
    (take_all c.loop-pair.pair-index c.entries-pair-items.result.now c.loop-pair-test.false
    ∙ c.entries-pair-items.ensures.entries)
