use Rattle.std.proofs.Common.{option_map, sym, ap, ◌∙◌}
use Rattle.serde_json.specs.View.{view, members_view}
use Rattle.cluster_config.specs.ConfigMerging.{merged}
use Rattle.cluster_config.proofs.MergeSteps.{merged-inserted, merged-removed}
use Rattle.cluster_config.proofs.merging.+merging.Goals as goal

pub merged-loop-name-preserved-in-Some-2 : goal.merged-loop-name-preserved-in-Some-2
merged-loop-name-preserved-in-Some-2 t c =
    merged-inserted c.loop-name.object.entries c.remove-stood.new.self.entries c.insert.new.self.entries
    c.next.new.self c.as_str.result.now c.in-Some.name.now c.in_ok-clone.field-0 c.in-Some.value.now
    c.in-Some-2.next c.remove-stood.result _
    c.as_str.ensures.value c.in_ok-clone.ensures.cases c.remove-stood.ensures.value c.remove-stood.ensures.entries
    (ap (option_map view) (sym c.in-Some-2.is) ∙ c.in_ok-next.ensures) c.in_ok-insert.ensures.entries
    (sym (ap (λ es. merged (members_view c.loop-name.object.entries) (members_view es)) c.in-Some.ensures.steps)
    ∙ c.loop-name.invariant)

pub merged-loop-name-preserved : goal.merged-loop-name-preserved
merged-loop-name-preserved t c =
    merged-removed c.loop-name.object.entries c.remove-stood.new.self.entries c.next.new.self
    c.as_str.result.now c.in-Some.name.now c.in-Some.value.now c.remove-stood.result _
    c.as_str.ensures.value c.remove-stood.ensures.value c.remove-stood.ensures.entries
    (ap (option_map view) (sym c.in_default.is) ∙ c.in_ok-next.ensures)
    (sym (ap (λ es. merged (members_view c.loop-name.object.entries) (members_view es)) c.in-Some.ensures.steps)
    ∙ c.loop-name.invariant)
