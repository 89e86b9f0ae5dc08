use Rattle.std.proofs.Common.{◌≡◌, ◌++◌, map, replicate, string_bytes, take}
use Rattle.std.specs.List.{flat_map}
use Rattle.patronictl.specs.Settings.{opened}
use Rattle.patronictl.proofs.setting_body.nested.Given as goal

abbrev pub invariant-loop-part : goal.invariant-loop-part
invariant-loop-part l = string_bytes l.body ≡ flat_map opened (map (λ part. part.now) (take l.part-index l.path))

abbrev pub invariant-loop-step : goal.invariant-loop-step
invariant-loop-step l =
    string_bytes l.body ≡ flat_map opened (map (λ part. part.now) l.path) ++ (l.value ++ replicate l._step 125)
