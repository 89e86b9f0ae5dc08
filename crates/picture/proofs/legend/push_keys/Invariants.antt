use Rattle.std.proofs.Common.{◌≡◌, ◌++◌, drop, string_bytes}
use Rattle.svg.specs.Forests.{forest_text}
use Rattle.picture.specs.Legend.{keys_from}
use Rattle.picture.specs.declared.legend.TheConstants.{KEYS}
use Rattle.picture.proofs.legend.push_keys.Given as goal

abbrev pub invariant-loop-place : goal.invariant-loop-place
invariant-loop-place l = string_bytes l.out ++ forest_text (keys_from l.place l.y (drop l.place KEYS))
    ≡ string_bytes l.fn.out ++ forest_text (keys_from 0 l.y KEYS)
