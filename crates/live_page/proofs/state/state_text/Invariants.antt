use Rattle.std.proofs.Common.{◌≡◌, ◌++◌, map, take, string_bytes}
use Rattle.std.specs.Prelude.{codes, decimal}
use Rattle.std.specs.List.{flat_map}
use Rattle.live_page.specs.State.{line_text, member_text}
use Rattle.live_page.proofs.state.state_text.Given as goal

abbrev pub invariant-loop-line : goal.invariant-loop-line
invariant-loop-line l =
    string_bytes l.text
    ≡ decimal l.fn.clock.0 ++ codes "\n" ++ flat_map line_text (map string_bytes (take l.line-index l.table))

abbrev pub invariant-loop-member : goal.invariant-loop-member
invariant-loop-member l =
    string_bytes l.text
    ≡ decimal l.fn.clock.0 ++ codes "\n" ++ flat_map line_text (map string_bytes l.table) ++ codes "\n"
    ++ flat_map member_text (take l.member-index l.members)
