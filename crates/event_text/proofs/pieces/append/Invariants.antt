use Rattle.std.proofs.Common.{◌≡◌, ◌++◌, string_bytes, take}
use Rattle.std.specs.List.{flat_map}
use Rattle.event_text.proofs.pieces.append.Given as goal

abbrev pub invariant-loop-piece : goal.invariant-loop-piece
invariant-loop-piece l =
    string_bytes l.line ≡ string_bytes l.fn.line ++ flat_map (λ piece. piece.now) (take l.piece-index l.pieces)
