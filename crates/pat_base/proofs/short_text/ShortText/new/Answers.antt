use Rattle.std.proofs.Common.{◌≡◌, ◌≤◌, ◌++◌, ◌∙◌, ℕ, List, sym, ap, take, drop, length, replicate}
use Rattle.std.specs.Str.{IsAscii}
use Rattle.pat_base.specs.Bounded.{padded, length-padded, take-padded, padded-over_zeros}
use Rattle.pat_base.proofs.short_text.ShortText.new.Goals as goal

is-padded : (room : ℕ) (v bytes : List ℕ) → bytes ≡ v → bytes ++ drop (length v) (replicate room 0) ≡ padded room v
is-padded room v bytes e = ap (λ t. t ++ drop (length v) (replicate room 0)) e ∙ padded-over_zeros room v

full : (room : ℕ) (v bytes : List ℕ) → bytes ≡ padded room v → length v ≤ room → length bytes ≡ room
full room v bytes e h = ap length e ∙ length-padded room v h

ascii : (room : ℕ) (v bytes : List ℕ) → bytes ≡ padded room v → IsAscii v → IsAscii (take (length v) bytes)
ascii room v bytes e h = rw (e, take-padded room v) h

zeros : (room : ℕ) (v bytes : List ℕ) → bytes ≡ padded room v → bytes ≡ padded room (take (length v) bytes)
zeros room v bytes e = e ∙ ap (padded room) (sym (ap (take (length v)) e ∙ take-padded room v))

pub invariant_of-result : goal.invariant_of-result
invariant_of-result g c =
    let v = c.args.bytes.now in
    let e = is-padded g.row.ROOM v _ c.copy_from_slice.ensures.after in
    record {
      full = full g.row.ROOM v _ e c.requires.fits;
      fits = c.requires.fits;
      ascii = ascii g.row.ROOM v _ e c.requires.ascii;
      zeros = zeros g.row.ROOM v _ e;
    }
