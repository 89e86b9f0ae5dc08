-- The order of candidates.
use Rattle.std.proofs.Common.{◌≡◌, true, false, refl, sym, ap, ◌∙◌}
use Rattle.std.specs.Cmp.{IsTotalOrder, bool_cmp_total}
use Rattle.std.specs.Cmp.Lexicographic.{slice_cmp}
use Rattle.std.specs.Ordering.{bool_cmp, nat_cmp, ordering_then, is_lt, is_eq}
use Rattle.std.specs.declared.cmp.Ordering.{Ordering}
use Rattle.std.specs.declared.cmp.Ordering.TheVariants.{Less, Equal, Greater}
use Rattle.std.proofs.lemmas.Cmp.{then_total, on_total, back_total, nat_cmp_total, nat_list_cmp_total, tied_itself}
use Rattle.std.proofs.lemmas.Map.Text.{is_eq-slice_cmp}
use Rattle.std.proofs.lemmas.Slice.Eq.{bytes_eq-Decides}
use Rattle.pat_base.specs.Name.{name_bytes}
use Rattle.pat_base.proofs.Names.{name_bytes-injective}
use Rattle.sync_state.specs.declared.candidates.Candidate.{Candidate}
use Rattle.sync_state.specs.Candidates.{candidate_cmp}

pub candidates-total : IsTotalOrder candidate_cmp
candidates-total =
    then_total (then_total (on_total (λ (c : Candidate). c.published) (back_total bool_cmp_total))
    (on_total (λ (c : Candidate). c.end.position) (back_total nat_cmp_total)))
    (on_total (λ (c : Candidate). name_bytes c.name) nat_list_cmp_total)

less-is : (o : Ordering) → is_lt o ≡ true → o ≡ Less
less-is Less e = refl
less-is Equal e = cc
less-is Greater e = cc

-- whoever comes before one that comes before a third one comes before that
pub before-before : (a b c : Candidate) → is_lt (candidate_cmp a b) ≡ true → is_lt (candidate_cmp b c) ≡ true
    → is_lt (candidate_cmp a c) ≡ true
before-before a b c first second =
    ap is_lt (candidates-total.trans a b c (less-is (candidate_cmp a b) first) (less-is (candidate_cmp b c) second))

-- nobody comes before itself
pub before-itself : (a : Candidate) → is_lt (candidate_cmp a a) ≡ false
before-itself a = ap is_lt (tied_itself candidates-total a)

last-equal : (o p : Ordering) → ordering_then o p ≡ Equal → p ≡ Equal
last-equal Less p e = cc
last-equal Equal p e = e
last-equal Greater p e = cc

-- candidates that tie have one name
pub tied-names : (a b : Candidate) → candidate_cmp a b ≡ Equal → a.name ≡ b.name
tied-names a b e =
    let names : slice_cmp nat_cmp (name_bytes a.name) (name_bytes b.name) ≡ Equal =
    last-equal (ordering_then (bool_cmp b.published a.published) (nat_cmp b.end.position a.end.position))
    (slice_cmp nat_cmp (name_bytes a.name) (name_bytes b.name)) e in
    name_bytes-injective a.name b.name
    ((bytes_eq-Decides (name_bytes a.name) (name_bytes b.name)).0
    (sym (is_eq-slice_cmp (name_bytes a.name) (name_bytes b.name)) ∙ ap is_eq names))
