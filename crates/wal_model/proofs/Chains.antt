-- Pieces, one behind another.
use Rattle.std.proofs.Common.{◌≡◌, ℕ, ◌+◌, ◌-◌, ◌^◌, ◌≤◌, ◌<◌, List, [], ◌∷◌, ◌++◌, length, take, drop, get_or, zero, suc, refl, sym, ap, subst, ◌∙◌, arith, append_assoc, append-nil, length-append, ◌⊎◌, inl, inr, set}
use Rattle.std.proofs.lemmas.List.{take-append-drop, take_more, take_all, take-take, take-append-le, drop_more, drop_all, set_split, length-take-le}
use Rattle.std.proofs.Math.Seq.{take-append-add}
use Rattle.std.specs.List.Sorted.{IsNonDecreasingBy}
use Rattle.std.proofs.lemmas.List.Sums.{sum_by-append}
use Rattle.wal_model.specs.declared.entry.Entry.{Entry}
use Rattle.wal_model.specs.declared.placed.Placed.{Placed}
use Rattle.wal_model.specs.Log.{end_of}
use Rattle.wal_model.specs.Pieces.{joined, Follow, AreChained, Continues, Holds}

pub end_of-append : (x y : List Entry) → end_of (x ++ y) ≡ end_of x + end_of y
end_of-append x y = sum_by-append (λ (entry : Entry). entry.bytes) x y

pub joined-append : (xs ys : List Placed) → joined (xs ++ ys) ≡ joined xs ++ joined ys
joined-append [] ys = refl
joined-append (x ∷ xs) ys =
    ap (λ t. x.piece ++ t) (joined-append xs ys) ∙ sym (append_assoc x.piece (joined xs) (joined ys))

-- the first pieces of some that follow
pub follow-first : (before start : ℕ) (xs ys : List Placed) → Follow before start (xs ++ ys) → Follow before start xs
follow-first before start [] ys f = tt
follow-first before start (x ∷ xs) ys f =
    (f.0, f.1, f.2, follow-first (before + length x.piece) x.end.position xs ys f.3)

-- the pieces behind them
pub follow-second : (before start : ℕ) (xs ys : List Placed) → Follow before start (xs ++ ys)
    → Follow (before + length (joined xs)) (start + end_of (joined xs)) ys
follow-second before start [] ys f =
    let n : before ≡ before + 0 = omega arith in
    let m : start ≡ start + 0 = omega arith in
    subst (λ k. Follow k (start + 0) ys) n (subst (λ k. Follow before k ys) m f)
follow-second before start (x ∷ xs) ys f =
    let n : before + length x.piece + length (joined xs) ≡ before + length (x.piece ++ joined xs) =
    omega (arith, length-append x.piece (joined xs)) in
    let m : x.end.position + end_of (joined xs) ≡ start + end_of (x.piece ++ joined xs) =
    omega (arith, f.1, end_of-append x.piece (joined xs)) in
    subst (λ k. Follow k (start + end_of (x.piece ++ joined xs)) ys) n
    (subst (λ k. Follow (before + length x.piece + length (joined xs)) k ys) m
    (follow-second (before + length x.piece) x.end.position xs ys f.3))

-- pieces that follow, with one more behind them
pub follow-push : (before start : ℕ) (xs : List Placed) (y : Placed) → Follow before start xs
    → y.before ≡ before + length (joined xs) → y.end.position ≡ start + end_of (joined xs) + end_of y.piece
    → 1 ≤ length y.piece → Follow before start (xs ++ y ∷ [])
follow-push before start [] y f b e some = (omega (arith, b), omega (arith, e), some, tt)
follow-push before start (x ∷ xs) y f b e some = (
  f.0,
  f.1,
  f.2,
  follow-push (before + length x.piece) x.end.position xs y f.3
      (omega (arith, b, length-append x.piece (joined xs)))
      (omega (arith, e, f.1, end_of-append x.piece (joined xs))) some,
)

-- a piece at a place among those of a log
pub record IsAmong (placed : Placed) (first rest : List Placed) : Type 0 where
  pub follow : Follow 0 0 first
  pub before : placed.before ≡ length (joined first)
  pub end : placed.end.position ≡ end_of (joined first) + end_of placed.piece
  pub some : 1 ≤ length placed.piece

among : (xs : List Placed) (y : Placed) (ys : List Placed) → Follow 0 0 (xs ++ y ∷ ys) → IsAmong y xs ys
among xs y ys f =
    let here = follow-second 0 0 xs (y ∷ ys) f in
    record {
      follow = follow-first 0 0 xs (y ∷ ys) f;
      before = omega (arith, here.0);
      end = omega (arith, here.1);
      some = here.2;
    }

pub split-at : (xs : List Placed) (k : ℕ) (d : Placed) → k < length xs
    → take k xs ++ get_or xs k d ∷ drop (k + 1) xs ≡ xs
split-at xs k d h = ap (λ t. take k xs ++ t) (sym (drop_more xs k d h)) ∙ take-append-drop k xs

pub among-at : (xs : List Placed) (k : ℕ) (d : Placed) → Follow 0 0 xs → k < length xs
    → IsAmong (get_or xs k d) (take k xs) (drop (k + 1) xs)
among-at xs k d f h =
    among (take k xs) (get_or xs k d) (drop (k + 1) xs) (subst (Follow 0 0) (sym (split-at xs k d h)) f)

-- each piece begins where the ones before it end, so none before those
pub rising : (ps : List Placed) → AreChained ps → IsNonDecreasingBy (λ (p : Placed). p.before) ps
rising ps chained i j d le lt =
    let split : take i ps ++ drop i (take j ps) ≡ take j ps =
    ap (λ t. t ++ drop i (take j ps)) (sym (take-take i j ps le)) ∙ take-append-drop i (take j ps) in
    omega (
      arith,
      (among-at ps i d chained.follow (omega (arith, le, lt))).before,
      (among-at ps j d chained.follow lt).before,
      ap (λ t. length (joined t)) split,
      ap length (joined-append (take i ps) (drop i (take j ps))),
      length-append (joined (take i ps)) (joined (drop i (take j ps))),
    )

-- the entries of the first pieces, one piece more
pub joined-more : (xs : List Placed) (k : ℕ) (d : Placed) → k < length xs
    → joined (take (k + 1) xs) ≡ joined (take k xs) ++ (get_or xs k d).piece
joined-more xs k d h =
    ap joined (take_more xs k d h) ∙ joined-append (take k xs) (get_or xs k d ∷ [])
    ∙ ap (λ t. joined (take k xs) ++ t) (append-nil (get_or xs k d).piece)

-- so many entries lie in so many pieces, where the next one doesn't begin before them
pub in-pieces : (xs : List Placed) (k entries : ℕ) → Follow 0 0 xs → entries ≤ length (joined xs) → k ≤ length xs
    → ((d : Placed) → k < length xs → entries ≤ (get_or xs k d).before) → entries ≤ length (joined (take k xs))
in-pieces [] k entries f within count behind =
    subst (λ (t : List Placed). entries ≤ length (joined t)) (sym (take_all k [] (omega arith))) within
in-pieces (x ∷ xs) k entries f within count behind = by-place (is-at k (length (x ∷ xs)) count)
  where
    is-at : (k n : ℕ) → k ≤ n → (k ≡ n) ⊎ (k < n)
    is-at k n h = grind (arith, h)

    by-place : (k ≡ length (x ∷ xs)) ⊎ (k < length (x ∷ xs)) → entries ≤ length (joined (take k (x ∷ xs)))
    by-place (inl e) =
        subst (λ (t : List Placed). entries ≤ length (joined t)) (sym (take_all k (x ∷ xs) (omega (arith, e)))) within
    by-place (inr h) =
        let b = among-at (x ∷ xs) k x f h in
        omega (arith, behind x h, b.before)

-- the last of the pieces that begin before so many entries
pub record IsLastBefore (placed : Placed) (pieces : List Placed) (count entries : ℕ) : Type 0 where
  pub among : IsAmong placed (take (count - 1) pieces) (drop count pieces)
  pub front : joined (take count pieces) ≡ joined (take (count - 1) pieces) ++ placed.piece
  pub below : placed.before < entries
  pub within : entries ≤ placed.before + length placed.piece

pub last-before : (ps : List Placed) (count entries : ℕ) (p : Placed) → AreChained ps
    → entries ≤ length (joined ps) → count ≤ length ps → 0 < count → p ≡ get_or ps (count - 1) p
    → ((d : Placed) → 0 < count → (get_or ps (count - 1) d).before < entries)
    → ((d : Placed) → count < length ps → entries ≤ (get_or ps count d).before) → IsLastBefore p ps count entries
last-before ps count entries p chained within most some is before behind =
    let back : count - 1 + 1 ≡ count = omega (arith, some) in
    let among : IsAmong p (take (count - 1) ps) (drop count ps) =
    subst (λ (n : ℕ). IsAmong p (take (count - 1) ps) (drop n ps)) back
    (subst (λ (q : Placed). IsAmong q (take (count - 1) ps) (drop (count - 1 + 1) ps)) (sym is)
    (among-at ps (count - 1) p chained.follow (omega (arith, most, some)))) in
    let front : joined (take count ps) ≡ joined (take (count - 1) ps) ++ p.piece =
    ap (λ (n : ℕ). joined (take n ps)) (sym back) ∙ joined-more ps (count - 1) p (omega (arith, most, some))
    ∙ ap (λ (q : Placed). joined (take (count - 1) ps) ++ q.piece) (sym is) in
    let reached : entries ≤ length (joined (take count ps)) =
    in-pieces ps count entries chained.follow within most behind in
    record {
      among = among;
      front = front;
      below = subst (λ (q : Placed). q.before < entries) (sym is) (before p some);
      within =
          omega (arith, reached, ap length front, length-append (joined (take (count - 1) ps)) p.piece, among.before);
    }

-- the entries of all pieces, split there
pub whole-at : (ps : List Placed) (count entries : ℕ) (p : Placed) → IsLastBefore p ps count entries
    → joined ps ≡ joined (take (count - 1) ps) ++ (p.piece ++ joined (drop count ps))
whole-at ps count entries p last =
    ap joined (sym (take-append-drop count ps))
    ∙ joined-append (take count ps) (drop count ps)
    ∙ ap (λ t. t ++ joined (drop count ps)) last.front
    ∙ append_assoc (joined (take (count - 1) ps)) p.piece (joined (drop count ps))

pub holds-last : (ps : List Placed) (count place : ℕ) (p : Placed) → IsLastBefore p ps count (place + 1)
    → Holds p (joined ps) place
holds-last ps count place p last = record {
  first = joined (take (count - 1) ps);
  rest = joined (drop count ps);
  whole = whole-at ps count (place + 1) p last;
  before = last.among.before;
  end = last.among.end;
  reached = omega (arith, last.below);
  within = omega (arith, last.within);
}

-- some pieces begin before so many entries, unless that is none
pub some-before : (ps : List Placed) (count entries : ℕ) → AreChained ps → entries ≤ length (joined ps)
    → ((d : Placed) → count < length ps → entries ≤ (get_or ps count d).before) → count ≡ 0 → entries ≡ 0
some-before [] count entries chained within behind none = omega (arith, within)
some-before (p ∷ ps) count entries chained within behind none =
    omega (
      arith,
      subst (λ (n : ℕ). n < length (p ∷ ps) → entries ≤ (get_or (p ∷ ps) n p).before) none (behind p) (omega arith),
      chained.follow.0,
    )

pub any-before : (ps : List Placed) (count entries : ℕ) → AreChained ps → entries ≤ length (joined ps)
    → ((d : Placed) → count < length ps → entries ≤ (get_or ps count d).before) → 0 < entries → 0 < count
any-before ps zero entries chained within behind some =
    absurd (omega (arith, some, some-before ps 0 entries chained within behind refl))
any-before ps (suc n) entries chained within behind some = omega arith

-- the first entries of all pieces, up to one in the last of them
pub taken-last : (ps : List Placed) (count entries : ℕ) (p : Placed) → IsLastBefore p ps count entries
    → take entries (joined ps) ≡ joined (take (count - 1) ps) ++ take (entries - p.before) p.piece
taken-last ps count entries p last =
    let first = joined (take (count - 1) ps) in
    let place : entries ≡ length first + (entries - p.before) = omega (arith, last.below, last.among.before) in
    ap (take entries) (whole-at ps count entries p last)
    ∙ ap (λ (n : ℕ). take n (first ++ (p.piece ++ joined (drop count ps)))) place
    ∙ take-append-add first (p.piece ++ joined (drop count ps)) (entries - p.before)
    ∙ ap (λ t. first ++ t)
    (take-append-le (entries - p.before) p.piece (joined (drop count ps)) (omega (arith, last.within)))

-- the last piece cut
pub cut-last : (ps : List Placed) (count : ℕ) (q : Placed) → 0 < count → count ≤ length ps
    → set (take count ps) (count - 1) q ≡ take (count - 1) ps ++ q ∷ []
cut-last ps count q some most =
    let long : count - 1 < length (take count ps) = omega (arith, length-take-le count ps most, some) in
    set_split (take count ps) (count - 1) q long
    ∙ ap (λ t. t ++ q ∷ drop (suc (count - 1)) (take count ps)) (take-take (count - 1) count ps (omega arith))
    ∙ ap (λ t. take (count - 1) ps ++ q ∷ t)
    (drop_all (suc (count - 1)) (take count ps) (omega (arith, length-take-le count ps most, some)))

pub joined-push : (ps : List Placed) (q : Placed) → joined (ps ++ q ∷ []) ≡ joined ps ++ q.piece
joined-push ps q = joined-append ps (q ∷ []) ∙ ap (λ t. joined ps ++ t) (append-nil q.piece)

-- a cut piece behind those before it
pub record IsCut (q p : Placed) (entries : ℕ) : Type 0 where
  pub piece : q.piece ≡ take (entries - p.before) p.piece
  pub before : q.before ≡ p.before
  pub end : q.end.position + end_of (drop (entries - p.before) p.piece) ≡ p.end.position

pub joined-cut : (ps : List Placed) (count entries : ℕ) (p q : Placed) → 0 < count → count ≤ length ps
    → IsLastBefore p ps count entries → IsCut q p entries
    → joined (set (take count ps) (count - 1) q) ≡ take entries (joined ps)
joined-cut ps count entries p q some most last cut =
    ap joined (cut-last ps count q some most)
    ∙ joined-push (take (count - 1) ps) q
    ∙ ap (λ t. joined (take (count - 1) ps) ++ t) cut.piece
    ∙ sym (taken-last ps count entries p last)

pub end_of-split : (n : ℕ) (x : List Entry) → end_of (take n x) + end_of (drop n x) ≡ end_of x
end_of-split n x = sym (end_of-append (take n x) (drop n x)) ∙ ap end_of (take-append-drop n x)

pub chained-cut : (ps : List Placed) (count entries : ℕ) (p q : Placed) → AreChained ps
    → entries ≤ length (joined ps) → 0 < count → count ≤ length ps → IsLastBefore p ps count entries
    → IsCut q p entries → AreChained (set (take count ps) (count - 1) q)
chained-cut ps count entries p q chained within some most last cut =
    let first = take (count - 1) ps in
    let m = entries - p.before in
    let long : length q.piece ≡ m = ap length cut.piece ∙ length-take-le m p.piece (omega (arith, last.within)) in
    let bytes : end_of q.piece ≡ end_of (take m p.piece) = ap end_of cut.piece in
    record {
      follow =
          subst (Follow 0 0) (sym (cut-last ps count q some most))
          (follow-push 0 0 first q last.among.follow (omega (arith, cut.before, last.among.before))
          (omega (arith, cut.end, last.among.end, bytes, end_of-split m p.piece)) (omega (arith, long, last.below)));
      most = omega (
        arith,
        ap length (joined-cut ps count entries p q some most last cut),
        length-take-le entries (joined ps) within,
        chained.most,
      );
    }

-- pieces of which none is kept
pub joined-none : (ps : List Placed) (count entries : ℕ) → AreChained ps → entries ≤ length (joined ps)
    → ((d : Placed) → count < length ps → entries ≤ (get_or ps count d).before) → count ≡ 0
    → joined (take count ps) ≡ take entries (joined ps)
joined-none ps count entries chained within behind none =
    ap (λ (n : ℕ). joined (take n ps)) none
    ∙ ap (λ (n : ℕ). take n (joined ps)) (sym (some-before ps count entries chained within behind none))

pub chained-push : (ps : List Placed) (next : Placed) (log : List Entry) → AreChained ps
    → joined ps ≡ take next.before log → Continues next log → length next.piece ≤ 2 ^ 63 - next.before
    → next.before ≤ 2 ^ 63 → AreChained (ps ++ next ∷ [])
chained-push ps next log chained is continues short low =
    let long : length (joined ps) ≡ next.before = ap length is ∙ length-take-le next.before log continues.before in
    record {
      follow = follow-push 0 0 ps next chained.follow (omega (arith, long))
          (omega (arith, continues.end, ap end_of is)) continues.some;
      most = omega (arith, ap length (joined-push ps next), length-append (joined ps) next.piece, long, short, low);
    }
