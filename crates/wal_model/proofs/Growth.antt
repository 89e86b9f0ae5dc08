-- Logs that grow within another one.
use Rattle.std.proofs.Common.{◌≡◌, ℕ, ◌+◌, ◌-◌, ◌≤◌, ◌<◌, List, [], ◌∷◌, ◌++◌, length, take, drop, min, Some, get_or, refl, sym, ap, subst, ◌∙◌, arith, append_assoc, append-nil, length-append, ◌⊎◌, inl, inr}
use Rattle.std.specs.Prelude.{slice_get}
use Rattle.std.proofs.lemmas.List.{take_at, take_more, take_min, take-append-le, take-append-drop, drop_all, drop_at, length-take, length-drop}
use Rattle.std.proofs.lemmas.Option.{slice_get_within, get_or_from_slice_get}
use Rattle.std.proofs.Math.Seq.{take-append-add}
use Rattle.wal_model.specs.declared.entry.Entry.{Entry}
use Rattle.wal_model.specs.declared.placed.Placed.{Placed}
use Rattle.wal_model.specs.Log.{IsPrefixOf, end_of, received}
use Rattle.wal_model.specs.Pieces.{Holds, Continues, Grows}
use Rattle.wal_model.specs.Sealed.{most_sealed, IsLog}
use Rattle.wal_model.proofs.Chains.{end_of-append, end_of-split}
use Rattle.wal_model.proofs.Runs.{drop-tail}

pub prefix-length : (x y : List Entry) → IsPrefixOf x y → length x ≤ length y
prefix-length x y p = omega (arith, ap length p.whole, length-append x p.rest)

pub prefix-taken : (x y : List Entry) → IsPrefixOf x y → take (length x) y ≡ x
prefix-taken x y p = ap (take (length x)) p.whole ∙ take_at x p.rest (length x) refl

pub prefix-self : (x : List Entry) → IsPrefixOf x x
prefix-self x = record { rest = []; whole = sym (append-nil x) }

prefix-through : (x y z : List Entry) → IsPrefixOf x y → IsPrefixOf y z → IsPrefixOf x z
prefix-through x y z p q = record {
  rest = p.rest ++ q.rest;
  whole = q.whole ∙ ap (λ t. t ++ q.rest) p.whole ∙ append_assoc x p.rest q.rest;
}

pub taken-prefix : (n : ℕ) (y : List Entry) → IsPrefixOf (take n y) y
taken-prefix n y = record { rest = drop n y; whole = sym (take-append-drop n y) }

more-than : (n m : ℕ) → m ≤ n → n ≡ m + (n - m)
more-than n m h = omega (arith, h)

-- a log is a prefix of the first entries of one that begins with it
pub prefix-of-taken : (x y : List Entry) (n : ℕ) → IsPrefixOf x y → length x ≤ n → IsPrefixOf x (take n y)
prefix-of-taken x y n p h = record {
  rest = take (n - length x) p.rest;
  whole =
      ap (take n) p.whole
      ∙ ap (λ (k : ℕ). take k (x ++ p.rest)) (more-than n (length x) h)
      ∙ take-append-add x p.rest (n - length x);
}

pub grows-none : (x y : List Entry) (until : ℕ) → IsPrefixOf x y → length x ≤ until → Grows x x y until
grows-none x y until p h = record { longer = prefix-self x; within = p; most = h }

pub grows-more : (x y z from : List Entry) (until : ℕ) → Grows x y from until → Grows y z from until
    → Grows x z from until
grows-more x y z from until a b =
    record { longer = prefix-through x y z a.longer b.longer; within = b.within; most = b.most }

-- a log that grew to the first entries of the other one
pub grows-taken : (x from : List Entry) (n until : ℕ) → IsPrefixOf x from → length x ≤ n → n ≤ until
    → Grows x (take n from) from until
grows-taken x from n until p h most = record {
  longer = prefix-of-taken x from n p h;
  within = taken-prefix n from;
  most = omega (arith, length-take n from, most);
}

pub grown-is-taken : (x y from : List Entry) (until : ℕ) → Grows x y from until → y ≡ take (length y) from
grown-is-taken x y from until g = sym (prefix-taken y from g.within)

-- what it received, where it took so many of them
pub received-is : (x from : List Entry) (most n : ℕ) → IsPrefixOf x from
    → n ≡ length x + min most (length from - length x) → take n from ≡ received x from most
received-is x from most n p is =
    let more : length from - length x ≡ length p.rest = omega (arith, ap length p.whole, length-append x p.rest) in
    let rest : drop (length x) from ≡ p.rest = ap (drop (length x)) p.whole ∙ drop_at x p.rest (length x) refl in
    ap (λ (k : ℕ). take k from) is
    ∙ ap (take (length x + min most (length from - length x))) p.whole
    ∙ take-append-add x p.rest (min most (length from - length x))
    ∙ ap (λ (k : ℕ). x ++ take (min most k) p.rest) more
    ∙ ap (λ t. x ++ t) (take_min most p.rest)
    ∙ ap (λ t. x ++ take most t) (sym rest)

-- one entry more
pub taken-next : (from : List Entry) (place : ℕ) (e : Entry) → Some e ≡ slice_get from place
    → take place from ++ e ∷ [] ≡ take (place + 1) from
taken-next from place e at =
    let h : place < length from = slice_get_within from place e (sym at) in
    let is : get_or from place e ≡ e = get_or_from_slice_get from place e e (sym at) in
    ap (λ (t : Entry). take place from ++ t ∷ []) (sym is) ∙ sym (take_more from place e h)

pub next-fits : (from : List Entry) (place : ℕ) (e : Entry) → Some e ≡ slice_get from place
    → end_of (take place from) + e.bytes ≤ end_of from
next-fits from place e at =
    omega (
      arith,
      ap end_of (taken-next from place e at),
      end_of-append (take place from) (e ∷ []),
      end_of-split (place + 1) from,
    )

-- the piece of another log in which a front of this one ends
pub share-first : (front tail pieces behind : List Entry) (p : Placed) → IsPrefixOf (front ++ tail) (pieces ++ behind)
    → (h : Holds p pieces (length front)) → take p.before front ≡ h.first
share-first front tail pieces behind p pre h =
    let n = p.before in
    sym (take-append-le n front (tail ++ pre.rest) h.reached)
    ∙ ap (take n) (sym (append_assoc front tail pre.rest))
    ∙ ap (take n) (sym pre.whole)
    ∙ ap (λ t. take n (t ++ behind)) h.whole
    ∙ ap (take n) (append_assoc h.first (p.piece ++ h.rest) behind)
    ∙ take_at h.first ((p.piece ++ h.rest) ++ behind) n (sym h.before)

pub share-continues : (front tail pieces behind : List Entry) (p : Placed)
    → IsPrefixOf (front ++ tail) (pieces ++ behind) → Holds p pieces (length front) → Continues p front
share-continues front tail pieces behind p pre h = record {
  before = h.reached;
  end = omega (arith, h.end, ap end_of (share-first front tail pieces behind p pre h));
  some = omega (arith, h.reached, h.within);
}

share-taken : (front tail pieces behind : List Entry) (p : Placed)
    → IsPrefixOf (front ++ tail) (pieces ++ behind) → Holds p pieces (length front)
    → take p.before front ++ p.piece ≡ take (p.before + length p.piece) (pieces ++ behind)
share-taken front tail pieces behind p pre h =
    ap (λ t. t ++ p.piece) (share-first front tail pieces behind p pre h)
    ∙ sym (take_at (h.first ++ p.piece) (h.rest ++ behind) (p.before + length p.piece)
    (omega (arith, length-append h.first p.piece, h.before)))
    ∙ ap (take (p.before + length p.piece))
    (sym (append_assoc (h.first ++ p.piece) h.rest behind)
    ∙ ap (λ t. t ++ behind) (append_assoc h.first p.piece h.rest ∙ sym h.whole))

-- the log with the shared piece
pub share-is : (front tail pieces behind : List Entry) (p : Placed) (n : ℕ)
    → IsPrefixOf (front ++ tail) (pieces ++ behind) → Holds p pieces (length front) → n ≡ p.before + length p.piece
    → (take p.before front ++ p.piece) ++ drop (n - length front) tail
    ≡ take n (pieces ++ behind) ++ drop n (front ++ tail)
share-is front tail pieces behind p n pre h is =
    ap (λ t. t ++ drop (n - length front) tail)
    (share-taken front tail pieces behind p pre h ∙ ap (λ (k : ℕ). take k (pieces ++ behind)) (sym is))
    ∙ ap (λ t. take n (pieces ++ behind) ++ t) (sym (drop-tail n front tail (omega (arith, is, h.within))))

-- where it has more than the log had
pub share-longer : (x from : List Entry) (n : ℕ) → length x ≤ n → take n from ++ drop n x ≡ take n from
share-longer x from n h = ap (λ t. take n from ++ t) (drop_all n x h) ∙ append-nil (take n from)

-- where the log had all of it
pub share-shorter : (x from : List Entry) (n : ℕ) → IsPrefixOf x from → n ≤ length x → take n from ++ drop n x ≡ x
share-shorter x from n p h =
    ap (λ t. take n t ++ drop n x) p.whole ∙ ap (λ t. t ++ drop n x) (take-append-le n x p.rest h)
    ∙ take-append-drop n x

pub share-grows : (x from : List Entry) (n until : ℕ) → IsPrefixOf x from → length x ≤ until → n ≤ until
    → Grows x (take n from ++ drop n x) from until
share-grows x from n until p most h = by-place (place (length x) n)
  where
    place : (a b : ℕ) → (a ≤ b) ⊎ (b ≤ a)
    place a b = grind arith

    by-place : (length x ≤ n) ⊎ (n ≤ length x) → Grows x (take n from ++ drop n x) from until
    by-place (inl longer) =
        subst (λ t. Grows x t from until) (sym (share-longer x from n longer)) (grows-taken x from n until p longer h)
    by-place (inr shorter) =
        subst (λ t. Grows x t from until) (sym (share-shorter x from n p shorter)) (grows-none x from until p most)

-- a log takes over a piece of another one: what its front and its tail become
pub record TakesOver (front tail pieces behind : List Entry) (p : Placed) (n : ℕ)
    (new-front new-tail : List Entry) : Type 0 where
  pub prefix : IsPrefixOf (front ++ tail) (pieces ++ behind)
  pub holds : Holds p pieces (length front)
  pub reached : n ≡ p.before + length p.piece
  pub front-is : new-front ≡ take p.before front ++ p.piece
  pub tail-is : new-tail ≡ drop (n - length front) tail

pub taken-over : (front tail pieces behind : List Entry) (p : Placed) (n : ℕ) (f t : List Entry)
    → TakesOver front tail pieces behind p n f t → f ++ t ≡ take n (pieces ++ behind) ++ drop n (front ++ tail)
taken-over front tail pieces behind p n f t o =
    ap (λ u. u ++ t) o.front-is
    ∙ ap (λ u. (take p.before front ++ p.piece) ++ u) o.tail-is
    ∙ share-is front tail pieces behind p n o.prefix o.holds o.reached

pub over-grows : (front tail pieces behind : List Entry) (p : Placed) (n until : ℕ) (f t x from : List Entry)
    → TakesOver front tail pieces behind p n f t → front ++ tail ≡ x → pieces ++ behind ≡ from
    → length x ≤ until → n ≤ until → Grows x (f ++ t) from until
over-grows front tail pieces behind p n until f t x from o is whole most h =
    let pre : IsPrefixOf x from =
    subst (λ u. IsPrefixOf u from) is (subst (λ u. IsPrefixOf (front ++ tail) u) whole o.prefix) in
    let new : f ++ t ≡ take n from ++ drop n x = taken-over front tail pieces behind p n f t o
    ∙ ap (λ u. take n u ++ drop n (front ++ tail)) whole ∙ ap (λ u. take n from ++ drop n u) is in
    subst (λ u. Grows x u from until) (sym new) (share-grows x from n until pre most h)

over-short : (front tail pieces behind : List Entry) (p : Placed) (n position : ℕ) (f t : List Entry)
    → TakesOver front tail pieces behind p n f t → IsLog front tail position → length t ≤ most_sealed
over-short front tail pieces behind p n position f t o log =
    omega (arith, ap length o.tail-is, length-drop (n - length front) tail, log.short)

-- its end, where it has more than the log had, and where it hasn't
pub over-longer : (front tail pieces behind : List Entry) (p : Placed) (n position : ℕ) (f t : List Entry)
    → TakesOver front tail pieces behind p n f t → IsLog front tail position → length (front ++ tail) ≤ n
    → IsLog f t p.end.position
over-longer front tail pieces behind p n position f t o log longer =
    let none : t ≡ [] = o.tail-is
    ∙ drop_all (n - length front) tail (omega (arith, longer, length-append front tail)) in
    record {
      end =
          omega (
            arith,
            o.holds.end,
            ap end_of (share-first front tail pieces behind p o.prefix o.holds),
            end_of-append (take p.before front) p.piece,
            ap end_of o.front-is,
            end_of-append f t,
            ap end_of none,
          );
      short = over-short front tail pieces behind p n position f t o log;
    }

pub over-shorter : (front tail pieces behind : List Entry) (p : Placed) (n position : ℕ) (f t : List Entry)
    → TakesOver front tail pieces behind p n f t → IsLog front tail position → n ≤ length (front ++ tail)
    → IsLog f t position
over-shorter front tail pieces behind p n position f t o log shorter = record {
  end = log.end
      ∙ ap end_of
      (sym (taken-over front tail pieces behind p n f t o
      ∙ share-shorter (front ++ tail) (pieces ++ behind) n o.prefix shorter));
  short = over-short front tail pieces behind p n position f t o log;
}
