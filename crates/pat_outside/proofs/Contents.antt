-- Contents that grow and shrink piece by piece. All loops that print or read rest on these.
use Rattle.std.proofs.Common.{◌≡◌, ℕ, ◌+◌, ◌-◌, ◌≤◌, List, [], ◌++◌, length, take, drop, Option, Some, arith, append_assoc, append-nil, refl, ◌∙◌, ap, sym, inl, inr, take-add, length-drop, take_all, drop-drop, take-append-drop, Result, Ok, Err, OnErr}
use Rattle.std.proofs.lemmas.List.{drop_all}
use Rattle.pat_outside.specs.Outside.{Known, Rose, Grew, GrewByPrefix, Consumed}

-- what holds holds on an error too
pub OnErr-holds : {X E P : Type 0} (r : Result X E) → P → OnErr r P
OnErr-holds (Ok x) p = tt
OnErr-holds (Err e) p = p

pub Grew-nothing : (a : Option (List ℕ)) → Grew a a []
Grew-nothing a = record { all = λ had is. is ∙ ap Some (sym (append-nil had)) }

pub Grew-Grew : (a b c : Option (List ℕ)) (xs ys : List ℕ) → Grew a b xs → Grew b c ys → Grew a c (xs ++ ys)
Grew-Grew a b c xs ys g h = record {
  all = λ had is. h.all (had ++ xs) (g.all had is) ∙ ap Some (append_assoc had xs ys);
}

pub Grew-part : (a b c : Option (List ℕ)) (xs ys : List ℕ) → Grew a b xs → GrewByPrefix b c ys
    → GrewByPrefix a c (xs ++ ys)
Grew-part a b c xs ys g h = record {
  part = λ had is.
      let p = h.part (had ++ xs) (g.all had is) in
      (xs ++ p.0, p.1, append_assoc xs p.0 p.1 ∙ ap (λ t. xs ++ t) p.2, p.3 ∙ ap Some (append_assoc had xs p.0));
}

-- all is a front
pub GrewByPrefix-all : (a b : Option (List ℕ)) (xs : List ℕ) → Grew a b xs → GrewByPrefix a b xs
GrewByPrefix-all a b xs g = record { part = λ had is. (xs, [], append-nil xs, g.all had is) }

-- a front of a front is one of the whole
pub GrewByPrefix-more : (a b : Option (List ℕ)) (xs ys : List ℕ) → GrewByPrefix a b xs → GrewByPrefix a b (xs ++ ys)
GrewByPrefix-more a b xs ys g = record {
  part = λ had is.
      let p = g.part had is in
      (p.0, p.1 ++ ys, sym (append_assoc p.0 p.1 ys) ∙ ap (λ t. t ++ ys) p.2, p.3);
}

-- nothing is a front
pub GrewByPrefix-same : (a b : Option (List ℕ)) (xs : List ℕ) → b ≡ a → GrewByPrefix a b xs
GrewByPrefix-same a b xs e = record { part = λ had is. ([], xs, refl, e ∙ is ∙ ap Some (sym (append-nil had))) }

pub Rose-earlier : (a b c : ℕ) → a ≤ b → Rose b c → Rose a c
Rose-earlier a b c h r = elim r [ inl lt ↦ inl (omega arith) | inr top ↦ inr top ]

-- the slice from i on
pub slice_rest : (i : ℕ) (xs : List ℕ) → take (length xs - i) (drop i xs) ≡ drop i xs
slice_rest i xs = take_all (length xs - i) (drop i xs) (omega (arith, length-drop i xs))

-- a front of the bytes was written, and a piece of what follows it
pub Grew-more : (before mid after : Option (List ℕ)) (bytes : List ℕ) (at n : ℕ) → Grew before mid (take at bytes)
    → Known mid (λ had. after ≡ Some (had ++ take n (take (length bytes - at) (drop at bytes))))
    → Grew before after (take (at + n) bytes)
Grew-more before mid after bytes at n grew told = record {
  all = λ had is. told (had ++ take at bytes) (grew.all had is)
      ∙ ap Some (ap (λ t. (had ++ take at bytes) ++ take n t) (slice_rest at bytes)
      ∙ append_assoc had (take at bytes) (take n (drop at bytes)) ∙ ap (λ t. had ++ t) (sym (take-add at n bytes)));
}

pub within-more : (bytes : List ℕ) (at n : ℕ) → at ≤ length bytes
    → n ≤ length (take (length bytes - at) (drop at bytes)) → at + n ≤ length bytes
within-more bytes at n h k =
    let m : n ≤ length (drop at bytes) = rw (slice_rest at bytes) at k in
    omega (arith, length-drop at bytes)

pub Grew-front : (before mid after : Option (List ℕ)) (bytes : List ℕ) (at : ℕ)
    → Grew before mid (take at bytes) → after ≡ mid → GrewByPrefix before after bytes
Grew-front before mid after bytes at grew same = record {
  part = λ had is. (take at bytes, drop at bytes, take-append-drop at bytes, same ∙ grew.all had is);
}

-- so many bytes have been read, and now is what is left
pub record HasRead (before now : Option (List ℕ)) (faults after : ℕ) (bytes : List ℕ) (most : ℕ) : Type 0 where
  pub within : length bytes ≤ most
  pub front : Known before (λ all. (length bytes ≤ length all) × (bytes ≡ take (length bytes) all))
  pub rest : Known before (λ all. now ≡ Some (drop (length bytes) all))
  pub grows : faults ≤ after

-- n more bytes have been read
pub record ReadsMore (now then : Option (List ℕ)) (bytes longer : List ℕ) (n : ℕ) : Type 0 where
  pub added : length longer ≡ length bytes + n
  pub bytes_are : Known now (λ all. (n ≤ length all) × (longer ≡ bytes ++ take n all))
  pub after : Known now (λ all. then ≡ Some (drop n all))

pub HasRead-more : (before now then : Option (List ℕ)) (faults mid after : ℕ) (bytes longer : List ℕ) (most n : ℕ)
    → HasRead before now faults mid bytes most → ReadsMore now then bytes longer n → n ≤ most - length bytes
    → mid ≤ after → HasRead before then faults after longer most
HasRead-more before now then faults mid after bytes longer most n had more fits rose =
    let long : length longer ≡ length bytes + n = more.added in
    record {
      within = omega (arith, had.within);
      front = λ all is.
          let f = had.front all is in
          let m = more.bytes_are (drop (length bytes) all) (had.rest all is) in
          let e : take (length bytes + n) all ≡ take (length bytes) all ++ take n (drop (length bytes) all) =
          take-add (length bytes) n all in
          let p : bytes ≡ take (length bytes) all = f.1 in
          let q : longer ≡ bytes ++ take n (drop (length bytes) all) = m.1 in (
            omega (arith, length-drop (length bytes) all, f.0, m.0),
            q ∙ ap (λ b. b ++ take n (drop (length bytes) all)) p ∙ sym e ∙ ap (λ k. take k all) (sym long),
          );
      rest = λ all is. more.after (drop (length bytes) all) (had.rest all is)
          ∙ ap Some (drop-drop n (length bytes) all ∙ ap (λ k. drop k all) (sym long));
      grows = omega (arith, had.grows);
    }

-- a read of no bytes: the source was at its end
pub HasRead-end : (before now then : Option (List ℕ)) (faults mid : ℕ) (bytes longer : List ℕ) (most n : ℕ)
    → HasRead before now faults mid bytes most → ReadsMore now then bytes longer n → Known now (λ all. length all ≡ 0)
    → Known before (λ all. (longer ≡ take most all) × (then ≡ Some (drop most all)))
HasRead-end before now then faults mid bytes longer most n had more none all is =
    let f = had.front all is in
    let rest : List ℕ = drop (length bytes) all in
    let z : length rest ≡ 0 = none (drop (length bytes) all) (had.rest all is) in
    let m = more.bytes_are (drop (length bytes) all) (had.rest all is) in
    let smaller : length all ≤ most = omega (arith, length-drop (length bytes) all, z, had.within, f.0) in
    let read : length all ≤ length bytes + n = omega (arith, length-drop (length bytes) all, z, f.0) in (
      m.1
          ∙ ap (λ t. bytes ++ t) (take_all n (drop (length bytes) all) (omega (arith, z)))
          ∙ ap (λ b. b ++ drop (length bytes) all) f.1
          ∙ take-append-drop (length bytes) all
          ∙ sym (take_all most all smaller),
      more.after (drop (length bytes) all) (had.rest all is)
          ∙ ap Some
          (drop-drop n (length bytes) all ∙ drop_all (length bytes + n) all read ∙ sym (drop_all most all smaller)),
    )

-- what was read is all that may be
pub HasRead-full : (before now : Option (List ℕ)) (faults after : ℕ) (bytes : List ℕ) (most : ℕ)
    → HasRead before now faults after bytes most → most ≤ length bytes
    → Known before (λ all. (bytes ≡ take most all) × (now ≡ Some (drop most all)))
HasRead-full before now faults after bytes most had full all is =
    let e : length bytes ≡ most = omega (arith, had.within) in
    ((had.front all is).1 ∙ ap (λ k. take k all) e, had.rest all is ∙ ap (λ k. Some (drop k all)) e)

pub HasRead-Consumed : (before now then : Option (List ℕ)) (faults after : ℕ) (bytes : List ℕ) (most left : ℕ)
    → HasRead before now faults after bytes most → left ≤ most - length bytes → Consumed now then left
    → Consumed before then most
HasRead-Consumed before now then faults after bytes most left had fits more = record {
  some = λ all is.
      let m = more.some (drop (length bytes) all) (had.rest all is) in
      (length bytes + m.0, omega (arith, had.within, m.1, fits), m.2 ∙ ap Some (drop-drop m.0 (length bytes) all));
}

pub Consumed-none : (a b : Option (List ℕ)) (most : ℕ) → b ≡ a → Consumed a b most
Consumed-none a b most e = record { some = λ all is. (0, omega arith, e ∙ is) }

pub Consumed-some : (a b : Option (List ℕ)) (n most : ℕ) → n ≤ most → Known a (λ all. b ≡ Some (drop n all))
    → Consumed a b most
Consumed-some a b n most h told = record { some = λ all is. (n, h, told all is) }
