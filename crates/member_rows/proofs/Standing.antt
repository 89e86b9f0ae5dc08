-- Each member that tells of itself has one row.
use Rattle.std.proofs.Common.{◌≡◌, ◌≢◌, ◌∙◌, ℕ, ◌+◌, ◌≤◌, ◌<◌, ◌==◌, zero, suc, Bool, true, false, cond, List, [], ◌∷◌, Option, Some, None, count_by, All, refl, sym, ap, arith}
use Rattle.std.specs.List.{cons_option, filter_map, range_with_len}
use Rattle.std.proofs.lemmas.Bool.{eq-eqb, false_from_ne_true}
use Rattle.std.proofs.lemmas.Bool.Decides.{nat_tests}
use Rattle.std.proofs.lemmas.List.Elements.{All-cons, All-nil}
use Rattle.std.proofs.lemmas.List.Sums.{sum_by-cons}
use Rattle.std.proofs.lemmas.Option.{none-some, same_Some}
use Rattle.pat_base.specs.declared.host.Host.{Host}
use Rattle.pat_base.specs.declared.member_id.MemberId.{MemberId}
use Rattle.pat_base.specs.declared.member_id.TheConstants.{MOST_MEMBERS}
use Rattle.pat_base.specs.declared.name.Name.{Name}
use Rattle.pat_base.specs.MemberId.{member_of}
use Rattle.pat_base.proofs.Members.{member_of-number, number-member_of}
use Rattle.store_keys.specs.declared.value.MemberInfo.{MemberInfo}
use Rattle.cluster_view.specs.Snapshots.{SnapshotFacts}
use Rattle.member_rows.specs.Laws.{is_row_of}
use Rattle.cluster_view.specs.KeyValues.{info_in}
use Rattle.member_rows.specs.Rows.{declared_in, row_by, row_in, row_numbered, row_of, rows_by_number, rows_of}
use Rattle.member_rows.specs.declared.rows.Row.{Row}
use Rattle.member_rows.proofs.Placing.{all-fold, count-fold}

-- a row is that of the member it was made of
member-row_by : (member : MemberId) (declared : Option (Name × Host)) (told : Option MemberInfo) (row : Row)
    → row_by member declared told ≡ Some row → row.member ≡ member
member-row_by member None told row is = absurd (none-some row is)
member-row_by member (Some declared) None row is = absurd (none-some row is)
member-row_by member (Some declared) (Some info) row is =
    sym (ap (λ (r : Row). r.member) (same_Some (record { member = member; name = declared.0; info = info }) row is))

numbered-by : (snapshot : SnapshotFacts) (k : ℕ) (found : Option MemberId) (row : Row) → member_of k ≡ found
    → row_of snapshot found ≡ Some row → (row.member.number ≡ k) × (row_in snapshot row.member ≡ Some row)
numbered-by snapshot k None row by is = absurd (none-some row is)
numbered-by snapshot k (Some member) row by is =
    let same : row.member ≡ member =
    member-row_by member (declared_in snapshot member) (info_in snapshot member) row is in
    (ap (λ (m : MemberId). m.number) same ∙ number-member_of k member by, ap (λ m. row_in snapshot m) same ∙ is)

-- the row of a number is that of its member
numbered : (snapshot : SnapshotFacts) (k : ℕ) (row : Row) → row_numbered snapshot k ≡ Some row
    → (row.member.number ≡ k) × (row_in snapshot row.member ≡ Some row)
numbered snapshot k row is = numbered-by snapshot k (member_of k) row refl is

-- how often the member's row is found
abbrev hits : MemberId → Option Row → ℕ
hits member None = 0
hits member (Some row) = cond (is_row_of member row) 1 0

count-cons : (member : MemberId) (found : Option Row) (rows : List Row)
    → count_by (is_row_of member) (cons_option found rows) ≡ hits member found + count_by (is_row_of member) rows
count-cons member None rows = omega arith
count-cons member (Some row) rows = sum_by-cons (λ row. cond (is_row_of member row) 1 0) row rows

-- rows by number, of which each has its number
abbrev AreNumbered : (ℕ → Option Row) → Type 0
AreNumbered f = (k : ℕ) (row : Row) → f k ≡ Some row → row.member.number ≡ k

hits-other : (f : ℕ → Option Row) → AreNumbered f → (member : MemberId) (k : ℕ) (found : Option Row)
    → f k ≡ found → (member.number ≡ k → ⊥) → hits member found ≡ 0
hits-other f all member k None by other = refl
hits-other f all member k (Some row) by other =
    let differs : is_row_of member row ≡ false = false_from_ne_true (is_row_of member row)
    (λ e. let same : row.member.number ≡ member.number = grind (arith, nat_tests) in other (sym same ∙ all k row by)) in
    rw differs refl

hits-own : (f : ℕ → Option Row) → AreNumbered f → (member : MemberId) (row : Row) → f member.number ≡ Some row
    → hits member (f member.number) ≡ 1
hits-own f all member row by =
    let same : is_row_of member row ≡ true = eq-eqb row.member.number member.number (all member.number row by) in
    rw by (rw same refl)

count-behind : (f : ℕ → Option Row) → AreNumbered f → (member : MemberId) (a n : ℕ) → member.number < a
    → count_by (is_row_of member) (filter_map f (range_with_len a n)) ≡ 0
count-behind f all member a zero behind = refl
count-behind f all member a (suc n) behind =
    count-cons member (f a) (filter_map f (range_with_len (a + 1) n))
    ∙ omega (
      arith,
      hits-other f all member a (f a) refl (λ e. absurd (omega (arith, e))),
      count-behind f all member (a + 1) n (omega arith),
    )

count-by : (f : ℕ → Option Row) → AreNumbered f → (member : MemberId) (row : Row) → f member.number ≡ Some row
    → (a n : ℕ) (test : Bool) → (member.number == a) ≡ test
    → (member.number ≢ a → count_by (is_row_of member) (filter_map f (range_with_len (a + 1) n)) ≡ 1)
    → hits member (f a) + count_by (is_row_of member) (filter_map f (range_with_len (a + 1) n)) ≡ 1
count-by f all member row by a n true is rest =
    let same : member.number ≡ a = grind (arith, nat_tests) in
    omega (
      arith,
      ap (λ k. hits member (f k)) (sym same) ∙ hits-own f all member row by,
      count-behind f all member (a + 1) n (omega (arith, same)),
    )
count-by f all member row by a n false is rest =
    let other : member.number ≢ a = grind (arith, nat_tests) in
    omega (arith, hits-other f all member a (f a) refl other, rest other)

count-within : (f : ℕ → Option Row) → AreNumbered f → (member : MemberId) (row : Row)
    → f member.number ≡ Some row → (a n : ℕ) → a ≤ member.number → member.number < a + n
    → count_by (is_row_of member) (filter_map f (range_with_len a n)) ≡ 1
count-within f all member row by a zero from below = absurd (omega arith)
count-within f all member row by a (suc n) from below =
    count-cons member (f a) (filter_map f (range_with_len (a + 1) n))
    ∙ count-by f all member row by a n (member.number == a) refl
    (λ other. count-within f all member row by (a + 1) n (omega (arith, other)) (omega arith))

-- a member that the cluster has and that tells of itself has one row
pub stands-once : (snapshot : SnapshotFacts) (member : MemberId) (declared : Name × Host) (info : MemberInfo)
    → declared_in snapshot member ≡ Some declared → info_in snapshot member ≡ Some info
    → count_by (is_row_of member) (rows_of snapshot) ≡ 1
stands-once snapshot member declared info has tells =
    count-fold (is_row_of member) (rows_by_number snapshot) []
    ∙ omega (
      arith,
      count-within (row_numbered snapshot) (λ k row by. (numbered snapshot k row by).0) member
          (record { member = member; name = declared.0; info = info }) there 0 MOST_MEMBERS (omega arith)
          (omega (arith, member.below)),
    )
  where
    there : row_numbered snapshot member.number ≡ Some (record { member = member; name = declared.0; info = info })
    there = rw (member_of-number member, has, tells) refl

all-cons : (P : Row → Type 0) (found : Option Row) (rows : List Row)
    → ((row : Row) → found ≡ Some row → P row) → All P rows → All P (cons_option found rows)
all-cons P None rows here rest = rest
all-cons P (Some row) rows here rest = All-cons P row rows (here row refl) rest

all-found : (P : Row → Type 0) (f : ℕ → Option Row) → ((k : ℕ) (row : Row) → f k ≡ Some row → P row)
    → (ks : List ℕ) → All P (filter_map f ks)
all-found P f each [] = All-nil P
all-found P f each (k ∷ ks) = all-cons P (f k) (filter_map f ks) (each k) (all-found P f each ks)

-- each row is that of its member
pub rows-are-of-members : (snapshot : SnapshotFacts)
    → All (λ row. row_in snapshot row.member ≡ Some row) (rows_of snapshot)
rows-are-of-members snapshot =
    all-fold (λ row. row_in snapshot row.member ≡ Some row) [] (rows_by_number snapshot)
    (All-nil (λ row. row_in snapshot row.member ≡ Some row))
    (all-found (λ row. row_in snapshot row.member ≡ Some row) (row_numbered snapshot)
    (λ k row by. (numbered snapshot k row by).1) (range_with_len 0 MOST_MEMBERS))
