-- Messages in flight as a function from their numbers.
use Rattle.std.proofs.Common.{◌≡◌, ℕ, ◌+◌, ◌≤◌, ◌<◌, ◌==◌, nat_lt, Bool, true, false, cond, [], ◌∷◌, Option, Some, None, refl, ◌∙◌, ap, sym, arith}
use Rattle.std.proofs.lemmas.Bool.Decides.{nat_tests}
use Rattle.std.proofs.lemmas.Cmp.{ranked}
use Rattle.std.specs.Ordering.{nat_cmp, is_eq, match_ordering, MatchOrdering}
use Rattle.std.specs.declared.cmp.Ordering.{Ordering}
use Rattle.std.specs.declared.cmp.Ordering.TheVariants.{Less, Equal, Greater}
use Rattle.std.specs.BTreeMap.{insert_entry, is_at}
use Rattle.event_book.specs.Flight.{InFlightFacts, Flight, in_flight, without_message}
use Rattle.event_book.specs.Functions.{put_at}
use Rattle.lease_model.proofs.Tools.{eq-from, ne-from}
use Rattle.lease_book.specs.Flights.{Rises}

below-equal : (i k : ℕ) → nat_lt i k ≡ true → (i == k) ≡ true → ⊥
below-equal i k e f = grind (arith, nat_tests)

at-by : (i k : ℕ) (a b : Bool) → nat_lt i k ≡ a → (i == k) ≡ b → is_eq (cond a Less (cond b Equal Greater)) ≡ b
at-by i k true true e f = absurd (below-equal i k e f)
at-by i k true false e f = refl
at-by i k false true e f = refl
at-by i k false false e f = refl

pub at-is : (i k : ℕ) → is_at (nat_cmp i) k ≡ (i == k)
at-is i k = at-by i k (nat_lt i k) (i == k) refl refl

twice : (b : Bool) (v w x : Option InFlightFacts) → cond b v x ≡ cond b v (cond b w x)
twice true v w x = refl
twice false v w x = refl

swap-false : (c : Bool) (v x : Option InFlightFacts) → cond c v x ≡ cond c v x
swap-false c v x = refl

swap : (b c : Bool) (v w x : Option InFlightFacts) → (b ≡ true → c ≡ true → ⊥)
    → cond c v (cond b w x) ≡ cond b w (cond c v x)
swap true true v w x never = absurd (never refl refl)
swap true false v w x never = refl
swap false c v w x never = swap-false c v x

apart : (i k n : ℕ) → (k ≡ n → ⊥) → (i == k) ≡ true → is_at (nat_cmp i) n ≡ true → ⊥
apart i k n other e f = other (sym (eq-from i k e) ∙ eq-from i n (sym (at-is i n) ∙ f))

-- a message is put in
in-placed : (o : Ordering) (entry : ℕ × InFlightFacts) (entries : Flight) (k : ℕ) (v : InFlightFacts) (i : ℕ)
    → MatchOrdering o (k < entry.0) (k ≡ entry.0) (entry.0 < k)
    → in_flight (insert_entry nat_cmp entries k v) i ≡ put_at (in_flight entries) k (Some v) i
    → in_flight
    (match_ordering o ((k, v) ∷ entry ∷ entries) ((entry.0, v) ∷ entries) (entry ∷ insert_entry nat_cmp entries k v)) i
    ≡ put_at (in_flight (entry ∷ entries)) k (Some v) i
in-placed Less entry entries k v i m more =
    ap (λ (b : Bool). cond b (Some v) (in_flight (entry ∷ entries) i)) (at-is i k)
in-placed Equal entry entries k v i m more =
    twice (is_at (nat_cmp i) entry.0) (Some v) (Some entry.1) (in_flight entries i)
    ∙ ap (λ (b : Bool). cond b (Some v) (in_flight (entry ∷ entries) i))
    (at-is i entry.0 ∙ ap (λ (n : ℕ). i == n) (sym m))
in-placed Greater entry entries k v i m more =
    ap (λ (x : Option InFlightFacts). cond (is_at (nat_cmp i) entry.0) (Some entry.1) x) more
    ∙ swap (i == k) (is_at (nat_cmp i) entry.0) (Some entry.1) (Some v) (in_flight entries i)
    (apart i k entry.0 (λ e. omega (arith, e, m)))

pub in-with : (entries : Flight) (k : ℕ) (v : InFlightFacts) (i : ℕ)
    → in_flight (insert_entry nat_cmp entries k v) i ≡ put_at (in_flight entries) k (Some v) i
in-with [] k v i = ap (λ (b : Bool). cond b (Some v) None) (at-is i k)
in-with (entry ∷ entries) k v i = in-placed (nat_cmp k entry.0) entry entries k v i
    (ranked k entry.0 (nat_cmp k entry.0) refl) (in-with entries k v i)

-- numbers that rise
pub rises-from : (low high : ℕ) (entries : Flight) → low ≤ high → Rises high entries → Rises low entries
rises-from low high [] h is = tt
rises-from low high (entry ∷ entries) h is = (omega (arith, h, is.0), is.1)

rises-placed : (o : Ordering) (low : ℕ) (entry : ℕ × InFlightFacts) (entries : Flight) (k : ℕ) (v : InFlightFacts)
    → MatchOrdering o (k < entry.0) (k ≡ entry.0) (entry.0 < k)
    → low ≤ k → Rises low (entry ∷ entries) → (entry.0 < k → Rises (entry.0 + 1) (insert_entry nat_cmp entries k v))
    → Rises low
    (match_ordering o ((k, v) ∷ entry ∷ entries) ((entry.0, v) ∷ entries) (entry ∷ insert_entry nat_cmp entries k v))
rises-placed Less low entry entries k v m above is more = (above, (omega (arith, m), is.1))
rises-placed Equal low entry entries k v m above is more = is
rises-placed Greater low entry entries k v m above is more = (is.0, more m)

pub rises-with : (low : ℕ) (entries : Flight) (k : ℕ) (v : InFlightFacts) → low ≤ k → Rises low entries
    → Rises low (insert_entry nat_cmp entries k v)
rises-with low [] k v above is = (above, tt)
rises-with low (entry ∷ entries) k v above is =
    rises-placed (nat_cmp k entry.0) low entry entries k v (ranked k entry.0 (nat_cmp k entry.0) refl) above is
    (λ m. rises-with (entry.0 + 1) entries k v (omega (arith, m)) is.1)

rises-chosen : (b : Bool) (low : ℕ) (entry : ℕ × InFlightFacts) (entries rest : Flight)
    → Rises low (entry ∷ entries) → Rises (entry.0 + 1) rest → Rises low (cond b entries (entry ∷ rest))
rises-chosen true low entry entries rest is less = rises-from low (entry.0 + 1) entries (omega (arith, is.0)) is.1
rises-chosen false low entry entries rest is less = (is.0, less)

pub rises-without : (low : ℕ) (entries : Flight) (k : ℕ) → Rises low entries → Rises low (without_message entries k)
rises-without low [] k is = tt
rises-without low (entry ∷ entries) k is = rises-chosen (is_at (nat_cmp k) entry.0) low entry entries
    (without_message entries k) is (rises-without (entry.0 + 1) entries k is.1)

-- a message is taken out
none-if : (b : Bool) (i : ℕ) (entry : ℕ × InFlightFacts) (rest : Option InFlightFacts)
    → is_at (nat_cmp i) entry.0 ≡ b → i < entry.0 → rest ≡ None → cond b (Some entry.1) rest ≡ None
none-if true i entry rest at low none = absurd (omega (arith, eq-from i entry.0 (sym (at-is i entry.0) ∙ at), low))
none-if false i entry rest at low none = none

none-below : (low : ℕ) (entries : Flight) (i : ℕ) → Rises low entries → i < low → in_flight entries i ≡ None
none-below low [] i is below = refl
none-below low (entry ∷ entries) i is below =
    none-if (is_at (nat_cmp i) entry.0) i entry (in_flight entries i) refl (omega (arith, below, is.0))
    (none-below (entry.0 + 1) entries i is.1 (omega (arith, below, is.0)))

in-first : (b c : Bool) (entry : ℕ × InFlightFacts) (rest : Option InFlightFacts) → c ≡ b
    → (b ≡ true → rest ≡ None) → rest ≡ cond b None (cond c (Some entry.1) rest)
in-first true c entry rest same none = none refl
in-first false true entry rest same none = absurd (clash same)
  where
    clash : true ≡ false → ⊥
    clash e = cc
in-first false false entry rest same none = refl

in-chosen : (b : Bool) (low : ℕ) (entry : ℕ × InFlightFacts) (entries : Flight) (k i : ℕ)
    → is_at (nat_cmp k) entry.0 ≡ b → Rises low (entry ∷ entries)
    → in_flight (without_message entries k) i ≡ put_at (in_flight entries) k None i
    → in_flight (cond b entries (entry ∷ without_message entries k)) i ≡ put_at (in_flight (entry ∷ entries)) k None i
in-chosen true low entry entries k i at is more =
    let same : k ≡ entry.0 = eq-from k entry.0 (sym (at-is k entry.0) ∙ at) in
    in-first (i == k) (is_at (nat_cmp i) entry.0) entry (in_flight entries i)
    (at-is i entry.0 ∙ ap (λ (n : ℕ). i == n) (sym same))
    (λ e. none-below (entry.0 + 1) entries i is.1 (omega (arith, eq-from i k e, same)))
in-chosen false low entry entries k i at is more =
    ap (λ (x : Option InFlightFacts). cond (is_at (nat_cmp i) entry.0) (Some entry.1) x) more
    ∙ swap (i == k) (is_at (nat_cmp i) entry.0) (Some entry.1) None (in_flight entries i)
    (apart i k entry.0 (ne-from k entry.0 (sym (at-is k entry.0) ∙ at)))

pub in-without : (low : ℕ) (entries : Flight) (k i : ℕ) → Rises low entries
    → in_flight (without_message entries k) i ≡ put_at (in_flight entries) k None i
in-without low [] k i is = none-both (i == k)
  where
    none-both : (b : Bool) → ◌≡◌ {A = Option InFlightFacts} None (cond b None None)
    none-both true = refl
    none-both false = refl
in-without low (entry ∷ entries) k i is =
    in-chosen (is_at (nat_cmp k) entry.0) low entry entries k i refl is (in-without (entry.0 + 1) entries k i is.1)
