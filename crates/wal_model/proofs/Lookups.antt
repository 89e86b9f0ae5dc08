-- Serials in logs.
use Rattle.std.proofs.Common.{◌≡◌, ℕ, ◌<◌, ◌==◌, ◌||◌, Bool, true, false, List, [], ◌∷◌, ◌++◌, length, take, drop, get_or, zero, suc, refl, ap, subst, arith, ◌∙◌, sym}
use Rattle.std.specs.Prelude.{◌↔◌, slice_get, not, Contains, All}
use Rattle.std.proofs.lemmas.Bool.{eqb-true, false≢true}
use Rattle.std.proofs.lemmas.Bool.Decides.{nat_tests}
use Rattle.std.proofs.lemmas.List.Elements.{All-nil, All-cons, All-contains, Contains-append_left, Contains-append_right, Contains-push}
use Rattle.wal_model.specs.declared.entry.Entry.{Entry}
use Rattle.wal_model.specs.Lacking.{is_entry_of, has_serial, lacks_in, HasEntryWith}

or-true : (a b : Bool) → b ≡ true → (a || b) ≡ true
or-true true b h = refl
or-true false b h = h

or-swap : (a b c : Bool) → (a || (b || c)) ≡ (b || (a || c))
or-swap true true c = refl
or-swap true false c = refl
or-swap false true c = refl
or-swap false false c = refl

-- the entry at a place is that of the commit
pub has-at : (log : List Entry) (i q : ℕ) → is_entry_of (slice_get log i) q ≡ true → has_serial log q ≡ true
has-at [] i q h = h
has-at (e ∷ es) zero q h = ap (λ b. b || has_serial es q) h
has-at (e ∷ es) (suc i) q h = or-true (e.serial == q) (has_serial es q) (has-at es i q h)

-- neither the entry at a place nor one behind it is
pub has-none : (log : List Entry) (i q : ℕ) → is_entry_of (slice_get log i) q ≡ false
    → has_serial (drop (suc i) log) q ≡ false → has_serial (drop i log) q ≡ false
has-none [] zero q h rest = refl
has-none [] (suc i) q h rest = refl
has-none (e ∷ es) zero q h rest = ap (λ b. b || has_serial es q) h ∙ rest
has-none (e ∷ es) (suc i) q h rest = has-none es i q h rest

-- the first entries, one more of them
pub has-more : (log : List Entry) (i q : ℕ) → i < length log
    → has_serial (take (suc i) log) q ≡ (is_entry_of (slice_get log i) q || has_serial (take i log) q)
has-more [] i q within = absurd (omega (arith, within))
has-more (e ∷ es) zero q within = refl
has-more (e ∷ es) (suc i) q within = ap (λ b. (e.serial == q) || b) (has-more es i q (omega (arith, within)))
    ∙ or-swap (e.serial == q) (is_entry_of (slice_get es i) q) (has_serial (take i es) q)

-- the commit at a place is lacked
pub lacks-at : (log : List Entry) (cs : List ℕ) (i : ℕ) → i < length cs
    → has_serial log (get_or cs i 0) ≡ false → lacks_in log (drop i cs) ≡ true
lacks-at log [] i within h = absurd (omega (arith, within))
lacks-at log (c ∷ cs) zero within h = ap (λ b. not b || lacks_in log cs) h
lacks-at log (c ∷ cs) (suc i) within h = lacks-at log cs i (omega (arith, within)) h

-- the commit at a place isn't lacked
pub lacks-past : (log : List Entry) (cs : List ℕ) (i : ℕ) → i < length cs
    → has_serial log (get_or cs i 0) ≡ true → lacks_in log (drop (suc i) cs) ≡ lacks_in log (drop i cs)
lacks-past log [] i within h = absurd (omega (arith, within))
lacks-past log (c ∷ cs) zero within h = sym (ap (λ b. not b || lacks_in log cs) h)
lacks-past log (c ∷ cs) (suc i) within h = lacks-past log cs i (omega (arith, within)) h

-- a log that lacks none has each
pub has-each : (log : List Entry) (serials : List ℕ) → lacks_in log serials ≡ false
    → All (λ serial. has_serial log serial ≡ true) serials
has-each log [] none = All-nil (λ serial. has_serial log serial ≡ true)
has-each log (serial ∷ serials) none = go (has_serial log serial) refl none (has-each log serials)
  where
    go : (test : Bool) → has_serial log serial ≡ test → (not test || lacks_in log serials) ≡ false
        → (lacks_in log serials ≡ false → All (λ s. has_serial log s ≡ true) serials)
        → All (λ s. has_serial log s ≡ true) (serial ∷ serials)
    go true is rest others = All-cons (λ s. has_serial log s ≡ true) serial serials is (others rest)
    go false is rest others = absurd (false≢true (sym rest))

-- a log that lacks one hasn't each
pub lacks-some : (log : List Entry) (serials : List ℕ) → lacks_in log serials ≡ true
    → ((serial : ℕ) → Contains serials serial → has_serial log serial ≡ true) → ⊥
lacks-some log [] some each = false≢true some
lacks-some log (serial ∷ serials) some each =
    lacks-some log serials
    (ap (λ b. not b || lacks_in log serials)
    (sym (each serial (Contains-append_left (serial ∷ []) serials serial (Contains-push [] serial)))) ∙ some)
    (λ s there. each s (Contains-append_right (serial ∷ []) serials s there))

-- an entry of this serial, somewhere
has-behind : (front rest : List Entry) (entry : Entry) (serial : ℕ) → entry.serial ≡ serial
    → has_serial (front ++ entry ∷ rest) serial ≡ true
has-behind [] rest entry serial is = subst (λ t. ((entry.serial == t) || has_serial rest t) ≡ true) is
    (ap (λ b. b || has_serial rest entry.serial) (same-serial entry.serial))
  where
    same-serial : (n : ℕ) → (n == n) ≡ true
    same-serial n = grind (arith, nat_tests)
has-behind (x ∷ front) rest entry serial is =
    or-true (x.serial == serial) (has_serial (front ++ entry ∷ rest) serial) (has-behind front rest entry serial is)

has-entry : (log : List Entry) (serial : ℕ) → has_serial log serial ≡ true → HasEntryWith log serial
has-entry [] serial has = absurd (false≢true has)
has-entry (x ∷ xs) serial has = go (x.serial == serial) refl has (has-entry xs serial)
  where
    go : (test : Bool) → (x.serial == serial) ≡ test → (test || has_serial xs serial) ≡ true
        → (has_serial xs serial ≡ true → HasEntryWith xs serial) → HasEntryWith (x ∷ xs) serial
    go true is there others =
        record { front = []; entry = x; rest = xs; whole = refl; serial_is = eqb-true x.serial serial is }
    go false is there others =
        let other = others there in
        record {
          front = x ∷ other.front;
          entry = other.entry;
          rest = other.rest;
          whole = ap (λ (l : List Entry). x ∷ l) other.whole;
          serial_is = other.serial_is;
        }

entry-has : (log : List Entry) (serial : ℕ) → HasEntryWith log serial → has_serial log serial ≡ true
entry-has log serial there = subst (λ (l : List Entry). has_serial l serial ≡ true) (sym there.whole)
    (has-behind there.front there.rest there.entry serial there.serial_is)

pub looked-up : (log : List Entry) (serial : ℕ) → has_serial log serial ≡ true ↔ HasEntryWith log serial
looked-up log serial = (has-entry log serial, entry-has log serial)

some-lacked : (log : List Entry) (serials : List ℕ) → lacks_in log serials ≡ true
    → (serial : ℕ) × Contains serials serial × (HasEntryWith log serial → ⊥)
some-lacked log [] some = absurd (false≢true some)
some-lacked log (serial ∷ serials) some = go (has_serial log serial) refl some (some-lacked log serials)
  where
    go : (test : Bool) → has_serial log serial ≡ test → (not test || lacks_in log serials) ≡ true
        → (lacks_in log serials ≡ true → (s : ℕ) × Contains serials s × (HasEntryWith log s → ⊥))
        → (s : ℕ) × Contains (serial ∷ serials) s × (HasEntryWith log s → ⊥)
    go true is rest others =
        let other = others rest in (other.0, Contains-append_right (serial ∷ []) serials other.0 other.1, other.2)
    go false is rest others = (
      serial,
      Contains-append_left (serial ∷ []) serials serial (Contains-push [] serial),
      λ there. false≢true (sym is ∙ entry-has log serial there),
    )

lacked-by : (log : List Entry) (serials : List ℕ) (test : Bool) → lacks_in log serials ≡ test
    → (serial : ℕ) × Contains serials serial × (HasEntryWith log serial → ⊥) → test ≡ true
lacked-by log serials true is one = refl
lacked-by log serials false is one =
    absurd (one.2 (has-entry log one.0
    (All-contains (λ s. has_serial log s ≡ true) serials one.0 (has-each log serials is) one.1)))

pub looked-for : (log : List Entry) (serials : List ℕ)
    → lacks_in log serials ≡ true ↔ ((serial : ℕ) × Contains serials serial × (HasEntryWith log serial → ⊥))
looked-for log serials = (some-lacked log serials, λ one. lacked-by log serials (lacks_in log serials) refl one)
