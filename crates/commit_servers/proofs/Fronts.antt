-- Logs up to a commit.
use Rattle.std.proofs.Common.{ℕ, ◌≡◌, ◌≤◌, ◌<◌, ◌==◌, Bool, true, false, List, [], ◌∷◌, ◌++◌, refl, ◌∙◌, ap, subst, arith, append_assoc}
use Rattle.std.proofs.lemmas.Bool.Decides.{nat_tests}
use Rattle.wal_model.specs.declared.entry.Entry.{Entry}
use Rattle.wal_model.specs.Log.{IsPrefixOf}
use Rattle.commit_actions.specs.Past.{front_if, front_to}
use Rattle.commit_actions.specs.States.{HasEntryOf}
use Rattle.commit_servers.specs.Sound.{AreUpTo}

is-commit : (n commit : ℕ) → (n == commit) ≡ true → n ≡ commit
is-commit n commit e = grind (arith, nat_tests)

no-commit : (n commit : ℕ) → (n == commit) ≡ false → n ≡ commit → ⊥
no-commit n commit e = grind (arith, nat_tests)

same-commit : (n commit : ℕ) → n ≡ commit → (n == commit) ≡ true
same-commit n commit e = grind (arith, nat_tests)

other-commit : (n commit : ℕ) → n < commit → (n == commit) ≡ false
other-commit n commit less = grind (arith, nat_tests)

head-is : (x y : Entry) (xs ys : List Entry) → ◌≡◌ {A = List Entry} (x ∷ xs) (y ∷ ys) → x ≡ y
head-is x y xs ys e = cc

tail-is : (x y : Entry) (xs ys : List Entry) → ◌≡◌ {A = List Entry} (x ∷ xs) (y ∷ ys) → xs ≡ ys
tail-is x y xs ys e = cc

no-entry : (z : Entry) (front zs : List Entry) → ◌≡◌ {A = List Entry} [] (front ++ z ∷ zs) → ⊥
no-entry z [] zs e = cc
no-entry z (f ∷ front) zs e = cc

-- the log begins with it
front-begins : (found : Bool) (entry : Entry) (entries front : List Entry) → IsPrefixOf front entries
    → IsPrefixOf (front_if found entry front) (entry ∷ entries)
front-begins true entry entries front p = record { rest = entries; whole = refl }
front-begins false entry entries front p = record { rest = p.rest; whole = ap (λ (t : List Entry). entry ∷ t) p.whole }

pub front-prefix : (commit : ℕ) (log : List Entry) → IsPrefixOf (front_to commit log) log
front-prefix commit [] = record { rest = []; whole = refl }
front-prefix commit (entry ∷ entries) =
    front-begins (entry.serial == commit) entry entries (front_to commit entries) (front-prefix commit entries)

-- an entry of the commit stands behind one of another
behind-first : (commit : ℕ) (entry : Entry) (entries front rest : List Entry) (one : Entry)
    → (entry.serial ≡ commit → ⊥) → entry ∷ entries ≡ front ++ one ∷ rest → one.serial ≡ commit
    → HasEntryOf commit entries
behind-first commit entry entries [] rest one other whole is =
    absurd (other (ap (λ (e : Entry). e.serial) (head-is entry one entries rest whole) ∙ is))
behind-first commit entry entries (first ∷ front) rest one other whole is = record {
  front = front;
  entry = one;
  rest = rest;
  whole = tail-is entry first entries (front ++ one ∷ rest) whole;
  serial = is;
}

entry-behind : (commit : ℕ) (entry : Entry) (entries : List Entry) → (entry.serial ≡ commit → ⊥)
    → HasEntryOf commit (entry ∷ entries) → HasEntryOf commit entries
entry-behind commit entry entries other h =
    behind-first commit entry entries h.front h.rest h.entry other h.whole h.serial

-- it has the entry of the commit, where the log has
front-has : (commit : ℕ) (found : Bool) (entry : Entry) (entries : List Entry)
    → (entry.serial == commit) ≡ found → HasEntryOf commit (entry ∷ entries)
    → (HasEntryOf commit entries → HasEntryOf commit (front_to commit entries))
    → HasEntryOf commit (front_if found entry (front_to commit entries))
front-has commit true entry entries e h more =
    record { front = []; entry = entry; rest = []; whole = refl; serial = is-commit entry.serial commit e }
front-has commit false entry entries e h more =
    let behind : HasEntryOf commit (front_to commit entries) =
    more (entry-behind commit entry entries (no-commit entry.serial commit e) h) in
    record {
      front = entry ∷ behind.front;
      entry = behind.entry;
      rest = behind.rest;
      whole = ap (λ (t : List Entry). entry ∷ t) behind.whole;
      serial = behind.serial;
    }

pub front-entry : (commit : ℕ) (log : List Entry) → HasEntryOf commit log → HasEntryOf commit (front_to commit log)
front-entry commit [] h = absurd (no-entry h.entry h.front h.rest h.whole)
front-entry commit (entry ∷ entries) h =
    front-has commit (entry.serial == commit) entry entries refl h (front-entry commit entries)

-- it stays where entries come behind
front-more : (commit : ℕ) (found : Bool) (entry : Entry) (entries more : List Entry)
    → (entry.serial == commit) ≡ found → HasEntryOf commit (entry ∷ entries)
    → (HasEntryOf commit entries → front_to commit (entries ++ more) ≡ front_to commit entries)
    → front_if found entry (front_to commit (entries ++ more)) ≡ front_if found entry (front_to commit entries)
front-more commit true entry entries more e h same = refl
front-more commit false entry entries more e h same =
    ap (λ (t : List Entry). entry ∷ t) (same (entry-behind commit entry entries (no-commit entry.serial commit e) h))

pub front-append : (commit : ℕ) (log more : List Entry) → HasEntryOf commit log
    → front_to commit (log ++ more) ≡ front_to commit log
front-append commit [] more h = absurd (no-entry h.entry h.front h.rest h.whole)
front-append commit (entry ∷ entries) more h =
    front-more commit (entry.serial == commit) entry entries more refl h (front-append commit entries more)

pub entry-append : (commit : ℕ) (log more : List Entry) → HasEntryOf commit log → HasEntryOf commit (log ++ more)
entry-append commit log more h = record {
  front = h.front;
  entry = h.entry;
  rest = h.rest ++ more;
  whole = ap (λ (t : List Entry). t ++ more) h.whole ∙ append_assoc h.front (h.entry ∷ h.rest) more;
  serial = h.serial;
}

-- up to a new commit at its end it is the whole log
front-if-other : (entry : Entry) (front : List Entry) (found : Bool) → found ≡ false
    → front_if found entry front ≡ entry ∷ front
front-if-other entry front true e = cc
front-if-other entry front false e = refl

front-if-same : (entry : Entry) (front : List Entry) (found : Bool) → found ≡ true
    → front_if found entry front ≡ entry ∷ []
front-if-same entry front true e = refl
front-if-same entry front false e = cc

pub front-whole : (commits : ℕ) (log : List Entry) (entry : Entry) → AreUpTo commits log
    → commits < entry.serial → front_to entry.serial (log ++ entry ∷ []) ≡ log ++ entry ∷ []
front-whole commits [] entry up less =
    front-if-same entry [] (entry.serial == entry.serial) (same-commit entry.serial entry.serial refl)
front-whole commits (first ∷ log) entry up less =
    front-if-other first (front_to entry.serial (log ++ entry ∷ [])) (first.serial == entry.serial)
    (other-commit first.serial entry.serial (omega (arith, up.0, less)))
    ∙ ap (λ (t : List Entry). first ∷ t) (front-whole commits log entry up.1 less)

-- ---- entries of commits up to a number
pub up-more : (commits later : ℕ) (log : List Entry) → commits ≤ later → AreUpTo commits log → AreUpTo later log
up-more commits later [] le up = tt
up-more commits later (entry ∷ log) le up = (omega (arith, up.0, le), up-more commits later log le up.1)

pub up-append : (commits : ℕ) (log more : List Entry) → AreUpTo commits log → AreUpTo commits more
    → AreUpTo commits (log ++ more)
up-append commits [] more up then = then
up-append commits (entry ∷ log) more up then = (up.0, up-append commits log more up.1 then)

up-first : (commits : ℕ) (log more : List Entry) → AreUpTo commits (log ++ more) → AreUpTo commits log
up-first commits [] more up = tt
up-first commits (entry ∷ log) more up = (up.0, up-first commits log more up.1)

pub up-prefix : (commits : ℕ) (front log : List Entry) → IsPrefixOf front log → AreUpTo commits log
    → AreUpTo commits front
up-prefix commits front log p up = up-first commits front p.rest (subst (AreUpTo commits) p.whole up)
