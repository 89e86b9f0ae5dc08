-- What holds before the first event.
use Rattle.std.proofs.Common.{ℕ, ◌≡◌, ◌<◌, ◌≤◌, ◌+◌, ◌^◌, nat_lt, zero, suc, Bool, true, false, List, [], ◌∷◌, length, map, replicate, slice_get, Some, refl, ◌∙◌, ap, sym, subst, arith, ◌⊎◌, inl, inr}
use Rattle.std.specs.Int.{bit_at}
use Rattle.std.proofs.lemmas.Bool.{cases_lt}
use Rattle.std.proofs.lemmas.Bool.Decides.{nat_tests}
use Rattle.std.proofs.lemmas.Nat.Bits.{bit_at_above}
use Rattle.std.proofs.lemmas.List.Sums.{sum_by-cons}
use Rattle.pat_base.specs.declared.name.Name.{Name}
use Rattle.pat_base.specs.declared.member_set.MemberSet.{MemberSet}
use Rattle.pat_base.specs.declared.server_state.Required.TheVariants as requireds
use Rattle.pat_base.specs.MemberId.{member_by}
use Rattle.store_keys.specs.Settings.{Settings}
use Rattle.wal_model.specs.declared.entry.Entry.{Entry}
use Rattle.pg_model.specs.Facts.{ServerFacts, fresh}
use Rattle.event_book.specs.declared.member.Member.{Member}
use Rattle.event_book.specs.Facts.{start_of}
use Rattle.event_book.specs.Logs.{logs_in}
use Rattle.event_book.specs.Required.{required_in, confirmed_in}
use Rattle.event_book.specs.Members.{members_from, put_first}
use Rattle.lease_model.proofs.Tools.{some-is, none-some}
use Rattle.commit_showing.specs.Books.{AllHaveBytes, first_volatile_states}
use Rattle.commit_actions.specs.Past.{first_past, log_found}
use Rattle.commit_actions.specs.States.{HaveBytes}
use Rattle.commit_servers.specs.Matching.{live_in, IsLiveAs}
use Rattle.commit_servers.specs.Sound.{IsServerSound, AreServersSound, WaitsForMembers}
use Rattle.commit_servers.specs.Happening.{AreInPlace}
use Rattle.commit_servers.specs.Acting.{Fits}
use Rattle.commit_servers.proofs.Matching.{same-first}
use Rattle.pat_base.specs.declared.member_id.TheConstants.{MOST_MEMBERS}

-- ---- servers
replicated : {A : Type 0} (n : ℕ) (x : A) (m : ℕ) (s : A) → slice_get (replicate n x) m ≡ Some s → x ≡ s
replicated zero x m s e = absurd (none-some s e)
replicated (suc n) x zero s e = some-is x s e
replicated (suc n) x (suc m) s e = replicated n x m s e

fresh-sound : (base : ℕ) → base ≤ 2 ^ 40 → IsServerSound 0 (fresh base)
fresh-sound base most =
    let with_data : Entry = record { serial = 0; timeline = 1; bytes = base } in
    record {
      end = omega (arith, sum_by-cons (λ (e : Entry). e.bytes) with_data [], most);
      log = λ e. record { entries = with_data ∷ []; is = refl };
      numbered = (omega arith, tt);
      waiting = tt;
      none_waits = λ e. refl;
      places = refl;
      required = tt;
    }

pub sound-first : (first : Settings) (names : List Name) (base : ℕ) → base ≤ 2 ^ 40
    → AreServersSound (start_of first names base)
sound-first first names base most = record {
  each = λ m s is. subst (IsServerSound 0) (replicated (length names) (fresh base) m s is) (fresh-sound base most);
}

bytes-in : (count base m : ℕ) (log : List Entry) → 1 ≤ base
    → log_found (slice_get (map (λ (s : ServerFacts). s.log) (replicate count (fresh base))) m) ≡ Some log
    → HaveBytes log
bytes-in zero base m log least is = absurd (none-some log is)
bytes-in (suc count) base zero log least is =
    subst HaveBytes (some-is (record { serial = 0; timeline = 1; bytes = base } ∷ []) log is) (least, tt)
bytes-in (suc count) base (suc m) log least is = bytes-in count base m log least is

pub bytes-first : (first : Settings) (names : List Name) (base : ℕ) → 1 ≤ base
    → AllHaveBytes (logs_in (start_of first names base))
bytes-first first names base least m log is = bytes-in (length names) base m log least is

live-none : (count base m : ℕ) → false ≡ live_in (replicate count (fresh base)) m
live-none zero base m = refl
live-none (suc count) base zero = refl
live-none (suc count) base (suc m) = live-none count base m

pub live-first : (first : Settings) (names : List Name) (base : ℕ)
    → IsLiveAs first_volatile_states (start_of first names base).servers
live-first first names base = record { live = λ m. live-none (length names) base m }

pub fits-first : (first : Settings) (names : List Name) (base : ℕ) → base ≤ 2 ^ 40 →
    let facts = start_of first names base in
    Fits (first_past (logs_in facts) (required_in facts.servers) (confirmed_in facts.servers)) facts
    first_volatile_states
fits-first first names base most = record {
  same = same-first first names base;
  live = live-first first names base;
  sound = sound-first first names base most;
}

-- ---- members
bit-within : (bits m : ℕ) → bits < 2 ^ MOST_MEMBERS → bit_at bits m ≡ 1
    → (m < MOST_MEMBERS) ⊎ (MOST_MEMBERS ≤ m) → m < MOST_MEMBERS
bit-within bits m few is (inl less) = less
bit-within bits m few is (inr past) = absurd (omega (arith, is, bit_at_above bits 16 m few past))

-- a set of sixteen bits is of members
pub set-within : (set : MemberSet) → set.bits < 2 ^ MOST_MEMBERS → WaitsForMembers (requireds.All set)
set-within set few = λ m is. bit-within set.bits m few is (cases_lt m 16)

not-small : (n : ℕ) → nat_lt n MOST_MEMBERS ≡ false → n < MOST_MEMBERS → ⊥
not-small n is small = grind (arith, nat_tests)

-- a member of this number stands first
record StandsFirst (n : ℕ) (members all : List Member) : Type 0 where
  member : Member
  number : member.id.number ≡ n
  is : all ≡ member ∷ members

first-by : (n : ℕ) (test : Bool) (is : nat_lt n MOST_MEMBERS ≡ test) (name : Name) (members : List Member)
    → n < MOST_MEMBERS → StandsFirst n members (put_first (member_by n test is) name members)
first-by n true is name members small =
    record { member = record { id = record { number = n; below = _ }; name = name }; number = refl; is = refl }
first-by n false is name members small = absurd (not-small n is small)

small-first : (n more : ℕ) → n + suc more ≤ MOST_MEMBERS → n < MOST_MEMBERS
small-first n more few = omega (arith, few)

small-next : (n more : ℕ) → n + suc more ≤ MOST_MEMBERS → (n + 1) + more ≤ MOST_MEMBERS
small-next n more few = omega (arith, few)

next-number : (k n i : ℕ) → k ≡ (n + 1) + i → k ≡ n + suc i
next-number k n i e = omega (arith, e)

at-first : (n k : ℕ) → k ≡ n → k ≡ n + 0
at-first n k e = omega (arith, e)

numbered-behind : (n : ℕ) (member m : Member) (members : List Member) → member.id.number ≡ n
    → ((i : ℕ) → slice_get members i ≡ Some m → m.id.number ≡ (n + 1) + i)
    → (i : ℕ) → slice_get (member ∷ members) i ≡ Some m → m.id.number ≡ n + i
numbered-behind n member m members number rest zero is =
    at-first n m.id.number (ap (λ (z : Member). z.id.number) (sym (some-is member m is)) ∙ number)
numbered-behind n member m members number rest (suc i) is = next-number m.id.number n i (rest i is)

numbered-from : (n : ℕ) (names : List Name) → n + length names ≤ MOST_MEMBERS → (i : ℕ) (m : Member)
    → slice_get (members_from n names) i ≡ Some m → m.id.number ≡ n + i
numbered-from n [] few i m is = absurd (none-some m is)
numbered-from n (name ∷ names) few i m is =
    let first =
    first-by n (nat_lt n MOST_MEMBERS) refl name (members_from (n + 1) names) (small-first n (length names) few) in
    numbered-behind n first.member m (members_from (n + 1) names) first.number
    (λ i is. numbered-from (n + 1) names (small-next n (length names) few) i m is) i
    (sym (ap (λ (ms : List Member). slice_get ms i) first.is) ∙ is)

from-few : (count : ℕ) → count ≤ MOST_MEMBERS → 0 + count ≤ MOST_MEMBERS
from-few count few = omega (arith, few)

from-none : (i : ℕ) → 0 + i ≡ i
from-none i = omega arith

pub in-place : (first : Settings) (names : List Name) (base : ℕ) → length names ≤ MOST_MEMBERS
    → AreInPlace (start_of first names base).members
in-place first names base few = record {
  number = λ n member is. numbered-from 0 names (from-few (length names) few) n member is ∙ from-none n;
}
