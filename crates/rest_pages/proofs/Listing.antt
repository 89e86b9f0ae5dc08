-- Whose host stands at a name.
use Rattle.std.proofs.Common.{◌≡◌, ◌≢◌, ◌∙◌, ℕ, ◌+◌, ◌≤◌, ◌<◌, ◌==◌, zero, suc, Bool, true, false, List, Option, Some, None, fold, option_map, if◌then◌else◌, refl, sym, ap, arith}
use Rattle.std.specs.List.{cons_option, filter_map, range_with_len}
use Rattle.std.proofs.lemmas.Bool.Decides.{nat_tests}
use Rattle.std.proofs.lemmas.Option.{none-some, same_Some}
use Rattle.serde_json.specs.Data.{Data, Members, no_members, string}
use Rattle.serde_json.specs.Find.{get_member}
use Rattle.serde_json.proofs.Views.{get_member-put, get_member-put_other}
use Rattle.pat_base.specs.declared.host.Host.{Host}
use Rattle.pat_base.specs.declared.member_id.MemberId.{MemberId}
use Rattle.pat_base.specs.declared.member_id.TheConstants.{MOST_MEMBERS}
use Rattle.pat_base.specs.declared.member_set.MemberSet.{MemberSet}
use Rattle.pat_base.specs.declared.name.Name.{Name}
use Rattle.pat_base.specs.Host.{host_bytes}
use Rattle.pat_base.specs.MemberId.{member_of}
use Rattle.pat_base.specs.Name.{name_bytes}
use Rattle.pat_base.proofs.Members.{member_of-number, number-member_of}
use Rattle.cluster_view.specs.Snapshots.{SnapshotFacts}
use Rattle.rest_pages.specs.Failsafe.{host_members, listed_by, listed_numbered, listed_of, lists_member, with_host}
use Rattle.rest_pages.specs.Laws.{HasOwnName}
use Rattle.member_rows.specs.Rows.{declared_in, with_found}

abbrev host-data : Name × Host → Data
host-data member = string (host_bytes member.1)

-- of these members just the one of this number has the name
record NamesOne (f : ℕ → Option (Name × Host)) (number : ℕ) (name : List ℕ) : Type 0 where
  own : (member : Name × Host) → f number ≡ Some member → name_bytes member.0 ≡ name
  others : (k : ℕ) (member : Name × Host) → f k ≡ Some member → name_bytes member.0 ≡ name → k ≡ number

fold-cons : (hosts : Members) (found : Option (Name × Host)) (rest : List (Name × Host))
    → fold with_host hosts (cons_option found rest) ≡ fold with_host (with_found with_host hosts found) rest
fold-cons hosts None rest = refl
fold-cons hosts (Some member) rest = refl

step-other : (f : ℕ → Option (Name × Host)) (number : ℕ) (name : List ℕ) → NamesOne f number name
    → (k : ℕ) (hosts : Members) (found : Option (Name × Host)) → f k ≡ found → number ≢ k
    → get_member name (with_found with_host hosts found) ≡ get_member name hosts
step-other f number name one k hosts None by other = refl
step-other f number name one k hosts (Some member) by other =
    get_member-put_other name (name_bytes member.0) (host-data member) hosts
    (λ e. other (sym (one.others k member by (sym e))))

step-own : (f : ℕ → Option (Name × Host)) (number : ℕ) (name : List ℕ) → NamesOne f number name
    → (hosts : Members) (found : Option (Name × Host)) → f number ≡ found → get_member name hosts ≡ None
    → get_member name (with_found with_host hosts found) ≡ option_map host-data found
step-own f number name one hosts None by none = none
step-own f number name one hosts (Some member) by none =
    ap (λ k. get_member k (with_host hosts member)) (sym (one.own member by))
    ∙ get_member-put (name_bytes member.0) (host-data member) hosts

behind : (f : ℕ → Option (Name × Host)) (number : ℕ) (name : List ℕ) → NamesOne f number name
    → (a n : ℕ) (hosts : Members) → number < a
    → get_member name (fold with_host hosts (filter_map f (range_with_len a n))) ≡ get_member name hosts
behind f number name one a zero hosts past = refl
behind f number name one a (suc n) hosts past =
    ap (get_member name) (fold-cons hosts (f a) (filter_map f (range_with_len (a + 1) n)))
    ∙ behind f number name one (a + 1) n (with_found with_host hosts (f a)) (omega arith)
    ∙ step-other f number name one a hosts (f a) refl (λ e. absurd (omega (arith, e)))

within-by : (f : ℕ → Option (Name × Host)) (number : ℕ) (name : List ℕ) → NamesOne f number name
    → (a n : ℕ) (hosts : Members) (test : Bool) → (number == a) ≡ test → get_member name hosts ≡ None
    → (number ≢ a → get_member name (with_found with_host hosts (f a)) ≡ None →
    get_member name (fold with_host (with_found with_host hosts (f a)) (filter_map f (range_with_len (a + 1) n)))
    ≡ option_map host-data (f number))
    → get_member name (fold with_host (with_found with_host hosts (f a)) (filter_map f (range_with_len (a + 1) n)))
    ≡ option_map host-data (f number)
within-by f number name one a n hosts true is none rest =
    let same : number ≡ a = grind (arith, nat_tests) in
    behind f number name one (a + 1) n (with_found with_host hosts (f a)) (omega (arith, same))
    ∙ ap (λ k. get_member name (with_found with_host hosts (f k))) (sym same)
    ∙ step-own f number name one hosts (f number) refl none
within-by f number name one a n hosts false is none rest =
    let other : number ≢ a = grind (arith, nat_tests) in
    rest other (step-other f number name one a hosts (f a) refl other ∙ none)

within : (f : ℕ → Option (Name × Host)) (number : ℕ) (name : List ℕ) → NamesOne f number name
    → (a n : ℕ) (hosts : Members) → a ≤ number → number < a + n → get_member name hosts ≡ None
    → get_member name (fold with_host hosts (filter_map f (range_with_len a n))) ≡ option_map host-data (f number)
within f number name one a zero hosts from below none = absurd (omega arith)
within f number name one a (suc n) hosts from below none =
    ap (get_member name) (fold-cons hosts (f a) (filter_map f (range_with_len (a + 1) n)))
    ∙ within-by f number name one a n hosts (number == a) refl none
    (λ other here.
    within f number name one (a + 1) n (with_found with_host hosts (f a)) (omega (arith, other)) (omega arith) here)

declared-where : (listed : Bool) (declared : Option (Name × Host)) (member : Name × Host)
    → (if listed then declared else None) ≡ Some member → declared ≡ Some member
declared-where true declared member is = is
declared-where false declared member is = absurd (none-some member is)

declared-by : (snapshot : SnapshotFacts) (members : Option MemberSet) (k : ℕ) (found : Option MemberId)
    (member : Name × Host) → member_of k ≡ found → listed_by snapshot members found ≡ Some member
    → (other : MemberId) × (other.number ≡ k) × (declared_in snapshot other ≡ Some member)
declared-by snapshot members k None member by is = absurd (none-some member is)
declared-by snapshot members k (Some other) member by is = (
  other,
  number-member_of k other by,
  declared-where (lists_member members other) (declared_in snapshot other) member is,
)

listed-own : (snapshot : SnapshotFacts) (members : Option MemberSet) (member : MemberId) (declared : Name × Host)
    → declared_in snapshot member ≡ Some declared
    → listed_numbered snapshot members member.number ≡ (if lists_member members member then Some declared else None)
listed-own snapshot members member declared has = rw (member_of-number member, has) refl

own-name : (listed : Bool) (declared found : Name × Host)
    → (if listed then Some declared else None) ≡ Some found → name_bytes found.0 ≡ name_bytes declared.0
own-name true declared found is = ap (λ (m : Name × Host). name_bytes m.0) (sym (same_Some declared found is))
own-name false declared found is = absurd (none-some found is)

names-one : (snapshot : SnapshotFacts) (members : Option MemberSet) (member : MemberId) (declared : Name × Host)
    → declared_in snapshot member ≡ Some declared → HasOwnName snapshot member
    → NamesOne (listed_numbered snapshot members) member.number (name_bytes declared.0)
names-one snapshot members member declared has alone = record {
  own = λ found is. own-name (lists_member members member) declared found
      (sym (listed-own snapshot members member declared has) ∙ is);
  others = λ k found is same.
      let other : (other : MemberId) × (other.number ≡ k) × (declared_in snapshot other ≡ Some found) =
      declared-by snapshot members k (member_of k) found refl is in
      sym other.1 ∙ alone other.0 declared found has other.2 same;
}

where-listed : (listed : Bool) (declared : Name × Host)
    → option_map host-data (if listed then Some declared else None)
    ≡ (if listed then Some (host-data declared) else None)
where-listed true declared = refl
where-listed false declared = refl

-- at the name of a member its host stands just where the set lists it
pub host-at : (snapshot : SnapshotFacts) (members : Option MemberSet) (member : MemberId) (declared : Name × Host)
    → declared_in snapshot member ≡ Some declared → HasOwnName snapshot member
    → get_member (name_bytes declared.0) (host_members (listed_of snapshot members))
    ≡ (if lists_member members member then Some (string (host_bytes declared.1)) else None)
host-at snapshot members member declared has alone =
    within (listed_numbered snapshot members) member.number (name_bytes declared.0)
    (names-one snapshot members member declared has alone) 0 MOST_MEMBERS no_members (omega arith)
    (omega (arith, member.below)) refl
    ∙ ap (option_map host-data) (listed-own snapshot members member declared has)
    ∙ where-listed (lists_member members member) declared
