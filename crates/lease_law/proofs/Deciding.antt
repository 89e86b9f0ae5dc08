-- The key store's decision and the law's outcome are one.
use Rattle.std.proofs.Common.{◌≡◌, ◌⊎◌, ℕ, ◌<◌, ◌==◌, ◌&&◌, ◌++◌, nat_lt, Bool, true, false, cond, List, Option, Some, None, IsSome, refl, ◌∙◌, ap, sym, subst, arith, inl, inr}
use Rattle.std.proofs.lemmas.Bool.Decides.{nat_tests}
use Rattle.std.specs.FinMap.{find}
use Rattle.pat_base.specs.declared.ticks.Ticks.{Ticks}
use Rattle.pat_base.specs.declared.member_id.MemberId.{MemberId}
use Rattle.pat_base.specs.declared.member_set.MemberSet.{MemberSet}
use Rattle.store_keys.specs.declared.key.Key.{Key}
use Rattle.store_keys.specs.declared.key.Key.TheVariants as keys
use Rattle.store_keys.specs.declared.txn.Expected.{Expected}
use Rattle.store_keys.specs.declared.txn.Expected.TheVariants.{Absent, Revision}
use Rattle.store_keys.specs.declared.txn.Txn.{Txn}
use Rattle.store_keys.specs.declared.txn.Txn.TheVariants as txns
use Rattle.store_keys.specs.declared.txn.LeaseTxn.TheVariants as lease_txns
use Rattle.store_keys.specs.declared.value.KeyEntry.{KeyEntry}
use Rattle.store_keys.specs.declared.value.Value.{Value}
use Rattle.store_keys.specs.declared.value.Value.TheVariants as values
use Rattle.lease_store.specs.Kinds.{IsOfKind}
use Rattle.lease_store.specs.KeyOrder.{key_cmp}
use Rattle.lease_store.specs.Keys.{key_in, present}
use Rattle.lease_store.specs.Decision.{Decision, Grant as Granting, Refusal as Refusing, compares_of, compare_if, found_in, is_as_expected, decision_if, decision_by, decision_on, operator_compares, sync_compares}
use Rattle.lease_store.proofs.Keeping.{kind_found}
use Rattle.event_book.specs.Facts.{Facts}
use Rattle.lease_model.specs.Leases.{LeaderKey, FailsafeKey, Create, Renew, Release, Write}
use Rattle.lease_model.specs.Outcomes.{is_as_read, create_if, create_on, renew_if, renew_on, release_if, release_on, outcome_of}
use Rattle.lease_model.specs.Past.{Past, members_if, query_of}
use Rattle.lease_model.specs.Stores.{leader_key_of, failsafe_key_of, IsLeased, IsSameStore, is_granted, outcome_by}
use Rattle.lease_model.proofs.Tools.{both}
use Rattle.lease_law.proofs.SameStore.{ge-from, present-endless}

turned-by : (b c : Bool) (m n : ℕ) → (m == n) ≡ b → (n == m) ≡ c → b ≡ c
turned-by true true m n e f = refl
turned-by false false m n e f = refl
turned-by true false m n e f = absurd (grind (arith, nat_tests))
turned-by false true m n e f = absurd (grind (arith, nat_tests))

turned : (m n : ℕ) → (m == n) ≡ (n == m)
turned m n = turned-by (m == n) (n == m) m n refl refl

-- a leader key is absent, or names a member until a moment
record IsLease (found : Option KeyEntry) : Type 0 where
  member : MemberId
  revision : ℕ
  expiry : Ticks
  is : ◌≡◌ {A = Option KeyEntry}
      (Some (record { value = values.Leader member; revision = revision; expiry = Some expiry })) found

lease-value : (value : Value) (revision : ℕ) (expiry : Option Ticks) → IsOfKind keys.Leader value
    → IsSome expiry → IsLease (Some (record { value = value; revision = revision; expiry = expiry }))
lease-value (values.Leader member) revision (Some expiry) kind leased =
    record { member = member; revision = revision; expiry = expiry; is = refl }
lease-value (values.Leader member) revision None kind leased = absurd (both leased)
lease-value (values.Config config) revision expiry kind leased = absurd kind
lease-value (values.Member info) revision expiry kind leased = absurd kind
lease-value (values.Failover key) revision expiry kind leased = absurd kind
lease-value (values.Sync key) revision expiry kind leased = absurd kind
lease-value (values.Status end) revision expiry kind leased = absurd kind
lease-value (values.History row) revision expiry kind leased = absurd kind
lease-value (values.Failsafe members) revision expiry kind leased = absurd kind
lease-value (values.Scheduled planned) revision expiry kind leased = absurd kind

abbrev OfKind : Key → Option KeyEntry → Type 0
OfKind key found = (found_key : KeyEntry) → found ≡ Some found_key → IsOfKind key found_key.value

leader-cases : (found : Option KeyEntry) → OfKind keys.Leader found → IsLeased found → (None ≡ found) ⊎ IsLease found
leader-cases None kind leased = inl refl
leader-cases (Some found_key) kind leased =
    inr (lease-value found_key.value found_key.revision found_key.expiry (kind found_key refl) leased)

record IsSet (found : Option KeyEntry) : Type 0 where
  members : MemberSet
  revision : ℕ
  expiry : Option Ticks
  is : ◌≡◌ {A = Option KeyEntry}
      (Some (record { value = values.Failsafe members; revision = revision; expiry = expiry })) found

set-value : (value : Value) (revision : ℕ) (expiry : Option Ticks) → IsOfKind keys.Failsafe value
    → IsSet (Some (record { value = value; revision = revision; expiry = expiry }))
set-value (values.Failsafe members) revision expiry kind =
    record { members = members; revision = revision; expiry = expiry; is = refl }
set-value (values.Leader member) revision expiry kind = absurd kind
set-value (values.Config config) revision expiry kind = absurd kind
set-value (values.Member info) revision expiry kind = absurd kind
set-value (values.Failover key) revision expiry kind = absurd kind
set-value (values.Sync key) revision expiry kind = absurd kind
set-value (values.Status end) revision expiry kind = absurd kind
set-value (values.History row) revision expiry kind = absurd kind
set-value (values.Scheduled planned) revision expiry kind = absurd kind

failsafe-cases : (found : Option KeyEntry) → OfKind keys.Failsafe found → (None ≡ found) ⊎ IsSet found
failsafe-cases None kind = inl refl
failsafe-cases (Some found_key) kind =
    inr (set-value found_key.value found_key.revision found_key.expiry (kind found_key refl))

-- the decision by what is found at the leader key and the failsafe key
abbrev by_leader : Option KeyEntry → Expected → Decision → Decision
by_leader found expected rest = decision_if (is_as_expected expected (found_in found)) keys.Leader (found_in found) rest

abbrev by_failsafe : Option KeyEntry → Option Expected → Decision → Decision
by_failsafe found None rest = rest
by_failsafe found (Some expected) rest =
    decision_if (is_as_expected expected (found_in found)) keys.Failsafe (found_in found) rest

-- a release and a renewal
release-if : (b : Bool) (clock revision by sent compared : ℕ) (key : LeaderKey)
    (failsafe : Option FailsafeKey) (found : Expected)
    → release_if b key failsafe revision ≡ outcome_by (decision_if b keys.Leader found Granting) clock
    (Some key) failsafe revision by sent (Release compared)
release-if true clock revision by sent compared key failsafe found = refl
release-if false clock revision by sent compared key failsafe found = refl

release-decision_if : (clock revision by sent compared : ℕ) (found : Option KeyEntry) (failsafe : Option FailsafeKey)
    → (None ≡ found) ⊎ IsLease found
    → release_on (leader_key_of found) failsafe revision compared
    ≡ outcome_by (by_leader found (Revision compared) Granting) clock
    (leader_key_of found) failsafe revision by sent (Release compared)
release-decision_if clock revision by sent compared found failsafe (inl e) =
    subst (λ (o : Option KeyEntry). release_on (leader_key_of o) failsafe revision compared
    ≡ outcome_by (by_leader o (Revision compared) Granting) clock (leader_key_of o) failsafe revision by sent
    (Release compared))
    e refl
release-decision_if clock revision by sent compared found failsafe (inr l) =
    subst (λ (o : Option KeyEntry). release_on (leader_key_of o) failsafe revision compared
    ≡ outcome_by (by_leader o (Revision compared) Granting) clock (leader_key_of o) failsafe revision by sent
    (Release compared))
    l.is
    (let key : LeaderKey = record { holder = l.member.number; revision = l.revision; expiry = l.expiry.0 } in
    ap (λ (b : Bool). release_if b key failsafe revision) (turned l.revision compared)
    ∙ release-if (compared == l.revision) clock revision by sent compared key failsafe (Revision l.revision))

renew-if : (b : Bool) (clock revision by sent compared ttl : ℕ) (carried : Option (ℕ → Bool))
    (key : LeaderKey) (failsafe : Option FailsafeKey) (found : Expected)
    → renew_if b clock key failsafe revision sent ttl carried
    ≡ outcome_by (decision_if b keys.Leader found Granting) clock (Some key) failsafe revision by sent
    (Renew compared ttl carried)
renew-if true clock revision by sent compared ttl carried key failsafe found = refl
renew-if false clock revision by sent compared ttl carried key failsafe found = refl

renew-decision_if : (clock revision by sent compared ttl : ℕ) (carried : Option (ℕ → Bool))
    (found : Option KeyEntry) (failsafe : Option FailsafeKey) → (None ≡ found) ⊎ IsLease found
    → renew_on clock (leader_key_of found) failsafe revision compared sent ttl carried
    ≡ outcome_by (by_leader found (Revision compared) Granting) clock
    (leader_key_of found) failsafe revision by sent (Renew compared ttl carried)
renew-decision_if clock revision by sent compared ttl carried found failsafe (inl e) =
    subst (λ (o : Option KeyEntry). renew_on clock (leader_key_of o) failsafe revision compared sent ttl carried
    ≡ outcome_by (by_leader o (Revision compared) Granting) clock (leader_key_of o) failsafe revision by sent
    (Renew compared ttl carried))
    e refl
renew-decision_if clock revision by sent compared ttl carried found failsafe (inr l) =
    subst (λ (o : Option KeyEntry). renew_on clock (leader_key_of o) failsafe revision compared sent ttl carried
    ≡ outcome_by (by_leader o (Revision compared) Granting) clock (leader_key_of o) failsafe revision by sent
    (Renew compared ttl carried))
    l.is
    (let key : LeaderKey = record { holder = l.member.number; revision = l.revision; expiry = l.expiry.0 } in
    ap (λ (b : Bool). renew_if b clock key failsafe revision sent ttl carried) (turned l.revision compared)
    ∙ renew-if (compared == l.revision) clock revision by sent compared ttl carried key failsafe (Revision l.revision))

-- a create
as-read-is : (expected : Expected) (found : Option KeyEntry) → (None ≡ found) ⊎ IsSet found
    → is_as_read (Some expected) (failsafe_key_of found) ≡ is_as_expected expected (found_in found)
as-read-is Absent found (inl e) = subst
    (λ (o : Option KeyEntry). is_as_read (Some Absent) (failsafe_key_of o) ≡ is_as_expected Absent (found_in o)) e refl
as-read-is Absent found (inr f) =
    subst (λ (o : Option KeyEntry). is_as_read (Some Absent) (failsafe_key_of o) ≡ is_as_expected Absent (found_in o))
    f.is refl
as-read-is (Revision r) found (inl e) =
    subst (λ (o : Option KeyEntry).
    is_as_read (Some (Revision r)) (failsafe_key_of o) ≡ is_as_expected (Revision r) (found_in o))
    e refl
as-read-is (Revision r) found (inr f) =
    subst (λ (o : Option KeyEntry).
    is_as_read (Some (Revision r)) (failsafe_key_of o) ≡ is_as_expected (Revision r) (found_in o))
    f.is (turned f.revision r)

-- where the keys of the lease are as expected, what is compared besides decides
create-rest : (rest : Decision) (clock revision by sent ttl : ℕ) (expected : Option Expected)
    (failsafe : Option FailsafeKey)
    → create_if (is_granted rest) clock failsafe revision by sent ttl
    ≡ outcome_by rest clock None failsafe revision by sent (Create ttl expected)
create-rest Granting clock revision by sent ttl expected failsafe = refl
create-rest (Refusing key found) clock revision by sent ttl expected failsafe = refl

create-if : (b : Bool) (rest : Decision) (clock revision by sent ttl : ℕ) (expected : Option Expected)
    (failsafe : Option FailsafeKey) (found : Expected)
    → create_if (b && is_granted (decision_if b keys.Failsafe found rest)) clock failsafe revision by sent ttl
    ≡ outcome_by (decision_if b keys.Failsafe found rest) clock None failsafe revision by sent (Create ttl expected)
create-if true rest clock revision by sent ttl expected failsafe found =
    create-rest rest clock revision by sent ttl expected failsafe
create-if false rest clock revision by sent ttl expected failsafe found = refl

create-absent : (rest : Decision) (clock revision by sent ttl : ℕ) (expected : Option Expected)
    (found : Option KeyEntry) → (None ≡ found) ⊎ IsSet found
    → create_if (is_as_read expected (failsafe_key_of found) && is_granted (by_failsafe found expected rest)) clock
    (failsafe_key_of found) revision by sent ttl ≡ outcome_by (by_failsafe found expected rest) clock None
    (failsafe_key_of found) revision by sent (Create ttl expected)
create-absent rest clock revision by sent ttl None found cases =
    create-rest rest clock revision by sent ttl None (failsafe_key_of found)
create-absent rest clock revision by sent ttl (Some expected) found cases =
    ap (λ (b : Bool). create_if (b && is_granted (by_failsafe found (Some expected) rest)) clock
    (failsafe_key_of found) revision by sent ttl)
    (as-read-is expected found cases)
    ∙ create-if (is_as_expected expected (found_in found)) rest clock revision by sent ttl (Some expected)
    (failsafe_key_of found) (found_in found)

abbrev CreateDecided : Decision → ℕ → ℕ → ℕ → ℕ → ℕ → Option Expected → Option KeyEntry → Option KeyEntry → Type 0
CreateDecided rest clock revision by sent ttl expected found listed =
    let decision : Decision = by_leader found Absent (by_failsafe listed expected rest) in
    create_on (is_granted decision) clock (leader_key_of found) (failsafe_key_of listed) revision by sent ttl expected
    ≡ outcome_by decision clock (leader_key_of found) (failsafe_key_of listed) revision by sent (Create ttl expected)

create-decision_if : (rest : Decision) (clock revision by sent ttl : ℕ) (expected : Option Expected)
    (found listed : Option KeyEntry) → (None ≡ found) ⊎ IsLease found → (None ≡ listed) ⊎ IsSet listed
    → CreateDecided rest clock revision by sent ttl expected found listed
create-decision_if rest clock revision by sent ttl expected found listed (inl e) cases =
    subst (λ (o : Option KeyEntry). CreateDecided rest clock revision by sent ttl expected o listed) e
    (create-absent rest clock revision by sent ttl expected listed cases)
create-decision_if rest clock revision by sent ttl expected found listed (inr l) cases =
    subst (λ (o : Option KeyEntry). CreateDecided rest clock revision by sent ttl expected o listed) l.is refl

-- what the store decides, by what it finds
abbrev Finds : List (Key × KeyEntry) → ℕ → Option KeyEntry → Option KeyEntry → Type 0
Finds pairs now found listed = (key_in pairs now keys.Leader ≡ found) × (key_in pairs now keys.Failsafe ≡ listed)

leader-decision : (pairs : List (Key × KeyEntry)) (now : ℕ) (found : Option KeyEntry) (expected : Expected)
    (rest : Decision) → key_in pairs now keys.Leader ≡ found
    → decision_if (is_as_expected expected (found_in (key_in pairs now keys.Leader))) keys.Leader
    (found_in (key_in pairs now keys.Leader)) rest ≡ by_leader found expected rest
leader-decision pairs now found expected rest e = ap (λ (o : Option KeyEntry). by_leader o expected rest) e

failsafe-decision : (pairs : List (Key × KeyEntry)) (now : ℕ) (listed : Option KeyEntry)
    (expected : Option Expected) (compares : List (Key × Expected)) → key_in pairs now keys.Failsafe ≡ listed
    → decision_by pairs now (compare_if keys.Failsafe expected ++ compares)
    ≡ by_failsafe listed expected (decision_by pairs now compares)
failsafe-decision pairs now listed None compares e = refl
failsafe-decision pairs now listed (Some expected) compares e =
    ap (λ (o : Option KeyEntry). by_failsafe o (Some expected) (decision_by pairs now compares)) e

write-decision_if : (d : Decision) (clock revision by sent : ℕ) (leader : Option LeaderKey)
    (failsafe : Option FailsafeKey)
    → outcome_of clock leader failsafe revision by sent (is_granted d) Write
    ≡ outcome_by d clock leader failsafe revision by sent Write
write-decision_if Granting clock revision by sent leader failsafe = refl
write-decision_if (Refusing key found) clock revision by sent leader failsafe = refl

found-decision_if : (pairs : List (Key × KeyEntry)) (now revision by sent : ℕ) (found listed : Option KeyEntry)
    (txn : Txn) → Finds pairs now found listed → (None ≡ found) ⊎ IsLease found → (None ≡ listed) ⊎ IsSet listed →
    outcome_of now (leader_key_of found) (failsafe_key_of listed) revision by sent
    (is_granted (decision_by pairs now (compares_of txn))) (query_of txn)
    ≡ outcome_by (decision_by pairs now (compares_of txn)) now (leader_key_of found)
    (failsafe_key_of listed) revision by sent (query_of txn)
found-decision_if pairs now revision by sent found listed (txns.Lease (lease_txns.Create info ttl failsafe sync)) finds
    leads sets =
    let others : List (Key × Expected) = compare_if keys.Sync sync in
    let is : decision_by pairs now (compares_of (txns.Lease (lease_txns.Create info ttl failsafe sync)))
    ≡ by_leader found Absent (by_failsafe listed failsafe (decision_by pairs now others)) =
    leader-decision pairs now found Absent (decision_by pairs now (compare_if keys.Failsafe failsafe ++ others)) finds.0
    ∙ ap (λ (d : Decision). by_leader found Absent d) (failsafe-decision pairs now listed failsafe others finds.1) in
    subst (λ (d : Decision).
    create_on (is_granted d) now (leader_key_of found) (failsafe_key_of listed) revision by sent ttl.0 failsafe
    ≡ outcome_by d now (leader_key_of found) (failsafe_key_of listed) revision by sent (Create ttl.0 failsafe))
    (sym is)
    (create-decision_if (decision_by pairs now others) now revision by sent ttl.0 failsafe found listed leads sets)
found-decision_if pairs now revision by sent found listed
    (txns.Lease (lease_txns.Renew compared info ttl status row failsafe)) finds leads
    sets =
    renew-decision_if now revision by sent compared ttl.0 (members_if failsafe) found (failsafe_key_of listed) leads
    ∙ ap (λ (d : Decision). outcome_by d now (leader_key_of found) (failsafe_key_of listed) revision by sent
    (Renew compared ttl.0 (members_if failsafe)))
    (sym (leader-decision pairs now found (Revision compared) Granting finds.0))
found-decision_if pairs now revision by sent found listed (txns.Lease (lease_txns.Release compared)) finds leads sets =
    release-decision_if now revision by sent compared found (failsafe_key_of listed) leads
    ∙ ap (λ (d : Decision).
    outcome_by d now (leader_key_of found) (failsafe_key_of listed) revision by sent (Release compared))
    (sym (leader-decision pairs now found (Revision compared) Granting finds.0))
found-decision_if pairs now revision by sent found listed (txns.Touch info ttl) finds leads sets =
    write-decision_if (decision_by pairs now (compares_of (txns.Touch info ttl))) now revision by sent
    (leader_key_of found) (failsafe_key_of listed)
found-decision_if pairs now revision by sent found listed (txns.Sync txn) finds leads sets =
    write-decision_if (decision_by pairs now (sync_compares txn)) now revision by sent (leader_key_of found)
    (failsafe_key_of listed)
found-decision_if pairs now revision by sent found listed (txns.Operators txn) finds leads sets =
    write-decision_if (decision_by pairs now (operator_compares txn)) now revision by sent (leader_key_of found)
    (failsafe_key_of listed)

present-by : (b : Bool) (now expiry : ℕ) (found_key : KeyEntry) → nat_lt now expiry ≡ b → now < expiry
    → cond b (Some found_key) None ≡ Some found_key
present-by true now expiry found_key e later = refl
present-by false now expiry found_key e later = absurd (omega (arith, ge-from now expiry e, later))

present-lease : (now : ℕ) (found : Option KeyEntry) → (None ≡ found) ⊎ IsLease found
    → ((k : LeaderKey) → leader_key_of found ≡ Some k → now < k.expiry) → present now found ≡ found
present-lease now found (inl e) there = subst (λ (o : Option KeyEntry). present now o ≡ o) e refl
present-lease now found (inr l) there =
    let key : LeaderKey = record { holder = l.member.number; revision = l.revision; expiry = l.expiry.0 } in
    subst (λ (o : Option KeyEntry). present now o ≡ o) l.is
    (present-by (nat_lt now l.expiry.0) now l.expiry.0 (record {
      value = values.Leader l.member;
      revision = l.revision;
      expiry = Some l.expiry;
    }) refl (there key (ap leader_key_of (sym l.is))))

-- the law's outcome is that of the store's decision
pub outcome-decision_if : (past : Past) (facts : Facts) (by sent : ℕ) (txn : Txn) → IsSameStore past facts →
    outcome_of past.clock past.leader past.failsafe past.revision by sent
    (is_granted (decision_on facts.keys facts.clock txn)) (query_of txn)
    ≡ outcome_by (decision_on facts.keys facts.clock txn) past.clock past.leader past.failsafe past.revision by sent
    (query_of txn)
outcome-decision_if past facts by sent txn same =
    let found : Option KeyEntry = find key_cmp keys.Leader facts.keys.pairs in
    let listed : Option KeyEntry = find key_cmp keys.Failsafe facts.keys.pairs in
    let d : Decision = decision_on facts.keys facts.clock txn in
    let leads = leader-cases found
    (λ found_key is. kind_found keys.Leader facts.keys.pairs found_key same.kept.kinds is) same.leased in
    let there = present-lease facts.clock found leads
    (λ k e. subst (λ (c : ℕ). c < k.expiry) same.clock (same.present k (same.leader ∙ e))) in
    let core = found-decision_if facts.keys.pairs facts.clock past.revision by sent found listed txn
    (there, present-endless facts.clock listed same.endless)
    leads
    (failsafe-cases listed (λ found_key is. kind_found keys.Failsafe facts.keys.pairs found_key same.kept.kinds is)) in
    subst (λ (c : ℕ). outcome_of c past.leader past.failsafe past.revision by sent (is_granted d) (query_of txn)
    ≡ outcome_by d c past.leader past.failsafe past.revision by sent (query_of txn))
    (sym same.clock)
    (subst (λ (l : Option LeaderKey).
    outcome_of facts.clock l past.failsafe past.revision by sent (is_granted d) (query_of txn)
    ≡ outcome_by d facts.clock l past.failsafe past.revision by sent (query_of txn))
    (sym same.leader)
    (subst (λ (f : Option FailsafeKey).
    outcome_of facts.clock (leader_key_of found) f past.revision by sent (is_granted d) (query_of txn)
    ≡ outcome_by d facts.clock (leader_key_of found) f past.revision by sent (query_of txn))
    (sym same.failsafe) core))
