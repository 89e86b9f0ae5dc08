-- The past has the keys of the lease as the key store holds them.
use Rattle.std.proofs.Common.{◌≡◌, ℕ, ◌+◌, ◌≤◌, ◌<◌, nat_le, nat_lt, Bool, true, false, cond, List, Option, Some, None, IsSome, refl, ◌∙◌, ap, sym, subst, arith}
use Rattle.std.proofs.lemmas.Bool.Decides.{nat_tests}
use Rattle.std.specs.FinMap.{find}
use Rattle.pat_base.specs.declared.name.Name.{Name}
use Rattle.pat_base.specs.declared.ticks.Ticks.{Ticks}
use Rattle.pat_base.specs.declared.member_id.MemberId.{MemberId}
use Rattle.pat_base.specs.declared.member_set.MemberSet.{MemberSet}
use Rattle.store_keys.specs.declared.key.Key.TheVariants as keys
use Rattle.store_keys.specs.declared.txn.Txn.{Txn}
use Rattle.store_keys.specs.declared.txn.Txn.TheVariants as txns
use Rattle.store_keys.specs.declared.txn.LeaseTxn.TheVariants as lease_txns
use Rattle.store_keys.specs.declared.value.KeyEntry.{KeyEntry}
use Rattle.store_keys.specs.declared.value.Value.{Value}
use Rattle.store_keys.specs.declared.value.Value.TheVariants as values
use Rattle.lease_store.specs.KeyOrder.{key_cmp}
use Rattle.lease_store.specs.Keys.{is_present, present}
use Rattle.lease_store.specs.Writes.{extended_expiry}
use Rattle.store_keys.specs.Settings.{Settings}
use Rattle.lease_store.proofs.Keeping.{kept_after, kept_present, find_present}
use Rattle.lease_store.proofs.Fences.{kept_first}
use Rattle.lease_store.proofs.OneKey.{renewed as held_renewed, leader_after, find_leader_after, failsafe_written, failsafe_after, find_failsafe_after}
use Rattle.event_book.specs.declared.event.EventKind.{EventKind}
use Rattle.event_book.specs.declared.event.EventKind.TheVariants as kinds
use Rattle.event_book.specs.declared.event.StoreEvent.TheVariants as stores
use Rattle.event_book.specs.declared.member.Member.{Member}
use Rattle.event_book.specs.Facts.{Facts, facts_after, start_of}
use Rattle.lease_model.specs.Leases.{LeaderKey, FailsafeKey}
use Rattle.lease_model.specs.States.{kept_if, leader_kept}
use Rattle.lease_model.specs.Outcomes.{failsafe_carried, renewed}
use Rattle.lease_model.specs.Past.{Past, members_if, query_of, extended_by, leader_granted, failsafe_granted, past_after, first_past}
use Rattle.lease_model.proofs.Tools.{some-is, none-some, le-from, gt-from}
use Rattle.lease_model.specs.Stores.{leader_value, leader_key_of, failsafe_key_of, IsLeased, IsEndless, IsSpannedTxn, IsSpanned, IsSameStore}

pub same-first : (first : Settings) (names : List Name) (base : ℕ) → IsSameStore first_past (start_of first names base)
same-first first names base = record {
  clock = refl;
  revision = refl;
  leader = refl;
  failsafe = refl;
  kept = kept_first first;
  leased = tt;
  endless = tt;
  present = λ key e. absurd (none-some key e);
}

lt-from : (m n : ℕ) → nat_lt m n ≡ true → m < n
lt-from m n e = grind (arith, nat_tests)

pub ge-from : (m n : ℕ) → nat_lt m n ≡ false → n ≤ m
ge-from m n e = grind (arith, nat_tests)

-- a tick drops the leader key at its expiry
found_key-none : (b : Bool) (o : Option KeyEntry) → leader_key_of o ≡ None → leader_key_of (cond b o None) ≡ None
found_key-none true o e = e
found_key-none false o e = refl

kept-by : (now revision : ℕ) (member : MemberId) (expiry : Ticks) (a b : Bool) → nat_le expiry.0 now ≡ a
    → nat_lt now expiry.0 ≡ b →
    kept_if a (record { holder = member.number; revision = revision; expiry = expiry.0 })
    ≡ leader_key_of (cond b
    (Some (record { value = values.Leader member; revision = revision; expiry = Some expiry })) None)
kept-by now revision member expiry true false e f = refl
kept-by now revision member expiry false true e f = refl
kept-by now revision member expiry true true e f =
    absurd (omega (arith, le-from expiry.0 now e, lt-from now expiry.0 f))
kept-by now revision member expiry false false e f =
    absurd (omega (arith, gt-from expiry.0 now e, ge-from now expiry.0 f))

kept-value : (now revision : ℕ) (value : Value) (expiry : Option Ticks)
    → leader_kept now (leader_value value revision expiry)
    ≡ leader_key_of (present now (Some (record { value = value; revision = revision; expiry = expiry })))
kept-value now revision (values.Leader member) (Some expiry) =
    kept-by now revision member expiry (nat_le expiry.0 now) (nat_lt now expiry.0) refl refl
kept-value now revision (values.Leader member) None = refl
kept-value now revision (values.Config config) expiry =
    sym (found_key-none (is_present now expiry)
    (Some (record { value = values.Config config; revision = revision; expiry = expiry })) refl)
kept-value now revision (values.Member info) expiry =
    sym (found_key-none (is_present now expiry)
    (Some (record { value = values.Member info; revision = revision; expiry = expiry })) refl)
kept-value now revision (values.Failover key) expiry =
    sym (found_key-none (is_present now expiry)
    (Some (record { value = values.Failover key; revision = revision; expiry = expiry })) refl)
kept-value now revision (values.Sync key) expiry =
    sym (found_key-none (is_present now expiry)
    (Some (record { value = values.Sync key; revision = revision; expiry = expiry })) refl)
kept-value now revision (values.Status end) expiry =
    sym (found_key-none (is_present now expiry)
    (Some (record { value = values.Status end; revision = revision; expiry = expiry })) refl)
kept-value now revision (values.History row) expiry =
    sym (found_key-none (is_present now expiry)
    (Some (record { value = values.History row; revision = revision; expiry = expiry })) refl)
kept-value now revision (values.Failsafe members) expiry =
    sym (found_key-none (is_present now expiry)
    (Some (record { value = values.Failsafe members; revision = revision; expiry = expiry })) refl)
kept-value now revision (values.Scheduled planned) expiry =
    sym (found_key-none (is_present now expiry)
    (Some (record { value = values.Scheduled planned; revision = revision; expiry = expiry })) refl)

kept-leader : (now : ℕ) (found : Option KeyEntry)
    → leader_kept now (leader_key_of found) ≡ leader_key_of (present now found)
kept-leader now None = refl
kept-leader now (Some found_key) = kept-value now found_key.revision found_key.value found_key.expiry

pub present-endless : (now : ℕ) (found : Option KeyEntry) → IsEndless found → present now found ≡ found
present-endless now None e = refl
present-endless now (Some found_key) e = ap (λ (x : Option Ticks). cond (is_present now x) (Some found_key) None) e

leased-if : (b : Bool) (o : Option KeyEntry) → IsLeased o → IsLeased (cond b o None)
leased-if true o e = e
leased-if false o e = tt

leased-present : (now : ℕ) (found : Option KeyEntry) → IsLeased found → IsLeased (present now found)
leased-present now None e = tt
leased-present now (Some found_key) e = leased-if (is_present now found_key.expiry) (Some found_key) e

-- a granted transaction
extended-value : (now revision ttl old : ℕ) (value : Value) (expiry : Option Ticks)
    → extended_by now revision ttl (leader_value value old expiry)
    ≡ leader_value value revision (extended_expiry (now + ttl) expiry)
extended-value now revision ttl old (values.Leader member) (Some expiry) = refl
extended-value now revision ttl old (values.Leader member) None = refl
extended-value now revision ttl old (values.Config config) expiry = refl
extended-value now revision ttl old (values.Member info) expiry = refl
extended-value now revision ttl old (values.Failover key) expiry = refl
extended-value now revision ttl old (values.Sync key) expiry = refl
extended-value now revision ttl old (values.Status end) expiry = refl
extended-value now revision ttl old (values.History row) expiry = refl
extended-value now revision ttl old (values.Failsafe members) expiry = refl
extended-value now revision ttl old (values.Scheduled planned) expiry = refl

extended-leader : (now revision ttl : ℕ) (found : Option KeyEntry)
    → extended_by now revision ttl (leader_key_of found) ≡ leader_key_of (held_renewed revision (now + ttl) found)
extended-leader now revision ttl None = refl
extended-leader now revision ttl (Some found_key) =
    extended-value now revision ttl found_key.revision found_key.value found_key.expiry

granted-leader : (now revision : ℕ) (by : MemberId) (txn : Txn) (found : Option KeyEntry)
    → leader_granted now revision (leader_key_of found) by.number (query_of txn)
    ≡ leader_key_of (leader_after (revision + 1) now by txn found)
granted-leader now revision by (txns.Lease (lease_txns.Create info ttl failsafe sync)) found = refl
granted-leader now revision by (txns.Lease (lease_txns.Renew compared info ttl status row failsafe)) found =
    extended-leader now (revision + 1) ttl.0 found
granted-leader now revision by _ found = refl

later-some : (until : ℕ) (expiry : Option Ticks) → IsSome expiry → IsSome (extended_expiry until expiry)
later-some until None e = e
later-some until (Some expiry) e = refl

leased-renewed : (revision until : ℕ) (found : Option KeyEntry) → IsLeased found
    → IsLeased (held_renewed revision until found)
leased-renewed revision until None e = tt
leased-renewed revision until (Some found_key) e = later-some until found_key.expiry e

granted-leased : (now revision : ℕ) (by : MemberId) (txn : Txn) (found : Option KeyEntry) → IsLeased found
    → IsLeased (leader_after revision now by txn found)
granted-leased now revision by (txns.Lease (lease_txns.Create info ttl failsafe sync)) found e = refl
granted-leased now revision by (txns.Lease (lease_txns.Renew compared info ttl status row failsafe)) found e =
    leased-renewed revision (now + ttl.0) found e
granted-leased now revision by (txns.Lease (lease_txns.Release compared)) found e = tt
granted-leased now revision by _ found e = e

carried-failsafe : (revision : ℕ) (members : Option MemberSet) (found : Option KeyEntry)
    → failsafe_carried revision (members_if members) (failsafe_key_of found)
    ≡ failsafe_key_of (failsafe_written revision members found)
carried-failsafe revision None found = refl
carried-failsafe revision (Some members) found = refl

granted-failsafe : (revision : ℕ) (txn : Txn) (found : Option KeyEntry)
    → failsafe_granted revision (failsafe_key_of found) (query_of txn)
    ≡ failsafe_key_of (failsafe_after (revision + 1) txn found)
granted-failsafe revision (txns.Lease (lease_txns.Renew compared info ttl status row failsafe)) found =
    carried-failsafe (revision + 1) failsafe found
granted-failsafe revision _ found = refl

endless-written : (revision : ℕ) (members : Option MemberSet) (found : Option KeyEntry) → IsEndless found
    → IsEndless (failsafe_written revision members found)
endless-written revision None found e = e
endless-written revision (Some members) found e = refl

granted-endless : (revision : ℕ) (txn : Txn) (found : Option KeyEntry) → IsEndless found
    → IsEndless (failsafe_after revision txn found)
granted-endless revision (txns.Lease (lease_txns.Renew compared info ttl status row failsafe)) found e =
    endless-written revision failsafe found e
granted-endless revision _ found e = e

-- a leader key that is held is present
extended-present : (clock revision ttl : ℕ) (leader : Option LeaderKey)
    → ((k : LeaderKey) → leader ≡ Some k → clock < k.expiry) → (k : LeaderKey)
    → extended_by clock revision ttl leader ≡ Some k → clock < k.expiry
extended-present clock revision ttl None old k e = absurd (none-some k e)
extended-present clock revision ttl (Some key) old k e =
    omega (arith, old key refl, ap (λ (x : LeaderKey). x.expiry) (some-is (renewed clock revision ttl key) k e))

granted-present : (clock revision by : ℕ) (leader : Option LeaderKey) (txn : Txn) → IsSpannedTxn txn
    → ((k : LeaderKey) → leader ≡ Some k → clock < k.expiry) → (k : LeaderKey)
    → leader_granted clock revision leader by (query_of txn) ≡ Some k → clock < k.expiry
granted-present clock revision by leader (txns.Lease (lease_txns.Create info ttl failsafe sync)) span old k e = omega (
  arith,
  span,
  ap (λ (x : LeaderKey). x.expiry)
      (some-is (record { holder = by; revision = revision + 1; expiry = clock + ttl.0 }) k e),
)
granted-present clock revision by leader (txns.Lease (lease_txns.Renew compared info ttl status row failsafe)) span old
    k e =
    extended-present clock (revision + 1) ttl.0 leader old k e
granted-present clock revision by leader (txns.Lease (lease_txns.Release compared)) span old k e =
    absurd (none-some k e)
granted-present clock revision by leader _ span old k e = old k e

kept-present : (b : Bool) (now : ℕ) (key k : LeaderKey) → nat_le key.expiry now ≡ b → kept_if b key ≡ Some k
    → now < k.expiry
kept-present true now key k e is = absurd (none-some k is)
kept-present false now key k e is =
    omega (arith, gt-from key.expiry now e, ap (λ (x : LeaderKey). x.expiry) (some-is key k is))

tick-present : (now : ℕ) (leader : Option LeaderKey) (k : LeaderKey) → leader_kept now leader ≡ Some k → now < k.expiry
tick-present now None k is = absurd (none-some k is)
tick-present now (Some key) k is = kept-present (nat_le key.expiry now) now key k refl is

same-granted : (past : Past) (facts : Facts) (number : ℕ) (by : Member) (txn : Txn) (standbys : List Name)
    → IsSpannedTxn txn → IsSameStore past facts
    → IsSameStore (past_after past (kinds.Store (stores.Granted number by txn standbys)))
    (facts_after facts (kinds.Store (stores.Granted number by txn standbys)))
same-granted past facts number by txn standbys span same =
    let leader = find_leader_after facts.keys facts.clock by.id txn in
    let failsafe = find_failsafe_after facts.keys facts.clock by.id txn in
    record {
      clock = same.clock;
      revision = ap (λ (r : ℕ). r + 1) same.revision;
      leader = ap (λ (c : ℕ). leader_granted c past.revision past.leader by.id.number (query_of txn)) same.clock
          ∙ ap (λ (r : ℕ). leader_granted facts.clock r past.leader by.id.number (query_of txn)) same.revision
          ∙ ap (λ (l : Option LeaderKey). leader_granted facts.clock facts.keys.revision l by.id.number (query_of txn))
          same.leader
          ∙ granted-leader facts.clock facts.keys.revision by.id txn (find key_cmp keys.Leader facts.keys.pairs)
          ∙ ap leader_key_of (sym leader);
      failsafe = ap (λ (r : ℕ). failsafe_granted r past.failsafe (query_of txn)) same.revision
          ∙ ap (λ (f : Option FailsafeKey). failsafe_granted facts.keys.revision f (query_of txn)) same.failsafe
          ∙ granted-failsafe facts.keys.revision txn (find key_cmp keys.Failsafe facts.keys.pairs)
          ∙ ap failsafe_key_of (sym failsafe);
      kept = kept_after (facts.keys.revision + 1) facts.clock by.id txn facts.keys.pairs same.kept;
      leased = subst (λ (o : Option KeyEntry). IsLeased o) (sym leader)
          (granted-leased facts.clock (facts.keys.revision + 1) by.id txn
          (find key_cmp keys.Leader facts.keys.pairs) same.leased);
      endless = subst (λ (o : Option KeyEntry). IsEndless o) (sym failsafe)
          (granted-endless (facts.keys.revision + 1) txn (find key_cmp keys.Failsafe facts.keys.pairs) same.endless);
      present = granted-present past.clock past.revision by.id.number past.leader txn span same.present;
    }

same-tick : (past : Past) (facts : Facts) → IsSameStore past facts
    → IsSameStore (past_after past kinds.Tick) (facts_after facts kinds.Tick)
same-tick past facts same =
    let now : ℕ = facts.clock + 1 in
    let leader = find_present now keys.Leader facts.keys.pairs same.kept.order in
    let failsafe = find_present now keys.Failsafe facts.keys.pairs same.kept.order
    ∙ present-endless now (find key_cmp keys.Failsafe facts.keys.pairs) same.endless in
    record {
      clock = ap (λ (c : ℕ). c + 1) same.clock;
      revision = same.revision;
      leader = ap (λ (c : ℕ). leader_kept (c + 1) past.leader) same.clock
          ∙ ap (λ (l : Option LeaderKey). leader_kept now l) same.leader
          ∙ kept-leader now (find key_cmp keys.Leader facts.keys.pairs)
          ∙ ap leader_key_of (sym leader);
      failsafe = same.failsafe ∙ ap failsafe_key_of (sym failsafe);
      kept = kept_present now facts.keys.pairs same.kept;
      leased = subst (λ (o : Option KeyEntry). IsLeased o) (sym leader)
          (leased-present now (find key_cmp keys.Leader facts.keys.pairs) same.leased);
      endless = subst (λ (o : Option KeyEntry). IsEndless o) (sym failsafe) same.endless;
      present = tick-present (past.clock + 1) past.leader;
    }

pub same-by : (past : Past) (facts : Facts) (kind : EventKind) → IsSpanned kind → IsSameStore past facts
    → IsSameStore (past_after past kind) (facts_after facts kind)
same-by past facts kinds.Tick span same = same-tick past facts same
same-by past facts (kinds.Store (stores.Granted number by txn standbys)) span same =
    same-granted past facts number by txn standbys span same
same-by past facts _ span same = record {
  clock = same.clock;
  revision = same.revision;
  leader = same.leader;
  failsafe = same.failsafe;
  kept = same.kept;
  leased = same.leased;
  endless = same.endless;
  present = same.present;
}
