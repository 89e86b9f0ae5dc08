-- Renewals that carry a set for the failsafe key.
use Rattle.std.proofs.Common.{◌≡◌, ℕ, ◌+◌, ◌≤◌, ◌==◌, ◌||◌, Bool, true, false, List, Option, Some, None, refl, ◌∙◌, ap, sym, arith}
use Rattle.std.proofs.lemmas.Bool.Decides.{nat_tests}
use Rattle.pat_base.specs.declared.lsn.Lsn.{Lsn}
use Rattle.pat_base.specs.declared.server_state.Required.{Required}
use Rattle.store_keys.specs.declared.txn.Txn.{Txn}
use Rattle.store_keys.specs.declared.txn.Txn.TheVariants as txns
use Rattle.store_keys.specs.declared.txn.LeaseTxn.TheVariants as lease_txns
use Rattle.store_keys.specs.declared.txn.SyncTxn.TheVariants as sync_txns
use Rattle.event_book.specs.declared.event.EventKind.{EventKind}
use Rattle.event_book.specs.declared.event.EventKind.TheVariants as kinds
use Rattle.event_book.specs.declared.event.MessageEvent.TheVariants as messages
use Rattle.event_book.specs.declared.event.StoreEvent.TheVariants as stores
use Rattle.event_book.specs.declared.link.LinkEnd.{LinkEnd}
use Rattle.event_book.specs.declared.link.LinkEnd.TheVariants as ends
use Rattle.event_book.specs.declared.message.Body.{Body}
use Rattle.event_book.specs.declared.message.Body.TheVariants as bodies
use Rattle.event_book.specs.Logs.{Logs}
use Rattle.lease_model.specs.Leases.{LeaderKey}
use Rattle.lease_model.specs.Past.{extended_by, leader_granted, query_of as lease_query_of}
use Rattle.lease_law.proofs.Uncontended.{key-known}
use Rattle.lease_model.proofs.Tools.{some-is, none-some, both, put-all}
use Rattle.commit_actions.specs.Actions.{MayRenew}
use Rattle.commit_actions.specs.Past.{Setup, Past, VolatileState, Query, CarryQuery, OtherQuery, query_of, query_sent, is_holder, was_live_by_txn, was_live_by_message, was_live_by_grant, past_after, first_past, leader_revision, state_of}
use Rattle.commit_showing.specs.Renewals.{ComparesGiven, AreCarriedLive}

other-carry : (m r : ℕ) → OtherQuery ≡ CarryQuery m r → ⊥
other-carry m r e = cc

carry-member : (a b m r : ℕ) → CarryQuery a b ≡ CarryQuery m r → a ≡ m
carry-member a b m r e = cc

or-first : (a b : Bool) → a ≡ true → (a || b) ≡ true
or-first true b e = refl
or-first false b e = absurd (both e)

or-second : (a b : Bool) → b ≡ true → (a || b) ≡ true
or-second true b e = refl
or-second false b e = e

is-same : (m n : ℕ) → m ≡ n → (m == n) ≡ true
is-same m n e = grind (arith, nat_tests)

-- who asks for such a renewal while it holds the leader key is live
txn-live : (live : Bool) (leader : Option LeaderKey) (by incarnation sequence : ℕ) (txn : Txn) (m r : ℕ)
    (key : LeaderKey) → query_of by incarnation sequence txn ≡ CarryQuery m r → leader ≡ Some key
    → key.holder ≡ m → was_live_by_txn live leader by txn ≡ true
txn-live live leader by incarnation sequence
    (txns.Lease (lease_txns.Renew revision info ttl status row (Some members))) m r key e is
    mine =
    or-second live (is_holder leader by)
    (ap (λ (l : Option LeaderKey). is_holder l by) is
    ∙ is-same key.holder by (mine ∙ sym (carry-member by revision m r e)))
txn-live live leader by incarnation sequence (txns.Lease (lease_txns.Renew revision info ttl status row None)) m r key e
    is mine =
    absurd cc
txn-live live leader by incarnation sequence (txns.Lease (lease_txns.Create info ttl failsafe None)) m r key e is mine =
    absurd cc
txn-live live leader by incarnation sequence (txns.Lease (lease_txns.Create info ttl failsafe (Some sync))) m r key e is
    mine =
    absurd cc
txn-live live leader by incarnation sequence (txns.Sync (sync_txns.Claim revision sync)) m r key e is mine = absurd cc
txn-live live leader by incarnation sequence (txns.Sync (sync_txns.SetSync revision sync standbys may_lack)) m r key e
    is mine =
    absurd cc
txn-live live leader by incarnation sequence _ m r key e is mine = absurd (other-carry m r e)

sent-live : (live : Bool) (leader : Option LeaderKey) (from : LinkEnd) (incarnation sequence : ℕ)
    (body : Body) (m r : ℕ) (key : LeaderKey) → query_sent from incarnation sequence body ≡ CarryQuery m r
    → leader ≡ Some key → key.holder ≡ m → was_live_by_message live leader from body ≡ true
sent-live live leader (ends.Member member) incarnation sequence (bodies.Request txn) m r key e is mine =
    txn-live live leader member.id.number incarnation sequence txn m r key e is mine
sent-live live leader (ends.Member member) incarnation sequence _ m r key e is mine = absurd (other-carry m r e)
sent-live live leader ends.Store incarnation sequence body m r key e is mine = absurd (other-carry m r e)

-- what was so stays so
txn-stays : (live : Bool) (leader : Option LeaderKey) (m : ℕ) (txn : Txn) → live ≡ true
    → was_live_by_txn live leader m txn ≡ true
txn-stays live leader m (txns.Lease (lease_txns.Renew revision info ttl status row (Some members))) e =
    or-first live (is_holder leader m) e
txn-stays live leader m (txns.Lease (lease_txns.Renew revision info ttl status row None)) e = e
txn-stays live leader m _ e = e

sent-stays : (live : Bool) (leader : Option LeaderKey) (from : LinkEnd) (body : Body) → live ≡ true
    → was_live_by_message live leader from body ≡ true
sent-stays live leader (ends.Member member) (bodies.Request txn) e = txn-stays live leader member.id.number txn e
sent-stays live leader (ends.Member member) _ e = e
sent-stays live leader ends.Store body e = e

-- a grant gives the leader key a revision that nothing compares yet
renewed-later : (clock revision ttl r : ℕ) (leader : Option LeaderKey) (key : LeaderKey)
    → extended_by clock (revision + 1) ttl leader ≡ Some key → key.revision ≡ r → r ≤ revision → ⊥
renewed-later clock revision ttl r None key is same le = none-some key is
renewed-later clock revision ttl r (Some k) key is same le =
    omega (arith, ap (λ (x : LeaderKey). x.revision) (some-is _ key is), same, le)

granted-live : (past : Past) (by : ℕ) (txn : Txn) (i m r : ℕ) (key : LeaderKey) → AreCarriedLive past
    → past.asked i ≡ CarryQuery m r
    → leader_granted past.lease.clock past.lease.revision past.lease.leader by (lease_query_of txn) ≡ Some key
    → key.revision ≡ r → key.holder ≡ m → was_live_by_grant past.holder_was_live txn ≡ true
granted-live past by (txns.Lease (lease_txns.Create info ttl failsafe sync)) i m r key old asked is same mine =
    absurd (omega (
      arith,
      ap (λ (x : LeaderKey). x.revision)
          (some-is (record { holder = by; revision = past.lease.revision + 1; expiry = past.lease.clock + ttl.0 })
          key is),
      same,
      old.given i m r asked,
    ))
granted-live past by (txns.Lease (lease_txns.Renew revision info ttl status row failsafe)) i m r key old asked is same
    mine =
    absurd
    (renewed-later past.lease.clock past.lease.revision ttl.0 r past.lease.leader key is same (old.given i m r asked))
granted-live past by (txns.Lease (lease_txns.Release revision)) i m r key old asked is same mine =
    absurd (none-some key is)
granted-live past by (txns.Touch info ttl) i m r key old asked is same mine = old.live i m r key asked is same mine
granted-live past by (txns.Sync txn) i m r key old asked is same mine = old.live i m r key asked is same mine
granted-live past by (txns.Operators txn) i m r key old asked is same mine = old.live i m r key asked is same mine

pub carried-each : (past : Past) (kind : EventKind) → ComparesGiven past kind → AreCarriedLive past
    → AreCarriedLive (past_after past kind)
carried-each past kinds.Tick read old = record {
  given = old.given;
  live = λ i m r key asked is. old.live i m r key asked (key-known (past.lease.clock + 1) past.lease.leader key is);
}
carried-each past (kinds.Message (messages.Sent number message)) read old =
    let q : Query = query_sent message.from message.incarnation message.sequence message.body in
    record {
      given = put-all past.asked number q
          (λ i z. (m r : ℕ) → z ≡ CarryQuery m r → r ≤ past.lease.revision) read (λ i other. old.given i);
      live = λ i m r key asked is same mine. put-all past.asked number q
          (λ j z. z ≡ CarryQuery m r →
          was_live_by_message past.holder_was_live past.lease.leader message.from message.body ≡ true)
          (λ e. sent-live past.holder_was_live past.lease.leader message.from message.incarnation
          message.sequence message.body m r key e is mine)
          (λ j other e. sent-stays past.holder_was_live past.lease.leader message.from message.body
          (old.live j m r key e is same mine))
          i asked;
    }
carried-each past (kinds.Message _) read old = record { given = old.given; live = old.live }
carried-each past (kinds.Store (stores.Granted number by txn standbys)) read old = record {
  given = λ i m r asked. omega (arith, old.given i m r asked);
  live = λ i m r key asked is same mine. granted-live past by.id.number txn i m r key old asked is same mine;
}
carried-each past (kinds.Store _) read old = record { given = old.given; live = old.live }
carried-each past _ read old = record { given = old.given; live = old.live }

pub first-carried : (logs : Logs) (required : List Required) (confirmed : List (List (Option Lsn)))
    → AreCarriedLive (first_past logs required confirmed)
first-carried logs required confirmed = record {
  given = λ i m r asked. absurd (other-carry m r asked);
  live = λ i m r key asked. absurd (other-carry m r asked);
}

pub carried-granted : (setup : Setup) (past : Past) (volatile_states : ℕ → VolatileState) (i m r : ℕ) (key : LeaderKey)
    → AreCarriedLive past → past.asked i ≡ CarryQuery m r → past.lease.leader ≡ Some key → key.revision ≡ r
    → key.holder ≡ m → MayRenew (state_of setup past volatile_states) true
carried-granted setup past volatile_states i m r key old asked is same mine = record {
  leader = λ compares. (key.revision, ap leader_revision is);
  holder_was_live = λ compares carries. old.live i m r key asked is same mine;
}
