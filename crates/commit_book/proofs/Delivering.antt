-- A delivery to the key store is an action, or two, and leaves the same book.
use Rattle.std.proofs.Common.{◌≡◌, ℕ, ◌<◌, Bool, true, false, List, [], ◌∷◌, Option, Some, None, refl, ◌∙◌, ap, sym, arith, inr}
use Rattle.std.proofs.Math.Path.{fun_ext}
use Rattle.pat_base.specs.declared.lsn.Lsn.{Lsn}
use Rattle.pat_base.specs.declared.member_set.MemberSet.{MemberSet}
use Rattle.pat_base.specs.declared.name.Name.{Name}
use Rattle.pat_base.specs.declared.ticks.Ticks.{Ticks}
use Rattle.lease_store.specs.Decision.{Grant as Granting, Refusal as Refusing, decision_on}
use Rattle.lease_store.specs.Writes.{is_lease}
use Rattle.store_keys.specs.declared.key.Key.{Key}
use Rattle.store_keys.specs.declared.txn.Expected.{Expected}
use Rattle.store_keys.specs.declared.txn.Txn.{Txn}
use Rattle.store_keys.specs.declared.txn.Txn.TheVariants as txns
use Rattle.store_keys.specs.declared.txn.LeaseTxn.TheVariants as lease_txns
use Rattle.store_keys.specs.declared.txn.SyncTxn.TheVariants as sync_txns
use Rattle.store_keys.specs.declared.txn_kind.TxnKind.{TxnKind}
use Rattle.store_keys.specs.declared.value.HistoryRow.{HistoryRow}
use Rattle.store_keys.specs.declared.value.MemberInfo.{MemberInfo}
use Rattle.event_book.specs.declared.link.LinkEnd.TheVariants as ends
use Rattle.event_book.specs.declared.member.Member.{Member}
use Rattle.event_book.specs.declared.message.Body.TheVariants as bodies
use Rattle.event_book.specs.Flight.{InFlightFacts, in_flight}
use Rattle.event_book.specs.Facts.{Facts}
use Rattle.event_book.specs.Functions.{put_at}
use Rattle.lease_model.specs.Showing.{granted_events, refused_events, read_events}
use Rattle.lease_model.specs.Stores.{IsSpannedTxn, is_granted as is_grant}
use Rattle.lease_model.proofs.Tools.{both, put-all}
use Rattle.commit_actions.specs.Actions.{Action, Create, Decide, Note, OtherWrite, Release, Renew, SendSnapshot, IsAllowed, IsNumbered, MayRenew, is_granted}
use Rattle.commit_showing.specs.Books.{IsShown, AreAllowed, book_of}
use Rattle.commit_actions.specs.Flights.{Flying}
use Rattle.commit_actions.specs.Past.{Setup, Past, VolatileState, OtherQuery, claim_request, publish_request, query_of, query_in_flight_of, is_keyless, is_leaderless, leader_revision, past_over, state_of}
use Rattle.commit_showing.specs.Showing.{IsOtherTxn, carries_set, decided_events}
use Rattle.commit_actions.specs.States.{State}
use Rattle.commit_showing.proofs.ShownMessages.{claim-shown, publish-shown, create-shown, renew-shown, other-shown, release-shown, answered-shown, refused-shown, snapshot-shown}
use Rattle.commit_book.specs.Deliveries.{transition_of, granted_if, granted_actions, refused_action, ComparesNoSync, MayBeGranted, IsDelivered}
use Rattle.commit_book.specs.Flights.{flying_if, IsSameFlight, IsSameBook}
use Rattle.commit_book.specs.Keys.{IsSameKeys}
use Rattle.commit_book.proofs.Deciding.{decision-is, granted-leader}
use Rattle.commit_book.proofs.Flights.{heard, request-asked, request-flying}
use Rattle.commit_book.proofs.Groups.{book-after, granted-causal, refused-causal, read-causal}

-- ---- decisions
pub claim-decided : (past : Past) (facts : Facts) (m incarnation sequence revision : ℕ) (sync : Expected)
    → IsSameKeys past facts
    → is_grant (decision_on facts.keys facts.clock (txns.Sync (sync_txns.Claim revision sync)))
    ≡ is_granted (leader_revision past.lease.leader) past.sync (claim_request m incarnation sequence revision sync)
claim-decided past facts m incarnation sequence revision sync same = decision-is past facts revision sync same

pub publish-decided : (past : Past) (facts : Facts) (m incarnation sequence revision : ℕ) (sync : Expected)
    (standbys : MemberSet) (may_lack : Option ℕ) → IsSameKeys past facts
    → is_grant (decision_on facts.keys facts.clock (txns.Sync (sync_txns.SetSync revision sync standbys may_lack)))
    ≡ is_granted (leader_revision past.lease.leader) past.sync
    (publish_request m incarnation sequence revision sync standbys may_lack)
publish-decided past facts m incarnation sequence revision sync standbys may_lack same =
    decision-is past facts revision sync same

-- ---- messages
put-same : (flight : ℕ → Option Flying) (i : ℕ) → flight i ≡ None
    → ◌≡◌ {A = ℕ → Option Flying} (put_at flight i None) flight
put-same flight i none = fun_ext (λ n. put-all flight i None (λ k o. o ≡ flight k) (sym none) (λ k other. refl) n)

none-in : (o : Option InFlightFacts) → ((carried : InFlightFacts) → o ≡ Some carried → ⊥) → o ≡ None
none-in None never = refl
none-in (Some carried) never = absurd (never carried refl)

-- nothing is in flight under a number above those sent
none-above : (past : Past) (facts : Facts) (j : ℕ) → IsSameFlight past facts → facts.sent < j → past.flight j ≡ None
none-above past facts j same above =
    same.same j
    ∙ ap (λ (o : Option InFlightFacts). flying_if past.asked o)
    (none-in (in_flight facts.flight j) (λ carried here. omega (arith, above, same.lease.flown j carried here)))

renew-flying : (m incarnation sequence revision : ℕ) (info : MemberInfo) (ttl : Ticks) (status : Option Lsn)
    (row : Option HistoryRow) (failsafe : Option MemberSet)
    → query_in_flight_of (query_of m incarnation sequence
    (txns.Lease (lease_txns.Renew revision info ttl status row failsafe)))
    ≡ None
renew-flying m incarnation sequence revision info ttl status row None = refl
renew-flying m incarnation sequence revision info ttl status row (Some members) = refl

-- ---- what is allowed
never-compared : (s : State) (carries : Bool) → s.creates_compare ≡ false → MayRenew s carries
never-compared s carries none =
    record { leader = λ e. absurd (both (sym none ∙ e)); holder_was_live = λ e f. absurd (both (sym none ∙ e)) }

-- one action, and one with the answer after it
allowed-one : (setup : Setup) (past : Past) (volatile_states : ℕ → VolatileState) (action : Action)
    (tick : Ticks) (i j : ℕ) (by : Member) (incarnation sequence : ℕ) (txn : Txn) (standbys : List Name)
    → IsAllowed (state_of setup past volatile_states) action
    → IsShown setup past volatile_states
    (transition_of volatile_states action (granted_events tick i j by incarnation sequence txn standbys))
    → AreAllowed setup past volatile_states
    (granted_if true volatile_states action tick i j by incarnation sequence txn standbys)
allowed-one setup past volatile_states action tick i j by incarnation sequence txn standbys may shown =
    (may, shown, inr (tt, (tt, tt)), tt)

allowed-two : (setup : Setup) (past : Past) (volatile_states : ℕ → VolatileState) (action : Action)
    (tick : Ticks) (i j : ℕ) (by : Member) (incarnation sequence : ℕ) (txn : Txn) (standbys : List Name)
    → IsAllowed (state_of setup past volatile_states) action
    → IsShown setup past volatile_states (transition_of volatile_states action (decided_events tick i by txn standbys))
    → past.asked i ≡ OtherQuery
    → AreAllowed setup past volatile_states
    (granted_if false volatile_states action tick i j by incarnation sequence txn standbys)
allowed-two setup past volatile_states action tick i j by incarnation sequence txn standbys may shown other = (
  may,
  shown,
  inr (tt, tt),
  (
    ((λ e. absurd (both e)), (λ e. absurd (both e))),
    answered-shown setup (past_over past (decided_events tick i by txn standbys)) volatile_states tick i j by
        incarnation sequence (is_lease txn) other,
    inr tt,
    tt,
  ),
)

-- ---- a request that is granted
-- what is known of the request that is delivered under this number
record IsAsked (past : Past) (i : ℕ) (by : Member) (incarnation sequence : ℕ) (txn : Txn) : Type 0 where
  flying : past.flight i ≡ query_in_flight_of (query_of by.id.number incarnation sequence txn)
  asked : past.asked i ≡ query_of by.id.number incarnation sequence txn

other-allowed : (setup : Setup) (past : Past) (volatile_states : ℕ → VolatileState) (tick : Ticks) (i j : ℕ)
    (by : Member) (incarnation sequence : ℕ) (txn : Txn) (standbys : List Name) → past.flight i ≡ None
    → past.asked i ≡ OtherQuery → IsOtherTxn txn
    → AreAllowed setup past volatile_states
    (granted_if false volatile_states OtherWrite tick i j by incarnation sequence txn standbys)
other-allowed setup past volatile_states tick i j by incarnation sequence txn standbys none asked other =
    allowed-two setup past volatile_states OtherWrite tick i j by incarnation sequence txn standbys tt
    (other-shown setup past volatile_states tick i by txn standbys none other) asked

create-allowed : (setup : Setup) (past : Past) (volatile_states : ℕ → VolatileState) (tick : Ticks) (i j : ℕ)
    (by : Member) (incarnation sequence : ℕ) (info : MemberInfo) (ttl : Ticks)
    (failsafe sync : Option Expected) (standbys : List Name)
    → IsAsked past i by incarnation sequence (txns.Lease (lease_txns.Create info ttl failsafe sync))
    → setup.creates_compare ≡ false
    → MayBeGranted (state_of setup past volatile_states) by.id.number incarnation sequence
    (txns.Lease (lease_txns.Create info ttl failsafe sync))
    → AreAllowed setup past volatile_states
    (granted_actions volatile_states tick i j by incarnation sequence
    (txns.Lease (lease_txns.Create info ttl failsafe sync)) standbys)
create-allowed setup past volatile_states tick i j by incarnation sequence info ttl failsafe None standbys is none may =
    allowed-one setup past volatile_states (Create by.id.number incarnation sequence j) tick i j by incarnation sequence
    (txns.Lease (lease_txns.Create info ttl failsafe None)) standbys (may, none)
    (create-shown setup past volatile_states tick i j by incarnation sequence info ttl failsafe standbys
    is.flying is.asked)
create-allowed setup past volatile_states tick i j by incarnation sequence info ttl failsafe (Some sync) standbys is
    none may =
    absurd may

renew-allowed : (setup : Setup) (past : Past) (facts : Facts) (volatile_states : ℕ → VolatileState)
    (tick : Ticks) (i j : ℕ) (by : Member) (incarnation sequence revision : ℕ) (info : MemberInfo) (ttl : Ticks)
    (status : Option Lsn) (row : Option HistoryRow) (failsafe : Option MemberSet) (standbys : List Name)
    → let txn = txns.Lease (lease_txns.Renew revision info ttl status row failsafe) in
    IsAsked past i by incarnation sequence txn → IsSameKeys past facts
    → decision_on facts.keys facts.clock txn ≡ Granting → setup.creates_compare ≡ false
    → IsNumbered ((state_of setup past volatile_states).members by.id.number) incarnation sequence
    → AreAllowed setup past volatile_states
    (granted_actions volatile_states tick i j by incarnation sequence txn standbys)
renew-allowed setup past facts volatile_states tick i j by incarnation sequence revision info ttl status row failsafe
    standbys =
    λ is same granted none may.
    let key = granted-leader past facts revision same granted in
    let carries : Bool = carries_set failsafe in
    allowed-one setup past volatile_states (Renew by.id.number incarnation sequence j carries) tick i j by
    incarnation sequence (txns.Lease (lease_txns.Renew revision info ttl status row failsafe)) standbys
    (may, never-compared (state_of setup past volatile_states) carries none)
    (renew-shown setup past volatile_states tick i j by incarnation sequence revision info ttl status row
    failsafe standbys key.0 key.1
    (is.flying ∙ renew-flying by.id.number incarnation sequence revision info ttl status row failsafe) is.asked)

granted-allowed : (setup : Setup) (past : Past) (facts : Facts) (volatile_states : ℕ → VolatileState)
    (tick : Ticks) (i j : ℕ) (by : Member) (incarnation sequence : ℕ) (txn : Txn) (standbys : List Name)
    → IsAsked past i by incarnation sequence txn → IsSameKeys past facts
    → decision_on facts.keys facts.clock txn ≡ Granting → setup.creates_compare ≡ false
    → MayBeGranted (state_of setup past volatile_states) by.id.number incarnation sequence txn
    → AreAllowed setup past volatile_states
    (granted_actions volatile_states tick i j by incarnation sequence txn standbys)
granted-allowed setup past facts volatile_states tick i j by incarnation sequence
    (txns.Lease (lease_txns.Create info ttl failsafe sync))
    standbys is same granted none may =
    create-allowed setup past volatile_states tick i j by incarnation sequence info ttl failsafe sync standbys
    is none may
granted-allowed setup past facts volatile_states tick i j by incarnation sequence
    (txns.Lease (lease_txns.Renew revision info ttl status row failsafe)) standbys is same granted none may =
    renew-allowed setup past facts volatile_states tick i j by incarnation sequence revision info ttl status
    row failsafe standbys is same granted none may
granted-allowed setup past facts volatile_states tick i j by incarnation sequence
    (txns.Sync (sync_txns.Claim revision sync)) standbys is
    same granted none may =
    allowed-one setup past volatile_states (Decide i j) tick i j by incarnation sequence
    (txns.Sync (sync_txns.Claim revision sync)) standbys tt
    (claim-shown setup past volatile_states tick i j by incarnation sequence revision sync standbys is.flying is.asked
    (sym (claim-decided past facts by.id.number incarnation sequence revision sync same) ∙ ap is_grant granted))
granted-allowed setup past facts volatile_states tick i j by incarnation sequence
    (txns.Sync (sync_txns.SetSync revision sync set may_lack))
    standbys is same granted none may =
    allowed-one setup past volatile_states (Decide i j) tick i j by incarnation sequence
    (txns.Sync (sync_txns.SetSync revision sync set may_lack)) standbys tt
    (publish-shown setup past volatile_states tick i j by incarnation sequence revision sync set may_lack standbys
    is.flying is.asked
    (sym (publish-decided past facts by.id.number incarnation sequence revision sync set may_lack same)
    ∙ ap is_grant granted))
granted-allowed setup past facts volatile_states tick i j by incarnation sequence
    (txns.Lease (lease_txns.Release revision)) standbys is
    same granted none may =
    allowed-two setup past volatile_states Release tick i j by incarnation sequence
    (txns.Lease (lease_txns.Release revision)) standbys tt
    (release-shown setup past volatile_states tick i by revision standbys is.flying) is.asked
granted-allowed setup past facts volatile_states tick i j by incarnation sequence
    (txns.Sync (sync_txns.DropSync revision sync)) standbys
    is same granted none may =
    absurd may
granted-allowed setup past facts volatile_states tick i j by incarnation sequence (txns.Touch info ttl) standbys is same
    granted none may =
    other-allowed setup past volatile_states tick i j by incarnation sequence
    (txns.Touch info ttl) standbys is.flying is.asked tt
granted-allowed setup past facts volatile_states tick i j by incarnation sequence (txns.Operators txn) standbys is same
    granted none may =
    other-allowed setup past volatile_states tick i j by incarnation sequence
    (txns.Operators txn) standbys is.flying is.asked tt

-- its events are those of the delivery
granted-whole : (volatile_states : ℕ → VolatileState) (tick : Ticks) (i j : ℕ) (by : Member)
    (incarnation sequence : ℕ) (txn : Txn) (standbys : List Name)
    → book_of (granted_actions volatile_states tick i j by incarnation sequence txn standbys)
    ≡ granted_events tick i j by incarnation sequence txn standbys
granted-whole volatile_states tick i j by incarnation sequence (txns.Lease (lease_txns.Create info ttl failsafe sync))
    standbys =
    refl
granted-whole volatile_states tick i j by incarnation sequence
    (txns.Lease (lease_txns.Renew revision info ttl status row failsafe))
    standbys =
    refl
granted-whole volatile_states tick i j by incarnation sequence (txns.Sync (sync_txns.Claim revision sync)) standbys =
    refl
granted-whole volatile_states tick i j by incarnation sequence
    (txns.Sync (sync_txns.SetSync revision sync set may_lack))
    standbys =
    refl
granted-whole volatile_states tick i j by incarnation sequence _ standbys = refl

pub granted-delivery : (setup : Setup) (past : Past) (facts : Facts) (volatile_states : ℕ → VolatileState)
    (tick : Ticks) (i j : ℕ) (carried : InFlightFacts) (by : Member) (incarnation sequence : ℕ) (txn : Txn)
    (standbys : List Name)
    → setup.creates_compare ≡ false → IsSameBook past facts → in_flight facts.flight i ≡ Some carried
    → carried.message ≡ record {
      from = ends.Member by;
      to = ends.Store;
      incarnation = incarnation;
      sequence = sequence;
      body = bodies.Request txn;
    }
    → facts.sent < j → IsSpannedTxn txn → decision_on facts.keys facts.clock txn ≡ Granting
    → MayBeGranted (state_of setup past volatile_states) by.id.number incarnation sequence txn
    → IsDelivered setup past facts volatile_states (granted_events tick i j by incarnation sequence txn standbys)
    (granted_actions volatile_states tick i j by incarnation sequence txn standbys)
granted-delivery setup past facts volatile_states tick i j carried by incarnation sequence txn standbys =
    λ none same here is above span granted may.
    let asked : IsAsked past i by incarnation sequence txn = record {
      flying = request-flying past facts i carried by incarnation sequence txn same.flight here is;
      asked = request-asked past facts i carried by incarnation sequence txn same.flight here is;
    } in
    record {
      whole = granted-whole volatile_states tick i j by incarnation sequence txn standbys;
      allowed = granted-allowed setup past facts volatile_states tick i j by incarnation sequence txn standbys
          asked same.store granted none may;
      same = book-after past facts (granted_events tick i j by incarnation sequence txn standbys)
          (granted-causal past facts tick i j carried by incarnation sequence txn standbys same here is above
          span granted)
          same;
    }

-- ---- a request that is refused
abbrev RefusedShown : Setup → Past → (ℕ → VolatileState) → Action → Ticks → ℕ → ℕ → Member → ℕ → ℕ → TxnKind
    → Key → Expected → Type 0
RefusedShown setup past volatile_states action tick i j by incarnation sequence request key found =
    IsShown setup past volatile_states
    (transition_of volatile_states action (refused_events tick i j by incarnation sequence request key found))

unread-shown : (setup : Setup) (past : Past) (volatile_states : ℕ → VolatileState) (tick : Ticks) (i j : ℕ)
    (by : Member) (incarnation sequence : ℕ) (request : TxnKind) (key : Key) (found : Expected)
    → past.flight i ≡ None → past.flight j ≡ None
    → RefusedShown setup past volatile_states Note tick i j by incarnation sequence request key found
unread-shown setup past volatile_states tick i j by incarnation sequence request key found none new =
    ap (λ (f : ℕ → Option Flying). record (state_of setup past volatile_states) { flight = put_at f j None })
    (put-same past.flight i none)
    ∙ ap (λ (f : ℕ → Option Flying). record (state_of setup past volatile_states) { flight = f })
    (put-same past.flight j new)

create-unread : (setup : Setup) (past : Past) (volatile_states : ℕ → VolatileState) (tick : Ticks) (i j : ℕ)
    (by : Member) (incarnation sequence : ℕ) (info : MemberInfo) (ttl : Ticks)
    (failsafe sync : Option Expected) (request : TxnKind) (key : Key) (found : Expected)
    → IsAsked past i by incarnation sequence (txns.Lease (lease_txns.Create info ttl failsafe sync))
    → ComparesNoSync (txns.Lease (lease_txns.Create info ttl failsafe sync)) → past.flight j ≡ None
    → RefusedShown setup past volatile_states Note tick i j by incarnation sequence request key found
create-unread setup past volatile_states tick i j by incarnation sequence info ttl failsafe None request key found is
    none new =
    unread-shown setup past volatile_states tick i j by incarnation sequence request key found is.flying new
create-unread setup past volatile_states tick i j by incarnation sequence info ttl failsafe (Some sync) request key
    found is none new =
    absurd none

refused-is : (setup : Setup) (past : Past) (facts : Facts) (volatile_states : ℕ → VolatileState) (tick : Ticks)
    (i j : ℕ) (by : Member) (incarnation sequence : ℕ) (txn : Txn) (request : TxnKind) (key : Key) (found : Expected)
    → IsAsked past i by incarnation sequence txn → IsSameKeys past facts
    → decision_on facts.keys facts.clock txn ≡ Refusing key found → ComparesNoSync txn → past.flight j ≡ None
    → RefusedShown setup past volatile_states
    (refused_action i j txn) tick i j by incarnation sequence request key found
refused-is setup past facts volatile_states tick i j by incarnation sequence
    (txns.Sync (sync_txns.Claim revision sync)) request key
    found is same refused none new =
    refused-shown setup past volatile_states tick i j by incarnation sequence request key found
    (claim_request by.id.number incarnation sequence revision sync) is.flying
    (sym (claim-decided past facts by.id.number incarnation sequence revision sync same) ∙ ap is_grant refused) new
refused-is setup past facts volatile_states tick i j by incarnation sequence
    (txns.Sync (sync_txns.SetSync revision sync set may_lack)) request
    key found is same refused none new =
    refused-shown setup past volatile_states tick i j by incarnation sequence request key found
    (publish_request by.id.number incarnation sequence revision sync set may_lack) is.flying
    (sym (publish-decided past facts by.id.number incarnation sequence revision sync set may_lack same)
    ∙ ap is_grant refused)
    new
refused-is setup past facts volatile_states tick i j by incarnation sequence
    (txns.Lease (lease_txns.Create info ttl failsafe sync))
    request key found is same refused none new =
    create-unread setup past volatile_states tick i j by incarnation sequence info ttl failsafe sync request
    key found is none new
refused-is setup past facts volatile_states tick i j by incarnation sequence
    (txns.Lease (lease_txns.Renew revision info ttl status row failsafe)) request key found is same refused none new =
    unread-shown setup past volatile_states tick i j by incarnation sequence request key found
    (is.flying ∙ renew-flying by.id.number incarnation sequence revision info ttl status row failsafe) new
refused-is setup past facts volatile_states tick i j by incarnation sequence _ request key found is same refused none
    new =
    unread-shown setup past volatile_states tick i j by incarnation sequence request key found is.flying new

refused-may : (s : State) (i j : ℕ) (txn : Txn) → IsAllowed s (refused_action i j txn)
refused-may s i j (txns.Sync (sync_txns.Claim revision sync)) = tt
refused-may s i j (txns.Sync (sync_txns.SetSync revision sync set may_lack)) = tt
refused-may s i j _ = tt

pub refused-delivery : (setup : Setup) (past : Past) (facts : Facts) (volatile_states : ℕ → VolatileState)
    (tick : Ticks) (i j : ℕ) (carried : InFlightFacts) (by : Member) (incarnation sequence : ℕ) (txn : Txn)
    (request : TxnKind) (key : Key) (found : Expected)
    → IsSameBook past facts → in_flight facts.flight i ≡ Some carried
    → carried.message ≡ record {
      from = ends.Member by;
      to = ends.Store;
      incarnation = incarnation;
      sequence = sequence;
      body = bodies.Request txn;
    }
    → facts.sent < j → decision_on facts.keys facts.clock txn ≡ Refusing key found → ComparesNoSync txn
    → let events = refused_events tick i j by incarnation sequence request key found in IsDelivered setup past
    facts volatile_states events (transition_of volatile_states (refused_action i j txn) events ∷ [])
refused-delivery setup past facts volatile_states tick i j carried by incarnation sequence txn request key found =
    λ same here is above refused none.
    let asked : IsAsked past i by incarnation sequence txn = record {
      flying = request-flying past facts i carried by incarnation sequence txn same.flight here is;
      asked = request-asked past facts i carried by incarnation sequence txn same.flight here is;
    } in
    record {
      whole = refl;
      allowed = (
        refused-may (state_of setup past volatile_states) i j txn,
        refused-is setup past facts volatile_states tick i j by incarnation sequence txn request key found
            asked same.store refused none (none-above past facts j same.flight above),
        inr (tt, (tt, tt)),
        tt,
      );
      same = book-after past facts (refused_events tick i j by incarnation sequence request key found)
          (refused-causal past facts tick i j by incarnation sequence request key found above) same;
    }

-- ---- a read
pub read-delivery : (setup : Setup) (past : Past) (facts : Facts) (volatile_states : ℕ → VolatileState)
    (tick : Ticks) (i j : ℕ) (carried : InFlightFacts) (by : Member) (incarnation sequence : ℕ)
    → IsSameBook past facts → in_flight facts.flight i ≡ Some carried
    → carried.message ≡ record {
      from = ends.Member by;
      to = ends.Store;
      incarnation = incarnation;
      sequence = sequence;
      body = bodies.Read;
    }
    → facts.sent < j
    → IsAllowed (state_of setup past volatile_states)
    (SendSnapshot (is_keyless past.lease.leader past.lease.failsafe) (is_leaderless past.lease.leader) j)
    → let events = read_events tick i j by incarnation sequence in IsDelivered setup past facts volatile_states events
    (transition_of volatile_states
    (SendSnapshot (is_keyless past.lease.leader past.lease.failsafe) (is_leaderless past.lease.leader) j) events ∷ [])
read-delivery setup past facts volatile_states tick i j carried by incarnation sequence = λ same here is above may.
    let none : past.flight i ≡ None = heard past facts i carried (record {
      from = ends.Member by;
      to = ends.Store;
      incarnation = incarnation;
      sequence = sequence;
      body = bodies.Read;
    }) same.flight here is in
    record {
      whole = refl;
      allowed =
          (may, snapshot-shown setup past volatile_states tick i j by incarnation sequence none, inr (tt, tt), tt);
      same = book-after past facts (read_events tick i j by incarnation sequence)
          (read-causal past facts tick i j by incarnation sequence above) same;
    }
