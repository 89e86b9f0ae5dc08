-- What commits read of a message in flight that comes to an agent.
use Rattle.std.proofs.Common.{◌≡◌, ℕ, Bool, true, false, Option, Some, None, refl, ◌∙◌, ap, sym, subst}
use Rattle.std.specs.FinMap.{find}
use Rattle.store_keys.specs.declared.key.Key.{Key}
use Rattle.store_keys.specs.declared.key.Key.TheVariants as keys
use Rattle.store_keys.specs.declared.txn.Expected.{Expected}
use Rattle.lease_store.specs.KeyOrder.{key_cmp}
use Rattle.event_book.specs.declared.link.LinkEnd.TheVariants as ends
use Rattle.event_book.specs.declared.member.Member.{Member}
use Rattle.event_book.specs.declared.message.Body.TheVariants as bodies
use Rattle.event_book.specs.declared.message.Message.{Message}
use Rattle.event_book.specs.Flight.{InFlightFacts, in_flight, grant_for}
use Rattle.event_book.specs.Facts.{Facts}
use Rattle.lease_model.specs.Stores.{leader_key_of, failsafe_key_of}
use Rattle.lease_model.proofs.Tools.{both}
use Rattle.lease_book.specs.Flights.{revision_of}
use Rattle.commit_actions.specs.Keys.{SyncKey}
use Rattle.commit_actions.specs.Flights.{Aim, ClaimSync, CreateLeader, PublishStandbys, SyncRequest, Flying, LeaseGranted, SyncGranted}
use Rattle.commit_actions.specs.Actions.{sync_key_by}
use Rattle.commit_actions.specs.Past.{Past, Query, LeaseQuery, CarryQuery, SyncQuery, OtherQuery, is_keyless, is_leaderless, lease_grant_of, sync_grant_of, request_grant_of, grant_in_flight_of}
use Rattle.commit_book.specs.Keys.{sync_key_of}
use Rattle.commit_book.specs.Flights.{past_at_sending, is_creating, is_leasing, IsNamed, HasWritten, IsWritten, IsAnswerTo, Answers, IsSameFlight}
use Rattle.commit_book.specs.Hearing.{snapshot_in, CarriesLease, CarriesWrite}
use Rattle.commit_book.proofs.Flights.{heard}

pub heard-snapshot : (past : Past) (facts : Facts) (i : ℕ) (carried : InFlightFacts) (member : Member)
    (incarnation sequence : ℕ) → IsSameFlight past facts → in_flight facts.flight i ≡ Some carried
    → carried.message ≡ record {
      from = ends.Store;
      to = ends.Member member;
      incarnation = incarnation;
      sequence = sequence;
      body = bodies.Snapshot;
    }
    → let leader = leader_key_of (find key_cmp keys.Leader carried.snapshot) in
    past.flight i
    ≡ snapshot_in carried (is_keyless leader (failsafe_key_of (find key_cmp keys.Failsafe carried.snapshot)))
    (is_leaderless leader)
heard-snapshot past facts i carried member incarnation sequence = λ same here is. heard past facts i carried (record {
  from = ends.Store;
  to = ends.Member member;
  incarnation = incarnation;
  sequence = sequence;
  body = bodies.Snapshot;
}) same here is

pub heard-refused : (past : Past) (facts : Facts) (i : ℕ) (carried : InFlightFacts) (member : Member)
    (incarnation sequence request : ℕ) (key : Key) (found : Expected) → IsSameFlight past facts
    → in_flight facts.flight i ≡ Some carried
    → carried.message ≡ record {
      from = ends.Store;
      to = ends.Member member;
      incarnation = incarnation;
      sequence = sequence;
      body = bodies.Refused request key found;
    }
    → past.flight i ≡ None
heard-refused past facts i carried member incarnation sequence request key found same here is =
    heard past facts i carried (record {
      from = ends.Store;
      to = ends.Member member;
      incarnation = incarnation;
      sequence = sequence;
      body = bodies.Refused request key found;
    }) same here is

-- ---- grants
-- a grant in flight: what it carries, what it answers, and what commits read of it
record IsGrant (past : Past) (facts : Facts) (i : ℕ) (carried : InFlightFacts) (member : Member)
    (incarnation sequence request : ℕ) (leased : Bool) : Type 0 where
  revision : ℕ
  grant : carried.grant ≡ Some (record { revision = revision; by = member.id; leased = leased })
  answers : IsAnswerTo (past_at_sending past.asked carried) facts.sent member.id.number incarnation sequence
      request leased
  flying : past.flight i
      ≡ grant_in_flight_of (past_at_sending past.asked carried) member.id.number incarnation sequence
      (past.asked request)

grant-in : (past : Past) (facts : Facts) (i : ℕ) (carried : InFlightFacts) (member : Member)
    (incarnation sequence request : ℕ) (leased : Bool) → IsSameFlight past facts
    → in_flight facts.flight i ≡ Some carried
    → carried.message ≡ record {
      from = ends.Store;
      to = ends.Member member;
      incarnation = incarnation;
      sequence = sequence;
      body = bodies.Granted request leased;
    }
    → IsGrant past facts i carried member incarnation sequence request leased
grant-in past facts i carried member incarnation sequence request leased same here is =
    let message : Message = record {
      from = ends.Store;
      to = ends.Member member;
      incarnation = incarnation;
      sequence = sequence;
      body = bodies.Granted request leased;
    } in
    let given = same.lease.grants i carried here in
    record {
      revision = given.0;
      grant = given.1 ∙ ap (λ (m : Message). grant_for m.body m.to given.0) is;
      answers =
          subst (λ (m : Message).
          Answers (past_at_sending past.asked carried) facts.sent m.from m.to m.incarnation m.sequence m.body)
          is (same.answers i carried here);
      flying = heard past facts i carried message same here is;
    }

lease-named : (p : Past) (request : SyncRequest) (m incarnation sequence : ℕ) → request.member ≡ m
    → request.incarnation ≡ incarnation → request.sequence ≡ sequence
    → lease_grant_of p request.member request.incarnation request.sequence ≡ lease_grant_of p m incarnation sequence
lease-named p request m incarnation sequence a b c =
    ap (λ (x : ℕ). lease_grant_of p x request.incarnation request.sequence) a
    ∙ ap (λ (x : ℕ). lease_grant_of p m x request.sequence) b ∙ ap (λ (x : ℕ). lease_grant_of p m incarnation x) c

created-tells : (p : Past) (request : SyncRequest) (aim : Aim) → is_creating aim ≡ true
    → request_grant_of p request aim ≡ lease_grant_of p request.member request.incarnation request.sequence
created-tells p request CreateLeader is = refl
created-tells p request ClaimSync is = absurd (both is)
created-tells p request (PublishStandbys standbys quorum) is = absurd (both is)

lease-tells : (p : Past) (m incarnation sequence : ℕ) (query : Query) → IsNamed m incarnation sequence query
    → is_leasing query ≡ true
    → grant_in_flight_of p m incarnation sequence query ≡ lease_grant_of p m incarnation sequence
lease-tells p m incarnation sequence LeaseQuery named is = refl
lease-tells p m incarnation sequence (CarryQuery by compared) named is = refl
lease-tells p m incarnation sequence (SyncQuery request) named is =
    created-tells p request request.aim is ∙ lease-named p request m incarnation sequence named.0 named.1.0 named.1.1
lease-tells p m incarnation sequence OtherQuery named is = absurd (both is)

pub heard-lease : (past : Past) (facts : Facts) (i : ℕ) (carried : InFlightFacts) (member : Member)
    (incarnation sequence request : ℕ) → IsSameFlight past facts → in_flight facts.flight i ≡ Some carried
    → carried.message ≡ record {
      from = ends.Store;
      to = ends.Member member;
      incarnation = incarnation;
      sequence = sequence;
      body = bodies.Granted request true;
    }
    → CarriesLease past i carried member incarnation sequence
heard-lease past facts i carried member incarnation sequence request same here is =
    let given = grant-in past facts i carried member incarnation sequence request true same here is in
    record {
      revision = given.revision;
      grant = given.grant;
      flying = given.flying
          ∙ lease-tells (past_at_sending past.asked carried) member.id.number incarnation sequence
          (past.asked request) given.answers.named given.answers.leasing
          ∙ ap (λ (r : ℕ). Some (LeaseGranted (record {
            member = member.id.number;
            incarnation = incarnation;
            sequence = sequence;
            revision = r;
            sync = sync_key_of (find key_cmp keys.Sync carried.snapshot);
          }))) (ap revision_of given.grant);
    }

-- the sync key that a claim or a write of it wrote, and what its grant tells
record TellsWrite (p : Past) (request : SyncRequest) (aim : Aim) : Type 0 where
  key : p.sync ≡ Some (sync_key_by request.member p.lease.revision aim)
  told : request_grant_of p request aim ≡ Some (SyncGranted (record {
    member = request.member;
    incarnation = request.incarnation;
    sequence = request.sequence;
    key = sync_key_by request.member p.lease.revision aim;
  }))

write-tells : (p : Past) (request : SyncRequest) (aim : Aim) → is_creating aim ≡ false
    → HasWritten p request aim → TellsWrite p request aim
write-tells p request ClaimSync is wrote =
    record { key = wrote; told = ap (λ (k : Option SyncKey). sync_grant_of k request) wrote }
write-tells p request (PublishStandbys standbys quorum) is wrote =
    record { key = wrote; told = ap (λ (k : Option SyncKey). sync_grant_of k request) wrote }
write-tells p request CreateLeader is wrote = absurd (both (sym is))

key-eq : (m n r v : ℕ) (aim : Aim) → m ≡ n → r ≡ v
    → ◌≡◌ {A = Option SyncKey} (Some (sync_key_by m r aim)) (Some (sync_key_by n v aim))
key-eq m n r v aim a b = ap (λ (x : ℕ). Some (sync_key_by x r aim)) a ∙ ap (λ (x : ℕ). Some (sync_key_by n x aim)) b

told-eq : (m n incarnation also sequence other : ℕ) (key : SyncKey) (k : SyncKey) → m ≡ n → incarnation ≡ also
    → sequence ≡ other → ◌≡◌ {A = Option SyncKey} (Some key) (Some k)
    → ◌≡◌ {A = Option Flying}
    (Some (SyncGranted (record { member = m; incarnation = incarnation; sequence = sequence; key = key })))
    (Some (SyncGranted (record { member = n; incarnation = also; sequence = other; key = k })))
told-eq m n incarnation also sequence other key k a b c d = cc

pub heard-write : (past : Past) (facts : Facts) (i : ℕ) (carried : InFlightFacts) (member : Member)
    (incarnation sequence request : ℕ) (leased : Bool) (asked : SyncRequest) → IsSameFlight past facts
    → in_flight facts.flight i ≡ Some carried
    → carried.message ≡ record {
      from = ends.Store;
      to = ends.Member member;
      incarnation = incarnation;
      sequence = sequence;
      body = bodies.Granted request leased;
    }
    → past.asked request ≡ SyncQuery asked → is_creating asked.aim ≡ false
    → CarriesWrite past i carried member incarnation sequence asked.aim
heard-write past facts i carried member incarnation sequence request leased asked same here is was creates =
    let given = grant-in past facts i carried member incarnation sequence request leased same here is in
    let p : Past = past_at_sending past.asked carried in
    let named : IsNamed member.id.number incarnation sequence (SyncQuery asked) =
    subst (λ (q : Query). IsNamed member.id.number incarnation sequence q) was given.answers.named in
    let wrote : IsWritten p (SyncQuery asked) = subst (λ (q : Query). IsWritten p q) was given.answers.written in
    let leasing : is_creating asked.aim ≡ leased = sym (ap is_leasing was) ∙ given.answers.leasing in
    let tells = write-tells p asked asked.aim creates wrote in
    let key = key-eq asked.member member.id.number p.lease.revision given.revision asked.aim named.0
    (ap revision_of given.grant) in
    record {
      revision = given.revision;
      grant = given.grant
          ∙ ap (λ (b : Bool). Some (record { revision = given.revision; by = member.id; leased = b }))
          (sym leasing ∙ creates);
      key = tells.key ∙ key;
      flying = given.flying
          ∙ ap (λ (q : Query). grant_in_flight_of p member.id.number incarnation sequence q) was ∙ tells.told
          ∙ told-eq asked.member member.id.number asked.incarnation incarnation asked.sequence sequence
          (sync_key_by asked.member p.lease.revision asked.aim)
          (sync_key_by member.id.number given.revision asked.aim) named.0 named.1.0 named.1.1 key;
    }

pub heard-other : (past : Past) (facts : Facts) (i : ℕ) (carried : InFlightFacts) (member : Member)
    (incarnation sequence request : ℕ) (leased : Bool) → IsSameFlight past facts
    → in_flight facts.flight i ≡ Some carried
    → carried.message ≡ record {
      from = ends.Store;
      to = ends.Member member;
      incarnation = incarnation;
      sequence = sequence;
      body = bodies.Granted request leased;
    }
    → past.asked request ≡ OtherQuery → past.flight i ≡ snapshot_in carried false false
heard-other past facts i carried member incarnation sequence request leased same here is was =
    (grant-in past facts i carried member incarnation sequence request leased same here is).flying
    ∙ ap
    (λ (q : Query). grant_in_flight_of (past_at_sending past.asked carried) member.id.number incarnation sequence q) was
