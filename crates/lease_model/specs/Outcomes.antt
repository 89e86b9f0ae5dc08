-- What the key store makes of a question.
use Rattle.std.specs.Prelude.{ℕ, ◌+◌, ◌==◌, ◌&&◌, Bool, true, false, Option, Some, None, max}
use Rattle.store_keys.specs.declared.txn.Expected.{Expected}
use Rattle.store_keys.specs.declared.txn.Expected.TheVariants.{Absent, Revision}
use Rattle.event_book.specs.Functions.{put_at}
use Rattle.lease_model.specs.Leases.{LeaderKey, LeaderSeen, FailsafeKey, Query, Create, Renew, Release, Write, Read, Question, Grant, Answer, Flying, Requested, Answered}
use Rattle.lease_model.specs.States.{State}

-- what a snapshot says of the leader key
abbrev pub seen_of : Option LeaderKey → Option LeaderSeen
seen_of None = None
seen_of (Some key) = Some (record { holder = key.holder; revision = key.revision })

-- the keys after a question, whether the answer has a snapshot, and the grant that it tells
pub record Outcome : Type 0 where
  pub leader : Option LeaderKey
  pub failsafe : Option FailsafeKey
  pub revision : ℕ
  pub snapshot : Bool
  pub grant : Option Grant

-- after a refusal the keys are as they were, and the answer has neither a snapshot nor a grant
abbrev pub refused_outcome : Option LeaderKey → Option FailsafeKey → ℕ → Outcome
refused_outcome leader failsafe revision =
    record { leader = leader; failsafe = failsafe; revision = revision; snapshot = false; grant = None }

-- the failsafe key is as a create expects it
abbrev pub is_as_read : Option Expected → Option FailsafeKey → Bool
is_as_read None key = true
is_as_read (Some Absent) None = true
is_as_read (Some Absent) (Some key) = false
is_as_read (Some (Revision revision)) None = false
is_as_read (Some (Revision revision)) (Some key) = key.revision == revision

-- a create where there is no leader key: granted, its sender holds the key under the next revision; or refused
abbrev pub create_if : Bool → ℕ → Option FailsafeKey → ℕ → ℕ → ℕ → ℕ → Outcome
create_if true clock failsafe revision by sent ttl = record {
  leader = Some (record { holder = by; revision = revision + 1; expiry = clock + ttl });
  failsafe = failsafe;
  revision = revision + 1;
  snapshot = true;
  grant = Some (record { revision = revision + 1; sent = sent; moment = clock; ttl = ttl; failsafe = failsafe });
}
create_if false clock failsafe revision by sent ttl = refused_outcome None failsafe revision

-- a create may compare the sync key too, which is no key of the lease:
-- it may be refused where the keys of the lease are as expected
abbrev pub create_on : Bool → ℕ → Option LeaderKey → Option FailsafeKey → ℕ → ℕ → ℕ → ℕ → Option Expected → Outcome
create_on granted clock None failsafe revision by sent ttl expected =
    create_if (is_as_read expected failsafe && granted) clock failsafe revision by sent ttl
create_on granted clock (Some key) failsafe revision by sent ttl expected = refused_outcome (Some key) failsafe revision

-- the failsafe key after a renewal of this revision that carries these members
abbrev pub failsafe_carried : ℕ → Option (ℕ → Bool) → Option FailsafeKey → Option FailsafeKey
failsafe_carried revision None failsafe = failsafe
failsafe_carried revision (Some members) failsafe = Some (record { revision = revision; members = members })

-- the lease never ends earlier than it did
abbrev pub renewed : ℕ → ℕ → ℕ → LeaderKey → LeaderKey
renewed clock revision ttl key =
    record { holder = key.holder; revision = revision; expiry = max key.expiry (clock + ttl) }

-- a renewal of a leader key that is there: where its compare holds, the lease is extended and its set written
abbrev pub renew_if : Bool → ℕ → LeaderKey → Option FailsafeKey → ℕ → ℕ → ℕ → Option (ℕ → Bool) → Outcome
renew_if true clock key failsafe revision sent ttl carried = record {
  leader = Some (renewed clock (revision + 1) ttl key);
  failsafe = failsafe_carried (revision + 1) carried failsafe;
  revision = revision + 1;
  snapshot = true;
  grant = Some (record {
    revision = revision + 1;
    sent = sent;
    moment = clock;
    ttl = ttl;
    failsafe = failsafe_carried (revision + 1) carried failsafe;
  });
}
renew_if false clock key failsafe revision sent ttl carried = refused_outcome (Some key) failsafe revision

-- a renewal is granted where the leader key is there and has the revision that it compares
abbrev pub renew_on : ℕ → Option LeaderKey → Option FailsafeKey → ℕ → ℕ → ℕ → ℕ → Option (ℕ → Bool) → Outcome
renew_on clock None failsafe revision compared sent ttl carried = refused_outcome None failsafe revision
renew_on clock (Some key) failsafe revision compared sent ttl carried =
    renew_if (key.revision == compared) clock key failsafe revision sent ttl carried

-- a release of a leader key that is there: where its compare holds, the key is gone
abbrev pub release_if : Bool → LeaderKey → Option FailsafeKey → ℕ → Outcome
release_if true key failsafe revision =
    record { leader = None; failsafe = failsafe; revision = revision + 1; snapshot = true; grant = None }
release_if false key failsafe revision = refused_outcome (Some key) failsafe revision

-- a release is granted where the leader key is there and has the revision that it compares
abbrev pub release_on : Option LeaderKey → Option FailsafeKey → ℕ → ℕ → Outcome
release_on None failsafe revision compared = refused_outcome None failsafe revision
release_on (Some key) failsafe revision compared = release_if (key.revision == compared) key failsafe revision

-- what another write compares is no key of the lease, so the keys of the lease don't tell whether it is granted
abbrev pub write_if : Bool → Option LeaderKey → Option FailsafeKey → ℕ → Outcome
write_if true leader failsafe revision =
    record { leader = leader; failsafe = failsafe; revision = revision + 1; snapshot = true; grant = None }
write_if false leader failsafe revision = refused_outcome leader failsafe revision

-- what a question of this member, sent at this moment, leaves; a test says whether it was granted, where
-- the keys of the lease don't tell that: of a create that compares the sync key, and of another write
abbrev pub outcome_of : ℕ → Option LeaderKey → Option FailsafeKey → ℕ → ℕ → ℕ → Bool → Query → Outcome
outcome_of clock leader failsafe revision by sent granted (Create ttl expected) =
    create_on granted clock leader failsafe revision by sent ttl expected
outcome_of clock leader failsafe revision by sent granted (Renew compared ttl carried) =
    renew_on clock leader failsafe revision compared sent ttl carried
outcome_of clock leader failsafe revision by sent granted (Release compared) =
    release_on leader failsafe revision compared
outcome_of clock leader failsafe revision by sent granted Write = write_if granted leader failsafe revision
outcome_of clock leader failsafe revision by sent granted Read =
    record { leader = leader; failsafe = failsafe; revision = revision; snapshot = true; grant = None }

-- what an answer says of a key: what is there, if the answer has a snapshot, and else nothing
abbrev pub shown_if : {A : Type 0} → Bool → Option A → Option A
shown_if true told = told
shown_if false told = None

-- the answer that tells the sender of this question what came of it
abbrev pub outcome_answer : Question → Outcome → Answer
outcome_answer request outcome = record {
  member = request.member;
  incarnation = request.incarnation;
  sequence = request.sequence;
  leader = shown_if outcome.snapshot (seen_of outcome.leader);
  failsafe = shown_if outcome.snapshot outcome.failsafe;
  grant = outcome.grant;
}

-- the state once a question is decided: the keys are as it left them, and its answer is in flight in its place
abbrev pub with_outcome : State → ℕ → ℕ → Question → Outcome → State
with_outcome s number answer request outcome = record s {
  leader = outcome.leader;
  failsafe = outcome.failsafe;
  revision = outcome.revision;
  flight = put_at (put_at s.flight number None) answer (Some (Answered (outcome_answer request outcome)));
}

-- the state once this message comes to the key store, which decides only where it is a question
abbrev pub with_question : State → ℕ → ℕ → Bool → Option Flying → State
with_question s number answer granted (Some (Requested request)) =
    with_outcome s number answer request
    (outcome_of s.clock s.leader s.failsafe s.revision request.member request.sent granted request.query)
with_question s number answer granted _ = s

-- the key store decides on the question that this message carries, and answers by another message
abbrev pub delivered : State → ℕ → ℕ → Bool → State
delivered s number answer granted = with_question s number answer granted (s.flight number)
