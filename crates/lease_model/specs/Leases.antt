-- The keys of the lease, and the messages about it.
use Rattle.std.specs.Prelude.{ℕ, Bool, Option}
use Rattle.store_keys.specs.declared.txn.Expected.{Expected}

-- the leader key that is there
pub record LeaderKey : Type 0 where
  pub holder : ℕ
  pub revision : ℕ
  pub expiry : ℕ

-- what a snapshot says of the leader key that is there
pub record LeaderSeen : Type 0 where
  pub holder : ℕ
  pub revision : ℕ

-- the failsafe key that is there. It has no expiry, and nobody deletes it
pub record FailsafeKey : Type 0 where
  pub revision : ℕ
  pub members : ℕ → Bool

-- what the lease reads of a question to the key store: a create with what it expects of the failsafe key, a
-- renewal with the set of members that it writes into the failsafe key, a release, another write, or a read
pub data Query : Type 0 where
  Create : (ttl : ℕ) → (expected : Option Expected) → Query
  Renew : (revision : ℕ) → (ttl : ℕ) → (carried : Option (ℕ → Bool)) → Query
  Release : (revision : ℕ) → Query
  Write : Query
  Read : Query

-- a question to the key store: its sender, the sender's incarnation,
-- its number in that one, and the moment of its sending
pub record Question : Type 0 where
  pub member : ℕ
  pub incarnation : ℕ
  pub sequence : ℕ
  pub sent : ℕ
  pub query : Query

-- the grant of a create or a renewal: its revision, when it was asked
-- for and granted, for how long, and the failsafe key then
pub record Grant : Type 0 where
  pub revision : ℕ
  pub sent : ℕ
  pub moment : ℕ
  pub ttl : ℕ
  pub failsafe : Option FailsafeKey

-- the key store's answer to a question of this member, with the keys of its snapshot
pub record Answer : Type 0 where
  pub member : ℕ
  pub incarnation : ℕ
  pub sequence : ℕ
  pub leader : Option LeaderSeen
  pub failsafe : Option FailsafeKey
  pub grant : Option Grant

-- a failsafe request of this member
pub record FailsafeRequest : Type 0 where
  pub member : ℕ
  pub incarnation : ℕ
  pub sequence : ℕ
  pub ttl : ℕ
  pub sent : ℕ

-- an acknowledgement by another member of a failsafe request of this member
pub record Acknowledgement : Type 0 where
  pub member : ℕ
  pub incarnation : ℕ
  pub sequence : ℕ
  pub by : ℕ

-- a message in flight
pub data Flying : Type 0 where
  Requested : (request : Question) → Flying
  Answered : (answer : Answer) → Flying
  FailsafeRequested : (failsafe_request : FailsafeRequest) → Flying
  Acknowledged : (acknowledgement : Acknowledgement) → Flying
