-- What an agent hears, by what flies to it and what it is told of failsafe mode.
use Rattle.std.specs.Prelude.{ℕ, ◌≡◌, ◌<◌, Bool, List, Option, Some, slice_get}
use Rattle.pat_base.specs.declared.member_id.MemberId.{MemberId}
use Rattle.event_book.specs.declared.member.Member.{Member}
use Rattle.agent_model.specs.declared.heard.Heard.{Heard}
use Rattle.agent_sending.specs.Asking.{HearsFailsafe}
use Rattle.agent_lease_law.specs.Lawful.{request_heard}
use Rattle.agent_sending.specs.Modes.{HearsMode}
use Rattle.cluster_model.specs.declared.heard_message.HeardMessage.{HeardMessage}
use Rattle.lease_model.specs.Leases.{Flying}

-- the message that is heard, if one of this number is, is this failsafe request of one
-- of these members: it comes of the incarnation that asks, and its number counts from 1
pub record IsRequestHeard (members : List Member) (flight : ℕ → Option Flying) (number : Option ℕ)
    (message : HeardMessage) (from : MemberId) (run sequence : ℕ) : Type 0 where
  pub peer : Member
  pub there : slice_get members from.number ≡ Some peer
  pub incarnation : message.incarnation ≡ run
  pub counted : 0 < sequence
  pub ttl : ℕ
  pub sent : ℕ
  pub is : request_heard flight number
      ≡ Some (record { member = from.number; incarnation = run; sequence = sequence; ttl = ttl; sent = sent })

-- the agent of one of these members hears: a snapshot, or a configuration that is
-- asked for, has failsafe mode so, and a failsafe request is the message that is heard
pub record IsHeardWell (mode : Bool) (members : List Member) (flight : ℕ → Option Flying) (member : Member)
    (heard : Heard) (number : Option ℕ) (message : HeardMessage) : Type 0 where
  pub stands : slice_get members member.id.number ≡ Some member
  pub told : HearsMode mode heard
  pub asked : (from : MemberId) (run sequence : ℕ) → HearsFailsafe heard from run sequence
      → IsRequestHeard members flight number message from run sequence
