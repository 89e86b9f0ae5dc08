-- What overlap comes to, in sets of members, and who wins.
use Rattle.std.specs.Prelude.{ℕ, ◌≡◌, ◌≤◌, ◌<◌, ◌⊎◌, Contains, List, true, false}
use Rattle.std.specs.Int.{bit_at}
use Rattle.pat_base.specs.declared.member_set.MemberSet.{MemberSet}
use Rattle.pat_base.specs.declared.peer_answer.PeerAnswer.{PeerAnswer}
use Rattle.store_keys.specs.declared.value.SyncKey.{SyncKey}
use Rattle.leader_race.specs.declared.racer.Racer.{Racer}
use Rattle.leader_race.specs.Peers.{is_below, is_compared}
use Rattle.sync_state.specs.Laws.{IsWithin}
use Rattle.quorum_commit.specs.declared.quorums.Need.{Need}
use Rattle.quorum_commit.specs.declared.quorums.Quorum.{Quorum}
use Rattle.quorum_commit.specs.declared.steps.Aim.{Aim}
use Rattle.quorum_commit.specs.declared.steps.QuorumPlan.{QuorumPlan}
use Rattle.quorum_commit.specs.declared.steps.QuorumPlan.TheVariants as plans
use Rattle.quorum_commit.specs.Quorums.{may_publish, overlap, size}
use Rattle.quorum_commit.specs.Race.{compared}

-- the member of this number is in the set
abbrev pub IsIn : ℕ → MemberSet → Type 0
IsIn k set = bit_at set.bits k ≡ 1

-- some member is in both sets
pub record Share (one other : MemberSet) : Type 0 where
  pub member : ℕ
  pub first : IsIn member one
  pub second : IsIn member other

-- these standbys are more than may lack a commit: who takes part in a race that is won, the winner among them
pub record Answers (key : Quorum) (members : MemberSet) : Type 0 where
  pub standbys : IsWithin members key.standbys
  pub enough : key.number < size members

-- these members are as many as commits wait for
pub record Acknowledges (need : Need) (members : MemberSet) : Type 0 where
  pub needed : IsWithin members need.of
  pub enough : need.number ≤ size members

-- whoever answers in a race that is won, and whoever confirms a commit that is acknowledged, have a member in common
abbrev pub Meet : Quorum → Need → Type 0
Meet key need = (answering confirming : MemberSet) → Answers key answering → Acknowledges need confirming
    → Share answering confirming

-- of a key's standbys at most so many as its number aren't among the members that have something: those that are spared
pub record FewLack (key : Quorum) (having : MemberSet) : Type 0 where
  pub spared : MemberSet
  pub few : size spared ≤ key.number
  pub others : (k : ℕ) → IsIn k key.standbys → IsIn k spared ⊎ IsIn k having

-- as many as commits wait for are among the members that have something
pub record EnoughHave (need : Need) (having : MemberSet) : Type 0 where
  pub members : MemberSet
  pub acknowledges : Acknowledges need members
  pub have : IsWithin members having

-- nobody that the member was compared with has a log that ends further on,
-- and as many were compared as may lack an acknowledged commit
pub record WinsAsStandby (racer : Racer) (sync : SyncKey) (answers : List PeerAnswer) : Type 0 where
  pub not_behind : (answer : PeerAnswer) → Contains answers answer → is_compared racer answer ≡ true
      → is_below racer.end answer.end ≡ false
  pub enough : sync.quorum ≤ size (compared racer answers)

-- what is published may be, by what the leader has; what is required overlaps what is published
abbrev pub IsLawfulPlan : Aim → QuorumPlan → Type 0
IsLawfulPlan aim plans.Keep = Unit {0}
IsLawfulPlan aim plans.SwitchOff = Unit {0}
IsLawfulPlan aim plans.Mark = Unit {0}
IsLawfulPlan aim (plans.Publish next) = may_publish aim.key next aim.need aim.confirmed ≡ true
IsLawfulPlan aim (plans.Require next) = overlap aim.key next ≡ true
