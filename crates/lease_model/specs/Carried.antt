-- What holds between two actions of an allowed run.
use Rattle.std.specs.Prelude.{ℕ, ◌≡◌, ◌⊎◌, ◌+◌, ◌≤◌, ◌<◌, Bool, true, false, List, Option, Some, None}
use Rattle.store_keys.specs.declared.txn.Expected.TheVariants.{Absent, Revision}
use Rattle.lease_model.specs.Leases.{LeaderKey, LeaderSeen, FailsafeKey, Query, Create, Renew, Release, Write, Read, Question, Grant, Answer, FailsafeRequest, Acknowledgement, Flying, Requested, Answered, FailsafeRequested, Acknowledged}
use Rattle.event_book.specs.Premises.{Taking, IsTaken}
use Rattle.lease_model.specs.States.{FailsafeCheck, Agent, Machine, State, is_ready, Acts}
use Rattle.lease_model.specs.Inputs.{Waits}

-- the key is m's at least until then
pub record Covers (key : Option LeaderKey) (m until : ℕ) : Type 0 where
  pub found_key : LeaderKey
  pub key_is : key ≡ Some found_key
  pub holder : found_key.holder ≡ m
  pub lasts : until ≤ found_key.expiry

-- of each other member that the failsafe key lists, now or by a renewal in flight that may be granted, this holds
pub record Spans (failsafe_key : Option FailsafeKey) (key : Option LeaderKey) (flight : ℕ → Option Flying)
    (m : ℕ) (X : ℕ → Type 0) : Type 0 where
  pub listed : (f : FailsafeKey) → failsafe_key ≡ Some f → (p : ℕ) → f.members p ≡ true → (p ≡ m → ⊥) → X p
  pub coming : (j : ℕ) (q : Question) (compared ttl : ℕ) (set : ℕ → Bool) (k : LeaderKey)
      → flight j ≡ Some (Requested q) → q.query ≡ Renew compared ttl (Some set) → key ≡ Some k
      → k.revision ≡ compared → (p : ℕ) → set p ≡ true → (p ≡ m → ⊥) → X p

-- all that could take the key have a hold at least until then, its present owner included
pub record HoldsCover (failsafe_key : Option FailsafeKey) (key : Option LeaderKey)
    (flight : ℕ → Option Flying) (members : ℕ → Machine) (m until : ℕ) : Type 0 where
  pub f : FailsafeKey
  pub is : failsafe_key ≡ Some f
  pub owner : (k : LeaderKey) → key ≡ Some k → (k.holder ≡ m) ⊎ (f.members k.holder ≡ true)
  pub spans : Spans failsafe_key key flight m (λ p. until ≤ (members p).hold)

-- a deadline ahead, and until then the key or the holds
pub record IsGuarded (clock : ℕ) (failsafe_key : Option FailsafeKey) (key : Option LeaderKey)
    (flight : ℕ → Option Flying) (members : ℕ → Machine) (m : ℕ) (deadline : Option ℕ) (basis : Bool) : Type 0 where
  pub until : ℕ
  pub is : deadline ≡ Some until
  pub later : clock < until
  pub cover : ((basis ≡ false) × Covers key m until)
      ⊎ ((basis ≡ true) × HoldsCover failsafe_key key flight members m until)

-- the failsafe key is there
pub record IsThere (failsafe_key : Option FailsafeKey) : Type 0 where
  pub f : FailsafeKey
  pub is : failsafe_key ≡ Some f

-- a failsafe key that was read: it is there still, and with this revision it lists the same
pub record IsFailsafeVouched (failsafe_key : Option FailsafeKey) (greatest : ℕ) (z : FailsafeKey) : Type 0 where
  pub bound : z.revision ≤ greatest
  pub same : (f : FailsafeKey) → failsafe_key ≡ Some f → f.revision ≡ z.revision → (p : ℕ) → f.members p ≡ z.members p
  pub there : IsThere failsafe_key

-- with this revision the failsafe key lists m
pub record IsListed (failsafe_key : Option FailsafeKey) (greatest m r : ℕ) : Type 0 where
  pub bound : r ≤ greatest
  pub lists : (f : FailsafeKey) → failsafe_key ≡ Some f → f.revision ≡ r → f.members m ≡ true

-- while a renewal that carries a set may be granted, nobody acts but its sender
abbrev pub ActsAlone : Option LeaderKey → (ℕ → Machine) → ℕ → ℕ → Type 0
ActsAlone key members m r = (k : LeaderKey) → key ≡ Some k → k.revision ≡ r → (n : ℕ) → Acts (members n) → n ≡ m

-- the revision was given, and a key that has it is m's
pub record IsVouched (key : Option LeaderKey) (greatest m r : ℕ) : Type 0 where
  pub bound : r ≤ greatest
  pub owner : (k : LeaderKey) → key ≡ Some k → k.revision ≡ r → k.holder ≡ m

-- a release of the present revision is of a member that rests
abbrev pub IsAtRest : Option LeaderKey → Machine → ℕ → Type 0
IsAtRest key machine r = (k : LeaderKey) → key ≡ Some k → k.revision ≡ r → Acts machine → ⊥

-- what holds of a question in flight, with failsafe mode on or off
abbrev pub IsQueryKept : Bool → Option LeaderKey → Option FailsafeKey → ℕ → (ℕ → Machine) → ℕ → Query → Type 0
IsQueryKept mode key failsafe_key greatest members m (Create ttl None) = mode ≡ false
IsQueryKept mode key failsafe_key greatest members m (Create ttl (Some Absent)) = Unit {0}
IsQueryKept mode key failsafe_key greatest members m (Create ttl (Some (Revision r))) =
    IsListed failsafe_key greatest m r
IsQueryKept mode key failsafe_key greatest members m (Renew compared ttl None) = IsVouched key greatest m compared
IsQueryKept mode key failsafe_key greatest members m (Renew compared ttl (Some set)) =
    IsVouched key greatest m compared × ActsAlone key members m compared × (mode ≡ true)
IsQueryKept mode key failsafe_key greatest members m (Release compared) =
    IsVouched key greatest m compared × IsAtRest key (members m) compared
IsQueryKept mode key failsafe_key greatest members m Write = Unit {0}
IsQueryKept mode key failsafe_key greatest members m Read = Unit {0}

-- numbers and incarnations were given before
pub record IsNumbered (machine : Machine) (incarnation sequence : ℕ) : Type 0 where
  pub run_old : incarnation ≤ machine.runs
  pub sequence_old : (agent : Agent) → machine.agent ≡ Some agent → agent.incarnation ≡ incarnation
      → sequence ≤ agent.last

-- a question in flight
pub record IsQuestionKept (mode : Bool) (clock : ℕ) (key : Option LeaderKey)
    (failsafe_key : Option FailsafeKey) (greatest : ℕ) (members : ℕ → Machine) (q : Question) : Type 0 where
  pub numbered : IsNumbered (members q.member) q.incarnation q.sequence
  pub sent : q.sent ≤ clock
  pub query : IsQueryKept mode key failsafe_key greatest members q.member q.query

-- what is waited for that a failsafe request or its acknowledgement belongs to
pub record AwaitsIt (machine : Machine) (incarnation sequence : ℕ) (b : FailsafeCheck) : Type 0 where
  pub agent : Agent
  pub is : machine.agent ≡ Some agent
  pub run_is : agent.incarnation ≡ incarnation
  pub failsafe_check : agent.failsafe_check ≡ Some b
  pub sequence_is : b.sequence ≡ sequence

-- a failsafe request in flight says the span and the moment of what is waited for
pub record IsFailsafeRequestKept (clock : ℕ) (machine : Machine) (q : FailsafeRequest) : Type 0 where
  pub numbered : IsNumbered machine q.incarnation q.sequence
  pub sent : q.sent ≤ clock
  pub matches : (b : FailsafeCheck) → AwaitsIt machine q.incarnation q.sequence b → (q.ttl ≡ b.ttl) × (q.sent ≡ b.sent)

-- a hold that was taken for what is waited for lasts for its span from then on
pub record IsTakingKept (machine : Machine) (hold : ℕ) (t : Taking) : Type 0 where
  pub numbered : IsNumbered machine t.incarnation t.sequence
  pub matches : (b : FailsafeCheck) → AwaitsIt machine t.incarnation t.sequence b
      → (t.moment + b.ttl ≤ hold) × (b.sent ≤ t.moment)

-- p took a hold for this failsafe request of m
pub record HasTaken (taken : List Taking) (p m incarnation sequence : ℕ) : Type 0 where
  pub moment : ℕ
  pub is : IsTaken taken (record { by = p; from = m; incarnation = incarnation; sequence = sequence; moment = moment })

-- while acknowledgements are waited for: the members that were asked
-- span the failsafe key, and who said yes took a hold
pub record IsFailsafeCheckKept (failsafe_key : Option FailsafeKey) (key : Option LeaderKey) (flight : ℕ → Option Flying)
    (taken : List Taking) (m : ℕ) (machine : Machine) (agent : Agent) (b : FailsafeCheck) : Type 0 where
  pub counted : b.sequence ≤ agent.last
  pub there : IsThere failsafe_key
  pub spans : Acts machine → Spans failsafe_key key flight m (λ p. b.members p ≡ true)
  pub yes : (p : ℕ) → b.yes p ≡ true → HasTaken taken p m agent.incarnation b.sequence

-- an answer in flight
pub record IsAnswerKept (key : Option LeaderKey) (failsafe_key : Option FailsafeKey) (greatest : ℕ)
    (machine : Machine) (a : Answer) : Type 0 where
  pub numbered : IsNumbered machine a.incarnation a.sequence
  pub seen : (z : LeaderSeen) → a.leader ≡ Some z → IsVouched key greatest z.holder z.revision
  pub grant : (g : Grant) → a.grant ≡ Some g → IsVouched key greatest a.member g.revision
  pub order : (g : Grant) → a.grant ≡ Some g → g.sent ≤ g.moment
  pub listed : (f : FailsafeKey) → a.failsafe ≡ Some f → IsFailsafeVouched failsafe_key greatest f

-- what an agent keeps of keys
pub record IsAgentKept (key : Option LeaderKey) (failsafe_key : Option FailsafeKey) (greatest m runs : ℕ)
    (agent : Agent) : Type 0 where
  pub incarnation : agent.incarnation ≤ runs
  pub lease : (r : ℕ) → agent.lease ≡ Some r → IsVouched key greatest m r
  pub seen : (z : LeaderSeen) → agent.leader ≡ Some z → IsVouched key greatest z.holder z.revision
  pub failsafe : (f : FailsafeKey) → agent.failsafe ≡ Some f → IsFailsafeVouched failsafe_key greatest f
  pub informed : agent.informed ≡ true → IsThere failsafe_key

-- where a grant isn't over: the key is m's by this very grant, and no request in flight could renew it
pub record IsPresent (key : Option LeaderKey) (failsafe_key : Option FailsafeKey) (flight : ℕ → Option Flying)
    (m : ℕ) (grant : Grant) : Type 0 where
  pub found_key : LeaderKey
  pub key_is : key ≡ Some found_key
  pub revision : found_key.revision ≡ grant.revision
  pub holder : found_key.holder ≡ m
  pub lasts : grant.moment + grant.ttl ≤ found_key.expiry
  pub alone : (j : ℕ) (q : Question) (compared ttl : ℕ) (carried : Option (ℕ → Bool))
      → flight j ≡ Some (Requested q) → q.query ≡ Renew compared ttl carried → compared ≡ grant.revision → ⊥
  pub listed : failsafe_key ≡ grant.failsafe

-- a grant that is waited for is over, or gave the key that is there
abbrev pub IsFresh : ℕ → Option LeaderKey → Option FailsafeKey → (ℕ → Option Flying) → ℕ → Grant → Type 0
IsFresh clock key failsafe_key flight m grant =
    (grant.moment + grant.ttl ≤ clock) ⊎ IsPresent key failsafe_key flight m grant

-- a revision that an answer in flight hands out is nowhere else: in no release, no lease value, no other answer
pub record IsToken (flight : ℕ → Option Flying) (members : ℕ → Machine) (i r : ℕ) : Type 0 where
  pub released : (j : ℕ) (q : Question) → flight j ≡ Some (Requested q) → q.query ≡ Release r → ⊥
  pub valued : (m : ℕ) (agent : Agent) → (members m).agent ≡ Some agent → agent.lease ≡ Some r → ⊥
  pub single : (j : ℕ) (b : Answer) (h : Grant) → flight j ≡ Some (Answered b) → b.grant ≡ Some h
      → h.revision ≡ r → j ≡ i

-- what the claim of one writer rests on
pub record IsSound (s : State) : Type 0 where
  -- who acts has a deadline ahead, and the key or the holds of others until then
  pub guarded : (m : ℕ) → Acts (s.members m)
      → IsGuarded s.clock s.failsafe s.leader s.flight s.members m (s.members m).deadline (s.members m).by_failsafe
  -- two that act are one
  pub sole : (m n : ℕ) → Acts (s.members m) → Acts (s.members n) → m ≡ n
  pub parted : (m : ℕ) → is_ready (s.members m).agent ≡ true → (s.members m).live ≡ false
  pub ready_by_grant : (m : ℕ) → is_ready (s.members m).agent ≡ true → (s.members m).by_failsafe ≡ false
  -- without failsafe mode there is no failsafe key
  pub off : s.declared.failsafe ≡ false → s.failsafe ≡ None
  -- no key has a revision above the last granted one
  pub bounded : (k : LeaderKey) → s.leader ≡ Some k → k.revision ≤ s.revision
  pub failsafe_bounded : (f : FailsafeKey) → s.failsafe ≡ Some f → f.revision ≤ s.revision
  -- messages in flight, holds that were taken, and agents
  pub asked : (i : ℕ) (q : Question) → s.flight i ≡ Some (Requested q)
      → IsQuestionKept s.declared.failsafe s.clock s.leader s.failsafe s.revision s.members q
  pub said : (i : ℕ) (a : Answer) → s.flight i ≡ Some (Answered a)
      → IsAnswerKept s.leader s.failsafe s.revision (s.members a.member) a
  pub failsafe_requests : (i : ℕ) (q : FailsafeRequest) → s.flight i ≡ Some (FailsafeRequested q)
      → IsFailsafeRequestKept s.clock (s.members q.member) q
  pub yeses : (i : ℕ) (h : Acknowledgement) → s.flight i ≡ Some (Acknowledged h)
      → HasTaken s.taken h.by h.member h.incarnation h.sequence
  pub taken : (t : Taking) → IsTaken s.taken t → IsTakingKept (s.members t.from) (s.members t.by).hold t
  pub kept : (m : ℕ) (agent : Agent) → (s.members m).agent ≡ Some agent
      → IsAgentKept s.leader s.failsafe s.revision m (s.members m).runs agent
  -- while a member acts whose agent is Ready or Leader, the members that it knows span the failsafe key
  pub spans : (m : ℕ) (agent : Agent) → (s.members m).agent ≡ Some agent → Acts (s.members m)
      → agent.leads ≡ true → Spans s.failsafe s.leader s.flight m (λ p. agent.known p ≡ true)
  pub failsafe_check : (m : ℕ) (agent : Agent) (b : FailsafeCheck) → (s.members m).agent ≡ Some agent
      → agent.failsafe_check ≡ Some b → IsFailsafeCheckKept s.failsafe s.leader s.flight s.taken m (s.members m) agent b
  -- grants in flight
  pub fresh : (i : ℕ) (a : Answer) (grant : Grant) → s.flight i ≡ Some (Answered a) → a.grant ≡ Some grant
      → Waits (s.members a.member) a → IsFresh s.clock s.leader s.failsafe s.flight a.member grant
  pub tokens : (i : ℕ) (a : Answer) (grant : Grant) → s.flight i ≡ Some (Answered a) → a.grant ≡ Some grant
      → IsToken s.flight s.members i grant.revision

-- what is carried from action to action: that, and who accepts writes by the book is live
pub record IsCarried (s : State) : Type 0 where
  pub sound : IsSound s
  pub lives : (n : ℕ) → s.writes n ≡ true → (s.members n).live ≡ true
