-- Which inputs of an agent are lawful, and which are in time.
use Rattle.std.specs.Prelude.{ℕ, ◌≡◌, ◌⊎◌, ◌+◌, ◌-◌, ◌/◌, ◌≤◌, ◌<◌, Bool, true, false, Option, Some, None}
use Rattle.store_keys.specs.declared.txn.Expected.{Expected}
use Rattle.store_keys.specs.declared.txn.Expected.TheVariants.{Absent, Revision}
use Rattle.lease_model.specs.Leases.{LeaderSeen, FailsafeKey, Query, Create, Renew, Release, Write, Read, Question, Grant, Answer, FailsafeRequest, Acknowledgement, Flying, Requested, Answered, FailsafeRequested, Acknowledged}
use Rattle.event_book.specs.Premises.{IsTaken, IsOnTime}
use Rattle.lease_model.specs.States.{FailsafeCheck, Agent, Machine, State, is_ready, Acts}

-- one input of an agent: the message that it hears, if one; whether it arms or feeds the watchdog;
-- the failsafe request that it acknowledges; its machine and the messages in flight after it
pub record AgentInput : Type 0 where
  pub heard : Option ℕ
  pub feeds : Bool
  pub takes : Option FailsafeRequest
  pub machine : Machine
  pub flight : ℕ → Option Flying

-- the answer is to the question that its agent waits for
pub record Waits (machine : Machine) (answer : Answer) : Type 0 where
  pub agent : Agent
  pub is : machine.agent ≡ Some agent
  pub incarnation : agent.incarnation ≡ answer.incarnation
  pub sequence : agent.waits ≡ Some answer.sequence

-- this member hears the grant of the create or the renewal that it waited for
pub record HeardGrant (s : State) (m : ℕ) (heard : Option ℕ) (grant : Grant) : Type 0 where
  pub number : ℕ
  pub answer : Answer
  pub heard_is : heard ≡ Some number
  pub is : s.flight number ≡ Some (Answered answer)
  pub member : answer.member ≡ m
  pub grant_is : answer.grant ≡ Some grant
  pub waited : Waits (s.members answer.member) answer

-- it hears an answer with this leader key in its snapshot
pub record HeardLeader (s : State) (heard : Option ℕ) (seen : LeaderSeen) : Type 0 where
  pub number : ℕ
  pub answer : Answer
  pub heard_is : heard ≡ Some number
  pub is : s.flight number ≡ Some (Answered answer)
  pub seen_is : answer.leader ≡ Some seen

-- it hears an answer with this failsafe key in its snapshot
pub record HeardFailsafe (s : State) (heard : Option ℕ) (key : FailsafeKey) : Type 0 where
  pub number : ℕ
  pub answer : Answer
  pub heard_is : heard ≡ Some number
  pub is : s.flight number ≡ Some (Answered answer)
  pub key_is : answer.failsafe ≡ Some key

-- it hears the acknowledgement of p to its failsafe request of this number
pub record HeardYes (s : State) (m incarnation sequence p : ℕ) : Type 0 where
  pub number : ℕ
  pub said : Acknowledgement
  pub is : s.flight number ≡ Some (Acknowledged said)
  pub member : said.member ≡ m
  pub run_is : said.incarnation ≡ incarnation
  pub sequence_is : said.sequence ≡ sequence
  pub by : said.by ≡ p

-- the deadline on a lease of this span that was asked for at that moment: now plus the span less the margin;
-- without a margin half the span, and only where no more than that has passed since it was asked for.
-- It forbids a deadline behind the end of the lease: a is granted the key at tick
-- 0 until 300 and sets 301; b creates the key at 300 and begins while a writes on
abbrev pub IsDeadline : Option ℕ → ℕ → ℕ → ℕ → ℕ → Type 0
IsDeadline (Some margin) now ttl sent deadline = (margin < ttl) × (deadline ≡ now + (ttl - margin))
IsDeadline None now ttl sent deadline = (2 ≤ ttl) × (now ≤ sent + ttl / 2) × (deadline ≡ now + ttl / 2)

-- the deadline that a heard grant gives
pub record Fed (s : State) (m : ℕ) (heard : Option ℕ) : Type 0 where
  pub grant : Grant
  pub hears : HeardGrant s m heard grant
  pub deadline : ℕ
  pub deadline_is : IsDeadline (s.declared.margin m) s.clock grant.ttl grant.sent deadline

-- the watchdog is armed or fed by a heard grant
pub record FedKnown (s : State) (m : ℕ) (input : AgentInput) (agent : Agent) : Type 0 where
  pub fed : Fed s m input.heard
  -- the move says so, so that the grant must be heard in time
  pub feeds : input.feeds ≡ true
  -- the deadline counts as one by a grant, also where acknowledgements set the one before
  pub by_grant : input.machine.by_failsafe ≡ false
  -- the members of the grant's failsafe key are known. It forbids to ask fewer of them later: a asks b alone where
  -- the key lists b and c; b holds, c creates the key at its expiry and begins while a writes on by b's word
  pub known : (key : FailsafeKey) → fed.grant.failsafe ≡ Some key → (p : ℕ) → key.members p ≡ true
      → agent.known p ≡ true

-- a deadline by acknowledgements
pub record AllYes (s : State) (m : ℕ) (was : Agent) (deadline : ℕ) : Type 0 where
  pub failsafe_check : FailsafeCheck
  -- they are those that the agent waited for before the input
  pub is : was.failsafe_check ≡ Some failsafe_check
  -- it is ahead: with one that has passed its member writes until the next tick, and another begins before it
  pub later : s.clock < deadline
  -- it is that of the span which the failsafe request carried: a longer one
  -- lasts past the holds, and one of those members creates the key and begins
  pub deadline_is : IsDeadline (s.declared.margin m) s.clock failsafe_check.ttl failsafe_check.sent deadline
  -- all that were asked acknowledged, before or in this input. It forbids to stay primary
  -- with one silent: that one holds nothing, creates the key at its expiry and begins
  pub yes : (p : ℕ) → failsafe_check.members p ≡ true
      → (failsafe_check.yes p ≡ true) ⊎ HeardYes s m was.incarnation failsafe_check.sequence p

-- a deadline with nobody to ask
pub record NobodyAsked (s : State) (m : ℕ) (agent : Agent) (deadline : ℕ) : Type 0 where
  -- by a leader: what another agent knows need not have all members of the failsafe key
  pub leads : agent.leads ≡ true
  -- there is a failsafe key. It forbids to go on alone without one: b,
  -- which no key bars, creates the leader key at its expiry and begins
  pub informed : agent.informed ≡ true
  pub later : s.clock < deadline
  -- no other member is known: one that the failsafe key lists creates the leader key and begins
  pub alone : (p : ℕ) → agent.known p ≡ true → p ≡ m

-- what an input may do to the deadline of its watchdog. Where its member comes to act, that is for a
-- grant heard in it; else who acts after it acted before: b, without a lease, would begin beside a
pub data WatchdogMay (s : State) (m : ℕ) (input : AgentInput) (was agent : Agent) : Type 0 where
  Kept : (same : input.machine.deadline ≡ (s.members m).deadline)
      → (basis : input.machine.by_failsafe ≡ (s.members m).by_failsafe)
      → (acts : Acts input.machine → Acts (s.members m)) → WatchdogMay s m input was agent
  -- a deadline isn't removed from who acts: a server without one writes on while its lease ends and another begins
  Removed : (rests : Acts input.machine → ⊥) → WatchdogMay s m input was agent
  -- no acknowledgement is waited for after a grant: acknowledgements of members that an older failsafe key listed
  -- would set a deadline after a newer key lists one that never took a hold. And while its hold is active nobody
  -- comes to act: b acknowledges a, hears the grant of an older create, and begins while a writes by b's word
  SetByGrant : (fed : FedKnown s m input agent) → (is : input.machine.deadline ≡ Some fed.fed.deadline)
      → (none : agent.failsafe_check ≡ None)
      → (free : Acts input.machine → Acts (s.members m) ⊎ ((s.members m).hold ≤ s.clock))
      → WatchdogMay s m input was agent
  SetByFailsafe : (deadline : ℕ) → (feeds : input.feeds ≡ true)
      → (is : input.machine.deadline ≡ Some deadline) → (basis : input.machine.by_failsafe ≡ true)
      → (acts : Acts input.machine → Acts (s.members m)) → (all : AllYes s m was deadline)
      → WatchdogMay s m input was agent
  SetAlone : (deadline : ℕ) → (is : input.machine.deadline ≡ Some deadline) → (basis : input.machine.by_failsafe ≡ true)
      → (acts : Acts input.machine → Acts (s.members m)) → (nobody : NobodyAsked s m agent deadline)
      → WatchdogMay s m input was agent
  -- a Ready agent finds its server live, which only an operator's promotion brings
  Undone : (ready : is_ready (s.members m).agent ≡ true) → (live : (s.members m).live ≡ true)
      → WatchdogMay s m input was agent

-- the lease value of this revision was the agent's, or comes with the grant that it hears.
-- It forbids to release a key by another's revision: a leads at revision
-- 2; b, which read it, releases 2, creates, and begins while a writes on
abbrev pub Owns : State → ℕ → Option ℕ → Agent → ℕ → Type 0
Owns s m heard was revision =
    (was.lease ≡ Some revision) ⊎ ((grant : Grant) × (hears : HeardGrant s m heard grant) × (grant.revision ≡ revision))

-- a renewal may carry this set for the failsafe key
pub record MayCarry (s : State) (input : AgentInput) (agent : Agent) (carried : ℕ → Bool) : Type 0 where
  -- failsafe mode is on: else creates don't compare the failsafe key, and
  -- one that it doesn't list begins beside a leader that asked nobody
  pub mode : s.declared.failsafe ≡ true
  -- its server is live: else another may act by failsafe, and the set that it was covered by changes under it
  pub live : input.machine.live ≡ true
  -- a deadline was set by a grant. Over one by acknowledgements the set could
  -- take in c, which holds nothing, creates the key at its expiry and begins
  pub by_grant : (input.machine.deadline ≡ None) ⊎ (input.machine.by_failsafe ≡ false)
  -- no acknowledgement is waited for: the members of the set weren't asked
  pub failsafe_check : agent.failsafe_check ≡ None
  -- its members are known from then on, and asked later
  pub known : (p : ℕ) → carried p ≡ true → agent.known p ≡ true

-- what a renewal owes for a set that it carries; without one it owes nothing
abbrev pub MayCarryIf : State → AgentInput → Agent → Option (ℕ → Bool) → Type 0
MayCarryIf s input agent None = Unit {0}
MayCarryIf s input agent (Some carried) = MayCarry s input agent carried

-- a create may expect this of the failsafe key; with failsafe mode on it expects
-- something. It forbids that b, which the failsafe key doesn't list, takes the leader key
-- at its expiry and begins while a writes on by the word of the members that it lists
abbrev pub MayCreate : State → ℕ → Option ℕ → Agent → Option Expected → Type 0
MayCreate s m heard was None = s.declared.failsafe ≡ false
MayCreate s m heard was (Some Absent) = Unit {0}
-- the same of a create that expects a failsafe key: the key was read, and lists its sender
MayCreate s m heard was (Some (Revision revision)) =
    (key : FailsafeKey) × (read : (was.failsafe ≡ Some key) ⊎ HeardFailsafe s heard key)
    × (key.revision ≡ revision) × (key.members m ≡ true)

-- an agent may ask this of the key store.
-- A renewal compares the revision of a leader key that a snapshot showed as
-- its sender's: else b renews a's key, feeds its watchdog by it, and both act.
-- And it is waited for: else the grant of an earlier one is heard when
-- the key has a newer revision, which a release in flight deletes.
-- Who releases doesn't act after it: a, Ready, releases and stays Ready; b creates and begins, and a begins too
abbrev pub MayQuery : State → ℕ → AgentInput → Agent → Agent → ℕ → Query → Type 0
MayQuery s m input was agent sequence (Create ttl expected) = MayCreate s m input.heard was expected
MayQuery s m input was agent sequence (Renew compared ttl carried) =
    (agent.leader ≡ Some (record { holder = m; revision = compared })) × (agent.waits ≡ Some sequence)
    × MayCarryIf s input agent carried
MayQuery s m input was agent sequence (Release compared) = (Acts input.machine → ⊥) × Owns s m input.heard was compared
MayQuery s m input was agent sequence Write = Unit {0}
MayQuery s m input was agent sequence Read = Unit {0}

-- a question that an input may send
pub record MayAsk (s : State) (m : ℕ) (input : AgentInput) (was agent : Agent) (request : Question) : Type 0 where
  -- it says who asks, in which incarnation: else another waits for its answer, or takes it as its own
  pub member : request.member ≡ m
  pub incarnation : request.incarnation ≡ was.incarnation
  -- its number is above all before it in its incarnation, and counted: else
  -- the answer to an older question, granted long ago, is taken for that to it
  pub later : was.last < request.sequence
  pub counted : request.sequence ≤ agent.last
  -- the moment of its sending, from which half a lease is counted
  pub sent : request.sent ≡ s.clock
  pub query : MayQuery s m input was agent request.sequence request.query

-- the agent goes on waiting for the same acknowledgements: of the same request,
-- for the same span, of the same members, and it counts only those that it heard.
-- It forbids a deadline that is longer than the holds, or that one silent member didn't promise
pub record ContinuesCheck (s : State) (m : ℕ) (was : Agent) (failsafe_check : FailsafeCheck) : Type 0 where
  pub before : FailsafeCheck
  pub is : was.failsafe_check ≡ Some before
  pub sequence : failsafe_check.sequence ≡ before.sequence
  pub ttl : failsafe_check.ttl ≡ before.ttl
  pub sent : failsafe_check.sent ≡ before.sent
  pub members : failsafe_check.members ≡ before.members
  pub yes : (p : ℕ) → failsafe_check.yes p ≡ true
      → (before.yes p ≡ true) ⊎ HeardYes s m was.incarnation before.sequence p

-- the agent begins to wait for acknowledgements
pub record BeginsCheck (s : State) (m : ℕ) (was agent : Agent) (failsafe_check : FailsafeCheck) : Type 0 where
  -- under a new number that is counted: else acknowledgements of an older
  -- request, whose holds end earlier, are taken for those of this one
  pub later : was.last < failsafe_check.sequence
  pub counted : failsafe_check.sequence ≤ agent.last
  -- nobody has acknowledged yet
  pub yes : (p : ℕ) → failsafe_check.yes p ≡ false
  -- by a leader that was told of a failsafe key, as with nobody to ask
  pub leads : agent.leads ≡ true
  pub informed : agent.informed ≡ true
  -- of every other member that it knows: one that isn't asked holds nothing, creates the key at its expiry and begins
  pub all : (p : ℕ) → agent.known p ≡ true → (p ≡ m → ⊥) → failsafe_check.members p ≡ true

-- a failsafe request that an input may send
pub record MayRequestFailsafe (s : State) (m : ℕ) (was agent : Agent) (failsafe_request : FailsafeRequest) : Type
    0 where
  pub member : failsafe_request.member ≡ m
  pub incarnation : failsafe_request.incarnation ≡ was.incarnation
  pub sent : failsafe_request.sent ≡ s.clock
  -- it says the number and the span of what is waited for: a shorter
  -- span is a hold that ends before the deadline that it lets set
  pub failsafe_check : FailsafeCheck
  pub is : agent.failsafe_check ≡ Some failsafe_check
  pub sequence : failsafe_check.sequence ≡ failsafe_request.sequence
  pub ttl : failsafe_check.ttl ≡ failsafe_request.ttl
  pub check_sent : failsafe_check.sent ≡ failsafe_request.sent

-- an acknowledgement that an input may send: by its member, of the failsafe request for which it
-- takes a hold. It forbids a yes without a hold, after which its sender creates the key and begins
pub record MayAcknowledge (m : ℕ) (input : AgentInput) (said : Acknowledgement) : Type 0 where
  pub by : said.by ≡ m
  pub failsafe_request : FailsafeRequest
  pub takes : input.takes ≡ Some failsafe_request
  pub member : failsafe_request.member ≡ said.member
  pub incarnation : failsafe_request.incarnation ≡ said.incarnation
  pub sequence : failsafe_request.sequence ≡ said.sequence

-- a hold that an input may take: for a failsafe request that came, and for its span from now on. It forbids a
-- hold that ends a tick earlier, in which its member creates the key and begins before the other's watchdog acts
pub record MayTake (s : State) (input : AgentInput) (failsafe_request : FailsafeRequest) : Type 0 where
  pub number : ℕ
  pub is : s.flight number ≡ Some (FailsafeRequested failsafe_request)
  pub lasts : s.clock + failsafe_request.ttl ≤ input.machine.hold

-- an input only loses messages or sends lawful ones; it answers for no key store
abbrev pub MaySend : State → ℕ → AgentInput → Agent → Agent → Flying → Type 0
MaySend s m input was agent (Requested request) = MayAsk s m input was agent request
MaySend s m input was agent (Answered answer) = ⊥
MaySend s m input was agent (FailsafeRequested failsafe_request) = MayRequestFailsafe s m was agent failsafe_request
MaySend s m input was agent (Acknowledged said) = MayAcknowledge m input said

-- an input of the agent of this member is lawful
pub record IsLawful (s : State) (m : ℕ) (input : AgentInput) : Type 0 where
  -- the agent runs, and goes on in its incarnation; the numbers of its
  -- questions don't fall. It forbids that an old number comes to be new again
  pub was : Agent
  pub was_is : (s.members m).agent ≡ Some was
  pub agent : Agent
  pub agent_is : input.machine.agent ≡ Some agent
  pub runs : input.machine.runs ≡ (s.members m).runs
  pub incarnation : agent.incarnation ≡ was.incarnation
  pub last : was.last ≤ agent.last
  pub watchdog : WatchdogMay s m input was agent
  -- holds aren't shortened: who acknowledged could else create the key while the other writes on
  pub hold : (s.members m).hold ≤ input.machine.hold
  pub takes : (failsafe_request : FailsafeRequest) → input.takes ≡ Some failsafe_request
      → MayTake s input failsafe_request
  -- a Ready agent's server isn't live: finding it live is then always an operator's promotion
  pub parted : is_ready input.machine.agent ≡ true → input.machine.live ≡ false
  -- and its deadline is by a grant, so that without a leader key nobody is Ready. One
  -- writer doesn't rest on it, but a race for the leader key in quorum mode does: after
  -- a snapshot without a leader key nobody may begin under the sync key that it told
  pub ready_by_grant : is_ready input.machine.agent ≡ true → input.machine.by_failsafe ≡ false
  -- the heard message is gone: a grant that is heard twice gives two
  -- lease values, and the release of one leaves a writer with the other
  pub gone : (number : ℕ) → input.heard ≡ Some number → input.flight number ≡ None
  pub flight : (i : ℕ) (flying : Flying) → input.flight i ≡ Some flying
      → (s.flight i ≡ Some flying) ⊎ MaySend s m input was agent flying
  pub failsafe_check : (failsafe_check : FailsafeCheck) → agent.failsafe_check ≡ Some failsafe_check
      → ContinuesCheck s m was failsafe_check ⊎ BeginsCheck s m was agent failsafe_check
  -- known members aren't forgotten in an incarnation
  pub known : (p : ℕ) → was.known p ≡ true → agent.known p ≡ true
  -- an agent comes to lead only by a grant: who leads knows the members of the failsafe key then
  pub leads : agent.leads ≡ true → (was.leads ≡ true) ⊎ FedKnown s m input agent
  -- what it knows of keys it read in snapshots
  pub informed : agent.informed ≡ true → (was.informed ≡ true) ⊎ ((key : FailsafeKey) × HeardFailsafe s input.heard key)
  pub failsafe : (key : FailsafeKey) → agent.failsafe ≡ Some key
      → (was.failsafe ≡ Some key) ⊎ HeardFailsafe s input.heard key
  pub leader : (seen : LeaderSeen) → agent.leader ≡ Some seen
      → (was.leader ≡ Some seen) ⊎ HeardLeader s input.heard seen
  pub lease : (revision : ℕ) → agent.lease ≡ Some revision → Owns s m input.heard was revision
  -- what it waits for it waited for before, or asked in this input
  pub waits : (sequence : ℕ) → agent.waits ≡ Some sequence → (was.waits ≡ Some sequence) ⊎ (was.last < sequence)

-- an input acts in time where it arms or feeds the watchdog: at most the margin
-- after the grant, and after each hold that was taken for its failsafe request
pub record IsInTime (s : State) (m : ℕ) (input : AgentInput) : Type 0 where
  pub by_grant : input.feeds ≡ true → input.machine.by_failsafe ≡ false → (grant : Grant)
      → HeardGrant s m input.heard grant → IsOnTime (s.declared.margin m) s.clock grant.moment
  pub by_failsafe : input.feeds ≡ true → input.machine.by_failsafe ≡ true → (was : Agent)
      (failsafe_check : FailsafeCheck) → (s.members m).agent ≡ Some was → was.failsafe_check ≡ Some failsafe_check
      → (p moment : ℕ) → failsafe_check.members p ≡ true
      → IsTaken s.taken
      (record { by = p; from = m; incarnation = was.incarnation; sequence = failsafe_check.sequence; moment = moment })
      → IsOnTime (s.declared.margin m) s.clock moment
