-- Which inputs of an agent are lawful, and what the timed lease gives to them.
use Rattle.std.specs.Prelude.{ℕ, ◌≡◌, ◌⊎◌, ◌≤◌, ◌<◌, Bool, true, false, Option, Some, None}
use Rattle.wal_model.specs.Log.{end_of}
use Rattle.commit_actions.specs.Keys.{SyncKey, Confirmers, Nobody, count, Overlaps, MayPublish, Narrows, strict_quorum}
use Rattle.commit_actions.specs.Flights.{ClaimSync, PublishStandbys, SyncRequest, LeaseGrant, SyncGrant, RaceAnswer, Flying, LeaseGranted, SyncGranted, SnapshotSent, RaceAnswered, CreateLeader}
use Rattle.pg_model.specs.Facts.{entries_of}
use Rattle.commit_actions.specs.States.{Race, Agent, Machine, State, Acts, Reaches, HasLog, Waits}

-- a request that an input sends, and the number of its message
pub record Sending : Type 0 where
  pub number : ℕ
  pub request : SyncRequest

-- one input of an agent: the message that it hears, if one; after it the agent, whether its server is live, and
-- whom its commits wait for; the request that it sends, if one that compares the sync key; and whether up to
-- then the holder of the leader key was live when it asked for a renewal that carries a set for the failsafe key
pub record AgentInput : Type 0 where
  pub heard : Option ℕ
  pub agent : Agent
  pub live : Bool
  pub required : Confirmers
  pub sends : Option Sending
  pub holder_was_live : Bool

-- what a request compares of a sync key that was read
abbrev pub sync_revision_of : Option SyncKey → Option ℕ
sync_revision_of None = None
sync_revision_of (Some key) = Some key.revision

-- the agent hears the grant of the create or the renewal that it waits for
pub record HearsLeaseGrant (s : State) (m : ℕ) (input : AgentInput) (was : Agent) (grant : LeaseGrant) : Type 0 where
  pub number : ℕ
  pub heard : input.heard ≡ Some number
  pub is : s.flight number ≡ Some (LeaseGranted grant)
  pub member : grant.member ≡ m
  -- of this incarnation, and the one that it waits for: the grant of an older renewal shows an
  -- older sync key, and a write of the sync key that compares a newer leader key may be on its way
  pub incarnation : was.incarnation ≡ grant.incarnation
  pub waits : was.waits ≡ Some grant.sequence

-- it hears the grant of the write of the sync key that it waits for
pub record HearsSyncGrant (s : State) (m : ℕ) (input : AgentInput) (was : Agent) (sync_grant : SyncGrant) : Type 0 where
  pub number : ℕ
  pub heard : input.heard ≡ Some number
  pub is : s.flight number ≡ Some (SyncGranted sync_grant)
  pub member : sync_grant.member ≡ m
  -- of this incarnation, and the one that it waits for: else its list follows a key that was rewritten since
  pub incarnation : was.incarnation ≡ sync_grant.incarnation
  pub waits : was.waits ≡ Some sync_grant.sequence

-- it hears a snapshot with this sync key
pub record HearsSnapshot (s : State) (input : AgentInput) (sync : Option SyncKey) : Type 0 where
  pub number : ℕ
  pub heard : input.heard ≡ Some number
  pub keyless : Bool
  pub leaderless : Bool
  pub failsafe_revision : Option ℕ
  pub is : s.flight number
      ≡ Some (SnapshotSent
      (record { sync = sync; keyless = keyless; leaderless = leaderless; failsafe_revision = failsafe_revision }))

-- its turn goes on: the snapshot, and what came of the race, unless that is given up
pub record KeepsTurn (was agent : Agent) : Type 0 where
  pub turn : agent.turn ≡ was.turn
  pub race : (agent.race ≡ was.race) ⊎ (agent.race ≡ None)
  pub won : agent.won ≡ true → was.won ≡ true

-- another snapshot is that of its turn, without a race
pub record BeginsTurn (s : State) (input : AgentInput) : Type 0 where
  pub view : HearsSnapshot s input input.agent.turn
  pub race : input.agent.race ≡ None
  pub won : input.agent.won ≡ false

-- nobody is live, nor about to be by the grant of the sync key of this revision
pub record IsUnled (flight : ℕ → Option Flying) (members : ℕ → Machine) (revision : ℕ) : Type 0 where
  pub live : (n : ℕ) → (members n).live ≡ true → ⊥
  pub pending : (i : ℕ) (a : SyncGrant) → flight i ≡ Some (SyncGranted a) → a.key.revision ≡ revision
      → Waits (members a.member) a.incarnation a.sequence → Acts (members a.member) → ⊥

-- the sync key that its turn read names this member, so that it wins without a race: there
-- is none, it is the leader, or a standby where no standby may lack an acknowledged commit
abbrev pub WinsByName : Option SyncKey → ℕ → Type 0
WinsByName None m = Unit {0}
WinsByName (Some key) m = (key.leader ≡ m) ⊎ ((key.standbys m ≡ true) × (key.quorum ≡ strict_quorum))

-- server and required list stay
pub record KeepsServer (s : State) (m : ℕ) (input : AgentInput) : Type 0 where
  pub live : input.live ≡ (s.members m).live
  pub required : input.required ≡ (s.members m).required

-- besides, the agent doesn't come to be Ready or to lead, and notes nothing
pub record KeepsRole (s : State) (m : ℕ) (input : AgentInput) (was : Agent) : Type 0 where
  pub server : KeepsServer s m input
  pub ready : input.agent.ready ≡ true → was.ready ≡ true
  pub leads : input.agent.leads ≡ true → was.leads ≡ true
  pub noted : input.agent.noted ≡ was.noted

-- it sends this one request, under a new number, and waits for its answer
pub record Sends (m : ℕ) (input : AgentInput) (was : Agent) (request : SyncRequest) : Type 0 where
  pub number : ℕ
  pub is : input.sends ≡ Some (record { number = number; request = request })
  pub member : request.member ≡ m
  pub incarnation : request.incarnation ≡ was.incarnation
  -- its number is above all before it: else the answer to an older request is taken for its own
  pub later : was.last < request.sequence
  pub counted : request.sequence ≤ input.agent.last
  -- it waits for this answer and no other: else it hears the grant of
  -- a renewal, and shrinks its list, with this write on its way
  pub waits : input.agent.waits ≡ Some request.sequence

-- who accepts writes knows that this member has confirmed this position, since it last began
abbrev pub HasConfirmed : Machine → ℕ → ℕ → Type 0
HasConfirmed x noted n = (x.writes ≡ true) × Reaches noted (x.confirmed n)

-- nothing that commits depend on, but that another snapshot may be that of its turn
pub record Idles (s : State) (m : ℕ) (input : AgentInput) (was : Agent) : Type 0 where
  pub keeps : KeepsRole s m input was
  pub sends : input.sends ≡ None
  pub turn : KeepsTurn was input.agent ⊎ BeginsTurn s input

-- why nobody is live while the sync key is as a snapshot showed it
pub data WhyUnled (s : State) (keyless leaderless : Bool) : Type 0 where
  -- there was neither a leader key nor a failsafe key, so nobody acted
  WasKeyless : (is : keyless ≡ true) → WhyUnled s keyless leaderless
  -- there was no leader key, and creates compare the sync key. Else an old create of a leader that goes on
  -- by failsafe brings its key back: it commits, and who read the key absent claims without that commit
  WasLeaderless : (compares : s.creates_compare ≡ true) → (is : leaderless ≡ true) → WhyUnled s keyless leaderless

-- it asks the others in a race for the leader key
pub record Races (s : State) (m : ℕ) (input : AgentInput) (was : Agent) : Type 0 where
  pub keeps : KeepsRole s m input was
  pub sends : input.sends ≡ None
  -- the asks follow the snapshot in one input: an answer from before it may be of a log that has grown since
  pub view : HearsSnapshot s input input.agent.turn
  pub race : Race
  pub race_is : input.agent.race ≡ Some race
  -- under a new number: else an answer to an older race counts in this one
  pub later : was.last < race.sequence
  pub counted : race.sequence ≤ input.agent.last
  pub ends : (n : ℕ) → race.ends n ≡ None
  pub won : input.agent.won ≡ false
  -- nobody is live while the sync key is as that snapshot shows it:
  -- else the answers say where logs ended before a commit
  pub unled : WhyUnled s view.keyless view.leaderless

-- the race has one more answer, which is heard: where that log ends is kept
pub record AddsAnswer (s : State) (m : ℕ) (input : AgentInput) (was : Agent) (race : Race) : Type 0 where
  pub number : ℕ
  pub race_answer : RaceAnswer
  pub heard : input.heard ≡ Some number
  pub is : s.flight number ≡ Some (RaceAnswered race_answer)
  pub member : race_answer.member ≡ m
  pub incarnation : was.incarnation ≡ race_answer.incarnation
  pub before : Race
  pub before_is : was.race ≡ Some before
  -- an answer to this race
  pub sequence : before.sequence ≡ race_answer.sequence
  pub sequence_same : race.sequence ≡ before.sequence
  pub ends : (n end : ℕ) → race.ends n ≡ Some end
      → (before.ends n ≡ Some end) ⊎ ((n ≡ race_answer.by) × (end ≡ race_answer.end))

-- it hears an answer in its race
pub record HearsAnswer (s : State) (m : ℕ) (input : AgentInput) (was : Agent) : Type 0 where
  pub keeps : KeepsRole s m input was
  pub sends : input.sends ≡ None
  pub turn : input.agent.turn ≡ was.turn
  pub won : input.agent.won ≡ true → was.won ≡ true
  pub race : Race
  pub race_is : input.agent.race ≡ Some race
  pub adds : AddsAnswer s m input was race

-- the race that is judged: as it stood, or with the answer that is heard
pub data Judges (s : State) (m : ℕ) (input : AgentInput) (was : Agent) (race : Race) : Type 0 where
  AsItStood : (is : was.race ≡ Some race) → Judges s m input was race
  WithAnswer : (adds : AddsAnswer s m input was race) → Judges s m input was race

-- it asks for the leader key by a create that compares the sync key
pub record AsksForLeader (s : State) (m : ℕ) (input : AgentInput) (was : Agent) : Type 0 where
  -- its server isn't live: a leader's create would give it its key back without a change of the sync key
  pub not_live : (s.members m).live ≡ false
  pub request : SyncRequest
  pub sends : Sends m input was request
  pub aim : request.aim ≡ CreateLeader
  pub leader : request.leader ≡ 0
  -- it compares the sync key that its turn read: then one from before
  -- its server went live is refused, since the claim changed that
  pub sync : request.sync ≡ sync_revision_of was.turn

-- it finds that it won: enough other standbys answered, and none of them ends behind its own log
pub record WinsRace (s : State) (m : ℕ) (input : AgentInput) (was : Agent) : Type 0 where
  pub keeps : KeepsRole s m input was
  pub turn : input.agent.turn ≡ was.turn
  pub race_gone : input.agent.race ≡ None
  pub race : Race
  pub judges : Judges s m input was race
  pub key : SyncKey
  pub key_is : was.turn ≡ Some key
  pub counts : m < s.member_count
  -- a standby of the turn's key
  pub named : key.standbys m ≡ true
  pub log : HasLog (s.members m).log
  pub answered : ℕ → Bool
  -- counted beside itself
  pub others : answered m ≡ false
  pub standbys : (n : ℕ) → answered n ≡ true → key.standbys n ≡ true
  -- each answered log ended no later than its own: a longer one may hold a commit that it lacks
  pub ends : (n : ℕ) → answered n ≡ true → (end : ℕ) × (race.ends n ≡ Some end) × (end ≤ end_of log.entries)
  -- with itself more than may lack a commit
  pub enough : key.quorum ≤ count s.member_count answered
  -- it may ask for the leader key at once: sent is said here where that create compares the sync key
  pub asks : (input.sends ≡ None) ⊎ AsksForLeader s m input was

-- it becomes Ready, and claims the sync key: what it owes by itself
pub record Arms (s : State) (m : ℕ) (input : AgentInput) (was : Agent) : Type 0 where
  pub grant : LeaseGrant
  pub hears : HearsLeaseGrant s m input was grant
  pub keeps : KeepsServer s m input
  -- its server isn't live: it begins on the claim's grant alone
  pub not_live : (s.members m).live ≡ false
  pub turn : KeepsTurn was input.agent
  pub request : SyncRequest
  pub sends : Sends m input was request
  pub aim : request.aim ≡ ClaimSync
  -- the claim compares the grant that it hears: else a claim of an older lease is granted under another leader
  pub leader : request.leader ≡ grant.revision
  -- and the sync key of the turn's snapshot, not of the grant's:
  -- between the two another may have led, published and acknowledged
  pub sync : request.sync ≡ sync_revision_of was.turn
  pub counts : m < s.member_count
  -- the turn's key names it and no standby may lack a commit, or it won its race in this turn
  pub named : WinsByName was.turn m ⊎ (was.won ≡ true)

-- it asks for the leader key, and its turn goes on
pub record CreatesLeader (s : State) (m : ℕ) (input : AgentInput) (was : Agent) : Type 0 where
  pub keeps : KeepsRole s m input was
  pub turn : KeepsTurn was input.agent
  pub asks : AsksForLeader s m input was

-- it takes over its running server, as one that starts again does
pub record TakesOver (s : State) (m : ℕ) (input : AgentInput) (was : Agent) : Type 0 where
  pub keeps : KeepsServer s m input
  pub sends : input.sends ≡ None
  pub ready : input.agent.ready ≡ true → was.ready ≡ true
  -- commits that were acknowledged before a standby was added may be
  -- known to no agent any more: the log's end covers them
  pub noted : input.agent.noted ≡ end_of (entries_of (s.members m).log)
  pub turn : KeepsTurn was input.agent

-- a leader changes its required list in a turn
pub record ChangesRequired (s : State) (m : ℕ) (input : AgentInput) (was : Agent) : Type 0 where
  pub grant : LeaseGrant
  pub hears : HearsLeaseGrant s m input was grant
  pub live : input.live ≡ (s.members m).live
  pub sends : input.sends ≡ None
  pub ready : input.agent.ready ≡ true → was.ready ≡ true
  pub leads : input.agent.leads ≡ true → was.leads ≡ true
  pub turn : KeepsTurn was input.agent
  pub key : SyncKey
  pub key_is : grant.sync ≡ Some key
  -- the list covers the standbys of the sync key in that grant's
  -- snapshot: else a commit is acknowledged that one of them lacks
  pub overlaps : Overlaps s.member_count key.standbys key.quorum input.required
  -- where it grows, or counts otherwise, the log's end is noted: who
  -- joins must first confirm what was acknowledged without it
  pub notes : (input.agent.noted ≡ end_of (entries_of (s.members m).log))
      ⊎ (Narrows (s.members m).required input.required × (input.agent.noted ≡ was.noted))

-- a leader publishes standbys in a turn
pub record Publishes (s : State) (m : ℕ) (input : AgentInput) (was : Agent) : Type 0 where
  pub grant : LeaseGrant
  pub hears : HearsLeaseGrant s m input was grant
  pub keeps : KeepsServer s m input
  pub live : (s.members m).live ≡ true
  pub led : was.leads ≡ true
  pub ready : input.agent.ready ≡ true → was.ready ≡ true
  pub noted : input.agent.noted ≡ was.noted
  pub turn : KeepsTurn was input.agent
  pub key : SyncKey
  pub key_is : grant.sync ≡ Some key
  pub request : SyncRequest
  pub sends : Sends m input was request
  -- it compares the grant that it hears: else it is granted in a later incarnation, whose list is another
  pub leader : request.leader ≡ grant.revision
  -- and the sync key in that grant's snapshot: else it is granted over another's claim
  pub sync : request.sync ≡ Some key.revision
  pub standbys : ℕ → Bool
  pub quorum : ℕ
  pub aim : request.aim ≡ PublishStandbys standbys quorum
  -- the list covers them already: else a commit is acknowledged that one of them lacks
  pub overlaps : Overlaps s.member_count standbys quorum (s.members m).required
  -- new ones are connected, so that their logs haven't diverged from this one: a race compares only where logs end
  pub connected : (n : ℕ) → standbys n ≡ true → (key.standbys n ≡ true) ⊎ HasConfirmed (s.members m) 0 n
  -- new ones have confirmed the noted position, or are counted among those that may lack a commit
  pub may : MayPublish s.member_count key.standbys key.quorum standbys quorum (s.members m).required
      (HasConfirmed (s.members m) was.noted)

-- it promotes its server, on the granted claim
pub record Promotes (s : State) (m : ℕ) (input : AgentInput) (was : Agent) : Type 0 where
  pub sync_grant : SyncGrant
  pub hears : HearsSyncGrant s m input was sync_grant
  -- it has been Ready since it claimed: else the lease is given up, another claims, and this server begins all the same
  pub was_ready : was.ready ≡ true
  pub ready : input.agent.ready ≡ false
  -- its list is emptied: with an old one, a standby that confirmed an old noted position is published at once
  pub required : input.required ≡ Nobody
  pub sends : input.sends ≡ None
  pub turn : KeepsTurn was input.agent
  pub log : HasLog (s.members m).log
  -- it was a claim
  pub claim : (n : ℕ) → sync_grant.key.standbys n ≡ false

-- a leader sets its required list on the grant of a write of the sync key
pub record SettlesRequired (s : State) (m : ℕ) (input : AgentInput) (was : Agent) : Type 0 where
  pub sync_grant : SyncGrant
  pub hears : HearsSyncGrant s m input was sync_grant
  pub live : input.live ≡ (s.members m).live
  pub sends : input.sends ≡ None
  pub ready : input.agent.ready ≡ true → was.ready ≡ true
  pub leads : input.agent.leads ≡ true → was.leads ≡ true
  pub turn : KeepsTurn was input.agent
  -- the list covers the standbys that the granted write published
  pub overlaps : Overlaps s.member_count sync_grant.key.standbys sync_grant.key.quorum input.required
  -- and shrinks, or the log's end is noted
  pub notes : (input.agent.noted ≡ end_of (entries_of (s.members m).log))
      ⊎ (Narrows (s.members m).required input.required × (input.agent.noted ≡ was.noted))

-- what an input does
pub data Does (s : State) (m : ℕ) (input : AgentInput) (was : Agent) : Type 0 where
  Idling : Idles s m input was → Does s m input was
  Racing : Races s m input was → Does s m input was
  HearingAnswer : HearsAnswer s m input was → Does s m input was
  WinningRace : WinsRace s m input was → Does s m input was
  CreatingLeader : CreatesLeader s m input was → Does s m input was
  Arming : Arms s m input was → Does s m input was
  TakingOver : TakesOver s m input was → Does s m input was
  ChangingRequired : ChangesRequired s m input was → Does s m input was
  Publishing : Publishes s m input was → Does s m input was
  Promoting : Promotes s m input was → Does s m input was
  SettlingRequired : SettlesRequired s m input was → Does s m input was

-- what the timed lease gives to an agent that arms: the grant that it
-- hears is the present leader key, and nobody else acts
pub record ArmsAlone (s : State) (m revision : ℕ) : Type 0 where
  pub present : s.leader ≡ Some revision
  pub alone : (n : ℕ) → Acts (s.members n) → n ≡ m

-- what it gives to one that asks in a race after a snapshot without a leader key, while its own hold isn't
-- active: whoever is live holds the leader key, where the failsafe key is as that snapshot showed it
abbrev pub OnlyHolderLives : State → Option ℕ → Type 0
OnlyHolderLives s failsafe_revision = s.failsafe_revision ≡ failsafe_revision → (n : ℕ)
    → (s.members n).live ≡ true → (r : ℕ) × (s.leader ≡ Some r) × (s.holder ≡ n)

-- where there was neither key, nothing more is needed
abbrev pub OnlyHolderLivesIf : (s : State) → (keyless leaderless : Bool) → Option ℕ
    → WhyUnled s keyless leaderless → Type 0
OnlyHolderLivesIf s keyless leaderless failsafe_revision (WasKeyless is) = Unit {0}
OnlyHolderLivesIf s keyless leaderless failsafe_revision (WasLeaderless compares is) =
    OnlyHolderLives s failsafe_revision

-- what the timed lease gives to an input
abbrev pub IsGivenByLease : (s : State) (m : ℕ) (input : AgentInput) (was : Agent) → Does s m input was → Type 0
IsGivenByLease s m input was (Racing races) =
    OnlyHolderLivesIf s races.view.keyless races.view.leaderless races.view.failsafe_revision races.unled
IsGivenByLease s m input was (Arming arms) = ArmsAlone s m arms.grant.revision
IsGivenByLease s m input was _ = Unit {0}

-- who holds the leader key asks for a renewal that carries a set for the failsafe key: its server is live
pub record HolderCarries (s : State) (m : ℕ) (input : AgentInput) : Type 0 where
  pub revision : ℕ
  pub leader : s.leader ≡ Some revision
  pub holder : s.holder ≡ m
  pub live : input.live ≡ true

-- what an agent owes at an input
pub record IsLawful (s : State) (m : ℕ) (input : AgentInput) : Type 0 where
  -- the agent runs, and goes on in its incarnation; the numbers of its requests
  -- don't fall, and what it waits for it waited for before, or asked in this input
  pub was : Agent
  pub was_is : (s.members m).agent ≡ Some was
  pub incarnation : input.agent.incarnation ≡ was.incarnation
  pub last : was.last ≤ input.agent.last
  pub waits : (sequence : ℕ) → input.agent.waits ≡ Some sequence → (was.waits ≡ Some sequence) ⊎ (was.last < sequence)
  pub holder_was_live : (input.holder_was_live ≡ s.holder_was_live) ⊎ HolderCarries s m input
  pub does : Does s m input was
