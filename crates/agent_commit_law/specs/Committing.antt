-- Which inputs of the law of kept commits an input of the table stands
-- for, and that they are lawful while the synchronous mode is on.
use Rattle.std.specs.Prelude.{ℕ, zero, suc, ◌≡◌, ◌⊎◌, ◌<◌, ◌≤◌, ◌++◌, ◌||◌, if◌then◌else◌, Bool, true, false, List, [], ◌∷◌, Option, Some, None, All, slice_get}
use Rattle.std.specs.List.{filter_map}
use Rattle.std.specs.Option.{ForSome}
use Rattle.pat_base.specs.declared.lsn.Lsn.{Lsn}
use Rattle.pat_base.specs.declared.server_state.Required.{Required}
use Rattle.pat_base.specs.declared.ticks.Ticks.{Ticks}
use Rattle.pat_base.specs.ServerState.{live}
use Rattle.lease_store.specs.declared.granted.Granted.{Granted}
use Rattle.store_keys.specs.declared.txn.Expected.{Expected}
use Rattle.store_keys.specs.declared.txn.Txn.{Txn}
use Rattle.store_keys.specs.declared.txn.Txn.TheVariants as txns
use Rattle.store_keys.specs.declared.txn.LeaseTxn.TheVariants as lease_txns
use Rattle.store_keys.specs.declared.txn.SyncTxn.TheVariants as sync_txns
use Rattle.wal_model.specs.declared.entry.Entry.{Entry}
use Rattle.wal_model.specs.Log.{end_of}
use Rattle.pg_model.specs.Facts.{has_data}
use Rattle.cluster_view.specs.KeyValues.{config_in}
use Rattle.cluster_view.specs.Snapshots.{SnapshotFacts}
use Rattle.event_book.specs.declared.message.Body.{Body}
use Rattle.event_book.specs.declared.message.Body.TheVariants as bodies
use Rattle.event_book.specs.Functions.{set_members}
use Rattle.sync_state.specs.Published.{published_in}
use Rattle.sync_state.specs.Standbys.{noted_position}
use Rattle.commit_actions.specs.Keys.{IsOfQuorum, SyncKey, Confirmers, Nobody, All as AllOf, AtLeast, strict_quorum}
use Rattle.commit_actions.specs.Stored.{key_seen, quorum_written}
use Rattle.commit_actions.specs.Flights.{SyncRequest, LeaseGranted, SyncGranted}
use Rattle.commit_actions.specs.States.{Agent, State, HasLog}
use Rattle.commit_actions.specs.Inputs.{Sending, AgentInput, HearsSnapshot, IsLawful, Does, Racing, HearingAnswer, WinningRace, CreatingLeader, Arming, ChangingRequired, SettlingRequired}
use Rattle.commit_actions.specs.Carried.{IsSound}
use Rattle.commit_actions.specs.Past.{Query, SyncQuery, query_of, confirmers_in}
use Rattle.agent_model.specs.declared.heard.Heard.{Heard}
use Rattle.agent_model.specs.declared.heard.Heard.TheVariants as heards
use Rattle.agent_model.specs.declared.knowledge.Knowledge.{Knowledge}
use Rattle.agent_model.specs.declared.knowledge.Question.{Question}
use Rattle.agent_model.specs.declared.knowledge.Question.TheVariants.{ComparingPositions, Creating, Renewing, Claiming, Syncing}
use Rattle.agent_model.specs.declared.knowledge.Settling.TheVariants.{NamesStandbys, ClearsList}
use Rattle.agent_model.specs.declared.knowledge.SyncRead.{SyncRead}
use Rattle.agent_model.specs.declared.knowledge.PendingQuestion.{PendingQuestion}
use Rattle.agent_model.specs.declared.output.Output.{Output}
use Rattle.agent_model.specs.declared.output.Output.TheVariants as outputs
use Rattle.agent_model.specs.declared.output.Feeding.TheVariants as feedings
use Rattle.agent_model.specs.declared.output.Noting.TheVariants as notings
use Rattle.agent_model.specs.declared.output.Outgoing.TheVariants as outgoing
use Rattle.agent_model.specs.declared.output.ServerOrder.TheVariants as orders
use Rattle.agent_model.specs.declared.output.Telling.TheVariants as tellings
use Rattle.agent_model.specs.declared.output.Target.TheVariants as targets
use Rattle.agent_model.specs.Agents.{RoleFacts, Outcome, is_ready, is_leader}
use Rattle.agent_model.specs.Claiming.{can_begin_on_claim}
use Rattle.agent_model.specs.Decisions.{asks_lease, asks_sync, is_sync_decision, is_write_of}
use Rattle.agent_model.specs.Outputs.{has_one}
use Rattle.agent_model.specs.Pausing.{is_paused}
use Rattle.agent_roles.specs.Powers.{IsAwaitedLease}
use Rattle.agent_model.specs.Synchronous.{sync_read_in}

-- what the law sees of a sync key that was read
abbrev pub sync_seen : Option SyncRead → Option SyncKey
sync_seen None = None
sync_seen (Some read) = Some (key_seen read.key read.revision)

-- the number of what is waited for, if that is a create, a renewal or a write of the sync key
abbrev pub number_waited : Option PendingQuestion → Option ℕ
number_waited None = None
number_waited (Some waited) =
    if asks_lease waited.question || asks_sync waited.question then Some waited.sequence else None

-- what the law sees of an agent in this role. No race counts: in
-- synchronous mode only whom the sync key names takes the leader key
abbrev pub committer_seen : RoleFacts → Knowledge → Agent
committer_seen role knows = record {
  incarnation = knows.incarnation;
  last = knows.sequence;
  waits = number_waited knows.waited;
  turn = sync_seen knows.turn_sync;
  race = None;
  won = false;
  ready = is_ready role;
  leads = is_leader role;
  noted = noted_position knows.noted;
}

-- a member is connected to this server, which accepts writes and has this position of it
pub record IsConnected (s : State) (m n : ℕ) (end : Lsn) : Type 0 where
  pub writes : (s.members m).writes ≡ true
  pub confirmed : (s.members m).confirmed n ≡ Some end.position

-- this is seen of where a log ends, which is there where the log is
abbrev pub IsEndOf : Option Lsn → Option (List Entry) → Type 0
IsEndOf None None = Unit {0}
IsEndOf (Some end) (Some log) = end.position ≡ end_of log
IsEndOf _ _ = ⊥

-- the state of the law in which this agent stands, where at most so many standbys may lack an acknowledged commit
pub record StandsToCommit (s : State) (m quorum : ℕ) (o : Outcome) : Type 0 where
  pub agent : (s.members m).agent ≡ Some (committer_seen o.role o.knows)
  pub live : (s.members m).live ≡ live o.machine.server.state
  pub required : (s.members m).required ≡ confirmers_in o.machine.replication.required
  pub end : IsEndOf o.machine.server.end (s.members m).log
  pub has_log : has_data o.machine.server.state ≡ true → HasLog (s.members m).log
  pub connected : (n : ℕ) (end : Lsn)
      → slice_get o.machine.replication.confirmed_positions n ≡ Some (Some end) → IsConnected s m n end
  pub me : o.knows.who.me.number ≡ m
  pub counts : m < s.member_count
  pub strict : (key : SyncKey) → s.sync ≡ Some key → IsOfQuorum s.member_count quorum key

-- the answer of this number grants this member the write of the sync key that it waits for
pub record IsAwaitedWrite (sequence : ℕ) (grant : Granted) (knows : Knowledge) : Type 0 where
  pub waited : PendingQuestion
  pub is : knows.waited ≡ Some waited
  pub decision : is_sync_decision waited sequence ≡ true
  pub mine : is_write_of knows.who.me grant ≡ true

-- the message that this member hears grants a create or a renewal of this number and revision, with this snapshot
pub record HearsLease (s : State) (m : ℕ) (heard : Option ℕ) (sequence revision : ℕ)
    (snapshot : SnapshotFacts) (knows : Knowledge) : Type 0 where
  pub number : ℕ
  pub heard_is : heard ≡ Some number
  pub is : s.flight number ≡ Some (LeaseGranted (record {
    member = m;
    incarnation = knows.incarnation;
    sequence = sequence;
    revision = revision;
    sync = sync_seen (sync_read_in snapshot);
  }))

-- the standbys in a sync key are those that this question asked for: a claim
-- names none, and a required list settles to those that it is asked for with
abbrev pub IsAskedBy : Question → SyncKey → Type 0
IsAskedBy Claiming key = (n : ℕ) → key.standbys n ≡ false
IsAskedBy (Syncing (NamesStandbys standbys)) key = (n : ℕ) → key.standbys n ≡ set_members standbys n
IsAskedBy _ key = Unit {0}

-- the message that it hears grants a write of the sync key of this number, which this question asked
pub record HearsWrite (s : State) (m : ℕ) (heard : Option ℕ) (sequence : ℕ) (question : Question)
    (knows : Knowledge) : Type 0 where
  pub number : ℕ
  pub key : SyncKey
  pub heard_is : heard ≡ Some number
  pub is : s.flight number
      ≡ Some (SyncGranted (record { member = m; incarnation = knows.incarnation; sequence = sequence; key = key }))
  pub asked : IsAskedBy question key

-- it hears the answer to a granted request: where that is waited for,
-- the grant of a lease or of a write of the sync key
pub record HearsGranted (s : State) (m : ℕ) (heard : Option ℕ) (sequence : ℕ) (grant : Granted)
    (snapshot : SnapshotFacts) (knows : Knowledge) : Type 0 where
  pub lease : IsAwaitedLease sequence grant knows → HearsLease s m heard sequence grant.revision snapshot knows
  pub write : (awaited : IsAwaitedWrite sequence grant knows)
      → HearsWrite s m heard sequence awaited.waited.question knows

-- what the law hears of what comes to an agent. Of a refusal, and of
-- what other members ask and answer, it needs nothing
abbrev pub HearsToCommit : State → ℕ → AgentInput → Heard → Outcome → Type 0
HearsToCommit s m input (heards.ReadAnswered sequence snapshot) o =
    HearsSnapshot s input (sync_seen (sync_read_in snapshot))
HearsToCommit s m input (heards.Granted sequence grant snapshot) o =
    HearsGranted s m input.heard sequence grant snapshot o.knows
HearsToCommit s m input _ o = Unit {0}

-- the synchronous mode is on in a snapshot, and the cluster isn't paused by it
pub record IsSynchronousSnapshot (snapshot : SnapshotFacts) : Type 0 where
  pub synchronous : (config_in snapshot).synchronous_mode ≡ true
  pub unpaused : (config_in snapshot).pause ≡ false

-- so it is in the snapshot that comes with what is heard, if one does
abbrev pub HearsSynchronousMode : Heard → Type 0
HearsSynchronousMode (heards.ReadAnswered sequence snapshot) = IsSynchronousSnapshot snapshot
HearsSynchronousMode (heards.Granted sequence grant snapshot) = IsSynchronousSnapshot snapshot
HearsSynchronousMode _ = Unit {0}

-- the mode is on, where this question follows what a turn read; and it isn't that the sync key be removed
abbrev pub FollowsSynchronousMode : Bool → Question → Type 0
FollowsSynchronousMode on ComparingPositions = on ≡ true
FollowsSynchronousMode on Creating = on ≡ true
FollowsSynchronousMode on Renewing = on ≡ true
FollowsSynchronousMode on (Syncing ClearsList) = ⊥
FollowsSynchronousMode on _ = Unit {0}

-- what an agent waits for it asked with the synchronous mode on
abbrev pub AsksInSynchronousMode : Knowledge → Type 0
AsksInSynchronousMode knows =
    ForSome knows.waited (λ waited. FollowsSynchronousMode knows.turn_settings.synchronous_mode waited.question)

-- the request that compares the sync key, if this is one
abbrev pub request_in : Query → Option SyncRequest
request_in (SyncQuery request) = Some request
request_in _ = None

-- the same of a question of this member, in this incarnation under this number
abbrev pub request_of_body : ℕ → ℕ → ℕ → Body → Option SyncRequest
request_of_body m incarnation sequence (bodies.Request txn) = request_in (query_of m incarnation sequence txn)
request_of_body m incarnation sequence _ = None

-- the same of an output
abbrev pub request_of : ℕ → ℕ → Output → Option SyncRequest
request_of m incarnation (outputs.Message (outgoing.Send targets.Store sequence body)) =
    request_of_body m incarnation sequence body
request_of m incarnation _ = None

-- the requests among these outputs that compare the sync key
abbrev pub requests_of : ℕ → ℕ → List Output → List SyncRequest
requests_of m incarnation outs = filter_map (request_of m incarnation) outs

-- there is one at most
abbrev pub IsOneAtMost : List SyncRequest → Type 0
IsOneAtMost [] = Unit {0}
IsOneAtMost (request ∷ []) = Unit {0}
IsOneAtMost (request ∷ other ∷ more) = ⊥

-- it is what is sent, under some number of a message
abbrev pub IsSent : List SyncRequest → Option Sending → Type 0
IsSent [] sends = sends ≡ None
IsSent (request ∷ []) sends = (number : ℕ) × (sends ≡ Some (record { number = number; request = request }))
IsSent (request ∷ other ∷ more) sends = ⊥

-- a request as synchronous mode has it, among so many members, of which so many
-- standbys may lack a commit: a create compares no sync key, nobody removes the
-- sync key, and whom it comes to name are members, of which at most so many may
abbrev pub IsSynchronousTxn : ℕ → ℕ → Txn → Type 0
IsSynchronousTxn count quorum (txns.Lease (lease_txns.Create info ttl failsafe (Some sync))) = ⊥
IsSynchronousTxn count quorum (txns.Sync (sync_txns.DropSync revision sync)) = ⊥
IsSynchronousTxn count quorum (txns.Sync (sync_txns.SetSync revision sync standbys may_lack)) =
    ((n : ℕ) → set_members standbys n ≡ true → n < count)
    × (quorum_written (txns.Sync (sync_txns.SetSync revision sync standbys may_lack)) ≤ quorum)
IsSynchronousTxn count quorum _ = Unit {0}

-- the same of what a message says
abbrev pub IsSynchronousBody : ℕ → ℕ → Body → Type 0
IsSynchronousBody count quorum (bodies.Request txn) = IsSynchronousTxn count quorum txn
IsSynchronousBody count quorum _ = Unit {0}

-- the same of an output
abbrev pub IsSynchronousOutput : ℕ → ℕ → Output → Type 0
IsSynchronousOutput count quorum (outputs.Message (outgoing.Send to sequence body)) =
    IsSynchronousBody count quorum body
IsSynchronousOutput count quorum _ = Unit {0}

-- the standbys that the sync key of a snapshot names have numbers below this one
abbrev pub PublishesBelow : ℕ → SnapshotFacts → Type 0
PublishesBelow count snapshot = (n : ℕ) → set_members (published_in snapshot) n ≡ true → n < count

-- so they have in the snapshot that comes with what is heard, if one does
abbrev pub HearsBelow : ℕ → Heard → Type 0
HearsBelow count (heards.ReadAnswered sequence snapshot) = PublishesBelow count snapshot
HearsBelow count (heards.Granted sequence grant snapshot) = PublishesBelow count snapshot
HearsBelow count _ = Unit {0}

-- and so have the members to which the server is connected
pub record KnowsBelow (count : ℕ) (heard : Heard) (o : Outcome) : Type 0 where
  pub published : HearsBelow count heard
  pub connected : (n : ℕ) (end : Lsn)
      → slice_get o.machine.replication.confirmed_positions n ≡ Some (Some end) → n < count

-- a request that neither compares the sync key nor writes it, nor carries a set for the failsafe key
abbrev pub IsQuietTxn : Txn → Type 0
IsQuietTxn (txns.Lease (lease_txns.Create info ttl failsafe sync)) = sync ≡ None
IsQuietTxn (txns.Lease (lease_txns.Renew revision info ttl status row failsafe)) = failsafe ≡ None
IsQuietTxn (txns.Sync (sync_txns.Claim revision sync)) = ⊥
IsQuietTxn (txns.Sync (sync_txns.SetSync revision sync standbys may_lack)) = ⊥
IsQuietTxn (txns.Sync (sync_txns.DropSync revision sync)) = ⊥
IsQuietTxn _ = Unit {0}

-- the same of what a message says
abbrev pub IsQuietBody : Body → Type 0
IsQuietBody (bodies.Request txn) = IsQuietTxn txn
IsQuietBody _ = Unit {0}

-- an output that changes neither the server nor its log, and asks for
-- no write of the sync key: the law's input covers it
abbrev pub IsCovered : Output → Type 0
IsCovered (outputs.Message (outgoing.Send to sequence body)) = IsQuietBody body
IsCovered (outputs.Watchdog (feedings.Armed until)) = Unit {0}
IsCovered (outputs.Watchdog (feedings.Fed until)) = Unit {0}
IsCovered (outputs.Watchdog feedings.Disarmed) = Unit {0}
IsCovered (outputs.Note (notings.Agent note)) = Unit {0}
IsCovered (outputs.Tell (tellings.Told request told)) = Unit {0}
IsCovered _ = ⊥

-- an output that may be an action of its own: neither does it ask for a write of the sync key, nor
-- are others required by it, nor does the server begin; and it isn't the note that leads to a claim
abbrev pub StandsAlone : Output → Type 0
StandsAlone (outputs.Message (outgoing.Send to sequence body)) = IsQuietBody body
StandsAlone (outputs.Require required) = ⊥
StandsAlone (outputs.Server orders.Begin) = ⊥
StandsAlone (outputs.Tell tellings.ClaimsOutsideSync) = ⊥
StandsAlone _ = Unit {0}

-- the output asks for a renewal that carries a set for the failsafe key
abbrev pub is_carrying : Output → Bool
is_carrying
    (outputs.Message (outgoing.Send targets.Store sequence
    (bodies.Request (txns.Lease (lease_txns.Renew revision info ttl status row (Some members)))))) =
    true
is_carrying _ = false

-- the last output that the law's input covers, behind those that it covers in any
-- case: none, a question to the key store, or whom commits wait for from now on
pub data Closing : Type 0 where
  NoMore : Closing
  Asks : (sequence : ℕ) → (body : Body) → Closing
  Requires : (required : Required) → Closing

-- it as a list
abbrev pub closing_outputs : Closing → List Output
closing_outputs NoMore = []
closing_outputs (Asks sequence body) = outputs.Message (outgoing.Send targets.Store sequence body) ∷ []
closing_outputs (Requires required) = outputs.Require required ∷ []

-- the table of orders: what may stand behind each. Outputs that may be
-- actions of their own; nothing; nothing, or that the server begins
abbrev pub MayStandBehind : Closing → List Output → Type 0
MayStandBehind NoMore behind = All StandsAlone behind
MayStandBehind (Asks sequence body) behind = behind ≡ []
MayStandBehind (Requires required) behind = (behind ≡ []) ⊎ (behind ≡ (outputs.Server orders.Begin) ∷ [])

-- the form of an input's outputs: they stand in one of these orders; or the law's input covers
-- all up to the note that the sync key doesn't name the member, and its claim of that key
pub data HasForm (outs : List Output) : Type 0 where
  Ordered : (front : List Output) → (closing : Closing) → (behind : List Output)
      → (covered : All IsCovered front) → (order : MayStandBehind closing behind)
      → (whole : front ++ (closing_outputs closing ++ behind) ≡ outs) → HasForm outs
  ClaimsOutsideSync : (front : List Output) → (sequence revision : ℕ) → (sync : Expected)
      → (covered : All IsCovered front)
      → (whole : front ++ (outputs.Tell tellings.ClaimsOutsideSync)
      ∷ outputs.Message (outgoing.Send targets.Store sequence
      (bodies.Request (txns.Sync (sync_txns.Claim revision sync))))
      ∷ []
      ≡ outs)
      → HasForm outs

-- the member takes the leader key though the sync key doesn't name it
abbrev pub is_claim_outside_sync : Output → Bool
is_claim_outside_sync (outputs.Tell tellings.ClaimsOutsideSync) = true
is_claim_outside_sync _ = false

-- the server comes to accept writes by this output, or will when its start is complete
abbrev pub is_begin : Output → Bool
is_begin (outputs.Server orders.Begin) = true
is_begin _ = false

-- whether the server is live after an input, but for its end, which is an action of its own
abbrev pub live_shown : Outcome → Outcome → Bool
live_shown o after =
    if has_one is_begin after.outputs then live after.machine.server.state else live o.machine.server.state

-- who holds the leader key asks for a renewal that carries a set for the failsafe key
pub record HolderAsks (s : State) (m : ℕ) (after : Outcome) : Type 0 where
  pub revision : ℕ
  pub leader : s.leader ≡ Some revision
  pub holder : s.holder ≡ m
  pub carries : has_one is_carrying after.outputs ≡ true

-- the input of the law that stands for one of the table, where the member takes no leader key past the sync key
pub record IsCommitInputOf (s : State) (m : ℕ) (o after : Outcome) (input : AgentInput) : Type 0 where
  pub agent : input.agent ≡ committer_seen after.role after.knows
  pub live : input.live ≡ live_shown o after
  pub required : input.required ≡ confirmers_in after.machine.replication.required
  pub sends : IsSent (requests_of m o.knows.incarnation after.outputs) input.sends
  pub holder_was_live : (input.holder_was_live ≡ s.holder_was_live) ⊎ HolderAsks s m after
  pub inside : has_one is_claim_outside_sync after.outputs ≡ false

-- on a lease of this revision an agent claims the sync key: it hears
-- the grant that it waits for, and wasn't about to begin
abbrev pub ArmsOn : Ticks → Heard → Outcome → ℕ → Type 0
ArmsOn now (heards.Granted sequence grant snapshot) o revision =
    IsAwaitedLease sequence grant o.knows × (grant.revision ≡ revision) × (is_ready o.role ≡ false)
ArmsOn now _ o revision = ⊥

-- this member is among the confirmers, by name
abbrev pub ListsMember : Confirmers → ℕ → Type 0
ListsMember Nobody n = ⊥
ListsMember (AllOf members) n = members n ≡ true
ListsMember (AtLeast number members) n = members n ≡ true

-- the server is connected to this member
abbrev pub IsConnectedTo : Outcome → ℕ → Type 0
IsConnectedTo o n = (end : Lsn) × (slice_get o.machine.replication.confirmed_positions n ≡ Some (Some end))

-- whom commits come to wait for they waited for before, or the server is connected to it
abbrev pub GrowsByConnected : Outcome → Confirmers → Confirmers → Type 0
GrowsByConnected o before after = (n : ℕ) → ListsMember after n → ListsMember before n ⊎ IsConnectedTo o n

-- races count, and creates compare the sync key, only where some standby may lack a commit
abbrev pub MayRace : ℕ → Type 0
MayRace zero = ⊥
MayRace (suc quorum) = Unit {0}

-- what an input does, so far as the law leaves open what the table settles, where so many
-- standbys may lack a commit: no race counts and no create compares the sync key where none may,
-- an agent claims on the lease that it waits for, and a required list grows by connected members
abbrev pub DoesAs : Ticks → Heard → ℕ → Outcome → (s : State) (m : ℕ) (input : AgentInput) (was : Agent)
    → Does s m input was → Type 0
DoesAs now heard quorum o s m input was (Racing races) = MayRace quorum
DoesAs now heard quorum o s m input was (HearingAnswer answer) = MayRace quorum
DoesAs now heard quorum o s m input was (WinningRace wins) = MayRace quorum
DoesAs now heard quorum o s m input was (CreatingLeader creates) = MayRace quorum
DoesAs now heard quorum o s m input was (Arming arms) =
    ArmsOn now heard o arms.grant.revision × (input.agent.ready ≡ true)
DoesAs now heard quorum o s m input was (ChangingRequired changes) =
    GrowsByConnected o (s.members m).required input.required
DoesAs now heard quorum o s m input was (SettlingRequired settles) =
    GrowsByConnected o (s.members m).required input.required
DoesAs now heard quorum o s m input was _ = Unit {0}

-- an input of the law is lawful, and does what it may
pub record IsLawfulAs (now : Ticks) (heard : Heard) (quorum : ℕ) (o : Outcome) (s : State) (m : ℕ)
    (input : AgentInput) : Type 0 where
  pub lawful : IsLawful s m input
  pub does : DoesAs now heard quorum o s m input lawful.was lawful.does

-- an input leaves the synchronous mode on: what it waits for it asked with the mode on; it sends one
-- request at most that compares the sync key; what it sends is as the mode has it, among members of whom
-- it knows, and of which at most so many may lack a commit; its outputs have one of the forms; the server
-- begins only where it can; and a renewal carries a set for the failsafe key only where the server is live
pub record StaysInSynchronousMode (quorum : ℕ) (heard : Heard) (o after : Outcome) : Type 0 where
  pub asks : AsksInSynchronousMode after.knows
  pub one : IsOneAtMost (requests_of o.knows.who.me.number o.knows.incarnation after.outputs)
  pub sends : (count : ℕ) → KnowsBelow count heard o → All (IsSynchronousOutput count quorum) after.outputs
  pub form : HasForm after.outputs
  pub begins : has_one is_begin after.outputs ≡ true
      → can_begin_on_claim o.machine.server.was_primary o.machine.server.state ≡ true
  pub carries : has_one is_carrying after.outputs ≡ true → live_shown o after ≡ true

-- while the synchronous mode is on, and no pause, whatever input of the law stands for this
-- one of the table is lawful. No standby may lack a commit: an agent has no quorum mode
pub record CommitsFrom (now : Ticks) (heard : Heard) (o after : Outcome) : Type 0 where
  pub stays : is_paused o.knows ≡ false → AsksInSynchronousMode o.knows → HearsSynchronousMode heard
      → StaysInSynchronousMode strict_quorum heard o after
  pub lawful : is_paused o.knows ≡ false → AsksInSynchronousMode o.knows → HearsSynchronousMode heard → (s : State)
      (m : ℕ) (input : AgentInput) → IsSound s → StandsToCommit s m strict_quorum o → HearsToCommit s m input heard o
      → IsCommitInputOf s m o after input → IsLawfulAs now heard strict_quorum o s m input
