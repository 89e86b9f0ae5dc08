-- What orders of agents come to.
use Rattle.std.specs.Prelude.{ℕ, ◌==◌, ◌&&◌, ◌||◌, if◌then◌else◌, Bool, true, false, List, [], ◌∷◌, Option, Some, None, option_map, slice_get}
use Rattle.pat_base.specs.declared.member_id.MemberId.{MemberId}
use Rattle.pat_base.specs.declared.member_set.MemberSet.{MemberSet}
use Rattle.pat_base.specs.declared.name.Name.{Name}
use Rattle.pat_base.specs.declared.server_state.Required.{Required}
use Rattle.pat_base.specs.declared.server_state.Required.TheVariants as requireds
use Rattle.pat_base.specs.declared.server_state.State.{State}
use Rattle.pat_base.specs.declared.ticks.Ticks.{Ticks}
use Rattle.pat_base.specs.ServerState.{live}
use Rattle.pat_base.specs.declared.ineligibility.Ineligibility.{Ineligibility}
use Rattle.pat_base.specs.declared.ineligibility.Ineligibility.TheVariants as bars
use Rattle.pg_cluster.specs.declared.answers.Rewound.{Rewound}
use Rattle.pg_cluster.specs.Rewinding.{may_clone_at, rewind_at}
use Rattle.pg_model.specs.Facts.{ServerFacts, is_creating, is_down, is_replica, is_up}
use Rattle.pg_model.specs.Running.{is_primary}
use Rattle.event_book.specs.declared.agent_note.AgentNote.{AgentNote}
use Rattle.event_book.specs.declared.agent_note.AgentNote.TheVariants as agent_notes
use Rattle.event_book.specs.declared.event.EventKind.{EventKind}
use Rattle.event_book.specs.declared.event.EventKind.TheVariants as kinds
use Rattle.event_book.specs.declared.event.LogEvent.TheVariants as logs
use Rattle.event_book.specs.declared.event.Note.TheVariants as notes
use Rattle.event_book.specs.declared.event.ReplicationEvent.TheVariants as replications
use Rattle.event_book.specs.declared.event.ServerEvent.TheVariants as servers
use Rattle.event_book.specs.declared.event.WatchdogEvent.TheVariants as watchdogs
use Rattle.event_book.specs.declared.member.Member.{Member}
use Rattle.event_book.specs.declared.reason.Basis.TheVariants as bases
use Rattle.event_book.specs.declared.reason.Reason.{Reason}
use Rattle.event_book.specs.Links.{CutLinks, is_cut}
use Rattle.event_book.specs.Members.{server_of}
use Rattle.event_book.specs.NameLists.{names_of}
use Rattle.agent_model.specs.declared.output.Repair.{Repair}
use Rattle.agent_model.specs.declared.output.Repair.TheVariants as repairs
use Rattle.cluster_model.specs.declared.heard_message.HeardMessage.{HeardMessage}
use Rattle.cluster_model.specs.Commands.{kinds_of}
use Rattle.cluster_model.specs.State.{Cluster}
use Rattle.cluster_model.specs.Streaming.{link_of_members}

-- the server of a member
abbrev pub server_at : Cluster → Member → Option ServerFacts
server_at cluster member = slice_get cluster.facts.servers member.id.number

-- the declared member of this number, if there is a number
abbrev pub declared_member : List Member → Option MemberId → Option Member
declared_member members None = None
declared_member members (Some id) = slice_get members id.number

-- the watchdog of a member gets its first deadline, on the message that was heard
abbrev pub arming : Member → Ticks → HeardMessage → EventKind
arming member until heard = kinds.Watchdog (watchdogs.Armed member until heard.number)

-- the watchdog of a member gets a new deadline, on the message that was heard
abbrev pub feeding : Member → Ticks → HeardMessage → EventKind
feeding member until heard = kinds.Watchdog (watchdogs.Fed member until (bases.Grant heard.number))

-- the watchdog of a member gets a new deadline, since these members acknowledged its failsafe request of this number
abbrev pub failsafe_feeding : Member → Ticks → MemberSet → ℕ → EventKind
failsafe_feeding member until members sequence =
    kinds.Watchdog (watchdogs.Fed member until (bases.Acknowledgements members sequence))

-- a watchdog is fed: the deadline is measured from this moment
abbrev pub feed_kinds : Member → Ticks → EventKind → List EventKind
feed_kinds member since feed = kinds.Watchdog (watchdogs.Measured member since) ∷ feed ∷ []

-- a server follows this leader's, if there is such a member
abbrev pub following_of : Member → Option Member → Option EventKind
following_of member None = None
following_of member (Some leader) = Some (kinds.Server (servers.Follows (server_of member) (server_of leader)))

-- a replica follows this leader's server
abbrev pub upstream_of : Member → Option Member → ServerFacts → Option EventKind
upstream_of member leader s = if is_replica s.state then following_of member leader else None

-- a server that is down starts as a replica, of this leader's or of none
abbrev pub replica_start_kinds : Member → Option Member → ServerFacts → List EventKind
replica_start_kinds member leader s = if is_down s.state
    then kinds.Server (servers.StartsAsReplica (server_of member)) ∷ kinds_of (following_of member leader) else []

-- a server shuts down: one that accepts writes does so no longer, where stops take no time
abbrev pub stop_kind : Member → State → Ticks → EventKind
stop_kind member state delay = if is_primary state && delay.0 == 0
    then kinds.Server (servers.Ended (server_of member)) else kinds.Server (servers.Stops (server_of member))

-- a server that runs or starts shuts down
abbrev pub stop_of : Member → ServerFacts → Option EventKind
stop_of member s = if is_up s.state then Some (stop_kind member s.state s.stop_delay) else None

-- an agent ends its server for this reason
abbrev pub stop_kinds : Member → Reason → ServerFacts → List EventKind
stop_kinds member reason s = kinds.Note (notes.EndsServer member reason) ∷ kinds_of (stop_of member s)

-- whether commits wait for the same members
abbrev pub is_same_required : Required → Required → Bool
is_same_required requireds.Nobody requireds.Nobody = true
is_same_required requireds.AnyOne requireds.AnyOne = true
is_same_required (requireds.All first) (requireds.All second) = first.bits == second.bits
is_same_required (requireds.AtLeast number first) (requireds.AtLeast other second) =
    (number == other) && (first.bits == second.bits)
is_same_required _ _ = false

-- the names of those that commits wait for
abbrev pub required_names : List Member → Required → List Name
required_names members (requireds.All set) = names_of set members
required_names members (requireds.AtLeast number set) = names_of set members
required_names members _ = []

-- a server that doesn't accept writes, and won't when its start is
-- complete, is wiped, unless it waits for a copy already
abbrev pub wipe_of : Member → ServerFacts → Option EventKind
wipe_of member s =
    if is_creating s.state || live s.state then None else Some (kinds.Log (logs.Wiped (server_of member)))

-- commits wait for these from now on, where that is a change
abbrev pub require_of : List Member → Member → Required → ServerFacts → Option EventKind
require_of members member required s =
    if is_same_required s.required required then None
    else Some
    (kinds.Replication (replications.RequiredSet (server_of member) required (required_names members required)))

-- a member promises another one not to take the leader key before a moment, on its failsafe request
abbrev pub hold_taken : Member → Ticks → ℕ → ℕ → Member → EventKind
hold_taken member until incarnation sequence from =
    kinds.Watchdog (watchdogs.HoldTaken member until from incarnation sequence)

-- the log of a member's server was rewound to what it has in common with this leader's
abbrev pub rewinding : Member → Member → Rewound → EventKind
rewinding member leader rewind = kinds.Log (logs.Rewound (server_of member) (server_of leader) rewind.kept rewind.at)

-- the log of a member's server became a copy of this leader's
abbrev pub copying : Member → Member → EventKind
copying member leader = kinds.Log (logs.Copied (server_of member) (server_of leader))

-- how the log of a member's server is repaired by this leader's, where it can be: the
-- leader's server accepts writes, and the member's may be rewound, or waits for a copy
abbrev pub repair_by : List ServerFacts → Member → Repair → Member → Option EventKind
repair_by known member repairs.Rewind leader =
    option_map (rewinding member leader) (rewind_at known member.id.number leader.id.number)
repair_by known member repairs.Clone leader =
    if may_clone_at known member.id.number leader.id.number then Some (copying member leader) else None

-- how the log of a member's server is repaired by this leader's, where it can be and the link between the two is joined
abbrev pub repair_over : CutLinks → List ServerFacts → Member → Repair → Member → Option EventKind
repair_over cuts known member repair leader =
    if is_cut cuts (link_of_members member leader) then None else repair_by known member repair leader

-- the member that bars another one from racing, if one does
abbrev pub barring : Ineligibility → Option MemberId
barring (bars.Candidate member) = Some member
barring (bars.OtherWrites member) = Some member
barring (bars.Ahead member) = Some member
barring (bars.Priority member) = Some member
barring _ = None

-- the name of the declared member of this number, if there is a number
abbrev pub declared_name : List Member → Option MemberId → Option Name
declared_name members id = option_map (λ member. member.name) (declared_member members id)

-- the member that a note of an agent speaks of, if it speaks of one
abbrev pub spoken_of : AgentNote → Option MemberId
spoken_of (agent_notes.DoesNotRace because) = barring because
spoken_of (agent_notes.HandsOver candidate) = Some candidate
spoken_of _ = None

-- what the agent of a member notes, with the name of the member that it speaks of
abbrev pub agent_noting : List Member → Member → AgentNote → EventKind
agent_noting members member note = kinds.Note (notes.OfAgent member note (declared_name members (spoken_of note)))
