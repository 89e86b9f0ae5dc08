-- Commits whose clients are told that they are stored.
use Rattle.std.specs.Prelude.{ℕ, ◌≡◌, if◌then◌else◌, false, List, [], ◌∷◌, ◌++◌, All, Option, Some, None, slice_get}
use Rattle.pat_base.specs.declared.lsn.Lsn.{Lsn}
use Rattle.pat_base.specs.declared.server_state.Required.{Required}
use Rattle.pat_base.specs.ServerState.{writes}
use Rattle.pg_model.specs.declared.waiting.Waiting.{Waiting}
use Rattle.pg_model.specs.Facts.{ServerFacts}
use Rattle.pg_model.specs.Replication.{is_met, may_acknowledge}
use Rattle.event_book.specs.declared.event.EventKind.{EventKind}
use Rattle.event_book.specs.declared.event.EventKind.TheVariants as kinds
use Rattle.event_book.specs.declared.event.ReplicationEvent.TheVariants as replications
use Rattle.event_book.specs.declared.member.Member.{Member}
use Rattle.event_book.specs.Members.{server_of}
use Rattle.cluster_model.specs.Losing.{losses_of}

-- of these waiting commits the first ones, as far as each is confirmed by whom it waits for
abbrev pub confirmed_front : Required → List (Option Lsn) → List Waiting → List ℕ
confirmed_front required confirmed [] = []
confirmed_front required confirmed (first ∷ more) =
    if is_met required first.end confirmed then first.serial ∷ confirmed_front required confirmed more else []

-- the commits of a server that may be acknowledged, in order
abbrev pub ready_commits : ServerFacts → List ℕ
ready_commits s = if writes s.state then confirmed_front s.required s.confirmed s.waiting else []

-- a commit of the server of a member is acknowledged
abbrev pub acknowledgement : Member → ℕ → EventKind
acknowledgement member commit = kinds.Replication (replications.Acknowledged (server_of member) commit)

-- these commits of the server of a member are acknowledged, one after another; which servers lack one is told behind it
abbrev pub acknowledgements : List ServerFacts → List Member → Member → List ℕ → List EventKind
acknowledgements known members member [] = []
acknowledgements known members member (commit ∷ commits) =
    acknowledgement member commit ∷ (losses_of commit known members ++ acknowledgements known members member commits)

-- all that may be
abbrev pub acknowledge_kinds : List ServerFacts → List Member → Member → Option ServerFacts → List EventKind
acknowledge_kinds known members member None = []
acknowledge_kinds known members member (Some s) = acknowledgements known members member (ready_commits s)

-- no commit of a server is left that may be acknowledged, if there is that server
abbrev pub IsDone : Option ServerFacts → Type 0
IsDone None = Unit {0}
IsDone (Some s) = may_acknowledge s ≡ false

-- no commit is left that may be acknowledged at the server of a declared member
abbrev pub AreAcknowledged : List Member → List ServerFacts → Type 0
AreAcknowledged members servers = All (λ member. IsDone (slice_get servers member.id.number)) members
