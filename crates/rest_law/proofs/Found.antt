-- Who is found as the primary accepts writes.
use Rattle.std.proofs.Common.{ℕ, ◌≡◌, ◌<◌, ◌&&◌, Bool, true, false, List, [], ◌∷◌, length, Option, Some, None, replicate, slice_get, IsTrue, suc, zero, arith, refl, ap, sym, subst, ◌∙◌}
use Rattle.std.proofs.lemmas.Bool.{false≢true}
use Rattle.std.proofs.lemmas.Option.{none-some, same_Some}
use Rattle.pat_base.specs.declared.server_state.State.{State}
use Rattle.pat_base.specs.declared.server_state.State.TheVariants as states
use Rattle.pat_base.specs.declared.ticks.Ticks.{Ticks}
use Rattle.pat_base.specs.ServerState.{writes}
use Rattle.pg_model.specs.Facts.{ServerFacts, fresh}
use Rattle.script_model.specs.Script.{HeadText, names_of}
use Rattle.member_options.specs.declared.member_option.MemberOptions.{MemberOptions}
use Rattle.cluster_view.specs.declared.view.AgentView.{AgentView}
use Rattle.cluster_view.specs.Snapshots.{SnapshotFacts}
use Rattle.cluster_view.specs.Roles.{has_key}
use Rattle.event_book.specs.declared.event.Event.{Event}
use Rattle.event_book.specs.declared.member.Member.{Member}
use Rattle.event_book.specs.Facts.{Facts, facts_over}
use Rattle.event_book.specs.Writers.{AcceptsWrites, HasOneWriter, writes_in, writes_now}
use Rattle.event_book.proofs.Told.{count-told, writes-same, writes-told}
use Rattle.lease_model.proofs.Tools.{and-first}
use Rattle.rest_health.specs.declared.endpoint.Endpoint.{Endpoint}
use Rattle.rest_health.specs.declared.endpoint.Endpoint.TheVariants as paths
use Rattle.rest_health.specs.Health.{status_where}
use Rattle.rest_health.specs.Laws.{is_for_primaries}
use Rattle.rest_health.specs.Statuses.{ok}
use Rattle.rest_facts.specs.Checks.{health_of_view}
use Rattle.pat_base.specs.ServerState.{is_primary}
use Rattle.rest_message.specs.Requests.{RequestText}
use Rattle.rest_message.specs.Targets.{lag_of, path_of}
use Rattle.rest_paths.specs.declared.asking.Ask.{Ask}
use Rattle.rest_paths.specs.declared.asking.Ask.TheVariants as asks
use Rattle.rest_paths.specs.Asking.{ask_of}
use Rattle.rest_answer.specs.Answers.{Replies, answer_by, answer_to, health_reply}
use Rattle.rest_message.specs.Replies.{ReplyText}
use Rattle.agent_model.specs.declared.machine.Machine.{Machine}
use Rattle.agent_model.specs.declared.machine.Replication.{Replication}
use Rattle.agent_model.specs.Agents.{AgentFacts, Outcome, outcome_from}
use Rattle.agent_model.specs.Views.{shown}
use Rattle.cluster_model.specs.Cluster.{cluster_after, cluster_over}
use Rattle.cluster_model.specs.Inputs.{agent_at, moment_of, standing}
use Rattle.cluster_model.specs.Machines.{machine_from, machine_of}
use Rattle.cluster_model.specs.Starting.{cluster_of}
use Rattle.cluster_model.specs.State.{Cluster}
use Rattle.rest_law.specs.Finding.{FindsOne, IsFound}

ok-healthy : (test : Bool) → status_where test ≡ ok → test ≡ true
ok-healthy true is = refl
ok-healthy false is = absurd (omega (arith, is))

-- who is healthy on a path for primaries has a server that runs as one
primary-runs : (endpoint : Endpoint) (view : AgentView) (seen : Option SnapshotFacts) (lag : Option (List ℕ))
    → IsTrue (is_for_primaries endpoint) → health_of_view endpoint view seen lag ≡ ok → is_primary view.state ≡ true
primary-runs paths.Root view seen lag is healthy = and-first (is_primary view.state) (has_key view.role)
    (ok-healthy (is_primary view.state && has_key view.role) healthy)
primary-runs paths.Primary view seen lag is healthy = and-first (is_primary view.state) (has_key view.role)
    (ok-healthy (is_primary view.state && has_key view.role) healthy)
primary-runs paths.ReadWrite view seen lag is healthy = and-first (is_primary view.state) (has_key view.role)
    (ok-healthy (is_primary view.state && has_key view.role) healthy)
primary-runs paths.Leader view seen lag is healthy = absurd (false≢true is)
primary-runs paths.Replica view seen lag is healthy = absurd (false≢true is)
primary-runs paths.ReadOnly view seen lag is healthy = absurd (false≢true is)
primary-runs paths.Sync view seen lag is healthy = absurd (false≢true is)
primary-runs paths.Synchronous view seen lag is healthy = absurd (false≢true is)
primary-runs paths.ReadOnlySync view seen lag is healthy = absurd (false≢true is)
primary-runs paths.Async view seen lag is healthy = absurd (false≢true is)
primary-runs paths.Asynchronous view seen lag is healthy = absurd (false≢true is)
primary-runs paths.Health view seen lag is healthy = absurd (false≢true is)
primary-runs paths.Readiness view seen lag is healthy = absurd (false≢true is)
primary-runs paths.Liveness view seen lag is healthy = absurd (false≢true is)

primary-writes : (state : State) → is_primary state ≡ true → writes state ≡ true
primary-writes states.Primary is = refl
primary-writes states.Creating is = absurd (false≢true is)
primary-writes states.Stopped is = absurd (false≢true is)
primary-writes (states.Starting as_primary at) is = absurd (false≢true is)
primary-writes states.Replica is = absurd (false≢true is)
primary-writes (states.Stopping was_primary at) is = absurd (false≢true is)
primary-writes states.Crashed is = absurd (false≢true is)

-- the status of a health check is that of its facts, with a body and without one
reply-status : (view : AgentView) (seen : Option SnapshotFacts) (endpoint : Endpoint) (lag : Option (List ℕ))
    (told : Bool) → (health_reply view seen endpoint lag told).status ≡ health_of_view endpoint view seen lag
reply-status view seen endpoint lag true = refl
reply-status view seen endpoint lag false = refl

same-reply : (first second : ReplyText) → Replies first ≡ Replies second → first ≡ second
same-reply first second is = cc

check-status : (view : AgentView) (seen : Option SnapshotFacts) (asked : RequestText) (endpoint : Endpoint)
    (told : Bool) (reply : ReplyText) → ask_of asked.verb (path_of asked.target) ≡ asks.Health endpoint told
    → answer_to view seen asked ≡ Replies reply
    → health_of_view endpoint view seen (lag_of asked.target) ≡ reply.status
check-status view seen asked endpoint told reply asks_so is =
    let lag : Option (List ℕ) = lag_of asked.target in
    let said : Replies (health_reply view seen endpoint lag told) ≡ Replies reply =
    ap (λ (ask : Ask). answer_by view seen lag asked.body ask) (sym asks_so) ∙ is in
    sym (reply-status view seen endpoint lag told)
    ∙ ap (λ (r : ReplyText). r.status) (same-reply (health_reply view seen endpoint lag told) reply said)

-- an agent stands with its machine, whose server is that of its number
standing-machine : (agent : Option AgentFacts) (machine : Option Machine) (o : Outcome)
    → standing agent machine ≡ Some o → machine ≡ Some o.machine
standing-machine (Some agent) (Some machine) o is =
    ap Some (ap (λ (f : Outcome). f.machine) (same_Some (outcome_from agent.role agent.knows machine []) o is))
standing-machine (Some agent) None o is = absurd (none-some o is)
standing-machine None machine o is = absurd (none-some o is)

machine-writes : (receives by_failsafe : Bool) (replication : Option Replication) (options : Option MemberOptions)
    (deadline hold : Option (Option Ticks)) (server : Option ServerFacts) (machine : Machine)
    → machine_from receives by_failsafe replication options deadline hold server ≡ Some machine
    → writes machine.server.state ≡ true → writes_now server ≡ true
machine-writes receives by_failsafe (Some replication) (Some options) (Some deadline) (Some hold) (Some s) machine is
    writing =
    ap (λ (m : Machine). writes m.server.state) (same_Some _ machine is) ∙ writing
machine-writes receives by_failsafe None options deadline hold server machine is writing = absurd (none-some machine is)
machine-writes receives by_failsafe (Some replication) None deadline hold server machine is writing =
    absurd (none-some machine is)
machine-writes receives by_failsafe (Some replication) (Some options) None hold server machine is writing =
    absurd (none-some machine is)
machine-writes receives by_failsafe (Some replication) (Some options) (Some deadline) None server machine is writing =
    absurd (none-some machine is)
machine-writes receives by_failsafe (Some replication) (Some options) (Some deadline) (Some hold) None machine is
    writing =
    absurd (none-some machine is)

-- who is found has a server that accepts writes by its state
found-writes : (cluster : Cluster) (member : Member) → IsFound cluster member
    → writes_in cluster.facts.servers member.id.number ≡ true
found-writes cluster member found =
    let view : AgentView = shown (moment_of cluster) found.agent in
    let seen : Option SnapshotFacts = found.agent.knows.seen in
    let endpoint : Endpoint = found.looks.0 in
    let healthy : health_of_view endpoint view seen (lag_of found.asked.target) ≡ ok =
    check-status view seen found.asked endpoint found.looks.1 found.reply found.looks.3 found.answers ∙ found.is_ok in
    let runs : is_primary view.state ≡ true =
    primary-runs endpoint view seen (lag_of found.asked.target) found.looks.2 healthy in
    machine-writes _ _ _ _ _ _ (slice_get cluster.facts.servers member.id.number) found.agent.machine
    (standing-machine (agent_at cluster.agents member.id.number) (machine_of cluster member) found.agent found.stands)
    (primary-writes found.agent.machine.server.state runs)

-- a server that accepts writes is one of the servers
writes-below : (servers : List ServerFacts) (n : ℕ) → writes_in servers n ≡ true → n < length servers
writes-below [] n is = absurd (false≢true is)
writes-below (s ∷ servers) zero is = omega arith
writes-below (s ∷ servers) (suc n) is = omega (arith, writes-below servers n is)

-- before the first event none does
none-writes : (base count n : ℕ) → writes_in (replicate count (fresh base)) n ≡ false
none-writes base zero n = refl
none-writes base (suc count) zero = refl
none-writes base (suc count) (suc n) = none-writes base count n

facts-left : (cluster : Cluster) (events : List Event)
    → (cluster_over cluster events).facts ≡ facts_over cluster.facts events
facts-left cluster [] = refl
facts-left cluster (event ∷ events) = facts-left (cluster_after cluster event.kind) events

pub found-accepts : (head : HeadText) (book : List Event) (member : Member)
    → IsFound (cluster_over (cluster_of head) book) member → AcceptsWrites book member.id.number
found-accepts head book member found =
    let n : ℕ = member.id.number in
    let start : Facts = (cluster_of head).facts in
    let now : writes_in (facts_over start book).servers n ≡ true =
    ap (λ (f : Facts). writes_in f.servers n) (sym (facts-left (cluster_of head) book))
    ∙ found-writes (cluster_over (cluster_of head) book) member found in
    let small : n < length start.servers =
    subst (λ (count : ℕ). n < count) (count-told start book) (writes-below (facts_over start book).servers n now) in
    sym (writes-same (writes_in start.servers) (λ m. false) book n (none-writes head.base (length (names_of head)) n))
    ∙ sym (writes-told start book n small) ∙ now

-- where one server accepts writes, one member is found
pub one-found : (head : HeadText) (book : List Event) → HasOneWriter book → FindsOne head book
one-found head book sole first second one other =
    sole first.id.number second.id.number (found-accepts head book first one) (found-accepts head book second other)
