-- Messages that are lost, and the commands of a script, uphold commits.
use Rattle.std.proofs.Common.{ℕ, ◌≡◌, ◌<◌, ◌≤◌, ◌++◌, Bool, true, false, cond, List, [], ◌∷◌, length, slice_get, Option, Some, None, option_and_then, refl, sym, subst, inr}
use Rattle.pat_base.specs.declared.member_id.MemberId.{MemberId}
use Rattle.pg_model.specs.Facts.{ServerFacts, is_replica}
use Rattle.event_book.specs.declared.agent_process.AgentProcess.{AgentProcess}
use Rattle.event_book.specs.declared.event.AgentEvent.TheVariants as agents
use Rattle.event_book.specs.declared.event.Event.{Event}
use Rattle.event_book.specs.declared.event.EventKind.{EventKind}
use Rattle.event_book.specs.declared.event.EventKind.TheVariants as kinds
use Rattle.event_book.specs.declared.event.MessageEvent.TheVariants.{Lost}
use Rattle.event_book.specs.declared.event.ServerEvent.TheVariants as servers
use Rattle.event_book.specs.declared.member.Member.{Member}
use Rattle.event_book.specs.Members.{server_of}
use Rattle.script_model.specs.declared.line.Command.{Command}
use Rattle.script_model.specs.declared.line.Command.TheVariants as commands
use Rattle.script_model.specs.Script.{HeadText, names_of}
use Rattle.cluster_model.specs.Cluster.{cluster_after}
use Rattle.cluster_model.specs.Commands.{kill_of, kinds_of}
use Rattle.cluster_model.specs.Next.{command_kind, declared, promote_events, agent_start_events}
use Rattle.cluster_model.specs.Parts.{event_of, events_of, for_some}
use Rattle.cluster_model.specs.ServerCommands.{crash_of, is_gone}
use Rattle.cluster_model.specs.State.{Cluster}
use Rattle.cluster_model.proofs.Commanding.{EndsNothing, HoldsOfCommands, command-holds}
use Rattle.event_book.specs.Premises.{IsHandsOffKind}
use Rattle.lease_law.proofs.Runs.{head-is, none-more}
use Rattle.commit_actions.specs.Actions.{Lose}
use Rattle.commit_actions.specs.Past.{Setup}
use Rattle.commit_showing.proofs.ShownMessages.{lost-shown}
use Rattle.commit_servers.specs.Happening.{MayHappen}
use Rattle.commit_servers.proofs.Beginning.{fits-aside}
use Rattle.commit_servers.proofs.Commits.{commit-may}
use Rattle.commit_servers.proofs.Kept.{change-once}
use Rattle.run_promise.specs.Members.{member_count}
use Rattle.run_promise.specs.Promise.{Upholds, UpholdsAlways}
use Rattle.lease_parts.proofs.Commands.{command-quiet}
use Rattle.lease_parts.proofs.Ending.{kept-loss}
use Rattle.cluster_model.proofs.Lists.{HoldsIf}
use Rattle.run_promise.proofs.Members.{declared-now, declared-within}
use Rattle.lease_parts.proofs.Promoting.{hands-off-back}
use Rattle.run_promise.proofs.Upholding.{upheld-for_some, upheld-none}
use Rattle.commit_parts.specs.Bridged.{CommitsBridged, KeepsInOrder, MeetsMode, kept_commits}
use Rattle.commit_parts.specs.Reading.{setup_of, volatile_of}
use Rattle.commit_parts.proofs.Agents.{upheld-kill}
use Rattle.commit_parts.proofs.Going.{GoesFrom, upheld-goes}
use Rattle.commit_parts.proofs.Servers.{upheld-quiet-if, upholds-crash}
use Rattle.commit_parts.proofs.Starting.{upheld-restart}
use Rattle.commit_parts.proofs.Transitions.{composable, kept-now}
use Rattle.pat_base.specs.declared.member_id.TheConstants.{MOST_MEMBERS}

-- ---- a message is lost
pub goes-loss : (setup : Setup) (cluster : Cluster) (number : ℕ)
    → GoesFrom setup cluster (event_of cluster (kinds.Message (Lost number)))
goes-loss setup cluster number named past fits =
    let kind : EventKind = kinds.Message (Lost number) in
    let later : Cluster = cluster_after cluster kind in
    record {
      moves = record {
        transitions =
            record { action = Lose number; events = event_of cluster kind; volatile_states = volatile_of cluster } ∷ [];
        whole = refl;
        allowed = (
          tt,
          lost-shown setup past (volatile_of cluster) (record { 0 = later.facts.clock }) number,
          change-once (record { 0 = later.facts.clock }) kind,
          tt,
        );
        once = (inr tt, tt);
        last = refl;
        fits = fits-aside past cluster.facts (volatile_of cluster) kind tt fits;
      };
      left = record {
        leave = record { agents = λ m agent is. is; asked = λ i question is. (is, refl) };
        causal = ((tt, (tt, tt)), (tt, tt));
        asks = λ s. (tt, tt);
        ordered = (tt, tt);
      };
    }

pub upholds-loss : (head : HeadText) (number : ℕ)
    → UpholdsAlways (kept_commits head) (λ cluster. event_of cluster (kinds.Message (Lost number)))
upholds-loss head number book cluster good =
    upheld-goes head book cluster (event_of cluster (kinds.Message (Lost number))) good
    (goes-loss (setup_of head) cluster number) (kept-loss head book cluster number good.lease)

-- ---- what a command brings that ends nothing may happen
commands-may : (cluster : Cluster) → HoldsOfCommands (MayHappen cluster.facts) cluster
commands-may cluster = record {
  suspended = λ m. tt;
  resumed = λ m. tt;
  committed = commit-may cluster.facts;
  frozen = λ m. tt;
  thawed = λ m. tt;
  slowed = λ m stop start. tt;
  links = λ change. tt;
}

command-may : (cluster : Cluster) (command : Command) → EndsNothing command
    → HoldsIf (MayHappen cluster.facts) (command_kind cluster command)
command-may cluster command is = command-holds (MayHappen cluster.facts) cluster (commands-may cluster) command is

-- ---- commands that bring one event at most
module _ (head : HeadText) (few : length (names_of head) ≤ MOST_MEMBERS) (book : List Event)
    (cluster : Cluster) (good : CommitsBridged head book cluster) where
  none : Upholds (kept_commits head) book cluster []
  none = upheld-none (kept_commits head) (composable head) book cluster good

  kill-by : (m : Member) (running : Bool) → m.id.number < member_count head
      → Upholds (kept_commits head) book cluster
      (events_of cluster (kinds_of (cond running (Some (kinds.Agent (agents.Killed m))) None)))
  kill-by m true small = upheld-kill head book cluster m small good
  kill-by m false small = none

  kill-found : (m : Member) (process : Option AgentProcess) → m.id.number < member_count head
      → Upholds (kept_commits head) book cluster (events_of cluster (kinds_of (option_and_then (kill_of m) process)))
  kill-found m None small = none
  kill-found m (Some process) small = kill-by m process.running small

  kill-declared : (found : Option Member) → ((m : Member) → found ≡ Some m → m.id.number < member_count head)
      → Upholds (kept_commits head) book cluster
      (events_of cluster
      (kinds_of (option_and_then (λ m. option_and_then (kill_of m) (slice_get cluster.facts.processes m.id.number))
      found)))
  kill-declared None small = none
  kill-declared (Some m) small = kill-found m (slice_get cluster.facts.processes m.id.number) (small m refl)

  crash-by : (m : Member) (gone : Bool)
      → Upholds (kept_commits head) book cluster
      (events_of cluster (kinds_of (cond gone None (Some (kinds.Server (servers.Crashed (server_of m)))))))
  crash-by m true = none
  crash-by m false = upholds-crash head book cluster (server_of m) good

  crash-found : (m : Member) (s : Option ServerFacts)
      → Upholds (kept_commits head) book cluster (events_of cluster (kinds_of (option_and_then (crash_of m) s)))
  crash-found m None = none
  crash-found m (Some s) = crash-by m (is_gone s.state)

  crash-declared : (found : Option Member)
      → Upholds (kept_commits head) book cluster
      (events_of cluster
      (kinds_of (option_and_then (λ m. option_and_then (crash_of m) (slice_get cluster.facts.servers m.id.number))
      found)))
  crash-declared None = none
  crash-declared (Some m) = crash-found m (slice_get cluster.facts.servers m.id.number)

  small-now : (id : MemberId) (m : Member) → declared cluster id ≡ Some m → m.id.number < member_count head
  small-now id m is = declared-within head few m (declared-now head few cluster good.lease.matched.members id m is)

  pub upheld-command : (command : Command)
      → Upholds (kept_commits head) book cluster (events_of cluster (kinds_of (command_kind cluster command)))
  upheld-command (commands.Kill id) = kill-declared (declared cluster id) (small-now id)
  upheld-command (commands.Crash id) = crash-declared (declared cluster id)
  upheld-command command = upheld-quiet-if head book cluster (command_kind cluster command) good
      (command-quiet cluster command tt) (command-may cluster command tt)

  pub upheld-restarts : (id : MemberId)
      → Upholds (kept_commits head) book cluster (for_some (declared cluster id) (agent_start_events cluster))
  upheld-restarts id =
      upheld-for_some (kept_commits head) (composable head) book cluster (declared cluster id)
      (agent_start_events cluster) good (λ m is. upheld-restart head book cluster m (small-now id m is) good)

-- ---- an operator's promotion breaks a premise
upheld-breach : (head : HeadText) (book : List Event) (cluster : Cluster) (event : Event) (events : List Event)
    → (IsHandsOffKind event.kind → ⊥) → CommitsBridged head book cluster
    → Upholds (kept_commits head) book cluster (event ∷ events)
upheld-breach head book cluster event events breach good = record {
  inside = inside;
  behind = λ meets. absurd (breach (hands-off-back book (event ∷ events) meets.timely.hands_off.events).0);
}
  where
    inside : (front rest : List Event) → front ++ rest ≡ event ∷ events → MeetsMode head (book ++ front)
        → KeepsInOrder head (book ++ front)
    inside [] rest e meets =
        subst (λ (l : List Event). KeepsInOrder head l) (sym (none-more book)) (kept-now head book cluster good)
    inside (x ∷ front) rest e meets =
        absurd (breach (subst (λ (z : Event). IsHandsOffKind z.kind) (head-is x event (front ++ rest) events e)
        (hands-off-back book (x ∷ front) meets.timely.hands_off.events).0))

promote-by : (head : HeadText) (book : List Event) (cluster : Cluster) (m : Member) (more : List EventKind)
    (replica : Bool) → CommitsBridged head book cluster
    → Upholds (kept_commits head) book cluster
    (events_of cluster (cond replica (kinds.Server (servers.Promoted (server_of m)) ∷ more) []))
promote-by head book cluster m more true good = upheld-breach head book cluster _ _ (λ no. no) good
promote-by head book cluster m more false good = upheld-none (kept_commits head) (composable head) book cluster good

pub upholds-promote : (head : HeadText) (m : Member)
    → UpholdsAlways (kept_commits head) (λ cluster. promote_events cluster m)
upholds-promote head m book cluster good =
    upheld-for_some (kept_commits head) (composable head) book cluster (slice_get cluster.facts.servers m.id.number)
    _ good (λ s is. promote-by head book cluster m _ (is_replica s.state) good)
