-- Events that are an action of the law keep the law.
use Rattle.std.proofs.Common.{ℕ, ◌≡◌, ◌++◌, Bool, true, List, [], slice_get, Option, Some, None, refl, ◌∙◌, ap, sym, subst}
use Rattle.std.proofs.Math.Path.{fun_ext}
use Rattle.pat_base.specs.declared.server_state.State.{State}
use Rattle.pat_base.specs.declared.server_state.State.TheVariants as states
use Rattle.pat_base.specs.ServerState.{live, writes}
use Rattle.pg_model.specs.Facts.{ServerFacts}
use Rattle.event_book.specs.declared.event.Event.{Event}
use Rattle.event_book.specs.Writers.{writes_in, writes_now, writes_over}
use Rattle.cluster_model.specs.Cluster.{cluster_over}
use Rattle.script_model.specs.Script.{HeadText}
use Rattle.cluster_model.specs.State.{Cluster}
use Rattle.lease_model.specs.Actions.{Action, Tick, Deliver, Lose, Input, Start, Kill, Crash, Note, act, IsLawfulAction}
use Rattle.lease_model.specs.Claims.{BeginsBehind, MayBeginBehind, ShowsIt}
use Rattle.lease_model.specs.Past.{Past, past_of, first_past, machine_of, state_of}
use Rattle.event_book.specs.Kinds.{AllAre}
use Rattle.lease_model.specs.Showing.{IsLocal, IsLocalAction}
use Rattle.lease_model.specs.States.{Machine, State as Lease}
use Rattle.lease_law.proofs.LocalActions.{local-shown}
use Rattle.lease_law.proofs.Runs.{one-front-of, transition-kept, writes-past}
use Rattle.lease_law.proofs.Showing.{past-append}
use Rattle.lease_model.proofs.Tools.{both}
use Rattle.lease_law.proofs.Timely.{transition-allowed, front-timely}
use Rattle.lease_book.proofs.Groups.{begins-front}
use Rattle.lease_parts.specs.Asides.{IsAside}
use Rattle.lease_parts.specs.Bridged.{Bridged, IsMatched}
use Rattle.lease_parts.specs.Declaring.{declared_of}
use Rattle.lease_parts.specs.Kept.{MeetsPremises, IsKept, TellsAction}
use Rattle.lease_parts.specs.LocalActions.{machines_by_action}
use Rattle.lease_parts.specs.Machines.{live_now}
use Rattle.lease_parts.specs.Volatile.{volatile_of, machine_in}
use Rattle.lease_parts.proofs.Asides.{asides-begin, matched-behind}
use Rattle.lease_parts.proofs.SameMachine.{machine-same}

writing-lives : (state : State) → writes state ≡ true → live state ≡ true
writing-lives states.Primary is = is
writing-lives (states.Stopping primary at) is = is
writing-lives (states.Starting primary at) is = absurd (both is)
writing-lives _ is = is

writer-lives : (found : Option ServerFacts) → writes_now found ≡ true → live_now found ≡ true
writer-lives None is = is
writer-lives (Some s) is = writing-lives s.state is

-- the law's state behind a book, by what its cluster keeps
abbrev Behind : HeadText → List Event → Cluster → Lease
Behind head book cluster = state_of (declared_of head) (past_of book) (volatile_of cluster)

-- who accepts writes behind the action is live then
lives-behind : (head : HeadText) (book : List Event) (cluster : Cluster) (events : List Event) (action : Action)
    → TellsAction head book cluster events action
    → (n : ℕ) → writes_over (past_of book).writes events n ≡ true
    → ((act (Behind head book cluster) action).members n).live ≡ true
lives-behind head book cluster events action tells n is =
    let later : Cluster = cluster_over cluster events in
    let told : writes_in later.facts.servers n ≡ writes_over (past_of book).writes events n =
    sym (tells.matched.machines.writes n) ∙ ap (λ (past : Past). past.writes n) (past-append first_past book events)
    ∙ ap (λ (w : ℕ → Bool). w n) (writes-past (past_of book) events) in
    sym (ap (λ (s : Lease). (s.members n).live) tells.shown)
    ∙ writer-lives (slice_get later.facts.servers n) (told ∙ is)

-- events that are an action, in which only who may begin begins, keep the law
pub action-kept : (head : HeadText) (book : List Event) (cluster : Cluster) (events : List Event) (action : Action)
    → Bridged head book cluster
    → BeginsBehind (MayBeginBehind (Behind head book cluster) action) [] events
    → (MeetsPremises head (book ++ events) → TellsAction head book cluster events action)
    → IsKept head book cluster events
action-kept head book cluster events action good begins tells = record {
  inside = λ front rest e meets.
      one-front-of (declared_of head) book (volatile_of cluster) action front good.carried
      (front-timely (declared_of head) book (volatile_of cluster) action front meets.timely
      (begins-front (MayBeginBehind (Behind head book cluster) action) [] front rest
      (subst (λ (l : List Event). BeginsBehind (MayBeginBehind (Behind head book cluster) action) [] l)
      (sym e) begins)));
  behind = λ meets.
      let told = tells meets in
      record {
        matched = told.matched;
        carried = transition-kept (declared_of head) book (volatile_of cluster)
            (record { action = action; events = events; volatile_states = volatile_of (cluster_over cluster events) })
            good.carried
            (transition-allowed (declared_of head) book (volatile_of cluster) action events meets.timely
            (record {
              lawful = told.lawful;
              shows = told.shows;
              begins = begins;
              lives = lives-behind head book cluster events action told;
            }))
            told.shown;
      };
}

-- the law's machines are those that are seen of the cluster
pub machine-is : (head : HeadText) (past : Past) (cluster : Cluster) → IsMatched head past cluster → (m : ℕ)
    → machine_of past (volatile_of cluster m) m ≡ machine_in cluster m
machine-is head past cluster matched m =
    machine-same _ _ _ _ _ _ _ _ _ _ _ _ refl (matched.machines.deadline m) (matched.failsafe.bases m)
    (matched.machines.hold m) refl (matched.machines.runs m)

acted-is : (s : Lease) (action : Action) → IsLocalAction action
    → (act s action).members ≡ machines_by_action action s.members
acted-is s (Start k) is = refl
acted-is s (Kill k) is = refl
acted-is s (Crash k) is = refl
acted-is s Note is = refl
acted-is s (Tick stops) is = absurd is
acted-is s (Deliver number answer granted) is = absurd is
acted-is s (Lose number) is = absurd is
acted-is s (Input member input) is = absurd is

local-lawful : (s : Lease) (action : Action) → IsLocalAction action → IsLawfulAction s action
local-lawful s (Input member input) is = absurd is
local-lawful s _ is = tt

local-shows : (s : Lease) (action : Action) (events : List Event) → IsLocalAction action → ShowsIt s action events
local-shows s (Input member input) events is = absurd is
local-shows s _ events is = tt

-- events that change machines alone, as an action does, keep the law
pub machines-kept : (head : HeadText) (book : List Event) (cluster : Cluster) (events : List Event) (action : Action)
    → Bridged head book cluster
    → IsLocalAction action → AllAre IsLocal events
    → BeginsBehind (MayBeginBehind (Behind head book cluster) action) [] events
    → IsMatched head (past_of (book ++ events)) (cluster_over cluster events)
    → ((m : ℕ) → machine_in (cluster_over cluster events) m ≡ machines_by_action action (machine_in cluster) m)
    → IsKept head book cluster events
machines-kept head book cluster events action good local all begins matched machines =
    let later : Cluster = cluster_over cluster events in
    let s : Lease = Behind head book cluster in
    let seen : s.members ≡ machine_in cluster = fun_ext (machine-is head (past_of book) cluster good.matched) in
    action-kept head book cluster events action good begins (λ meets. record {
      lawful = local-lawful s action local;
      shows = local-shows s action events local;
      shown = local-shown (declared_of head) book (volatile_of cluster)
          (record { action = action; events = events; volatile_states = volatile_of later }) local all
          (λ m. machine-is head (past_of (book ++ events)) later matched m ∙ machines m
          ∙ ap (λ (ms : ℕ → Machine). machines_by_action action ms m) (sym seen)
          ∙ ap (λ (ms : ℕ → Machine). ms m) (sym (acted-is s action local)));
      matched = matched;
    })

-- events at which no agent acts and which change machines alone, as an action does
pub local-kept : (head : HeadText) (book : List Event) (cluster : Cluster) (events : List Event) (action : Action)
    → Bridged head book cluster
    → IsLocalAction action → AllAre IsAside events → AllAre IsLocal events
    → ((m : ℕ) → machine_in (cluster_over cluster events) m ≡ machines_by_action action (machine_in cluster) m)
    → IsKept head book cluster events
local-kept head book cluster events action good local asides all machines =
    machines-kept head book cluster events action good local all
    (asides-begin (MayBeginBehind (Behind head book cluster) action) [] events asides)
    (matched-behind head book cluster events asides good.matched) machines
