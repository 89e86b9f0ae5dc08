-- An input at whose end the server begins: the law's input has it live ahead, and then it begins.
use Rattle.std.proofs.Common.{ℕ, ◌≡◌, ◌≤◌, ◌&&◌, ◌||◌, Bool, true, false, if◌then◌else◌, List, [], ◌∷◌, ◌++◌, append_assoc, append-nil, Option, Some, None, slice_get, All, refl, sym, ap, ◌∙◌, subst, ◌==◌, ◌+◌}
use Rattle.std.proofs.lemmas.List.Elements.{All-append, All-cons, All-head, All-nil, All-push, All-tail, All-weaker}
use Rattle.pat_base.specs.declared.server_state.Required.{Required}
use Rattle.pat_base.specs.declared.server_state.State.{State as ServerState}
use Rattle.pat_base.specs.declared.server_state.State.TheVariants as states
use Rattle.pat_base.specs.declared.ticks.Ticks.{Ticks}
use Rattle.pat_base.specs.ServerState.{live}
use Rattle.pg_model.specs.declared.status.ServerStatus.{ServerStatus}
use Rattle.pg_model.specs.Facts.{ServerFacts, has_data, is_down, is_replica}
use Rattle.event_book.specs.declared.event.Event.{Event}
use Rattle.script_model.specs.Script.{HeadText}
use Rattle.agent_model.specs.declared.machine.Machine.{Machine}
use Rattle.agent_model.specs.declared.output.Output.{Output}
use Rattle.agent_model.specs.declared.output.Output.TheVariants as outputs
use Rattle.agent_model.specs.declared.output.Feeding.TheVariants as feedings
use Rattle.agent_model.specs.declared.output.Noting.TheVariants as notings
use Rattle.agent_model.specs.declared.output.Outgoing.TheVariants as outgoing
use Rattle.agent_model.specs.declared.output.ServerOrder.TheVariants as orders
use Rattle.agent_model.specs.declared.output.Telling.TheVariants as tellings
use Rattle.agent_model.specs.Acting.{status_begun}
use Rattle.pg_model.specs.Status.{status_primary_started, status_started, status_starting}
use Rattle.agent_model.specs.Claiming.{can_begin_on_claim}
use Rattle.agent_commit_law.specs.Committing.{IsCovered, IsSent, is_begin, is_carrying, live_shown, requests_of}
use Rattle.agent_outputs.specs.Orders.{IsOfTable, machine_after_output, machine_after_outputs}
use Rattle.agent_model.specs.Outputs.{has_one}
use Rattle.agent_commit_law.proofs.CommitRows.{begins-data}
use Rattle.agent_commit_law.proofs.CommitQuiet.{IsUnasking, asks-last, carried-last, covered as covered-quiet, unasking}
use Rattle.cluster_model.specs.Cluster.{cluster_over}
use Rattle.cluster_model.specs.Inputs.{moment_of}
use Rattle.cluster_model.specs.Messages.{begin_events}
use Rattle.cluster_model.specs.State.{Cluster}
use Rattle.lease_model.proofs.Tools.{both, put-here, put-there}
use Rattle.commit_actions.specs.Actions.{Input}
use Rattle.commit_actions.specs.Past.{Past, Setup, VolatileState, past_over}
use Rattle.commit_showing.proofs.Fronts.{past-append}
use Rattle.commit_servers.specs.Acting.{Fits}
use Rattle.commit_servers.specs.Matching.{IsLiveAhead, live_in, live_now}
use Rattle.run_promise.specs.Members.{member_count}
use Rattle.lease_parts.specs.Machines.{live_now as live_told}
use Rattle.lease_inputs.proofs.InputKept.{resembles-later}
use Rattle.lease_inputs.proofs.InputSeen.{found-of}
use Rattle.run_promise.proofs.Upholding.{over-append}
use Rattle.commit_parts.specs.Bridged.{CommitsBridged}
use Rattle.commit_parts.specs.Reading.{past_of, setup_of, volatile_of}
use Rattle.commit_outputs.proofs.Beginning.{begin-moves}
use Rattle.commit_inputs.proofs.Bringing.{Lawful, Up, given-none, now-set, of_table, required-page, requires-whole, server-found}
use Rattle.commit_inputs.proofs.Inputs.{Acting, After, Ahead, Before, Events, PageOf, Part, SendsInside, Theirs, agents-ahead, carried-out, change-none, page-shown, stays-on}
use Rattle.commit_parts.specs.Moving.{Moves, MovesFrom}
use Rattle.commit_outputs.proofs.Page.{PassesNone, RequiresNone, covered-passes, none-passes}
use Rattle.pg_model.specs.Running.{moment_after}
use Rattle.pat_base.specs.declared.member_id.TheConstants.{MOST_MEMBERS}

-- ---- the server of the machine, by the outputs
kept-by : (now : Ticks) (machine : Machine) (output : Output) → IsCovered output
    → (machine_after_output now machine output).server ≡ machine.server
kept-by now machine (outputs.Message (outgoing.Send to sequence body)) covered = refl
kept-by now machine (outputs.Watchdog (feedings.Armed until)) covered = refl
kept-by now machine (outputs.Watchdog (feedings.Fed until)) covered = refl
kept-by now machine (outputs.Watchdog feedings.Disarmed) covered = refl
kept-by now machine (outputs.Note (notings.Agent note)) covered = refl
kept-by now machine (outputs.Tell (tellings.Told request told)) covered = refl
kept-by now machine _ covered = absurd covered

begun-by : (now : Ticks) (machine : Machine) (front : List Output) (required : Required) → All IsCovered front
    → (machine_after_outputs now machine
    (front ++ outputs.Require required ∷ (outputs.Server orders.Begin) ∷ [])).server
    ≡ status_begun now machine.server
begun-by now machine [] required covered = refl
begun-by now machine (output ∷ front) required covered =
    begun-by now (machine_after_output now machine output) front required (All-tail IsCovered output front covered)
    ∙ ap (status_begun now) (kept-by now machine output (All-head IsCovered output front covered))

-- who can begin on a claim is live then, and has data
starting-lives : (now : Ticks) (server : ServerStatus) (at_once : Bool)
    → live (if at_once then status_started true server else record server {
      state = states.Starting true (moment_after now server.start_delay);
    }).state ≡ true
starting-lives now server true = refl
starting-lives now server false = refl

both-so : (a b : Bool) → a ≡ true → b ≡ true → a && b ≡ true
both-so true b first second = second
both-so false b first second = absurd (both first)

down-lives : (now : Ticks) (server : ServerStatus) (state : ServerState) → server.state ≡ state
    → is_replica state ≡ false → is_down state ≡ true → server.was_primary ≡ true
    → live (status_begun now server).state ≡ true
down-lives now server state is other down was =
    ap (λ (b : Bool). live (status_primary_started now (if b then record server {
      state = states.Primary;
      timeline = server.timeline + 1;
      was_primary = true;
    } else server)).state) (ap is_replica is ∙ other)
    ∙ ap (λ (b : Bool). live (if b then status_starting true now server else server).state)
    (both-so (is_down server.state) server.was_primary (ap is_down is ∙ down) was)
    ∙ starting-lives now server (server.start_delay.0 == 0)

live-begun : (now : Ticks) (server : ServerStatus) (state : ServerState) → server.state ≡ state
    → can_begin_on_claim server.was_primary state ≡ true → live (status_begun now server).state ≡ true
live-begun now server states.Replica is can =
    ap (λ (b : Bool). live (status_primary_started now (if b then record server {
      state = states.Primary;
      timeline = server.timeline + 1;
      was_primary = true;
    } else server)).state) (ap is_replica is)
live-begun now server states.Stopped is can = down-lives now server states.Stopped is refl refl can
live-begun now server states.Crashed is can = down-lives now server states.Crashed is refl refl can
live-begun now server states.Creating is can = absurd (both can)
live-begun now server (states.Starting as_primary at) is can = absurd (both can)
live-begun now server states.Primary is can = absurd (both can)
live-begun now server (states.Stopping was at) is can = absurd (both can)

-- both laws read one thing of whether a server is live
live-same : (found : Option ServerFacts) → live_now found ≡ live_told found
live-same None = refl
live-same (Some s) = refl

one-begins : (front : List Output) (required : Required)
    → has_one is_begin (front ++ outputs.Require required ∷ (outputs.Server orders.Begin) ∷ []) ≡ true
one-begins [] required = refl
one-begins (output ∷ front) required =
    ap (λ (b : Bool). is_begin output || b) (one-begins front required) ∙ or-true (is_begin output)
  where
    or-true : (b : Bool) → b || true ≡ true
    or-true true = refl
    or-true false = refl

module _ (head : HeadText) (book : List Event) (cluster : Cluster) (good : CommitsBridged head book cluster)
    (few : member_count head ≤ MOST_MEMBERS) (a : Acting head book cluster)
    (front : List Output) (required : Required) (covered : All IsCovered front)
    (whole : front ++ outputs.Require required ∷ (outputs.Server orders.Begin) ∷ []
    ≡ (After head book cluster good a).outputs) where
  abbrev M : ℕ
  M = a.member.id.number

  abbrev Law : Setup
  Law = setup_of head

  abbrev P : Past
  P = past_of head book

  abbrev Outs : List Output
  Outs = (After head book cluster good a).outputs

  unasking-front : All (IsUnasking false) (front ++ outputs.Require required ∷ [])
  unasking-front = All-push (IsUnasking false) front (outputs.Require required)
      (unasking false front (covered-quiet false front covered)) tt

  passes-none : All PassesNone (front ++ outputs.Require required ∷ (outputs.Server orders.Begin) ∷ [])
  passes-none = All-append PassesNone front (outputs.Require required ∷ (outputs.Server orders.Begin) ∷ [])
      (All-weaker IsCovered PassesNone covered-passes front covered)
      (All-cons PassesNone (outputs.Require required) ((outputs.Server orders.Begin) ∷ []) tt
      (All-cons PassesNone (outputs.Server orders.Begin) [] tt (All-nil PassesNone)))

  sends-none : IsSent (requests_of M a.agent.knows.incarnation Outs) None
  sends-none = subst (λ (l : List Output). IsSent (requests_of M a.agent.knows.incarnation l) None)
      (append_assoc front (outputs.Require required ∷ []) ((outputs.Server orders.Begin) ∷ []) ∙ whole)
      (subst (λ (l : List _). IsSent l None)
      (sym (asks-last false M a.agent.knows.incarnation
      (front ++ outputs.Require required ∷ []) (outputs.Server orders.Begin) unasking-front))
      refl)

  uncarried : has_one is_carrying Outs ≡ false
  uncarried = subst (λ (l : List Output). has_one is_carrying l ≡ false)
      (append_assoc front (outputs.Require required ∷ []) ((outputs.Server orders.Begin) ∷ []) ∙ whole)
      (carried-last (front ++ outputs.Require required ∷ []) (outputs.Server orders.Begin) unasking-front refl)

  sent : SendsInside head book cluster good a None
  sent = record {
    sent = sends-none;
    inside = none-passes Outs (subst (λ (l : List Output). All PassesNone l) whole passes-none);
  }

  begin-quiet : All RequiresNone ((outputs.Server orders.Begin) ∷ [])
  begin-quiet = All-cons RequiresNone (outputs.Server orders.Begin) [] tt (All-nil RequiresNone)

  abbrev Kept : All IsOfTable front
  Kept = of_table head book cluster good few a front required
      ((outputs.Server orders.Begin) ∷ []) covered whole begin-quiet

  abbrev Upto : List Event
  Upto = Up head book cluster good few a front required ((outputs.Server orders.Begin) ∷ []) covered whole begin-quiet

  abbrev Set : List Event
  Set = Part head book cluster good a (cluster_over cluster Upto) (outputs.Require required)

  abbrev Covered : List Event
  Covered = Upto ++ Set

  abbrev Ready : Cluster
  Ready = cluster_over cluster Covered

  page : PageOf head book cluster good a Covered None
  page = required-page head book cluster good few a front required
      ((outputs.Server orders.Begin) ∷ []) covered whole begin-quiet
      sent uncarried (server-found head book cluster good few a).0 (server-found head book cluster good few a).1

  abbrev Begun : List Event
  Begun = begin_events Ready a.member

  -- all its events
  whole-events : Events head book cluster good a ≡ Covered ++ Begun
  whole-events =
      requires-whole head book cluster good few a front ((outputs.Server orders.Begin) ∷ []) required covered Kept whole
      ∙ ap (λ (c : Cluster). Covered ++ (begin_events c a.member ++ [])) (sym (over-append cluster Upto Set))
      ∙ ap (λ (l : List Event). Covered ++ l) (append-nil Begun)

  begins-it : has_one is_begin Outs ≡ true
  begins-it = ap (has_one is_begin) (sym whole) ∙ one-begins front required

  can : can_begin_on_claim a.machine.server.was_primary a.machine.server.state ≡ true
  can = (stays-on head book cluster good a).begins begins-it

  lives-after : live (After head book cluster good a).machine.server.state ≡ true
  lives-after =
      ap (λ (m : Machine). live m.server.state) (carried-out head book cluster good a).machine_is
      ∙ ap (λ (l : List Output). live (machine_after_outputs (moment_of cluster) a.machine l).server.state) (sym whole)
      ∙ ap (λ (s : ServerStatus). live s.state) (begun-by (moment_of cluster) a.machine front required covered)
      ∙ live-begun (moment_of cluster) a.machine.server a.machine.server.state refl can

  lives-ahead : live_shown (Before head book cluster good a) (After head book cluster good a) ≡ true
  lives-ahead =
      ap (λ (b : Bool). if b then live (After head book cluster good a).machine.server.state
      else live a.machine.server.state)
      begins-it
      ∙ lives-after

  -- the books have the server live behind them all
  lives-behind : live_in (cluster_over Ready Begun).facts.servers M ≡ true
  lives-behind =
      ap (λ (c : Cluster). live_in c.facts.servers M) (sym (over-append cluster Covered Begun))
      ∙ ap (λ (l : List Event). live_in (cluster_over cluster l).facts.servers M) (sym whole-events)
      ∙ live-same (slice_get (cluster_over cluster (Events head book cluster good a)).facts.servers M)
      ∙ (resembles-later head book cluster good.lease a.member a.agent a.machine
      (found-of cluster a.member a.machine a.machine_is) a.here a.heard a.number a.message a.opening
      a.opening_is a.numbered a.low a.well a.acts).lives
      ∙ lives-after

  ahead : IsLiveAhead (Ahead head book cluster good a) Ready.facts.servers M
  ahead = record {
    here = ap (λ (state : VolatileState). state.live) (put-here (volatile_of cluster) M _) ∙ lives-ahead;
    others = λ n other. ap (λ (state : VolatileState). state.live) (put-there (volatile_of cluster) M _ n other)
        ∙ sym (page.lives n);
  }

  fits : Fits (past_over P Covered) Ready.facts (volatile_of Ready)
  fits = page.fits (volatile_of Ready) page.lives

  -- the server is there, and has data
  server-ready : (s : ServerFacts) × (slice_get Ready.facts.servers M ≡ Some s) × (has_data s.state ≡ true)
  server-ready =
      let set = now-set head book cluster good few a front required
      ((outputs.Server orders.Begin) ∷ []) covered whole begin-quiet sent
      uncarried (server-found head book cluster good few a).0 (server-found head book cluster good few a).1 in (
        set.server,
        ap (λ (c : Cluster). slice_get c.facts.servers M) (over-append cluster Upto Set) ∙ set.server_is,
        ap has_data (set.state_same ∙ (server-found head book cluster good few a).2)
            ∙ begins-data a.machine.server.was_primary a.machine.server.state can,
      )

  begun : MovesFrom Law (past_over P Covered) (Ahead head book cluster good a) Ready Begun
  begun = begin-moves Law (past_over P Covered) (Ahead head book cluster good a) Ready a.member fits.same
      fits.sound ahead (agents-ahead head book cluster good a Covered None page) server-ready.0 server-ready.1
      server-ready.2 lives-behind

  pub begins-moves : Moves Law P cluster (Events head book cluster good a)
  begins-moves = subst (λ (l : List Event). Moves Law P cluster l) (sym whole-events) (record {
    transitions = record {
      action = Input M (Theirs head book cluster good a None);
      events = Covered;
      volatile_states = Ahead head book cluster good a;
    } ∷ begun.transitions;
    whole = ap (λ (l : List Event). Covered ++ l) begun.whole;
    allowed = (
      ((Lawful head book cluster good few a None page.sent).lawful, given-none head book cluster good few a page.sent),
      page-shown head book cluster good a Covered None page,
      change-none Covered page.leaves,
      begun.allowed,
    );
    once = (page.once, begun.once);
    last = begun.last ∙ ap volatile_of (sym (over-append cluster Covered Begun));
    fits =
        subst (λ (p : Past).
        Fits p (cluster_over cluster (Covered ++ Begun)).facts (volatile_of (cluster_over cluster (Covered ++ Begun))))
        (sym (past-append P Covered Begun))
        (subst (λ (c : Cluster). Fits (past_over (past_over P Covered) Begun) c.facts (volatile_of c))
        (sym (over-append cluster Covered Begun)) begun.fits);
  })
