-- All that an input of an agent brings is allowed actions: the law's input with what it covers, and what comes behind.
use Rattle.std.proofs.Common.{ℕ, ◌≡◌, ◌≤◌, false, List, [], ◌∷◌, ◌++◌, append_assoc, append-nil, Option, Some, None, option_and_then, slice_get, All, refl, sym, ap, ◌∙◌, subst}
use Rattle.std.proofs.lemmas.List.Elements.{All-append, All-cons, All-head, All-nil, All-tail, All-weaker}
use Rattle.pat_base.specs.declared.server_state.Required.{Required}
use Rattle.pg_model.specs.Facts.{ServerFacts}
use Rattle.event_book.specs.declared.event.Event.{Event}
use Rattle.script_model.specs.Script.{HeadText}
use Rattle.agent_model.specs.declared.machine.Machine.{Machine}
use Rattle.agent_model.specs.declared.output.Output.{Output}
use Rattle.agent_model.specs.declared.output.Output.TheVariants as outputs
use Rattle.agent_model.specs.declared.output.Outgoing.TheVariants as outgoing
use Rattle.agent_model.specs.declared.output.ServerOrder.TheVariants as orders
use Rattle.agent_commit_law.specs.Committing.{GrowsByConnected, IsCovered, IsLawfulAs, IsSent, StandsAlone, is_carrying, requests_of}
use Rattle.agent_model.specs.Outputs.{has_one}
use Rattle.agent_outputs.specs.Orders.{IsOfTable, machine_after_outputs}
use Rattle.agent_commit_law.proofs.CommitQuiet.{IsUnasking, alone-unasking, asks-none, carries-none, covered as covered-quiet, unasking}
use Rattle.cluster_model.specs.Cluster.{cluster_over}
use Rattle.cluster_model.specs.Commands.{kinds_of}
use Rattle.cluster_model.specs.Inputs.{moment_of}
use Rattle.cluster_model.specs.Orders.{require_of}
use Rattle.cluster_model.specs.Parts.{each, events_of}
use Rattle.cluster_model.specs.State.{Cluster}
use Rattle.commit_actions.specs.Keys.{strict_quorum}
use Rattle.commit_actions.specs.Flights.{Flying, SyncRequest}
use Rattle.commit_actions.specs.Inputs.{IsGivenByLease, Sending}
use Rattle.commit_actions.specs.Past.{Past, Setup, VolatileState, confirmers_in, confirmers_of, past_over}
use Rattle.commit_showing.proofs.Fronts.{past-append}
use Rattle.commit_servers.specs.Acting.{Fits}
use Rattle.commit_servers.specs.Matching.{live_in}
use Rattle.commit_servers.specs.Sound.{WaitsForMembers}
use Rattle.run_promise.specs.Members.{member_count}
use Rattle.lease_inputs.proofs.InputServers.{Seen as MachineSeen}
use Rattle.lease_inputs.proofs.InputSeen.{found-of}
use Rattle.run_promise.proofs.Upholding.{over-append}
use Rattle.commit_showing.proofs.Asides.{once-behind, once-none}
use Rattle.commit_parts.specs.Bridged.{CommitsBridged}
use Rattle.commit_parts.specs.Reading.{past_of, setup_of, state_of_run, volatile_of}
use Rattle.commit_outputs.proofs.Alone.{alone-moves}
use Rattle.commit_outputs.specs.Answering.{AnswersNone}
use Rattle.commit_inputs.proofs.Connected.{grown-waits}
use Rattle.commit_outputs.proofs.Covering.{IsCarried, carried, leave-both, own-both}
use Rattle.commit_inputs.proofs.Inputs.{front-aside, Acting, After, Before, Events, First, Open, Page, PageOf, Part, SendsInside, Theirs, carried-out, front-acted, front-fits, front-flight, front-leaves, front-live, front-lives, front-needs, front-own, front-servers, given-unless, grows-by, lawful-as, page-moves, still-live, table}
use Rattle.commit_parts.proofs.Moving.{moves-then}
use Rattle.commit_parts.specs.Moving.{Moves}
use Rattle.commit_outputs.proofs.Page.{BeginsNone, PassesNone, RequiresNone, Sets, alone-begins, alone-passes, alone-requires, carried-begins, carried-requires, covered-passes, none-begins, none-passes, required-set, sets}
use Rattle.pat_base.specs.declared.member_id.TheConstants.{MOST_MEMBERS}

-- what comes of some, and then of others
pub each-both : {X : Type 0} (part : Cluster → X → List Event) (cluster : Cluster) (xs ys : List X)
    → each part cluster (xs ++ ys) ≡ each part cluster xs ++ each part (cluster_over cluster (each part cluster xs)) ys
each-both part cluster [] ys = refl
each-both part cluster (x ∷ xs) ys =
    ap (λ (l : List Event). part cluster x ++ l) (each-both part (cluster_over cluster (part cluster x)) xs ys)
    ∙ sym (append_assoc (part cluster x) (each part (cluster_over cluster (part cluster x)) xs)
    (each part
    (cluster_over (cluster_over cluster (part cluster x)) (each part (cluster_over cluster (part cluster x)) xs)) ys))
    ∙ ap (λ (c : Cluster). (part cluster x ++ each part (cluster_over cluster (part cluster x)) xs) ++ each part c ys)
    (sym (over-append cluster (part cluster x) (each part (cluster_over cluster (part cluster x)) xs)))

pub each-last : {X : Type 0} (part : Cluster → X → List Event) (cluster : Cluster) (xs : List X) (x : X)
    → each part cluster (xs ++ x ∷ []) ≡ each part cluster xs ++ part (cluster_over cluster (each part cluster xs)) x
each-last part cluster xs x = each-both part cluster xs (x ∷ [])
    ∙ ap (λ (l : List Event). each part cluster xs ++ l)
    (append-nil (part (cluster_over cluster (each part cluster xs)) x))

pub all-front : (P : Output → Type 0) (xs ys outs : List Output) → xs ++ ys ≡ outs → All P outs → All P xs
all-front P xs ys outs is all = by xs (subst (λ (l : List Output). All P l) (sym is) all)
  where
    by : (xs : List Output) → All P (xs ++ ys) → All P xs
    by [] all = All-nil P
    by (x ∷ xs) all = All-cons P x xs (All-head P x (xs ++ ys) all) (by xs (All-tail P x (xs ++ ys) all))

pub all-back : (P : Output → Type 0) (xs ys outs : List Output) → xs ++ ys ≡ outs → All P outs → All P ys
all-back P xs ys outs is all = by xs (subst (λ (l : List Output). All P l) (sym is) all)
  where
    by : (xs : List Output) → All P (xs ++ ys) → All P ys
    by [] all = all
    by (x ∷ xs) all = by xs (All-tail P x (xs ++ ys) all)

-- ---- no request that the law knows
pub carried-unasking : (output : Output) → IsCarried output → IsUnasking false output
carried-unasking (outputs.Message (outgoing.Send to sequence body)) is =
    alone-unasking (outputs.Message (outgoing.Send to sequence body)) is
carried-unasking (outputs.Server orders.Begin) is = absurd is
carried-unasking _ is = tt

pub sent-none : (m incarnation : ℕ) (outs : List Output) → All (IsUnasking false) outs
    → IsSent (requests_of m incarnation outs) None
sent-none m incarnation outs all =
    subst (λ (l : List SyncRequest). IsSent l None) (sym (asks-none false m incarnation outs all)) refl

module _ (head : HeadText) (book : List Event) (cluster : Cluster) (good : CommitsBridged head book cluster)
    (few : member_count head ≤ MOST_MEMBERS) (a : Acting head book cluster) where
  abbrev M : ℕ
  M = a.member.id.number

  abbrev Law : Setup
  Law = setup_of head

  abbrev P : Past
  P = past_of head book

  abbrev Outs : List Output
  Outs = (After head book cluster good a).outputs

  abbrev All_ : List Event
  All_ = Events head book cluster good a

  abbrev Of : List Event → Option Sending → Type 0
  Of events sends = PageOf head book cluster good a events sends

  abbrev pub Lawful : (sends : Option Sending) → SendsInside head book cluster good a sends
      → IsLawfulAs (moment_of cluster) a.heard strict_quorum (Before head book cluster good a)
      (state_of_run head book cluster) M (Theirs head book cluster good a sends)
  Lawful = lawful-as head book cluster good a

  -- nothing is given where no claim is sent
  pub given-none : (sent : SendsInside head book cluster good a None)
      → IsGivenByLease (state_of_run head book cluster) M (Theirs head book cluster good a None)
      (Lawful None sent).lawful.was (Lawful None sent).lawful.does
  given-none sent = given-unless (moment_of cluster) a.heard (Before head book cluster good a)
      (state_of_run head book cluster) M (Theirs head book cluster good a None) (Lawful None sent).lawful.was
      (Lawful None sent).lawful.does refl (Lawful None sent).does

  -- a front of its outputs, which the law's input covers
  module _ (front : List Output) (covered : All IsCovered front) (of_table : All IsOfTable front) where
    abbrev Front : List Event
    Front = Page head book cluster good a front (carried front covered) of_table

    -- where neither a request nor a required list comes behind
    pub front-page : All (IsUnasking false) Outs → All RequiresNone Outs → All PassesNone Outs → Of Front None
    front-page unasking none inside = record {
      own = front-own head book cluster good a front (carried front covered) of_table;
      leaves = front-leaves head book cluster good a front (carried front covered) of_table;
      once = once-none Front (front-aside head book cluster good a front (carried front covered) of_table);
      flight = front-flight head book cluster good a front (carried front covered) of_table;
      live = front-live head book cluster good a front (carried front covered) of_table
          ∙ still-live head book cluster good a (carries-none Outs unasking);
      needs = front-needs head book cluster good a front (carried front covered) of_table none;
      acted = front-acted head book cluster good a front (carried front covered) of_table;
      lives = front-lives head book cluster good a front (carried front covered) of_table;
      fits = front-fits head book cluster good a front (carried front covered) of_table;
      sent = record { sent = sent-none M a.agent.knows.incarnation Outs unasking; inside = none-passes Outs inside };
    }

  -- ---- outputs that are actions of their own, behind what the law's input covers
  pub page-then : (events : List Event) (behind : List Output) → PageOf head book cluster good a events None
      → All BeginsNone Outs → All IsOfTable behind → All StandsAlone behind → All AnswersNone behind
      → events ++ each (Part head book cluster good a) (cluster_over cluster events) behind ≡ All_
      → Moves Law P cluster All_
  page-then events behind page begins of_table alone none whole =
      subst (λ (l : List Event). Moves Law P cluster l) whole
      (moves-then Law P cluster events (each (Part head book cluster good a) (cluster_over cluster events) behind)
      (page-moves head book cluster good a events None page (none-begins Outs begins) (given-none page.sent))
      (λ fits. alone-moves Law a.member a.message (past_over P events)
      (cluster_over cluster events) behind fits of_table alone none))

  -- behind none but those that it covers in any case
  pub covered-moves : (front behind : List Output) → All IsCovered front → All StandsAlone behind
      → front ++ behind ≡ Outs → All AnswersNone Outs → Moves Law P cluster All_
  covered-moves front behind covered alone whole none =
      let of_table = all-front IsOfTable front behind Outs whole (table head book cluster good a) in
      let kept : All IsCarried front = carried front covered in
      let up : List Event = Page head book cluster good a front kept of_table in
      let on : (X : Output → Type 0) → All X front → ((output : Output) → StandsAlone output → X output) → All X Outs =
      λ X first rest. subst (λ (l : List Output). All X l) whole
      (All-append X front behind first (All-weaker StandsAlone X rest behind alone)) in
      page-then up behind
      (front-page front covered of_table
      (on (IsUnasking false) (unasking false front (covered-quiet false front covered)) alone-unasking)
      (on RequiresNone (All-weaker IsCarried RequiresNone carried-requires front kept) alone-requires)
      (on PassesNone (All-weaker IsCovered PassesNone covered-passes front covered) alone-passes))
      (on BeginsNone (All-weaker IsCarried BeginsNone carried-begins front kept) alone-begins)
      (all-back IsOfTable front behind Outs whole (table head book cluster good a)) alone
      (all-back AnswersNone front behind Outs whole none)
      (sym (ap (λ (l : List Output).
      Open head book cluster good a ∷ each (Part head book cluster good a) (First head book cluster good a) l)
      (sym whole)
      ∙ ap (λ (l : List Event). Open head book cluster good a ∷ l)
      (each-both (Part head book cluster good a) (First head book cluster good a) front behind)))

  -- ---- whom commits wait for, last of all or before the server begins
  module _ (front : List Output) (required : Required) (behind : List Output) (covered : All IsCovered front)
      (whole : front ++ outputs.Require required ∷ behind ≡ Outs) (none : All RequiresNone behind) where
    abbrev pub of_table : All IsOfTable front
    of_table = all-front IsOfTable front (outputs.Require required ∷ behind) Outs whole (table head book cluster good a)

    abbrev pub Up : List Event
    Up = Page head book cluster good a front (carried front covered) of_table

    abbrev pub Reached : Cluster
    Reached = cluster_over cluster Up

    required-is : (After head book cluster good a).machine.replication.required ≡ required
    required-is = ap (λ (m : Machine). m.replication.required) (carried-out head book cluster good a).machine_is
        ∙ ap (λ (l : List Output). (machine_after_outputs (moment_of cluster) a.machine l).replication.required)
        (sym whole)
        ∙ required-set (moment_of cluster) a.machine front required behind none

    module _ (sent : SendsInside head book cluster good a None) (uncarried : has_one is_carrying Outs ≡ false)
        (s : ServerFacts) (found : slice_get cluster.facts.servers M ≡ Some s) where
      grows : GrowsByConnected (Before head book cluster good a)
          ((state_of_run head book cluster).members M).required (confirmers_in required)
      grows =
          subst (λ (r : Required). GrowsByConnected (Before head book cluster good a)
          ((state_of_run head book cluster).members M).required (confirmers_in r))
          required-is
          (grows-by (moment_of cluster) a.heard (Before head book cluster good a)
          (state_of_run head book cluster) M (Theirs head book cluster good a None)
          (Lawful None sent).lawful.was (Lawful None sent).lawful.does (Lawful None sent).does)

      pub waits : WaitsForMembers required
      waits = grown-waits head book cluster good few a.member a.machine a.machine_is a.agent s found required grows

      pub there : slice_get Reached.facts.servers M ≡ Some s
      there =
          ap (λ (known : List ServerFacts). slice_get known M)
          (front-servers head book cluster good a front (carried front covered) of_table)
          ∙ found

      abbrev pub Set_ : List Event
      Set_ = Part head book cluster good a Reached (outputs.Require required)

      set-is : events_of Reached (kinds_of (require_of Reached.facts.members a.member required s)) ≡ Set_
      set-is =
          ap (λ (o : Option ServerFacts).
          events_of Reached (kinds_of (option_and_then (require_of Reached.facts.members a.member required) o)))
          (sym there)

      sets-to : (states : ℕ → VolatileState) (lives : (n : ℕ) → (states n).live ≡ live_in cluster.facts.servers n)
          → Sets (past_over P Up) Reached a.member states
          (front-fits head book cluster good a front (carried front covered) of_table states lives) required
          waits s there Set_
      sets-to states lives =
          subst (λ (l : List Event). Sets (past_over P Up) Reached a.member states
          (front-fits head book cluster good a front (carried front covered) of_table states lives) required
          waits s there l)
          set-is
          (sets (past_over P Up) Reached a.member states
          (front-fits head book cluster good a front (carried front covered) of_table states lives) required
          waits s there)

      -- as servers are
      pub now-set : Sets (past_over P Up) Reached a.member (volatile_of cluster)
          (front-fits head book cluster good a front (carried front covered) of_table (volatile_of cluster) (λ n. refl))
          required waits s there Set_
      now-set = sets-to (volatile_of cluster) (λ n. refl)

      past-both : past_over P (Up ++ Set_) ≡ past_over (past_over P Up) Set_
      past-both = past-append P Up Set_

      reached-both : cluster_over cluster (Up ++ Set_) ≡ cluster_over Reached Set_
      reached-both = over-append cluster Up Set_

      pub required-page : Of (Up ++ Set_) None
      required-page = record {
        own =
            own-both M Up Set_ (front-own head book cluster good a front (carried front covered) of_table) now-set.own;
        leaves = leave-both Up Set_
            (front-leaves head book cluster good a front (carried front covered) of_table) now-set.leaves;
        once = once-behind Up Set_
            (front-aside head book cluster good a front (carried front covered) of_table) now-set.once;
        flight = λ i. ap (λ (p : Past). p.flight i) past-both ∙ ap (λ (f : ℕ → Option Flying). f i) now-set.flight
            ∙ front-flight head book cluster good a front (carried front covered) of_table i;
        live = ap (λ (p : Past). p.holder_was_live) past-both ∙ now-set.live
            ∙ front-live head book cluster good a front (carried front covered) of_table
            ∙ still-live head book cluster good a uncarried;
        needs = ap (λ (p : Past). confirmers_of (slice_get p.required M)) past-both ∙ now-set.needs
            ∙ ap confirmers_in (sym required-is);
        acted = ap (λ (c : Cluster). c.agents) reached-both ∙ now-set.agents_same
            ∙ front-acted head book cluster good a front (carried front covered) of_table;
        lives = λ n. ap (λ (c : Cluster). live_in c.facts.servers n) reached-both ∙ now-set.lives n
            ∙ front-lives head book cluster good a front (carried front covered) of_table n;
        fits = λ states lives.
            subst (λ (p : Past). Fits p (cluster_over cluster (Up ++ Set_)).facts states) (sym past-both)
            (subst (λ (c : Cluster). Fits (past_over (past_over P Up) Set_) c.facts states) (sym reached-both)
            (sets-to states lives).fits_behind);
        sent = sent;
      }

  -- all of them: up to whom commits wait for
  pub requires-whole : (front behind : List Output) (required : Required) (covered : All IsCovered front)
      (of_table : All IsOfTable front) → front ++ outputs.Require required ∷ behind ≡ Outs
      → All_
      ≡ (Page head book cluster good a front (carried front covered) of_table ++ Part head book cluster good a
      (cluster_over cluster (Page head book cluster good a front (carried front covered) of_table))
      (outputs.Require required))
      ++ each (Part head book cluster good a)
      (cluster_over (cluster_over cluster (Page head book cluster good a front (carried front covered) of_table))
      (Part head book cluster good a
      (cluster_over cluster (Page head book cluster good a front (carried front covered) of_table))
      (outputs.Require required)))
      behind
  requires-whole front behind required covered of_table whole =
      let up : List Event = Page head book cluster good a front (carried front covered) of_table in
      let reached : Cluster = cluster_over cluster up in
      let set : List Event = Part head book cluster good a reached (outputs.Require required) in
      ap (λ (l : List Output).
      Open head book cluster good a ∷ each (Part head book cluster good a) (First head book cluster good a) l)
      (sym whole)
      ∙ ap (λ (l : List Event). Open head book cluster good a ∷ l)
      (each-both (Part head book cluster good a) (First head book cluster good a) front
      (outputs.Require required ∷ behind))
      ∙ sym (append_assoc up set (each (Part head book cluster good a) (cluster_over reached set) behind))

  -- the server that the machine is of
  pub server-found : (s : ServerFacts) × (slice_get cluster.facts.servers M ≡ Some s)
      × (s.state ≡ a.machine.server.state)
  server-found = let found = found-of cluster a.member a.machine a.machine_is in (
    found.mirrors.server.server,
    found.mirrors.server.is,
    ap (λ (x : MachineSeen). x.state) found.mirrors.server.seen_is,
  )

  -- behind whom commits wait for
  pub requires-moves : (front : List Output) (required : Required) (behind : List Output)
      → All IsCovered front → All StandsAlone behind → front ++ outputs.Require required ∷ behind ≡ Outs
      → All AnswersNone Outs → Moves Law P cluster All_
  requires-moves front required behind covered alone whole none =
      let last : List Output = outputs.Require required ∷ behind in
      let of_table = all-front IsOfTable front last Outs whole (table head book cluster good a) in
      let kept : All IsCarried front = carried front covered in
      let on : (X : Output → Type 0) → All X front → X (outputs.Require required)
      → ((output : Output) → StandsAlone output → X output) → All X Outs =
      λ X first here rest. subst (λ (l : List Output). All X l) whole
      (All-append X front last first
      (All-cons X (outputs.Require required) behind here (All-weaker StandsAlone X rest behind alone))) in
      let still : All (IsUnasking false) Outs =
      on (IsUnasking false) (unasking false front (covered-quiet false front covered)) tt alone-unasking in
      let sent : SendsInside head book cluster good a None = record {
        sent = sent-none M a.agent.knows.incarnation Outs still;
        inside = none-passes Outs
            (on PassesNone (All-weaker IsCovered PassesNone covered-passes front covered) tt alone-passes);
      } in
      let up : List Event = Page head book cluster good a front kept of_table in
      let set : List Event = Part head book cluster good a (cluster_over cluster up) (outputs.Require required) in
      page-then (up ++ set) behind
      (required-page front required behind covered whole
      (All-weaker StandsAlone RequiresNone alone-requires behind alone) sent
      (carries-none Outs still) server-found.0 server-found.1)
      (on BeginsNone (All-weaker IsCarried BeginsNone carried-begins front kept) tt alone-begins)
      (All-tail IsOfTable (outputs.Require required) behind
      (all-back IsOfTable front last Outs whole (table head book cluster good a)))
      alone
      (All-tail AnswersNone (outputs.Require required) behind (all-back AnswersNone front last Outs whole none))
      (ap (λ (c : Cluster). (up ++ set) ++ each (Part head book cluster good a) c behind) (over-append cluster up set)
      ∙ sym (requires-whole front behind required covered of_table whole))
