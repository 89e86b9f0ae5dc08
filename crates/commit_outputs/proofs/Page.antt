-- Outputs that the law's input covers: that servers fit behind them, and whom commits wait for from then on.
use Rattle.std.proofs.Common.{inr, ℕ, ◌≡◌, ◌≤◌, ◌<◌, ◌+◌, ◌||◌, Bool, true, false, if◌then◌else◌, List, [], ◌∷◌, ◌++◌, Option, Some, None, slice_get, All, refl, sym, ap, ◌∙◌, subst, arith, ◌==◌, option_map}
use Rattle.std.proofs.lemmas.List.Elements.{All-head, All-tail}
use Rattle.pat_base.specs.declared.server_state.Required.{Required}
use Rattle.pat_base.specs.declared.server_state.Required.TheVariants as requireds
use Rattle.pat_base.specs.declared.ticks.Ticks.{Ticks}
use Rattle.pat_base.specs.ServerState.{live}
use Rattle.pg_model.specs.Facts.{ServerFacts}
use Rattle.pg_model.specs.Replication.{requiring}
use Rattle.event_book.specs.declared.event.Event.{Event}
use Rattle.event_book.specs.declared.event.EventKind.{EventKind}
use Rattle.event_book.specs.declared.event.EventKind.TheVariants as kinds
use Rattle.event_book.specs.declared.event.ReplicationEvent.TheVariants as replications
use Rattle.event_book.specs.declared.member.Member.{Member}
use Rattle.event_book.specs.Facts.{Facts}
use Rattle.event_book.specs.Flight.{in_flight}
use Rattle.event_book.specs.Members.{server_of}
use Rattle.agent_model.specs.declared.machine.Machine.{Machine}
use Rattle.agent_model.specs.declared.output.Output.{Output}
use Rattle.agent_model.specs.declared.output.Output.TheVariants as outputs
use Rattle.agent_model.specs.declared.output.ServerOrder.TheVariants as orders
use Rattle.agent_model.specs.declared.output.Telling.TheVariants as tellings
use Rattle.agent_model.specs.declared.output.Feeding.TheVariants as feedings
use Rattle.agent_commit_law.specs.Committing.{IsCovered, StandsAlone, is_begin, is_claim_outside_sync}
use Rattle.agent_outputs.specs.Orders.{machine_after_output, machine_after_outputs}
use Rattle.agent_model.specs.Outputs.{has_one}
use Rattle.cluster_model.specs.Cluster.{cluster_after, cluster_over}
use Rattle.cluster_model.specs.Commands.{kinds_of}
use Rattle.cluster_model.specs.Orders.{is_same_required, require_of, required_names}
use Rattle.cluster_model.specs.Parts.{event_of, events_of}
use Rattle.cluster_model.specs.State.{Cluster}
use Rattle.lease_model.proofs.Tools.{both}
use Rattle.commit_actions.specs.Past.{Past, VolatileState, confirmers_in, confirmers_of, past_after, past_over}
use Rattle.commit_book.specs.Flights.{IsSameFlight, flying_if}
use Rattle.commit_servers.specs.Acting.{Fits}
use Rattle.commit_servers.specs.Matching.{live_in}
use Rattle.commit_servers.specs.Sound.{WaitsForMembers, IsServerSound}
use Rattle.commit_servers.proofs.Acting.{required-at}
use Rattle.commit_servers.proofs.Kept.{others-by}
use Rattle.commit_servers.proofs.Matching.{same-by}
use Rattle.commit_servers.proofs.Keeping.{sound-by}
use Rattle.cluster_model.proofs.Places.{get-here}
use Rattle.commit_showing.specs.Changes.{ChangeOrderOnce}
use Rattle.commit_outputs.proofs.Covering.{IsCarried, NoneAbove, Told, told_of}
use Rattle.event_book.specs.Logs.{logs_of}
use Rattle.event_book.specs.Required.{required_in, confirmed_in}
use Rattle.commit_showing.specs.Showing.{AreOwn}
use Rattle.commit_showing.specs.Books.{AllLeaveCommits}
use Rattle.pat_base.specs.declared.member_set.MemberSet.{MemberSet}
use Rattle.std.proofs.lemmas.Bool.Decides.{nat_tests}
use Rattle.event_book.specs.Writers.{writes_in}

-- ---- nothing is in flight above the last number
flown-none : (asked : _) (found : Option _) → found ≡ None → flying_if asked found ≡ None
flown-none asked found is = ap (flying_if asked) is

pub none-above : (past : Past) (cluster : Cluster) → IsSameFlight past cluster.facts → NoneAbove past cluster
none-above past cluster same i above = by (in_flight cluster.facts.flight i) refl
  where
    too-far : (a b : ℕ) → a < b → b ≤ a → ⊥
    too-far a b first second = omega (arith, first, second)

    by : (found : Option _) → in_flight cluster.facts.flight i ≡ found → past.flight i ≡ None
    by None is = same.same i ∙ flown-none past.asked (in_flight cluster.facts.flight i) is
    by (Some carried) is = absurd (too-far cluster.facts.sent i above (same.lease.flown i carried is))

-- ---- whom commits wait for, whether the server begins, and whether its member passes the sync key, by the outputs
abbrev pub RequiresNone : Output → Type 0
RequiresNone (outputs.Require required) = ⊥
RequiresNone _ = Unit {0}

abbrev pub BeginsNone : Output → Type 0
BeginsNone (outputs.Server orders.Begin) = ⊥
BeginsNone _ = Unit {0}

abbrev pub PassesNone : Output → Type 0
PassesNone (outputs.Tell tellings.ClaimsOutsideSync) = ⊥
PassesNone _ = Unit {0}

pub carried-requires : (output : Output) → IsCarried output → RequiresNone output
carried-requires (outputs.Require required) is = is
carried-requires _ is = tt

pub carried-begins : (output : Output) → IsCarried output → BeginsNone output
carried-begins (outputs.Server orders.Begin) is = is
carried-begins _ is = tt

pub covered-passes : (output : Output) → IsCovered output → PassesNone output
covered-passes (outputs.Tell tellings.ClaimsOutsideSync) covered = covered
covered-passes _ covered = tt

pub alone-requires : (output : Output) → StandsAlone output → RequiresNone output
alone-requires (outputs.Require required) alone = alone
alone-requires _ alone = tt

pub alone-begins : (output : Output) → StandsAlone output → BeginsNone output
alone-begins (outputs.Server orders.Begin) alone = alone
alone-begins _ alone = tt

pub alone-passes : (output : Output) → StandsAlone output → PassesNone output
alone-passes (outputs.Tell tellings.ClaimsOutsideSync) alone = alone
alone-passes _ alone = tt

stays-by : (now : Ticks) (machine : Machine) (output : Output) → RequiresNone output
    → (machine_after_output now machine output).replication ≡ machine.replication
stays-by now machine (outputs.Require required) none = absurd none
stays-by now machine (outputs.Server orders.Begin) none = refl
stays-by now machine (outputs.Watchdog feedings.Disarmed) none = refl
stays-by now machine (outputs.Tell tellings.ClaimsOutsideSync) none = refl
stays-by now machine _ none = refl

pub required-stays : (now : Ticks) (machine : Machine) (outs : List Output) → All RequiresNone outs
    → (machine_after_outputs now machine outs).replication ≡ machine.replication
required-stays now machine [] none = refl
required-stays now machine (output ∷ more) none =
    required-stays now (machine_after_output now machine output) more (All-tail RequiresNone output more none)
    ∙ stays-by now machine output (All-head RequiresNone output more none)

-- behind others one sets it
pub required-set : (now : Ticks) (machine : Machine) (front : List Output) (required : Required) (behind : List Output)
    → All RequiresNone behind
    → (machine_after_outputs now machine (front ++ outputs.Require required ∷ behind)).replication.required ≡ required
required-set now machine [] required behind none =
    ap (λ r. r.required) (required-stays now (machine_after_output now machine (outputs.Require required)) behind none)
required-set now machine (output ∷ front) required behind none =
    required-set now (machine_after_output now machine output) front required behind none

unbegun : (output : Output) → BeginsNone output → is_begin output ≡ false
unbegun (outputs.Server orders.Begin) none = absurd none
unbegun _ none = refl

unpassed : (output : Output) → PassesNone output → is_claim_outside_sync output ≡ false
unpassed (outputs.Tell tellings.ClaimsOutsideSync) none = absurd none
unpassed _ none = refl

none-meets : (test : Output → Bool) (P : Output → Type 0) → ((output : Output) → P output → test output ≡ false)
    → (outs : List Output) → All P outs → has_one test outs ≡ false
none-meets test P fails [] none = refl
none-meets test P fails (output ∷ more) none =
    ap (λ (b : Bool). b || has_one test more) (fails output (All-head P output more none))
    ∙ none-meets test P fails more (All-tail P output more none)

pub none-begins : (outs : List Output) → All BeginsNone outs → has_one is_begin outs ≡ false
none-begins outs none = none-meets is_begin BeginsNone unbegun outs none

pub none-passes : (outs : List Output) → All PassesNone outs → has_one is_claim_outside_sync outs ≡ false
none-passes outs none = none-meets is_claim_outside_sync PassesNone unpassed outs none

-- ---- servers fit behind what changes none of them
told-logs : (a b : Told) → a ≡ b → a.logs ≡ b.logs
told-logs a b e = ap (λ (t : Told). t.logs) e

pub fits-told : (past later : Past) (before after : Facts) (states next : ℕ → VolatileState)
    → told_of later ≡ told_of past → after.servers ≡ before.servers → after.remote ≡ before.remote
    → after.commits ≡ before.commits
    → after.acknowledged ≡ before.acknowledged
    → ((n : ℕ) → (next n).live ≡ (states n).live) → Fits past before states → Fits later after next
fits-told past later before after states next told servers remote commits acknowledged live fits = record {
  same = record {
    logs = ap (λ (t : Told). t.logs) told ∙ fits.same.logs
        ∙ ap (λ (known : List ServerFacts). logs_of known before.remote) (sym servers)
        ∙ ap (logs_of after.servers) (sym remote);
    required = ap (λ (t : Told). t.required) told ∙ fits.same.required
        ∙ ap (λ (known : List ServerFacts). required_in known) (sym servers);
    confirmed = ap (λ (t : Told). t.confirmed) told ∙ fits.same.confirmed
        ∙ ap (λ (known : List ServerFacts). confirmed_in known) (sym servers);
    writes = λ m. ap (λ (t : Told). t.writes m) told ∙ fits.same.writes m
        ∙ ap (λ (known : List ServerFacts). writes_in known m) (sym servers);
    acknowledged = ap (λ (t : Told). t.acknowledged) told ∙ fits.same.acknowledged ∙ sym acknowledged;
  };
  live = record {
    live = λ m. live m ∙ fits.live.live m ∙ ap (λ (known : List ServerFacts). live_in known m) (sym servers);
  };
  sound = record {
    each = λ m s is. subst (λ (n : ℕ). IsServerSound n s) (sym commits)
        (fits.sound.each m s (ap (λ (known : List ServerFacts). slice_get known m) (sym servers) ∙ is));
  };
}

-- ---- whom commits wait for is set
-- another one from the number
apart : (n : ℕ) → n ≡ n + 1 → ⊥
apart n e = omega (arith, e)

module _ (past : Past) (cluster : Cluster) (member : Member) (states : ℕ → VolatileState)
    (fits : Fits past cluster.facts states) (required : Required) (waits : WaitsForMembers required) (s : ServerFacts)
    (found : slice_get cluster.facts.servers member.id.number ≡ Some s) where
  abbrev M : ℕ
  M = member.id.number

  abbrev Setting : EventKind
  Setting = kinds.Replication
      (replications.RequiredSet (server_of member) required (required_names cluster.facts.members required))

  abbrev Set : List Event
  Set = events_of cluster (kinds_of (require_of cluster.facts.members member required s))

  -- what these events leave
  pub record Sets (events : List Event) : Type 0 where
    pub own : AreOwn M events
    pub leaves : AllLeaveCommits events
    pub once : ChangeOrderOnce events
    pub flight : (past_over past events).flight ≡ past.flight
    pub live : (past_over past events).holder_was_live ≡ past.holder_was_live
    pub fits_behind : Fits (past_over past events) (cluster_over cluster events).facts states
    pub needs : confirmers_of (slice_get (past_over past events).required M) ≡ confirmers_in required
    pub agents_same : (cluster_over cluster events).agents ≡ cluster.agents
    pub lives : (n : ℕ) → live_in (cluster_over cluster events).facts.servers n ≡ live_in cluster.facts.servers n
    pub server : ServerFacts
    pub server_is : slice_get (cluster_over cluster events).facts.servers M ≡ Some server
    pub state_same : server.state ≡ s.state

  set-fits : Fits (past_after past Setting) (cluster_after cluster Setting).facts states
  set-fits = record {
    same = same-by past cluster.facts Setting tt fits.same;
    live = record { live = λ n. fits.live.live n ∙ sym (others-by cluster.facts Setting (n + 1) n tt (apart n)) };
    sound = sound-by cluster.facts Setting waits fits.sound;
  }

  set-confirmers : confirmers_of (slice_get (past_after past Setting).required M) ≡ confirmers_in required
  set-confirmers = ap confirmers_of
      (get-here past.required M (λ before. required)
      ∙ ap (option_map (λ (before : Required). required)) (required-at past cluster.facts fits.same M s found))

  sets-new : Sets (event_of cluster Setting)
  sets-new = record {
    own = (refl, tt);
    leaves = (tt, tt);
    once = inr tt;
    flight = refl;
    live = refl;
    fits_behind = set-fits;
    needs = set-confirmers;
    agents_same = refl;
    lives = λ n. others-by cluster.facts Setting (n + 1) n tt (apart n);
    server = requiring required s;
    server_is = get-here cluster.facts.servers M (requiring required) ∙ ap (option_map (requiring required)) found;
    state_same = refl;
  }

  sets-old : confirmers_in s.required ≡ confirmers_in required → Sets []
  sets-old same = record {
    own = tt;
    leaves = tt;
    once = tt;
    flight = refl;
    live = refl;
    fits_behind = fits;
    needs = ap confirmers_of (required-at past cluster.facts fits.same M s found) ∙ same;
    agents_same = refl;
    lives = λ n. refl;
    server = s;
    server_is = found;
    state_same = refl;
  }

  sets-by : (same : Bool) → (same ≡ true → confirmers_in s.required ≡ confirmers_in required)
      → Sets (events_of cluster (kinds_of (if same then None else Some Setting)))
  sets-by true is = sets-old (is refl)
  sets-by false is = sets-new

  same-bits : (a b : _) → (a == b) ≡ true → a ≡ b
  same-bits a b e = grind (arith, nat_tests)

  same-confirmers : (a b : Required) → is_same_required a b ≡ true → confirmers_in a ≡ confirmers_in b
  same-confirmers requireds.Nobody requireds.Nobody e = refl
  same-confirmers requireds.AnyOne requireds.AnyOne e = refl
  same-confirmers (requireds.All first) (requireds.All second) e =
      ap (λ (bits : ℕ). let set : MemberSet = record { bits = bits } in confirmers_in (requireds.All set))
      (same-bits first.bits second.bits e)
  same-confirmers (requireds.AtLeast number first) (requireds.AtLeast other second) e = refl
  same-confirmers (requireds.AtLeast number first) requireds.Nobody e = absurd (both e)
  same-confirmers (requireds.AtLeast number first) requireds.AnyOne e = absurd (both e)
  same-confirmers (requireds.AtLeast number first) (requireds.All second) e = absurd (both e)
  same-confirmers requireds.Nobody (requireds.AtLeast number second) e = absurd (both e)
  same-confirmers requireds.AnyOne (requireds.AtLeast number second) e = absurd (both e)
  same-confirmers (requireds.All first) (requireds.AtLeast number second) e = absurd (both e)
  same-confirmers requireds.Nobody requireds.AnyOne e = absurd (both e)
  same-confirmers requireds.Nobody (requireds.All second) e = absurd (both e)
  same-confirmers requireds.AnyOne requireds.Nobody e = absurd (both e)
  same-confirmers requireds.AnyOne (requireds.All second) e = absurd (both e)
  same-confirmers (requireds.All first) requireds.Nobody e = absurd (both e)
  same-confirmers (requireds.All first) requireds.AnyOne e = absurd (both e)

  pub sets : Sets Set
  sets = sets-by (is_same_required s.required required) (same-confirmers s.required required)
