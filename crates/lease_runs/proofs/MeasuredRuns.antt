-- Each run tells before each feed from when it is measured, and is fenced.
use Rattle.std.proofs.Common.{◌≡◌, ◌+◌, ℕ, zero, suc, List, [], Option, Some, None, option_map, slice_get, refl, ◌∙◌, ap, sym, subst, arith}
use Rattle.event_book.specs.declared.event.Event.{Event}
use Rattle.event_book.specs.declared.member.Member.{Member}
use Rattle.script_model.specs.Script.{HeadText, names_of}
use Rattle.cluster_model.specs.declared.step.Step.{Step}
use Rattle.cluster_model.specs.Cluster.{cluster_over}
use Rattle.cluster_model.specs.Next.{agent_start_events, declared, run_events}
use Rattle.cluster_model.specs.Starting.{cluster_of, first_agent, options_of}
use Rattle.cluster_model.specs.State.{Cluster}
use Rattle.cluster_model.specs.Ticking.{tick_events}
use Rattle.event_book.specs.Premises.{Moments, first_moments}
use Rattle.event_book.specs.declared.agent_process.AgentProcess.{AgentProcess}
use Rattle.event_book.specs.Processes.{first_processes, running_in}
use Rattle.lease_model.proofs.Tools.{none-some, some-is}
use Rattle.run_promise.specs.Members.{declared_members, member_count}
use Rattle.std.proofs.lemmas.Option.{slice_get-map}
use Rattle.cluster_model.specs.Requests.{action_of}
use Rattle.run_promise.specs.Parts.{PartsUphold}
use Rattle.run_promise.specs.Promise.{IsComposable, Promise, Upholds, UpholdsAlways}
use Rattle.run_promise.proofs.Upholding.{over-append}
use Rattle.run_promise.proofs.Walking.{upholds-run}
use Rattle.summary_model.specs.Sights.{first_since}
use Rattle.summary_model.specs.Telling.{AreMeasured}
use Rattle.lease_runs.specs.Fencing.{AreFenced}
use Rattle.lease_runs.proofs.Fencing.{AreDecided, decided-both, decided-fenced}
use Rattle.lease_runs.proofs.AskedOnce.{KnowAsked, KnowsAsked, numbered-members}
use Rattle.lease_runs.proofs.MeasuredHearing.{told-hearing, told-operated, told-wake}
use Rattle.lease_runs.proofs.MeasuredParts.{tells-acknowledge, tells-kind, tells-promote, tells-receive-at-most, tells-restart, tells-tick, told-store}
use Rattle.lease_runs.proofs.Measuring.{Knows, Measures, Tells, knows-over, measured-both, told-for_some, told-plain}
use Rattle.lease_runs.proofs.Moments.{moments-append, moments_over}

-- what holds between two parts of a step: the book tells before each feed from when it is measured, and grants
-- by the keys of the moment; and it leaves a cluster of which the sending of what is in flight is known
record MeasuredSoFar (head : HeadText) (book : List Event) (cluster : Cluster) : Type 0 where
  measured : AreMeasured first_moments first_since book
  decided : AreDecided (cluster_of head) book
  left : cluster ≡ cluster_over (cluster_of head) book
  knows : Knows (moments_over first_moments book) cluster

-- each part of a step does so, whatever the premises
abbrev measures_told : HeadText → Promise
measures_told head = record { premises = λ book. Unit {0}; moment = λ book. Unit {0}; between = MeasuredSoFar head }

composable : (head : HeadText) → IsComposable (measures_told head)
composable head = record { front = λ front rest meets. tt; now = λ book cluster good. tt }

upheld-measured : (head : HeadText) (book : List Event) (cluster : Cluster) (events : List Event)
    → MeasuredSoFar head book cluster → Measures (moments_over first_moments book) cluster events
    → Upholds (measures_told head) book cluster events
upheld-measured head book cluster events good tells = record {
  inside = λ front rest e meets. tt;
  behind = λ meets. record {
    measured = measured-both first_moments first_since book events good.measured (λ later. tells.measured later);
    decided = decided-both (cluster_of head) book events good.decided
        (subst (λ (c : Cluster). AreDecided c events) good.left tells.decided);
    left = ap (λ (c : Cluster). cluster_over c events) good.left ∙ sym (over-append (cluster_of head) book events);
    knows = subst (λ (moments : Moments). Knows moments (cluster_over cluster events))
        (sym (moments-append first_moments book events))
        (knows-over (moments_over first_moments book) cluster events good.knows tells);
  };
}

upholds-measured : (head : HeadText) (part : Cluster → List Event) → Tells part
    → UpholdsAlways (measures_told head) part
upholds-measured head part tells book cluster good =
    upheld-measured head book cluster (part cluster) good (tells (moments_over first_moments book) cluster good.knows)

-- whoever a member is
abbrev IsAny : Member → Type 0
IsAny member = Unit {0}

parts : (head : HeadText) → PartsUphold IsAny (measures_told head)
parts head = record {
  members = λ book cluster good i member is. tt;
  inputs = record {
    wakes = λ book cluster member process good is found acts. upheld-measured head book cluster _ good
        (told-wake (moments_over first_moments book) cluster member good.knows);
    hears = λ book cluster number message member good found to through. upheld-measured head book cluster _ good
        (told-hearing (moments_over first_moments book) cluster number message member good.knows found to through);
    operates = λ book cluster member process o request asked good is found acts stands answers.
        upheld-measured head book cluster _ good
        (told-operated (moments_over first_moments book) cluster member good.knows (action_of o asked));
  };
  arrivals = λ book cluster number message good found to. upheld-measured head book cluster _ good
      (told-store (moments_over first_moments book) cluster number message good.knows found to);
  losses = λ number. upholds-measured head _ (λ moments cluster knows. told-plain moments cluster _ (tt, tt) knows);
  notes = λ note. upholds-measured head _ (λ moments cluster knows. told-plain moments cluster _ (tt, tt) knows);
  ticks = upholds-measured head tick_events tells-tick;
  receipts = λ most member. upholds-measured head _ (tells-receive-at-most most member);
  acknowledgements = λ member. upholds-measured head _ (tells-acknowledge member);
  restarts = λ id. upholds-measured head _
      (λ moments cluster knows. told-for_some moments cluster (declared cluster id)
      (agent_start_events cluster) knows (λ m is. tells-restart m moments cluster knows));
  promotions = λ member is. upholds-measured head _ (tells-promote member);
  commands = λ command. upholds-measured head _ (tells-kind command);
}

-- before the first event nothing is in flight, and nobody waits for anything
first-runs : (count m : ℕ) (process : AgentProcess) → slice_get (first_processes count) m ≡ Some process
    → process.incarnation ≡ 1
first-runs zero m process is = absurd (none-some process is)
first-runs (suc count) zero process is =
    ap (λ (p : AgentProcess). p.incarnation) (sym (some-is (running_in 1) process is))
first-runs (suc count) (suc m) process is = first-runs count m process is

first-agents : (head : HeadText) → KnowAsked [] (λ m. 1) (cluster_of head).agents
first-agents head m agent is =
    by (slice_get members m) (sym (slice_get-map (first_agent head.cluster (options_of head) members) members m) ∙ is)
  where
    members : List Member
    members = declared_members head

    by : (found : Option Member)
        → option_map (first_agent head.cluster (options_of head) members) found ≡ Some (Some agent)
        → KnowsAsked [] m 1 agent
    by None e = absurd (none-some (Some agent) e)
    by (Some one) e = subst (KnowsAsked [] m 1) (some-is _ agent (some-is _ (Some agent) e)) (record {
      run_is = refl;
      ends = tt;
      counted = λ waited at. absurd (none-some waited at);
      stays = λ waited at. absurd (none-some waited at);
    })

measured-first : (head : HeadText) → MeasuredSoFar head [] (cluster_of head)
measured-first head = record {
  measured = tt;
  decided = tt;
  left = refl;
  knows = record {
    sending = record {
      clock = refl;
      order = tt;
      flown = λ i carried e. absurd (none-some carried e);
      known = λ i carried e. absurd (none-some carried e);
    };
    asks = record {
      runs = λ m process is. first-runs (member_count head) m process is;
      agents = first-agents head;
      asks = record {
        once = λ i j c d r is. absurd (none-some c is);
        fresh = λ i c r moment is. absurd (none-some c is);
        unique = λ r a b is. absurd is;
        yes = λ i c r is. absurd (none-some c is);
        asked = λ i c r is. absurd (none-some c is);
        held = λ r moment is. absurd is;
      };
    };
    members = λ n peer is. numbered-members 0 (names_of head) n peer is ∙ from-none n;
  };
}
  where
    from-none : (n : ℕ) → 0 + n ≡ n
    from-none n = omega arith

measured-run : (head : HeadText) (steps : List Step)
    → MeasuredSoFar head (run_events (cluster_of head) steps)
    (cluster_over (cluster_of head) (run_events (cluster_of head) steps))
measured-run head steps =
    (upholds-run IsAny (measures_told head) (composable head) (parts head) steps [] (cluster_of head)
    (measured-first head)).behind
    tt

pub runs-measured : (head : HeadText) (steps : List Step)
    → AreMeasured first_moments first_since (run_events (cluster_of head) steps)
runs-measured head steps = (measured-run head steps).measured

pub runs-fenced : (head : HeadText) (steps : List Step)
    → AreFenced (cluster_of head) (run_events (cluster_of head) steps)
runs-fenced head steps =
    decided-fenced (cluster_of head) (run_events (cluster_of head) steps) (measured-run head steps).decided
