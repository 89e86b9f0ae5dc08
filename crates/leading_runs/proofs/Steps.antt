-- What happens elsewhere and beside a steady leader, and its own wake.
use Rattle.std.proofs.Common.{Bool, List, None, Option, Some, [], ap, arith, cond, false, length, nat_le, refl, slice_get, subst, sym, true, ℕ, ◌&&◌, ◌<◌, ◌||◌, ◌∙◌, ◌≡◌, ◌≢◌, ◌≤◌}
use Rattle.agent_model.specs.Agents.{AgentFacts, Leader, Outcome, RoleFacts}
use Rattle.agent_model.specs.Wake.{finds_ended, has_turn, is_overdue}
use Rattle.agent_model.specs.declared.heard.Heard.TheVariants.{Wake}
use Rattle.agent_model.specs.declared.knowledge.PendingQuestion.{PendingQuestion}
use Rattle.agent_model.specs.declared.machine.Machine.{Machine}
use Rattle.cluster_model.specs.Cluster.{cluster_after, cluster_over}
use Rattle.cluster_model.specs.Inputs.{has_work, is_to_wake, may_act, moment_of, outcome_of, standing_of, standing}
use Rattle.cluster_model.specs.Machines.{machine_of}
use Rattle.cluster_model.specs.Messages.{no_message, wake_events_if, wake_events_of}
use Rattle.cluster_model.specs.Next.{acknowledge_events, all_entries, declared, receive_events_at_most, receive_events_of}
use Rattle.cluster_model.specs.Parts.{event_of, for_some}
use Rattle.cluster_model.specs.State.{Cluster}
use Rattle.event_book.specs.Kinds.{AllAre}
use Rattle.event_book.specs.declared.agent_process.AgentProcess.{AgentProcess}
use Rattle.event_book.specs.declared.event.AgentEvent.TheVariants as agents
use Rattle.event_book.specs.declared.event.Event.{Event}
use Rattle.event_book.specs.declared.event.EventKind.TheVariants as kinds
use Rattle.event_book.specs.declared.event.MessageEvent.TheVariants.{Lost}
use Rattle.event_book.specs.declared.event.Note.{Note}
use Rattle.event_book.specs.declared.member.Member.{Member}
use Rattle.leading_parts.proofs.Aside.{input-beside, serves-elsewhere}
use Rattle.leading_parts.proofs.Others.{wake-elsewhere}
use Rattle.leading_parts.proofs.Parts.{acknowledges-beside, acknowledges-elsewhere, receives-beside, receives-elsewhere}
use Rattle.leading_parts.specs.Aside.{IsBeside}
use Rattle.leading_parts.specs.Elsewhere.{AreElsewhere}
use Rattle.leading_parts.specs.Others.{AreNumbered}
use Rattle.leading_runs.proofs.Keeping.{phase-beside}
use Rattle.leading_runs.proofs.Stages.{IsDue, Seen, Sleeps, Stage, Stands, Turns, rank_of}
use Rattle.leading_runs.proofs.Standing.{standing as standing-of}
use Rattle.leading_runs.proofs.Walking.{Goes, Keeps, Leave, Within, goes-none}
use Rattle.lease_owners.specs.Kept.{IsOwned}
use Rattle.lease_owners.proofs.EveryRun.{acknowledged-owned, lost-owned, noted-owned, received-owned, stand-numbered, wake-owned}
use Rattle.pat_base.specs.declared.member_id.TheConstants.{MOST_MEMBERS}
use Rattle.run_promise.specs.Members.{IsDeclared}
use Rattle.script_model.specs.Script.{HeadText, names_of}
use Rattle.std.proofs.lemmas.Bool.Decides.{nat_tests}
use Rattle.std.specs.Prelude.{is_none}

module _ (head : HeadText) (few : length (names_of head) ≤ MOST_MEMBERS) (member : Member) where
  abbrev N : ℕ
  N = member.id.number

  -- ---- what happens elsewhere and beside
  pub goes-beside : (rank : ℕ) (cluster : Cluster) (events : List Event)
      → IsOwned head cluster → Within head member rank cluster → Leave head member cluster events
      → IsOwned head (cluster_over cluster events) → AreElsewhere N cluster events
      → ((last : ℕ) → last ≤ cluster.facts.sent → AllAre (IsBeside N last) events)
      → Goes head member (Within head member rank) cluster events
  goes-beside rank cluster events good within leave then elsewhere beside = record {
    good = then;
    within = (
      within.0,
      phase-beside head member rank within.0 cluster events good then leave within.1 elsewhere beside,
    );
    serves = serves-elsewhere N cluster events elsewhere;
  }

  pub keeps-receive : (rank most : ℕ) (m : Member)
      → Keeps head member (Within head member rank) (Within head member rank)
      (λ cluster. receive_events_at_most cluster most m)
  keeps-receive rank most m cluster good within leave =
      goes-beside rank cluster (receive_events_at_most cluster most m) good within leave
      (received-owned head cluster most m good) (receives-elsewhere N cluster most m)
      (λ last low. receives-beside N last cluster most m)

  pub keeps-acknowledges : (rank : ℕ) (m : Member)
      → Keeps head member (Within head member rank) (Within head member rank) (λ cluster. acknowledge_events cluster m)
  keeps-acknowledges rank m cluster good within leave =
      goes-beside rank cluster (acknowledge_events cluster m) good within leave
      (acknowledged-owned head cluster m good) (acknowledges-elsewhere N cluster m)
      (λ last low. acknowledges-beside N last cluster m)

  keeps-frozen : (rank : ℕ) (m : Member) (found : Option Bool) (cluster : Cluster)
      → IsOwned head cluster → Within head member rank cluster
      → Leave head member cluster
      (for_some found (λ frozen. cond frozen [] (receive_events_at_most cluster all_entries m)))
      → Goes head member (Within head member rank) cluster
      (for_some found (λ frozen. cond frozen [] (receive_events_at_most cluster all_entries m)))
  keeps-frozen rank m None cluster good within leave =
      goes-none head member (Within head member rank) cluster good within
  keeps-frozen rank m (Some true) cluster good within leave =
      goes-none head member (Within head member rank) cluster good within
  keeps-frozen rank m (Some false) cluster good within leave =
      keeps-receive rank all_entries m cluster good within leave

  pub keeps-receives : (rank : ℕ) (m : Member)
      → Keeps head member (Within head member rank) (Within head member rank) (λ cluster. receive_events_of cluster m)
  keeps-receives rank m cluster good within leave =
      keeps-frozen rank m (slice_get cluster.facts.frozen m.id.number) cluster good within leave

  pub keeps-note : (rank : ℕ) (note : Note)
      → Keeps head member (Within head member rank) (Within head member rank)
      (λ cluster. event_of cluster (kinds.Note note))
  keeps-note rank note cluster good within leave =
      goes-beside rank cluster (event_of cluster (kinds.Note note)) good within leave
      (noted-owned head cluster note good) (tt, tt) (λ last low. (tt, tt))

  pub keeps-loss : (rank number : ℕ)
      → Keeps head member (Within head member rank) (Within head member rank)
      (λ cluster. event_of cluster (kinds.Message (Lost number)))
  keeps-loss rank number cluster good within leave =
      goes-beside rank cluster (event_of cluster (kinds.Message (Lost number))) good within leave
      (lost-owned head cluster number good) (tt, tt) (λ last low. (tt, tt))

  -- ---- another member's agent is woken
  pub wakes-other : (rank : ℕ) (m : Member) → N ≢ m.id.number → IsDeclared head m
      → Keeps head member (Within head member rank) (Within head member rank) (λ cluster. wake_events_of cluster m)
  wakes-other rank m other declared cluster good within leave =
      let numbered : AreNumbered cluster = stand-numbered head few cluster good in
      goes-beside rank cluster (wake_events_of cluster m) good within leave
      (wake-owned head few cluster m declared good) (wake-elsewhere N m other cluster numbered)
      (λ last low. (
        tt,
        input-beside N last m other no_message (outcome_of cluster m Wake)
            (cluster_after cluster (kinds.Agent (agents.Woken m))) numbered low,
      ))

  -- ---- its own agent is woken, where there is something to do
  no-way : true ≡ false → ⊥
  no-way e = cc

  all-false : (a b c : Bool) → a ≡ false → b ≡ false → c ≡ false → a || (b || c) ≡ false
  all-false false false c first second third = third
  all-false false true c first second third = absurd (no-way second)
  all-false true b c first second third = absurd (no-way first)

  idle : (agent : AgentFacts) (revision clock : ℕ) → agent.role ≡ Leader revision
      → is_overdue (record { 0 = clock }) agent.knows.waited ≡ false
      → has_turn (record { 0 = clock }) agent.knows ≡ false → (machine : Option Machine)
      → has_work (record { 0 = clock }) (standing (Some agent) machine) ≡ false
  idle agent revision clock role early rests None = refl
  idle agent revision clock role early rests (Some machine) =
      all-false (finds_ended agent.role machine.server.state) (is_overdue (record { 0 = clock }) agent.knows.waited)
      (has_turn (record { 0 = clock }) agent.knows)
      (ap (λ (r : RoleFacts). finds_ended r machine.server.state) role) early rests

  pub early-turn : (clock next : ℕ) → clock < next → nat_le next clock ≡ false
  early-turn clock next less = grind (arith, nat_tests, less)

  second-false : (a b : Bool) → b ≡ false → a && b ≡ false
  second-false true b e = e
  second-false false b e = refl

  pub stage-idle : (seen : Seen) (cluster : Cluster) (stands : Stands member seen cluster) (stage : Stage member seen)
      → rank_of member seen stage ≤ 6 → has_work (moment_of cluster) (standing_of cluster member) ≡ false
  stage-idle seen cluster stands (Sleeps waits later past) less =
      ap (λ (a : Option AgentFacts). has_work (moment_of cluster) (standing a (machine_of cluster member)))
      stands.agent_is
      ∙ idle seen.agent stands.revision cluster.facts.clock stands.role
      (ap (is_overdue (record { 0 = cluster.facts.clock })) waits)
      (second-false (is_none seen.agent.knows.waited) (nat_le seen.agent.knows.next_turn.0 cluster.facts.clock)
      (ap (nat_le seen.agent.knows.next_turn.0) stands.clock_is
      ∙ early-turn seen.clock seen.agent.knows.next_turn.0 later))
      (machine_of cluster member)
  stage-idle seen cluster stands (IsDue waits due) less = absurd (omega (arith, less))
  stage-idle seen cluster stands (Turns number carried turn mail) less =
      ap (λ (a : Option AgentFacts). has_work (moment_of cluster) (standing a (machine_of cluster member)))
      stands.agent_is
      ∙ idle seen.agent stands.revision cluster.facts.clock stands.role
      (ap (is_overdue (record { 0 = cluster.facts.clock })) turn.waits
      ∙ ap (nat_le turn.waited.until.0) stands.clock_is ∙ turn.until)
      (ap (λ (w : Option PendingQuestion). is_none w && nat_le seen.agent.knows.next_turn.0 cluster.facts.clock)
      turn.waits)
      (machine_of cluster member)

  pub wake-rests : (rank : ℕ) (cluster : Cluster) (process : AgentProcess)
      → IsOwned head cluster
      → Within head member rank cluster → has_work (moment_of cluster) (standing_of cluster member) ≡ false
      → Leave head member cluster (wake_events_if cluster member process)
      → Goes head member (Within head member rank) cluster (wake_events_if cluster member process)
  wake-rests rank cluster process good within none leave =
      let nothing : wake_events_if cluster member process ≡ [] =
      ap (λ (b : Bool). cond b (wake_events_of cluster member) [])
      (second-false (may_act process) (has_work (moment_of cluster) (standing_of cluster member)) none) in
      subst (Goes head member (Within head member rank) cluster) (sym nothing)
      (goes-none head member (Within head member rank) cluster good within)

  pub due-has-work : (seen : Seen) (cluster : Cluster) → IsOwned head cluster
      → (stands : Stands member seen cluster) → seen.agent.knows.waited ≡ None
      → seen.clock ≡ seen.agent.knows.next_turn.0
      → is_to_wake (moment_of cluster) seen.process (standing_of cluster member) ≡ true
  due-has-work seen cluster good stands waits due =
      let here = standing-of head cluster member seen good stands in
      let o : Outcome = here.o in
      ap (λ (b : Bool). b && has_work (moment_of cluster) (standing_of cluster member)) stands.acts
      ∙ ap (has_work (moment_of cluster)) here.stands
      ∙ any-last (finds_ended o.role o.machine.server.state) (is_overdue (moment_of cluster) o.knows.waited)
      (has_turn (moment_of cluster) o.knows)
      (both (is_none o.knows.waited) (nat_le o.knows.next_turn.0 cluster.facts.clock)
      (ap (λ k. is_none k.waited) here.knows ∙ ap is_none waits)
      (ap (λ k. nat_le k.next_turn.0 cluster.facts.clock) here.knows
      ∙ ap (λ (n : ℕ). nat_le n cluster.facts.clock) (sym due ∙ sym stands.clock_is) ∙ le-same cluster.facts.clock))
    where
      le-same : (n : ℕ) → nat_le n n ≡ true
      le-same n = grind (arith, nat_tests)

      both : (a b : Bool) → a ≡ true → b ≡ true → a && b ≡ true
      both true b first second = second
      both false b first second = absurd (no-way (sym first))

      any-last : (a b c : Bool) → c ≡ true → a || (b || c) ≡ true
      any-last true b c e = refl
      any-last false true c e = refl
      any-last false false c e = e
