-- The wakes of a round: the turn of a steady leader begins where it is due.
use Rattle.std.proofs.Common.{Bool, List, None, Option, Some, [], ap, arith, cond, false, length, refl, slice_get, subst, suc, sym, true, zero, ℕ, ◌+◌, ◌==◌, ◌∙◌, ◌∷◌, ◌≡◌, ◌≢◌, ◌≤◌}
use Rattle.agent_model.specs.declared.knowledge.PendingQuestion.{PendingQuestion}
use Rattle.cluster_model.specs.Cluster.{cluster_over}
use Rattle.cluster_model.specs.Inputs.{is_to_wake, moment_of, standing_of}
use Rattle.cluster_model.specs.Messages.{wake_events, wake_events_if, wake_events_of}
use Rattle.cluster_model.specs.Parts.{each, for_some}
use Rattle.cluster_model.specs.State.{Cluster}
use Rattle.event_book.specs.Flight.{InFlightFacts}
use Rattle.event_book.specs.declared.agent_process.AgentProcess.{AgentProcess}
use Rattle.event_book.specs.declared.member.Member.{Member}
use Rattle.leading_runs.proofs.Stages.{Decides, Grants, IsDue, IsFlying, Mail, OlderMail, OnlyMail, Phase, Reads, Renews, Seen, Shows, Sleeps, Stage, Stands, Syncs, Turns, mail_rank, rank_of}
use Rattle.leading_runs.proofs.Standing.{IsAlone}
use Rattle.leading_runs.proofs.Steps.{due-has-work, stage-idle, wake-rests, wakes-other}
use Rattle.leading_runs.proofs.Turning.{begins-serving, turn-begins}
use Rattle.leading_runs.proofs.Walking.{Goes, Keeps, Leave, Within, goes-none, keeps-then}
use Rattle.lease_owners.proofs.EveryRun.{wake-owned}
use Rattle.lease_model.proofs.Tools.{eq-from, ne-from, some-is}
use Rattle.lease_owners.specs.Kept.{IsOwned}
use Rattle.pat_base.specs.declared.member_id.TheConstants.{MOST_MEMBERS}
use Rattle.run_promise.proofs.Upholding.{Each}
use Rattle.run_promise.specs.Members.{IsDeclared, declared_members}
use Rattle.script_model.specs.Script.{HeadText, names_of}
use Rattle.std.proofs.lemmas.Option.{slice_get_within}

module _ (head : HeadText) (few : length (names_of head) ≤ MOST_MEMBERS) (member : Member)
    (declared : IsDeclared head member) where
  abbrev N : ℕ
  N = member.id.number

  abbrev In : ℕ → Cluster → Type 0
  In rank = Within head member rank

  -- ---- ranks
  pub raised : (from to number : ℕ) (cluster : Cluster) → from ≤ to → Phase member from number cluster
      → Phase member to number cluster
  raised from to number cluster less phase = record {
    seen = phase.seen;
    stands = phase.stands;
    stage = phase.stage;
    numbered = phase.numbered;
    ranked = omega (arith, less, phase.ranked);
    flying = phase.flying;
    only = phase.only;
    older = phase.older;
  }

  pub in-raised : (from to : ℕ) (cluster : Cluster) → from ≤ to → In from cluster → In to cluster
  in-raised from to cluster less within = (within.0, raised from to within.0 cluster less within.1)

  pub mail-few : (seen : Seen) (waited : PendingQuestion) (carried : InFlightFacts)
      (mail : Mail member seen waited carried)
      → mail_rank member seen waited carried mail ≤ 6
  mail-few seen waited carried (Reads asks last is) = omega arith
  mail-few seen waited carried (Shows asks last is shows sets failover) = omega arith
  mail-few seen waited carried (Renews asks sent span none info status row listed is) = omega arith
  mail-few seen waited carried (Grants asks sent span none txn request is grant sets lasts) = omega arith
  mail-few seen waited carried (Syncs settling asks past txn writes is) = omega arith
  mail-few seen waited carried (Decides settling asks past txn writes request decision is granted grant sets) =
      omega arith

  -- ---- its own wake: a turn that is due begins, else nothing happens
  abbrev Fits : (seen : Seen) → ℕ → Stage member seen → Type 0
  Fits seen to (Sleeps waits later past) = Unit {0}
  Fits seen to (IsDue waits due) = 6 ≤ to
  Fits seen to (Turns number carried turn mail) = mail_rank member seen turn.waited carried mail ≤ to

  fits-rank : (seen : Seen) (to : ℕ) (stage : Stage member seen) → rank_of member seen stage ≤ to → Fits seen to stage
  fits-rank seen to (Sleeps waits later past) less = tt
  fits-rank seen to (IsDue waits due) less = omega (arith, less)
  fits-rank seen to (Turns number carried turn mail) less = less

  fits-six : (seen : Seen) (stage : Stage member seen) → Fits seen 6 stage
  fits-six seen (Sleeps waits later past) = tt
  fits-six seen (IsDue waits due) = omega arith
  fits-six seen (Turns number carried turn mail) = mail-few seen turn.waited carried mail

  wakes-by : (to : ℕ) (cluster : Cluster) → IsOwned head cluster → (seen : Seen)
      → Stands member seen cluster → (stage : Stage member seen) → Fits seen to stage
      → IsFlying member seen stage cluster.facts.flight → OnlyMail member seen stage cluster.facts.flight
      → OlderMail member seen stage cluster.facts.flight
      → Leave head member cluster (wake_events_if cluster member seen.process)
      → Goes head member (In to) cluster (wake_events_if cluster member seen.process)
  wakes-by to cluster good seen stands (Sleeps waits later past) fits flying only older leave =
      wake-rests head few member to cluster seen.process good (
        0,
        record {
          seen = seen;
          stands = stands;
          stage = Sleeps waits later past;
          numbered = refl;
          ranked = omega arith;
          flying = tt;
          only = only;
          older = older;
        },
      )
      (stage-idle head few member seen cluster stands (Sleeps waits later past) (omega arith)) leave
  wakes-by to cluster good seen stands (Turns number carried turn mail) fits flying only older leave =
      wake-rests head few member to cluster seen.process good (
        number,
        record {
          seen = seen;
          stands = stands;
          stage = Turns number carried turn mail;
          numbered = refl;
          ranked = fits;
          flying = flying;
          only = only;
          older = older;
        },
      )
      (stage-idle head few member seen cluster stands (Turns number carried turn mail)
      (mail-few seen turn.waited carried mail)) leave
  wakes-by to cluster good seen stands (IsDue waits due) fits flying only older leave =
      let same : wake_events_if cluster member seen.process ≡ wake_events_of cluster member =
      ap (λ (b : Bool). cond b (wake_events_of cluster member) [])
      (due-has-work head few member seen cluster good stands waits due) in
      let left = subst (Leave head member cluster) same leave in
      let alone : IsAlone member seen (seen.agent.knows.sequence + 1) cluster.facts.flight = record {
        none = λ i one found asks. only i one found asks;
        older = λ i one found own. older i one found (λ no. no) own;
      } in
      subst (Goes head member (In to) cluster) (sym same) (record {
        good = wake-owned head few cluster member declared good;
        within = (
          cluster.facts.sent + 1,
          raised 6 to (cluster.facts.sent + 1) (cluster_over cluster (wake_events_of cluster member)) fits
              (turn-begins head member cluster seen good stands waits due alone left),
        );
        serves = begins-serving head member cluster seen good stands waits due alone left;
      })

  wakes-to : (rank to : ℕ) → ((seen : Seen) (stage : Stage member seen) → rank_of member seen stage ≤ rank →
      Fits seen to stage)
      → Keeps head member (In rank) (In to) (λ cluster. wake_events cluster member)
  wakes-to rank to fits cluster good within leave =
      let phase = within.1 in
      let found : slice_get cluster.facts.processes N ≡ Some phase.seen.process = phase.stands.process_is in
      let same : wake_events cluster member ≡ wake_events_if cluster member phase.seen.process =
      ap (λ (p : Option AgentProcess). for_some p (wake_events_if cluster member)) found in
      subst (Goes head member (In to) cluster) (sym same)
      (wakes-by to cluster good phase.seen phase.stands phase.stage (fits phase.seen phase.stage phase.ranked)
      phase.flying phase.only phase.older (subst (Leave head member cluster) same leave))

  -- ---- another member's
  wakes-if : (rank : ℕ) (m : Member) → N ≢ m.id.number → IsDeclared head m → (cluster : Cluster)
      → IsOwned head cluster → In rank cluster → (process : Option AgentProcess)
      → Leave head member cluster (for_some process (wake_events_if cluster m))
      → Goes head member (In rank) cluster (for_some process (wake_events_if cluster m))
  wakes-if rank m other is cluster good within None leave =
      goes-none head member (In rank) cluster good within
  wakes-if rank m other is cluster good within (Some process) leave =
      by (is_to_wake (moment_of cluster) process (standing_of cluster m)) leave
    where
      by : (test : Bool) → Leave head member cluster (cond test (wake_events_of cluster m) [])
          → Goes head member (In rank) cluster (cond test (wake_events_of cluster m) [])
      by true left = wakes-other head few member rank m other is cluster good within left
      by false left = goes-none head member (In rank) cluster good within

  pub same-as-member : (m : Member) → IsDeclared head m → N ≡ m.id.number → m ≡ member
  same-as-member m is same =
      sym (some-is member m (sym declared ∙ ap (slice_get (declared_members head)) same ∙ is))

  wake-any : (rank : ℕ) (m : Member) → IsDeclared head m
      → Keeps head member (In rank) (In rank) (λ cluster. wake_events cluster m)
  wake-any rank m is cluster good within leave = by (N == m.id.number) refl
    where
      by : (here : Bool) → (N == m.id.number) ≡ here → Goes head member (In rank) cluster (wake_events cluster m)
      by true same =
          subst (λ (x : Member). Leave head member cluster (wake_events cluster x) →
          Goes head member (In rank) cluster (wake_events cluster x))
          (sym (same-as-member m is (eq-from N m.id.number same)))
          (wakes-to rank rank (λ seen stage less. fits-rank seen rank stage less) cluster good within) leave
      by false same = wakes-if rank m (ne-from N m.id.number same) is cluster good within
          (slice_get cluster.facts.processes m.id.number) leave

  pub wakes-each : (rank : ℕ) (members : List Member) → Each (IsDeclared head) members
      → Keeps head member (In rank) (In rank) (λ cluster. each wake_events cluster members)
  wakes-each rank [] all cluster good within leave = goes-none head member (In rank) cluster good within
  wakes-each rank (m ∷ ms) all cluster good within leave =
      keeps-then head member (In rank) (In rank) (In rank) (λ c. wake_events c m) (λ c. each wake_events c ms)
      (wake-any rank m all.0) (wakes-each rank ms all.1) cluster good within leave

  pub wakes-due : (members : List Member) (i : ℕ) → slice_get members i ≡ Some member → Each (IsDeclared head) members
      → Keeps head member (In 7) (In 6) (λ cluster. each wake_events cluster members)
  wakes-due [] i found all cluster good within leave = absurd (none-at i found)
    where
      none-at : (k : ℕ) → slice_get [] k ≡ Some member → ⊥
      none-at k e = absurd (omega (arith, slice_get_within [] k member e))
  wakes-due (m ∷ ms) zero found all cluster good within leave =
      keeps-then head member (In 7) (In 6) (In 6) (λ c. wake_events c m) (λ c. each wake_events c ms)
      (subst (λ (x : Member). Keeps head member (In 7) (In 6) (λ cluster. wake_events cluster x))
      (sym (some-is m member found)) (wakes-to 7 6 (λ seen stage less. fits-six seen stage)))
      (wakes-each 6 ms all.1) cluster good within leave
  wakes-due (m ∷ ms) (suc i) found all cluster good within leave =
      keeps-then head member (In 7) (In 7) (In 6) (λ c. wake_events c m) (λ c. each wake_events c ms)
      (wake-any 7 m all.0) (wakes-due ms i found all.1) cluster good within leave
