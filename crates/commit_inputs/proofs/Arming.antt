-- What the timed lease gives to an agent that claims the sync key: the
-- lease that it hears is the present one, and nobody else acts.
use Rattle.std.proofs.Common.{ℕ, ◌≡◌, ◌++◌, true, false, List, Option, Some, slice_get, refl, sym, ap, ◌∙◌, inl, inr}
use Rattle.event_book.specs.declared.event.Event.{Event}
use Rattle.script_model.specs.Script.{HeadText}
use Rattle.agent_model.specs.declared.heard.Heard.{Heard}
use Rattle.agent_model.specs.declared.heard.Heard.TheVariants as heards
use Rattle.agent_model.specs.Agents.{is_ready as is_ready_role}
use Rattle.agent_commit_law.specs.Committing.{ArmsOn}
use Rattle.agent_lease_law.specs.Lawful.{Hears}
use Rattle.cluster_model.specs.Inputs.{moment_of}
use Rattle.cluster_model.specs.State.{Cluster}
use Rattle.lease_model.specs.Inputs.{Fed, HeardGrant}
use Rattle.lease_model.specs.Leases.{Answer, Answered, Flying, Grant}
use Rattle.lease_model.specs.Past as lease_past
use Rattle.lease_model.specs.States as lease
use Rattle.lease_model.proofs.Tools.{both, some-is}
use Rattle.commit_actions.specs.Inputs.{ArmsAlone}
use Rattle.commit_actions.specs.Past.{leader_revision}
use Rattle.commit_actions.specs.States.{State}
use Rattle.commit_showing.proofs.FromLease.{grant-alone, grant-present}
use Rattle.lease_parts.specs.Declaring.{declared_of, works_of}
use Rattle.lease_parts.specs.Kept.{MeetsPremises}
use Rattle.lease_parts.specs.Volatile as run_volatile
use Rattle.lease_inputs.proofs.InputBegun.{ArmsInTime}
use Rattle.lease_inputs.proofs.InputKept.{arms-in-time}
use Rattle.lease_inputs.proofs.InputSeen.{found-of}
use Rattle.commit_parts.specs.Bridged.{CommitsBridged}
use Rattle.commit_parts.specs.Reading.{state_of_run}
use Rattle.commit_parts.proofs.Given.{leaders, ready-by}
use Rattle.commit_inputs.proofs.Inputs.{Acting, After, Before, Events, calm}

answer-is : (x y : Answer) → ◌≡◌ {A = Option Flying} (Some (Answered x)) (Some (Answered y)) → x ≡ y
answer-is x y e = cc

-- the grant that is heard has the revision of the one that is waited for
same-revision : (s : lease.State) (m : ℕ) (number : Option ℕ) (grant told : Grant)
    (heard : HeardGrant s m number grant) (n : ℕ) (answer : Answer) → number ≡ Some n
    → s.flight n ≡ Some (Answered answer) → answer.grant ≡ Some told → grant.revision ≡ told.revision
same-revision s m number grant told heard n answer at is given =
    let same : heard.number ≡ n = some-is heard.number n (sym heard.heard_is ∙ at) in
    let one : heard.answer ≡ answer =
    answer-is heard.answer answer (sym heard.is ∙ ap (λ (k : ℕ). s.flight k) same ∙ is) in
    ap (λ (g : Grant). g.revision) (some-is grant told (sym heard.grant_is ∙ ap (λ (x : Answer). x.grant) one ∙ given))

module _ (head : HeadText) (book : List Event) (cluster : Cluster) (good : CommitsBridged head book cluster)
    (a : Acting head book cluster) where
  abbrev M : ℕ
  M = a.member.id.number

  abbrev Lease : lease.State
  Lease = lease_past.state_of (declared_of head) (lease_past.past_of book) (run_volatile.volatile_of cluster)

  abbrev S : State
  S = state_of_run head book cluster

  -- it didn't act before
  rested : (S.members M).live ≡ false → is_ready_role a.agent.role ≡ false → lease.Acts (Lease.members M) → ⊥
  rested down unready (inl live) = both (sym down ∙ live)
  rested down unready (inr ready) =
      both (sym unready ∙ (sym (ap (λ (o : Option _). lease.is_ready (run_volatile.agent_now o)) a.here) ∙ ready))

  in-time : MeetsPremises head (book ++ Events head book cluster good a) → (S.members M).live ≡ false
      → is_ready_role a.agent.role ≡ false → is_ready_role (After head book cluster good a).role ≡ true
      → ArmsInTime Lease M a.number
  in-time meets down unready ready =
      arms-in-time head book cluster good.lease a.member a.agent a.machine
      (found-of cluster a.member a.machine a.machine_is) a.here a.heard a.number a.message a.opening
      a.opening_is a.numbered a.low a.well a.acts (calm head book cluster good a)
      meets.hands_off.watched (a.hears_lease meets.hands_off.watched) meets (inr ready) (rested down unready)

  revision-by : (works : (m : ℕ) → works_of head m ≡ true) (heard : Heard) (revision : ℕ) (fed : Fed Lease M a.number)
      → Hears Lease M a.number heard (Before head book cluster good a)
      → ArmsOn (moment_of cluster) heard (Before head book cluster good a) revision → fed.grant.revision ≡ revision
  revision-by works (heards.Granted sequence grant snapshot) revision fed hears arms =
      let lease = hears.lease arms.0 in
      same-revision Lease M a.number fed.grant lease.told fed.hears hears.answer.number hears.answer.answer
      hears.answer.heard_is hears.answer.is lease.is
      ∙ lease.revision ∙ arms.1
  revision-by works heards.Wake revision fed hears arms = absurd arms
  revision-by works (heards.ReadAnswered sequence snapshot) revision fed hears arms = absurd arms
  revision-by works (heards.Mismatch sequence key found) revision fed hears arms = absurd arms
  revision-by works (heards.Asked from incarnation sequence) revision fed hears arms = absurd arms
  revision-by works (heards.Answered sequence answer) revision fed hears arms = absurd arms
  revision-by works (heards.FailsafeAsked from incarnation sequence ttl) revision fed hears arms = absurd arms
  revision-by works (heards.FailsafeAnswered from sequence accepted sent) revision fed hears arms = absurd arms
  revision-by works (heards.Operated action) revision fed hears arms = absurd arms

  unready-by : (heard : Heard) (revision : ℕ)
      → ArmsOn (moment_of cluster) heard (Before head book cluster good a) revision → is_ready_role a.agent.role ≡ false
  unready-by (heards.Granted sequence grant snapshot) revision arms = arms.2
  unready-by heards.Wake revision arms = absurd arms
  unready-by (heards.ReadAnswered sequence snapshot) revision arms = absurd arms
  unready-by (heards.Mismatch sequence key found) revision arms = absurd arms
  unready-by (heards.Asked from incarnation sequence) revision arms = absurd arms
  unready-by (heards.Answered sequence answer) revision arms = absurd arms
  unready-by (heards.FailsafeAsked from incarnation sequence ttl) revision arms = absurd arms
  unready-by (heards.FailsafeAnswered from sequence accepted sent) revision arms = absurd arms
  unready-by (heards.Operated action) revision arms = absurd arms

  pub arms-alone : MeetsPremises head (book ++ Events head book cluster good a) → (revision : ℕ)
      → ArmsOn (moment_of cluster) a.heard (Before head book cluster good a) revision
      → (S.members M).live ≡ false → is_ready_role (After head book cluster good a).role ≡ true
      → ArmsAlone S M revision
  arms-alone meets revision arms down ready =
      let works = meets.hands_off.watched in
      let timely : ArmsInTime Lease M a.number = in-time meets down (unready-by a.heard revision arms) ready in
      record {
        present = ap leader_revision (sym (leaders head book cluster good))
            ∙ grant-present Lease M a.number good.lease.carried.sound timely.fed timely.in_time
            ∙ ap Some (revision-by works a.heard revision timely.fed (a.hears_lease works) arms);
        alone = grant-alone Lease S.members M a.number good.lease.carried.sound timely.fed timely.in_time timely.free
            (λ n. refl) (λ n. ready-by head book cluster good (slice_get cluster.agents n));
      }
