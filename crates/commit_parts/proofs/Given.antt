-- What the timed lease, and how agents number their questions, give to deliveries to the key store.
use Rattle.std.proofs.Common.{ℕ, ◌≡◌, ◌≤◌, ◌<◌, true, List, [], length, slice_get, Option, Some, None, refl, ◌∙◌, ap, sym, subst}
use Rattle.store_keys.specs.declared.txn.Txn.{Txn}
use Rattle.event_book.specs.declared.event.Event.{Event}
use Rattle.event_book.specs.declared.link.LinkEnd.TheVariants as ends
use Rattle.event_book.specs.declared.member.Member.{Member}
use Rattle.event_book.specs.declared.message.Body.TheVariants as bodies
use Rattle.event_book.specs.Flight.{InFlightFacts, in_flight}
use Rattle.agent_model.specs.Agents.{AgentFacts}
use Rattle.agent_commit_law.specs.Committing.{committer_seen}
use Rattle.script_model.specs.Script.{HeadText}
use Rattle.cluster_model.specs.State.{Cluster}
use Rattle.lease_model.specs.Leases.{LeaderKey, Question}
use Rattle.lease_model.specs.Past as lease_past
use Rattle.lease_model.specs.States as lease
use Rattle.lease_model.proofs.Tools.{both, none-some, some-is}
use Rattle.lease_book.proofs.Hearing.{heard-asked}
use Rattle.commit_actions.specs.Actions.{IsAllowed, IsNumbered, SendSnapshot}
use Rattle.commit_actions.specs.Past.{is_keyless, is_leaderless, leader_revision}
use Rattle.commit_actions.specs.States.{Agent, is_ready}
use Rattle.commit_showing.proofs.FromLease.{grant-absent, grant-free, same-lease}
use Rattle.lease_parts.specs.Declaring.{declared_of}
use Rattle.run_promise.specs.Members.{member_count}
use Rattle.lease_parts.specs.Volatile as run_volatile
use Rattle.cluster_model.proofs.Places.{there}
use Rattle.commit_parts.specs.Bridged.{CommitsBridged}
use Rattle.commit_parts.specs.Reading.{agent_now, past_of, state_of_run}
use Rattle.commit_parts.proofs.Starting.{runs-now}

module _ (head : HeadText) (book : List Event) (cluster : Cluster) (good : CommitsBridged head book cluster) where
  -- ---- a question has an incarnation and a number that were given
  abbrev Numbered : ℕ → ℕ → ℕ → Type 0
  Numbered m incarnation sequence = IsNumbered ((state_of_run head book cluster).members m) incarnation sequence

  counted-by : (i : ℕ) (question : Question) (found : Option (Option AgentFacts)) (agent : Agent)
      → (lease_past.past_of book).asked i ≡ Some question → slice_get cluster.agents question.member ≡ found
      → agent_now found ≡ Some agent → agent.incarnation ≡ question.incarnation → question.sequence ≤ agent.last
  counted-by i question None agent asked is seen in_run =
      absurd (beyond (good.fits.agents.members i question asked))
    where
      beyond : question.member < member_count head → ⊥
      beyond small =
          let within : question.member < length cluster.agents =
          subst (λ (n : ℕ). question.member < n) (sym good.lease.matched.agents_sized) small in
          let one = there cluster.agents question.member within in
          none-some one.0 (sym is ∙ one.1)
  counted-by i question (Some None) agent asked is seen in_run = absurd (none-some agent seen)
  counted-by i question (Some (Some known)) agent asked is seen in_run =
      let same = some-is (committer_seen known.role known.knows) agent seen in
      subst (λ (a : Agent). question.sequence ≤ a.last) same
      ((good.lease.matched.waiting.agents question.member known is).last i question asked refl
      (sym in_run ∙ ap (λ (a : Agent). a.incarnation) (sym same)))

  numbered-question : (i : ℕ) (question : Question) → (lease_past.past_of book).asked i ≡ Some question
      → Numbered question.member question.incarnation question.sequence
  numbered-question i question asked = record {
    run_old = subst (λ (n : ℕ). question.incarnation ≤ n) (sym (runs-now head book cluster good question.member))
        (good.lease.matched.waiting.runs question.member i question asked refl);
    sequence_old =
        λ agent is in_run. counted-by i question (slice_get cluster.agents question.member) agent asked refl is in_run;
  }

  pub numbered-request : (i : ℕ) (carried : InFlightFacts) (by : Member) (incarnation sequence : ℕ) (txn : Txn)
      → in_flight cluster.facts.flight i ≡ Some carried
      → carried.message ≡ record {
        from = ends.Member by;
        to = ends.Store;
        incarnation = incarnation;
        sequence = sequence;
        body = bodies.Request txn;
      }
      → Numbered by.id.number incarnation sequence
  numbered-request i carried by incarnation sequence txn here is =
      numbered-question i (record {
        member = by.id.number;
        incarnation = incarnation;
        sequence = sequence;
        sent = carried.sent.0;
        query = lease_past.query_of txn;
      })
      (good.lease.matched.flight.kept i _
      (heard-asked (lease_past.past_of book) cluster.facts i carried by incarnation sequence txn
      good.lease.matched.flight here is))

  -- ---- a snapshot without a leader key
  abbrev Lease : lease.State
  Lease = lease_past.state_of (declared_of head) (lease_past.past_of book) (run_volatile.volatile_of cluster)

  same : lease_past.past_of book ≡ (past_of head book).lease
  same = sym (same-lease (past_of head []) book)

  pub leaders : (lease_past.past_of book).leader ≡ (past_of head book).lease.leader
  leaders = ap (λ (p : lease_past.Past). p.leader) same

  pub ready-by : (found : Option (Option AgentFacts))
      → is_ready (agent_now found) ≡ lease.is_ready (run_volatile.agent_now found)
  ready-by None = refl
  ready-by (Some None) = refl
  ready-by (Some (Some agent)) = refl

  free-leader : (leader : Option LeaderKey) → is_leaderless leader ≡ true → leader ≡ None
  free-leader None is = refl
  free-leader (Some key) is = absurd (both is)

  pub snapshot-allowed : (number : ℕ)
      → IsAllowed (state_of_run head book cluster)
      (SendSnapshot (is_keyless (past_of head book).lease.leader (past_of head book).lease.failsafe)
      (is_leaderless (past_of head book).lease.leader) number)
  snapshot-allowed number = (
    (λ keyless n acts.
        grant-free Lease (state_of_run head book cluster).members good.lease.carried.sound
        (ap (λ (p : lease_past.Past). is_keyless p.leader p.failsafe) same ∙ keyless)
        (λ n. refl) (λ n. ready-by (slice_get cluster.agents n)) n acts),
    (λ leaderless.
        let none = free-leader (past_of head book).lease.leader leaderless in (
          ap leader_revision none,
          λ n ready. grant-absent Lease (state_of_run head book cluster).members good.lease.carried.sound
              (leaders ∙ none) (λ n. ready-by (slice_get cluster.agents n)) n ready,
        )),
  )
