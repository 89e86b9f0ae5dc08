-- A leader hands over only to who may lead next.
use Rattle.std.proofs.Common.{ℕ, ◌≡◌, ◌⊎◌, ◌≤◌, ◌+◌, ◌-◌, ◌&&◌, nat_lt, if◌then◌else◌, not, Bool, true, false, is_some, List, [], ◌∷◌, Option, Some, None, refl, subst, arith, inl, inr}
use Rattle.std.specs.List.{Contains}
use Rattle.std.proofs.lemmas.List.Elements.{Contains-append_left, Contains-append_right, Contains-push, Contains-push_cases}
use Rattle.std.proofs.lemmas.Bool.{not-true}
use Rattle.pat_base.specs.declared.lsn.Lsn.{Lsn}
use Rattle.pat_base.specs.declared.member_id.MemberId.{MemberId}
use Rattle.pat_base.specs.declared.peer_answer.PeerAnswer.{PeerAnswer}
use Rattle.pat_base.specs.declared.ticks.Ticks.{Ticks}
use Rattle.store_keys.specs.declared.value.FailoverKey.{FailoverKey}
use Rattle.lease_model.proofs.Tools.{le-from, none-some, some-is}
use Rattle.cluster_view.specs.Naming.{is_standby}
use Rattle.leader_race.specs.Eligibility.{may_fail_over}
use Rattle.leader_race.specs.Peers.{earlier, first_of, member_where}
use Rattle.event_book.specs.declared.agent_note.AgentNote.TheVariants as agent_notes
use Rattle.agent_model.specs.declared.knowledge.SyncRead.{SyncRead}
use Rattle.agent_model.specs.declared.output.Output.{Output}
use Rattle.agent_model.specs.declared.output.Output.TheVariants as outputs
use Rattle.agent_model.specs.declared.output.Noting.TheVariants as notings
use Rattle.agent_model.specs.declared.output.ServerOrder.TheVariants as orders
use Rattle.agent_model.specs.Acting.{waiting_no_more}
use Rattle.agent_model.specs.Agents.{Outcome}
use Rattle.agent_model.specs.HandingOver.{clearing, handover_judged, hands_over_to, is_near, is_standby_in, is_successor, may_follow_in_sync, position_of, successor_by}
use Rattle.agent_succession.specs.Handovers.{HandsOverTo, MayLeadNext}
use Rattle.agent_model.specs.Outputs.{with_output}
use Rattle.agent_roles.proofs.Granting.{both-true}
use Rattle.agent_roles.proofs.Living.{no-way}
use Rattle.agent_cases.proofs.Rows.{clearing-by, if-cases}

-- ---- of the members whose answers pass, the first is one of them
record IsOneOf (passes : PeerAnswer → Bool) (answers : List PeerAnswer) (member : MemberId) : Type 0 where
  answer : PeerAnswer
  among : Contains answers answer
  is_member : answer.member ≡ member
  passing : passes answer ≡ true

earlier-one : (first other : Option MemberId) (member : MemberId) → earlier first other ≡ Some member
    → (first ≡ Some member) ⊎ (other ≡ Some member)
earlier-one None other member is = inr is
earlier-one (Some first) None member is = inl is
earlier-one (Some first) (Some other) member is =
    if-cases (λ (chosen : Option MemberId). chosen ≡ Some member →
    (◌≡◌ {A = Option MemberId} (Some first) (Some member)) ⊎ (◌≡◌ {A = Option MemberId} (Some other) (Some member)))
    (nat_lt other.number first.number) (Some other) (Some first) (λ _ e. inr e) (λ _ e. inl e) is

where-true : (passes : Bool) (own member : MemberId) → member_where passes own ≡ Some member
    → (passes ≡ true) × (own ≡ member)
where-true true own member is = (refl, some-is own member is)
where-true false own member is = absurd (none-some member is)

first-passes : (passes : PeerAnswer → Bool) (answers : List PeerAnswer) (member : MemberId)
    → first_of passes answers ≡ Some member → IsOneOf passes answers member
first-passes passes [] member is = absurd (none-some member is)
first-passes passes (answer ∷ more) member is =
    elim (earlier-one (member_where (passes answer) answer.member) (first_of passes more) member is) [
      | inl here ↦ let both = where-true (passes answer) answer.member member here in
          record {
            answer = answer;
            among = Contains-append_left (answer ∷ []) more answer (Contains-push [] answer);
            is_member = both.1;
            passing = both.0;
          }
      | inr later ↦ let found = first-passes passes more member later in
          record {
            answer = found.answer;
            among = Contains-append_right (answer ∷ []) more found.answer found.among;
            is_member = found.is_member;
            passing = found.passing;
          }
    ]

-- ---- who passes may lead next
within : (own end most : ℕ) → own - end ≤ most → own ≤ end + most
within own end most e = omega (arith, e)

record IsNear (most : ℕ) (own end : Option Lsn) : Type 0 where
  at : Lsn
  is : end ≡ Some at
  near : position_of own ≤ at.position + most

near-from : (most : ℕ) (own end : Option Lsn) → is_near most own end ≡ true → IsNear most own end
near-from most own None e = absurd (no-way e)
near-from most own (Some end) e = record {
  at = end;
  is = refl;
  near = within (position_of own) end.position most (le-from (position_of own - end.position) most e);
}

standby-from : (mode switchover : Bool) (found : Option SyncRead) (member : MemberId)
    → (if mode && switchover then is_standby_in found member else true) ≡ true → (read : SyncRead)
    → switchover ≡ true → mode ≡ true → found ≡ Some read → is_standby member read.key ≡ true
standby-from true true found member e read asked on is =
    subst (λ (f : Option SyncRead). is_standby_in f member ≡ true) is e
standby-from true false found member e read asked on is = absurd (no-way asked)
standby-from false switchover found member e read asked on is = absurd (no-way on)

may-lead : (o : Outcome) (failover : FailoverKey) (candidate : MemberId)
    → IsOneOf (is_successor o.knows o.machine.server failover) o.knows.answers candidate
    → MayLeadNext o failover candidate
may-lead o failover candidate found =
    let answer : PeerAnswer = found.answer in
    let near : Bool = is_near o.knows.turn_settings.maximum_lag_on_failover o.machine.server.end answer.end in
    let follows : Bool = may_follow_in_sync o.knows failover answer.member in
    let first = both-true (not answer.writes) (may_fail_over answer.tags && (near && follows)) found.passing in
    let second = both-true (may_fail_over answer.tags) (near && follows) first.1 in
    let third = both-true near follows second.1 in
    let ends = near-from o.knows.turn_settings.maximum_lag_on_failover o.machine.server.end answer.end third.0 in
    record {
      answer = answer;
      among = found.among;
      member = found.is_member;
      quiet = not-true answer.writes first.0;
      eligible = second.0;
      end = ends.at;
      end_is = ends.is;
      near = ends.near;
      standby = λ read asked on is. subst (λ (m : MemberId). is_standby m read.key ≡ true) found.is_member
          (standby-from o.knows.turn_settings.synchronous_mode
          (is_some failover.leader) o.knows.turn_sync answer.member third.1 read asked on is);
    }

-- ---- a handover that is judged
asks-nobody : (sent : Output) (o : Outcome) (candidate : MemberId)
    → (sent ≡ outputs.Note (notings.Agent (agent_notes.HandsOver candidate)) → ⊥)
    → Contains (with_output sent o.outputs) (outputs.Note (notings.Agent (agent_notes.HandsOver candidate)))
    → Contains o.outputs (outputs.Note (notings.Agent (agent_notes.HandsOver candidate)))
asks-nobody sent o candidate other among =
    elim (Contains-push_cases o.outputs sent
    (outputs.Note (notings.Agent (agent_notes.HandsOver candidate)))
    among) [ inl before-it ↦ before-it | inr is ↦ absurd (other is) ]

same-candidate : (member candidate : MemberId)
    → ◌≡◌ {A = Output} (outputs.Note (notings.Agent (agent_notes.HandsOver member)))
    (outputs.Note (notings.Agent (agent_notes.HandsOver candidate)))
    → member ≡ candidate
same-candidate member candidate e = cc

ends-nobody : (candidate : MemberId)
    → ◌≡◌ {A = Output} (outputs.Server orders.ShutDown) (outputs.Note (notings.Agent (agent_notes.HandsOver candidate)))
    → ⊥
ends-nobody candidate e = cc

module _ (now : Ticks) (revision : ℕ) (candidate : MemberId) (o : Outcome) where
  abbrev Right : Outcome → Type 0
  Right after = Contains after.outputs (outputs.Note (notings.Agent (agent_notes.HandsOver candidate)))
      → Contains o.outputs (outputs.Note (notings.Agent (agent_notes.HandsOver candidate)))
      ⊎ HandsOverTo revision candidate o after

  clears : Right (clearing (waiting_no_more o))
  clears among =
      inl (clearing-by (λ (after : Outcome).
      Contains after.outputs (outputs.Note (notings.Agent (agent_notes.HandsOver candidate))) →
      Contains o.outputs (outputs.Note (notings.Agent (agent_notes.HandsOver candidate))))
      (waiting_no_more o) (λ before-it. before-it) (λ compared. asks-nobody _ o candidate (λ e. cc)) among)

  hands : (failover : FailoverKey) (member : MemberId) → o.knows.turn_failover ≡ Some failover
      → first_of (is_successor o.knows o.machine.server failover) o.knows.answers ≡ Some member
      → Right (hands_over_to now revision (Some member) (waiting_no_more o))
  hands failover member asked is among =
      let noted : List Output = with_output (outputs.Note (notings.Agent (agent_notes.HandsOver member))) o.outputs in
      elim (Contains-push_cases o.outputs (outputs.Note (notings.Agent (agent_notes.HandsOver member)))
      (outputs.Note (notings.Agent (agent_notes.HandsOver candidate)))
      (asks-nobody (outputs.Server orders.ShutDown) (record o { outputs = noted }) candidate
      (ends-nobody candidate) among)) [
        | inl before-it ↦ inl before-it
        | inr same ↦ inr (record {
          failover = failover;
          asked = asked;
          may_lead = subst (MayLeadNext o failover) (same-candidate member candidate same)
              (may-lead o failover member
              (first-passes (is_successor o.knows o.machine.server failover) o.knows.answers member is));
          ends = Contains-push noted (outputs.Server orders.ShutDown);
          holds = refl;
        })
      ]

  by-successor : (turn : Option FailoverKey) (successor : Option MemberId) → o.knows.turn_failover ≡ turn
      → successor_by turn o.knows o.machine.server ≡ successor
      → Right (hands_over_to now revision successor (waiting_no_more o))
  by-successor turn None asked is = clears
  by-successor None (Some member) asked is = absurd (none-some member is)
  by-successor (Some failover) (Some member) asked is = hands failover member asked is

  pub hands-right : Right (handover_judged now revision o)
  hands-right =
      by-successor o.knows.turn_failover (successor_by o.knows.turn_failover o.knows o.machine.server) refl refl
