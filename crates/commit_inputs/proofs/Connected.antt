-- To whom the server of an agent that acts is connected, and whom its commits wait for: members.
use Rattle.std.proofs.Common.{ℕ, ◌≡◌, ◌<◌, ◌≤◌, ◌==◌, Bool, true, false, List, length, Option, Some, None, option_map, slice_get, slice_index_or, refl, sym, ap, ◌∙◌, subst, arith, inl, inr, if◌then◌else◌, []}
use Rattle.std.proofs.lemmas.Bool.Decides.{nat_tests}
use Rattle.std.proofs.lemmas.Option.{slice_get_within}
use Rattle.pat_base.specs.declared.lsn.Lsn.{Lsn}
use Rattle.pat_base.specs.declared.server_state.Required.{Required}
use Rattle.pat_base.specs.declared.server_state.Required.TheVariants as requireds
use Rattle.pat_base.specs.ServerState.{writes}
use Rattle.std.specs.Int.{bit_at}
use Rattle.pg_model.specs.Facts.{ServerFacts}
use Rattle.event_book.specs.declared.event.Event.{Event}
use Rattle.event_book.specs.declared.member.Member.{Member}
use Rattle.event_book.specs.Links.{CutLinks}
use Rattle.script_model.specs.Script.{HeadText}
use Rattle.agent_model.specs.declared.machine.Machine.{Machine}
use Rattle.agent_model.specs.declared.machine.Replication.{Replication}
use Rattle.agent_model.specs.Agents.{AgentFacts, outcome_from}
use Rattle.agent_commit_law.specs.Committing.{GrowsByConnected, ListsMember}
use Rattle.cluster_model.specs.Machines.{connected_end, connected_ends, is_connected, machine_from, machine_of, nothing_confirmed, replication_of}
use Rattle.cluster_model.specs.State.{Cluster}
use Rattle.lease_model.proofs.Tools.{none-some}
use Rattle.commit_actions.specs.Past.{confirmers_in, confirmers_of}
use Rattle.commit_servers.specs.Sound.{WaitsForMembers}
use Rattle.commit_servers.proofs.Acting.{required-at}
use Rattle.run_promise.specs.Members.{member_count}
use Rattle.run_promise.proofs.Members.{counted}
use Rattle.commit_parts.specs.Bridged.{CommitsBridged}
use Rattle.commit_parts.specs.Reading.{past_of, state_of_run}
use Rattle.commit_parts.proofs.Standing.{at-number, made-of, none-confirmed}
use Rattle.pat_base.specs.declared.member_id.TheConstants.{MOST_MEMBERS}

-- who is connected is a member
within-by : (members : List Member) (servers : List ServerFacts) (cuts : CutLinks) (member : Member) (n : ℕ)
    (found : Option Member) (position : Option Lsn) (end : Lsn) → slice_get members n ≡ found
    → (if is_connected members servers cuts member found then position else None) ≡ Some end → n < length members
within-by members servers cuts member n None position end is e = absurd (none-some end e)
within-by members servers cuts member n (Some other) position end is e = slice_get_within members n other is

within-if : (members : List Member) (servers : List ServerFacts) (cuts : CutLinks) (member : Member)
    (s : ServerFacts) (writing : Bool) (n : ℕ) (end : Lsn)
    → slice_get (if writing then connected_ends members servers cuts member s.confirmed else nothing_confirmed) n
    ≡ Some (Some end)
    → n < length members
unfolding connected_ends
within-if members servers cuts member s true n end is =
    within-by members servers cuts member n (slice_get members n) (slice_index_or s.confirmed n None) end refl
    (at-number (connected_end members servers cuts member s.confirmed) n end is)
within-if members servers cuts member s false n end is = absurd (none-confirmed 16 n end is)

module _ (head : HeadText) (book : List Event) (cluster : Cluster) (good : CommitsBridged head book cluster)
    (few : member_count head ≤ MOST_MEMBERS) (member : Member) (machine : Machine)
    (machine_is : machine_of cluster member ≡ Some machine) where
  count-is : length cluster.facts.members ≡ member_count head
  count-is = ap (λ (l : List Member). length l) good.lease.matched.members ∙ counted head few

  connected-by : (receives by_failsafe : Bool) (found : Option ServerFacts)
      → machine_from receives by_failsafe
      (option_map (replication_of cluster.facts.members cluster.facts.servers cluster.facts.cuts member) found)
      (slice_get cluster.options member.id.number)
      (slice_get cluster.facts.deadlines member.id.number) (slice_get cluster.facts.holds member.id.number) found
      ≡ Some machine
      → (n : ℕ) (end : Lsn) → slice_get machine.replication.confirmed_positions n ≡ Some (Some end)
      → n < length cluster.facts.members
  connected-by receives by_failsafe None is n end e = absurd (none-some machine is)
  connected-by receives by_failsafe (Some s) is n end e =
      let made_is = made-of receives by_failsafe
      (replication_of cluster.facts.members cluster.facts.servers cluster.facts.cuts member s)
      (slice_get cluster.options member.id.number) (slice_get cluster.facts.deadlines member.id.number)
      (slice_get cluster.facts.holds member.id.number) s machine is in
      within-if cluster.facts.members cluster.facts.servers cluster.facts.cuts member s (writes s.state) n end
      (ap (λ (r : Replication). slice_get r.confirmed_positions n) (sym made_is.replication_is) ∙ e)

  pub connected-member : (n : ℕ) (end : Lsn)
      → slice_get machine.replication.confirmed_positions n ≡ Some (Some end) → n < member_count head
  connected-member n end e = subst (λ (k : ℕ). n < k) count-is
      (connected-by _ _ (slice_get cluster.facts.servers member.id.number) machine_is n end e)

  below-few : (n : ℕ) → n < member_count head → n < MOST_MEMBERS
  below-few n small = omega (arith, small, few)

  -- ---- whom its commits come to wait for
  one-is : (k : ℕ) → k ≡ 1 → (k == 1) ≡ true
  one-is k e = grind (arith, nat_tests)

  is-one : (k : ℕ) → (k == 1) ≡ true → k ≡ 1
  is-one k e = grind (arith, nat_tests)

  needs-few : (required : Required) → WaitsForMembers required → (n : ℕ)
      → ListsMember (confirmers_in required) n → n < MOST_MEMBERS
  needs-few requireds.Nobody waits n needs = absurd needs
  needs-few requireds.AnyOne waits n needs = absurd needs
  needs-few (requireds.AtLeast number of) waits n needs = absurd needs
  needs-few (requireds.All set) waits n needs = waits n (is-one (bit_at set.bits n) needs)

  module _ (agent : AgentFacts) (s : ServerFacts)
      (found : slice_get cluster.facts.servers member.id.number ≡ Some s) where
    grown-few : (required : Required)
        → GrowsByConnected (outcome_from agent.role agent.knows machine [])
        ((state_of_run head book cluster).members member.id.number).required (confirmers_in required)
        → (n : ℕ) → ListsMember (confirmers_in required) n → n < MOST_MEMBERS
    grown-few required grows n needs = elim (grows n needs) [
      | inl before ↦ needs-few s.required (good.fits.servers.sound.each member.id.number s found).required n
          (subst (λ confirmers. ListsMember confirmers n)
          (ap confirmers_of
          (required-at (past_of head book) cluster.facts good.fits.servers.same member.id.number s found))
          before)
      | inr connected ↦ below-few n (connected-member n connected.0 connected.1)
    ]

    -- the required list that grows by members to which the server is connected is one of members
    pub grown-waits : (required : Required)
        → GrowsByConnected (outcome_from agent.role agent.knows machine [])
        ((state_of_run head book cluster).members member.id.number).required (confirmers_in required)
        → WaitsForMembers required
    grown-waits requireds.Nobody grows = tt
    grown-waits requireds.AnyOne grows = tt
    grown-waits (requireds.AtLeast number of) grows = tt
    grown-waits (requireds.All set) grows =
        λ n on. grown-few (requireds.All set) grows n (one-is (bit_at set.bits n) on)
