-- An agent that acts stands in the law's state.
use Rattle.std.proofs.Common.{ℕ, ◌≡◌, ◌<◌, ◌≤◌, ◌+◌, ◌^◌, Bool, true, false, cond, List, [], ◌∷◌, get_or, length, map, replicate, slice_get, slice_index_or, Option, Some, None, zero, suc, option_map, refl, ◌∙◌, ap, sym, subst, arith}
use Rattle.std.specs.List.{range_with_len}
use Rattle.std.proofs.lemmas.List.FromFn.{get_or-map-range_with_len, length-map-range_with_len}
use Rattle.std.proofs.lemmas.Option.{slice_get-get_or, slice_get_within}
use Rattle.pat_base.specs.declared.lsn.Lsn.{Lsn}
use Rattle.pat_base.specs.declared.ticks.Ticks.{Ticks}
use Rattle.pat_base.specs.ServerState.{live, writes}
use Rattle.pat_base.proofs.Positions.{lsn_at-position}
use Rattle.wal_model.specs.declared.entry.Entry.{Entry}
use Rattle.wal_model.specs.Log.{end_of}
use Rattle.pg_model.specs.Facts.{ServerFacts, entries_of, has_data}
use Rattle.pg_model.specs.Status.{end_in}
use Rattle.event_book.specs.declared.event.Event.{Event}
use Rattle.event_book.specs.declared.member.Member.{Member}
use Rattle.event_book.specs.Links.{CutLinks}
use Rattle.agent_model.specs.declared.machine.Machine.{Machine}
use Rattle.agent_model.specs.declared.machine.Replication.{Replication}
use Rattle.agent_model.specs.Agents.{AgentFacts, outcome_from}
use Rattle.agent_commit_law.specs.Committing.{IsEndOf, StandsToCommit}
use Rattle.member_options.specs.declared.member_option.MemberOptions.{MemberOptions}
use Rattle.script_model.specs.Script.{HeadText}
use Rattle.cluster_model.specs.Machines.{connected_end, connected_ends, is_connected, machine_from, machine_of, nothing_confirmed, replication_of}
use Rattle.cluster_model.specs.State.{Cluster}
use Rattle.lease_model.proofs.Tools.{none-some, some-is}
use Rattle.commit_actions.specs.Keys.{strict_quorum}
use Rattle.commit_actions.specs.Past.{Past, log_found, confirmers_in, confirmers_of, position_in, position_of}
use Rattle.commit_actions.specs.States.{HasLog}
use Rattle.commit_servers.specs.Matching.{live_now}
use Rattle.commit_servers.specs.Sound.{IsServerSound}
use Rattle.commit_servers.proofs.Acting.{confirmed-at, log-at, required-at, writes-at}
use Rattle.run_promise.specs.Members.{member_count}
use Rattle.commit_parts.specs.Bridged.{CommitsBridged}
use Rattle.commit_parts.specs.Reading.{agent_now, past_of, state_of_run}
use Rattle.pat_base.specs.declared.member_id.TheConstants.{MOST_MEMBERS}

-- what a machine has of the server that it is made of
pub record IsMadeOf (s : ServerFacts) (replication : Replication) (machine : Machine) : Type 0 where
  pub state : machine.server.state ≡ s.state
  pub end : machine.server.end ≡ end_in s.log
  pub replication_is : machine.replication ≡ replication

pub made-of : (receives by_failsafe : Bool) (replication : Replication) (options : Option MemberOptions)
    (deadline hold : Option (Option Ticks)) (s : ServerFacts) (machine : Machine)
    → machine_from receives by_failsafe (Some replication) options deadline hold (Some s) ≡ Some machine
    → IsMadeOf s replication machine
made-of receives by_failsafe replication None deadline hold s machine is = absurd (none-some machine is)
made-of receives by_failsafe replication (Some options) None hold s machine is = absurd (none-some machine is)
made-of receives by_failsafe replication (Some options) (Some deadline) None s machine is =
    absurd (none-some machine is)
made-of receives by_failsafe replication (Some options) (Some deadline) (Some hold) s machine is =
    let same = some-is _ machine is in
    record {
      state = ap (λ (m : Machine). m.server.state) (sym same);
      end = ap (λ (m : Machine). m.server.end) (sym same);
      replication_is = ap (λ (m : Machine). m.replication) (sym same);
    }

end-is : (log : Option (List Entry)) → end_of (entries_of log) ≤ 2 ^ 63 → IsEndOf (end_in log) log
end-is None small = tt
end-is (Some log) small = lsn_at-position (end_of log) small

-- ---- who is connected has confirmed
pub none-confirmed : (count n : ℕ) (end : Lsn)
    → slice_get (replicate count (let none : Option Lsn = None in none)) n ≡ Some (Some end) → ⊥
none-confirmed zero n end is = none-some (Some end) is
none-confirmed (suc count) zero end is = none-some end (some-is None (Some end) is)
none-confirmed (suc count) (suc n) end is = none-confirmed count n end is

cond-some : (test : Bool) (found : Option Lsn) (end : Lsn) → cond test found None ≡ Some end → found ≡ Some end
cond-some true found end is = is
cond-some false found end is = absurd (none-some end is)

from-none : (n : ℕ) → 0 + n ≡ n
from-none n = omega arith

pub at-number : (f : ℕ → Option Lsn) (n : ℕ) (end : Lsn)
    → slice_get (map f (range_with_len 0 MOST_MEMBERS)) n ≡ Some (Some end) → f n ≡ Some end
at-number f n end is =
    let ends : List (Option Lsn) = map f (range_with_len 0 MOST_MEMBERS) in
    let few : n < length ends = slice_get_within ends n (Some end) is in
    let small : n < MOST_MEMBERS = subst (λ (k : ℕ). n < k) (length-map-range_with_len f 0 16) few in
    sym (get_or-map-range_with_len f 0 16 n n None small (from-none n))
    ∙ some-is (get_or ends n None) (Some end) (sym (slice_get-get_or ends n None few) ∙ is)

connected-end : (members : List Member) (servers : List ServerFacts) (cuts : CutLinks) (member : Member)
    (s : ServerFacts) (writing : Bool) (n : ℕ) (end : Lsn)
    → slice_get (cond writing (connected_ends members servers cuts member s.confirmed) nothing_confirmed) n
    ≡ Some (Some end)
    → (writing ≡ true) × (slice_index_or s.confirmed n None ≡ Some end)
unfolding connected_ends
connected-end members servers cuts member s true n end is = (
  refl,
  cond-some (is_connected members servers cuts member (slice_get members n)) (slice_index_or s.confirmed n None) end
      (at-number (connected_end members servers cuts member s.confirmed) n end is),
)
connected-end members servers cuts member s false n end is = absurd (none-confirmed 16 n end is)

known-position : (confirmed : List (Option Lsn)) (n : ℕ) (end : Lsn)
    → slice_index_or confirmed n None ≡ Some end → position_in (slice_get confirmed n) ≡ Some end.position
known-position [] n end is = absurd (none-some end is)
known-position (one ∷ confirmed) zero end is = ap (λ (o : Option Lsn). position_in (Some o)) is
known-position (one ∷ confirmed) (suc n) end is = known-position confirmed n end is

module _ (head : HeadText) (book : List Event) (cluster : Cluster) (good : CommitsBridged head book cluster)
    (member : Member) (agent : AgentFacts) (s : ServerFacts)
    (there : slice_get cluster.agents member.id.number ≡ Some (Some agent))
    (found : slice_get cluster.facts.servers member.id.number ≡ Some s) where
  abbrev Seen : Replication
  Seen = replication_of cluster.facts.members cluster.facts.servers cluster.facts.cuts member s

  stands : (machine : Machine) → IsMadeOf s Seen machine → member.id.number < member_count head
      → StandsToCommit (state_of_run head book cluster) member.id.number strict_quorum
      (outcome_from agent.role agent.knows machine [])
  stands machine made_is small =
      let k : ℕ = member.id.number in
      let past : Past = past_of head book in
      let same = good.fits.servers.same in
      let sound : IsServerSound cluster.facts.commits s = good.fits.servers.sound.each k s found in
      let log : log_found (slice_get past.logs.members k) ≡ s.log =
      ap log_found (log-at past cluster.facts same k s found) in
      record {
        agent = ap agent_now there;
        live = ap live_now found ∙ ap live (sym made_is.state);
        required = ap confirmers_of (required-at past cluster.facts same k s found)
            ∙ ap (λ (r : Replication). confirmers_in r.required) (sym made_is.replication_is);
        end = subst (λ (e : Option Lsn). IsEndOf e (log_found (slice_get past.logs.members k))) (sym made_is.end)
            (subst (λ (l : Option (List Entry)). IsEndOf (end_in s.log) l) (sym log) (end-is s.log sound.end));
        has_log = λ with_data. subst HasLog (sym log) (sound.log (ap has_data (sym made_is.state) ∙ with_data));
        connected = λ n end is.
            let at =
            connected-end cluster.facts.members cluster.facts.servers cluster.facts.cuts member s (writes s.state) n end
            (ap (λ (r : Replication). slice_get r.confirmed_positions n) (sym made_is.replication_is) ∙ is) in
            record {
              writes = writes-at past cluster.facts same k s found ∙ at.0;
              confirmed =
                  ap (λ (o : Option (List (Option Lsn))). position_of o n)
                  (confirmed-at past cluster.facts same k s found)
                  ∙ known-position s.confirmed n end at.1;
            };
        me = (good.lease.matched.agents k agent there).me;
        counts = small;
        strict = good.fits.strict;
      }

-- a member's agent stands to commit with the machine that it finds
module _ (head : HeadText) (book : List Event) (cluster : Cluster) (good : CommitsBridged head book cluster)
    (member : Member) (agent : AgentFacts)
    (there : slice_get cluster.agents member.id.number ≡ Some (Some agent))
    (small : member.id.number < member_count head) where
  stands-by : (machine : Machine) (receives by_failsafe : Bool) (found : Option ServerFacts)
      → slice_get cluster.facts.servers member.id.number ≡ found
      → machine_from receives by_failsafe
      (option_map (replication_of cluster.facts.members cluster.facts.servers cluster.facts.cuts member) found)
      (slice_get cluster.options member.id.number)
      (slice_get cluster.facts.deadlines member.id.number) (slice_get cluster.facts.holds member.id.number) found
      ≡ Some machine
      → StandsToCommit (state_of_run head book cluster) member.id.number strict_quorum
      (outcome_from agent.role agent.knows machine [])
  stands-by machine receives by_failsafe None found is = absurd (none-some machine is)
  stands-by machine receives by_failsafe (Some s) found is =
      stands head book cluster good member agent s there found machine
      (made-of receives by_failsafe
      (replication_of cluster.facts.members cluster.facts.servers cluster.facts.cuts member s)
      (slice_get cluster.options member.id.number) (slice_get cluster.facts.deadlines member.id.number)
      (slice_get cluster.facts.holds member.id.number) s machine is)
      small

  pub agent-stands : (machine : Machine) → machine_of cluster member ≡ Some machine
      → StandsToCommit (state_of_run head book cluster) member.id.number strict_quorum
      (outcome_from agent.role agent.knows machine [])
  agent-stands machine is = stands-by machine _ _ (slice_get cluster.facts.servers member.id.number) refl is
