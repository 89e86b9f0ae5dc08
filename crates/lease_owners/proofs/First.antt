-- Before the first event no key of a lease is there, nothing is in flight, and all agents are fresh.
use Rattle.std.proofs.Common.{ℕ, ◌≡◌, ◌≤◌, List, length, slice_get, Option, Some, None, option_map, zero, suc, refl, sym, ap, subst, ◌∙◌}
use Rattle.std.proofs.lemmas.List.{length-replicate}
use Rattle.std.proofs.lemmas.Option.{slice_get-map}
use Rattle.pat_base.specs.declared.member_id.TheConstants.{MOST_MEMBERS}
use Rattle.pat_base.specs.declared.name.Name.{Name}
use Rattle.pat_base.specs.declared.ticks.Ticks.{Ticks}
use Rattle.lease_store.specs.Keys.{Keys}
use Rattle.pg_model.specs.Facts.{fresh}
use Rattle.member_options.specs.declared.member_option.MemberOptions.{MemberOptions}
use Rattle.script_model.specs.Script.{HeadText, names_of}
use Rattle.event_book.specs.declared.agent_process.AgentProcess.{AgentProcess}
use Rattle.event_book.specs.declared.member.Member.{Member}
use Rattle.event_book.specs.Processes.{first_processes, running_in}
use Rattle.agent_model.specs.Agents.{AgentFacts, EndsAlone}
use Rattle.cluster_model.specs.Inputs.{starting_agent}
use Rattle.cluster_model.specs.Machines.{who_of}
use Rattle.cluster_model.specs.Starting.{cluster_of, first_agent, options_of}
use Rattle.lease_law.proofs.SameStore.{same-first}
use Rattle.lease_model.specs.Past.{first_past}
use Rattle.lease_model.proofs.Tools.{none-some, some-is}
use Rattle.run_promise.specs.Members.{declared_members, member_count}
use Rattle.run_promise.proofs.Members.{numbered}
use Rattle.lease_owners.specs.Kept.{AgentsAreKept, IsOwned, KnowsItsRun}
use Rattle.lease_owners.specs.Owning.{HoldsOwn}
use Rattle.lease_owners.proofs.Agents.{fresh-holds}

first-run : (count m : ℕ) (process : AgentProcess) → slice_get (first_processes count) m ≡ Some process
    → process.incarnation ≡ 1
first-run zero m process is = absurd (none-some process is)
first-run (suc count) zero process is =
    ap (λ (p : AgentProcess). p.incarnation) (sym (some-is (running_in 1) process is))
first-run (suc count) (suc m) process is = first-run count m process is

first-sized : (count : ℕ) → length (first_processes count) ≡ count
first-sized zero = refl
first-sized (suc count) = ap suc (first-sized count)

agent-first : (known : Keys) (scope : Name) (options : List MemberOptions) (members : List Member) (count m : ℕ)
    (found : Option Member) (agent : AgentFacts) → slice_get members m ≡ found
    → ((member : Member) → slice_get members m ≡ Some member → member.id.number ≡ m)
    → option_map (first_agent scope options members) found ≡ Some (Some agent)
    → KnowsItsRun m (slice_get (first_processes count) m) agent × HoldsOwn known m agent
agent-first known scope options members count m None agent is number there = absurd (none-some (Some agent) there)
agent-first known scope options members count m (Some member) agent is number there =
    let start : AgentFacts = starting_agent (who_of scope options members member) member.id.number 1 in
    let same : start ≡ agent = some-is start agent (some-is (Some start) (Some agent) there) in (
      record {
        incarnation = λ process found. ap (λ (a : AgentFacts). a.knows.incarnation) (sym same)
            ∙ sym (first-run count m process found);
        me = ap (λ (a : AgentFacts). a.knows.who.me.number) (sym same) ∙ number member is;
        ends = subst (λ (a : AgentFacts). EndsAlone a.role a.knows.waited) same tt;
      },
      subst (HoldsOwn known m) same
          (fresh-holds known m member.id.number 1 (who_of scope options members member)),
    )

pub owned-first : (head : HeadText) → length (names_of head) ≤ MOST_MEMBERS → IsOwned head (cluster_of head)
owned-first head few =
    let members : List Member = declared_members head in
    record {
      members = refl;
      sized = record {
        agents = first-sized (member_count head);
        servers = length-replicate (member_count head) (fresh head.base);
        deadlines = length-replicate (member_count head) (let none : Option Ticks = None in none);
        holds = length-replicate (member_count head) (let none : Option Ticks = None in none);
      };
      facts = record {
        past = first_past;
        store = same-first head.config (names_of head) head.base;
        bounded = λ key is. absurd (none-some key is);
        order = tt;
        flown = λ i carried is. absurd (none-some carried is);
        sent = λ i carried is. absurd (none-some carried is);
      };
      agents = λ m agent is.
          agent-first (cluster_of head).facts.keys head.cluster (options_of head) members (member_count head) m
          (slice_get members m) agent refl (numbered head few m)
          (sym (slice_get-map (first_agent head.cluster (options_of head) members) members m) ∙ is);
    }
