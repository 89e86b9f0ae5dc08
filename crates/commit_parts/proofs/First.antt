-- Before the first event, what both laws carry holds of a cluster whose head has synchronous mode on.
use Rattle.std.proofs.Common.{arith, ℕ, ◌≡◌, ◌≤◌, ◌+◌, true, false, List, [], slice_get, Option, Some, None, option_map, refl, ◌∙◌, ap, sym, subst}
use Rattle.std.proofs.Math.Path.{fun_ext}
use Rattle.std.proofs.lemmas.Option.{slice_get-map}
use Rattle.pat_base.specs.declared.name.Name.{Name}
use Rattle.member_options.specs.declared.member_option.MemberOptions.{MemberOptions}
use Rattle.script_model.specs.Script.{HeadText, IsHead, names_of}
use Rattle.event_book.specs.declared.member.Member.{Member}
use Rattle.event_book.specs.Facts.{start_of}
use Rattle.event_book.specs.Logs.{logs_in}
use Rattle.event_book.specs.Required.{confirmed_in, required_in}
use Rattle.agent_model.specs.Agents.{AgentFacts}
use Rattle.agent_commit_law.proofs.CommitInputs.{fresh-asks, fresh-seen}
use Rattle.cluster_model.specs.Machines.{who_of}
use Rattle.cluster_model.specs.Starting.{cluster_of, first_agent, options_of}
use Rattle.lease_model.specs.Past as lease_past
use Rattle.lease_model.proofs.Tools.{none-some, some-is}
use Rattle.commit_actions.specs.Actions.{fresh_agent}
use Rattle.commit_showing.specs.Books.{first_volatile_states}
use Rattle.commit_actions.specs.Carried.{IsSound}
use Rattle.commit_actions.specs.Past.{VolatileState, state_of}
use Rattle.commit_showing.proofs.Fronts.{inv-first}
use Rattle.commit_book.proofs.Groups.{book-first}
use Rattle.commit_servers.specs.Acting.{Fits}
use Rattle.commit_servers.proofs.First.{bytes-first, fits-first}
use Rattle.run_promise.specs.Members.{declared_members}
use Rattle.lease_parts.proofs.First.{bridged-first}
use Rattle.run_promise.proofs.Members.{few-names}
use Rattle.commit_parts.specs.Agents.{IsAgentSynchronous}
use Rattle.commit_parts.specs.Bridged.{CommitsBridged}
use Rattle.commit_parts.specs.Reading.{agent_now, past_of, setup_of, volatile_of}
use Rattle.commit_parts.proofs.Modes.{synchronous-first}
use Rattle.commit_parts.proofs.Still.{volatile-same}

-- what is seen of an agent at the beginning
agent-first : (scope : Name) (options : List MemberOptions) (members : List Member) (found : Option Member)
    → agent_now (option_map (first_agent scope options members) found) ≡ Some (fresh_agent 1)
agent-first scope options members None = refl
agent-first scope options members (Some member) =
    ap Some (fresh-seen (who_of scope options members member) (record { 0 = member.id.number + 1 }) 1)

pub first-volatile : (head : HeadText) → Fits (past_of head []) (cluster_of head).facts first_volatile_states
    → volatile_of (cluster_of head) ≡ first_volatile_states
first-volatile head fits =
    let members : List Member = declared_members head in
    fun_ext (λ m. volatile-same _ _ _ _ (sym (fits.live.live m))
    (ap agent_now (slice_get-map (first_agent head.cluster (options_of head) members) members m)
    ∙ agent-first head.cluster (options_of head) members (slice_get members m)))

-- a first agent waits for nothing
waits-nothing : (named : lease_past.Past) (head : HeadText) (m : ℕ) (found : Option Member) (agent : AgentFacts)
    → option_map (first_agent head.cluster (options_of head) (declared_members head)) found ≡ Some (Some agent)
    → IsAgentSynchronous named.asked (past_of head []).asked m agent
waits-nothing named head m None agent is = absurd (none-some (Some agent) is)
waits-nothing named head m (Some member) agent is =
    subst (λ (a : AgentFacts). IsAgentSynchronous named.asked (past_of head []).asked m a)
    (some-is _ agent (some-is _ (Some agent) is)) (record {
      on = fresh-asks (who_of head.cluster (options_of head) (declared_members head) member)
          (record { 0 = member.id.number + 1 }) 1;
      writes = λ waited waits. absurd (none-some waited waits);
    })

from-zero : (n : ℕ) → 0 ≤ n
from-zero n = omega arith

pub commits-first : (head : HeadText) → IsHead head → head.config.config.synchronous_mode ≡ true
    → head.config.config.pause ≡ false → CommitsBridged head [] (cluster_of head)
commits-first head is on unpaused =
    let start = start_of head.config (names_of head) head.base in
    let fits : Fits (past_of head []) (cluster_of head).facts first_volatile_states =
    fits-first head.config (names_of head) head.base is.base_most in
    let same = first-volatile head fits in
    let members : List Member = declared_members head in
    record {
      lease = bridged-first head (few-names head is) unpaused;
      fits = record {
        store = book-first (logs_in start) (required_in start.servers)
            (confirmed_in start.servers) head.config (names_of head) head.base;
        servers = subst (λ (v : ℕ → VolatileState). Fits (past_of head []) (cluster_of head).facts v) (sym same) fits;
        mode = synchronous-first head.config (names_of head) head.base on;
        strict = λ key e. absurd (none-some key e);
        told = λ i carried e. absurd (none-some carried e);
        requests = λ i carried e. absurd (none-some carried e);
        agents = record {
          each = λ m agent e. waits-nothing lease_past.first_past head m (slice_get members m) agent
              (sym (slice_get-map (first_agent head.cluster (options_of head) members) members m) ∙ e);
          members = λ i question e. absurd (none-some question e);
        };
      };
      sound = subst (λ (v : ℕ → VolatileState). IsSound (state_of (setup_of head) (past_of head []) v)) (sym same)
          (inv-first (setup_of head) (logs_in start) (required_in start.servers)
          (confirmed_in start.servers) (bytes-first head.config (names_of head) head.base is.base_least));
      asks = λ i carried e. absurd (none-some carried e);
      noted = λ m. record {
        none = λ nobody. refl;
        within = λ live. from-zero _;
        noted = λ agent live here leads. from-zero agent.noted;
      };
      reached = refl;
      ordered = tt;
    }
