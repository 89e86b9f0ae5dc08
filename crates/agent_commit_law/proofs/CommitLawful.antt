-- An input that leaves what kept commits depend on is lawful, and what each other one needs for that.
use Rattle.std.proofs.Common.{◌≡◌, ◌⊎◌, ℕ, ◌≤◌, ◌<◌, ◌||◌, Bool, true, false, if◌then◌else◌, List, [], ◌∷◌, Option, Some, None, All, refl, sym, subst, ap, ◌∙◌, inl, inr}
use Rattle.pat_base.specs.declared.server_state.Required.{Required}
use Rattle.pat_base.specs.declared.lsn.Lsn.{Lsn}
use Rattle.pat_base.specs.ServerState.{live}
use Rattle.pat_base.specs.declared.ticks.Ticks.{Ticks}
use Rattle.cluster_view.specs.Snapshots.{SnapshotFacts}
use Rattle.lease_model.proofs.Tools.{some-is, none-some}
use Rattle.sync_state.specs.Standbys.{noted_position}
use Rattle.commit_actions.specs.Flights.{SyncRequest}
use Rattle.commit_actions.specs.Keys.{SyncKey}
use Rattle.commit_actions.specs.States.{Agent, State}
use Rattle.commit_actions.specs.Inputs.{AgentInput, HearsSnapshot, KeepsTurn, BeginsTurn, KeepsServer, Sends, Does, Idling}
use Rattle.commit_actions.specs.Past.{confirmers_in}
use Rattle.agent_model.specs.declared.heard.Heard.{Heard}
use Rattle.agent_model.specs.declared.knowledge.PendingQuestion.{PendingQuestion}
use Rattle.agent_model.specs.Agents.{Outcome}
use Rattle.agent_commit_law.specs.Committing.{sync_seen, number_waited, committer_seen, StandsToCommit, requests_of, IsSent, is_begin, DoesAs, IsLawfulAs}
use Rattle.agent_commit_law.proofs.CommitShown.{IsShown}
use Rattle.agent_model.specs.Decisions.{asks_lease, asks_sync}
use Rattle.agent_model.specs.Outputs.{has_one}
use Rattle.agent_model.specs.Synchronous.{sync_read_in}
use Rattle.agent_commit_law.proofs.CommitIdling.{WaitsOn, Idle}
use Rattle.agent_commit_law.proofs.CommitQuiet.{Stands, quiet-none, quiet-unbegun}
use Rattle.agent_roles.proofs.GoingOn.{Onward}
use Rattle.agent_roles.proofs.Living.{no-way}

-- what the law sees of an agent
abbrev pub was_of : Outcome → Agent
was_of o = committer_seen o.role o.knows

number-of : (asks : Bool) (number sequence : ℕ)
    → ◌≡◌ {A = Option ℕ} (if asks then Some number else None) (Some sequence) → number ≡ sequence
number-of true number sequence e = some-is number sequence e
number-of false number sequence e = absurd (none-some sequence e)

number-waits : (was after : Option PendingQuestion) (last sequence : ℕ)
    → ((waited : PendingQuestion) → after ≡ Some waited → (was ≡ Some waited) ⊎ (last < waited.sequence))
    → number_waited after ≡ Some sequence → (number_waited was ≡ Some sequence) ⊎ (last < sequence)
number-waits was None last sequence waits e = absurd (none-some sequence e)
number-waits was (Some waited) last sequence waits e = elim (waits waited refl) [
  | inl same ↦ inl (ap (λ (w : Option PendingQuestion). number_waited w) same ∙ e)
  | inr later ↦
      inr (subst (λ (n : ℕ). last < n)
      (number-of (asks_lease waited.question || asks_sync waited.question) waited.sequence sequence e) later)
]

-- what is lawful of an input, whatever it does
pub lawful-as : {quorum : ℕ} (now : Ticks) (heard : Heard) (told : Option SnapshotFacts) (s : State) (m : ℕ)
    (input : AgentInput) (o after : Outcome) → StandsToCommit s m quorum o → IsShown s m o after input
    → Onward told o after → WaitsOn o after
    → (does : Does s m input (was_of o)) → DoesAs now heard quorum o s m input (was_of o) does
    → IsLawfulAs now heard quorum o s m input
lawful-as now heard told s m input o after stands is onward waits does as-it = record {
  lawful = record {
    was = was_of o;
    was_is = stands.agent;
    incarnation = ap (λ (a : Agent). a.incarnation) is.agent ∙ onward.incarnation;
    last = subst (λ (a : Agent). o.knows.sequence ≤ a.last) (sym is.agent) onward.last;
    waits = λ sequence e. number-waits o.knows.waited after.knows.waited o.knows.sequence sequence waits
        (sym (ap (λ (a : Agent). a.waits) is.agent) ∙ e);
    holder_was_live = is.holder_was_live;
    does = does;
  };
  does = as-it;
}

-- the turn goes on with the same sync key
pub keeps-turn : (s : State) (m : ℕ) (input : AgentInput) (o after : Outcome) → IsShown s m o after input
    → after.knows.turn_sync ≡ o.knows.turn_sync → KeepsTurn (was_of o) input.agent
keeps-turn s m input o after is same = record {
  turn = ap (λ (a : Agent). a.turn) is.agent ∙ ap sync_seen same;
  race = inr (ap (λ (a : Agent). a.race) is.agent);
  won = λ e. absurd (no-way (sym (ap (λ (a : Agent). a.won) is.agent) ∙ e));
}

begins-turn : (s : State) (m : ℕ) (input : AgentInput) (o after : Outcome) (snapshot : SnapshotFacts)
    → IsShown s m o after input → after.knows.turn_sync ≡ sync_read_in snapshot
    → HearsSnapshot s input (sync_seen (sync_read_in snapshot)) → BeginsTurn s input
begins-turn s m input o after snapshot is read hears = record {
  view = subst (λ (t : Option SyncKey). HearsSnapshot s input t)
      (sym (ap (λ (a : Agent). a.turn) is.agent ∙ ap sync_seen read)) hears;
  race = ap (λ (a : Agent). a.race) is.agent;
  won = ap (λ (a : Agent). a.won) is.agent;
}

unbegun-live : (begun after before-it : Bool) → begun ≡ false → (if begun then after else before-it) ≡ before-it
unbegun-live true after before-it e = absurd (no-way (sym e))
unbegun-live false after before-it e = refl

-- the server stays where nobody begins
pub keeps-live : {quorum : ℕ} (s : State) (m : ℕ) (input : AgentInput) (o after : Outcome) → StandsToCommit s m quorum o
    → IsShown s m o after input → has_one is_begin after.outputs ≡ false → input.live ≡ (s.members m).live
keeps-live s m input o after stands is begun =
    is.live
    ∙ (unbegun-live (has_one is_begin after.outputs) (live after.machine.server.state)
    (live o.machine.server.state) begun ∙ sym stands.live)

pub keeps-server : {quorum : ℕ} (s : State) (m : ℕ) (input : AgentInput) (o after : Outcome)
    → StandsToCommit s m quorum o → IsShown s m o after input → has_one is_begin after.outputs ≡ false
    → after.machine.replication.required ≡ o.machine.replication.required → KeepsServer s m input
keeps-server s m input o after stands is begun required = record {
  live = keeps-live s m input o after stands is begun;
  required = is.required ∙ (ap (λ (r : Required). confirmers_in r) required ∙ sym stands.required);
}

-- what an input leaves of being Ready, of leading, and of the noted position
pub keeps-ready : (s : State) (m : ℕ) (input : AgentInput) (o after : Outcome) → IsShown s m o after input
    → ((was_of after).ready ≡ true → (was_of o).ready ≡ true) → input.agent.ready ≡ true → (was_of o).ready ≡ true
keeps-ready s m input o after is ready e = ready (sym (ap (λ (a : Agent). a.ready) is.agent) ∙ e)

pub keeps-leads : (s : State) (m : ℕ) (input : AgentInput) (o after : Outcome) → IsShown s m o after input
    → ((was_of after).leads ≡ true → (was_of o).leads ≡ true) → input.agent.leads ≡ true → (was_of o).leads ≡ true
keeps-leads s m input o after is leads e = leads (sym (ap (λ (a : Agent). a.leads) is.agent) ∙ e)

pub keeps-noted : (s : State) (m : ℕ) (input : AgentInput) (o after : Outcome) → IsShown s m o after input
    → after.knows.noted ≡ o.knows.noted → input.agent.noted ≡ (was_of o).noted
keeps-noted s m input o after is same =
    ap (λ (a : Agent). a.noted) is.agent ∙ ap (λ (n : Option Lsn). noted_position n) same

-- what is sent, where none of the requests is among the outputs, or this one alone
pub sends-nothing : (s : State) (m : ℕ) (input : AgentInput) (o after : Outcome) → IsShown s m o after input
    → requests_of m o.knows.incarnation after.outputs ≡ [] → input.sends ≡ None
sends-nothing s m input o after is none = subst (λ (l : List SyncRequest). IsSent l input.sends) none is.sends

pub sends-one : (s : State) (m : ℕ) (input : AgentInput) (o after : Outcome) (request : SyncRequest)
    → IsShown s m o after input → requests_of m o.knows.incarnation after.outputs ≡ request ∷ []
    → request.member ≡ m → request.incarnation ≡ o.knows.incarnation → o.knows.sequence < request.sequence
    → request.sequence ≤ after.knows.sequence → number_waited after.knows.waited ≡ Some request.sequence
    → Sends m input (was_of o) request
sends-one s m input o after request is one member incarnation later counted waits =
    let sent : (number : ℕ) × (input.sends ≡ Some (record { number = number; request = request })) =
    subst (λ (l : List SyncRequest). IsSent l input.sends) one is.sends in
    record {
      number = sent.0;
      is = sent.1;
      member = member;
      incarnation = incarnation;
      later = later;
      counted = subst (λ (a : Agent). request.sequence ≤ a.last) (sym is.agent) counted;
      waits = ap (λ (a : Agent). a.waits) is.agent ∙ waits;
    }

-- an input that leaves what commits depend on is lawful
pub idle-lawful : {quorum : ℕ} (now : Ticks) (heard : Heard) (told onto : Option SnapshotFacts) (s : State)
    (m : ℕ) (input : AgentInput) (o after : Outcome) → StandsToCommit s m quorum o → IsShown s m o after input
    → Onward onto o after → Idle told o after → All (Stands true) o.outputs
    → ((snapshot : SnapshotFacts) → told ≡ Some snapshot → HearsSnapshot s input (sync_seen (sync_read_in snapshot)))
    → IsLawfulAs now heard quorum o s m input
idle-lawful now heard told onto s m input o after stands is onward idle quiet hears =
    let still : All (Stands true) after.outputs = idle.quiet true (λ _ _. refl) quiet in
    lawful-as now heard onto s m input o after stands is onward idle.waits
    (Idling (record {
      keeps = record {
        server = keeps-server s m input o after stands is (quiet-unbegun true after.outputs still) idle.required;
        ready = keeps-ready s m input o after is idle.ready;
        leads = keeps-leads s m input o after is idle.leads;
        noted = keeps-noted s m input o after is idle.noted;
      };
      sends = sends-nothing s m input o after is (quiet-none true m o.knows.incarnation after.outputs still);
      turn = elim idle.turn [
        | inl same ↦ inl (keeps-turn s m input o after is same)
        | inr read ↦ inr (begins-turn s m input o after read.0 is read.2 (hears read.0 read.1))
      ];
    })) tt
