-- What becomes of an answer that tells that nobody leads.
use Rattle.std.proofs.Common.{◌≡◌, if◌then◌else◌, ◌⊎◌, ℕ, ◌+◌, ◌<◌, ◌&&◌, ◌||◌, nat_le, not, Bool, true, false, List, [], ◌∷◌, Option, Some, None, Contains, refl, sym, subst, ap, ◌∙◌, arith, inl, inr, zero, suc}
use Rattle.std.specs.Prelude.{IsSome, option_map}
use Rattle.std.proofs.lemmas.List.Elements.{Contains-push, Contains-append_left}
use Rattle.pat_base.specs.MemberId.{member_of}
use Rattle.pat_base.proofs.Members.{member_of-number}
use Rattle.pat_base.specs.declared.member_id.MemberId.{MemberId}
use Rattle.pat_base.specs.declared.peer_answer.PeerAnswer.{PeerAnswer}
use Rattle.pat_base.specs.declared.server_state.State.{State}
use Rattle.pat_base.specs.declared.server_state.State.TheVariants as states
use Rattle.pat_base.specs.declared.ticks.Ticks.{Ticks}
use Rattle.pat_base.specs.declared.ineligibility.Ineligibility.{Ineligibility}
use Rattle.store_keys.specs.Defaults.{default_config}
use Rattle.store_keys.specs.declared.config.Config.{Config}
use Rattle.store_keys.specs.declared.key.Key.TheVariants as keys
use Rattle.store_keys.specs.declared.value.KeyEntry.{KeyEntry}
use Rattle.store_keys.specs.declared.value.SyncKey.{SyncKey}
use Rattle.store_keys.specs.declared.value.Value.{Value}
use Rattle.store_keys.specs.declared.value.Value.TheVariants as values
use Rattle.lease_store.specs.Kinds.{IsOfKind}
use Rattle.lease_store.proofs.Keeping.{kind_found}
use Rattle.wal_model.specs.declared.entry.HistoryPoint.{HistoryPoint}
use Rattle.pg_model.specs.Facts.{is_down}
use Rattle.event_book.specs.declared.message.Body.TheVariants as bodies
use Rattle.cluster_view.specs.declared.snapshot.LeaderEntry.{LeaderEntry}
use Rattle.cluster_view.specs.declared.view.AgentView.{AgentView}
use Rattle.cluster_view.specs.KeyValues.{config_in, failover_in, sync_by, sync_in, active_sync_where}
use Rattle.cluster_view.specs.Naming.{is_candidate}
use Rattle.cluster_view.specs.Snapshots.{IsRead, SnapshotFacts, leader_in, entry_in, settings_by, settings_of_entry, settings_in, found_by, value_by}
use Rattle.leader_race.specs.Bars.{first_bar}
use Rattle.leader_race.specs.Eligibility.{eligibility_of}
use Rattle.leader_race.specs.declared.racer.RaceKeys.{RaceKeys}
use Rattle.leader_race.specs.Outcome.{unless, outcome_by, race_keys_in}
use Rattle.leader_race.proofs.Winning.{race-replica}
use Rattle.agent_model.specs.declared.knowledge.Question.{Question}
use Rattle.agent_model.specs.declared.knowledge.Question.TheVariants.{Reading, ComparingPositions, Creating, Renewing, Claiming, Syncing, FindingCandidate, StayingPrimary}
use Rattle.agent_model.specs.declared.knowledge.Knowledge.{Knowledge}
use Rattle.agent_model.specs.declared.knowledge.PendingQuestion.{PendingQuestion}
use Rattle.agent_model.specs.declared.knowledge.SyncRead.{SyncRead}
use Rattle.agent_model.specs.declared.output.Output.{Output}
use Rattle.agent_model.specs.declared.output.Output.TheVariants as outputs
use Rattle.agent_model.specs.declared.output.Outgoing.TheVariants as outgoing
use Rattle.agent_model.specs.declared.output.Target.TheVariants as targets
use Rattle.agent_model.specs.declared.heard.Heard.TheVariants.{Wake}
use Rattle.agent_model.specs.declared.who.Who.{Who}
use Rattle.agent_model.specs.Acting.{touching, waiting_no_more}
use Rattle.agent_model.specs.Agents.{RoleFacts, Follower, Holder, Ready, Leader, Ending, Unleased, Outcome}
use Rattle.agent_model.specs.Answers.{is_other, with_answer, asking_one, asking_first, all_answered}
use Rattle.pat_base.specs.declared.member_id.TheConstants.{MOST_MEMBERS}
use Rattle.agent_model.specs.Reconciling.{reconciled}
use Rattle.agent_model.specs.Decisions.{may_create}
use Rattle.agent_succession.specs.FreeKey.{HearsFree, StaysOut, AsksForKey, AsksOthers, HearsLast, RunsLate, LosesRace, LosesAndTurns}
use Rattle.agent_model.specs.Outputs.{with_output}
use Rattle.agent_model.specs.HandingOver.{check_answered}
use Rattle.agent_model.specs.Peers.{is_asking, awaits_answer, awaits_check, judged_if_all, keeping, accepted_answer, answered_for, answered}
use Rattle.agent_model.specs.Racing.{can_start, bar_of, turn_keys, judged_as, judged, asking_others, unheard, races, races_unless, finds_free, starts_alone}
use Rattle.agent_model.specs.Snapshots.{no_key, led, is_active, awaits_read, read_noted, accepted, read_answered}
use Rattle.agent_model.specs.Synchronous.{sync_read_by, sync_read_at}
use Rattle.agent_model.specs.Views.{shown}
use Rattle.agent_model.specs.Operators.{given_up}
use Rattle.agent_model.specs.Table.{prepared}
use Rattle.agent_model.specs.Wake.{roused, finds_ended, is_overdue, has_turn, is_due, unanswered, overdue_for, overdue, turned, woken}
use Rattle.agent_model.proofs.Judging.{if-true, if-false}
use Rattle.agent_roles.proofs.Knowing.{creates-active}
use Rattle.agent_roles.proofs.Staying.{before-waits}
use Rattle.agent_roles.proofs.Living.{no-way}
use Rattle.agent_cases.proofs.Rows.{if-cases, given-up-by}

no-key-free : (now : Ticks) (role : RoleFacts) (o : Outcome) → may_create role ≡ true
    → no_key now role o ≡ finds_free now o
no-key-free now Follower o may = refl
no-key-free now (Holder held) o may = refl
no-key-free now (Ready held) o may = absurd (no-way may)
no-key-free now (Leader held) o may = absurd (no-way may)
no-key-free now (Ending held why) o may = absurd (no-way may)
no-key-free now Unleased o may = absurd (no-way may)

-- the agent finds that nobody leads
got-free : (now : Ticks) (points : List HistoryPoint) (sequence : ℕ) (snapshot : SnapshotFacts) (o : Outcome)
    → HearsFree sequence snapshot o
    → read_answered now points sequence snapshot o
    ≡ finds_free now (record o { knows = read_noted now snapshot o.knows })
got-free now points sequence snapshot o hears =
    let read : Outcome = record o { knows = read_noted now snapshot o.knows } in
    if-true (awaits_read o.knows.waited sequence) (accepted now points snapshot o) o hears.awaited
    ∙ if-true (is_active o.role) (led now points (leader_in snapshot) read) (waiting_no_more o)
    (creates-active o.role hears.role)
    ∙ ap (λ (leader : Option LeaderEntry). led now points leader read) hears.free
    ∙ no-key-free now o.role read hears.role

-- a server that can't start is left to the race
free-raced : (now : Ticks) (snapshot : SnapshotFacts) (o : Outcome) (bar : Option Ineligibility)
    → can_start o.machine.server ≡ false → eligibility_of (shown now o) snapshot ≡ bar
    → finds_free now (record o { knows = read_noted now snapshot o.knows })
    ≡ races_unless now bar (record o { role = Follower; knows = read_noted now snapshot o.knows })
free-raced now snapshot o bar down is =
    let x : Outcome = record o { role = Follower; knows = read_noted now snapshot o.knows } in
    if-false (can_start o.machine.server) (touching (starts_alone now x))
    (races_unless now (bar_of now x.knows x.machine) x) down
    ∙ ap (λ (by : Option Ineligibility). races_unless now by x) is

-- a running replica can't start
replica-runs : (state : State) (diverged : Bool) → state ≡ states.Replica → is_down state && not diverged ≡ false
replica-runs state diverged is = rw is refl

pub barred-out : (now : Ticks) (points : List HistoryPoint) (sequence : ℕ) (snapshot : SnapshotFacts)
    (bar : Ineligibility) (o : Outcome) → HearsFree sequence snapshot o → can_start o.machine.server ≡ false
    → eligibility_of (shown now o) snapshot ≡ Some bar
    → StaysOut snapshot bar o (read_answered now points sequence snapshot o)
barred-out now points sequence snapshot bar o hears down is =
    let x : Outcome = record o { role = Follower; knows = read_noted now snapshot o.knows } in
    subst (λ (after : Outcome). StaysOut snapshot bar o after)
    (sym (got-free now points sequence snapshot o hears ∙ free-raced now snapshot o (Some bar) down is))
    (record { role = refl; machine = refl; waits = refl; outputs_are = refl })

-- nobody bars who has no answers
nobody-bars : (excepted : Bool) → first_bar (None ∷ unless excepted None ∷ unless excepted None ∷ []) ≡ None
nobody-bars true = refl
nobody-bars false = refl

alone-wins : (view : AgentView) (keys : RaceKeys) → outcome_by view keys [] ≡ None
alone-wins view keys = nobody-bars (is_candidate view.me keys.failover)

-- what the answers bring
judged-is : (now : Ticks) (bar : Option Ineligibility) (o : Outcome)
    → outcome_by (shown now o) (turn_keys o.knows) o.knows.answers ≡ bar
    → judged now o ≡ judged_as now bar (waiting_no_more o)
judged-is now bar o is = ap (λ (b : Option Ineligibility). judged_as now b (waiting_no_more o)) is

-- the configuration sets the same, whatever was set before
settings-value : (settings : Config) (value : Value) → IsOfKind keys.Config value
    → settings_by settings value ≡ settings_by default_config value
settings-value settings (values.Config config) kind = refl
settings-value settings (values.Leader member) kind = absurd kind
settings-value settings (values.Member info) kind = absurd kind
settings-value settings (values.Failover failover) kind = absurd kind
settings-value settings (values.Sync sync) kind = absurd kind
settings-value settings (values.Status end) kind = absurd kind
settings-value settings (values.History row) kind = absurd kind
settings-value settings (values.Failsafe members) kind = absurd kind
settings-value settings (values.Scheduled planned) kind = absurd kind

settings-found : (settings : Config) (found : Option KeyEntry) → IsSome found
    → ((stored : KeyEntry) → found ≡ Some stored → IsOfKind keys.Config stored.value)
    → settings_of_entry settings found ≡ settings_of_entry default_config found
settings-found settings None there kind = absurd (no-way there)
settings-found settings (Some found) there kind = settings-value settings found.value (kind found refl)

settings-read : (settings : Config) (snapshot : SnapshotFacts) → IsRead snapshot.entries
    → settings_in settings snapshot ≡ config_in snapshot
settings-read settings snapshot read = settings-found settings (entry_in keys.Config snapshot) read.config
    (λ stored found. kind_found keys.Config snapshot.entries stored read.kinds found)

-- the sync key that is read with its revision is the one that the snapshot has
sync-value : (revision : ℕ) (key : Option SyncKey)
    → option_map (λ (read : SyncRead). read.key) (sync_read_by revision key) ≡ key
sync-value revision None = refl
sync-value revision (Some key) = refl

sync-found : (found : Option KeyEntry)
    → option_map (λ (read : SyncRead). read.key) (found_by sync_read_at found) ≡ value_by sync_by found
sync-found None = refl
sync-found (Some found) = sync-value found.revision (sync_by found.value)

-- a turn reads the keys that its snapshot has
keys-read : (now : Ticks) (snapshot : SnapshotFacts) (knows : Knowledge) → IsRead snapshot.entries
    → turn_keys (read_noted now snapshot knows) ≡ race_keys_in snapshot
keys-read now snapshot knows read =
    ap (λ (sync : Option SyncKey). record {
      failover = failover_in snapshot;
      sync = active_sync_where (settings_in knows.settings snapshot).synchronous_mode sync;
    })
    (sync-found (entry_in keys.Sync snapshot))
    ∙ ap (λ (settings : Config). record {
      failover = failover_in snapshot;
      sync = active_sync_where settings.synchronous_mode (sync_in snapshot);
    })
    (settings-read knows.settings snapshot read)

-- an agent that nothing bars races
free-races : (now : Ticks) (points : List HistoryPoint) (sequence : ℕ) (snapshot : SnapshotFacts) (o : Outcome)
    → HearsFree sequence snapshot o → eligibility_of (shown now o) snapshot ≡ None
    → read_answered now points sequence snapshot o
    ≡ races now (record o { role = Follower; knows = read_noted now snapshot o.knows })
free-races now points sequence snapshot o hears is =
    got-free now points sequence snapshot o hears
    ∙ free-raced now snapshot o None
    (replica-runs o.machine.server.state o.machine.server.diverged (race-replica (shown now o) snapshot is)) is

pub free-alone : (now : Ticks) (points : List HistoryPoint) (sequence : ℕ) (snapshot : SnapshotFacts) (o : Outcome)
    → HearsFree sequence snapshot o → eligibility_of (shown now o) snapshot ≡ None → all_answered o.knows.who [] ≡ true
    → AsksForKey o (read_answered now points sequence snapshot o)
free-alone now points sequence snapshot o hears is alone =
    let x : Outcome = unheard (record o { role = Follower; knows = read_noted now snapshot o.knows }) in
    subst (λ (after : Outcome). AsksForKey o after)
    (sym (free-races now points sequence snapshot o hears is
    ∙ if-true (all_answered o.knows.who []) (judged now x) (asking_others now x) alone
    ∙ judged-is now None x (alone-wins (shown now x) (turn_keys x.knows))))
    (record { waited = _; waits = refl; asks = refl; outputs_are = refl })

-- one more ask keeps those before it
ask-keeps : (who : Who) (sequence : ℕ) (member : Option MemberId) (outs : List Output) (output : Output)
    → Contains outs output → Contains (asking_one who sequence member outs) output
ask-keeps who sequence None outs output among = among
ask-keeps who sequence (Some member) outs output among =
    if-cases (λ (l : List Output). Contains l output) (is_other who member)
    (with_output (outputs.Message (outgoing.Send (targets.Member member) sequence bodies.Ask)) outs) outs
    (λ _. Contains-append_left outs
    (outputs.Message (outgoing.Send (targets.Member member) sequence bodies.Ask) ∷ []) output among)
    (λ _. among)

ask-sent : (who : Who) (sequence : ℕ) (member : MemberId) (outs : List Output) → is_other who member ≡ true
    → Contains (asking_one who sequence (Some member) outs)
    (outputs.Message (outgoing.Send (targets.Member member) sequence bodies.Ask))
ask-sent who sequence member outs other =
    subst (λ (l : List Output).
    Contains l (outputs.Message (outgoing.Send (targets.Member member) sequence bodies.Ask)))
    (sym (if-true (is_other who member)
    (with_output (outputs.Message (outgoing.Send (targets.Member member) sequence bodies.Ask)) outs) outs other))
    (Contains-push outs (outputs.Message (outgoing.Send (targets.Member member) sequence bodies.Ask)))

below-or : (a n : ℕ) → a < suc n → (a < n) ⊎ (a ≡ n)
below-or a n less = grind (arith, less)

-- each other member is asked
each-asked : (who : Who) (sequence count : ℕ) (member : MemberId) (outs : List Output)
    → is_other who member ≡ true → member.number < count
    → Contains (asking_first who sequence count outs)
    (outputs.Message (outgoing.Send (targets.Member member) sequence bodies.Ask))
each-asked who sequence zero member outs other less = absurd (omega (arith, less))
each-asked who sequence (suc count) member outs other less = elim (below-or member.number count less) [
  | inl before-it ↦ ask-keeps who sequence (member_of count) (asking_first who sequence count outs)
      (outputs.Message (outgoing.Send (targets.Member member) sequence bodies.Ask))
      (each-asked who sequence count member outs other before-it)
  | inr here ↦
      subst (λ (m : Option MemberId). Contains (asking_one who sequence m (asking_first who sequence count outs))
      (outputs.Message (outgoing.Send (targets.Member member) sequence bodies.Ask)))
      (sym (member_of-number member) ∙ ap (λ (n : ℕ). member_of n) here)
      (ask-sent who sequence member (asking_first who sequence count outs) other)
]

pub free-asks : (now : Ticks) (points : List HistoryPoint) (sequence : ℕ) (snapshot : SnapshotFacts) (o : Outcome)
    → HearsFree sequence snapshot o → eligibility_of (shown now o) snapshot ≡ None → all_answered o.knows.who [] ≡ false
    → AsksOthers now snapshot o (read_answered now points sequence snapshot o)
free-asks now points sequence snapshot o hears is others =
    let x : Outcome = unheard (record o { role = Follower; knows = read_noted now snapshot o.knows }) in
    subst (λ (after : Outcome). AsksOthers now snapshot o after)
    (sym (free-races now points sequence snapshot o hears is
    ∙ if-false (all_answered o.knows.who []) (judged now x) (asking_others now x) others))
    (record {
      waited = _;
      waits = refl;
      asks = refl;
      later = omega arith;
      until = refl;
      unheard = refl;
      keys = keys-read now snapshot o.knows;
      each = λ member other.
          each-asked o.knows.who (o.knows.sequence + 1) MOST_MEMBERS member o.outputs other member.below;
      outputs_are = refl;
    })

-- the last answer
last-judged : (now : Ticks) (waited : PendingQuestion) (sequence : ℕ) (answer : PeerAnswer)
    (bar : Option Ineligibility) (o : Outcome) → HearsLast waited sequence answer o
    → outcome_by (shown now o) (turn_keys o.knows) (with_answer answer o.knows.answers) ≡ bar
    → answered now sequence answer o ≡ judged_as now bar (waiting_no_more (keeping answer o))
last-judged now waited sequence answer bar o hears is = let x : Outcome = keeping answer o in
    ap (λ (w : Option PendingQuestion). answered_for now sequence answer w o) hears.awaits.waits
    ∙ if-true (awaits_answer waited sequence) (accepted_answer now answer o)
    (if awaits_check waited sequence then check_answered now answer o.role o else o) hears.number
    ∙ if-true (may_create o.role) (judged_if_all now x) (waiting_no_more o) hears.awaits.role
    ∙ if-true (all_answered o.knows.who (with_answer answer o.knows.answers)) (judged now x) x hears.all
    ∙ judged-is now bar x is

pub last-won : (now : Ticks) (waited : PendingQuestion) (sequence : ℕ) (answer : PeerAnswer) (o : Outcome)
    → HearsLast waited sequence answer o
    → outcome_by (shown now o) (turn_keys o.knows) (with_answer answer o.knows.answers) ≡ None
    → AsksForKey o (answered now sequence answer o)
last-won now waited sequence answer o hears is = subst (λ (after : Outcome). AsksForKey o after)
    (sym (last-judged now waited sequence answer None o hears is))
    (record { waited = _; waits = refl; asks = refl; outputs_are = refl })

pub last-lost : (now : Ticks) (waited : PendingQuestion) (sequence : ℕ) (answer : PeerAnswer) (bar : Ineligibility)
    (o : Outcome) → HearsLast waited sequence answer o
    → outcome_by (shown now o) (turn_keys o.knows) (with_answer answer o.knows.answers) ≡ Some bar
    → LosesRace bar o (answered now sequence answer o)
last-lost now waited sequence answer bar o hears is = subst (λ (after : Outcome). LosesRace bar o after)
    (sym (last-judged now waited sequence answer (Some bar) o hears is))
    (record { role = refl; machine = refl; waits = refl; outputs_are = refl })

-- the time for answers is over
asking-late : (now : Ticks) (question : Question) (o : Outcome) → is_asking question ≡ true
    → may_create o.role ≡ true → unanswered now question o ≡ judged now o
asking-late now ComparingPositions o asking may = if-true (may_create o.role) (judged now o) (waiting_no_more o) may
asking-late now Reading o asking may = absurd (no-way asking)
asking-late now Creating o asking may = absurd (no-way asking)
asking-late now Renewing o asking may = absurd (no-way asking)
asking-late now Claiming o asking may = absurd (no-way asking)
asking-late now (Syncing settling) o asking may = absurd (no-way asking)
asking-late now FindingCandidate o asking may = absurd (no-way asking)
asking-late now StayingPrimary o asking may = absurd (no-way asking)

either-late : (a b c : Bool) → b ≡ true → a || (b || c) ≡ true
either-late true b c e = refl
either-late false true c e = refl
either-late false false c e = absurd (no-way e)

late-due : (now : Ticks) (waited : PendingQuestion) (o : Outcome) → o.knows.waited ≡ Some waited
    → nat_le waited.until.0 now.0 ≡ true → is_due now o.role o.knows o.machine ≡ true
late-due now waited o waits late =
    either-late (finds_ended o.role o.machine.server.state) (is_overdue now o.knows.waited)
    (has_turn now o.knows) (ap (λ (w : Option PendingQuestion). is_overdue now w) waits ∙ late)

-- what precedes a wake leaves what is waited for
given-waits : (now : Ticks) (o : Outcome) → (given_up now o).knows.waited ≡ o.knows.waited
given-waits now o = given-up-by (λ (x : Outcome). x.knows.waited ≡ o.knows.waited) now o
    (record { kept = refl; answers = λ request told. refl })

roused-waits : (now : Ticks) (o : Outcome) → (prepared now Wake o).knows.waited ≡ o.knows.waited
roused-waits now o = if-cases (λ (x : Outcome). x.knows.waited ≡ o.knows.waited)
    (is_due now o.role o.knows o.machine) (given_up now (reconciled now o)) (reconciled now o)
    (λ _. given-waits now (reconciled now o) ∙ before-waits now o) (λ _. before-waits now o)

-- an agent whose time for answers is over has something to do
late-prepared : (now : Ticks) (waited : PendingQuestion) (o : Outcome)
    → RunsLate now waited (prepared now Wake o) → is_due now o.role o.knows o.machine ≡ true
late-prepared now waited o runs = late-due now waited o (sym (roused-waits now o) ∙ runs.awaits.waits) runs.late

late-judged : (now : Ticks) (waited : PendingQuestion) (bar : Option Ineligibility) (o : Outcome)
    → RunsLate now waited (prepared now Wake o)
    → outcome_by (shown now (prepared now Wake o)) (turn_keys (prepared now Wake o).knows)
    (prepared now Wake o).knows.answers ≡ bar
    → woken now o ≡ turned now (judged_as now bar (waiting_no_more (prepared now Wake o)))
late-judged now waited bar o runs is =
    let due : is_due now o.role o.knows o.machine ≡ true = late-prepared now waited o runs in
    let p : Outcome = prepared now Wake o in
    if-true (is_due now o.role o.knows o.machine) (roused now o) (reconciled now o) due
    ∙ ap (λ (x : Outcome). turned now (overdue now x))
    (sym (if-true (is_due now o.role o.knows o.machine) (given_up now (reconciled now o)) (reconciled now o) due))
    ∙ ap (λ (x : Outcome). turned now x)
    (ap (λ (w : Option PendingQuestion). overdue_for now w p) runs.awaits.waits
    ∙ if-true (nat_le waited.until.0 now.0) (unanswered now waited.question p) p runs.late
    ∙ asking-late now waited.question p runs.awaits.asking runs.awaits.role
    ∙ judged-is now bar p is)

pub late-won : (now : Ticks) (waited : PendingQuestion) (o : Outcome) → RunsLate now waited (prepared now Wake o)
    → outcome_by (shown now (prepared now Wake o)) (turn_keys (prepared now Wake o).knows)
    (prepared now Wake o).knows.answers ≡ None → AsksForKey (prepared now Wake o) (woken now o)
late-won now waited o runs is = subst (λ (after : Outcome). AsksForKey (prepared now Wake o) after)
    (sym (late-judged now waited None o runs is))
    (record { waited = _; waits = refl; asks = refl; outputs_are = refl })

pub late-lost : (now : Ticks) (waited : PendingQuestion) (bar : Ineligibility) (o : Outcome)
    → RunsLate now waited (prepared now Wake o)
    → outcome_by (shown now (prepared now Wake o)) (turn_keys (prepared now Wake o).knows)
    (prepared now Wake o).knows.answers ≡ Some bar → LosesAndTurns now bar (prepared now Wake o) (woken now o)
late-lost now waited bar o runs is = record {
  lost = judged_as now (Some bar) (waiting_no_more (prepared now Wake o));
  loses = record { role = refl; machine = refl; waits = refl; outputs_are = refl };
  turns = late-judged now waited (Some bar) o runs is;
}
