-- An input goes on with the acknowledgements that are waited for: a wake, and a snapshot.
use Rattle.std.proofs.Common.{◌≡◌, ◌⊎◌, ℕ, ◌≤◌, ◌<◌, ◌||◌, not, Bool, true, false, is_some, List, Option, Some, None, refl, sym, subst, ap, ◌∙◌, arith, inl, inr}
use Rattle.pat_base.specs.declared.ineligibility.Ineligibility.TheVariants as bars
use Rattle.pat_base.specs.declared.member_id.MemberId.{MemberId}
use Rattle.pat_base.specs.declared.member_set.MemberSet.{MemberSet}
use Rattle.pat_base.specs.declared.ticks.Ticks.{Ticks}
use Rattle.store_keys.specs.declared.config.Config.{Config}
use Rattle.store_keys.specs.declared.key.Key.TheVariants as keys
use Rattle.store_keys.specs.declared.value.KeyEntry.{KeyEntry}
use Rattle.store_keys.specs.Defaults.{default_config}
use Rattle.wal_model.specs.declared.entry.HistoryPoint.{HistoryPoint}
use Rattle.cluster_view.specs.declared.view.AgentView.{AgentView}
use Rattle.cluster_view.specs.declared.view.RoleWord.TheVariants as words
use Rattle.cluster_view.specs.KeyValues.{config_in, failover_in, status_in, active_sync_in}
use Rattle.cluster_view.specs.Naming.{candidate_of, is_candidate, is_one_of}
use Rattle.cluster_view.specs.Snapshots.{SnapshotFacts, entry_in, failsafe_by, failsafe_in, found_by, value_by}
use Rattle.leader_race.specs.Eligibility.{not_running, no_failover, paused, other_candidate, not_sync, too_far_behind, not_listed, eligibility_of}
use Rattle.leader_race.proofs.Barring.{bar_where-none, first_bar-none}
use Rattle.event_book.specs.Functions.{set_members}
use Rattle.failsafe.specs.Asks.{asked as ask_of}
use Rattle.lease_model.proofs.Tools.{some-is, none-some}
use Rattle.agent_model.specs.declared.knowledge.FailsafeRead.{FailsafeRead}
use Rattle.agent_model.specs.declared.knowledge.Knowledge.{Knowledge}
use Rattle.agent_model.specs.declared.knowledge.PendingQuestion.{PendingQuestion}
use Rattle.agent_model.specs.declared.who.Who.{Who}
use Rattle.agent_model.specs.declared.why.Why.{Why}
use Rattle.agent_model.specs.declared.why.Why.TheVariants.{HandOver, Lost}
use Rattle.agent_model.specs.Acting.{touching, waiting_no_more}
use Rattle.agent_model.specs.Agents.{RoleFacts, Follower, Leader, Outcome, is_leader}
use Rattle.agent_model.specs.Claiming.{postpones}
use Rattle.agent_model.specs.FailsafeKeys.{failsafe_read_by, failsafe_read_at}
use Rattle.agent_model.specs.HandingOver.{hands_over}
use Rattle.agent_model.specs.Operators.{answering, given_up, learned}
use Rattle.agent_model.specs.Pausing.{may_start_behind, running_without_key}
use Rattle.agent_model.specs.Peers.{awaits_others, is_asking}
use Rattle.agent_model.specs.Racing.{asking_others, bar_of, barred, creating, finds_free, judged, unheard}
use Rattle.agent_model.specs.Reconciling.{has_ended, reconciled}
use Rattle.agent_model.specs.Repairs.{repair_of}
use Rattle.agent_model.specs.Snapshots.{asks_as_unleased, follow_row, follows, informed, leader_loses_key, led_by_another, read_answered, read_noted, renewing, unleased_loses_key}
use Rattle.agent_model.specs.StayingPrimary.{asking_to_stay, is_staying, leader_unacknowledged, others_known, stays_alone}
use Rattle.agent_model.specs.Views.{view_of}
use Rattle.agent_model.specs.Wake.{leader_out_of_reach, overdue, reading, turn_noted, turned, unleased_out_of_reach, woken}
use Rattle.agent_cases.proofs.Rows.{HandoverRows, ReplyRows, dropping, given-up-by, before-by, overdue-when, turn-by, wake-by, got-by, follow-by, repaired-by, judged-by}
use Rattle.agent_roles.proofs.Granting.{Told, both-true}
use Rattle.agent_roles.proofs.Knowing.{given-up-onward}
use Rattle.agent_roles.proofs.Living.{no-way}
use Rattle.agent_sending.specs.Modes.{KeepsMode, MayTakeKey, TellsMode}
use Rattle.agent_sending.proofs.Sending.{free-when}

-- what an agent knows that failsafe mode is about, beside what it waits for
pub record ModeSeen : Type 0 where
  pub settings : Config
  pub turn_settings : Config
  pub turn_failsafe : Option FailsafeRead
  pub confirmed : Bool
  pub informed : Bool
  pub who : Who

abbrev mode_seen : Knowledge → ModeSeen
mode_seen knows = record {
  settings = knows.settings;
  turn_settings = knows.turn_settings;
  turn_failsafe = knows.turn_failsafe;
  confirmed = knows.confirmed;
  informed = knows.informed;
  who = knows.who;
}

take-as : (mode : Bool) (a b : Knowledge) → mode_seen b ≡ mode_seen a → MayTakeKey mode a → MayTakeKey mode b
take-as mode a b same may = record {
  turn = ap (λ (x : ModeSeen). x.turn_settings.failsafe_mode) same ∙ may.turn;
  listed = λ on read is. ap (λ (x : ModeSeen). set_members read.members x.who.me.number) same
      ∙ may.listed on read (sym (ap (λ (x : ModeSeen). x.turn_failsafe) same) ∙ is);
}

pub keeps-as : (mode : Bool) (a b : Knowledge) → mode_seen b ≡ mode_seen a
    → (KeepsMode mode a → awaits_others b.waited ≡ true → MayTakeKey mode a) → KeepsMode mode a → KeepsMode mode b
keeps-as mode a b same may keeps = record {
  settings = λ e. keeps.settings (sym (ap (λ (x : ModeSeen). x.settings.failsafe_mode) same) ∙ e);
  confirmed =
      λ e. ap (λ (x : ModeSeen). x.informed) same ∙ keeps.confirmed (sym (ap (λ (x : ModeSeen). x.confirmed) same) ∙ e);
  races = λ e. take-as mode a b same (may keeps e);
}

-- an input goes on: acknowledgements that are waited for after it were waited
-- for before, and it counts the same ones; what is known of the mode stays so
pub record Goes (mode : Bool) (o x : Outcome) : Type 0 where
  pub check : (waited : PendingQuestion) → x.knows.waited ≡ Some waited → is_staying waited.question ≡ true
      → (o.knows.waited ≡ Some waited) × (x.knows.failsafe ≡ o.knows.failsafe)
  pub keeps : KeepsMode mode o.knows → KeepsMode mode x.knows

none-waits : (waited : Option PendingQuestion) → waited ≡ None → awaits_others waited ≡ true → ⊥
none-waits waited none awaits = no-way (sym (ap (λ (w : Option PendingQuestion). awaits_others w) none) ∙ awaits)

-- it waits for nothing
pub rests : (mode : Bool) (o x : Outcome) → x.knows.waited ≡ None → mode_seen x.knows ≡ mode_seen o.knows
    → Goes mode o x
rests mode o x none same = record {
  check = λ waited is staying. absurd (none-some waited (sym none ∙ is));
  keeps = keeps-as mode o.knows x.knows same (λ keeps awaits. absurd (none-waits x.knows.waited none awaits));
}

-- it waits for what it waited for
pub goes-on : (mode : Bool) (o x : Outcome) → x.knows.waited ≡ o.knows.waited
    → x.knows.failsafe ≡ o.knows.failsafe → mode_seen x.knows ≡ mode_seen o.knows → Goes mode o x
goes-on mode o x waits failsafe same = record {
  check = λ waited is staying. (sym waits ∙ is, failsafe);
  keeps = keeps-as mode o.knows x.knows same
      (λ keeps awaits. keeps.races (ap (λ (w : Option PendingQuestion). awaits_others w) (sym waits) ∙ awaits));
}

-- it waits for the answer to another question, and where it compares positions it may take the key
asks-of : (mode : Bool) (o x : Outcome) (one : PendingQuestion) → x.knows.waited ≡ Some one
    → is_staying one.question ≡ false → mode_seen x.knows ≡ mode_seen o.knows
    → (is_asking one.question ≡ true → MayTakeKey mode o.knows) → Goes mode o x
asks-of mode o x one is other same may = record {
  check = λ waited waits staying.
      absurd (no-way (sym other
      ∙ (ap (λ (w : PendingQuestion). is_staying w.question) (some-is one waited (sym is ∙ waits)) ∙ staying)));
  keeps = keeps-as mode o.knows x.knows same
      (λ keeps awaits. may (ap (λ (w : Option PendingQuestion). awaits_others w) (sym is) ∙ awaits));
}

pub asks-else : (mode : Bool) (o x : Outcome) (one : PendingQuestion) → x.knows.waited ≡ Some one
    → is_staying one.question ≡ false → is_asking one.question ≡ false → mode_seen x.knows ≡ mode_seen o.knows
    → Goes mode o x
asks-else mode o x one is other alone same = asks-of mode o x one is other same (λ e. absurd (no-way (sym alone ∙ e)))

pub goes-then : (mode : Bool) (a b c : Outcome) → Goes mode a b → Goes mode b c → Goes mode a c
goes-then mode a b c first second = record {
  check = λ waited is staying. let was = second.check waited is staying in
      let before-it = first.check waited was.0 staying in (before-it.0, was.1 ∙ before-it.1);
  keeps = λ keeps. second.keeps (first.keeps keeps);
}

pub same-goes : (mode : Bool) (o : Outcome) → Goes mode o o
same-goes mode o = goes-on mode o o refl refl refl

-- what precedes an input
pub before-goes : (mode : Bool) (now : Ticks) (o : Outcome) → Goes mode o (reconciled now o)
before-goes mode now o = before-by (Goes mode o) now o (record {
  kept = λ _. same-goes mode o;
  leader = λ held _ _. goes-on mode o _ refl refl refl;
  ending = λ held why _ _. ended-goes why held o;
  follower = λ _ _. goes-on mode o _ refl refl refl;
  holder = λ held _ _. goes-on mode o _ refl refl refl;
  ready = λ held _ _. goes-on mode o _ refl refl refl;
  unleased = λ _ _. goes-on mode o _ refl refl refl;
})
  where
    ended-goes : (why : Why) (held : ℕ) (x : Outcome) → Goes mode x (has_ended why held x)
    ended-goes HandOver held x = goes-on mode x _ refl refl refl
    ended-goes Lost held x = goes-on mode x _ refl refl refl

pub replies-go : (mode : Bool) (o b : Outcome) → Goes mode o b → ReplyRows (Goes mode o) b
replies-go mode o b goes = record {
  kept = goes;
  answers = λ request told. goes-then mode o b (answering request told b) goes (goes-on mode b _ refl refl refl);
}

pub judged-goes : (mode : Bool) (now : Ticks) (o : Outcome) → Goes mode o (judged now o)
judged-goes mode now o =
    judged-by (Goes mode o) now o (asks-else mode o (creating now (waiting_no_more o)) _ refl refl refl refl)
    (λ bar. rests mode o (barred bar (waiting_no_more o)) refl refl)

pub handover-goes : (mode : Bool) (now : Ticks) (held : ℕ) (o : Outcome) → HandoverRows (Goes mode o) now held o
handover-goes mode now held o = record {
  kept = rests mode o (waiting_no_more o) refl refl;
  clears = λ compared. rests mode o (dropping compared (waiting_no_more o)) refl refl;
  hands = λ candidate. rests mode o (hands_over now held candidate (waiting_no_more o)) refl refl;
}

-- ---- a wake
turn-goes : (mode : Bool) (now : Ticks) (o x : Outcome) → Goes mode o x → Goes mode o (turned now x)
turn-goes mode now o x goes = let noted : Outcome = record x { knows = turn_noted now x.knows } in
    turn-by (Goes mode o) now x (record {
      kept = goes;
      quiet = goes-then mode o x noted goes (goes-on mode x noted refl refl refl);
      reads =
          λ _. goes-then mode o x (reading now noted) goes (asks-else mode x (reading now noted) _ refl refl refl refl);
    })

-- the agent begins to wait for the acknowledgements of all other
-- members that it knows, as a leader whose set is confirmed
pub record Begins (now : Ticks) (mode : Bool) (o x : Outcome) : Type 0 where
  pub waited : PendingQuestion
  pub is : x.knows.waited ≡ Some waited
  pub later : o.knows.sequence < waited.sequence
  pub counted : waited.sequence ≤ x.knows.sequence
  pub ask : x.knows.failsafe ≡ ask_of (others_known x.knows) now
  pub leads : is_leader x.role ≡ true
  pub confirmed : x.knows.confirmed ≡ true
  pub keeps : KeepsMode mode o.knows → KeepsMode mode x.knows

abbrev WakesTo : Ticks → Bool → Outcome → Outcome → Type 0
WakesTo now mode o x = Goes mode o x ⊎ Begins now mode o x

turn-wakes : (mode : Bool) (now : Ticks) (o x : Outcome) → Goes mode o x → WakesTo now mode o (turned now x)
turn-wakes mode now o x goes = inl (turn-goes mode now o x goes)

leads-so : (role : RoleFacts) (held : ℕ) → role ≡ Leader held → is_leader role ≡ true
leads-so role held is = rw is refl

overdue-wakes : (mode : Bool) (now : Ticks) (o : Outcome) → WakesTo now mode o (turned now (overdue now o))
overdue-wakes mode now o = overdue-when (λ (x : Outcome). WakesTo now mode o (turned now x)) now o (record {
  kept = turn-wakes mode now o o (same-goes mode o);
  quiet = turn-wakes mode now o (waiting_no_more o) (rests mode o (waiting_no_more o) refl refl);
  leader =
      λ held _ _. turn-wakes mode now o (leader_out_of_reach now held (waiting_no_more o)) (rests mode o _ refl refl);
  seeks = λ held is _ may. let x : Outcome = asking_to_stay now (others_known o.knows) (waiting_no_more o) in
      inr (record {
        waited = _;
        is = refl;
        later = omega arith;
        counted = omega arith;
        ask = refl;
        leads = leads-so o.role held is;
        confirmed = (both-true o.knows.settings.failsafe_mode o.knows.confirmed may).1;
        keeps = keeps-as mode o.knows x.knows refl (λ keeps awaits. absurd (no-way awaits));
      });
  alone = λ held _ _ _ _.
      turn-wakes mode now o (stays_alone now (others_known o.knows) (waiting_no_more o)) (rests mode o _ refl refl);
  silent =
      λ held _ _. turn-wakes mode now o (leader_unacknowledged now held (waiting_no_more o)) (rests mode o _ refl refl);
  unleased = λ _ _. turn-wakes mode now o (unleased_out_of_reach now (waiting_no_more o)) (rests mode o _ refl refl);
  judges = λ _ _. turn-wakes mode now o (judged now o) (judged-goes mode now o);
  ready = λ held _. turn-wakes mode now o (postpones held (waiting_no_more o)) (rests mode o _ refl refl);
  checks = λ held _. let rows : HandoverRows (Goes mode o) now held o = handover-goes mode now held o in record {
    kept = turn-wakes mode now o (waiting_no_more o) rows.kept;
    clears = λ compared. turn-wakes mode now o (dropping compared (waiting_no_more o)) (rows.clears compared);
    hands =
        λ candidate. turn-wakes mode now o (hands_over now held candidate (waiting_no_more o)) (rows.hands candidate);
  };
})

later-than : (a b c : ℕ) → a ≤ b → b < c → a < c
later-than a b c first second = omega (arith, first, second)

pub wake-goes : (mode : Bool) (now : Ticks) (o : Outcome) → WakesTo now mode o (woken now o)
wake-goes mode now o = let b : Outcome = given_up now (reconciled now o) in
    let given : Goes mode o b =
    given-up-by (Goes mode o) now (reconciled now o) (replies-go mode o (reconciled now o) (before-goes mode now o)) in
    wake-by (WakesTo now mode o) now o (inl (before-goes mode now o)) (elim (overdue-wakes mode now b) [
      | inl goes ↦ inl (goes-then mode o b (turned now (overdue now b)) given goes)
      | inr begun ↦ inr (record {
        waited = begun.waited;
        is = begun.is;
        later = later-than o.knows.sequence b.knows.sequence begun.waited.sequence
            (given-up-onward None now o).last begun.later;
        counted = begun.counted;
        ask = begun.ask;
        leads = begun.leads;
        confirmed = begun.confirmed;
        keeps = λ keeps. begun.keeps (given.keeps keeps);
      })
    ])

-- ---- a snapshot
told-keeps : (mode : Bool) (snapshot : SnapshotFacts) (knows : Knowledge) → TellsMode mode snapshot
    → KeepsMode mode knows → KeepsMode mode (informed snapshot knows)
told-keeps mode snapshot knows tells keeps = record {
  settings = λ e. sym (tells knows.settings) ∙ e;
  confirmed = λ e. either (keeps.confirmed e);
  races = λ e. absurd (no-way e);
}
  where
    either : knows.informed ≡ true → knows.informed || is_some (failsafe_in snapshot) ≡ true
    either e = rw e refl

pub told-goes : (mode : Bool) (snapshot : SnapshotFacts) (o : Outcome) → TellsMode mode snapshot
    → Goes mode o (Told snapshot o)
told-goes mode snapshot o tells =
    record { check = λ waited is staying. absurd (none-some waited is); keeps = told-keeps mode snapshot o.knows tells }

read-goes : (mode : Bool) (now : Ticks) (snapshot : SnapshotFacts) (o : Outcome) → TellsMode mode snapshot
    → Goes mode o (record o { knows = read_noted now snapshot o.knows })
read-goes mode now snapshot o tells = record {
  check = λ waited is staying. absurd (none-some waited is);
  keeps = λ keeps. let told : KeepsMode mode (informed snapshot o.knows) =
      told-keeps mode snapshot o.knows tells keeps in
      record { settings = told.settings; confirmed = told.confirmed; races = λ e. absurd (no-way e) };
}

-- a snapshot is learned of for an operator: what is waited for stays
pub learned-goes : (mode : Bool) (snapshot : SnapshotFacts) (o : Outcome) → TellsMode mode snapshot
    → Goes mode o (learned snapshot o)
learned-goes mode snapshot o tells = record {
  check = λ waited is staying. (is, refl);
  keeps = λ keeps. let told : KeepsMode mode (informed snapshot o.knows) =
      told-keeps mode snapshot o.knows tells keeps in
      record {
        settings = told.settings;
        confirmed = told.confirmed;
        races = λ e. let may = keeps.races e in record { turn = may.turn; listed = may.listed };
      };
}

-- whom nothing bars a failsafe key lists, with the mode on
listed-by : (me : MemberId) (mode : Bool) (members : MemberSet) → not_listed me mode (Some members) ≡ None
    → mode ≡ true → set_members members me.number ≡ true
listed-by me true members e on =
    not-false (is_one_of me members) (bar_where-none (not (is_one_of me members)) bars.NotListed e)
  where
    not-false : (b : Bool) → not b ≡ false → b ≡ true
    not-false true e = refl
    not-false false e = absurd (no-way (sym e))
listed-by me false members e on = absurd (no-way on)

read-listed : (found : Option KeyEntry) (read : FailsafeRead) → found_by failsafe_read_at found ≡ Some read
    → value_by failsafe_by found ≡ Some read.members
read-listed None read is = absurd (none-some read is)
read-listed (Some found) read is = by-value (failsafe_by found.value) is
  where
    one : MemberSet → Option MemberSet
    one x = Some x

    by-value : (listed : Option MemberSet) → failsafe_read_by found.revision listed ≡ Some read
        → listed ≡ Some read.members
    by-value None is = absurd (none-some read is)
    by-value (Some members) is = ap (λ (x : FailsafeRead). one x.members)
        (some-is (record { members = members; revision = found.revision }) read is)

unlisted-none : (view : AgentView) (seen : SnapshotFacts) → eligibility_of view seen ≡ None
    → not_listed view.me (config_in seen).failsafe_mode (failsafe_in seen) ≡ None
unlisted-none view seen e =
    let first = first_bar-none (not_running view.state) _ e in
    let second = first_bar-none (no_failover view.tags) _ first.1 in
    let third = first_bar-none (paused (config_in seen).pause (is_candidate view.me (failover_in seen))) _ second.1 in
    let fourth = first_bar-none (other_candidate view.me (candidate_of (failover_in seen))) _ third.1 in
    let fifth = first_bar-none (not_sync view.me (failover_in seen) (active_sync_in seen)) _ fourth.1 in
    let sixth =
    first_bar-none (too_far_behind (config_in seen).maximum_lag_on_failover (status_in seen) view.end
    (is_candidate view.me (failover_in seen)))
    _ fifth.1 in
    (first_bar-none (not_listed view.me (config_in seen).failsafe_mode (failsafe_in seen)) _ sixth.1).0

-- who read that the key is free, and isn't barred, may ask for it
pub free-takes : (mode : Bool) (now : Ticks) (snapshot : SnapshotFacts) (o : Outcome) → TellsMode mode snapshot
    → bar_of now (read_noted now snapshot o.knows) o.machine ≡ None → MayTakeKey mode (read_noted now snapshot o.knows)
free-takes mode now snapshot o tells free = record {
  turn = tells o.knows.settings;
  listed = λ on read is. listed-by o.knows.who.me (config_in snapshot).failsafe_mode read.members
      (subst (λ (x : Option MemberSet). not_listed o.knows.who.me (config_in snapshot).failsafe_mode x ≡ None)
      (read-listed (entry_in keys.Failsafe snapshot) read is)
      (unlisted-none (view_of now words.Follower (read_noted now snapshot o.knows) o.machine) snapshot free))
      (tells default_config ∙ on);
}

free-goes : (mode : Bool) (now : Ticks) (o : Outcome)
    → (bar_of now o.knows o.machine ≡ None → MayTakeKey mode o.knows) → Goes mode o (finds_free now o)
free-goes mode now o may = let x : Outcome = record o { role = Follower } in
    free-when (Goes mode o) now x (goes-on mode o _ refl refl refl) (goes-on mode o _ refl refl refl)
    (λ bar. goes-on mode o _ refl refl refl)
    (λ free. goes-then mode o (unheard x) (judged now (unheard x)) (goes-on mode o (unheard x) refl refl refl)
    (judged-goes mode now (unheard x)))
    (λ free. asks-of mode o (asking_others now (unheard x)) _ refl refl refl (λ _. may free))

follow-goes : (mode : Bool) (now : Ticks) (leader : MemberId) (o : Outcome) → Goes mode o (follows now leader o)
follow-goes mode now leader o = let x : Outcome = led_by_another o in
    let may : Bool = may_start_behind o.knows in
    let row : Goes mode o (touching (follow_row may now leader o.machine.server.state x)) =
    follow-by (λ (y : Outcome). Goes mode o (touching y)) may now leader o.machine.server.state x
    (goes-on mode o _ refl refl refl) (goes-on mode o _ refl refl refl) (goes-on mode o _ refl refl refl)
    (goes-on mode o _ refl refl refl) in
    repaired-by (Goes mode o) leader (repair_of o.knows.settings leader o.machine.server)
    (touching (follow_row may now leader o.machine.server.state x)) row
    (λ r. record { check = row.check; keeps = row.keeps })

pub got-goes : (mode : Bool) (now : Ticks) (points : List HistoryPoint) (sequence : ℕ) (snapshot : SnapshotFacts)
    (o : Outcome) → TellsMode mode snapshot → Goes mode o (read_answered now points sequence snapshot o)
got-goes mode now points sequence snapshot o tells =
    let read : Outcome = record o { knows = read_noted now snapshot o.knows } in
    let first : Goes mode o read = read-goes mode now snapshot o tells in
    let onto : (x : Outcome) → Goes mode read x → Goes mode o x = λ x goes. goes-then mode o read x first goes in
    got-by (Goes mode o) now points sequence snapshot o (record {
      kept = same-goes mode o;
      quiet = rests mode o (waiting_no_more o) refl refl;
      other = first;
      leader = λ held _. onto (leader_loses_key now held read) (goes-on mode read _ refl refl refl);
      unleased = λ _. onto (unleased_loses_key now read) (goes-on mode read _ refl refl refl);
      renews =
          λ _ leader _ _. onto (renewing now points leader.revision read) (asks-else mode read _ _ refl refl refl refl);
      touches = onto (touching read) (goes-on mode read _ refl refl refl);
      follows = λ leader _ _. onto (follows now leader.holder read) (follow-goes mode now leader.holder read);
      free = λ _ _. onto (finds_free now read) (free-goes mode now read (free-takes mode now snapshot o tells));
      runs_on = λ _. onto (running_without_key read) (goes-on mode read _ refl refl refl);
      asks_on = λ _. onto (asks_as_unleased now read) (asks-else mode read _ _ refl refl refl refl);
    })
