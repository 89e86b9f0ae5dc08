-- In a pause no agent ends, starts or rewinds a server by itself, but for a handover.
use Rattle.std.proofs.Common.{ℕ, ◌≡◌, ◌⊎◌, ◌+◌, ◌&&◌, ◌||◌, not, Bool, true, false, if◌then◌else◌, List, [], Option, Some, None, All, refl, sym, subst, ap, ◌∙◌, inl, inr, zero, suc}
use Rattle.std.proofs.lemmas.List.Elements.{All-push, All-nil, All-weaker}
use Rattle.pat_base.specs.MemberId.{member_of}
use Rattle.pat_base.specs.declared.member_id.MemberId.{MemberId}
use Rattle.pat_base.specs.declared.member_set.MemberSet.{MemberSet}
use Rattle.pat_base.specs.declared.member_id.TheConstants.{MOST_MEMBERS}
use Rattle.pat_base.specs.declared.peer_answer.PeerAnswer.{PeerAnswer}
use Rattle.pat_base.specs.declared.server_state.State.{State}
use Rattle.pat_base.specs.declared.server_state.State.TheVariants as states
use Rattle.pat_base.specs.declared.ticks.Ticks.{Ticks}
use Rattle.pat_base.specs.declared.ineligibility.Ineligibility.{Ineligibility}
use Rattle.store_keys.specs.declared.action.OperatorRequest.{OperatorRequest}
use Rattle.store_keys.specs.declared.action.OperatorRequest.TheVariants as requests
use Rattle.store_keys.specs.declared.config.Config.{Config}
use Rattle.lease_store.specs.declared.granted.Granted.{Granted}
use Rattle.wal_model.specs.declared.entry.HistoryPoint.{HistoryPoint}
use Rattle.pg_model.specs.Running.{is_primary}
use Rattle.pg_model.specs.Facts.{is_replica}
use Rattle.cluster_view.specs.KeyValues.{failover_in}
use Rattle.cluster_view.specs.Naming.{is_candidate}
use Rattle.cluster_view.specs.Snapshots.{SnapshotFacts}
use Rattle.event_book.specs.declared.agent_note.AgentNote.TheVariants as agent_notes
use Rattle.event_book.specs.declared.message.Body.TheVariants as bodies
use Rattle.event_book.specs.declared.reason.Reason.TheVariants.{WatchdogNotArmed}
use Rattle.agent_model.specs.declared.heard.Heard.{Heard}
use Rattle.agent_model.specs.declared.heard.Heard.TheVariants as heards
use Rattle.agent_model.specs.declared.knowledge.Knowledge.{Knowledge}
use Rattle.agent_model.specs.declared.machine.Machine.{Machine}
use Rattle.agent_model.specs.declared.output.Output.{Output}
use Rattle.agent_model.specs.declared.output.Output.TheVariants as outputs
use Rattle.agent_model.specs.declared.output.Feeding.TheVariants as feedings
use Rattle.agent_model.specs.declared.output.Noting.TheVariants as notings
use Rattle.agent_model.specs.declared.output.Outgoing.TheVariants as outgoing
use Rattle.agent_model.specs.declared.output.ServerOrder.TheVariants as orders
use Rattle.agent_model.specs.declared.output.Telling.TheVariants as tellings
use Rattle.agent_model.specs.declared.output.Repair.{Repair}
use Rattle.agent_model.specs.declared.output.Repair.TheVariants.{Rewind, Clone}
use Rattle.agent_model.specs.declared.output.Target.TheVariants as targets
use Rattle.agent_model.specs.declared.who.Who.{Who}
use Rattle.agent_model.specs.declared.why.Why.{Why}
use Rattle.agent_model.specs.declared.why.Why.TheVariants.{HandOver, Lost}
use Rattle.agent_model.specs.Acting.{arming, armed, deadline_after, disarmed, ending_server, fed_until, is_refusing, shutting_down, starting_replica, touching}
use Rattle.agent_model.specs.Agents.{RoleFacts, Follower, Leader, Ending, Outcome, outcome_from}
use Rattle.agent_model.specs.Answers.{all_answered, is_other, asking_one, asking_first}
use Rattle.agent_model.specs.Reconciling.{has_ended, reconciled}
use Rattle.agent_model.specs.Claiming.{begins, begins_or_claims, can_begin_on_claim, may_begin_on_claim, passing}
use Rattle.agent_model.specs.Decisions.{arms, gives_back, granted, may_take, refused, takes_key, takes_key_in_pause, takes_over}
use Rattle.agent_model.specs.HandingOver.{asking_whom}
use Rattle.agent_model.specs.Operators.{given_up, learned, looked, operated, unnumbered}
use Rattle.agent_model.specs.Outputs.{with_output}
use Rattle.agent_model.specs.Pausing.{ends_forks, is_paused, is_wanted, lets_rewind, may_start_behind, disabling_told, disabling_watchdog}
use Rattle.agent_model.specs.Peers.{answered, keeping}
use Rattle.agent_model.specs.Racing.{asking_others, bar_of, can_start, finds_free, judged, races_unless, starts_alone, unheard}
use Rattle.agent_model.specs.Repairs.{is_upstream, repair_in, repair_of, repaired_if, repairing, rewind_if}
use Rattle.agent_model.specs.Snapshots.{ends_fork, follow_row, follows, follows_anew, read_answered, informed, led_by_another, read_noted, starts_if}
use Rattle.agent_model.specs.Synchronous.{unnamed}
use Rattle.agent_model.specs.StayingPrimary.{counting, failsafe_answered, failsafe_asked, fed_by_failsafe, span_after}
use Rattle.agent_model.specs.Table.{step}
use Rattle.agent_model.specs.Wake.{overdue, turned}
use Rattle.agent_cases.proofs.Rows.{HandoverRows, ReplyRows, if-cases, before-by, looked-by, given-up-by, refused-any-by, overdue-when, turn-by, wake-by, follow-by, got-when, refused-when, answered-when, judged-by, asked-to-hold-by}
use Rattle.agent_cases.proofs.FailsafeRows.{failsafe-answered-by, failsafe-asked-by}
use Rattle.agent_cases.proofs.Grants.{DutyRows, kept_on, led_on, leading_in_pause, granted-any-by, judges-start-by, renewed-by, duties-of, passing-by, begins-or-claims-by, granted-when}
use Rattle.agent_roles.proofs.Living.{no-way}
use Rattle.agent_rules.specs.Grounds.{IsReinit}
use Rattle.agent_rules.specs.Pauses.{IsRestart, IsRestrained, RestrainsInPause}
use Rattle.agent_rules.proofs.Taking.{first-true, not-true, one-true, replica, second-true}

-- an output that orders nothing of the server, but to follow another one, to be copied, or whom its commits wait for
abbrev IsCalm : Output → Type 0
IsCalm (outputs.Server (orders.Stop reason)) = ⊥
IsCalm (outputs.Server orders.ShutDown) = ⊥
IsCalm (outputs.Server (orders.StartReplica leader)) = ⊥
IsCalm (outputs.Server orders.Begin) = ⊥
IsCalm (outputs.Server (orders.Repair leader repair)) = ⊥
IsCalm (outputs.Server (orders.Restart as_primary)) = ⊥
IsCalm (outputs.Server orders.Wipe) = ⊥
IsCalm _ = Unit {0}

abbrev Calm : List Output → Type 0
Calm outs = All IsCalm outs

calmly : (outs : List Output) (output : Output) → IsCalm output → Calm outs → Calm (with_output output outs)
calmly outs output is all = All-push IsCalm outs output all is

calm-restrained : (heard : Heard) (b : Outcome) (role : RoleFacts) (output : Output) → IsCalm output
    → IsRestrained heard b role output
calm-restrained heard b role (outputs.Server (orders.Stop reason)) is = absurd is
calm-restrained heard b role (outputs.Server orders.ShutDown) is = absurd is
calm-restrained heard b role (outputs.Server (orders.StartReplica leader)) is = absurd is
calm-restrained heard b role (outputs.Server orders.Begin) is = absurd is
calm-restrained heard b role (outputs.Server (orders.Repair leader repair)) is = absurd is
calm-restrained heard b role (outputs.Server (orders.Restart as_primary)) is = absurd is
calm-restrained heard b role (outputs.Server orders.Wipe) is = absurd is
calm-restrained heard b role _ is = tt

calm-disarmed : (deadline : Option Ticks) (outs : List Output) → Calm outs → Calm (disarmed deadline outs)
calm-disarmed None outs all = all
calm-disarmed (Some deadline) outs all = calmly outs (outputs.Watchdog feedings.Disarmed) tt all

calm-armed : (deadline : Option Ticks) (outs : List Output) → Calm outs → Calm (armed deadline outs)
calm-armed None outs all = all
calm-armed (Some until) outs all = calmly outs (outputs.Watchdog (feedings.Armed until)) tt all

calm-fed : (deadline : Option Ticks) (outs : List Output) → Calm outs → Calm (fed_until deadline outs)
calm-fed None outs all = all
calm-fed (Some until) outs all = calmly outs (outputs.Watchdog (feedings.Fed until)) tt all

calm-by-failsafe : (deadline : Option Ticks) (members : MemberSet) (sequence : ℕ) (since : Ticks) (outs : List Output)
    → Calm outs → Calm (fed_by_failsafe deadline members sequence since outs)
calm-by-failsafe None members sequence since outs all = all
calm-by-failsafe (Some until) members sequence since outs all =
    calmly outs (outputs.Watchdog (feedings.FedByFailsafe until members sequence since)) tt all

calm-disabled : (renews : Bool) (deadline : Option Ticks) (outs : List Output) → Calm outs
    → Calm (disabling_told renews deadline outs)
calm-disabled renews None outs all = all
calm-disabled true (Some deadline) outs all = calmly (with_output (outputs.Watchdog feedings.Disarmed) outs)
    (outputs.Note (notings.Agent agent_notes.DisablesWatchdog)) tt
    (calmly outs (outputs.Watchdog feedings.Disarmed) tt all)
calm-disabled false (Some deadline) outs all = calmly outs (outputs.Watchdog feedings.Disarmed) tt all

calm-ask : (who : Who) (sequence : ℕ) (member : Option MemberId) (outs : List Output) → Calm outs
    → Calm (asking_one who sequence member outs)
calm-ask who sequence None outs all = all
calm-ask who sequence (Some member) outs all =
    if-cases Calm (is_other who member)
    (with_output (outputs.Message (outgoing.Send (targets.Member member) sequence bodies.Ask)) outs)
    outs (λ _. calmly outs (outputs.Message (outgoing.Send (targets.Member member) sequence bodies.Ask)) tt all)
    (λ _. all)

calm-asks : (who : Who) (sequence count : ℕ) (outs : List Output) → Calm outs
    → Calm (asking_first who sequence count outs)
calm-asks who sequence zero outs all = all
calm-asks who sequence (suc count) outs all = calm-ask who sequence (member_of count)
    (asking_first who sequence count outs) (calm-asks who sequence count outs all)

calm-whom : (who : Who) (candidate : Option MemberId) (sequence : ℕ) (outs : List Output) → Calm outs
    → Calm (asking_whom who candidate sequence outs)
calm-whom who None sequence outs all = calm-asks who sequence MOST_MEMBERS outs all
calm-whom who (Some candidate) sequence outs all = calm-ask who sequence (Some candidate) outs all

-- what settings let that a pause doesn't
paused-not : (b : Bool) → b ≡ true → not b ≡ true → ⊥
paused-not true e n = no-way n
paused-not false e n = no-way e

no-fork : (settings : Config) → settings.pause ≡ true → ends_forks settings ≡ true → ⊥
no-fork settings paused ends =
    no-way (sym (not-true (settings.use_pg_rewind || settings.pause) ends)
    ∙ or-right settings.use_pg_rewind settings.pause paused)
  where
    or-right : (a b : Bool) → b ≡ true → a || b ≡ true
    or-right true b e = refl
    or-right false b e = e

rewind-lets : (lets diverged : Bool) → rewind_if lets diverged ≡ Some Rewind → lets ≡ true
rewind-lets true diverged e = refl
rewind-lets false diverged e = cc

repair-lets : (lets follows diverged : Bool) (state : State)
    → repair_in lets follows diverged state ≡ Some Rewind → lets ≡ true
repair-lets lets follows diverged states.Replica e = first-true lets follows (rewind-lets (lets && follows) diverged e)
repair-lets lets follows diverged states.Stopped e = rewind-lets lets diverged e
repair-lets lets follows diverged states.Creating e = cc
repair-lets lets follows diverged states.Crashed e = cc
repair-lets lets follows diverged states.Primary e = cc
repair-lets lets follows diverged (states.Starting as_primary at) e = cc
repair-lets lets follows diverged (states.Stopping was_primary at) e = cc

module _ (now : Ticks) (heard : Heard) (b : Outcome) where
  -- what an input has put out by now, in this role and with these settings
  record Restrained (outs : List Output) (role : RoleFacts) (settings : Config) : Type 0 where
    all : settings.pause ≡ true → All (IsRestrained heard b role) outs

  abbrev R : Outcome → Type 0
  R x = Restrained x.outputs x.role x.knows.settings

  calm : (outs : List Output) (role : RoleFacts) (settings : Config) → Calm outs → Restrained outs role settings
  calm outs role settings quiet = record {
    all = λ _. All-weaker IsCalm (IsRestrained heard b role) (calm-restrained heard b role) outs quiet;
  }

  -- one order behind calm outputs
  order : (outs : List Output) (role : RoleFacts) (settings : Config) (output : Output) → Calm outs
      → (settings.pause ≡ true → IsRestrained heard b role output) → Restrained (with_output output outs) role settings
  order outs role settings output quiet may = record {
    all = λ paused.
        All-push (IsRestrained heard b role) outs output ((calm outs role settings quiet).all paused) (may paused);
  }

  -- outside a pause
  free-of : (outs : List Output) (role : RoleFacts) (settings : Config) → settings.pause ≡ false
      → Restrained outs role settings
  free-of outs role settings unpaused = record { all = λ paused. absurd (no-way (sym unpaused ∙ paused)) }

  -- and a calm output behind
  behind : (outs : List Output) (role : RoleFacts) (settings : Config) (output : Output)
      → IsRestrained heard b role output → Restrained outs role settings
      → Restrained (with_output output outs) role settings
  behind outs role settings output is r = record {
    all = λ paused. All-push (IsRestrained heard b role) outs output (r.all paused) is;
  }

  touched : (x : Outcome) → R x → R (touching x)
  touched x r = behind x.outputs x.role x.knows.settings _ tt r

  judged-calm : (x : Outcome) → Calm x.outputs → R (judged now x)
  judged-calm x all = judged-by R now x (calm _ _ _ (calmly x.outputs _ tt all))
      (λ bar.
      calm _ _ _ (calmly _ _ tt (calmly x.outputs (outputs.Note (notings.Agent (agent_notes.DoesNotRace bar))) tt all)))

  handover-calm : (revision : ℕ) (x : Outcome) → Calm x.outputs → HandoverRows R now revision x
  handover-calm revision x all = record {
    kept = calm x.outputs x.role x.knows.settings all;
    clears = λ compared. calm _ _ _ (calmly x.outputs _ tt all);
    hands = λ candidate. order (with_output (outputs.Note (notings.Agent (agent_notes.HandsOver candidate))) x.outputs)
        (Ending revision HandOver) x.knows.settings (outputs.Server orders.ShutDown)
        (calmly x.outputs (outputs.Note (notings.Agent (agent_notes.HandsOver candidate))) tt all) (λ _. tt);
  }

  reply-calm : (x : Outcome) → Calm x.outputs → ReplyRows R x
  reply-calm x all = record {
    kept = calm x.outputs x.role x.knows.settings all;
    answers = λ request told. calm _ _ _ (calmly x.outputs (outputs.Tell (tellings.Told request told)) tt all);
  }

  overdue-calm : (x : Outcome) → Calm x.outputs → R (overdue now x)
  overdue-calm x all = overdue-when R now x (record {
    kept = calm x.outputs x.role x.knows.settings all;
    quiet = calm x.outputs x.role x.knows.settings all;
    leader = λ held _ unpaused. free-of _ _ _ unpaused;
    seeks = λ held _ unpaused _. free-of _ _ _ unpaused;
    alone = λ held _ unpaused _ _. free-of _ _ _ unpaused;
    silent = λ held _ unpaused. free-of _ _ _ unpaused;
    unleased = λ _ unpaused. free-of _ _ _ unpaused;
    judges = λ _ _. judged-calm x all;
    ready = λ held _. calm _ _ _
        (calmly _ (outputs.Note (notings.Agent agent_notes.PostponesPromotion)) tt
        (calm-disarmed x.machine.watchdog.deadline x.outputs all));
    checks = λ held _. handover-calm held x all;
  })

  stay-calm : (from : MemberId) (sequence : ℕ) (accepted : Bool) (sent : Ticks) (x : Outcome) → Calm x.outputs
      → R (failsafe_answered now from sequence accepted sent x)
  stay-calm from sequence accepted sent x all = failsafe-answered-by R now from sequence accepted sent x (record {
    kept = calm x.outputs x.role x.knows.settings all;
    quiet = calm x.outputs x.role x.knows.settings all;
    counts = λ _ _. calm x.outputs x.role x.knows.settings all;
    counts_late = λ _ _ _. calm x.outputs x.role x.knows.settings all;
    stays = λ _ _ waited _ _ since _ _. let c : Outcome = counting from sent x in
        calm _ _ _
        (calmly _ (outputs.Note notings.StaysByFailsafe) tt
        (calm-by-failsafe (deadline_after now waited.ttl x.machine.watchdog) c.knows.failsafe.members
        waited.sequence since x.outputs all));
    fails = λ _ _ unpaused. free-of _ _ _ unpaused;
  })

  stay-asked-calm : (from : MemberId) (incarnation sequence : ℕ) (ttl : Ticks) (x : Outcome) → Calm x.outputs
      → R (failsafe_asked now from incarnation sequence ttl x)
  stay-asked-calm from incarnation sequence ttl x all = failsafe-asked-by R now from incarnation sequence ttl x
      (λ _. calm _ _ _
      (calmly _ (outputs.Message (outgoing.FailsafeAnswer from incarnation sequence true)) tt
      (calmly x.outputs (outputs.Tell (tellings.HoldTaken (span_after now ttl) from sequence)) tt all)))
      (calm _ _ _ (calmly x.outputs (outputs.Message (outgoing.FailsafeAnswer from incarnation sequence false)) tt all))

  turn-calm : (x : Outcome) → R x → R (turned now x)
  turn-calm x r =
      turn-by R now x (record { kept = r; quiet = r; reads = λ _. behind x.outputs x.role x.knows.settings _ tt r })

  -- ---- under another leader
  starts-calm : (may : Bool) (leader : MemberId) (x : Outcome)
      → (may ≡ true → is_paused x.knows ≡ true → b.knows.handed_over ≡ true) → Calm x.outputs
      → R (starts_if may now leader x)
  starts-calm false leader x over all = calm x.outputs x.role x.knows.settings all
  starts-calm true leader x over all =
      if-cases R x.machine.server.diverged x (starting_replica now (Some leader) x)
      (λ _. calm x.outputs x.role x.knows.settings all)
      (λ _.
      order x.outputs x.role x.knows.settings (outputs.Server (orders.StartReplica (Some leader))) all (over refl))

  anew-calm : (leader : MemberId) (x : Outcome) → Calm x.outputs → R (follows_anew now leader x)
  anew-calm leader x all =
      if-cases R (is_upstream leader x.machine.server.upstream) (ends_fork now x) _
      (λ _. if-cases R (x.machine.server.diverged && ends_forks x.knows.settings) (shutting_down now x) x
      (λ ends. record {
        all = λ paused.
            absurd (no-fork x.knows.settings paused
            (second-true x.machine.server.diverged (ends_forks x.knows.settings) ends));
      }) (λ _. calm x.outputs x.role x.knows.settings all))
      (λ _. calm _ _ _ (calmly x.outputs (outputs.Server (orders.Follow leader)) tt all))

  row-calm : (may : Bool) (leader : MemberId) (state : State) (x : Outcome)
      → (may ≡ true → is_paused x.knows ≡ true → b.knows.handed_over ≡ true) → Calm x.outputs
      → R (follow_row may now leader state x)
  row-calm may leader states.Stopped x over all = starts-calm may leader x over all
  row-calm may leader states.Crashed x over all = starts-calm may leader x over all
  row-calm may leader states.Replica x over all = anew-calm leader x all
  row-calm may leader states.Creating x over all = calm x.outputs x.role x.knows.settings all
  row-calm may leader states.Primary x over all = calm x.outputs x.role x.knows.settings all
  row-calm may leader (states.Starting as_primary at) x over all = calm x.outputs x.role x.knows.settings all
  row-calm may leader (states.Stopping was_primary at) x over all = calm x.outputs x.role x.knows.settings all

  -- the order of a repair behind that
  repair-calm : (leader : MemberId) (repair : Repair) (x : Outcome)
      → (repair ≡ Rewind → is_paused x.knows ≡ true → ⊥) → R x → R (repairing leader repair x)
  repair-calm leader Clone x lets r =
      behind x.outputs x.role x.knows.settings (outputs.Server (orders.Repair leader Clone)) tt r
  repair-calm leader Rewind x lets r = record { all = λ paused. absurd (lets refl paused) }

  repaired-calm : (leader : MemberId) (found : Option Repair) (x : Outcome)
      → (found ≡ Some Rewind → is_paused x.knows ≡ true → ⊥) → R x → R (repaired_if leader found x)
  repaired-calm leader None x lets r = r
  repaired-calm leader (Some repair) x lets r =
      repair-calm leader repair x (λ is. lets (ap (λ (y : Repair). Some y) is)) r

  kept-settings : (may : Bool) (leader : MemberId) (state : State) (x : Outcome)
      → (follow_row may now leader state x).knows.settings ≡ x.knows.settings
  kept-settings may leader state x =
      follow-by (λ (y : Outcome). y.knows.settings ≡ x.knows.settings) may now leader state x refl refl refl refl

  follow-calm : (x : Outcome) (leader : MemberId) → x.knows.handed_over ≡ b.knows.handed_over → Calm x.outputs
      → R (follows now leader x)
  follow-calm x leader same all =
      let y : Outcome = led_by_another x in
      let may : Bool = may_start_behind x.knows in
      let row : Outcome = follow_row may now leader x.machine.server.state y in
      repaired-calm leader (repair_of x.knows.settings leader x.machine.server) (touching row)
      (λ is paused. paused-not x.knows.settings.pause
      (ap (λ (c : Config). c.pause) (sym (kept-settings may leader x.machine.server.state y)) ∙ paused)
      (second-true x.knows.settings.use_pg_rewind _
      (repair-lets (lets_rewind x.knows.settings)
      (is_upstream leader x.machine.server.upstream) x.machine.server.diverged x.machine.server.state is)))
      (touched row
      (row-calm may leader x.machine.server.state y
      (λ starts paused. elim (one-true (not x.knows.settings.pause) x.knows.handed_over starts) [
        | inl runs ↦ absurd (paused-not x.knows.settings.pause paused runs)
        | inr over ↦ sym same ∙ over
      ]) all))

  -- ---- nobody leads
  raced-calm : (bar : Option Ineligibility) (x : Outcome) → Calm x.outputs → R (races_unless now bar x)
  raced-calm None x all =
      if-cases R (all_answered x.knows.who []) (judged now (unheard x)) (asking_others now (unheard x))
      (λ _. judged-calm (unheard x) all)
      (λ _. calm _ _ _ (calm-asks x.knows.who (x.knows.sequence + 1) MOST_MEMBERS x.outputs all))
  raced-calm (Some bar) x all =
      calm _ _ _ (calmly _ _ tt (calmly x.outputs (outputs.Note (notings.Agent (agent_notes.DoesNotRace bar))) tt all))

  free-calm : (x : Outcome) → Calm x.outputs → R (finds_free now x)
  free-calm x all =
      let y : Outcome = record x { role = Follower } in
      if-cases R (can_start y.machine.server) (touching (starts_alone now y))
      (races_unless now (bar_of now y.knows y.machine) y)
      (λ _. if-cases (λ (z : Outcome). R (touching z)) (is_paused y.knows) y (starting_replica now None y)
      (λ _. touched y (calm y.outputs y.role y.knows.settings all)) (λ unpaused. free-of _ _ _ unpaused))
      (λ _. raced-calm (bar_of now y.knows y.machine) y all)

  got-calm : (points : List HistoryPoint) (sequence : ℕ) (snapshot : SnapshotFacts) (x : Outcome)
      → x.knows.handed_over ≡ b.knows.handed_over → Calm x.outputs → R (read_answered now points sequence snapshot x)
  got-calm points sequence snapshot x same all =
      let read : Outcome = record x { knows = read_noted now snapshot x.knows } in
      got-when R now points sequence snapshot x (record {
        kept = calm x.outputs x.role x.knows.settings all;
        quiet = calm x.outputs x.role x.knows.settings all;
        other = calm read.outputs read.role read.knows.settings all;
        leader = λ held _ unpaused. free-of _ _ _ unpaused;
        unleased = λ _ unpaused. free-of _ _ _ unpaused;
        renews = λ _ leader _ _. calm _ _ _ (calmly x.outputs _ tt all);
        touches = touched read (calm read.outputs read.role read.knows.settings all);
        follows = λ leader _ _. follow-calm read leader.holder same all;
        free = λ _ _. free-calm read all;
        runs_on = λ _. calm _ _ _ (calmly x.outputs (outputs.Note (notings.Agent agent_notes.RunsWithoutKey)) tt all);
        asks_on =
            λ _ _ _. calm _ _ _
            (calmly _ _ tt (calmly x.outputs (outputs.Note (notings.Agent agent_notes.RunsWithoutKey)) tt all));
      })

  refused-calm : (sequence : ℕ) (x : Outcome) → Calm x.outputs → R (refused now sequence x)
  refused-calm sequence x all = refused-when R now sequence x (record {
    kept = calm x.outputs x.role x.knows.settings all;
    quiet = calm x.outputs x.role x.knows.settings all;
    leader = λ held _ unpaused. free-of _ _ _ unpaused;
    unleased = λ _ unpaused. free-of _ _ _ unpaused;
    follower = λ held _. calm _ _ _ all;
    ready = λ held _. calm _ _ _
        (calmly _ (outputs.Note (notings.Agent agent_notes.PostponesPromotion)) tt
        (calm-disarmed x.machine.watchdog.deadline x.outputs all));
    runs_on = λ _. calm _ _ _ (calmly x.outputs (outputs.Note (notings.Agent agent_notes.RunsWithoutKey)) tt all);
  })

  answered-calm : (sequence : ℕ) (answer : PeerAnswer) (x : Outcome) → Calm x.outputs
      → R (answered now sequence answer x)
  answered-calm sequence answer x all = answered-when R now sequence answer x (record {
    kept = calm x.outputs x.role x.knows.settings all;
    quiet = calm x.outputs x.role x.knows.settings all;
    keeps = calm x.outputs x.role x.knows.settings all;
    judges = λ _ _. judged-calm (keeping answer x) all;
    checks = λ held _. handover-calm held (keeping answer x) all;
  })

  -- ---- a grant
  duty-calm : (revision : ℕ) (x : Outcome) → Calm x.outputs → DutyRows R now revision x
  duty-calm revision x all = record {
    plan = record {
      kept = calm x.outputs x.role x.knows.settings all;
      writes = λ settling txn _. calm _ _ _ (calmly x.outputs _ tt all);
      adds = λ required. calm _ _ _ (calmly x.outputs (outputs.Require required) tt all);
      drops = λ required. calm _ _ _ (calmly x.outputs (outputs.Require required) tt all);
    };
    clears = λ compared. calm _ _ _ (calmly x.outputs _ tt all);
    asks = λ candidate. calm _ _ _ (calm-whom x.knows.who candidate (x.knows.sequence + 1) x.outputs all);
    judges = handover-calm revision (unheard x) all;
  }

  begin-calm : (revision : ℕ) (x : Outcome)
      → (is_paused x.knows ≡ true → IsRestrained heard b (Leader revision) (outputs.Server orders.Begin))
      → Calm x.outputs
      → R (begins now revision x)
  begin-calm revision x may all = order (with_output (outputs.Require (unnamed x.knows.turn_settings)) x.outputs)
      (Leader revision) x.knows.settings (outputs.Server orders.Begin)
      (calmly x.outputs (outputs.Require (unnamed x.knows.turn_settings)) tt all) may

  claim-calm : (revision : ℕ) (x : Outcome)
      → (is_paused x.knows ≡ true → IsRestrained heard b (Leader revision) (outputs.Server orders.Begin))
      → Calm x.outputs
      → R (begins_or_claims now revision x)
  claim-calm revision x may all =
      begins-or-claims-by R now revision x (begin-calm revision x may all)
      (calm _ _ _
      (calmly (passing x).outputs _ tt
      (passing-by Calm x all (calmly x.outputs (outputs.Tell tellings.ClaimsOutsideSync) tt all))))

  takes-calm : (ttl : Ticks) (revision : ℕ) (x : Outcome) → is_paused x.knows ≡ false → Calm x.outputs
      → R (takes_key now ttl revision x)
  takes-calm ttl revision x unpaused all =
      if-cases R (may_take now x.knows x.machine) (arms now ttl revision x) (gives_back revision x)
      (λ _. if-cases R (is_refusing x.machine.watchdog.mode x.machine.watchdog.works) _
      (begins_or_claims now revision (arming now ttl x)) (λ _. free-of _ _ _ unpaused)
      (λ _. claim-calm revision (arming now ttl x) (λ paused. absurd (no-way (sym unpaused ∙ paused)))
      (calm-armed (deadline_after now ttl x.machine.watchdog) x.outputs all)))
      (λ _. free-of _ _ _ unpaused)

  disabling-calm : (renews : Bool) (revision : ℕ) (x : Outcome)
      → (is_wanted x.knows.who.me x.knows.turn_failover x.machine.server.state ≡ true →
      IsRestrained heard b (Leader revision) (outputs.Server orders.Begin))
      → Calm x.outputs → R (takes_key_in_pause now renews revision x)
  disabling-calm renews revision x may all =
      if-cases R
      (is_wanted x.knows.who.me x.knows.turn_failover x.machine.server.state && may_take now x.knows x.machine)
      (begins_or_claims now revision (disabling_watchdog renews x)) (gives_back revision x)
      (λ both. claim-calm revision (disabling_watchdog renews x)
      (λ _. may (first-true (is_wanted x.knows.who.me x.knows.turn_failover x.machine.server.state) _ both))
      (calm-disabled renews x.machine.watchdog.deadline x.outputs all))
      (λ _. calm _ _ _ (calmly x.outputs _ tt all))

  module _ (sequence : ℕ) (grant : Granted) (snapshot : SnapshotFacts)
      (is : heard ≡ heards.Granted sequence grant snapshot) where
    abbrev Told : Outcome
    Told = record b { knows = informed snapshot b.knows }

    may-begin : (revision : ℕ)
        → (is_candidate b.knows.who.me b.knows.turn_failover ≡ true)
        ⊎ (is_candidate b.knows.who.me (failover_in snapshot) ≡ true)
        → is_replica b.machine.server.state ≡ true
        → IsRestrained heard b (Leader revision) (outputs.Server orders.Begin)
    may-begin revision named runs =
        subst (λ (h : Heard). IsRestrained h b (Leader revision) (outputs.Server orders.Begin))
        (sym is) (named, replica b.machine.server.state runs)

    by-turn : (revision : ℕ) → is_wanted b.knows.who.me b.knows.turn_failover b.machine.server.state ≡ true
        → IsRestrained heard b (Leader revision) (outputs.Server orders.Begin)
    by-turn revision wanted =
        may-begin revision
        (inl (first-true (is_candidate b.knows.who.me b.knows.turn_failover)
        (is_replica b.machine.server.state) wanted))
        (second-true (is_candidate b.knows.who.me b.knows.turn_failover) (is_replica b.machine.server.state) wanted)

    by-snapshot : (revision : ℕ) → may_begin_on_claim Told.knows b.machine.server ≡ true
        → is_paused Told.knows ≡ true → IsRestrained heard b (Leader revision) (outputs.Server orders.Begin)
    by-snapshot revision may paused =
        let wanted : is_wanted b.knows.who.me (failover_in snapshot) b.machine.server.state ≡ true =
        sym (ap (λ (p : Bool). if p then is_wanted b.knows.who.me (failover_in snapshot) b.machine.server.state
        else can_begin_on_claim b.machine.server.was_primary b.machine.server.state)
        paused)
        ∙ may in
        may-begin revision
        (inr (first-true (is_candidate b.knows.who.me (failover_in snapshot))
        (is_replica b.machine.server.state) wanted))
        (second-true (is_candidate b.knows.who.me (failover_in snapshot)) (is_replica b.machine.server.state) wanted)

    granted-calm : Calm b.outputs → R (granted now sequence grant snapshot b)
    granted-calm all =
        granted-when R now sequence grant snapshot b (calm b.outputs b.role b.knows.settings all)
        (calm b.outputs b.role b.knows.settings all)
        (λ asked _ _. record {
          other = calm Told.outputs Told.role Told.knows.settings all;
          leader = λ held unpaused _ _. renewed-by R now asked.ttl grant.revision Told (free-of _ _ _ unpaused)
              (duty-calm grant.revision (led_on now asked.ttl grant.revision Told)
              (calm-fed (deadline_after now asked.ttl b.machine.watchdog) b.outputs all));
          unleased = λ unpaused _ _. if-cases R (is_refusing b.machine.watchdog.mode b.machine.watchdog.works)
              (ending_server now WatchdogNotArmed Told) (takes_over now grant.revision (arming now asked.ttl Told))
              (λ _. free-of _ _ _ unpaused) (λ _. free-of _ _ _ unpaused);
          takes = λ unpaused _ _. takes-calm asked.ttl grant.revision Told unpaused all;
          keeps_late = λ held unpaused _ _. judges-start-by R now grant.revision (kept_on grant.revision Told)
              (free-of _ _ _ unpaused) (duty-calm grant.revision (kept_on grant.revision Told) all);
          ends_late = λ unpaused _. free-of _ _ _ unpaused;
          refuses_late = λ unpaused _. free-of _ _ _ unpaused;
          returns_late = λ unpaused _. free-of _ _ _ unpaused;
          leads_in_pause =
              λ renews _ held _. duties-of R now grant.revision (leading_in_pause renews grant.revision Told)
              (duty-calm grant.revision (leading_in_pause renews grant.revision Told)
              (calm-disabled renews b.machine.watchdog.deadline b.outputs all));
          unleased_in_pause = λ renews _ _. calm _ _ _ (calm-disabled renews b.machine.watchdog.deadline b.outputs all);
          takes_in_pause = λ renews _ _. disabling-calm renews grant.revision Told (by-turn grant.revision) all;
        })
        (λ _ so. so)
        (record {
          other = calm Told.outputs Told.role Told.knows.settings all;
          begins = λ revision _ may. begin-calm revision Told (by-snapshot revision may) all;
          postpones = λ revision _. calm _ _ _
              (calmly _ (outputs.Note (notings.Agent agent_notes.PostponesPromotion)) tt
              (calm-disarmed b.machine.watchdog.deadline b.outputs all));
          settles = λ required _. calm _ _ _ (calmly b.outputs (outputs.Require required) tt all);
        })

  -- ---- what an operator asks
  operated-calm : (request : ℕ) (asked : OperatorRequest) → (asked ≡ requests.Restart → IsRestart heard)
      → (asked ≡ requests.Reinit → IsReinit heard) → Calm b.outputs → R (operated now request asked b)
  operated-calm request (requests.Failover kind failover) restart reinit all = calm _ _ _ (calmly b.outputs _ tt all)
  operated-calm request (requests.Configuration config) restart reinit all = calm _ _ _ (calmly b.outputs _ tt all)
  operated-calm request requests.Restart restart reinit all =
      behind _ b.role b.knows.settings _ tt
      (behind b.outputs b.role b.knows.settings (outputs.Server (orders.Restart (is_primary b.machine.server.state)))
      (restart refl) (calm b.outputs b.role b.knows.settings all))
  operated-calm request requests.Reinit restart reinit all = behind _ b.role b.knows.settings _ tt
      (behind b.outputs b.role b.knows.settings (outputs.Server orders.Wipe) (reinit refl)
      (calm b.outputs b.role b.knows.settings all))
  operated-calm request (requests.Hold from ttl) restart reinit all =
      asked-to-hold-by R now request (record { 0 = ttl }) b
      (λ text _. calm _ _ _
      (calmly _ (outputs.Tell (tellings.Told request _)) tt
      (calmly b.outputs
      (outputs.Tell (tellings.HoldTaken (span_after now (record { 0 = ttl })) b.knows.who.me unnumbered)) tt all)))
      (λ text. calm _ _ _ (calmly b.outputs (outputs.Tell (tellings.Told request _)) tt all))

-- ---- what precedes the input's own rows orders nothing
abbrev Before : Outcome → Outcome → Type 0
Before b x = Calm x.outputs × (x.knows.handed_over ≡ b.knows.handed_over)

ended-calm : (why : Why) (held : ℕ) (o : Outcome) → Calm o.outputs → Calm (has_ended why held o).outputs
ended-calm HandOver held o all = calmly _ _ tt (calm-disarmed o.machine.watchdog.deadline o.outputs all)
ended-calm Lost held o all = calm-disarmed o.machine.watchdog.deadline o.outputs all

before-calm : (now : Ticks) (o : Outcome) → Calm o.outputs → Calm (reconciled now o).outputs
before-calm now o all =
    let rest : Calm (disarmed o.machine.watchdog.deadline o.outputs) =
    calm-disarmed o.machine.watchdog.deadline o.outputs all in
    before-by (λ (x : Outcome). Calm x.outputs) now o (record {
      kept = λ _. all;
      leader = λ held _ _. rest;
      ending = λ held why _ _. ended-calm why held o all;
      follower = λ _ _. all;
      holder = λ held _ _. all;
      ready = λ held _ _. rest;
      unleased = λ _ _. rest;
    })

told-calm : (b : Outcome) → Calm b.outputs → ReplyRows (Before b) b
told-calm b all =
    record {
      kept = (all, refl);
      answers = λ request told. (calmly b.outputs (outputs.Tell (tellings.Told request told)) tt all, refl);
    }

step-calm : (now : Ticks) (points : List HistoryPoint) (heard : Heard) (o : Outcome) → Calm o.outputs
    → R now heard (reconciled now o) (step now points heard o)
step-calm now points heards.Wake o all =
    let b : Outcome = reconciled now o in
    let first : Calm b.outputs = before-calm now o all in
    let told : Before b (given_up now b) = given-up-by (Before b) now b (told-calm b first) in
    wake-by (R now heards.Wake b) now o (calm now heards.Wake b b.outputs b.role b.knows.settings first)
    (turn-calm now heards.Wake b (overdue now (given_up now b))
    (overdue-calm now heards.Wake b (given_up now b) told.0))
step-calm now points (heards.ReadAnswered sequence snapshot) o all =
    let b : Outcome = reconciled now o in
    let told : Before b (looked sequence snapshot b) =
    looked-by (Before b) sequence snapshot b (told-calm b (before-calm now o all)) in
    got-calm now (heards.ReadAnswered sequence snapshot) b points sequence snapshot
    (looked sequence snapshot b) told.1 told.0
step-calm now points (heards.Granted sequence grant snapshot) o all =
    let b : Outcome = reconciled now o in
    let heard : Heard = heards.Granted sequence grant snapshot in
    let first : Calm b.outputs = before-calm now o all in
    granted-any-by (R now heard b) now sequence grant snapshot b
    (calm now heard b b.outputs b.role b.knows.settings first) (reply-calm now heard b (learned snapshot b) first)
    (granted-calm now heard b sequence grant snapshot refl first)
step-calm now points (heards.Mismatch sequence key found) o all =
    let b : Outcome = reconciled now o in
    let heard : Heard = heards.Mismatch sequence key found in
    let first : Calm b.outputs = before-calm now o all in
    refused-any-by (R now heard b) now sequence b (reply-calm now heard b b first)
    (refused-calm now heard b sequence b first)
step-calm now points (heards.Asked from incarnation sequence) o all =
    calm now (heards.Asked from incarnation sequence) (reconciled now o) _ _ _ (calmly _ _ tt (before-calm now o all))
step-calm now points (heards.Answered sequence answer) o all = answered-calm now (heards.Answered sequence answer)
    (reconciled now o) sequence answer (reconciled now o) (before-calm now o all)
step-calm now points (heards.FailsafeAsked from incarnation sequence ttl) o all =
    stay-asked-calm now (heards.FailsafeAsked from incarnation sequence ttl)
    (reconciled now o) from incarnation sequence ttl (reconciled now o) (before-calm now o all)
step-calm now points (heards.FailsafeAnswered from sequence accepted sent) o all =
    stay-calm now (heards.FailsafeAnswered from sequence accepted sent)
    (reconciled now o) from sequence accepted sent (reconciled now o) (before-calm now o all)
step-calm now points (heards.Operated action) o all = operated-calm now (heards.Operated action)
    (reconciled now o) action.request action.asked (λ e. e) (λ e. e) (before-calm now o all)

pub input-restrained : (now : Ticks) (points : List HistoryPoint) (heard : Heard) (role : RoleFacts)
    (knows : Knowledge) (machine : Machine)
    → RestrainsInPause heard (reconciled now (outcome_from role knows machine []))
    (step now points heard (outcome_from role knows machine []))
input-restrained now points heard role knows machine =
    λ paused. (step-calm now points heard (outcome_from role knows machine []) (All-nil IsCalm)).all paused
