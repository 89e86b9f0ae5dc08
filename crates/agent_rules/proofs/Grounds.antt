-- Each input has its grounds, by the rows of the decision table.
use Rattle.std.proofs.Common.{ℕ, ◌≡◌, ◌⊎◌, ◌+◌, Bool, true, false, if◌then◌else◌, List, Option, Some, None, All, Contains, refl, sym, subst, ap, ◌∙◌, inl, inr, zero, suc, not, ◌==◌}
use Rattle.std.proofs.lemmas.List.Elements.{All-push, All-contains}
use Rattle.lease_model.proofs.Tools.{none-some, some-is}
use Rattle.pat_base.specs.MemberId.{member_of}
use Rattle.pat_base.specs.declared.member_id.MemberId.{MemberId}
use Rattle.pat_base.specs.declared.member_set.MemberSet.{MemberSet}
use Rattle.pat_base.specs.declared.member_id.TheConstants.{MOST_MEMBERS}
use Rattle.pat_base.specs.declared.peer_answer.PeerAnswer.{PeerAnswer}
use Rattle.pat_base.specs.declared.ticks.Ticks.{Ticks}
use Rattle.pat_base.specs.ServerState.{live}
use Rattle.store_keys.specs.declared.action.OperatorRequest.{OperatorRequest}
use Rattle.store_keys.specs.declared.action.OperatorRequest.TheVariants as requests
use Rattle.store_keys.specs.declared.config.Config.{Config}
use Rattle.store_keys.specs.declared.txn.Txn.TheVariants as txns
use Rattle.store_keys.specs.declared.txn.LeaseTxn.TheVariants as lease_txns
use Rattle.wal_model.specs.declared.entry.HistoryPoint.{HistoryPoint}
use Rattle.pg_model.specs.Running.{is_primary}
use Rattle.cluster_view.specs.Snapshots.{SnapshotFacts, leader_in, settings_in}
use Rattle.event_book.specs.declared.agent_note.AgentNote.TheVariants as agent_notes
use Rattle.event_book.specs.declared.message.Body.TheVariants as bodies
use Rattle.event_book.specs.declared.reason.Reason.{Reason}
use Rattle.failsafe.specs.Asks.{asked as asked_nobody, has}
use Rattle.event_book.specs.declared.reason.Reason.TheVariants.{FailsafeNotAcknowledged, StoreOutOfReach}
use Rattle.leader_key.specs.Watchdog.{WatchdogFacts, is_armable, timeout_of}
use Rattle.agent_model.specs.declared.heard.Heard.{Heard}
use Rattle.agent_model.specs.declared.heard.Heard.TheVariants as heards
use Rattle.agent_model.specs.declared.knowledge.Knowledge.{Knowledge}
use Rattle.agent_model.specs.declared.knowledge.PendingQuestion.{PendingQuestion}
use Rattle.agent_model.specs.declared.machine.Machine.{Machine}
use Rattle.agent_model.specs.declared.output.Output.{Output}
use Rattle.agent_model.specs.declared.output.Output.TheVariants as outputs
use Rattle.agent_model.specs.declared.output.Feeding.TheVariants as feedings
use Rattle.agent_model.specs.declared.output.Noting.TheVariants as notings
use Rattle.agent_model.specs.declared.output.Outgoing.TheVariants as outgoing
use Rattle.agent_model.specs.declared.output.ServerOrder.TheVariants as orders
use Rattle.agent_model.specs.declared.output.Telling.TheVariants as tellings
use Rattle.agent_model.specs.declared.output.Target.TheVariants as targets
use Rattle.agent_model.specs.declared.who.Who.{Who}
use Rattle.agent_model.specs.declared.why.Why.TheVariants.{HandOver, Lost}
use Rattle.agent_model.specs.Acting.{lease_span, armed, fed_until, deadline_after, disarmed, ending_server, starting_replica, touching, waiting_no_more}
use Rattle.agent_model.specs.Agents.{RoleFacts, Follower, Holder, Leader, Ending, Unleased, Outcome, is_leader, word_of}
use Rattle.agent_model.specs.Answers.{is_other, asking_one, asking_first}
use Rattle.agent_model.specs.Claiming.{begins, postpones}
use Rattle.agent_model.specs.Decisions.{has_primary, may_create, refused}
use Rattle.agent_model.specs.HandingOver.{asking_whom}
use Rattle.agent_model.specs.Operators.{operated, unnumbered}
use Rattle.agent_model.specs.Outputs.{with_output}
use Rattle.agent_model.specs.Pausing.{is_paused, may_start_behind, disabling_told, running_without_key}
use Rattle.agent_model.specs.Peers.{answered, asked, awaits_others, keeping}
use Rattle.agent_model.specs.Racing.{finds_free, judged, unheard}
use Rattle.agent_model.specs.Snapshots.{follow_row, follows, read_answered, informed, led_by_another, read_noted}
use Rattle.agent_model.specs.Synchronous.{unnamed}
use Rattle.agent_model.specs.Wake.{overdue, turned}
use Rattle.agent_cases.proofs.Rows.{HandoverRows, ReplyRows, if-cases, turn-by, got-when, refused-when, answered-when, follow-by, free-by, judged-by, asked-to-hold-by, OverdueElse, OutlastsToLead, overdue-told}
use Rattle.agent_cases.proofs.FailsafeRows.{failsafe-asked-by, failsafe-answered-when}
use Rattle.agent_cases.proofs.Grants.{FailoverRows}
use Rattle.agent_model.specs.StayingPrimary.{counting, failsafe_answered, failsafe_asked, fed_by_failsafe, others_known, requesting_first, requesting_one, span_after, stays, awaits_failsafe, awaits_lease, is_staying, leader_unacknowledged, may_stay}
use Rattle.agent_roles.specs.Powers.{lease_of}
use Rattle.agent_roles.proofs.Living.{no-way}
use Rattle.agent_rules.specs.Grounds.{HasGround, HasGrounds, HearsNoLeader, IsReinit, CreateGround, AloneGround, AsksEachKnown, AsksHold, AsksHoldByAction, FailsafeGround, HoldGround, StayGround, WordGround}
use Rattle.agent_rules.specs.Grounds.CreateGround.{Finds, Judges, RunsOn}
use Rattle.agent_rules.proofs.Taking.{IsFitting, first-true, repaired-fitting, second-true, not-true}
use Rattle.agent_model.specs.Fits.{Fits}
use Rattle.agent_model.specs.FailsafeKeys.{is_fed_by_failsafe, set_in}
use Rattle.agent_model.specs.Views.{shown}
use Rattle.failsafe.specs.Holding.{is_follower, may_hold}
use Rattle.failsafe.proofs.Members.{numbers-same}
use Rattle.agent_roles.proofs.Acknowledging.{follower-is}
use Rattle.agent_roles.proofs.AllSaid.{all-said, heard-members}
use Rattle.agent_rules.specs.Grounds.RequireGround.{Begins}
use Rattle.agent_rules.proofs.Reaching.{asked-to-lead, carries-leading, heard-yes, is-zero, leader-lives, passed}

-- an output that gives no lease back
abbrev pub KeepsLeases : Output → Type 0
KeepsLeases
    (outputs.Message (outgoing.Send targets.Store sequence
    (bodies.Request (txns.Lease (lease_txns.Release revision))))) =
    ⊥
KeepsLeases _ = Unit {0}

-- over what precedes the input, `b`, which hears this
module _ (now : Ticks) (heard : Heard) (b : Outcome) where
  abbrev pub Ground : Output → Type 0
  Ground output = HasGround now heard b output

  -- the other members are waited for since a turn read that nobody leads
  abbrev pub AsksSince : Option PendingQuestion → Type 0
  AsksSince waited = awaits_others waited ≡ true
      → (awaits_others b.knows.waited ≡ true) ⊎ (HearsNoLeader heard × (may_create b.role ≡ true))

  -- outputs so far, the role behind them, and what is waited for: where a lease was given back there is none
  pub record Sofar (outs : List Output) (role : RoleFacts) (waited : Option PendingQuestion) : Type 0 where
    pub grounds : All Ground outs
    pub keeps : All KeepsLeases outs ⊎ (lease_of role ≡ None)
    pub asks : AsksSince waited

  abbrev pub So : Outcome → Type 0
  So x = Sofar x.outputs x.role x.knows.waited

  pub more : (outs : List Output) (role : RoleFacts) (waited : Option PendingQuestion) (output : Output)
      → Ground output → KeepsLeases output → Sofar outs role waited → Sofar (with_output output outs) role waited
  more outs role waited output ground keeps s = record {
    grounds = All-push Ground outs output s.grounds ground;
    keeps = elim s.keeps [ inl all ↦ inl (All-push KeepsLeases outs output all keeps) | inr none ↦ inr none ];
    asks = s.asks;
  }

  pub waits : (outs : List Output) (role : RoleFacts) (was waited : Option PendingQuestion)
      → awaits_others waited ≡ false → Sofar outs role was → Sofar outs role waited
  waits outs role was waited other s =
      record { grounds = s.grounds; keeps = s.keeps; asks = λ e. absurd (no-way (sym other ∙ e)) }

  -- without a lease from now on
  without : (outs : List Output) (was role : RoleFacts) (waited : Option PendingQuestion)
      → lease_of role ≡ None → Sofar outs was waited → Sofar outs role waited
  without outs was role waited none s = record { grounds = s.grounds; keeps = inr none; asks = s.asks }

  -- who has a lease gave none back
  pub kept-by : (outs : List Output) (role : RoleFacts) (waited : Option PendingQuestion) (revision : ℕ)
      → lease_of role ≡ Some revision → Sofar outs role waited → All KeepsLeases outs
  kept-by outs role waited revision has s =
      elim s.keeps [ inl all ↦ all | inr none ↦ absurd (none-some revision (sym none ∙ has)) ]

  pub with-role : (outs : List Output) (was role : RoleFacts) (waited : Option PendingQuestion)
      → All KeepsLeases outs → Sofar outs was waited → Sofar outs role waited
  with-role outs was role waited all s = record { grounds = s.grounds; keeps = inl all; asks = s.asks }

  pub from-lease : (outs : List Output) (was role : RoleFacts) (waited : Option PendingQuestion) (revision : ℕ)
      → lease_of was ≡ Some revision → Sofar outs was waited → Sofar outs role waited
  from-lease outs was role waited revision has s =
      with-role outs was role waited (kept-by outs was waited revision has s) s

  pub quiet : (x : Outcome) → So x → So (waiting_no_more x)
  quiet x s = waits x.outputs x.role x.knows.waited None refl s

  disarm-so : (outs : List Output) (role : RoleFacts) (waited : Option PendingQuestion) (deadline : Option Ticks)
      → Sofar outs role waited → Sofar (disarmed deadline outs) role waited
  disarm-so outs role waited None s = s
  disarm-so outs role waited (Some deadline) s = more outs role waited (outputs.Watchdog feedings.Disarmed) tt tt s

  pub arm-so : (outs : List Output) (role : RoleFacts) (waited : Option PendingQuestion) (until : Ticks)
      (armable : Bool)
      → (armable ≡ true → Ground (outputs.Watchdog (feedings.Armed until)))
      → Sofar outs role waited → Sofar (armed (if armable then Some until else None) outs) role waited
  arm-so outs role waited until true is s =
      more outs role waited (outputs.Watchdog (feedings.Armed until)) (is refl) tt s
  arm-so outs role waited until false is s = s

  pub feed-so : (outs : List Output) (role : RoleFacts) (waited : Option PendingQuestion) (until : Ticks)
      (armable : Bool)
      → (armable ≡ true → Ground (outputs.Watchdog (feedings.Fed until)))
      → Sofar outs role waited → Sofar (fed_until (if armable then Some until else None) outs) role waited
  feed-so outs role waited until true is s =
      more outs role waited (outputs.Watchdog (feedings.Fed until)) (is refl) tt s
  feed-so outs role waited until false is s = s

  pub disabled-so : (outs : List Output) (role : RoleFacts) (waited : Option PendingQuestion) (renews : Bool)
      (deadline : Option Ticks) → Sofar outs role waited → Sofar (disabling_told renews deadline outs) role waited
  disabled-so outs role waited renews None s = s
  disabled-so outs role waited true (Some deadline) s =
      more (with_output (outputs.Watchdog feedings.Disarmed) outs) role waited
      (outputs.Note (notings.Agent agent_notes.DisablesWatchdog)) tt tt
      (more outs role waited (outputs.Watchdog feedings.Disarmed) tt tt s)
  disabled-so outs role waited false (Some deadline) s =
      more outs role waited (outputs.Watchdog feedings.Disarmed) tt tt s

  touch-so : (x : Outcome) → So x → So (touching x)
  touch-so x s = more x.outputs x.role x.knows.waited _ tt tt s

  pub end-so : (reason : Reason) (x : Outcome) → So x
      → Sofar (with_output (outputs.Server (orders.Stop reason)) x.outputs) x.role x.knows.waited
  end-so reason x s = more x.outputs x.role x.knows.waited (outputs.Server (orders.Stop reason)) tt tt s

  -- asks of other members
  ask-so : (who : Who) (sequence : ℕ) (member : Option MemberId) (outs : List Output) (role : RoleFacts)
      (waited : Option PendingQuestion) → Sofar outs role waited
      → Sofar (asking_one who sequence member outs) role waited
  ask-so who sequence None outs role waited s = s
  ask-so who sequence (Some member) outs role waited s =
      if-cases (λ (l : List Output). Sofar l role waited) (is_other who member)
      (with_output (outputs.Message (outgoing.Send (targets.Member member) sequence bodies.Ask)) outs) outs
      (λ _. more outs role waited (outputs.Message (outgoing.Send (targets.Member member) sequence bodies.Ask)) tt tt s)
      (λ _. s)

  asks-so : (who : Who) (sequence count : ℕ) (outs : List Output) (role : RoleFacts) (waited : Option PendingQuestion)
      → Sofar outs role waited → Sofar (asking_first who sequence count outs) role waited
  asks-so who sequence zero outs role waited s = s
  asks-so who sequence (suc count) outs role waited s = ask-so who sequence (member_of count)
      (asking_first who sequence count outs) role waited (asks-so who sequence count outs role waited s)

  whom-so : (who : Who) (candidate : Option MemberId) (sequence : ℕ) (outs : List Output) (role : RoleFacts)
      (waited : Option PendingQuestion) → Sofar outs role waited
      → Sofar (asking_whom who candidate sequence outs) role waited
  whom-so who None sequence outs role waited s = asks-so who sequence MOST_MEMBERS outs role waited s
  whom-so who (Some candidate) sequence outs role waited s = ask-so who sequence (Some candidate) outs role waited s

  -- the requests to all other members to stay primary
  request-so : (members : MemberSet) (sequence : ℕ) (ttl : Ticks) (member : Option MemberId)
      (outs : List Output) (role : RoleFacts) (waited : Option PendingQuestion)
      → ((to : MemberId) → has members to.number ≡ true → FailsafeGround now heard b to ttl) → Sofar outs role waited
      → Sofar (requesting_one members sequence ttl member outs) role waited
  request-so members sequence ttl None outs role waited may s = s
  request-so members sequence ttl (Some member) outs role waited may s =
      if-cases (λ (l : List Output). Sofar l role waited) (has members member.number)
      (with_output (outputs.Message (outgoing.Send (targets.Member member) sequence (bodies.FailsafeRequest ttl))) outs)
      outs
      (λ known. more outs role waited
      (outputs.Message (outgoing.Send (targets.Member member) sequence (bodies.FailsafeRequest ttl)))
      (may member known) tt s)
      (λ _. s)

  requests-so : (members : MemberSet) (sequence : ℕ) (ttl : Ticks) (count : ℕ) (outs : List Output)
      (role : RoleFacts) (waited : Option PendingQuestion)
      → ((to : MemberId) → has members to.number ≡ true → FailsafeGround now heard b to ttl) → Sofar outs role waited
      → Sofar (requesting_first members sequence ttl count outs) role waited
  requests-so members sequence ttl zero outs role waited may s = s
  requests-so members sequence ttl (suc count) outs role waited may s =
      request-so members sequence ttl (member_of count) (requesting_first members sequence ttl count outs) role waited
      may (requests-so members sequence ttl count outs role waited may s)

  by-failsafe-so : (outs : List Output) (role : RoleFacts) (waited : Option PendingQuestion) (until : Ticks)
      (members : MemberSet) (sequence : ℕ) (since : Ticks) (armable : Bool)
      → (armable ≡ true → Ground (outputs.Watchdog (feedings.FedByFailsafe until members sequence since)))
      → Sofar outs role waited
      → Sofar (fed_by_failsafe (if armable then Some until else None) members sequence since outs) role waited
  by-failsafe-so outs role waited until members sequence since true is s =
      more outs role waited (outputs.Watchdog (feedings.FedByFailsafe until members sequence since)) (is refl) tt s
  by-failsafe-so outs role waited until members sequence since false is s = s

  -- a leader stays primary by the word of the others, or where there are none
  stays-so : (ttl : Ticks) (sequence : ℕ) (since : Ticks) (x : Outcome) → x.machine ≡ b.machine
      → ((until : Ticks) → until ≡ span_after now (record { 0 = timeout_of b.machine.watchdog.margin ttl.0 }) →
      WordGround now heard b until x.knows.failsafe.members sequence
      ⊎ AloneGround now heard b until x.knows.failsafe.members)
      → So x → So (stays now ttl sequence since x)
  stays-so ttl sequence since x same word s =
      let watchdog : WatchdogFacts = x.machine.watchdog in
      let fed : Sofar (fed_by_failsafe (deadline_after now ttl watchdog) x.knows.failsafe.members sequence
      since x.outputs)
      x.role None =
      by-failsafe-so x.outputs x.role None (record { 0 = now.0 + timeout_of watchdog.margin ttl.0 })
      x.knows.failsafe.members sequence since (is_armable watchdog.mode watchdog.works)
      (λ e. (
        ap (λ (m : Machine). is_armable m.watchdog.mode m.watchdog.works) (sym same) ∙ e,
        word (record { 0 = now.0 + timeout_of watchdog.margin ttl.0 })
            (ap (λ (m : Machine). span_after now (record { 0 = timeout_of m.watchdog.margin ttl.0 })) same),
      )) (quiet x s) in
      more _ x.role None (outputs.Note notings.StaysByFailsafe) tt tt fed

  -- a race is judged by who may create
  judged-so : (x : Outcome) → CreateGround heard b → So x → So (judged now x)
  judged-so x may s = judged-by So now x
      (waits _ x.role None _ refl (more x.outputs x.role None _ may tt (quiet x s)))
      (λ bar. touch-so
      (record (waiting_no_more x) {
        outputs =
            with_output (outputs.Note (notings.Agent (agent_notes.DoesNotRace bar))) x.outputs;
      })
      (more x.outputs x.role None (outputs.Note (notings.Agent (agent_notes.DoesNotRace bar))) tt tt (quiet x s)))

  -- a leader hands over
  handover-so : (revision : ℕ) (x : Outcome) → All KeepsLeases x.outputs → So x → HandoverRows So now revision x
  handover-so revision x all s = record {
    kept = quiet x s;
    clears = λ compared. more x.outputs x.role None _ tt tt (quiet x s);
    hands = λ candidate.
        let told : List Output =
        with_output (outputs.Note (notings.Agent (agent_notes.HandsOver candidate))) x.outputs in
        let again : All KeepsLeases told =
        All-push KeepsLeases x.outputs (outputs.Note (notings.Agent (agent_notes.HandsOver candidate))) all tt in
        with-role (with_output (outputs.Server orders.ShutDown) told) x.role (Ending revision HandOver) None
        (All-push KeepsLeases told (outputs.Server orders.ShutDown) again tt)
        (more told x.role None (outputs.Server orders.ShutDown) tt tt
        (more x.outputs x.role None (outputs.Note (notings.Agent (agent_notes.HandsOver candidate))) tt tt
        (quiet x s)));
  }

  pub reply-so : (x : Outcome) → So x → ReplyRows So x
  reply-so x s = record {
    kept = s;
    answers = λ request told. more x.outputs x.role x.knows.waited (outputs.Tell (tellings.Told request told)) tt tt s;
  }

  pub postpone-so : (held : ℕ) (x : Outcome) → lease_of x.role ≡ Some held → So x → So (postpones held x)
  postpone-so held x has s =
      let outs : List Output = disarmed x.machine.watchdog.deadline x.outputs in
      from-lease (with_output (outputs.Note (notings.Agent agent_notes.PostponesPromotion)) outs) x.role
      (Holder held) x.knows.waited held has
      (more outs x.role x.knows.waited (outputs.Note (notings.Agent agent_notes.PostponesPromotion)) tt tt
      (disarm-so x.outputs x.role x.knows.waited x.machine.watchdog.deadline s))

  pub begin-so : (revision : ℕ) (x : Outcome) → Ground (outputs.Server orders.Begin)
      → x.knows.turn_settings ≡ b.knows.turn_settings
      → All KeepsLeases x.outputs → So x → So (begins now revision x)
  begin-so revision x may settings all s =
      let required : Output = outputs.Require (unnamed x.knows.turn_settings) in
      let outs : List Output = with_output required x.outputs in
      with-role (with_output (outputs.Server orders.Begin) outs) x.role (Leader revision) x.knows.waited
      (All-push KeepsLeases outs (outputs.Server orders.Begin) (All-push KeepsLeases x.outputs required all tt) tt)
      (more outs x.role x.knows.waited (outputs.Server orders.Begin) may tt
      (more x.outputs x.role x.knows.waited required (Begins may (ap unnamed settings)) tt s))

  follow-so : (x : Outcome) (leader : MemberId) → x.machine ≡ b.machine → So x → So (follows now leader x)
  follow-so x leader same s =
      let y : Outcome = led_by_another x in
      let may : Bool = may_start_behind x.knows in
      let z : So y = without x.outputs x.role Follower x.knows.waited refl s in
      let row : Outcome = follow_row may now leader x.machine.server.state y in
      let told : So (touching row) = touch-so row (follow-by So may now leader x.machine.server.state y z
      (more x.outputs Follower x.knows.waited (outputs.Server (orders.StartReplica (Some leader))) tt tt z)
      (more x.outputs Follower x.knows.waited (outputs.Server (orders.Follow leader)) tt tt z)
      (more x.outputs Follower x.knows.waited (outputs.Server orders.ShutDown) tt tt z)) in
      repaired-fitting So x.knows.settings leader x.machine.server (touching row) told
      (λ repair fits. more (touching row).outputs (touching row).role (touching row).knows.waited
      (outputs.Server (orders.Repair leader repair))
      (subst (λ (m : Machine). IsFitting repair m.server) same fits) tt told)

  free-so : (x : Outcome) → HearsNoLeader heard → may_create b.role ≡ true → So x → So (finds_free now x)
  free-so x free may s =
      let y : Outcome = record x { role = Follower } in
      let z : So y = without x.outputs x.role Follower x.knows.waited refl s in
      free-by So now y (record {
        starts = touch-so (starting_replica now None y)
            (more x.outputs Follower x.knows.waited (outputs.Server (orders.StartReplica None)) tt tt z);
        touches = touch-so y z;
        bars = λ bar. touch-so (record y {
          outputs = with_output (outputs.Note (notings.Agent (agent_notes.DoesNotRace bar))) y.outputs;
        })
            (more x.outputs Follower x.knows.waited
            (outputs.Note (notings.Agent (agent_notes.DoesNotRace bar))) tt tt z);
        judges = judged-so (unheard y) (Finds free may) z;
        asks = record {
          grounds =
              (asks-so x.knows.who (x.knows.sequence + 1) MOST_MEMBERS x.outputs Follower x.knows.waited z).grounds;
          keeps = inr refl;
          asks = λ e. inr (free, may);
        };
      })

  -- what a leader owes its cluster under a failover key
  pub failover-so : (revision : ℕ) (x : Outcome) → All KeepsLeases x.outputs → So x → FailoverRows So now revision x
  failover-so revision x all s = record {
    kept = s;
    clears = λ compared. more x.outputs x.role x.knows.waited _ tt tt s;
    asks = λ candidate. waits _ x.role x.knows.waited _ refl
        (whom-so x.knows.who candidate (x.knows.sequence + 1) x.outputs x.role x.knows.waited s);
    judges = handover-so revision (unheard x) all s;
  }

  -- ---- who waits for what, as it was before the input's own rows
  pub record Like (x : Outcome) : Type 0 where
    pub role : x.role ≡ b.role
    pub machine : x.machine ≡ b.machine
    pub waited : x.knows.waited ≡ b.knows.waited
    pub settings : x.knows.settings ≡ b.knows.settings
    pub besides : record x.knows { operating = None } ≡ record b.knows { operating = None }

  creates : (x : Outcome) → Like x → awaits_others x.knows.waited ≡ true → may_create x.role ≡ true
      → CreateGround heard b
  creates x like asked may = Judges (ap awaits_others (sym like.waited) ∙ asked) (ap may_create (sym like.role) ∙ may)

  -- a leader can't reach the key store, and may stay primary
  stay-ground : (x : Outcome) (revision : ℕ) → heard ≡ heards.Wake → Like x → Fits b.role (live b.machine.server.state)
      → OutlastsToLead now x → x.role ≡ Leader revision → is_paused x.knows ≡ false → may_stay x.knows ≡ true
      → StayGround now heard b
  stay-ground x revision wakes like fits late leads unpaused may = record {
    wakes = wakes;
    revision = revision;
    out = record {
      role = sym like.role ∙ leads;
      lives = leader-lives b.role revision (live b.machine.server.state) (sym like.role ∙ leads) fits;
      waited = late.waited;
      waits = sym like.waited ∙ late.waits;
      asked = asked-to-lead late.waited.question late.asks;
      over = passed late.waited.until.0 now.0 late.over;
      unpaused = ap (λ (c : Config). c.pause) (sym like.settings) ∙ unpaused;
    };
    may = ap may_stay (sym like.besides) ∙ may;
  }

  pub overdue-so : (x : Outcome) → heard ≡ heards.Wake → Like x → Fits b.role (live b.machine.server.state) → So x
      → So (overdue now x)
  overdue-so x wakes like fits s =
      let others : others_known x.knows ≡ others_known b.knows = ap others_known like.besides in
      let span : lease_span x.knows.settings ≡ lease_span b.knows.settings = ap lease_span like.settings in
      let ends : (held : ℕ) → x.role ≡ Leader held → (reason : Reason)
      → So (record (ending_server now reason (waiting_no_more x)) { role = Ending held Lost }) =
      λ held is reason. from-lease _ x.role (Ending held Lost) None held (rw is refl)
      (end-so reason (waiting_no_more x) (quiet x s)) in
      let rest : OverdueElse So now x = record {
        kept = s;
        quiet = quiet x s;
        silent = λ held is _. ends held is FailsafeNotAcknowledged;
        judges = λ asked may. judged-so x (creates x like asked may) s;
        ready = λ held is. postpone-so held (waiting_no_more x) (rw is refl) (quiet x s);
        checks = λ held is. handover-so held x (kept-by x.outputs x.role x.knows.waited held (rw is refl) s) s;
      } in
      overdue-told So now x rest (λ late. record {
        kept = rest.kept;
        quiet = rest.quiet;
        leader = λ held is _. ends held is StoreOutOfReach;
        seeks = λ held is unpaused may. waits _ x.role None _ refl
            (requests-so (others_known x.knows) (x.knows.sequence + 1)
            (lease_span x.knows.settings) MOST_MEMBERS x.outputs x.role None
            (λ to known. record {
              stays = stay-ground x held wakes like fits late is unpaused may;
              known = ap (λ (set : MemberSet). has set to.number) (sym others) ∙ known;
              span = span;
            }) (quiet x s));
        alone = λ held is unpaused may nobody.
            stays-so (lease_span x.knows.settings) x.knows.sequence now (record x {
              knows = record x.knows { waited = None; failsafe = asked_nobody (others_known x.knows) now };
            }) like.machine
            (λ until is_until. inr (record {
              stays = stay-ground x held wakes like fits late is unpaused may;
              nobody = ap (λ (set : MemberSet). set.bits) (sym others) ∙ is-zero (others_known x.knows).bits nobody;
              members_are = others;
              until_is = is_until
                  ∙ ap (λ (t : Ticks). span_after now (record { 0 = timeout_of b.machine.watchdog.margin t.0 })) span;
            })) (quiet x s);
        silent = rest.silent;
        unleased = λ _ _. end-so StoreOutOfReach (waiting_no_more x) (quiet x s);
        judges = rest.judges;
        ready = rest.ready;
        checks = rest.checks;
      })

  pub turn-so : (x : Outcome) → So x → So (turned now x)
  turn-so x s = turn-by So now x (record {
    kept = s;
    quiet = s;
    reads = λ _. waits _ x.role x.knows.waited _ refl (more x.outputs x.role x.knows.waited _ tt tt s);
  })

  pub answered-so : (sequence : ℕ) (answer : PeerAnswer) (x : Outcome) → Like x → So x
      → So (answered now sequence answer x)
  answered-so sequence answer x like s = answered-when So now sequence answer x (record {
    kept = s;
    quiet = quiet x s;
    keeps = s;
    judges = λ asked may. judged-so (keeping answer x) (creates x like asked may) s;
    checks =
        λ held is. handover-so held (keeping answer x) (kept-by x.outputs x.role x.knows.waited held (rw is refl) s) s;
  })

  pub stay-answered-so : (from : MemberId) (sequence : ℕ) (accepted : Bool) (sent : Ticks)
      → heard ≡ heards.FailsafeAnswered from sequence accepted sent → So b
      → So (failsafe_answered now from sequence accepted sent b)
  stay-answered-so from sequence accepted sent is s =
      let fails : (held : ℕ) → b.role ≡ Leader held → is_paused b.knows ≡ false
      → So (leader_unacknowledged now held (waiting_no_more b)) =
      λ held leads _. from-lease _ b.role (Ending held Lost) None held (rw leads refl)
      (end-so FailsafeNotAcknowledged (waiting_no_more b) (quiet b s)) in
      failsafe-answered-when So now from sequence accepted sent b
      (record { kept = s; quiet = quiet b s; fails = fails })
      (λ said. record {
        kept = s;
        quiet = quiet b s;
        counts = λ _ _. s;
        counts_late = λ _ _ _. quiet b s;
        stays = λ held leads waited waits staying since all in_time.
            stays-so waited.ttl waited.sequence since (counting from sent b) refl
            (λ until is_until. inl (record {
              from = from;
              sent = sent;
              is = is ∙ heard-yes from sequence waited.sequence accepted sent said.accepts
                  (numbers-same waited.sequence sequence
                  (second-true (is_staying waited.question) (waited.sequence == sequence)
                  (subst (λ (w : PendingQuestion). awaits_failsafe w sequence ≡ true)
                  (some-is said.waited waited (sym said.waits ∙ waits)) said.awaits)));
              leads = ap is_leader leads;
              waited = waited;
              waits = waits;
              asks = staying;
              number = refl;
              members_are = heard-members b.knows.failsafe from sent;
              each = λ member asked. elim (all-said b.knows.failsafe from sent since all member
                  (ap (λ (set : MemberSet). has set member) (sym (heard-members b.knows.failsafe from sent)) ∙ asked)) [
                    | inl before-it ↦ inl before-it
                    | inr this ↦ inr (sym this)
                  ];
              until_is = is_until;
              in_time = in_time;
            })) s;
        fails = fails;
      })

  -- who may hold is a follower, whose server isn't live then
  hold-ground : (until : Ticks) → AsksHold now heard until → Fits b.role (live b.machine.server.state)
      → may_hold (shown now b) (awaits_lease b.knows.waited) ≡ true → HoldGround now heard b until
  hold-ground until asked fits may =
      let follows : b.role ≡ Follower =
      follower-is b.role (first-true (is_follower (word_of b.role)) (not (awaits_lease b.knows.waited)) may) in
      record {
        asked = asked;
        follows = follows;
        ended = subst (λ (r : RoleFacts). Fits r (live b.machine.server.state)) follows fits;
        free = not-true (awaits_lease b.knows.waited)
            (second-true (is_follower (word_of b.role)) (not (awaits_lease b.knows.waited)) may);
      }

  pub stay-asked-so : (from : MemberId) (incarnation sequence : ℕ) (ttl : Ticks)
      → AsksHold now heard (span_after now ttl) → Fits b.role (live b.machine.server.state) → So b
      → So (failsafe_asked now from incarnation sequence ttl b)
  stay-asked-so from incarnation sequence ttl asked fits s = failsafe-asked-by So now from incarnation sequence ttl b
      (λ may.
      more _ b.role b.knows.waited (outputs.Message (outgoing.FailsafeAnswer from incarnation sequence true)) tt tt
      (more b.outputs b.role b.knows.waited (outputs.Tell (tellings.HoldTaken (span_after now ttl) from sequence))
      (hold-ground (span_after now ttl) asked fits may) tt s))
      (more b.outputs b.role b.knows.waited
      (outputs.Message (outgoing.FailsafeAnswer from incarnation sequence false)) tt tt s)

  pub refused-so : (sequence : ℕ) (x : Outcome) → So x → So (refused now sequence x)
  refused-so sequence x s = refused-when So now sequence x (record {
    kept = s;
    quiet = quiet x s;
    leader = λ held is _.
        from-lease _ x.role (Ending held Lost) None held (rw is refl) (end-so _ (waiting_no_more x) (quiet x s));
    unleased = λ _ _. end-so _ (waiting_no_more x) (quiet x s);
    follower = λ held _. without x.outputs x.role Follower None refl (quiet x s);
    ready = λ held is. postpone-so held (waiting_no_more x) (rw is refl) (quiet x s);
    runs_on = λ _. without _ x.role Unleased None refl
        (more x.outputs x.role None (outputs.Note (notings.Agent agent_notes.RunsWithoutKey)) tt tt (quiet x s));
  })

  -- ---- the answer to a read
  paused-by : (x : Outcome) (snapshot : SnapshotFacts) → Like x
      → is_paused (read_noted now snapshot x.knows) ≡ true → is_paused (informed snapshot b.knows) ≡ true
  paused-by x snapshot like paused = ap (λ (c : Config). (settings_in c snapshot).pause) (sym like.settings) ∙ paused

  pub got-so : (points : List HistoryPoint) (sequence : ℕ) (snapshot : SnapshotFacts) (x : Outcome)
      → heard ≡ heards.ReadAnswered sequence snapshot → Like x → So x
      → So (read_answered now points sequence snapshot x)
  got-so points sequence snapshot x is like s =
      let read : Outcome = record x { knows = read_noted now snapshot x.knows } in
      let r : So read = quiet x s in
      let free : leader_in snapshot ≡ None → HearsNoLeader heard =
      λ none. record { sequence = sequence; snapshot = snapshot; is = is; free = none } in
      got-when So now points sequence snapshot x (record {
        kept = s;
        quiet = r;
        other = r;
        leader = λ held role _. from-lease _ x.role (Ending held Lost) None held (rw role refl) (end-so _ read r);
        unleased = λ _ _. end-so _ read r;
        renews = λ _ leader leads mine. waits _ x.role None _ refl (more x.outputs x.role None _ (record {
          sequence = sequence;
          snapshot = snapshot;
          is = is;
          leader = leader;
          leads = leads;
          mine = ap (λ (k : Knowledge). leader.holder.number == k.who.me.number) (sym like.besides) ∙ mine;
          compared = refl;
          carries = λ members carried.
              let both = carries-leading (is_leader x.role) (is_fed_by_failsafe x.machine)
              (set_in read.knows.settings.failsafe_mode read.knows.seen) members carried in (
                ap is_leader (sym like.role) ∙ both.0,
                ap is_fed_by_failsafe (sym like.machine) ∙ both.1,
              );
        }) tt r);
        touches = touch-so read r;
        follows = λ leader _ _. follow-so read leader.holder like.machine r;
        free = λ none may. free-so read (free none) (ap may_create (sym like.role) ∙ may) r;
        runs_on = λ _. without _ x.role Unleased None refl
            (more x.outputs x.role None (outputs.Note (notings.Agent agent_notes.RunsWithoutKey)) tt tt r);
        asks_on = λ none primary paused.
            let runs : So (running_without_key read) = without _ x.role Unleased None refl
            (more x.outputs x.role None (outputs.Note (notings.Agent agent_notes.RunsWithoutKey)) tt tt r) in
            waits _ Unleased None _ refl
            (more (with_output (outputs.Note (notings.Agent agent_notes.RunsWithoutKey)) x.outputs) Unleased None _
            (RunsOn (free none) (ap has_primary (sym like.role) ∙ primary) (paused-by x snapshot like paused)) tt runs);
      })

  -- ---- what an operator asks
  pub operated-so : (request : ℕ) (asked : OperatorRequest) → (asked ≡ requests.Reinit → IsReinit heard)
      → ((until : Ticks) → AsksHoldByAction now asked until → AsksHold now heard until)
      → Fits b.role (live b.machine.server.state) → So b → So (operated now request asked b)
  operated-so request (requests.Failover kind failover) reinit holds fits s =
      more b.outputs b.role b.knows.waited _ tt tt s
  operated-so request (requests.Configuration config) reinit holds fits s =
      more b.outputs b.role b.knows.waited _ tt tt s
  operated-so request requests.Restart reinit holds fits s =
      more _ b.role b.knows.waited (outputs.Tell (tellings.Told request _)) tt tt
      (more b.outputs b.role b.knows.waited
      (outputs.Server (orders.Restart (is_primary b.machine.server.state))) tt tt s)
  operated-so request requests.Reinit reinit holds fits s =
      more _ b.role b.knows.waited (outputs.Tell (tellings.Told request _)) tt tt
      (more b.outputs b.role b.knows.waited (outputs.Server orders.Wipe) (reinit refl) tt s)
  operated-so request (requests.Hold from ttl) reinit holds fits s =
      asked-to-hold-by So now request (record { 0 = ttl }) b
      (λ text may. more _ b.role b.knows.waited (outputs.Tell (tellings.Told request _)) tt tt
      (more b.outputs b.role b.knows.waited
      (outputs.Tell (tellings.HoldTaken (span_after now (record { 0 = ttl })) b.knows.who.me unnumbered))
      (hold-ground (span_after now (record { 0 = ttl })) (holds (span_after now (record { 0 = ttl })) refl) fits may)
      tt s))
      (λ text. more b.outputs b.role b.knows.waited (outputs.Tell (tellings.Told request _)) tt tt s)

  -- ---- what precedes the input's own rows
  pub like-self : Like b
  like-self = record { role = refl; machine = refl; waited = refl; settings = refl; besides = refl }

  pub told-like : ReplyRows Like b
  told-like = record {
    kept = like-self;
    answers = λ request told. record { role = refl; machine = refl; waited = refl; settings = refl; besides = refl };
  }

  -- ---- a whole input
  -- what is told of an input but of a wipe
  pub grounds-of : (after : Outcome) → So after
      → (Contains after.outputs (outputs.Server orders.Wipe) → live b.machine.server.state ≡ true →
      after.machine.server ≡ b.machine.server)
      → (StayGround now heard b → ((others_known b.knows).bits ≡ 0 → ⊥) → AsksEachKnown b after)
      → HasGrounds now heard b after
  grounds-of after s wiped stays = record {
    outputs_have = s.grounds;
    asks = s.asks;
    stays = stays;
    wipes = wiped;
    releases = λ sequence revision given has. elim s.keeps [
      | inl all ↦ All-contains KeepsLeases after.outputs _ all given
      | inr none ↦ none-some revision (sym none ∙ has)
    ];
  }

  -- no operator asks for a wipe
  pub unwiped : (after : Outcome) → (IsReinit heard → ⊥)
      → (StayGround now heard b → ((others_known b.knows).bits ≡ 0 → ⊥) → AsksEachKnown b after) → So after
      → HasGrounds now heard b after
  unwiped after none stays s = grounds-of after s
      (λ wipes lives. absurd (none (All-contains Ground after.outputs (outputs.Server orders.Wipe) s.grounds wipes)))
      stays
