-- What an input without a grant does to the watchdog and the hold.
use Rattle.std.proofs.Common.{Bool, ◌≡◌, ℕ, true, false, List, None, refl, sym, ap, ◌∙◌, inl, inr}
use Rattle.pat_base.specs.declared.member_id.MemberId.{MemberId}
use Rattle.pat_base.specs.declared.peer_answer.PeerAnswer.{PeerAnswer}
use Rattle.pat_base.specs.declared.ticks.Ticks.{Ticks}
use Rattle.pat_base.specs.ServerState.{live}
use Rattle.wal_model.specs.declared.entry.HistoryPoint.{HistoryPoint}
use Rattle.cluster_view.specs.Snapshots.{SnapshotFacts}
use Rattle.agent_model.specs.Repairs.{repair_of}
use Rattle.agent_model.specs.declared.why.Why.{Why}
use Rattle.agent_model.specs.declared.why.Why.TheVariants.{HandOver, Lost}
use Rattle.leader_key.specs.Watchdog.{WatchdogFacts}
use Rattle.pat_base.specs.declared.server_state.State.{State}
use Rattle.agent_model.specs.declared.machine.Machine.{Machine}
use Rattle.agent_model.specs.Acting.{touching, waiting_no_more}
use Rattle.agent_model.specs.Claiming.{postpones}
use Rattle.agent_model.specs.Fits.{Fits}
use Rattle.agent_roles.proofs.Fitting.{before-fits, ready-ended}
use Rattle.agent_model.specs.Agents.{RoleFacts, Follower, Ready, Outcome, is_ready}
use Rattle.agent_model.specs.Reconciling.{leader_finds_ended, has_ended, unleased_finds_ended, reconciled}
use Rattle.agent_model.specs.Decisions.{refused}
use Rattle.agent_roles.specs.Powers.{BringsNothing, LeavesMachine, DeadlineMay, Acts}
use Rattle.agent_roles.specs.Powers.DeadlineMay.{Kept, Removed, Undone}
use Rattle.agent_model.specs.Snapshots.{follows, read_noted, read_answered, follow_row, led_by_another}
use Rattle.agent_model.specs.Racing.{finds_free, judged, unheard}
use Rattle.agent_model.specs.Peers.{asked, keeping, answered}
use Rattle.agent_model.specs.Wake.{turned}
use Rattle.agent_model.specs.Operators.{answering, given_up, looked, operated}
use Rattle.agent_model.specs.Table.{refused_any}
use Rattle.store_keys.specs.declared.action.OperatorRequest.{OperatorRequest}
use Rattle.agent_roles.proofs.Bringing.{acting-brings, same-role, got-brings, refused-brings, answer-brings}
use Rattle.agent_roles.proofs.Living.{no-way}
use Rattle.agent_cases.proofs.Rows.{HandoverRows, ReplyRows, looked-by, given-up-by, refused-any-by, before-by, turn-by, got-by, refused-by, follow-by, free-by, repaired-by, judged-by, answered-by}
use Rattle.agent_model.specs.Pausing.{may_start_behind}

-- a watchdog stays, or loses its deadline where an agent in this role, over a server in this state, doesn't act
pub data WatchdogStays (was after : WatchdogFacts) (state : State) (role : RoleFacts) : Type 0 where
  Same : (is : after ≡ was) → WatchdogStays was after state role
  Gone : (is : after ≡ record was { deadline = None }) → (ended : live state ≡ false)
      → (unready : is_ready role ≡ false) → WatchdogStays was after state role

-- so it does in an input, and the hold stays
pub record Stays (o after : Outcome) : Type 0 where
  pub watchdog : WatchdogStays o.machine.watchdog after.machine.watchdog after.machine.server.state after.role
  pub basis : after.machine.by_failsafe ≡ o.machine.by_failsafe
  pub hold : after.machine.hold ≡ o.machine.hold

pub stays : {o : Outcome} → Stays o o
stays = record { watchdog = Same refl; basis = refl; hold = refl }

-- nobody acts whose server isn't live and who isn't about to begin
pub rests-by : (o : Outcome) → live o.machine.server.state ≡ false → is_ready o.role ≡ false → Acts o → ⊥
rests-by o ended unready (inl lives) = no-way (sym ended ∙ lives)
rests-by o ended unready (inr ready) = no-way (sym unready ∙ ready)

pub acts-before : (o after : Outcome) → BringsNothing o after → Acts after → Acts o
acts-before o after brings (inl lives) = inl (brings.live lives)
acts-before o after brings (inr ready) = inr (brings.ready ready)

-- what comes behind leaves them as they are
pub same-behind : (o middle after : Outcome) → DeadlineMay o middle
    → after.machine.watchdog ≡ middle.machine.watchdog → BringsNothing middle after → DeadlineMay o after
same-behind o middle after (Kept same) stay brings = Kept (stay ∙ same)
same-behind o middle after (Removed is rests) stay brings =
    Removed (stay ∙ is) (λ acts. rests (acts-before middle after brings acts))
same-behind o middle after (Undone is ready lives) stay brings = Undone (stay ∙ is) ready lives

-- a watchdog without its deadline
abbrev cleared : WatchdogFacts → WatchdogFacts
cleared watchdog = record watchdog { deadline = None }

without-deadline : (o middle : Outcome) → DeadlineMay o middle
    → ◌≡◌ {A = WatchdogFacts} (record middle.machine.watchdog { deadline = None })
    (record o.machine.watchdog { deadline = None })
without-deadline o middle (Kept same) = ap cleared same
without-deadline o middle (Removed is rests) = ap cleared is
without-deadline o middle (Undone is ready lives) = ap cleared is

pub behind-by : (o middle after : Outcome) → DeadlineMay o middle
    → WatchdogStays middle.machine.watchdog after.machine.watchdog after.machine.server.state after.role
    → BringsNothing middle after → DeadlineMay o after
behind-by o middle after may (Same is) brings = same-behind o middle after may is brings
behind-by o middle after may (Gone is ended unready) brings =
    Removed (is ∙ without-deadline o middle may) (rests-by after ended unready)

pub behind : (o middle after : Outcome) → LeavesMachine o middle → Stays middle after
    → BringsNothing middle after → LeavesMachine o after
behind o middle after leaves stay brings = record {
  deadline = behind-by o middle after leaves.deadline stay.watchdog brings;
  basis = stay.basis ∙ leaves.basis;
  hold = stay.hold ∙ leaves.hold;
}

-- what comes behind may do as much as an input without a grant, where the role fits the server before it
pub leaves-then : (o middle after : Outcome) → LeavesMachine o middle
    → Fits middle.role (live middle.machine.server.state) → LeavesMachine middle after
    → BringsNothing middle after → LeavesMachine o after
leaves-then o middle after leaves fits more brings = record {
  deadline = elim more.deadline [
    | Kept same ↦ same-behind o middle after leaves.deadline same brings
    | Removed is rests ↦ Removed (is ∙ without-deadline o middle leaves.deadline) rests
    | Undone is ready lives ↦
        absurd (no-way (sym (ready-ended middle.role (live middle.machine.server.state) ready fits) ∙ lives))
  ];
  basis = more.basis ∙ leaves.basis;
  hold = more.hold ∙ leaves.hold;
}

ended-leaves : (why : Why) (held : ℕ) (o : Outcome) → live o.machine.server.state ≡ false
    → LeavesMachine o (has_ended why held o)
ended-leaves HandOver held o ended =
    record { deadline = Removed refl (rests-by (has_ended HandOver held o) ended refl); basis = refl; hold = refl }
ended-leaves Lost held o ended =
    record { deadline = Removed refl (rests-by (has_ended Lost held o) ended refl); basis = refl; hold = refl }

pub ready-is : (role : RoleFacts) (held : ℕ) → role ≡ Ready held → is_ready role ≡ true
ready-is role held is = rw is refl

pub before-leaves : (now : Ticks) (o : Outcome) → LeavesMachine o (reconciled now o)
before-leaves now o = before-by (LeavesMachine o) now o (record {
  kept = λ _. record { deadline = Kept refl; basis = refl; hold = refl };
  leader = λ held _ ended. record {
    deadline = Removed refl (rests-by (leader_finds_ended now held o) ended refl);
    basis = refl;
    hold = refl;
  };
  ending = λ held why _ ended. ended-leaves why held o ended;
  follower = λ _ _. record { deadline = Kept refl; basis = refl; hold = refl };
  holder = λ held _ _. record { deadline = Kept refl; basis = refl; hold = refl };
  ready = λ held is lives. record { deadline = Undone refl (ready-is o.role held is) lives; basis = refl; hold = refl };
  unleased = λ _ ended.
      record { deadline = Removed refl (rests-by (unleased_finds_ended o) ended refl); basis = refl; hold = refl };
})

pub judged-stays : (now : Ticks) (o : Outcome) → Stays o (judged now o)
judged-stays now o = judged-by (Stays o) now o (record { watchdog = Same refl; basis = refl; hold = refl })
    (λ bar. record { watchdog = Same refl; basis = refl; hold = refl })

-- a promotion that is postponed leaves nobody who acts
pub postpones-stays : (o : Outcome) (held : ℕ) (b : Outcome) → o.role ≡ Ready held
    → Fits o.role (live o.machine.server.state) → b.machine ≡ o.machine → Stays o (postpones held b)
postpones-stays o held b is fits same = record {
  watchdog = Gone (ap (λ (m : Machine). cleared m.watchdog) same)
      (ap (λ (m : Machine). live m.server.state) same
      ∙ ready-ended o.role (live o.machine.server.state) (ready-is o.role held is) fits)
      refl;
  basis = ap (λ (m : Machine). m.by_failsafe) same;
  hold = ap (λ (m : Machine). m.hold) same;
}

-- a handover, and what an operator is answered, leave watchdog and hold
pub handover-stays : (now : Ticks) (held : ℕ) (o b : Outcome) → b.machine ≡ o.machine
    → HandoverRows (Stays o) now held b
handover-stays now held o b same = record {
  kept = record {
    watchdog = Same (ap (λ (m : Machine). m.watchdog) same);
    basis = ap (λ (m : Machine). m.by_failsafe) same;
    hold = ap (λ (m : Machine). m.hold) same;
  };
  clears = λ compared. record {
    watchdog = Same (ap (λ (m : Machine). m.watchdog) same);
    basis = ap (λ (m : Machine). m.by_failsafe) same;
    hold = ap (λ (m : Machine). m.hold) same;
  };
  hands = λ candidate. record {
    watchdog = Same (ap (λ (m : Machine). m.watchdog) same);
    basis = ap (λ (m : Machine). m.by_failsafe) same;
    hold = ap (λ (m : Machine). m.hold) same;
  };
}

told-stays : (o : Outcome) → ReplyRows (Stays o) o
told-stays o =
    record { kept = stays; answers = λ request told. record { watchdog = Same refl; basis = refl; hold = refl } }

pub turn-stays : (now : Ticks) (o : Outcome) → Stays o (turned now o)
turn-stays now o = turn-by (Stays o) now o (record {
  kept = stays;
  quiet = record { watchdog = Same refl; basis = refl; hold = refl };
  reads = λ _. record { watchdog = Same refl; basis = refl; hold = refl };
})

-- who is answered behind what precedes an input
told-leaves : (now : Ticks) (o : Outcome) → ReplyRows (LeavesMachine o) (reconciled now o)
told-leaves now o = let b : Outcome = reconciled now o in record {
  kept = before-leaves now o;
  answers = λ request told. behind o b (answering request told b) (before-leaves now o)
      (record { watchdog = Same refl; basis = refl; hold = refl })
      (same-role b (answering request told b) refl (λ e. e));
}

pub given-up-leaves : (now : Ticks) (o : Outcome) → LeavesMachine o (given_up now (reconciled now o))
given-up-leaves now o = given-up-by (LeavesMachine o) now (reconciled now o) (told-leaves now o)

-- the role fits the server then, as before
pub told-fits : (now : Ticks) (o : Outcome)
    → ReplyRows (λ (x : Outcome). Fits x.role (live x.machine.server.state)) (reconciled now o)
told-fits now o = record { kept = before-fits now o; answers = λ request told. before-fits now o }

pub given-up-fits : (now : Ticks) (o : Outcome)
    → Fits (given_up now (reconciled now o)).role (live (given_up now (reconciled now o)).machine.server.state)
given-up-fits now o =
    given-up-by (λ (x : Outcome). Fits x.role (live x.machine.server.state)) now (reconciled now o) (told-fits now o)

follow-stays : (now : Ticks) (leader : MemberId) (o : Outcome) → Stays o (follows now leader o)
follow-stays now leader o = let x : Outcome = led_by_another o in
    let may : Bool = may_start_behind o.knows in
    let row = follow-by (Stays o) may now leader o.machine.server.state x
    (record { watchdog = Same refl; basis = refl; hold = refl })
    (record { watchdog = Same refl; basis = refl; hold = refl })
    (record { watchdog = Same refl; basis = refl; hold = refl })
    (record { watchdog = Same refl; basis = refl; hold = refl }) in
    let told : Stays o (touching (follow_row may now leader o.machine.server.state x)) =
    record { watchdog = row.watchdog; basis = row.basis; hold = row.hold } in
    repaired-by (Stays o) leader (repair_of o.knows.settings leader o.machine.server)
    (touching (follow_row may now leader o.machine.server.state x)) told
    (λ r. record { watchdog = told.watchdog; basis = told.basis; hold = told.hold })

free-stays : (now : Ticks) (o : Outcome) → Stays o (finds_free now o)
free-stays now o = let x : Outcome = record o { role = Follower } in
    let race : Stays (unheard x) (judged now (unheard x)) = judged-stays now (unheard x) in
    free-by (Stays o) now x (record {
      starts = record { watchdog = Same refl; basis = refl; hold = refl };
      touches = record { watchdog = Same refl; basis = refl; hold = refl };
      bars = λ bar. record { watchdog = Same refl; basis = refl; hold = refl };
      judges = record { watchdog = race.watchdog; basis = race.basis; hold = race.hold };
      asks = record { watchdog = Same refl; basis = refl; hold = refl };
    })

stays-read : (now : Ticks) (snapshot : SnapshotFacts) (o after : Outcome)
    → Stays (record o { knows = read_noted now snapshot o.knows }) after → Stays o after
stays-read now snapshot o after stay = record { watchdog = stay.watchdog; basis = stay.basis; hold = stay.hold }

got-stays : (now : Ticks) (points : List HistoryPoint) (sequence : ℕ) (snapshot : SnapshotFacts) (o : Outcome)
    → Stays o (read_answered now points sequence snapshot o)
got-stays now points sequence snapshot o = let read : Outcome = record o { knows = read_noted now snapshot o.knows } in
    got-by (Stays o) now points sequence snapshot o (record {
      kept = stays;
      quiet = record { watchdog = Same refl; basis = refl; hold = refl };
      other = record { watchdog = Same refl; basis = refl; hold = refl };
      leader = λ held _. record { watchdog = Same refl; basis = refl; hold = refl };
      unleased = λ _. record { watchdog = Same refl; basis = refl; hold = refl };
      renews = λ _ leader _ _. record { watchdog = Same refl; basis = refl; hold = refl };
      touches = record { watchdog = Same refl; basis = refl; hold = refl };
      follows = λ leader _ _.
          stays-read now snapshot o (follows now leader.holder read) (follow-stays now leader.holder read);
      free = λ _ _. stays-read now snapshot o (finds_free now read) (free-stays now read);
      runs_on = λ _. record { watchdog = Same refl; basis = refl; hold = refl };
      asks_on = λ _. record { watchdog = Same refl; basis = refl; hold = refl };
    })

refused-stays : (now : Ticks) (sequence : ℕ) (o : Outcome) → Fits o.role (live o.machine.server.state)
    → Stays o (refused now sequence o)
refused-stays now sequence o fits = refused-by (Stays o) now sequence o (record {
  ready = λ held is. postpones-stays o held (waiting_no_more o) is fits refl;
  kept = stays;
  quiet = record { watchdog = Same refl; basis = refl; hold = refl };
  leader = λ held _. record { watchdog = Same refl; basis = refl; hold = refl };
  unleased = λ _. record { watchdog = Same refl; basis = refl; hold = refl };
  follower = λ held _. record { watchdog = Same refl; basis = refl; hold = refl };
  runs_on = λ _. record { watchdog = Same refl; basis = refl; hold = refl };
})

pub read-leaves : (now : Ticks) (points : List HistoryPoint) (sequence : ℕ) (snapshot : SnapshotFacts) (o : Outcome)
    → LeavesMachine o (read_answered now points sequence snapshot (looked sequence snapshot (reconciled now o)))
read-leaves now points sequence snapshot o = let p : Outcome = looked sequence snapshot (reconciled now o) in
    behind o p (read_answered now points sequence snapshot p)
    (looked-by (LeavesMachine o) sequence snapshot (reconciled now o) (told-leaves now o))
    (got-stays now points sequence snapshot p) (got-brings now points sequence snapshot p)

pub refusal-leaves : (now : Ticks) (sequence : ℕ) (o : Outcome)
    → LeavesMachine o (refused_any now sequence (reconciled now o))
refusal-leaves now sequence o = let b : Outcome = reconciled now o in
    refused-any-by (LeavesMachine o) now sequence b (told-leaves now o)
    (behind o b (refused now sequence b) (before-leaves now o)
    (refused-stays now sequence b (before-fits now o)) (refused-brings now sequence b))

answer-stays : (now : Ticks) (sequence : ℕ) (answer : PeerAnswer) (o : Outcome)
    → Stays o (answered now sequence answer o)
answer-stays now sequence answer o =
    let race : Stays (keeping answer o) (judged now (keeping answer o)) = judged-stays now (keeping answer o) in
    answered-by (Stays o) now sequence answer o (record {
      kept = stays;
      quiet = record { watchdog = Same refl; basis = refl; hold = refl };
      keeps = record { watchdog = Same refl; basis = refl; hold = refl };
      judges = λ _. record { watchdog = race.watchdog; basis = race.basis; hold = race.hold };
      checks = λ held _. handover-stays now held o (keeping answer o) refl;
    })

pub answered-leaves : (now : Ticks) (sequence : ℕ) (answer : PeerAnswer) (o : Outcome)
    → LeavesMachine o (answered now sequence answer (reconciled now o))
answered-leaves now sequence answer o =
    behind o (reconciled now o) (answered now sequence answer (reconciled now o)) (before-leaves now o)
    (answer-stays now sequence answer (reconciled now o)) (answer-brings now sequence answer (reconciled now o))

pub asked-leaves : (now : Ticks) (from : MemberId) (incarnation sequence : ℕ) (o : Outcome)
    → LeavesMachine o (asked from incarnation sequence (reconciled now o))
asked-leaves now from incarnation sequence o =
    behind o (reconciled now o) (asked from incarnation sequence (reconciled now o)) (before-leaves now o)
    (record { watchdog = Same refl; basis = refl; hold = refl })
    (same-role (reconciled now o) (asked from incarnation sequence (reconciled now o)) refl (λ e. e))

-- what an operator asks, where its row leaves watchdog and hold
pub acting-leaves : (now : Ticks) (request : ℕ) (asked : OperatorRequest) (o : Outcome)
    → Stays (reconciled now o) (operated now request asked (reconciled now o))
    → LeavesMachine o (operated now request asked (reconciled now o))
acting-leaves now request asked o stay = let b : Outcome = reconciled now o in
    behind o b (operated now request asked b) (before-leaves now o) stay
    (acting-brings now (record { request = request; asked = asked }) b)
