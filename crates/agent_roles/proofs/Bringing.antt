-- An input without a grant brings an agent nothing of the leader key, and its server no power to write.
use Rattle.std.proofs.Common.{Bool, ◌≡◌, ℕ, true, false, Option, Some, None, List, refl, sym, subst, ◌∙◌}
use Rattle.pat_base.specs.declared.member_id.MemberId.{MemberId}
use Rattle.pat_base.specs.declared.peer_answer.PeerAnswer.{PeerAnswer}
use Rattle.pat_base.specs.declared.ticks.Ticks.{Ticks}
use Rattle.pat_base.specs.ServerState.{live}
use Rattle.wal_model.specs.declared.entry.HistoryPoint.{HistoryPoint}
use Rattle.cluster_view.specs.Snapshots.{SnapshotFacts}
use Rattle.event_book.specs.Members.{server_id_of}
use Rattle.agent_model.specs.declared.why.Why.{Why}
use Rattle.agent_model.specs.declared.why.Why.TheVariants.{HandOver, Lost}
use Rattle.agent_model.specs.Acting.{disarming, touching, shutting_down, starting_replica, following_server, upstream_of, waiting_no_more}
use Rattle.agent_model.specs.Agents.{RoleFacts, Follower, Holder, Ready, Leader, Ending, Unleased, Outcome, is_ready}
use Rattle.agent_model.specs.Reconciling.{leader_finds_ended, has_ended, finds_live, unleased_finds_ended, reconciled}
use Rattle.agent_model.specs.Claiming.{postpones}
use Rattle.agent_model.specs.Decisions.{refused}
use Rattle.pg_model.specs.declared.status.ServerStatus.{ServerStatus}
use Rattle.agent_roles.specs.Powers.{BringsNothing, lease_of, leads}
use Rattle.agent_model.specs.Repairs.{repair_of}
use Rattle.agent_model.specs.Snapshots.{leader_loses_key, unleased_loses_key, renewing, follow_row, follows, read_noted, read_answered, asks_as_unleased, led_by_another}
use Rattle.agent_model.specs.Racing.{creating, barred, finds_free, judged, asking_others, unheard}
use Rattle.agent_model.specs.Wake.{leader_out_of_reach, unleased_out_of_reach, reading, turn_noted, overdue, turned, woken}
use Rattle.agent_model.specs.HandingOver.{hands_over}
use Rattle.agent_model.specs.Operators.{answering, given_up, looked, operated, operating, restarting, telling, wiping, unnumbered}
use Rattle.agent_model.specs.Table.{refused_any}
use Rattle.store_keys.specs.declared.action.OperatorAction.{OperatorAction}
use Rattle.event_book.specs.declared.message.Body.TheVariants as bodies
use Rattle.agent_roles.proofs.Living.{no-way, stop-live, start-live, follow-live, restart-live, wipe-live}
use Rattle.agent_cases.proofs.Rows.{HandoverRows, ReplyRows, ActRows, dropping, looked-by, given-up-by, refused-any-by, operated-by, before-by, overdue-by, turn-by, wake-by, got-by, refused-by, follow-by, repaired-by, free-by, judged-by, answered-by}
use Rattle.agent_cases.proofs.FailsafeRows.{failsafe-asked-by, failsafe-answered-by}
use Rattle.agent_model.specs.StayingPrimary.{answering_failsafe, asking_to_stay, counting, failsafe_answered, failsafe_asked, holding_for, leader_unacknowledged, others_known, stays, stays_alone}
use Rattle.agent_model.specs.Peers.{asked, keeping, answered}
use Rattle.agent_model.specs.Pausing.{may_start_behind, running_without_key}

none-some : {revision : ℕ} → ◌≡◌ {A = Option ℕ} None (Some revision) → ⊥
none-some e = cc

abbrev Lives : Outcome → Outcome → Type 0
Lives o after = live after.machine.server.state ≡ true → live o.machine.server.state ≡ true

pub ready-leads : (role : RoleFacts) → is_ready role ≡ true → leads role ≡ true
ready-leads (Ready held) e = e
ready-leads (Leader held) e = refl
ready-leads Follower e = e
ready-leads (Holder held) e = e
ready-leads (Ending held why) e = e
ready-leads Unleased e = e

-- the role stays
pub same-role : (o after : Outcome) → after.role ≡ o.role → Lives o after → BringsNothing o after
same-role o after is lives = record {
  live = lives;
  leads = λ e. subst (λ (r : RoleFacts). leads r ≡ true) is e;
  ready = λ e. subst (λ (r : RoleFacts). is_ready r ≡ true) is e;
  lease = λ revision e. subst (λ (r : RoleFacts). lease_of r ≡ Some revision) is e;
}

-- the agent rests without a lease
pub no-lease : (o after : Outcome) → lease_of after.role ≡ None → leads after.role ≡ false → Lives o after
    → BringsNothing o after
no-lease o after none rests lives = record {
  live = lives;
  leads = λ e. absurd (no-way (sym rests ∙ e));
  ready = λ e. absurd (no-way (sym rests ∙ ready-leads after.role e));
  lease = λ revision e. absurd (none-some (sym none ∙ e));
}

-- who has a lease rests with it
pub keeps-lease : (o after : Outcome) (held : ℕ) → lease_of o.role ≡ Some held
    → lease_of after.role ≡ Some held → leads after.role ≡ false → Lives o after → BringsNothing o after
keeps-lease o after held is same rests lives = record {
  live = lives;
  leads = λ e. absurd (no-way (sym rests ∙ e));
  ready = λ e. absurd (no-way (sym rests ∙ ready-leads after.role e));
  lease = λ revision e. is ∙ (sym same ∙ e);
}

leader-lease : (o : Outcome) (held : ℕ) → o.role ≡ Leader held → lease_of o.role ≡ Some held
leader-lease o held is = rw is refl

ready-lease : (o : Outcome) (held : ℕ) → o.role ≡ Ready held → lease_of o.role ≡ Some held
ready-lease o held is = rw is refl

-- who postpones its promotion keeps the lease
pub postpones-brings : (o : Outcome) (held : ℕ) (b : Outcome) → o.role ≡ Ready held
    → b.machine.server ≡ o.machine.server → BringsNothing o (postpones held b)
postpones-brings o held b is server = keeps-lease o (postpones held b) held (ready-lease o held is) refl refl
    (λ e. subst (λ (s : ServerStatus). live s.state ≡ true) server e)

pub brings-then : (a b c : Outcome) → BringsNothing a b → BringsNothing b c → BringsNothing a c
brings-then a b c first second = record {
  live = λ e. first.live (second.live e);
  leads = λ e. first.leads (second.leads e);
  ready = λ e. first.ready (second.ready e);
  lease = λ revision e. first.lease revision (second.lease revision e);
}

ended-brings : (why : Why) (held : ℕ) (o : Outcome) → BringsNothing o (has_ended why held o)
ended-brings HandOver held o = no-lease o (has_ended HandOver held o) refl refl (λ e. e)
ended-brings Lost held o = no-lease o (has_ended Lost held o) refl refl (λ e. e)

pub before-brings : (now : Ticks) (o : Outcome) → BringsNothing o (reconciled now o)
before-brings now o = before-by (BringsNothing o) now o (record {
  kept = λ _. same-role o o refl (λ e. e);
  leader = λ held is _. keeps-lease o (leader_finds_ended now held o) held (leader-lease o held is) refl refl (λ e. e);
  ending = λ held why _ _. ended-brings why held o;
  follower = λ _ _. no-lease o (finds_live o) refl refl (λ e. e);
  holder = λ held _ _. no-lease o (finds_live o) refl refl (λ e. e);
  ready = λ held _ _. no-lease o (finds_live (disarming o)) refl refl (λ e. e);
  unleased = λ _ _. no-lease o (unleased_finds_ended o) refl refl (λ e. e);
})

judged-brings : (now : Ticks) (o : Outcome) → BringsNothing o (judged now o)
judged-brings now o = judged-by (BringsNothing o) now o (same-role o (creating now (waiting_no_more o)) refl (λ e. e))
    (λ bar. same-role o (barred bar (waiting_no_more o)) refl (λ e. e))

-- a handover is judged: who hands over keeps the lease until its server has ended
handover-brings : (now : Ticks) (held : ℕ) (o b : Outcome) → o.role ≡ Leader held → BringsNothing o b
    → b.role ≡ o.role → HandoverRows (BringsNothing o) now held b
handover-brings now held o b is brings role = record {
  kept = brings-then o b (waiting_no_more b) brings (same-role b (waiting_no_more b) refl (λ e. e));
  clears = λ compared. brings-then o b (dropping compared (waiting_no_more b)) brings
      (same-role b (dropping compared (waiting_no_more b)) refl (λ e. e));
  hands = λ candidate. brings-then o b (hands_over now held candidate (waiting_no_more b)) brings
      (keeps-lease b (hands_over now held candidate (waiting_no_more b)) held
      (leader-lease b held (role ∙ is)) refl refl (stop-live now b.machine.server));
}

-- who answers an operator
pub told-brings : (o b : Outcome) → BringsNothing o b → ReplyRows (BringsNothing o) b
told-brings o b brings = record {
  kept = brings;
  answers = λ request told.
      brings-then o b (answering request told b) brings (same-role b (answering request told b) refl (λ e. e));
}

-- who does what one asks: a server that starts again was live before, if it is
acts-bring : (now : Ticks) (request : ℕ) (o : Outcome) → ActRows (BringsNothing o) now request o
acts-bring now request o = record {
  asks = λ operation txn _. same-role o (operating now request operation (bodies.Request txn) o) refl (λ e. e);
  restarts = λ told. same-role o (telling request told (restarting now o)) refl (restart-live now o.machine.server);
  wipes = λ told. same-role o (telling request told (wiping o)) refl (wipe-live o.machine.server);
  holds =
      λ ttl told _. same-role o (telling request told (holding_for now o.knows.who.me unnumbered ttl o)) refl (λ e. e);
  refuses = λ told. same-role o (telling request told o) refl (λ e. e);
}

-- a leader that isn't acknowledged ends its server
unacknowledged-brings : (now : Ticks) (held : ℕ) (o : Outcome) → o.role ≡ Leader held
    → BringsNothing o (leader_unacknowledged now held (waiting_no_more o))
unacknowledged-brings now held o is = keeps-lease o (leader_unacknowledged now held (waiting_no_more o)) held
    (leader-lease o held is) refl refl (stop-live now o.machine.server)

pub overdue-brings : (now : Ticks) (o : Outcome) → BringsNothing o (overdue now o)
overdue-brings now o = overdue-by (BringsNothing o) now o (record {
  kept = same-role o o refl (λ e. e);
  quiet = same-role o (waiting_no_more o) refl (λ e. e);
  leader = λ held is. keeps-lease o (leader_out_of_reach now held (waiting_no_more o)) held
      (leader-lease o held is) refl refl (stop-live now o.machine.server);
  seeks = λ held _. same-role o (asking_to_stay now (others_known o.knows) (waiting_no_more o)) refl (λ e. e);
  alone = λ held _. same-role o (stays_alone now (others_known o.knows) (waiting_no_more o)) refl (λ e. e);
  silent = λ held is. unacknowledged-brings now held o is;
  unleased = λ _. same-role o (unleased_out_of_reach now (waiting_no_more o)) refl (stop-live now o.machine.server);
  judges = λ _. judged-brings now o;
  ready = λ held is. postpones-brings o held (waiting_no_more o) is refl;
  checks = λ held is. handover-brings now held o o is (same-role o o refl (λ e. e)) refl;
})

pub turn-brings : (now : Ticks) (o : Outcome) → BringsNothing o (turned now o)
turn-brings now o = turn-by (BringsNothing o) now o (record {
  kept = same-role o o refl (λ e. e);
  quiet = same-role o (record o { knows = turn_noted now o.knows }) refl (λ e. e);
  reads = λ _. same-role o (reading now (record o { knows = turn_noted now o.knows })) refl (λ e. e);
})

-- an operator whose time is over is answered
pub given-up-brings : (now : Ticks) (o : Outcome) → BringsNothing o (given_up now (reconciled now o))
given-up-brings now o =
    given-up-by (BringsNothing o) now (reconciled now o) (told-brings o (reconciled now o) (before-brings now o))

pub wake-brings : (now : Ticks) (o : Outcome) → BringsNothing o (woken now o)
wake-brings now o = let b : Outcome = given_up now (reconciled now o) in
    wake-by (BringsNothing o) now o (before-brings now o)
    (brings-then o (overdue now b) (turned now (overdue now b))
    (brings-then o b (overdue now b) (given-up-brings now o) (overdue-brings now b)) (turn-brings now (overdue now b)))

-- a follower tells of itself, after what its server does
follow-brings : (now : Ticks) (leader : MemberId) (o : Outcome) → BringsNothing o (follows now leader o)
follow-brings now leader o = let x : Outcome = led_by_another o in
    let may : Bool = may_start_behind o.knows in
    let row = follow-by (λ (y : Outcome). BringsNothing o y) may now leader o.machine.server.state x
    (no-lease o x refl refl (λ e. e))
    (no-lease o (starting_replica now (Some leader) x) refl refl
    (start-live now (upstream_of (Some leader)) o.machine.server))
    (no-lease o (following_server leader x) refl refl (follow-live (server_id_of leader) o.machine.server))
    (no-lease o (shutting_down now x) refl refl (stop-live now o.machine.server)) in
    let told : BringsNothing o (touching (follow_row may now leader o.machine.server.state x)) =
    record { live = row.live; leads = row.leads; ready = row.ready; lease = row.lease } in
    repaired-by (BringsNothing o) leader (repair_of o.knows.settings leader o.machine.server)
    (touching (follow_row may now leader o.machine.server.state x)) told
    (λ r. record { live = told.live; leads = told.leads; ready = told.ready; lease = told.lease })

free-brings : (now : Ticks) (o : Outcome) → BringsNothing o (finds_free now o)
free-brings now o = let x : Outcome = record o { role = Follower } in free-by (BringsNothing o) now x (record {
  starts = no-lease o (touching (starting_replica now None x)) refl refl (start-live now None o.machine.server);
  touches = no-lease o (touching x) refl refl (λ e. e);
  bars = λ bar. no-lease o (barred bar x) refl refl (λ e. e);
  judges = brings-then o (unheard x) (judged now (unheard x)) (no-lease o (unheard x) refl refl (λ e. e))
      (judged-brings now (unheard x));
  asks = no-lease o (asking_others now (unheard x)) refl refl (λ e. e);
})

read-then : (now : Ticks) (snapshot : SnapshotFacts) (o after : Outcome)
    → BringsNothing (record o { knows = read_noted now snapshot o.knows }) after → BringsNothing o after
read-then now snapshot o after brings =
    record { live = brings.live; leads = brings.leads; ready = brings.ready; lease = brings.lease }

pub got-brings : (now : Ticks) (points : List HistoryPoint) (sequence : ℕ) (snapshot : SnapshotFacts) (o : Outcome)
    → BringsNothing o (read_answered now points sequence snapshot o)
got-brings now points sequence snapshot o = let read : Outcome = record o { knows = read_noted now snapshot o.knows } in
    got-by (BringsNothing o) now points sequence snapshot o (record {
      kept = same-role o o refl (λ e. e);
      quiet = same-role o (waiting_no_more o) refl (λ e. e);
      other = same-role o read refl (λ e. e);
      leader = λ held is. keeps-lease o (leader_loses_key now held read) held
          (leader-lease o held is) refl refl (stop-live now o.machine.server);
      unleased = λ _. same-role o (unleased_loses_key now read) refl (stop-live now o.machine.server);
      renews = λ _ leader _ _. same-role o (renewing now points leader.revision read) refl (λ e. e);
      touches = same-role o (touching read) refl (λ e. e);
      follows = λ leader _ _.
          read-then now snapshot o (follows now leader.holder read) (follow-brings now leader.holder read);
      free = λ _ _. read-then now snapshot o (finds_free now read) (free-brings now read);
      runs_on = λ _. no-lease o (running_without_key read) refl refl (λ e. e);
      asks_on = λ _. no-lease o (asks_as_unleased now read) refl refl (λ e. e);
    })

pub refused-brings : (now : Ticks) (sequence : ℕ) (o : Outcome) → BringsNothing o (refused now sequence o)
refused-brings now sequence o = refused-by (BringsNothing o) now sequence o (record {
  kept = same-role o o refl (λ e. e);
  quiet = same-role o (waiting_no_more o) refl (λ e. e);
  leader = λ held is. keeps-lease o (leader_loses_key now held (waiting_no_more o)) held
      (leader-lease o held is) refl refl (stop-live now o.machine.server);
  unleased = λ _. same-role o (unleased_loses_key now (waiting_no_more o)) refl (stop-live now o.machine.server);
  follower = λ held _. no-lease o (record (waiting_no_more o) { role = Follower }) refl refl (λ e. e);
  ready = λ held is. postpones-brings o held (waiting_no_more o) is refl;
  runs_on = λ _. no-lease o (running_without_key (waiting_no_more o)) refl refl (λ e. e);
})

-- what the key store held when it answered a read
pub read-brings : (now : Ticks) (points : List HistoryPoint) (sequence : ℕ) (snapshot : SnapshotFacts) (o : Outcome)
    → BringsNothing o (read_answered now points sequence snapshot (looked sequence snapshot (reconciled now o)))
read-brings now points sequence snapshot o = let p : Outcome = looked sequence snapshot (reconciled now o) in
    brings-then o p (read_answered now points sequence snapshot p)
    (looked-by (BringsNothing o) sequence snapshot (reconciled now o)
    (told-brings o (reconciled now o) (before-brings now o)))
    (got-brings now points sequence snapshot p)

-- a refusal
pub any-refused-brings : (now : Ticks) (sequence : ℕ) (o : Outcome) → BringsNothing o (refused_any now sequence o)
any-refused-brings now sequence o = refused-any-by (BringsNothing o) now sequence o
    (told-brings o o (same-role o o refl (λ e. e))) (refused-brings now sequence o)

pub refusal-brings : (now : Ticks) (sequence : ℕ) (o : Outcome)
    → BringsNothing o (refused_any now sequence (reconciled now o))
refusal-brings now sequence o = brings-then o (reconciled now o) (refused_any now sequence (reconciled now o))
    (before-brings now o) (any-refused-brings now sequence (reconciled now o))

pub answer-brings : (now : Ticks) (sequence : ℕ) (answer : PeerAnswer) (o : Outcome)
    → BringsNothing o (answered now sequence answer o)
answer-brings now sequence answer o = answered-by (BringsNothing o) now sequence answer o (record {
  kept = same-role o o refl (λ e. e);
  quiet = same-role o (waiting_no_more o) refl (λ e. e);
  keeps = same-role o (keeping answer o) refl (λ e. e);
  judges = λ _. brings-then o (keeping answer o) (judged now (keeping answer o))
      (same-role o (keeping answer o) refl (λ e. e)) (judged-brings now (keeping answer o));
  checks =
      λ held is. handover-brings now held o (keeping answer o) is (same-role o (keeping answer o) refl (λ e. e)) refl;
})

-- the answer of another member
pub answered-brings : (now : Ticks) (sequence : ℕ) (answer : PeerAnswer) (o : Outcome)
    → BringsNothing o (answered now sequence answer (reconciled now o))
answered-brings now sequence answer o =
    brings-then o (reconciled now o) (answered now sequence answer (reconciled now o)) (before-brings now o)
    (answer-brings now sequence answer (reconciled now o))

-- the question of another member
pub asked-brings : (now : Ticks) (from : MemberId) (incarnation sequence : ℕ) (o : Outcome)
    → BringsNothing o (asked from incarnation sequence (reconciled now o))
asked-brings now from incarnation sequence o =
    brings-then o (reconciled now o) (asked from incarnation sequence (reconciled now o)) (before-brings now o)
    (same-role (reconciled now o) (asked from incarnation sequence (reconciled now o)) refl (λ e. e))

-- another member asks to stay primary, or answers such a request
pub holding-brings : (now : Ticks) (from : MemberId) (incarnation sequence : ℕ) (ttl : Ticks) (o : Outcome)
    → BringsNothing o (failsafe_asked now from incarnation sequence ttl o)
holding-brings now from incarnation sequence ttl o =
    failsafe-asked-by (BringsNothing o) now from incarnation sequence ttl o
    (λ _.
    same-role o (answering_failsafe from incarnation sequence true (holding_for now from sequence ttl o)) refl (λ e. e))
    (same-role o (answering_failsafe from incarnation sequence false o) refl (λ e. e))

pub staying-brings : (now : Ticks) (from : MemberId) (sequence : ℕ) (accepted : Bool) (sent : Ticks) (o : Outcome)
    → BringsNothing o (failsafe_answered now from sequence accepted sent o)
staying-brings now from sequence accepted sent o =
    failsafe-answered-by (BringsNothing o) now from sequence accepted sent o (record {
      kept = same-role o o refl (λ e. e);
      quiet = same-role o (waiting_no_more o) refl (λ e. e);
      counts = λ held _. same-role o (counting from sent o) refl (λ e. e);
      stays = λ held _ waited _ _ since _ _.
          same-role o (stays now waited.ttl waited.sequence since (counting from sent o)) refl (λ e. e);
      counts_late = λ held _ _. same-role o (waiting_no_more (counting from sent o)) refl (λ e. e);
      fails = λ held is _. unacknowledged-brings now held o is;
    })

pub failsafe-asked-brings : (now : Ticks) (from : MemberId) (incarnation sequence : ℕ) (ttl : Ticks) (o : Outcome)
    → BringsNothing o (failsafe_asked now from incarnation sequence ttl (reconciled now o))
failsafe-asked-brings now from incarnation sequence ttl o =
    let b : Outcome = reconciled now o in brings-then o b (failsafe_asked now from incarnation sequence ttl b)
    (before-brings now o) (holding-brings now from incarnation sequence ttl b)

pub failsafe-answered-brings : (now : Ticks) (from : MemberId) (sequence : ℕ) (accepted : Bool) (sent : Ticks)
    (o : Outcome) → BringsNothing o (failsafe_answered now from sequence accepted sent (reconciled now o))
failsafe-answered-brings now from sequence accepted sent o =
    let b : Outcome = reconciled now o in brings-then o b (failsafe_answered now from sequence accepted sent b)
    (before-brings now o) (staying-brings now from sequence accepted sent b)

-- what an operator asks
pub acting-brings : (now : Ticks) (action : OperatorAction) (o : Outcome)
    → BringsNothing o (operated now action.request action.asked o)
acting-brings now action o =
    operated-by (BringsNothing o) now action.request action.asked o (acts-bring now action.request o)

pub operated-brings : (now : Ticks) (action : OperatorAction) (o : Outcome)
    → BringsNothing o (operated now action.request action.asked (reconciled now o))
operated-brings now action o = let b : Outcome = reconciled now o in
    brings-then o b (operated now action.request action.asked b) (before-brings now o) (acting-brings now action b)
