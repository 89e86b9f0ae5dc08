-- What a wake sends, and an agent that stays primary without the key store.
use Rattle.std.proofs.Common.{◌≡◌, ◌⊎◌, ℕ, ◌+◌, ◌≤◌, ◌<◌, ◌==◌, nat_le, Bool, true, false, List, Option, Some, None, All, refl, sym, subst, ap, ◌∙◌, arith, inl, inr, zero, suc}
use Rattle.std.proofs.lemmas.List.Elements.{All-push, All-weaker}
use Rattle.pat_base.specs.MemberId.{member_of}
use Rattle.pat_base.specs.declared.member_id.MemberId.{MemberId}
use Rattle.pat_base.specs.declared.member_set.MemberSet.{MemberSet}
use Rattle.pat_base.specs.declared.ticks.Ticks.{Ticks}
use Rattle.pat_base.specs.ServerState.{live}
use Rattle.store_keys.specs.declared.txn.Expected.{Expected}
use Rattle.event_book.specs.declared.message.Body.TheVariants as bodies
use Rattle.event_book.specs.declared.reason.Reason.{Reason}
use Rattle.event_book.specs.declared.reason.Reason.TheVariants.{FailsafeNotAcknowledged, StoreOutOfReach}
use Rattle.failsafe.specs.Asks.{counts, has, asked as ask_of, heard as ask_heard, with_acknowledgement}
use Rattle.failsafe.specs.declared.asks.Ask.{Ask}
use Rattle.agent_model.specs.declared.knowledge.Question.{Question}
use Rattle.agent_model.specs.declared.knowledge.Question.TheVariants.{Reading, ComparingPositions, Creating, Renewing, Claiming, Syncing, FindingCandidate, StayingPrimary}
use Rattle.agent_model.specs.declared.knowledge.PendingQuestion.{PendingQuestion}
use Rattle.agent_model.specs.declared.output.Output.{Output}
use Rattle.agent_model.specs.declared.output.Output.TheVariants as outputs
use Rattle.agent_model.specs.declared.output.Feeding.TheVariants as feedings
use Rattle.agent_model.specs.declared.output.Noting.TheVariants as notings
use Rattle.agent_model.specs.declared.output.Outgoing.TheVariants as outgoing
use Rattle.agent_model.specs.declared.output.ServerOrder.TheVariants as orders
use Rattle.agent_model.specs.declared.output.Telling.TheVariants as tellings
use Rattle.agent_model.specs.declared.output.Target.TheVariants as targets
use Rattle.agent_model.specs.Acting.{deadline_after, lease_span, waiting_no_more}
use Rattle.agent_model.specs.Agents.{RoleFacts, Follower, Holder, Ready, Leader, Ending, Unleased, Outcome}
use Rattle.agent_sending.specs.Asking.{awaits_stay}
use Rattle.agent_model.specs.FailsafeKeys.{failsafe_compared}
use Rattle.agent_model.specs.StayingPrimary.{answering_failsafe, asking_to_stay, counting, failsafe_answered, failsafe_asked, fed_by_failsafe, holding_for, is_staying, leader_unacknowledged, others_known, requesting_first, requesting_one, span_after, stays, stays_alone, unacknowledged, unacknowledged_as}
use Rattle.agent_model.specs.Reconciling.{reconciled}
use Rattle.agent_model.specs.Claiming.{postpones}
use Rattle.agent_model.specs.Outputs.{with_output}
use Rattle.agent_roles.specs.Powers.{lease_of}
use Rattle.agent_model.specs.HandingOver.{hands_over}
use Rattle.agent_model.specs.Operators.{given_up}
use Rattle.agent_model.specs.Racing.{judged}
use Rattle.pat_base.specs.declared.member_id.TheConstants.{MOST_MEMBERS}
use Rattle.agent_model.specs.Peers.{awaits_others}
use Rattle.agent_model.specs.Wake.{leader_out_of_reach, reading, turn_noted, unleased_out_of_reach, overdue, overdue_for, turned, unanswered, woken}
use Rattle.agent_roles.proofs.GoingOn.{IsAlone}
use Rattle.agent_roles.proofs.Knowing.{given-up-onward}
use Rattle.agent_roles.proofs.Staying.{before-leaves, before-waits}
use Rattle.agent_roles.proofs.Living.{no-way}
use Rattle.agent_cases.proofs.Rows.{HandoverRows, dropping, given-up-by, if-cases, overdue-when, turn-by, wake-by, judged-by}
use Rattle.agent_cases.proofs.FailsafeRows.{failsafe-asked-by, failsafe-answered-by}
use Rattle.agent_model.specs.Pausing.{is_paused}
use Rattle.agent_sending.proofs.MaySend.{IsSilent, Grounds, MayPut, AllMay, silent-may, front, push, silently, IsReleaseOr, Fronts, IsMild, AllMild, mild-may, mild-all, mild-front, up-to, more-mild, judged-mild, handover-mild, before-fronts, released, fronts-may, postpones-silent, reads-new, overdue-none, told-fronts, ComparesAs, before-compares, CreatesAsCompared, creates-behind, front-of}
use Rattle.agent_sending.proofs.MaySend.Fronts.{Silent, Released}

turn-mild : (G : Grounds) (now : Ticks) (o b : Outcome) → o.knows.sequence ≤ b.knows.sequence
    → AllMild G.creates o.knows.sequence b → AllMay G o (turned now b)
turn-mild G now o b later mild = let noted : Outcome = record b { knows = turn_noted now b.knows } in
    let low : ℕ = o.knows.sequence in let high : ℕ = b.knows.sequence in let K : Option Expected → Type 0 = G.creates in
    turn-by (AllMay G o) now b (record {
      kept = mild-all G o b mild;
      quiet = mild-all G o noted mild;
      reads = λ _.
          push G o (reading now noted) b.outputs (outputs.Message (outgoing.Send targets.Store (high + 1) bodies.Read))
          (All-weaker (IsMild K low (high + 1)) (MayPut G o (reading now noted))
          (mild-may G o (reading now noted)) b.outputs
          (All-weaker (IsMild K low high) (IsMild K low (high + 1))
          (more-mild K low high (high + 1) (omega arith)) b.outputs mild))
          (reads-new G now o b later);
    })

turn-released : (G : Grounds) (now : Ticks) (o b : Outcome) (revision : ℕ) → lease_of o.role ≡ Some revision
    → b.role ≡ Follower → live b.machine.server.state ≡ false → o.knows.sequence + 1 ≤ b.knows.sequence
    → All (IsReleaseOr (o.knows.sequence + 1) revision) b.outputs → AllMay G o (turned now b)
turn-released G now o b revision held role ended counted all =
    let noted : Outcome = record b { knows = turn_noted now b.knows } in
    turn-by (AllMay G o) now b (record {
      kept = released G o b revision b.outputs held role ended counted all;
      quiet = released G o noted revision b.outputs held role ended counted all;
      reads =
          λ _. push G o (reading now noted) b.outputs
          (outputs.Message (outgoing.Send targets.Store (b.knows.sequence + 1) bodies.Read))
          (released G o (reading now noted) revision b.outputs held role ended (omega (arith, counted)) all)
          (reads-new G now o b (omega (arith, counted)));
    })

judged-later : (now : Ticks) (o : Outcome) → o.knows.sequence ≤ (judged now o).knows.sequence
judged-later now o =
    judged-by (λ (x : Outcome). o.knows.sequence ≤ x.knows.sequence) now o (omega arith) (λ bar. omega arith)

-- the agent waits for the acknowledgements of its failsafe request of
-- this number, for leases of this span, which it sends now
pub record AsksToStay (now : Ticks) (o : Outcome) (sequence : ℕ) (ttl : Ticks) : Type 0 where
  pub waited : PendingQuestion
  pub is : o.knows.waited ≡ Some waited
  pub staying : is_staying waited.question ≡ true
  pub sequence_is : waited.sequence ≡ sequence
  pub ttl_is : waited.ttl ≡ ttl
  pub sent : waited.sent ≡ now

-- grounds on which an input may send the failsafe requests besides that it waits for after it
abbrev pub staying : Ticks → Outcome → Grounds → Grounds
staying now after G = record {
  gives = G.gives;
  creates = G.creates;
  requests = AsksToStay now after;
  acknowledges = G.acknowledges;
  configures = G.configures;
  feeds = G.feeds;
}

-- the requests to all that are asked
request-may : (G : Grounds) (o after : Outcome) (members : MemberSet) (sequence : ℕ) (ttl : Ticks)
    (member : Option MemberId) (outs : List Output) → o.knows.sequence < sequence
    → sequence ≤ after.knows.sequence → G.requests sequence ttl → All (MayPut G o after) outs
    → All (MayPut G o after) (requesting_one members sequence ttl member outs)
request-may G o after members sequence ttl None outs later counted may all = all
request-may G o after members sequence ttl (Some member) outs later counted may all =
    if-cases (λ (l : List Output). All (MayPut G o after) l) (has members member.number)
    (with_output (outputs.Message (outgoing.Send (targets.Member member) sequence (bodies.FailsafeRequest ttl))) outs)
    outs
    (λ _. push G o after outs
    (outputs.Message (outgoing.Send (targets.Member member) sequence (bodies.FailsafeRequest ttl))) all
    (later, counted, may))
    (λ _. all)

requests-may : (G : Grounds) (o after : Outcome) (members : MemberSet) (sequence : ℕ) (ttl : Ticks) (count : ℕ)
    (outs : List Output) → o.knows.sequence < sequence → sequence ≤ after.knows.sequence → G.requests sequence ttl
    → All (MayPut G o after) outs → All (MayPut G o after) (requesting_first members sequence ttl count outs)
requests-may G o after members sequence ttl zero outs later counted may all = all
requests-may G o after members sequence ttl (suc count) outs later counted may all =
    request-may G o after members sequence ttl (member_of count) (requesting_first members sequence ttl count outs)
    later counted may (requests-may G o after members sequence ttl count outs later counted may all)

seeks-may : (G : Grounds) (now : Ticks) (o b : Outcome) (members : MemberSet) → o.knows.sequence ≤ b.knows.sequence
    → All IsSilent b.outputs → AllMay (staying now (asking_to_stay now members b) G) o (asking_to_stay now members b)
seeks-may G now o b members later silent =
    let after : Outcome = asking_to_stay now members b in
    let all : Grounds = staying now after G in
    requests-may all o after members (b.knows.sequence + 1)
    (lease_span b.knows.settings) MOST_MEMBERS b.outputs (omega (arith, later)) (omega arith)
    (record { waited = _; is = refl; staying = refl; sequence_is = refl; ttl_is = refl; sent = refl })
    (front all o after b.outputs silent)

-- an output that is silent, or feeds the watchdog on the acknowledgements of these members
abbrev IsSteady : MemberSet → ℕ → Output → Type 0
IsSteady members sequence output = IsSilent output
    ⊎ ((until : Ticks) ×
    ((since : Ticks) × (output ≡ outputs.Watchdog (feedings.FedByFailsafe until members sequence since))))

steady-may : (G : Grounds) (o after : Outcome) (members : MemberSet) (sequence : ℕ) → G.feeds members sequence
    → (output : Output) → IsSteady members sequence output → MayPut G o after output
steady-may G o after members sequence may output (inl silent) = silent-may G o after output silent
steady-may G o after members sequence may output (inr fed) =
    subst (λ (x : Output). MayPut G o after x) (sym fed.1.1) may

-- who stays primary
stays-steady : (now ttl : Ticks) (sequence : ℕ) (since : Ticks) (o : Outcome) → All IsSilent o.outputs
    → All (IsSteady o.knows.failsafe.members sequence) (stays now ttl sequence since o).outputs
stays-steady now ttl sequence since o silent =
    All-push Steady
    (fed_by_failsafe (deadline_after now ttl o.machine.watchdog) o.knows.failsafe.members sequence since o.outputs)
    (outputs.Note notings.StaysByFailsafe) (fed-steady (deadline_after now ttl o.machine.watchdog)) (inl tt)
  where
    Steady : Output → Type 0
    Steady output = IsSteady o.knows.failsafe.members sequence output

    before-it : All Steady o.outputs
    before-it = All-weaker IsSilent Steady (λ output e. inl e) o.outputs silent

    fed-steady : (deadline : Option Ticks)
        → All Steady (fed_by_failsafe deadline o.knows.failsafe.members sequence since o.outputs)
    fed-steady None = before-it
    fed-steady (Some until) = All-push Steady o.outputs
        (outputs.Watchdog (feedings.FedByFailsafe until o.knows.failsafe.members sequence since)) before-it
        (inr (until, (since, refl)))

steady-all : (G : Grounds) (o after x : Outcome) (members : MemberSet) (sequence : ℕ)
    → G.feeds members sequence → All (IsSteady members sequence) x.outputs → All (MayPut G o after) x.outputs
steady-all G o after x members sequence may all =
    All-weaker (IsSteady members sequence) (MayPut G o after) (steady-may G o after members sequence may) x.outputs all

turn-steady : (G : Grounds) (now : Ticks) (o x : Outcome) (members : MemberSet) (sequence : ℕ)
    → o.knows.sequence ≤ x.knows.sequence → G.feeds members sequence
    → All (IsSteady members sequence) x.outputs → AllMay G o (turned now x)
turn-steady G now o x members sequence later may all =
    let noted : Outcome = record x { knows = turn_noted now x.knows } in
    turn-by (AllMay G o) now x (record {
      kept = steady-all G o x x members sequence may all;
      quiet = steady-all G o noted x members sequence may all;
      reads =
          λ _. push G o (reading now noted) x.outputs
          (outputs.Message (outgoing.Send targets.Store (x.knows.sequence + 1) bodies.Read))
          (steady-all G o (reading now noted) x members sequence may all) (reads-new G now o x later);
    })

-- a deadline that has passed, and then a turn
abbrev Turns : Grounds → Ticks → Outcome → Outcome → Type 0
Turns G now o x = AllMay (staying now (turned now x) G) o (turned now x)

mild-turns : (G : Grounds) (now : Ticks) (o x : Outcome) → o.knows.sequence ≤ x.knows.sequence
    → AllMild G.creates o.knows.sequence x → Turns G now o x
mild-turns G now o x later mild = turn-mild (staying now (turned now x) G) now o x later mild

overdue-asking : (G : Grounds) (now : Ticks) (o b : Outcome)
    → (awaits_others b.knows.waited ≡ true → G.creates (failsafe_compared b.knows))
    → ((others_known b.knows).bits == 0 ≡ true → G.feeds (others_known b.knows) b.knows.sequence)
    → o.knows.sequence ≤ b.knows.sequence → All IsSilent b.outputs → Turns G now o (overdue now b)
overdue-asking G now o b creates feeds later silent =
    let low : ℕ = o.knows.sequence in let out : ℕ = b.knows.sequence in let K : Option Expected → Type 0 = G.creates in
    let stopped : (reason : Reason)
    → All (IsMild K low out) (with_output (outputs.Server (orders.Stop reason)) b.outputs) =
    λ reason. mild-front K low out (with_output (outputs.Server (orders.Stop reason)) b.outputs)
    (silently b.outputs (outputs.Server (orders.Stop reason)) silent tt) in
    let mild : All (IsMild K low out) b.outputs = mild-front K low out b.outputs silent in
    overdue-when (Turns G now o) now b (record {
      kept = mild-turns G now o b later mild;
      quiet = mild-turns G now o (waiting_no_more b) later mild;
      leader = λ held _ _.
          mild-turns G now o (leader_out_of_reach now held (waiting_no_more b)) later (stopped StoreOutOfReach);
      seeks = λ held _ _ _. seeks-may G now o (waiting_no_more b) (others_known b.knows) later silent;
      alone = λ held _ _ _ nobody. let x : Outcome = stays_alone now (others_known b.knows) (waiting_no_more b) in
          turn-steady (staying now (turned now x) G) now o x (others_known b.knows) b.knows.sequence later
          (feeds nobody)
          (stays-steady now (lease_span b.knows.settings) b.knows.sequence now
          (record (waiting_no_more b) {
            knows =
                record (waiting_no_more b).knows { failsafe = ask_of (others_known b.knows) now };
          })
          silent);
      silent = λ held _ _. mild-turns G now o (leader_unacknowledged now held (waiting_no_more b)) later
          (stopped FailsafeNotAcknowledged);
      unleased =
          λ _ _. mild-turns G now o (unleased_out_of_reach now (waiting_no_more b)) later (stopped StoreOutOfReach);
      judges = λ awaits _.
          mild-turns G now o (judged now b) (up-to low out (judged now b).knows.sequence later (judged-later now b))
          (judged-mild K low now b (creates awaits) later silent);
      ready = λ held _. mild-turns G now o (postpones held (waiting_no_more b)) later
          (mild-front K low out (postpones held (waiting_no_more b)).outputs
          (postpones-silent held (waiting_no_more b) silent));
      checks = λ held _. let rows : HandoverRows (AllMild K low) now held b =
          handover-mild K low now held b later silent in record {
            kept = mild-turns G now o (waiting_no_more b) later rows.kept;
            clears = λ compared. mild-turns G now o (dropping compared (waiting_no_more b))
                (up-to low out (out + 1) later (omega arith)) (rows.clears compared);
            hands = λ candidate.
                mild-turns G now o (hands_over now held candidate (waiting_no_more b)) later (rows.hands candidate);
          };
    })

-- one who waits for acknowledgements in vain ends its server, and feeds nothing
overdue-staying : (G : Grounds) (now : Ticks) (o b : Outcome) → awaits_stay b.knows.waited ≡ true
    → o.knows.sequence ≤ b.knows.sequence → All IsSilent b.outputs → Turns G now o (overdue now b)
overdue-staying G now o b awaits later silent = by b.knows.waited awaits
  where
    K : Option Expected → Type 0
    K expected = G.creates expected

    mild : All (IsMild G.creates o.knows.sequence b.knows.sequence) b.outputs
    mild = mild-front G.creates o.knows.sequence b.knows.sequence b.outputs silent

    ends : (role : RoleFacts) → Turns G now o (unacknowledged_as now role (waiting_no_more b))
    ends (Leader held) = mild-turns G now o (leader_unacknowledged now held (waiting_no_more b)) later
        (mild-front G.creates o.knows.sequence b.knows.sequence
        (with_output (outputs.Server (orders.Stop FailsafeNotAcknowledged)) b.outputs)
        (silently b.outputs (outputs.Server (orders.Stop FailsafeNotAcknowledged)) silent tt))
    ends Follower = mild-turns G now o (waiting_no_more b) later mild
    ends (Holder held) = mild-turns G now o (waiting_no_more b) later mild
    ends (Ready held) = mild-turns G now o (waiting_no_more b) later mild
    ends (Ending held why) = mild-turns G now o (waiting_no_more b) later mild
    ends Unleased = mild-turns G now o (waiting_no_more b) later mild

    silent-one : Turns G now o (unacknowledged now b)
    silent-one = if-cases (Turns G now o) (is_paused b.knows) (waiting_no_more b)
        (unacknowledged_as now b.role (waiting_no_more b))
        (λ _. mild-turns G now o (waiting_no_more b) later mild) (λ _. ends b.role)

    late : (question : Question) → is_staying question ≡ true → Turns G now o (unanswered now question b)
    late StayingPrimary e = silent-one
    late Reading e = absurd (no-way e)
    late Renewing e = absurd (no-way e)
    late Creating e = absurd (no-way e)
    late Claiming e = absurd (no-way e)
    late (Syncing settling) e = absurd (no-way e)
    late ComparingPositions e = absurd (no-way e)
    late FindingCandidate e = absurd (no-way e)

    by : (waited : Option PendingQuestion) → awaits_stay waited ≡ true → Turns G now o (overdue_for now waited b)
    by None e = absurd (no-way e)
    by (Some one) e = if-cases (Turns G now o) (nat_le one.until.0 now.0) (unanswered now one.question b) b
        (λ _. late one.question e) (λ _. mild-turns G now o b later mild)

-- who waits for none may stay with nobody to ask
overdue-turns : (G : Grounds) (now : Ticks) (o b : Outcome)
    → (awaits_others b.knows.waited ≡ true → G.creates (failsafe_compared b.knows))
    → (awaits_stay b.knows.waited ≡ false → (others_known b.knows).bits == 0 ≡ true →
    G.feeds (others_known b.knows) b.knows.sequence)
    → o.knows.sequence ≤ b.knows.sequence → All IsSilent b.outputs → Turns G now o (overdue now b)
overdue-turns G now o b creates feeds later silent = by (awaits_stay b.knows.waited) refl
  where
    by : (test : Bool) → awaits_stay b.knows.waited ≡ test → Turns G now o (overdue now b)
    by true e = overdue-staying G now o b e later silent
    by false e = overdue-asking G now o b creates (feeds e) later silent

turn-fronts : (G : Grounds) (now : Ticks) (o b : Outcome)
    → (awaits_others b.knows.waited ≡ true → G.creates (failsafe_compared b.knows))
    → (awaits_stay b.knows.waited ≡ false → (others_known b.knows).bits == 0 ≡ true →
    G.feeds (others_known b.knows) b.knows.sequence)
    → o.knows.sequence ≤ b.knows.sequence → Fronts o b → Turns G now o (overdue now b)
turn-fronts G now o b creates feeds later (Silent all) = overdue-turns G now o b creates feeds later all
turn-fronts G now o b creates feeds later (Released revision held alone role ended counted all) =
    subst (Turns G now o) (sym (overdue-none now b alone))
    (turn-released (staying now (turned now b) G) now o b revision held role ended counted all)

pub given-up-fronts : (now : Ticks) (o : Outcome) → IsAlone o → All IsSilent o.outputs
    → Fronts o (given_up now (reconciled now o))
given-up-fronts now o alone silent =
    given-up-by (Fronts o) now (reconciled now o) (told-fronts o (reconciled now o) (before-fronts now o alone silent))

-- what precedes a wake leaves what is waited for, and what a create expects
given-up-waits : (now : Ticks) (o : Outcome) → (given_up now (reconciled now o)).knows.waited ≡ o.knows.waited
given-up-waits now o = given-up-by (λ (x : Outcome). x.knows.waited ≡ o.knows.waited) now (reconciled now o)
    (record { kept = before-waits now o; answers = λ request told. before-waits now o })

given-up-compares : (now : Ticks) (o : Outcome) → ComparesAs o (given_up now (reconciled now o))
given-up-compares now o = given-up-by (ComparesAs o) now (reconciled now o)
    (record { kept = before-compares now o; answers = λ request told. before-compares now o })

pub wake-may : (G : Grounds) (now : Ticks) (o : Outcome) → CreatesAsCompared G o
    → (awaits_stay o.knows.waited ≡ false → (members : MemberSet) (sequence : ℕ) → members.bits == 0 ≡ true →
    G.feeds members sequence)
    → IsAlone o → All IsSilent o.outputs → AllMay (staying now (woken now o) G) o (woken now o)
wake-may G now o creates feeds alone silent = let b : Outcome = given_up now (reconciled now o) in
    wake-by (λ (x : Outcome). AllMay (staying now x G) o x) now o
    (fronts-may (staying now (reconciled now o) G) o (reconciled now o) (before-fronts now o alone silent))
    (turn-fronts G now o b (creates-behind G o b (given-up-waits now o) (given-up-compares now o) creates)
    (λ e. feeds (ap (λ (w : Option PendingQuestion). awaits_stay w) (sym (given-up-waits now o)) ∙ e)
    (others_known b.knows) b.knows.sequence)
    (given-up-onward None now o).last (given-up-fronts now o alone silent))

-- a failsafe request is answered, and nothing else is sent; with a yes a hold is taken
pub failsafe-asked-may : (G : Grounds) (now : Ticks) (from : MemberId) (incarnation sequence : ℕ) (ttl : Ticks)
    (o : Outcome) → G.acknowledges from incarnation sequence → IsAlone o → All IsSilent o.outputs
    → AllMay G o (failsafe_asked now from incarnation sequence ttl (reconciled now o))
failsafe-asked-may G now from incarnation sequence ttl o may alone silent = let b : Outcome = reconciled now o in
    let fronts : Fronts o b = before-fronts now o alone silent in
    let held : Outcome = holding_for now from sequence ttl b in
    failsafe-asked-by (AllMay G o) now from incarnation sequence ttl b
    (λ _. let after : Outcome = answering_failsafe from incarnation sequence true held in
    push G o after held.outputs (outputs.Message (outgoing.FailsafeAnswer from incarnation sequence true))
    (push G o after b.outputs (outputs.Tell (tellings.HoldTaken (span_after now ttl) from sequence))
    (front-of G o b after fronts (omega arith) refl (λ e. e)) (inr (incarnation, may)))
    (λ _. may))
    (let after : Outcome = answering_failsafe from incarnation sequence false b in
    push G o after b.outputs (outputs.Message (outgoing.FailsafeAnswer from incarnation sequence false))
    (front-of G o b after fronts (omega arith) refl (λ e. e)) (λ e. absurd (no-way e)))

-- an acknowledgement that is heard sends nothing
failsafe-answered-none : (now : Ticks) (from : MemberId) (sequence : ℕ) (accepted : Bool) (sent : Ticks) (o : Outcome)
    → o.knows.waited ≡ None → failsafe_answered now from sequence accepted sent o ≡ o
failsafe-answered-none now from sequence accepted sent o is = rw is refl

failsafe-answered-all : (G : Grounds) (now : Ticks) (from : MemberId) (sequence : ℕ) (accepted : Bool)
    (sent : Ticks) (o b : Outcome)
    → ((waited : PendingQuestion) → b.knows.waited ≡ Some waited → is_staying waited.question ≡ true →
    G.feeds b.knows.failsafe.members waited.sequence)
    → All IsSilent b.outputs → AllMay G o (failsafe_answered now from sequence accepted sent b)
failsafe-answered-all G now from sequence accepted sent o b feeds silent =
    failsafe-answered-by (AllMay G o) now from sequence accepted sent b (record {
      kept = front G o b b.outputs silent;
      quiet = front G o (waiting_no_more b) b.outputs silent;
      counts = λ held _. front G o (counting from sent b) b.outputs silent;
      counts_late = λ held _ _. front G o (waiting_no_more (counting from sent b)) b.outputs silent;
      stays = λ held _ waited is staying since _ _. let x : Outcome =
          stays now waited.ttl waited.sequence since (counting from sent b) in
          steady-all G o x x (counting from sent b).knows.failsafe.members waited.sequence
          (subst (λ (members : MemberSet). G.feeds members waited.sequence) (sym (heard-same b.knows.failsafe))
          (feeds waited is staying))
          (stays-steady now waited.ttl waited.sequence since (counting from sent b) silent);
      fails = λ held _ _. let ended : Outcome = leader_unacknowledged now held (waiting_no_more b) in
          front G o ended ended.outputs
          (silently b.outputs (outputs.Server (orders.Stop FailsafeNotAcknowledged)) silent tt);
    })
  where
    heard-same : (ask : Ask) → (ask_heard ask from true sent).members ≡ ask.members
    heard-same ask = if-cases (λ (x : Ask). x.members ≡ ask.members) (counts ask from true)
        (with_acknowledgement ask from sent) ask (λ _. refl) (λ _. refl)

failsafe-answered-fronts : (G : Grounds) (now : Ticks) (from : MemberId) (sequence : ℕ) (accepted : Bool)
    (sent : Ticks) (o b : Outcome)
    → ((waited : PendingQuestion) → b.knows.waited ≡ Some waited → is_staying waited.question ≡ true →
    G.feeds b.knows.failsafe.members waited.sequence)
    → Fronts o b → AllMay G o (failsafe_answered now from sequence accepted sent b)
failsafe-answered-fronts G now from sequence accepted sent o b feeds (Silent all) =
    failsafe-answered-all G now from sequence accepted sent o b feeds all
failsafe-answered-fronts G now from sequence accepted sent o b feeds
    (Released revision held alone role ended counted all) =
    subst (λ (z : Outcome). AllMay G o z) (sym (failsafe-answered-none now from sequence accepted sent b alone))
    (released G o b revision b.outputs held role ended counted all)

pub failsafe-answered-may : (G : Grounds) (now : Ticks) (from : MemberId) (sequence : ℕ) (accepted : Bool)
    (sent : Ticks) (o : Outcome)
    → ((waited : PendingQuestion) → o.knows.waited ≡ Some waited → is_staying waited.question ≡ true →
    G.feeds o.knows.failsafe.members waited.sequence)
    → IsAlone o → All IsSilent o.outputs
    → AllMay G o (failsafe_answered now from sequence accepted sent (reconciled now o))
failsafe-answered-may G now from sequence accepted sent o feeds alone silent =
    failsafe-answered-fronts G now from sequence accepted sent o (reconciled now o)
    (λ waited is staying. subst (λ (ask : Ask). G.feeds ask.members waited.sequence)
    (sym (before-leaves now o).asked) (feeds waited (sym (before-waits now o) ∙ is) staying))
    (before-fronts now o alone silent)
