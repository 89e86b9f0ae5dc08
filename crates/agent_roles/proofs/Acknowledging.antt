-- What a wake, and what other members say of failsafe mode, do to the watchdog and the hold.
use Rattle.std.proofs.Common.{◌≡◌, ℕ, ◌==◌, ◌&&◌, ◌||◌, not, Bool, true, false, if◌then◌else◌, List, Option, Some, None, refl, sym, subst, ap, ◌∙◌, arith, inl, inr, ◌⊎◌}
use Rattle.std.proofs.lemmas.Bool.Decides.{nat_tests}
use Rattle.pat_base.specs.declared.member_id.MemberId.{MemberId}
use Rattle.pat_base.specs.declared.member_set.MemberSet.{MemberSet}
use Rattle.pat_base.specs.declared.ticks.Ticks.{Ticks}
use Rattle.pat_base.specs.ServerState.{live}
use Rattle.store_keys.specs.declared.action.OperatorAction.{OperatorAction}
use Rattle.store_keys.specs.declared.action.OperatorRequest.{OperatorRequest}
use Rattle.store_keys.specs.declared.action.OperatorRequest.TheVariants as requests
use Rattle.store_keys.specs.declared.config.Config.{Config}
use Rattle.event_book.specs.Watchdogs.{prolonged_to}
use Rattle.failsafe.specs.declared.asks.Ask.{Ask}
use Rattle.failsafe.specs.Asks.{asked, heard, moment_of_all}
use Rattle.failsafe.specs.Holding.{is_follower, may_hold}
use Rattle.failsafe.specs.Listing.{without_member}
use Rattle.leader_key.specs.Watchdog.{fed, is_armable}
use Rattle.agent_model.specs.declared.knowledge.PendingQuestion.{PendingQuestion}
use Rattle.agent_model.specs.declared.machine.Machine.{Machine}
use Rattle.agent_model.specs.declared.output.Output.{Output}
use Rattle.agent_model.specs.declared.output.Output.TheVariants as outputs
use Rattle.agent_model.specs.declared.output.Feeding.TheVariants as feedings
use Rattle.agent_model.specs.declared.output.Noting.TheVariants as notings
use Rattle.agent_model.specs.declared.who.Who.{Who}
use Rattle.agent_model.specs.declared.why.Why.{Why}
use Rattle.agent_model.specs.declared.why.Why.TheVariants.{HandOver, Lost}
use Rattle.agent_model.specs.Acting.{comes_late, lease_span, waiting_no_more}
use Rattle.agent_model.specs.Agents.{RoleFacts, Follower, Holder, Ready, Leader, Ending, Unleased, Outcome, is_leader, word_of}
use Rattle.agent_model.specs.Fits.{Fits}
use Rattle.agent_model.specs.Operators.{given_up, operated, unnumbered}
use Rattle.agent_model.specs.Outputs.{with_output, is_feeding, has_one}
use Rattle.agent_model.specs.Reconciling.{has_ended, reconciled}
use Rattle.agent_model.specs.StayingPrimary.{answering_failsafe, awaits_lease, counting, failsafe_answered, failsafe_asked, fed_by_failsafe, holding_for, may_stay, others_known, span_after, stays as staying, stays_alone}
use Rattle.agent_model.specs.Views.{shown}
use Rattle.agent_model.specs.Wake.{overdue, reading, turn_noted, turned, woken}
use Rattle.agent_cases.proofs.Rows.{before-by, given-up-by, overdue-when, turn-by, wake-by, asked-to-hold-by}
use Rattle.agent_cases.proofs.FailsafeRows.{failsafe-answered-by, failsafe-asked-by}
use Rattle.agent_roles.specs.Powers.{Acknowledges, IsFedByFailsafe, LeavesMachine, StaysAlone, StaysByWord, AcknowledgesOperated}
use Rattle.agent_roles.proofs.Bringing.{overdue-brings, same-role, staying-brings, turn-brings}
use Rattle.agent_roles.proofs.Granting.{both-true, one-before, one-last}
use Rattle.agent_roles.proofs.Leaving.{Stays, before-leaves, behind, given-up-fits, given-up-leaves, handover-stays, judged-stays, postpones-stays, same-behind, stays, turn-stays, acting-leaves}
use Rattle.agent_roles.proofs.Leaving.WatchdogStays.{Same}
use Rattle.agent_roles.proofs.Living.{no-way}

-- ---- who leads before its rows was found as it was
pub record IsLedOn (o b : Outcome) : Type 0 where
  pub role : b.role ≡ o.role
  pub machine : b.machine ≡ o.machine
  pub settings : b.knows.settings ≡ o.knows.settings
  pub confirmed : b.knows.confirmed ≡ o.knows.confirmed
  pub who : b.knows.who ≡ o.knows.who
  pub known : b.knows.known ≡ o.knows.known
  pub informed : b.knows.informed ≡ o.knows.informed
  pub waited : b.knows.waited ≡ o.knows.waited
  pub failsafe : b.knows.failsafe ≡ o.knows.failsafe

abbrev LedOn : Outcome → Outcome → Type 0
LedOn o b = is_leader b.role ≡ true → IsLedOn o b

as-it-was : (o : Outcome) → IsLedOn o o
as-it-was o = record {
  role = refl;
  machine = refl;
  settings = refl;
  confirmed = refl;
  who = refl;
  known = refl;
  informed = refl;
  waited = refl;
  failsafe = refl;
}

no-leader : (o b : Outcome) → is_leader b.role ≡ false → LedOn o b
no-leader o b rests leads = absurd (no-way (sym rests ∙ leads))

ended-led : (why : Why) (held : ℕ) (o : Outcome) → LedOn o (has_ended why held o)
ended-led HandOver held o = no-leader o (has_ended HandOver held o) refl
ended-led Lost held o = no-leader o (has_ended Lost held o) refl

pub before-led : (now : Ticks) (o : Outcome) → LedOn o (reconciled now o)
before-led now o = before-by (LedOn o) now o (record {
  kept = λ _ _. as-it-was o;
  leader = λ held _ _. no-leader o _ refl;
  ending = λ held why _ _. ended-led why held o;
  follower = λ _ _. no-leader o _ refl;
  holder = λ held _ _. no-leader o _ refl;
  ready = λ held _ _. no-leader o _ refl;
  unleased = λ _ _. no-leader o _ refl;
})

given-up-led : (now : Ticks) (o : Outcome) → LedOn o (given_up now (reconciled now o))
given-up-led now o = given-up-by (LedOn o) now (reconciled now o) (record {
  kept = before-led now o;
  answers = λ request told leads. let led : IsLedOn o (reconciled now o) = before-led now o leads in
      record {
        role = led.role;
        machine = led.machine;
        settings = led.settings;
        confirmed = led.confirmed;
        who = led.who;
        known = led.known;
        informed = led.informed;
        waited = led.waited;
        failsafe = led.failsafe;
      };
})

-- ---- feeding by acknowledgements
stay-told : (outs : List Output) (until : Ticks) (members : MemberSet) (sequence : ℕ) (since : Ticks) (armable : Bool)
    → armable ≡ true
    → has_one is_feeding
    (with_output (outputs.Note notings.StaysByFailsafe)
    (fed_by_failsafe (if armable then Some until else None) members sequence since outs))
    ≡ true
stay-told outs until members sequence since true is =
    one-before is_feeding (with_output (outputs.Watchdog (feedings.FedByFailsafe until members sequence since)) outs)
    (outputs.Note notings.StaysByFailsafe)
    (one-last is_feeding outs (outputs.Watchdog (feedings.FedByFailsafe until members sequence since)) refl)
stay-told outs until members sequence since false is = absurd (no-way is)

leader-is : (role : RoleFacts) (held : ℕ) → role ≡ Leader held → is_leader role ≡ true
leader-is role held is = rw is refl

fed-so : (now ttl : Ticks) (sequence : ℕ) (since : Ticks) (held : ℕ) (o b : Outcome) → o.role ≡ Leader held
    → b.role ≡ o.role → b.machine ≡ o.machine → b.knows.known ≡ o.knows.known
    → b.knows.informed ≡ o.knows.informed → IsFedByFailsafe now ttl b (staying now ttl sequence since b)
fed-so now ttl sequence since held o b is role machine known informed = record {
  leader = leader-is b.role held (role ∙ is);
  leads = leader-is b.role held (role ∙ is);
  fed = refl;
  basis = refl;
  hold = refl;
  known = refl;
  informed = refl;
  told = stay-told b.outputs _ b.knows.failsafe.members sequence since
      (is_armable b.machine.watchdog.mode b.machine.watchdog.works);
}

nobody-is : (n : ℕ) → n == 0 ≡ true → n ≡ 0
nobody-is n e = grind (arith, nat_tests)

-- a leader with nobody to ask
alone-stays : (now : Ticks) (held : ℕ) (o : Outcome) → o.role ≡ Leader held → may_stay o.knows ≡ true
    → (others_known o.knows).bits == 0 ≡ true
    → StaysAlone now o (stays_alone now (others_known o.knows) (waiting_no_more o))
alone-stays now held o is may nobody =
    let b : Outcome =
    record (waiting_no_more o) {
      knows =
          record (waiting_no_more o).knows { failsafe = asked (others_known o.knows) now };
    } in
    let so = fed-so now (lease_span o.knows.settings) o.knows.sequence now held o b is refl refl refl refl in
    record {
      fed = record {
        leader = so.leader;
        leads = so.leads;
        fed = so.fed;
        basis = so.basis;
        hold = so.hold;
        known = so.known;
        informed = so.informed;
        told = so.told;
      };
      may = may;
      nobody = nobody-is (others_known o.knows).bits nobody;
    }

-- a passed deadline leaves the machine as it was, or a leader stays with nobody to ask
abbrev OverdueMay : Ticks → Outcome → Outcome → Type 0
OverdueMay now o after = Stays o after ⊎ StaysAlone now o after

overdue-may : (now : Ticks) (o : Outcome) → Fits o.role (live o.machine.server.state) → OverdueMay now o (overdue now o)
overdue-may now o fits = overdue-when (OverdueMay now o) now o (record {
  kept = inl stays;
  quiet = inl (record { watchdog = Same refl; basis = refl; hold = refl });
  leader = λ held _ _. inl (record { watchdog = Same refl; basis = refl; hold = refl });
  seeks = λ held _ _ _. inl (record { watchdog = Same refl; basis = refl; hold = refl });
  alone = λ held is _ may nobody. inr (alone-stays now held o is may nobody);
  silent = λ held _ _. inl (record { watchdog = Same refl; basis = refl; hold = refl });
  unleased = λ _ _. inl (record { watchdog = Same refl; basis = refl; hold = refl });
  judges = λ _ _. inl (judged-stays now o);
  ready = λ held is. inl (postpones-stays o held (waiting_no_more o) is fits refl);
  checks = λ held _. let rows = handover-stays now held o o refl in record {
    kept = inl rows.kept;
    clears = λ compared. inl (rows.clears compared);
    hands = λ candidate. inl (rows.hands candidate);
  };
})

-- the turn behind it
turn-alone : (now : Ticks) (o x : Outcome) → StaysAlone now o x → StaysAlone now o (turned now x)
turn-alone now o x alone = turn-by (StaysAlone now o) now x (record {
  kept = alone;
  quiet = with-told (record x { knows = turn_noted now x.knows }) refl refl refl refl (λ told. told);
  reads = λ _. with-told (reading now (record x { knows = turn_noted now x.knows })) refl refl refl refl
      (λ told. one-before is_feeding x.outputs _ told);
})
  where
    with-told : (y : Outcome) → y.role ≡ x.role → y.machine ≡ x.machine → y.knows.known ≡ x.knows.known
        → y.knows.informed ≡ x.knows.informed
        → (has_one is_feeding x.outputs ≡ true → has_one is_feeding y.outputs ≡ true) → StaysAlone now o y
    with-told y role machine known informed told = record {
      fed = record {
        leader = alone.fed.leader;
        leads = ap is_leader role ∙ alone.fed.leads;
        fed = ap (λ (m : Machine). m.watchdog) machine ∙ alone.fed.fed;
        basis = ap (λ (m : Machine). m.by_failsafe) machine ∙ alone.fed.basis;
        hold = ap (λ (m : Machine). m.hold) machine ∙ alone.fed.hold;
        known = known ∙ alone.fed.known;
        informed = informed ∙ alone.fed.informed;
        told = λ armable. told (alone.fed.told armable);
      };
      may = alone.may;
      nobody = alone.nobody;
    }

-- what was fed behind what comes before the rows was fed from the beginning
fed-from : (now ttl : Ticks) (o b after : Outcome) → IsLedOn o b → IsFedByFailsafe now ttl b after
    → IsFedByFailsafe now ttl o after
fed-from now ttl o b after led so = record {
  leader = ap is_leader (sym led.role) ∙ so.leader;
  leads = so.leads;
  fed = so.fed ∙ ap (λ (m : Machine). fed now.0 ttl.0 m.watchdog) led.machine;
  basis = so.basis ∙ ap (λ (m : Machine). is_armable m.watchdog.mode m.watchdog.works || m.by_failsafe) led.machine;
  hold = so.hold ∙ ap (λ (m : Machine). m.hold) led.machine;
  known = so.known ∙ led.known;
  informed = so.informed ∙ led.informed;
  told = λ armable. so.told (ap (λ (m : Machine). is_armable m.watchdog.mode m.watchdog.works) led.machine ∙ armable);
}

alone-from : (now : Ticks) (o b after : Outcome) → LedOn o b → StaysAlone now b after → StaysAlone now o after
alone-from now o b after leads alone =
    let led : IsLedOn o b = leads alone.fed.leader in
    record {
      fed = subst (λ (c : Config). IsFedByFailsafe now (lease_span c) o after) led.settings
          (fed-from now (lease_span b.knows.settings) o b after led alone.fed);
      may = may-as led alone.may;
      nobody = nobody-as led alone.nobody;
    }
  where
    may-as : IsLedOn o b → may_stay b.knows ≡ true → may_stay o.knows ≡ true
    may-as led may =
        sym (ap (λ (c : Config). c.failsafe_mode && b.knows.confirmed) led.settings
        ∙ ap (λ (t : Bool). o.knows.settings.failsafe_mode && t) led.confirmed)
        ∙ may

    nobody-as : IsLedOn o b → (others_known b.knows).bits ≡ 0 → (others_known o.knows).bits ≡ 0
    nobody-as led nobody =
        sym (ap (λ (set : MemberSet). (without_member set b.knows.who.me).bits) led.known
        ∙ ap (λ (who : Who). (without_member o.knows.known who.me).bits) led.who)
        ∙ nobody

-- a wake leaves the machine as it was, or a leader stays with nobody to ask
pub wake-leaves : (now : Ticks) (o : Outcome) → LeavesMachine o (woken now o) ⊎ StaysAlone now o (woken now o)
wake-leaves now o =
    wake-by (λ (x : Outcome). LeavesMachine o x ⊎ StaysAlone now o x) now o (inl (before-leaves now o))
    (by (overdue-may now b (given-up-fits now o)))
  where
    b : Outcome
    b = given_up now (reconciled now o)

    by : OverdueMay now b (overdue now b)
        → LeavesMachine o (turned now (overdue now b)) ⊎ StaysAlone now o (turned now (overdue now b))
    by (inl stay) =
        inl (behind o (overdue now b) (turned now (overdue now b))
        (behind o b (overdue now b) (given-up-leaves now o) stay (overdue-brings now b))
        (turn-stays now (overdue now b)) (turn-brings now (overdue now b)))
    by (inr alone) = inr
        (alone-from now o b (turned now (overdue now b)) (given-up-led now o) (turn-alone now b (overdue now b) alone))

-- ---- an answer to a failsafe request
pub answer-leaves : (now : Ticks) (from : MemberId) (sequence : ℕ) (accepted : Bool) (sent : Ticks) (o : Outcome)
    → LeavesMachine o (failsafe_answered now from sequence accepted sent (reconciled now o))
    ⊎ StaysByWord now from sent o (failsafe_answered now from sequence accepted sent (reconciled now o))
answer-leaves now from sequence accepted sent o =
    by (failsafe-answered-by (λ (x : Outcome). Stays b x ⊎ StaysByWord now from sent b x) now from sequence
    accepted sent b (record {
      kept = inl stays;
      quiet = inl (record { watchdog = Same refl; basis = refl; hold = refl });
      counts = λ held _. inl (record { watchdog = Same refl; basis = refl; hold = refl });
      stays = λ held is waited waits asks since all in_time. inr (record {
        waited = waited;
        is = waits;
        staying = asks;
        fed = fed-so' held is waited since;
        in_time = in_time;
        since = since;
        all = all;
      });
      counts_late = λ held _ _. inl (record { watchdog = Same refl; basis = refl; hold = refl });
      fails = λ held _ _. inl (record { watchdog = Same refl; basis = refl; hold = refl });
    }))
  where
    b : Outcome
    b = reconciled now o

    fed-so' : (held : ℕ) → b.role ≡ Leader held → (waited : PendingQuestion) (since : Ticks)
        → IsFedByFailsafe now waited.ttl b (staying now waited.ttl waited.sequence since (counting from sent b))
    fed-so' held is waited since =
        let so = fed-so now waited.ttl waited.sequence since held b (counting from sent b) is refl refl refl refl in
        record {
          leader = so.leader;
          leads = so.leads;
          fed = so.fed;
          basis = so.basis;
          hold = so.hold;
          known = so.known;
          informed = so.informed;
          told = so.told;
        }

    after : Outcome
    after = failsafe_answered now from sequence accepted sent b

    by : Stays b after ⊎ StaysByWord now from sent b after → LeavesMachine o after ⊎ StaysByWord now from sent o after
    by (inl stay) = inl (behind o b after (before-leaves now o) stay (staying-brings now from sequence accepted sent b))
    by (inr word) = let led : IsLedOn o b = before-led now o word.fed.leader in inr (record {
      waited = word.waited;
      is = sym led.waited ∙ word.is;
      staying = word.staying;
      fed = fed-from now word.waited.ttl o b after led word.fed;
      in_time = λ unpaused. ap (λ (m : Machine). comes_late now word.waited m) (sym led.machine)
          ∙ word.in_time (ap (λ (c : Config). c.pause) led.settings ∙ unpaused);
      since = word.since;
      all = ap (λ (ask : Ask). moment_of_all (heard ask from true sent)) (sym led.failsafe) ∙ word.all;
    })

-- ---- a failsafe request
pub follower-is : (role : RoleFacts) → is_follower (word_of role) ≡ true → role ≡ Follower
follower-is Follower e = refl
follower-is (Holder held) e = absurd (no-way e)
follower-is (Ready held) e = absurd (no-way e)
follower-is (Leader held) e = absurd (no-way e)
follower-is (Ending held why) e = absurd (no-way e)
follower-is Unleased e = absurd (no-way e)

not-true : (b : Bool) → not b ≡ true → b ≡ false
not-true true e = absurd (no-way e)
not-true false e = refl

-- who acknowledges another member's request holds for its span, whatever it puts out
acknowledging : (now : Ticks) (from : MemberId) (sequence : ℕ) (ttl : Ticks) (o : Outcome) (outs : List Output)
    → may_hold (shown now (reconciled now o)) (awaits_lease (reconciled now o).knows.waited) ≡ true
    → Acknowledges now ttl o (record (holding_for now from sequence ttl (reconciled now o)) { outputs = outs })
acknowledging now from sequence ttl o outs may =
    let b : Outcome = reconciled now o in
    let parts = both-true (is_follower (word_of b.role)) (not (awaits_lease b.knows.waited)) may in
    let held : Outcome = record (holding_for now from sequence ttl b) { outputs = outs } in
    record {
      deadline = same-behind o b held (before-leaves now o).deadline refl (same-role b held refl (λ e. e));
      basis = (before-leaves now o).basis;
      hold = ap (λ (hold : Option Ticks). prolonged_to (span_after now ttl) hold) (before-leaves now o).hold;
      follower = follower-is b.role parts.0;
      waits = not-true (awaits_lease b.knows.waited) parts.1;
    }

pub request-leaves : (now : Ticks) (from : MemberId) (incarnation sequence : ℕ) (ttl : Ticks) (o : Outcome)
    → LeavesMachine o (failsafe_asked now from incarnation sequence ttl (reconciled now o))
    ⊎ Acknowledges now ttl o (failsafe_asked now from incarnation sequence ttl (reconciled now o))
request-leaves now from incarnation sequence ttl o = failsafe-asked-by
    (λ (x : Outcome). LeavesMachine o x ⊎ Acknowledges now ttl o x) now from incarnation sequence ttl b
    (λ may.
    inr (acknowledging now from sequence ttl o
    (answering_failsafe from incarnation sequence true (holding_for now from sequence ttl b)).outputs may))
    (inl (behind o b (answering_failsafe from incarnation sequence false b) (before-leaves now o)
    (record { watchdog = Same refl; basis = refl; hold = refl })
    (same-role b (answering_failsafe from incarnation sequence false b) refl (λ e. e))))
  where
    b : Outcome
    b = reconciled now o

-- what an operator asks leaves watchdog and hold; whom another member asks to hold may do so
operated-as : (now : Ticks) (request : ℕ) (asked : OperatorRequest) (o : Outcome)
    → LeavesMachine o (operated now request asked (reconciled now o))
    ⊎ AcknowledgesOperated now asked o (operated now request asked (reconciled now o))
operated-as now request (requests.Failover kind failover) o =
    inl (acting-leaves now request (requests.Failover kind failover) o
    (record { watchdog = Same refl; basis = refl; hold = refl }))
operated-as now request (requests.Configuration config) o =
    inl (acting-leaves now request (requests.Configuration config) o
    (record { watchdog = Same refl; basis = refl; hold = refl }))
operated-as now request requests.Restart o =
    inl (acting-leaves now request requests.Restart o (record { watchdog = Same refl; basis = refl; hold = refl }))
operated-as now request requests.Reinit o =
    inl (acting-leaves now request requests.Reinit o (record { watchdog = Same refl; basis = refl; hold = refl }))
operated-as now request (requests.Hold from ttl) o =
    asked-to-hold-by (λ (x : Outcome). LeavesMachine o x ⊎ Acknowledges now span o x) now request span b
    (λ text may. inr (acknowledging now b.knows.who.me unnumbered span o _ may))
    (λ text.
    inl (behind o b _ (before-leaves now o) (record { watchdog = Same refl; basis = refl; hold = refl })
    (same-role b _ refl (λ e. e))))
  where
    span : Ticks
    span = record { 0 = ttl }

    b : Outcome
    b = reconciled now o

pub operated-leaves : (now : Ticks) (action : OperatorAction) (o : Outcome)
    → LeavesMachine o (operated now action.request action.asked (reconciled now o))
    ⊎ AcknowledgesOperated now action.asked o (operated now action.request action.asked (reconciled now o))
operated-leaves now action o = operated-as now action.request action.asked o
