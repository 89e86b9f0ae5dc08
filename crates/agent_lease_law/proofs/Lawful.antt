-- Each input of the table is lawful.
use Rattle.std.proofs.Common.{◌≡◌, ◌⊎◌, ℕ, ◌≤◌, ◌&&◌, ◌||◌, Bool, true, false, is_some, if◌then◌else◌, List, [], ◌∷◌, Option, Some, None, All, Contains, refl, sym, subst, ap, ◌∙◌, arith, inl, inr}
use Rattle.std.proofs.lemmas.List.Elements.{All-cons, All-head, All-nil, All-tail, All-weaker}
use Rattle.std.proofs.lemmas.Bool.{false_from_ne_true, true_from_ne_false}
use Rattle.pat_base.specs.declared.member_id.MemberId.{MemberId}
use Rattle.pat_base.specs.declared.member_set.MemberSet.{MemberSet}
use Rattle.pat_base.specs.declared.ticks.Ticks.{Ticks}
use Rattle.pat_base.specs.ServerState.{live}
use Rattle.store_keys.specs.declared.txn.Expected.{Expected}
use Rattle.store_keys.specs.declared.txn.Txn.{Txn}
use Rattle.store_keys.specs.declared.txn.Txn.TheVariants as txns
use Rattle.store_keys.specs.declared.txn.LeaseTxn.TheVariants as lease_txns
use Rattle.cluster_view.specs.Snapshots.{SnapshotFacts}
use Rattle.event_book.specs.declared.message.Body.{Body}
use Rattle.event_book.specs.declared.message.Body.TheVariants as bodies
use Rattle.leader_key.specs.Watchdog.{WatchdogFacts}
use Rattle.lease_model.specs.Leases.{LeaderSeen, FailsafeKey, FailsafeRequest, Query, Read, Flying}
use Rattle.lease_model.specs.States.{Agent as AgentSeen, FailsafeCheck, Machine as MachineSeen, State, is_ready as law_ready, Acts as LawActs}
use Rattle.lease_model.specs.Inputs.{AgentInput, HeardLeader, HeardFailsafe, FedKnown, WatchdogMay, Kept, Removed, Undone, Owns, MayAcknowledge, MayCarryIf, MayCreate, MayQuery, MayRequestFailsafe, MaySend, MayTake, ContinuesCheck, BeginsCheck, IsLawful}
use Rattle.lease_model.specs.Past.{members_if, query_of}
use Rattle.lease_model.proofs.Tools.{some-is, none-some}
use Rattle.agent_model.specs.declared.output.Output.{Output}
use Rattle.agent_model.specs.declared.output.Output.TheVariants as outputs
use Rattle.agent_model.specs.declared.output.Outgoing.TheVariants as outgoing
use Rattle.agent_model.specs.declared.output.Target.TheVariants as targets
use Rattle.agent_model.specs.declared.who.Who.{Who}
use Rattle.failsafe.specs.declared.asks.Ask.{Ask}
use Rattle.agent_model.specs.declared.knowledge.PendingQuestion.{PendingQuestion}
use Rattle.agent_model.specs.declared.knowledge.Question.{Question}
use Rattle.agent_model.specs.declared.knowledge.Question.TheVariants.{Reading, ComparingPositions, Creating, Renewing, Claiming, Syncing, FindingCandidate, StayingPrimary}
use Rattle.agent_model.specs.Agents.{Outcome, is_ready}
use Rattle.agent_model.specs.Decisions.{asks_lease}
use Rattle.agent_model.specs.Outputs.{has_one}
use Rattle.agent_model.specs.StayingPrimary.{is_staying}
use Rattle.agent_model.specs.Fits.{Fits}
use Rattle.agent_lease_law.specs.Lawful.{StandsIn, query_in, IsSentBy, is_yes, request_heard, request_taken, IsInputOf}
use Rattle.agent_lease_law.specs.Lawful.IsSentBy.{AsksStore, AsksMember, SaysYes}
use Rattle.agent_sending.specs.Modes.{KeepsMode}
use Rattle.agent_roles.specs.Powers.{Acts, BringsNothing, DeadlineMay, LeavesMachine, leads, lease_of}
use Rattle.agent_roles.specs.Powers.DeadlineMay.{Kept as DeadlineKept, Removed as DeadlineRemoved, Undone as DeadlineUndone}
use Rattle.agent_roles.specs.Seen.{check_seen, lease_asked, leader_seen_if, failsafe_seen_if, agent_seen, moment_seen, hold_seen, machine_seen}
use Rattle.agent_roles.proofs.GoingOn.{Onward}
use Rattle.agent_roles.proofs.Fitting.{ready-ended}
use Rattle.agent_roles.proofs.Leaving.{acts-before}
use Rattle.agent_roles.proofs.Living.{no-way}
use Rattle.agent_sending.proofs.MaySend.{Grounds, CarriesSetIf, MayTransact, MayAskStore, SendsNew, MayPut, AllMay}

-- what the law sees of an agent that stands in this state, and of one after an input
abbrev pub was_of : Outcome → AgentSeen
was_of o = agent_seen o.role o.knows

pub stands-agent : (s : State) (m runs : ℕ) (now : Ticks) (o : Outcome) → StandsIn s m runs now o
    → (s.members m).agent ≡ Some (was_of o)
stands-agent s m runs now o stands = ap (λ (x : MachineSeen). x.agent) stands.member

-- who acts in the law acts in the table, and the other way round
pub acts-seen : (machine : MachineSeen) (runs : ℕ) (o : Outcome)
    → machine ≡ machine_seen o.role o.knows o.machine runs → LawActs machine → Acts o
acts-seen machine runs o is (inl lives) = inl (sym (ap (λ (x : MachineSeen). x.live) is) ∙ lives)
acts-seen machine runs o is (inr ready) = inr (sym (ap (λ (x : MachineSeen). law_ready x.agent) is) ∙ ready)

pub seen-acts : (machine : MachineSeen) (runs : ℕ) (o : Outcome)
    → machine ≡ machine_seen o.role o.knows o.machine runs → Acts o → LawActs machine
seen-acts machine runs o is (inl lives) = inl (ap (λ (x : MachineSeen). x.live) is ∙ lives)
seen-acts machine runs o is (inr ready) = inr (ap (λ (x : MachineSeen). law_ready x.agent) is ∙ ready)

-- a question for a lease isn't one for acknowledgements
pub lease-only : (question : Question) → asks_lease question ≡ true → is_staying question ≡ false
lease-only Creating e = refl
lease-only Renewing e = refl
lease-only StayingPrimary e = absurd (no-way e)
lease-only Reading e = refl
lease-only ComparingPositions e = refl
lease-only Claiming e = refl
lease-only (Syncing settling) e = refl
lease-only FindingCandidate e = refl

-- a set that a renewal carries
carry-set : (s : State) (runs : ℕ) (input : AgentInput) (after : Outcome) (sequence : ℕ)
    → input.machine ≡ machine_seen after.role after.knows after.machine runs
    → (after.knows.settings.failsafe_mode ≡ true → s.declared.failsafe ≡ true)
    → lease_asked after.knows.waited ≡ Some sequence
    → (carried : Option MemberSet) → CarriesSetIf after carried → MayCarryIf s input (was_of after) (members_if carried)
carry-set s runs input after sequence is mode waits None carries = tt
carry-set s runs input after sequence is mode waits (Some set) carries = record {
  mode = mode carries.mode;
  live = ap (λ (x : MachineSeen). x.live) is ∙ carries.live;
  by_grant = subst (λ (x : MachineSeen). (x.deadline ≡ None) ⊎ (x.by_failsafe ≡ false)) (sym is)
      (by-grant after.machine.watchdog.deadline after.machine.by_failsafe carries.by_grant);
  failsafe_check = no-check after.knows.failsafe after.knows.waited sequence waits;
  known = carries.known;
}
  where
    by-grant : (deadline : Option Ticks) (basis : Bool) → is_some deadline && basis ≡ false
        → (moment_seen deadline ≡ None) ⊎ (basis ≡ false)
    by-grant None basis e = inl refl
    by-grant (Some deadline) basis e = inr e

    asks-so : (asks : Bool) (number n : ℕ) → (if asks then Some number else None) ≡ Some n → asks ≡ true
    asks-so true number n e = refl
    asks-so false number n e = absurd (none-some n e)

    no-check : (ask : Ask) (waited : Option PendingQuestion) (n : ℕ) → lease_asked waited ≡ Some n
        → check_seen ask waited ≡ None
    no-check ask None n e = absurd (none-some n e)
    no-check ask (Some one) n e = rw (lease-only one.question (asks-so (asks_lease one.question) one.sequence n e)) refl

-- what is needed of the grounds on which an input sends
pub record AreLawfulGrounds (s : State) (m : ℕ) (input : AgentInput) (G : Grounds) (o after : Outcome) : Type 0 where
  pub owns : (revision : ℕ) → G.gives revision → Owns s m input.heard (was_of o) revision
  pub creates : (expected : Option Expected) → G.creates expected → MayCreate s m input.heard (was_of o) expected
  pub requests : (sequence : ℕ) (ttl : Ticks) → G.requests sequence ttl
      → MayRequestFailsafe s m (was_of o) (was_of after)
      (record { member = m; incarnation = o.knows.incarnation; sequence = sequence; ttl = ttl.0; sent = s.clock })
  pub acknowledges : (to : MemberId) (run sequence : ℕ) → has_one is_yes after.outputs ≡ true
      → G.acknowledges to run sequence
      → MayAcknowledge m input (record { member = to.number; incarnation = run; sequence = sequence; by = m })

-- what an input leaves, as the law sees it
pub record LeavesSeen (s : State) (m runs : ℕ) (input : AgentInput) (after : Outcome) : Type 0 where
  pub me : after.knows.who.me.number ≡ m
  pub machine : input.machine ≡ machine_seen after.role after.knows after.machine runs
  pub mode : after.knows.settings.failsafe_mode ≡ true → s.declared.failsafe ≡ true

-- a request
txn-query : (s : State) (m runs : ℕ) (input : AgentInput) (G : Grounds) (o after : Outcome) (sequence : ℕ)
    → LeavesSeen s m runs input after → AreLawfulGrounds s m input G o after → (txn : Txn)
    → MayTransact G o after sequence txn → MayQuery s m input (was_of o) (was_of after) sequence (query_of txn)
txn-query s m runs input G o after sequence seen grounds (txns.Lease (lease_txns.Create info ttl failsafe sync)) may =
    grounds.creates failsafe may
txn-query s m runs input G o after sequence seen grounds
    (txns.Lease (lease_txns.Renew revision info ttl status row failsafe)) may = (
      subst (λ (x : ℕ). leader_seen_if after.knows.seen ≡ Some (record { holder = x; revision = revision }))
          seen.me may.0,
      may.1,
      carry-set s runs input after sequence seen.machine seen.mode may.1 failsafe may.2,
    )
txn-query s m runs input G o after sequence seen grounds (txns.Lease (lease_txns.Release revision)) may =
    (λ a. may.0 (acts-seen input.machine runs after seen.machine a), owns-either may.1)
  where
    owns-either : (lease_of o.role ≡ Some revision) ⊎ G.gives revision → Owns s m input.heard (was_of o) revision
    owns-either (inl held) = inl held
    owns-either (inr given) = grounds.owns revision given
txn-query s m runs input G o after sequence seen grounds _ may = tt

-- a question
body-query : (s : State) (m runs : ℕ) (input : AgentInput) (G : Grounds) (o after : Outcome) (sequence : ℕ)
    → LeavesSeen s m runs input after → AreLawfulGrounds s m input G o after → (body : Body) (query : Query)
    → query_in body ≡ Some query → MayAskStore G o after sequence body
    → MayQuery s m input (was_of o) (was_of after) sequence query
body-query s m runs input G o after sequence seen grounds bodies.Read query is may =
    subst (λ (q : Query). MayQuery s m input (was_of o) (was_of after) sequence q) (some-is Read query is) tt
body-query s m runs input G o after sequence seen grounds (bodies.Request txn) query is may =
    subst (λ (q : Query). MayQuery s m input (was_of o) (was_of after) sequence q)
    (some-is (query_of txn) query is) (txn-query s m runs input G o after sequence seen grounds txn may)
body-query s m runs input G o after sequence seen grounds _ query is may = absurd may

-- an output that is among those of the input may be put
put-among : (G : Grounds) (o after : Outcome) (output : Output) → AllMay G o after
    → Contains after.outputs output → MayPut G o after output
put-among G o after output all among = subst (λ (x : Output). MayPut G o after x) among.2 (all among.0 output among.1)

-- where one says yes, one of the outputs does
none-yes : (outs : List Output) → has_one is_yes outs ≡ false → All (λ (x : Output). is_yes x ≡ false) outs
none-yes [] e = All-nil (λ (x : Output). is_yes x ≡ false)
none-yes (output ∷ outs) e =
    All-cons (λ (x : Output). is_yes x ≡ false) output outs (neither (is_yes output) (has_one is_yes outs) e).0
    (none-yes outs (neither (is_yes output) (has_one is_yes outs) e).1)
  where
    neither : (a b : Bool) → a || b ≡ false → (a ≡ false) × (b ≡ false)
    neither true b e = absurd (no-way (sym e))
    neither false b e = (refl, e)

one-yes : (outs : List Output) (output : Output) → Contains outs output → is_yes output ≡ true
    → has_one is_yes outs ≡ true
one-yes outs output among says = true_from_ne_false (has_one is_yes outs)
    (λ none.
    no-way (sym (subst (λ (x : Output). is_yes x ≡ false) among.2 (none-yes outs none among.0 output among.1)) ∙ says))

-- a message that the input sends
sent-may : (s : State) (m runs : ℕ) (input : AgentInput) (G : Grounds) (o after : Outcome) (flying : Flying)
    → LeavesSeen s m runs input after → AreLawfulGrounds s m input G o after → AllMay G o after
    → IsSentBy m o.knows.incarnation s.clock after.outputs flying → MaySend s m input (was_of o) (was_of after) flying
sent-may s m runs input G o after flying seen grounds all (AsksStore sequence body query among query_is is) =
    let may : SendsNew G o after sequence body =
    put-among G o after (outputs.Message (outgoing.Send targets.Store sequence body)) all among in
    subst (λ (x : Flying). MaySend s m input (was_of o) (was_of after) x) (sym is)
    (record {
      member = refl;
      incarnation = refl;
      later = may.later;
      counted = may.counted;
      sent = refl;
      query = body-query s m runs input G o after sequence seen grounds body query query_is may.asks;
    })
sent-may s m runs input G o after flying seen grounds all (AsksMember to sequence ttl among is) =
    subst (λ (x : Flying). MaySend s m input (was_of o) (was_of after) x) (sym is)
    (grounds.requests sequence ttl
    (put-among G o after
    (outputs.Message (outgoing.Send (targets.Member to) sequence (bodies.FailsafeRequest ttl))) all among).2)
sent-may s m runs input G o after flying seen grounds all (SaysYes to run sequence among is) =
    subst (λ (x : Flying). MaySend s m input (was_of o) (was_of after) x) (sym is)
    (grounds.acknowledges to run sequence
    (one-yes after.outputs (outputs.Message (outgoing.FailsafeAnswer to run sequence true)) among refl)
    (put-among G o after (outputs.Message (outgoing.FailsafeAnswer to run sequence true)) all among refl))

-- what an input that goes on brings to be lawful
pub record Proper (s : State) (m : ℕ) (input : AgentInput) (told : Option SnapshotFacts) (G : Grounds)
    (o after : Outcome) : Type 1 where
  pub onward : Onward told o after
  pub watchdog : WatchdogMay s m input (was_of o) (was_of after)
  pub parted : is_ready after.role ≡ true → live after.machine.server.state ≡ false
  pub ready : is_ready after.role ≡ true → after.machine.by_failsafe ≡ false
  pub mode : KeepsMode s.declared.failsafe after.knows
  pub sends : AllMay G o after
  pub grounds : AreLawfulGrounds s m input G o after
  pub takes : (request : FailsafeRequest) → input.takes ≡ Some request → MayTake s input request
  pub check : (check : FailsafeCheck) → check_seen after.knows.failsafe after.knows.waited ≡ Some check
      → ContinuesCheck s m (was_of o) check ⊎ BeginsCheck s m (was_of o) (was_of after) check
  pub leads_by : leads after.role ≡ true → (leads o.role ≡ true) ⊎ FedKnown s m input (was_of after)
  pub lease : (revision : ℕ) → lease_of after.role ≡ Some revision → Owns s m input.heard (was_of o) revision
  pub failsafe : (key : FailsafeKey) → failsafe_seen_if told ≡ Some key → HeardFailsafe s input.heard key
  pub leader : (seen : LeaderSeen) → leader_seen_if told ≡ Some seen → HeardLeader s input.heard seen

no-shorter : (was now before-it after : ℕ) → was ≤ now → before-it ≡ was → after ≡ now → before-it ≤ after
no-shorter was now before-it after grows first second = omega (arith, grows, first, second)

pub lawful-of : (s : State) (m runs : ℕ) (input : AgentInput) (now : Ticks) (told : Option SnapshotFacts)
    (G : Grounds) (o after : Outcome) → StandsIn s m runs now o → IsInputOf s m runs o after input
    → Proper s m input told G o after → IsLawful s m input
lawful-of s m runs input now told G o after stands is p = record {
  was = was_of o;
  was_is = stands-agent s m runs now o stands;
  agent = was_of after;
  agent_is = ap (λ (x : MachineSeen). x.agent) is.machine;
  runs = ap (λ (x : MachineSeen). x.runs) is.machine ∙ sym (ap (λ (x : MachineSeen). x.runs) stands.member);
  incarnation = p.onward.incarnation;
  last = p.onward.last;
  watchdog = p.watchdog;
  hold = no-shorter (hold_seen o.machine.hold) (hold_seen after.machine.hold) (s.members m).hold input.machine.hold
      p.onward.hold (ap (λ (x : MachineSeen). x.hold) stands.member) (ap (λ (x : MachineSeen). x.hold) is.machine);
  takes = p.takes;
  parted = λ ready. ap (λ (x : MachineSeen). x.live) is.machine
      ∙ p.parted (sym (ap (λ (x : MachineSeen). law_ready x.agent) is.machine) ∙ ready);
  ready_by_grant = λ ready. ap (λ (x : MachineSeen). x.by_failsafe) is.machine
      ∙ p.ready (sym (ap (λ (x : MachineSeen). law_ready x.agent) is.machine) ∙ ready);
  gone = is.gone;
  flight = λ i flying e. elim (is.flight i flying e) [
    | inl there ↦ inl there
    | inr sent ↦ inr (sent-may s m runs input G o after flying (record {
      me = ap (λ (w : Who). w.me.number) p.onward.who ∙ stands.me;
      machine = is.machine;
      mode = p.mode.settings;
    }) p.grounds p.sends sent)
  ];
  failsafe_check = p.check;
  known = p.onward.known;
  leads = p.leads_by;
  informed =
      λ e. elim (p.onward.informed e) [ inl before-it ↦ inl before-it | inr new ↦ inr (new.0, p.failsafe new.0 new.1) ];
  failsafe =
      λ key e. elim (p.onward.failsafe key e) [ inl before-it ↦ inl before-it | inr new ↦ inr (p.failsafe key new) ];
  leader =
      λ seen e. elim (p.onward.leader seen e) [ inl before-it ↦ inl before-it | inr new ↦ inr (p.leader seen new) ];
  lease = p.lease;
  waits = p.onward.waits;
}

-- a watchdog that stays, where who acts after the input acted before
pub watchdog-kept : (s : State) (m runs : ℕ) (input : AgentInput) (now : Ticks) (o after : Outcome)
    → StandsIn s m runs now o → IsInputOf s m runs o after input → after.machine.watchdog ≡ o.machine.watchdog
    → after.machine.by_failsafe ≡ o.machine.by_failsafe → (LawActs input.machine → LawActs (s.members m))
    → WatchdogMay s m input (was_of o) (was_of after)
watchdog-kept s m runs input now o after stands is same basis acts =
    Kept (ap (λ (x : MachineSeen). x.deadline) is.machine
    ∙ (ap (λ (w : WatchdogFacts). moment_seen w.deadline) same
    ∙ sym (ap (λ (x : MachineSeen). x.deadline) stands.member)))
    (ap (λ (x : MachineSeen). x.by_failsafe) is.machine
    ∙ (basis ∙ sym (ap (λ (x : MachineSeen). x.by_failsafe) stands.member)))
    acts

-- what an input does to its watchdog that gives it no deadline, where who acts after it acted before
pub watchdog-by : (s : State) (m runs : ℕ) (input : AgentInput) (now : Ticks) (o after : Outcome)
    → StandsIn s m runs now o → IsInputOf s m runs o after input → DeadlineMay o after
    → after.machine.by_failsafe ≡ o.machine.by_failsafe → (Acts after → Acts o)
    → WatchdogMay s m input (was_of o) (was_of after)
watchdog-by s m runs input now o after stands is deadline basis acts-so = elim deadline [
  | DeadlineKept same ↦ watchdog-kept s m runs input now o after stands is same basis
      (λ acts.
      seen-acts (s.members m) runs o stands.member (acts-so (acts-seen input.machine runs after is.machine acts)))
  | DeadlineRemoved gone rests ↦ Removed (λ acts. rests (acts-seen input.machine runs after is.machine acts))
  | DeadlineUndone gone ready lives ↦ Undone (ap (λ (x : MachineSeen). law_ready x.agent) stands.member ∙ ready)
      (ap (λ (x : MachineSeen). x.live) stands.member ∙ lives)
]

-- where it brings nothing
pub watchdog-left : (s : State) (m runs : ℕ) (input : AgentInput) (now : Ticks) (o after : Outcome)
    → StandsIn s m runs now o → IsInputOf s m runs o after input → DeadlineMay o after
    → after.machine.by_failsafe ≡ o.machine.by_failsafe → BringsNothing o after
    → WatchdogMay s m input (was_of o) (was_of after)
watchdog-left s m runs input now o after stands is deadline basis brings =
    watchdog-by s m runs input now o after stands is deadline basis (λ acts. acts-before o after brings acts)

-- what an input without a grant does to it
pub watchdog-leaves : (s : State) (m runs : ℕ) (input : AgentInput) (now : Ticks) (o after : Outcome)
    → StandsIn s m runs now o → IsInputOf s m runs o after input → LeavesMachine o after
    → BringsNothing o after → WatchdogMay s m input (was_of o) (was_of after)
watchdog-leaves s m runs input now o after stands is leaves brings =
    watchdog-left s m runs input now o after stands is leaves.deadline leaves.basis brings

-- who is about to begin after an input that brings nothing was so before it, on a deadline that a grant set
pub ready-left : (s : State) (m runs : ℕ) (now : Ticks) (o after : Outcome) → StandsIn s m runs now o
    → BringsNothing o after → after.machine.by_failsafe ≡ o.machine.by_failsafe → is_ready after.role ≡ true
    → after.machine.by_failsafe ≡ false
ready-left s m runs now o after stands brings basis ready = basis ∙ stands.ready (brings.ready ready)

-- an input in which nothing is acknowledged takes no hold
silent-yes : (G : Grounds) (o after : Outcome)
    → ((to : MemberId) (run sequence : ℕ) → G.acknowledges to run sequence → ⊥) → (output : Output)
    → MayPut G o after output → is_yes output ≡ false
silent-yes G o after none (outputs.Message (outgoing.FailsafeAnswer to run sequence accepted)) may =
    refuses accepted may
  where
    refuses : (accepted : Bool) → (accepted ≡ true → G.acknowledges to run sequence) → accepted ≡ false
    refuses true may = absurd (none to run sequence (may refl))
    refuses false may = refl
silent-yes G o after none _ may = refl

no-yes : (outs : List Output) → All (λ output. is_yes output ≡ false) outs → has_one is_yes outs ≡ false
no-yes [] all = refl
no-yes (output ∷ outs) all = rw (All-head (λ (x : Output). is_yes x ≡ false) output outs all)
    (no-yes outs (All-tail (λ (x : Output). is_yes x ≡ false) output outs all))

pub takes-nothing : (s : State) (m runs : ℕ) (input : AgentInput) (G : Grounds) (o after : Outcome)
    → IsInputOf s m runs o after input → ((to : MemberId) (run sequence : ℕ) → G.acknowledges to run sequence → ⊥)
    → AllMay G o after → (request : FailsafeRequest) → input.takes ≡ Some request → MayTake s input request
takes-nothing s m runs input G o after is none all request takes =
    let no : has_one is_yes after.outputs ≡ false = no-yes after.outputs
    (All-weaker (MayPut G o after) (λ (x : Output). is_yes x ≡ false) (silent-yes G o after none) after.outputs all) in
    absurd (none-some request
    (sym (is.takes ∙ ap (λ (b : Bool). request_taken b (request_heard s.flight input.heard)) no) ∙ takes))

-- nobody is Ready over a live server
pub parted-by : (b after : Outcome) → Fits b.role (live b.machine.server.state) → BringsNothing b after
    → is_ready after.role ≡ true → live after.machine.server.state ≡ false
parted-by b after fits brings ready = false_from_ne_true (live after.machine.server.state)
    (λ lives.
    no-way (sym (ready-ended b.role (live b.machine.server.state) (brings.ready ready) fits) ∙ brings.live lives))
