-- Whoever comes to lead with a live server notes where its log ends.
use Rattle.std.proofs.Common.{◌≡◌, ℕ, Bool, true, false, List, Option, None, Some, refl, sym, subst, ap, ◌∙◌}
use Rattle.pat_base.specs.declared.ticks.Ticks.{Ticks}
use Rattle.pat_base.specs.ServerState.{live}
use Rattle.lease_store.specs.declared.granted.Granted.{Granted}
use Rattle.wal_model.specs.declared.entry.HistoryPoint.{HistoryPoint}
use Rattle.cluster_view.specs.Snapshots.{SnapshotFacts}
use Rattle.agent_model.specs.declared.heard.Heard.{Heard}
use Rattle.agent_model.specs.declared.heard.Heard.TheVariants as heards
use Rattle.agent_model.specs.declared.why.Why.{Why}
use Rattle.agent_model.specs.declared.why.Why.TheVariants.{HandOver, Lost}
use Rattle.agent_model.specs.Acting.{arming, is_refusing}
use Rattle.agent_model.specs.Agents.{RoleFacts, Follower, Holder, Ready, Leader, Ending, Unleased, Outcome, is_leader}
use Rattle.agent_model.specs.Decisions.{granted, may_create, takes_over, unleased_unarmed}
use Rattle.agent_model.specs.Fits.{Fits}
use Rattle.agent_model.specs.Operators.{learned, looked}
use Rattle.agent_model.specs.Reconciling.{has_ended, reconciled}
use Rattle.agent_model.specs.Snapshots.{informed}
use Rattle.agent_model.specs.Table.{granted_any, step}
use Rattle.agent_cases.proofs.Rows.{before-by, if-cases}
use Rattle.agent_cases.proofs.Grants.{granted-any-by, granted-by}
use Rattle.agent_roles.proofs.Fitting.{before-fits}
use Rattle.agent_roles.proofs.Living.{no-way}
use Rattle.agent_commit_law.proofs.CommitIdling.{Idle, answered-idle, any-refused-idle, asked-idle, before-idle, got-idle, looked-idle, operated-idle, stay-answered-idle, stay-asked-idle, wake-idle}

-- where it leads, it has noted where the log of this server ends
abbrev pub NotesEnd : Outcome → Outcome → Type 0
NotesEnd o x = is_leader x.role ≡ true → x.knows.noted ≡ o.machine.server.end

unled : (o x : Outcome) → is_leader x.role ≡ false → NotesEnd o x
unled o x not leads = absurd (no-way (sym not ∙ leads))

-- who may ask for a free key, or is about to begin, has no live server
not-asking : (role : RoleFacts) (lives : Bool) → Fits role lives → lives ≡ true → may_create role ≡ true → ⊥
not-asking Follower lives fits are may = no-way (sym fits ∙ are)
not-asking (Holder revision) lives fits are may = no-way (sym fits ∙ are)
not-asking (Ready revision) lives fits are may = no-way may
not-asking (Leader revision) lives fits are may = no-way may
not-asking (Ending revision why) lives fits are may = no-way may
not-asking Unleased lives fits are may = no-way may

not-ready : (role : RoleFacts) (lives : Bool) (revision : ℕ) → Fits role lives → lives ≡ true
    → role ≡ Ready revision → ⊥
not-ready role lives revision fits are is = no-way (sym (subst (λ (r : RoleFacts). Fits r lives) is fits) ∙ are)

module _ (now : Ticks) (sequence : ℕ) (grant : Granted) (snapshot : SnapshotFacts) (b : Outcome)
    (fits : Fits b.role (live b.machine.server.state)) (lives : live b.machine.server.state ≡ true)
    (not : is_leader b.role ≡ false) where
  abbrev Told : Outcome
  Told = record b { knows = informed snapshot b.knows }

  leading : (held : ℕ) → b.role ≡ Leader held → ⊥
  leading held is = no-way (sym not ∙ ap is_leader is)

  asking : may_create b.role ≡ true → ⊥
  asking may = not-asking b.role (live b.machine.server.state) fits lives may

  ready : (revision : ℕ) → b.role ≡ Ready revision → ⊥
  ready revision is = not-ready b.role (live b.machine.server.state) revision fits lives is

  own-notes : NotesEnd b (granted now sequence grant snapshot b)
  own-notes = granted-by (NotesEnd b) now sequence grant snapshot b (unled b b not) (unled b b not)
      (λ asked waits decision. record {
        other = unled b Told not;
        leader = λ held is. absurd (leading held is);
        unleased = λ is. if-cases (NotesEnd b) (is_refusing b.machine.watchdog.mode b.machine.watchdog.works)
            (unleased_unarmed now Told) (takes_over now grant.revision (arming now asked.ttl Told))
            (λ _ leads. absurd (no-way (sym not ∙ leads))) (λ _ leads. refl);
        takes = λ may. absurd (asking may);
        keeps_late = λ held is. absurd (leading held is);
        ends_late = λ is leads. absurd (no-way (sym not ∙ leads));
        refuses_late = λ may. absurd (asking may);
        returns_late = λ may. absurd (asking may);
        leads_in_pause = λ renews paused held is. absurd (leading held is);
        unleased_in_pause = λ renews paused is leads. refl;
        takes_in_pause = λ renews paused may. absurd (asking may);
      })
      (λ after old. old)
      (record {
        other = unled b Told not;
        begins = λ revision is. absurd (ready revision is);
        postpones = λ revision is. absurd (ready revision is);
        settles = λ required leads. absurd (no-way (sym not ∙ leads));
      })

  grant-notes : NotesEnd b (granted_any now sequence grant snapshot b)
  grant-notes = granted-any-by (NotesEnd b) now sequence grant snapshot b (unled b b not)
      (record {
        kept = unled b (learned snapshot b) not;
        answers = λ request answer leads. absurd (no-way (sym not ∙ leads));
      })
      own-notes

-- ---- behind what precedes the input's own rows
ended-server : (why : Why) (held : ℕ) (o : Outcome)
    → (has_ended why held o).machine.server ≡ o.machine.server
ended-server HandOver held o = refl
ended-server Lost held o = refl

before-server : (now : Ticks) (o : Outcome) → (reconciled now o).machine.server ≡ o.machine.server
before-server now o = before-by (λ (x : Outcome). x.machine.server ≡ o.machine.server) now o (record {
  kept = λ _. refl;
  leader = λ _ _ _. refl;
  ending = λ held why _ _. ended-server why held o;
  follower = λ _ _. refl;
  holder = λ _ _ _. refl;
  ready = λ _ _ _. refl;
  unleased = λ _ _. refl;
})

false-if : (b : Bool) → (b ≡ true → ⊥) → b ≡ false
false-if true never = absurd (never refl)
false-if false never = refl

module _ (now : Ticks) (points : List HistoryPoint) (o : Outcome) (not : is_leader o.role ≡ false)
    (lives : live o.machine.server.state ≡ true) where
  abbrev Before : Outcome
  Before = reconciled now o

  before-not : is_leader Before.role ≡ false
  before-not = false-if (is_leader Before.role) (λ leads. no-way (sym not ∙ (before-idle None now o).leads leads))

  idle-notes : (told : Option SnapshotFacts) (x : Outcome) → Idle told Before x → is_leader x.role ≡ true → ⊥
  idle-notes told x idle leads = no-way (sym before-not ∙ idle.leads leads)

  -- whoever leads behind an input, where it didn't before, with a server that was live, has noted where its log ends
  pub taking-notes : (heard : Heard) → NotesEnd o (step now points heard o)
  taking-notes heards.Wake leads = absurd (idle-notes None (step now points heards.Wake o) (wake-idle None now o) leads)
  taking-notes (heards.ReadAnswered sequence snapshot) leads =
      let looks : Outcome = looked sequence snapshot Before in
      absurd (no-way (sym before-not ∙ (looked-idle (Some snapshot) sequence snapshot Before).leads
      ((got-idle now points sequence snapshot looks).leads leads)))
  taking-notes (heards.Granted sequence grant snapshot) leads =
      grant-notes now sequence grant snapshot Before (before-fits now o)
      (ap (λ s. live s.state) (before-server now o) ∙ lives) before-not leads
      ∙ ap (λ s. s.end) (before-server now o)
  taking-notes (heards.Mismatch sequence key found) leads =
      absurd (idle-notes None _ (any-refused-idle None now sequence Before) leads)
  taking-notes (heards.Asked from incarnation sequence) leads =
      absurd (idle-notes None _ (asked-idle None from incarnation sequence Before) leads)
  taking-notes (heards.Answered sequence answer) leads =
      absurd (idle-notes None _ (answered-idle None now sequence answer Before) leads)
  taking-notes (heards.FailsafeAsked from incarnation sequence ttl) leads =
      absurd (idle-notes None _ (stay-asked-idle None now from incarnation sequence ttl Before) leads)
  taking-notes (heards.FailsafeAnswered from sequence accepted sent) leads =
      absurd (idle-notes None _ (stay-answered-idle None now from sequence accepted sent Before) leads)
  taking-notes (heards.Operated action) leads =
      absurd (idle-notes None _ (operated-idle None now action.request action.asked Before) leads)
