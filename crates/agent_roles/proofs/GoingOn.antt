-- An agent goes on: of its questions, and of the keys that a snapshot tells.
use Rattle.std.proofs.Common.{◌≡◌, ◌⊎◌, ℕ, ◌+◌, ◌≤◌, ◌<◌, ◌==◌, ◌||◌, Bool, true, false, is_some, max, Option, Some, None, refl, sym, subst, ap, ◌∙◌, arith, inl, inr}
use Rattle.std.specs.Int.{bit_at}
use Rattle.std.specs.Int.Bits.{bit_or}
use Rattle.std.proofs.lemmas.Nat.Bits.{bit_at_or}
use Rattle.std.proofs.lemmas.Bool.Decides.{nat_tests}
use Rattle.pat_base.specs.declared.member_set.MemberSet.{MemberSet}
use Rattle.store_keys.specs.declared.key.Key.TheVariants as keys
use Rattle.store_keys.specs.declared.value.KeyEntry.{KeyEntry}
use Rattle.cluster_view.specs.Snapshots.{SnapshotFacts, entry_in, failsafe_by, failsafe_in, settings_by, settings_of_entry, value_by}
use Rattle.lease_model.specs.Leases.{LeaderSeen, FailsafeKey}
use Rattle.event_book.specs.Functions.{set_members}
use Rattle.lease_model.proofs.Tools.{some-is, none-some}
use Rattle.agent_model.specs.declared.knowledge.FailsafeRead.{FailsafeRead}
use Rattle.agent_model.specs.declared.knowledge.Knowledge.{Knowledge}
use Rattle.agent_model.specs.declared.knowledge.PendingQuestion.{PendingQuestion}
use Rattle.agent_model.specs.Agents.{EndsAlone, HasCounted, RoleFacts, Follower, Holder, Ready, Leader, Ending, Unleased, Outcome}
use Rattle.agent_model.specs.Outputs.{with_output}
use Rattle.agent_roles.specs.Seen.{lease_asked, leader_seen_if, failsafe_listed, failsafe_entry_seen, failsafe_read_seen, failsafe_seen_if, hold_seen}
use Rattle.agent_model.specs.Snapshots.{known_with, informed, is_active}
use Rattle.agent_model.specs.Peers.{asked}
use Rattle.agent_model.specs.Operators.{learned}
use Rattle.agent_roles.proofs.Living.{no-way}
use Rattle.agent_model.specs.Pausing.{is_paused}
use Rattle.store_keys.specs.Defaults.{default_config}
use Rattle.store_keys.specs.declared.value.Value.{Value}
use Rattle.store_keys.specs.declared.value.Value.TheVariants as values
use Rattle.cluster_view.specs.KeyValues.{config_in}
use Rattle.store_keys.specs.declared.config.Config.{Config}

-- who ends its server waits for nothing
abbrev pub IsAlone : Outcome → Type 0
IsAlone o = is_active o.role ≡ false → o.knows.waited ≡ None

alone-as : (role : RoleFacts) (waited : Option PendingQuestion) → EndsAlone role waited
    → is_active role ≡ false → waited ≡ None
alone-as (Ending held why) waited ends ending = ends
alone-as Follower waited ends ending = absurd (no-way (sym ending))
alone-as (Holder held) waited ends ending = absurd (no-way (sym ending))
alone-as (Ready held) waited ends ending = absurd (no-way (sym ending))
alone-as (Leader held) waited ends ending = absurd (no-way (sym ending))
alone-as Unleased waited ends ending = absurd (no-way (sym ending))

ends-as : (role : RoleFacts) (waited : Option PendingQuestion) → (is_active role ≡ false → waited ≡ None)
    → EndsAlone role waited
ends-as (Ending held why) waited alone = alone refl
ends-as _ waited alone = tt

-- the same by the role
pub alone-of : (o : Outcome) → EndsAlone o.role o.knows.waited → IsAlone o
alone-of o ends ending = alone-as o.role o.knows.waited ends ending

pub ends-of : (o : Outcome) → IsAlone o → EndsAlone o.role o.knows.waited
ends-of o alone = ends-as o.role o.knows.waited alone

-- a snapshot tells of a pause
abbrev pub tells_pause : Option SnapshotFacts → Bool
tells_pause None = false
tells_pause (Some snapshot) = (config_in snapshot).pause

-- an agent goes on: what it knows after is of the same incarnation, its questions are the
-- same ones or new ones, and what it knows of keys it knew, or was told by this snapshot
pub record Onward (told : Option SnapshotFacts) (o after : Outcome) : Type 0 where
  pub who : after.knows.who ≡ o.knows.who
  pub incarnation : after.knows.incarnation ≡ o.knows.incarnation
  pub last : o.knows.sequence ≤ after.knows.sequence
  pub waits : (n : ℕ) → lease_asked after.knows.waited ≡ Some n
      → (lease_asked o.knows.waited ≡ Some n) ⊎ (o.knows.sequence < n)
  pub known : (p : ℕ) → set_members o.knows.known p ≡ true → set_members after.knows.known p ≡ true
  pub informed : after.knows.informed ≡ true
      → (o.knows.informed ≡ true) ⊎ ((key : FailsafeKey) × (failsafe_seen_if told ≡ Some key))
  pub failsafe : (key : FailsafeKey) → failsafe_read_seen after.knows.turn_failsafe ≡ Some key
      → (failsafe_read_seen o.knows.turn_failsafe ≡ Some key) ⊎ (failsafe_seen_if told ≡ Some key)
  pub leader : (seen : LeaderSeen) → leader_seen_if after.knows.seen ≡ Some seen
      → (leader_seen_if o.knows.seen ≡ Some seen) ⊎ (leader_seen_if told ≡ Some seen)
  pub pauses : is_paused after.knows ≡ true → (is_paused o.knows ≡ true) ⊎ (tells_pause told ≡ true)
  pub hold : hold_seen o.machine.hold ≤ hold_seen after.machine.hold
  pub ends : IsAlone o → IsAlone after
  pub counts : HasCounted o.knows → HasCounted after.knows

pub at-most : {a b c : ℕ} → a ≤ b → b ≤ c → a ≤ c
at-most first second = omega (arith, first, second)

later : {a b c : ℕ} → a ≤ b → b < c → a < c
later first second = omega (arith, first, second)

pub onward-then : (told : Option SnapshotFacts) (a b c : Outcome) → Onward told a b → Onward told b c → Onward told a c
onward-then told a b c first second = record {
  who = second.who ∙ first.who;
  incarnation = second.incarnation ∙ first.incarnation;
  last = omega (arith, first.last, second.last);
  waits =
      λ n e. elim (second.waits n e) [ inl before-it ↦ first.waits n before-it | inr new ↦ inr (later first.last new) ];
  known = λ p e. second.known p (first.known p e);
  informed = λ e. elim (second.informed e) [ inl before-it ↦ first.informed before-it | inr new ↦ inr new ];
  failsafe = λ key e. elim (second.failsafe key e) [ inl before-it ↦ first.failsafe key before-it | inr new ↦ inr new ];
  leader = λ seen e. elim (second.leader seen e) [ inl before-it ↦ first.leader seen before-it | inr new ↦ inr new ];
  pauses = λ e. elim (second.pauses e) [ inl before-it ↦ first.pauses before-it | inr new ↦ inr new ];
  hold = omega (arith, first.hold, second.hold);
  ends = λ alone. second.ends (first.ends alone);
  counts = λ counted. second.counts (first.counts counted);
}

-- what an agent has read of keys: the newest snapshot, and the failsafe key of its turn
pub record WasRead : Type 0 where
  pub seen : Option SnapshotFacts
  pub failsafe : Option FailsafeRead

abbrev pub read_by : Knowledge → WasRead
read_by knows = record { seen = knows.seen; failsafe = knows.turn_failsafe }

-- what it knows of keys stays
abbrev Keeps : (told : Option SnapshotFacts) (o after : Outcome) → Type 0
Keeps told o after = after.knows.who ≡ o.knows.who → after.knows.incarnation ≡ o.knows.incarnation
    → read_by after.knows ≡ read_by o.knows → after.knows.known ≡ o.knows.known
    → after.knows.informed ≡ o.knows.informed → after.knows.settings ≡ o.knows.settings
    → o.knows.sequence ≤ after.knows.sequence
    → ((n : ℕ) → lease_asked after.knows.waited ≡ Some n →
    (lease_asked o.knows.waited ≡ Some n) ⊎ (o.knows.sequence < n))
    → after.machine.hold ≡ o.machine.hold → (IsAlone o → IsAlone after)
    → (HasCounted o.knows → HasCounted after.knows) → Onward told o after

pub keeps : (told : Option SnapshotFacts) (o after : Outcome) → Keeps told o after
keeps told o after who incarnation seen known informed settings last waits hold ends counts = record {
  who = who;
  incarnation = incarnation;
  last = last;
  waits = waits;
  known = λ p e. subst (λ (x : MemberSet). set_members x p ≡ true) (sym known) e;
  informed = λ e. inl (sym informed ∙ e);
  failsafe = λ key e. inl (subst (λ (x : WasRead). failsafe_read_seen x.failsafe ≡ Some key) seen e);
  leader = λ seen-now e. inl (subst (λ (x : WasRead). leader_seen_if x.seen ≡ Some seen-now) seen e);
  pauses = λ e. inl (subst (λ (x : Config). x.pause ≡ true) settings e);
  hold = omega (arith, ap hold_seen hold);
  ends = ends;
  counts = counts;
}

-- nothing of its questions changes
pub same : (told : Option SnapshotFacts) (o : Outcome) → Onward told o o
same told o =
    keeps told o o refl refl refl refl refl refl (omega arith) (λ n e. inl e) refl (λ alone. alone) (λ counted. counted)

-- a step of a row that neither asks nor waits on: nothing is waited for after it
pub rests : (told : Option SnapshotFacts) (o after : Outcome) → after.knows.who ≡ o.knows.who
    → after.knows.incarnation ≡ o.knows.incarnation → read_by after.knows ≡ read_by o.knows
    → after.knows.known ≡ o.knows.known → after.knows.informed ≡ o.knows.informed
    → after.knows.settings ≡ o.knows.settings
    → o.knows.sequence ≤ after.knows.sequence → after.knows.waited ≡ None
    → after.machine.hold ≡ o.machine.hold → Onward told o after
rests told o after who incarnation seen known informed settings last waited hold =
    keeps told o after who incarnation seen known informed settings last
    (λ n e. absurd (none-some _ (sym (ap (λ (w : Option PendingQuestion). lease_asked w) waited) ∙ e))) hold
    (λ _ _. waited) (λ _ one is. absurd (none-some one (sym waited ∙ is)))

-- a step that leaves alone what is waited for, in a role that doesn't end its server
pub waits-on : (told : Option SnapshotFacts) (o after : Outcome) → after.knows.who ≡ o.knows.who
    → after.knows.incarnation ≡ o.knows.incarnation → read_by after.knows ≡ read_by o.knows
    → after.knows.known ≡ o.knows.known → after.knows.informed ≡ o.knows.informed
    → after.knows.settings ≡ o.knows.settings
    → o.knows.sequence ≤ after.knows.sequence → after.knows.waited ≡ o.knows.waited
    → after.machine.hold ≡ o.machine.hold → is_active after.role ≡ true → Onward told o after
waits-on told o after who incarnation seen known informed settings last waited hold active =
    keeps told o after who incarnation seen known informed settings last
    (λ n e. inl (subst (λ (w : Option PendingQuestion). lease_asked w ≡ Some n) waited e)) hold
    (λ _ ending. absurd (no-way (sym ending ∙ active))) (λ counted one is. at-most (counted one (sym waited ∙ is)) last)

-- a bit is 0 or 1
bit-small : (n i : ℕ) → bit_at n i ≤ 1
bit-small n i = omega arith

in-either : (a b p : ℕ) → bit_at a p ≡ 1 → bit_at (bit_or a b) p ≡ 1
in-either a b p is = let e : bit_at (bit_or a b) p ≡ max (bit_at a p) (bit_at b p) = bit_at_or a b p in
    omega (arith, e, is, bit-small b p)

in-right : (a b p : ℕ) → bit_at b p ≡ 1 → bit_at (bit_or a b) p ≡ 1
in-right a b p is = let e : bit_at (bit_or a b) p ≡ max (bit_at a p) (bit_at b p) = bit_at_or a b p in
    omega (arith, e, is, bit-small a p)

is-one : (n : ℕ) → n == 1 ≡ true → n ≡ 1
is-one n e = grind (arith, nat_tests)

-- known members aren't forgotten, and those that a failsafe key lists are known
pub known-more : (known : MemberSet) (with_output : Option MemberSet) (p : ℕ) → set_members known p ≡ true
    → set_members (known_with known with_output) p ≡ true
known-more known None p e = e
known-more known (Some members) p e = rw (in-either known.bits members.bits p (is-one (bit_at known.bits p) e)) refl

pub known-listed : (known members : MemberSet) (p : ℕ) → set_members members p ≡ true
    → set_members (known_with known (Some members)) p ≡ true
known-listed known members p e = rw (in-right known.bits members.bits p (is-one (bit_at members.bits p) e)) refl

-- who is told of a failsafe key was told before, or is by this one
told-listed : (was : Bool) (revision : ℕ) (members : Option MemberSet) → was || is_some members ≡ true
    → (was ≡ true) ⊎ ((key : FailsafeKey) × (failsafe_listed revision members ≡ Some key))
told-listed true revision members e = inl refl
told-listed false revision (Some members) e = inr (record { revision = revision; members = set_members members }, refl)
told-listed false revision None e = absurd (no-way e)

told-entry : (was : Bool) (found : Option KeyEntry) → was || is_some (value_by failsafe_by found) ≡ true
    → (was ≡ true) ⊎ ((key : FailsafeKey) × (failsafe_entry_seen found ≡ Some key))
told-entry was (Some found) e = told-listed was found.revision (failsafe_by found.value) e
told-entry true None e = inl refl
told-entry false None e = absurd (no-way e)

-- settings pause that paused before, or of which an entry tells that
value-pause : (settings : Config) (value : Value) → (settings_by settings value).pause ≡ true
    → (settings.pause ≡ true) ⊎ ((settings_by default_config value).pause ≡ true)
value-pause settings (values.Config config) e = inr e
value-pause settings _ e = inl e

pub told-pause : (settings : Config) (found : Option KeyEntry) → (settings_of_entry settings found).pause ≡ true
    → (settings.pause ≡ true) ⊎ ((settings_of_entry default_config found).pause ≡ true)
told-pause settings None e = inl e
told-pause settings (Some found) e = value-pause settings found.value e

-- a snapshot is the newest
pub tells : (snapshot : SnapshotFacts) (o : Outcome)
    → Onward (Some snapshot) o (record o { knows = informed snapshot o.knows })
tells snapshot o = record {
  who = refl;
  incarnation = refl;
  last = omega arith;
  waits = λ n e. absurd (none-some _ e);
  known = λ p e. known-more o.knows.known (failsafe_in snapshot) p e;
  informed = λ e. told-entry o.knows.informed (entry_in keys.Failsafe snapshot) e;
  failsafe = λ key e. inl e;
  leader = λ seen e. inr e;
  pauses = λ e. told-pause o.knows.settings (entry_in keys.Config snapshot) e;
  hold = omega arith;
  ends = λ _ _. refl;
  counts = λ _ one is. absurd (none-some one is);
}

-- the same, and what is waited for stays
pub learns : (snapshot : SnapshotFacts) (o : Outcome) → Onward (Some snapshot) o (learned snapshot o)
learns snapshot o =
    let told : Onward (Some snapshot) o (record o { knows = informed snapshot o.knows }) = tells snapshot o in record {
      who = refl;
      incarnation = refl;
      last = omega arith;
      waits = λ n e. inl e;
      known = told.known;
      informed = told.informed;
      failsafe = told.failsafe;
      leader = told.leader;
      pauses = told.pauses;
      hold = omega arith;
      ends = λ alone. alone;
      counts = λ counted. counted;
    }

-- a question that is waited for has a new number
pub asked-new : (was n : ℕ) → ◌≡◌ {A = Option ℕ} (Some (was + 1)) (Some n) → was < n
asked-new was n e = let is : was + 1 ≡ n = cc in omega (arith, is)

counts-asked : (asked one : PendingQuestion) (sequence : ℕ) → asked ≡ one → asked.sequence ≡ sequence
    → one.sequence ≤ sequence
counts-asked asked one sequence same number =
    let e : asked.sequence ≡ one.sequence = ap (λ (w : PendingQuestion). w.sequence) same in omega (arith, e, number)

-- a step that asks for a lease, or reads
pub asks-on : (told : Option SnapshotFacts) (o after : Outcome) → after.knows.who ≡ o.knows.who
    → after.knows.incarnation ≡ o.knows.incarnation → read_by after.knows ≡ read_by o.knows
    → after.knows.known ≡ o.knows.known → after.knows.informed ≡ o.knows.informed
    → after.knows.settings ≡ o.knows.settings
    → o.knows.sequence ≤ after.knows.sequence
    → ((n : ℕ) → lease_asked after.knows.waited ≡ Some n → o.knows.sequence < n)
    → after.machine.hold ≡ o.machine.hold → is_active after.role ≡ true → (asked : PendingQuestion)
    → after.knows.waited ≡ Some asked → asked.sequence ≡ after.knows.sequence → Onward told o after
asks-on told o after who incarnation seen known informed settings last new hold active asked is number =
    keeps told o after who incarnation seen known informed settings last (λ n e. inr (new n e)) hold
    (λ _ ending. absurd (no-way (sym ending ∙ active)))
    (λ _ one one-is. counts-asked asked one after.knows.sequence (some-is asked one (sym is ∙ one-is)) number)
