-- What the rows of a plan say.
use Rattle.std.proofs.Common.{◌≡◌, ◌≢◌, ◌==◌, ◌&&◌, ℕ, not, Bool, true, false, cond, Option, Some, None, IsSome, get_or, refl, sym, ap, subst, ◌∙◌, inl, inr}
use Rattle.std.specs.Int.{bit_at}
use Rattle.pat_base.specs.declared.lsn.Lsn.{Lsn}
use Rattle.pat_base.specs.declared.member_id.MemberId.{MemberId}
use Rattle.pat_base.specs.declared.member_set.MemberSet.{MemberSet}
use Rattle.store_keys.specs.declared.value.SyncKey.{SyncKey}
use Rattle.cluster_view.specs.declared.view.LeaderView.{LeaderView}
use Rattle.cluster_view.specs.KeyValues.{config_in, sync_in}
use Rattle.cluster_view.specs.Snapshots.{SnapshotFacts}
use Rattle.sync_state.specs.declared.steps.Plan.{Plan}
use Rattle.sync_state.specs.declared.steps.Plan.TheVariants as plans
use Rattle.sync_state.specs.Candidates.{may_sync, wanted_in}
use Rattle.sync_state.specs.Laws.{IsWithin, IsBoth, IsEither, published_after, required_after, changes_standbys, LeadsInSync}
use Rattle.sync_state.specs.Plans.{change_of, plan_off, plan_on, plan_of}
use Rattle.sync_state.specs.Published.{published_in}
use Rattle.sync_state.specs.Sets.{nobody, both, either, is_within, are_same}
use Rattle.sync_state.specs.Standbys.{required_members, has_confirmed, confirmed_in, standbys_in}
use Rattle.sync_state.proofs.Wanting.{wanted-tags}
use Rattle.sync_state.proofs.SetBits.{same-numbers, numbers-same, chosen-from, none-within, is-within, both-members, either-members}

no : false ≡ true → ⊥
no e = cc

-- ---- the rows over plain tests and sets
abbrev row_of : (inside listed ready kept : Bool) (withdrawn added published dropped : MemberSet) → Plan
row_of inside listed ready kept withdrawn added published dropped =
    cond (not inside) (plans.Withdraw withdrawn)
    (cond (not listed) (plans.AddRequired added)
    (cond ready (plans.Publish published) (cond (not kept) (plans.DropRequired dropped) plans.Keep)))

withdraw-row : (a b c d : Bool) (w r p q x : MemberSet) → row_of a b c d w r p q ≡ plans.Withdraw x → w ≡ x
withdraw-row false b c d w r p q x e = cc
withdraw-row true false c d w r p q x e = cc
withdraw-row true true true d w r p q x e = cc
withdraw-row true true false false w r p q x e = cc
withdraw-row true true false true w r p q x e = cc

add-row : (a b c d : Bool) (w r p q x : MemberSet) → row_of a b c d w r p q ≡ plans.AddRequired x → r ≡ x
add-row false b c d w r p q x e = cc
add-row true false c d w r p q x e = cc
add-row true true true d w r p q x e = cc
add-row true true false false w r p q x e = cc
add-row true true false true w r p q x e = cc

publish-row : (a b c d : Bool) (w r p q x : MemberSet) → row_of a b c d w r p q ≡ plans.Publish x
    → (b ≡ true) × (c ≡ true) × (p ≡ x)
publish-row false b c d w r p q x e = cc
publish-row true false c d w r p q x e = cc
publish-row true true true d w r p q x e = (refl, refl, cc)
publish-row true true false false w r p q x e = cc
publish-row true true false true w r p q x e = cc

drop-row : (a b c d : Bool) (w r p q x : MemberSet) → row_of a b c d w r p q ≡ plans.DropRequired x
    → (b ≡ true) × (q ≡ x)
drop-row false b c d w r p q x e = cc
drop-row true false c d w r p q x e = cc
drop-row true true true d w r p q x e = cc
drop-row true true false false w r p q x e = (refl, cc)
drop-row true true false true w r p q x e = cc

never-mark : (a b c d : Bool) (w r p q : MemberSet) → row_of a b c d w r p q ≡ plans.Mark → ⊥
never-mark false b c d w r p q e = cc
never-mark true false c d w r p q e = cc
never-mark true true true d w r p q e = cc
never-mark true true false false w r p q e = cc
never-mark true true false true w r p q e = cc

-- ---- a change is planned where the mode is on and the key names the leader
other-plan : (plan change : Plan) → plan ≡ change → changes_standbys plan ≡ false → changes_standbys change ≡ true → ⊥
other-plan plan change e f is = no (sym f ∙ ap changes_standbys e ∙ is)

named-change : (leads : Bool) (change plan : Plan) → cond leads change plans.Mark ≡ plan
    → changes_standbys plan ≡ true → change ≡ plan
named-change true change plan e is = e
named-change false change plan e is = absurd (other-plan plans.Mark plan e refl is)

keyed-change : (mode : Bool) (sync : Option SyncKey) (view : LeaderView) (seen : SnapshotFacts) (plan : Plan)
    → cond mode (plan_on view seen sync) (plan_off sync) ≡ plan → changes_standbys plan ≡ true
    → change_of (standbys_in view seen) ≡ plan
keyed-change false None view seen plan e is = absurd (other-plan plans.Keep plan e refl is)
keyed-change false (Some sync) view seen plan e is = absurd (other-plan plans.SwitchOff plan e refl is)
keyed-change true None view seen plan e is = absurd (other-plan plans.Mark plan e refl is)
keyed-change true (Some sync) view seen plan e is =
    named-change (sync.leader.number == view.view.me.number) (change_of (standbys_in view seen)) plan e is

change-of : (view : LeaderView) (seen : SnapshotFacts) (plan : Plan) → plan_of view seen ≡ plan
    → changes_standbys plan ≡ true → change_of (standbys_in view seen) ≡ plan
change-of view seen plan e is = keyed-change (config_in seen).synchronous_mode (sync_in seen) view seen plan e is

-- ---- the rows of a leader
record Rows (view : LeaderView) (seen : SnapshotFacts) : Type 0 where
  withdrawn : (x : MemberSet) → plan_of view seen ≡ plans.Withdraw x
      → both (published_in seen) (wanted_in view seen) ≡ x
  added : (x : MemberSet) → plan_of view seen ≡ plans.AddRequired x
      → either (required_members view.required) (wanted_in view seen) ≡ x
  published : (x : MemberSet) → plan_of view seen ≡ plans.Publish x
      → (is_within (wanted_in view seen) (required_members view.required) ≡ true)
      × ((not (are_same (wanted_in view seen) (published_in seen))
      && is_within (wanted_in view seen) (confirmed_in view))
      ≡ true)
      × (wanted_in view seen ≡ x)
  dropped : (x : MemberSet) → plan_of view seen ≡ plans.DropRequired x
      → (is_within (wanted_in view seen) (required_members view.required) ≡ true)
      × (either (published_in seen) (wanted_in view seen) ≡ x)

rows : (view : LeaderView) (seen : SnapshotFacts) → Rows view seen
rows view seen =
    let published : MemberSet = published_in seen in
    let required : MemberSet = required_members view.required in
    let wanted : MemberSet = wanted_in view seen in
    let inside : Bool = is_within published wanted in
    let listed : Bool = is_within wanted required in
    let ready : Bool = not (are_same wanted published) && is_within wanted (confirmed_in view) in
    let kept : Bool = is_within required (either published wanted) in
    record {
      withdrawn = λ x e. withdraw-row inside listed ready kept (both published wanted) (either required wanted) wanted
          (either published wanted) x (change-of view seen (plans.Withdraw x) e refl);
      added = λ x e. add-row inside listed ready kept (both published wanted) (either required wanted) wanted
          (either published wanted) x (change-of view seen (plans.AddRequired x) e refl);
      published = λ x e. publish-row inside listed ready kept (both published wanted) (either required wanted) wanted
          (either published wanted) x (change-of view seen (plans.Publish x) e refl);
      dropped = λ x e. drop-row inside listed ready kept (both published wanted) (either required wanted) wanted
          (either published wanted) x (change-of view seen (plans.DropRequired x) e refl);
    }

-- ---- the laws
pub publishes-wanted : (view : LeaderView) (seen : SnapshotFacts) (standbys : MemberSet)
    → plan_of view seen ≡ plans.Publish standbys → standbys ≡ wanted_in view seen
publishes-wanted view seen standbys e = sym ((rows view seen).published standbys e).2

pub publishes-required : (view : LeaderView) (seen : SnapshotFacts) (standbys : MemberSet)
    → plan_of view seen ≡ plans.Publish standbys → IsWithin standbys (required_members view.required)
publishes-required view seen standbys e k is =
    is-within (wanted_in view seen) (required_members view.required) ((rows view seen).published standbys e).0 k
    (ap (λ (s : MemberSet). bit_at s.bits k) (sym (publishes-wanted view seen standbys e)) ∙ is)

second : (p q : Bool) → (p && q) ≡ true → q ≡ true
second true q e = e
second false q e = absurd (no e)

pub publishes-confirmed : (view : LeaderView) (seen : SnapshotFacts) (standbys : MemberSet) (k : ℕ)
    → plan_of view seen ≡ plans.Publish standbys → bit_at standbys.bits k ≡ 1
    → has_confirmed view.noted (get_or view.confirmed_positions k None) ≡ true
publishes-confirmed view seen standbys k e is =
    let wanted = wanted_in view seen in
    let row = (rows view seen).published standbys e in
    let all = second (not (are_same wanted (published_in seen))) (is_within wanted (confirmed_in view)) row.1 in
    (chosen-from (has_confirmed view.noted) view.confirmed_positions k None
    (is-within wanted (confirmed_in view) all k (ap (λ (s : MemberSet). bit_at s.bits k) row.2 ∙ is))).1

confirmed-some : (noted end : Option Lsn) → has_confirmed noted end ≡ true → IsSome end
confirmed-some noted None e = absurd (no e)
confirmed-some noted (Some end) e = refl

pub publishes-connected : (view : LeaderView) (seen : SnapshotFacts) (standbys : MemberSet) (k : ℕ)
    → plan_of view seen ≡ plans.Publish standbys → bit_at standbys.bits k ≡ 1
    → IsSome (get_or view.confirmed_positions k None)
publishes-connected view seen standbys k e is =
    confirmed-some view.noted (get_or view.confirmed_positions k None) (publishes-confirmed view seen standbys k e is)

pub publishes-tags : (view : LeaderView) (seen : SnapshotFacts) (standbys : MemberSet) (member : MemberId)
    → plan_of view seen ≡ plans.Publish standbys → bit_at standbys.bits member.number ≡ 1 → may_sync member seen ≡ true
publishes-tags view seen standbys member e is = wanted-tags view seen member
    (ap (λ (s : MemberSet). bit_at s.bits member.number) (sym (publishes-wanted view seen standbys e)) ∙ is)

pub withdraws : (view : LeaderView) (seen : SnapshotFacts) (standbys : MemberSet)
    → plan_of view seen ≡ plans.Withdraw standbys → IsBoth (published_in seen) (wanted_in view seen) standbys
withdraws view seen standbys e = subst (λ (s : MemberSet). IsBoth (published_in seen) (wanted_in view seen) s)
    ((rows view seen).withdrawn standbys e) (both-members (published_in seen) (wanted_in view seen))

pub adds : (view : LeaderView) (seen : SnapshotFacts) (members : MemberSet)
    → plan_of view seen ≡ plans.AddRequired members
    → IsEither (required_members view.required) (wanted_in view seen) members
adds view seen members e = subst (λ (s : MemberSet). IsEither (required_members view.required) (wanted_in view seen) s)
    ((rows view seen).added members e) (either-members (required_members view.required) (wanted_in view seen))

pub drops : (view : LeaderView) (seen : SnapshotFacts) (members : MemberSet)
    → plan_of view seen ≡ plans.DropRequired members → IsEither (published_in seen) (wanted_in view seen) members
drops view seen members e = subst (λ (s : MemberSet). IsEither (published_in seen) (wanted_in view seen) s)
    ((rows view seen).dropped members e).1 (either-members (published_in seen) (wanted_in view seen))

pub drops-wanted : (view : LeaderView) (seen : SnapshotFacts) (members : MemberSet)
    → plan_of view seen ≡ plans.DropRequired members → IsWithin (wanted_in view seen) (required_members view.required)
drops-wanted view seen members e =
    is-within (wanted_in view seen) (required_members view.required) ((rows view seen).dropped members e).0

either-within : (one other set whole : MemberSet) → IsEither one other set → IsWithin one whole
    → IsWithin other whole → IsWithin set whole
either-within one other set whole parts first second k is = elim (parts.whole k is) [
  | inl here ↦ first k here
  | inr there ↦ second k there
]

pub drops-within : (view : LeaderView) (seen : SnapshotFacts) (members : MemberSet)
    → IsWithin (published_in seen) (required_members view.required)
    → plan_of view seen ≡ plans.DropRequired members → IsWithin members (required_members view.required)
drops-within view seen members covers e = either-within (published_in seen) (wanted_in view seen) members
    (required_members view.required) (drops view seen members e) covers (drops-wanted view seen members e)

stays-before : (plan : Plan) (view : LeaderView) (seen : SnapshotFacts) → plan_of view seen ≡ plan
    → IsWithin (published_in seen) (required_members view.required)
    → IsWithin (published_after plan (published_in seen)) (required_members view.required)
stays-before plans.Keep view seen e covers = covers
stays-before plans.Mark view seen e covers = none-within (required_members view.required)
stays-before (plans.Withdraw standbys) view seen e covers =
    λ k is. covers k ((withdraws view seen standbys e).first k is)
stays-before (plans.AddRequired members) view seen e covers = covers
stays-before (plans.Publish standbys) view seen e covers = publishes-required view seen standbys e
stays-before (plans.DropRequired members) view seen e covers = covers
stays-before plans.SwitchOff view seen e covers = none-within (required_members view.required)

stays-after : (plan : Plan) (view : LeaderView) (seen : SnapshotFacts) → plan_of view seen ≡ plan
    → IsWithin (published_in seen) (required_members view.required)
    → IsWithin (published_after plan (published_in seen)) (required_after plan (required_members view.required))
stays-after plans.Keep view seen e covers = covers
stays-after plans.Mark view seen e covers = none-within nobody
stays-after (plans.Withdraw standbys) view seen e covers = λ k is. is
stays-after (plans.AddRequired members) view seen e covers = λ k is. (adds view seen members e).first k (covers k is)
stays-after (plans.Publish standbys) view seen e covers = publishes-required view seen standbys e
stays-after (plans.DropRequired members) view seen e covers = (drops view seen members e).first
stays-after plans.SwitchOff view seen e covers = none-within nobody

pub stays-required_before : (view : LeaderView) (seen : SnapshotFacts)
    → IsWithin (published_in seen) (required_members view.required)
    → IsWithin (published_after (plan_of view seen) (published_in seen)) (required_members view.required)
stays-required_before view seen covers = stays-before (plan_of view seen) view seen refl covers

pub stays-required_after : (view : LeaderView) (seen : SnapshotFacts)
    → IsWithin (published_in seen) (required_members view.required)
    → IsWithin (published_after (plan_of view seen) (published_in seen))
    (required_after (plan_of view seen) (required_members view.required))
stays-required_after view seen covers = stays-after (plan_of view seen) view seen refl covers

marked-by : (leads : Bool) (change : Plan) → cond leads change plans.Mark ≡ plans.Mark
    → (change ≡ plans.Mark → ⊥) → leads ≡ true → ⊥
marked-by true change e other is = other e
marked-by false change e other is = no is

change-unmarked : (view : LeaderView) (seen : SnapshotFacts) → change_of (standbys_in view seen) ≡ plans.Mark → ⊥
change-unmarked view seen e =
    let published : MemberSet = published_in seen in
    let required : MemberSet = required_members view.required in
    let wanted : MemberSet = wanted_in view seen in
    never-mark (is_within published wanted) (is_within wanted required)
    (not (are_same wanted published) && is_within wanted (confirmed_in view))
    (is_within required (either published wanted))
    (both published wanted) (either required wanted) wanted (either published wanted) e

marks-on : (mode : Bool) (sync : SyncKey) (view : LeaderView) (seen : SnapshotFacts)
    → cond mode (plan_on view seen (Some sync)) (plan_off (Some sync)) ≡ plans.Mark
    → sync.leader.number ≡ view.view.me.number → ⊥
marks-on false sync view seen e mine = cc
marks-on true sync view seen e mine =
    marked-by (sync.leader.number == view.view.me.number) (change_of (standbys_in view seen)) e
    (change-unmarked view seen) (same-numbers sync.leader.number view.view.me.number mine)

pub marks-other : (view : LeaderView) (seen : SnapshotFacts) (sync : SyncKey) → plan_of view seen ≡ plans.Mark
    → sync_in seen ≡ Some sync → sync.leader.number ≢ view.view.me.number
marks-other view seen sync e there mine =
    marks-on (config_in seen).synchronous_mode sync view seen
    (ap (λ (o : Option SyncKey). cond (config_in seen).synchronous_mode (plan_on view seen o) (plan_off o)) (sym there)
    ∙ e)
    mine

named-leads : (leads : Bool) (change : Plan) → changes_standbys (cond leads change plans.Mark) ≡ true → leads ≡ true
named-leads true change is = refl
named-leads false change is = absurd (no is)

leads-by : (mode : Bool) (sync : Option SyncKey) (view : LeaderView) (seen : SnapshotFacts)
    → (config_in seen).synchronous_mode ≡ mode → sync_in seen ≡ sync
    → changes_standbys (cond mode (plan_on view seen sync) (plan_off sync)) ≡ true → LeadsInSync view seen
leads-by false None view seen on there is = absurd (no is)
leads-by false (Some sync) view seen on there is = absurd (no is)
leads-by true None view seen on there is = absurd (no is)
leads-by true (Some sync) view seen on there is = record {
  on = on;
  key = sync;
  there = there;
  leads = numbers-same sync.leader.number view.view.me.number
      (named-leads (sync.leader.number == view.view.me.number) (change_of (standbys_in view seen)) is);
}

pub changes-lead : (view : LeaderView) (seen : SnapshotFacts) → changes_standbys (plan_of view seen) ≡ true
    → LeadsInSync view seen
changes-lead view seen is = leads-by (config_in seen).synchronous_mode (sync_in seen) view seen refl refl is
