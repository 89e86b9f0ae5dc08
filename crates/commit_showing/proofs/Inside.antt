-- Required lists and sync key are in order between two actions, and at each moment inside one.
use Rattle.std.proofs.Common.{arith, ◌≡◌, ◌⊎◌, ℕ, ◌<◌, ◌≤◌, Bool, true, List, [], ◌∷◌, ◌++◌, Option, Some, None, slice_get, refl, ◌∙◌, ap, sym, subst, inl, inr}
use Rattle.pat_base.specs.declared.server_state.Required.{Required}
use Rattle.pat_base.specs.declared.server_state.Required.TheVariants as requireds
use Rattle.event_book.specs.declared.event.Event.{Event}
use Rattle.event_book.specs.declared.event.EventKind.{EventKind}
use Rattle.event_book.specs.declared.event.EventKind.TheVariants as kinds
use Rattle.event_book.specs.declared.event.ReplicationEvent.TheVariants as replications
use Rattle.event_book.specs.declared.event.ServerEvent.TheVariants as servers
use Rattle.event_book.specs.declared.event.StoreEvent.TheVariants as stores
use Rattle.event_book.specs.declared.event.WatchdogEvent.TheVariants as watchdogs
use Rattle.event_book.specs.Logs.{Logs}
use Rattle.event_book.specs.Required.{required_after}
use Rattle.event_book.specs.Writers.{writes_after}
use Rattle.sync_order.specs.Grown.{grown_after}
use Rattle.lease_law.proofs.Runs.{head-is, no-cons, tail-is}
use Rattle.lease_model.proofs.Tools.{both}
use Rattle.commit_actions.specs.Actions.{IsAllowed}
use Rattle.commit_showing.specs.Books.{IsShown, Transition}
use Rattle.commit_actions.specs.Carried.{IsSound}
use Rattle.commit_actions.specs.Keys.{Overlaps, SyncKey, count, strict_quorum}
use Rattle.commit_actions.specs.Past.{Past, Setup, VolatileState, confirmers_in, confirmers_of, past_after, past_over, state_of, sync_after}
use Rattle.commit_actions.proofs.Counting.{none-less, none-of}
use Rattle.commit_showing.proofs.Fronts.{kept-after}
use Rattle.commit_showing.specs.Changes.{AllLeaveOrder, ChangeOrderOnce, LeavesOrder}
use Rattle.commit_showing.specs.Order.{AreOverlapping, IsConfirmer, IsAwaiting, IsOverlapping, NamesMembers}

-- ---- between two actions
-- whom commits wait for has a list that covers standbys: they wait for each
none-counted : (member_count quorum : ℕ) (standbys : ℕ → Bool) (standby : ℕ) → quorum ≡ strict_quorum
    → standby < member_count → standbys standby ≡ true → count member_count standbys ≤ quorum → ⊥
none-counted member_count quorum standbys standby none small is few =
    both (sym (none-of member_count standbys (zero-of (count member_count standbys) quorum few none) standby small)
    ∙ is)
  where
    zero-of : (a b : ℕ) → a ≤ b → b ≡ strict_quorum → a ≡ 0
    zero-of a b less none = omega (arith, less, none)

confirmers-awaits : (member_count quorum : ℕ) (standbys : ℕ → Bool) (standby : ℕ) (required : Required)
    → quorum ≡ strict_quorum → standby < member_count → standbys standby ≡ true
    → Overlaps member_count standbys quorum (confirmers_in required) → IsConfirmer (confirmers_in required) standby
confirmers-awaits member_count quorum standbys standby requireds.Nobody none small is overlaps =
    absurd (none-counted member_count quorum standbys standby none small is overlaps)
confirmers-awaits member_count quorum standbys standby requireds.AnyOne none small is overlaps =
    absurd (none-counted member_count quorum standbys standby none small is overlaps)
confirmers-awaits member_count quorum standbys standby (requireds.AtLeast number of) none small is overlaps =
    absurd (none-counted member_count quorum standbys standby none small is overlaps)
confirmers-awaits member_count quorum standbys standby (requireds.All members) none small is overlaps =
    overlaps standby is

pub awaits : (member_count quorum : ℕ) (standbys : ℕ → Bool) (standby : ℕ) (required : Option Required)
    → quorum ≡ strict_quorum → standby < member_count → standbys standby ≡ true
    → Overlaps member_count standbys quorum (confirmers_of required) → IsConfirmer (confirmers_of required) standby
awaits member_count quorum standbys standby None none small is overlaps =
    absurd (none-counted member_count quorum standbys standby none small is overlaps)
awaits member_count quorum standbys standby (Some required) none small is overlaps =
    confirmers-awaits member_count quorum standbys standby required none small is overlaps

pub overlaps-now : (setup : Setup) (past : Past) (volatile_states : ℕ → VolatileState)
    → IsSound (state_of setup past volatile_states) → IsOverlapping setup.member_count past
overlaps-now setup past volatile_states sound = record {
  led = λ server writes. sound.servers.led server (sound.servers.lives server writes);
  overlaps = λ server key writes is. sound.servers.overlaps server key (sound.servers.lives server writes) is;
}

-- where no standby may lack a commit
pub strict-order : (member_count : ℕ) (past : Past) → IsOverlapping member_count past
    → NamesMembers member_count strict_quorum past.sync → IsAwaiting past
strict-order member_count past overlapping members = record {
  led = overlapping.led;
  awaited = λ server key writes is standby named.
      let strict = members key is in
      awaits member_count key.quorum key.standbys standby (slice_get past.required server)
      (none-less key.quorum strict.few) (strict.members standby named) named
      (overlapping.overlaps server key writes is);
}

pub order-now : (setup : Setup) (past : Past) (volatile_states : ℕ → VolatileState)
    → IsSound (state_of setup past volatile_states) → NamesMembers setup.member_count strict_quorum past.sync
    → IsAwaiting past
order-now setup past volatile_states sound members =
    strict-order setup.member_count past (overlaps-now setup past volatile_states sound) members

-- ---- inside one
-- what the order reads of a past
pub record Seen : Type 0 where
  pub writes : ℕ → Bool
  pub required : List Required
  pub sync : Option SyncKey
  pub grown : ℕ → ℕ

abbrev pub seen_of : Past → Seen
seen_of past = record { writes = past.lease.writes; required = past.required; sync = past.sync; grown = past.grown }

-- an event aside changes none of it
aside-writes : (w : ℕ → Bool) (k : EventKind) → LeavesOrder k → writes_after w k ≡ w
aside-writes w (kinds.Server (servers.Began server timeline)) a = absurd a
aside-writes w (kinds.Server (servers.Ended server)) a = absurd a
aside-writes w (kinds.Server (servers.Crashed server)) a = absurd a
aside-writes w (kinds.Server _) a = refl
aside-writes w (kinds.Watchdog (watchdogs.Reset member)) a = absurd a
aside-writes w (kinds.Watchdog _) a = refl
aside-writes w _ a = refl

aside-required : (r : List Required) (k : EventKind) → LeavesOrder k → required_after r k ≡ r
aside-required r (kinds.Replication (replications.RequiredSet server required names)) a = absurd a
aside-required r (kinds.Replication _) a = refl
aside-required r _ a = refl

aside-sync : (revision : ℕ) (s : Option SyncKey) (k : EventKind) → LeavesOrder k → sync_after revision s k ≡ s
aside-sync revision s (kinds.Store (stores.Granted number by txn standbys)) a = absurd a
aside-sync revision s (kinds.Store _) a = refl
aside-sync revision s _ a = refl

aside-grown : (required : List Required) (logs : Logs) (grown : ℕ → ℕ) (k : EventKind) → LeavesOrder k
    → grown_after required logs grown k ≡ grown
aside-grown required logs grown (kinds.Replication (replications.RequiredSet server list names)) a = absurd a
aside-grown required logs grown (kinds.Replication _) a = refl
aside-grown required logs grown _ a = refl

seen-eq : (w v : ℕ → Bool) (r q : List Required) (s t : Option SyncKey) (f g : ℕ → ℕ) → w ≡ v → r ≡ q → s ≡ t → f ≡ g
    → ◌≡◌ {A = Seen} (record { writes = w; required = r; sync = s; grown = f })
    (record { writes = v; required = q; sync = t; grown = g })
seen-eq w v r q s t f g a b c d = cc

pub aside-seen : (past : Past) (k : EventKind) → LeavesOrder k → seen_of (past_after past k) ≡ seen_of past
aside-seen past k a =
    seen-eq (writes_after past.lease.writes k) past.lease.writes (required_after past.required k) past.required
    (sync_after past.lease.revision past.sync k) past.sync (grown_after past.required past.logs past.grown k) past.grown
    (aside-writes past.lease.writes k a) (aside-required past.required k a)
    (aside-sync past.lease.revision past.sync k a) (aside-grown past.required past.logs past.grown k a)

pub all-aside : (past : Past) (events : List Event) → AllLeaveOrder events
    → seen_of (past_over past events) ≡ seen_of past
all-aside past [] a = refl
all-aside past (event ∷ events) a = all-aside (past_after past event.kind) events a.1 ∙ aside-seen past event.kind a.0

pub aside-front : (front back events : List Event) → front ++ back ≡ events → AllLeaveOrder events → AllLeaveOrder front
aside-front [] back events e a = tt
aside-front (x ∷ front) back [] e a = absurd (no-cons x (front ++ back) e)
aside-front (x ∷ front) back (y ∷ events) e a = (
  subst (λ (z : Event). LeavesOrder z.kind) (sym (head-is x y (front ++ back) events e)) a.0,
  aside-front front back events (tail-is x y (front ++ back) events e) a.1,
)

-- at a front of an action's events it is as before them or as after them
either : (past : Past) (front back events : List Event) → front ++ back ≡ events → ChangeOrderOnce events
    → (seen_of (past_over past front) ≡ seen_of past)
    ⊎ (seen_of (past_over past front) ≡ seen_of (past_over past events))
either past [] back events e once = inl refl
either past (x ∷ front) back [] e once = absurd (no-cons x (front ++ back) e)
either past (x ∷ front) back (y ∷ events) e (inl once) =
    let head : x ≡ y = head-is x y (front ++ back) events e in
    let step : seen_of (past_after past x.kind) ≡ seen_of past =
    aside-seen past x.kind (subst (λ (z : Event). LeavesOrder z.kind) (sym head) once.0) in
    elim (either (past_after past x.kind) front back events (tail-is x y (front ++ back) events e) once.1) [
      | inl same ↦ inl (same ∙ step)
      | inr same ↦ inr (same ∙ ap (λ (z : Event). seen_of (past_over (past_after past z.kind) events)) head)
    ]
either past (x ∷ front) back (y ∷ events) e (inr aside) =
    let head : x ≡ y = head-is x y (front ++ back) events e in
    inr (all-aside (past_after past x.kind) front
    (aside-front front back events (tail-is x y (front ++ back) events e) aside)
    ∙ ap (λ (z : Event). seen_of (past_after past z.kind)) head ∙ sym (all-aside (past_after past y.kind) events aside))

abbrev Overlapping : ℕ → Seen → Type 0
Overlapping member_count seen = AreOverlapping member_count seen.writes seen.required seen.sync

-- as at one end of it
overlaps-as : (setup : Setup) (past end : Past) (volatile_states : ℕ → VolatileState) → seen_of past ≡ seen_of end
    → IsSound (state_of setup end volatile_states) → IsOverlapping setup.member_count past
overlaps-as setup past end volatile_states same sound =
    subst (Overlapping setup.member_count) (sym same) (overlaps-now setup end volatile_states sound)

pub order-as : (setup : Setup) (past end : Past) (volatile_states : ℕ → VolatileState)
    → seen_of past ≡ seen_of end → IsSound (state_of setup end volatile_states)
    → NamesMembers setup.member_count strict_quorum past.sync → IsAwaiting past
order-as setup past end volatile_states same sound members =
    strict-order setup.member_count past (overlaps-as setup past end volatile_states same sound) members

pub overlaps-inside : (setup : Setup) (past : Past) (volatile_states : ℕ → VolatileState)
    (transition : Transition) (front back : List Event) → IsSound (state_of setup past volatile_states)
    → IsAllowed (state_of setup past volatile_states) transition.action
    → IsShown setup past volatile_states transition → ChangeOrderOnce transition.events
    → front ++ back ≡ transition.events → IsOverlapping setup.member_count (past_over past front)
overlaps-inside setup past volatile_states transition front back sound allowed shown once e =
    elim (either past front back transition.events e once) [
      | inl same ↦ overlaps-as setup (past_over past front) past volatile_states same sound
      | inr same ↦ overlaps-as setup (past_over past front) (past_over past transition.events)
          transition.volatile_states same (kept-after setup past volatile_states transition sound allowed shown)
    ]

pub order-inside : (setup : Setup) (past : Past) (volatile_states : ℕ → VolatileState)
    (transition : Transition) (front back : List Event) → IsSound (state_of setup past volatile_states)
    → IsAllowed (state_of setup past volatile_states) transition.action
    → IsShown setup past volatile_states transition → ChangeOrderOnce transition.events
    → front ++ back ≡ transition.events → NamesMembers setup.member_count strict_quorum (past_over past front).sync
    → IsAwaiting (past_over past front)
order-inside setup past volatile_states transition front back sound allowed shown once e members =
    strict-order setup.member_count (past_over past front)
    (overlaps-inside setup past volatile_states transition front back sound allowed shown once e) members
