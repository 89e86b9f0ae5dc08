-- Who acts is guarded, between two actions.
use Rattle.std.proofs.Common.{ℕ, ◌≡◌, ◌≤◌, ◌<◌, Bool, true, false, List, Option, Some, None, slice_get, refl, sym, subst, ◌∙◌, inl, inr}
use Rattle.script_model.specs.Script.{HeadText}
use Rattle.event_book.specs.declared.event.Event.{Event}
use Rattle.cluster_model.specs.FailsafeDeadlines.{is_set_by_failsafe}
use Rattle.cluster_model.specs.State.{Cluster}
use Rattle.lease_model.specs.Leases.{FailsafeKey}
use Rattle.lease_model.specs.Past.{Past, machine_of, past_of}
use Rattle.lease_model.specs.States.{Acts}
use Rattle.lease_model.specs.Carried.{Covers, HoldsCover, IsGuarded as IsGuardedBy}
use Rattle.lease_model.proofs.Tools.{none-some}
use Rattle.lease_parts.specs.Bridged.{Bridged, IsMatched}
use Rattle.lease_parts.specs.Declaring.{declared_of}
use Rattle.lease_parts.specs.Guarding.{HasKeyUntil, HaveHoldsUntil, IsGuarded}
use Rattle.lease_parts.specs.Volatile.{machine_in, volatile_of}

-- without failsafe mode there is no failsafe key
mode-on : (mode : Bool) (there : Option FailsafeKey) (key : FailsafeKey) → (mode ≡ false → there ≡ None)
    → there ≡ Some key → mode ≡ true
mode-on true there key off is = refl
mode-on false there key off is = absurd (none-some key (sym (off refl) ∙ is))

-- the same, of the cluster that this book leaves
guarded-in : (head : HeadText) (past : Past) (cluster : Cluster) (m : ℕ) → IsMatched head past cluster
    → ((declared_of head).failsafe ≡ false → past.failsafe ≡ None)
    → IsGuardedBy past.clock past.failsafe past.leader past.flight
    (λ p. machine_of past (volatile_of cluster p) p) m (past.deadline m) (past.by_failsafe m)
    → IsGuarded (declared_of head).failsafe cluster m
guarded-in head past cluster m matched off guarded = record {
  until = guarded.until;
  armed = sym (matched.machines.deadline m) ∙ guarded.is;
  later = subst (λ (clock : ℕ). clock < guarded.until) matched.store.clock guarded.later;
  cover = elim guarded.cover [
    | inl by_grant ↦ inl (basis ∙ by_grant.0, keyed by_grant.1)
    | inr by_word ↦ inr (
      basis ∙ by_word.0,
      mode-on (declared_of head).failsafe past.failsafe by_word.1.f off by_word.1.is,
      held by_word.1,
    )
  ];
}
  where
    basis : is_set_by_failsafe (slice_get cluster.failsafe_deadlines m) ≡ past.by_failsafe m
    basis = sym (matched.failsafe.bases m)

    keyed : Covers past.leader m guarded.until → HasKeyUntil cluster.facts m guarded.until
    keyed key = record {
      key = key.found_key;
      is = sym matched.store.leader ∙ key.key_is;
      holder = key.holder;
      lasts = key.lasts;
    }

    held : HoldsCover past.failsafe past.leader past.flight
        (λ p. machine_of past (volatile_of cluster p) p) m guarded.until
        → HaveHoldsUntil cluster.facts m guarded.until
    held word = record {
      key = word.f;
      is = sym matched.store.failsafe ∙ word.is;
      holds = λ p listed other. subst (λ (hold : ℕ). guarded.until ≤ hold) (matched.machines.hold p)
          (word.spans.listed word.f word.is p listed other);
    }

pub acting-guarded : (head : HeadText) (book : List Event) (cluster : Cluster) → Bridged head book cluster
    → (m : ℕ) → Acts (machine_in cluster m) → IsGuarded (declared_of head).failsafe cluster m
acting-guarded head book cluster good m acts =
    guarded-in head (past_of book) cluster m good.matched good.carried.sound.off (good.carried.sound.guarded m acts)
