-- What an input leaves of what its agent waits for, and that it isn't paused.
use Rattle.std.proofs.Common.{◌≡◌, ℕ, false, List, refl, sym, subst, ap, ◌∙◌, inl, inr}
use Rattle.std.proofs.lemmas.Bool.{false_from_ne_true}
use Rattle.pat_base.specs.declared.ticks.Ticks.{Ticks}
use Rattle.store_keys.specs.declared.key.Key.TheVariants as keys
use Rattle.wal_model.specs.declared.entry.HistoryPoint.{HistoryPoint}
use Rattle.cluster_view.specs.Snapshots.{SnapshotFacts, entry_in, settings_in}
use Rattle.agent_model.specs.declared.heard.Heard.{Heard}
use Rattle.agent_model.specs.declared.why.Why.{Why}
use Rattle.agent_model.specs.declared.why.Why.TheVariants.{HandOver, Lost}
use Rattle.agent_model.specs.Agents.{EndsAlone, HasCounted, Outcome}
use Rattle.agent_model.specs.Reconciling.{has_ended, reconciled}
use Rattle.agent_model.specs.Snapshots.{informed}
use Rattle.agent_model.specs.Table.{step}
use Rattle.agent_roles.proofs.GoingOn.{alone-of, ends-of, told-pause}
use Rattle.agent_roles.proofs.Knowing.{step-onward, before-read}
use Rattle.agent_roles.proofs.Living.{no-way}
use Rattle.agent_cases.proofs.Rows.{before-by}
use Rattle.agent_model.specs.Pausing.{is_paused}
use Rattle.cluster_view.specs.KeyValues.{config_in}
use Rattle.store_keys.specs.declared.config.Config.{Config}

-- what is waited for, whom the agent asked whether it may stay primary, and its server stay as they are
pub record LeavesAsked (o after : Outcome) : Type 0 where
  pub waited : after.knows.waited ≡ o.knows.waited
  pub asked : after.knows.failsafe ≡ o.knows.failsafe
  pub server : after.machine.server ≡ o.machine.server

ended-leaves : (why : Why) (held : ℕ) (o : Outcome) → LeavesAsked o (has_ended why held o)
ended-leaves HandOver held o = record { waited = refl; asked = refl; server = refl }
ended-leaves Lost held o = record { waited = refl; asked = refl; server = refl }

-- so does what comes before an input
pub before-leaves : (now : Ticks) (o : Outcome) → LeavesAsked o (reconciled now o)
before-leaves now o = before-by (LeavesAsked o) now o (record {
  kept = λ _. record { waited = refl; asked = refl; server = refl };
  leader = λ _ _ _. record { waited = refl; asked = refl; server = refl };
  ending = λ held why _ _. ended-leaves why held o;
  follower = λ _ _. record { waited = refl; asked = refl; server = refl };
  holder = λ _ _ _. record { waited = refl; asked = refl; server = refl };
  ready = λ _ _ _. record { waited = refl; asked = refl; server = refl };
  unleased = λ _ _. record { waited = refl; asked = refl; server = refl };
})

pub before-waits : (now : Ticks) (o : Outcome) → (reconciled now o).knows.waited ≡ o.knows.waited
before-waits now o = (before-leaves now o).waited

-- an agent that reads of no pause behind what precedes an input isn't paused after it
pub stays-unpaused : (now : Ticks) (snapshot : SnapshotFacts) (o : Outcome) → is_paused o.knows ≡ false
    → (config_in snapshot).pause ≡ false → is_paused (informed snapshot (reconciled now o).knows) ≡ false
stays-unpaused now snapshot o was told = let settings : Config = (reconciled now o).knows.settings in
    false_from_ne_true (settings_in settings snapshot).pause
    (λ e. elim (told-pause settings (entry_in keys.Config snapshot) e) [
      | inl before-it ↦ no-way (sym (ap (λ (c : Config). c.pause) (before-read now o).0 ∙ was) ∙ before-it)
      | inr new ↦ no-way (sym told ∙ new)
    ])

-- what is waited for goes on to be counted
pub input-counts : (now : Ticks) (points : List HistoryPoint) (heard : Heard) (o after : Outcome)
    → after ≡ step now points heard o → HasCounted o.knows → HasCounted after.knows
input-counts now points heard o after is counted =
    subst (λ (x : Outcome). HasCounted x.knows) (sym is) ((step-onward now points heard o).counts counted)

-- who ends its server goes on waiting for no answer
pub input-ends : (now : Ticks) (points : List HistoryPoint) (heard : Heard) (o : Outcome)
    → EndsAlone o.role o.knows.waited → EndsAlone (step now points heard o).role (step now points heard o).knows.waited
input-ends now points heard o ends =
    ends-of (step now points heard o) ((step-onward now points heard o).ends (alone-of o ends))

pub input-ends-as : (now : Ticks) (points : List HistoryPoint) (heard : Heard) (o after : Outcome)
    → after ≡ step now points heard o → EndsAlone o.role o.knows.waited → EndsAlone after.role after.knows.waited
input-ends-as now points heard o after is ends =
    subst (λ (x : Outcome). EndsAlone x.role x.knows.waited) (sym is) (input-ends now points heard o ends)
