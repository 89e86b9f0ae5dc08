-- After what comes before an input the role fits the server.
use Rattle.std.proofs.Common.{◌≡◌, ℕ, Bool, true, false, refl, sym, ◌∙◌}
use Rattle.pat_base.specs.declared.ticks.Ticks.{Ticks}
use Rattle.pat_base.specs.ServerState.{live}
use Rattle.agent_model.specs.declared.why.Why.{Why}
use Rattle.agent_model.specs.declared.why.Why.TheVariants.{HandOver, Lost}
use Rattle.agent_model.specs.Agents.{RoleFacts, Follower, Holder, Ready, Leader, Ending, Unleased, Outcome, is_ready}
use Rattle.agent_model.specs.Decisions.{may_create}
use Rattle.agent_model.specs.Reconciling.{has_ended, reconciled}
use Rattle.agent_model.specs.Fits.{Fits}
use Rattle.agent_roles.proofs.Living.{no-way}
use Rattle.agent_cases.proofs.Rows.{before-by}

abbrev FitsIn : Outcome → Type 0
FitsIn o = Fits o.role (live o.machine.server.state)

ended-fits : (why : Why) (revision : ℕ) (o : Outcome) → live o.machine.server.state ≡ false
    → FitsIn (has_ended why revision o)
ended-fits HandOver revision o ended = ended
ended-fits Lost revision o ended = ended

pub before-fits : (now : Ticks) (o : Outcome) → FitsIn (reconciled now o)
before-fits now o = before-by FitsIn now o (record {
  kept = λ fits. fits;
  leader = λ revision is ended. ended;
  ending = λ revision why is ended. ended-fits why revision o ended;
  follower = λ is lives. lives;
  holder = λ revision is lives. lives;
  ready = λ revision is lives. lives;
  unleased = λ is ended. ended;
})

-- who may have asked for the leader key while it was absent has no live server
pub ended-for : (role : RoleFacts) (lives : Bool) → may_create role ≡ true → Fits role lives → lives ≡ false
ended-for Follower lives may fits = fits
ended-for (Holder held) lives may fits = fits
ended-for (Ready held) lives may fits = fits
ended-for (Leader held) lives may fits = absurd (no-way may)
ended-for (Ending held why) lives may fits = absurd (no-way may)
ended-for Unleased lives may fits = absurd (no-way may)

-- who is about to begin has none
pub ready-ended : (role : RoleFacts) (lives : Bool) → is_ready role ≡ true → Fits role lives → lives ≡ false
ready-ended (Ready held) lives ready fits = fits
ready-ended Follower lives ready fits = fits
ready-ended (Holder held) lives ready fits = fits
ready-ended (Leader held) lives ready fits = absurd (no-way ready)
ready-ended (Ending held why) lives ready fits = absurd (no-way ready)
ready-ended Unleased lives ready fits = absurd (no-way ready)

-- who is about to begin behind what comes before an input was so before, and its watchdog stays
ended-unready : (why : Why) (held : ℕ) (o : Outcome) → is_ready (has_ended why held o).role ≡ false
ended-unready HandOver held o = refl
ended-unready Lost held o = refl

pub ready-same : (now : Ticks) (o : Outcome) → is_ready (reconciled now o).role ≡ true
    → (reconciled now o).machine.watchdog ≡ o.machine.watchdog
ready-same now o =
    before-by (λ (x : Outcome). is_ready x.role ≡ true → x.machine.watchdog ≡ o.machine.watchdog) now o (record {
      kept = λ _ _. refl;
      leader = λ held _ _ e. absurd (no-way e);
      ending = λ held why _ _ e. absurd (no-way (sym (ended-unready why held o) ∙ e));
      follower = λ _ _ e. absurd (no-way e);
      holder = λ held _ _ e. absurd (no-way e);
      ready = λ held _ _ e. absurd (no-way e);
      unleased = λ _ _ e. absurd (no-way e);
    })
