-- Who asks to publish standbys has commits wait for them, and those that it adds have confirmed what it noted.
use Rattle.std.proofs.Common.{arith, ℕ, ◌≡◌, ◌⊎◌, ◌<◌, ◌≤◌, ◌+◌, ◌&&◌, not, Bool, true, false, Option, Some, None, slice_get, refl, ◌∙◌, ap, sym, subst, inl, inr}
use Rattle.pat_base.specs.declared.server_state.Required.{Required}
use Rattle.pat_base.specs.declared.server_state.Required.TheVariants as requireds
use Rattle.lease_model.proofs.Tools.{both, none-some, some-is}
use Rattle.commit_actions.specs.Carried.{IsSound}
use Rattle.commit_actions.specs.Flights.{Aim, ClaimSync, CreateLeader, PublishStandbys, SyncRequest}
use Rattle.commit_actions.specs.Inputs.{AgentInput, AsksForLeader, Does, HasConfirmed, IsLawful, Publishes, Sending, Idling, Racing, HearingAnswer, WinningRace, CreatingLeader, Arming, TakingOver, ChangingRequired, Publishing, Promoting, SettlingRequired}
use Rattle.commit_actions.specs.Keys.{Confirmers, MayPublish, Added, Counted, Confirmed, Meets, Overlaps, SyncKey, count, strict_quorum}
use Rattle.commit_actions.specs.Past.{Past, Setup, VolatileState, confirmers_in, confirmers_of, position_of, state_of}
use Rattle.commit_actions.specs.States.{Reaches, State}
use Rattle.commit_actions.proofs.Counting.{meets-sub, none-of}
use Rattle.commit_law.specs.Noted.{AreNoted}
use Rattle.commit_showing.specs.Order.{IsConfirmer}
use Rattle.commit_showing.specs.Requests.{MayBePublished, PublishesAwaited}
use Rattle.commit_showing.proofs.Inside.{awaits}

-- ---- each standby that it adds has confirmed
-- whom commits wait for has it, where they wait for each
meets-in : (member_count : ℕ) (required : Required) (X : ℕ → Type 0) (standby : ℕ)
    → IsConfirmer (confirmers_in required) standby → Meets member_count (confirmers_in required) X → X standby
meets-in member_count requireds.Nobody X standby awaited met = absurd awaited
meets-in member_count requireds.AnyOne X standby awaited met = absurd awaited
meets-in member_count (requireds.AtLeast number of) X standby awaited met = absurd awaited
meets-in member_count (requireds.All members) X standby awaited met = met standby awaited

meets-one : (member_count : ℕ) (required : Option Required) (X : ℕ → Type 0) (standby : ℕ)
    → IsConfirmer (confirmers_of required) standby → Meets member_count (confirmers_of required) X → X standby
meets-one member_count None X standby awaited met = absurd awaited
meets-one member_count (Some required) X standby awaited met = meets-in member_count required X standby awaited met

-- one that is there already is none that is added
was-there : (old : Bool) → old ≡ true → old ≡ false → ⊥
was-there old is new = both (sym new ∙ is)

none-added : (member_count quorum : ℕ) (new old : ℕ → Bool) (standby : ℕ) → standby < member_count → new standby ≡ true
    → old standby ≡ false → count member_count (λ m. new m && not (old m)) + quorum ≤ strict_quorum → ⊥
none-added member_count quorum new old standby small is added sum =
    both (sym (none-of member_count (λ m. new m && not (old m))
    (zero (count member_count (λ m. new m && not (old m))) quorum sum) standby small)
    ∙ ap (λ (b : Bool). b && not (old standby)) is ∙ ap not added)
  where
    zero : (a b : ℕ) → a + b ≤ strict_quorum → a ≡ 0
    zero a b sum = omega (arith, sum)

added-has : (member_count quorum : ℕ) (old new : ℕ → Bool) (required : Option Required) (X : ℕ → Type 0) (standby : ℕ)
    → MayPublish member_count old quorum new strict_quorum (confirmers_of required) X
    → standby < member_count → new standby ≡ true → old standby ≡ false
    → IsConfirmer (confirmers_of required) standby → X standby
added-has member_count quorum old new required X standby (Added each fewer) small is added awaited =
    elim (each standby is) [
      | inl there ↦ absurd (was-there (old standby) there added)
      | inr has ↦ has
    ]
added-has member_count quorum old new required X standby (Counted sum) small is added awaited =
    absurd (none-added member_count quorum new old standby small is added sum)
added-has member_count quorum old new required X standby (Confirmed met) small is added awaited =
    meets-one member_count required X standby awaited met

publish-sub : (member_count old_quorum quorum : ℕ) (old new : ℕ → Bool) (confirmers : Confirmers) (X Y : ℕ → Type 0)
    → ((n : ℕ) → X n → Y n)
    → MayPublish member_count old old_quorum new quorum confirmers X
    → MayPublish member_count old old_quorum new quorum confirmers Y
publish-sub member_count old_quorum quorum old new confirmers X Y sub (Added each fewer) =
    Added (λ m is. elim (each m is) [ inl there ↦ inl there | inr has ↦ inr (sub m has) ]) fewer
publish-sub member_count old_quorum quorum old new confirmers X Y sub (Counted sum) = Counted sum
publish-sub member_count old_quorum quorum old new confirmers X Y sub (Confirmed met) =
    Confirmed (meets-sub member_count confirmers X Y sub met)

reaches-less : (less more : ℕ) (position : Option ℕ) → less ≤ more → Reaches more position → Reaches less position
reaches-less less more None below reaches = reaches
reaches-less less more (Some end) below reaches = omega (arith, below, reaches)

-- ---- which input it is
module _ (setup : Setup) (past : Past) (volatile_states : ℕ → VolatileState) (leader : ℕ) (input : AgentInput)
    (sending : Sending) (standbys : ℕ → Bool) (quorum : ℕ)
    (sound : IsSound (state_of setup past volatile_states))
    (law : IsLawful (state_of setup past volatile_states) leader input) (sends : input.sends ≡ Some sending)
    (aim : sending.request.aim ≡ PublishStandbys standbys quorum)
    (noted : AreNoted (state_of setup past volatile_states).members past.grown) where
  abbrev S : State
  S = state_of setup past volatile_states

  none-sent : input.sends ≡ None → ⊥
  none-sent none = none-some sending (sym none ∙ sends)

  -- what it sends aims at nothing else
  other-claims : (request : SyncRequest) (number : ℕ)
      → input.sends ≡ Some (record { number = number; request = request }) → request.aim ≡ ClaimSync → ⊥
  other-claims request number is claims =
      no (sym claims ∙ ap (λ (s : Sending). s.request.aim) (some-is _ _ (sym is ∙ sends)) ∙ aim)
    where
      no : ClaimSync ≡ PublishStandbys standbys quorum → ⊥
      no e = cc

  other-creates : (request : SyncRequest) (number : ℕ)
      → input.sends ≡ Some (record { number = number; request = request }) → request.aim ≡ CreateLeader → ⊥
  other-creates request number is creates =
      no (sym creates ∙ ap (λ (s : Sending). s.request.aim) (some-is _ _ (sym is ∙ sends)) ∙ aim)
    where
      no : CreateLeader ≡ PublishStandbys standbys quorum → ⊥
      no e = cc

  none-asks : AsksForLeader S leader input law.was → ⊥
  none-asks asks = other-creates asks.request asks.sends.number asks.sends.is asks.aim

  none-asked : (input.sends ≡ None) ⊎ AsksForLeader S leader input law.was → ⊥
  none-asked (inl none) = none-sent none
  none-asked (inr asks) = none-asks asks

  publishes : Does S leader input law.was → Publishes S leader input law.was
  publishes (Idling idles) = absurd (none-sent idles.sends)
  publishes (Racing races) = absurd (none-sent races.sends)
  publishes (HearingAnswer answer) = absurd (none-sent answer.sends)
  publishes (WinningRace wins) = absurd (none-asked wins.asks)
  publishes (CreatingLeader creates) = absurd (none-asks creates.asks)
  publishes (Arming arms) = absurd (other-claims arms.request arms.sends.number arms.sends.is arms.aim)
  publishes (TakingOver takes) = absurd (none-sent takes.sends)
  publishes (ChangingRequired changes) = absurd (none-sent changes.sends)
  publishes (Publishing p) = p
  publishes (Promoting promotes) = absurd (none-sent promotes.sends)
  publishes (SettlingRequired settles) = absurd (none-sent settles.sends)

  allowed : Publishes S leader input law.was
      → MayBePublished setup.member_count past leader input.agent.noted sending.request standbys quorum
  allowed p =
      let sent : sending ≡ record { number = p.sends.number; request = p.request } =
      some-is _ _ (sym sends ∙ p.sends.is) in
      let request : sending.request ≡ p.request = ap (λ (s : Sending). s.request) sent in
      let same : PublishStandbys p.standbys p.quorum ≡ PublishStandbys standbys quorum = sym p.aim
      ∙ ap (λ (r : SyncRequest). r.aim) (sym request) ∙ aim in
      let present : past.sync ≡ Some p.key =
      (sound.leased p.hears.number p.grant p.hears.is).current
      (record {
        agent = law.was;
        is = ap (λ (m : ℕ). (S.members m).agent) p.hears.member ∙ law.was_is;
        run_is = p.hears.incarnation;
        waits = p.hears.waits;
      })
      (inl (ap (λ (m : ℕ). (S.members m).live) p.hears.member ∙ p.live)) ∙ p.key_is in
      let list : Confirmers = confirmers_of (slice_get past.required leader) in
      let has = HasConfirmed (S.members leader) law.was.noted in
      let may : MayPublish setup.member_count p.key.standbys p.key.quorum standbys quorum list has =
      subst (λ (a : Aim). MayAim p.key list has a) same p.may in
      record {
        key = p.key;
        is = present;
        compares = ap (λ (r : SyncRequest). r.sync) request ∙ p.sync;
        overlaps = subst (λ (a : Aim). OverlapsAim list a) same p.overlaps;
        confirmed = publish-sub setup.member_count p.key.quorum quorum p.key.standbys standbys list has
            (λ n. Reaches input.agent.noted (position_of (slice_get past.confirmed leader) n))
            (λ n has.
            subst (λ (noted : ℕ). Reaches noted (position_of (slice_get past.confirmed leader) n)) (sym p.noted) has.1)
            may;
        since = publish-sub setup.member_count p.key.quorum quorum p.key.standbys standbys list has
            (λ n. Reaches (past.grown leader) (position_of (slice_get past.confirmed leader) n))
            (λ n has. reaches-less (past.grown leader) law.was.noted (position_of (slice_get past.confirmed leader) n)
            ((noted leader).noted law.was p.live law.was_is p.led) has.1)
            may;
      }
    where
      OverlapsAim : Confirmers → Aim → Type 0
      OverlapsAim confirmers (PublishStandbys new quorum) = Overlaps setup.member_count new quorum confirmers
      OverlapsAim confirmers _ = ⊥

      MayAim : SyncKey → Confirmers → (ℕ → Type 0) → Aim → Type 0
      MayAim key confirmers X (PublishStandbys new quorum) =
          MayPublish setup.member_count key.standbys key.quorum new quorum confirmers X
      MayAim key confirmers X _ = ⊥

-- however many of them may lack a commit
pub publication : (setup : Setup) (past : Past) (volatile_states : ℕ → VolatileState) (leader : ℕ) (input : AgentInput)
    (sending : Sending) (standbys : ℕ → Bool) (quorum : ℕ) → IsSound (state_of setup past volatile_states)
    → AreNoted (state_of setup past volatile_states).members past.grown
    → IsLawful (state_of setup past volatile_states) leader input → input.sends ≡ Some sending
    → sending.request.aim ≡ PublishStandbys standbys quorum
    → MayBePublished setup.member_count past leader input.agent.noted sending.request standbys quorum
publication setup past volatile_states leader input sending standbys quorum sound noted law sends aim =
    allowed setup past volatile_states leader input sending standbys quorum sound law sends aim noted
    (publishes setup past volatile_states leader input sending standbys quorum sound law sends aim noted law.does)

-- where none may
pub strict-publication : (member_count : ℕ) (past : Past) (leader noted : ℕ) (request : SyncRequest)
    (standbys : ℕ → Bool) → MayBePublished member_count past leader noted request standbys strict_quorum
    → ((standby : ℕ) → standbys standby ≡ true → standby < member_count)
    → PublishesAwaited past leader noted request standbys
strict-publication member_count past leader noted request standbys may small =
    let list : Option Required = slice_get past.required leader in
    let awaited = λ (standby : ℕ) (is : standbys standby ≡ true).
    awaits member_count strict_quorum standbys standby list refl (small standby is) is may.overlaps in
    record {
      key = may.key;
      is = may.is;
      compares = may.compares;
      awaited = awaited;
      confirmed = λ standby is added. added-has member_count may.key.quorum may.key.standbys standbys list
          (λ n. Reaches noted (position_of (slice_get past.confirmed leader) n)) standby may.confirmed
          (small standby is) is added (awaited standby is);
      since = λ standby is added. added-has member_count may.key.quorum may.key.standbys standbys list
          (λ n. Reaches (past.grown leader) (position_of (slice_get past.confirmed leader) n)) standby may.since
          (small standby is) is added (awaited standby is);
    }
