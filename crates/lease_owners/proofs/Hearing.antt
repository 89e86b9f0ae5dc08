-- What a message says to an agent gives it, and shows, only what is its own.
use Rattle.std.proofs.Common.{ℕ, ◌≡◌, ◌==◌, ◌&&◌, Bool, true, false, Option, Some, None, option_map, refl, ap, subst, ◌∙◌}
use Rattle.pat_base.specs.declared.member_id.MemberId.{MemberId}
use Rattle.pat_base.specs.declared.peer_answer.PeerAnswer.{PeerAnswer}
use Rattle.pat_base.specs.declared.ticks.Ticks.{Ticks}
use Rattle.store_keys.specs.declared.action.OperatorAction.{OperatorAction}
use Rattle.store_keys.specs.declared.key.Key.{Key}
use Rattle.store_keys.specs.declared.txn.Expected.{Expected}
use Rattle.lease_store.specs.declared.granted.Granted.{Granted}
use Rattle.lease_store.specs.Keys.{Keys}
use Rattle.event_book.specs.declared.message.Body.{Body}
use Rattle.event_book.specs.declared.message.Body.TheVariants as bodies
use Rattle.event_book.specs.Flight.{InFlightFacts}
use Rattle.agent_model.specs.declared.heard.Heard.{Heard}
use Rattle.agent_model.specs.declared.heard.Heard.TheVariants as heards
use Rattle.agent_model.specs.Agents.{Outcome}
use Rattle.cluster_model.specs.Hearing.{heard_from, heard_in, member_at_end, snapshot_in}
use Rattle.cluster_model.specs.State.{Cluster}
use Rattle.lease_model.proofs.Tools.{eq-from, none-some, some-is}
use Rattle.lease_owners.specs.Owning.{CarriesOwn, IsOf}
use Rattle.lease_owners.proofs.Inputs.{HearsOwn}

clash : false ≡ true → ⊥
clash e = cc

both-true : (a b : Bool) → a && b ≡ true → (a ≡ true) × (b ≡ true)
both-true true true e = (refl, refl)
both-true true false e = absurd (clash e)
both-true false b e = absurd (clash e)

found-by : {A : Type 0} (P : Heard → Type 0) (f : A → Heard) (found : Option A) (heard : Heard)
    → option_map f found ≡ Some heard → ((x : A) → found ≡ Some x → P (f x)) → P heard
found-by P f None heard e all = absurd (none-some heard e)
found-by P f (Some x) heard e all = subst P (some-is (f x) heard e) (all x refl)

module _ (known : Keys) (m : ℕ) where
  -- what tells neither a snapshot nor a grant
  pub wake-own : HearsOwn known m heards.Wake
  wake-own = record {
    gives = λ o me revision gives. absurd gives;
    shows = λ seen is. absurd (none-some seen is);
  }

  pub operated-own : (action : OperatorAction) → HearsOwn known m (heards.Operated action)
  operated-own action = record {
    gives = λ o me revision gives. absurd gives;
    shows = λ seen is. absurd (none-some seen is);
  }

  -- ---- by what a message says
  module _ (cluster : Cluster) (carried : InFlightFacts) (own : CarriesOwn known carried) where
    abbrev Hears : Heard → Type 0
    Hears heard = HearsOwn known m heard

    read-own : Hears (heards.ReadAnswered carried.message.sequence (snapshot_in cluster carried))
    read-own = record { gives = λ o me revision gives. absurd gives; shows = own.shows }

    granted-own : (grant : Granted) → carried.grant ≡ Some grant
        → Hears (heards.Granted carried.message.sequence grant (snapshot_in cluster carried))
    granted-own grant is = record {
      gives = λ o me revision gives.
          let both = both-true grant.leased (grant.by.number == o.knows.who.me.number) gives.0.mine in
          subst (IsOf known m) gives.1
          (subst (λ (n : ℕ). IsOf known n grant.revision)
          (eq-from grant.by.number o.knows.who.me.number both.1 ∙ me) (own.tells grant is both.0));
      shows = own.shows;
    }

    refused-own : (key : Key) (found : Expected) → Hears (heards.Mismatch carried.message.sequence key found)
    refused-own key found = record {
      gives = λ o me revision gives. absurd gives;
      shows = λ seen is. absurd (none-some seen is);
    }

    asked-own : (from : MemberId)
        → Hears (heards.Asked from carried.message.incarnation carried.message.sequence)
    asked-own from = record {
      gives = λ o me revision gives. absurd gives;
      shows = λ seen is. absurd (none-some seen is);
    }

    answered-own : (answer : PeerAnswer) → Hears (heards.Answered carried.message.sequence answer)
    answered-own answer = record {
      gives = λ o me revision gives. absurd gives;
      shows = λ seen is. absurd (none-some seen is);
    }

    requested-own : (ttl : Ticks) (from : MemberId)
        → Hears (heards.FailsafeAsked from carried.message.incarnation carried.message.sequence ttl)
    requested-own ttl from = record {
      gives = λ o me revision gives. absurd gives;
      shows = λ seen is. absurd (none-some seen is);
    }

    accepted-own : (accepted : Bool) (from : MemberId)
        → Hears (heards.FailsafeAnswered from carried.message.sequence accepted carried.sent)
    accepted-own accepted from = record {
      gives = λ o me revision gives. absurd gives;
      shows = λ seen is. absurd (none-some seen is);
    }

    body-own : (body : Body) (heard : Heard) → heard_in cluster carried body ≡ Some heard → Hears heard
    body-own bodies.Snapshot heard e =
        subst Hears (some-is (heards.ReadAnswered carried.message.sequence (snapshot_in cluster carried)) heard e)
        read-own
    body-own (bodies.Granted request leased) heard e =
        found-by Hears
        (λ (grant : Granted). heards.Granted carried.message.sequence grant (snapshot_in cluster carried))
        carried.grant heard e granted-own
    body-own (bodies.Refused request key found) heard e =
        subst Hears (some-is (heards.Mismatch carried.message.sequence key found) heard e) (refused-own key found)
    body-own bodies.Ask heard e =
        found-by Hears
        (λ (from : MemberId). heards.Asked from carried.message.incarnation carried.message.sequence)
        (member_at_end carried.message.from) heard e (λ from is. asked-own from)
    body-own (bodies.Answer answer) heard e =
        subst Hears (some-is (heards.Answered carried.message.sequence answer) heard e) (answered-own answer)
    body-own (bodies.FailsafeRequest ttl) heard e =
        found-by Hears
        (λ (from : MemberId). heards.FailsafeAsked from carried.message.incarnation carried.message.sequence ttl)
        (member_at_end carried.message.from) heard e (λ from is. requested-own ttl from)
    body-own (bodies.FailsafeAnswer accepted) heard e =
        found-by Hears
        (λ (from : MemberId). heards.FailsafeAnswered from carried.message.sequence accepted carried.sent)
        (member_at_end carried.message.from) heard e (λ from is. accepted-own accepted from)
    body-own _ heard e = absurd (none-some heard e)

    pub message-own : (heard : Heard) → heard_from cluster carried ≡ Some heard → Hears heard
    message-own heard e = body-own carried.message.body heard e
