-- Who asks for the renewal or the release of the leader key as it is now is its holder.
use Rattle.std.proofs.Common.{ℕ, ◌≡◌, List, Some, refl, ap, sym, subst}
use Rattle.script_model.specs.Script.{HeadText}
use Rattle.event_book.specs.declared.link.LinkEnd.{LinkEnd}
use Rattle.event_book.specs.declared.link.LinkEnd.TheVariants as ends
use Rattle.event_book.specs.declared.member.Member.{Member}
use Rattle.event_book.specs.declared.message.Body.{Body}
use Rattle.event_book.specs.declared.message.Body.TheVariants as bodies
use Rattle.event_book.specs.Flight.{InFlightFacts, in_flight}
use Rattle.cluster_model.specs.State.{Cluster}
use Rattle.lease_model.specs.Leases.{LeaderKey}
use Rattle.lease_parts.specs.Waiting.{IsAddressed}
use Rattle.lease_owners.specs.Asking.{AsksFor}
use Rattle.lease_owners.specs.Kept.{IsOwned}
use Rattle.lease_owners.specs.Owning.{IsOf}
use Rattle.leading_parts.specs.Holding.{HasKey, IsMemberOf}

-- the key store asks nothing
store-asks : (to : LinkEnd) (body : Body) (revision : ℕ) → IsAddressed ends.Store to body → AsksFor revision body → ⊥
store-asks ends.Store body revision addressed asks = absurd addressed
store-asks (ends.Member member) (bodies.Request txn) revision addressed asks = absurd addressed
store-asks (ends.Member member) _ revision addressed asks = absurd asks

-- a member asks for it
pub record IsAsker (cluster : Cluster) (revision : ℕ) (carried : InFlightFacts) : Type 0 where
  pub by : Member
  pub from : carried.message.from ≡ ends.Member by
  pub own : IsOf cluster.facts.keys by.id.number revision

module _ (head : HeadText) (cluster : Cluster) (good : IsOwned head cluster) (number : ℕ) (carried : InFlightFacts)
    (found : in_flight cluster.facts.flight number ≡ Some carried) where
  asker-by : (revision : ℕ) (from : LinkEnd) → carried.message.from ≡ from
      → IsAddressed from carried.message.to carried.message.body → AsksFor revision carried.message.body
      → IsAsker cluster revision carried
  asker-by revision ends.Store is addressed asks =
      absurd (store-asks carried.message.to carried.message.body revision addressed asks)
  asker-by revision (ends.Member by) is addressed asks =
      record { by = by; from = is; own = (good.facts.sent number carried found).1.asks by revision is asks }

  pub asker-of : (revision : ℕ) → AsksFor revision carried.message.body → IsAsker cluster revision carried
  asker-of revision asks =
      asker-by revision carried.message.from refl (good.facts.sent number carried found).0.addressed asks

  pub asks-own : (key : LeaderKey) → HasKey key cluster → AsksFor key.revision carried.message.body
      → IsMemberOf key.holder carried.message.from
  asks-own key has asks =
      let asker = asker-of key.revision asks in
      subst (IsMemberOf key.holder) (sym asker.from) (sym (asker.own.owner key has refl))
