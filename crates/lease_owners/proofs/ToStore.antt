-- A message that comes to the key store, and what that answers.
use Rattle.std.proofs.Common.{ℕ, ◌≡◌, ◌+◌, ◌++◌, ap, subst, sym}
use Rattle.store_keys.specs.declared.txn.Txn.{Txn}
use Rattle.lease_store.specs.Decision.{Decision}
use Rattle.event_book.specs.declared.event.EventKind.TheVariants as kinds
use Rattle.event_book.specs.declared.event.MessageEvent.TheVariants.{Delivered, Sent}
use Rattle.event_book.specs.declared.link.LinkEnd.{LinkEnd}
use Rattle.event_book.specs.declared.link.LinkEnd.TheVariants as ends
use Rattle.event_book.specs.declared.member.Member.{Member}
use Rattle.event_book.specs.declared.message.Body.{Body}
use Rattle.event_book.specs.declared.message.Body.TheVariants as bodies
use Rattle.event_book.specs.declared.message.Message.{Message}
use Rattle.cluster_model.specs.Cluster.{cluster_after, cluster_over}
use Rattle.cluster_model.specs.Messages.{answer_events, decision_events, decision_kind}
use Rattle.cluster_model.specs.Parts.{event_of}
use Rattle.cluster_model.specs.State.{Cluster}
use Rattle.lease_parts.specs.Waiting.{IsAddressed}

abbrev pub Next : Cluster → Message → Cluster
Next cluster message = cluster_after cluster (kinds.Message (Sent (cluster.facts.sent + 1) message))

abbrev pub Later : Cluster → ℕ → Cluster
Later cluster number = cluster_after cluster (kinds.Message (Delivered number))

abbrev pub Behind : Cluster → ℕ → Message → Cluster
Behind cluster number message = cluster_over cluster
    (event_of cluster (kinds.Message (Delivered number)) ++ answer_events (Later cluster number) number message)

abbrev pub Question : Member → ℕ → ℕ → Body → Message
Question by incarnation sequence body =
    record { from = ends.Member by; to = ends.Store; incarnation = incarnation; sequence = sequence; body = body }

-- behind its decision
abbrev pub Decided : Cluster → ℕ → Member → Txn → Decision → Cluster
Decided cluster number by txn decision =
    cluster_after (Later cluster number) (decision_kind cluster.facts.members number by txn decision)

abbrev pub Answering : Cluster → ℕ → Message → Member → Txn → Decision → Cluster
Answering cluster number message by txn decision = cluster_over (Later cluster number)
    (decision_events (Later cluster number) number message txn decision (ends.Member by))

-- it is a read or a request of a member
module _ (P : Message → Type 0)
    (reads : (by : Member) (incarnation sequence : ℕ) → P (Question by incarnation sequence bodies.Read))
    (requests : (by : Member) (incarnation sequence : ℕ) (txn : Txn) →
    IsAddressed (ends.Member by) ends.Store (bodies.Request txn) →
    P (Question by incarnation sequence (bodies.Request txn))) where
  store-by : (from : LinkEnd) (incarnation sequence : ℕ) (body : Body) → IsAddressed from ends.Store body
      → P (record { from = from; to = ends.Store; incarnation = incarnation; sequence = sequence; body = body })
  store-by ends.Store incarnation sequence body addressed = absurd addressed
  store-by (ends.Member by) incarnation sequence bodies.Read addressed = reads by incarnation sequence
  store-by (ends.Member by) incarnation sequence (bodies.Request txn) addressed =
      requests by incarnation sequence txn addressed
  store-by (ends.Member by) incarnation sequence _ addressed = absurd addressed

  pub to-store : (m : Message) → m.to ≡ ends.Store → IsAddressed m.from m.to m.body → P m
  to-store m to addressed =
      subst P (sym (ap (λ (end : LinkEnd). let one : Message = record {
        from = m.from;
        to = end;
        incarnation = m.incarnation;
        sequence = m.sequence;
        body = m.body;
      } in one) to))
      (store-by m.from m.incarnation m.sequence m.body
      (subst (λ (end : LinkEnd). IsAddressed m.from end m.body) to addressed))
