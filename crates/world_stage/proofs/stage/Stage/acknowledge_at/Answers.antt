use Rattle.std.proofs.Common.{◌≡◌, ◌∙◌, Option, Some, ap, subst, sym, false}
use Rattle.event_book.specs.declared.member.Member.{Member}
use Rattle.event_book.specs.Writers.{writes_in}
use Rattle.cluster_model.specs.Next.{acknowledge_events}
use Rattle.cluster_model.specs.State.{Cluster}
use Rattle.world_model.specs.Emits.{Emits}
use Rattle.world_stage.proofs.Acknowledgements.{nothing-acknowledged}
use Rattle.world_stage.proofs.stage.Stage.acknowledge_at.Goals as goal

same : (found : Option Member) (a b : Member) → found ≡ Some a → found ≡ Some b → a ≡ b
same found a b is other = cc

pub returns-then-not-accepts_writes : goal.returns-then-not-accepts_writes
returns-then-not-accepts_writes c = λ member is.
    nothing-acknowledged c.args.self.now member c.args.events.now 0
    (subst (λ (b : Cluster). writes_in b.facts.servers member.id.number ≡ false) c.self.view_is
    (ap (λ (m : Member). writes_in c.self.inside.servers m.id.number)
    (same _ member c.member.result is c.member.ensures) ∙ sym c.accepts_writes.ensures ∙ c.if-not-accepts_writes.true))

pub returns : goal.returns
returns c = λ member is.
    subst (λ (m : Member). Emits c.args.self.now c.acknowledge.new.self c.args.events.now c.acknowledge.new.events
    (acknowledge_events c.args.self.now m) 0)
    (same _ c.member-2.result member c.member-2.ensures is) c.in_ok-acknowledge.ensures
