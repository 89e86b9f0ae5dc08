use Rattle.std.proofs.Common.{◌∙◌, if◌then◌else◌, Some, None, refl, sym, subst}
use Rattle.std.proofs.lemmas.Result.{on_ok_weaker}
use Rattle.pg_cluster.specs.Rewinding.{may_clone_at}
use Rattle.cluster_model.specs.Commands.{kinds_of}
use Rattle.cluster_model.specs.Orders.{copying}
use Rattle.cluster_model.specs.Parts.{events_of}
use Rattle.cluster_model.specs.State.{Cluster}
use Rattle.world_model.specs.Emits.{Emits}
use Rattle.world_stage.proofs.Repairing.{copied-took, uncopied-took}
use Rattle.world_stage.proofs.Streams.{with_servers}
use Rattle.world_stage.proofs.Worlds.{seen}
use Rattle.world_stage.proofs.stage.Stage.copy.Goals as goal

pub returns-then-not-branch : goal.returns-then-not-branch
returns-then-not-branch c =
    let before = seen c.self.inside in
    subst (λ (b : Cluster). Emits b (with_servers before c.clone_from.new.self) c.args.events.now c.args.events.now
    (events_of b
    (kinds_of (if may_clone_at b.facts.servers c.args.member.id.number c.args.leader.id.number
    then Some (copying c.args.member c.args.leader) else None)))
    1)
    c.self.view_is
    (uncopied-took before c.args.member c.args.leader c.clone_from.new.self c.args.events.now
    (sym c.in_ok-clone_from.ensures.cloned ∙ c.if-not-branch.true) c.in_ok-clone_from.ensures.ok)

pub returns : goal.returns
returns c =
    let before = seen c.self.inside in
    on_ok_weaker c.write_down.result
    (λ has. subst
    (λ (b : Cluster). Emits b (with_servers before c.clone_from.new.self) c.args.events.now c.write_down.new.events
    (events_of b
    (kinds_of (if may_clone_at b.facts.servers c.args.member.id.number c.args.leader.id.number
    then Some (copying c.args.member c.args.leader) else None)))
    1)
    c.self.view_is
    (copied-took before c.args.member c.args.leader c.of.result c.of-2.result c.clone_from.new.self
    c.self.inside.clock c.args.events.now c.write_down.new.events
    (sym c.in_ok-clone_from.ensures.cloned ∙ c.if-not-branch.false) c.in_ok-clone_from.ensures.ok c.of.ensures
    c.of-2.ensures refl has))
    c.write_down.ensures
