use Rattle.std.proofs.Common.{◌∙◌, option_map, refl, sym, subst}
use Rattle.std.proofs.lemmas.Result.{on_ok_weaker}
use Rattle.pg_cluster.specs.Rewinding.{rewind_at}
use Rattle.cluster_model.specs.Commands.{kinds_of}
use Rattle.cluster_model.specs.Orders.{rewinding}
use Rattle.cluster_model.specs.Parts.{events_of}
use Rattle.cluster_model.specs.State.{Cluster}
use Rattle.world_model.specs.Emits.{Emits}
use Rattle.world_stage.proofs.Repairing.{rewound-took, unrewound-took}
use Rattle.world_stage.proofs.Streams.{with_servers}
use Rattle.world_stage.proofs.Worlds.{seen}
use Rattle.world_stage.proofs.stage.Stage.rewind.Goals as goal

pub returns-in_default : goal.returns-in_default
returns-in_default c =
    let before = seen c.self.inside in
    subst (λ (b : Cluster). Emits b (with_servers before c.rewind.new.self) c.args.events.now c.args.events.now
    (events_of b
    (kinds_of (option_map (rewinding c.args.member c.args.leader)
    (rewind_at b.facts.servers c.args.member.id.number c.args.leader.id.number))))
    1)
    c.self.view_is
    (unrewound-took before c.args.member c.args.leader c.rewind.new.self c.args.events.now
    (sym c.in_ok-rewind.ensures.rewind ∙ c.in_default.is) c.in_ok-rewind.ensures.ok)

pub returns : goal.returns
returns c =
    let before = seen c.self.inside in
    on_ok_weaker c.write_down.result
    (λ has.
    subst (λ (b : Cluster). Emits b (with_servers before c.rewind.new.self) c.args.events.now c.write_down.new.events
    (events_of b
    (kinds_of (option_map (rewinding c.args.member c.args.leader)
    (rewind_at b.facts.servers c.args.member.id.number c.args.leader.id.number))))
    1)
    c.self.view_is
    (rewound-took before c.args.member c.args.leader c.in-Some.rewind c.of.result c.of-2.result
    c.rewind.new.self c.self.inside.clock c.args.events.now c.write_down.new.events
    (sym c.in_ok-rewind.ensures.rewind ∙ c.in-Some.is) c.in_ok-rewind.ensures.ok c.of.ensures c.of-2.ensures refl has))
    c.write_down.ensures
