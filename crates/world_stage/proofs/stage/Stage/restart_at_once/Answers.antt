use Rattle.std.proofs.Common.{List, refl, sym, subst}
use Rattle.std.proofs.lemmas.Result.{on_ok_weaker}
use Rattle.pg_model.specs.Facts.{ServerFacts}
use Rattle.cluster_model.specs.declared.beginning.Beginning.TheVariants.{AtOnce}
use Rattle.cluster_model.specs.Commands.{kinds_of}
use Rattle.cluster_model.specs.Messages.{server_restart_events}
use Rattle.cluster_model.specs.Parts.{events_of}
use Rattle.cluster_model.specs.State.{Cluster}
use Rattle.world_model.specs.Emits.{Emits}
use Rattle.world_model.specs.Room.{HasRoom, server_restart_cost}
use Rattle.world_stage.proofs.Restarting.{BeginsAgain, begins-again-at, begins-took, begun-room}
use Rattle.world_stage.proofs.Streams.{with_servers}
use Rattle.world_stage.proofs.Worlds.{seen}
use Rattle.world_stage.proofs.stage.Stage.restart_at_once.Goals as goal

pub happen_if-requires-clause-room : goal.happen_if-requires-clause-room
happen_if-requires-clause-room c =
    let before = seen c.self.inside in
    let again = subst (λ (b : Cluster). BeginsAgain b c.args.member (AtOnce c.args.timeline)) (sym c.self.view_is)
    (begins-again-at c.args.self.now c.args.member (AtOnce c.args.timeline) c.requires.primary c.requires.again) in
    let room = subst (λ (b : Cluster). HasRoom b server_restart_cost) (sym c.self.view_is) c.requires.room in
    subst (λ (known : List ServerFacts). HasRoom (with_servers before known) 1) (sym c.restart.ensures)
    (begun-room before c.args.member c.args.timeline c.of-server.result c.self.inside.clock c.args.events.now
    c.write_down.new.events c.write_down-2.new.events again c.of-server.ensures refl
    (c.in_ok-write_down.ensures, c.in_ok-write_down-2.ensures) room)

pub returns : goal.returns
returns c =
    let before = seen c.self.inside in
    let again = subst (λ (b : Cluster). BeginsAgain b c.args.member (AtOnce c.args.timeline)) (sym c.self.view_is)
    (begins-again-at c.args.self.now c.args.member (AtOnce c.args.timeline) c.requires.primary c.requires.again) in
    let lost = c.in_ok-loss.ensures.kind in
    on_ok_weaker c.happen_if.result
    (λ took.
    subst (λ (b : Cluster). Emits b c.happen_if.new.self c.args.events.now c.happen_if.new.events
    (server_restart_events b c.args.member) server_restart_cost)
    c.self.view_is
    (begins-took before c.happen_if.new.self c.args.member c.args.timeline c.of-server.result
    c.in_ok-loss.loss c.self.inside.clock c.args.events.now c.write_down.new.events c.write_down-2.new.events
    c.happen_if.new.events again c.of-server.ensures refl lost
    (c.in_ok-write_down.ensures, c.in_ok-write_down-2.ensures)
    (subst (λ (known : List ServerFacts).
    Emits (with_servers before known) c.happen_if.new.self c.write_down-2.new.events c.happen_if.new.events
    (events_of (with_servers before known) (kinds_of c.in_ok-loss.loss)) 1) c.restart.ensures took)))
    c.happen_if.ensures
