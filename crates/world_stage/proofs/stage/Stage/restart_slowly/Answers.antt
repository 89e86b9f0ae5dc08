use Rattle.std.proofs.Common.{List, refl, sym, subst}
use Rattle.std.proofs.lemmas.Result.{on_ok_weaker}
use Rattle.pg_model.specs.Facts.{ServerFacts}
use Rattle.cluster_model.specs.declared.beginning.Beginning.TheVariants.{WithItsStart}
use Rattle.cluster_model.specs.Messages.{server_restart_events}
use Rattle.cluster_model.specs.State.{Cluster}
use Rattle.world_model.specs.Emits.{Emits}
use Rattle.world_model.specs.Room.{server_restart_cost}
use Rattle.world_stage.proofs.Restarting.{BeginsAgain, begins-again-at, starts-took}
use Rattle.world_stage.proofs.Streams.{with_servers}
use Rattle.world_stage.proofs.Worlds.{seen}
use Rattle.world_stage.proofs.stage.Stage.restart_slowly.Goals as goal

pub returns : goal.returns
returns c =
    let before = seen c.self.inside in
    let again = subst (λ (b : Cluster). BeginsAgain b c.args.member WithItsStart) (sym c.self.view_is)
    (begins-again-at c.args.self.now c.args.member WithItsStart c.requires.primary c.requires.again) in
    on_ok_weaker c.write_down-2.result
    (λ has.
    subst (λ (b : Cluster). Emits b (with_servers before c.restart.new.self) c.args.events.now c.write_down-2.new.events
    (server_restart_events b c.args.member) server_restart_cost)
    c.self.view_is
    (subst (λ (known : List ServerFacts). Emits before (with_servers before known) c.args.events.now
    c.write_down-2.new.events (server_restart_events before c.args.member) server_restart_cost)
    (sym c.restart.ensures)
    (starts-took before c.args.member c.of-server.result c.self.inside.clock c.args.events.now c.write_down.new.events
    c.write_down-2.new.events again c.of-server.ensures refl (c.in_ok-write_down.ensures, has))))
    c.write_down-2.ensures
