use Rattle.std.proofs.Common.{◌≡◌, ◌∙◌, ◌==◌, ◌&&◌, ◌||◌, not, Some, false, ap, sym, rules}
use Rattle.std.specs.Prelude.{slice_get}
use Rattle.pat_base.specs.declared.server_state.State.{State}
use Rattle.pat_base.specs.declared.ticks.Ticks.{Ticks}
use Rattle.pg_model.specs.Facts.{is_up}
use Rattle.pg_model.specs.Running.{is_primary}
use Rattle.pg_cluster.specs.Servers.{without_spare}
use Rattle.event_book.specs.Servers.{stops_quietly}
use Rattle.world_parts.proofs.ServerCommanding.{not-quiet}
use Rattle.world_parts.proofs.server_changes.stop.Goals as goal

pub returns-else-stops_quietly : goal.returns-else-stops_quietly
returns-else-stops_quietly c =
    let s = without_spare c.in-Some.server.now in
    let there : slice_get c.args.servers.now c.args.place ≡ Some s = search rules in
    let loud : stops_quietly s ≡ false =
    ap (λ (state : State). is_up state && (not (is_primary state) || not (s.stop_delay.0 == 0))) (sym c.state.ensures)
    ∙ ap (λ (delay : Ticks). is_up c.state.result && (not (is_primary c.state.result) || not (delay.0 == 0)))
    (sym c.stop_delay.ensures.value) ∙ sym c.stops_quietly.ensures ∙ c.if-stops_quietly.false in
    not-quiet c.args.servers.now c.args.place c.args.now.0 s there loud
