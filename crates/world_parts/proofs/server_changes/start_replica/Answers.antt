use Rattle.std.proofs.Common.{◌≡◌, Some, rules, ◌∙◌}
use Rattle.std.specs.Prelude.{slice_get}
use Rattle.pg_cluster.specs.Servers.{without_spare}
use Rattle.world_parts.proofs.ServerCommanding.{others-stay-at}
use Rattle.world_parts.proofs.server_changes.start_replica.Goals as goal

pub returns-in_default-state : goal.returns-in_default-state
returns-in_default-state c =
    let s = without_spare c.in-Some.server.now in
    let there : slice_get c.args.servers.now c.args.place ≡ Some s = search rules in
    others-stay-at c.args.servers.now c.args.place c.args.now s there
    (λ e. c.in_default-state.not-Stopped (c.state.ensures ∙ e))
    (λ e. c.in_default-state.not-Crashed (c.state.ensures ∙ e))
    (λ e. c.in_default-state.not-Replica (c.state.ensures ∙ e))
