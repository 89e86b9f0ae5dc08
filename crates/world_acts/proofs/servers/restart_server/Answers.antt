use Rattle.std.proofs.Common.{◌≡◌, [], ◌∷◌, Option, None, Some, refl, ◌∙◌, ap, arith, sym}
use Rattle.std.specs.Prelude.{option_map, slice_get}
use Rattle.std.proofs.lemmas.Option.{none-some, same_Some}
use Rattle.std.proofs.lemmas.Result.{on_ok_weaker}
use Rattle.pat_base.specs.declared.server_state.State.{State}
use Rattle.pat_base.specs.declared.server_state.State.TheVariants as states
use Rattle.pg_model.specs.Facts.{ServerFacts}
use Rattle.event_book.specs.declared.event.EventKind.TheVariants as kinds
use Rattle.event_book.specs.declared.event.ServerEvent.TheVariants as servers
use Rattle.event_book.specs.declared.member.Member.{Member}
use Rattle.event_book.specs.Members.{server_of}
use Rattle.cluster_model.specs.Beginnings.{server_restart_in, server_restart_kinds}
use Rattle.cluster_model.specs.Messages.{server_restart_events}
use Rattle.cluster_model.specs.Parts.{events_of, for_some}
use Rattle.cluster_model.specs.State.{Cluster}
use Rattle.world_model.specs.Room.{beginning_cost, server_restart_cost}
use Rattle.world_stage.proofs.Promoting.{server-took}
use Rattle.world_model.proofs.Taking.{Emits-weaker}
use Rattle.world_acts.proofs.servers.restart_server.Goals as goal

-- a replica that starts again starts, and nothing else
replica-restarts : (cluster : Cluster) (member : Member) (found : Option ServerFacts)
    → slice_get cluster.facts.servers member.id.number ≡ found
    → option_map (λ (s : ServerFacts). s.state) found ≡ Some states.Replica
    → server_restart_events cluster member
    ≡ events_of cluster (kinds.Server (servers.StartsAsReplica (server_of member)) ∷ [])
replica-restarts cluster member None there replica = absurd (none-some states.Replica replica)
replica-restarts cluster member (Some s) there replica =
    ap (λ (o : Option ServerFacts).
    for_some o (λ s. events_of cluster (server_restart_kinds member cluster.facts.acknowledged s))) there
    ∙ ap (λ (state : State). events_of cluster (server_restart_in member cluster.facts.acknowledged state s))
    (same_Some s.state states.Replica replica)

pub returns-in-Some-Replica : goal.returns-in-Some-Replica
returns-in-Some-Replica c =
    let is = sym c.server_state.ensures ∙ c.in-Some-Replica.is ∙ ap Some c.in-Some-Replica.field-0-is in
    on_ok_weaker c.happen.result
    (λ took. Emits-weaker c.args.stage.now c.happen.new.self c.args.events.now c.happen.new.events
    (server_restart_events c.args.stage.now c.args.member) beginning_cost server_restart_cost
    (server-took c.args.stage.now c.happen.new.self c.args.events.now c.happen.new.events _ c.args.member
    c.of-server.result (λ server. kinds.Server (servers.StartsAsReplica server)) c.of-server.ensures
    (replica-restarts c.args.stage.now c.args.member _ refl is) took)
    (omega arith))
    c.happen.ensures
