use Rattle.std.proofs.Common.{◌≡◌, ◌∙◌, ap, ◌^◌, ◌<◌, is_some, Option, sym, subst, rules}
use Rattle.std.specs.Prelude.{IfSome, option_map, slice_get}
use Rattle.pg_model.specs.Facts.{ServerFacts}
use Rattle.cluster_model.specs.FailsafeDeadlines.{is_set_by_failsafe}
use Rattle.cluster_model.specs.Machines.{machine_of, replication_of}
use Rattle.cluster_model.specs.State.{Cluster}
use Rattle.cluster_model.specs.Streaming.{source_of}
use Rattle.world_model.specs.Room.{HasRoom}
use Rattle.world_stage.proofs.Hearing.{machine-is, unspared}
use Rattle.world_parts.proofs.ServerCommanding.{timeline-under}
use Rattle.world_stage.proofs.Worlds.{seen}
use Rattle.world_stage.proofs.stage.Stage.machine.Goals as goal

pub returns-clause-machine : goal.returns-clause-machine
returns-clause-machine c =
    let w = c.self.inside in
    let place = c.args.member.id.number in
    let receives : c.is_some.result ≡ is_some (source_of w.members.items w.servers w.cuts c.args.member) =
    search rules in
    let by_failsafe : c.is_set_by_failsafe.result ≡ is_set_by_failsafe (slice_get w.failsafe_deadlines.items place) =
    c.is_set_by_failsafe.ensures ∙ ap (λ xs. is_set_by_failsafe (slice_get xs place)) c.deref-2.ensures.value in
    let replication : c.replication_of.result
    ≡ option_map (replication_of w.members.items w.servers w.cuts c.args.member) (slice_get w.servers place) =
    search rules in
    let options : c.item_at.result ≡ slice_get w.options.items place = c.item_at.ensures
    ∙ ap (λ xs. slice_get xs place) c.deref-4.ensures.value in
    let deadline : c.item_at-2.result ≡ slice_get w.deadlines.items place = c.item_at-2.ensures
    ∙ ap (λ xs. slice_get xs place) c.deref-5.ensures.value in
    let hold : c.item_at-3.result ≡ slice_get w.holds.items place = c.item_at-3.ensures
    ∙ ap (λ xs. slice_get xs place) c.deref-6.ensures.value in
    subst (λ (b : Cluster). c.machine_from.result ≡ machine_of b c.args.member) c.self.view_is
    (machine-is (seen w) c.args.member _ _ _ _ _ _ _ _ c.machine_from.ensures.machine receives by_failsafe
    replication options deadline hold c.get.ensures)

pub returns-clause-within : goal.returns-clause-within
returns-clause-within c = λ room.
    let below = timeline-under (seen c.self.inside) c.args.member.id.number
    (subst (λ (b : Cluster). HasRoom b 1) (sym c.self.view_is) room) in
    c.machine_from.ensures.within (unspared _
    (subst (λ (o : Option ServerFacts). IfSome o (λ s. s.timeline < 2 ^ 60)) (sym c.get.ensures) below))
