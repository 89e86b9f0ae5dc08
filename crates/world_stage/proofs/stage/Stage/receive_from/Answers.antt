use Rattle.std.proofs.Common.{◌∙◌, ap, refl, sym, subst, Some}
use Rattle.std.proofs.lemmas.Result.{on_ok_weaker}
use Rattle.pg_cluster.specs.Servers.{news_at}
use Rattle.cluster_model.specs.State.{Cluster}
use Rattle.cluster_model.specs.Next.{receive_events}
use Rattle.world_model.specs.Room.{HasRoom}
use Rattle.world_model.specs.Emits.{Emits}
use Rattle.world_stage.proofs.Streams.{connected, diverged-took, quiet-room, quiet-took, received-room, received-took, with_servers}
use Rattle.world_stage.proofs.Worlds.{seen}
use Rattle.world_stage.proofs.stage.Stage.receive_from.Goals as goal

pub confirm-requires : goal.confirm-requires
confirm-requires c =
    let before = seen c.self.inside in
    let news = sym c.in_ok-stream.ensures.news ∙ c.in-None.is in
    quiet-room before c.args.member c.args.from c.args.most c.stream.new.self news c.in_ok-stream.ensures.ok
    (subst (λ (b : Cluster). HasRoom b 2) (sym c.self.view_is) c.requires.room)

pub confirm-requires-in-Some-Received : goal.confirm-requires-in-Some-Received
confirm-requires-in-Some-Received c =
    let before = seen c.self.inside in
    let news = sym c.in_ok-stream.ensures.news ∙ c.in-Some-Received.is ∙ ap Some c.in-Some-Received.field-0-is in
    let room : HasRoom before 2 = subst (λ (b : Cluster). HasRoom b 2) (sym c.self.view_is) c.requires.room in
    received-room before c.args.member c.args.from c.args.most c.in-Some-Received.count c.stream.new.self news
    c.in_ok-stream.ensures.ok room

pub returns-in-None : goal.returns-in-None
returns-in-None c =
    let before = seen c.self.inside in
    let news = sym c.in_ok-stream.ensures.news ∙ c.in-None.is in
    on_ok_weaker c.confirm.result
    (λ took.
    subst (λ (b : Cluster). Emits b c.confirm.new.self c.args.events.now c.confirm.new.events
    (receive_events b c.args.member c.args.from
    (news_at b.facts.servers c.args.member.id.number c.args.from.id.number c.args.most))
    2)
    c.self.view_is
    (quiet-took before c.confirm.new.self c.args.member c.args.from c.args.most c.stream.new.self
    c.args.events.now c.confirm.new.events news c.in_ok-stream.ensures.ok took))
    c.confirm.ensures

pub returns-in-Some-NotConnected : goal.returns-in-Some-NotConnected
returns-in-Some-NotConnected c =
    let before = seen c.self.inside in
    let news = sym c.in_ok-stream.ensures.news ∙ c.in-Some-NotConnected.is
    ∙ ap Some c.in-Some-NotConnected.field-0-is in
    absurd (connected before.facts.servers c.args.member.id.number c.args.from.id.number c.args.most news)

pub returns-in-Some-Diverged : goal.returns-in-Some-Diverged
returns-in-Some-Diverged c =
    let before = seen c.self.inside in
    let news = sym c.in_ok-stream.ensures.news ∙ c.in-Some-Diverged.is ∙ ap Some c.in-Some-Diverged.field-0-is in
    on_ok_weaker c.write_down.result
    (λ has.
    subst (λ (b : Cluster). Emits b (with_servers before c.stream.new.self) c.args.events.now c.write_down.new.events
    (receive_events b c.args.member c.args.from
    (news_at b.facts.servers c.args.member.id.number c.args.from.id.number c.args.most))
    2)
    c.self.view_is
    (diverged-took before c.args.member c.args.from c.args.most c.in-Some-Diverged.at c.of.result
    c.of-in-Some-Diverged.result c.stream.new.self c.self.inside.clock c.args.events.now c.write_down.new.events
    news c.in_ok-stream.ensures.ok c.of.ensures c.of-in-Some-Diverged.ensures refl has))
    c.write_down.ensures

pub returns-in_ok-write_down-in-Some-Received : goal.returns-in_ok-write_down-in-Some-Received
returns-in_ok-write_down-in-Some-Received c =
    let before = seen c.self.inside in
    let news = sym c.in_ok-stream.ensures.news ∙ c.in-Some-Received.is ∙ ap Some c.in-Some-Received.field-0-is in
    on_ok_weaker c.confirm-in-Some-Received.result
    (λ took.
    subst (λ (b : Cluster).
    Emits b c.confirm-in-Some-Received.new.self c.args.events.now c.confirm-in-Some-Received.new.events
    (receive_events b c.args.member c.args.from
    (news_at b.facts.servers c.args.member.id.number c.args.from.id.number c.args.most))
    2)
    c.self.view_is
    (received-took before c.confirm-in-Some-Received.new.self c.args.member c.args.from c.args.most
    c.in-Some-Received.count c.of-in-Some-Received.result c.of-in-Some-Received-2.result c.stream.new.self
    c.self.inside.clock
    c.args.events.now c.write_down-in-Some-Received.new.events c.confirm-in-Some-Received.new.events
    news c.in_ok-stream.ensures.ok c.of-in-Some-Received.ensures c.of-in-Some-Received-2.ensures refl
    c.in_ok-write_down-in-Some-Received.ensures took))
    c.confirm-in-Some-Received.ensures
