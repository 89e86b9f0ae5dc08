use Rattle.std.proofs.Common.{◌≡◌, arith, rules}
use Rattle.std.proofs.lemmas.Result.{on_ok_weaker}
use Rattle.script_model.specs.declared.line.Command.TheVariants as commands
use Rattle.cluster_model.specs.Commands.{kinds_of}
use Rattle.cluster_model.specs.Messages.{turn_events}
use Rattle.cluster_model.specs.Next.{command_events, command_kind, promote_events, receive_events_at_most, agent_start_events}
use Rattle.cluster_model.specs.Parts.{events_of}
use Rattle.world_model.specs.Room.{agent_start_cost, input_cost, promotion_cost, request_cost, streaming_cost}
use Rattle.world_play.proofs.Changing.{commanded, command_kind-took, ctl-took}
use Rattle.world_model.proofs.Taking.{found-took}
use Rattle.world_play.proofs.steps.take_command.Goals as goal

pub returns-in-Turn : goal.returns-in-Turn
returns-in-Turn c =
    on_ok_weaker c.turn.result
    (λ took. commanded _ _ _ _ _ (commands.Turn c.in-Turn.id) input_cost c.in-Turn.is
    (found-took _ _ _ _ _ (turn_events c.args.stage.now) _ _ input_cost c.declared-member.ensures took) (omega arith))
    c.turn.ensures

pub returns-in-StartAgent : goal.returns-in-StartAgent
returns-in-StartAgent c =
    on_ok_weaker c.start_agent.result
    (λ took. commanded _ _ _ _ _ (commands.StartAgent c.in-StartAgent.id) agent_start_cost c.in-StartAgent.is
    (found-took _ _ _ _ _
    (agent_start_events c.args.stage.now) _ _ agent_start_cost c.declared-member-in-StartAgent.ensures took)
    (omega arith))
    c.start_agent.ensures

pub returns-in-Promote : goal.returns-in-Promote
returns-in-Promote c =
    on_ok_weaker c.promote.result
    (λ took. commanded _ _ _ _ _ (commands.Promote c.in-Promote.id) promotion_cost c.in-Promote.is
    (found-took _ _ _ _ _
    (promote_events c.args.stage.now) _ _ promotion_cost c.declared-member-in-Promote.ensures took)
    (omega arith))
    c.promote.ensures

pub returns-in-Stream : goal.returns-in-Stream
returns-in-Stream c =
    let most = c.in-Stream.most in
    on_ok_weaker c.receive.result
    (λ took. commanded _ _ _ _ _ (commands.Stream c.in-Stream.id most) streaming_cost c.in-Stream.is
    (found-took _ _ _ _ _
    (receive_events_at_most c.args.stage.now most) _ _ streaming_cost c.declared-member-in-Stream.ensures took)
    (omega arith))
    c.receive.ensures

pub returns-in_default : goal.returns-in_default
returns-in_default c =
    let same : command_events c.args.stage.now c.args.command.now
    ≡ events_of c.args.stage.now (kinds_of (command_kind c.args.stage.now c.args.command.now)) = search rules in
    on_ok_weaker c.happen_if.result
    (λ took. command_kind-took c.args.stage.now c.happen_if.new.self c.args.events.now c.happen_if.new.events
    c.args.command.now c.command_kind-kind.result same c.command_kind-kind.ensures.kind took)
    c.happen_if.ensures

pub returns-in-Ctl : goal.returns-in-Ctl
returns-in-Ctl c =
    on_ok_weaker c.take_words.result
    (λ took. commanded _ _ _ _ _ (commands.Ctl c.in-Ctl.said) request_cost c.in-Ctl.is
    (ctl-took _ _ _ _ c.in-Ctl.said _ request_cost c.as_text.ensures took) (omega arith))
    c.take_words.ensures
