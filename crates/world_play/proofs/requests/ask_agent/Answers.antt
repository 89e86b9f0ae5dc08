use Rattle.std.proofs.Common.{◌≡◌, ◌∙◌, arith, ap, rules, sym}
use Rattle.std.specs.Prelude.{option_copied}
use Rattle.std.proofs.lemmas.Result.{on_ok_weaker}
use Rattle.rest_message.specs.Requests.{RequestText}
use Rattle.rest_answer.specs.Answers.{Acts, Replies, answer_to}
use Rattle.rest_message.specs.Replies.{reply_text}
use Rattle.world_model.specs.Room.{request_cost}
use Rattle.world_parts.proofs.Answering.{IsAsked, acts-took, found-asked, numbers-left, replies-took}
use Rattle.world_model.proofs.Rooms.{HasRoom-fewer}
use Rattle.world_play.proofs.requests.ask_agent.Goals as goal

pub next_number-number-requires : goal.next_number-number-requires
next_number-number-requires c =
    let agent = c.in-Some-agent.agent.now in
    let there = sym c.agent.ensures ∙ ap option_copied c.in-Some-agent.is in
    numbers-left c.args.stage.now c.args.member agent c.requires there

pub happen-requires-clause-room : goal.happen-requires-clause-room
happen-requires-clause-room c = HasRoom-fewer c.args.stage.now request_cost 1 (omega arith) c.requires

pub returns-in-Act : goal.returns-in-Act
returns-in-Act c =
    let cluster = c.args.stage.now in
    let member = c.args.member in
    let agent = c.in-Some-agent.agent.now in
    let machine = c.in-Some.machine in
    let view = c.view-view.result in
    let request = c.next_number-number.result in
    let call : RequestText = record { verb = c.args.verb; target = c.args.target.now; body = c.args.body.now } in
    let asks : IsAsked cluster member agent machine view request =
    found-asked cluster member agent machine view request c.clock.result _ _ c.agent.ensures
    (ap option_copied c.in-Some-agent.is) c.machine.ensures.machine c.in-Some.is c.clock.ensures
    c.view-view.ensures.shown c.view-view.ensures.seen c.next_number-number.ensures in
    let answers : Acts c.in-Act.asked ≡ answer_to view (option_copied view.seen) call = search rules in
    on_ok_weaker c.operate.result
    (λ took. acts-took cluster member agent machine view request asks c.operate.new.stage call c.in-Act.asked
    c.args.events.now c.operate.new.events answers took)
    c.operate.ensures

pub returns-in-Now : goal.returns-in-Now
returns-in-Now c =
    let cluster = c.args.stage.now in
    let member = c.args.member in
    let agent = c.in-Some-agent.agent.now in
    let machine = c.in-Some.machine in
    let view = c.view-view.result in
    let request = c.next_number-number.result in
    let call : RequestText = record { verb = c.args.verb; target = c.args.target.now; body = c.args.body.now } in
    let asks : IsAsked cluster member agent machine view request =
    found-asked cluster member agent machine view request c.clock.result _ _ c.agent.ensures
    (ap option_copied c.in-Some-agent.is) c.machine.ensures.machine c.in-Some.is c.clock.ensures
    c.view-view.ensures.shown c.view-view.ensures.seen c.next_number-number.ensures in
    let reply = reply_text c.in-Now.reply in
    let answers : Replies reply ≡ answer_to view (option_copied view.seen) call = search rules in
    on_ok_weaker c.happen.result
    (λ took. replies-took cluster member agent machine view request asks c.happen.new.self call reply
    c.replying.result c.args.events.now c.happen.new.events answers c.replying.ensures.kind took)
    c.happen.ensures
