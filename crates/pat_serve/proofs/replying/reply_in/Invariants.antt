use Rattle.std.proofs.Common.{◌≡◌, drop}
use Rattle.serve_model.specs.Connections.{reply_in}
use Rattle.pat_serve.proofs.replying.reply_in.Given as goal

abbrev pub invariant-loop-event : goal.invariant-loop-event
invariant-loop-event l = reply_in l.member (drop l.event-index l.events) ≡ reply_in l.member l.events
