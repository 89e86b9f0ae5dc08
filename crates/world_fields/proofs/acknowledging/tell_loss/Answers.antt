use Rattle.std.proofs.Common.{sym, ◌∙◌}
use Rattle.std.specs.Prelude.{slice_get}
use Rattle.world_fields.proofs.Losses.{lacks-none}
use Rattle.world_fields.proofs.acknowledging.tell_loss.Goals as goal

pub returns-then-not-accepts_writes : goal.returns-then-not-accepts_writes
returns-then-not-accepts_writes c =
    lacks-none c.args.commit c.args.member.now (slice_get c.args.servers.now c.args.member.now.id.number)
    c.args.tick c.args.events.now (sym c.accepts_writes.ensures ∙ c.if-not-accepts_writes.true)
