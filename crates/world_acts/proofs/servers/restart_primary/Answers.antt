use Rattle.std.proofs.Common.{List, ◌∙◌, Some, ap, sym}
use Rattle.std.specs.Prelude.{option_map, slice_get}
use Rattle.pg_model.specs.Facts.{ServerFacts}
use Rattle.cluster_model.specs.Beginnings.{again_by}
use Rattle.world_acts.proofs.servers.restart_primary.Goals as goal

pub restart_at_once-requires-clause-again : goal.restart_at_once-requires-clause-again
restart_at_once-requires-clause-again c =
    ap (λ (known : List ServerFacts).
    option_map (λ (s : ServerFacts). again_by s.timeline s.start_delay) (slice_get known c.args.member.id.number))
    (sym c.servers.ensures)
    ∙ sym c.restart_of.ensures ∙ c.in-Some.is ∙ ap Some c.in-AtOnce.is

pub restart_slowly-requires-clause-again : goal.restart_slowly-requires-clause-again
restart_slowly-requires-clause-again c =
    ap (λ (known : List ServerFacts).
    option_map (λ (s : ServerFacts). again_by s.timeline s.start_delay) (slice_get known c.args.member.id.number))
    (sym c.servers.ensures)
    ∙ sym c.restart_of.ensures ∙ c.in-Some.is ∙ ap Some c.in-WithItsStart.is
