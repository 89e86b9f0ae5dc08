-- What is complete at a server, as it is read.
use Rattle.std.proofs.Common.{◌≡◌, ℕ, List, Option, ◌∙◌, ap, sym}
use Rattle.std.specs.Prelude.{option_and_then, slice_get}
use Rattle.pat_base.specs.declared.ticks.Ticks.{Ticks}
use Rattle.pg_model.specs.Facts.{ServerFacts}
use Rattle.event_book.specs.declared.member.Member.{Member}
use Rattle.cluster_model.specs.declared.beginning.Completion.{Completion}
use Rattle.cluster_model.specs.Beginnings.{completion_of}
use Rattle.cluster_model.specs.State.{Cluster}

pub completion-read : (cluster : Cluster) (member : Member) (now : Ticks) (known : List ServerFacts)
    (found : Option Completion) → now.0 ≡ cluster.facts.clock → known ≡ cluster.facts.servers
    → found ≡ option_and_then (completion_of now.0) (slice_get known member.id.number)
    → option_and_then (completion_of cluster.facts.clock) (slice_get cluster.facts.servers member.id.number) ≡ found
completion-read cluster member now known found at servers is =
    sym (is ∙ ap (λ (n : ℕ). option_and_then (completion_of n) (slice_get known member.id.number)) at
    ∙ ap (λ (ss : List ServerFacts).
    option_and_then (completion_of cluster.facts.clock) (slice_get ss member.id.number))
    servers)
