use Rattle.std.proofs.Common.{◌∙◌, ◌+◌, ℕ, List, ap, sym, subst}
use Rattle.event_book.specs.declared.event.EventKind.{EventKind}
use Rattle.pg_model.specs.Facts.{ServerFacts}
use Rattle.pg_cluster.specs.Servers.{entry_for}
use Rattle.world_model.specs.Comes.{MayCome}
use Rattle.cluster_model.specs.ServerCommands.{commit_of}
use Rattle.world_parts.proofs.ServerCommanding.{commit-comes}
use Rattle.world_play.proofs.steps.command_kind.Goals as goal

pub returns-in-Commit-clause-comes : goal.returns-in-Commit-clause-comes
returns-in-Commit-clause-comes c =
    let member = c.declared-member-in-Commit.result in
    let bytes = c.in-Commit.size.bytes in
    let is = c.commit_of.ensures
    ∙ ap (λ (known : List ServerFacts).
    commit_of member (entry_for known member.id.number (c.commits.result + 1) bytes))
    c.servers-in-Commit.ensures
    ∙ ap (λ (n : ℕ). commit_of member (entry_for c.args.stage.now.facts.servers member.id.number (n + 1) bytes))
    c.commits.ensures in
    subst (λ (k : EventKind). MayCome c.args.stage.now k) (sym is) (commit-comes c.args.stage.now member bytes)
