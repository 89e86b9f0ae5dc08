use Rattle.std.proofs.Common.{◌≡◌, ◌+◌, nat_lt, ap, ◌∙◌}
use Rattle.sync_state.specs.Sets.{either}
use Rattle.quorum_commit.specs.Quorums.{size}
use Rattle.quorum_commit.proofs.Sets.{either-size}
use Rattle.quorum_commit.proofs.quorums.overlap.Goals as goal

pub returns : goal.returns
returns c =
    let key = c.args.key in
    let need = c.args.need in
    let members : c.len-members.result ≡ size (either key.standbys need.of) =
    c.len-members.ensures ∙ either-size key.standbys need.of c.union.result c.union.ensures in
    ap (λ n. nat_lt n (c.from.result + c.from-2.result + 1)) members
    ∙ ap (λ n. nat_lt (size (either key.standbys need.of)) (n + c.from-2.result + 1)) c.from.ensures
    ∙ ap (λ n. nat_lt (size (either key.standbys need.of)) (need.number + n + 1)) c.from-2.ensures
