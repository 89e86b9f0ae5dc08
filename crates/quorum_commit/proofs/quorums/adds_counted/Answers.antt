use Rattle.std.proofs.Common.{◌≡◌, ◌+◌, nat_le, ap, ◌∙◌}
use Rattle.quorum_commit.specs.Quorums.{difference, size}
use Rattle.quorum_commit.proofs.Sets.{difference-size}
use Rattle.quorum_commit.proofs.quorums.adds_counted.Goals as goal

pub returns : goal.returns
returns c =
    let old = c.args.old in
    let new = c.args.new in
    let added : c.len-added.result ≡ size (difference new.standbys old.standbys) =
    c.len-added.ensures ∙ difference-size new.standbys old.standbys c.difference.result c.difference.ensures in
    ap (λ n. nat_le (n + c.from.result) c.from-2.result) added
    ∙ ap (λ n. nat_le (size (difference new.standbys old.standbys) + n) c.from-2.result) c.from.ensures
    ∙ ap (λ n. nat_le (size (difference new.standbys old.standbys) + old.number) n) c.from-2.ensures
