use Rattle.std.proofs.Common.{◌≡◌, ℕ, ap, ◌∙◌}
use Rattle.pat_base.specs.declared.member_set.MemberSet.{MemberSet}
use Rattle.sync_state.specs.Sets.{either}
use Rattle.sync_state.proofs.SetBits.{either-is}
use Rattle.quorum_commit.specs.declared.quorums.Quorum.{Quorum}
use Rattle.quorum_commit.specs.Quorums.{size}
use Rattle.quorum_commit.proofs.planning.widest_key.Goals as goal

pub returns : goal.returns
returns c =
    let key = c.args.aim.now.key in
    let wanted = c.args.aim.now.wanted in
    let quorum : MemberSet → ℕ → Quorum = λ standbys number. record { standbys = standbys; number = number } in
    let all : c.union-standbys.result ≡ either key.standbys wanted =
    either-is key.standbys wanted c.union-standbys.result c.union-standbys.ensures in
    ap (quorum c.union-standbys.result) c.size.ensures ∙ ap (λ (s : MemberSet). quorum s (size s)) all
