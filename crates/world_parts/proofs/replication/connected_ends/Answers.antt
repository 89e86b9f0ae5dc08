use Rattle.std.proofs.Common.{◌≡◌, ℕ, ◌+◌, ◌<◌, length-set, get_or, set, Option, None, arith, sym, subst, ◌∙◌}
use Rattle.std.proofs.lemmas.List.Edits.{fill_by_more}
use Rattle.std.proofs.lemmas.List.FromFn.{fill_by_all}
use Rattle.pat_base.specs.declared.lsn.Lsn.{Lsn}
use Rattle.cluster_model.specs.Machines.{connected_end, connected_ends}
use Rattle.world_parts.proofs.replication.connected_ends.Goals as goal

pub loop-number-preserved : goal.loop-number-preserved
loop-number-preserved c =
    let end : ℕ → Option Lsn =
    connected_end c.args.members.now c.args.servers.now c.args.cuts.now c.args.member c.args.server.now.confirmed in
    let ends = c.loop-number.ends in
    let number = c.loop-number.number in (
      length-set ends number c.connected_end.result ∙ c.loop-number.invariant.0,
      subst (λ (found : Option Lsn). (k : ℕ) → k < number + 1 → get_or (set ends number found) k None ≡ end k)
          (sym c.connected_end.ensures)
          (fill_by_more end ends number None (omega arith) c.loop-number.invariant.1),
    )

pub returns : goal.returns
unfolding connected_ends
returns c =
    fill_by_all (connected_end c.args.members.now c.args.servers.now c.args.cuts.now c.args.member
    c.args.server.now.confirmed)
    c.loop-number.ends 16 None
    c.loop-number.invariant.0 (λ k below. c.loop-number.invariant.1 k (omega arith))
