use Rattle.std.proofs.Common.{◌≡◌, ◌-◌, ltb, ltb-true, ltb-false, true, false, arith, rules}
use Rattle.std.specs.List.Sorted.{IsPartitionPoint}
use Rattle.std.proofs.lemmas.List.Sorted.{IsPartitionPoint-from_clause, IsPartitionedBy-ltb}
use Rattle.wal_model.specs.declared.placed.Placed.{Placed}
use Rattle.wal_model.proofs.Chains.{rising}
use Rattle.wal_model.proofs.placed.pieces_before.Goals as goal

point : (c : goal.After-partition_point)
    → IsPartitionPoint (λ (p : Placed). ltb p.before c.args.entries ≡ true)
    (λ (p : Placed). ltb p.before c.args.entries ≡ false) c.args.placed.now c.partition_point.result
point c =
    IsPartitionPoint-from_clause (λ (p : Placed). ltb p.before c.args.entries) _ _ c.partition_point.ensures.partitioned
    (IsPartitionedBy-ltb (λ (p : Placed). p.before) c.args.placed.now c.args.entries
    (rising c.args.placed.now c.requires))
    (λ a r q k. search rules)

pub returns-clause-before : goal.returns-clause-before
returns-clause-before c =
    λ d some. ltb-true _ _ ((point c).0 (c.partition_point.result - 1) d (omega arith) (omega (arith, some)))

pub returns-clause-behind : goal.returns-clause-behind
returns-clause-behind c = λ d within. ltb-false _ _ ((point c).1 c.partition_point.result d (omega arith) within)
