-- The order of keys: by their kinds, and then by their numbers.
use Rattle.std.specs.Prelude.{ℕ}
use Rattle.std.specs.declared.cmp.Ordering.{Ordering}
use Rattle.std.specs.Ordering.{nat_cmp, ordering_then}
use Rattle.store_keys.specs.declared.key.Key.{Key}
use Rattle.store_keys.specs.declared.key.Key.TheVariants.{Leader, Config, Member, Failover, Sync, Status, History, Failsafe, Scheduled}

-- the place of a kind among all kinds
abbrev pub key_rank_of : Key → ℕ
key_rank_of Leader = 0
key_rank_of Config = 1
key_rank_of (Member member) = 2
key_rank_of Failover = 3
key_rank_of Sync = 4
key_rank_of Status = 5
key_rank_of (History timeline) = 6
key_rank_of Failsafe = 7
key_rank_of Scheduled = 8

-- which key of its kind
abbrev pub key_number_of : Key → ℕ
key_number_of (Member member) = member.number
key_number_of (History timeline) = timeline
key_number_of _ = 0

-- how two keys stand in the order
abbrev pub key_cmp : Key → Key → Ordering
key_cmp a b = ordering_then (nat_cmp (key_rank_of a) (key_rank_of b)) (nat_cmp (key_number_of a) (key_number_of b))
