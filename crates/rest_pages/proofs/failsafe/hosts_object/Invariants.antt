use Rattle.std.proofs.Common.{◌≡◌}
use Rattle.std.specs.List.{filter_map, range_with_len}
use Rattle.json_build.specs.Objects.{object_members}
use Rattle.rest_pages.specs.Failsafe.{host_members, listed_numbered}
use Rattle.rest_pages.proofs.failsafe.hosts_object.Given as goal

abbrev pub invariant-loop-number : goal.invariant-loop-number
invariant-loop-number l = object_members l.hosts
    ≡ host_members (filter_map (listed_numbered l.snapshot l.members) (range_with_len 0 l.number))
