-- The tags of a member, as JSON (Patroni documentation, "YAML Configuration Settings", "Tags").
use Rattle.std.specs.Prelude.{ℤ, pos, Bool, codes, not, ◌||◌}
use Rattle.std.specs.Ordering.{int_eq}
use Rattle.serde_json.specs.Data.{object, Members, no_members}
use Rattle.json_build.specs.Members.{integer, where_so, with_flag}
use Rattle.pat_base.specs.declared.tags.Tags.{Tags}

-- the failover priority of a member that sets none
abbrev pub usual_priority : ℤ
usual_priority = pos 1

-- the priority is another one
abbrev pub has_priority : Tags → Bool
has_priority tags = not (int_eq tags.failover_priority usual_priority)

-- a tag is set
abbrev pub has_tags : Tags → Bool
has_tags tags = tags.nofailover || tags.nosync || tags.noloadbalance || has_priority tags

-- the tags that are set
abbrev pub tags_members : Tags → Members
tags_members tags =
    where_so (has_priority tags) (codes "failover_priority") (integer tags.failover_priority)
    (with_flag (codes "noloadbalance") tags.noloadbalance
    (with_flag (codes "nosync") tags.nosync
    (with_flag (codes "nofailover") tags.nofailover
    no_members)))

-- the members, with the tags that are set, if one is
abbrev pub with_tags : Tags → Members → Members
with_tags tags members = where_so (has_tags tags) (codes "tags") (object (tags_members tags)) members
