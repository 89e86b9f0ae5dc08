-- The room for the title.
use Rattle.std.proofs.Common.{◌≤◌, length, codes, arith, length-append}
use Rattle.std.proofs.lemmas.List.{length-take}
use Rattle.pat_base.specs.declared.name.Name.{Name}
use Rattle.pat_base.specs.Name.{name_bytes}
use Rattle.cluster_view.specs.Snapshots.{SnapshotFacts}
use Rattle.text_table.specs.Laws.{HasRoom, rule_of}
use Rattle.text_table.proofs.Widths.{headings-have-room}
use Rattle.patronictl.specs.Members.{cluster_title, member_columns, member_table}

-- a name is short
name-fits : (name : Name) → length (name_bytes name) ≤ 32
name-fits name = omega (arith, length-take name.text.len name.text.bytes, name.text.fits)

title-fits : (name : Name) → length (cluster_title name) ≤ 41
title-fits name = omega (arith, length-append (codes "Cluster: ") (name_bytes name), name-fits name)

-- there is always room for the title
pub title-has-room : (seen : SnapshotFacts) → HasRoom (member_table seen).title (rule_of (member_table seen))
title-has-room seen =
    let room : 49 ≤ length (rule_of (member_table seen)) = headings-have-room member_columns (member_table seen).rows in
    omega (arith, title-fits seen.scope)
