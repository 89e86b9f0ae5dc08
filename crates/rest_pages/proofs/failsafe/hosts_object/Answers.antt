use Rattle.std.proofs.Common.{◌∙◌, sym, ap}
use Rattle.serde_json.specs.Data.{no_members}
use Rattle.json_build.specs.Objects.{object_members}
use Rattle.rest_pages.specs.Failsafe.{listed_numbered, with_host}
use Rattle.member_rows.specs.Rows.{with_found}
use Rattle.member_rows.proofs.Walks.{walk-more}
use Rattle.rest_pages.proofs.failsafe.hosts_object.Goals as goal

pub loop-number-preserved : goal.loop-number-preserved
loop-number-preserved c =
    c.in_ok-put_found.ensures
    ∙ ap (with_found with_host (object_members c.loop-number.hosts)) c.listed_numbered.ensures
    ∙ ap (λ hosts. with_found with_host hosts (listed_numbered c.args.snapshot.now c.args.members c.loop-number.number))
    c.loop-number.invariant
    ∙ sym (walk-more with_host no_members (listed_numbered c.args.snapshot.now c.args.members) c.loop-number.number)
