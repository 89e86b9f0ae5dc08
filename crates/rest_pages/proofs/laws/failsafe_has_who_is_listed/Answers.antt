use Rattle.cluster_view.specs.Snapshots.{failsafe_in}
use Rattle.rest_pages.proofs.Listing.{host-at}
use Rattle.rest_pages.proofs.laws.failsafe_has_who_is_listed.Goals as goal

pub returns-clause-listed : goal.returns-clause-listed
returns-clause-listed c = λ snapshot. host-at snapshot (failsafe_in snapshot)
