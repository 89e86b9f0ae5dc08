use Rattle.lease_book.proofs.Hearing.{heard-snapshot, heard-granted, heard-refused, heard-failsafe_request, heard-acknowledgement}
use Rattle.lease_book.proofs.laws.heard.Goals as goal

pub returns : goal.returns
returns c = record {
  snapshot = heard-snapshot;
  granted = heard-granted;
  refused = heard-refused;
  failsafe_request = heard-failsafe_request;
  acknowledgement = heard-acknowledgement;
}
