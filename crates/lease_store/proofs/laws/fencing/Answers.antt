use Rattle.lease_store.proofs.Fences.{fenced_off, kept_states, kept_first, grows_states}
use Rattle.lease_store.specs.Keys.{first_keys}
use Rattle.lease_store.specs.Fencing.{keys_over}
use Rattle.lease_store.proofs.laws.fencing.Goals as goal

pub returns : goal.returns
returns c = record {
  fenced = λ store lease late calls revision kept leases granted compares earlier.
      fenced_off store lease late calls revision kept leases granted compares earlier;
  run = λ config before calls lease late revision leases granted compares earlier.
      fenced_off (keys_over (first_keys config) before) lease late calls revision
      (kept_states (first_keys config) before (kept_first config)) leases granted compares earlier;
  grows = λ store calls. grows_states store calls;
}
