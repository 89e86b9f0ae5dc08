-- Hosts that a word may be.
use Rattle.std.specs.Prelude.{ℕ, ◌≡◌, Bool, true, false, List, Option, Some, None, refl}
use Rattle.pat_base.specs.Host.{host_from}
use Rattle.pat_base.specs.HostText.{is_host}
use Rattle.pat_base.specs.declared.host.Host.{Host}

-- the host of bytes, by their test
unfoldable pub host_by : (bytes : List ℕ) (test : Bool) → is_host bytes ≡ test → Option Host
host_by bytes true is = Some (host_from bytes is)
host_by bytes false is = None

-- the host of these bytes, if they are one
unfoldable pub host_of : List ℕ → Option Host
host_of bytes = host_by bytes (is_host bytes) refl
