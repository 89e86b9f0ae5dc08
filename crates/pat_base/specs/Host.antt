-- Hosts as bytes.
use Rattle.std.specs.Prelude.{ℕ, IsTrue, List, refl, codes}
use Rattle.pat_base.specs.Bounded.{take-padded, is_text-fits, is_text-ascii}
use Rattle.pat_base.specs.HostText.{is_host, is_host_byte, is_host_byte-ascii}
use Rattle.pat_base.specs.ShortText.{text_bytes, short_text}
use Rattle.pat_base.specs.declared.host.Host.{Host}

-- the text of a host
abbrev pub host_bytes : Host → List ℕ
host_bytes host = text_bytes host.text

-- the host of bytes that are one
abbrev pub host_from : (bytes : List ℕ) → IsTrue (is_host bytes) → Host
host_from bytes is = record {
  text = short_text 40 bytes (is_text-fits 40 is_host_byte bytes is)
      (is_text-ascii 40 is_host_byte is_host_byte-ascii bytes is);
  legal = rw (take-padded 40 bytes) is;
}

-- where a member is reached that declares no host
abbrev pub local_host : Host
local_host = host_from (codes "127.0.0.1") refl
