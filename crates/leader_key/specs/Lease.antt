-- The revision of the leader key that each value was granted with.
use Rattle.std.specs.Prelude.{ℕ}
use Rattle.leader_key.specs.declared.lease.Lease.{Lease}
use Rattle.leader_key.specs.declared.lease.Armed.{Armed}
use Rattle.leader_key.specs.declared.lease.Writer.{Writer}

-- the revision of a lease
abbrev pub lease_revision : Lease → ℕ
lease_revision lease = lease.revision

-- the revision of a lease whose watchdog was armed
abbrev pub armed_revision : Armed → ℕ
armed_revision armed = armed.revision

-- the revision of the lease on which a member writes
abbrev pub writer_revision : Writer → ℕ
writer_revision writer = writer.revision
