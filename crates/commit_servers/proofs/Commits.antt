-- Commits of clients.
use Rattle.std.proofs.Common.{ℕ, ◌≡◌, ◌+◌, ◌≤◌, ◌^◌, ◌&&◌, nat_le, Bool, true, false, cond, slice_get, Option, Some, None, refl}
use Rattle.std.proofs.lemmas.Bool.{and_parts}
use Rattle.pat_base.specs.ServerState.{writes}
use Rattle.wal_model.specs.Log.{end_of}
use Rattle.pg_model.specs.Facts.{ServerFacts, entries_of}
use Rattle.pg_model.specs.Replication.{entry_of}
use Rattle.pg_cluster.specs.Servers.{entry_at, entry_for}
use Rattle.event_book.specs.declared.member.Member.{Member}
use Rattle.event_book.specs.Facts.{Facts}
use Rattle.cluster_model.specs.ServerCommands.{commit_of}
use Rattle.lease_model.proofs.Tools.{le-from}
use Rattle.commit_servers.specs.Happening.{MayHappen}

commit-by : (facts : Facts) (member : Member) (bytes : ℕ) (s : ServerFacts) (test : Bool) → 1 ≤ bytes
    → slice_get facts.servers member.id.number ≡ Some s
    → (writes s.state && nat_le (end_of (entries_of s.log) + bytes) (2 ^ 63)) ≡ test
    → MayHappen facts (commit_of member (cond test (Some (entry_of s (facts.commits + 1) bytes)) None))
commit-by facts member bytes s true least is e =
    let parts = and_parts (writes s.state) (nat_le (end_of (entries_of s.log) + bytes) (2 ^ 63)) e in
    record {
      server = s;
      is = is;
      is_writer = parts.0;
      next = refl;
      bytes = least;
      room = le-from (end_of (entries_of s.log) + bytes) (2 ^ 63) parts.1;
    }
commit-by facts member bytes s false least is e = tt

commit-found : (facts : Facts) (member : Member) (bytes : ℕ) (found : Option ServerFacts) → 1 ≤ bytes
    → slice_get facts.servers member.id.number ≡ found
    → MayHappen facts (commit_of member (entry_at found (facts.commits + 1) bytes))
commit-found facts member bytes None least is = tt
commit-found facts member bytes (Some s) least is = commit-by facts member bytes s _ least is refl

pub commit-may : (facts : Facts) (member : Member) (bytes : ℕ) → 1 ≤ bytes
    → MayHappen facts (commit_of member (entry_for facts.servers member.id.number (facts.commits + 1) bytes))
commit-may facts member bytes least =
    commit-found facts member bytes (slice_get facts.servers member.id.number) least refl
