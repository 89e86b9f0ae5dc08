use Rattle.std.proofs.Common.{◌≡◌, map, drop, All, length}
use Rattle.std.specs.List.{list_all}
use Rattle.httparse.specs.Spans.{IsHeaderWithin, header_bytes}
use Rattle.live_page.specs.Origins.{names_no_other}
use Rattle.live_page.proofs.origin.has_no_other_host.Given as goal

abbrev pub invariant-loop-header : goal.invariant-loop-header
invariant-loop-header l = record {
  left : list_all (names_no_other l.hosts) (map (header_bytes l.bytes) (drop l.header-index l.headers))
      ≡ list_all (names_no_other l.hosts) (map (header_bytes l.bytes) l.headers);
  within : All (IsHeaderWithin (length l.bytes)) l.headers;
}
