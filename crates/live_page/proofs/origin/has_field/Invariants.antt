use Rattle.std.proofs.Common.{◌≡◌, map, drop, All, length}
use Rattle.std.specs.List.{list_any}
use Rattle.httparse.specs.Spans.{IsHeaderWithin, header_bytes}
use Rattle.live_page.specs.Origins.{has_name}
use Rattle.live_page.proofs.origin.has_field.Given as goal

abbrev pub invariant-loop-header : goal.invariant-loop-header
invariant-loop-header l = record {
  left : list_any (has_name l.name) (map (header_bytes l.bytes) (drop l.header-index l.headers))
      ≡ list_any (has_name l.name) (map (header_bytes l.bytes) l.headers);
  within : All (IsHeaderWithin (length l.bytes)) l.headers;
}
