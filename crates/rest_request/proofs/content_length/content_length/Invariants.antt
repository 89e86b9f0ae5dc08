use Rattle.std.proofs.Common.{◌≡◌, map, take, option_copied, option_to_list, All, length}
use Rattle.httparse.specs.Spans.{IsHeaderWithin, header_bytes}
use Rattle.rest_request.specs.ContentLength.{length_values}
use Rattle.rest_request.proofs.content_length.content_length.Given as goal

abbrev pub invariant-loop-header : goal.invariant-loop-header
invariant-loop-header l = record {
  found_is : option_to_list (option_copied l.found)
      ≡ length_values (map (header_bytes l.bytes) (take l.header-index l.headers));
  within : All (IsHeaderWithin (length l.bytes)) l.headers;
}
