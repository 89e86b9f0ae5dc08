use Rattle.std.proofs.Common.{◌≡◌, ◌+◌, IsTrue, min, take}
use Rattle.std.specs.List.{list_all}
use Rattle.std.specs.Char.{is_ascii_digit}
use Rattle.std.specs.Str.Parse.{digits_value}
use Rattle.rest_request.specs.declared.limits.TheConstants.{BODY_LIMIT}
use Rattle.rest_request.proofs.content_length.number_of.Given as goal

abbrev pub invariant-loop-byte : goal.invariant-loop-byte
invariant-loop-byte l = record {
  number_is : l.number ≡ min (digits_value 10 (take l.byte-index l.text)) (BODY_LIMIT + 1);
  all : IsTrue (list_all is_ascii_digit l.text);
}
