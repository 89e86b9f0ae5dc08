use Rattle.std.proofs.Common.{◌≡◌, ◌++◌, string_bytes, drop}
use Rattle.event_book.specs.Listing.{behind_blanks, listed_from}
use Rattle.event_text.proofs.listing.write_listed_from.Given as goal

abbrev pub invariant-loop-name : goal.invariant-loop-name
invariant-loop-name l = string_bytes l.text ++ behind_blanks (drop l.name-index l.others)
    ≡ string_bytes l.fn.text ++ listed_from l.fn.first l.others
