-- Links.
use Rattle.std.specs.Prelude.{ℕ, ◌+◌, ◌*◌, ◌==◌, ◌&&◌, ◌||◌, min, max, Bool, true, false, List, codes, replicate, slice_index_or, slice_set}
use Rattle.pat_base.specs.Name.{name_bytes}
use Rattle.event_book.specs.declared.link.Link.{Link}
use Rattle.event_book.specs.declared.link.LinkEnd.{LinkEnd}
use Rattle.event_book.specs.declared.link.LinkEnd.TheVariants.{Store, Member}
use Rattle.event_book.specs.declared.event.EventKind.{EventKind}
use Rattle.event_book.specs.declared.event.EventKind.TheVariants as kinds
use Rattle.event_book.specs.declared.event.LinkEvent.TheVariants as links
use Rattle.pat_base.specs.declared.member_id.TheConstants.{MOST_MEMBERS}

-- the number of a member, or the first that no member has, for the key store
abbrev pub end_number : LinkEnd → ℕ
end_number Store = MOST_MEMBERS
end_number (Member member) = member.id.number

-- how lines name an end of a link: as the store, or by the member's name
abbrev pub end_text : LinkEnd → List ℕ
end_text Store = codes "store"
end_text (Member member) = name_bytes member.name

-- two links between the same ends are one, whichever end is named first
abbrev pub is_same_link : Link → Link → Bool
is_same_link a b =
    ((end_number a.first == end_number b.first) && (end_number a.second == end_number b.second))
    || ((end_number a.first == end_number b.second) && (end_number a.second == end_number b.first))

-- how many ends links may have: the members and the key store
abbrev pub end_count : ℕ
end_count = MOST_MEMBERS + 1

-- how many places a table has that has one for each two ends
abbrev pub place_count : ℕ
place_count = end_count * end_count

-- the place of a link in such a table: the row of its end with the lower number, and in it the column of the other one
abbrev pub link_place : Link → ℕ
link_place link = min (end_number link.first) (end_number link.second) * end_count
    + max (end_number link.first) (end_number link.second)

-- which links are cut, by their places
abbrev pub CutLinks : Type 0
CutLinks = List Bool

-- before the first event no link is cut
unfoldable pub none_cut : CutLinks
none_cut = replicate place_count false

-- whether a link is cut
abbrev pub is_cut : CutLinks → Link → Bool
is_cut cuts link = slice_index_or cuts (link_place link) false

-- which links are cut after an event
abbrev pub cuts_after : CutLinks → EventKind → CutLinks
cuts_after cuts (kinds.Link (links.Cut link)) = slice_set cuts (link_place link) true
cuts_after cuts (kinds.Link (links.Joined link)) = slice_set cuts (link_place link) false
cuts_after cuts _ = cuts
