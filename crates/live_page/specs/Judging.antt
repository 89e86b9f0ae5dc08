-- What requests want, by their bytes.
use Rattle.std.specs.Prelude.{◌≡◌, ℕ, List, map}
use Rattle.httparse.specs.Grammar.{RequestHead, ReadsRequest}
use Rattle.httparse.specs.Spans.{name_and_value}
use Rattle.rest_message.specs.Requests.{RequestText}
use Rattle.rest_request.specs.Reading.{head_room}
use Rattle.live_page.specs.declared.wish.Wish.{Wish}
use Rattle.live_page.specs.Origins.{is_from_own_page}
use Rattle.live_page.specs.Wishes.{wish_of}

-- this is what the request wants with whose head the bytes begin
abbrev pub Judges : RequestText → List ℕ → List (List ℕ) → Wish → Type 0
Judges request bytes hosts wish = (h : RequestHead) (rest : List ℕ) → ReadsRequest (head_room bytes) h rest
    → wish ≡ wish_of request.verb request.target (is_from_own_page hosts (map name_and_value h.fields))
