-- Which requests are from the port's own page.
use Rattle.std.specs.Prelude.{◌≡◌, ℕ, Bool, false, not, ◌&&◌, ◌||◌, List, [], ◌∷◌, ◌++◌, map, codes, decimal}
use Rattle.std.specs.Char.{to_ascii_lowercase}
use Rattle.std.specs.List.{list_any, list_all}
use Rattle.std.specs.Str.{bytes_eq}
use Rattle.httparse.specs.Grammar.{RequestHead, ReadsRequest, HasNoRequest}
use Rattle.httparse.specs.Spans.{name_and_value}
use Rattle.rest_request.specs.Reading.{head_room}

-- what a port is called: its address, or localhost with its port
abbrev pub own_hosts : List ℕ → ℕ → List (List ℕ)
own_hosts address port = address ∷ (codes "localhost:" ++ decimal port) ∷ []

-- whether this is one of what a port is called
abbrev pub is_own_host : List (List ℕ) → List ℕ → Bool
is_own_host hosts value = list_any (λ host. bytes_eq host value) hosts

-- whether a field, as its name and its value, has this name: names are the same in any case
abbrev pub has_name : List ℕ → List ℕ × List ℕ → Bool
has_name name field = bytes_eq (map to_ascii_lowercase field.0) (map to_ascii_lowercase name)

-- whether a field is no Host, or names the port
abbrev pub names_no_other : List (List ℕ) → List ℕ × List ℕ → Bool
names_no_other hosts field = not (has_name (codes "host") field) || is_own_host hosts field.1

-- whether the fields of a head have one that only the own page sends, and a Host, and no Host is another's
abbrev pub is_from_own_page : List (List ℕ) → List (List ℕ × List ℕ) → Bool
is_from_own_page hosts fields = list_any (has_name (codes "live-line")) fields
    && (list_any (has_name (codes "host")) fields && list_all (names_no_other hosts) fields)

-- this tells whether a head is from the own page; where there is none, it is from elsewhere
pub record IsJudged (room : List ℕ) (hosts : List (List ℕ)) (own : Bool) : Type 0 where
  pub whole : (h : RequestHead) (rest : List ℕ) → ReadsRequest room h rest
      → own ≡ is_from_own_page hosts (map name_and_value h.fields)
  pub none : HasNoRequest room → own ≡ false
