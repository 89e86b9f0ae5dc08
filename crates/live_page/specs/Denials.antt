-- Denials as they are told (RFC 9110, section 15.5).
use Rattle.std.specs.Prelude.{ℕ, List, [], codes}
use Rattle.live_page.specs.declared.denial.Denial.{Denial}
use Rattle.live_page.specs.declared.denial.Denial.TheVariants.{NoSuchPath, OnlySeen, OnlyBrought, OtherSite}

-- the status with its phrase
abbrev pub status_text : Denial → List ℕ
status_text NoSuchPath = codes "404 Not Found"
status_text OnlySeen = codes "405 Method Not Allowed"
status_text OnlyBrought = codes "405 Method Not Allowed"
status_text OtherSite = codes "403 Forbidden"

-- the line of a head that names the methods that there are, where the method was wrong
abbrev pub allow_text : Denial → List ℕ
allow_text NoSuchPath = []
allow_text OnlySeen = codes "Allow: GET, HEAD\r\n"
allow_text OnlyBrought = codes "Allow: POST\r\n"
allow_text OtherSite = []

-- what it tells who reads it
abbrev pub body_text : Denial → List ℕ
body_text NoSuchPath = codes "no such page\n"
body_text OnlySeen = codes "only to be looked at\n"
body_text OnlyBrought = codes "a line is brought by POST\n"
body_text OtherSite = codes "a line is taken from this port's own page alone\n"
