-- Answers as they are sent (RFC 9112, sections 2.1, 4 and 5).
use Rattle.std.specs.Prelude.{ℕ, Bool, if◌then◌else◌, List, [], ◌++◌, length, codes, decimal}
use Rattle.live_page.specs.declared.denial.Denial.{Denial}
use Rattle.live_page.specs.Denials.{status_text, allow_text, body_text}

-- what ends a head: browsers don't guess the type of what follows, show it in no other site's page and don't keep it
abbrev pub end_of_head : List ℕ
end_of_head = codes "\r\nX-Content-Type-Options: nosniff\r\nX-Frame-Options: DENY\r\n"
    ++ codes "Cache-Control: no-store\r\nConnection: close\r\n\r\n"

-- what stands before a body
abbrev pub head_text : List ℕ → List ℕ → List ℕ → ℕ → List ℕ
head_text status allow kind length =
    codes "HTTP/1.1 "
    ++ (status
    ++ (codes "\r\n"
    ++ (allow
    ++ (codes "Content-Type: " ++ (kind ++ (codes "\r\nContent-Length: " ++ (decimal length ++ end_of_head)))))))

-- a head with its body, or alone
abbrev pub answer_bytes : List ℕ → List ℕ → List ℕ → List ℕ → Bool → List ℕ
answer_bytes status allow kind body head_only =
    head_text status allow kind (length body) ++ (if head_only then [] else body)

-- what is there, of this type
abbrev pub found_bytes : List ℕ → List ℕ → Bool → List ℕ
found_bytes kind body head_only = answer_bytes (codes "200 OK") [] kind body head_only

-- the type of plain text
abbrev pub plain : List ℕ
plain = codes "text/plain; charset=utf-8"

-- a document
abbrev pub page_bytes : List ℕ → Bool → List ℕ
page_bytes document head_only = found_bytes (codes "text/html; charset=utf-8") document head_only

-- a text
abbrev pub text_bytes : List ℕ → Bool → List ℕ
text_bytes text head_only = found_bytes plain text head_only

-- a picture
abbrev pub picture_bytes : List ℕ → Bool → List ℕ
picture_bytes picture head_only = found_bytes (codes "image/svg+xml") picture head_only

-- a denial
abbrev pub denial_bytes : Denial → Bool → List ℕ
denial_bytes denial head_only =
    answer_bytes (status_text denial) (allow_text denial) plain (body_text denial) head_only
