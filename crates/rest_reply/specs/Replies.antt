-- Replies as they are sent (RFC 9112, sections 2.1, 4 and 5; RFC 9110, sections 8.3 and 8.6).
use Rattle.std.specs.Prelude.{◌≡◌, ℕ, Bool, List, [], ◌++◌, length, codes, decimal, unwrap_or, if◌then◌else◌}
use Rattle.http.specs.StatusCode.{reason_phrase}
use Rattle.rest_message.specs.Replies.{ReplyText}

-- the phrase of a status, and nothing where it has none
unfoldable pub phrase_of : ℕ → List ℕ
phrase_of status = unwrap_or (reason_phrase status) []

-- the type of a body
abbrev pub content_type_of : Bool → List ℕ
content_type_of json = if json then codes "application/json" else codes "text/plain"

-- a line of a head
abbrev pub line : List ℕ → List ℕ
line text = text ++ codes "\r\n"

-- the line of a field
abbrev pub field_line : List ℕ → List ℕ → List ℕ
field_line name value = line (name ++ (codes ": " ++ value))

-- the first line of a reply
abbrev pub status_line : ℕ → List ℕ → List ℕ
status_line status phrase = line (codes "HTTP/1.1 " ++ (decimal status ++ (codes " " ++ phrase)))

-- what stands before a body of this type and length
abbrev pub head_bytes : ℕ → List ℕ → List ℕ → ℕ → List ℕ
head_bytes status phrase content_type length =
    status_line status phrase
    ++ (field_line (codes "Content-Type") content_type
    ++ (field_line (codes "Content-Length") (decimal length)
    ++ (field_line (codes "Connection") (codes "close")
    ++ line [])))

-- the head of a reply
abbrev pub head_of : ReplyText → List ℕ
head_of reply = head_bytes reply.status (phrase_of reply.status) (content_type_of reply.json) (length reply.body)

-- a reply, or its head alone
abbrev pub reply_bytes : ReplyText → Bool → List ℕ
reply_bytes reply head_only = head_of reply ++ (if head_only then [] else reply.body)

-- a line of a head is that of this field
abbrev pub HasField : List ℕ → List ℕ → List ℕ → Type 0
HasField name value head = (front rest : List ℕ) × (head ≡ line front ++ (field_line name value ++ rest))
