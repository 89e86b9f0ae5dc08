-- Heads of replies, line by line.
use Rattle.std.proofs.Common.{◌≡◌, ℕ, List, [], ◌++◌, length, refl, append_assoc}
use Rattle.std.specs.Prelude.{codes, decimal}
use Rattle.rest_message.specs.Replies.{ReplyText}
use Rattle.rest_reply.specs.Replies.{HasField, head_bytes, head_of, content_type_of, phrase_of, status_line}

joined : (version status space phrase end type colon kind length size connection close : List ℕ)
    → ((version ++ (status ++ (space ++ phrase))) ++ end)
    ++ (((type ++ (colon ++ kind)) ++ end)
    ++ (((length ++ (colon ++ size)) ++ end) ++ (((connection ++ (colon ++ close)) ++ end) ++ ([] ++ end))))
    ≡ version
    ++ (status
    ++ (space
    ++ (phrase
    ++ (end ++ (type ++ (colon ++ (kind
    ++ (end ++ (length ++ (colon ++ (size ++ (end ++ (connection ++ (colon ++ (close ++ (end ++ end))))))))))))))))
joined version status space phrase end type colon kind length size connection close = simp append_assoc refl

-- the lines of a head, as one text
pub head-text : (status : ℕ) (phrase kind : List ℕ) (size : ℕ) → head_bytes status phrase kind size
    ≡ codes "HTTP/1.1 "
    ++ (decimal status
    ++ (codes " "
    ++ (phrase
    ++ (codes "\r\nContent-Type: "
    ++ (kind ++ (codes "\r\nContent-Length: " ++ (decimal size ++ codes "\r\nConnection: close\r\n\r\n")))))))
head-text status phrase kind size =
    joined (codes "HTTP/1.1 ") (decimal status) (codes " ") phrase (codes "\r\n") (codes "Content-Type")
    (codes ": ") kind (codes "Content-Length") (decimal size) (codes "Connection") (codes "close")

regrouped : (front text end rest : List ℕ) → front ++ ((text ++ end) ++ rest) ≡ ((front ++ text) ++ end) ++ rest
regrouped front text end rest = simp append_assoc refl

-- a head has the length of the body
pub tells-length : (reply : ReplyText) → HasField (codes "Content-Length") (decimal (length reply.body)) (head_of reply)
tells-length reply =
    let type : List ℕ = codes "Content-Type" ++ (codes ": " ++ content_type_of reply.json) in (
      status_line reply.status (phrase_of reply.status) ++ type,
      _,
      regrouped (status_line reply.status (phrase_of reply.status)) type (codes "\r\n") _,
    )
