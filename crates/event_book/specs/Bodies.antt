-- The kinds of messages in words.
use Rattle.std.specs.Prelude.{ℕ, List, codes}
use Rattle.store_keys.specs.TxnKinds.{txn_kind_of}
use Rattle.store_keys.specs.Words.{kind_text}
use Rattle.event_book.specs.declared.message.Body.{Body}
use Rattle.event_book.specs.declared.message.Body.TheVariants as bodies

-- the kind of a message in a word or two
abbrev pub body_text : Body → List ℕ
body_text bodies.Read = codes "read"
body_text (bodies.Request txn) = kind_text (txn_kind_of txn)
body_text bodies.Snapshot = codes "snapshot"
body_text (bodies.Granted request leased) = codes "granted"
body_text (bodies.Refused request key found) = codes "refused"
body_text bodies.Ask = codes "ask"
body_text (bodies.Answer answer) = codes "answer"
body_text (bodies.FailsafeRequest ttl) = codes "failsafe"
body_text (bodies.FailsafeAnswer accepted) = codes "failsafe answer"
