-- Requests by their parts (RFC 9112, section 3).
use Rattle.std.specs.Prelude.{ℕ, List, string_bytes}
use Rattle.rest_message.specs.declared.verb.Verb.{Verb}
use Rattle.rest_message.specs.declared.request.Request.{Request}

-- what a request asks: its verb, its target and its body
pub record RequestText : Type 0 where
  pub verb : Verb
  pub target : List ℕ
  pub body : List ℕ

-- what this request asks
abbrev pub request_text : Request → RequestText
request_text r = record { verb = r.method; target = string_bytes r.target; body = r.body.items }
