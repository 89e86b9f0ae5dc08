-- The bodies of requests: JSON objects.
use Rattle.std.specs.Prelude.{ℕ, ◌&&◌, is_some, codes, Bool, true, false, List, Option, Some, None, option_and_then, Result, Ok, Err}
use Rattle.serde_json.specs.Data.{Data}
use Rattle.serde_json.specs.Find.{get, as_object, as_str}
use Rattle.cluster_config.specs.ConfigReading.{json_of}
use Rattle.operator_answers.specs.declared.answer_text.Text.TheVariants as texts
use Rattle.operator_keys.specs.declared.refusal.Refused.{Refused}
use Rattle.operator_answers.specs.Statuses.{bad_request}

-- the text at a name of an object, if there is one
abbrev pub text_at : List ℕ → Data → Option (List ℕ)
text_at name body = option_and_then as_str (get name body)

-- what stands at a name is a text, or nothing does
abbrev pub is_text_or_absent : Option Data → Bool
is_text_or_absent None = true
is_text_or_absent (Some value) = is_some (as_str value)

-- a value is an object that names its leader and its candidate by texts, where it names them; null is no text
abbrev pub is_request : Data → Bool
is_request body = is_some (as_object body) && is_text_or_absent (get (codes "leader") body)
    && is_text_or_absent (get (codes "candidate") body)

-- what a body is refused with that is no request
abbrev pub bad_body : Refused
bad_body = record { status = bad_request; text = texts.BadBody }

-- a value as a request, where it is one
abbrev pub request_where : Bool → Data → Result Data Refused
request_where false body = Err bad_body
request_where true body = Ok body

-- the request that a JSON value is, if there is one
abbrev pub request_by : Option Data → Result Data Refused
request_by None = Err bad_body
request_by (Some body) = request_where (is_request body) body

-- the request that bytes are
abbrev pub body_of : List ℕ → Result Data Refused
body_of bytes = request_by (json_of bytes)
