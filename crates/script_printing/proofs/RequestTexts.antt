-- The words of a request are text, since its line is.
use Rattle.std.proofs.Common.{ℕ, List, [], ◌∷◌, ◌++◌}
use Rattle.std.specs.Str.{IsUtf8}
use Rattle.std.proofs.lemmas.Str.{IsUtf8-nil, IsUtf8-from_is_utf8}
use Rattle.pat_base.specs.declared.name.Name.{Name}
use Rattle.pat_base.specs.declared.member_id.MemberId.{MemberId}
use Rattle.script_grammar.proofs.BlankLaws.{text-before, text-behind}
use Rattle.script_model.specs.Keywords.{word_of}
use Rattle.script_model.specs.Script.{member_text, two_texts, body_text, request_text, rest_text, IsRequest}
use Rattle.script_model.specs.declared.keyword.Keyword.TheVariants as words
use Rattle.script_model.specs.declared.request_words.RequestWords.{RequestWords}

words-text : (members : List Name) (member : MemberId) (request : RequestWords)
    → IsRequest members member request → IsUtf8 (request_text request)
words-text members member request is =
    text-behind (member_text members member) (request_text request)
    (text-behind (word_of words.Rest) (two_texts (member_text members member) (request_text request))
    (IsUtf8-from_is_utf8 (rest_text members member request) is.line.form.text))

pub method-text : (members : List Name) (member : MemberId) (request : RequestWords)
    → IsRequest members member request → IsUtf8 request.method
method-text members member request is =
    text-before request.method (request.target ++ body_text request.body) (words-text members member request is)

behind-target : (target body : List ℕ) → IsUtf8 (target ++ body_text body) → IsUtf8 body
behind-target target [] text = IsUtf8-nil
behind-target target (b ∷ bs) text = text-behind target (b ∷ bs) text

pub body-text : (members : List Name) (member : MemberId) (request : RequestWords)
    → IsRequest members member request → IsUtf8 request.body
body-text members member request is = behind-target request.target request.body
    (text-behind request.method (request.target ++ body_text request.body) (words-text members member request is))
