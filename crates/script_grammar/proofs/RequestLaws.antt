-- The words of a request, as they are read and spelled.
use Rattle.std.proofs.Common.{◌≡◌, ℕ, ◌<◌, ◌==◌, true, false, cond, List, [], ◌∷◌, ◌++◌, length, Option, Some, None, Result, Ok, Err, IsUtf8, refl, ◌∙◌, ap, sym, subst, arith, append_assoc, append-nil}
use Rattle.std.specs.List.{list_all}
use Rattle.std.proofs.lemmas.Bool.{and_parts}
use Rattle.std.proofs.lemmas.Bool.Decides.{nat_tests}
use Rattle.std.proofs.lemmas.Str.{IsUtf8-from_is_utf8}
use Rattle.pat_base.specs.declared.name.Name.{Name}
use Rattle.pat_base.specs.declared.member_id.MemberId.{MemberId}
use Rattle.script_grammar.specs.Arguments.{member_in, missing_behind, method_in, target_in, target_behind, method_behind, asked_member, next_word, behind_word, bytes_or_none, request_behind, rest_line}
use Rattle.script_words.specs.Faults.{on_ok, both}
use Rattle.script_words.specs.Lines.{first_at}
use Rattle.script_words.specs.Tokens.{is_token, is_token_byte}
use Rattle.script_model.specs.Script.{member_text, two_texts, body_text, rest_text, IsWholeLine, IsMember, IsWord, IsRequest}
use Rattle.script_model.specs.Spelling.{SpellsLine, OwnText, BlankBehind}
use Rattle.script_model.specs.Keywords.{spelled, word_of}
use Rattle.script_words.specs.Words.{cut_word}
use Rattle.script_words.specs.declared.fault.Fault.{Fault}
use Rattle.script_words.specs.declared.fault.Fault.TheVariants as faults
use Rattle.script_model.specs.declared.keyword.Keyword.TheVariants as words
use Rattle.script_model.specs.declared.line.Command.TheVariants as commands
use Rattle.script_model.specs.declared.line.Line.TheVariants as lines
use Rattle.script_model.specs.declared.request_words.RequestWords.{RequestWords}
use Rattle.script_words.proofs.Outcomes.{err_is, both-Ok, cond-Ok, cond-Err}
use Rattle.script_grammar.proofs.BlankLaws.{first_at-all, cut_word-unbroken, text-before, text-behind, line-before}
use Rattle.script_words.proofs.WordLaws.{cut_word-None, cut_word-Some, cut_word-again, cut_word-alone}

-- a target, and what stands behind its blank, if there is one
abbrev pub with_behind : List ℕ → Option (List ℕ) → List ℕ
with_behind target None = target
with_behind target (Some body) = two_texts target body

-- a request's words behind the member, with a blank behind the target or without
abbrev pub words_with : List ℕ → List ℕ → Option (List ℕ) → List ℕ
words_with method target behind = two_texts method (with_behind target behind)

-- what they ask
abbrev pub request_with : List ℕ → List ℕ → Option (List ℕ) → RequestWords
request_with method target behind = record { method = method; target = target; body = bytes_or_none behind }

cut-with_behind : (words : List ℕ) (behind : Option (List ℕ)) → (cut_word words).1 ≡ behind
    → with_behind (cut_word words).0 behind ≡ words
cut-with_behind words None is = cut_word-None words is
cut-with_behind words (Some body) is = sym (cut_word-Some words body is)

-- the words of a request that are read
pub record HasRequest (members : List Name) (rest : Option (List ℕ)) (member : MemberId) : Type 0 where
  pub word : List ℕ
  pub method : List ℕ
  pub target : List ℕ
  pub behind : Option (List ℕ)
  pub is : rest ≡ Some (two_texts word (words_with method target behind))
  pub value : member_in members word ≡ Ok member
  pub token : is_token method ≡ true
  pub target_is : IsWord target
  pub request : request_behind (behind_word rest) ≡ request_with method target behind

some-bytes : (n : ℕ) → (n == 0) ≡ false → 0 < n
some-bytes n h = grind (arith, nat_tests)

-- words that are cut at their blanks
cut-request : (members : List Name) (words more last : List ℕ) (said : MemberId × Unit {0})
    → (cut_word words).1 ≡ Some more → (cut_word more).1 ≡ Some last
    → target_in members (both (member_in members (cut_word words).0) (method_in (cut_word more).0)) (cut_word last).0
    ≡ Ok said
    → HasRequest members (Some words) said.0
cut-request members words more last said cut next e =
    let before : Result (MemberId × Unit {0}) Fault =
    both (member_in members (cut_word words).0) (method_in (cut_word more).0) in
    let some = cond-Err (length (cut_word last).0 == 0) before (missing_behind members before) said e in
    let named = both-Ok (member_in members (cut_word words).0) (method_in (cut_word more).0) said some.1 in
    let behind : Option (List ℕ) = (cut_word last).1 in
    let more_is : more ≡ words_with (cut_word more).0 (cut_word last).0 behind = cut_word-Some more last next
    ∙ ap (two_texts (cut_word more).0) (sym (cut-with_behind last behind refl)) in
    record {
      word = (cut_word words).0;
      method = (cut_word more).0;
      target = (cut_word last).0;
      behind = behind;
      is = ap Some (cut_word-Some words more cut ∙ ap (two_texts (cut_word words).0) more_is);
      value = named.0;
      token = (cond-Ok (is_token (cut_word more).0) (Ok tt) faults.BadOption said.1 named.1).0;
      target_is = record { some = some-bytes (length (cut_word last).0) some.0; unbroken = cut_word-unbroken last };
      request = ap request_behind cut ∙ ap (λ o. request_with (cut_word more).0 (next_word o) (behind_word o)) next;
    }

target-Ok : (members : List Name) (words more : List ℕ) (rest : Option (List ℕ)) (said : MemberId × Unit {0})
    → (cut_word words).1 ≡ Some more → (cut_word more).1 ≡ rest
    → target_behind members (both (member_in members (cut_word words).0) (method_in (cut_word more).0)) rest ≡ Ok said
    → HasRequest members (Some words) said.0
target-Ok members words more None said cut next e = absurd (err_is _ said e)
target-Ok members words more (Some last) said cut next e = cut-request members words more last said cut next e

method-Ok : (members : List Name) (words : List ℕ) (rest : Option (List ℕ)) (said : MemberId × Unit {0})
    → (cut_word words).1 ≡ rest → method_behind members (member_in members (cut_word words).0) rest ≡ Ok said
    → HasRequest members (Some words) said.0
method-Ok members words None said cut e = absurd (err_is _ said e)
method-Ok members words (Some more) said cut e = target-Ok members words more (cut_word more).1 said cut refl e

pub asked_member-Ok : (members : List Name) (rest : Option (List ℕ)) (said : MemberId × Unit {0})
    → asked_member members rest ≡ Ok said → HasRequest members rest said.0
asked_member-Ok members None said e = absurd (err_is _ said e)
asked_member-Ok members (Some words) said e = method-Ok members words (cut_word words).1 said refl e

-- the line of a request with these words
abbrev pub line_with : List Name → MemberId → List ℕ → List ℕ → Option (List ℕ) → List ℕ
line_with members m method target behind =
    spelled words.Rest (two_texts (member_text members m) (words_with method target behind))

-- the request's own text, where the body is empty
bare-text : (members : List Name) (m : MemberId) (method target : List ℕ)
    → line_with members m method target None ≡ rest_text members m (request_with method target None)
bare-text members m method target =
    ap (λ t. spelled words.Rest (two_texts (member_text members m) (two_texts method t))) (sym (append-nil target))

-- and with a blank behind it
last-behind : (a b c d x : List ℕ)
    → a ++ (32 ∷ (b ++ (32 ∷ (c ++ (32 ∷ (d ++ x)))))) ≡ (a ++ (32 ∷ (b ++ (32 ∷ (c ++ (32 ∷ d)))))) ++ x
last-behind a b c d x = simp append_assoc

pub blank-text : (members : List Name) (m : MemberId) (method target : List ℕ)
    → line_with members m method target (Some []) ≡ rest_text members m (request_with method target None) ++ 32 ∷ []
blank-text members m method target = last-behind (word_of words.Rest) (member_text members m) method target (32 ∷ [])
    ∙ ap (λ t. t ++ 32 ∷ []) (bare-text members m method target)

-- such words spell the request
pub request-SpellsLine : (members : List Name) (m : MemberId) (method target : List ℕ) (behind : Option (List ℕ))
    → SpellsLine members (line_with members m method target behind)
    (lines.Command (commands.Rest m (request_with method target behind)))
request-SpellsLine members m method target None = OwnText (bare-text members m method target)
request-SpellsLine members m method target (Some []) =
    BlankBehind m (request_with method target None) refl refl (blank-text members m method target)
request-SpellsLine members m method target (Some (b ∷ bs)) = OwnText refl

-- and its own text may be a line where they are one
own-line : (members : List Name) (m : MemberId) (method target : List ℕ) (behind : Option (List ℕ))
    → IsWholeLine (line_with members m method target behind)
    → IsWholeLine (rest_text members m (request_with method target behind))
own-line members m method target None line = subst IsWholeLine (bare-text members m method target) line
own-line members m method target (Some []) line = line-before (rest_text members m (request_with method target None)) []
    (subst IsWholeLine (blank-text members m method target) line)
own-line members m method target (Some (b ∷ bs)) line = line

-- a target of a line is text
target-text : (target : List ℕ) (behind : Option (List ℕ)) → IsUtf8 (with_behind target behind) → IsUtf8 target
target-text target None text = text
target-text target (Some body) text = text-before target body text

pub request-IsRequest : (members : List Name) (m : MemberId) (method target : List ℕ) (behind : Option (List ℕ))
    → IsMember members m → is_token method ≡ true → IsWord target
    → IsWholeLine (line_with members m method target behind)
    → IsRequest members m (request_with method target behind)
request-IsRequest members m method target behind declared token is line =
    let text : IsUtf8 (line_with members m method target behind) =
    IsUtf8-from_is_utf8 (line_with members m method target behind) line.form.text in
    let words_text : IsUtf8 (words_with method target behind) =
    text-behind (member_text members m) (words_with method target behind)
    (text-behind (word_of words.Rest) (two_texts (member_text members m) (words_with method target behind)) text) in
    record {
      declared = declared;
      method = token;
      target = is;
      target_text = target-text target behind (text-behind method (with_behind target behind) words_text);
      line = own-line members m method target behind line;
    }

-- no blank stands in a token
first_at-token : (method : List ℕ) → is_token method ≡ true → first_at 32 method ≡ None
first_at-token method token =
    first_at-all is_token_byte method refl (and_parts _ (list_all is_token_byte method) token).1

-- a word has a byte
not-empty : (n : ℕ) → 0 < n → (n == 0) ≡ false
not-empty n h = grind (arith, nat_tests)

cut-again : (target : List ℕ) (behind : Option (List ℕ)) → first_at 32 target ≡ None
    → cut_word (with_behind target behind) ≡ (target, behind)
cut-again target None plain = cut_word-alone target plain
cut-again target (Some body) plain = cut_word-again target body plain

module _ (members : List Name) (word : List ℕ) (m : MemberId) (plain : first_at 32 word ≡ None)
    (value : member_in members word ≡ Ok m) (method target : List ℕ) (token : is_token method ≡ true)
    (is : IsWord target) where
  member-again : (behind : Option (List ℕ))
      → asked_member members (Some (two_texts word (words_with method target behind))) ≡ Ok (m, tt)
  member-again behind =
      let last : List ℕ = with_behind target behind in
      let before : Result (MemberId × Unit {0}) Fault = Ok (m, tt) in
      ap (λ p. method_behind members (member_in members p.0) p.1)
      (cut_word-again word (words_with method target behind) plain)
      ∙ ap (λ r. method_behind members r (Some (words_with method target behind))) value
      ∙ ap (λ p. target_behind members (both (Ok m) (method_in p.0)) p.1)
      (cut_word-again method last (first_at-token method token))
      ∙ ap (λ t. target_behind members (both (Ok m) (cond t (Ok tt) (Err faults.BadOption))) (Some last)) token
      ∙ ap (λ p. target_in members before p.0) (cut-again target behind is.unbroken)
      ∙ ap (λ t. cond t (Err (missing_behind members before)) before) (not-empty (length target) is.some)

  words-again : (behind : Option (List ℕ))
      → request_behind (behind_word (Some (two_texts word (words_with method target behind))))
      ≡ request_with method target behind
  words-again behind =
      ap (λ p. request_behind p.1) (cut_word-again word (words_with method target behind) plain)
      ∙ ap (λ p. request_with p.0 (next_word p.1) (behind_word p.1))
      (cut_word-again method (with_behind target behind) (first_at-token method token))
      ∙ ap (λ p. request_with method p.0 p.1) (cut-again target behind is.unbroken)

  -- a request is read again, with a blank behind its target or without
  pub request-again : (behind : Option (List ℕ))
      → rest_line members (Some (two_texts word (words_with method target behind)))
      ≡ Ok (lines.Command (commands.Rest m (request_with method target behind)))
  request-again behind =
      ap (λ r. on_ok r
      (λ said.
      Ok (lines.Command (commands.Rest said.0
      (request_behind (behind_word (Some (two_texts word (words_with method target behind)))))))))
      (member-again behind)
      ∙ ap (λ (request : RequestWords). Ok (lines.Command (commands.Rest m request))) (words-again behind)

  -- and so is its own text
  pub own-again : (body : List ℕ)
      → rest_line members (Some (two_texts word (two_texts method (target ++ body_text body))))
      ≡ Ok (lines.Command (commands.Rest m (record { method = method; target = target; body = body })))
  own-again [] =
      ap (λ t. rest_line members (Some (two_texts word (two_texts method t)))) (append-nil target) ∙ request-again None
  own-again (b ∷ bs) = request-again (Some (b ∷ bs))
