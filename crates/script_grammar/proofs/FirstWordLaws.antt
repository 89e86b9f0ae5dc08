-- First words that are told apart.
use Rattle.std.proofs.Common.{◌≡◌, ℕ, List, Option, Some, None, refl, arith}
use Rattle.std.specs.Str.{bytes_eq}
use Rattle.std.proofs.lemmas.Slice.Eq.{bytes_eq-Decides}
use Rattle.pat_base.specs.declared.name.Name.{Name}
use Rattle.script_words.proofs.PlainTexts.{IsPlain, name-IsPlain}
use Rattle.script_words.proofs.WordLaws.{find-passes}
use Rattle.script_model.specs.Keywords.{word_of}
use Rattle.script_model.specs.Script.{text_of_name}
use Rattle.script_model.specs.declared.keyword.Keyword.{Keyword}
use Rattle.script_model.specs.declared.keyword.Keyword.TheVariants.{Cluster}
use Rattle.script_grammar.specs.FirstWords.{keywords, keyword_of}

pub keyword_of-is : (word : List ℕ) (keyword : Keyword) → keyword_of word ≡ Some keyword → word ≡ word_of keyword
keyword_of-is word keyword e =
    (bytes_eq-Decides word (word_of keyword)).0 (find-passes (λ k. bytes_eq word (word_of k)) keywords keyword e)

pub some_name-IsPlain : (o : Option Name) → IsPlain (text_of_name o) 32
some_name-IsPlain None = record { plain = refl; short = omega arith }
some_name-IsPlain (Some name) = name-IsPlain name

-- so many letters a first word has at most
abbrev pub longest_word : ℕ
longest_word = 7

-- a row for one word has the others looked at one by one
pub word-IsPlain : (keyword : Keyword) → IsPlain (word_of keyword) longest_word
word-IsPlain Cluster = record { plain = refl; short = omega arith }
word-IsPlain _ = record { plain = refl; short = omega arith }
