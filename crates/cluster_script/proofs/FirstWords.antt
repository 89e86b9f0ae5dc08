-- First words by their bytes.
use Rattle.std.proofs.Common.{◌≡◌, ℕ, List, length, Some, refl}
use Rattle.std.proofs.lemmas.Slice.Eq.{HasBytesAt, text_from_reads}
use Rattle.script_model.specs.Keywords.{word_of}
use Rattle.script_model.specs.declared.keyword.Keyword.{Keyword}
use Rattle.script_model.specs.declared.keyword.Keyword.TheVariants.{Cluster}
use Rattle.script_grammar.specs.FirstWords.{keyword_of}

known : (keyword : Keyword) → Some keyword ≡ keyword_of (word_of keyword)
known Cluster = refl
known _ = refl

-- bytes that are all those of a first word
pub keyword-is : (keyword : Keyword) (word : List ℕ) → length word ≡ length (word_of keyword)
    → HasBytesAt word 0 (word_of keyword) → Some keyword ≡ keyword_of word
keyword-is keyword word len bytes = rw (text_from_reads word (word_of keyword) len bytes) (known keyword)
