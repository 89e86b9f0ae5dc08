-- Lines that begin with a first word. A row for one word has the others looked at one by one.
use Rattle.std.proofs.Common.{◌≡◌, ℕ, false, List, Some, refl}
use Rattle.script_words.specs.Lines.{is_skipped}
use Rattle.script_words.specs.Words.{cut_word}
use Rattle.script_model.specs.Keywords.{word_of, spelled}
use Rattle.script_model.specs.declared.keyword.Keyword.{Keyword}
use Rattle.script_model.specs.declared.keyword.Keyword.TheVariants.{Cluster}
use Rattle.script_grammar.specs.FirstWords.{keyword_of}

pub cut_word-spelled : (keyword : Keyword) (rest : List ℕ)
    → cut_word (spelled keyword rest) ≡ (word_of keyword, Some rest)
cut_word-spelled Cluster rest = refl
cut_word-spelled _ rest = refl

pub keyword_of-word_of : (keyword : Keyword) → keyword_of (word_of keyword) ≡ Some keyword
keyword_of-word_of Cluster = refl
keyword_of-word_of _ = refl

pub spelled-counts : (keyword : Keyword) (rest : List ℕ) → is_skipped (spelled keyword rest) ≡ false
spelled-counts Cluster rest = refl
spelled-counts _ rest = refl
