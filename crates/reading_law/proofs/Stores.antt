-- Lines of the key store that begin with no name are read again.
use Rattle.std.proofs.Common.{◌≡◌, ℕ, List, ◌∷◌, ◌++◌, Option, Some, refl, ◌∙◌, ap}
use Rattle.std.specs.Prelude.{codes}
use Rattle.pat_base.specs.Name.{name_bytes}
use Rattle.pat_base.specs.declared.name.Name.{Name}
use Rattle.pat_base.proofs.Names.{name_of-name_bytes}
use Rattle.script_words.specs.Words.{cut_word}
use Rattle.script_words.proofs.WordLaws.{cut_word-again}
use Rattle.store_keys.specs.Words.{kind_text}
use Rattle.store_keys.specs.declared.txn_kind.TxnKind.{TxnKind}
use Rattle.store_keys.specs.declared.txn_kind.TxnKind.TheVariants as kinds
use Rattle.run_reading.specs.declared.happening.Happening.TheVariants.{KeyExpires, IsRefused}
use Rattle.run_reading.specs.declared.told.Told.{Told}
use Rattle.run_reading.specs.Forms.{named_of}
use Rattle.run_reading.specs.Told.{first_of, name_before, of_named, told_by_words, told_of_request}
use Rattle.reading_law.specs.Lines.{one_told}
use Rattle.reading_law.proofs.Named.{name-unbroken}

-- a name with a blank and words behind it
before-words : (name : Name) (words rest : List ℕ) (o : Option Name)
    → name_before words (name_bytes name, Some rest) ≡ o
    → name_before words (cut_word (name_bytes name ++ (32 ∷ rest))) ≡ o
before-words name words rest o e =
    ap (name_before words) (cut_word-again (name_bytes name) rest (name-unbroken name)) ∙ e

-- the leader key expires
pub expires-read : (tick : ℕ) (holder : Name)
    → told_by_words tick (codes "the leader key of " ++ (name_bytes holder ++ codes " expires"))
    ≡ Some (one_told tick holder KeyExpires)
unfolding named_of
expires-read tick holder =
    let other : Option Told =
    told_of_request tick (codes "leader key of " ++ (name_bytes holder ++ codes " expires")) in
    ap (λ name. first_of (of_named tick KeyExpires name) other)
    (before-words holder (codes "expires") (codes "expires") (Some holder) (name_of-name_bytes holder))

-- a request is refused
request-words : (tick : ℕ) (kind : TxnKind) (by : Name) (rest : List ℕ)
    → told_by_words tick
    (codes "the " ++ (kind_text kind ++ (codes " of " ++ (name_bytes by ++ (codes " is refused, " ++ rest)))))
    ≡ of_named tick IsRefused
    (name_before (codes "is refused, ") (cut_word (name_bytes by ++ (32 ∷ (codes "is refused, " ++ rest)))))
unfolding named_of
request-words tick kinds.Touch by rest = refl
request-words tick _ by rest = refl

pub refused-read : (tick : ℕ) (kind : TxnKind) (by : Name) (rest : List ℕ)
    → told_by_words tick
    (codes "the " ++ (kind_text kind ++ (codes " of " ++ (name_bytes by ++ (codes " is refused, " ++ rest)))))
    ≡ Some (one_told tick by IsRefused)
refused-read tick kind by rest =
    request-words tick kind by rest
    ∙ ap (of_named tick IsRefused)
    (before-words by (codes "is refused, ") (codes "is refused, " ++ rest) (Some by) (name_of-name_bytes by))
