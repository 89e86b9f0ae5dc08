-- Lines by their forms.
use Rattle.std.specs.Prelude.{ℕ, Bool, true, false, List, ◌∷◌, ◌++◌, Some, codes}
use Rattle.std.specs.Fmt.{decimal}
use Rattle.pat_base.specs.Name.{name_bytes}
use Rattle.pat_base.specs.declared.name.Name.{Name}
use Rattle.store_keys.specs.Words.{kind_text}
use Rattle.store_keys.specs.declared.txn_kind.TxnKind.{TxnKind}
use Rattle.run_reading.specs.declared.happening.Happening.{Happening}
use Rattle.run_reading.specs.declared.happening.Happening.TheVariants.{KeyExpires, IsRefused, Commits, IsAcknowledged}
use Rattle.run_reading.specs.declared.told.Told.{Told}
use Rattle.run_reading.specs.Forms.{words_of}

-- this is told of one of this name
abbrev pub one_told : ℕ → Name → Happening → Told
one_told tick name happening = record { tick = tick; of = Some name; happening = happening }

-- what is told by words behind a name
abbrev pub is_named : Happening → Bool
is_named KeyExpires = false
is_named IsRefused = false
is_named Commits = false
is_named IsAcknowledged = false
is_named _ = true

-- a moment, and words behind it
abbrev pub at_moment : ℕ → List ℕ → List ℕ
at_moment tick words = decimal tick ++ (32 ∷ words)

-- the words of such a line: a name, and what is told of it with what follows
abbrev pub named_words : Name → Happening → List ℕ → List ℕ
named_words name happening tail = name_bytes name ++ (32 ∷ (words_of happening ++ tail))

-- the words of the line of a leader key that expires
abbrev pub expiry_words : Name → List ℕ
expiry_words holder = codes "the leader key of " ++ (name_bytes holder ++ codes " expires")

-- those of a request that is refused, for this reason
abbrev pub refusal_words : TxnKind → Name → List ℕ → List ℕ
refusal_words kind by why =
    codes "the " ++ (kind_text kind ++ (codes " of " ++ (name_bytes by ++ (codes " is refused, " ++ why))))

-- those of a commit of so many bytes on the server of this name
abbrev pub commit_words : ℕ → ℕ → Name → List ℕ
commit_words serial bytes server = codes "commit "
    ++ (decimal serial ++ (codes " of " ++ (decimal bytes ++ (codes " bytes on " ++ name_bytes server))))

-- those of a commit that is acknowledged
abbrev pub acknowledgement_words : ℕ → List ℕ
acknowledgement_words serial = codes "commit " ++ (decimal serial ++ codes " is acknowledged")
