-- What a line with a moment tells.
use Rattle.std.specs.Prelude.{ℕ, if◌then◌else◌, List, Option, Some, None, is_some, codes}
use Rattle.std.specs.Str.{bytes_eq}
use Rattle.std.specs.Option.{option_and_then}
use Rattle.pat_base.specs.Name.{name_of}
use Rattle.pat_base.specs.declared.name.Name.{Name}
use Rattle.script_words.specs.Numbers.{number}
use Rattle.script_words.specs.Words.{cut_word}
use Rattle.run_reading.specs.declared.happening.Happening.{Happening}
use Rattle.run_reading.specs.declared.happening.Happening.TheVariants.{KeyExpires, IsRefused, Commits, IsAcknowledged}
use Rattle.run_reading.specs.declared.told.Told.{Told}
use Rattle.run_reading.specs.Forms.{behind, named_of}

-- this is told at a moment, of nobody
abbrev pub of_nobody : ℕ → Happening → Told
of_nobody tick happening = record { tick = tick; of = None; happening = happening }

-- this is told at a moment of whom the bytes name, if they name one
abbrev pub of_named : ℕ → Happening → Option Name → Option Told
of_named tick happening None = None
of_named tick happening (Some name) = Some (record { tick = tick; of = Some name; happening = happening })

-- what words tell behind a name
abbrev pub told_named : ℕ → Option Name → Option Happening → Option Told
told_named tick name None = None
told_named tick name (Some happening) = of_named tick happening name

-- a number, and what stands behind its blank
abbrev pub counted_behind : Option ℕ → Option (List ℕ) → Option (List ℕ)
counted_behind None rest = None
counted_behind (Some count) rest = rest

-- a number and a blank, and what stands behind them
abbrev pub behind_number : List ℕ → Option (List ℕ)
behind_number bytes = counted_behind (number (cut_word bytes).0) (cut_word bytes).1

-- a name follows, of a server that commits
abbrev pub commits_on : ℕ → Option Name → Option Told
commits_on tick None = None
commits_on tick (Some server) = Some (of_nobody tick Commits)

-- the server of a commit, behind its number
abbrev pub committed_on : List ℕ → Option Name
committed_on words = option_and_then name_of
    (option_and_then (behind (codes "bytes on ")) (option_and_then behind_number (behind (codes "of ") words)))

-- what is told of a commit behind its number
abbrev pub told_of_commit : ℕ → List ℕ → Option Told
told_of_commit tick words = if bytes_eq words (codes "is acknowledged")
    then Some (of_nobody tick IsAcknowledged) else commits_on tick (committed_on words)

-- the name that ends at the first blank, where these words follow
abbrev pub name_before : List ℕ → List ℕ × Option (List ℕ) → Option Name
name_before words (name, None) = None
name_before words (name, Some rest) = if is_some (behind words rest) then name_of name else None

-- one of two, the first where it is there
abbrev pub first_of : {A : Type 0} → Option A → Option A → Option A
first_of None second = second
first_of (Some x) second = Some x

-- what stands behind a word and `of`
abbrev pub behind_of : List ℕ → Option (List ℕ)
behind_of words = option_and_then (behind (codes "of ")) (cut_word words).1

-- what stands behind the words for a kind of request and `of`: a kind has one word or two
abbrev pub behind_kind : List ℕ → Option (List ℕ)
behind_kind words = first_of (behind_of words) (option_and_then behind_of (cut_word words).1)

-- what is told of the leader key
abbrev pub told_of_key : ℕ → List ℕ → Option Told
told_of_key tick words =
    option_and_then (λ rest. of_named tick KeyExpires (name_before (codes "expires") (cut_word rest)))
    (behind (codes "leader key of ") words)

-- what is told of a request
abbrev pub told_of_request : ℕ → List ℕ → Option Told
told_of_request tick words = option_and_then
    (λ rest. of_named tick IsRefused (name_before (codes "is refused, ") (cut_word rest))) (behind_kind words)

-- what words tell that begin with the number of a commit
abbrev pub told_of_numbered : ℕ → List ℕ → Option Told
told_of_numbered tick words =
    option_and_then (told_of_commit tick) (option_and_then behind_number (behind (codes "commit ") words))

-- what words tell of the key store
abbrev pub told_of_store : ℕ → List ℕ → Option Told
told_of_store tick words = first_of (told_of_key tick words) (told_of_request tick words)

-- what words tell that begin with no name
abbrev pub told_unnamed : ℕ → List ℕ → Option Told
told_unnamed tick words =
    first_of (told_of_numbered tick words) (option_and_then (told_of_store tick) (behind (codes "the ") words))

-- what a name and the words behind it tell
abbrev pub told_by_name : ℕ → List ℕ × Option (List ℕ) → Option Told
told_by_name tick (name, None) = None
told_by_name tick (name, Some words) = told_named tick (name_of name) (named_of words)

-- what words tell at a moment
abbrev pub told_by_words : ℕ → List ℕ → Option Told
told_by_words tick words = first_of (told_by_name tick (cut_word words)) (told_unnamed tick words)

-- what stands behind a moment tells
abbrev pub told_at : Option ℕ → Option (List ℕ) → Option Told
told_at None words = None
told_at (Some tick) None = None
told_at (Some tick) (Some words) = told_by_words tick words

-- what a line with a moment tells, if it is one of a printed run
abbrev pub told_of : List ℕ → Option Told
told_of line = told_at (number (cut_word line).0) (cut_word line).1
