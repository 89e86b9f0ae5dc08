-- The first word that bytes are.
use Rattle.std.specs.Prelude.{ℕ, List, [], ◌∷◌, Option}
use Rattle.std.specs.List.{find}
use Rattle.std.specs.Str.{bytes_eq}
use Rattle.script_model.specs.Keywords.{word_of}
use Rattle.script_model.specs.declared.keyword.Keyword.{Keyword}
use Rattle.script_model.specs.declared.keyword.Keyword.TheVariants.{Cluster, Config, Base, Member, Tick, Run, Turn, Deliver, Lose, Hold, Resume, Kill, Restart, Crash, Promote, Commit, Stream, Freeze, Thaw, Cut, Join, Slow, Rest, Ctl, Trace}

-- all first words
abbrev pub keywords : List Keyword
keywords = Cluster ∷ Config ∷ Base ∷ Member ∷ Tick ∷ Run ∷ Turn ∷ Deliver ∷ Lose ∷ Hold ∷ Resume ∷ Kill
    ∷ Restart ∷ Crash ∷ Promote ∷ Commit ∷ Stream ∷ Freeze ∷ Thaw ∷ Cut ∷ Join ∷ Slow ∷ Rest ∷ Ctl ∷ Trace ∷ []

-- the first word that these bytes are
abbrev pub keyword_of : List ℕ → Option Keyword
keyword_of word = find (λ k. bytes_eq word (word_of k)) keywords
