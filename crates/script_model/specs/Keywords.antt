-- The first words of lines.
use Rattle.std.specs.Prelude.{ℕ, List, ◌∷◌, ◌++◌, codes}
use Rattle.script_model.specs.declared.keyword.Keyword.{Keyword}
use Rattle.script_model.specs.declared.keyword.Keyword.TheVariants.{Cluster, Config, Base, Member, Tick, Run, Turn, Deliver, Lose, Hold, Resume, Kill, Restart, Crash, Promote, Commit, Stream, Freeze, Thaw, Cut, Join, Slow, Rest, Ctl, Trace}

-- the text of a first word
abbrev pub word_of : Keyword → List ℕ
word_of Cluster = codes "cluster"
word_of Config = codes "config"
word_of Base = codes "base"
word_of Member = codes "member"
word_of Tick = codes "tick"
word_of Run = codes "run"
word_of Turn = codes "turn"
word_of Deliver = codes "deliver"
word_of Lose = codes "lose"
word_of Hold = codes "hold"
word_of Resume = codes "resume"
word_of Kill = codes "kill"
word_of Restart = codes "restart"
word_of Crash = codes "crash"
word_of Promote = codes "promote"
word_of Commit = codes "commit"
word_of Stream = codes "stream"
word_of Freeze = codes "freeze"
word_of Thaw = codes "thaw"
word_of Cut = codes "cut"
word_of Join = codes "join"
word_of Slow = codes "slow"
word_of Rest = codes "rest"
word_of Ctl = codes "ctl"
word_of Trace = codes "trace"

-- a line of a first word, one blank and the rest
abbrev pub spelled : Keyword → List ℕ → List ℕ
spelled keyword rest = word_of keyword ++ (32 ∷ rest)
