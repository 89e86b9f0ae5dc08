-- The state words.
use Rattle.std.specs.Prelude.{ℕ, List, codes}
use Rattle.pat_base.specs.declared.word.Word.{Word}
use Rattle.pat_base.specs.declared.word.Word.TheVariants.{Running, Streaming, Starting, Stopping, Stopped, Crashed, CreatingReplica}

-- the text of a state word
abbrev pub word_text : Word → List ℕ
word_text Running = codes "running"
word_text Streaming = codes "streaming"
word_text Starting = codes "starting"
word_text Stopping = codes "stopping"
word_text Stopped = codes "stopped"
word_text Crashed = codes "crashed"
word_text CreatingReplica = codes "creating replica"
