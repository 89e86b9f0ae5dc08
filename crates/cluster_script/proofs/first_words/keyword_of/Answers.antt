use Rattle.std.proofs.Common.{rules, arith}
use Rattle.script_model.specs.declared.keyword.Keyword.TheVariants.{Cluster, Config, Member, Deliver, Resume, Restart, Crash, Promote, Commit, Stream, Freeze, Trace}
use Rattle.cluster_script.proofs.FirstWords.{keyword-is}
use Rattle.cluster_script.proofs.first_words.keyword_of.Goals as goal

pub returns-in-cluster : goal.returns-in-cluster
returns-in-cluster c = keyword-is Cluster c.args.word.now (omega arith) (search rules)

pub returns-in-config : goal.returns-in-config
returns-in-config c = keyword-is Config c.args.word.now (omega arith) (search rules)

pub returns-in-member : goal.returns-in-member
returns-in-member c = keyword-is Member c.args.word.now (omega arith) (search rules)

pub returns-in-deliver : goal.returns-in-deliver
returns-in-deliver c = keyword-is Deliver c.args.word.now (omega arith) (search rules)

pub returns-in-resume : goal.returns-in-resume
returns-in-resume c = keyword-is Resume c.args.word.now (omega arith) (search rules)

pub returns-in-restart : goal.returns-in-restart
returns-in-restart c = keyword-is Restart c.args.word.now (omega arith) (search rules)

pub returns-in-crash : goal.returns-in-crash
returns-in-crash c = keyword-is Crash c.args.word.now (omega arith) (search rules)

pub returns-in-promote : goal.returns-in-promote
returns-in-promote c = keyword-is Promote c.args.word.now (omega arith) (search rules)

pub returns-in-commit : goal.returns-in-commit
returns-in-commit c = keyword-is Commit c.args.word.now (omega arith) (search rules)

pub returns-in-stream : goal.returns-in-stream
returns-in-stream c = keyword-is Stream c.args.word.now (omega arith) (search rules)

pub returns-in-freeze : goal.returns-in-freeze
returns-in-freeze c = keyword-is Freeze c.args.word.now (omega arith) (search rules)

pub returns-in-trace : goal.returns-in-trace
returns-in-trace c = keyword-is Trace c.args.word.now (omega arith) (search rules)
