use Rattle.std.proofs.Common.{rules}
use Rattle.cluster_script.proofs.Counting.{counted-config, counted-other}
use Rattle.cluster_script.proofs.draft.Draft.add_counted.Goals as goal

pub returns-then-is_config : goal.returns-then-is_config
returns-then-is_config c = rw (← c.self.view_is) (search (rules, counted-config))

pub returns-in_err-added-2 : goal.returns-in_err-added-2
returns-in_err-added-2 c = rw (← c.self.view_is) (search (rules, counted-other))

pub returns : goal.returns
returns c = rw (← c.self.view_is) (search (rules, counted-other))
