use Rattle.std.proofs.Common.{◌∙◌, sym, drop}
use Rattle.cluster_model.specs.Cluster.{cluster_over}
use Rattle.world_acts.proofs.Sleeping.{asleep-over, none-asleep}
use Rattle.world_acts.proofs.sleepers.Sleepers.pass.Goals as goal

pub returns-then-rouse_agents-clause-asleep : goal.returns-then-rouse_agents-clause-asleep
returns-then-rouse_agents-clause-asleep c = λ cluster sleep.
    none-asleep c.none.result (cluster_over cluster (drop c.args.from c.args.events.now.items)) c.none.ensures

pub returns-else-rouse_agents-clause-asleep : goal.returns-else-rouse_agents-clause-asleep
returns-else-rouse_agents-clause-asleep c = λ cluster sleep. asleep-over c.args.self.now cluster
    (drop c.args.from c.args.events.now.items) (sym c.rouse_agents.ensures ∙ c.if-rouse_agents.false) sleep
