-- The steps that connections bring behind a script.
use Rattle.std.specs.Prelude.{List, [], ◌∷◌, ◌++◌}
use Rattle.pat_base.specs.declared.member_id.MemberId.{MemberId}
use Rattle.script_model.specs.Script.{ScriptText}
use Rattle.cluster_model.specs.declared.step.Step.{Step}
use Rattle.cluster_model.specs.Cluster.{cluster_over}
use Rattle.cluster_model.specs.Next.{run_events}
use Rattle.cluster_model.specs.Starting.{cluster_of}
use Rattle.cluster_model.specs.State.{Cluster}
use Rattle.cluster_model.specs.Steps.{steps_of}
use Rattle.serve_model.specs.Connections.{Connection, steps_of_connection}
use Rattle.run_model.specs.Run.{Played}

-- what a cluster comes to by these steps
abbrev pub after_steps : Cluster → List Step → Cluster
after_steps cluster steps = cluster_over cluster (run_events cluster steps)

-- the steps that connections to the agent of the member of this number
-- bring, each from the cluster that those before it leave
abbrev pub visits_steps : Cluster → MemberId → List Connection → List Step
visits_steps cluster id [] = []
visits_steps cluster id (visitor ∷ more) =
    let steps = steps_of_connection cluster id visitor in
    steps ++ visits_steps (after_steps cluster steps) id more

-- the steps of a script's body, and then those that connections bring
abbrev pub served_steps : Cluster → List Step → MemberId → List Connection → List Step
served_steps cluster steps id visitors = steps ++ visits_steps (after_steps cluster steps) id visitors

-- what is played of a script with connections behind it
abbrev pub served_of : ScriptText → MemberId → List Connection → Played
served_of script id visitors =
    record { head = script.head; steps = served_steps (cluster_of script.head) (steps_of script.body) id visitors }
