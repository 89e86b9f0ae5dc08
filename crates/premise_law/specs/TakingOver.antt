-- What a member notes that takes over its running server.
use Rattle.std.specs.Prelude.{ℕ, ◌≡◌, ◌++◌, Bool, true, false, List, [], ◌∷◌, Option, Some, slice_get}
use Rattle.pat_base.specs.Lsn.{lsn_at}
use Rattle.pat_base.specs.ServerState.{live}
use Rattle.wal_model.specs.Log.{end_of}
use Rattle.pg_model.specs.Facts.{ServerFacts}
use Rattle.script_model.specs.Script.{HeadText}
use Rattle.event_book.specs.declared.event.Event.{Event}
use Rattle.event_book.specs.declared.event.EventKind.{EventKind}
use Rattle.event_book.specs.Logs.{entries_at, logs_over}
use Rattle.agent_model.specs.Agents.{AgentFacts, is_leader}
use Rattle.cluster_model.specs.Cluster.{cluster_after, cluster_over}
use Rattle.cluster_model.specs.Starting.{cluster_of}
use Rattle.cluster_model.specs.State.{Cluster}
use Rattle.commit_runs.specs.Runs.{first_logs, noted_in}

-- the agent at a place leads, if there is one
abbrev pub is_led_by : Option (Option AgentFacts) → Bool
is_led_by (Some (Some agent)) = is_leader agent.role
is_led_by _ = false

-- the agent of the member of this number leads
abbrev pub is_led : Cluster → ℕ → Bool
is_led cluster m = is_led_by (slice_get cluster.agents m)

-- at this event the member of this number takes over its server: that accepts
-- writes, or will when its start is complete, and its agent leads from then on
pub record TakesOver (cluster : Cluster) (kind : EventKind) (m : ℕ) : Type 0 where
  pub server : ServerFacts
  pub is : slice_get cluster.facts.servers m ≡ Some server
  pub live : live server.state ≡ true
  pub before : is_led cluster m ≡ false
  pub after : is_led (cluster_after cluster kind) m ≡ true

-- whoever takes over its server in this book of a cluster of this head notes where the log of that ends then
abbrev pub NotesTakeOvers : HeadText → List Event → Type 0
NotesTakeOvers head book = (front rest : List Event) (event : Event) (m : ℕ) → front ++ event ∷ rest ≡ book
    → TakesOver (cluster_over (cluster_of head) front) event.kind m
    → noted_in head (front ++ event ∷ []) m
    ≡ (lsn_at (end_of (entries_at (logs_over (first_logs head) front) m))).position
