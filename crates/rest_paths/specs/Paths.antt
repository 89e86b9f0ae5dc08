-- The paths of the REST interface (Patroni documentation, "Patroni REST API").
use Rattle.std.specs.Prelude.{ℕ, List, [], ◌∷◌, codes, Option}
use Rattle.std.specs.Map.{lookup}
use Rattle.std.specs.Str.{bytes_eq}
use Rattle.rest_health.specs.declared.endpoint.Endpoint.TheVariants as paths
use Rattle.rest_paths.specs.declared.resource.Operation.TheVariants as operations
use Rattle.rest_paths.specs.declared.resource.Page.TheVariants as pages
use Rattle.rest_paths.specs.declared.resource.Resource.{Resource}
use Rattle.rest_paths.specs.declared.resource.Resource.TheVariants.{Health, Page, Operation}

-- each path with what it stands for
abbrev pub path_table : List (List ℕ × Resource)
path_table =
    (codes "/", Health paths.Root)
    ∷ (codes "/primary", Health paths.Primary)
    ∷ (codes "/read-write", Health paths.ReadWrite)
    ∷ (codes "/leader", Health paths.Leader)
    ∷ (codes "/replica", Health paths.Replica)
    ∷ (codes "/read-only", Health paths.ReadOnly)
    ∷ (codes "/sync", Health paths.Sync)
    ∷ (codes "/synchronous", Health paths.Synchronous)
    ∷ (codes "/read-only-sync", Health paths.ReadOnlySync)
    ∷ (codes "/async", Health paths.Async)
    ∷ (codes "/asynchronous", Health paths.Asynchronous)
    ∷ (codes "/health", Health paths.Health)
    ∷ (codes "/readiness", Health paths.Readiness)
    ∷ (codes "/liveness", Health paths.Liveness)
    ∷ (codes "/patroni", Page pages.Patroni)
    ∷ (codes "/cluster", Page pages.Cluster)
    ∷ (codes "/history", Page pages.History)
    ∷ (codes "/config", Page pages.Config)
    ∷ (codes "/failsafe", Page pages.Failsafe)
    ∷ (codes "/switchover", Operation operations.Switchover)
    ∷ (codes "/failover", Operation operations.Failover)
    ∷ (codes "/restart", Operation operations.Restart)
    ∷ (codes "/reinitialize", Operation operations.Reinitialize)
    ∷ []

-- what a path stands for, byte for byte
abbrev pub resource_at : List ℕ → Option Resource
resource_at path = lookup (bytes_eq path) path_table
