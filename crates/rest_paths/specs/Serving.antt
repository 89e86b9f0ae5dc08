-- What a router of all paths answers.
use Rattle.std.specs.Prelude.{◌≡◌, ℕ, List, option_map}
use Rattle.matchit.specs.Rows.{RowsOf}
use Rattle.matchit.specs.Router.{RouteOf}
use Rattle.matchit.specs.Seek.{first}
use Rattle.rest_paths.specs.declared.resource.Resource.{Resource}
use Rattle.rest_paths.specs.Paths.{resource_at}

-- a router finds what each path stands for
abbrev pub Serves : RowsOf (RouteOf Resource) → Type 0
Serves router = (path : List ℕ) → option_map (λ route. route.value) (first router path) ≡ resource_at path
