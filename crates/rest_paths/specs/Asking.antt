-- What requests ask for, by method and path (Patroni documentation, "Patroni REST API").
use Rattle.std.specs.Prelude.{ℕ, true, false, List, Option, Some, None}
use Rattle.rest_health.specs.declared.endpoint.Endpoint.{Endpoint}
use Rattle.rest_message.specs.declared.verb.Verb.{Verb}
use Rattle.rest_message.specs.declared.verb.Verb.TheVariants as verbs
use Rattle.rest_paths.specs.declared.asking.Ask.{Ask}
use Rattle.rest_paths.specs.declared.asking.Ask.TheVariants as asks
use Rattle.rest_paths.specs.declared.change.Change.{Change}
use Rattle.rest_paths.specs.declared.change.Change.TheVariants as changes
use Rattle.rest_paths.specs.declared.resource.Operation.{Operation}
use Rattle.rest_paths.specs.declared.resource.Operation.TheVariants as operations
use Rattle.rest_paths.specs.declared.resource.Page.{Page}
use Rattle.rest_paths.specs.declared.resource.Page.TheVariants as pages
use Rattle.rest_paths.specs.declared.resource.Resource.{Resource}
use Rattle.rest_paths.specs.declared.resource.Resource.TheVariants as resources
use Rattle.rest_paths.specs.Paths.{resource_at}

-- a health check: GET asks for the status and a body, HEAD and OPTIONS for the status alone
abbrev pub health_ask : Verb → Endpoint → Ask
health_ask verbs.Get endpoint = asks.Health endpoint true
health_ask verbs.Head endpoint = asks.Health endpoint false
health_ask verbs.Options endpoint = asks.Health endpoint false
health_ask _ endpoint = asks.NotAllowed

-- a page is told by GET; the configuration is changed, by PATCH or
-- PUT, and POST asks the member to let another one stay primary
abbrev pub page_ask : Verb → Page → Ask
page_ask verbs.Get page = asks.Page page
page_ask verbs.Patch pages.Config = asks.Change changes.PatchConfiguration
page_ask verbs.Put pages.Config = asks.Change changes.ReplaceConfiguration
page_ask verbs.Post pages.Failsafe = asks.Change changes.Failsafe
page_ask _ _ = asks.NotAllowed

-- what an operation changes
abbrev pub change_by : Operation → Change
change_by operations.Switchover = changes.Switchover
change_by operations.Failover = changes.Failover
change_by operations.Restart = changes.Restart
change_by operations.Reinitialize = changes.Reinitialize

-- an operation is asked for by POST, and a scheduled switchover is dropped by DELETE
abbrev pub operation_ask : Verb → Operation → Ask
operation_ask verbs.Post operation = asks.Change (change_by operation)
operation_ask verbs.Delete operations.Switchover = asks.Change changes.DropSwitchover
operation_ask _ _ = asks.NotAllowed

-- what is asked for where a path stands for this
abbrev pub ask_at : Verb → Resource → Ask
ask_at verb (resources.Health endpoint) = health_ask verb endpoint
ask_at verb (resources.Page page) = page_ask verb page
ask_at verb (resources.Operation operation) = operation_ask verb operation

-- or for nothing
abbrev pub ask_where : Verb → Option Resource → Ask
ask_where verb None = asks.NotFound
ask_where verb (Some resource) = ask_at verb resource

-- what a request asks for
abbrev pub ask_of : Verb → List ℕ → Ask
ask_of verb path = ask_where verb (resource_at path)
