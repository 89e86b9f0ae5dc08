-- Whom the summary lists.
use Rattle.std.specs.Prelude.{ℕ, ◌≡◌, List, [], Option, Some, slice_get, Contains}
use Rattle.std.specs.List.Sorted.{IsStrictlySortedBy}
use Rattle.pat_base.specs.declared.name.Name.{Name}
use Rattle.event_book.specs.declared.event.EventKind.{EventKind}
use Rattle.event_book.specs.declared.event.EventKind.TheVariants as kinds
use Rattle.event_book.specs.declared.event.ServerEvent.TheVariants as servers
use Rattle.event_book.specs.NameLists.{name_cmp}
use Rattle.summary_model.specs.SummaryText.{sorted_from}

-- a server of this name is among these writers
abbrev pub IsWriterNamed : List (Option Name) → Name → Type 0
IsWriterNamed writers name = (server : ℕ) × (slice_get writers server ≡ Some (Some name))

-- the names of these writers and no others are listed, in byte order, each once
pub record AreListed (writers : List (Option Name)) : Type 0 where
  pub rises : IsStrictlySortedBy name_cmp (sorted_from [] writers)
  pub each : (name : Name) → IsWriterNamed writers name → Contains (sorted_from [] writers) name
  pub only : (name : Name) → Contains (sorted_from [] writers) name → IsWriterNamed writers name

-- where a server begins in this event, the event has the name of the server of that number
abbrev pub NamesServer : (ℕ → Option Name) → EventKind → Type 0
NamesServer names (kinds.Server (servers.Began server timeline)) = names server.id.number ≡ Some server.name
NamesServer names _ = Unit {0}

-- each of these writers has the name of the server of its number
pub record AreNamed (names : ℕ → Option Name) (writers : List (Option Name)) : Type 0 where
  pub each : (server : ℕ) (name : Name) → slice_get writers server ≡ Some (Some name) → names server ≡ Some name
