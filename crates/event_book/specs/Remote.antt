-- The servers of members, and beside them the remote primary that a replica cluster follows.
use Rattle.std.specs.Prelude.{ℕ, ◌==◌, if◌then◌else◌, List, Option, Some, None, slice_get}
use Rattle.pat_base.specs.declared.member_id.TheConstants.{MOST_MEMBERS}

-- what was found in the list of members' servers, and else the remote, where the number is its own: the first that no
-- member has
abbrev pub listed_or_remote : {A : Type 0} → A → ℕ → Option A → Option A
listed_or_remote remote number (Some listed) = Some listed
listed_or_remote remote number None = if number == MOST_MEMBERS then Some remote else None

-- the server of this number, or what is kept of it: that of a member
-- stands in the list, the remote beside it, if there is one
abbrev pub server_at : {A : Type 0} → List A → Option A → ℕ → Option A
server_at known None number = slice_get known number
server_at known (Some remote) number = listed_or_remote remote number (slice_get known number)

-- the remote, or what is kept of it, after this change of the server of a number
abbrev pub remote_changed : {A : Type 0} → Option A → ℕ → (A → A) → Option A
remote_changed None number change = None
remote_changed (Some remote) number change = Some (if number == MOST_MEMBERS then change remote else remote)
