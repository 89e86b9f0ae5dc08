-- The ways back of one server of a cluster: to the log of another, or as a clone of it.
use Rattle.std.specs.Prelude.{ℕ, if◌then◌else◌, Bool, false, List, Option, Some, None, length, slice_get}
use Rattle.pat_base.specs.Changes.{with_changed}
use Rattle.pat_base.specs.Lsn.{lsn_at}
use Rattle.wal_model.specs.Log.{end_of}
use Rattle.pg_cluster.specs.declared.answers.Rewound.{Rewound}
use Rattle.pg_model.specs.Facts.{ServerFacts}
use Rattle.pg_model.specs.Rewinding.{common_log, rewound, cloned, may_rewind, may_clone}

-- the rewind of a server to a source, where it may be rewound: how many entries it keeps, and where they end
abbrev pub rewind_of : ServerFacts → ServerFacts → Option Rewound
rewind_of s source = if may_rewind s source
    then Some (record { kept = length (common_log s source); at = lsn_at (end_of (common_log s source)) }) else None

-- the rewind of the first of these servers to the second, if both are there
abbrev pub rewind_between : Option ServerFacts → Option ServerFacts → Option Rewound
rewind_between None source = None
rewind_between (Some s) None = None
rewind_between (Some s) (Some source) = rewind_of s source

-- the rewind of the server at a place to the one at another place, if both are there and it may be rewound
abbrev pub rewind_at : List ServerFacts → ℕ → ℕ → Option Rewound
rewind_at servers place from = rewind_between (slice_get servers place) (slice_get servers from)

-- this is so of the two servers, if both are there
abbrev pub holds_between : (ServerFacts → ServerFacts → Bool) → Option ServerFacts → Option ServerFacts → Bool
holds_between test None source = false
holds_between test (Some s) None = false
holds_between test (Some s) (Some source) = test s source

-- the server at a place may be rewound to the one at another place
abbrev pub may_rewind_at : List ServerFacts → ℕ → ℕ → Bool
may_rewind_at servers place from = holds_between may_rewind (slice_get servers place) (slice_get servers from)

-- the server at a place may be cloned from the one at another place
abbrev pub may_clone_at : List ServerFacts → ℕ → ℕ → Bool
may_clone_at servers place from = holds_between may_clone (slice_get servers place) (slice_get servers from)

-- the servers after the one at a place is changed by a source; without a source all are as before
abbrev pub changed_from : List ServerFacts → ℕ → (ServerFacts → ServerFacts → ServerFacts)
    → Option ServerFacts → List ServerFacts
changed_from servers place change None = servers
changed_from servers place change (Some source) = with_changed servers place (λ s. change s source)

-- the servers after the one at a place was rewound to the one at another place, where it may be
abbrev pub rewound_at : List ServerFacts → ℕ → ℕ → List ServerFacts
rewound_at servers place from =
    if may_rewind_at servers place from then changed_from servers place rewound (slice_get servers from) else servers

-- the servers after the one at a place was cloned from the one at another place, where it may be
abbrev pub cloned_at : List ServerFacts → ℕ → ℕ → List ServerFacts
cloned_at servers place from =
    if may_clone_at servers place from then changed_from servers place cloned (slice_get servers from) else servers
