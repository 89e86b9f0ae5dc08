-- The ways back of a server: a rewind to another server's log, and a clone of another server.
use Rattle.std.specs.Prelude.{ℕ, ◌≡◌, ◌&&◌, Bool, true, false, List, Some, take}
use Rattle.pat_base.specs.declared.server_state.State.{State}
use Rattle.pat_base.specs.declared.server_state.State.TheVariants as states
use Rattle.pat_base.specs.ServerState.{writes}
use Rattle.wal_model.specs.declared.entry.Entry.{Entry}
use Rattle.wal_model.specs.Log.{common_of}
use Rattle.pg_model.specs.declared.answers.PgFault.{PgFault}
use Rattle.pg_model.specs.declared.answers.PgFault.TheVariants as pg_faults
use Rattle.pg_model.specs.Facts.{ServerFacts, entries_of, is_creating}

-- it runs as a replica or was shut down, and so may be rewound
abbrev pub is_rewindable : State → Bool
is_rewindable states.Replica = true
is_rewindable states.Stopped = true
is_rewindable _ = false

-- the entries with which both logs begin
abbrev pub common_log : ServerFacts → ServerFacts → List Entry
common_log s source = common_of (entries_of s.log) (entries_of source.log)

-- a server keeps what its log has in common with the source's, and runs as a replica on the source's timeline, with its
-- history; no divergence is known any more, and its last run as a primary counts no more
abbrev pub rewound : ServerFacts → ServerFacts → ServerFacts
rewound s source = record s {
  state = states.Replica;
  log = Some (common_log s source);
  timeline = source.timeline;
  history = source.history;
  diverged = false;
  was_primary = false;
}

-- a server has the source's log, and runs as a replica on its timeline, with its history; no divergence is known any
-- more, and its last run as a primary counts no more
abbrev pub cloned : ServerFacts → ServerFacts → ServerFacts
cloned s source = record s {
  state = states.Replica;
  log = source.log;
  timeline = source.timeline;
  history = source.history;
  diverged = false;
  was_primary = false;
}

-- the server after a rewind of which is told how many entries it kept
abbrev pub rewound_to : ℕ → ServerFacts → ServerFacts → ServerFacts
rewound_to kept s source = record (rewound s source) { log = Some (take kept (entries_of s.log)) }

-- it may be rewound, and the source accepts writes
abbrev pub may_rewind : ServerFacts → ServerFacts → Bool
may_rewind s source = is_rewindable s.state && writes source.state

-- it waits for a copy, and the source accepts writes
abbrev pub may_clone : ServerFacts → ServerFacts → Bool
may_clone s source = is_creating s.state && writes source.state

-- where a fault names a state, that is this one
abbrev pub NamesState : State → PgFault → Type 0
NamesState state (pg_faults.InState named) = named ≡ state
NamesState state _ = Unit {0}
