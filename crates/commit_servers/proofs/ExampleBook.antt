-- A commit that a standby confirms, and that is acknowledged then.
use Rattle.std.proofs.Common.{ℕ, ◌≡◌, ◌≤◌, ◌<◌, List, [], ◌∷◌, None, refl, arith}
use Rattle.pat_base.specs.declared.name.Name.{Name}
use Rattle.pat_base.specs.declared.server_state.Required.TheVariants as requireds
use Rattle.pat_base.specs.Lsn.{lsn_at}
use Rattle.store_keys.specs.Settings.{Settings}
use Rattle.wal_model.specs.declared.entry.Entry.{Entry}
use Rattle.event_book.specs.declared.event.Event.{Event}
use Rattle.event_book.specs.declared.event.EventKind.{EventKind}
use Rattle.event_book.specs.declared.event.EventKind.TheVariants as kinds
use Rattle.event_book.specs.declared.event.LogEvent.TheVariants as logs
use Rattle.event_book.specs.declared.event.ReplicationEvent.TheVariants as replications
use Rattle.event_book.specs.declared.event.ServerEvent.TheVariants as servers
use Rattle.event_book.specs.declared.member.Member.{Member}
use Rattle.event_book.specs.Facts.{Facts, facts_after, facts_over, start_of}
use Rattle.event_book.specs.Members.{server_of}
use Rattle.event_book.specs.declared.member.ServerOf.{ServerOf}
use Rattle.event_book.specs.Logs.{logs_in}
use Rattle.event_book.specs.Required.{required_in, confirmed_in}
use Rattle.pat_base.specs.declared.member_set.MemberSet.{MemberSet}
use Rattle.commit_actions.specs.Past.{Past, VolatileState, first_past, past_after, past_over}
use Rattle.commit_servers.specs.Matching.{live_in}
use Rattle.commit_servers.specs.Happening.{MayFollow}
use Rattle.commit_servers.specs.Acting.{Fits}
use Rattle.commit_servers.proofs.First.{set-within, sound-first}
use Rattle.commit_servers.proofs.Keeping.{sound-by}
use Rattle.commit_servers.proofs.Matching.{same-by, same-first}

small : (n : ℕ) → n ≤ 1 → n < 16
small n is = omega (arith, is)

abbrev member_at : (n : ℕ) → n ≤ 1 → Name → Member
member_at n is name = record { id = record { number = n; below = small n is }; name = name }

abbrev at_start : EventKind → Event
at_start kind = record { tick = record { 0 = 0 }; kind = kind }

zero-one : 0 ≤ 1
zero-one = omega arith

one-one : 1 ≤ 1
one-one = omega arith

-- the first of two members waits for the second, and begins
abbrev beginning : Name → Name → List Event
beginning name other =
    at_start (kinds.Replication (replications.RequiredSet (server_of (member_at 0 zero-one name))
    (requireds.All (record { bits = 2 })) (other ∷ [])))
    ∷ at_start (kinds.Server (servers.Began (server_of (member_at 0 zero-one name)) 2))
    ∷ []

abbrev commit_entry : Entry
commit_entry = record { serial = 1; timeline = 2; bytes = 5 }

-- a commit of it is received, confirmed and acknowledged
abbrev committing : Name → Name → List Event
committing name other =
    let a : Member = member_at 0 zero-one name in
    let b : Member = member_at 1 one-one other in
    at_start (kinds.Log (logs.Appended (server_of a) commit_entry))
    ∷ at_start (kinds.Log (logs.Received (server_of b) (server_of a) 1))
    ∷ at_start (kinds.Replication (replications.Confirmed (server_of a) b (lsn_at 13)))
    ∷ at_start (kinds.Replication (replications.Acknowledged (server_of a) 1))
    ∷ []

example-follows : (first : Settings) (name other : Name)
    → MayFollow (facts_over (start_of first (name ∷ other ∷ []) 8) (beginning name other)) (committing name other)
unfolding lsn_at
example-follows first name other = (
  record { server = _; is = refl; is_writer = refl; next = refl; bytes = omega arith; room = omega arith },
  (
    record {
      takes = record { server = _; is = refl; not_live = refl; source = _; source_is = refl; is_writer = refl };
      with_data = refl;
      prefix = record { rest = commit_entry ∷ []; whole = refl };
    },
    (
      record {
        server = _;
        is = refl;
        is_writer = refl;
        standby = _;
        standby_is = refl;
        with_data = refl;
        prefix = record { rest = []; whole = refl };
        end_is = refl;
      },
      (
        record {
          server = _;
          is = refl;
          is_writer = refl;
          first = _;
          more = [];
          waiting = refl;
          commit_is = refl;
          met = refl;
        },
        tt,
      ),
    ),
  ),
)

first-waits : (first : Settings) (name other : Name) → let start = start_of first (name ∷ other ∷ []) 8 in
    Fits (past_over (first_past (logs_in start) (required_in start.servers) (confirmed_in start.servers))
    (beginning name other))
    (facts_over start (beginning name other))
    (λ m. record { live = live_in (facts_over start (beginning name other)).servers m; agent = None })
first-waits first name other =
    let start : Facts = start_of first (name ∷ other ∷ []) 8 in
    let past : Past = first_past (logs_in start) (required_in start.servers) (confirmed_in start.servers) in
    let names : List Name = other ∷ [] in
    let server : ServerOf = server_of (member_at 0 zero-one name) in
    let set : MemberSet = record { bits = 2 } in
    let waits : EventKind = kinds.Replication (replications.RequiredSet server (requireds.All set) names) in
    let begins : EventKind = kinds.Server (servers.Began server 2) in
    let required : Facts = facts_after start waits in
    record {
      same = same-by (past_after past waits) required begins (omega arith)
          (same-by past start waits tt (same-first first (name ∷ names) 8));
      live = record { live = λ m. refl };
      sound = sound-by required begins (record { server = _; is = refl; with_data = refl })
          (sound-by start waits (set-within set (omega arith)) (sound-first first (name ∷ names) 8 (omega arith)));
    }

pub example : (first : Settings) (name other : Name) → let start = start_of first (name ∷ other ∷ []) 8 in
    (before : List Event) × (volatile_states : ℕ → VolatileState) × (events : List Event)
    × Fits (past_over (first_past (logs_in start) (required_in start.servers) (confirmed_in start.servers))
    before)
    (facts_over start before) volatile_states
    × MayFollow (facts_over start before) events
    × ((facts_over (facts_over start before) events).acknowledged ≡ 1 ∷ [])
example first name other =
    let start : Facts = start_of first (name ∷ other ∷ []) 8 in (
      beginning name other,
      (λ m. record { live = live_in (facts_over start (beginning name other)).servers m; agent = None }),
      committing name other,
      first-waits first name other,
      example-follows first name other,
      refl,
    )
