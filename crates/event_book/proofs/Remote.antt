-- Where a server is found that may be no member's.
use Rattle.std.proofs.Common.{ℕ, ◌≡◌, ◌<◌, ◌≤◌, ◌==◌, Bool, true, false, cond, List, length, map, slice_get, Option, Some, None, option_map, refl, ◌∙◌, ap, sym, arith}
use Rattle.std.proofs.lemmas.Bool.Decides.{nat_tests}
use Rattle.std.proofs.lemmas.Option.{slice_get-map, slice_get_past, slice_get_within}
use Rattle.pat_base.specs.declared.member_id.TheConstants.{MOST_MEMBERS}
use Rattle.pat_base.specs.Changes.{changed_at}
use Rattle.wal_model.specs.declared.entry.Entry.{Entry}
use Rattle.pg_model.specs.Facts.{ServerFacts}
use Rattle.pg_model.specs.Replication.{appended, received_from}
use Rattle.pg_model.proofs.Lists.{got-set_same}
use Rattle.event_book.specs.declared.event.EventKind.TheVariants as kinds
use Rattle.event_book.specs.declared.event.LogEvent.TheVariants as logs
use Rattle.event_book.specs.declared.member.ServerOf.{ServerOf}
use Rattle.event_book.specs.Facts.{Facts, facts_after}
use Rattle.event_book.specs.Remote.{listed_or_remote, server_at}
use Rattle.event_book.specs.Servers.{received_by, remote_by_log, supplied}

no-member : (n : ℕ) → n < MOST_MEMBERS → (n == MOST_MEMBERS) ≡ false
no-member n below = grind (arith, nat_tests, below)

remote-number : (n : ℕ) → n ≡ MOST_MEMBERS → (n == MOST_MEMBERS) ≡ true
remote-number n is = grind (arith, nat_tests, is)

module _ {A : Type 0} where
  -- a server that stands in the list is that one, whether there is a remote or not
  pub server-listed : (known : List A) (remote : Option A) (n : ℕ) (s : A) → slice_get known n ≡ Some s
      → server_at known remote n ≡ Some s
  server-listed known None n s is = is
  server-listed known (Some remote) n s is = ap (listed_or_remote remote n) is

  listed-only : (remote : A) (n : ℕ) (found : Option A) (own : Bool) → own ≡ false → (n == MOST_MEMBERS) ≡ own
      → listed_or_remote remote n found ≡ found
  listed-only remote n (Some s) own other is = refl
  listed-only remote n None own other is = ap (λ (b : Bool). cond b (Some remote) None) (is ∙ other)

  -- at the number of a member it is what stands in the list
  pub server-of-member : (known : List A) (remote : Option A) (n : ℕ) → n < MOST_MEMBERS
      → server_at known remote n ≡ slice_get known n
  server-of-member known None n below = refl
  server-of-member known (Some remote) n below =
      listed-only remote n (slice_get known n) (n == MOST_MEMBERS) (no-member n below) refl

  -- the remote stands past the list
  pub server-remote : (known : List A) (remote : A) (n : ℕ) → length known ≤ MOST_MEMBERS → n ≡ MOST_MEMBERS
      → server_at known (Some remote) n ≡ Some remote
  server-remote known remote n few is =
      ap (listed_or_remote remote n) (slice_get_past known n (omega (arith, few, is)))
      ∙ ap (λ (b : Bool). cond b (Some remote) None) (remote-number n is)

module _ {A B : Type 0} (f : A → B) where
  own-part : (remote : A) (own : Bool) → option_map f (cond own (Some remote) None) ≡ cond own (Some (f remote)) None
  own-part remote true = refl
  own-part remote false = refl

  listed-part : (remote : A) (n : ℕ) (found : Option A)
      → option_map f (listed_or_remote remote n found) ≡ listed_or_remote (f remote) n (option_map f found)
  listed-part remote n (Some s) = refl
  listed-part remote n None = own-part remote (n == MOST_MEMBERS)

  -- a part of the server of a number is found among the same parts of all
  pub server-part : (known : List A) (remote : Option A) (n : ℕ)
      → option_map f (server_at known remote n) ≡ server_at (map f known) (option_map f remote) n
  server-part known None n = sym (slice_get-map f known n)
  server-part known (Some remote) n = listed-part remote n (slice_get known n)
      ∙ ap (listed_or_remote (f remote) n) (sym (slice_get-map f known n))

-- what is received from the remote stands in the log that received it
pub received-remote : (facts : Facts) (server from : ServerOf) (count : ℕ) (s remote : ServerFacts)
    → length facts.servers ≤ MOST_MEMBERS → from.id.number ≡ MOST_MEMBERS → facts.remote ≡ Some remote
    → slice_get facts.servers server.id.number ≡ Some s
    → slice_get (facts_after facts (kinds.Log (logs.Received server from count))).servers server.id.number
    ≡ Some (received_from count s remote)
received-remote facts server from count s remote few outside is found =
    let k : ℕ = server.id.number in
    let change : ServerFacts → ServerFacts = λ t. received_from count t remote in
    ap (λ (r : Option ServerFacts).
    slice_get (received_by facts.servers k count (server_at facts.servers r from.id.number)) k) is
    ∙ ap (λ (o : Option ServerFacts). slice_get (received_by facts.servers k count o) k)
    (server-remote facts.servers remote from.id.number few outside)
    ∙ ap (λ (o : Option ServerFacts). slice_get (changed_at facts.servers k change o) k) found
    ∙ got-set_same facts.servers k (change s) (slice_get_within facts.servers k s found)

supplied-if : (entry : Entry) (remote : ServerFacts) (own : Bool) → own ≡ true
    → ◌≡◌ {A = Option ServerFacts} (Some (cond own (supplied entry remote) remote)) (Some (supplied entry remote))
supplied-if entry remote own is = ap (λ (b : Bool). Some (cond b (supplied entry remote) remote)) is

-- a commit at the remote stands in its log, and changes no member's server
pub supplied-remote : (facts : Facts) (from : ServerOf) (entry : Entry) (remote : ServerFacts)
    → from.id.number ≡ MOST_MEMBERS → facts.remote ≡ Some remote
    → (facts_after facts (kinds.Log (logs.Appended from entry))).remote ≡ Some (supplied entry remote)
supplied-remote facts from entry remote outside is =
    ap (λ (r : Option ServerFacts). remote_by_log r (logs.Appended from entry)) is
    ∙ supplied-if entry remote (from.id.number == MOST_MEMBERS) (remote-number from.id.number outside)

pub supplied-apart : (facts : Facts) (from : ServerOf) (entry : Entry) → length facts.servers ≤ MOST_MEMBERS
    → from.id.number ≡ MOST_MEMBERS
    → (facts_after facts (kinds.Log (logs.Appended from entry))).servers ≡ facts.servers
supplied-apart facts from entry few outside =
    ap (λ (o : Option ServerFacts). changed_at facts.servers from.id.number (appended entry) o)
    (slice_get_past facts.servers from.id.number (omega (arith, few, outside)))
