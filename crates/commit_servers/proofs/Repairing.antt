-- How logs are repaired, and wiped.
use Rattle.std.proofs.Common.{ℕ, ◌≡◌, ◌||◌, Bool, true, false, cond, length, slice_get, Option, Some, None, refl, ap, sym, subst}
use Rattle.std.proofs.lemmas.Bool.{and_parts, or_parts}
use Rattle.std.proofs.lemmas.Option.{cond_some, none-some, same_Some}
use Rattle.std.specs.Prelude.{option_and_then, List}
use Rattle.pat_base.specs.declared.server_state.State.{State}
use Rattle.pat_base.specs.declared.server_state.State.TheVariants as states
use Rattle.pat_base.specs.Lsn.{lsn_at}
use Rattle.pat_base.specs.ServerState.{writes, live}
use Rattle.wal_model.specs.Log.{end_of}
use Rattle.pg_cluster.specs.declared.answers.Rewound.{Rewound}
use Rattle.pg_model.specs.Facts.{ServerFacts, is_creating}
use Rattle.pg_model.specs.Rewinding.{common_log, is_rewindable, may_clone, may_rewind}
use Rattle.pg_cluster.specs.Rewinding.{holds_between, rewind_at, rewind_between}
use Rattle.event_book.specs.declared.event.EventKind.{EventKind}
use Rattle.event_book.specs.declared.event.EventKind.TheVariants as kinds
use Rattle.event_book.specs.declared.event.LogEvent.TheVariants as logs
use Rattle.event_book.specs.declared.member.Member.{Member}
use Rattle.event_book.specs.Facts.{Facts}
use Rattle.event_book.specs.Links.{CutLinks, is_cut}
use Rattle.event_book.specs.Members.{server_of}
use Rattle.agent_model.specs.declared.output.Repair.{Repair}
use Rattle.agent_model.specs.declared.output.Repair.TheVariants as repairs
use Rattle.cluster_model.specs.Commands.{kinds_of}
use Rattle.cluster_model.specs.Messages.{repair_events}
use Rattle.cluster_model.specs.Orders.{copying, repair_by, repair_over, rewinding, wipe_of}
use Rattle.cluster_model.specs.Parts.{events_of}
use Rattle.cluster_model.specs.State.{Cluster}
use Rattle.cluster_model.specs.Streaming.{link_of_members}
use Rattle.lease_model.proofs.Tools.{both}
use Rattle.commit_servers.specs.Happening.{MayFollow, MayHappen, Rewinds, Copies}
use Rattle.commit_servers.proofs.Following.{follow-if, mapped-some, unless-some}

rewindable-not-live : (state : State) → is_rewindable state ≡ true → live state ≡ false
rewindable-not-live states.Replica e = refl
rewindable-not-live states.Stopped e = refl
rewindable-not-live states.Creating e = absurd (both e)
rewindable-not-live (states.Starting as_primary at) e = absurd (both e)
rewindable-not-live states.Primary e = absurd (both e)
rewindable-not-live (states.Stopping was_primary at) e = absurd (both e)
rewindable-not-live states.Crashed e = absurd (both e)

creating-not-live : (state : State) → is_creating state ≡ true → live state ≡ false
creating-not-live states.Creating e = refl
creating-not-live states.Replica e = absurd (both e)
creating-not-live states.Stopped e = absurd (both e)
creating-not-live (states.Starting as_primary at) e = absurd (both e)
creating-not-live states.Primary e = absurd (both e)
creating-not-live (states.Stopping was_primary at) e = absurd (both e)
creating-not-live states.Crashed e = absurd (both e)

-- ---- rewinds
rewinds-between : (known : List ServerFacts) (m from : ℕ) (mine theirs : Option ServerFacts) (r : Rewound)
    → slice_get known m ≡ mine → slice_get known from ≡ theirs → rewind_between mine theirs ≡ Some r
    → Rewinds known m from r.kept
rewinds-between known m from None theirs r is source_is e = absurd (none-some r e)
rewinds-between known m from (Some s) None r is source_is e = absurd (none-some r e)
rewinds-between known m from (Some s) (Some source) r is source_is e =
    let found = cond_some (may_rewind s source)
    (record { kept = length (common_log s source); at = lsn_at (end_of (common_log s source)) }) r e in
    let parts = and_parts (is_rewindable s.state) (writes source.state) found.0 in
    record {
      takes = record {
        server = s;
        is = is;
        not_live = rewindable-not-live s.state parts.0;
        source = source;
        source_is = source_is;
        is_writer = parts.1;
      };
      rewindable = parts.0;
      kept_is = ap (λ (w : Rewound). w.kept) (sym found.1);
    }

-- ---- copies
copies-between : (known : List ServerFacts) (m from : ℕ) (mine theirs : Option ServerFacts) → slice_get known m ≡ mine
    → slice_get known from ≡ theirs → holds_between may_clone mine theirs ≡ true → Copies known m from
copies-between known m from None theirs is source_is e = absurd (both e)
copies-between known m from (Some s) None is source_is e = absurd (both e)
copies-between known m from (Some s) (Some source) is source_is e =
    let parts = and_parts (is_creating s.state) (writes source.state) e in
    record {
      takes = record {
        server = s;
        is = is;
        not_live = creating-not-live s.state parts.0;
        source = source;
        source_is = source_is;
        is_writer = parts.1;
      };
      creating = parts.0;
    }

repair-by : (facts : Facts) (member leader : Member) (repair : Repair) (kind : EventKind)
    → repair_by facts.servers member repair leader ≡ Some kind → MayHappen facts kind
repair-by facts member leader repairs.Rewind kind e =
    mapped-some (rewinding member leader) (rewind_at facts.servers member.id.number leader.id.number)
    (MayHappen facts) kind e
    (λ r is. rewinds-between facts.servers member.id.number leader.id.number
    (slice_get facts.servers member.id.number) (slice_get facts.servers leader.id.number) r refl refl is)
repair-by facts member leader repairs.Clone kind e =
    let mine = slice_get facts.servers member.id.number in
    let theirs = slice_get facts.servers leader.id.number in
    let found = cond_some (holds_between may_clone mine theirs) (copying member leader) kind e in
    subst (MayHappen facts) found.1
    (copies-between facts.servers member.id.number leader.id.number mine theirs refl refl found.0)

pub repair-may : (facts : Facts) (cuts : CutLinks) (member leader : Member) (repair : Repair) (kind : EventKind)
    → repair_over cuts facts.servers member repair leader ≡ Some kind → MayHappen facts kind
repair-may facts cuts member leader repair kind e = repair-by facts member leader repair kind
    (unless-some (is_cut cuts (link_of_members member leader)) (repair_by facts.servers member repair leader) kind e)

repair-leader : (cluster : Cluster) (member : Member) (repair : Repair) (leader : Option Member) (kind : EventKind)
    → option_and_then (repair_over cluster.facts.cuts cluster.facts.servers member repair) leader ≡ Some kind
    → MayHappen cluster.facts kind
repair-leader cluster member repair None kind e = absurd (none-some kind e)
repair-leader cluster member repair (Some leader) kind e =
    repair-may cluster.facts cluster.facts.cuts member leader repair kind e

pub repair-follow : (cluster : Cluster) (member : Member) (repair : Repair) (leader : Option Member)
    → MayFollow cluster.facts (repair_events cluster member repair leader)
repair-follow cluster member repair leader =
    follow-if cluster (option_and_then (repair_over cluster.facts.cuts cluster.facts.servers member repair) leader)
    (repair-leader cluster member repair leader)

-- ---- wipes
wipes-by : (facts : Facts) (member : Member) (s : ServerFacts) (kind : EventKind) (stays : Bool)
    → slice_get facts.servers member.id.number ≡ Some s → (is_creating s.state || live s.state) ≡ stays
    → cond stays None (Some (kinds.Log (logs.Wiped (server_of member)))) ≡ Some kind → MayHappen facts kind
wipes-by facts member s kind true is e wiped = absurd (none-some kind wiped)
wipes-by facts member s kind false is e wiped =
    subst (MayHappen facts) (same_Some (kinds.Log (logs.Wiped (server_of member))) kind wiped)
    (record { server = s; is = is; not_live = (or_parts (is_creating s.state) (live s.state) e).1 })

pub wipe-may : (facts : Facts) (member : Member) (s : ServerFacts) (kind : EventKind)
    → slice_get facts.servers member.id.number ≡ Some s → wipe_of member s ≡ Some kind → MayHappen facts kind
wipe-may facts member s kind is wiped = wipes-by facts member s kind (is_creating s.state || live s.state) is refl wiped

pub wipe-follow : (cluster : Cluster) (member : Member) (s : ServerFacts)
    → slice_get cluster.facts.servers member.id.number ≡ Some s
    → MayFollow cluster.facts (events_of cluster (kinds_of (wipe_of member s)))
wipe-follow cluster member s is =
    follow-if cluster (wipe_of member s) (λ kind wiped. wipe-may cluster.facts member s kind is wiped)
