-- Commits that are acknowledged, one event at a time.
use Rattle.std.proofs.Common.{◌≡◌, ℕ, suc, zero, ◌+◌, ◌<◌, ◌&&◌, Bool, true, false, List, [], ◌∷◌, ◌++◌, length, drop, All, Option, Some, None, ◌⊎◌, inl, inr, append_assoc, arith, refl, ◌∙◌, ap, sym, subst}
use Rattle.std.specs.Prelude.{slice_get, slice_set, option_and_then, if◌then◌else◌}
use Rattle.std.proofs.lemmas.Bool.{cases_eq}
use Rattle.std.proofs.lemmas.List.Elements.{All-nil, All-cons}
use Rattle.std.proofs.lemmas.Option.{slice_get_within}
use Rattle.pat_base.specs.declared.server_state.Required.{Required}
use Rattle.pat_base.specs.declared.lsn.Lsn.{Lsn}
use Rattle.pat_base.specs.declared.ticks.Ticks.{Ticks}
use Rattle.pat_base.specs.Changes.{changed_at, with_changed}
use Rattle.pat_base.specs.ServerState.{writes}
use Rattle.pg_model.specs.declared.waiting.Waiting.{Waiting}
use Rattle.pg_model.specs.Facts.{ServerFacts}
use Rattle.pg_model.specs.Replication.{acknowledged, first_is_met, first_serial, is_met, may_acknowledge, next_acknowledged}
use Rattle.pg_model.proofs.Lists.{got-set_other, got-set_same}
use Rattle.event_book.specs.declared.event.Event.{Event}
use Rattle.event_book.specs.declared.event.EventKind.{EventKind}
use Rattle.event_book.specs.declared.event.EventKind.TheVariants as kinds
use Rattle.event_book.specs.declared.event.ReplicationEvent.TheVariants as replications
use Rattle.event_book.specs.declared.member.Member.{Member}
use Rattle.event_book.specs.declared.member.ServerOf.{ServerOf}
use Rattle.event_book.specs.Members.{server_of}
use Rattle.event_book.specs.Writers.{writes_in, writes_now}
use Rattle.event_list.specs.Listed.{Listed, ◌+++◌}
use Rattle.cluster_model.specs.Acknowledging.{acknowledge_kinds, acknowledgement, acknowledgements, confirmed_front, ready_commits, AreAcknowledged, IsDone}
use Rattle.cluster_model.specs.Cluster.{cluster_after, cluster_over}
use Rattle.cluster_model.specs.Losing.{loss_of, losses_of}
use Rattle.cluster_model.specs.State.{Cluster}
use Rattle.cluster_model.specs.Next.{acknowledge_events}
use Rattle.cluster_model.specs.Parts.{events_of, each, events_then, event_of}
use Rattle.world_model.specs.Room.{HasRoom}
use Rattle.world_model.specs.Emits.{Emits}
use Rattle.world_model.proofs.Deciding.{stamped-is}
use Rattle.world_stage.proofs.Losses.{at_once, losses-quiet, quiet-took}
use Rattle.world_model.proofs.Rest.{Left, Left-end, Left-more}
use Rattle.world_model.proofs.Rooms.{HasRoom-fewer}
use Rattle.world_model.proofs.ServerRooms.{with-all, HasTimeline}
use Rattle.world_model.proofs.Serving.{serving, serving-cluster_after}
use Rattle.world_model.proofs.Taking.{Emits-nothing, Emits-then, cluster_over-append}

-- the server after its oldest waiting commit was acknowledged
abbrev pub one_told : ServerFacts → ServerFacts
one_told s = record s { waiting = drop 1 s.waiting }

-- how many commits wait there
abbrev pub waiting_at : Option ServerFacts → ℕ
waiting_at None = 0
waiting_at (Some s) = length s.waiting

clash : false ≡ true → ⊥
clash is = cc

no-element : (x : ℕ) (xs : List ℕ) → [] ≡ x ∷ xs → ⊥
no-element x xs is = cc

no-value : (x : ℕ) → None ≡ Some x → ⊥
no-value x is = cc

when-next : (may : Bool) (waiting : List Waiting) (commit : ℕ)
    → (if may then first_serial waiting else None) ≡ Some commit → (may ≡ true) × (first_serial waiting ≡ Some commit)
when-next true waiting commit is = (refl, is)
when-next false waiting commit is = absurd (no-value commit is)

both : (a b : Bool) → (a && b) ≡ true → (a ≡ true) × (b ≡ true)
both true b is = (refl, is)
both false b is = absurd (clash is)

front-next : (required : Required) (confirmed : List (Option Lsn)) (waiting : List Waiting) (commit : ℕ)
    → first_is_met required confirmed waiting ≡ true → first_serial waiting ≡ Some commit
    → (confirmed_front required confirmed waiting ≡ commit ∷ confirmed_front required confirmed (drop 1 waiting))
    × (length (drop 1 waiting) < length waiting)
front-next required confirmed [] commit met is = absurd (clash met)
front-next required confirmed (first ∷ more) commit met is = (
  ap (λ (b : Bool). if b then first.serial ∷ confirmed_front required confirmed more else []) met
      ∙ ap (λ (n : ℕ). n ∷ confirmed_front required confirmed more) (inner first.serial commit is),
  omega arith,
)
  where
    inner : (a b : ℕ) → Some a ≡ Some b → a ≡ b
    inner a b e = cc

-- the next commit is the first of those that may be acknowledged, and the others stay
pub ready-next : (s : ServerFacts) (commit : ℕ) → next_acknowledged s ≡ Some commit
    → (ready_commits s ≡ commit ∷ ready_commits (one_told s)) × (acknowledged s ≡ one_told s)
    × (length (one_told s).waiting < length s.waiting)
ready-next s commit is =
    let next = when-next (may_acknowledge s) s.waiting commit is in
    let met = both (writes s.state) (first_is_met s.required s.confirmed s.waiting) next.0 in
    let front = front-next s.required s.confirmed s.waiting commit met.1 next.1 in (
      ap (λ (b : Bool). if b then confirmed_front s.required s.confirmed s.waiting else []) met.0 ∙ front.0
          ∙ ap (λ (b : Bool). commit ∷ (if b then confirmed_front s.required s.confirmed (drop 1 s.waiting) else []))
          (sym met.0),
      ap (λ (b : Bool). if b then one_told s else s) next.0,
      front.1,
    )

none-met : (met : Bool) (serial : ℕ) (rest : List ℕ) → (if met then Some serial else None) ≡ None
    → (met ≡ false) × ((if met then serial ∷ rest else []) ≡ [])
none-met false serial rest is = (refl, refl)
none-met true serial rest is = absurd (no-value serial (sym is))

none-of : (can : Bool) (required : Required) (confirmed : List (Option Lsn)) (waiting : List Waiting)
    → (if can && first_is_met required confirmed waiting then first_serial waiting else None) ≡ None
    → ((can && first_is_met required confirmed waiting) ≡ false)
    × ((if can then confirmed_front required confirmed waiting else []) ≡ [])
none-of false required confirmed waiting is = (refl, refl)
none-of true required confirmed [] is = (refl, refl)
none-of true required confirmed (first ∷ more) is =
    none-met (is_met required first.end confirmed) first.serial (confirmed_front required confirmed more) is

-- where there is no next commit none may be acknowledged
pub ready-none : (s : ServerFacts) → next_acknowledged s ≡ None → (may_acknowledge s ≡ false) × (ready_commits s ≡ [])
ready-none s is = none-of (writes s.state) s.required s.confirmed s.waiting is

none-told : (known : List ServerFacts) (members : List Member) (member : Member) (found : Option ServerFacts)
    → writes_now found ≡ false → acknowledge_kinds known members member found ≡ []
none-told known members member None none = refl
none-told known members member (Some s) none =
    ap (λ (b : Bool).
    acknowledgements known members member (if b then confirmed_front s.required s.confirmed s.waiting else []))
    none

-- a server that accepts no writes acknowledges nothing
pub nothing-acknowledged : (cluster : Cluster) (member : Member) (had : Listed) (cost : ℕ)
    → writes_in cluster.facts.servers member.id.number ≡ false
    → Emits cluster cluster had had (acknowledge_events cluster member) cost
nothing-acknowledged cluster member had cost none =
    subst (λ es. Emits cluster cluster had had es cost)
    (sym (ap (events_of cluster)
    (none-told cluster.facts.servers cluster.facts.members member
    (slice_get cluster.facts.servers member.id.number) none)))
    (Emits-nothing cluster had cost)

got-with : (known : List ServerFacts) (place : ℕ) (s : ServerFacts) (change : ServerFacts → ServerFacts)
    → slice_get known place ≡ Some s → slice_get (with_changed known place change) place ≡ Some (change s)
got-with known place s change is =
    ap (λ (o : Option ServerFacts). slice_get (changed_at known place change o) place) is
    ∙ got-set_same known place (change s) (slice_get_within known place s is)

found-next : (found : Option ServerFacts) (commit : ℕ) → option_and_then next_acknowledged found ≡ Some commit
    → (s : ServerFacts) × (found ≡ Some s) × (next_acknowledged s ≡ Some commit)
found-next None commit is = absurd (no-value commit is)
found-next (Some s) commit is = (s, refl, is)

set-same : (known : List ServerFacts) (place : ℕ) (s : ServerFacts) → slice_get known place ≡ Some s
    → slice_set known place s ≡ known
set-same [] place s is = refl
set-same (t ∷ known) zero s is = ap (λ (x : ServerFacts). x ∷ known) (sym (inner t s is))
  where
    inner : (a b : ServerFacts) → Some a ≡ Some b → a ≡ b
    inner a b e = cc
set-same (t ∷ known) (suc place) s is = ap (λ (xs : List ServerFacts). t ∷ xs) (set-same known place s is)

-- a cluster with other servers and other acknowledged commits
abbrev pub telling : Cluster → List ServerFacts → List ℕ → Cluster
telling cluster servers told =
    serving cluster servers cluster.facts.remote cluster.facts.frozen cluster.facts.commits told

-- an acknowledgement counts no counter up
pub HasRoom-acknowledged : (cluster : Cluster) (member : Member) (commit events : ℕ) → HasRoom cluster events
    → HasRoom (cluster_after cluster (acknowledgement member commit)) events
HasRoom-acknowledged cluster member commit events room = record {
  clock = room.clock;
  revision = room.revision;
  sent = room.sent;
  runs = room.runs;
  numbers = room.numbers;
  agents = room.agents;
  timelines = with-all (HasTimeline events)
      (HasTimeline events) cluster.facts.servers member.id.number one_told room.timelines (λ s has. has) (λ s has. has);
  remote = room.remote;
  commits = room.commits;
}

-- what the loop does once
pub acknowledged-one : (cluster : Cluster) (member : Member) (commit : ℕ) (s : ServerFacts)
    (server : ServerOf) (known : List ServerFacts) (told : List ℕ) (tick : Ticks) (has longer : Listed)
    → slice_get cluster.facts.servers member.id.number ≡ Some s → next_acknowledged s ≡ Some commit
    → known ≡ with_changed cluster.facts.servers member.id.number acknowledged
    → told ≡ cluster.facts.acknowledged ++ commit ∷ [] → server ≡ server_of member → tick.0 ≡ cluster.facts.clock
    → longer ≡ has +++ record { tick = tick; kind = kinds.Replication (replications.Acknowledged server commit) } ∷ []
    → Emits cluster (telling cluster known told) has longer (event_of cluster (acknowledgement member commit)) 0
acknowledged-one cluster member commit s server known told tick has longer there next known_is told_is server_is at
    longer_is =
    let place = member.id.number in
    let kind : EventKind = acknowledgement member commit in
    let servers : known ≡ with_changed cluster.facts.servers place one_told = known_is
    ∙ ap (changed_at cluster.facts.servers place acknowledged) there
    ∙ ap (slice_set cluster.facts.servers place) (ready-next s commit next).1
    ∙ sym (ap (changed_at cluster.facts.servers place one_told) there) in
    let state : telling cluster known told ≡ cluster_after cluster kind =
    ap (λ (xs : List ServerFacts). telling cluster xs told) servers
    ∙ ap (telling cluster (with_changed cluster.facts.servers place one_told)) told_is
    ∙ sym (serving-cluster_after cluster kind tt) in
    record {
      state = state;
      event = longer_is ∙ ap (λ (x : ServerOf). has +++ record {
        tick = tick;
        kind = kinds.Replication (replications.Acknowledged x commit);
      } ∷ []) server_is ∙ ap (λ es. has +++ es) (stamped-is cluster tick kind at);
      room = λ more room. subst (λ (c : Cluster). HasRoom c more) (sym state)
          (HasRoom-acknowledged cluster member commit more (HasRoom-fewer cluster (0 + more) more (omega arith) room));
    }

-- who waits for a commit no longer lacks no other one
pub losses-same : (known : List ServerFacts) (place : ℕ) (s : ServerFacts) (commit : ℕ) (members : List Member)
    → slice_get known place ≡ Some s
    → losses_of commit (with_changed known place one_told) members ≡ losses_of commit known members
losses-same known place s commit [] there = refl
losses-same known place s commit (member ∷ members) there =
    ap (λ (ks : List EventKind). ks ++ losses_of commit (with_changed known place one_told) members)
    (at (cases_eq member.id.number place))
    ∙ ap (λ (ks : List EventKind). loss_of commit member (slice_get known member.id.number) ++ ks)
    (losses-same known place s commit members there)
  where
    at : (member.id.number ≡ place) ⊎ (member.id.number ≡ place → ⊥)
        → loss_of commit member (slice_get (with_changed known place one_told) member.id.number)
        ≡ loss_of commit member (slice_get known member.id.number)
    at (inl e) =
        ap (λ (n : ℕ). loss_of commit member (slice_get (with_changed known place one_told) n)) e
        ∙ ap (loss_of commit member) (got-with known place s one_told there)
        ∙ ap (loss_of commit member) (sym there) ∙ ap (λ (n : ℕ). loss_of commit member (slice_get known n)) (sym e)
    at (inr other) =
        ap (loss_of commit member)
        (ap (λ (o : Option ServerFacts). slice_get (changed_at known place one_told o) member.id.number) there
        ∙ got-set_other known place member.id.number (one_told s) other)

-- so the other acknowledgements stay as they are
pub acknowledgements-same : (known : List ServerFacts) (place : ℕ) (s : ServerFacts) (members : List Member)
    (member : Member) (commits : List ℕ) → slice_get known place ≡ Some s
    → acknowledgements (with_changed known place one_told) members member commits
    ≡ acknowledgements known members member commits
acknowledgements-same known place s members member [] there = refl
acknowledgements-same known place s members member (commit ∷ commits) there =
    ap (λ (ks : List EventKind). acknowledgement member commit
    ∷ (ks ++ acknowledgements (with_changed known place one_told) members member commits))
    (losses-same known place s commit members there)
    ∙ ap (λ (ks : List EventKind). acknowledgement member commit ∷ (losses_of commit known members ++ ks))
    (acknowledgements-same known place s members member commits there)

-- a commit is acknowledged, and it is told who lacks it
abbrev pub told_events : Cluster → Member → ℕ → List Event
told_events cluster member commit =
    events_then cluster (event_of cluster (acknowledgement member commit))
    (λ later. at_once later (losses_of commit cluster.facts.servers cluster.facts.members))

-- a list of them: the first is told, and then the others
told-first : (cluster : Cluster) (member : Member) (commit : ℕ) (more : List EventKind)
    → events_of cluster
    (acknowledgement member commit ∷ (losses_of commit cluster.facts.servers cluster.facts.members ++ more))
    ≡ told_events cluster member commit ++ events_of (cluster_after cluster (acknowledgement member commit)) more
told-first cluster member commit more =
    let kind : EventKind = acknowledgement member commit in
    let next : Cluster = cluster_after cluster kind in
    let losses = losses_of commit cluster.facts.servers cluster.facts.members in
    ap (λ es. event_of cluster kind ++ es)
    ((losses-quiet next commit cluster.facts.servers cluster.facts.members).behind more)
    ∙ sym (append_assoc (event_of cluster kind) (at_once next losses) (events_of next more))

-- what is told changes no more than the acknowledgement does
told-over : (cluster : Cluster) (member : Member) (commit : ℕ)
    → cluster_over cluster (told_events cluster member commit) ≡ cluster_after cluster (acknowledgement member commit)
told-over cluster member commit =
    let kind : EventKind = acknowledgement member commit in
    let next : Cluster = cluster_after cluster kind in
    cluster_over-append cluster (event_of cluster kind)
    (at_once next (losses_of commit cluster.facts.servers cluster.facts.members))
    ∙ (losses-quiet next commit cluster.facts.servers cluster.facts.members).still

-- the first of what is left is acknowledged
pub acknowledged-rest : (cluster : Cluster) (member : Member) (commit : ℕ) (s : ServerFacts)
    → slice_get cluster.facts.servers member.id.number ≡ Some s → next_acknowledged s ≡ Some commit
    → acknowledge_events cluster member
    ≡ events_then cluster (told_events cluster member commit) (λ later. acknowledge_events later member)
acknowledged-rest cluster member commit s there next =
    let place = member.id.number in
    let known = cluster.facts.servers in
    let members = cluster.facts.members in
    let later : Cluster = cluster_after cluster (acknowledgement member commit) in
    let rest = acknowledgements known members member (ready_commits (one_told s)) in
    let same : acknowledge_events later member ≡ events_of later rest =
    ap (λ (o : Option ServerFacts). events_of later (acknowledge_kinds later.facts.servers members member o))
    (got-with known place s one_told there)
    ∙ ap (events_of later) (acknowledgements-same known place s members member (ready_commits (one_told s)) there) in
    ap (λ (o : Option ServerFacts). events_of cluster (acknowledge_kinds known members member o)) there
    ∙ ap (λ (commits : List ℕ). events_of cluster (acknowledgements known members member commits))
    (ready-next s commit next).0
    ∙ told-first cluster member commit rest
    ∙ ap (λ es. told_events cluster member commit ++ es) (sym same)
    ∙ ap (λ (c : Cluster). told_events cluster member commit ++ acknowledge_events c member)
    (sym (told-over cluster member commit))

pub acknowledge-more : (start cluster view : Cluster) (member : Member) (commit : ℕ) (server : ServerOf)
    (known : List ServerFacts) (told : List ℕ) (tick : Ticks) (had has longer longest : Listed) (whole : List Event)
    → Left start cluster had has whole (acknowledge_events cluster member) 0 0
    → option_and_then next_acknowledged (slice_get cluster.facts.servers member.id.number) ≡ Some commit
    → known ≡ with_changed cluster.facts.servers member.id.number acknowledged
    → told ≡ cluster.facts.acknowledged ++ commit ∷ [] → server ≡ server_of member → tick.0 ≡ cluster.facts.clock
    → longer ≡ has +++ record { tick = tick; kind = kinds.Replication (replications.Acknowledged server commit) } ∷ []
    → telling cluster known told ≡ view
    → longest ≡ longer +++ at_once view (losses_of commit view.facts.servers view.facts.members)
    → Left start (telling cluster known told) had longest whole
    (acknowledge_events (telling cluster known told) member) 0 0
acknowledge-more start cluster view member commit server known told tick had has longer longest whole left is known_is
    told_is server_is at longer_is view_is longest_is =
    let found = found-next (slice_get cluster.facts.servers member.id.number) commit is in
    let place = member.id.number in
    let after = telling cluster known told in
    let losses = losses_of commit cluster.facts.servers cluster.facts.members in
    let servers : known ≡ with_changed cluster.facts.servers place one_told = known_is
    ∙ ap (changed_at cluster.facts.servers place acknowledged) found.1
    ∙ ap (slice_set cluster.facts.servers place) (ready-next found.0 commit found.2).1
    ∙ sym (ap (changed_at cluster.facts.servers place one_told) found.1) in
    let lost : losses_of commit known cluster.facts.members ≡ losses =
    ap (λ (xs : List ServerFacts). losses_of commit xs cluster.facts.members) servers
    ∙ losses-same cluster.facts.servers place found.0 commit cluster.facts.members found.1 in
    let written : longest ≡ longer +++ at_once after losses = longest_is
    ∙ ap (λ (c : Cluster). longer +++ at_once c (losses_of commit c.facts.servers c.facts.members)) (sym view_is)
    ∙ ap (λ (ks : List EventKind). longer +++ at_once after ks) lost in
    let one = acknowledged-one cluster member commit found.0 server known told tick has longer found.1 found.2
    known_is told_is server_is at longer_is in
    let two = quiet-took after losses longer longest
    (losses-quiet after commit cluster.facts.servers cluster.facts.members) written in
    Left-more start cluster after had has longest whole (told_events cluster member commit)
    (λ later. acknowledge_events later member) _ 0 0 0 0 left
    (acknowledged-rest cluster member commit found.0 found.1 found.2)
    (Emits-then cluster after after has longer longest (event_of cluster (acknowledgement member commit))
    (λ later. at_once later losses) 0 0 0 one two (omega arith))
    (omega arith)

-- fewer commits wait
pub acknowledge-fewer : (known after : List ServerFacts) (place commit : ℕ)
    → option_and_then next_acknowledged (slice_get known place) ≡ Some commit
    → after ≡ with_changed known place acknowledged
    → waiting_at (slice_get after place) < waiting_at (slice_get known place)
acknowledge-fewer known after place commit is after_is =
    let found = found-next (slice_get known place) commit is in
    let ready = ready-next found.0 commit found.2 in
    let later : slice_get after place ≡ Some (one_told found.0) =
    ap (λ (xs : List ServerFacts). slice_get xs place) after_is
    ∙ got-with known place found.0 acknowledged found.1 ∙ ap Some ready.1 in
    subst (λ (o : Option ServerFacts). waiting_at o < waiting_at (slice_get known place)) (sym later)
    (subst (λ (o : Option ServerFacts). length (one_told found.0).waiting < waiting_at o) (sym found.1) ready.2)

none-left : (known : List ServerFacts) (place : ℕ) (found : Option ServerFacts) → slice_get known place ≡ found
    → option_and_then next_acknowledged found ≡ None → with_changed known place acknowledged ≡ known
none-left known place None there is = ap (changed_at known place acknowledged) there
none-left known place (Some s) there is =
    ap (changed_at known place acknowledged) there
    ∙ ap (λ (b : Bool). slice_set known place (if b then one_told s else s)) (ready-none s is).0
    ∙ set-same known place s there

no-kinds : (known : List ServerFacts) (members : List Member) (member : Member) (found : Option ServerFacts)
    → option_and_then next_acknowledged found ≡ None → acknowledge_kinds known members member found ≡ []
no-kinds known members member None is = refl
no-kinds known members member (Some s) is = ap (acknowledgements known members member) (ready-none s is).1

-- none is left
pub acknowledge-end : (start cluster : Cluster) (member : Member) (known : List ServerFacts)
    (had has : Listed) (whole : List Event)
    → Left start cluster had has whole (acknowledge_events cluster member) 0 0
    → option_and_then next_acknowledged (slice_get cluster.facts.servers member.id.number) ≡ None
    → known ≡ with_changed cluster.facts.servers member.id.number acknowledged
    → Emits start (telling cluster known cluster.facts.acknowledged) had has whole 0
acknowledge-end start cluster member known had has whole left none known_is =
    let place = member.id.number in
    let same : known ≡ cluster.facts.servers = known_is
    ∙ none-left cluster.facts.servers place (slice_get cluster.facts.servers place) refl none in
    subst (λ (xs : List ServerFacts). Emits start (telling cluster xs cluster.facts.acknowledged) had has whole 0)
    (sym same)
    (Left-end start cluster had has whole _ 0 0 left
    (ap (events_of cluster)
    (no-kinds cluster.facts.servers cluster.facts.members member (slice_get cluster.facts.servers place) none)))

cons-met : (met : Bool) (serial commit : ℕ) (rest more : List ℕ)
    → (if met then serial ∷ rest else []) ≡ commit ∷ more → (met ≡ true) × (rest ≡ more)
cons-met true serial commit rest more is = (refl, inner rest more serial commit is)
  where
    inner : (xs ys : List ℕ) (a b : ℕ) → a ∷ xs ≡ b ∷ ys → xs ≡ ys
    inner xs ys a b e = cc
cons-met false serial commit rest more is = absurd (no-element commit more is)

cons-of : (can : Bool) (required : Required) (confirmed : List (Option Lsn)) (waiting : List Waiting) (commit : ℕ)
    (more : List ℕ) → (if can then confirmed_front required confirmed waiting else []) ≡ commit ∷ more
    → ((can && first_is_met required confirmed waiting) ≡ true)
    × ((if can then confirmed_front required confirmed (drop 1 waiting) else []) ≡ more)
cons-of false required confirmed waiting commit more is = absurd (no-element commit more is)
cons-of true required confirmed [] commit more is = absurd (no-element commit more is)
cons-of true required confirmed (first ∷ rest) commit more is =
    cons-met (is_met required first.end confirmed) first.serial commit (confirmed_front required confirmed rest) more is

nothing-met : (met : Bool) (serial : ℕ) (rest : List ℕ) → (if met then serial ∷ rest else []) ≡ [] → met ≡ false
nothing-met true serial rest is = absurd (no-element serial rest (sym is))
nothing-met false serial rest is = refl

nothing-of : (can : Bool) (required : Required) (confirmed : List (Option Lsn)) (waiting : List Waiting)
    → (if can then confirmed_front required confirmed waiting else []) ≡ []
    → (can && first_is_met required confirmed waiting) ≡ false
nothing-of false required confirmed waiting is = refl
nothing-of true required confirmed [] is = refl
nothing-of true required confirmed (first ∷ rest) is =
    nothing-met (is_met required first.end confirmed) first.serial (confirmed_front required confirmed rest) is

-- no commit is left that may be acknowledged at the server of this number
abbrev DoneAt : Cluster → ℕ → Type 0
DoneAt cluster place = IsDone (slice_get cluster.facts.servers place)

-- a part of a step that leaves the members, and leaves done what is done
record Keeps (before after : Cluster) : Type 0 where
  members : after.facts.members ≡ before.facts.members
  done : (place : ℕ) → DoneAt before place → DoneAt after place

Keeps-then : (first second third : Cluster) → Keeps first second → Keeps second third → Keeps first third
Keeps-then first second third one two =
    record { members = two.members ∙ one.members; done = λ place done. two.done place (one.done place done) }

-- an acknowledgement concerns one server, which isn't done
keeps-one : (cluster : Cluster) (member : Member) (commit : ℕ) (s : ServerFacts)
    → slice_get cluster.facts.servers member.id.number ≡ Some s → may_acknowledge s ≡ true
    → Keeps cluster (cluster_after cluster (acknowledgement member commit))
keeps-one cluster member commit s there may =
    record { members = refl; done = λ place done. at place done (cases_eq place member.id.number) }
  where
    at : (place : ℕ) → DoneAt cluster place → (place ≡ member.id.number) ⊎ (place ≡ member.id.number → ⊥)
        → DoneAt (cluster_after cluster (acknowledgement member commit)) place
    at place done (inl e) =
        let here : may_acknowledge s ≡ false = subst IsDone there (subst (λ (n : ℕ). DoneAt cluster n) e done) in
        absurd (clash (sym here ∙ may))
    at place done (inr other) =
        subst IsDone
        (sym
        (ap (λ (o : Option ServerFacts). slice_get (changed_at cluster.facts.servers member.id.number one_told o) place)
        there ∙ got-set_other cluster.facts.servers member.id.number place (one_told s) other))
        done

-- once all that may be acknowledged at a server are, it is done
done-there : (cluster : Cluster) (member : Member) (s : ServerFacts) (commits : List ℕ)
    → slice_get cluster.facts.servers member.id.number ≡ Some s → ready_commits s ≡ commits
    → let after = cluster_over cluster
    (events_of cluster (acknowledgements cluster.facts.servers cluster.facts.members member commits)) in
    Keeps cluster after × DoneAt after member.id.number
done-there cluster member s [] there none = (
  record { members = refl; done = λ place done. done },
  subst IsDone (sym there) (nothing-of (writes s.state) s.required s.confirmed s.waiting none),
)
done-there cluster member s (commit ∷ more) there ready =
    let next = cons-of (writes s.state) s.required s.confirmed s.waiting commit more ready in
    let later : Cluster = cluster_after cluster (acknowledgement member commit) in
    let rest = done-there later member (one_told s) more
    (got-with cluster.facts.servers member.id.number s one_told there) next.1 in
    let others = acknowledgements cluster.facts.servers cluster.facts.members member more in
    let same : cluster_over cluster
    (events_of cluster
    (acknowledgement member commit ∷ (losses_of commit cluster.facts.servers cluster.facts.members ++ others)))
    ≡ cluster_over later (events_of later (acknowledgements later.facts.servers later.facts.members member more)) =
    ap (cluster_over cluster) (told-first cluster member commit others)
    ∙ cluster_over-append cluster (told_events cluster member commit) (events_of later others)
    ∙ ap (λ (c : Cluster). cluster_over c (events_of later others)) (told-over cluster member commit)
    ∙ ap (λ (ks : List EventKind). cluster_over later (events_of later ks))
    (sym (acknowledgements-same cluster.facts.servers member.id.number s cluster.facts.members member more there)) in
    let P : Cluster → Type 0 = λ after. Keeps cluster after × DoneAt after member.id.number in
    subst P (sym same) (Keeps-then cluster later _ (keeps-one cluster member commit s there next.0) rest.0, rest.1)

done-for : (cluster : Cluster) (member : Member) (found : Option ServerFacts)
    → slice_get cluster.facts.servers member.id.number ≡ found
    → let after = cluster_over cluster
    (events_of cluster (acknowledge_kinds cluster.facts.servers cluster.facts.members member found)) in
    Keeps cluster after × DoneAt after member.id.number
done-for cluster member None there = (record { members = refl; done = λ place done. done }, subst IsDone (sym there) tt)
done-for cluster member (Some s) there = done-there cluster member s (ready_commits s) there refl

-- once those of these members are acknowledged, they are done
done-each : (cluster : Cluster) (members : List Member) → let after =
    cluster_over cluster (each acknowledge_events cluster members) in
    Keeps cluster after × All (λ member. DoneAt after member.id.number) members
done-each cluster [] = (
  record { members = refl; done = λ place done. done },
  All-nil (λ (member : Member). DoneAt cluster member.id.number),
)
done-each cluster (member ∷ more) =
    let next = cluster_over cluster (acknowledge_events cluster member) in
    let end : Cluster = cluster_over next (each acknowledge_events next more) in
    let one = done-for cluster member (slice_get cluster.facts.servers member.id.number) refl in
    let rest = done-each next more in
    let P : Cluster → Type 0 = λ after. Keeps cluster after × All (λ m. DoneAt after m.id.number) (member ∷ more) in
    subst P
    (sym (cluster_over-append cluster (acknowledge_events cluster member) (each acknowledge_events next more))) (
      Keeps-then cluster next end one.0 rest.0,
      All-cons (λ (m : Member). DoneAt end m.id.number) member more (rest.0.done member.id.number one.1) rest.1,
    )

-- after that no commit is left that may be acknowledged
pub acknowledged-all : (before after : Cluster) (had has : Listed) (cost : ℕ)
    → Emits before after had has (each acknowledge_events before before.facts.members) cost
    → AreAcknowledged after.facts.members after.facts.servers
acknowledged-all before after had has cost took =
    let all = done-each before before.facts.members in
    let end : Cluster = cluster_over before (each acknowledge_events before before.facts.members) in
    subst (λ (c : Cluster). AreAcknowledged c.facts.members c.facts.servers) (sym took.state)
    (subst (λ (ms : List Member). AreAcknowledged ms end.facts.servers) (sym all.0.members) all.1)
