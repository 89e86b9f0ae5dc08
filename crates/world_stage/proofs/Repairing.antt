-- The log of a server is repaired by that of another: one event, after which the servers are as it tells.
use Rattle.std.proofs.Common.{◌≡◌, ℕ, ◌&&◌, Bool, true, false, cond, List, [], ◌∷◌, Option, Some, None, option_map, refl, ◌∙◌, ap, sym, subst}
use Rattle.std.specs.Prelude.{slice_get, if◌then◌else◌}
use Rattle.pat_base.specs.declared.ticks.Ticks.{Ticks}
use Rattle.pat_base.specs.Changes.{changed_at, with_changed}
use Rattle.pat_base.specs.ServerState.{writes}
use Rattle.pg_cluster.specs.declared.answers.Rewound.{Rewound}
use Rattle.pg_model.specs.Facts.{ServerFacts, is_creating}
use Rattle.pg_cluster.specs.Rewinding.{changed_from, cloned_at, holds_between, may_clone_at, may_rewind_at, rewind_at, rewind_between, rewound_at}
use Rattle.pg_model.specs.Rewinding.{cloned, is_rewindable, may_clone, may_rewind, rewound, rewound_to}
use Rattle.pg_cluster.proofs.Rewinds.{rewound_at-told}
use Rattle.event_book.specs.declared.event.EventKind.TheVariants as kinds
use Rattle.event_book.specs.declared.event.LogEvent.TheVariants as logs
use Rattle.event_book.specs.declared.member.Member.{Member}
use Rattle.event_book.specs.declared.member.ServerOf.{ServerOf}
use Rattle.event_book.specs.Members.{server_of}
use Rattle.event_book.specs.Remote.{server_at}
use Rattle.event_book.specs.Servers.{becomes_copy, copied_by, cut_to, goes_back}
use Rattle.event_book.proofs.Remote.{server-listed}
use Rattle.event_list.specs.Listed.{Listed, ◌+++◌}
use Rattle.cluster_model.specs.Commands.{kinds_of}
use Rattle.cluster_model.specs.Orders.{copying, rewinding}
use Rattle.cluster_model.specs.Parts.{events_of}
use Rattle.cluster_model.specs.State.{Cluster}
use Rattle.world_model.specs.Emits.{Emits}
use Rattle.world_model.proofs.Serving.{serving-took}
use Rattle.world_stage.proofs.Streams.{with_servers}
use Rattle.world_model.proofs.Taking.{Emits-nothing}

-- two changes that make the same of the server at a place
same-change : (known : List ServerFacts) (place : ℕ) (f g : ServerFacts → ServerFacts) (s : ServerFacts)
    → slice_get known place ≡ Some s → f s ≡ g s → with_changed known place f ≡ with_changed known place g
same-change known place f g s is same = ap (changed_at known place f) is ∙ set ∙ sym (ap (changed_at known place g) is)
  where
    set : changed_at known place f (Some s) ≡ changed_at known place g (Some s)
    set = rw same refl

-- ---- a rewind
no-rewind : (rewind : Rewound) → None ≡ Some rewind → ⊥
no-rewind rewind e = cc

rewindable : (able accepts : Bool) (x rewind : Rewound) → cond (able && accepts) (Some x) None ≡ Some rewind
    → able ≡ true
rewindable true accepts x rewind e = refl
rewindable false accepts x rewind e = absurd (no-rewind rewind e)

back : (kept : ℕ) (s source : ServerFacts) → is_rewindable s.state ≡ true
    → rewound_to kept s source ≡ goes_back kept (Some source) s
back kept s source able = sym (ap (λ (b : Bool). cond b (rewound_to kept s source) (cut_to kept s)) able)

rewound-by : (known : List ServerFacts) (remote : Option ServerFacts) (place from : ℕ) (rewind : Rewound)
    (own source : Option ServerFacts) → slice_get known place ≡ own → slice_get known from ≡ source
    → rewind_between own source ≡ Some rewind → rewind_at known place from ≡ Some rewind
    → rewound_at known place from ≡ with_changed known place (goes_back rewind.kept (server_at known remote from))
rewound-by known remote place from rewind None source p q e is = absurd (no-rewind rewind e)
rewound-by known remote place from rewind (Some s) None p q e is = absurd (no-rewind rewind e)
rewound-by known remote place from rewind (Some s) (Some source) p q e is =
    rewound_at-told known place from rewind source is q
    ∙ same-change known place (λ t. rewound_to rewind.kept t source) (goes_back rewind.kept (Some source)) s p
    (back rewind.kept s source (rewindable (is_rewindable s.state) (writes source.state) _ rewind e))
    ∙ ap (λ (o : Option ServerFacts). with_changed known place (goes_back rewind.kept o))
    (sym (server-listed known remote from source q))

-- the servers after a rewind are as its event tells
rewound-told : (known : List ServerFacts) (remote : Option ServerFacts) (place from : ℕ) (rewind : Rewound)
    → rewind_at known place from ≡ Some rewind
    → rewound_at known place from ≡ with_changed known place (goes_back rewind.kept (server_at known remote from))
rewound-told known remote place from rewind is =
    rewound-by known remote place from rewind (slice_get known place) (slice_get known from) refl refl is is

pub rewound-took : (cluster : Cluster) (member leader : Member) (rewind : Rewound) (server from : ServerOf)
    (known : List ServerFacts) (tick : Ticks) (had has : Listed)
    → rewind_at cluster.facts.servers member.id.number leader.id.number ≡ Some rewind
    → known ≡ rewound_at cluster.facts.servers member.id.number leader.id.number
    → server ≡ server_of member → from ≡ server_of leader → tick.0 ≡ cluster.facts.clock
    → has ≡ had +++ record { tick = tick; kind = kinds.Log (logs.Rewound server from rewind.kept rewind.at) } ∷ []
    → Emits cluster (with_servers cluster known) had has
    (events_of cluster
    (kinds_of (option_map (rewinding member leader)
    (rewind_at cluster.facts.servers member.id.number leader.id.number))))
    1
rewound-took cluster member leader rewind server from known tick had has is state server_is from_is moment has_is =
    let place = member.id.number in
    let written : has ≡ had +++ record { tick = tick; kind = rewinding member leader rewind } ∷ [] = has_is
    ∙ ap (λ (s : ServerOf).
    had +++ record { tick = tick; kind = kinds.Log (logs.Rewound s from rewind.kept rewind.at) } ∷ [])
    server_is
    ∙ ap (λ (s : ServerOf). had +++ record {
      tick = tick;
      kind = kinds.Log (logs.Rewound (server_of member) s rewind.kept rewind.at);
    } ∷ []) from_is in
    subst (λ (o : Option Rewound). Emits cluster (with_servers cluster known) had has
    (events_of cluster (kinds_of (option_map (rewinding member leader) o))) 1)
    (sym is)
    (serving-took cluster (with_servers cluster known) (rewinding member leader rewind) tick had has tt tt
    (ap (with_servers cluster)
    (state ∙ rewound-told cluster.facts.servers cluster.facts.remote place leader.id.number rewind is))
    moment written)

not-may : (may : Bool) (x : Rewound) → cond may (Some x) None ≡ None → may ≡ false
not-may false x e = refl
not-may true x e = absurd (no-rewind x (sym e))

not-rewound : (known : List ServerFacts) (place from : ℕ) (own source : Option ServerFacts)
    → slice_get known place ≡ own → slice_get known from ≡ source → rewind_between own source ≡ None
    → may_rewind_at known place from ≡ false
not-rewound known place from None source p q e = rw p refl
not-rewound known place from (Some s) None p q e = rw (p, q) refl
not-rewound known place from (Some s) (Some source) p q e = rw (p, q) (not-may (may_rewind s source) _ e)

-- nothing is rewound
pub unrewound-took : (cluster : Cluster) (member leader : Member) (known : List ServerFacts) (had : Listed)
    → rewind_at cluster.facts.servers member.id.number leader.id.number ≡ None
    → known ≡ rewound_at cluster.facts.servers member.id.number leader.id.number
    → Emits cluster (with_servers cluster known) had had
    (events_of cluster
    (kinds_of (option_map (rewinding member leader)
    (rewind_at cluster.facts.servers member.id.number leader.id.number))))
    1
unrewound-took cluster member leader known had none state =
    let servers = cluster.facts.servers in
    let place = member.id.number in
    let from = leader.id.number in
    let may = not-rewound servers place from (slice_get servers place) (slice_get servers from) refl refl none in
    let same : known ≡ servers = state
    ∙ ap (λ (b : Bool). cond b (changed_from servers place rewound (slice_get servers from)) servers) may in
    subst (λ (o : Option Rewound). Emits cluster (with_servers cluster known) had had
    (events_of cluster (kinds_of (option_map (rewinding member leader) o))) 1)
    (sym none)
    (subst (λ (s : List ServerFacts). Emits cluster (with_servers cluster s) had had [] 1) (sym same)
    (Emits-nothing cluster had 1))

-- ---- a clone
no-way : false ≡ true → ⊥
no-way e = cc

creating : (able accepts : Bool) → able && accepts ≡ true → able ≡ true
creating true accepts e = refl
creating false accepts e = absurd (no-way e)

copies : (s source : ServerFacts) → is_creating s.state ≡ true → cloned s source ≡ becomes_copy source s
copies s source able =
    sym (ap (λ (b : Bool). cond b (cloned s source) (let other : ServerFacts = record s { log = source.log } in other))
    able)

cloned-by : (known : List ServerFacts) (remote : Option ServerFacts) (place from : ℕ) (own source : Option ServerFacts)
    → slice_get known place ≡ own → slice_get known from ≡ source → holds_between may_clone own source ≡ true
    → changed_from known place cloned source ≡ copied_by known place (server_at known remote from)
cloned-by known remote place from None source p q may = absurd (no-way may)
cloned-by known remote place from (Some s) None p q may = absurd (no-way may)
cloned-by known remote place from (Some s) (Some source) p q may =
    same-change known place (λ t. cloned t source) (becomes_copy source) s p
    (copies s source (creating (is_creating s.state) (writes source.state) may))
    ∙ ap (copied_by known place) (sym (server-listed known remote from source q))

-- the servers after a clone are as its event tells
cloned-told : (known : List ServerFacts) (remote : Option ServerFacts) (place from : ℕ)
    → may_clone_at known place from ≡ true
    → cloned_at known place from ≡ copied_by known place (server_at known remote from)
cloned-told known remote place from may =
    ap (λ (b : Bool). cond b (changed_from known place cloned (slice_get known from)) known) may
    ∙ cloned-by known remote place from (slice_get known place) (slice_get known from) refl refl may

pub copied-took : (cluster : Cluster) (member leader : Member) (server from : ServerOf)
    (known : List ServerFacts) (tick : Ticks) (had has : Listed)
    → may_clone_at cluster.facts.servers member.id.number leader.id.number ≡ true
    → known ≡ cloned_at cluster.facts.servers member.id.number leader.id.number
    → server ≡ server_of member → from ≡ server_of leader → tick.0 ≡ cluster.facts.clock
    → has ≡ had +++ record { tick = tick; kind = kinds.Log (logs.Copied server from) } ∷ []
    → Emits cluster (with_servers cluster known) had has
    (events_of cluster
    (kinds_of (if may_clone_at cluster.facts.servers member.id.number leader.id.number
    then Some (copying member leader) else None)))
    1
copied-took cluster member leader server from known tick had has may state server_is from_is moment has_is =
    let place = member.id.number in
    let written : has ≡ had +++ record { tick = tick; kind = copying member leader } ∷ [] = has_is
    ∙ ap (λ (s : ServerOf). had +++ record { tick = tick; kind = kinds.Log (logs.Copied s from) } ∷ []) server_is
    ∙ ap (λ (s : ServerOf). had +++ record { tick = tick; kind = kinds.Log (logs.Copied (server_of member) s) } ∷ [])
    from_is in
    subst (λ (b : Bool). Emits cluster (with_servers cluster known) had has
    (events_of cluster (kinds_of (if b then Some (copying member leader) else None))) 1)
    (sym may)
    (serving-took cluster (with_servers cluster known) (copying member leader) tick had has tt tt
    (ap (with_servers cluster)
    (state ∙ cloned-told cluster.facts.servers cluster.facts.remote place leader.id.number may))
    moment written)

-- nothing is copied
pub uncopied-took : (cluster : Cluster) (member leader : Member) (known : List ServerFacts) (had : Listed)
    → may_clone_at cluster.facts.servers member.id.number leader.id.number ≡ false
    → known ≡ cloned_at cluster.facts.servers member.id.number leader.id.number
    → Emits cluster (with_servers cluster known) had had
    (events_of cluster
    (kinds_of (if may_clone_at cluster.facts.servers member.id.number leader.id.number
    then Some (copying member leader) else None)))
    1
uncopied-took cluster member leader known had may state =
    let servers = cluster.facts.servers in
    let same : known ≡ servers = state
    ∙ ap (λ (b : Bool).
    cond b (changed_from servers member.id.number cloned (slice_get servers leader.id.number)) servers)
    may in
    subst (λ (b : Bool). Emits cluster (with_servers cluster known) had had
    (events_of cluster (kinds_of (if b then Some (copying member leader) else None))) 1)
    (sym may)
    (subst (λ (s : List ServerFacts). Emits cluster (with_servers cluster s) had had [] 1) (sym same)
    (Emits-nothing cluster had 1))
