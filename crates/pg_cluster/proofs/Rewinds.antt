-- One server of a cluster that is rewound to another, or a clone of it.
use Rattle.std.proofs.Common.{◌≡◌, ℕ, ◌-◌, Bool, true, false, cond, List, ◌++◌, length, map, Option, Some, None, refl, sym, ap, subst, ◌∙◌, arith}
use Rattle.std.specs.Prelude.{slice_get, slice_set}
use Rattle.std.specs.Option.{option_map}
use Rattle.std.proofs.lemmas.List.{set-append_left, set-append_right}
use Rattle.std.proofs.lemmas.Option.{slice_get_within, slice_get-map}
use Rattle.pat_base.specs.Changes.{changed_at, with_changed}
use Rattle.pg_cluster.specs.declared.answers.Rewound.{Rewound}
use Rattle.pg_model.specs.Facts.{ServerFacts}
use Rattle.pg_cluster.specs.Servers.{without_spare}
use Rattle.pg_model.specs.CatchingUp.{log_position_of}
use Rattle.pg_cluster.specs.InStep.{MarksHold, Forgets}
use Rattle.pg_model.specs.Rewinding.{rewound, rewound_to, may_rewind}
use Rattle.pg_cluster.specs.Rewinding.{rewind_of, rewind_between, rewind_at, holds_between, may_rewind_at, changed_from, rewound_at}
use Rattle.pg_cluster.proofs.Clusters.{changed, without_spare-at, forgotten-at}
use Rattle.pg_cluster.proofs.Pairs.{got-low, got-high}
use Rattle.pg_model.proofs.Rewinds.{rewound-told}

no : false ≡ true → ⊥
no e = cc

-- ---- two servers of a cluster
-- both are there, and this is so of them
record Both (test : ServerFacts → ServerFacts → Bool) (servers : List ServerFacts) (place from : ℕ) : Type 0 where
  own : ServerFacts
  source : ServerFacts
  own_at : slice_get servers place ≡ Some own
  source_at : slice_get servers from ≡ Some source
  holds : test own source ≡ true

both-of : (test : ServerFacts → ServerFacts → Bool) (s source : Option ServerFacts)
    (servers : List ServerFacts) (place from : ℕ) → slice_get servers place ≡ s
    → slice_get servers from ≡ source → holds_between test s source ≡ true → Both test servers place from
both-of test None source servers place from p q e = absurd (no e)
both-of test (Some s) None servers place from p q e = absurd (no e)
both-of test (Some s) (Some source) servers place from p q e =
    record { own = s; source = source; own_at = p; source_at = q; holds = e }

both-at : (test : ServerFacts → ServerFacts → Bool) (servers : List ServerFacts) (place from : ℕ)
    → holds_between test (slice_get servers place) (slice_get servers from) ≡ true → Both test servers place from
both-at test servers place from e =
    both-of test (slice_get servers place) (slice_get servers from) servers place from refl refl e

holds-at : (test : ServerFacts → ServerFacts → Bool) (servers : List ServerFacts) (place from : ℕ)
    (s source : ServerFacts) → slice_get servers place ≡ Some s → slice_get servers from ≡ Some source
    → holds_between test (slice_get servers place) (slice_get servers from) ≡ test s source
holds-at test servers place from s source p q =
    ap (λ o. holds_between test o (slice_get servers from)) p ∙ ap (holds_between test (Some s)) q

pub holds-of : (test : ServerFacts → ServerFacts → Bool) (servers : List ServerFacts) (place from : ℕ)
    (s source : ServerFacts) → slice_get servers place ≡ Some s → slice_get servers from ≡ Some source
    → holds_between test (slice_get servers place) (slice_get servers from) ≡ true → test s source ≡ true
holds-of test servers place from s source p q e = sym (holds-at test servers place from s source p q) ∙ e

where-true : {X : Type 0} (b : Bool) (x y : X) → b ≡ true → cond b x y ≡ x
where-true true x y e = refl
where-true false x y e = absurd (no e)

-- the servers after the one at a place is changed by the one at another, where both are there and this is so of them
abbrev pub changed_where : (ServerFacts → ServerFacts → Bool) → (ServerFacts → ServerFacts → ServerFacts)
    → List ServerFacts → ℕ → ℕ → List ServerFacts
changed_where test change servers place from =
    cond (holds_between test (slice_get servers place) (slice_get servers from))
    (changed_from servers place change (slice_get servers from)) servers

changed-from : (test : ServerFacts → ServerFacts → Bool) (change : ServerFacts → ServerFacts → ServerFacts)
    (servers : List ServerFacts) (place from : ℕ) (source : ServerFacts) → slice_get servers from ≡ Some source
    → holds_between test (slice_get servers place) (slice_get servers from) ≡ true
    → changed_where test change servers place from ≡ with_changed servers place (λ s. change s source)
changed-from test change servers place from source q may =
    where-true (holds_between test (slice_get servers place) (slice_get servers from))
    (changed_from servers place change (slice_get servers from)) servers may
    ∙ ap (changed_from servers place change) q

changed-set : (test : ServerFacts → ServerFacts → Bool) (change : ServerFacts → ServerFacts → ServerFacts)
    (servers : List ServerFacts) (place from : ℕ) (s source : ServerFacts) → slice_get servers place ≡ Some s
    → slice_get servers from ≡ Some source
    → holds_between test (slice_get servers place) (slice_get servers from) ≡ true
    → changed_where test change servers place from ≡ slice_set servers place (change s source)
changed-set test change servers place from s source p q may =
    changed-from test change servers place from source q may ∙ ap (changed_at servers place (λ t. change t source)) p

-- the changed one is in the first part of the list, and the other begins the second
pub changed-low : (test : ServerFacts → ServerFacts → Bool) (change : ServerFacts → ServerFacts → ServerFacts)
    (xs low high : List ServerFacts) (place from : ℕ) (s source s' : ServerFacts) → xs ≡ low ++ high
    → length low ≡ from → slice_get low place ≡ Some s → slice_get high 0 ≡ Some source
    → holds_between test (slice_get xs place) (slice_get xs from) ≡ true → s' ≡ change s source
    → slice_set low place s' ++ high ≡ changed_where test change xs place from
changed-low test change xs low high place from s source s' whole long at_place at_from may is =
    sym (ap (λ (t : List ServerFacts). slice_set t place s') whole
    ∙ set-append_left low high place s' (slice_get_within low place s at_place))
    ∙ ap (slice_set xs place) is
    ∙ sym (changed-set test change xs place from s source (got-low xs low high place s whole at_place)
    (got-high xs low high from source whole long at_from) may)

-- the changed one begins the second part, and the other is in the first
pub changed-high : (test : ServerFacts → ServerFacts → Bool) (change : ServerFacts → ServerFacts → ServerFacts)
    (xs low high : List ServerFacts) (place from : ℕ) (s source s' : ServerFacts) → xs ≡ low ++ high
    → length low ≡ place → slice_get high 0 ≡ Some s → slice_get low from ≡ Some source
    → holds_between test (slice_get xs place) (slice_get xs from) ≡ true → s' ≡ change s source
    → low ++ slice_set high 0 s' ≡ changed_where test change xs place from
changed-high test change xs low high place from s source s' whole long at_place at_from may is =
    let none : place - place ≡ 0 = omega arith in
    sym (ap (λ (t : List ServerFacts). slice_set t place s') whole
    ∙ set-append_right low high place place s' long (omega arith) ∙ ap (λ k. low ++ slice_set high k s') none)
    ∙ ap (slice_set xs place) is
    ∙ sym (changed-set test change xs place from s source (got-high xs low high place s whole long at_place)
    (got-low xs low high from source whole at_from) may)

pub rewind_at-of : (servers : List ServerFacts) (place from : ℕ) (s source : ServerFacts)
    → slice_get servers place ≡ Some s → slice_get servers from ≡ Some source
    → rewind_at servers place from ≡ rewind_of s source
rewind_at-of servers place from s source p q =
    ap (λ o. rewind_between o (slice_get servers from)) p ∙ ap (rewind_between (Some s)) q

-- ---- as others see the servers
-- what is so of servers is so of them without the room of their histories
abbrev IsSeen : (ServerFacts → ServerFacts → Bool) → Type 0
IsSeen test = (s source : ServerFacts) → test (without_spare s) (without_spare source) ≡ test s source

seen-between : (test : ServerFacts → ServerFacts → Bool) → IsSeen test → (s source : Option ServerFacts)
    → holds_between test (option_map without_spare s) (option_map without_spare source) ≡ holds_between test s source
seen-between test seen None source = refl
seen-between test seen (Some s) None = refl
seen-between test seen (Some s) (Some source) = seen s source

pub holds-seen : (test : ServerFacts → ServerFacts → Bool)
    → ((s source : ServerFacts) → test (without_spare s) (without_spare source) ≡ test s source)
    → (xs list : List ServerFacts) (place from : ℕ) → map without_spare xs ≡ list
    → holds_between test (slice_get list place) (slice_get list from)
    ≡ holds_between test (slice_get xs place) (slice_get xs from)
holds-seen test seen xs list place from view =
    ap (λ (t : List ServerFacts). holds_between test (slice_get t place) (slice_get t from)) (sym view)
    ∙ ap (λ o. holds_between test o (slice_get (map without_spare xs) from)) (slice_get-map without_spare xs place)
    ∙ ap (holds_between test (option_map without_spare (slice_get xs place))) (slice_get-map without_spare xs from)
    ∙ seen-between test seen (slice_get xs place) (slice_get xs from)

rewind-between : (s source : Option ServerFacts)
    → rewind_between (option_map without_spare s) (option_map without_spare source) ≡ rewind_between s source
rewind-between None source = refl
rewind-between (Some s) None = refl
rewind-between (Some s) (Some source) = refl

pub rewind_at-seen : (xs list : List ServerFacts) (place from : ℕ) → map without_spare xs ≡ list
    → rewind_at list place from ≡ rewind_at xs place from
rewind_at-seen xs list place from view =
    ap (λ (t : List ServerFacts). rewind_at t place from) (sym view)
    ∙ ap (λ o. rewind_between o (slice_get (map without_spare xs) from)) (slice_get-map without_spare xs place)
    ∙ ap (rewind_between (option_map without_spare (slice_get xs place))) (slice_get-map without_spare xs from)
    ∙ rewind-between (slice_get xs place) (slice_get xs from)

-- the servers after the change
pub changed-seen : (test : ServerFacts → ServerFacts → Bool) (change : ServerFacts → ServerFacts → ServerFacts)
    → ((s source : ServerFacts) → test (without_spare s) (without_spare source) ≡ test s source)
    → ((s source : ServerFacts) → without_spare (change s source) ≡ change (without_spare s) (without_spare source))
    → (xs list : List ServerFacts) (place from : ℕ) → map without_spare xs ≡ list
    → holds_between test (slice_get xs place) (slice_get xs from) ≡ true
    → map without_spare (changed_where test change xs place from) ≡ changed_where test change list place from
changed-seen test change seen changes xs list place from view may =
    let b = both-at test xs place from may in
    let there : slice_get list from ≡ Some (without_spare b.source) =
    without_spare-at xs list from b.source view b.source_at in
    ap (map without_spare) (changed-set test change xs place from b.own b.source b.own_at b.source_at may)
    ∙ changed xs list place b.own (change b.own b.source)
    (λ t. change t (without_spare b.source)) view b.own_at (changes b.own b.source)
    ∙ sym (changed-from test change list place from (without_spare b.source) there
    (holds-seen test seen xs list place from view ∙ may))

-- the marks hold again once those of the changed server and its followers are cleared
pub changed-marks : (test : ServerFacts → ServerFacts → Bool) (change : ServerFacts → ServerFacts → ServerFacts)
    (marks marks' : List Bool) (xs ys : List ServerFacts) (place from : ℕ) → MarksHold marks (map log_position_of xs)
    → holds_between test (slice_get xs place) (slice_get xs from) ≡ true → ys ≡ changed_where test change xs place from
    → Forgets marks marks' (map log_position_of ys) place → MarksHold marks' (map log_position_of ys)
changed-marks test change marks marks' xs ys place from hold may is forgets =
    let b = both-at test xs place from may in
    let set : ys ≡ slice_set xs place (change b.own b.source) = is
    ∙ changed-set test change xs place from b.own b.source b.own_at b.source_at may in
    subst (λ (zs : List ServerFacts). MarksHold marks' (map log_position_of zs)) (sym set)
    (forgotten-at marks marks' xs place (change b.own b.source) hold
    (subst (λ (zs : List ServerFacts). Forgets marks marks' (map log_position_of zs) place) set forgets))

-- ---- as events tell it
may-rewind : (may : Bool) (x y : Rewound) → cond may (Some x) None ≡ Some y → (may ≡ true) × (x ≡ y)
may-rewind true x y e = (refl, same x y e)
  where
    same : (x y : Rewound) → Some x ≡ Some y → x ≡ y
    same x y e = cc
may-rewind false x y e = absurd (none y e)
  where
    none : (y : Rewound) → None ≡ Some y → ⊥
    none y e = cc

-- the servers after a rewind, by how many entries it kept
rewound-between : (servers : List ServerFacts) (place from : ℕ) (own source : Option ServerFacts)
    (rewind : Rewound) (t : ServerFacts) → slice_get servers place ≡ own → slice_get servers from ≡ source
    → rewind_between own source ≡ Some rewind → source ≡ Some t
    → rewound_at servers place from ≡ with_changed servers place (λ s. rewound_to rewind.kept s t)
rewound-between servers place from None source rewind t p q e there = absurd (none rewind e)
  where
    none : (y : Rewound) → None ≡ Some y → ⊥
    none y e = cc
rewound-between servers place from (Some s) None rewind t p q e there = absurd (none rewind e)
  where
    none : (y : Rewound) → None ≡ Some y → ⊥
    none y e = cc
rewound-between servers place from (Some s) (Some source) rewind t p q e there =
    let parts = may-rewind (may_rewind s source) _ rewind e in
    let is : source ≡ t = same source t there in
    let may : may_rewind_at servers place from ≡ true = holds-at may_rewind servers place from s source p q ∙ parts.0 in
    changed-set may_rewind rewound servers place from s source p q may
    ∙ ap (slice_set servers place)
    (sym (rewound-told s source) ∙ ap (λ (r : Rewound). rewound_to r.kept s source) parts.1
    ∙ ap (rewound_to rewind.kept s) is)
    ∙ sym (ap (changed_at servers place (λ u. rewound_to rewind.kept u t)) p)
  where
    same : (x y : ServerFacts) → Some x ≡ Some y → x ≡ y
    same x y e = cc

pub rewound_at-told : (servers : List ServerFacts) (place from : ℕ) (rewind : Rewound) (source : ServerFacts)
    → rewind_at servers place from ≡ Some rewind → slice_get servers from ≡ Some source
    → rewound_at servers place from ≡ with_changed servers place (λ s. rewound_to rewind.kept s source)
rewound_at-told servers place from rewind source e there = rewound-between servers place from
    (slice_get servers place) (slice_get servers from) rewind source refl refl e there
