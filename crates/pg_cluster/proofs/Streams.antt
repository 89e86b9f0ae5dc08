-- A replica of a cluster that receives from another of its servers.
use Rattle.std.proofs.Common.{◌≡◌, ℕ, ◌&&◌, Bool, true, false, not, List, length, map, take, drop, Option, Some, None, refl, sym, ap, subst, ◌∙◌}
use Rattle.std.specs.Prelude.{slice_get, slice_set}
use Rattle.std.proofs.lemmas.Bool.{and_parts}
use Rattle.std.proofs.lemmas.List.{set-get_or}
use Rattle.std.proofs.lemmas.Option.{same_Some, slice_get_within, get_or_from_slice_get}
use Rattle.std.proofs.Math.Seq.{map-set_same}
use Rattle.pg_model.specs.declared.answers.Streamed.{Streamed}
use Rattle.pg_model.specs.declared.answers.Streamed.TheVariants as streams
use Rattle.pg_model.specs.Facts.{ServerFacts, entries_of}
use Rattle.pg_model.specs.Replication.{stream_of, news_by, after_streamed, after_news}
use Rattle.pg_cluster.specs.Servers.{without_spare, news_between, news_at, after_streamed_from, after_news_at, streamed_at}
use Rattle.pg_model.specs.CatchingUp.{log_position_of, upstream_number_of, IsBehind, CatchesUp}
use Rattle.pg_cluster.specs.InStep.{is_place, IsInStep, MarksHold, Renews, CatchesUpAt, AreInStep}
use Rattle.pg_cluster.proofs.Sights.{same-behind}
use Rattle.pg_model.proofs.Lists.{got-set_same, got-set_other}
use Rattle.pg_cluster.proofs.Clusters.{without_spare-at, changed, kept, log_position-at, moved-at, marked, forgotten-at, is_place-number}

-- a marked replica that follows a server is behind it
pub in-step-pair : (marks : List Bool) (xs : List ServerFacts) (place from : ℕ) (s : ServerFacts) (b is_upstream : Bool)
    → MarksHold marks (map log_position_of xs) → slice_get xs place ≡ Some s → slice_get marks place ≡ Some b
    → is_upstream ≡ is_place from (upstream_number_of s.upstream) → (b && is_upstream) ≡ true → AreInStep xs place from
in-step-pair marks xs place from s b is_upstream hold found mark is e = λ t u found_t found_u.
    let old : IsInStep (map log_position_of xs) (log_position_of s) = hold.in_step place (log_position_of s)
    (mark ∙ ap (λ m. Some m) (and_parts b is_upstream e).0) (log_position-at xs place s found) in
    let number : old.number ≡ from = same_Some old.number from
    (sym old.follows ∙ is_place-number from (upstream_number_of s.upstream) (sym is ∙ (and_parts b is_upstream e).1)) in
    let leader : old.leader ≡ log_position_of u = same_Some old.leader (log_position_of u)
    (sym old.found ∙ ap (slice_get (map log_position_of xs)) number ∙ log_position-at xs from u found_u) in
    let same : s ≡ t = same_Some s t (sym found ∙ found_t) in
    subst (λ (a : ServerFacts). IsBehind (log_position_of a) (log_position_of u)) same
    (subst (IsBehind (log_position_of s)) leader old.behind)

-- news keep whom a replica follows
upstream-after_streamed : (news : Streamed) (s u : ServerFacts) → (after_streamed news s u).upstream ≡ s.upstream
upstream-after_streamed streams.NotConnected s u = refl
upstream-after_streamed (streams.Diverged at) s u = refl
upstream-after_streamed (streams.Received count) s u = refl

upstream-after : (news : Option Streamed) (s u : ServerFacts) → (after_news news s u).upstream ≡ s.upstream
upstream-after None s u = refl
upstream-after (Some news) s u = upstream-after_streamed news s u

-- a replica that was behind its upstream is ahead of what it was
ahead-after_streamed : (news : Streamed) (s u : ServerFacts) → IsBehind (log_position_of s) (log_position_of u)
    → IsBehind (log_position_of s) (log_position_of (after_streamed news s u))
ahead-after_streamed streams.NotConnected s u p = same-behind (log_position_of s)
ahead-after_streamed (streams.Diverged at) s u p = same-behind (log_position_of s)
ahead-after_streamed (streams.Received count) s u p = record {
  log = record { rest = take count (drop (length (entries_of s.log)) (entries_of u.log)); whole = refl };
  timeline = p.timeline;
  history = p.history;
}

ahead-after : (news : Option Streamed) (s u : ServerFacts) → IsBehind (log_position_of s) (log_position_of u)
    → IsBehind (log_position_of s) (log_position_of (after_news news s u))
ahead-after None s u p = same-behind (log_position_of s)
ahead-after (Some news) s u p = ahead-after_streamed news s u p

own-step : (xs : List ServerFacts) (place from : ℕ) (s u s' : ServerFacts) → (from ≡ place → ⊥)
    → slice_get xs from ≡ Some u → s'.upstream ≡ s.upstream → upstream_number_of s.upstream ≡ Some from
    → IsBehind (log_position_of s') (log_position_of u)
    → IsInStep (map log_position_of (slice_set xs place s')) (log_position_of s')
own-step xs place from s u s' apart found upstream follows behind = record {
  number = from;
  follows = ap upstream_number_of upstream ∙ follows;
  leader = log_position_of u;
  found = log_position-at (slice_set xs place s') from u (got-set_other xs place from s' apart ∙ found);
  behind = behind;
}

renewed : (marks marks' : List Bool) (xs : List ServerFacts) (place from most : ℕ) (s u s' : ServerFacts)
    (b is_upstream received known : Bool) (news : Option Streamed) → MarksHold marks (map log_position_of xs)
    → slice_get xs place ≡ Some s → slice_get xs from ≡ Some u → (from ≡ place → ⊥)
    → slice_get marks place ≡ Some b → is_upstream ≡ is_place from (upstream_number_of s.upstream)
    → CatchesUp s u most s' news received → (b && is_upstream) ≡ known
    → Renews (received && not known) is_upstream marks marks' (map log_position_of (slice_set xs place s')) place
    → MarksHold marks' (map log_position_of (slice_set xs place s'))
renewed marks marks' xs place from most s u s' b is_upstream false known news hold found found' apart mark is
    caught_up is_known renews =
    subst (λ m. MarksHold m (map log_position_of (slice_set xs place s'))) (sym renews)
    (kept marks xs place s s' hold found (caught_up.log_position refl))
renewed marks marks' xs place from most s u s' b is_upstream true true news hold found found' apart mark is caught_up
    is_known renews =
    let behind : IsBehind (log_position_of s) (log_position_of u) =
    in-step-pair marks xs place from s b is_upstream hold found mark is is_known s u found found' in
    let ahead : IsBehind (log_position_of s) (log_position_of s') =
    subst (λ (t : ServerFacts). IsBehind (log_position_of s) (log_position_of t)) (sym caught_up.after_is)
    (ahead-after news s u behind) in
    let follows : upstream_number_of s.upstream ≡ Some from =
    is_place-number from (upstream_number_of s.upstream) (sym is ∙ (and_parts b is_upstream is_known).1) in
    let own = own-step xs place from s u s' apart found'
    (ap (λ (t : ServerFacts). t.upstream) caught_up.after_is ∙ upstream-after news s u) follows
    (caught_up.behind refl) in
    let same : slice_set marks place b ≡ marks =
    ap (slice_set marks place) (sym (get_or_from_slice_get marks place b b mark)) ∙ set-get_or marks place b in
    subst (λ m. MarksHold m (map log_position_of (slice_set xs place s'))) (same ∙ sym renews)
    (moved-at marks xs place s s' b hold found ahead (λ _. own))
renewed marks marks' xs place from most s u s' b is_upstream true false news hold found found' apart mark is caught_up
    is_known renews =
    let cleared : MarksHold renews.0 (map log_position_of (slice_set xs place s')) =
    forgotten-at marks renews.0 xs place s' hold renews.1 in
    let there : slice_get (map log_position_of (slice_set xs place s')) place ≡ Some (log_position_of s') =
    log_position-at (slice_set xs place s') place s' (got-set_same xs place s' (slice_get_within xs place s found)) in
    subst (λ m. MarksHold m (map log_position_of (slice_set xs place s'))) (sym renews.2)
    (marked renews.0 (map log_position_of (slice_set xs place s')) place (log_position_of s') is_upstream cleared there
    (λ e. own-step xs place from s u s' apart found'
    (ap (λ (t : ServerFacts). t.upstream) caught_up.after_is ∙ upstream-after news s u)
    (is_place-number from (upstream_number_of s.upstream) (sym is ∙ e)) (caught_up.behind refl)))

-- the marks hold again after a replica heard of its upstream
pub marks-after : (marks marks' : List Bool) (xs ys : List ServerFacts) (place from most : ℕ) (s u : ServerFacts)
    (b is_upstream received : Bool) (news : Option Streamed) → MarksHold marks (map log_position_of xs)
    → slice_get xs place ≡ Some s → slice_get xs from ≡ Some u → (from ≡ place → ⊥) → slice_get marks place ≡ Some b
    → is_upstream ≡ is_place from (upstream_number_of s.upstream) → CatchesUpAt xs ys place from most news received
    → Renews (received && not (b && is_upstream)) is_upstream marks marks' (map log_position_of ys) place
    → MarksHold marks' (map log_position_of ys)
marks-after marks marks' xs ys place from most s u b is_upstream received news hold found found' apart mark is hears
    renews =
    let caught_up = hears s u found found' in
    subst (λ (zs : List ServerFacts). MarksHold marks' (map log_position_of zs)) (sym caught_up.1)
    (renewed marks marks' xs place from most s u caught_up.0 b is_upstream received
    (b && is_upstream) news hold found found' apart mark is caught_up.2 refl
    (subst (λ (zs : List ServerFacts).
    Renews (received && not (b && is_upstream)) is_upstream marks marks' (map log_position_of zs) place)
    caught_up.1 renews))

news_by-without_spare : (answer : Streamed) (s u : ServerFacts)
    → news_by answer (without_spare s) (without_spare u) ≡ news_by answer s u
news_by-without_spare streams.NotConnected s u = refl
news_by-without_spare (streams.Diverged at) s u = refl
news_by-without_spare (streams.Received count) s u = refl

-- the news, as others see the servers
pub news-without_spare : (xs ys list : List ServerFacts) (place from most : ℕ) (s u : ServerFacts)
    (received : Bool) (news : Option Streamed) → map without_spare xs ≡ list → slice_get xs place ≡ Some s
    → slice_get xs from ≡ Some u → CatchesUpAt xs ys place from most news received → news ≡ news_at list place from most
news-without_spare xs ys list place from most s u received news view found found' hears =
    (hears s u found found').2.news_are
    ∙ sym (news_by-without_spare (stream_of s u most) s u)
    ∙ sym (ap (λ (t : Option ServerFacts). news_between t (slice_get list from) most)
    (without_spare-at xs list place s view found)
    ∙ ap (λ (t : Option ServerFacts). news_between (Some (without_spare s)) t most)
    (without_spare-at xs list from u view found'))

without_spare-after_streamed : (news : Streamed) (s u : ServerFacts)
    → without_spare (after_streamed news s u) ≡ after_streamed news (without_spare s) (without_spare u)
without_spare-after_streamed streams.NotConnected s u = refl
without_spare-after_streamed (streams.Diverged at) s u = refl
without_spare-after_streamed (streams.Received count) s u = refl

after-without_spare : (news : Option Streamed) (xs list : List ServerFacts) (place from : ℕ) (s u s' : ServerFacts)
    → map without_spare xs ≡ list → slice_get xs place ≡ Some s → slice_get xs from ≡ Some u
    → s' ≡ after_news news s u → map without_spare (slice_set xs place s') ≡ after_news_at list place from news
after-without_spare None xs list place from s u s' view found found' e =
    map-set_same without_spare xs place s' s (ap without_spare (e ∙ sym (get_or_from_slice_get xs place s s found)))
    ∙ view
after-without_spare (Some news) xs list place from s u s' view found found' e =
    changed xs list place s s' (λ t. after_streamed news t (without_spare u)) view found
    (ap without_spare e ∙ without_spare-after_streamed news s u)
    ∙ sym (ap (after_streamed_from list place news) (without_spare-at xs list from u view found'))

-- and what the servers are then
pub streamed-without_spare : (xs ys list : List ServerFacts) (place from most : ℕ) (s u : ServerFacts) (received : Bool)
    (news : Option Streamed) → map without_spare xs ≡ list → slice_get xs place ≡ Some s → slice_get xs from ≡ Some u
    → CatchesUpAt xs ys place from most news received → map without_spare ys ≡ streamed_at list place from most
streamed-without_spare xs ys list place from most s u received news view found found' hears =
    let caught_up = hears s u found found' in
    ap (map without_spare) caught_up.1
    ∙ after-without_spare news xs list place from s u caught_up.0 view found found' caught_up.2.after_is
    ∙ ap (after_news_at list place from)
    (news-without_spare xs ys list place from most s u received news view found found' hears)
