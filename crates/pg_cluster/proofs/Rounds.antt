-- Loops over the servers of a cluster.
use Rattle.std.proofs.Common.{◌≡◌, ℕ, ◌+◌, ◌<◌, ◌==◌, ◌&&◌, ◌||◌, not, Bool, true, false, List, [], ◌∷◌, ◌++◌, length, map, replicate, zero, suc, get_or, set, take, drop, Some, ◌⊎◌, inl, inr, refl, sym, ap, ◌∙◌, arith, append_assoc, append-nil, length-take-le, length-set}
use Rattle.std.specs.Prelude.{slice_get, slice_set}
use Rattle.std.proofs.lemmas.Bool.{cases_eq, not-true, and_parts, or_parts}
use Rattle.std.proofs.lemmas.Bool.Decides.{nat_tests}
use Rattle.std.proofs.lemmas.List.{length-map, drop_more, map_more, get_or_at, set_at, take_all, drop_all}
use Rattle.std.proofs.lemmas.Option.{same_Some, slice_get_within}
use Rattle.pat_base.specs.declared.ticks.Ticks.{Ticks}
use Rattle.pg_model.specs.Facts.{ServerFacts, fresh}
use Rattle.pg_cluster.specs.Servers.{without_spare}
use Rattle.pg_model.specs.Running.{ticked_unless_live}
use Rattle.pg_model.specs.CatchingUp.{LogPosition, log_position_of}
use Rattle.pg_cluster.specs.InStep.{is_place, Forgets}
use Rattle.pg_model.proofs.Lists.{got-set_same, got-set_other}
use Rattle.pg_cluster.proofs.Sights.{without_spare-ticked_unless_live, log_position-ticked_unless_live}

-- one more of them is changed
pub changed-more : {X : Type 0} (f : X → X) (xs ys : List X) (place : ℕ) (x : X)
    → ys ≡ map f (take place xs) ++ drop place xs → place < length xs → x ≡ get_or ys place x
    → set ys place (f x) ≡ map f (take (place + 1) xs) ++ drop (place + 1) xs
changed-more f xs ys place x so_far within read =
    let y = get_or xs place x in
    let front = map f (take place xs) in
    let rest = drop (place + 1) xs in
    let long : length front ≡ place = length-map (take place xs) f ∙ length-take-le place xs (omega arith) in
    let is : ys ≡ front ++ y ∷ rest = so_far ∙ ap (λ t. front ++ t) (drop_more xs place x within) in
    let same : x ≡ y = read ∙ ap (λ t. get_or t place x) is ∙ get_or_at front y rest x place long in
    ap (λ t. set t place (f x)) is
    ∙ set_at front y rest (f x) place long
    ∙ ap (λ t. front ++ f t ∷ rest) same
    ∙ sym (append_assoc front (f y ∷ []) rest)
    ∙ ap (λ t. t ++ rest) (sym (map_more f xs place x within))

-- all of them are
pub changed-all : {X : Type 0} (f : X → X) (xs ys : List X) (place : ℕ)
    → ys ≡ map f (take place xs) ++ drop place xs → place ≡ length xs → ys ≡ map f xs
changed-all f xs ys place so_far end =
    so_far ∙ ap (λ t. map f t ++ drop place xs) (take_all place xs (omega arith))
    ∙ ap (λ t. map f xs ++ t) (drop_all place xs (omega arith)) ∙ append-nil (map f xs)

pub without_spare-ticked : (now : Ticks) (xs : List ServerFacts)
    → map without_spare (map (ticked_unless_live now) xs) ≡ map (ticked_unless_live now) (map without_spare xs)
without_spare-ticked now [] = refl
without_spare-ticked now (x ∷ xs) =
    ap (λ t. t ∷ map without_spare (map (ticked_unless_live now) xs)) (without_spare-ticked_unless_live now x)
    ∙ ap (λ t. ticked_unless_live now (without_spare x) ∷ t) (without_spare-ticked now xs)

pub log_position-ticked : (now : Ticks) (xs : List ServerFacts)
    → map log_position_of (map (ticked_unless_live now) xs) ≡ map log_position_of xs
log_position-ticked now [] = refl
log_position-ticked now (x ∷ xs) =
    ap (λ t. t ∷ map log_position_of (map (ticked_unless_live now) xs)) (log_position-ticked_unless_live now x)
    ∙ ap (λ t. log_position_of x ∷ t) (log_position-ticked now xs)

pub without_spare-fresh : (count base : ℕ)
    → map without_spare (replicate count (fresh base)) ≡ replicate count (fresh base)
without_spare-fresh zero base = refl
without_spare-fresh (suc count) base = ap (λ t. fresh base ∷ t) (without_spare-fresh count base)

-- the marks below a place are cleared where they have to be
pub record ForgetsBelow (old new : List Bool) (servers : List LogPosition) (place end : ℕ) : Type 0 where
  pub one_each : length new ≡ length old
  pub kept : (k : ℕ) → slice_get new k ≡ Some true → slice_get old k ≡ Some true
  pub own : place < end → slice_get new place ≡ Some true → ⊥
  pub followers : (k : ℕ) (s : LogPosition) → k < end → slice_get new k ≡ Some true
      → slice_get servers k ≡ Some s → is_place place s.upstream ≡ false

pub forgets-start : (marks : List Bool) (servers : List LogPosition) (place : ℕ)
    → ForgetsBelow marks marks servers place 0
forgets-start marks servers place = record {
  one_each = refl;
  kept = λ k h. h;
  own = λ h _. absurd (omega arith);
  followers = λ k s h _ _. absurd (omega arith);
}

not-own : (place : ℕ) → (place == place) ≡ false → ⊥
not-own place h = grind (arith, nat_tests)

pub forgets-more : (old new : List Bool) (servers : List LogPosition) (place end : ℕ) (b concerned : Bool)
    (s : LogPosition) → ForgetsBelow old new servers place end → slice_get new end ≡ Some b
    → slice_get servers end ≡ Some s → concerned ≡ ((end == place) || is_place place s.upstream)
    → ForgetsBelow old (slice_set new end (b && not concerned)) servers place (end + 1)
forgets-more old new servers place end b concerned s below mark there is = record {
  one_each = length-set new end (b && not concerned) ∙ below.one_each;
  kept = λ k h. kept k h (cases_eq k end);
  own = λ lt h. own lt h (cases_eq place end);
  followers = λ k t lt h at. followers k t lt h at (cases_eq k end);
}
  where
    set_here : slice_get (slice_set new end (b && not concerned)) end ≡ Some (b && not concerned)
    set_here = got-set_same new end (b && not concerned) (slice_get_within new end b mark)

    marked : slice_get (slice_set new end (b && not concerned)) end ≡ Some true → (b && not concerned) ≡ true
    marked h = same_Some (b && not concerned) true (sym set_here ∙ h)

    apart : slice_get (slice_set new end (b && not concerned)) end ≡ Some true
        → ((end == place) || is_place place s.upstream) ≡ false
    apart h = sym is ∙ not-true concerned (and_parts b (not concerned) (marked h)).1

    kept : (k : ℕ) → slice_get (slice_set new end (b && not concerned)) k ≡ Some true
        → (k ≡ end) ⊎ (k ≡ end → ⊥) → slice_get old k ≡ Some true
    kept k h (inl e) =
        let here : slice_get (slice_set new end (b && not concerned)) end ≡ Some true =
        ap (slice_get (slice_set new end (b && not concerned))) (sym e) ∙ h in
        below.kept k (ap (slice_get new) e ∙ mark ∙ ap (λ t. Some t) (and_parts b (not concerned) (marked here)).0)
    kept k h (inr ne) = below.kept k (sym (got-set_other new end k (b && not concerned) ne) ∙ h)

    own : place < end + 1 → slice_get (slice_set new end (b && not concerned)) place ≡ Some true
        → (place ≡ end) ⊎ (place ≡ end → ⊥) → ⊥
    own lt h (inl e) =
        let here : slice_get (slice_set new end (b && not concerned)) end ≡ Some true =
        ap (slice_get (slice_set new end (b && not concerned))) (sym e) ∙ h in
        not-own place (ap (λ t. t == place) e ∙ (or_parts (end == place) (is_place place s.upstream) (apart here)).0)
    own lt h (inr ne) = below.own (omega arith) (sym (got-set_other new end place (b && not concerned) ne) ∙ h)

    followers : (k : ℕ) (t : LogPosition) → k < end + 1
        → slice_get (slice_set new end (b && not concerned)) k ≡ Some true → slice_get servers k ≡ Some t
        → (k ≡ end) ⊎ (k ≡ end → ⊥) → is_place place t.upstream ≡ false
    followers k t lt h at (inl e) =
        let here : slice_get (slice_set new end (b && not concerned)) end ≡ Some true =
        ap (slice_get (slice_set new end (b && not concerned))) (sym e) ∙ h in
        let same : t ≡ s = same_Some t s (sym at ∙ ap (slice_get servers) e ∙ there) in
        ap (λ (u : LogPosition). is_place place u.upstream) same
        ∙ (or_parts (end == place) (is_place place s.upstream) (apart here)).1
    followers k t lt h at (inr ne) =
        below.followers k t (omega arith) (sym (got-set_other new end k (b && not concerned) ne) ∙ h) at

pub forgets-all : (old new : List Bool) (servers : List LogPosition) (place end : ℕ)
    → ForgetsBelow old new servers place end → end ≡ length old → Forgets old new servers place
forgets-all old new servers place end below whole = record {
  one_each = below.one_each;
  kept = below.kept;
  own = λ h. below.own (omega (arith, slice_get_within new place true h, below.one_each, whole)) h;
  followers =
      λ k s h at. below.followers k s (omega (arith, slice_get_within new k true h, below.one_each, whole)) h at;
}
