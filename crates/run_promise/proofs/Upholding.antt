-- Parts of a step that uphold a promise do so one after another.
use Rattle.std.proofs.Common.{◌≡◌, ◌++◌, Bool, true, false, cond, List, [], ◌∷◌, Option, Some, None, refl, ◌∙◌, ap, sym, subst, inl, inr}
use Rattle.event_book.specs.declared.event.Event.{Event}
use Rattle.cluster_model.specs.Cluster.{cluster_after, cluster_over}
use Rattle.cluster_model.specs.Parts.{each, events_then, for_some}
use Rattle.cluster_model.specs.State.{Cluster}
use Rattle.lease_law.proofs.Runs.{assoc, cuts, no-cons, none-more}
use Rattle.run_promise.specs.Promise.{IsComposable, Promise, Upholds, UpholdsAlways}

pub over-append : (cluster : Cluster) (xs ys : List Event)
    → cluster_over cluster (xs ++ ys) ≡ cluster_over (cluster_over cluster xs) ys
over-append cluster [] ys = refl
over-append cluster (x ∷ xs) ys = over-append (cluster_after cluster x.kind) xs ys

none-front : (front rest : List Event) → front ++ rest ≡ [] → front ≡ []
none-front [] rest e = refl
none-front (x ∷ front) rest e = absurd (no-cons x (front ++ rest) e)

-- what holds of each thing in a list
abbrev pub Each : {X : Type 0} → (X → Type 0) → List X → Type 0
Each P [] = Unit {0}
Each P (x ∷ xs) = P x × Each P xs

module _ (promise : Promise) (composable : IsComposable promise) where
  -- nothing happens
  pub upheld-none : (book : List Event) (cluster : Cluster) → promise.between book cluster
      → Upholds promise book cluster []
  upheld-none book cluster good = record {
    inside =
        λ front rest e meets. subst (λ (l : List Event). promise.moment (book ++ l)) (sym (none-front front rest e))
        (subst promise.moment (sym (none-more book)) (composable.now book cluster good));
    behind = λ meets. subst (λ (l : List Event). promise.between l cluster) (sym (none-more book)) good;
  }

  inside-then : (book : List Event) (cluster : Cluster) (xs ys : List Event) → Upholds promise book cluster xs
      → (promise.premises (book ++ xs) → Upholds promise (book ++ xs) (cluster_over cluster xs) ys)
      → (front rest : List Event) → front ++ rest ≡ xs ++ ys → promise.premises (book ++ front)
      → promise.moment (book ++ front)
  inside-then book cluster xs ys first second front rest e meets = elim (cuts front rest xs ys e) [
    | inl cut ↦ first.inside front cut.0 cut.1 meets
    | inr cut ↦
        let same : book ++ front ≡ (book ++ xs) ++ cut.0 = ap (λ (l : List Event). book ++ l) cut.1
        ∙ sym (assoc book xs cut.0) in
        let whole : promise.premises ((book ++ xs) ++ cut.0) = subst promise.premises same meets in
        subst promise.moment (sym same)
        ((second (composable.front (book ++ xs) cut.0 whole)).inside cut.0 rest cut.2 whole)
  ]

  -- one group of events behind another
  pub upheld-then : (book : List Event) (cluster : Cluster) (xs ys : List Event) → Upholds promise book cluster xs
      → (promise.between (book ++ xs) (cluster_over cluster xs) →
      Upholds promise (book ++ xs) (cluster_over cluster xs) ys)
      → Upholds promise book cluster (xs ++ ys)
  upheld-then book cluster xs ys first second = record {
    inside = inside-then book cluster xs ys first (λ meets. second (first.behind meets));
    behind = λ meets.
        let whole : promise.premises ((book ++ xs) ++ ys) = subst promise.premises (sym (assoc book xs ys)) meets in
        let good = first.behind (composable.front (book ++ xs) ys whole) in
        subst (λ (c : Cluster). promise.between (book ++ (xs ++ ys)) c) (sym (over-append cluster xs ys))
        (subst (λ (l : List Event). promise.between l (cluster_over (cluster_over cluster xs) ys))
        (assoc book xs ys) ((second good).behind whole));
  }

  -- a part behind a part
  pub upholds-then : (first : Cluster → List Event) (second : Cluster → List Event)
      → UpholdsAlways promise first → UpholdsAlways promise second
      → UpholdsAlways promise (λ cluster. events_then cluster (first cluster) second)
  upholds-then first second one other book cluster good =
      upheld-then book cluster (first cluster) (second (cluster_over cluster (first cluster)))
      (one book cluster good) (λ later. other (book ++ first cluster) (cluster_over cluster (first cluster)) later)

  -- a part for each of some things
  pub upholds-each : {X : Type 0} (part : Cluster → X → List Event) (xs : List X)
      → Each (λ x. UpholdsAlways promise (λ cluster. part cluster x)) xs
      → UpholdsAlways promise (λ cluster. each part cluster xs)
  upholds-each part [] all book cluster good = upheld-none book cluster good
  upholds-each part (x ∷ xs) all book cluster good =
      upholds-then (λ cluster. part cluster x) (λ later. each part later xs) all.0
      (upholds-each part xs all.1) book cluster good

  -- the same where each thing's part does
  pub upholds-all : {X : Type 0} (part : Cluster → X → List Event)
      → ((x : X) → UpholdsAlways promise (λ cluster. part cluster x)) → (xs : List X)
      → UpholdsAlways promise (λ cluster. each part cluster xs)
  upholds-all part all [] book cluster good = upheld-none book cluster good
  upholds-all part all (x ∷ xs) book cluster good =
      upholds-then (λ cluster. part cluster x) (λ later. each part later xs) (all x)
      (upholds-all part all xs) book cluster good

  -- a part for something, where there is something
  pub upheld-for_some : {X : Type 0} (book : List Event) (cluster : Cluster) (found : Option X) (part : X → List Event)
      → promise.between book cluster
      → ((x : X) → found ≡ Some x → Upholds promise book cluster (part x))
      → Upholds promise book cluster (for_some found part)
  upheld-for_some book cluster None part good each = upheld-none book cluster good
  upheld-for_some book cluster (Some x) part good each = each x refl

  -- one part or another
  pub upheld-if : (book : List Event) (cluster : Cluster) (test : Bool) (xs ys : List Event)
      → (test ≡ true → Upholds promise book cluster xs) → (test ≡ false → Upholds promise book cluster ys)
      → Upholds promise book cluster (cond test xs ys)
  upheld-if book cluster true xs ys first second = first refl
  upheld-if book cluster false xs ys first second = second refl
