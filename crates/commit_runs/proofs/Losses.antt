-- Events that tell the first loss of an acknowledged commit behind the event that brings it.
use Rattle.std.proofs.Common.{ℕ, ◌≡◌, ◌<◌, ◌++◌, ◌∙◌, Bool, true, false, List, [], ◌∷◌, length, refl, ap, sym, subst}
use Rattle.script_model.specs.Script.{HeadText}
use Rattle.event_book.specs.declared.event.Event.{Event}
use Rattle.event_book.specs.declared.event.EventKind.{EventKind}
use Rattle.event_book.specs.declared.event.EventKind.TheVariants as kinds
use Rattle.event_book.specs.declared.event.LogEvent.TheVariants as log_events
use Rattle.event_book.specs.declared.event.ReplicationEvent.TheVariants as replications
use Rattle.event_book.specs.declared.event.ServerEvent.TheVariants as servers
use Rattle.event_book.specs.Clock.{now_after}
use Rattle.event_book.specs.Kept.{KeepsCommits}
use Rattle.event_book.specs.Logs.{Logs}
use Rattle.event_book.specs.Writers.{Begins, BeginsKind}
use Rattle.event_book.proofs.Told.{count-of}
use Rattle.cluster_model.specs.Cluster.{cluster_after, cluster_over}
use Rattle.cluster_model.specs.State.{Cluster}
use Rattle.event_book.specs.Kinds.{AllAre}
use Rattle.lease_law.proofs.Runs.{assoc, none-more}
use Rattle.lease_model.proofs.Tools.{both}
use Rattle.commit_actions.specs.Past.{Past, past_after, past_over}
use Rattle.commit_servers.specs.Matching.{IsSameServers}
use Rattle.commit_servers.proofs.Matching.{same-by}
use Rattle.run_promise.specs.Members.{declared_members, member_count}
use Rattle.run_promise.specs.Promise.{IsComposable, Promise, Upholds}
use Rattle.run_promise.proofs.Members.{members-over}
use Rattle.summary_model.specs.Losses.{may_lose}
use Rattle.summary_model.specs.Moments.{AreAllFronts}
use Rattle.summary_model.specs.Seeing.{WriterLacks}
use Rattle.summary_model.specs.Sights.{is_loss, tells_loss}
use Rattle.summary_model.specs.Telling.{TellLosses, TellsLoss}
use Rattle.summary_law.proofs.Fronts.{whole-front}
use Rattle.summary_law.proofs.Keeping.{others-keep}
use Rattle.summary_law.proofs.Losing.{none-if-hold}
use Rattle.commit_parts.specs.Reading.{past_of}
use Rattle.commit_runs.specs.Runs.{first_logs}
use Rattle.commit_parts.proofs.Transitions.{past-more}

-- these events tell the first loss behind this book, and don't begin with one
pub record Tells (logs : Logs) (book events : List Event) : Type 0 where
  pub begins : tells_loss events ≡ false
  pub told : TellLosses logs book events

module _ (logs : Logs) where
  -- no commit was lost at any front of this book
  abbrev NoneLost : List Event → Type 0
  NoneLost book = AreAllFronts (KeepsCommits logs) book

  front-holds : (book more : List Event) → NoneLost (book ++ more) → NoneLost book
  front-holds book more all = record {
    each = λ front rest is.
        all.each front (rest ++ more) (sym (assoc front rest more) ∙ ap (λ (l : List Event). l ++ more) is);
  }

  -- once a commit is lost, nothing more is to be told
  pub lost-tells : (book events : List Event) → (NoneLost book → ⊥) → TellLosses logs book events
  lost-tells book [] lost = tt
  lost-tells book (event ∷ events) lost = (
    λ all. absurd (lost all),
    lost-tells (book ++ event ∷ []) events (λ all. lost (front-holds book (event ∷ []) all)),
  )

  -- an event that loses nothing, behind which no loss is told
  pub none-lost : (book : List Event) (event : Event) (behind : List Event) → tells_loss behind ≡ false
      → (KeepsCommits logs book → WriterLacks logs (book ++ event ∷ []) → ⊥) → TellsLoss logs book event behind
  none-lost book event behind none keeps all = (
    λ told. absurd (both (sym none ∙ told)),
    λ lacks. absurd (keeps (whole-front (KeepsCommits logs) book all) lacks),
  )

  -- an event that loses a commit, behind which that is told
  pub some-lost : (book : List Event) (event : Event) (behind : List Event) → tells_loss behind ≡ true
      → (KeepsCommits logs book → WriterLacks logs (book ++ event ∷ []))
      → TellsLoss logs book event behind × (NoneLost (book ++ event ∷ []) → ⊥)
  some-lost book event behind some lacks = (
    λ all. (λ told. lacks (whole-front (KeepsCommits logs) book all), λ w. some),
    λ all. none-if-hold logs (book ++ event ∷ []) (whole-front (KeepsCommits logs) (book ++ event ∷ []) all)
        (lacks (whole-front (KeepsCommits logs) book (front-holds book (event ∷ []) all))),
  )

  -- one group of events behind another
  pub more-told : (book xs ys : List Event) → TellLosses logs book xs → tells_loss ys ≡ false
      → TellLosses logs (book ++ xs) ys → TellLosses logs book (xs ++ ys)
  more-told book [] ys told begins rest = subst (λ (b : List Event). TellLosses logs b ys) (none-more book) rest
  more-told book (x ∷ []) ys told begins rest = (
    λ all. subst
        (λ (t : Bool). (t ≡ true → WriterLacks logs (book ++ x ∷ [])) × (WriterLacks logs (book ++ x ∷ []) → t ≡ true))
        (sym begins) (told.0 all),
    rest,
  )
  more-told book (x ∷ y ∷ xs) ys told begins rest = (
    told.0,
    more-told (book ++ x ∷ []) (y ∷ xs) ys told.1 begins
        (subst (λ (b : List Event). TellLosses logs b ys) (sym (assoc book (x ∷ []) (y ∷ xs))) rest),
  )

  pub told-back : (book xs ys : List Event) → TellLosses logs book (xs ++ ys) → TellLosses logs (book ++ xs) ys
  told-back book [] ys told = subst (λ (b : List Event). TellLosses logs b ys) (sym (none-more book)) told
  told-back book (x ∷ xs) ys told = subst (λ (b : List Event). TellLosses logs b ys) (assoc book (x ∷ []) xs)
      (told-back (book ++ x ∷ []) xs ys told.1)

-- ---- events that lose nothing
abbrev pub LosesNone : EventKind → Type 0
LosesNone (kinds.Server (servers.Began server timeline)) = ⊥
LosesNone (kinds.Log (log_events.Rewound server from kept at)) = ⊥
LosesNone (kinds.Log (log_events.Copied server from)) = ⊥
LosesNone (kinds.Log (log_events.Wiped server)) = ⊥
LosesNone (kinds.Replication (replications.Acknowledged server commit)) = ⊥
LosesNone (kinds.Replication (replications.Lacks server)) = ⊥
LosesNone _ = Unit {0}

loses-none : (kind : EventKind) → LosesNone kind → may_lose kind ≡ false
loses-none (kinds.Server (servers.Began server timeline)) none = absurd none
loses-none (kinds.Server _) none = refl
loses-none (kinds.Log (log_events.Rewound server from kept at)) none = absurd none
loses-none (kinds.Log (log_events.Copied server from)) none = absurd none
loses-none (kinds.Log (log_events.Wiped server)) none = absurd none
loses-none (kinds.Log _) none = refl
loses-none (kinds.Replication (replications.Acknowledged server commit)) none = absurd none
loses-none (kinds.Replication _) none = refl
loses-none _ none = refl

no-loss : (kind : EventKind) → LosesNone kind → is_loss kind ≡ false
no-loss (kinds.Replication (replications.Lacks server)) none = absurd none
no-loss (kinds.Replication _) none = refl
no-loss _ none = refl

begins-none : (P : ℕ → Type 0) (kind : EventKind) → LosesNone kind → BeginsKind P kind
begins-none P (kinds.Server (servers.Began server timeline)) none = absurd none
begins-none P (kinds.Server _) none = tt
begins-none P _ none = tt

all-begin : (P : ℕ → Type 0) (events : List Event) → AllAre LosesNone events → Begins P events
all-begin P [] all = tt
all-begin P (event ∷ events) all = (begins-none P event.kind all.0, all-begin P events all.1)

all-tell : (events : List Event) → AllAre LosesNone events → tells_loss events ≡ false
all-tell [] all = refl
all-tell (event ∷ events) all = no-loss event.kind all.0

all-told : (logs : Logs) (book events : List Event) → AllAre LosesNone events → TellLosses logs book events
all-told logs book [] all = tt
all-told logs book (event ∷ events) all = (
  none-lost logs book event events (all-tell events all.1)
      (others-keep logs book event (loses-none event.kind all.0)),
  all-told logs (book ++ event ∷ []) events all.1,
)

-- ---- what holds between two parts of a step
pub record TellsSoFar (head : HeadText) (book : List Event) (cluster : Cluster) : Type 0 where
  pub told : TellLosses (first_logs head) [] book
  pub same : IsSameServers (past_of head book) cluster.facts
  pub members : cluster.facts.members ≡ declared_members head
  pub sized : length cluster.facts.servers ≡ member_count head

-- each part of a step tells the first loss, whatever the premises
abbrev pub losses_told : HeadText → Promise
losses_told head = record { premises = λ book. Unit {0}; moment = λ book. Unit {0}; between = TellsSoFar head }

pub composable : (head : HeadText) → IsComposable (losses_told head)
composable head = record { front = λ front rest meets. tt; now = λ book cluster good. tt }

same-over : (past : Past) (cluster : Cluster) (events : List Event)
    → Begins (λ n. n < length cluster.facts.servers) events → IsSameServers past cluster.facts
    → IsSameServers (past_over past events) (cluster_over cluster events).facts
same-over past cluster [] begins same = same
same-over past cluster (event ∷ events) begins same =
    same-over (past_after past event.kind) (cluster_after cluster event.kind) events
    (subst (λ (count : ℕ). Begins (λ n. n < count) events)
    (sym (count-of (now_after cluster.facts.clock event.kind) cluster.facts.servers cluster.facts.remote event.kind))
    begins.1)
    (same-by past cluster.facts event.kind begins.0 same)

sized-over : (cluster : Cluster) (events : List Event)
    → length (cluster_over cluster events).facts.servers ≡ length cluster.facts.servers
sized-over cluster [] = refl
sized-over cluster (event ∷ events) = sized-over (cluster_after cluster event.kind) events
    ∙ count-of (now_after cluster.facts.clock event.kind) cluster.facts.servers cluster.facts.remote event.kind

-- events that tell the first loss, in which only servers of members begin
pub upheld-tells : (head : HeadText) (book : List Event) (cluster : Cluster) (events : List Event)
    → TellsSoFar head book cluster → Tells (first_logs head) book events → Begins (λ n. n < member_count head) events
    → Upholds (losses_told head) book cluster events
upheld-tells head book cluster events good tells begins = record {
  inside = λ front rest e meets. tt;
  behind = λ meets. record {
    told = more-told (first_logs head) [] book events good.told tells.begins tells.told;
    same = subst (λ (p : Past). IsSameServers p (cluster_over cluster events).facts) (sym (past-more head book events))
        (same-over (past_of head book) cluster events
        (subst (λ (count : ℕ). Begins (λ n. n < count) events) (sym good.sized) begins) good.same);
    members = members-over cluster events ∙ good.members;
    sized = sized-over cluster events ∙ good.sized;
  };
}

pub upheld-loseless : (head : HeadText) (book : List Event) (cluster : Cluster) (events : List Event)
    → TellsSoFar head book cluster → AllAre LosesNone events → Upholds (losses_told head) book cluster events
upheld-loseless head book cluster events good all =
    upheld-tells head book cluster events good (record {
      begins = all-tell events all;
      told = all-told (first_logs head) book events all;
    }) (all-begin (λ n. n < member_count head) events all)
