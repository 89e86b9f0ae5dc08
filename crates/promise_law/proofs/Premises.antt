-- The premises that the closing summary tells of are those of the laws of one writer and of kept commits.
use Rattle.std.proofs.Common.{◌≡◌, ◌≤◌, ℕ, Option, Bool, List, [], ◌∷◌, length, map, zero, suc, refl, subst, sym, ◌∙◌}
use Rattle.std.specs.Prelude.{not, ◌&&◌, slice_get}
use Rattle.std.proofs.lemmas.List.{length-map}
use mathlib.Core.Path.{fun_ext}
use Rattle.leader_key.specs.declared.watchdog.Mode.{Mode}
use Rattle.leader_key.specs.declared.watchdog.Mode.TheVariants as modes
use Rattle.leader_key.specs.Watchdog.{is_armable}
use Rattle.script_model.specs.Script.{HeadText, IsHead, MemberText, names_of}
use Rattle.event_book.specs.declared.event.Event.{Event}
use Rattle.event_book.specs.Kinds.{AllAre}
use Rattle.cluster_model.specs.Starting.{cluster_of}
use Rattle.event_book.specs.Premises.{ArePremisesMet, IsTimely, first_moments}
use Rattle.summary_model.specs.Claims.{IsSummaryOf, margin_of, works_of as is_watched}
use Rattle.lease_parts.specs.Declaring.{margin_said, works_said}
use Rattle.lease_parts.specs.Kept.{MeetsPremises, WhereMet}
use Rattle.summary_model.specs.Sights.{first_since, book_of}
use Rattle.summary_model.specs.Listed.{AreNamed, NamesServer}
use Rattle.summary_model.specs.Telling.{AreMeasured}
use Rattle.summary_law.proofs.Guarding.{commits-guarded}
use Rattle.summary_law.proofs.Listing.{named-first}
use Rattle.summary_law.proofs.Steps.{steps-guarded, steps-told}
use Rattle.rest_law.proofs.Found.{one-found}
use Rattle.leading_runs.proofs.Leading.{leads-on}
use Rattle.lease_runs.proofs.EveryRun.{runs-one}
use Rattle.lease_runs.proofs.MeasuredRuns.{runs-measured}
use Rattle.lease_runs.proofs.NamedRuns.{runs-name}
use Rattle.commit_runs.specs.Runs.{KeepsCommitsIn, first_logs}
use Rattle.commit_runs.proofs.EveryRun.{runs-in-order, runs-keep}
use Rattle.premise_law.proofs.EveryRun.{runs-feed, runs-pass}
use Rattle.premise_law.proofs.TakeOvers.{take-overs}
use Rattle.cluster_model.specs.State.{Cluster}
use Rattle.event_book.specs.Writers.{HasOneWriter}
use Rattle.run_model.specs.Run.{closing_of_run, events_by_step, Played, run_of}
use Rattle.run_model.specs.Watches.{declared_watch, first_summary, is_off, watches_of}
use Rattle.promise_law.specs.Claims.{KeepsPromises}
use Rattle.promise_law.proofs.Books.{book-by-step, named-steps, steps-tell}

armable : (mode : Mode) (works : Bool) → not (is_off mode) && works ≡ is_armable mode works
armable modes.Off works = refl
armable modes.Automatic works = refl
armable modes.Required works = refl

same-margins : (members : List MemberText) (m : ℕ)
    → margin_of (map declared_watch members) m ≡ margin_said (slice_get members m)
same-margins [] m = refl
same-margins (member ∷ members) zero = refl
same-margins (member ∷ members) (suc m) = same-margins members m

same-works : (members : List MemberText) (m : ℕ)
    → is_watched (map declared_watch members) m ≡ works_said (slice_get members m)
same-works [] m = refl
same-works (member ∷ members) zero = armable member.options.watchdog member.options.device_works
same-works (member ∷ members) (suc m) = same-works members m

-- the premises as the summary is told them are those that the head declares
meets : (head : HeadText) (front : List Event)
    → ArePremisesMet (margin_of (watches_of head)) (is_watched (watches_of head)) head.config front
    → MeetsPremises head front
meets head front met = record {
  timely = subst (λ (margin : ℕ → Option ℕ). IsTimely margin front) (fun_ext (same-margins head.members)) met.timely;
  hands_off = record {
    unpaused = met.hands_off.unpaused;
    watched = λ m. sym (same-works head.members m) ∙ met.hands_off.watched m;
    events = met.hands_off.events;
  };
}

module _ (played : Played) (is : IsHead played.head) where
  abbrev start : Cluster
  start = cluster_of played.head

  whole : book_of (events_by_step start played.steps) ≡ run_of played
  whole = book-by-step start played.steps

  few : length (watches_of played.head) ≤ 16
  few = rw length-map is.few

  measured : AreMeasured first_moments first_since (book_of (events_by_step start played.steps))
  measured = subst (λ (book : List Event). AreMeasured first_moments first_since book) (sym whole)
      (runs-measured played.head played.steps)

  one-writer : WhereMet played.head (run_of played) HasOneWriter
  one-writer front rest parts met = runs-one played.head is played.steps front rest parts met.timely met.hands_off

  keeps-commits : KeepsCommitsIn played.head (run_of played)
  keeps-commits = runs-keep played.head is played.steps

  closes : IsSummaryOf (watches_of played.head) played.head.config (first_logs played.head) (run_of played)
      (closing_of_run played)
  closes =
      subst (λ (book : List Event).
      IsSummaryOf (watches_of played.head) played.head.config (first_logs played.head) book (closing_of_run played))
      whole
      (steps-told (watches_of played.head) played.head.config (first_logs played.head)
      (events_by_step start played.steps) few measured (steps-tell played.head is played.steps))

  named : AreNamed (slice_get (names_of played.head)) (closing_of_run played).writers
  named = named-steps (slice_get (names_of played.head)) (first_summary played.head) (events_by_step start played.steps)
      (subst (λ (book : List Event). AllAre (NamesServer (slice_get (names_of played.head))) book) (sym whole)
      (runs-name played.head played.steps is))
      (named-first (slice_get (names_of played.head)))

  -- a run of a head that a script may have keeps what every run keeps
  pub keeps-promises : KeepsPromises played
  keeps-promises = record {
    one_writer = one-writer;
    one_primary = λ front rest parts met. one-found played.head front (one-writer front rest parts met);
    leads_on = leads-on played.head is played.steps;
    kept_commits = keeps-commits;
    sync_order = runs-in-order played.head is played.steps;
    own_grants = runs-feed played.head is played.steps;
    outside_sync = runs-pass played.head is played.steps;
    take_overs = take-overs played.head (run_of played);
    summary = closes;
    names = named;
    premises_guard = steps-guarded (watches_of played.head) played.head.config (events_by_step start played.steps) few
        measured (λ front rest parts met. one-writer front rest (parts ∙ whole) (meets played.head front met));
    commits_guard = λ on. commits-guarded (watches_of played.head) played.head.config (first_logs played.head)
        (run_of played) (closing_of_run played) closes on
        (λ front rest parts met mode. keeps-commits on front rest parts (meets played.head front met) mode);
  }
