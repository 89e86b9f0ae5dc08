-- In every world that a book brought from a head a view is there exactly where that agent runs.
use Rattle.std.proofs.Common.{◌≡◌, ℕ, ◌<◌, ◌≤◌, List, [], ◌∷◌, length, Option, Some, None, is_some, option_map, arith, refl, ◌∙◌, ap, sym, subst, inl, inr, suc, zero}
use Rattle.std.specs.Prelude.{option_and_then, slice_get}
use Rattle.std.proofs.lemmas.List.{length-map, length-replicate}
use Rattle.std.proofs.lemmas.Option.{none-some, slice_get_cases, slice_get_past, slice_get_within}
use Rattle.pat_base.specs.declared.member_id.MemberId.{MemberId}
use Rattle.pat_base.specs.declared.ticks.Ticks.{Ticks}
use Rattle.pg_model.specs.Facts.{fresh}
use Rattle.cluster_view.specs.declared.view.AgentView.{AgentView}
use Rattle.script_model.specs.Script.{HeadText, IsHead, names_of}
use Rattle.event_book.specs.declared.event.Event.{Event}
use Rattle.event_book.specs.declared.member.Member.{Member}
use Rattle.event_book.specs.Processes.{first_processes}
use Rattle.cluster_model.specs.Cluster.{cluster_after, cluster_over}
use Rattle.cluster_model.specs.Inputs.{standing_of}
use Rattle.cluster_model.specs.Next.{declared}
use Rattle.cluster_model.specs.Starting.{cluster_of, options_of}
use Rattle.cluster_model.specs.State.{Cluster}
use Rattle.run_promise.specs.Members.{declared_members, member_count}
use Rattle.lease_parts.specs.Machines.{IsSized}
use Rattle.lease_parts.proofs.Machines.{sized-by}
use Rattle.run_promise.proofs.Members.{counted, few-names, numbered}
use Rattle.world_model.specs.Running.{agent_runs, runs_now}
use Rattle.world_model.proofs.Running.{Alike, alike-after, alike-start, member-runs}
use Rattle.world_stage.specs.AgentViews.{IsViewOf, agent_of}
use Rattle.simulation.specs.Book.{StandsFor}
use Rattle.pat_base.specs.declared.member_id.TheConstants.{MOST_MEMBERS}

-- what every book keeps of a cluster: how many members there are, and which of them have an agent
record IsWhole (head : HeadText) (cluster : Cluster) : Type 0 where
  members : cluster.facts.members ≡ declared_members head
  options : cluster.options ≡ options_of head
  sized : IsSized (member_count head) cluster.facts
  alike : Alike cluster

whole-over : (head : HeadText) (cluster : Cluster) (book : List Event) → IsWhole head cluster
    → IsWhole head (cluster_over cluster book)
whole-over head cluster [] whole = whole
whole-over head cluster (event ∷ book) whole =
    whole-over head (cluster_after cluster event.kind) book
    (record {
      members = whole.members;
      options = whole.options;
      sized = sized-by (member_count head) cluster.facts event.kind whole.sized;
      alike = alike-after cluster event.kind whole.alike;
    })

first-sized : (count : ℕ) → length (first_processes count) ≡ count
first-sized zero = refl
first-sized (suc count) = ap suc (first-sized count)

whole-first : (head : HeadText) → IsHead head → IsWhole head (cluster_of head)
whole-first head is = record {
  members = refl;
  options = refl;
  sized = record {
    agents = first-sized (member_count head);
    servers = length-replicate (member_count head) (fresh head.base);
    deadlines = length-replicate (member_count head) (let none : Option Ticks = None in none);
    holds = length-replicate (member_count head) (let none : Option Ticks = None in none);
  };
  alike = alike-start head is.few;
}

options-sized : (head : HeadText) → length (options_of head) ≡ member_count head
options-sized head = length-map head.members _ ∙ sym (length-map head.members _)

module _ (head : HeadText) (few : length (names_of head) ≤ MOST_MEMBERS) (cluster : Cluster)
    (whole : IsWhole head cluster) where
  runs-by : (id : MemberId) (found : Option Member) → declared cluster id ≡ found
      → is_some (option_and_then (standing_of cluster) found) ≡ agent_runs cluster id
  runs-by id (Some member) is =
      let at : slice_get (declared_members head) id.number ≡ Some member =
      ap (λ (ms : List Member). slice_get ms id.number) (sym whole.members) ∙ is in
      let number : member.id.number ≡ id.number = numbered head few id.number member at in
      let small : id.number < member_count head = subst (λ (n : ℕ). id.number < n) (counted head few)
      (slice_get_within (declared_members head) id.number member at) in
      let within : (count : ℕ) → count ≡ member_count head → member.id.number < count =
      λ count e. omega (arith, small, number, e) in
      member-runs cluster member
      (within (length cluster.options) (ap (λ os. length os) whole.options ∙ options-sized head))
      (within (length cluster.facts.deadlines) whole.sized.deadlines)
      (within (length cluster.facts.holds) whole.sized.holds)
      (within (length cluster.facts.servers) whole.sized.servers) whole.alike
      ∙ ap (λ (m : ℕ). runs_now (slice_get cluster.facts.processes m)) number
  runs-by id None is = elim (slice_get_cases cluster.facts.members id.number).1 [
    | inl found ↦ absurd (none-some found.0 (sym is ∙ found.2))
    | inr past ↦
        let long : length cluster.facts.members ≡ member_count head =
        ap (λ (ms : List Member). length ms) whole.members ∙ counted head few in
        sym (ap runs_now
        (slice_get_past cluster.facts.processes id.number (omega (arith, past.0, long, whole.sized.agents))))
  ]

some-mapped : {A B : Type 0} (f : A → B) (found : Option A) → is_some (option_map f found) ≡ is_some found
some-mapped f None = refl
some-mapped f (Some x) = refl

-- a view is there exactly where that agent runs, in every world that a book brought from a head
pub view-runs : (cluster : Cluster) (id : MemberId) (view : Option AgentView) → IsViewOf cluster id view
    → (head : HeadText) (book : List Event) → IsHead head → StandsFor (cluster_of head) book cluster
    → is_some view ≡ agent_runs cluster id
view-runs cluster id view shows head book is stands =
    let few = few-names head is in
    let whole : IsWhole head cluster =
    subst (IsWhole head) (sym stands.world_is) (whole-over head (cluster_of head) book (whole-first head is)) in
    sym (some-mapped _ view) ∙ ap is_some shows.shows ∙ some-mapped _ (agent_of cluster id)
    ∙ runs-by head few cluster whole id (declared cluster id) refl
