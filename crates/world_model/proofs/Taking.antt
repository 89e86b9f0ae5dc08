-- Parts of a step, one after another.
use Rattle.std.proofs.Common.{◌≡◌, ℕ, ◌+◌, ◌≤◌, List, [], ◌∷◌, ◌++◌, Option, Some, arith, refl, ◌∙◌, ap, sym, subst}
use Rattle.event_book.specs.declared.event.Event.{Event}
use Rattle.event_book.specs.declared.event.EventKind.{EventKind}
use Rattle.event_list.specs.Listed.{Listed, ◌+++◌}
use Rattle.event_list.proofs.Appended.{appended-nil, appended_assoc}
use Rattle.cluster_model.specs.Cluster.{cluster_after, cluster_over}
use Rattle.cluster_model.specs.State.{Cluster}
use Rattle.cluster_model.specs.Parts.{events_of, events_then, for_some, event_of}
use Rattle.world_model.specs.Emits.{Emits}
use Rattle.world_model.specs.Comes.{Counts}
use Rattle.world_model.specs.Room.{event_cost}
use Rattle.world_model.proofs.Rooms.{HasRoom-cluster_after, HasRoom-fewer}

pub cluster_over-append : (cluster : Cluster) (xs ys : List Event)
    → cluster_over cluster (xs ++ ys) ≡ cluster_over (cluster_over cluster xs) ys
cluster_over-append cluster [] ys = refl
cluster_over-append cluster (x ∷ xs) ys = cluster_over-append (cluster_after cluster x.kind) xs ys

-- who is declared stays so
pub members-stay : (cluster : Cluster) (events : List Event)
    → (cluster_over cluster events).facts.members ≡ cluster.facts.members
members-stay cluster [] = refl
members-stay cluster (event ∷ events) = members-stay (cluster_after cluster event.kind) events

pub Emits-members : (before after : Cluster) (had has : Listed) (events : List Event) (cost : ℕ)
    → Emits before after had has events cost → after.facts.members ≡ before.facts.members
Emits-members before after had has events cost took =
    ap (λ (c : Cluster). c.facts.members) took.state ∙ members-stay before events

-- nothing happened
pub Emits-nothing : (cluster : Cluster) (had : Listed) (cost : ℕ) → Emits cluster cluster had had [] cost
Emits-nothing cluster had cost = record {
  state = refl;
  event = sym (appended-nil had);
  room = λ more room. HasRoom-fewer cluster (cost + more) more (omega arith) room;
}

-- one thing happened
pub Emits-one : (before after : Cluster) (had has : Listed) (kind : EventKind) → Counts before kind
    → after ≡ cluster_after before kind → has ≡ had +++ event_of before kind
    → Emits before after had has (event_of before kind) (event_cost kind)
Emits-one before after had has kind counts state event = record {
  state = state;
  event = event;
  room = λ more room. rw state (HasRoom-cluster_after before kind more counts room);
}

-- these events happened, and then what comes after them
pub Emits-then : (first second third : Cluster) (had has all : Listed) (events : List Event)
    (more : Cluster → List Event) (cost next whole : ℕ)
    → Emits first second had has events cost → Emits second third has all (more second) next
    → cost + next ≤ whole → Emits first third had all (events_then first events more) whole
Emits-then first second third had has all events more cost next whole one two enough = record {
  state = two.state ∙ ap (λ c. cluster_over c (more c)) one.state
      ∙ sym (cluster_over-append first events (more (cluster_over first events)));
  event = two.event ∙ ap (λ es. es +++ more second) one.event ∙ appended_assoc had events (more second)
      ∙ ap (λ c. had +++ (events ++ more c)) one.state;
  room = λ spare room. two.room spare
      (one.room (next + spare)
      (HasRoom-fewer first (whole + spare) (cost + (next + spare)) (omega (arith, enough)) room));
}

-- a greater cost is a cost too
pub Emits-weaker : (before after : Cluster) (had has : Listed) (events : List Event) (cost whole : ℕ)
    → Emits before after had has events cost → cost ≤ whole → Emits before after had has events whole
Emits-weaker before after had has events cost whole took enough = record {
  state = took.state;
  event = took.event;
  room = λ more room. took.room more (HasRoom-fewer before (whole + more) (cost + more) (omega (arith, enough)) room);
}

-- one thing happened, and then others
pub Emits-more : (first second third : Cluster) (had mid has : Listed) (kind : EventKind)
    (more : List EventKind) (cost whole : ℕ)
    → Emits first second had mid (event_of first kind) 1 → Emits second third mid has (events_of second more) cost
    → 1 + cost ≤ whole → Emits first third had has (events_of first (kind ∷ more)) whole
Emits-more first second third had mid has kind more cost whole one rest enough =
    Emits-then first second third had mid has (event_of first kind)
    (λ later. events_of later more) 1 cost whole one rest enough

-- what comes of something that is there
pub found-took : (X : Type 0) (before after : Cluster) (had has : Listed) (events : X → List Event)
    (found : Option X) (x : X) (cost : ℕ) → found ≡ Some x → Emits before after had has (events x) cost
    → Emits before after had has (for_some found events) cost
found-took X before after had has events found x cost is took =
    subst (λ (o : Option X). Emits before after had has (for_some o events) cost) (sym is) took
