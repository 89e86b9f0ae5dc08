-- The world before the first step.
use Rattle.std.proofs.Common.{◌≡◌, ℕ, ◌+◌, ◌*◌, ◌-◌, ◌≤◌, ◌<◌, List, [], ◌∷◌, ◌++◌, length, drop, get_or, Option, Some, None, arith, append_assoc, append-nil, refl, ◌∙◌, ap, sym, zero, suc, All, ◌^◌, map, replicate}
use Rattle.std.specs.Prelude.{slice_get}
use Rattle.std.proofs.lemmas.List.{drop_all, drop_more}
use Rattle.std.proofs.lemmas.List.Elements.{All-nil, All-cons}
use Rattle.pat_base.specs.declared.member_id.MemberId.{MemberId}
use Rattle.pat_base.specs.declared.name.Name.{Name}
use Rattle.pat_base.specs.MemberId.{member_of}
use Rattle.pat_base.proofs.Lists.{drop-get}
use Rattle.pg_model.specs.Facts.{fresh}
use Rattle.member_options.specs.declared.member_option.MemberOptions.{MemberOptions}
use Rattle.script_model.specs.Script.{HeadText, names_of}
use Rattle.event_book.specs.declared.member.Member.{Member}
use Rattle.event_book.specs.declared.agent_process.AgentProcess.{AgentProcess}
use Rattle.event_book.specs.Processes.{first_processes, running_in}
use Rattle.event_book.specs.Members.{members_from, put_first}
use Rattle.cluster_model.specs.Starting.{cluster_of, first_agent}
use Rattle.world_model.specs.Room.{HasNumbers, HasRoom, HasRoomFor, most_steps, step_cost}
use Rattle.world_model.proofs.Rooms.{HasRoom-fewer}
use Rattle.world_model.proofs.ServerRooms.{HasTimeline}

pub members-more : (names : List Name) (done longer : List Member) (place : ℕ) (member : Member)
    → done ++ members_from place (drop place names) ≡ members_from 0 names
    → member_of place ≡ Some member.id → slice_get names place ≡ Some member.name → longer ≡ done ++ member ∷ []
    → longer ++ members_from (place + 1) (drop (place + 1) names) ≡ members_from 0 names
members-more names done longer place member so id name is =
    ap (λ l. l ++ members_from (place + 1) (drop (place + 1) names)) is
    ∙ append_assoc done (member ∷ []) (members_from (place + 1) (drop (place + 1) names))
    ∙ ap (λ o. done ++ put_first o member.name (members_from (place + 1) (drop (place + 1) names))) (sym id)
    ∙ ap (λ ns. done ++ members_from place ns) (sym (drop-get Name names place member.name name))
    ∙ so

agents-one : (n k : ℕ) → n ≡ suc k → first_processes n ≡ running_in 1 ∷ first_processes k
agents-one n k e = rw e refl

pub agents-more : (done longer : List AgentProcess) (place count : ℕ) → place < count
    → done ++ first_processes (count - place) ≡ first_processes count → longer ≡ done ++ running_in 1 ∷ []
    → longer ++ first_processes (count - (place + 1)) ≡ first_processes count
agents-more done longer place count h so is =
    ap (λ l. l ++ first_processes (count - (place + 1))) is
    ∙ append_assoc done (running_in 1 ∷ []) (first_processes (count - (place + 1)))
    ∙ ap (λ t. done ++ t) (sym (agents-one (count - place) (count - (place + 1)) (omega arith)))
    ∙ so

-- one element more of a list that is made from another one, element by element
pub mapped-more : (X Y : Type 0) (f : X → Y) (all : List X) (at : ℕ) (x : X) (done longer : List Y)
    → at < length all → x ≡ get_or all at x
    → done ++ map f (drop at all) ≡ map f all → longer ≡ done ++ f x ∷ []
    → longer ++ map f (drop (at + 1) all) ≡ map f all
mapped-more X Y f all at x done longer h is so more =
    let next : drop at all ≡ x ∷ drop (at + 1) all = drop_more all at x h ∙ ap (λ k. k ∷ drop (at + 1) all) (sym is) in
    ap (λ l. l ++ map f (drop (at + 1) all)) more
    ∙ append_assoc done (f x ∷ []) (map f (drop (at + 1) all))
    ∙ ap (λ xs. done ++ map f xs) (sym next)
    ∙ so

-- the last one was made
pub mapped-end : (X Y : Type 0) (f : X → Y) (all : List X) (at : ℕ) (done : List Y) → length all ≤ at
    → done ++ map f (drop at all) ≡ map f all → done ≡ map f all
mapped-end X Y f all at done h so = sym (append-nil done) ∙ ap (λ xs. done ++ map f xs) (sym (drop_all at all h)) ∙ so

-- one element more of a list
pub rest-more : (X : Type 0) (all done longer : List X) (place : ℕ) (x : X) → done ++ drop place all ≡ all
    → slice_get all place ≡ Some x → longer ≡ done ++ x ∷ [] → longer ++ drop (place + 1) all ≡ all
rest-more X all done longer place x so is more =
    ap (λ l. l ++ drop (place + 1) all) more ∙ append_assoc done (x ∷ []) (drop (place + 1) all)
    ∙ ap (λ xs. done ++ xs) (sym (drop-get X all place x is)) ∙ so

pub rest-end : (X : Type 0) (all done : List X) (place : ℕ) → done ++ drop place all ≡ all
    → length all ≤ place → done ≡ all
rest-end X all done place so h = sym (append-nil done) ∙ ap (λ xs. done ++ xs) (sym (drop_all place all h)) ∙ so

-- so much has room before the first event
abbrev pub ample : ℕ
ample = 2 ^ 59

first-run : (count : ℕ) → All (λ (state : AgentProcess). state.incarnation + ample < 2 ^ 60) (first_processes count)
first-run zero = All-nil (λ (state : AgentProcess). state.incarnation + ample < 2 ^ 60)
first-run (suc count) = All-cons (λ (state : AgentProcess). state.incarnation + ample < 2 ^ 60) (running_in 1)
    (first_processes count) (omega arith) (first-run count)

first-numbers : (scope : Name) (options : List MemberOptions) (members all : List Member)
    → All (HasNumbers ample) (map (first_agent scope options members) all)
first-numbers scope options members [] = All-nil (HasNumbers ample)
first-numbers scope options members (member ∷ more) =
    All-cons (HasNumbers ample) (first_agent scope options members member)
    (map (first_agent scope options members) more) (omega arith) (first-numbers scope options members more)

first-timeline : (base count : ℕ) → All (HasTimeline (ample)) (replicate count (fresh base))
first-timeline base zero = All-nil (HasTimeline (ample))
first-timeline base (suc count) =
    All-cons (HasTimeline (ample)) (fresh base) (replicate count (fresh base)) (omega arith) (first-timeline base count)

-- there is ample room before the first event
pub start-room : (head : HeadText) → HasRoom (cluster_of head) (ample)
start-room head = record {
  clock = omega arith;
  revision = omega arith;
  sent = omega arith;
  runs = first-run (length (names_of head));
  numbers = omega arith;
  agents = first-numbers head.cluster (cluster_of head).options (cluster_of head).facts.members
      (cluster_of head).facts.members;
  timelines = first-timeline head.base (length (names_of head));
  remote = tt;
  commits = omega arith;
}

-- that is the room of 2^30 steps
pub steps-room : (head : HeadText) → HasRoomFor (cluster_of head) most_steps
steps-room head = record {
  room = HasRoom-fewer (cluster_of head) ample (step_cost * most_steps) (omega arith) (start-room head);
}

put-short : (id : Option MemberId) (name : Name) (members : List Member)
    → length (put_first id name members) ≤ suc (length members)
put-short None name members = omega arith
put-short (Some id) name members = omega arith

-- there are no more members than names
pub members-few : (number : ℕ) (names : List Name) → length (members_from number names) ≤ length names
members-few number [] = omega arith
members-few number (name ∷ names) =
    omega (arith, put-short (member_of number) name (members_from (number + 1) names), members-few (number + 1) names)
