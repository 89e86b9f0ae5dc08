-- Lists of servers with one of them changed, and the marks of those that are in step.
use Rattle.std.proofs.Common.{◌≡◌, ℕ, ◌<◌, ◌≤◌, ◌==◌, ◌&&◌, Bool, true, false, List, [], ◌++◌, length, map, get_or, Option, Some, None, ◌⊎◌, inl, inr, refl, sym, ap, subst, ◌∙◌, arith, append_assoc, append-nil, length-set}
use Rattle.std.specs.Prelude.{slice_get, slice_set, IfSome}
use Rattle.std.specs.Option.{option_map}
use Rattle.std.proofs.lemmas.Bool.Decides.{nat_tests}
use Rattle.std.proofs.lemmas.Bool.{cases_eq, and_parts}
use Rattle.std.proofs.lemmas.List.{map-set, length-map}
use Rattle.std.proofs.lemmas.Option.{same_Some, slice_get-map, slice_get_within, slice_get_past, slice_get_read, get_or_from_slice_get}
use Rattle.std.proofs.Math.Seq.{map-set_same}
use Rattle.pat_base.specs.Changes.{changed_at, with_changed}
use Rattle.wal_model.specs.declared.entry.Entry.{Entry}
use Rattle.wal_model.specs.Log.{IsPrefixOf}
use Rattle.pg_model.proofs.Lists.{got-set_same, got-set_other}
use Rattle.pg_model.specs.Facts.{ServerFacts}
use Rattle.pg_model.specs.Replication.{appended}
use Rattle.pg_cluster.specs.Servers.{without_spare, entry_at, entry_for, after_entry, committed_at}
use Rattle.pg_model.specs.CatchingUp.{LogPosition, log_position_of, upstream_number_of, IsBehind}
use Rattle.pg_cluster.specs.InStep.{is_place, IsInStep, MarksHold, Forgets}

-- a server, as others see it
pub without_spare-at : (xs list : List ServerFacts) (place : ℕ) (x : ServerFacts) → map without_spare xs ≡ list
    → slice_get xs place ≡ Some x → slice_get list place ≡ Some (without_spare x)
without_spare-at xs list place x view found = ap (λ (t : List ServerFacts). slice_get t place) (sym view)
    ∙ slice_get-map without_spare xs place ∙ ap (option_map without_spare) found

pub absent-at : (xs list : List ServerFacts) (place : ℕ) → map without_spare xs ≡ list → length xs ≤ place
    → slice_get list place ≡ None
absent-at xs list place view past = ap (λ (t : List ServerFacts). slice_get t place) (sym view)
    ∙ slice_get-map without_spare xs place ∙ ap (option_map without_spare) (slice_get_past xs place past)

-- a fact that is required of the server at a place
pub required-at : (xs list : List ServerFacts) (place : ℕ) (x : ServerFacts) (P : ServerFacts → Type 0)
    → map without_spare xs ≡ list → slice_get xs place ≡ Some x → IfSome (slice_get list place) P → P (without_spare x)
required-at xs list place x P view found h =
    subst (λ (o : Option ServerFacts). IfSome o P) (without_spare-at xs list place x view found) h

-- one of the servers changes, as others see it
pub changed : (xs list : List ServerFacts) (place : ℕ) (x y : ServerFacts) (change : ServerFacts → ServerFacts)
    → map without_spare xs ≡ list → slice_get xs place ≡ Some x → without_spare y ≡ change (without_spare x)
    → map without_spare (slice_set xs place y) ≡ with_changed list place change
changed xs list place x y change view found e =
    map-set without_spare xs place y
    ∙ ap (λ (t : List ServerFacts). slice_set t place (without_spare y)) view
    ∙ ap (slice_set list place) e
    ∙ sym (ap (changed_at list place change) (without_spare-at xs list place x view found))

appended-by : (entry : Option Entry) (xs list : List ServerFacts) (place : ℕ) (x y : ServerFacts)
    → map without_spare xs ≡ list → slice_get xs place ≡ Some x → y ≡ after_entry entry x
    → map without_spare (slice_set xs place y) ≡ committed_at list place entry
appended-by None xs list place x y view found e =
    map-set_same without_spare xs place y x (ap without_spare (e ∙ sym (get_or_from_slice_get xs place x x found)))
    ∙ view
appended-by (Some entry) xs list place x y view found e =
    changed xs list place x y (appended entry) view found (ap without_spare e)

-- a commit at one of the servers, as others see it
pub committed : (xs list : List ServerFacts) (place : ℕ) (x y : ServerFacts) (serial bytes : ℕ)
    → map without_spare xs ≡ list → slice_get xs place ≡ Some x → y ≡ after_entry (entry_at (Some x) serial bytes) x
    → map without_spare (slice_set xs place y) ≡ committed_at list place (entry_for list place serial bytes)
committed xs list place x y serial bytes view found e =
    appended-by (entry_at (Some x) serial bytes) xs list place x y view found e
    ∙ sym (ap (λ (s : Option ServerFacts). committed_at list place (entry_at s serial bytes))
    (without_spare-at xs list place x view found))

-- a server changes and keeps its standing
pub kept : (marks : List Bool) (xs : List ServerFacts) (place : ℕ) (x y : ServerFacts)
    → MarksHold marks (map log_position_of xs) → slice_get xs place ≡ Some x
    → log_position_of y ≡ log_position_of x → MarksHold marks (map log_position_of (slice_set xs place y))
kept marks xs place x y hold found e =
    let same : map log_position_of (slice_set xs place y) ≡ map log_position_of xs = map-set_same log_position_of
    xs place y x (e ∙ ap log_position_of (sym (get_or_from_slice_get xs place x x found))) in
    subst (MarksHold marks) (sym same) hold

-- the same two, of a server that was read at a place where there is one
pub changed-read : (xs list : List ServerFacts) (place count : ℕ) (x y : ServerFacts)
    (change : ServerFacts → ServerFacts) → map without_spare xs ≡ list → x ≡ get_or xs place x
    → count ≡ length xs → place < count → without_spare y ≡ change (without_spare x)
    → map without_spare (slice_set xs place y) ≡ with_changed list place change
changed-read xs list place count x y change view read long within e =
    changed xs list place x y change view (slice_get_read xs count place x long within read) e

pub kept-read : (marks : List Bool) (xs : List ServerFacts) (place count : ℕ) (x y : ServerFacts)
    → MarksHold marks (map log_position_of xs) → x ≡ get_or xs place x → count ≡ length xs → place < count
    → log_position_of y ≡ log_position_of x → MarksHold marks (map log_position_of (slice_set xs place y))
kept-read marks xs place count x y hold read long within e =
    kept marks xs place x y hold (slice_get_read xs count place x long within read) e

prefix-trans : (x y z : List Entry) → IsPrefixOf x y → IsPrefixOf y z → IsPrefixOf x z
prefix-trans x y z p q = record {
  rest = p.rest ++ q.rest;
  whole = q.whole ∙ ap (λ t. t ++ q.rest) p.whole ∙ append_assoc x p.rest q.rest;
}

pub behind-trans : (s t u : LogPosition) → IsBehind s t → IsBehind t u → IsBehind s u
behind-trans s t u p q = record {
  log = prefix-trans s.log t.log u.log p.log q.log;
  timeline = p.timeline ∙ q.timeline;
  history = p.history ∙ q.history;
}

pub log_position-at : (xs : List ServerFacts) (place : ℕ) (x : ServerFacts) → slice_get xs place ≡ Some x
    → slice_get (map log_position_of xs) place ≡ Some (log_position_of x)
log_position-at xs place x found = slice_get-map log_position_of xs place ∙ ap (option_map log_position_of) found

-- the same log, timeline and history with another upstream
abbrev pub with_number : LogPosition → Option ℕ → LogPosition
with_number s number = record s { upstream = number }

number-behind : (s : LogPosition) (number : Option ℕ) → IsBehind s (with_number s number)
number-behind s number =
    record { log = record { rest = []; whole = sym (append-nil s.log) }; timeline = refl; history = refl }

pub marks-length : (marks : List Bool) (xs : List ServerFacts) → MarksHold marks (map log_position_of xs)
    → length xs ≡ length marks
marks-length marks xs hold = sym (hold.one_each ∙ length-map xs log_position_of)

-- a server that follows one which has gone on
still : (ss : List LogPosition) (place : ℕ) (s s' t : LogPosition) → slice_get ss place ≡ Some s
    → IsBehind s s' → IsInStep ss t → IsInStep (slice_set ss place s') t
still ss place s s' t found ahead old = by-place (cases_eq old.number place)
  where
    by-place : (old.number ≡ place) ⊎ (old.number ≡ place → ⊥) → IsInStep (slice_set ss place s') t
    by-place (inl e) =
        let leader : old.leader ≡ s = same_Some old.leader s (sym old.found ∙ ap (slice_get ss) e ∙ found) in
        record {
          number = old.number;
          follows = old.follows;
          leader = s';
          found =
              ap (slice_get (slice_set ss place s')) e ∙ got-set_same ss place s' (slice_get_within ss place s found);
          behind = behind-trans t s s' (subst (IsBehind t) leader old.behind) ahead;
        }
    by-place (inr ne) = record {
      number = old.number;
      follows = old.follows;
      leader = old.leader;
      found = got-set_other ss place old.number s' ne ∙ old.found;
      behind = old.behind;
    }

-- a server goes on: those that were behind it still are
pub moved : (marks : List Bool) (ss : List LogPosition) (place : ℕ) (s s' : LogPosition) (m : Bool)
    → MarksHold marks ss → slice_get ss place ≡ Some s → IsBehind s s'
    → (m ≡ true → IsInStep (slice_set ss place s') s') → MarksHold (slice_set marks place m) (slice_set ss place s')
moved marks ss place s s' m hold found ahead own = record {
  one_each = length-set marks place m ∙ hold.one_each ∙ sym (length-set ss place s');
  in_step = λ k t mark there. by-place k t mark there (cases_eq k place);
}
  where
    by-place : (k : ℕ) (t : LogPosition) → slice_get (slice_set marks place m) k ≡ Some true
        → slice_get (slice_set ss place s') k ≡ Some t → (k ≡ place) ⊎ (k ≡ place → ⊥)
        → IsInStep (slice_set ss place s') t
    by-place k t mark there (inl e) =
        let within : place < length ss = slice_get_within ss place s found in
        let marked : m ≡ true = same_Some m true
        (sym (got-set_same marks place m (omega (arith, hold.one_each, within)))
        ∙ ap (slice_get (slice_set marks place m)) (sym e) ∙ mark) in
        let is : s' ≡ t = same_Some s' t
        (sym (got-set_same ss place s' within) ∙ ap (slice_get (slice_set ss place s')) (sym e) ∙ there) in
        subst (IsInStep (slice_set ss place s')) is (own marked)
    by-place k t mark there (inr ne) =
        still ss place s s' t found ahead
        (hold.in_step k t (sym (got-set_other marks place k m ne) ∙ mark)
        (sym (got-set_other ss place k s' ne) ∙ there))

not-place : (place number : ℕ) → is_place place (Some number) ≡ false → number ≡ place → ⊥
not-place place number h e = grind (arith, nat_tests)

-- a server is another one, and its mark and those of its followers are cleared
pub forgotten : (marks marks' : List Bool) (ss : List LogPosition) (place : ℕ) (s' : LogPosition) → MarksHold marks ss
    → Forgets marks marks' (slice_set ss place s') place → MarksHold marks' (slice_set ss place s')
forgotten marks marks' ss place s' hold forgets = record {
  one_each = forgets.one_each ∙ hold.one_each ∙ sym (length-set ss place s');
  in_step = λ k t mark there. by-place k t mark there (cases_eq k place);
}
  where
    by-place : (k : ℕ) (t : LogPosition) → slice_get marks' k ≡ Some true → slice_get (slice_set ss place s') k ≡ Some t
        → (k ≡ place) ⊎ (k ≡ place → ⊥) → IsInStep (slice_set ss place s') t
    by-place k t mark there (inl e) = absurd (forgets.own (ap (slice_get marks') (sym e) ∙ mark))
    by-place k t mark there (inr ne) =
        let old = hold.in_step k t (forgets.kept k mark) (sym (got-set_other ss place k s' ne) ∙ there) in
        let other : is_place place (Some old.number) ≡ false = ap (is_place place) (sym old.follows)
        ∙ forgets.followers k t mark there in
        record {
          number = old.number;
          follows = old.follows;
          leader = old.leader;
          found = got-set_other ss place old.number s' (not-place place old.number other) ∙ old.found;
          behind = old.behind;
        }

-- a mark is set where its server is in step
pub marked : (marks : List Bool) (ss : List LogPosition) (place : ℕ) (s : LogPosition) (m : Bool) → MarksHold marks ss
    → slice_get ss place ≡ Some s → (m ≡ true → IsInStep ss s) → MarksHold (slice_set marks place m) ss
marked marks ss place s m hold found own = record {
  one_each = length-set marks place m ∙ hold.one_each;
  in_step = λ k t mark there. by-place k t mark there (cases_eq k place);
}
  where
    by-place : (k : ℕ) (t : LogPosition) → slice_get (slice_set marks place m) k ≡ Some true
        → slice_get ss k ≡ Some t → (k ≡ place) ⊎ (k ≡ place → ⊥) → IsInStep ss t
    by-place k t mark there (inl e) =
        let within : place < length ss = slice_get_within ss place s found in
        let set : m ≡ true = same_Some m true
        (sym (got-set_same marks place m (omega (arith, hold.one_each, within)))
        ∙ ap (slice_get (slice_set marks place m)) (sym e) ∙ mark) in
        let is : s ≡ t = same_Some s t (sym found ∙ ap (slice_get ss) (sym e) ∙ there) in
        subst (IsInStep ss) is (own set)
    by-place k t mark there (inr ne) = hold.in_step k t (sym (got-set_other marks place k m ne) ∙ mark) there

-- the same for servers
pub moved-at : (marks : List Bool) (xs : List ServerFacts) (place : ℕ) (x y : ServerFacts) (m : Bool)
    → MarksHold marks (map log_position_of xs) → slice_get xs place ≡ Some x
    → IsBehind (log_position_of x) (log_position_of y)
    → (m ≡ true → IsInStep (map log_position_of (slice_set xs place y)) (log_position_of y))
    → MarksHold (slice_set marks place m) (map log_position_of (slice_set xs place y))
moved-at marks xs place x y m hold found ahead own =
    let is : map log_position_of (slice_set xs place y) ≡ slice_set (map log_position_of xs) place (log_position_of y) =
    map-set log_position_of xs place y in
    subst (MarksHold (slice_set marks place m)) (sym is)
    (moved marks (map log_position_of xs) place (log_position_of x) (log_position_of y) m hold
    (log_position-at xs place x found) ahead
    (λ e. subst (λ (t : List LogPosition). IsInStep t (log_position_of y)) is (own e)))

-- a replica's upstream changes, and its mark stays where it is the same one
pub followed-at : (marks : List Bool) (xs : List ServerFacts) (place : ℕ) (x y : ServerFacts)
    (number : Option ℕ) (b same : Bool) → MarksHold marks (map log_position_of xs) → slice_get xs place ≡ Some x
    → slice_get marks place ≡ Some b → log_position_of y ≡ with_number (log_position_of x) number
    → (same ≡ true → upstream_number_of x.upstream ≡ number)
    → MarksHold (slice_set marks place (b && same)) (map log_position_of (slice_set xs place y))
followed-at marks xs place x y number b same hold found mark is equal =
    moved-at marks xs place x y (b && same) hold found
    (subst (IsBehind (log_position_of x)) (sym is) (number-behind (log_position_of x) number)) own
  where
    own : (b && same) ≡ true → IsInStep (map log_position_of (slice_set xs place y)) (log_position_of y)
    own e =
        let as-before : log_position_of y ≡ log_position_of x = is
        ∙ ap (with_number (log_position_of x)) (sym (equal (and_parts b same e).1)) in
        let list : map log_position_of (slice_set xs place y) ≡ map log_position_of xs = map-set_same log_position_of
        xs place y x (as-before ∙ ap log_position_of (sym (get_or_from_slice_get xs place x x found))) in
        let old : IsInStep (map log_position_of xs) (log_position_of x) = hold.in_step place (log_position_of x)
        (mark ∙ ap (λ t. Some t) (and_parts b same e).0) (log_position-at xs place x found) in
        subst (λ (t : List LogPosition). IsInStep t (log_position_of y)) (sym list)
        (subst (IsInStep (map log_position_of xs)) (sym as-before) old)

pub is_place-number : (place : ℕ) (upstream : Option ℕ) → is_place place upstream ≡ true → upstream ≡ Some place
is_place-number place None e = absurd (clash e)
  where
    clash : false ≡ true → ⊥
    clash e = cc
is_place-number place (Some number) e = ap (λ n. Some n) (same number place e)
  where
    same : (m n : ℕ) → (m == n) ≡ true → m ≡ n
    same m n e = grind (arith, nat_tests)

-- a server is another one, and its mark and those of its followers are cleared
pub forgotten-at : (marks marks' : List Bool) (xs : List ServerFacts) (place : ℕ) (y : ServerFacts)
    → MarksHold marks (map log_position_of xs) → Forgets marks marks' (map log_position_of (slice_set xs place y)) place
    → MarksHold marks' (map log_position_of (slice_set xs place y))
forgotten-at marks marks' xs place y hold forgets =
    let is : map log_position_of (slice_set xs place y) ≡ slice_set (map log_position_of xs) place (log_position_of y) =
    map-set log_position_of xs place y in
    subst (MarksHold marks') (sym is)
    (forgotten marks marks' (map log_position_of xs) place (log_position_of y) hold
    (subst (λ (t : List LogPosition). Forgets marks marks' t place) is forgets))
