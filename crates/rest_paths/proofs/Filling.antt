-- A router that is filled with the rows of a table.
use Rattle.std.proofs.Common.{◌≡◌, ℕ, ◌+◌, ◌<◌, ◌≤◌, ◌&&◌, Bool, true, false, cond, IsTrue, List, [], ◌∷◌, ◌++◌, length, take, get_or, map, Bor, Option, Some, None, option_map, is_none, Ok, Err, zero, suc, arith, refl, ap, sym, subst, ◌∙◌}
use Rattle.std.specs.List.{list_all}
use Rattle.std.proofs.Math.ListN.{get_or-map}
use Rattle.std.specs.Map.{lookup as found_in}
use Rattle.std.specs.Option.{option_or}
use Rattle.std.specs.Str.{bytes_eq}
use Rattle.std.proofs.lemmas.Slice.Eq.{bytes_eq-Decides}
use Rattle.std.proofs.lemmas.Bool.{true≢false}
use Rattle.std.proofs.lemmas.Cmp.{nat_list_eq_equiv}
use Rattle.std.proofs.lemmas.List.{take_more, take_all}
use Rattle.std.proofs.lemmas.Option.{none-some}
use Rattle.matchit.specs.Rows.{RowsOf, comes_before}
use Rattle.matchit.specs.Order.{lookup, placed}
use Rattle.matchit.specs.Seek.{same_text, first}
use Rattle.matchit.specs.Route.{parse_route}
use Rattle.matchit.specs.Router.{RouteOf, nearest, InsertsRead, Refused}
use Rattle.matchit.specs.declared.error.InsertError.{InsertError}
use Rattle.matchit.specs.declared.error.InsertError.TheVariants.{Conflict, InvalidParam, InvalidParamSegment, InvalidCatchAll, OutOfMemory}
use Rattle.rest_paths.specs.declared.resource.Resource.{Resource}
use Rattle.rest_paths.specs.Paths.{path_table}
use Rattle.rest_paths.specs.Serving.{Serves}
use Rattle.rest_paths.proofs.Literals.{both, are_literal, seek-lookup}
use Rattle.rest_paths.proofs.Parsing.{is_plain, parse_route-plain}

same-text : (text other : List ℕ) → same_text text other ≡ true → text ≡ other
same-text text other e = (bytes_eq-Decides text other).0 e

none-from : {A : Type 0} (found : Option A) → IsTrue (is_none found) → found ≡ None
none-from None e = refl
none-from (Some x) e = cc

module _ {K : Type 0} where
  absent-later : (here : Bool) (route : K) (later : Option K) → cond here (Some route) later ≡ None
      → (here ≡ false) × (later ≡ None)
  absent-later true route later e = cc
  absent-later false route later e = (refl, e)

  -- of two routes with different texts it doesn't matter which is looked at first
  swap-by : (is_other is_text : Bool) (other text path : List ℕ) (new route : K) (later : Option K)
      → same_text other path ≡ is_other → same_text text path ≡ is_text → same_text other text ≡ false
      → cond is_other (Some route) (cond is_text (Some new) later)
      ≡ cond is_text (Some new) (cond is_other (Some route) later)
  swap-by false is_text other text path new route later first second apart = refl
  swap-by true false other text path new route later first second apart = refl
  swap-by true true other text path new route later first second apart =
      let alike : same_text other text ≡ true =
      (bytes_eq-Decides other text).1 (same-text other path first ∙ sym (same-text text path second)) in
      absurd (true≢false (sym alike ∙ apart))

  place-by : (before : Bool) (text other path : List ℕ) (new route : K) (rows : RowsOf K) → same_text other text ≡ false
      → lookup path (placed (text, new) rows) ≡ cond (same_text text path) (Some new) (lookup path rows)
      → lookup path (cond before ((text, new) ∷ (other, route) ∷ rows) ((other, route) ∷ placed (text, new) rows))
      ≡ cond (same_text text path) (Some new) (lookup path ((other, route) ∷ rows))
  place-by true text other path new route rows apart later = refl
  place-by false text other path new route rows apart later =
      rw later
      (swap-by (same_text other path) (same_text text path) other text path new route
      (lookup path rows) refl refl apart)

  -- a new route is found where its text is the path, and what was found stays found elsewhere
  lookup-placed : (text path : List ℕ) (new : K) (rows : RowsOf K) → lookup text rows ≡ None
      → lookup path (placed (text, new) rows) ≡ cond (same_text text path) (Some new) (lookup path rows)
  lookup-placed text path new [] absent = refl
  lookup-placed text path new ((other, route) ∷ rows) absent =
      let parts = absent-later (same_text other text) route (lookup text rows) absent in
      place-by (comes_before text other) text other path new route rows parts.0
      (lookup-placed text path new rows parts.1)

module _ {V : Type 0} where
  -- the route of a row
  abbrev pub route_of : List ℕ × V → RouteOf V
  route_of row = record { pattern = row.0; text = row.0; names = []; value = row.1 }

  -- the routes with that of a row put in
  abbrev pub added_to : RowsOf (RouteOf V) → List ℕ × V → RowsOf (RouteOf V)
  added_to routes row = placed (row.0, route_of row) routes

  -- the routes with those of these rows put in, one after the other
  abbrev pub filled_with : RowsOf (RouteOf V) → List (List ℕ × V) → RowsOf (RouteOf V)
  filled_with routes [] = routes
  filled_with routes (row ∷ rows) = filled_with (added_to routes row) rows

  filled_with-more : (routes : RowsOf (RouteOf V)) (rows : List (List ℕ × V)) (row : List ℕ × V)
      → filled_with routes (rows ++ row ∷ []) ≡ added_to (filled_with routes rows) row
  filled_with-more routes [] row = refl
  filled_with-more routes (head ∷ rows) row = filled_with-more (added_to routes head) rows row

  filled_with-next : (rows : List (List ℕ × V)) (i : ℕ) (d : List ℕ × V) → i < length rows
      → added_to (filled_with [] (take i rows)) (get_or rows i d) ≡ filled_with [] (take (i + 1) rows)
  filled_with-next rows i d within =
      sym (filled_with-more [] (take i rows) (get_or rows i d)) ∙ ap (filled_with []) (sym (take_more rows i d within))

  -- a row can be put in: its text stands for itself, and neither a
  -- route of that text is there nor one that it conflicts with
  abbrev pub can_add : RowsOf (RouteOf V) → List ℕ × V → Bool
  can_add routes row = list_all is_plain row.0 && (is_none (lookup row.0 routes) && is_none (nearest row.0 routes))

  -- so can these rows, one after the other
  abbrev pub can_fill : RowsOf (RouteOf V) → List (List ℕ × V) → Bool
  can_fill routes [] = true
  can_fill routes (row ∷ rows) = can_add routes row && can_fill (added_to routes row) rows

  -- the same as facts
  record IsNew (routes : RowsOf (RouteOf V)) (row : List ℕ × V) : Type 0 where
    pub plain : IsTrue (list_all is_plain row.0)
    pub absent : lookup row.0 routes ≡ None
    pub unopposed : nearest row.0 routes ≡ None

  can_add-new : (routes : RowsOf (RouteOf V)) (row : List ℕ × V) → IsTrue (can_add routes row) → IsNew routes row
  can_add-new routes row can =
      let text = both (list_all is_plain row.0) (is_none (lookup row.0 routes) && is_none (nearest row.0 routes)) can in
      let others = both (is_none (lookup row.0 routes)) (is_none (nearest row.0 routes)) text.1 in
      record {
        plain = text.0;
        absent = none-from (lookup row.0 routes) others.0;
        unopposed = none-from (nearest row.0 routes) others.1;
      }

  can_fill-new : (routes : RowsOf (RouteOf V)) (row : List ℕ × V) (rows : List (List ℕ × V))
      → IsTrue (can_fill routes (row ∷ rows)) → IsNew routes row × IsTrue (can_fill (added_to routes row) rows)
  can_fill-new routes row rows can =
      let parts = both (can_add routes row) (can_fill (added_to routes row) rows) can in
      (can_add-new routes row parts.0, parts.1)

  -- so each row is new where those before it are in
  new-at : (routes : RowsOf (RouteOf V)) (rows : List (List ℕ × V)) (i : ℕ) (d : List ℕ × V) → i < length rows
      → IsTrue (can_fill routes rows) → IsNew (filled_with routes (take i rows)) (get_or rows i d)
  new-at routes [] i d within can = absurd (omega (arith, within))
  new-at routes (row ∷ rows) zero d within can = (can_fill-new routes row rows can).0
  new-at routes (row ∷ rows) (suc i) d within can =
      new-at (added_to routes row) rows i d (omega (arith, within)) (can_fill-new routes row rows can).1

  -- the value of the route of a path
  abbrev pub value_at : List ℕ → RowsOf (RouteOf V) → Option V
  value_at path routes = option_map (λ route. route.value) (lookup path routes)

  served-by : (here : Bool) (path : List ℕ) (row : List ℕ × V) (routes : RowsOf (RouteOf V)) (later : Option V)
      → same_text row.0 path ≡ here → lookup row.0 routes ≡ None
      → option_or
      (option_map (λ (route : RouteOf V). route.value) (cond here (Some (route_of row)) (lookup path routes))) later
      ≡ option_or (value_at path routes) (cond here (Some row.1) later)
  served-by true path row routes later same absent =
      rw (ap (λ text. lookup text routes) (sym (same-text row.0 path same)) ∙ absent) refl
  served-by false path row routes later other absent = refl

  option_or-none : (o : Option V) → o ≡ option_or o None
  option_or-none None = refl
  option_or-none (Some value) = refl

  -- a path finds what it found before, or else what the first row of that path says
  filled_with-serves : (path : List ℕ) (routes : RowsOf (RouteOf V)) (rows : List (List ℕ × V))
      → IsTrue (can_fill routes rows)
      → value_at path (filled_with routes rows) ≡ option_or (value_at path routes) (found_in (bytes_eq path) rows)
  filled_with-serves path routes [] can = option_or-none (value_at path routes)
  filled_with-serves path routes (row ∷ rows) can =
      let parts = can_fill-new routes row rows can in
      filled_with-serves path (added_to routes row) rows parts.1
      ∙ (ap (λ found. option_or (option_map (λ (route : RouteOf V). route.value) found) (found_in (bytes_eq path) rows))
      (lookup-placed row.0 path (route_of row) routes parts.0.absent)
      ∙ (served-by (same_text row.0 path) path row routes (found_in (bytes_eq path) rows) refl parts.0.absent
      ∙ ap (λ here. option_or (value_at path routes) (cond here (Some row.1) (found_in (bytes_eq path) rows)))
      (nat_list_eq_equiv.symm row.0 path)))

  -- one more row, by an insertion that came about
  added-by-insert : (row : List ℕ × V) (old new : RowsOf (RouteOf V)) → IsNew old row
      → InsertsRead (parse_route row.0) row.1 old new (Ok tt) → new ≡ added_to old row
  added-by-insert row old new is inserted =
      (subst (λ result. InsertsRead result row.1 old new (Ok tt)) (parse_route-plain row.0 is.plain) inserted).1

  -- an insertion fails only for want of memory
  memory-alone : (row : List ℕ × V) (old : RowsOf (RouteOf V)) (fault : InsertError)
      → nearest row.0 old ≡ None → Refused row.0 old fault → fault ≡ OutOfMemory
  memory-alone row old (Conflict with) none refused = absurd (none-some refused.0 (sym none ∙ refused.1))
  memory-alone row old OutOfMemory none refused = refl
  memory-alone row old InvalidParamSegment none refused = absurd refused
  memory-alone row old InvalidParam none refused = absurd refused
  memory-alone row old InvalidCatchAll none refused = absurd refused

  insert-fails : (row : List ℕ × V) (old new : RowsOf (RouteOf V)) (fault : InsertError) → IsNew old row
      → InsertsRead (parse_route row.0) row.1 old new (Err fault) → fault ≡ OutOfMemory
  insert-fails row old new fault is refused =
      memory-alone row old fault is.unopposed
      (subst (λ result. InsertsRead result row.1 old new (Err fault)) (parse_route-plain row.0 is.plain) refused).1

pub table-can-fill : IsTrue (can_fill [] path_table)
table-can-fill = refl

table-literal : IsTrue (are_literal (filled_with [] path_table))
table-literal = refl

-- a row of the constant in the code, whose path is lent
abbrev pub row_of : Bor (List ℕ) × Resource → List ℕ × Resource
row_of item = (item.0.now, item.1)

-- the first so many of these items, which are the rows of the table, are put in
pub record IsFilled (items : List (Bor (List ℕ) × Resource)) (i : ℕ) (routes : RowsOf (RouteOf Resource)) : Type 0 where
  pub rows : map row_of items ≡ path_table
  pub filled : routes ≡ filled_with [] (take i path_table)

-- the next item is the row that is new then
next-row : (items : List (Bor (List ℕ) × Resource)) (i : ℕ) (d : Bor (List ℕ) × Resource)
    → map row_of items ≡ path_table → row_of (get_or items i d) ≡ get_or path_table i (row_of d)
next-row items i d rows = sym (get_or-map row_of items i d) ∙ ap (λ rows. get_or rows i (row_of d)) rows

next-new : (items : List (Bor (List ℕ) × Resource)) (i : ℕ) (d : Bor (List ℕ) × Resource)
    (routes : RowsOf (RouteOf Resource)) → IsFilled items i routes → i < length path_table
    → IsNew routes (row_of (get_or items i d))
next-new items i d routes is within =
    rw (next-row items i d is.rows, is.filled) (new-at [] path_table i (row_of d) within table-can-fill)

pub one-more : (items : List (Bor (List ℕ) × Resource)) (i : ℕ) (d : Bor (List ℕ) × Resource)
    (old new : RowsOf (RouteOf Resource)) → IsFilled items i old → i < length path_table
    → InsertsRead (parse_route (get_or items i d).0.now) (get_or items i d).1 old new (Ok tt)
    → IsFilled items (i + 1) new
one-more items i d old new is within inserted = record {
  rows = is.rows;
  filled =
      added-by-insert (row_of (get_or items i d)) old new (next-new items i d old is within) inserted
      ∙ (ap (λ routes. added_to routes (row_of (get_or items i d))) is.filled
      ∙ (ap (added_to (filled_with [] (take i path_table))) (next-row items i d is.rows)
      ∙ filled_with-next path_table i (row_of d) within));
}

pub fails-for-memory : (items : List (Bor (List ℕ) × Resource)) (i : ℕ) (d : Bor (List ℕ) × Resource)
    (old new : RowsOf (RouteOf Resource)) (fault : InsertError) → IsFilled items i old → i < length path_table
    → InsertsRead (parse_route (get_or items i d).0.now) (get_or items i d).1 old new (Err fault) → fault ≡ OutOfMemory
fails-for-memory items i d old new fault is within refused =
    insert-fails (row_of (get_or items i d)) old new fault (next-new items i d old is within) refused

-- the router of the whole table
pub table-serves : (items : List (Bor (List ℕ) × Resource)) (i : ℕ) (routes : RowsOf (RouteOf Resource))
    → IsFilled items i routes → length path_table ≤ i → Serves routes
table-serves items i routes is all path =
    let whole : routes ≡ filled_with [] path_table = is.filled ∙ ap (filled_with []) (take_all i path_table all) in
    ap (λ routes. option_map (λ (route : RouteOf Resource). route.value) (first routes path)) whole
    ∙ (ap (option_map (λ (route : RouteOf Resource). route.value))
    (seek-lookup (filled_with [] path_table) table-literal path)
    ∙ filled_with-serves path [] path_table table-can-fill)
