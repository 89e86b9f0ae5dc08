-- One member of a patch, merged into an object: what the map does, and what the definition says.
use Rattle.std.proofs.Common.{◌≡◌, ℕ, List, [], ◌∷◌, Option, Some, None, option_map, String, Global, Ordering, Less, Equal, Greater, string_bytes, string_cmp, nat_cmp, is_eq, cond, refl, sym, ap, ◌∙◌}
use Rattle.std.specs.Cmp.Lexicographic.{slice_cmp}
use Rattle.std.specs.Map.{lookup, remove_entry}
use Rattle.std.specs.Ordering.{match_ordering}
use Rattle.std.specs.BTreeMap.{insert_entry, is_at}
use Rattle.serde_json.specs.Data.{Members, member, put}
use Rattle.serde_json.specs.Find.{get_member}
use Rattle.serde_json.specs.View.{view, members_view}
use Rattle.serde_json.specs.declared.value.Value.{Value}
use Rattle.serde_json.proofs.Views.{Entry, members_view-insert_entry, view-lookup}
use Rattle.cluster_config.specs.ConfigMerging.{without, with_at, merged, patched}

removed : (o : Ordering) (e : Entry) (es rest : List Entry) (ms : Members) → members_view rest ≡ ms
    → members_view (cond (is_eq o) es (e ∷ rest))
    ≡ match_ordering o (member (string_bytes e.0) (view e.1) ms) (members_view es)
    (member (string_bytes e.0) (view e.1) ms)
removed Less e es rest ms h = ap (member (string_bytes e.0) (view e.1)) h
removed Equal e es rest ms h = refl
removed Greater e es rest ms h = ap (member (string_bytes e.0) (view e.1)) h

pub members_view-remove_entry : (name : List ℕ) (es : List Entry)
    → members_view (remove_entry (is_at (λ k. slice_cmp nat_cmp name (string_bytes k))) es)
    ≡ without name (members_view es)
members_view-remove_entry name [] = refl
members_view-remove_entry name (e ∷ es) =
    removed (slice_cmp nat_cmp name (string_bytes e.0)) e es _ _ (members_view-remove_entry name es)

-- what stands at the name of a patch's member, once it is merged
stands : (object : List Entry) (name : List ℕ) (value : Value) (stood next : Option Value)
    → stood ≡ lookup (is_at (λ k. slice_cmp nat_cmp name (string_bytes k))) object
    → option_map view next ≡ patched (option_map view stood) (view value)
    → patched (get_member name (members_view object)) (view value) ≡ option_map view next
stands object name value stood next found is =
    ap (λ o. patched o (view value)) (sym (view-lookup name object) ∙ ap (option_map view) (sym found)) ∙ sym is

-- the object is written anew, and the rest of the patch is still to be merged
goes-on : (object left : List Entry) (name : List ℕ) (value : Value) (next : Option Value) (new : Members)
    (whole : Members)
    → patched (get_member name (members_view object)) (view value) ≡ option_map view next
    → new ≡ with_at name (option_map view next) (members_view object)
    → merged (members_view object) (member name (view value) (members_view left)) ≡ whole
    → merged new (members_view left) ≡ whole
goes-on object left name value next new whole stands is before =
    ap (λ ms. merged ms (members_view left)) (is ∙ ap (λ o. with_at name o (members_view object)) (sym stands)) ∙ before

found-there : (object : List Entry) (text name : List ℕ) (stood : Option Value) → text ≡ name
    → stood ≡ lookup (is_at (λ k. slice_cmp nat_cmp text (string_bytes k))) object
    → stood ≡ lookup (is_at (λ k. slice_cmp nat_cmp name (string_bytes k))) object
found-there object text name stood same found =
    found ∙ ap (λ t. lookup (is_at (λ (k : String Global). slice_cmp nat_cmp t (string_bytes k))) object) same

gone-there : (object gone : List Entry) (text name : List ℕ) → text ≡ name
    → gone ≡ remove_entry (is_at (λ k. slice_cmp nat_cmp text (string_bytes k))) object
    → members_view gone ≡ without name (members_view object)
gone-there object gone text name same removes =
    ap members_view removes ∙ members_view-remove_entry text object ∙ ap (λ t. without t (members_view object)) same

pub merged-inserted : (object gone new left : List Entry) (text : List ℕ) (name key : String Global)
    (value next : Value) (stood : Option Value) (whole : Members)
    → text ≡ string_bytes name
    → string_bytes key ≡ string_bytes name
    → stood ≡ lookup (is_at (λ k. slice_cmp nat_cmp text (string_bytes k))) object
    → gone ≡ remove_entry (is_at (λ k. slice_cmp nat_cmp text (string_bytes k))) object
    → Some (view next) ≡ patched (option_map view stood) (view value)
    → new ≡ insert_entry string_cmp gone key next
    → merged (members_view object) (members_view ((name, value) ∷ left)) ≡ whole
    → merged (members_view new) (members_view left) ≡ whole
merged-inserted object gone new left text name key value next stood whole same named found removes is inserts before =
    goes-on object left (string_bytes name) value (Some next) (members_view new) whole
    (stands object (string_bytes name) value stood (Some next)
    (found-there object text (string_bytes name) stood same found) is)
    (ap members_view inserts ∙ members_view-insert_entry gone key next
    ∙ ap (λ k. put k (view next) (members_view gone)) named
    ∙ ap (put (string_bytes name) (view next)) (gone-there object gone text (string_bytes name) same removes))
    before

pub merged-removed : (object gone left : List Entry) (text : List ℕ) (name : String Global) (value : Value)
    (stood : Option Value) (whole : Members)
    → text ≡ string_bytes name
    → stood ≡ lookup (is_at (λ k. slice_cmp nat_cmp text (string_bytes k))) object
    → gone ≡ remove_entry (is_at (λ k. slice_cmp nat_cmp text (string_bytes k))) object
    → None ≡ patched (option_map view stood) (view value)
    → merged (members_view object) (members_view ((name, value) ∷ left)) ≡ whole
    → merged (members_view gone) (members_view left) ≡ whole
merged-removed object gone left text name value stood whole same found removes is before =
    goes-on object left (string_bytes name) value None (members_view gone) whole
    (stands object (string_bytes name) value stood None
    (found-there object text (string_bytes name) stood same found) is)
    (gone-there object gone text (string_bytes name) same removes) before
