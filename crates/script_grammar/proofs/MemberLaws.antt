-- Members in a table.
use Rattle.std.proofs.Common.{◌≡◌, ℕ, Bool, true, false, cond, List, [], ◌∷◌, ◌++◌, ◌<◌, length, Option, Some, None, is_some, arith, refl, ◌∙◌, ap, sym}
use Rattle.std.specs.Bool.{Decides}
use Rattle.std.specs.Str.{bytes_eq}
use Rattle.std.specs.Map.{keys_of}
use Rattle.std.proofs.lemmas.List.{length-map}
use Rattle.indexmap.specs.IndexMap.{insert_entry}
use Rattle.pat_base.specs.Name.{name_bytes}
use Rattle.pat_base.specs.declared.name.Name.{Name}
use Rattle.script_words.specs.Lines.{one_more}
use Rattle.pat_base.specs.declared.member_id.TheConstants.{MOST_MEMBERS}
use Rattle.script_grammar.specs.Members.{place_of}
use Rattle.script_model.specs.Script.{member_names, member_of_entry, members_in}
use Rattle.member_options.specs.declared.member_option.MemberOptions.{MemberOptions}
use Rattle.script_grammar.proofs.Places.{same_text}

more-none : (o : Option ℕ) → one_more o ≡ None → o ≡ None
more-none None e = refl
more-none (Some n) e = cc

last-step : (t : Bool) (e : Name × MemberOptions) (es new : List (Name × MemberOptions)) (name : Name)
    (v : MemberOptions) (o : Option ℕ) → cond t (Some 0) (one_more o) ≡ None
    → (o ≡ None → members_in new ≡ members_in es ++ member_of_entry (name, v) ∷ [])
    → members_in (cond t ((e.0, v) ∷ es) (e ∷ new))
    ≡ member_of_entry e ∷ (members_in es ++ member_of_entry (name, v) ∷ [])
last-step true e es new name v o h step = cc
last-step false e es new name v o h step = ap (λ t. member_of_entry e ∷ t) (step (more-none o h))

-- a name that isn't there is put last
pub members-insert_entry : (p : Name → Name → Bool) (name : Name) (v : MemberOptions)
    → ((m : Name) → Decides (p name m) (name ≡ m)) → (es : List (Name × MemberOptions))
    → place_of (member_names (members_in es)) name ≡ None
    → members_in (insert_entry p es name v) ≡ members_in es ++ member_of_entry (name, v) ∷ []
members-insert_entry p name v h [] none = refl
members-insert_entry p name v h (e ∷ es) none =
    rw (same_text (p name) name h e.0)
    (last-step (bytes_eq (name_bytes e.0) (name_bytes name)) e es (insert_entry p es name v) name v
    (place_of (member_names (members_in es)) name) none (λ n. members-insert_entry p name v h es n))

-- the names of members are the keys of their table
pub names-are-keys : (es : List (Name × MemberOptions)) → member_names (members_in es) ≡ keys_of es
names-are-keys [] = refl
names-are-keys (e ∷ es) = ap (λ t. e.0 ∷ t) (names-are-keys es)

pub keys-count : (es : List (Name × MemberOptions)) → length (keys_of es) ≡ length (members_in es)
keys-count es = length-map es (λ x. x.0) ∙ sym (length-map es member_of_entry)

-- what is new among keys is new among members
pub among-members : (es : List (Name × MemberOptions)) (name : Name) → length (keys_of es) < MOST_MEMBERS
    → place_of (keys_of es) name ≡ None
    → (length (members_in es) < MOST_MEMBERS) × (place_of (member_names (members_in es)) name ≡ None)
among-members es name few none =
    (omega (arith, keys-count es), ap (λ names. place_of names name) (names-are-keys es) ∙ none)

pub absent : {X : Type 0} (o : Option X) → is_some o ≡ false → o ≡ None
absent None e = refl
absent (Some x) e = cc
