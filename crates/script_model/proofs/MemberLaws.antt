-- Members at their places.
use Rattle.std.proofs.Common.{◌≡◌, ℕ, List, slice_get, Some, None, option_map, ◌∙◌, ap}
use Rattle.std.proofs.lemmas.Option.{slice_get-map}
use Rattle.pat_base.specs.declared.name.Name.{Name}
use Rattle.member_options.specs.declared.member_option.MemberOptions.{MemberOptions}
use Rattle.script_model.specs.Script.{MemberText, member_names, member_of_entry, members_in}

-- the entry at a place is the member there
pub slice_get-members_in : (es : List (Name × MemberOptions)) (i : ℕ) (name : Name) (v : MemberOptions)
    → slice_get es i ≡ Some (name, v) → slice_get (members_in es) i ≡ Some (record { name = name; options = v })
slice_get-members_in es i name v e = slice_get-map member_of_entry es i ∙ ap (option_map member_of_entry) e

pub slice_get-members_in-None : (es : List (Name × MemberOptions)) (i : ℕ) → slice_get es i ≡ None
    → slice_get (members_in es) i ≡ None
slice_get-members_in-None es i e = slice_get-map member_of_entry es i ∙ ap (option_map member_of_entry) e

pub slice_get-member_names : (es : List (Name × MemberOptions)) (i : ℕ) (name : Name) (v : MemberOptions)
    → slice_get es i ≡ Some (name, v) → slice_get (member_names (members_in es)) i ≡ Some name
slice_get-member_names es i name v e = slice_get-map (λ (m : MemberText). m.name) (members_in es) i
    ∙ ap (option_map (λ (m : MemberText). m.name)) (slice_get-members_in es i name v e)
