-- Patches: objects merge into objects at every depth, null removes, anything else
-- replaces (Patroni's documentation, "Dynamic Configuration Settings", on PATCH /config).
use Rattle.std.specs.Prelude.{ℕ, List, Option, Some, None, option_and_then, unwrap_or}
use Rattle.std.specs.Ordering.{nat_cmp, match_ordering}
use Rattle.std.specs.Cmp.Lexicographic.{slice_cmp}
use Rattle.serde_json.specs.Data.{Data, null, boolean, number, string, array, object, Members, no_members, member, put}
use Rattle.serde_json.specs.Find.{get_member, as_object}

-- an object without the member of a name
abbrev pub without : List ℕ → Members → Members
without name no_members = no_members
without name (member other d ms) = match_ordering (slice_cmp nat_cmp name other)
    (member other d (without name ms)) ms (member other d (without name ms))

-- an object with this at a name, in place of what stood there
abbrev pub with_at : List ℕ → Option Data → Members → Members
with_at name None ms = without name ms
with_at name (Some d) ms = put name d (without name ms)

-- the members of an object that stands somewhere
abbrev pub object_there : Option Data → Option Members
object_there present = option_and_then as_object present

-- what an object of a patch leaves: what was merged, or the patch as it stands where it met no object
abbrev pub unless_alone : Option Members → Members → Members → Members
unless_alone None patch whole = patch
unless_alone (Some there) patch whole = whole

abbrev mutual
  -- an object, with a patch merged into it
  pub merged : Members → Members → Members
  merged present no_members = present
  merged present (member name d patch) = merged (with_at name (patched (get_member name present) d) present) patch

  -- what stands at a name after a patch that has this value there, of what stood there
  pub patched : Option Data → Data → Option Data
  patched present null = None
  patched present (boolean b) = Some (boolean b)
  patched present (number n) = Some (number n)
  patched present (string s) = Some (string s)
  patched present (array ds) = Some (array ds)
  patched present (object patch) = Some
      (object (unless_alone (object_there present) patch (merged (unwrap_or (object_there present) no_members) patch)))

-- an object of a patch, merged into the object that stands there, if one does
abbrev pub onto : Option Data → Members → Members
onto present patch =
    unless_alone (object_there present) patch (merged (unwrap_or (object_there present) no_members) patch)
