-- A patch nests no deeper than the two that it is merged of.
use Rattle.std.proofs.Common.{ℕ, ◌-◌, ◌≤◌, List, Option, Some, None, unwrap_or, Ordering, Less, Equal, Greater, nat_cmp, arith}
use Rattle.std.specs.Cmp.Lexicographic.{slice_cmp}
use Rattle.std.specs.Ordering.{match_ordering}
use Rattle.serde_json.specs.Data.{Data, null, boolean, number, string, array, object, Members, no_members, member, put, depth, members_depth}
use Rattle.serde_json.specs.Find.{get_member}
use Rattle.cluster_config.specs.ConfigMerging.{without, with_at, merged, patched, object_there, unless_alone}
use Rattle.cluster_config.specs.ConfigReading.{with_patch}

-- what is there nests at most so deep
abbrev pub IsShallow : ℕ → Option Data → Type 0
IsShallow n None = Unit {0}
IsShallow n (Some d) = depth d ≤ n

chosen : (n : ℕ) (o : Ordering) (a b c : Members) → members_depth a ≤ n → members_depth b ≤ n
    → members_depth c ≤ n → members_depth (match_ordering o a b c) ≤ n
chosen n Less a b c x y z = x
chosen n Equal a b c x y z = y
chosen n Greater a b c x y z = z

put-depth : (n : ℕ) (k : List ℕ) (d : Data) (ms : Members) → depth d ≤ n → members_depth ms ≤ n
    → members_depth (put k d ms) ≤ n
put-depth n k d no_members new old = omega arith
put-depth n k d (member l e ms) new old =
    let later : members_depth (put k d ms) ≤ n = put-depth n k d ms new (omega arith) in
    chosen n (slice_cmp nat_cmp k l) _ _ _ (omega arith) (omega arith) (omega arith)

without-depth : (n : ℕ) (k : List ℕ) (ms : Members) → members_depth ms ≤ n → members_depth (without k ms) ≤ n
without-depth n k no_members old = old
without-depth n k (member l e ms) old =
    let later : members_depth (without k ms) ≤ n = without-depth n k ms (omega arith) in
    chosen n (slice_cmp nat_cmp k l) _ _ _ (omega arith) (omega arith) (omega arith)

with_at-depth : (n : ℕ) (k : List ℕ) (o : Option Data) (ms : Members) → IsShallow n o → members_depth ms ≤ n
    → members_depth (with_at k o ms) ≤ n
with_at-depth n k None ms new old = without-depth n k ms old
with_at-depth n k (Some d) ms new old = put-depth n k d (without k ms) new (without-depth n k ms old)

found : (n : ℕ) (o : Ordering) (a b c : Option Data) → IsShallow n a → IsShallow n b → IsShallow n c
    → IsShallow n (match_ordering o a b c)
found n Less a b c x y z = x
found n Equal a b c x y z = y
found n Greater a b c x y z = z

get_member-depth : (n : ℕ) (k : List ℕ) (ms : Members) → members_depth ms ≤ n → IsShallow n (get_member k ms)
get_member-depth n k no_members old = tt
get_member-depth n k (member l e ms) old =
    let later : IsShallow n (get_member k ms) = get_member-depth n k ms (omega arith) in
    let here : depth e ≤ n = omega arith in
    found n (slice_cmp nat_cmp k l) (get_member k ms) (Some e) (get_member k ms) later here later

alone : (n : ℕ) (o : Option Members) (patch whole : Members) → members_depth patch ≤ n
    → members_depth whole ≤ n → members_depth (unless_alone o patch whole) ≤ n
alone n None patch whole x y = x
alone n (Some there) patch whole x y = y

there-depth : (n : ℕ) (present : Option Data) → IsShallow n present
    → members_depth (unwrap_or (object_there present) no_members) ≤ n - 1
there-depth n None x = omega arith
there-depth n (Some null) x = omega arith
there-depth n (Some (boolean b)) x = omega arith
there-depth n (Some (number m)) x = omega arith
there-depth n (Some (string s)) x = omega arith
there-depth n (Some (array ds)) x = omega arith
there-depth n (Some (object ms)) x = omega arith

mutual
  pub merged-depth : (n : ℕ) (present patch : Members) → members_depth present ≤ n → members_depth patch ≤ n
      → members_depth (merged present patch) ≤ n
  merged-depth n present no_members old new = old
  merged-depth n present (member name d patch) old new =
      let here : depth d ≤ n = omega arith in
      merged-depth n (with_at name (patched (get_member name present) d) present) patch
      (with_at-depth n name (patched (get_member name present) d) present
      (patched-depth n (get_member name present) d (get_member-depth n name present old) here) old)
      (omega arith)

  pub patched-depth : (n : ℕ) (present : Option Data) (d : Data) → IsShallow n present → depth d ≤ n
      → IsShallow n (patched present d)
  patched-depth n present null old new = tt
  patched-depth n present (boolean b) old new = new
  patched-depth n present (number m) old new = new
  patched-depth n present (string s) old new = new
  patched-depth n present (array ds) old new = new
  patched-depth n present (object patch) old new =
      let below : members_depth patch ≤ n - 1 = omega arith in
      let whole : members_depth (merged (unwrap_or (object_there present) no_members) patch) ≤ n - 1 =
      merged-depth (n - 1) (unwrap_or (object_there present) no_members) patch (there-depth n present old) below in
      let both : members_depth (unless_alone (object_there present) patch
      (merged (unwrap_or (object_there present) no_members) patch))
      ≤ n - 1 = alone (n - 1) (object_there present) patch _ below whole in
      omega arith

-- a patched object nests no deeper
pub with_patch-depth : (n : ℕ) (present : Option Data) (d : Data) → IsShallow n present → depth d ≤ n
    → depth (with_patch present d) ≤ n
with_patch-depth n present null old new = new
with_patch-depth n present (boolean b) old new = new
with_patch-depth n present (number m) old new = new
with_patch-depth n present (string s) old new = new
with_patch-depth n present (array ds) old new = new
with_patch-depth n present (object patch) old new = patched-depth n present (object patch) old new
