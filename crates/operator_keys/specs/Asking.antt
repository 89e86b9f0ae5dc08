-- What the body of a request asks, by the members of the cluster.
use Rattle.std.specs.Prelude.{ℕ, Bool, true, false, is_some, bytes_eq, codes, List, Option, Some, None}
use Rattle.pat_base.specs.declared.host.Host.{Host}
use Rattle.pat_base.specs.declared.member_id.MemberId.{MemberId}
use Rattle.pat_base.specs.declared.name.Name.{Name}
use Rattle.pat_base.specs.MemberNames.{member_named}
use Rattle.serde_json.specs.Data.{Data}
use Rattle.serde_json.specs.Find.{get}
use Rattle.operator_keys.specs.declared.asked.Asked.{Asked}
use Rattle.operator_keys.specs.declared.asked.Named.{Named}
use Rattle.operator_keys.specs.declared.asked.Named.TheVariants as named
use Rattle.operator_keys.specs.Bodies.{text_at}

-- a name is that of a member, or unknown
abbrev pub member_or_unknown : Option MemberId → Named
member_or_unknown None = named.Unknown
member_or_unknown (Some member) = named.Member member

-- whom a text names, if there is one
abbrev pub named_by : List (Name × Host) → Option (List ℕ) → Named
named_by members None = named.Nobody
named_by members (Some text) = member_or_unknown (member_named members text)

-- two texts are there and are the same
abbrev pub is_same_text : Option (List ℕ) → Option (List ℕ) → Bool
is_same_text None other = false
is_same_text (Some text) None = false
is_same_text (Some text) (Some other) = bytes_eq text other

-- what a body asks: whom it names as leader and as candidate, whether these are one
-- name, and whether it names a moment. Whatever stands at `scheduled_at` counts
abbrev pub asked_by : Data → List (Name × Host) → Asked
asked_by body members = record {
  leader = named_by members (text_at (codes "leader") body);
  candidate = named_by members (text_at (codes "candidate") body);
  is_same = is_same_text (text_at (codes "leader") body) (text_at (codes "candidate") body);
  is_scheduled = is_some (get (codes "scheduled_at") body);
}

-- nobody is named
abbrev pub is_nobody : Named → Bool
is_nobody named.Nobody = true
is_nobody named.Unknown = false
is_nobody (named.Member member) = false

-- the member, if one is named
abbrev pub member_if : Named → Option MemberId
member_if named.Nobody = None
member_if named.Unknown = None
member_if (named.Member member) = Some member
