-- The declared members with their numbers, and their servers.
use Rattle.std.specs.Prelude.{ℕ, ◌+◌, ◌<◌, ◌≤◌, List, [], ◌∷◌, Option, Some, None}
use Rattle.std.proofs.Common.{arith}
use Rattle.pat_base.specs.declared.member_id.MemberId.{MemberId}
use Rattle.pat_base.specs.declared.name.Name.{Name}
use Rattle.pat_base.specs.MemberId.{member_of}
use Rattle.pat_base.specs.declared.server_id.ServerId.{ServerId}
use Rattle.event_book.specs.declared.member.Member.{Member}
use Rattle.event_book.specs.declared.member.ServerOf.{ServerOf}
use Rattle.pat_base.specs.declared.member_id.TheConstants.{MOST_MEMBERS}

-- these members behind one of this number and name; a number that no member may have adds none
abbrev pub put_first : Option MemberId → Name → List Member → List Member
put_first None name members = members
put_first (Some id) name members = record { id = id; name = name } ∷ members

-- the members of these names, the first of which has this number
abbrev pub members_from : ℕ → List Name → List Member
members_from number [] = []
members_from number (name ∷ names) = put_first (member_of number) name (members_from (number + 1) names)

pub within-below : (n : ℕ) → n < MOST_MEMBERS → n ≤ MOST_MEMBERS
within-below n below = omega (arith, below)

-- the number of a member's server
abbrev pub server_id_of : MemberId → ServerId
server_id_of member = record { number = member.number; within = within-below member.number member.below }

-- the server of a member
abbrev pub server_of : Member → ServerOf
server_of member = record { id = server_id_of member.id; name = member.name }
