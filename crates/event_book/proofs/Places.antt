-- Members and their servers.
use Rattle.std.proofs.Common.{◌≡◌, ℕ, ◌≤◌, ap, subst}
use Rattle.std.proofs.Math.Bridge.{le_prop}
use Rattle.pat_base.specs.declared.server_id.ServerId.{ServerId}
use Rattle.event_book.specs.declared.member.Member.{Member}
use Rattle.event_book.specs.declared.member.ServerOf.{ServerOf}
use Rattle.event_book.specs.Members.{server_of, server_id_of}
use Rattle.pat_base.specs.declared.member_id.TheConstants.{MOST_MEMBERS}

with-within : (number : ℕ) (within upper : number ≤ MOST_MEMBERS)
    → ◌≡◌ {A = ServerId} (record { number = number; within = within }) (record { number = number; within = upper })
with-within number within upper =
    ap (λ (w : number ≤ MOST_MEMBERS). let id : ServerId = record { number = number; within = w } in id)
    (le_prop within upper)

id-from : (number other : ℕ) (within : number ≤ MOST_MEMBERS) (upper : other ≤ MOST_MEMBERS) → number ≡ other
    → ◌≡◌ {A = ServerId} (record { number = number; within = within }) (record { number = other; within = upper })
id-from number other within upper e =
    subst (λ (n : ℕ). (u : n ≤ MOST_MEMBERS) →
    ◌≡◌ {A = ServerId} (record { number = number; within = within }) (record { number = n; within = u }))
    e (with-within number within) upper

-- servers with one number are one
pub id-same : (a b : ServerId) → a.number ≡ b.number → a ≡ b
id-same a b e = id-from a.number b.number a.within b.within e

-- the server with a member's number and name is the member's
pub server-is : (id : ServerId) (member : Member) → id.number ≡ member.id.number
    → ◌≡◌ {A = ServerOf} (record { id = id; name = member.name }) (server_of member)
server-is id member e = ap (λ (i : ServerId). let s : ServerOf = record { id = i; name = member.name } in s)
    (id-same id (server_id_of member.id) e)
