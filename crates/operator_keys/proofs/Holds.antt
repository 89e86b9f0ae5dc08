-- What a failsafe request asks for that passes its check.
use Rattle.std.proofs.Common.{◌≡◌, ℕ, Bool, true, false, List, Option, Some, None, Ok, refl, sym, subst, ◌∙◌}
use Rattle.std.specs.Prelude.{codes, nat_le, ◌*◌, ◌==◌, ◌&&◌, if◌then◌else◌, option_and_then}
use Rattle.std.proofs.lemmas.Bool.{false≢true, leb-true}
use Rattle.pat_base.specs.declared.host.Host.{Host}
use Rattle.pat_base.specs.declared.member_id.MemberId.{MemberId}
use Rattle.pat_base.specs.declared.name.Name.{Name}
use Rattle.pat_base.specs.declared.ticks.TheConstants.{TICKS_OF_SECOND}
use Rattle.pat_base.specs.MemberNames.{member_named}
use Rattle.store_keys.specs.declared.action.OperatorRequest.{OperatorRequest}
use Rattle.store_keys.specs.declared.action.OperatorRequest.TheVariants.{Hold}
use Rattle.serde_json.specs.Data.{Data}
use Rattle.cluster_config.specs.ConfigReading.{json_of}
use Rattle.cluster_config.specs.SettingTable.{IsWithin, ttl_range}
use Rattle.cluster_view.specs.KeyValues.{config_in}
use Rattle.cluster_view.specs.Snapshots.{SnapshotFacts}
use Rattle.operator_keys.specs.Bodies.{bad_body, text_at}
use Rattle.operator_keys.specs.FailsafeChecks.{asked_where_on, failsafe_off, failsafe_on, hold_in_body, hold_for, hold_within, is_lease_span, number_at, other_named, unless_same, where_on}
use Rattle.operator_keys.specs.Laws.{AsksForHold}
use Rattle.operator_keys.proofs.Passing.{nobody-is, refused-ok, same-ok, same-some}

-- a hold that some member asks for, for so many seconds
record IsFor (me : MemberId) (hold : OperatorRequest) : Type 0 where
  from : MemberId
  seconds : ℕ
  is : hold ≡ Hold from (TICKS_OF_SECOND * seconds)
  other : (from.number == me.number) ≡ false
  span : IsWithin ttl_range seconds

both : (x y : Bool) → x && y ≡ true → (x ≡ true) × (y ≡ true)
both true y e = (refl, e)
both false y e = absurd (false≢true e)

span-is : (seconds : ℕ) → is_lease_span seconds ≡ true → IsWithin ttl_range seconds
span-is seconds e =
    let parts = both (nat_le ttl_range.least seconds) (nat_le seconds ttl_range.greatest) e in
    (leb-true ttl_range.least seconds parts.0, leb-true seconds ttl_range.greatest parts.1)

within : (me from : MemberId) (seconds : ℕ) (test : Bool) (hold : OperatorRequest)
    → (from.number == me.number) ≡ false → is_lease_span seconds ≡ test
    → (if test then Some (Hold from (TICKS_OF_SECOND * seconds)) else None) ≡ Some hold → IsFor me hold
within me from seconds true hold other is e =
    record { from = from; seconds = seconds; is = sym (same-some _ hold e); other = other; span = span-is seconds is }
within me from seconds false hold other is e = absurd (nobody-is hold e)

other-is : (me member from : MemberId) (test : Bool) → (member.number == me.number) ≡ test
    → (if test then None else Some member) ≡ Some from → (from.number == me.number) ≡ false
other-is me member from true is e = absurd (nobody-is from e)
other-is me member from false is e =
    subst (λ (m : MemberId). (m.number == me.number) ≡ false) (same-some member from e) is

found-other : (me : MemberId) (found : Option MemberId) (from : MemberId)
    → option_and_then (unless_same me) found ≡ Some from → (from.number == me.number) ≡ false
found-other me None from e = absurd (nobody-is from e)
found-other me (Some member) from e = other-is me member from (member.number == me.number) refl e

named-other : (me : MemberId) (members : List (Name × Host)) (text : Option (List ℕ)) (from : MemberId)
    → option_and_then (other_named me members) text ≡ Some from → (from.number == me.number) ≡ false
named-other me members None from e = absurd (nobody-is from e)
named-other me members (Some text) from e = found-other me (member_named members text) from e

for-is : (me : MemberId) (from : Option MemberId) (seconds : Option ℕ) (hold : OperatorRequest)
    → ((member : MemberId) → from ≡ Some member → (member.number == me.number) ≡ false)
    → hold_for from seconds ≡ Some hold → IsFor me hold
for-is me None seconds hold other e = absurd (nobody-is hold e)
for-is me (Some from) None hold other e = absurd (nobody-is hold e)
for-is me (Some from) (Some seconds) hold other e =
    within me from seconds (is_lease_span seconds) hold (other from refl) refl e

body-is : (me : MemberId) (members : List (Name × Host)) (body : Option Data) (hold : OperatorRequest)
    → option_and_then (hold_in_body me members) body ≡ Some hold → IsFor me hold
body-is me members None hold e = absurd (nobody-is hold e)
body-is me members (Some body) hold e =
    let text : Option (List ℕ) = text_at (codes "name") body in
    for-is me (option_and_then (other_named me members) text) (number_at (codes "ttl") body) hold
    (λ member is. named-other me members text member is) e

where-is : (mode : Bool) (hold request : OperatorRequest) → where_on mode hold ≡ Ok request
    → (mode ≡ true) × (hold ≡ request)
where-is true hold request e = (refl, same-ok hold request e)
where-is false hold request e = absurd (refused-ok failsafe_off request e)

seen-is : (me : MemberId) (seen : SnapshotFacts) (hold : Option OperatorRequest) (request : OperatorRequest)
    → ((found : OperatorRequest) → hold ≡ Some found → IsFor me found)
    → asked_where_on (config_in seen).failsafe_mode hold ≡ Ok request → AsksForHold me seen request
seen-is me seen None request asks e = absurd (refused-ok bad_body request e)
seen-is me seen (Some hold) request asks e =
    let passed = where-is (config_in seen).failsafe_mode hold request e in
    let found : IsFor me hold = asks hold refl in
    record {
      on = passed.0;
      from = found.from;
      seconds = found.seconds;
      asks = sym passed.1 ∙ found.is;
      other = found.other;
      span = found.span;
    }

-- it is a hold, of another member
pub hold-asked : (me : MemberId) (seen : Option SnapshotFacts) (bytes : List ℕ) (request : OperatorRequest)
    (found : SnapshotFacts) → seen ≡ Some found → failsafe_on me seen bytes ≡ Ok request → AsksForHold me found request
hold-asked me None bytes request found is e = absurd (nobody-is found is)
hold-asked me (Some seen) bytes request found is e =
    subst (λ (s : SnapshotFacts). AsksForHold me s request) (same-some seen found is)
    (seen-is me seen (option_and_then (hold_in_body me seen.members) (json_of bytes)) request
    (λ hold e. body-is me seen.members (json_of bytes) hold e) e)

-- so there is a snapshot
pub seen-asked : (me : MemberId) (seen : Option SnapshotFacts) (bytes : List ℕ) (request : OperatorRequest)
    → failsafe_on me seen bytes ≡ Ok request → (found : SnapshotFacts) × (seen ≡ Some found)
seen-asked me None bytes request e = absurd (refused-ok _ request e)
seen-asked me (Some seen) bytes request e = (seen, refl)
