-- The check of a request by which another member asks this one to let it stay primary: a
-- hold that is asked for, or what refuses it (Patroni documentation, "DCS Failsafe Mode").
use Rattle.std.specs.Prelude.{ℕ, ◌*◌, ◌==◌, ◌&&◌, nat_le, if◌then◌else◌, codes, Bool, true, false, List, Option, Some, None, option_and_then, Result, Ok, Err}
use Rattle.std.specs.Option.{option_copied}
use Rattle.pat_base.specs.declared.host.Host.{Host}
use Rattle.pat_base.specs.declared.member_id.MemberId.{MemberId}
use Rattle.pat_base.specs.declared.name.Name.{Name}
use Rattle.pat_base.specs.declared.ticks.TheConstants.{TICKS_OF_SECOND}
use Rattle.pat_base.specs.MemberNames.{member_named}
use Rattle.store_keys.specs.declared.action.OperatorRequest.{OperatorRequest}
use Rattle.store_keys.specs.declared.action.OperatorRequest.TheVariants.{Hold}
use Rattle.serde_json.specs.Data.{Data}
use Rattle.serde_json.specs.Find.{get, as_number, as_u64}
use Rattle.cluster_view.specs.declared.view.AgentView.{AgentView}
use Rattle.cluster_view.specs.KeyValues.{config_in}
use Rattle.cluster_view.specs.Snapshots.{SnapshotFacts}
use Rattle.cluster_config.specs.declared.setting.Setting.TheVariants as settings
use Rattle.cluster_config.specs.declared.setting.SettingRange.{SettingRange}
use Rattle.cluster_config.specs.ConfigReading.{json_of}
use Rattle.cluster_config.specs.SettingTable.{range_of}
use Rattle.operator_answers.specs.declared.answer_text.Text.TheVariants as texts
use Rattle.operator_answers.specs.Statuses.{bad_gateway}
use Rattle.operator_keys.specs.declared.refusal.Refused.{Refused}
use Rattle.operator_keys.specs.Bodies.{bad_body, text_at}
use Rattle.operator_keys.specs.Checks.{seen_if}
use Rattle.operator_keys.specs.Refusals.{on_ok}

-- a member, unless it is this one
abbrev pub unless_same : MemberId → MemberId → Option MemberId
unless_same me member = if member.number == me.number then None else Some member

-- the other member that has this text as its name, if there is one
abbrev pub other_named : MemberId → List (Name × Host) → List ℕ → Option MemberId
other_named me members text = option_and_then (unless_same me) (member_named members text)

-- the whole number at a name of an object, if there is one
abbrev pub number_at : List ℕ → Data → Option ℕ
number_at name body = option_and_then as_u64 (option_and_then as_number (get name body))

-- a number is within a range, if there is one
abbrev pub is_in_range : Option SettingRange → ℕ → Bool
is_in_range None n = false
is_in_range (Some range) n = nat_le range.least n && nat_le n range.greatest

-- a number of seconds is a span that a lease may have
abbrev pub is_lease_span : ℕ → Bool
is_lease_span seconds = is_in_range (range_of settings.Ttl) seconds

-- the hold that this member asks for, for the span of a lease
abbrev pub hold_within : MemberId → ℕ → Option OperatorRequest
hold_within from seconds = if is_lease_span seconds then Some (Hold from (TICKS_OF_SECOND * seconds)) else None

-- the same by what a body has: another member, and a whole number of seconds
abbrev pub hold_for : Option MemberId → Option ℕ → Option OperatorRequest
hold_for None seconds = None
hold_for (Some from) None = None
hold_for (Some from) (Some seconds) = hold_within from seconds

-- the hold that a body asks of this member: it is an object with another member's name and the span of a lease
abbrev pub hold_in_body : MemberId → List (Name × Host) → Data → Option OperatorRequest
hold_in_body me members body =
    hold_for (option_and_then (other_named me members) (text_at (codes "name") body)) (number_at (codes "ttl") body)

-- what failsafe mode is asked for while it is off
abbrev pub failsafe_off : Refused
failsafe_off = record { status = bad_gateway; text = texts.Refused }

-- a hold that is asked for, where failsafe mode is on
abbrev pub where_on : Bool → OperatorRequest → Result OperatorRequest Refused
where_on false hold = Err failsafe_off
where_on true hold = Ok hold

-- the same, if the body asks for one
abbrev pub asked_where_on : Bool → Option OperatorRequest → Result OperatorRequest Refused
asked_where_on mode None = Err bad_body
asked_where_on mode (Some hold) = where_on mode hold

-- the hold that a body asks of this member by this snapshot, or the first
-- of these that refuses it: the body, and failsafe mode that is off
abbrev pub hold_asked : MemberId → List ℕ → SnapshotFacts → Result OperatorRequest Refused
hold_asked me bytes seen =
    asked_where_on (config_in seen).failsafe_mode (option_and_then (hold_in_body me seen.members) (json_of bytes))

-- the same, where there is a snapshot. A request of an operator that waits doesn't stand in the way
abbrev pub failsafe_on : MemberId → Option SnapshotFacts → List ℕ → Result OperatorRequest Refused
failsafe_on me seen bytes = on_ok (seen_if seen false) (hold_asked me bytes)

-- the same by what an agent shows
abbrev pub failsafe_of : AgentView → List ℕ → Result OperatorRequest Refused
failsafe_of view bytes = failsafe_on view.me (option_copied view.seen) bytes
