-- What a head declares, as the law of one writer reads it.
use Rattle.std.specs.Prelude.{ℕ, Bool, true, Option, Some, None, slice_get}
use Rattle.script_model.specs.Script.{HeadText, MemberText}
use Rattle.leader_key.specs.Watchdog.{is_armable}
use Rattle.lease_model.specs.States.{Declared}
use Rattle.member_options.specs.Options.{margin_span}
use Rattle.agent_roles.specs.Seen.{moment_seen}

-- the margin that a member declares, in ticks; none where it is half of the lease, and past the members
abbrev pub margin_said : Option MemberText → Option ℕ
margin_said None = None
margin_said (Some member) = moment_seen (margin_span member.options.margin)

-- the member's watchdog is on and its device works; so it counts past the members
abbrev pub works_said : Option MemberText → Bool
works_said None = true
works_said (Some member) = is_armable member.options.watchdog member.options.device_works

-- what a head declares for the law: the margins of its members, and whether failsafe mode is on
abbrev pub declared_of : HeadText → Declared
declared_of head =
    record { margin = λ m. margin_said (slice_get head.members m); failsafe = head.config.config.failsafe_mode }

-- whose watchdog is on and works
abbrev pub works_of : HeadText → ℕ → Bool
works_of head m = works_said (slice_get head.members m)
