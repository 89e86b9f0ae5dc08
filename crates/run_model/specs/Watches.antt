-- What a head says of the watchdogs of its members, as the summary of a run reads it.
use Rattle.std.specs.Prelude.{Bool, true, false, List, map}
use Rattle.leader_key.specs.declared.watchdog.Mode.{Mode}
use Rattle.leader_key.specs.declared.watchdog.Mode.TheVariants as modes
use Rattle.script_model.specs.Script.{HeadText, MemberText}
use Rattle.member_options.specs.Options.{margin_span}
use Rattle.summary_model.specs.declared.answers.WatchOf.{WatchOf}
use Rattle.summary_model.specs.Sights.{SummaryFacts, summary_of}

-- no watchdog is used
abbrev pub is_off : Mode → Bool
is_off modes.Off = true
is_off _ = false

-- the watchdog of a member, with its margin in ticks
abbrev pub declared_watch : MemberText → WatchOf
declared_watch member = record {
  name = member.name;
  mode_off = is_off member.options.watchdog;
  device_works = member.options.device_works;
  margin = margin_span member.options.margin;
}

-- the watchdogs of a head's members, in order
abbrev pub watches_of : HeadText → List WatchOf
watches_of head = map declared_watch head.members

-- what the summary keeps of a script of this head before the first event
abbrev pub first_summary : HeadText → SummaryFacts
first_summary head = summary_of (watches_of head) head.config.config
