-- What the head of a script makes of the summary, before the first event.
use Rattle.std.specs.Prelude.{Bool, true, false, not, ◌&&◌, List, [], ◌∷◌, Option, Some, None, replicate}
use Rattle.pat_base.specs.declared.name.Name.{Name}
use Rattle.pat_base.specs.declared.ticks.Ticks.{Ticks}
use Rattle.store_keys.specs.declared.config.Config.{Config}
use Rattle.summary_model.specs.declared.answers.TheConstants.{SERVERS}
use Rattle.pat_base.specs.declared.member_id.TheConstants.{MOST_MEMBERS}
use Rattle.summary_model.specs.declared.answers.Breach.{Breach}
use Rattle.summary_model.specs.declared.answers.Breach.TheVariants as breaches
use Rattle.summary_model.specs.declared.answers.Closing.{Closing}
use Rattle.summary_model.specs.declared.answers.FirstMoment.TheVariants as moments
use Rattle.summary_model.specs.declared.answers.Synchronous.{Synchronous}
use Rattle.summary_model.specs.declared.answers.Synchronous.TheVariants as synchronous
use Rattle.summary_model.specs.declared.answers.WatchOf.{WatchOf}
use Rattle.summary_model.specs.Noting.{WatchFacts, broken_by, pause_if}

-- these places with the margins of these members at their front
abbrev pub filled : List (Option Ticks) → List WatchOf → List (Option Ticks)
filled places [] = places
filled [] (member ∷ members) = []
filled (place ∷ places) (member ∷ members) = member.margin ∷ filled places members

-- a watchdog is on and works
abbrev pub is_watching : WatchOf → Bool
is_watching watchdog = not watchdog.mode_off && watchdog.device_works

-- the name where the test fails, and else what is found further on
abbrev pub name_unless : Bool → Name → Option Name → Option Name
name_unless true name others = others
name_unless false name others = Some name

-- the first member in the order of the script whose watchdog is off or broken
abbrev pub first_unwatched : List WatchOf → Option Name
first_unwatched [] = None
first_unwatched (member ∷ members) = name_unless (is_watching member) member.name (first_unwatched members)

-- which premise a head breaks, if it breaks one: a watchdog goes before a pause
abbrev pub head_breach : Option Name → Bool → Option Breach
head_breach (Some name) pauses = Some (breaches.Watchdog name)
head_breach None pauses = pause_if pauses

-- whether the cluster replicates synchronously, by its first configuration
abbrev pub declared_mode : Bool → Synchronous
declared_mode true = synchronous.On
declared_mode false = synchronous.Off

-- how a run closes in which nothing happened
abbrev pub closing_of : List WatchOf → Config → Closing
closing_of members first = record {
  end = record { 0 = 0 };
  premises = broken_by (head_breach (first_unwatched members) first.pause) (record { 0 = 0 });
  synchronous = declared_mode first.synchronous_mode;
  two_writers = moments.Never;
  writers = replicate SERVERS None;
  acknowledged = 0;
  lost = moments.Never;
}

-- what the summary keeps before the first event, over these members and the first configuration
abbrev pub watch_of : List WatchOf → Config → WatchFacts
watch_of members first =
    record { margins = filled (replicate MOST_MEMBERS None) members; closing = closing_of members first }
