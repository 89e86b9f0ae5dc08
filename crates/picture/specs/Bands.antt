-- What the bars of a lane say.
use Rattle.std.specs.Prelude.{ℕ, ◌==◌, if◌then◌else◌, Bool, true, false, Option, Some, None}
use Rattle.run_reading.specs.declared.happening.Happening.{Happening}
use Rattle.run_reading.specs.declared.happening.Happening.TheVariants as happenings
use Rattle.run_reading.specs.Runs.{SightText}
use Rattle.svg.specs.declared.paint.Paint.{Paint}
use Rattle.svg.specs.declared.paint.Paint.TheVariants as paints
use Rattle.picture.specs.declared.band.Band.{Band}
use Rattle.picture.specs.declared.band.Band.TheVariants as bands

-- what a server is from this on, if that says so
abbrev pub server_paint : Happening → Option Paint
server_paint happenings.AcceptsWrites = Some paints.Primary
server_paint happenings.AcceptsNoMore = Some paints.Stopping
server_paint happenings.Crashes = Some paints.Crashed
server_paint happenings.IsReset = Some paints.Crashed
server_paint happenings.IsPromoted = Some paints.Starting
server_paint happenings.StartsAsReplica = Some paints.Replica
server_paint happenings.Follows = Some paints.Replica
server_paint happenings.IsCloned = Some paints.Replica
server_paint happenings.IsRewound = Some paints.Replica
server_paint happenings.IsWiped = Some paints.Wiped
server_paint _ = None

-- whether the leader key is had from this on; where it isn't, the ground is seen
abbrev pub key_paint : Happening → Option Paint
key_paint happenings.TakesKey = Some paints.Holder
key_paint happenings.ReleasesKey = Some paints.Ground
key_paint happenings.KeyExpires = Some paints.Ground
key_paint _ = None

-- what an agent is from this on; where it runs as ever, the ground is seen
abbrev pub agent_paint : Happening → Option Paint
agent_paint happenings.IsHeld = Some paints.Held
agent_paint happenings.IsKilled = Some paints.Killed
agent_paint happenings.IsReset = Some paints.Killed
agent_paint happenings.DisablesWatchdog = Some paints.Paused
agent_paint happenings.Resumes = Some paints.Ground
agent_paint happenings.IsStarted = Some paints.Ground
agent_paint happenings.Arms = Some paints.Ground
agent_paint _ = None

-- what a band is painted as from this on, if that says so
abbrev pub band_paint : Band → Happening → Option Paint
band_paint bands.Server happening = server_paint happening
band_paint bands.Key happening = key_paint happening
band_paint bands.Agent happening = agent_paint happening

-- two lanes are one
abbrev pub is_in : Option ℕ → Option ℕ → Bool
is_in (Some lane) (Some other) = lane == other
is_in None None = true
is_in _ _ = false

-- what a band of this lane is painted as from a line on, if that says so
abbrev pub paint_in : Band → Option ℕ → SightText → Option Paint
paint_in band lane sight = if is_in sight.lane lane then band_paint band sight.happening else None
