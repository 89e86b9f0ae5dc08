-- The words of lines of a printed run.
use Rattle.std.specs.Prelude.{ℕ, nat_eq, Bool, true, false, if◌then◌else◌, List, [], Option, Some, None, is_some, length, drop, codes}
use Rattle.std.specs.List.{find, starts_with}
use Rattle.std.specs.Str.{bytes_eq}
use Rattle.pat_base.specs.NameText.{is_name}
use Rattle.script_words.specs.Numbers.{number}
use Rattle.run_reading.specs.declared.happening.Happening.{Happening}
use Rattle.run_reading.specs.declared.happening.Happening.TheVariants as happenings
use Rattle.run_reading.specs.declared.happening.Tail.{Tail}
use Rattle.run_reading.specs.declared.happening.Tail.TheVariants as tails
use Rattle.run_reading.specs.declared.happening.TheConstants.{NAMED}

-- the words behind the name, up to what follows them
abbrev pub words_of : Happening → List ℕ
words_of happenings.TakesKey = codes "takes the leader key"
words_of happenings.ReleasesKey = codes "releases the leader key"
words_of happenings.ClaimsSync = codes "claims the sync key"
words_of happenings.RemovesSync = codes "removes the sync key"
words_of happenings.WritesFailover = codes "writes the failover key"
words_of happenings.ClearsFailover = codes "clears the failover key"
words_of happenings.ChangesConfiguration = codes "changes the configuration"
words_of happenings.IsReset = codes "is reset by its watchdog"
words_of happenings.AcceptsNoMore = codes "no longer accepts writes"
words_of happenings.Crashes = codes "crashed"
words_of happenings.IsPromoted = codes "is promoted by its operator"
words_of happenings.StartsAsReplica = codes "starts as a replica"
words_of happenings.IsFrozen = codes "is frozen"
words_of happenings.IsThawed = codes "is thawed"
words_of happenings.IsWiped = codes "is wiped"
words_of happenings.IsHeld = codes "is held"
words_of happenings.Resumes = codes "resumes"
words_of happenings.IsKilled = codes "is killed"
words_of happenings.IsStarted = codes "is started"
words_of happenings.RefusesCommit = codes "refuses a commit"
words_of happenings.RunsAlready = codes "is already running"
words_of happenings.GivesNoAnswer = codes "gives no answer"
words_of happenings.CannotArm = codes "cannot arm its watchdog"
words_of happenings.DisablesWatchdog = codes "disables its watchdog"
words_of happenings.PostponesPromotion = codes "postpones its promotion"
words_of happenings.RunsWithoutKey = codes "runs as primary without the leader key"
words_of happenings.StaysByFailsafe = codes "stays primary by failsafe"
words_of happenings.Arms = codes "arms its watchdog until "
words_of happenings.Feeds = codes "feeds its watchdog until "
words_of happenings.AcceptsWrites = codes "accepts writes on timeline "
words_of happenings.Follows = codes "follows "
words_of happenings.IsCloned = codes "is cloned from "
words_of happenings.Answers = codes "answers "
words_of happenings.HandsOver = codes "hands over to "
words_of happenings.DoesNotRace = codes "does not race: "
words_of happenings.EndsServer = codes "ends its server: "
words_of happenings.Diverges = codes "diverges from "
words_of happenings.IsRewound = codes "is rewound to "
words_of happenings.Requires = codes "requires "
words_of happenings.PublishesSync = codes "publishes sync standbys "
words_of _ = []

-- what follows them
abbrev pub tail_of : Happening → Tail
tail_of happenings.Arms = tails.Number
tail_of happenings.Feeds = tails.Number
tail_of happenings.AcceptsWrites = tails.Number
tail_of happenings.Follows = tails.Name
tail_of happenings.IsCloned = tails.Name
tail_of happenings.Answers = tails.Text
tail_of happenings.HandsOver = tails.Text
tail_of happenings.DoesNotRace = tails.Text
tail_of happenings.EndsServer = tails.Text
tail_of happenings.Diverges = tails.Text
tail_of happenings.IsRewound = tails.Text
tail_of happenings.Requires = tails.Text
tail_of happenings.PublishesSync = tails.Text
tail_of _ = tails.Nothing

-- these bytes may follow
abbrev pub is_tail : Tail → List ℕ → Bool
is_tail tails.Nothing bytes = bytes_eq bytes []
is_tail tails.Number bytes = is_some (number bytes)
is_tail tails.Name bytes = is_name bytes
is_tail tails.Text bytes = true

-- what stands behind this front
abbrev pub behind : List ℕ → List ℕ → Option (List ℕ)
behind front bytes = if starts_with nat_eq bytes front then Some (drop (length front) bytes) else None

-- there is something behind a front, and it may follow
abbrev pub is_tail_there : Tail → Option (List ℕ) → Bool
is_tail_there tail None = false
is_tail_there tail (Some bytes) = is_tail tail bytes

-- words tell this
abbrev pub is_form : List ℕ → Happening → Bool
is_form words happening = is_tail_there (tail_of happening) (behind (words_of happening) words)

-- what words tell that stand behind a name
unfoldable pub named_of : List ℕ → Option Happening
named_of words = find (is_form words) NAMED
