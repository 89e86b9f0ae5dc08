-- What a run is to keep, and what its closing summary is to say of that.
use Rattle.std.specs.Prelude.{◌≡◌, true, slice_get}
use Rattle.script_model.specs.Script.{names_of}
use Rattle.event_book.specs.Writers.{HasOneWriter}
use Rattle.summary_model.specs.Claims.{AreCommitsGuarded, IsGuarded, IsSummaryOf}
use Rattle.summary_model.specs.Listed.{AreNamed}
use Rattle.rest_law.specs.Finding.{FindsOne}
use Rattle.lease_parts.specs.Kept.{WhereMet}
use Rattle.leading_runs.specs.Lasting.{LeadOn}
use Rattle.commit_runs.specs.Runs.{KeepsCommitsIn, KeepsOrderIn, first_logs}
use Rattle.premise_law.specs.Feeding.{FeedOnTheirGrants}
use Rattle.premise_law.specs.Passing.{PassOutside}
use Rattle.premise_law.specs.TakingOver.{NotesTakeOvers}
use Rattle.run_model.specs.Run.{Played, closing_of_run, run_of}
use Rattle.run_model.specs.Watches.{watches_of}

-- what every run keeps
pub record KeepsPromises (played : Played) : Type 0 where
  -- At most one server accepts writes at each moment of the run up to which the premises are met.
  pub one_writer : WhereMet played.head (run_of played) HasOneWriter
  -- At most one member answers 200 on `/`, `/primary` and `/read-write` at each of these moments, whoever
  -- is asked (Patroni, "Health check endpoints"): a load balancer sends nobody's writes to two servers.
  pub one_primary : WhereMet played.head (run_of played) (FindsOne played.head)
  -- A healthy primary is never demoted for another's fault: wherever the run is cut, who is a steady leader there
  -- is one over what follows, and its server accepts writes, as long as nothing happens to its own machine and
  -- to its messages with the key store, and no operator asks for a change. It needs none of the premises.
  pub leads_on : LeadOn played.head played.steps
  -- With synchronous mode on from the beginning each server that accepts writes has each commit that a
  -- client was told of, at each moment of the run up to which the premises are met and the mode stays on.
  pub kept_commits : KeepsCommitsIn played.head (run_of played)
  -- At each of these moments the sync key names who accepts writes as the leader, and its commits wait for
  -- each standby in that key. Each claim of that key was granted where there was none, or one that named
  -- its sender; and who asked to add a standby to it had commits wait for that one, which had confirmed
  -- where its leader's log ended when its required list last grew (Patroni, "Replication modes").
  pub sync_order : KeepsOrderIn played.head (run_of played)
  -- Each watchdog is armed, and fed by a grant, only in the input by which its member hears of that very grant
  -- of the leader key: the answer that is named tells that this member's own create or renewal was granted.
  -- So a feed is late only by its member's own delay.
  pub own_grants : FeedOnTheirGrants (run_of played)
  -- Whoever leads outside the sync key has read that this doesn't name it: the key that its last turn read
  -- has it neither as the leader nor as a standby, and an answer told it that since its agent started.
  pub outside_sync : PassOutside played.head (run_of played)
  -- Whoever takes over its running server notes where the log of that ends then: whoever
  -- becomes a standby must have confirmed that position (Patroni, "Replication modes").
  pub take_overs : NotesTakeOvers played.head (run_of played)
  -- Each answer of the closing summary is so of the book: when the premises were first
  -- broken, and why; when synchronous mode was; since when two servers accepted writes,
  -- and which do at the end; how many commits were acknowledged; since when one is lost.
  pub summary : IsSummaryOf (watches_of played.head) played.head.config (first_logs played.head)
      (run_of played) (closing_of_run played)
  -- Those that it says accept writes at the end have the names that the head declares for their numbers.
  pub names : AreNamed (slice_get (names_of played.head)) (closing_of_run played).writers
  -- Where the summary says that the premises are met it says that two servers never accepted
  -- writes, and where it says when they were broken, two servers first did no earlier.
  pub premises_guard : IsGuarded (closing_of_run played).premises (closing_of_run played).two_writers
  -- Where it says that the premises are met, and the mode is on, it says that no commit was ever lost, and where
  -- it says when these were broken, the first loss that it tells is no earlier than the first of these moments.
  pub commits_guard : played.head.config.config.synchronous_mode ≡ true
      → AreCommitsGuarded (closing_of_run played).premises (closing_of_run played).synchronous
      (closing_of_run played).lost
