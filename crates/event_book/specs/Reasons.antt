-- Why an agent does what it does, in words.
use Rattle.std.specs.Prelude.{ℕ, Bool, true, false, List, [], ◌++◌, Option, Some, None, codes}
use Rattle.pat_base.specs.declared.name.Name.{Name}
use Rattle.pat_base.specs.Name.{name_bytes}
use Rattle.pat_base.specs.declared.ineligibility.Ineligibility.{Ineligibility}
use Rattle.pat_base.specs.declared.ineligibility.Ineligibility.TheVariants as bars
use Rattle.event_book.specs.declared.agent_note.AgentNote.{AgentNote}
use Rattle.event_book.specs.declared.agent_note.AgentNote.TheVariants as agent_notes
use Rattle.event_book.specs.declared.reason.Reason.{Reason}
use Rattle.event_book.specs.declared.reason.Reason.TheVariants as reasons

-- why it ends its server
abbrev pub reason_text : Reason → List ℕ
reason_text reasons.StoreOutOfReach = codes "the key store is out of reach"
reason_text reasons.FailsafeNotAcknowledged = codes "failsafe was not acknowledged"
reason_text reasons.LeaderKeyLost = codes "the leader key is lost"
reason_text reasons.StartTooLong = codes "the start took too long"
reason_text reasons.WatchdogNotArmed = codes "the watchdog is not armed"

-- another member, by its name where that is told
abbrev pub name_or_another : Option Name → List ℕ
name_or_another None = codes "another member"
name_or_another (Some name) = name_bytes name

-- the name of another member, where it stands before the words
abbrev pub name_if : Bool → Option Name → List ℕ
name_if true name = name_or_another name
name_if false name = []

-- why it does not ask for a free leader key
abbrev pub ineligibility_text : Ineligibility → Option Name → List ℕ
ineligibility_text bars.NotRunning by = codes "its server is not a replica"
ineligibility_text bars.NoFailover by = codes "it may not fail over"
ineligibility_text bars.Paused by = codes "paused"
ineligibility_text (bars.Candidate member) by = name_or_another by ++ codes " is the candidate"
ineligibility_text bars.NotSync by = codes "it is not in the sync key"
ineligibility_text bars.TooFarBehind by = codes "it is too far behind"
ineligibility_text bars.NotListed by = codes "it is not in the failsafe key"
ineligibility_text bars.Hold by = codes "a failsafe hold"
ineligibility_text (bars.OtherWrites member) by = name_or_another by ++ codes " accepts writes"
ineligibility_text (bars.Ahead member) by = name_or_another by ++ codes " is ahead"
ineligibility_text bars.TooFewAnswers by = codes "too few answers"
ineligibility_text (bars.Priority member) by = name_or_another by ++ codes " has a higher priority"

-- what an agent notes, with the name of the member that it speaks of
abbrev pub agent_note_text : AgentNote → Option Name → List ℕ
agent_note_text agent_notes.CannotArm about = codes "cannot arm its watchdog"
agent_note_text agent_notes.DisablesWatchdog about = codes "disables its watchdog"
agent_note_text agent_notes.PostponesPromotion about = codes "postpones its promotion"
agent_note_text agent_notes.RunsWithoutKey about = codes "runs as primary without the leader key"
agent_note_text (agent_notes.DoesNotRace because) about = codes "does not race: " ++ ineligibility_text because about
agent_note_text (agent_notes.HandsOver candidate) about = codes "hands over to " ++ name_or_another about
