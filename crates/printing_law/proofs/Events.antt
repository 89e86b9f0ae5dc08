-- What is printed of each event that is drawn is read again.
use Rattle.std.proofs.Common.{◌≡◌, ℕ, ◌<◌, ◌^◌, Bool, true, false, List, [], ◌∷◌, ◌++◌, Option, Some, None, refl, ◌∙◌, ap, sym, append_assoc}
use Rattle.std.specs.Prelude.{codes, is_some}
use Rattle.std.specs.Fmt.{decimal}
use Rattle.pat_base.specs.LsnText.{lsn_text}
use Rattle.pat_base.specs.Name.{name_bytes}
use Rattle.pat_base.specs.declared.name.Name.{Name}
use Rattle.pat_base.specs.declared.server_state.Required.{Required}
use Rattle.pat_base.specs.declared.server_state.Required.TheVariants.{Nobody, AnyOne, All, AtLeast}
use Rattle.script_words.specs.Numbers.{number}
use Rattle.script_words.proofs.NumberLaws.{number-decimal}
use Rattle.store_keys.specs.declared.txn.Txn.{Txn}
use Rattle.store_keys.specs.declared.txn.Txn.TheVariants as txns
use Rattle.store_keys.specs.declared.txn.LeaseTxn.TheVariants as lease_txns
use Rattle.store_keys.specs.declared.txn.OperatorTxn.TheVariants as operator_txns
use Rattle.store_keys.specs.declared.txn.SyncTxn.TheVariants as sync_txns
use Rattle.event_book.specs.Listing.{listed}
use Rattle.event_book.specs.NoteText.{answered_line, note_line}
use Rattle.event_book.specs.Reasons.{agent_note_text, ineligibility_text, name_or_another, reason_text}
use Rattle.event_book.specs.ServerText.{log_line, replication_line, required_line, server_line, watchdog_line}
use Rattle.event_book.specs.StoreText.{granted_line, store_line}
use Rattle.event_book.specs.Text.{agent_line, kind_line, line_of}
use Rattle.event_book.specs.declared.agent_note.AgentNote.{AgentNote}
use Rattle.event_book.specs.declared.agent_note.AgentNote.TheVariants as agent_notes
use Rattle.event_book.specs.declared.event.AgentEvent.{AgentEvent}
use Rattle.event_book.specs.declared.event.AgentEvent.TheVariants as agents
use Rattle.event_book.specs.declared.event.Event.{Event}
use Rattle.event_book.specs.declared.event.EventKind.{EventKind}
use Rattle.event_book.specs.declared.event.EventKind.TheVariants as kinds
use Rattle.event_book.specs.declared.event.LogEvent.{LogEvent}
use Rattle.event_book.specs.declared.event.LogEvent.TheVariants as logs
use Rattle.event_book.specs.declared.event.Note.{Note}
use Rattle.event_book.specs.declared.event.Note.TheVariants as notes
use Rattle.event_book.specs.declared.event.ReplicationEvent.{ReplicationEvent}
use Rattle.event_book.specs.declared.event.ReplicationEvent.TheVariants as replications
use Rattle.event_book.specs.declared.event.ServerEvent.{ServerEvent}
use Rattle.event_book.specs.declared.event.ServerEvent.TheVariants as servers
use Rattle.event_book.specs.declared.event.StoreEvent.{StoreEvent}
use Rattle.event_book.specs.declared.event.StoreEvent.TheVariants as stores
use Rattle.event_book.specs.declared.event.WatchdogEvent.{WatchdogEvent}
use Rattle.event_book.specs.declared.event.WatchdogEvent.TheVariants as watchdogs
use Rattle.run_reading.specs.declared.happening.Happening.{Happening}
use Rattle.run_reading.specs.declared.happening.Happening.TheVariants as happenings
use Rattle.run_reading.specs.Forms.{named_of}
use Rattle.run_reading.specs.Told.{of_nobody, told_by_words}
use Rattle.store_keys.specs.Words.{finding_text, key_text, kind_text}
use Rattle.printing_law.specs.Events.{AreKindNumbers, AreNumbers, IsReadAgain, IsReadAs, noted, told_in, told_in_agent, told_in_kind, told_in_log, told_in_note, told_in_replication, told_in_server, told_in_store, told_in_watchdog, told_in_write}
use Rattle.reading_law.proofs.Commits.{acknowledged-read, commits-read}
use Rattle.reading_law.specs.Lines.{one_told}
use Rattle.reading_law.proofs.Forms.{form-read}
use Rattle.reading_law.proofs.Named.{by-words, told_of-words}
use Rattle.run_reading.specs.declared.told.Told.{Told}
use Rattle.reading_law.proofs.Stores.{expires-read, refused-read}

-- a line of words behind a moment is read as what they tell
line-of-words : (tick : ℕ) (words rest : List ℕ) (told : Told) → tick < 2 ^ 64 → rest ≡ words ++ 10 ∷ []
    → told_by_words tick words ≡ Some told → IsReadAs (decimal tick ++ (32 ∷ rest)) told
line-of-words tick words rest told fits ends e = record {
  line = decimal tick ++ (32 ∷ words);
  ended = ap (λ r. decimal tick ++ (32 ∷ r)) ends ∙ sym (append_assoc (decimal tick) (32 ∷ words) (10 ∷ []));
  read = told_of-words tick words fits ∙ e;
}

-- and so is one of a name and of words behind it
line-of-name : (tick : ℕ) (name : Name) (words rest : List ℕ) (happening : Happening) → tick < 2 ^ 64
    → rest ≡ words ++ 10 ∷ [] → named_of words ≡ Some happening
    → IsReadAs (decimal tick ++ (32 ∷ (name_bytes name ++ (32 ∷ rest)))) (one_told tick name happening)
line-of-name tick name words rest happening fits ends e =
    line-of-words tick (name_bytes name ++ (32 ∷ words)) (name_bytes name ++ (32 ∷ rest))
    (one_told tick name happening) fits
    (ap (λ r. name_bytes name ++ (32 ∷ r)) ends ∙ sym (append_assoc (name_bytes name) (32 ∷ words) (10 ∷ [])))
    (by-words tick name words happening e)

-- words alone
plain : (tick : ℕ) (name : Name) (words : List ℕ) (happening : Happening) → tick < 2 ^ 64
    → named_of words ≡ Some happening
    → IsReadAs (decimal tick ++ (32 ∷ (name_bytes name ++ (32 ∷ (words ++ 10 ∷ []))))) (one_told tick name happening)
plain tick name words happening fits e = line-of-name tick name words (words ++ 10 ∷ []) happening fits refl e

is-number : (n : ℕ) → n < 2 ^ 64 → is_some (number (decimal n)) ≡ true
is-number n fits = ap is_some (number-decimal n fits)

-- words and a text behind them
worded : (tick : ℕ) (name : Name) (words text : List ℕ) (happening : Happening) → tick < 2 ^ 64
    → named_of (words ++ text) ≡ Some happening
    → IsReadAs (decimal tick ++ (32 ∷ (name_bytes name ++ (32 ∷ (words ++ (text ++ 10 ∷ []))))))
    (one_told tick name happening)
worded tick name words text happening fits e = line-of-name tick name (words ++ text)
    (words ++ (text ++ 10 ∷ [])) happening fits (sym (append_assoc words text (10 ∷ []))) e

-- words, a text, and another behind it
worded-on : (tick : ℕ) (name : Name) (words text behind : List ℕ) (happening : Happening) → tick < 2 ^ 64
    → named_of (words ++ (text ++ behind)) ≡ Some happening
    → IsReadAs (decimal tick ++ (32 ∷ (name_bytes name ++ (32 ∷ (words ++ (text ++ (behind ++ 10 ∷ [])))))))
    (one_told tick name happening)
worded-on tick name words text behind happening fits e = line-of-name tick name (words ++ (text ++ behind))
    (words ++ (text ++ (behind ++ 10 ∷ []))) happening fits
    (ap (λ t. words ++ t) (sym (append_assoc text behind (10 ∷ [])))
    ∙ sym (append_assoc words (text ++ behind) (10 ∷ []))) e

agent-read : (tick : ℕ) (event : AgentEvent) → tick < 2 ^ 64
    → IsReadAgain (agent_line tick event) (told_in_agent tick event)
agent-read tick (agents.Suspended agent) fits =
    plain tick agent.name (codes "is held") happenings.IsHeld fits (form-read happenings.IsHeld [] refl refl)
agent-read tick (agents.Resumed agent) fits =
    plain tick agent.name (codes "resumes") happenings.Resumes fits (form-read happenings.Resumes [] refl refl)
agent-read tick (agents.Killed agent) fits =
    plain tick agent.name (codes "is killed") happenings.IsKilled fits (form-read happenings.IsKilled [] refl refl)
agent-read tick (agents.Started agent incarnation) fits =
    plain tick agent.name (codes "is started") happenings.IsStarted fits (form-read happenings.IsStarted [] refl refl)
agent-read tick _ fits = tt

diverges : (tick : ℕ) (name : Name) (upstream at : List ℕ) → tick < 2 ^ 64
    → IsReadAs (decimal tick
    ++ (32 ∷ (name_bytes name ++ (codes " diverges from " ++ (upstream ++ (codes " at " ++ (at ++ 10 ∷ [])))))))
    (one_told tick name happenings.Diverges)
diverges tick name upstream at fits =
    line-of-name tick name (codes "diverges from " ++ (upstream ++ (codes " at " ++ at)))
    (codes "diverges from " ++ (upstream ++ (codes " at " ++ (at ++ 10 ∷ [])))) happenings.Diverges fits
    (ap (λ t. codes "diverges from " ++ t) (sym (append_assoc upstream (codes " at " ++ at) (10 ∷ []))))
    (form-read happenings.Diverges (upstream ++ (codes " at " ++ at)) refl refl)

server-read : (tick : ℕ) (event : ServerEvent) → tick < 2 ^ 64 → AreKindNumbers (kinds.Server event)
    → IsReadAgain (server_line tick event) (told_in_server tick event)
server-read tick (servers.Began server timeline) fits n =
    worded tick server.name (codes "accepts writes on timeline ") (decimal timeline) happenings.AcceptsWrites fits
    (form-read happenings.AcceptsWrites (decimal timeline) refl (is-number timeline n))
server-read tick (servers.Follows server upstream) fits n =
    worded tick server.name (codes "follows ") (name_bytes upstream.name) happenings.Follows fits
    (form-read happenings.Follows (name_bytes upstream.name) refl upstream.name.legal)
server-read tick (servers.Diverged server upstream at) fits n =
    diverges tick server.name (name_bytes upstream.name) (lsn_text at.position) fits
server-read tick (servers.Ended server) fits n = plain tick server.name
    (codes "no longer accepts writes") happenings.AcceptsNoMore fits (form-read happenings.AcceptsNoMore [] refl refl)
server-read tick (servers.Crashed server) fits n =
    plain tick server.name (codes "crashed") happenings.Crashes fits (form-read happenings.Crashes [] refl refl)
server-read tick (servers.Promoted server) fits n = plain tick server.name
    (codes "is promoted by its operator") happenings.IsPromoted fits (form-read happenings.IsPromoted [] refl refl)
server-read tick (servers.StartsAsReplica server) fits n = plain tick server.name
    (codes "starts as a replica") happenings.StartsAsReplica fits (form-read happenings.StartsAsReplica [] refl refl)
server-read tick (servers.Frozen server) fits n =
    plain tick server.name (codes "is frozen") happenings.IsFrozen fits (form-read happenings.IsFrozen [] refl refl)
server-read tick (servers.Thawed server) fits n =
    plain tick server.name (codes "is thawed") happenings.IsThawed fits (form-read happenings.IsThawed [] refl refl)
server-read tick _ fits n = tt

watchdog-read : (trace : Bool) (tick : ℕ) (event : WatchdogEvent) → tick < 2 ^ 64
    → AreKindNumbers (kinds.Watchdog event) → IsReadAgain (watchdog_line trace tick event) (told_in_watchdog tick event)
watchdog-read trace tick (watchdogs.Armed member until answer) fits n =
    worded tick member.name (codes "arms its watchdog until ") (decimal until.0) happenings.Arms fits
    (form-read happenings.Arms (decimal until.0) refl (is-number until.0 n))
watchdog-read true tick (watchdogs.Fed member until basis) fits n =
    worded tick member.name (codes "feeds its watchdog until ") (decimal until.0) happenings.Feeds fits
    (form-read happenings.Feeds (decimal until.0) refl (is-number until.0 n))
watchdog-read false tick (watchdogs.Fed member until basis) fits n = tt
watchdog-read trace tick (watchdogs.Reset member) fits n = plain tick member.name
    (codes "is reset by its watchdog") happenings.IsReset fits (form-read happenings.IsReset [] refl refl)
watchdog-read trace tick (watchdogs.Disarmed member) fits n = tt
watchdog-read trace tick (watchdogs.Measured member since) fits n = tt
watchdog-read trace tick (watchdogs.HoldTaken member until from incarnation sequence) fits n = tt

write-read : (tick : ℕ) (name : Name) (txn : Txn) (standbys : List Name) → tick < 2 ^ 64
    → IsReadAgain (granted_line tick (name_bytes name) txn standbys) (told_in_write tick name txn)
write-read tick name (txns.Lease (lease_txns.Create info ttl failsafe sync)) standbys fits =
    plain tick name (codes "takes the leader key") happenings.TakesKey fits (form-read happenings.TakesKey [] refl refl)
write-read tick name (txns.Lease (lease_txns.Release revision)) standbys fits = plain tick name
    (codes "releases the leader key") happenings.ReleasesKey fits (form-read happenings.ReleasesKey [] refl refl)
write-read tick name (txns.Sync (sync_txns.Claim revision sync)) standbys fits = plain tick name
    (codes "claims the sync key") happenings.ClaimsSync fits (form-read happenings.ClaimsSync [] refl refl)
write-read tick name (txns.Sync (sync_txns.SetSync revision sync members None)) standbys fits =
    worded tick name (codes "publishes sync standbys ") (listed (codes "none") standbys) happenings.PublishesSync fits
    (form-read happenings.PublishesSync (listed (codes "none") standbys) refl refl)
write-read tick name (txns.Sync (sync_txns.SetSync revision sync members (Some may_lack))) standbys fits =
    worded-on tick name (codes "publishes sync standbys ") (listed (codes "none") standbys)
    (codes " quorum " ++ decimal may_lack) happenings.PublishesSync fits
    (form-read happenings.PublishesSync (listed (codes "none") standbys ++ (codes " quorum " ++ decimal may_lack))
    refl refl)
write-read tick name (txns.Sync (sync_txns.DropSync revision sync)) standbys fits = plain tick name
    (codes "removes the sync key") happenings.RemovesSync fits (form-read happenings.RemovesSync [] refl refl)
write-read tick name (txns.Operators (operator_txns.SetFailover failover ttl)) standbys fits = plain tick name
    (codes "writes the failover key") happenings.WritesFailover fits (form-read happenings.WritesFailover [] refl refl)
write-read tick name (txns.Operators (operator_txns.Fire revision scheduled failover ttl)) standbys fits =
    plain tick name
    (codes "writes the failover key") happenings.WritesFailover fits (form-read happenings.WritesFailover [] refl refl)
write-read tick name (txns.Operators (operator_txns.DropFailover revision)) standbys fits = plain tick name
    (codes "clears the failover key") happenings.ClearsFailover fits (form-read happenings.ClearsFailover [] refl refl)
write-read tick name (txns.Operators (operator_txns.SetConfig revision config)) standbys fits =
    plain tick name (codes "changes the configuration") happenings.ChangesConfiguration fits
    (form-read happenings.ChangesConfiguration [] refl refl)
write-read tick name _ standbys fits = tt

note-text : (tick : ℕ) (name : Name) (note : AgentNote) (about : Option Name) → tick < 2 ^ 64
    → IsReadAs (decimal tick ++ (32 ∷ (name_bytes name ++ (32 ∷ (agent_note_text note about ++ 10 ∷ [])))))
    (one_told tick name (noted note))
note-text tick name agent_notes.CannotArm about fits = plain tick name
    (codes "cannot arm its watchdog") happenings.CannotArm fits (form-read happenings.CannotArm [] refl refl)
note-text tick name agent_notes.DisablesWatchdog about fits = plain tick name (codes "disables its watchdog")
    happenings.DisablesWatchdog fits (form-read happenings.DisablesWatchdog [] refl refl)
note-text tick name agent_notes.PostponesPromotion about fits = plain tick name (codes "postpones its promotion")
    happenings.PostponesPromotion fits (form-read happenings.PostponesPromotion [] refl refl)
note-text tick name agent_notes.RunsWithoutKey about fits =
    plain tick name (codes "runs as primary without the leader key") happenings.RunsWithoutKey fits
    (form-read happenings.RunsWithoutKey [] refl refl)
note-text tick name (agent_notes.DoesNotRace because) about fits =
    worded tick name (codes "does not race: ") (ineligibility_text because about) happenings.DoesNotRace fits
    (form-read happenings.DoesNotRace (ineligibility_text because about) refl refl)
note-text tick name (agent_notes.HandsOver candidate) about fits = worded tick name (codes "hands over to ")
    (name_or_another about) happenings.HandsOver fits (form-read happenings.HandsOver (name_or_another about) refl refl)

answer-read : (tick : ℕ) (name : Name) (status : ℕ) (body : List ℕ) → tick < 2 ^ 64
    → IsReadAgain (answered_line tick (name_bytes name) status body) (Some (one_told tick name happenings.Answers))
answer-read tick name status [] fits = worded tick name (codes "answers ")
    (decimal status) happenings.Answers fits (form-read happenings.Answers (decimal status) refl refl)
answer-read tick name status (byte ∷ bytes) fits =
    line-of-name tick name (codes "answers " ++ (decimal status ++ (32 ∷ (byte ∷ bytes))))
    (codes "answers " ++ (decimal status ++ (32 ∷ ((byte ∷ bytes) ++ 10 ∷ [])))) happenings.Answers fits
    (ap (λ t. codes "answers " ++ t) (sym (append_assoc (decimal status) (32 ∷ (byte ∷ bytes)) (10 ∷ []))))
    (form-read happenings.Answers (decimal status ++ (32 ∷ (byte ∷ bytes))) refl refl)

note-read : (tick : ℕ) (note : Note) → tick < 2 ^ 64 → IsReadAgain (note_line tick note) (told_in_note tick note)
note-read tick (notes.OfAgent member note about) fits = note-text tick member.name note about fits
note-read tick (notes.EndsServer member reason) fits = worded tick member.name (codes "ends its server: ")
    (reason_text reason) happenings.EndsServer fits (form-read happenings.EndsServer (reason_text reason) refl refl)
note-read tick (notes.StaysByFailsafe member) fits = plain tick member.name (codes "stays primary by failsafe")
    happenings.StaysByFailsafe fits (form-read happenings.StaysByFailsafe [] refl refl)
note-read tick (notes.RefusesCommit server) fits = plain tick server.name
    (codes "refuses a commit") happenings.RefusesCommit fits (form-read happenings.RefusesCommit [] refl refl)
note-read tick (notes.AlreadyRunning agent) fits = plain tick agent.name
    (codes "is already running") happenings.RunsAlready fits (form-read happenings.RunsAlready [] refl refl)
note-read tick (notes.Answered agent status json body) fits = answer-read tick agent.name status body fits
note-read tick (notes.NoAnswer agent) fits = plain tick agent.name
    (codes "gives no answer") happenings.GivesNoAnswer fits (form-read happenings.GivesNoAnswer [] refl refl)
note-read tick (notes.NoMessage number) fits = tt
note-read tick (notes.Undeliverable number) fits = tt
note-read tick notes.ConnectionFailed fits = tt
note-read tick (notes.CtlLine line) fits = tt

required-read : (tick : ℕ) (name : Name) (required : Required) (names : List Name) → tick < 2 ^ 64
    → IsReadAgain (required_line tick (name_bytes name) required names) (Some (one_told tick name happenings.Requires))
required-read tick name Nobody names fits = worded tick name (codes "requires ")
    (codes "no standby") happenings.Requires fits (form-read happenings.Requires (codes "no standby") refl refl)
required-read tick name AnyOne names fits = worded tick name (codes "requires ")
    (codes "any standby") happenings.Requires fits (form-read happenings.Requires (codes "any standby") refl refl)
required-read tick name (All members) names fits =
    worded tick name (codes "requires ") (listed (codes "no standby") names) happenings.Requires fits
    (form-read happenings.Requires (listed (codes "no standby") names) refl refl)
required-read tick name (AtLeast number of) names fits =
    worded-on tick name (codes "requires ") (decimal number) (codes " of " ++ listed (codes "no standby") names)
    happenings.Requires fits
    (form-read happenings.Requires (decimal number ++ (codes " of " ++ listed (codes "no standby") names)) refl refl)

-- a line of the key store that begins with no name
expires-line : (tick : ℕ) (holder : Name) → tick < 2 ^ 64
    → IsReadAs (decimal tick ++ (codes " the leader key of " ++ (name_bytes holder ++ codes " expires\n")))
    (one_told tick holder happenings.KeyExpires)
expires-line tick holder fits =
    line-of-words tick (codes "the leader key of " ++ (name_bytes holder ++ codes " expires"))
    (codes "the leader key of " ++ (name_bytes holder ++ codes " expires\n"))
    (one_told tick holder happenings.KeyExpires) fits
    (ap (λ t. codes "the leader key of " ++ t) (sym (append_assoc (name_bytes holder) (codes " expires") (10 ∷ []))))
    (expires-read tick holder)

-- a text within texts, with a line feed at the end
fed : (kind name why found : List ℕ)
    → codes "the "
    ++ (kind ++ (codes " of " ++ (name ++ (codes " is refused, " ++ (why ++ (codes " " ++ (found ++ 10 ∷ [])))))))
    ≡ (codes "the " ++ (kind ++ (codes " of " ++ (name ++ (codes " is refused, " ++ (why ++ (codes " " ++ found)))))))
    ++ 10 ∷ []
fed kind name why found = simp append_assoc

store-read : (tick : ℕ) (event : StoreEvent) → tick < 2 ^ 64
    → IsReadAgain (store_line tick event) (told_in_store tick event)
store-read tick (stores.Granted number by txn standbys) fits = write-read tick by.name txn standbys fits
store-read tick (stores.Refused number by request key found) fits =
    line-of-words tick
    (codes "the "
    ++ (kind_text request
    ++ (codes " of "
    ++ (name_bytes by.name ++ (codes " is refused, " ++ (key_text key ++ (codes " " ++ finding_text found)))))))
    (codes "the "
    ++ (kind_text request
    ++ (codes " of "
    ++ (name_bytes by.name
    ++ (codes " is refused, " ++ (key_text key ++ (codes " " ++ (finding_text found ++ 10 ∷ []))))))))
    (one_told tick by.name happenings.IsRefused) fits
    (fed (kind_text request) (name_bytes by.name) (key_text key) (finding_text found))
    (refused-read tick request by.name (key_text key ++ (codes " " ++ finding_text found)))
store-read tick (stores.LeaderExpired holder) fits = expires-line tick holder.name fits
store-read tick (stores.Expired key) fits = tt

-- a commit, with a line feed at the end
commit-fed : (serial bytes name : List ℕ)
    → codes "commit " ++ (serial ++ (codes " of " ++ (bytes ++ (codes " bytes on " ++ (name ++ 10 ∷ [])))))
    ≡ (codes "commit " ++ (serial ++ (codes " of " ++ (bytes ++ (codes " bytes on " ++ name))))) ++ 10 ∷ []
commit-fed serial bytes name = simp append_assoc

log-read : (tick : ℕ) (event : LogEvent) → tick < 2 ^ 64 → AreKindNumbers (kinds.Log event)
    → IsReadAgain (log_line tick event) (told_in_log tick event)
log-read tick (logs.Appended server entry) fits n =
    line-of-words tick
    (codes "commit "
    ++ (decimal entry.serial
    ++ (codes " of " ++ (decimal entry.bytes ++ (codes " bytes on " ++ name_bytes server.name)))))
    (codes "commit "
    ++ (decimal entry.serial
    ++ (codes " of " ++ (decimal entry.bytes ++ (codes " bytes on " ++ (name_bytes server.name ++ 10 ∷ []))))))
    (of_nobody tick happenings.Commits) fits
    (commit-fed (decimal entry.serial) (decimal entry.bytes) (name_bytes server.name))
    (commits-read tick entry.serial entry.bytes server.name n.0 n.1)
log-read tick (logs.Received server from count) fits n = tt
log-read tick (logs.Rewound server from kept at) fits n = worded tick server.name (codes "is rewound to ")
    (lsn_text at.position) happenings.IsRewound fits (form-read happenings.IsRewound (lsn_text at.position) refl refl)
log-read tick (logs.Copied server from) fits n =
    worded tick server.name (codes "is cloned from ") (name_bytes from.name) happenings.IsCloned fits
    (form-read happenings.IsCloned (name_bytes from.name) refl from.name.legal)
log-read tick (logs.Wiped server) fits n =
    plain tick server.name (codes "is wiped") happenings.IsWiped fits (form-read happenings.IsWiped [] refl refl)

replication-read : (tick : ℕ) (event : ReplicationEvent) → tick < 2 ^ 64 → AreKindNumbers (kinds.Replication event)
    → IsReadAgain (replication_line tick event) (told_in_replication tick event)
replication-read tick (replications.RequiredSet server required names) fits n =
    required-read tick server.name required names fits
replication-read tick (replications.Confirmed server by end) fits n = tt
replication-read tick (replications.Lacks server) fits n = tt
replication-read tick (replications.Acknowledged server commit) fits n =
    line-of-words tick (codes "commit " ++ (decimal commit ++ codes " is acknowledged"))
    (codes "commit " ++ (decimal commit ++ codes " is acknowledged\n")) (of_nobody tick happenings.IsAcknowledged) fits
    (ap (λ t. codes "commit " ++ t) (sym (append_assoc (decimal commit) (codes " is acknowledged") (10 ∷ []))))
    (acknowledged-read tick commit n)

-- what is told of no event, whatever its line
untold : (line : Option (List ℕ)) → IsReadAgain line None
untold None = tt
untold (Some line) = tt

kind-read : (trace : Bool) (tick : ℕ) (kind : EventKind) → tick < 2 ^ 64 → AreKindNumbers kind
    → IsReadAgain (kind_line trace tick kind) (told_in_kind tick kind)
kind-read trace tick kinds.Tick fits n = tt
kind-read trace tick (kinds.Message happening) fits n = untold (kind_line trace tick (kinds.Message happening))
kind-read trace tick (kinds.Store happening) fits n = store-read tick happening fits
kind-read trace tick (kinds.Watchdog happening) fits n = watchdog-read trace tick happening fits n
kind-read trace tick (kinds.Server happening) fits n = server-read tick happening fits n
kind-read trace tick (kinds.Log happening) fits n = log-read tick happening fits n
kind-read trace tick (kinds.Replication happening) fits n = replication-read tick happening fits n
kind-read trace tick (kinds.Agent happening) fits n = agent-read tick happening fits
kind-read trace tick (kinds.Link happening) fits n = untold (kind_line trace tick (kinds.Link happening))
kind-read trace tick (kinds.Note note) fits n = note-read tick note fits

pub event-read : (trace : Bool) (event : Event) → AreNumbers event → IsReadAgain (line_of trace event) (told_in event)
event-read trace event numbers = kind-read trace event.tick.0 event.kind numbers.tick numbers.kind
