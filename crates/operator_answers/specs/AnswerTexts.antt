-- What an agent answers operators, in words.
use Rattle.std.specs.Prelude.{ℕ, List, ◌++◌, codes}
use Rattle.pat_base.specs.Name.{name_bytes}
use Rattle.cluster_config.specs.declared.config_fault.ConfigFault.{ConfigFault}
use Rattle.cluster_config.specs.declared.config_fault.ConfigFault.TheVariants as faults
use Rattle.cluster_config.specs.SettingTable.{setting_name}
use Rattle.operator_answers.specs.declared.answer_text.Text.{Text}
use Rattle.operator_answers.specs.declared.answer_text.Text.TheVariants as texts

-- what is at fault in a configuration
abbrev pub fault_text : ConfigFault → List ℕ
fault_text faults.NotJson = codes "NotJson"
fault_text faults.NotObject = codes "NotObject"
fault_text (faults.BadValue setting) = codes "BadValue(" ++ setting_name setting ++ codes ")"
fault_text (faults.BelowMinimum setting) = codes "BelowMinimum(" ++ setting_name setting ++ codes ")"
fault_text faults.TimesRule = codes "TimesRule"
fault_text faults.Fraction = codes "Fraction"
fault_text (faults.NotBuilt setting) = codes "NotBuilt(" ++ setting_name setting ++ codes ")"
fault_text faults.Memory = codes "Memory"

-- the words of a text
abbrev pub answer_text : Text → List ℕ
answer_text texts.BadBody = codes "Bad body"
answer_text texts.NoStoreAnswer = codes "No key store answer yet"
answer_text texts.AnotherWaits = codes "Another request is waiting"
answer_text texts.LeaderNotNamed = codes "Switchover could be performed only from a specific leader"
answer_text texts.CandidateNotNamed = codes "Failover could be performed only to a specific candidate"
answer_text texts.TargetIsSource = codes "Switchover target and source are the same"
answer_text texts.PausedWithoutCandidate = codes "Switchover is possible only to a specific candidate in a paused state"
answer_text texts.ScheduledNotBuilt = codes "Scheduled actions are not built"
answer_text texts.OtherLeader = codes "leader name does not match"
answer_text texts.CandidateLeads = codes "candidate is the leader"
answer_text texts.AnotherUnderWay = codes "Another switchover is under way"
answer_text texts.NoSuchCandidate = codes "candidate does not exist"
answer_text texts.CandidateNotStandby = codes "candidate name does not match with sync_standby"
answer_text texts.CandidateMayNotFailOver = codes "candidate may not fail over"
answer_text texts.NoGoodCandidates = codes "no good candidates have been found"
answer_text (texts.SwitchedOver name) = codes "Successfully switched over to \"" ++ name_bytes name ++ codes "\""
answer_text (texts.FailedOver name) = codes "Successfully failed over to \"" ++ name_bytes name ++ codes "\""
answer_text texts.SwitchoverFailed = codes "Switchover failed"
answer_text texts.FailoverFailed = codes "Failover failed"
answer_text texts.NoResultInTime = codes "No result in time"
answer_text texts.NoScheduledSwitchover = codes "No scheduled switchover"
answer_text texts.NotRunning = codes "PostgreSQL is not running"
answer_text texts.Restarted = codes "restarted"
answer_text texts.IsLeader = codes "I am the leader"
answer_text texts.ReinitializeStarted = codes "reinitialize started"
answer_text texts.ConfigurationNotWritten = codes "Configuration was not written"
answer_text texts.Accepted = codes "Accepted"
answer_text texts.Refused = codes "Refused"
answer_text (texts.BadConfiguration fault) = fault_text fault

-- this holds where the text is always the same: it names no member and no fault
abbrev pub IfFixed : Text → Type 0 → Type 0
IfFixed (texts.SwitchedOver name) P = Unit {0}
IfFixed (texts.FailedOver name) P = Unit {0}
IfFixed (texts.BadConfiguration fault) P = Unit {0}
IfFixed _ P = P
