-- What comes of each command (Patroni documentation, "patronictl").
use Rattle.std.specs.Prelude.{ℕ, List, [], ◌∷◌, map, codes, option_map, Option, Some, None, string_bytes}
use Rattle.pat_base.specs.declared.member_id.MemberId.{MemberId}
use Rattle.cluster_view.specs.declared.snapshot.LeaderEntry.{LeaderEntry}
use Rattle.cluster_view.specs.Snapshots.{SnapshotFacts, leader_in}
use Rattle.rest_message.specs.Requests.{RequestText, request_text}
use Rattle.rest_pages.specs.Configuration.{configuration_text}
use Rattle.text_table.specs.Tables.{table_lines}
use Rattle.ctl_command.specs.Commands.{CommandText}
use Rattle.ctl_command.specs.Commands as commands
use Rattle.ctl_command.specs.Texts.{SettingText}
use Rattle.patronictl.specs.declared.acted.Acted.{Acted}
use Rattle.patronictl.specs.declared.acted.Acted.TheVariants as acts
use Rattle.patronictl.specs.History.{history_table}
use Rattle.patronictl.specs.Members.{member_table}
use Rattle.patronictl.specs.Names.{name_in}
use Rattle.patronictl.specs.Requests.{config_change, failover_body, pause_body, posted, reinitialize_request, restart_request, resume_body, switchover_body}
use Rattle.patronictl.specs.Settings.{setting_body}

-- what comes of a command: lines are printed, a member is asked, or there is no leader to ask
pub data ActedText : Type 0 where
  Lines : (lines : List (List ℕ)) → ActedText
  Ask : (member : MemberId) → (request : RequestText) → ActedText
  NoLeader : ActedText

-- what came of a command, by its texts
abbrev pub acted_by : Acted → ActedText
acted_by (acts.Lines lines) = Lines (map string_bytes lines.items)
acted_by (acts.Ask member request) = Ask member (request_text request)
acted_by acts.NoLeader = NoLeader

-- the leader is asked, if there is one
abbrev pub leader_asked : Option LeaderEntry → RequestText → ActedText
leader_asked None request = NoLeader
leader_asked (Some leader) request = Ask leader.holder request

-- what comes of `edit-config`
abbrev pub setting_of : SnapshotFacts → SettingText → ActedText
setting_of seen setting = leader_asked (leader_in seen) (config_change (setting_body setting))

-- what comes of `switchover`
abbrev pub switchover_of : SnapshotFacts → MemberId → Option MemberId → ActedText
switchover_of seen leader candidate =
    leader_asked (leader_in seen)
    (posted (codes "/switchover") (switchover_body (name_in seen leader) (option_map (name_in seen) candidate)))

-- what comes of `failover`
abbrev pub failover_of : SnapshotFacts → MemberId → ActedText
failover_of seen candidate =
    leader_asked (leader_in seen) (posted (codes "/failover") (failover_body (name_in seen candidate)))

-- what comes of a command
abbrev pub act_of : SnapshotFacts → CommandText → ActedText
act_of seen commands.List = Lines (table_lines (member_table seen))
act_of seen commands.History = Lines (table_lines (history_table seen))
act_of seen commands.ShowConfig = Lines (configuration_text seen ∷ [])
act_of seen commands.Pause = leader_asked (leader_in seen) (config_change pause_body)
act_of seen commands.Resume = leader_asked (leader_in seen) (config_change resume_body)
act_of seen (commands.EditConfig setting) = setting_of seen setting
act_of seen (commands.Switchover leader candidate) = switchover_of seen leader candidate
act_of seen (commands.Failover candidate) = failover_of seen candidate
act_of seen (commands.Restart member) = Ask member restart_request
act_of seen (commands.Reinit member) = Ask member reinitialize_request
