-- What members tell of themselves.
use Rattle.std.specs.Prelude.{Bool, true, false, if◌then◌else◌, Some, None}
use Rattle.pat_base.specs.declared.server_state.State.{State}
use Rattle.pat_base.specs.declared.server_state.State.TheVariants as states
use Rattle.pat_base.specs.declared.word.Word.{Word}
use Rattle.pat_base.specs.declared.word.Word.TheVariants as words
use Rattle.pat_base.specs.ServerState.{writes}
use Rattle.store_keys.specs.declared.value.MemberInfo.{MemberInfo}
use Rattle.pg_model.specs.declared.status.ServerStatus.{ServerStatus}
use Rattle.agent_model.specs.declared.who.Who.{Who}

-- the state of a server in one word, by whether it receives
abbrev pub state_word : State → Bool → Word
state_word states.Creating receives = words.CreatingReplica
state_word states.Stopped receives = words.Stopped
state_word (states.Starting as_primary at) receives = words.Starting
state_word states.Replica receives = if receives then words.Streaming else words.Running
state_word states.Primary receives = words.Running
state_word (states.Stopping was_primary at) receives = words.Stopping
state_word states.Crashed receives = words.Crashed

-- it runs, as a replica or as a primary
abbrev pub runs : State → Bool
runs states.Replica = true
runs states.Primary = true
runs _ = false

-- what a member tells of itself
abbrev pub info_of : Who → ServerStatus → MemberInfo
info_of who server = record {
  host = who.host;
  tags = who.tags;
  state = state_word server.state server.receives;
  writes = writes server.state;
  timeline = if runs server.state then Some server.timeline else None;
  end = if runs server.state then server.end else None;
}
