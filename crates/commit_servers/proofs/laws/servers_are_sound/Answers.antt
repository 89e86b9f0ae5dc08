use Rattle.commit_servers.proofs.First.{sound-first, bytes-first, in-place, set-within}
use Rattle.commit_servers.proofs.Keeping.{sound-by, leaves-sound, live-log, writes-live}
use Rattle.commit_servers.proofs.laws.servers_are_sound.Goals as goal

pub returns : goal.returns
returns c = record {
  first = sound-first;
  each = sound-by;
  may = leaves-sound;
  bytes = bytes-first;
  members = in-place;
  sets = set-within;
  writers = writes-live;
  logs = live-log;
}
