use Rattle.commit_servers.proofs.Streaming.{receive-at-most, receive-of}
use Rattle.commit_servers.proofs.happenings.streams.Goals as goal

pub returns : goal.returns
returns c = record { told = receive-at-most; each = receive-of }
