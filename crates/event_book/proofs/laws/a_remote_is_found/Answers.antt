use Rattle.event_book.proofs.Remote.{received-remote, server-of-member, supplied-apart, supplied-remote}
use Rattle.event_book.proofs.laws.a_remote_is_found.Goals as goal

pub returns : goal.returns
returns c = record {
  member = server-of-member;
  received = received-remote;
  supplied = supplied-remote;
  apart = supplied-apart;
}
