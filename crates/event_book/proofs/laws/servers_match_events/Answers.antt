use Rattle.event_book.proofs.Told.{logs-told, required-told, confirmed-told, writes-told, acknowledged-told, count-told}
use Rattle.event_book.proofs.laws.servers_match_events.Goals as goal

pub returns : goal.returns
returns c = record {
  logs = logs-told;
  required = required-told;
  confirmed = confirmed-told;
  writers = writes-told;
  acknowledged = acknowledged-told;
  count = count-told;
}
