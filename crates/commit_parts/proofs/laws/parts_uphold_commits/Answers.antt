use Rattle.commit_parts.proofs.Arrivals.{upheld-arrival}
use Rattle.commit_parts.proofs.Commands.{upheld-command, upheld-restarts, upholds-loss, upholds-promote}
use Rattle.run_promise.proofs.Members.{few-names}
use Rattle.commit_parts.proofs.Servers.{upholds-acknowledge, upholds-note, upholds-receive}
use Rattle.commit_parts.proofs.Ticks.{upholds-tick}
use Rattle.commit_parts.proofs.laws.parts_uphold_commits.Goals as goal

pub returns : goal.returns
returns c = record {
  ticks = λ head is. upholds-tick head (few-names head is);
  receipts = λ head most member is. upholds-receive head (few-names head is) most member;
  acknowledgements = upholds-acknowledge;
  arrivals = upheld-arrival;
  losses = upholds-loss;
  notes = upholds-note;
  restarts = λ head id is book cluster good. upheld-restarts head (few-names head is) book cluster good id;
  promotions = upholds-promote;
  commands = λ head command is book cluster good. upheld-command head (few-names head is) book cluster good command;
}
