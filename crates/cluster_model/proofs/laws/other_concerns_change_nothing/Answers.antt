use Rattle.cluster_model.proofs.Staying.{clock-stays, store-stays, processes-stay, agents-stay, deadlines-stay, failsafe-deadlines-stay, holds-stay, links-stay, messages-stay, numbers-stay, servers-stay, remote-stays, frozen-stay, commits-stay, acknowledged-stay}
use Rattle.cluster_model.proofs.laws.other_concerns_change_nothing.Goals as goal

pub returns : goal.returns
returns c = record {
  clock = clock-stays;
  store = store-stays;
  processes = processes-stay;
  agents = agents-stay;
  deadlines = deadlines-stay;
  failsafe_deadlines = failsafe-deadlines-stay;
  holds = holds-stay;
  links = links-stay;
  messages = messages-stay;
  numbers = numbers-stay;
  servers = servers-stay;
  remote = remote-stays;
  frozen = frozen-stay;
  commits = commits-stay;
  acknowledged = acknowledged-stay;
}
