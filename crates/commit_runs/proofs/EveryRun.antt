-- Commits are kept, and required lists and sync key in order, at each
-- moment of each run in synchronous mode up to which the premises are met.
use Rattle.std.proofs.Common.{List, []}
use Rattle.cluster_model.specs.declared.step.Step.{Step}
use Rattle.script_model.specs.Script.{HeadText, IsHead}
use Rattle.cluster_model.specs.Next.{run_events}
use Rattle.cluster_model.specs.Starting.{cluster_of}
use Rattle.run_promise.specs.Members.{IsDeclared}
use Rattle.run_promise.specs.Parts.{PartsUphold}
use Rattle.run_promise.proofs.Walking.{upholds-run}
use Rattle.commit_parts.specs.Bridged.{KeepsInOrder, kept_commits}
use Rattle.commit_runs.specs.Runs.{InSynchronousMode, KeepsCommitsIn, KeepsOrderIn}
use Rattle.commit_parts.proofs.Arrivals.{upheld-arrival}
use Rattle.commit_parts.proofs.Commands.{upheld-command, upheld-restarts, upholds-loss, upholds-promote}
use Rattle.commit_inputs.proofs.EveryInput.{inputs-uphold}
use Rattle.commit_parts.proofs.First.{commits-first}
use Rattle.run_promise.proofs.Members.{few-names, declared-in}
use Rattle.commit_runs.proofs.BookOrder.{order-by-book}
use Rattle.commit_runs.proofs.Holding.{held-by-book}
use Rattle.commit_parts.proofs.Servers.{upholds-acknowledge, upholds-note, upholds-receive}
use Rattle.commit_parts.proofs.Ticks.{upholds-tick}
use Rattle.commit_parts.proofs.Transitions.{composable}

-- ---- every run
pub parts : (head : HeadText) → IsHead head → PartsUphold (IsDeclared head) (kept_commits head)
parts head is = record {
  members = λ book cluster good. declared-in head (few-names head is) cluster good.lease.matched.members;
  inputs = inputs-uphold head (few-names head is);
  arrivals = upheld-arrival head;
  losses = upholds-loss head;
  notes = upholds-note head;
  ticks = upholds-tick head (few-names head is);
  receipts = upholds-receive head (few-names head is);
  acknowledgements = upholds-acknowledge head;
  restarts = λ id book cluster good. upheld-restarts head (few-names head is) book cluster good id;
  promotions = λ member declared. upholds-promote head member;
  commands = λ command book cluster good. upheld-command head (few-names head is) book cluster good command;
}

promised : (head : HeadText) → IsHead head → (steps : List Step)
    → InSynchronousMode head (run_events (cluster_of head) steps) (KeepsInOrder head)
promised head is steps on front rest whole met mode =
    (upholds-run (IsDeclared head) (kept_commits head) (composable head) (parts head is) steps []
    (cluster_of head) (commits-first head is on met.hands_off.unpaused)).inside
    front rest whole
    (record { timely = met; mode = mode })

pub runs-keep : (head : HeadText) → IsHead head → (steps : List Step)
    → KeepsCommitsIn head (run_events (cluster_of head) steps)
runs-keep head is steps on front rest whole met mode =
    held-by-book head front (promised head is steps on front rest whole met mode).kept

pub runs-in-order : (head : HeadText) → IsHead head → (steps : List Step)
    → KeepsOrderIn head (run_events (cluster_of head) steps)
runs-in-order head is steps on front rest whole met mode =
    order-by-book head front (promised head is steps on front rest whole met mode).order
