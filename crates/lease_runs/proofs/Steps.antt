-- Each step of a script keeps the law.
use Rattle.std.proofs.Common.{◌≤◌, List, length}
use Rattle.cluster_model.specs.declared.step.Step.{Step}
use Rattle.script_model.specs.Script.{HeadText, names_of}
use Rattle.cluster_model.specs.Next.{run_events}
use Rattle.event_book.specs.declared.event.EventKind.TheVariants as kinds
use Rattle.lease_parts.specs.Kept.{Keeps, one_writer}
use Rattle.run_promise.specs.Members.{IsDeclared}
use Rattle.run_promise.proofs.Members.{declared-in}
use Rattle.run_promise.specs.Parts.{PartsUphold}
use Rattle.lease_parts.proofs.Commands.{kept-command-kind, kept-promote, kept-restarts}
use Rattle.lease_parts.proofs.Composing.{composable}
use Rattle.lease_parts.proofs.Ending.{kept-loss}
use Rattle.lease_inputs.proofs.EveryInput.{inputs-keep}
use Rattle.lease_parts.proofs.Quiet.{kept-quiet}
use Rattle.lease_parts.proofs.StoreArrivals.{kept-store-arrival}
use Rattle.lease_parts.proofs.Streams.{keeps-acknowledge, keeps-receive-at-most}
use Rattle.lease_parts.proofs.Ticks.{keeps-tick}
use Rattle.run_promise.proofs.Walking.{upholds-run}
use Rattle.pat_base.specs.declared.member_id.TheConstants.{MOST_MEMBERS}

parts : (head : HeadText) → length (names_of head) ≤ MOST_MEMBERS → PartsUphold (IsDeclared head) (one_writer head)
parts head few = record {
  members = λ book cluster good. declared-in head few cluster good.matched.members;
  inputs = inputs-keep head;
  arrivals = kept-store-arrival head;
  losses = λ number book cluster good. kept-loss head book cluster number good;
  notes = λ note book cluster good. kept-quiet head book cluster (kinds.Note note) tt good;
  ticks = keeps-tick head few;
  receipts = keeps-receive-at-most head;
  acknowledgements = keeps-acknowledge head;
  restarts = λ id book cluster good. kept-restarts head few book cluster id good;
  promotions = λ member is book cluster good. kept-promote head book cluster member good;
  commands = λ command book cluster good. kept-command-kind head few book cluster command good;
}

pub keeps-run : (head : HeadText) → length (names_of head) ≤ MOST_MEMBERS → (steps : List Step)
    → Keeps head (λ cluster. run_events cluster steps)
keeps-run head few steps = upholds-run (IsDeclared head) (one_writer head) (composable head) (parts head few) steps
