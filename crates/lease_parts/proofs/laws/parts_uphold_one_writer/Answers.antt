use Rattle.event_book.specs.declared.event.EventKind.TheVariants as kinds
use Rattle.lease_parts.proofs.Commands.{kept-command-kind, kept-promote, kept-restarts}
use Rattle.lease_parts.proofs.Ending.{kept-loss}
use Rattle.run_promise.proofs.Members.{few-names}
use Rattle.lease_parts.proofs.Quiet.{kept-quiet}
use Rattle.lease_parts.proofs.StoreArrivals.{kept-store-arrival}
use Rattle.lease_parts.proofs.Streams.{keeps-acknowledge, keeps-receive-at-most}
use Rattle.lease_parts.proofs.Ticks.{keeps-tick}
use Rattle.lease_parts.proofs.laws.parts_uphold_one_writer.Goals as goal

pub returns : goal.returns
returns c = record {
  ticks = λ head is. keeps-tick head (few-names head is);
  receipts = keeps-receive-at-most;
  acknowledgements = keeps-acknowledge;
  arrivals = λ head book cluster number message good found to.
      kept-store-arrival head book cluster number message good found to;
  losses = λ head number book cluster good. kept-loss head book cluster number good;
  notes = λ head note book cluster good. kept-quiet head book cluster (kinds.Note note) tt good;
  restarts = λ head id is book cluster good. kept-restarts head (few-names head is) book cluster id good;
  promotions = λ head member book cluster good. kept-promote head book cluster member good;
  commands = λ head command is book cluster good. kept-command-kind head (few-names head is) book cluster command good;
}
