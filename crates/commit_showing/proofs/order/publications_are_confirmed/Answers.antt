use Rattle.commit_showing.proofs.Publishing.{publication, strict-publication}
use Rattle.commit_showing.proofs.order.publications_are_confirmed.Goals as goal

pub returns : goal.returns
returns c = record { any = publication; strict = strict-publication }
