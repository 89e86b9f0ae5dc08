use Rattle.summary_law.proofs.Keeping.{others-keep, began-lacks, acknowledged-lacks}
use Rattle.summary_law.proofs.laws.few_events_lose.Goals as goal

pub returns : goal.returns
returns c = record { others = others-keep; began = began-lacks; acknowledged = acknowledged-lacks }
