-- What is known to be at rest, and stays so.
use Rattle.std.proofs.Common.{◌≡◌, ◌&&◌, not, ℕ, Bool, List, drop, length, ap, sym, ◌∙◌}
use Rattle.std.proofs.lemmas.Bool.{and_parts}
use Rattle.event_book.specs.declared.event.Event.{Event}
use Rattle.event_list.specs.Listed.{Listed}
use Rattle.event_list.specs.Marks.{stir_replicas}
use Rattle.cluster_model.specs.Cluster.{cluster_over}
use Rattle.cluster_model.specs.State.{Cluster}
use Rattle.world_model.specs.Emits.{Emits}
use Rattle.world_model.specs.Idle.{IfSettled, at_moment}
use Rattle.world_model.proofs.Settled.{later-settled, settled-behind}
use Rattle.world_acts.specs.Asleep.{AreAsleep}
use Rattle.world_acts.proofs.Sleeping.{asleep-behind, later-asleep}
use Rattle.world_play.specs.Lull.{IsLull}
use Rattle.world_play.specs.declared.lull.Lull.{Lull}

-- it doesn't matter what the clock says
pub later-lull : (lull : Lull) (cluster after : Cluster) (now : ℕ) → after ≡ at_moment cluster now
    → IsLull lull cluster → IsLull lull after
later-lull lull cluster after now is known = record {
  settled = later-settled cluster after now lull.settled is known.settled;
  asleep = later-asleep lull.asleep cluster after now is known.asleep;
}

-- whether all is settled behind a part of a step, by the events behind a place in the list of all
pub still-settled : (before after : Cluster) (had has : Listed) (events : List Event) (cost from : ℕ)
    (known told : Bool) → Emits before after had has events cost → from ≡ length had.items
    → told ≡ (known && not (stir_replicas (drop from has.items))) → IfSettled known before → IfSettled told after
still-settled before after had has events cost from known told took is so was = λ still.
    let both = and_parts known (not (stir_replicas (drop from has.items))) (sym so ∙ still) in
    settled-behind before after had has events cost from known known told took is so was
    (ap (λ b. b && told) both.0 ∙ still)

-- and all that is known
pub lull-behind : (was left : Lull) (before after : Cluster) (had has : Listed) (events : List Event) (cost from : ℕ)
    → Emits before after had has events cost → from ≡ length had.items
    → left.settled ≡ (was.settled && not (stir_replicas (drop from has.items)))
    → ((cluster : Cluster) → AreAsleep was.asleep cluster →
    AreAsleep left.asleep (cluster_over cluster (drop from has.items)))
    → IsLull was before → IsLull left after
lull-behind was left before after had has events cost from took is told still known = record {
  settled = still-settled before after had has events cost from was.settled left.settled took is told known.settled;
  asleep =
      asleep-behind was.asleep left.asleep before after had has events from took.state took.event is known.asleep still;
}
