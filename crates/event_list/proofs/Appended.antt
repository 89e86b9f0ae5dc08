-- Events that are written down one after another.
use Rattle.std.proofs.Common.{◌≡◌, List, [], ◌++◌, append-nil, append_assoc, ap}
use Rattle.event_book.specs.declared.event.Event.{Event}
use Rattle.event_list.specs.Listed.{Listed, ◌+++◌}

-- nothing is written down
pub appended-nil : (listed : Listed) → listed +++ [] ≡ listed
appended-nil listed = ap (λ (items : List Event). record listed { items = items }) (append-nil listed.items)

-- some events, and then others
pub appended_assoc : (listed : Listed) (xs ys : List Event) → (listed +++ xs) +++ ys ≡ listed +++ (xs ++ ys)
appended_assoc listed xs ys =
    ap (λ (items : List Event). record listed { items = items }) (append_assoc listed.items xs ys)
