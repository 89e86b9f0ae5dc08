-- Events that leave required lists, sync key and who accepts writes as they are, beside one that doesn't.
use Rattle.std.proofs.Common.{List, [], ◌∷◌, ◌++◌, inl, inr}
use Rattle.event_book.specs.declared.event.Event.{Event}
use Rattle.commit_showing.specs.Changes.{AllLeaveOrder, ChangeOrderOnce}

pub leave-then : (xs ys : List Event) → AllLeaveOrder xs → AllLeaveOrder ys → AllLeaveOrder (xs ++ ys)
leave-then [] ys first second = second
leave-then (x ∷ xs) ys first second = (first.0, leave-then xs ys first.1 second)

pub once-behind : (xs ys : List Event) → AllLeaveOrder xs → ChangeOrderOnce ys → ChangeOrderOnce (xs ++ ys)
once-behind [] ys leave once = once
once-behind (x ∷ xs) ys leave once = inl (leave.0, once-behind xs ys leave.1 once)

pub once-none : (events : List Event) → AllLeaveOrder events → ChangeOrderOnce events
once-none [] leave = tt
once-none (event ∷ events) leave = inr leave.1
