-- The premises only fall.
use Rattle.std.proofs.Common.{ℕ, List, [], ◌∷◌, ◌++◌, Option, Bool}
use Rattle.store_keys.specs.Settings.{Settings}
use Rattle.event_book.specs.declared.event.Event.{Event}
use Rattle.event_book.specs.Premises.{Moments, moments_after, first_moments, AreInTime, IsTimely, AreHandsOff, IsHandsOff}

in-time-front : (margin : ℕ → Option ℕ) (moments : Moments) (front rest : List Event)
    → AreInTime margin moments (front ++ rest) → AreInTime margin moments front
in-time-front margin moments [] rest is = tt
in-time-front margin moments (event ∷ front) rest is =
    (is.0, in-time-front margin (moments_after moments event.kind) front rest is.1)

pub timely-front : (margin : ℕ → Option ℕ) (front rest : List Event) → IsTimely margin (front ++ rest)
    → IsTimely margin front
timely-front margin front rest is = in-time-front margin first_moments front rest is

hands-off-events : (front rest : List Event) → AreHandsOff (front ++ rest) → AreHandsOff front
hands-off-events [] rest is = tt
hands-off-events (event ∷ front) rest is = (is.0, hands-off-events front rest is.1)

pub hands-off-front : (first : Settings) (watched : ℕ → Bool) (front rest : List Event)
    → IsHandsOff first watched (front ++ rest) → IsHandsOff first watched front
hands-off-front first watched front rest is =
    record { unpaused = is.unpaused; watched = is.watched; events = hands-off-events front rest is.events }
