-- Watchdogs: what is seen of one, and when it fires.
use Rattle.std.specs.Prelude.{ℕ, ◌≡◌, ◌+◌, ◌-◌, ◌*◌, ◌/◌, ◌^◌, ◌≤◌, nat_le, nat_lt, Bool, false, if◌then◌else◌, Option, Some, None, IfSome}
use Rattle.pat_base.specs.declared.ticks.Ticks.{Ticks}
use Rattle.leader_key.specs.declared.watchdog.Mode.{Mode}
use Rattle.leader_key.specs.declared.watchdog.Mode.TheVariants.{Off, Automatic, Required}

-- a watchdog: whether it is used, whether its device works, the margin before the end of
-- a lease if it has one, and its deadline if it is armed; margin and deadline in ticks
pub record WatchdogFacts : Type 0 where
  pub mode : Mode
  pub works : Bool
  pub margin : Option Ticks
  pub deadline : Option Ticks

-- the greatest margin: 15 seconds
abbrev pub greatest_margin : ℕ
greatest_margin = 150

-- the span of a lease: 20 seconds to a day
pub record IsLeaseSpan (ttl : ℕ) : Type 0 where
  pub least : 200 ≤ ttl
  pub greatest : ttl ≤ 864000

-- how long a watchdog waits for the next feed: the span of the lease
-- less the margin, or half of it where there is no margin
abbrev pub timeout_of : Option Ticks → ℕ → ℕ
timeout_of None ttl = ttl / 2
timeout_of (Some margin) ttl = ttl - margin.0

-- whether a watchdog is used and its device works
abbrev pub is_armable : Mode → Bool → Bool
is_armable Off works = false
is_armable Automatic works = works
is_armable Required works = works

-- the watchdog after a feed at this moment, over leases of this span
abbrev pub fed : ℕ → ℕ → WatchdogFacts → WatchdogFacts
fed moment ttl watchdog = if is_armable watchdog.mode watchdog.works
    then record watchdog { deadline = Some (record { 0 = moment + timeout_of watchdog.margin ttl }) } else watchdog

-- whether a watchdog with this deadline resets its machine at this moment
abbrev pub is_due_at : ℕ → Option Ticks → Bool
is_due_at moment None = false
is_due_at moment (Some deadline) = nat_le deadline.0 moment

-- a member with this watchdog doesn't lead: it is required, and its device doesn't work
pub record IsRefusing (watchdog : WatchdogFacts) : Type 0 where
  pub required : watchdog.mode ≡ Required
  pub broken : watchdog.works ≡ false

-- a feed at this moment is in time for a lease of this span that was granted at another: it
-- comes at most the margin after the grant, or at most half of the span where there is no margin
abbrev pub IsInTime : Option Ticks → (granted moment ttl : ℕ) → Type 0
IsInTime None granted moment ttl = 2 * moment ≤ 2 * granted + ttl
IsInTime (Some margin) granted moment ttl = moment ≤ granted + margin.0

-- an answer at this moment comes too late for a watchdog with this margin, where leases of this span were asked
-- for at another: without a margin once more than half of the span has passed since then, and with one never
abbrev pub is_late : Option Ticks → (moment sent ttl : ℕ) → Bool
is_late None moment sent ttl = nat_lt (ttl / 2) (moment - sent)
is_late (Some margin) moment sent ttl = false

-- the watchdog fires no later than at this moment, if it is armed
abbrev pub FiresBy : ℕ → WatchdogFacts → Type 0
FiresBy moment watchdog = IfSome watchdog.deadline (λ deadline. deadline.0 ≤ moment)

-- what holds of each watchdog
abbrev pub HasMargin : WatchdogFacts → Type 0
HasMargin watchdog = IfSome watchdog.margin (λ margin. margin.0 ≤ greatest_margin)
