-- Machines of the law that are the same part by part.
use Rattle.std.proofs.Common.{ℕ, ◌≡◌, ◌≢◌, Bool, Option}
use Rattle.event_book.specs.Functions.{put_at}
use Rattle.lease_model.specs.States.{Agent, Machine}
use Rattle.lease_model.proofs.Tools.{put-all}

pub machine-same : (live live' : Bool) (d d' : Option ℕ) (b b' : Bool) (h h' : ℕ) (agent agent' : Option Agent)
    (r r' : ℕ) → live ≡ live' → d ≡ d' → b ≡ b' → h ≡ h' → agent ≡ agent' → r ≡ r' →
    ◌≡◌ {A = Machine} (record { live = live; deadline = d; by_failsafe = b; hold = h; agent = agent; runs = r })
    (record { live = live'; deadline = d'; by_failsafe = b'; hold = h'; agent = agent'; runs = r' })
machine-same live live' d d' b b' h h' agent agent' r r' l e f g a s = cc

-- one machine changes
pub machines-put : (before after : ℕ → Machine) (k : ℕ) (machine : Machine) → after k ≡ machine
    → ((m : ℕ) → m ≢ k → after m ≡ before m) → (m : ℕ) → after m ≡ put_at before k machine m
machines-put before after k machine here elsewhere m =
    put-all before k machine (λ n b. after n ≡ b) here (λ n other. elsewhere n other) m
