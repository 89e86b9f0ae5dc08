-- Where a required list grows, its leader notes where its log ends: what
-- it noted, and its log, reach what that ended at when the list last grew.
use Rattle.std.proofs.Common.{arith, ℕ, ◌≡◌, ◌⊎◌, ◌≤◌, ◌+◌, ◌++◌, true, false, List, [], ◌∷◌, Option, Some, refl, ◌∙◌, ap, sym, subst, inl, inr}
use Rattle.wal_model.specs.declared.entry.Entry.{Entry}
use Rattle.wal_model.specs.Log.{end_of}
use Rattle.pg_model.specs.Facts.{entries_of}
use Rattle.event_book.specs.Functions.{put_at}
use Rattle.lease_model.proofs.Tools.{both, none-some, not-false, put-all, some-is}
use Rattle.commit_actions.specs.Keys.{Confirmers, Nobody, All, AtLeast, Narrows}
use Rattle.commit_actions.specs.States.{Agent, Machine, State}
use Rattle.commit_actions.specs.Inputs.{AgentInput, Does, IsLawful, KeepsRole, Idling, Racing, HearingAnswer, WinningRace, CreatingLeader, Arming, TakingOver, ChangingRequired, Publishing, Promoting, SettlingRequired}
use Rattle.commit_actions.specs.Actions.{Action, Accept, Cease, Clone, Commit, Confirm, Decide, End, Input, Kill, Receive, Rewind, Start, Wipe, IsAllowed, act, fresh_agent, machine_after}
use Rattle.commit_law.specs.Noted.{AllFollow, AreNoted, Empties, Follows, Grows, IsNoted, Shrinks, Stays, lists}
use Rattle.commit_law.proofs.Deciding.{decided-members}
use Rattle.commit_law.proofs.Prefixes.{end-append}

from-none : (n bound : ℕ) → n ≡ 0 → n ≤ bound
from-none n bound is = omega (arith, is)

same-below : (new old bound : ℕ) → new ≡ old → old ≤ bound → new ≤ bound
same-below new old bound same below = omega (arith, same, below)

-- ---- where the position goes
nobody-by : (x y : Machine) (old new : ℕ) → IsNoted x old → Follows x.required y.required x.log y.log old new
    → y.required ≡ Nobody → new ≡ 0
nobody-by x y old new noted (Stays same list) nobody = same ∙ noted.none (sym list ∙ nobody)
nobody-by x y old new noted (Empties is) nobody = is
nobody-by x y old new noted (Shrinks same some) nobody = absurd (some nobody)
nobody-by x y old new noted (Grows more some is) nobody = absurd (some nobody)

-- a list that names nobody new
unless-grown : (before after : Confirmers) (log later : Option (List Entry)) (old new bound : ℕ)
    → ((n : ℕ) → lists after n ≡ true → lists before n ≡ true) → old ≤ bound
    → Follows before after log later old new → new ≤ bound
unless-grown before after log later old new bound inside below (Stays same list) = same-below new old bound same below
unless-grown before after log later old new bound inside below (Empties is) = from-none new bound is
unless-grown before after log later old new bound inside below (Shrinks same some) = same-below new old bound same below
unless-grown before after log later old new bound inside below (Grows more some is) = absurd (more inside)

same-lists : (before after : Confirmers) → after ≡ before → (n : ℕ) → lists after n ≡ true → lists before n ≡ true
same-lists before after same n listed = subst (λ (confirmers : Confirmers). lists confirmers n ≡ true) same listed

-- while the log stays, nothing is past its end
within-log : (before after : Confirmers) (log : Option (List Entry)) (old new : ℕ)
    → old ≤ end_of (entries_of log) → Follows before after log log old new → new ≤ end_of (entries_of log)
within-log before after log old new below (Stays same list) = same-below new old (end_of (entries_of log)) same below
within-log before after log old new below (Empties is) = from-none new (end_of (entries_of log)) is
within-log before after log old new below (Shrinks same some) = same-below new old (end_of (entries_of log)) same below
within-log before after log old new below (Grows more some (inl is)) = omega (arith, is)
within-log before after log old new below (Grows more some (inr is)) = omega (arith, is)

further : (new middle bound : ℕ) → new ≤ middle → middle ≤ bound → new ≤ bound
further new middle bound first second = omega (arith, first, second)

-- a machine whose list stays, whose log only grows while it is live, and whose agent stays or leads no more
kept-noted : (x y : Machine) (old new : ℕ) → y.required ≡ x.required
    → (y.live ≡ true → (x.live ≡ true) × (end_of (entries_of x.log) ≤ end_of (entries_of y.log)))
    → ((agent : Agent) → y.agent ≡ Some agent → agent.leads ≡ true → x.agent ≡ Some agent) → IsNoted x old
    → Follows x.required y.required x.log y.log old new → IsNoted y new
kept-noted x y old new list lives agents noted follows = record {
  none = nobody-by x y old new noted follows;
  within = λ live. unless-grown x.required y.required x.log y.log old new (end_of (entries_of y.log))
      (same-lists x.required y.required list)
      (further old (end_of (entries_of x.log)) (end_of (entries_of y.log)) (noted.within (lives live).0) (lives live).1)
      follows;
  noted = λ agent live is leads. unless-grown x.required y.required x.log y.log old new agent.noted
      (same-lists x.required y.required list) (noted.noted agent (lives live).0 (agents agent is leads) leads) follows;
}

up-to-itself : (n : ℕ) → n ≤ n
up-to-itself n = omega arith

same-noted : (x y : Machine) (old new : ℕ) → y.required ≡ x.required → y.live ≡ x.live → y.log ≡ x.log
    → y.agent ≡ x.agent → IsNoted x old → Follows x.required y.required x.log y.log old new → IsNoted y new
same-noted x y old new list live log agent noted follows = kept-noted x y old new list
    (λ lives. (
      sym live ∙ lives,
      subst (λ (l : Option (List Entry)). end_of (entries_of x.log) ≤ end_of (entries_of l)) (sym log)
          (up-to-itself (end_of (entries_of x.log))),
    )) (λ a is leads. sym agent ∙ is) noted follows

-- a server that isn't live
down-noted : (x y : Machine) (old new : ℕ) → y.required ≡ x.required → y.live ≡ false → IsNoted x old
    → Follows x.required y.required x.log y.log old new → IsNoted y new
down-noted x y old new list down noted follows = record {
  none = nobody-by x y old new noted follows;
  within = λ live. absurd (not-false y.live down live);
  noted = λ agent live is leads. absurd (not-false y.live down live);
}

-- ---- an input
-- the agent led, notes what it had noted, and has commits wait for nobody new
record Holds (x : Machine) (was : Agent) (input : AgentInput) : Type 0 where
  leads : was.leads ≡ true
  noted : input.agent.noted ≡ was.noted
  inside : (n : ℕ) → lists input.required n ≡ true → lists x.required n ≡ true

-- a leader notes where its log ends, or holds
record Owes (x : Machine) (was : Agent) (input : AgentInput) : Type 0 where
  lives : input.live ≡ true → x.live ≡ true
  notes : x.live ≡ true → input.agent.leads ≡ true → (input.agent.noted ≡ end_of (entries_of x.log)) ⊎ Holds x was input

narrow-lists : (before after : Confirmers) → Narrows before after → (n : ℕ) → lists after n ≡ true
    → lists before n ≡ true
narrow-lists before Nobody narrows n listed = absurd (both listed)
narrow-lists (All before) (All after) narrows n listed = narrows n listed
narrow-lists Nobody (All after) narrows n listed = absurd narrows
narrow-lists (AtLeast number before) (All after) narrows n listed = absurd narrows
narrow-lists before (AtLeast number after) narrows n listed = absurd (both listed)

role-owes : (s : State) (m : ℕ) (input : AgentInput) (was : Agent) → KeepsRole s m input was
    → Owes (s.members m) was input
role-owes s m input was keeps = record {
  lives = λ live. sym keeps.server.live ∙ live;
  notes = λ live leads. inr (record {
    leads = keeps.leads leads;
    noted = keeps.noted;
    inside = same-lists (s.members m).required input.required keeps.server.required;
  });
}

owes : (s : State) (m : ℕ) (input : AgentInput) (was : Agent) → Does s m input was
    → (input.required ≡ Nobody) ⊎ Owes (s.members m) was input
owes s m input was (Idling idles) = inr (role-owes s m input was idles.keeps)
owes s m input was (Racing races) = inr (role-owes s m input was races.keeps)
owes s m input was (HearingAnswer answer) = inr (role-owes s m input was answer.keeps)
owes s m input was (WinningRace wins) = inr (role-owes s m input was wins.keeps)
owes s m input was (CreatingLeader creates) = inr (role-owes s m input was creates.keeps)
owes s m input was (Arming arms) = inr (record {
  lives = λ live. sym arms.keeps.live ∙ live;
  notes = λ live leads. absurd (not-false (s.members m).live arms.not_live live);
})
owes s m input was (TakingOver takes) =
    inr (record { lives = λ live. sym takes.keeps.live ∙ live; notes = λ live leads. inl takes.noted })
owes s m input was (ChangingRequired changes) = inr (record {
  lives = λ live. sym changes.live ∙ live;
  notes = λ live leads. elim changes.notes [
    | inl noted ↦ inl noted
    | inr holds ↦ inr (record {
      leads = changes.leads leads;
      noted = holds.1;
      inside = narrow-lists (s.members m).required input.required holds.0;
    })
  ];
})
owes s m input was (Publishing publishes) = inr (record {
  lives = λ live. sym publishes.keeps.live ∙ live;
  notes = λ live leads. inr (record {
    leads = publishes.led;
    noted = publishes.noted;
    inside = same-lists (s.members m).required input.required publishes.keeps.required;
  });
})
owes s m input was (Promoting promotes) = inl promotes.required
owes s m input was (SettlingRequired settles) = inr (record {
  lives = λ live. sym settles.live ∙ live;
  notes = λ live leads. elim settles.notes [
    | inl noted ↦ inl noted
    | inr holds ↦ inr (record {
      leads = settles.leads leads;
      noted = holds.1;
      inside = narrow-lists (s.members m).required input.required holds.0;
    })
  ];
})

owed-noted : (x : Machine) (was : Agent) (input : AgentInput) (old new : ℕ) → x.agent ≡ Some was
    → Owes x was input → IsNoted x old → Follows x.required input.required x.log x.log old new
    → x.live ≡ true → input.agent.leads ≡ true → new ≤ input.agent.noted
owed-noted x was input old new was_is owed noted follows live leads = elim (owed.notes live leads) [
  | inl end ↦ subst (λ (n : ℕ). new ≤ n) (sym end)
      (within-log x.required input.required x.log old new (noted.within live) follows)
  | inr holds ↦ subst (λ (n : ℕ). new ≤ n) (sym holds.noted)
      (unless-grown x.required input.required x.log x.log old new was.noted holds.inside
      (noted.noted was live was_is holds.leads) follows)
]

input-noted : (s : State) (m : ℕ) (input : AgentInput) (old new : ℕ) → IsLawful s m input → IsNoted (s.members m) old
    → Follows (s.members m).required input.required (s.members m).log (s.members m).log old new
    → IsNoted (machine_after (s.members m) input) new
input-noted s m input old new law noted follows =
    let x : Machine = s.members m in
    let nobody = nobody-by x (machine_after x input) old new noted follows in
    elim (owes s m input law.was law.does) [
      | inl none ↦ record {
        none = nobody;
        within = λ live. from-none new (end_of (entries_of x.log)) (nobody none);
        noted = λ agent live is leads. from-none new agent.noted (nobody none);
      }
      | inr owed ↦ record {
        none = nobody;
        within = λ live. within-log x.required input.required x.log old new (noted.within (owed.lives live)) follows;
        noted = λ agent live is leads.
            let same : input.agent ≡ agent = some-is input.agent agent is in
            subst (λ (a : Agent). new ≤ a.noted) same
            (owed-noted x law.was input old new law.was_is owed noted follows (owed.lives live)
            (ap (λ (a : Agent). a.leads) same ∙ leads));
      }
    ]

-- ---- each action
put-noted : (members : ℕ → Machine) (k : ℕ) (y : Machine) (old new : ℕ → ℕ)
    → (Follows (members k).required y.required (members k).log y.log (old k) (new k) → IsNoted y (new k))
    → AreNoted members old → AllFollow members (put_at members k y) old new → AreNoted (put_at members k y) new
put-noted members k y old new here noted follow m =
    put-all members k y
    (λ n z. Follows (members n).required z.required (members n).log z.log (old n) (new n) → IsNoted z (new n)) here
    (λ n other follows. same-noted (members n) (members n) (old n) (new n) refl refl refl refl (noted n) follows) m
    (follow m)

still-noted : (members : ℕ → Machine) (old new : ℕ → ℕ) → AreNoted members old
    → AllFollow members members old new → AreNoted members new
still-noted members old new noted follow m =
    same-noted (members m) (members m) (old m) (new m) refl refl refl refl (noted m) (follow m)

longer-end : (entries : List Entry) (entry : Entry) → end_of entries ≤ end_of (entries ++ entry ∷ [])
longer-end entries entry = omega (arith, end-append entries (entry ∷ []))

pub noted-by : (s : State) (action : Action) → IsAllowed s action → (old new : ℕ → ℕ) → AreNoted s.members old
    → AllFollow s.members (act s action).members old new → AreNoted (act s action).members new
noted-by s (Commit m entry) allowed old new noted = put-noted s.members m _ old new
    (kept-noted (s.members m) _ (old m) (new m) refl
    (λ live. (live, longer-end (entries_of (s.members m).log) entry)) (λ agent is leads. is) (noted m))
    noted
noted-by s (Receive m from number) allowed old new noted = put-noted s.members m _ old new
    (down-noted (s.members m) _ (old m) (new m) refl allowed.copies.not_live (noted m)) noted
noted-by s (Confirm m by) allowed old new noted =
    put-noted s.members m _ old new (same-noted (s.members m) _ (old m) (new m) refl refl refl refl (noted m)) noted
noted-by s (Rewind m from) allowed old new noted =
    put-noted s.members m _ old new (down-noted (s.members m) _ (old m) (new m) refl allowed.not_live (noted m)) noted
noted-by s (Clone m from) allowed old new noted =
    put-noted s.members m _ old new (down-noted (s.members m) _ (old m) (new m) refl allowed.not_live (noted m)) noted
noted-by s (Wipe m) allowed old new noted =
    put-noted s.members m _ old new (down-noted (s.members m) _ (old m) (new m) refl allowed (noted m)) noted
noted-by s (Accept m) allowed old new noted =
    put-noted s.members m _ old new (same-noted (s.members m) _ (old m) (new m) refl refl refl refl (noted m)) noted
noted-by s (Cease m) allowed old new noted =
    put-noted s.members m _ old new (same-noted (s.members m) _ (old m) (new m) refl refl refl refl (noted m)) noted
noted-by s (End m) allowed old new noted =
    put-noted s.members m _ old new (down-noted (s.members m) _ (old m) (new m) refl refl (noted m)) noted
noted-by s (Decide number answer) allowed old new noted =
    subst (λ (later : ℕ → Machine). AllFollow s.members later old new → AreNoted later new)
    (sym (decided-members s number answer (s.flight number))) (still-noted s.members old new noted)
noted-by s (Start m) allowed old new noted = put-noted s.members m _ old new
    (kept-noted (s.members m) _ (old m) (new m) refl
    (λ live. (live, up-to-itself (end_of (entries_of (s.members m).log))))
    (λ agent is leads.
    absurd (both (ap (λ (a : Agent). a.leads) (some-is (fresh_agent ((s.members m).runs + 1)) agent is) ∙ leads)))
    (noted m))
    noted
noted-by s (Kill m) allowed old new noted = put-noted s.members m _ old new
    (kept-noted (s.members m) _ (old m) (new m) refl
    (λ live. (live, up-to-itself (end_of (entries_of (s.members m).log))))
    (λ agent is leads. absurd (none-some agent is)) (noted m))
    noted
noted-by s (Input m input) allowed old new noted =
    put-noted s.members m _ old new (input-noted s m input (old m) (new m) allowed.0 (noted m)) noted
noted-by s _ allowed old new noted = still-noted s.members old new noted
