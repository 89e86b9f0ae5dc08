-- A run that is allowed: member 0 begins, a commit is acknowledged by nobody, member 1
-- is required and published, a second commit is acknowledged by its confirmation, member
-- 0 ends, and member 1 claims and begins. So no condition of the law keeps all out.
use Rattle.std.proofs.Common.{◌≡◌, ◌⊎◌, ℕ, ◌≤◌, ◌<◌, ◌==◌, Bool, true, false, List, [], ◌∷◌, Option, Some, None, refl, ◌∙◌, ap, sym, subst, arith, inl, inr}
use Rattle.wal_model.specs.declared.entry.Entry.{Entry}
use Rattle.event_book.specs.Functions.{put_at}
use Rattle.commit_actions.specs.Keys.{SyncKey, Confirmers, Nobody, All, Added}
use Rattle.commit_actions.specs.Flights.{ClaimSync, PublishStandbys, SyncRequest}
use Rattle.commit_actions.specs.States.{Agent, Machine, State, Acts, Reaches}
use Rattle.commit_actions.specs.Inputs.{AgentInput, KeepsTurn, Idling, Arming, ChangingRequired, Publishing, Promoting}
use Rattle.commit_actions.specs.Actions.{Action, Commit, Acknowledge, Receive, Confirm, Accept, End, Create, Renew, Expire, SendSnapshot, Decide, Input, act, IsAllowed, MayRenew, MayFollow, state_after, start_with, fresh_agent, IsNumbered, MayReceive, MayConfirm, MayAcknowledge}
use Rattle.lease_model.proofs.Tools.{some-is, none-some, both, not-false, eq-from, put-all}
use Rattle.commit_law.proofs.Prefixes.{prefix-self}

abbrev pub base : Entry
base = record { serial = 0; timeline = 1; bytes = 8 }

abbrev pub first : Entry
first = record { serial = 1; timeline = 2; bytes = 8 }

abbrev second : Entry
second = record { serial = 2; timeline = 2; bytes = 8 }

abbrev one : ℕ → Bool
one m = m == 1

abbrev pub idle : ℕ → Option ℕ → Agent
idle last waits = record (fresh_agent 1) { last = last; waits = waits }

abbrev pub leading : ℕ → Option ℕ → ℕ → Agent
leading last waits noted = record (fresh_agent 1) { last = last; waits = waits; leads = true; noted = noted }

abbrev pub resting : Agent → Bool → Confirmers → Option ℕ → AgentInput
resting agent live required heard =
    record { heard = heard; agent = agent; live = live; required = required; sends = None; holder_was_live = false }

abbrev pub sending : Agent → Bool → Confirmers → ℕ → ℕ → SyncRequest → AgentInput
sending agent live required heard number request = record {
  heard = Some heard;
  agent = agent;
  live = live;
  required = required;
  sends = Some (record { number = number; request = request });
  holder_was_live = false;
}

abbrev pub asks : AgentInput
asks = resting (idle 1 (Some 1)) false Nobody None

abbrev pub claim0 : SyncRequest
claim0 = record { member = 0; incarnation = 1; sequence = 2; leader = 2; sync = None; aim = ClaimSync }

abbrev pub arms0 : AgentInput
arms0 = sending (record (idle 2 (Some 2)) { ready = true }) false Nobody 10 11 claim0

abbrev pub begins0 : AgentInput
begins0 = resting (leading 2 None 0) true Nobody (Some 12)

abbrev renews3 : AgentInput
renews3 = resting (leading 3 (Some 3) 0) true Nobody None

abbrev requires0 : AgentInput
requires0 = resting (leading 3 None 16) true (All one) (Some 13)

abbrev renews4 : AgentInput
renews4 = resting (leading 4 (Some 4) 16) true (All one) None

abbrev publish0 : SyncRequest
publish0 = record { member = 0; incarnation = 1; sequence = 5; leader = 5; sync = Some 3; aim = PublishStandbys one 0 }

abbrev publishes0 : AgentInput
publishes0 = sending (leading 5 (Some 5) 16) true (All one) 14 15 publish0

abbrev key1 : SyncKey
key1 = record { leader = 0; standbys = one; quorum = 0; revision = 6 }

abbrev turns1 : AgentInput
turns1 = resting (record (idle 1 (Some 1)) { turn = Some key1 }) false Nobody (Some 17)

abbrev claim1 : SyncRequest
claim1 = record { member = 1; incarnation = 1; sequence = 2; leader = 7; sync = Some 6; aim = ClaimSync }

abbrev arms1 : AgentInput
arms1 = sending (record (idle 2 (Some 2)) { turn = Some key1; ready = true }) false Nobody 18 19 claim1

abbrev begins1 : AgentInput
begins1 = resting (record (leading 2 None 0) { turn = Some key1 }) true Nobody (Some 20)

abbrev pub s0 : State
s0 = start_with false 2 (λ m. base ∷ [])

abbrev s1 : State
s1 = act s0 (Input 0 asks)

abbrev s2 : State
s2 = act s1 (Create 0 1 1 10)

abbrev s3 : State
s3 = act s2 (Input 0 arms0)

abbrev s4 : State
s4 = act s3 (Decide 11 12)

abbrev s5 : State
s5 = act s4 (Input 0 begins0)

abbrev s6 : State
s6 = act s5 (Accept 0)

abbrev s7 : State
s7 = act s6 (Commit 0 first)

abbrev s8 : State
s8 = act s7 (Acknowledge 0 (base ∷ first ∷ []) 1)

abbrev s9 : State
s9 = act s8 (Receive 1 0 1)

abbrev s10 : State
s10 = act s9 (Confirm 0 1)

abbrev s11 : State
s11 = act s10 (Input 0 renews3)

abbrev s12 : State
s12 = act s11 (Renew 0 1 3 13 false)

abbrev s13 : State
s13 = act s12 (Input 0 requires0)

abbrev s14 : State
s14 = act s13 (Input 0 renews4)

abbrev s15 : State
s15 = act s14 (Renew 0 1 4 14 false)

abbrev s16 : State
s16 = act s15 (Input 0 publishes0)

abbrev s17 : State
s17 = act s16 (Decide 15 16)

abbrev s18 : State
s18 = act s17 (Commit 0 second)

abbrev s19 : State
s19 = act s18 (Receive 1 0 1)

abbrev s20 : State
s20 = act s19 (Confirm 0 1)

abbrev s21 : State
s21 = act s20 (Acknowledge 0 (base ∷ first ∷ second ∷ []) 2)

abbrev s22 : State
s22 = act s21 (End 0)

abbrev s23 : State
s23 = act s22 (Expire)

abbrev s24 : State
s24 = act s23 (SendSnapshot false false 17)

abbrev s25 : State
s25 = act s24 (Input 1 turns1)

abbrev s26 : State
s26 = act s25 (Create 1 1 1 18)

abbrev s27 : State
s27 = act s26 (Input 1 arms1)

abbrev s28 : State
s28 = act s27 (Decide 19 20)

abbrev s29 : State
s29 = act s28 (Input 1 begins1)

abbrev s30 : State
s30 = act s29 (Accept 1)

abbrev pub actions : List Action
actions =
    Input 0 asks
    ∷ Create 0 1 1 10
    ∷ Input 0 arms0
    ∷ Decide 11 12
    ∷ Input 0 begins0
    ∷ Accept 0
    ∷ Commit 0 first
    ∷ Acknowledge 0 (base ∷ first ∷ []) 1
    ∷ Receive 1 0 1
    ∷ Confirm 0 1
    ∷ Input 0 renews3
    ∷ Renew 0 1 3 13 false
    ∷ Input 0 requires0
    ∷ Input 0 renews4
    ∷ Renew 0 1 4 14 false
    ∷ Input 0 publishes0
    ∷ Decide 15 16
    ∷ Commit 0 second
    ∷ Receive 1 0 1
    ∷ Confirm 0 1
    ∷ Acknowledge 0 (base ∷ first ∷ second ∷ []) 2
    ∷ End 0
    ∷ Expire
    ∷ SendSnapshot false false 17
    ∷ Input 1 turns1
    ∷ Create 1 1 1 18
    ∷ Input 1 arms1
    ∷ Decide 19 20
    ∷ Input 1 begins1
    ∷ Accept 1
    ∷ []

-- only members 0 and 1 act
abbrev pub Only : (ℕ → Machine) → Type 0
Only members = (n : ℕ) → Acts (members n) → (n ≡ 0) ⊎ (n ≡ 1)

pub only-put : (members : ℕ → Machine) (k : ℕ) (y : Machine) → (k ≡ 0) ⊎ (k ≡ 1) → Only members
    → Only (put_at members k y)
only-put members k y which event_at =
    put-all members k y (λ n z. Acts z → (n ≡ 0) ⊎ (n ≡ 1)) (λ acts. which) (λ n other acts. event_at n acts)

nobody : (n : ℕ) → Acts (s0.members n) → ⊥
nobody n (inl e) = both e
nobody n (inr e) = both e

only0 : Only s0.members
only0 n acts = absurd (nobody n acts)

only1 : Only s1.members
only1 = only-put s0.members 0 (s1.members 0) (inl refl) only0

only2 : Only s2.members
only2 = only1

only3 : Only s3.members
only3 = only-put s2.members 0 (s3.members 0) (inl refl) only2

only4 : Only s4.members
only4 = only3

only5 : Only s5.members
only5 = only-put s4.members 0 (s5.members 0) (inl refl) only4

only6 : Only s6.members
only6 = only-put s5.members 0 (s6.members 0) (inl refl) only5

only7 : Only s7.members
only7 = only-put s6.members 0 (s7.members 0) (inl refl) only6

only8 : Only s8.members
only8 = only7

only9 : Only s9.members
only9 = only-put s8.members 1 (s9.members 1) (inr refl) only8

only10 : Only s10.members
only10 = only-put s9.members 0 (s10.members 0) (inl refl) only9

only11 : Only s11.members
only11 = only-put s10.members 0 (s11.members 0) (inl refl) only10

only12 : Only s12.members
only12 = only11

only13 : Only s13.members
only13 = only-put s12.members 0 (s13.members 0) (inl refl) only12

only14 : Only s14.members
only14 = only-put s13.members 0 (s14.members 0) (inl refl) only13

only15 : Only s15.members
only15 = only14

only16 : Only s16.members
only16 = only-put s15.members 0 (s16.members 0) (inl refl) only15

only17 : Only s17.members
only17 = only16

only18 : Only s18.members
only18 = only-put s17.members 0 (s18.members 0) (inl refl) only17

only19 : Only s19.members
only19 = only-put s18.members 1 (s19.members 1) (inr refl) only18

only20 : Only s20.members
only20 = only-put s19.members 0 (s20.members 0) (inl refl) only19

only21 : Only s21.members
only21 = only20

only22 : Only s22.members
only22 = only-put s21.members 0 (s22.members 0) (inl refl) only21

only23 : Only s23.members
only23 = only22

only24 : Only s24.members
only24 = only23

only25 : Only s25.members
only25 = only-put s24.members 1 (s25.members 1) (inr refl) only24

only26 : Only s26.members
only26 = only25

pub same-waits : (last : ℕ) (was after : Option ℕ) → after ≡ None → (sequence : ℕ) → after ≡ Some sequence
    → (was ≡ Some sequence) ⊎ (last < sequence)
same-waits last was after none sequence e = absurd (none-some sequence (sym none ∙ e))

pub new-waits : (last next : ℕ) (was : Option ℕ) → last < next → (sequence : ℕ)
    → ◌≡◌ {A = Option ℕ} (Some next) (Some sequence) → (was ≡ Some sequence) ⊎ (last < sequence)
new-waits last next was less sequence e = inr (subst (λ (n : ℕ). last < n) (some-is next sequence e) less)

pub stays : (a b : Agent) → b.turn ≡ a.turn → b.race ≡ a.race → (b.won ≡ true → a.won ≡ true) → KeepsTurn a b
stays a b turn race won = record { turn = turn; race = inl race; won = won }

pub numbered : (last : ℕ) (x : Machine) (g : Agent) → x.agent ≡ Some g → (sequence : ℕ) → sequence ≤ g.last
    → x.runs ≡ 1 → IsNumbered x 1 sequence
numbered last x g is sequence le runs = record {
  run_old = omega (arith, runs);
  sequence_old = λ h e same. omega (arith, le, ap (λ (y : Agent). y.last) (some-is g h (sym is ∙ e)));
}

law0 : IsAllowed s0 (Input 0 asks)
law0 = (
  record {
    was = fresh_agent 1;
    was_is = refl;
    incarnation = refl;
    last = omega arith;
    waits = new-waits 0 1 None (omega arith);
    holder_was_live = inl refl;
    does = Idling (record {
      keeps = record { server = record { live = refl; required = refl }; ready = λ e. e; leads = λ e. e; noted = refl };
      sends = refl;
      turn = inl (stays (fresh_agent 1) asks.agent refl refl (λ e. e));
    });
  },
  tt,
)

alone2 : (n : ℕ) → Acts (s2.members n) → n ≡ 0
alone2 =
    put-all s0.members 0 (s2.members 0) (λ n z. Acts z → n ≡ 0) (λ acts. refl) (λ n other acts. absurd (nobody n acts))

law2 : IsAllowed s2 (Input 0 arms0)
law2 = (
  record {
    was = asks.agent;
    was_is = refl;
    incarnation = refl;
    last = omega arith;
    waits = new-waits 1 2 (Some 1) (omega arith);
    holder_was_live = inl refl;
    does = Arming (record {
      grant = record { member = 0; incarnation = 1; sequence = 1; revision = 2; sync = None };
      hears = record { number = 10; heard = refl; is = refl; member = refl; incarnation = refl; waits = refl };
      keeps = record { live = refl; required = refl };
      not_live = refl;
      turn = stays asks.agent arms0.agent refl refl (λ e. e);
      request = claim0;
      sends = record {
        number = 11;
        is = refl;
        member = refl;
        incarnation = refl;
        later = omega arith;
        counted = omega arith;
        waits = refl;
      };
      aim = refl;
      leader = refl;
      sync = refl;
      counts = omega arith;
      named = inl tt;
    });
  },
  record { present = refl; alone = alone2 },
)

law4 : IsAllowed s4 (Input 0 begins0)
law4 = (
  record {
    was = arms0.agent;
    was_is = refl;
    incarnation = refl;
    last = omega arith;
    waits = same-waits 2 (Some 2) None refl;
    holder_was_live = inl refl;
    does = Promoting (record {
      sync_grant = record {
        member = 0;
        incarnation = 1;
        sequence = 2;
        key = record { leader = 0; standbys = λ n. false; quorum = 0; revision = 3 };
      };
      hears = record { number = 12; heard = refl; is = refl; member = refl; incarnation = refl; waits = refl };
      was_ready = refl;
      ready = refl;
      required = refl;
      sends = refl;
      turn = stays arms0.agent begins0.agent refl refl (λ e. e);
      log = record { entries = base ∷ []; is = refl };
      claim = λ n. refl;
    });
  },
  tt,
)

ack1 : MayAcknowledge s7 0 (base ∷ first ∷ []) 1
ack1 = record {
  writes = refl;
  mine = base ∷ first ∷ [];
  mine_is = refl;
  prefix = prefix-self (base ∷ first ∷ []);
  entry = record { front = base ∷ []; entry = first; rest = []; whole = refl; serial = refl };
  met = tt;
}

receive8 : MayReceive s8 1 0
receive8 = record {
  copies = record {
    mine = base ∷ [];
    mine_is = refl;
    theirs = base ∷ first ∷ [];
    theirs_is = refl;
    not_live = refl;
    writes = refl;
  };
  prefix = record { rest = first ∷ []; whole = refl };
}

confirm9 : MayConfirm s9 0 1
confirm9 = record {
  writes = refl;
  mine = base ∷ first ∷ [];
  mine_is = refl;
  theirs = base ∷ first ∷ [];
  theirs_is = refl;
  prefix = prefix-self (base ∷ first ∷ []);
}

law10 : IsAllowed s10 (Input 0 renews3)
law10 = (
  record {
    was = begins0.agent;
    was_is = refl;
    incarnation = refl;
    last = omega arith;
    waits = new-waits 2 3 None (omega arith);
    holder_was_live = inl refl;
    does = Idling (record {
      keeps = record { server = record { live = refl; required = refl }; ready = λ e. e; leads = λ e. e; noted = refl };
      sends = refl;
      turn = inl (stays begins0.agent renews3.agent refl refl (λ e. e));
    });
  },
  tt,
)

law12 : IsAllowed s12 (Input 0 requires0)
law12 = (
  record {
    was = renews3.agent;
    was_is = refl;
    incarnation = refl;
    last = omega arith;
    waits = same-waits 3 (Some 3) None refl;
    holder_was_live = inl refl;
    does = ChangingRequired (record {
      grant = record {
        member = 0;
        incarnation = 1;
        sequence = 3;
        revision = 4;
        sync = Some (record { leader = 0; standbys = λ n. false; quorum = 0; revision = 3 });
      };
      hears = record { number = 13; heard = refl; is = refl; member = refl; incarnation = refl; waits = refl };
      live = refl;
      sends = refl;
      ready = λ e. e;
      leads = λ e. e;
      turn = stays renews3.agent requires0.agent refl refl (λ e. e);
      key = record { leader = 0; standbys = λ n. false; quorum = 0; revision = 3 };
      key_is = refl;
      overlaps = λ m e. absurd (both e);
      notes = inl refl;
    });
  },
  tt,
)

law13 : IsAllowed s13 (Input 0 renews4)
law13 = (
  record {
    was = requires0.agent;
    was_is = refl;
    incarnation = refl;
    last = omega arith;
    waits = new-waits 3 4 None (omega arith);
    holder_was_live = inl refl;
    does = Idling (record {
      keeps = record { server = record { live = refl; required = refl }; ready = λ e. e; leads = λ e. e; noted = refl };
      sends = refl;
      turn = inl (stays requires0.agent renews4.agent refl refl (λ e. e));
    });
  },
  tt,
)

is-one : (m : ℕ) → one m ≡ true → m ≡ 1
is-one m e = eq-from m 1 e

law15 : IsAllowed s15 (Input 0 publishes0)
law15 = (
  record {
    was = renews4.agent;
    was_is = refl;
    incarnation = refl;
    last = omega arith;
    waits = new-waits 4 5 (Some 4) (omega arith);
    holder_was_live = inl refl;
    does = Publishing (record {
      grant = record {
        member = 0;
        incarnation = 1;
        sequence = 4;
        revision = 5;
        sync = Some (record { leader = 0; standbys = λ n. false; quorum = 0; revision = 3 });
      };
      hears = record { number = 14; heard = refl; is = refl; member = refl; incarnation = refl; waits = refl };
      keeps = record { live = refl; required = refl };
      live = refl;
      led = refl;
      ready = λ e. e;
      noted = refl;
      turn = stays renews4.agent publishes0.agent refl refl (λ e. e);
      key = record { leader = 0; standbys = λ n. false; quorum = 0; revision = 3 };
      key_is = refl;
      request = publish0;
      sends = record {
        number = 15;
        is = refl;
        member = refl;
        incarnation = refl;
        later = omega arith;
        counted = omega arith;
        waits = refl;
      };
      leader = refl;
      sync = refl;
      standbys = one;
      quorum = 0;
      aim = refl;
      overlaps = λ m e. e;
      connected = λ n e.
          inr (refl, subst (λ (k : ℕ). Reaches 0 ((s15.members 0).confirmed k)) (sym (is-one n e)) (omega arith));
      may =
          Added (λ n e.
          inr (refl, subst (λ (k : ℕ). Reaches 16 ((s15.members 0).confirmed k)) (sym (is-one n e)) (omega arith)))
          (omega arith);
    });
  },
  tt,
)

receive18 : MayReceive s18 1 0
receive18 = record {
  copies = record {
    mine = base ∷ first ∷ [];
    mine_is = refl;
    theirs = base ∷ first ∷ second ∷ [];
    theirs_is = refl;
    not_live = refl;
    writes = refl;
  };
  prefix = record { rest = second ∷ []; whole = refl };
}

confirm19 : MayConfirm s19 0 1
confirm19 = record {
  writes = refl;
  mine = base ∷ first ∷ second ∷ [];
  mine_is = refl;
  theirs = base ∷ first ∷ second ∷ [];
  theirs_is = refl;
  prefix = prefix-self (base ∷ first ∷ second ∷ []);
}

ack2 : MayAcknowledge s20 0 (base ∷ first ∷ second ∷ []) 2
ack2 = record {
  writes = refl;
  mine = base ∷ first ∷ second ∷ [];
  mine_is = refl;
  prefix = prefix-self (base ∷ first ∷ second ∷ []);
  entry = record { front = base ∷ first ∷ []; entry = second; rest = []; whole = refl; serial = refl };
  met = λ n e. subst (λ (k : ℕ). Reaches 24 ((s20.members 0).confirmed k)) (sym (is-one n e)) (omega arith);
}

law24 : IsAllowed s24 (Input 1 turns1)
law24 = (
  record {
    was = fresh_agent 1;
    was_is = refl;
    incarnation = refl;
    last = omega arith;
    waits = new-waits 0 1 None (omega arith);
    holder_was_live = inl refl;
    does = Idling (record {
      keeps = record { server = record { live = refl; required = refl }; ready = λ e. e; leads = λ e. e; noted = refl };
      sends = refl;
      turn = inr (record {
        view = record {
          keyless = false;
          leaderless = false;
          failsafe_revision = None;
          number = 17;
          heard = refl;
          is = refl;
        };
        race = refl;
        won = refl;
      });
    });
  },
  tt,
)

not_live : Acts (s26.members 0) → ⊥
not_live (inl e) = both e
not_live (inr e) = both e

alone26 : (n : ℕ) → Acts (s26.members n) → n ≡ 1
alone26 n acts = elim (only26 n acts) [
  | inl zero_is ↦ absurd (not_live (subst (λ (k : ℕ). Acts (s26.members k)) zero_is acts))
  | inr one_is ↦ one_is
]

law26 : IsAllowed s26 (Input 1 arms1)
law26 = (
  record {
    was = turns1.agent;
    was_is = refl;
    incarnation = refl;
    last = omega arith;
    waits = new-waits 1 2 (Some 1) (omega arith);
    holder_was_live = inl refl;
    does = Arming (record {
      grant = record { member = 1; incarnation = 1; sequence = 1; revision = 7; sync = Some key1 };
      hears = record { number = 18; heard = refl; is = refl; member = refl; incarnation = refl; waits = refl };
      keeps = record { live = refl; required = refl };
      not_live = refl;
      turn = stays turns1.agent arms1.agent refl refl (λ e. e);
      request = claim1;
      sends = record {
        number = 19;
        is = refl;
        member = refl;
        incarnation = refl;
        later = omega arith;
        counted = omega arith;
        waits = refl;
      };
      aim = refl;
      leader = refl;
      sync = refl;
      counts = omega arith;
      named = inl (inr (refl, refl));
    });
  },
  record { present = refl; alone = alone26 },
)

law28 : IsAllowed s28 (Input 1 begins1)
law28 = (
  record {
    was = arms1.agent;
    was_is = refl;
    incarnation = refl;
    last = omega arith;
    waits = same-waits 2 (Some 2) None refl;
    holder_was_live = inl refl;
    does = Promoting (record {
      sync_grant = record {
        member = 1;
        incarnation = 1;
        sequence = 2;
        key = record { leader = 1; standbys = λ n. false; quorum = 0; revision = 8 };
      };
      hears = record { number = 20; heard = refl; is = refl; member = refl; incarnation = refl; waits = refl };
      was_ready = refl;
      ready = refl;
      required = refl;
      sends = refl;
      turn = stays arms1.agent begins1.agent refl refl (λ e. e);
      log = record { entries = base ∷ first ∷ second ∷ []; is = refl };
      claim = λ n. refl;
    });
  },
  tt,
)

unfenced : {s : State} → s.creates_compare ≡ false → MayRenew s false
unfenced not_live = record { leader = λ e. absurd (not-false _ not_live e); holder_was_live = λ e c. absurd (both c) }

pub allowed : MayFollow s0 actions
allowed = (
  law0,
  (
    (numbered 1 (s1.members 0) asks.agent refl 1 (omega arith) refl, refl),
    (
      law2,
      (
        tt,
        (
          law4,
          (
            refl,
            (
              (refl, omega arith),
              (
                ack1,
                (
                  receive8,
                  (
                    confirm9,
                    (
                      law10,
                      (
                        (numbered 3 (s11.members 0) renews3.agent refl 3 (omega arith) refl, unfenced refl),
                        (
                          law12,
                          (
                            law13,
                            (
                              (numbered 4 (s14.members 0) renews4.agent refl 4 (omega arith) refl, unfenced refl),
                              (
                                law15,
                                (
                                  tt,
                                  (
                                    (refl, omega arith),
                                    (
                                      receive18,
                                      (
                                        confirm19,
                                        (
                                          ack2,
                                          (
                                            tt,
                                            (
                                              tt,
                                              (
                                                (λ e. absurd (both e), λ e. absurd (both e)),
                                                (
                                                  law24,
                                                  (
                                                    (
                                                      numbered 1 (s25.members 1) turns1.agent refl 1 (omega arith) refl,
                                                      refl,
                                                    ),
                                                    (law26, (tt, (law28, (refl, tt)))),
                                                  ),
                                                ),
                                              ),
                                            ),
                                          ),
                                        ),
                                      ),
                                    ),
                                  ),
                                ),
                              ),
                            ),
                          ),
                        ),
                      ),
                    ),
                  ),
                ),
              ),
            ),
          ),
        ),
      ),
    ),
  ),
)

pub writes : ((state_after s0 actions).members 1).writes ≡ true
writes = refl

pub told : (state_after s0 actions).acknowledged ≡ 1 ∷ 2 ∷ []
told = refl
