-- Each action of that run is allowed, and what it comes to.
use Rattle.std.proofs.Common.{◌≡◌, ℕ, ◌==◌, true, false, ◌∷◌, Some, None, refl, sym, subst, arith, inl, inr, []}
use Rattle.commit_actions.specs.Keys.{Counted, Confirmed}
use Rattle.commit_actions.specs.States.{State, Reaches}
use Rattle.commit_actions.specs.Inputs.{WithAnswer, WasLeaderless, Idling, Racing, WinningRace, CreatingLeader, Arming, ChangingRequired, Publishing, Promoting}
use Rattle.commit_actions.specs.Actions.{Input, IsAllowed, MayRenew, MayFollow, state_after, fresh_agent}
use Rattle.lease_model.proofs.Tools.{both, eq-from}
use Rattle.commit_law.proofs.Prefixes.{prefix-self}
use Rattle.law_examples.proofs.ExampleSynchronous.{base, first, claim0, arms0, begins0, same-waits, new-waits, stays, numbered}
use Rattle.law_examples.proofs.QuorumStates.{actions, arms1, begins1, claim1, creates0, heard, key, publish4, publish7, publishes4, publishes7, race, races1, renews3, renews5, renews6, requires5, s0, s10, s12, s13, s14, s15, s16, s17, s2, s24, s26, s27, s28, s30, s32, s4, s8, s9, take0, take1, two, wins1}
use Rattle.law_examples.proofs.QuorumActing.{alone2, both-reach, heard-ends, no-won, nobody26, nobody30, unready20}

law0 : IsAllowed s0 (Input 0 creates0)
law0 = (
  record {
    was = fresh_agent 1;
    was_is = refl;
    incarnation = refl;
    last = omega arith;
    waits = new-waits 0 1 None (omega arith);
    holder_was_live = inl refl;
    does = CreatingLeader (record {
      keeps = record { server = record { live = refl; required = refl }; ready = λ e. e; leads = λ e. e; noted = refl };
      turn = stays (fresh_agent 1) creates0.agent refl refl (λ e. e);
      asks = record {
        not_live = refl;
        request = take0;
        sends = record {
          number = 9;
          is = refl;
          member = refl;
          incarnation = refl;
          later = omega arith;
          counted = omega arith;
          waits = refl;
        };
        aim = refl;
        leader = refl;
        sync = refl;
      };
    });
  },
  tt,
)

law2 : IsAllowed s2 (Input 0 arms0)
law2 = (
  record {
    was = creates0.agent;
    was_is = refl;
    incarnation = refl;
    last = omega arith;
    waits = new-waits 1 2 (Some 1) (omega arith);
    holder_was_live = inl refl;
    does = Arming (record {
      grant = record { member = 0; incarnation = 1; sequence = 1; revision = 2; sync = None };
      hears = record { number = 10; heard = refl; is = refl; member = refl; incarnation = refl; waits = refl };
      keeps = record { live = refl; required = refl };
      not_live = refl;
      turn = stays creates0.agent arms0.agent refl refl (λ e. e);
      request = claim0;
      sends = record {
        number = 11;
        is = refl;
        member = refl;
        incarnation = refl;
        later = omega arith;
        counted = omega arith;
        waits = refl;
      };
      aim = refl;
      leader = refl;
      sync = refl;
      counts = omega arith;
      named = inl tt;
    });
  },
  record { present = refl; alone = alone2 },
)

law4 : IsAllowed s4 (Input 0 begins0)
law4 = (
  record {
    was = arms0.agent;
    was_is = refl;
    incarnation = refl;
    last = omega arith;
    waits = same-waits 2 (Some 2) None refl;
    holder_was_live = inl refl;
    does = Promoting (record {
      sync_grant = record {
        member = 0;
        incarnation = 1;
        sequence = 2;
        key = (record { leader = 0; standbys = (λ n. false); quorum = 0; revision = 3 });
      };
      hears = record { number = 12; heard = refl; is = refl; member = refl; incarnation = refl; waits = refl };
      was_ready = refl;
      ready = refl;
      required = refl;
      sends = refl;
      turn = stays arms0.agent begins0.agent refl refl (λ e. e);
      log = record { entries = base ∷ []; is = refl };
      claim = λ n. refl;
    });
  },
  tt,
)

law8 : IsAllowed s8 (Input 0 renews3)
law8 = (
  record {
    was = begins0.agent;
    was_is = refl;
    incarnation = refl;
    last = omega arith;
    waits = new-waits 2 3 None (omega arith);
    holder_was_live = inl refl;
    does = Idling (record {
      keeps = record { server = record { live = refl; required = refl }; ready = λ e. e; leads = λ e. e; noted = refl };
      sends = refl;
      turn = inl (stays begins0.agent renews3.agent refl refl (λ e. e));
    });
  },
  tt,
)

law10 : IsAllowed s10 (Input 0 publishes4)
law10 = (
  record {
    was = renews3.agent;
    was_is = refl;
    incarnation = refl;
    last = omega arith;
    waits = new-waits 3 4 (Some 3) (omega arith);
    holder_was_live = inl refl;
    does = Publishing (record {
      grant = record {
        member = 0;
        incarnation = 1;
        sequence = 3;
        revision = 4;
        sync = Some (record { leader = 0; standbys = (λ n. false); quorum = 0; revision = 3 });
      };
      hears = record { number = 13; heard = refl; is = refl; member = refl; incarnation = refl; waits = refl };
      keeps = record { live = refl; required = refl };
      live = refl;
      led = refl;
      ready = λ e. e;
      noted = refl;
      turn = stays renews3.agent publishes4.agent refl refl (λ e. e);
      key = (record { leader = 0; standbys = (λ n. false); quorum = 0; revision = 3 });
      key_is = refl;
      request = publish4;
      sends = record {
        number = 14;
        is = refl;
        member = refl;
        incarnation = refl;
        later = omega arith;
        counted = omega arith;
        waits = refl;
      };
      leader = refl;
      sync = refl;
      standbys = two;
      quorum = 2;
      aim = refl;
      overlaps = omega arith;
      connected = λ n e. inr (refl, both-reach s10 0 (omega arith) (omega arith) n e);
      may = Counted (omega arith);
    });
  },
  tt,
)

law12 : IsAllowed s12 (Input 0 renews5)
law12 = (
  record {
    was = publishes4.agent;
    was_is = refl;
    incarnation = refl;
    last = omega arith;
    waits = new-waits 4 5 (Some 4) (omega arith);
    holder_was_live = inl refl;
    does = Idling (record {
      keeps = record { server = record { live = refl; required = refl }; ready = λ e. e; leads = λ e. e; noted = refl };
      sends = refl;
      turn = inl (stays publishes4.agent renews5.agent refl refl (λ e. e));
    });
  },
  tt,
)

law14 : IsAllowed s14 (Input 0 requires5)
law14 = (
  record {
    was = renews5.agent;
    was_is = refl;
    incarnation = refl;
    last = omega arith;
    waits = same-waits 5 (Some 5) None refl;
    holder_was_live = inl refl;
    does = ChangingRequired (record {
      grant = record {
        member = 0;
        incarnation = 1;
        sequence = 5;
        revision = 6;
        sync = Some (record { leader = 0; standbys = two; quorum = 2; revision = 5 });
      };
      hears = record { number = 16; heard = refl; is = refl; member = refl; incarnation = refl; waits = refl };
      live = refl;
      sends = refl;
      ready = λ e. e;
      leads = λ e. e;
      turn = stays renews5.agent requires5.agent refl refl (λ e. e);
      key = (record { leader = 0; standbys = two; quorum = 2; revision = 5 });
      key_is = refl;
      overlaps = omega arith;
      notes = inl refl;
    });
  },
  tt,
)

law15 : IsAllowed s15 (Input 0 renews6)
law15 = (
  record {
    was = requires5.agent;
    was_is = refl;
    incarnation = refl;
    last = omega arith;
    waits = new-waits 5 6 None (omega arith);
    holder_was_live = inl refl;
    does = Idling (record {
      keeps = record { server = record { live = refl; required = refl }; ready = λ e. e; leads = λ e. e; noted = refl };
      sends = refl;
      turn = inl (stays requires5.agent renews6.agent refl refl (λ e. e));
    });
  },
  tt,
)

law17 : IsAllowed s17 (Input 0 publishes7)
law17 = (
  record {
    was = renews6.agent;
    was_is = refl;
    incarnation = refl;
    last = omega arith;
    waits = new-waits 6 7 (Some 6) (omega arith);
    holder_was_live = inl refl;
    does = Publishing (record {
      grant = record {
        member = 0;
        incarnation = 1;
        sequence = 6;
        revision = 7;
        sync = Some (record { leader = 0; standbys = two; quorum = 2; revision = 5 });
      };
      hears = record { number = 17; heard = refl; is = refl; member = refl; incarnation = refl; waits = refl };
      keeps = record { live = refl; required = refl };
      live = refl;
      led = refl;
      ready = λ e. e;
      noted = refl;
      turn = stays renews6.agent publishes7.agent refl refl (λ e. e);
      key = (record { leader = 0; standbys = two; quorum = 2; revision = 5 });
      key_is = refl;
      request = publish7;
      sends = record {
        number = 18;
        is = refl;
        member = refl;
        incarnation = refl;
        later = omega arith;
        counted = omega arith;
        waits = refl;
      };
      leader = refl;
      sync = refl;
      standbys = two;
      quorum = 1;
      aim = refl;
      overlaps = omega arith;
      connected = λ n e. inl e;
      may = Confirmed (record {
        sure = two;
        within = λ m e. e;
        enough = omega arith;
        all = λ n e. (refl, both-reach s17 8 (omega arith) (omega arith) n e);
      });
    });
  },
  tt,
)

law26 : IsAllowed s26 (Input 1 races1)
law26 = (
  record {
    was = fresh_agent 1;
    was_is = refl;
    incarnation = refl;
    last = omega arith;
    waits = same-waits 0 None None refl;
    holder_was_live = inl refl;
    does = Racing (record {
      keeps = record { server = record { live = refl; required = refl }; ready = λ e. e; leads = λ e. e; noted = refl };
      sends = refl;
      view =
          record { keyless = false; leaderless = true; failsafe_revision = None; number = 20; heard = refl; is = refl };
      race = race;
      race_is = refl;
      later = omega arith;
      counted = omega arith;
      ends = λ n. refl;
      won = refl;
      unled = WasLeaderless refl refl;
    });
  },
  λ same n live. absurd (nobody26 n (inl live)),
)

law28 : IsAllowed s28 (Input 1 wins1)
law28 = (
  record {
    was = races1.agent;
    was_is = refl;
    incarnation = refl;
    last = omega arith;
    waits = new-waits 1 2 None (omega arith);
    holder_was_live = inl refl;
    does = WinningRace (record {
      keeps = record { server = record { live = refl; required = refl }; ready = λ e. e; leads = λ e. e; noted = refl };
      turn = refl;
      race_gone = refl;
      race = heard;
      judges = WithAnswer (record {
        number = 21;
        race_answer = record { member = 1; incarnation = 1; sequence = 1; by = 2; end = 8 };
        heard = refl;
        is = refl;
        member = refl;
        incarnation = refl;
        before = race;
        before_is = refl;
        sequence = refl;
        sequence_same = refl;
        ends = heard-ends;
      });
      key = key;
      key_is = refl;
      counts = omega arith;
      named = refl;
      log = record { entries = base ∷ first ∷ []; is = refl };
      answered = λ n. n == 2;
      others = refl;
      standbys = λ n e. subst (λ (j : ℕ). two j ≡ true) (sym (eq-from n 2 e)) refl;
      ends = λ n e. (8, subst (λ (j : ℕ). heard.ends j ≡ Some 8) (sym (eq-from n 2 e)) refl, omega arith);
      enough = omega arith;
      asks = inr (record {
        not_live = refl;
        request = take1;
        sends = record {
          number = 25;
          is = refl;
          member = refl;
          incarnation = refl;
          later = omega arith;
          counted = omega arith;
          waits = refl;
        };
        aim = refl;
        leader = refl;
        sync = refl;
      });
    });
  },
  tt,
)

law30 : IsAllowed s30 (Input 1 arms1)
law30 = (
  record {
    was = wins1.agent;
    was_is = refl;
    incarnation = refl;
    last = omega arith;
    waits = new-waits 2 3 (Some 2) (omega arith);
    holder_was_live = inl refl;
    does = Arming (record {
      grant = record { member = 1; incarnation = 1; sequence = 2; revision = 9; sync = Some key };
      hears = record { number = 22; heard = refl; is = refl; member = refl; incarnation = refl; waits = refl };
      keeps = record { live = refl; required = refl };
      not_live = refl;
      turn = stays wins1.agent arms1.agent refl refl (λ e. e);
      request = claim1;
      sends = record {
        number = 23;
        is = refl;
        member = refl;
        incarnation = refl;
        later = omega arith;
        counted = omega arith;
        waits = refl;
      };
      aim = refl;
      leader = refl;
      sync = refl;
      counts = omega arith;
      named = inr refl;
    });
  },
  record { present = refl; alone = λ n acts. absurd (nobody30 n acts) },
)

law32 : IsAllowed s32 (Input 1 begins1)
law32 = (
  record {
    was = arms1.agent;
    was_is = refl;
    incarnation = refl;
    last = omega arith;
    waits = same-waits 3 (Some 3) None refl;
    holder_was_live = inl refl;
    does = Promoting (record {
      sync_grant = record {
        member = 1;
        incarnation = 1;
        sequence = 3;
        key = (record { leader = 1; standbys = (λ n. false); quorum = 0; revision = 10 });
      };
      hears = record { number = 24; heard = refl; is = refl; member = refl; incarnation = refl; waits = refl };
      was_ready = refl;
      ready = refl;
      required = refl;
      sends = refl;
      turn = stays arms1.agent begins1.agent refl refl no-won;
      log = record { entries = base ∷ first ∷ []; is = refl };
      claim = λ n. refl;
    });
  },
  tt,
)

renewing : {s : State} → (r : ℕ) → s.leader ≡ Some r → MayRenew s false
renewing r is = record { leader = λ e. (r, is); holder_was_live = λ e c. absurd (both c) }

pub allowed : MayFollow s0 actions
allowed = (
  law0,
  (
    tt,
    (
      law2,
      (
        tt,
        (
          law4,
          (
            refl,
            (
              record {
                writes = refl;
                mine = base ∷ [];
                mine_is = refl;
                theirs = base ∷ [];
                theirs_is = refl;
                prefix = prefix-self (base ∷ []);
              },
              (
                record {
                  writes = refl;
                  mine = base ∷ [];
                  mine_is = refl;
                  theirs = base ∷ [];
                  theirs_is = refl;
                  prefix = prefix-self (base ∷ []);
                },
                (
                  law8,
                  (
                    (numbered 3 (s9.members 0) renews3.agent refl 3 (omega arith) refl, renewing 2 refl),
                    (
                      law10,
                      (
                        tt,
                        (
                          law12,
                          (
                            (numbered 5 (s13.members 0) renews5.agent refl 5 (omega arith) refl, renewing 4 refl),
                            (
                              law14,
                              (
                                law15,
                                (
                                  (numbered 6 (s16.members 0) renews6.agent refl 6 (omega arith) refl, renewing 6 refl),
                                  (
                                    law17,
                                    (
                                      tt,
                                      (
                                        tt,
                                        (
                                          (λ e. absurd (both e), λ e. (refl, unready20)),
                                          (
                                            (refl, omega arith),
                                            (
                                              record {
                                                copies = record {
                                                  mine = base ∷ [];
                                                  mine_is = refl;
                                                  theirs = base ∷ first ∷ [];
                                                  theirs_is = refl;
                                                  not_live = refl;
                                                  writes = refl;
                                                };
                                                prefix = record { rest = first ∷ []; whole = refl };
                                              },
                                              (
                                                record {
                                                  writes = refl;
                                                  mine = base ∷ first ∷ [];
                                                  mine_is = refl;
                                                  theirs = base ∷ first ∷ [];
                                                  theirs_is = refl;
                                                  prefix = prefix-self (base ∷ first ∷ []);
                                                },
                                                (
                                                  record {
                                                    writes = refl;
                                                    mine = base ∷ first ∷ [];
                                                    mine_is = refl;
                                                    prefix = prefix-self (base ∷ first ∷ []);
                                                    entry = record {
                                                      front = base ∷ [];
                                                      entry = first;
                                                      rest = [];
                                                      whole = refl;
                                                      serial = refl;
                                                    };
                                                    met = record {
                                                      sure = λ n. n == 1;
                                                      within = λ m e.
                                                          subst (λ (j : ℕ). two j ≡ true) (sym (eq-from m 1 e)) refl;
                                                      enough = omega arith;
                                                      all = λ n e.
                                                          subst (λ (j : ℕ). Reaches 16 ((s24.members 0).confirmed j))
                                                          (sym (eq-from n 1 e)) (omega arith);
                                                    };
                                                  },
                                                  (
                                                    tt,
                                                    (
                                                      law26,
                                                      (
                                                        (
                                                          record { entries = base ∷ []; is = refl },
                                                          numbered 1 (s27.members 1) races1.agent refl 1
                                                              (omega arith) refl,
                                                        ),
                                                        (
                                                          law28,
                                                          (tt, (law30, (tt, (law32, (refl, tt))))),
                                                        ),
                                                      ),
                                                    ),
                                                  ),
                                                ),
                                              ),
                                            ),
                                          ),
                                        ),
                                      ),
                                    ),
                                  ),
                                ),
                              ),
                            ),
                          ),
                        ),
                      ),
                    ),
                  ),
                ),
              ),
            ),
          ),
        ),
      ),
    ),
  ),
)

pub writes : ((state_after s0 actions).members 1).writes ≡ true
writes = refl

pub told : (state_after s0 actions).acknowledged ≡ 1 ∷ []
told = refl
