-- A run where creations compare the sync key and member 0 goes on without its leader key for
-- a while: member 1's snapshot is read before the commit, and its asks go out after member 0 ended.
use Rattle.std.proofs.Common.{ℕ, ◌==◌, ◌||◌, Bool, true, false, if◌then◌else◌, List, ◌∷◌, Some, None, []}
use Rattle.commit_actions.specs.Keys.{SyncKey, Nobody, AtLeast}
use Rattle.commit_actions.specs.Flights.{ClaimSync, PublishStandbys, CreateLeader, SyncRequest}
use Rattle.commit_actions.specs.States.{Race, State}
use Rattle.commit_actions.specs.Inputs.{AgentInput}
use Rattle.commit_actions.specs.Actions.{Action, Commit, Acknowledge, Receive, Confirm, Accept, End, Renew, Expire, SendSnapshot, Decide, AnswerRace, Input, act, start_with}
use Rattle.law_examples.proofs.ExampleSynchronous.{base, first, idle, leading, resting, sending, arms0, begins0}

abbrev pub two : ℕ → Bool
two n = (n == 1) || (n == 2)

abbrev pub renews3 : AgentInput
renews3 = resting (leading 3 (Some 3) 0) true Nobody None

abbrev pub publish4 : SyncRequest
publish4 = record { member = 0; incarnation = 1; sequence = 4; leader = 4; sync = Some 3; aim = PublishStandbys two 2 }

abbrev pub publishes4 : AgentInput
publishes4 = sending (leading 4 (Some 4) 0) true Nobody 13 14 publish4

abbrev pub renews5 : AgentInput
renews5 = resting (leading 5 (Some 5) 0) true Nobody None

abbrev pub requires5 : AgentInput
requires5 = resting (leading 5 None 8) true (AtLeast 1 two) (Some 16)

abbrev pub renews6 : AgentInput
renews6 = resting (leading 6 (Some 6) 8) true (AtLeast 1 two) None

abbrev pub publish7 : SyncRequest
publish7 = record { member = 0; incarnation = 1; sequence = 7; leader = 7; sync = Some 5; aim = PublishStandbys two 1 }

abbrev pub publishes7 : AgentInput
publishes7 = sending (leading 7 (Some 7) 8) true (AtLeast 1 two) 17 18 publish7

abbrev pub key : SyncKey
key = (record { leader = 0; standbys = two; quorum = 1; revision = 8 })

abbrev pub race : Race
race = record { sequence = 1; ends = λ n. None }

abbrev pub heard : Race
heard = record { sequence = 1; ends = λ n. if n == 2 then Some 8 else None }

abbrev pub races1 : AgentInput
races1 = resting (record (idle 1 None) { turn = Some key; race = Some race }) false Nobody (Some 20)

abbrev pub take0 : SyncRequest
take0 = record { member = 0; incarnation = 1; sequence = 1; leader = 0; sync = None; aim = CreateLeader }

abbrev pub creates0 : AgentInput
creates0 = record {
  heard = None;
  agent = idle 1 (Some 1);
  live = false;
  required = Nobody;
  sends = Some (record { number = 9; request = take0 });
  holder_was_live = false;
}

abbrev pub take1 : SyncRequest
take1 = record { member = 1; incarnation = 1; sequence = 2; leader = 0; sync = Some 8; aim = CreateLeader }

-- the answer is the last that it waits for, so it wins and asks for the leader key in one input
abbrev pub wins1 : AgentInput
wins1 = sending (record (idle 2 (Some 2)) { turn = Some key; won = true }) false Nobody 21 25 take1

abbrev pub claim1 : SyncRequest
claim1 = record { member = 1; incarnation = 1; sequence = 3; leader = 9; sync = Some 8; aim = ClaimSync }

abbrev pub arms1 : AgentInput
arms1 = sending (record (idle 3 (Some 3)) { turn = Some key; won = true; ready = true }) false Nobody 22 23 claim1

abbrev pub begins1 : AgentInput
begins1 = resting (record (leading 3 None 0) { turn = Some key }) true Nobody (Some 24)

abbrev pub s0 : State
s0 = start_with true 3 (λ m. base ∷ [])

abbrev pub s1 : State
s1 = act s0 (Input 0 creates0)

abbrev pub s2 : State
s2 = act s1 (Decide 9 10)

abbrev pub s3 : State
s3 = act s2 (Input 0 arms0)

abbrev pub s4 : State
s4 = act s3 (Decide 11 12)

abbrev pub s5 : State
s5 = act s4 (Input 0 begins0)

abbrev pub s6 : State
s6 = act s5 (Accept 0)

abbrev pub s7 : State
s7 = act s6 (Confirm 0 1)

abbrev pub s8 : State
s8 = act s7 (Confirm 0 2)

abbrev pub s9 : State
s9 = act s8 (Input 0 renews3)

abbrev pub s10 : State
s10 = act s9 (Renew 0 1 3 13 false)

abbrev pub s11 : State
s11 = act s10 (Input 0 publishes4)

abbrev pub s12 : State
s12 = act s11 (Decide 14 15)

abbrev pub s13 : State
s13 = act s12 (Input 0 renews5)

abbrev pub s14 : State
s14 = act s13 (Renew 0 1 5 16 false)

abbrev pub s15 : State
s15 = act s14 (Input 0 requires5)

abbrev pub s16 : State
s16 = act s15 (Input 0 renews6)

abbrev pub s17 : State
s17 = act s16 (Renew 0 1 6 17 false)

abbrev pub s18 : State
s18 = act s17 (Input 0 publishes7)

abbrev pub s19 : State
s19 = act s18 (Decide 18 19)

abbrev pub s20 : State
s20 = act s19 (Expire)

abbrev pub s21 : State
s21 = act s20 (SendSnapshot false true 20)

abbrev pub s22 : State
s22 = act s21 (Commit 0 first)

abbrev pub s23 : State
s23 = act s22 (Receive 1 0 1)

abbrev pub s24 : State
s24 = act s23 (Confirm 0 1)

abbrev pub s25 : State
s25 = act s24 (Acknowledge 0 (base ∷ first ∷ []) 1)

abbrev pub s26 : State
s26 = act s25 (End 0)

abbrev pub s27 : State
s27 = act s26 (Input 1 races1)

abbrev pub s28 : State
s28 = act s27 (AnswerRace 2 1 1 1 21)

abbrev pub s29 : State
s29 = act s28 (Input 1 wins1)

abbrev pub s30 : State
s30 = act s29 (Decide 25 22)

abbrev s31 : State
s31 = act s30 (Input 1 arms1)

abbrev pub s32 : State
s32 = act s31 (Decide 23 24)

abbrev s33 : State
s33 = act s32 (Input 1 begins1)

abbrev s34 : State
s34 = act s33 (Accept 1)

abbrev pub actions : List Action
actions =
    Input 0 creates0
    ∷ Decide 9 10
    ∷ Input 0 arms0
    ∷ Decide 11 12
    ∷ Input 0 begins0
    ∷ Accept 0
    ∷ Confirm 0 1
    ∷ Confirm 0 2
    ∷ Input 0 renews3
    ∷ Renew 0 1 3 13 false
    ∷ Input 0 publishes4
    ∷ Decide 14 15
    ∷ Input 0 renews5
    ∷ Renew 0 1 5 16 false
    ∷ Input 0 requires5
    ∷ Input 0 renews6
    ∷ Renew 0 1 6 17 false
    ∷ Input 0 publishes7
    ∷ Decide 18 19
    ∷ Expire
    ∷ SendSnapshot false true 20
    ∷ Commit 0 first
    ∷ Receive 1 0 1
    ∷ Confirm 0 1
    ∷ Acknowledge 0 (base ∷ first ∷ []) 1
    ∷ End 0
    ∷ Input 1 races1
    ∷ AnswerRace 2 1 1 1 21
    ∷ Input 1 wins1
    ∷ Decide 25 22
    ∷ Input 1 arms1
    ∷ Decide 23 24
    ∷ Input 1 begins1
    ∷ Accept 1
    ∷ []
