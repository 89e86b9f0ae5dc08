-- A run and a number that a member's agents gave stay given.
use Rattle.std.proofs.Common.{ℕ, ◌≡◌, ◌≤◌, ◌+◌, List, [], ◌∷◌, Some, None, refl, ◌∙◌, ap, sym, subst, arith}
use Rattle.event_book.specs.declared.link.LinkEnd.{LinkEnd}
use Rattle.event_book.specs.declared.link.LinkEnd.TheVariants as ends
use Rattle.event_book.specs.declared.message.Body.{Body}
use Rattle.event_book.specs.declared.message.Body.TheVariants as bodies
use Rattle.event_book.specs.Functions.{put_at}
use Rattle.lease_model.proofs.Tools.{none-some, put-all, some-is}
use Rattle.commit_actions.specs.Actions.{Accept, Action, Cease, Clone, Commit, Confirm, Decide, End, Input, IsAllowed, IsNumbered, Kill, Receive, Rewind, Start, Wipe, act, fresh_agent, machine_after}
use Rattle.commit_showing.specs.Books.{AreAllowed, Transition, book_of}
use Rattle.commit_actions.specs.Inputs.{AgentInput, IsLawful}
use Rattle.commit_actions.specs.Past.{Past, Setup, VolatileState, past_over, state_of}
use Rattle.commit_actions.specs.States.{Agent, Machine, State}
use Rattle.commit_law.proofs.Deciding.{decided-members}
use Rattle.commit_showing.proofs.Fronts.{past-append}
use Rattle.commit_parts.specs.Agents.{IsAskNumbered}
use Rattle.commit_parts.specs.Moving.{volatile_last}

-- whatever is numbered by the first machine is so by the second
abbrev StaysNumbered : Machine → Machine → Type 0
StaysNumbered x y = (incarnation sequence : ℕ) → IsNumbered x incarnation sequence → IsNumbered y incarnation sequence

-- whatever is numbered by the first machine of a member is so by its second, at each member
abbrev pub StayNumbered : (ℕ → Machine) → (ℕ → Machine) → Type 0
StayNumbered members later = (m : ℕ) → StaysNumbered (members m) (later m)

same-agent : (x y : Machine) → x.runs ≡ y.runs → y.agent ≡ x.agent → StaysNumbered x y
same-agent x y runs agent incarnation sequence old = record {
  run_old = subst (λ (n : ℕ). incarnation ≤ n) runs old.run_old;
  sequence_old = λ g is. old.sequence_old g (sym agent ∙ is);
}

started : (x : Machine) → StaysNumbered x (record x { agent = Some (fresh_agent (x.runs + 1)); runs = x.runs + 1 })
started x incarnation sequence old = record {
  run_old = omega (arith, old.run_old);
  sequence_old = λ g is same.
      let next : x.runs + 1 ≡ incarnation =
      ap (λ (a : Agent). a.incarnation) (some-is (fresh_agent (x.runs + 1)) g is) ∙ same in
      absurd (omega (arith, next, old.run_old));
}

killed : (x : Machine) → StaysNumbered x (record x { agent = None })
killed x incarnation sequence old = record { run_old = old.run_old; sequence_old = λ g is. absurd (none-some g is) }

-- an agent goes on in its incarnation, and counts on
went-on : (s : State) (m : ℕ) (input : AgentInput) → IsLawful s m input
    → StaysNumbered (s.members m) (machine_after (s.members m) input)
went-on s m input law incarnation sequence old = record {
  run_old = old.run_old;
  sequence_old = λ g is same.
      let now : input.agent ≡ g = some-is input.agent g is in
      let before : sequence ≤ law.was.last =
      old.sequence_old law.was law.was_is (sym law.incarnation ∙ ap (λ (a : Agent). a.incarnation) now ∙ same) in
      omega (arith, before, law.last, ap (λ (a : Agent). a.last) now);
}

put-numbered : (members : ℕ → Machine) (k : ℕ) (y : Machine) → StaysNumbered (members k) y
    → StayNumbered members (put_at members k y)
put-numbered members k y kept =
    put-all members k y (λ n z. StaysNumbered (members n) z) kept (λ n other incarnation sequence old. old)

-- so it stays behind each allowed action
pub numbered-by : (s : State) (action : Action) → IsAllowed s action → StayNumbered s.members (act s action).members
numbered-by s (Commit m entry) allowed = put-numbered s.members m _ (same-agent (s.members m) _ refl refl)
numbered-by s (Receive m from number) allowed = put-numbered s.members m _ (same-agent (s.members m) _ refl refl)
numbered-by s (Confirm m by) allowed = put-numbered s.members m _ (same-agent (s.members m) _ refl refl)
numbered-by s (Rewind m from) allowed = put-numbered s.members m _ (same-agent (s.members m) _ refl refl)
numbered-by s (Clone m from) allowed = put-numbered s.members m _ (same-agent (s.members m) _ refl refl)
numbered-by s (Wipe m) allowed = put-numbered s.members m _ (same-agent (s.members m) _ refl refl)
numbered-by s (Accept m) allowed = put-numbered s.members m _ (same-agent (s.members m) _ refl refl)
numbered-by s (Cease m) allowed = put-numbered s.members m _ (same-agent (s.members m) _ refl refl)
numbered-by s (End m) allowed = put-numbered s.members m _ (same-agent (s.members m) _ refl refl)
numbered-by s (Decide number answer) allowed = subst (λ (later : ℕ → Machine). StayNumbered s.members later)
    (sym (decided-members s number answer (s.flight number))) (λ m incarnation sequence old. old)
numbered-by s (Start m) allowed = put-numbered s.members m _ (started (s.members m))
numbered-by s (Kill m) allowed = put-numbered s.members m _ (killed (s.members m))
numbered-by s (Input m input) allowed = put-numbered s.members m _ (went-on s m input allowed.0)
numbered-by s _ allowed = λ m incarnation sequence old. old

-- and behind such actions one after another
pub numbered-last : (setup : Setup) (past : Past) (volatile_states : ℕ → VolatileState) (transitions : List Transition)
    → AreAllowed setup past volatile_states transitions
    → StayNumbered (state_of setup past volatile_states).members
    (state_of setup (past_over past (book_of transitions)) (volatile_last volatile_states transitions)).members
numbered-last setup past volatile_states [] all = λ m incarnation sequence old. old
numbered-last setup past volatile_states (t ∷ ts) all = λ m incarnation sequence old.
    subst (λ (p : Past).
    IsNumbered ((state_of setup p (volatile_last t.volatile_states ts)).members m) incarnation sequence)
    (sym (past-append past t.events (book_of ts)))
    (numbered-last setup (past_over past t.events) t.volatile_states ts all.3 m incarnation sequence
    (subst (λ (s : State). IsNumbered (s.members m) incarnation sequence) (sym all.1)
    (numbered-by (state_of setup past volatile_states) t.action all.0 m incarnation sequence old)))

-- so each question of one member to another stays numbered
pub ask-numbered : (s later : State) → StayNumbered s.members later.members
    → (from : LinkEnd) (incarnation sequence : ℕ) (body : Body)
    → IsAskNumbered s from incarnation sequence body → IsAskNumbered later from incarnation sequence body
ask-numbered s later stay (ends.Member by) incarnation sequence bodies.Ask old =
    stay by.id.number incarnation sequence old
ask-numbered s later stay (ends.Member by) incarnation sequence _ old = tt
ask-numbered s later stay ends.Store incarnation sequence body old = tt
