use Rattle.std.proofs.Common.{ℕ, ◌+◌, ap, ◌∙◌, refl}
use Rattle.pat_base.specs.declared.ticks.Ticks.{Ticks}
use Rattle.agent_model.specs.StayingPrimary.{requesting_all}
use Rattle.agent_leadership.proofs.staying.ask_to_stay.Goals as goal

pub returns-clause-outcome : goal.returns-clause-outcome
returns-clause-outcome c = record {
  knows = rw c.new-turn.ensures (rw c.ttl_ticks-ttl.ensures (rw c.answers_until.ensures refl));
  machine = refl;
  outputs = c.request_all.ensures.out
      ∙ ap (λ (n : ℕ). let ttl : Ticks = record { 0 = n } in
      requesting_all c.args.members (c.args.turn.now.knows.now.sequence + 1) ttl c.args.turn.now.out.now.outputs)
      c.ttl_ticks-ttl.ensures;
}
