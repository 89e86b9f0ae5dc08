-- What is told on the error output.
use Rattle.std.proofs.Common.{◌≡◌, List, ℕ, Result, Ok, Err, refl, inl, inr, subst}
use Rattle.pat_outside.specs.declared.outside.Failed.{Failed}
use Rattle.pat_outside.specs.declared.outside.Sink.{Ghosts}
use Rattle.pat_outside.specs.Prints.{Prints, failed}
use Rattle.pat_outside.proofs.Contents.{GrewByPrefix-all}
use Rattle.command_line.specs.Status.{IsReported}

told : {E X : Type 0} {sink : Ghosts E} {before after : E} {line : List ℕ} (result : Result X Failed)
    → Prints sink before after failed result line → IsReported sink before after line
told {sink = sink} {before = before} {after = after} {line = line} (Ok done) p = record {
  part = GrewByPrefix-all (sink.content before) (sink.content after) line p.ok;
  whole = inl p.ok;
  room = λ n can fits. p.ok;
}
told (Err error) p = record {
  part = p.part;
  whole = inr (p.write refl);
  room = λ n can fits. absurd (p.room n can fits refl);
}

-- what a call of `write_all` leaves whose result is let go
pub told-text : {E X : Type 0} {sink : Ghosts E} {before after : E} {text line : List ℕ} (result : Result X Failed)
    → text ≡ line → Prints sink before after failed result text → IsReported sink before after line
told-text {sink = sink} {before = before} {after = after} result same p =
    subst (λ (t : List ℕ). IsReported sink before after t) same (told result p)
