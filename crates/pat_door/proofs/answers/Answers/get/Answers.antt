use Rattle.std.proofs.Common.{ℕ, ◌≡◌, ◌<◌, ◌+◌, List, length, arith, slice_get, slice_range, unwrap_or, Option, Some, None, sym, ◌∙◌, ap, subst}
use Rattle.std.proofs.lemmas.Option.{slice_get_within}
use Rattle.pat_door.specs.Memory.{AnswerState, AreInOrder}
use Rattle.pat_door.proofs.Cuts.{IsPart, cut_at-part, cut_at-none}
use Rattle.pat_door.proofs.answers.Answers.get.Goals as goal

-- the part between two places that were looked up in copies of the lists
part-between : (starts first second bytes all : List ℕ) (n start end : ℕ) (found next : Option ℕ)
    → AreInOrder starts (length bytes) → first ≡ starts → second ≡ starts → all ≡ bytes
    → found ≡ slice_get first n → found ≡ Some start → next ≡ slice_get second (n + 1)
    → end ≡ unwrap_or next (length all) → IsPart starts bytes n start end
part-between starts first second bytes all n start end found next order is-first is-second is-all looked there then
    ends =
    cut_at-part starts bytes n start end order (sym (ap (λ (t : List ℕ). slice_get t n) is-first) ∙ sym looked ∙ there)
    (ap (λ (t : List ℕ). unwrap_or (slice_get t (n + 1)) (length bytes)) (sym is-second)
    ∙ ap (λ (t : Option ℕ). unwrap_or t (length bytes)) (sym then)
    ∙ ap (λ (t : List ℕ). unwrap_or next (length t)) (sym is-all) ∙ sym ends)

pub returns-in_err-start : goal.returns-in_err-start
returns-in_err-start c =
    let none : slice_get c.self.inside.starts.items c.args.number ≡ None =
    sym (ap (λ (t : List _). slice_get t c.args.number) c.deref.ensures.value) ∙ sym c.place_at.ensures
    ∙ c.in_err-start.was {u = tt} in
    let P : AnswerState → Type 0 = λ a. None ≡ slice_get a.answers c.args.number in
    rw c.from_residual.ensures
    (subst P c.self.view_is (sym (cut_at-none c.self.inside.starts.items c.self.inside.bytes.items c.args.number none)))

pub overflow_add-number : goal.overflow_add-number
overflow_add-number c =
    let there : c.args.number < length c.deref.result.now =
    slice_get_within _ _ c.in_ok-start.start (sym c.place_at.ensures ∙ c.in_ok-start.was {u = tt}) in
    omega (arith, there, c.deref.ensures.len)

pub part-requires-clause-ordered : goal.part-requires-clause-ordered
part-requires-clause-ordered c =
    (part-between _ _ _ _ _ c.args.number _ _ _ _ c.self.invariant.0 c.deref.ensures.value
    c.deref-2.ensures.value c.as_slice-bytes.ensures.value
    c.place_at.ensures (c.in_ok-start.was {u = tt}) c.place_at-2.ensures c.unwrap_or-end.ensures).ordered

pub part-requires-clause-within : goal.part-requires-clause-within
part-requires-clause-within c =
    rw c.as_slice-bytes.ensures.value
    (part-between _ _ _ _ _ c.args.number _ _ _ _ c.self.invariant.0 c.deref.ensures.value
    c.deref-2.ensures.value c.as_slice-bytes.ensures.value
    c.place_at.ensures (c.in_ok-start.was {u = tt}) c.place_at-2.ensures c.unwrap_or-end.ensures).within

pub returns : goal.returns
returns c =
    let there = part-between _ _ _ _ _ c.args.number _ _ _ _ c.self.invariant.0 c.deref.ensures.value
    c.deref-2.ensures.value c.as_slice-bytes.ensures.value
    c.place_at.ensures (c.in_ok-start.was {u = tt}) c.place_at-2.ensures c.unwrap_or-end.ensures in
    let P : AnswerState → Type 0 = λ a. Some c.part.result.now ≡ slice_get a.answers c.args.number in
    subst P c.self.view_is
    (ap Some c.part.ensures ∙ ap (λ (t : List ℕ). Some (slice_range t c.in_ok-start.start c.unwrap_or-end.result))
    c.as_slice-bytes.ensures.value ∙ sym there.is)
