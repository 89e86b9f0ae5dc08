use Rattle.std.proofs.Common.{◌≡◌, ◌<◌, ◌+◌, ◌-◌, ◌++◌, ◌∷◌, [], length, vec_len, arith, refl, subst, sym}
use Rattle.pat_door.specs.Memory.{AnswerState, cut_at}
use Rattle.pat_door.proofs.Cuts.{ordered-end, cut_at-end}
use Rattle.pat_door.proofs.answers.Answers.begin.Goals as goal

pub invariant_of-self : goal.invariant_of-self
invariant_of-self c =
    let is : c.push.new.self.items ≡ c.self.inside.starts.items ++ length c.as_slice-end.result.now ∷ [] =
    rw c.unwrap.ensures at c.push.ensures.items in
    let len : vec_len c.push.new.self ≡ vec_len c.self.inside.starts + 1 = rw c.unwrap.ensures at c.push.ensures.len in
    let left : 0 < c.self.inside.most - vec_len c.self.inside.starts =
    let P : AnswerState → Type 0 = λ a. 0 < a.unbegun in subst P (sym c.self.view_is) c.requires in (
      rw (is, c.as_slice-end.ensures.value)
          (ordered-end c.self.inside.starts.items (length c.self.inside.bytes.items) c.self.invariant.0),
      c.self.invariant.1,
      c.self.invariant.2,
      omega (arith, left, len),
      omega (arith, c.self.invariant.4, c.push.ensures.capacity),
    )

pub returns : goal.returns
returns c =
    let is : c.push.new.self.items ≡ c.self.inside.starts.items ++ length c.as_slice-end.result.now ∷ [] =
    rw c.unwrap.ensures at c.push.ensures.items in
    let len : vec_len c.push.new.self ≡ vec_len c.self.inside.starts + 1 = rw c.unwrap.ensures at c.push.ensures.len in
    let answers : cut_at c.push.new.self.items c.self.inside.bytes.items
    ≡ cut_at c.self.inside.starts.items c.self.inside.bytes.items ++ [] ∷ [] =
    rw (is, c.as_slice-end.ensures.value)
    (cut_at-end c.self.inside.starts.items c.self.inside.bytes.items c.self.invariant.0) in
    let left : c.self.inside.most - vec_len c.push.new.self ≡ (c.self.inside.most - vec_len c.self.inside.starts) - 1 =
    omega (arith, len) in
    rw (answers, left, ← c.self.view_is) refl
