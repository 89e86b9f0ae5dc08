use Rattle.std.proofs.Common.{◌≡◌, ◌≤◌, ◌+◌, ◌-◌, ◌++◌, length, vec_len, arith, length-append, subst, sym, refl}
use Rattle.pat_door.specs.Memory.{AnswerState, cut_at}
use Rattle.pat_door.specs.Doors.{grow_last}
use Rattle.pat_door.proofs.Cuts.{ordered-further, cut_at-more}
use Rattle.pat_door.proofs.answers.Answers.add.Goals as goal

pub invariant_of-self : goal.invariant_of-self
invariant_of-self c =
    let is : c.extend_from_slice.new.self.items ≡ c.self.inside.bytes.items ++ c.args.piece.now =
    rw c.unwrap.ensures at c.extend_from_slice.ensures.items in
    let len : vec_len c.extend_from_slice.new.self ≡ vec_len c.self.inside.bytes + length c.args.piece.now =
    rw c.unwrap.ensures at c.extend_from_slice.ensures.len in
    let fits : length c.args.piece.now ≤ c.self.inside.room - vec_len c.self.inside.bytes =
    let P : AnswerState → Type 0 = λ a. length c.args.piece.now ≤ a.room in subst P (sym c.self.view_is) c.requires in (
      rw is
          (ordered-further c.self.inside.starts.items (length c.self.inside.bytes.items) _
          (omega (arith, length-append c.self.inside.bytes.items c.args.piece.now)) c.self.invariant.0),
      omega (arith, c.self.invariant.1),
      omega (arith, c.self.invariant.2, c.extend_from_slice.ensures.capacity),
      c.self.invariant.3,
      c.self.invariant.4,
    )

pub returns : goal.returns
returns c =
    let is : c.extend_from_slice.new.self.items ≡ c.self.inside.bytes.items ++ c.args.piece.now =
    rw c.unwrap.ensures at c.extend_from_slice.ensures.items in
    let len : vec_len c.extend_from_slice.new.self ≡ vec_len c.self.inside.bytes + length c.args.piece.now =
    rw c.unwrap.ensures at c.extend_from_slice.ensures.len in
    let answers : cut_at c.self.inside.starts.items c.extend_from_slice.new.self.items
    ≡ grow_last c.args.piece.now (cut_at c.self.inside.starts.items c.self.inside.bytes.items) =
    rw is (cut_at-more c.self.inside.starts.items c.self.inside.bytes.items c.args.piece.now c.self.invariant.0) in
    let room : c.self.inside.room - vec_len c.extend_from_slice.new.self
    ≡ (c.self.inside.room - vec_len c.self.inside.bytes) - length c.args.piece.now = omega arith in
    rw (answers, room, ← c.self.view_is) refl
