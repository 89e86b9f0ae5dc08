-- The body of a generated script: its lines, and their ticks.
use Rattle.std.proofs.Common.{◌≡◌, ◌≢◌, ℕ, zero, suc, ◌+◌, ◌-◌, ◌*◌, ◌≤◌, ◌<◌, Bool, true, false, List, [], ◌∷◌, ◌++◌, length, slice_get, codes, append_assoc, length-append, refl, ap, ◌∙◌, sym, subst, arith, lit<}
use Rattle.std.proofs.lemmas.List.{length-map}
use Rattle.pat_base.specs.declared.name.Name.{Name}
use Rattle.pat_base.specs.declared.member_id.MemberId.{MemberId}
use Rattle.script_model.specs.Script.{HeadText, names_of, text_of_name, line_text, script_lines, IsScript, IsLink, IsLine, IsCommand, AllAreLines}
use Rattle.script_model.specs.Ticks.{ticks_of_line, total_ticks}
use Rattle.script_model.specs.declared.line.Line.{Line}
use Rattle.script_model.specs.declared.line.Line.TheVariants as lines
use Rattle.script_model.specs.declared.line.End.TheVariants as ends
use Rattle.generator_model.specs.Drawing.{member_count, greatest_amount, kind_of, drawn_place, drawn_place-below, drawn_member, drawn_amount, drawn_amount-most, is_even, link_command, line_of_kind, drawn_line}
use Rattle.generator_model.specs.declared.drawn_kind.DrawnKind.{DrawnKind}
use Rattle.generator_model.specs.declared.drawn_kind.DrawnKind.TheVariants as kinds
use Rattle.generator_model.specs.Generating.{ticks_before, ticks_behind, drawn_lines, generated_body, generated_script}
use Rattle.generator_model.specs.Laws.{opening_lines}
use Rattle.generator_model.specs.NumberSequence.{next_number, draw_of}
use Rattle.generator_model.specs.Opening.{generated_head}
use Rattle.generator_model.proofs.HeadLaws.{generated_head-IsHead}

-- the names of the members
abbrev pub declared : List Name
declared = names_of generated_head

-- the name of each is one byte long
one-byte : (place : ℕ) → place < member_count → length (text_of_name (slice_get declared place)) ≡ 1
one-byte zero below = refl
one-byte (suc zero) below = refl
one-byte (suc (suc zero)) below = refl
one-byte (suc (suc (suc n))) below = absurd (omega (arith, below))

-- so no member is called as the key store is
not-store : (place : ℕ) → place < member_count → text_of_name (slice_get declared place) ≢ codes "store"
not-store place below e =
    let long : length (codes "store") ≡ 1 = sym (ap length e) ∙ one-byte place below in omega (arith, long)

apart : (member : MemberId) → ends.Member member ≢ ends.Store
apart member e = cc

linked : (draw : ℕ) → IsLink declared (ends.Member (drawn_member draw)) ends.Store
linked draw = record {
  first_is = (drawn_place-below draw, not-store (drawn_place draw) (drawn_place-below draw));
  second_is = tt;
  apart = apart (drawn_member draw);
}

link-IsCommand : (cuts : Bool) (draw : ℕ) → IsCommand declared (link_command cuts (drawn_member draw))
link-IsCommand true draw = linked draw
link-IsCommand false draw = linked draw

of-kind-IsLine : (kind : DrawnKind) (draw : ℕ) → IsLine declared (line_of_kind kind draw)
of-kind-IsLine kinds.Run draw = omega (arith, drawn_amount-most draw)
of-kind-IsLine kinds.Commit draw = drawn_place-below draw
of-kind-IsLine kinds.Suspend draw = drawn_place-below draw
of-kind-IsLine kinds.Resume draw = drawn_place-below draw
of-kind-IsLine kinds.Crash draw = drawn_place-below draw
of-kind-IsLine kinds.StartAgent draw = drawn_place-below draw
of-kind-IsLine kinds.Link draw = link-IsCommand (is_even (drawn_amount draw)) draw

drawn-AllAreLines : (number count : ℕ) → AllAreLines declared (drawn_lines number count ++ lines.Run ticks_behind ∷ [])
drawn-AllAreLines number zero = (lit< tt, tt)
drawn-AllAreLines number (suc count) = (
  of-kind-IsLine (kind_of (draw_of (next_number number))) (draw_of (next_number number)),
  drawn-AllAreLines (next_number number) count,
)

pub generated-IsScript : (seed count : ℕ) → IsScript (generated_script seed count)
generated-IsScript seed count = record { head = generated_head-IsHead; body = (lit< tt, drawn-AllAreLines seed count) }

-- so are its head and its body together
pub parts-IsScript : (seed count : ℕ) (head : HeadText) (body : List Line) → head ≡ generated_head
    → body ≡ generated_body seed count → IsScript (record { head = head; body = body })
parts-IsScript seed count head body opens goes_on =
    subst IsScript (λ i. record { head = sym opens i; body = sym goes_on i }) (generated-IsScript seed count)

link-ticks : (cuts : Bool) (draw : ℕ) → ticks_of_line (lines.Command (link_command cuts (drawn_member draw))) ≡ 0
link-ticks cuts draw = refl

of-kind-ticks : (kind : DrawnKind) (draw : ℕ) → ticks_of_line (line_of_kind kind draw) ≤ greatest_amount
of-kind-ticks kinds.Run draw = drawn_amount-most draw
of-kind-ticks kinds.Commit draw = omega arith
of-kind-ticks kinds.Suspend draw = omega arith
of-kind-ticks kinds.Resume draw = omega arith
of-kind-ticks kinds.Crash draw = omega arith
of-kind-ticks kinds.StartAgent draw = omega arith
of-kind-ticks kinds.Link draw = omega arith

drawn-ticks : (number count : ℕ)
    → total_ticks (drawn_lines number count ++ lines.Run ticks_behind ∷ []) ≤ ticks_behind + greatest_amount * count
drawn-ticks number zero = omega arith
drawn-ticks number (suc count) = omega (
  arith,
  of-kind-ticks (kind_of (draw_of (next_number number))) (draw_of (next_number number)),
  drawn-ticks (next_number number) count,
)

pub generated-ticks : (seed count : ℕ)
    → total_ticks (generated_body seed count) ≤ ticks_before + ticks_behind + greatest_amount * count
generated-ticks seed count = omega (arith, drawn-ticks seed count)

drawn-length : (number count : ℕ) → length (drawn_lines number count) ≡ count
drawn-length number zero = refl
drawn-length number (suc count) = ap suc (drawn-length (next_number number) count)

pub generated-lines : (seed count : ℕ) → length (script_lines (generated_script seed count)) ≡ opening_lines + count
generated-lines seed count = omega (
  arith,
  length-map (generated_body seed count) (line_text declared),
  length-append (drawn_lines seed count) (lines.Run ticks_behind ∷ []),
  drawn-length seed count,
)

-- one more line is drawn
drawn-more : (whole done behind : List Line) (number drawn count : ℕ) → drawn < count
    → done ++ (drawn_lines number (count - drawn) ++ behind) ≡ whole
    → (done ++ drawn_line (draw_of (next_number number)) ∷ [])
    ++ (drawn_lines (next_number number) (count - suc drawn) ++ behind) ≡ whole
drawn-more whole done behind number drawn count within is =
    let left : count - drawn ≡ suc (count - suc drawn) = omega arith in
    append_assoc done (drawn_line (draw_of (next_number number)) ∷ [])
    (drawn_lines (next_number number) (count - suc drawn) ++ behind)
    ∙ sym (ap (λ (n : ℕ). done ++ (drawn_lines number n ++ behind)) left)
    ∙ is

pub drawn-step : (whole done after behind : List Line) (number next drawn later count : ℕ) → drawn < count
    → later ≡ suc drawn → next ≡ next_number number → after ≡ done ++ drawn_line (draw_of next) ∷ []
    → done ++ (drawn_lines number (count - drawn) ++ behind) ≡ whole
    → after ++ (drawn_lines next (count - later) ++ behind) ≡ whole
drawn-step whole done after behind number next drawn later count within step follows pushed is =
    ap (λ (d : ℕ). after ++ (drawn_lines next (count - d) ++ behind)) step
    ∙ ap (λ (ls : List Line). ls ++ (drawn_lines next (count - suc drawn) ++ behind)) pushed
    ∙ ap (λ (n : ℕ). (done ++ drawn_line (draw_of n) ∷ []) ++ (drawn_lines n (count - suc drawn) ++ behind)) follows
    ∙ drawn-more whole done behind number drawn count within is
