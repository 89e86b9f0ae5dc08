-- What a script within the limits has at most.
use Rattle.std.proofs.Common.{◌≡◌, ℕ, ◌+◌, ◌-◌, ◌^◌, ◌≤◌, nat_lt, min, Bool, true, false, cond, List, [], ◌∷◌, ◌++◌, length, Option, Some, None, Ok, refl, ap, sym, subst, arith, length-append}
use Rattle.std.specs.List.{sum_by}
use Rattle.std.proofs.lemmas.Bool.Decides.{nat_tests}
use Rattle.std.proofs.lemmas.List.Sums.{sum_by-append, sum_by-cons}
use Rattle.pat_base.specs.declared.name.Name.{Name}
use Rattle.script_words.specs.Lines.{lines_in, is_skipped, counted_lines}
use Rattle.script_grammar.specs.Limits.{most_bytes, most_lines, most_ticks, member_line_count, ticks_or_none, ticks_in_line, ticks_in, limit_of_lines, limit_of}
use Rattle.script_grammar.specs.Reading.{script_of}
use Rattle.pat_base.specs.declared.member_id.TheConstants.{MOST_MEMBERS}
use Rattle.script_model.specs.Script.{ScriptText, names_of, IsLine, AllAreLines, line_text}
use Rattle.script_model.specs.Spelling.{SpellsLine, OwnText, BlankBehind, SpellBody}
use Rattle.script_model.specs.Ticks.{ticks_of_line, total_ticks}
use Rattle.script_model.specs.declared.line.Line.{Line}
use Rattle.script_model.specs.declared.line.Line.TheVariants as lines
use Rattle.script_grammar.specs.declared.limit.Limit.{Limit}
use Rattle.script_grammar.specs.declared.limit.Limit.TheVariants as limits
use Rattle.script_words.proofs.NumberLaws.{number-decimal}
use Rattle.script_grammar.proofs.ReadLaws.{read-is-spelled}

-- a test that gives nothing
none_passed : (t : Bool) (limit : Limit) (o : Option Limit) → cond t (Some limit) o ≡ None → (t ≡ false) × (o ≡ None)
none_passed true limit o e = cc
none_passed false limit o e = (refl, e)

not-more : (most n : ℕ) → nat_lt most n ≡ false → n ≤ most
not-more most n e = grind (arith, nat_tests)

-- the lines that count are no more than all, and have no more ticks
counted-length : (t : Bool) (line : List ℕ) (some rest : List (List ℕ)) → length some ≤ length rest
    → length (cond t some (line ∷ some)) ≤ length (line ∷ rest)
counted-length true line some rest h = omega arith
counted-length false line some rest h = omega arith

fewer : (ls : List (List ℕ)) → length (counted_lines ls) ≤ length ls
fewer [] = omega arith
fewer (line ∷ rest) = counted-length (is_skipped line) line (counted_lines rest) rest (fewer rest)

counted-ticks : (t : Bool) (line : List ℕ) (some : List (List ℕ)) (rest : ℕ) → sum_by ticks_in_line some ≤ rest
    → sum_by ticks_in_line (cond t some (line ∷ some)) ≤ ticks_in_line line + rest
counted-ticks true line some rest h = omega arith
counted-ticks false line some rest h = omega (arith, h, sum_by-cons ticks_in_line line some)

fewer-ticks : (ls : List (List ℕ)) → sum_by ticks_in_line (counted_lines ls) ≤ sum_by ticks_in_line ls
fewer-ticks [] = omega arith
fewer-ticks (line ∷ rest) = rw sum_by-cons
    (counted-ticks (is_skipped line) line (counted_lines rest) (sum_by ticks_in_line rest) (fewer-ticks rest))

-- a line has the ticks that its text has
line-ticks : (members : List Name) (line : Line) → IsLine members line
    → ticks_of_line line ≤ ticks_in_line (line_text members line)
line-ticks members (lines.Run n) h =
    let e : ticks_in_line (line_text members (lines.Run n)) ≡ n = ap ticks_or_none (number-decimal n h) in
    omega (arith, e)
line-ticks members (lines.Tick n) h =
    let e : ticks_in_line (line_text members (lines.Tick n)) ≡ n = ap ticks_or_none (number-decimal n h) in
    omega (arith, e)
line-ticks members (lines.Command c) h = omega arith

text-ticks : (members : List Name) (text : List ℕ) (line : Line) → IsLine members line
    → SpellsLine members text line → ticks_of_line line ≤ ticks_in_line text
text-ticks members text line h (OwnText own) =
    subst (λ (t : List ℕ). ticks_of_line line ≤ ticks_in_line t) (sym own) (line-ticks members line h)
text-ticks members text line h (BlankBehind m request empty asks blank) = omega (arith, ap ticks_of_line asks)

body-ticks : (members : List Name) (texts : List (List ℕ)) (body : List Line) → AllAreLines members body
    → SpellBody members texts body → total_ticks body ≤ sum_by ticks_in_line texts
body-ticks members [] [] h spell = omega arith
body-ticks members [] (line ∷ body) h spell = absurd spell
body-ticks members (text ∷ texts) [] h spell = absurd spell
body-ticks members (text ∷ texts) (line ∷ body) h spell = omega (
  arith,
  text-ticks members text line h.0 spell.0,
  body-ticks members texts body h.1 spell.1,
  sum_by-cons ticks_in_line text texts,
)

-- a line has one text
body-lengths : (members : List Name) (texts : List (List ℕ)) (body : List Line) → SpellBody members texts body
    → length body ≡ length texts
body-lengths members [] [] spell = refl
body-lengths members [] (line ∷ body) spell = absurd spell
body-lengths members (text ∷ texts) [] spell = absurd spell
body-lengths members (text ∷ texts) (line ∷ body) spell = omega (arith, body-lengths members texts body spell.1)

least : (n waited : ℕ) → min n (2 ^ 64 - 1) + waited ≤ most_ticks → n + waited ≤ most_ticks
least n waited h = omega arith

-- lines that pass no limit
lines-within : (waited : ℕ) (ls : List (List ℕ)) → limit_of_lines waited ls ≡ None
    → (length ls ≤ most_lines) × (sum_by ticks_in_line ls + waited ≤ most_ticks)
lines-within waited ls none =
    let l = none_passed (nat_lt most_lines (length ls)) limits.Lines _ none in
    let m = none_passed (nat_lt MOST_MEMBERS (member_line_count ls)) limits.Members _ l.1 in
    let t = none_passed (nat_lt most_ticks (ticks_in ls + waited)) limits.Ticks None m.1 in (
      not-more most_lines (length ls) l.0,
      least (sum_by ticks_in_line ls) waited (not-more most_ticks (ticks_in ls + waited) t.0),
    )

-- a script of lines that pass none
text-within : (waited : ℕ) (ls head texts : List (List ℕ)) (members : List Name) (body : List Line)
    → AllAreLines members body → SpellBody members texts body → counted_lines ls ≡ head ++ texts
    → (length ls ≤ most_lines) × (sum_by ticks_in_line ls + waited ≤ most_ticks)
    → (total_ticks body + waited ≤ most_ticks) × (length body ≤ most_lines)
text-within waited ls head texts members body fit spell same within =
    let few : length (head ++ texts) ≤ length ls =
    subst (λ (some : List (List ℕ)). length some ≤ length ls) same (fewer ls) in
    let ticks : sum_by ticks_in_line (head ++ texts) ≤ sum_by ticks_in_line ls =
    subst (λ (some : List (List ℕ)). sum_by ticks_in_line some ≤ sum_by ticks_in_line ls) same (fewer-ticks ls) in (
      omega (arith, within.1, ticks, sum_by-append ticks_in_line head texts, body-ticks members texts body fit spell),
      omega (arith, within.0, few, length-append head texts, body-lengths members texts body spell),
    )

pub within-limits : (waited : ℕ) (bytes : List ℕ) (text : ScriptText) → script_of bytes ≡ Ok text
    → limit_of waited bytes ≡ None → (total_ticks text.body + waited ≤ most_ticks) × (length text.body ≤ most_lines)
within-limits waited bytes text e none =
    let read = read-is-spelled bytes text e in
    let passed =
    none_passed (nat_lt most_bytes (length bytes)) limits.Bytes (limit_of_lines waited (lines_in bytes)) none in
    text-within waited (lines_in bytes) read.1.head read.1.body (names_of text.head) text.body read.0.body
    read.1.spells read.1.lines (lines-within waited (lines_in bytes) passed.1)
