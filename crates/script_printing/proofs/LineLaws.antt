-- Lines in turn.
use Rattle.std.proofs.Common.{◌≡◌, ℕ, zero, suc, List, [], ◌∷◌, ◌++◌, Option, Some, None, Result, Ok, Err, OnOk, option_map, map, drop, slice_get, append_assoc, refl, ap, ◌∙◌, sym, subst}
use Rattle.std.proofs.lemmas.Option.{none-some, same_Some, slice_get-map}
use Rattle.std.specs.Option.{option_to_list}
use Rattle.script_words.specs.Lines.{ended}
use Rattle.script_printing.specs.Places.{line_at}
use Rattle.script_model.specs.Script.{MemberText, member_names, shortest_line, IsLine, AllAreLines}
use Rattle.member_options.specs.declared.member_option.MemberOptions.{MemberOptions}
use Rattle.script_model.specs.declared.line.Line.{Line}
use Rattle.pat_base.specs.declared.name.Name.{Name}

-- the texts of some lines and then of others are those of all
pub ended-append : (front back : List (List ℕ)) → ended (front ++ back) ≡ ended front ++ ended back
ended-append [] back = refl
ended-append (line ∷ lines) back = ap (λ (t : List ℕ). line ++ (10 ∷ t)) (ended-append lines back)
    ∙ sym (append_assoc line (10 ∷ ended lines) (ended back))

-- the texts from a place on are that of the place and those behind it
pub ended-from : {A : Type 0} (text : A → List ℕ) (xs : List A) (place : ℕ)
    → ended (map text (drop place xs)) ≡ ended (line_at text xs place) ++ ended (map text (drop (suc place) xs))
ended-from text [] zero = refl
ended-from text [] (suc place) = refl
ended-from text (x ∷ xs) zero = sym (append_assoc (text x) (10 ∷ []) (ended (map text xs)))
ended-from text (x ∷ xs) (suc place) = ended-from text xs place

-- each line of a script is one that it may have
pub line-at-IsLine : (members : List Name) (body : List Line) (place : ℕ) (line : Line)
    → AllAreLines members body → slice_get body place ≡ Some line → IsLine members line
line-at-IsLine members [] place line all is = absurd (none-some line is)
line-at-IsLine members (first ∷ body) zero line all is = subst (IsLine members) (same_Some first line is) all.0
line-at-IsLine members (first ∷ body) (suc place) line all is = line-at-IsLine members body place line all.1 is

-- some lines behind others that were written
one-behind : (before after : List ℕ) (written rest : List (List ℕ)) → after ≡ before ++ ended written
    → after ++ ended rest ≡ before ++ ended (written ++ rest)
one-behind before after written rest is =
    ap (λ (t : List ℕ). t ++ ended rest) is ∙ append_assoc before (ended written) (ended rest)
    ∙ sym (ap (λ (t : List ℕ). before ++ t) (ended-append written rest))

-- two pieces, one behind the other
pub two-in-turn : (t0 t1 t2 : List ℕ) (first second : List (List ℕ)) → t1 ≡ t0 ++ ended first
    → t2 ≡ t1 ++ ended second → t2 ≡ t0 ++ ended (first ++ second)
two-in-turn t0 t1 t2 first second e1 e2 = e2 ∙ one-behind t0 t1 first second e1

-- four pieces, one behind the other
pub four-in-turn : (t0 t1 t2 t3 t4 : List ℕ) (first second third fourth : List (List ℕ))
    → t1 ≡ t0 ++ ended first → t2 ≡ t1 ++ ended second → t3 ≡ t2 ++ ended third → t4 ≡ t3 ++ ended fourth
    → t4 ≡ t0 ++ ended (first ++ (second ++ (third ++ fourth)))
four-in-turn t0 t1 t2 t3 t4 first second third fourth e1 e2 e3 e4 = two-in-turn t2 t3 t4 third fourth e3 e4
    ∙ one-behind t1 t2 second (third ++ fourth) e2 ∙ one-behind t0 t1 first (second ++ (third ++ fourth)) e1

-- the line of a place is written, and what is left is behind it
pub left-more : {A : Type 0} (text : A → List ℕ) (xs : List A) (place next : ℕ) (before after whole : List ℕ)
    → next ≡ suc place → after ≡ before ++ ended (line_at text xs place)
    → before ++ ended (map text (drop place xs)) ≡ whole → after ++ ended (map text (drop next xs)) ≡ whole
left-more text xs place next before after whole step wrote is =
    ap (λ (n : ℕ). after ++ ended (map text (drop n xs))) step
    ∙ ap (λ (t : List ℕ). t ++ ended (map text (drop (suc place) xs))) wrote
    ∙ append_assoc before (ended (line_at text xs place)) (ended (map text (drop (suc place) xs)))
    ∙ sym (ap (λ (t : List ℕ). before ++ t) (ended-from text xs place))
    ∙ is

-- what is written of a place
pub written-more : {X E : Type 0} {P Q : Type 0} (r : Result X E) → OnOk r P → (P → Q) → OnOk r Q
written-more (Ok x) p f = f p
written-more (Err e) p f = tt

here : (o : Option MemberText) (name : Name) (options : MemberOptions)
    → option_map (λ (m : MemberText). m.name) o ≡ Some name
    → option_map (λ (m : MemberText). m.options) o ≡ Some options
    → shortest_line (record { name = name; options = options }) ∷ [] ≡ option_to_list (option_map shortest_line o)
here None name options e f = absurd (none-some name e)
here (Some m) name options e f = λ i.
    shortest_line (record { name = sym (same_Some m.name name e) i; options = sym (same_Some m.options options f) i })
    ∷ []

-- the line of a member whose name and options stand at a place
pub member-here : (members : List MemberText) (place : ℕ) (name : Name) (options : MemberOptions)
    → slice_get (member_names members) place ≡ Some name
    → option_map (λ (m : MemberText). m.options) (slice_get members place) ≡ Some options
    → shortest_line (record { name = name; options = options }) ∷ [] ≡ line_at shortest_line members place
member-here members place name options e f =
    here (slice_get members place) name options (sym (slice_get-map (λ (m : MemberText). m.name) members place) ∙ e) f
