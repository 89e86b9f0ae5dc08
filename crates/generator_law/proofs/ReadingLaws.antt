-- What is generated passes no limit, and its lines and nothing else are read as it.
use Rattle.std.proofs.Common.{◌≡◌, ℕ, zero, suc, ◌+◌, ◌*◌, ◌^◌, ◌≤◌, ◌<◌, nat_lt, Bool, true, false, cond, List, [], ◌∷◌, ◌++◌, length, length-append, map, slice_get, codes, None, Ok, refl, ◌∙◌, ap, arith, lit≤, lit<}
use Rattle.std.specs.Fmt.{decimal}
use Rattle.std.specs.List.{sum_by}
use Rattle.std.proofs.lemmas.Bool.Decides.{nat_tests}
use Rattle.std.proofs.lemmas.List.Sums.{sum_by-cons}
use Rattle.pat_base.specs.declared.member_id.TheConstants.{MOST_MEMBERS}
use Rattle.pat_base.specs.Name.{name_bytes}
use Rattle.member_options.specs.Options.{option_text, behind_blanks, options_to_say}
use Rattle.member_options.specs.declared.member_option.MemberOption.{MemberOption}
use Rattle.member_options.proofs.OptionCanonLaws.{few-options}
use Rattle.member_options.proofs.OptionTexts.{options-IsPlain}
use Rattle.cluster_config.proofs.LineLaws.{default-IsConfiguration}
use Rattle.script_words.specs.Lines.{ended, lines_in}
use Rattle.script_words.proofs.NumberLaws.{number-decimal}
use Rattle.script_words.proofs.Cutting.{line-again}
use Rattle.script_words.proofs.PlainTexts.{IsPlain, name-IsPlain, IsPlain-append, IsPlain-most, blank-IsPlain, decimal-IsPlain, no-feeds}
use Rattle.script_model.specs.Keywords.{word_of, spelled}
use Rattle.script_model.specs.Script.{MemberText, shortest_line, member_text, two_texts, line_text, body_lines, script_lines, spelling_of}
use Rattle.script_model.specs.declared.keyword.Keyword.{Keyword}
use Rattle.script_model.specs.declared.keyword.Keyword.TheVariants as words
use Rattle.script_model.specs.declared.line.Line.TheVariants as lines
use Rattle.script_grammar.specs.Limits.{most_bytes, most_lines, most_ticks, is_member_line, member_line_count, ticks_or_none, ticks_in_line, ticks_in, limit_of}
use Rattle.script_grammar.specs.Reading.{script_of}
use Rattle.script_grammar.proofs.FirstWordLaws.{longest_word, some_name-IsPlain, word-IsPlain}
use Rattle.script_law.proofs.CanonLaws.{spelling-is-read}
use Rattle.generator_model.specs.Drawing.{greatest_amount, kind_of, drawn_member, drawn_amount, drawn_amount-most, is_even, link_command, line_of_kind}
use Rattle.generator_model.specs.declared.drawn_kind.DrawnKind.{DrawnKind}
use Rattle.generator_model.specs.declared.drawn_kind.DrawnKind.TheVariants as kinds
use Rattle.generator_model.specs.declared.bounds.TheConstants.{MOST_GENERATED}
use Rattle.generator_model.specs.Generating.{ticks_before, ticks_behind, drawn_lines, generated_script}
use Rattle.generator_model.specs.NumberSequence.{next_number, draw_of}
use Rattle.generator_model.specs.Opening.{first_name, second_name, third_name, generated_member}
use Rattle.generator_model.proofs.BodyLaws.{declared, generated-IsScript}

-- so many bytes a line has at most that is generated
abbrev longest_generated : ℕ
longest_generated = 408

-- a line that declares no more than so many members, and has no more than so many ticks
record IsSmall (line : List ℕ) (member_bound tick_bound : ℕ) : Type 0 where
  pub plain : IsPlain line longest_generated
  pub members : cond (is_member_line line) 1 0 ≤ member_bound
  pub ticks : ticks_in_line line ≤ tick_bound

-- lines that are cut again, and no more than so many, with no more than so many members and ticks
record AreFew (ls : List (List ℕ)) (count member_bound tick_bound : ℕ) : Type 0 where
  pub again : lines_in (ended ls) ≡ ls
  pub lines : length ls ≤ count
  pub bytes : length (ended ls) ≤ (longest_generated + 1) * count
  pub members : member_line_count ls ≤ member_bound
  pub ticks : sum_by ticks_in_line ls ≤ tick_bound

-- one line more
member-more : (line : List ℕ) (ls : List (List ℕ))
    → member_line_count (line ∷ ls) ≡ cond (is_member_line line) 1 0 + member_line_count ls
member-more line ls = sum_by-cons (λ (l : List ℕ). cond (is_member_line l) 1 0) line ls

together : (all own others own_most most : ℕ) → all ≡ own + others → own ≤ own_most → others ≤ most
    → all ≤ own_most + most
together all own others own_most most is fit few = omega arith

more-AreFew : (line : List ℕ) (ls : List (List ℕ)) (count members ticks own_members own_ticks all_ticks : ℕ)
    → own_ticks + ticks ≤ all_ticks → IsSmall line own_members own_ticks → AreFew ls count members ticks
    → AreFew (line ∷ ls) (suc count) (own_members + members) all_ticks
more-AreFew line ls count members ticks own_members own_ticks all_ticks fit small few = record {
  again = line-again line (ended ls) (no-feeds line small.plain.plain)
      ∙ ap (λ (rest : List (List ℕ)). line ∷ rest) few.again;
  lines = omega (arith, few.lines);
  bytes = omega (arith, length-append line (10 ∷ ended ls), small.plain.short, few.bytes);
  members = together _ _ _ own_members members (member-more line ls) small.members few.members;
  ticks = omega (arith, sum_by-cons ticks_in_line line ls, small.ticks, few.ticks);
}

none-AreFew : AreFew [] 0 0 0
none-AreFew = record { again = refl; lines = lit≤ tt; bytes = lit≤ tt; members = lit≤ tt; ticks = lit≤ tt }

-- a line of a word and plain bytes
spelled-IsPlain : (keyword : Keyword) (rest : List ℕ) (most : ℕ) → (longest_word + (most + 1)) ≤ longest_generated
    → IsPlain rest most → IsPlain (spelled keyword rest) longest_generated
spelled-IsPlain keyword rest most fit plain =
    IsPlain-most (spelled keyword rest) (longest_word + (most + 1)) longest_generated fit
    (IsPlain-append (word_of keyword) (32 ∷ rest) longest_word (most + 1) (word-IsPlain keyword)
    (blank-IsPlain rest most plain))

run-IsSmall : (n most : ℕ) → n < 2 ^ 64 → n ≤ most → IsSmall (line_text declared (lines.Run n)) 0 most
run-IsSmall n most fits few =
    let e : ticks_in_line (line_text declared (lines.Run n)) ≡ n = ap ticks_or_none (number-decimal n fits) in record {
      plain = spelled-IsPlain words.Run (decimal n) 20 (lit≤ tt) (decimal-IsPlain n fits);
      members = lit≤ tt;
      ticks = omega (arith, e);
    }

-- the line of a member
member-IsPlain : (keyword : Keyword) (draw : ℕ)
    → IsPlain (spelled keyword (member_text declared (drawn_member draw))) longest_generated
member-IsPlain keyword draw = spelled-IsPlain keyword (member_text declared (drawn_member draw)) 32 (lit≤ tt)
    (some_name-IsPlain (slice_get declared (drawn_member draw).number))

-- the line of a member and one more word
two-IsPlain : (keyword : Keyword) (draw : ℕ) (second : List ℕ) → IsPlain second 20
    → IsPlain (spelled keyword (two_texts (member_text declared (drawn_member draw)) second)) longest_generated
two-IsPlain keyword draw second plain =
    spelled-IsPlain keyword (two_texts (member_text declared (drawn_member draw)) second) (32 + (20 + 1)) (lit≤ tt)
    (IsPlain-append (member_text declared (drawn_member draw)) (32 ∷ second) 32 (20 + 1)
    (some_name-IsPlain (slice_get declared (drawn_member draw).number)) (blank-IsPlain second 20 plain))

store-IsPlain : IsPlain (codes "store") 20
store-IsPlain = record { plain = refl; short = lit≤ tt }

link-IsSmall : (cuts : Bool) (draw : ℕ)
    → IsSmall (line_text declared (lines.Command (link_command cuts (drawn_member draw)))) 0 greatest_amount
link-IsSmall true draw =
    record { plain = two-IsPlain words.Cut draw (codes "store") store-IsPlain; members = lit≤ tt; ticks = lit≤ tt }
link-IsSmall false draw =
    record { plain = two-IsPlain words.Join draw (codes "store") store-IsPlain; members = lit≤ tt; ticks = lit≤ tt }

of-kind-IsSmall : (kind : DrawnKind) (draw : ℕ)
    → IsSmall (line_text declared (line_of_kind kind draw)) 0 greatest_amount
of-kind-IsSmall kinds.Run draw =
    run-IsSmall (drawn_amount draw) greatest_amount (omega (arith, drawn_amount-most draw)) (drawn_amount-most draw)
of-kind-IsSmall kinds.Commit draw = record {
  plain = two-IsPlain words.Commit draw (decimal (drawn_amount draw))
      (decimal-IsPlain (drawn_amount draw) (omega (arith, drawn_amount-most draw)));
  members = lit≤ tt;
  ticks = lit≤ tt;
}
of-kind-IsSmall kinds.Suspend draw =
    record { plain = member-IsPlain words.Hold draw; members = lit≤ tt; ticks = lit≤ tt }
of-kind-IsSmall kinds.Resume draw =
    record { plain = member-IsPlain words.Resume draw; members = lit≤ tt; ticks = lit≤ tt }
of-kind-IsSmall kinds.Crash draw =
    record { plain = member-IsPlain words.Crash draw; members = lit≤ tt; ticks = lit≤ tt }
of-kind-IsSmall kinds.StartAgent draw =
    record { plain = member-IsPlain words.Restart draw; members = lit≤ tt; ticks = lit≤ tt }
of-kind-IsSmall kinds.Link draw = link-IsSmall (is_even (drawn_amount draw)) draw

drawn-AreFew : (number count : ℕ)
    → AreFew (body_lines declared (drawn_lines number count ++ lines.Run ticks_behind ∷ [])) (suc count) 0
    (ticks_behind + greatest_amount * count)
drawn-AreFew number zero = more-AreFew _ [] 0 0 0 0 ticks_behind (ticks_behind + greatest_amount * 0)
    (lit≤ tt) (run-IsSmall ticks_behind ticks_behind (lit< tt) (lit≤ tt)) none-AreFew
drawn-AreFew number (suc count) =
    more-AreFew _ _ (suc count) 0 (ticks_behind + greatest_amount * count) 0 greatest_amount
    (ticks_behind + greatest_amount * suc count) (omega arith)
    (of-kind-IsSmall (kind_of (draw_of (next_number number))) (draw_of (next_number number)))
    (drawn-AreFew (next_number number) count)

-- the line of a member of the head, with whatever options
declared-IsSmall : (m : MemberText) → IsSmall (shortest_line m) 1 0
declared-IsSmall m =
    let os : List MemberOption = options_to_say m.options in record {
      plain = spelled-IsPlain words.Member (name_bytes m.name ++ behind_blanks (map option_text os)) 400 (lit≤ tt)
          (IsPlain-most (name_bytes m.name ++ behind_blanks (map option_text os)) (32 + length os * 46) 400
          (omega (arith, few-options m.options))
          (IsPlain-append (name_bytes m.name) (behind_blanks (map option_text os)) 32 (length os * 46)
          (name-IsPlain m.name) (options-IsPlain os)));
      members = lit≤ tt;
      ticks = lit≤ tt;
    }

-- the lines of the head have no ticks, and three of them are of members
script-AreFew : (seed count : ℕ)
    → AreFew (script_lines (generated_script seed count)) (suc (suc (suc (suc (suc (suc count)))))) 3
    (ticks_before + (ticks_behind + greatest_amount * count))
script-AreFew seed count =
    let rest : ℕ = ticks_before + (ticks_behind + greatest_amount * count) in
    more-AreFew _ _ _ 3 rest 0 0 rest (omega arith)
    (record { plain = record { plain = refl; short = lit≤ tt }; members = lit≤ tt; ticks = lit≤ tt })
    (more-AreFew _ _ _ 2 rest 1 0 rest (omega arith) (declared-IsSmall (generated_member first_name))
    (more-AreFew _ _ _ 1 rest 1 0 rest (omega arith) (declared-IsSmall (generated_member second_name))
    (more-AreFew _ _ _ 0 rest 1 0 rest (omega arith) (declared-IsSmall (generated_member third_name))
    (more-AreFew _ _ _ 0 (ticks_behind + greatest_amount * count) 0 ticks_before rest (omega arith)
    (run-IsSmall ticks_before ticks_before (lit< tt) (lit≤ tt)) (drawn-AreFew seed count)))))

-- few lines pass no limit
few-within : (ls : List (List ℕ)) (count members ticks : ℕ) → AreFew ls count members ticks → count ≤ 2406
    → members ≤ MOST_MEMBERS → ticks ≤ most_ticks → limit_of 0 (ended ls) ≡ None
few-within ls count members ticks few lines_fit members_fit ticks_fit =
    let bytes : nat_lt most_bytes (length (ended ls)) ≡ false = grind (arith, nat_tests, few.bytes) in
    let some_lines : nat_lt most_lines (length ls) ≡ false = grind (arith, nat_tests, few.lines) in
    let some_members : nat_lt MOST_MEMBERS (member_line_count ls) ≡ false = grind (arith, nat_tests, few.members) in
    let some_ticks : nat_lt most_ticks (ticks_in ls + 0) ≡ false = grind (arith, nat_tests, few.ticks) in
    rw (bytes, few.again, some_lines, some_members, some_ticks) refl

pub generated-within : (seed count : ℕ) → count ≤ MOST_GENERATED
    → limit_of 0 (spelling_of (generated_script seed count)) ≡ None
generated-within seed count within = few-within _ _ 3 _ (script-AreFew seed count) (omega arith) (lit≤ tt) (omega arith)

pub generated-is-read : (seed count : ℕ)
    → script_of (spelling_of (generated_script seed count)) ≡ Ok (generated_script seed count)
generated-is-read seed count =
    spelling-is-read (generated_script seed count) (generated-IsScript seed count) default-IsConfiguration (lit≤ tt)
