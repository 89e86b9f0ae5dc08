-- What a line says is spelled so.
use Rattle.std.proofs.Common.{◌≡◌, ◌≢◌, ℕ, ◌<◌, ◌^◌, Bool, true, false, cond, List, [], ◌∷◌, length, slice_get, Option, Some, None, Result, Ok, Err, codes, refl, ◌∙◌, ap, sym, subst, arith, eq-eqb}
use Rattle.std.specs.Fmt.{decimal}
use Rattle.std.specs.Option.{ok_or}
use Rattle.std.specs.Str.{bytes_eq}
use Rattle.std.proofs.lemmas.Option.{slice_get_within}
use Rattle.std.proofs.lemmas.Slice.Eq.{bytes_eq-Decides}
use Rattle.std.proofs.lemmas.Str.{IsUtf8-from_is_utf8}
use Rattle.script_grammar.proofs.BlankLaws.{text-behind}
use Rattle.pat_base.specs.MemberId.{member_of}
use Rattle.pat_base.specs.Name.{name_of}
use Rattle.pat_base.specs.declared.name.Name.{Name}
use Rattle.pat_base.specs.declared.member_id.MemberId.{MemberId}
use Rattle.pat_base.proofs.Members.{number-member_of}
use Rattle.pat_base.proofs.Names.{name_of-text}
use Rattle.script_grammar.specs.Arguments.{number_in, switch_in, slowed_call_in, commit_size_in, delay_in, known_member, member_in, end_in, line_end, last_word, one_word, word_behind, two_words, words_behind, three_words, same_end, apart, two_ends, commit_in, stream_in, slow_in, command, asked_member, behind_word, request_behind, rest_line, ctl_line, plain_line, line_of_words}
use Rattle.script_words.specs.Faults.{on_ok, both}
use Rattle.script_grammar.specs.Members.{place_of, member_named}
use Rattle.script_words.specs.Numbers.{number}
use Rattle.script_model.specs.Ranges.{commit_size_of, delay_of}
use Rattle.script_model.specs.Script.{text_of_name, ctl_text, member_text, end_word, switch_text, slowed_call_text, two_texts, line_text, IsWholeLine, IsMember, IsEnd, IsLink, IsLine}
use Rattle.script_model.specs.Spelling.{SpellsLine, OwnText}
use Rattle.script_model.specs.Keywords.{spelled, word_of}
use Rattle.script_words.specs.Words.{cut_word}
use Rattle.script_words.specs.declared.fault.Fault.{Fault}
use Rattle.script_words.specs.declared.fault.Fault.TheVariants as faults
use Rattle.script_model.specs.declared.keyword.Keyword.{Keyword}
use Rattle.script_model.specs.declared.keyword.Keyword.TheVariants as words
use Rattle.script_model.specs.declared.line.End.{End}
use Rattle.script_model.specs.declared.line.End.TheVariants as ends
use Rattle.script_model.specs.declared.line.Command.{Command}
use Rattle.script_model.specs.declared.line.Command.TheVariants as commands
use Rattle.script_model.specs.declared.line.Line.{Line}
use Rattle.script_model.specs.declared.line.Line.TheVariants as lines
use Rattle.script_model.specs.declared.line.SlowedCall.{SlowedCall}
use Rattle.script_model.specs.declared.line.SlowedCall.TheVariants as slowed_calls
use Rattle.script_model.specs.declared.ranges.CommitSize.{CommitSize}
use Rattle.script_model.specs.declared.ranges.Delay.{Delay}
use Rattle.script_model.specs.declared.request_words.RequestWords.{RequestWords}
use Rattle.script_grammar.proofs.NameLaws.{place_of-Some}
use Rattle.script_words.proofs.NumberLaws.{number-is, number-below}
use Rattle.script_words.proofs.Outcomes.{ok_is, err_is, and_then-Some, on_ok-Ok, on_ok-made, ok_or-Ok, both-Ok, cond-Err}
use Rattle.script_model.proofs.RangeLaws.{commit_size_of-bytes, delay_of-ticks}
use Rattle.script_grammar.proofs.RequestLaws.{words_with, asked_member-Ok, request-SpellsLine, request-IsRequest}
use Rattle.script_words.proofs.WordLaws.{cut_word-None, cut_word-Some}

-- a member that a word names
pub record IsNamed (members : List Name) (word : List ℕ) (m : MemberId) : Type 0 where
  pub text : member_text members m ≡ word
  pub member : IsMember members m

member-named : (members : List Name) (word : List ℕ) (m : MemberId) (o : Option Name) → name_of word ≡ o
    → known_member members o ≡ Ok m → IsNamed members word m
member-named members word m None is e = absurd (err_is _ m e)
member-named members word m (Some name) is e =
    let p =
    and_then-Some member_of (place_of members name) m (ok_or-Ok (member_named members name) faults.UnknownName m e) in
    let at : slice_get members p.0 ≡ Some name = place_of-Some members name p.0 p.1 in
    let n : m.number ≡ p.0 = number-member_of p.0 m p.2 in
    let inside : p.0 < length members = slice_get_within members p.0 name at in
    record {
      text = ap (λ k. text_of_name (slice_get members k)) n ∙ ap text_of_name at ∙ name_of-text word name is;
      member = omega (arith, n, inside);
    }

pub member_in-Ok : (members : List Name) (word : List ℕ) (m : MemberId) → member_in members word ≡ Ok m
    → IsNamed members word m
member_in-Ok members word m e = member-named members word m (name_of word) refl e

-- an end that a word names
pub record IsEndNamed (members : List Name) (word : List ℕ) (x : End) : Type 0 where
  pub text : end_word members x ≡ word
  pub is_end : IsEnd members x

end-named : (members : List Name) (word : List ℕ) (x : End) (t : Bool) → bytes_eq word (codes "store") ≡ t
    → cond t (Ok ends.Store) (on_ok (member_in members word) (λ m. Ok (ends.Member m))) ≡ Ok x
    → IsEndNamed members word x
end-named members word x true is e =
    let same : ends.Store ≡ x = ok_is ends.Store x e in
    let text : word ≡ codes "store" = (bytes_eq-Decides word (codes "store")).0 is in
    subst (IsEndNamed members word) same (record { text = sym text; is_end = tt })
end-named members word x false is e =
    let p = on_ok-Ok (member_in members word) (λ m. Ok (ends.Member m)) x e in
    let m = member_in-Ok members word p.0 p.1 in
    let same : ends.Member p.0 ≡ x = ok_is (ends.Member p.0) x p.2 in
    let other : member_text members p.0 ≢ codes "store" = λ h. other_word word is (sym m.text ∙ h) in
    subst (IsEndNamed members word) same (record { text = m.text; is_end = (m.member, other) })
  where
    other_word : (word : List ℕ) → bytes_eq word (codes "store") ≡ false → word ≡ codes "store" → ⊥
    other_word word unequal equal =
        let t : bytes_eq word (codes "store") ≡ true = (bytes_eq-Decides word (codes "store")).1 equal in cc

pub end_in-Ok : (members : List Name) (word : List ℕ) (x : End) → end_in members word ≡ Ok x → IsEndNamed members word x
end_in-Ok members word x e = end-named members word x (bytes_eq word (codes "store")) refl e

no_more : (members : List Name) (rest : Option (List ℕ)) (u : Unit {0}) → line_end members rest ≡ Ok u → rest ≡ None
no_more [] rest u e = absurd (err_is _ u e)
no_more (m ∷ members) None u e = refl
no_more (m ∷ members) (Some words) u e = absurd (err_is _ u e)

-- the last word of a line
pub last_word-Ok : {A : Type 0} (members : List Name) (r : Result A Fault) (rest : Option (List ℕ)) (x : A)
    → last_word members r rest ≡ Ok x → (r ≡ Ok x) × (rest ≡ None)
last_word-Ok members r rest x e =
    let p = on_ok-Ok r (λ x. on_ok (line_end members rest) (λ _. Ok x)) x e in
    let q = on_ok-Ok (line_end members rest) (λ _. Ok p.0) x p.2 in
    let same : p.0 ≡ x = ok_is p.0 x q.2 in
    (p.1 ∙ ap Ok same, no_more members rest q.0 q.1)

-- one word behind the first
pub record HasWord {A : Type 0} (read : List ℕ → Result A Fault) (rest : Option (List ℕ)) (x : A) : Type 0 where
  pub word : List ℕ
  pub is : rest ≡ Some word
  pub value : read word ≡ Ok x

pub one_word-Ok : {A : Type 0} (members : List Name) (read : List ℕ → Result A Fault) (rest : Option (List ℕ)) (x : A)
    → one_word members read rest ≡ Ok x → HasWord read rest x
one_word-Ok members read None x e = absurd (err_is _ x e)
one_word-Ok members read (Some words) x e =
    let p = last_word-Ok members (read (cut_word words).0) (cut_word words).1 x e in
    let same : (cut_word words).0 ≡ words = cut_word-None words p.1 in
    record { word = words; is = refl; value = ap read (sym same) ∙ p.0 }

-- the last word, behind what the words before it say
word_behind-Ok : {A B : Type 0} (members : List Name) (before : Result A Fault)
    (read : List ℕ → Result B Fault) (rest : Option (List ℕ)) (p : A × B)
    → word_behind members before read rest ≡ Ok p → (before ≡ Ok p.0) × HasWord read rest p.1
word_behind-Ok members before read None p e = absurd (err_is _ p e)
word_behind-Ok members before read (Some words) p e =
    let l = last_word-Ok members (both before (read (cut_word words).0)) (cut_word words).1 p e in
    let b = both-Ok before (read (cut_word words).0) p l.0 in
    let same : (cut_word words).0 ≡ words = cut_word-None words l.1 in
    (b.0, record { word = words; is = refl; value = ap read (sym same) ∙ b.1 })

-- two words behind the first
pub record HasTwoWords {A B : Type 0} (first : List ℕ → Result A Fault) (second : List ℕ → Result B Fault)
    (rest : Option (List ℕ)) (x : A) (y : B) : Type 0 where
  pub word : List ℕ
  pub other : List ℕ
  pub is : rest ≡ Some (two_texts word other)
  pub value : first word ≡ Ok x
  pub other_value : second other ≡ Ok y

pub two_words-Ok : {A B : Type 0} (members : List Name) (first : List ℕ → Result A Fault)
    (second : List ℕ → Result B Fault) (rest : Option (List ℕ)) (p : A × B)
    → two_words members first second rest ≡ Ok p → HasTwoWords first second rest p.0 p.1
two_words-Ok members first second None p e = absurd (err_is _ p e)
two_words-Ok members first second (Some words) p e =
    let b = word_behind-Ok members (first (cut_word words).0) second (cut_word words).1 p e in
    record {
      word = (cut_word words).0;
      other = b.1.word;
      is = ap Some (cut_word-Some words b.1.word b.1.is);
      value = b.0;
      other_value = b.1.value;
    }

words_behind-Ok : {A B C : Type 0} (members : List Name) (before : Result A Fault)
    (read : List ℕ → Result B Fault) (last : List ℕ → Result C Fault) (rest : Option (List ℕ)) (p : (A × B) × C)
    → words_behind members before read last rest ≡ Ok p
    → (before ≡ Ok p.0.0) × HasTwoWords read last rest p.0.1 p.1
words_behind-Ok members before read last None p e = absurd (err_is _ p e)
words_behind-Ok members before read last (Some words) p e =
    let b = word_behind-Ok members (both before (read (cut_word words).0)) last (cut_word words).1 p e in
    let c = both-Ok before (read (cut_word words).0) p.0 b.0 in (
      c.0,
      record {
        word = (cut_word words).0;
        other = b.1.word;
        is = ap Some (cut_word-Some words b.1.word b.1.is);
        value = c.1;
        other_value = b.1.value;
      },
    )

-- three words behind the first
pub record HasThreeWords {A B C : Type 0} (first : List ℕ → Result A Fault) (second : List ℕ → Result B Fault)
    (third : List ℕ → Result C Fault) (rest : Option (List ℕ)) (x : A) (y : B) (z : C) : Type 0 where
  pub word : List ℕ
  pub middle : List ℕ
  pub last : List ℕ
  pub is : rest ≡ Some (two_texts word (two_texts middle last))
  pub value : first word ≡ Ok x
  pub middle_value : second middle ≡ Ok y
  pub last_value : third last ≡ Ok z

pub three_words-Ok : {A B C : Type 0} (members : List Name) (first : List ℕ → Result A Fault)
    (second : List ℕ → Result B Fault) (third : List ℕ → Result C Fault) (rest : Option (List ℕ)) (p : (A × B) × C)
    → three_words members first second third rest ≡ Ok p
    → HasThreeWords first second third rest p.0.0 p.0.1 p.1
three_words-Ok members first second third None p e = absurd (err_is _ p e)
three_words-Ok members first second third (Some words) p e =
    let b = words_behind-Ok members (first (cut_word words).0) second third (cut_word words).1 p e in
    record {
      word = (cut_word words).0;
      middle = b.1.word;
      last = b.1.other;
      is = ap Some (cut_word-Some words (two_texts b.1.word b.1.other) b.1.is);
      value = b.0;
      middle_value = b.1.value;
      last_value = b.1.other_value;
    }

-- the two ends of a link behind the first word
pub record HasLink (members : List Name) (rest : Option (List ℕ)) (first second : End) : Type 0 where
  pub words : List ℕ
  pub is : rest ≡ Some words
  pub text : two_texts (end_word members first) (end_word members second) ≡ words
  pub link : IsLink members first second

same_end-refl : (x : End) → same_end x x ≡ true
same_end-refl ends.Store = refl
same_end-refl (ends.Member m) = eq-eqb m.number m.number refl

different : (x y : End) → same_end x y ≡ false → x ≡ y → ⊥
different x y unequal equal =
    let t : same_end x y ≡ true = subst (λ (z : End). same_end x z ≡ true) equal (same_end-refl x) in cc

pub two_ends-Ok : (members : List Name) (rest : Option (List ℕ)) (p : End × End)
    → two_ends members rest ≡ Ok p → HasLink members rest p.0 p.1
two_ends-Ok members rest p e =
    let q = on_ok-Ok (two_words members (end_in members) (end_in members) rest) apart p e in
    let w = two_words-Ok members (end_in members) (end_in members) rest q.0 q.1 in
    let d = cond-Err (same_end q.0.0 q.0.1) (Ok q.0) faults.SameEnds p q.2 in
    let same : q.0 ≡ p = ok_is q.0 p d.1 in
    let x = end_in-Ok members w.word q.0.0 w.value in
    let y = end_in-Ok members w.other q.0.1 w.other_value in
    subst (λ (r : End × End). HasLink members rest r.0 r.1) same (record {
      words = two_texts w.word w.other;
      is = w.is;
      text = ap (λ t. two_texts t (end_word members q.0.1)) x.text ∙ ap (λ t. two_texts w.word t) y.text;
      link = record { first_is = x.is_end; second_is = y.is_end; apart = different q.0.0 q.0.1 d.0 };
    })

-- numbers in a range
pub number_in-Ok : (word : List ℕ) (n : ℕ) → number_in word ≡ Ok n → number word ≡ Some n
number_in-Ok word n e = ok_or-Ok (number word) faults.BadNumber n e

commit_size_in-Ok : (word : List ℕ) (size : CommitSize) → commit_size_in word ≡ Ok size → decimal size.bytes ≡ word
commit_size_in-Ok word size e =
    let p = on_ok-Ok (number_in word) (λ n. ok_or (commit_size_of n) faults.BadNumber) size e in
    let same : size.bytes ≡ p.0 =
    commit_size_of-bytes p.0 size (ok_or-Ok (commit_size_of p.0) faults.BadNumber size p.2) in
    ap decimal same ∙ sym (number-is word p.0 (number_in-Ok word p.0 p.1))

delay_in-Ok : (word : List ℕ) (delay : Delay) → delay_in word ≡ Ok delay → decimal delay.ticks ≡ word
delay_in-Ok word delay e =
    let p = on_ok-Ok (number_in word) (λ n. ok_or (delay_of n) faults.BadNumber) delay e in
    let same : delay.ticks ≡ p.0 = delay_of-ticks p.0 delay (ok_or-Ok (delay_of p.0) faults.BadNumber delay p.2) in
    ap decimal same ∙ sym (number-is word p.0 (number_in-Ok word p.0 p.1))

-- 'stop' and 'start'
start-Ok : (word : List ℕ) (slowed : SlowedCall) (t : Bool) → bytes_eq word (codes "start") ≡ t
    → cond t (Ok slowed_calls.Start) (Err faults.BadOption) ≡ Ok slowed → slowed_call_text slowed ≡ word
start-Ok word slowed true is e =
    let same : slowed_calls.Start ≡ slowed = ok_is slowed_calls.Start slowed e in
    ap slowed_call_text (sym same) ∙ sym ((bytes_eq-Decides word (codes "start")).0 is)
start-Ok word slowed false is e = absurd (err_is _ slowed e)

stop-Ok : (word : List ℕ) (slowed : SlowedCall) (t : Bool) → bytes_eq word (codes "stop") ≡ t
    → cond t (Ok slowed_calls.Stop)
    (cond (bytes_eq word (codes "start")) (Ok slowed_calls.Start) (Err faults.BadOption)) ≡ Ok slowed
    → slowed_call_text slowed ≡ word
stop-Ok word slowed true is e =
    let same : slowed_calls.Stop ≡ slowed = ok_is slowed_calls.Stop slowed e in
    ap slowed_call_text (sym same) ∙ sym ((bytes_eq-Decides word (codes "stop")).0 is)
stop-Ok word slowed false is e = start-Ok word slowed (bytes_eq word (codes "start")) refl e

slowed_call_in-Ok : (word : List ℕ) (slowed : SlowedCall) → slowed_call_in word ≡ Ok slowed
    → slowed_call_text slowed ≡ word
slowed_call_in-Ok word slowed e = stop-Ok word slowed (bytes_eq word (codes "stop")) refl e

-- 'on' and 'off'
off-Ok : (word : List ℕ) (on : Bool) (t : Bool) → bytes_eq word (codes "off") ≡ t
    → cond t (Ok false) (Err faults.BadOption) ≡ Ok on → switch_text on ≡ word
off-Ok word on true is e =
    let same : false ≡ on = ok_is false on e in
    ap switch_text (sym same) ∙ sym ((bytes_eq-Decides word (codes "off")).0 is)
off-Ok word on false is e = absurd (err_is _ on e)

on-Ok : (word : List ℕ) (on : Bool) (t : Bool) → bytes_eq word (codes "on") ≡ t
    → cond t (Ok true) (cond (bytes_eq word (codes "off")) (Ok false) (Err faults.BadOption)) ≡ Ok on
    → switch_text on ≡ word
on-Ok word on true is e =
    let same : true ≡ on = ok_is true on e in
    ap switch_text (sym same) ∙ sym ((bytes_eq-Decides word (codes "on")).0 is)
on-Ok word on false is e = off-Ok word on (bytes_eq word (codes "off")) refl e

pub switch_in-Ok : (word : List ℕ) (on : Bool) → switch_in word ≡ Ok on → switch_text on ≡ word
switch_in-Ok word on e = on-Ok word on (bytes_eq word (codes "on")) refl e

-- what a line of this first word and these words says
pub record Says (members : List Name) (keyword : Keyword) (rest : Option (List ℕ)) (line : Line) : Type 0 where
  pub words : List ℕ
  pub is : rest ≡ Some words
  pub text : line_text members line ≡ spelled keyword words
  pub fits : IsLine members line

number-line : (members : List Name) (keyword : Keyword) (make : ℕ → Line)
    → ((n : ℕ) → line_text members (make n) ≡ spelled keyword (decimal n))
    → ((n : ℕ) → n < 2 ^ 64 → IsLine members (make n))
    → (rest : Option (List ℕ)) (line : Line)
    → on_ok (one_word members number_in rest) (λ n. Ok (make n)) ≡ Ok line → Says members keyword rest line
number-line members keyword make text is_line rest line e =
    on_ok-made (Says members keyword rest) (one_word members number_in rest) make line e (λ n is.
    let w = one_word-Ok members number_in rest n is in
    let value : number w.word ≡ Some n = number_in-Ok w.word n w.value in
    record {
      words = w.word;
      is = w.is;
      text = text n ∙ ap (spelled keyword) (sym (number-is w.word n value));
      fits = is_line n (number-below w.word n value);
    })

member-line : (members : List Name) (keyword : Keyword) (make : MemberId → Line)
    → ((m : MemberId) → line_text members (make m) ≡ spelled keyword (member_text members m))
    → ((m : MemberId) → IsMember members m → IsLine members (make m))
    → (rest : Option (List ℕ)) (line : Line)
    → on_ok (one_word members (member_in members) rest) (λ m. Ok (make m)) ≡ Ok line → Says members keyword rest line
member-line members keyword make text is_line rest line e =
    on_ok-made (Says members keyword rest) (one_word members (member_in members) rest) make line e (λ member is.
    let w = one_word-Ok members (member_in members) rest member is in
    let m = member_in-Ok members w.word member w.value in
    record {
      words = w.word;
      is = w.is;
      text = text member ∙ ap (spelled keyword) m.text;
      fits = is_line member m.member;
    })

link-line : (members : List Name) (keyword : Keyword) (make : End → End → Line)
    → ((x y : End) →
    line_text members (make x y) ≡ spelled keyword (two_texts (end_word members x) (end_word members y)))
    → ((x y : End) → IsLink members x y → IsLine members (make x y))
    → (rest : Option (List ℕ)) (line : Line)
    → on_ok (two_ends members rest) (λ link. Ok (make link.0 link.1)) ≡ Ok line → Says members keyword rest line
link-line members keyword make text is_line rest line e =
    on_ok-made (Says members keyword rest) (two_ends members rest) (λ link. make link.0 link.1) line e (λ link is.
    let l = two_ends-Ok members rest link is in
    record {
      words = l.words;
      is = l.is;
      text = text link.0 link.1 ∙ ap (spelled keyword) l.text;
      fits = is_line link.0 link.1 l.link;
    })

trace-line : (members : List Name) (rest : Option (List ℕ)) (line : Line)
    → on_ok (one_word members switch_in rest) (λ on. command (commands.Trace on)) ≡ Ok line
    → Says members words.Trace rest line
trace-line members rest line e =
    on_ok-made (Says members words.Trace rest) (one_word members switch_in rest)
    (λ on. lines.Command (commands.Trace on)) line e (λ on is.
    let w = one_word-Ok members switch_in rest on is in
    record { words = w.word; is = w.is; text = ap (spelled words.Trace) (switch_in-Ok w.word on w.value); fits = tt })

-- a command that is read is its line
command-line : (members : List Name) (keyword : Keyword) (rest : Option (List ℕ)) {A : Type 0} (r : Result A Fault)
    (make : A → Command) (line : Line) → on_ok (on_ok r (λ said. Ok (make said))) command ≡ Ok line
    → ((said : A) → r ≡ Ok said → Says members keyword rest (lines.Command (make said)))
    → Says members keyword rest line
command-line members keyword rest r make line e each =
    on_ok-made (Says members keyword rest) (on_ok r (λ said. Ok (make said))) lines.Command line e (λ c is.
    on_ok-made (λ c. Says members keyword rest (lines.Command c)) r make c is each)

commit-line : (members : List Name) (rest : Option (List ℕ)) (line : Line)
    → on_ok (commit_in members rest) command ≡ Ok line → Says members words.Commit rest line
commit-line members rest line e =
    command-line members words.Commit rest (two_words members (member_in members) commit_size_in rest)
    (λ said. commands.Commit said.0 said.1) line e (λ said is.
    let w = two_words-Ok members (member_in members) commit_size_in rest said is in
    let m = member_in-Ok members w.word said.0 w.value in
    record {
      words = two_texts w.word w.other;
      is = w.is;
      text = ap (λ t. spelled words.Commit (two_texts t (decimal said.1.bytes))) m.text
          ∙ ap (λ t. spelled words.Commit (two_texts w.word t)) (commit_size_in-Ok w.other said.1 w.other_value);
      fits = m.member;
    })

stream-line : (members : List Name) (rest : Option (List ℕ)) (line : Line)
    → on_ok (stream_in members rest) command ≡ Ok line → Says members words.Stream rest line
stream-line members rest line e =
    command-line members words.Stream rest (two_words members (member_in members) number_in rest)
    (λ said. commands.Stream said.0 said.1) line e (λ said is.
    let w = two_words-Ok members (member_in members) number_in rest said is in
    let m = member_in-Ok members w.word said.0 w.value in
    let n : number w.other ≡ Some said.1 = number_in-Ok w.other said.1 w.other_value in
    record {
      words = two_texts w.word w.other;
      is = w.is;
      text = ap (λ t. spelled words.Stream (two_texts t (decimal said.1))) m.text
          ∙ ap (λ t. spelled words.Stream (two_texts w.word t)) (sym (number-is w.other said.1 n));
      fits = (m.member, number-below w.other said.1 n);
    })

slow-line : (members : List Name) (rest : Option (List ℕ)) (line : Line)
    → on_ok (slow_in members rest) command ≡ Ok line → Says members words.Slow rest line
slow-line members rest line e =
    command-line members words.Slow rest (three_words members (member_in members) slowed_call_in delay_in rest)
    (λ said. commands.Slow said.0.0 said.0.1 said.1) line e (λ said is.
    let w = three_words-Ok members (member_in members) slowed_call_in delay_in rest said is in
    let m = member_in-Ok members w.word said.0.0 w.value in
    record {
      words = two_texts w.word (two_texts w.middle w.last);
      is = w.is;
      text = ap (λ t. spelled words.Slow (two_texts t (two_texts (slowed_call_text said.0.1) (decimal said.1.ticks))))
          m.text
          ∙ ap (λ t. spelled words.Slow (two_texts w.word (two_texts t (decimal said.1.ticks))))
          (slowed_call_in-Ok w.middle said.0.1 w.middle_value)
          ∙ ap (λ t. spelled words.Slow (two_texts w.word (two_texts w.middle t)))
          (delay_in-Ok w.last said.1 w.last_value);
      fits = m.member;
    })

plain_line-Ok : (members : List Name) (keyword : Keyword) (rest : Option (List ℕ)) (line : Line)
    → plain_line members keyword rest ≡ Ok line → Says members keyword rest line
plain_line-Ok members words.Tick rest line e =
    number-line members words.Tick (λ n. lines.Tick n) (λ n. refl) (λ n h. h) rest line e
plain_line-Ok members words.Deliver rest line e =
    number-line members words.Deliver (λ n. lines.Command (commands.Deliver n)) (λ n. refl) (λ n h. h) rest line e
plain_line-Ok members words.Lose rest line e =
    number-line members words.Lose (λ n. lines.Command (commands.Lose n)) (λ n. refl) (λ n h. h) rest line e
plain_line-Ok members words.Run rest line e =
    number-line members words.Run (λ n. lines.Run n) (λ n. refl) (λ n h. h) rest line e
plain_line-Ok members words.Turn rest line e =
    member-line members words.Turn (λ m. lines.Command (commands.Turn m)) (λ m. refl) (λ m h. h) rest line e
plain_line-Ok members words.Hold rest line e =
    member-line members words.Hold (λ m. lines.Command (commands.Suspend m)) (λ m. refl) (λ m h. h) rest line e
plain_line-Ok members words.Resume rest line e =
    member-line members words.Resume (λ m. lines.Command (commands.Resume m)) (λ m. refl) (λ m h. h) rest line e
plain_line-Ok members words.Kill rest line e =
    member-line members words.Kill (λ m. lines.Command (commands.Kill m)) (λ m. refl) (λ m h. h) rest line e
plain_line-Ok members words.Restart rest line e =
    member-line members words.Restart (λ m. lines.Command (commands.StartAgent m)) (λ m. refl) (λ m h. h) rest line e
plain_line-Ok members words.Promote rest line e =
    member-line members words.Promote (λ m. lines.Command (commands.Promote m)) (λ m. refl) (λ m h. h) rest line e
plain_line-Ok members words.Crash rest line e =
    member-line members words.Crash (λ m. lines.Command (commands.Crash m)) (λ m. refl) (λ m h. h) rest line e
plain_line-Ok members words.Freeze rest line e =
    member-line members words.Freeze (λ m. lines.Command (commands.Freeze m)) (λ m. refl) (λ m h. h) rest line e
plain_line-Ok members words.Thaw rest line e =
    member-line members words.Thaw (λ m. lines.Command (commands.Thaw m)) (λ m. refl) (λ m h. h) rest line e
plain_line-Ok members words.Commit rest line e = commit-line members rest line e
plain_line-Ok members words.Stream rest line e = stream-line members rest line e
plain_line-Ok members words.Slow rest line e = slow-line members rest line e
plain_line-Ok members words.Cut rest line e =
    link-line members words.Cut (λ x y. lines.Command (commands.Cut x y)) (λ x y. refl) (λ x y h. h) rest line e
plain_line-Ok members words.Join rest line e =
    link-line members words.Join (λ x y. lines.Command (commands.Join x y)) (λ x y. refl) (λ x y h. h) rest line e
plain_line-Ok members words.Trace rest line e = trace-line members rest line e
plain_line-Ok members _ rest line e = absurd (err_is _ line e)

-- what a line of the body says, and how it is spelled
pub record SaysLine (members : List Name) (keyword : Keyword) (rest : Option (List ℕ)) (line : Line) : Type 0 where
  pub words : List ℕ
  pub is : rest ≡ Some words
  pub text : SpellsLine members (spelled keyword words) line
  pub fits : IsWholeLine (spelled keyword words) → IsLine members line

own : (members : List Name) (keyword : Keyword) (rest : Option (List ℕ)) (line : Line)
    → Says members keyword rest line → SaysLine members keyword rest line
own members keyword rest line says =
    record { words = says.words; is = says.is; text = OwnText (sym says.text); fits = λ _. says.fits }

rest_line-Ok : (members : List Name) (rest : Option (List ℕ)) (line : Line) → rest_line members rest ≡ Ok line
    → SaysLine members words.Rest rest line
rest_line-Ok members rest line e =
    on_ok-made (SaysLine members words.Rest rest) (asked_member members rest)
    (λ said. lines.Command (commands.Rest said.0 (request_behind (behind_word rest)))) line e (λ said is.
    let r = asked_member-Ok members rest said is in
    let m = member_in-Ok members r.word said.0 r.value in
    subst (λ (request : RequestWords). SaysLine members words.Rest rest (lines.Command (commands.Rest said.0 request)))
    (sym r.request) (record {
      words = two_texts (member_text members said.0) (words_with r.method r.target r.behind);
      is = r.is ∙ ap (λ t. Some (two_texts t (words_with r.method r.target r.behind))) (sym m.text);
      text = request-SpellsLine members said.0 r.method r.target r.behind;
      fits = λ line. request-IsRequest members said.0 r.method r.target r.behind m.member r.token r.target_is line;
    }))

ctl_line-Ok : (members : List Name) (rest : Option (List ℕ)) (line : Line) → ctl_line members rest ≡ Ok line
    → SaysLine members words.Ctl rest line
ctl_line-Ok members None line e = absurd (err_is _ line e)
ctl_line-Ok members (Some said) line e =
    on_ok-made (SaysLine members words.Ctl (Some said)) (line_end members None)
    (λ _. lines.Command (commands.Ctl said)) line e (λ none is.
    record {
      words = said;
      is = refl;
      text = OwnText refl;
      fits = λ whole. record {
        text = text-behind (word_of words.Ctl) said (IsUtf8-from_is_utf8 (ctl_text said) whole.form.text);
        line = whole;
      };
    })

pub line_of_words-Ok : (members : List Name) (keyword : Keyword) (rest : Option (List ℕ)) (line : Line)
    → line_of_words members keyword rest ≡ Ok line → SaysLine members keyword rest line
line_of_words-Ok members words.Rest rest line e = rest_line-Ok members rest line e
line_of_words-Ok members words.Ctl rest line e = ctl_line-Ok members rest line e
line_of_words-Ok members keyword rest line e = own members keyword rest line (plain_line-Ok members keyword rest line e)
