-- What is spelled as a line of the body is read as it.
use Rattle.std.proofs.Common.{◌≡◌, ◌≢◌, ℕ, ◌+◌, ◌^◌, ◌≤◌, ◌<◌, Bool, true, false, cond, List, ◌∷◌, ◌++◌, length, slice_get, Option, Some, None, Result, Ok, Err, codes, refl, ◌∙◌, ap, sym, subst, zero, suc, arith, []}
use Rattle.std.specs.Fmt.{decimal}
use Rattle.std.specs.Option.{ok_or, option_and_then}
use Rattle.std.specs.Str.{bytes_eq}
use Rattle.std.proofs.lemmas.Bool.{eqb-true}
use Rattle.std.proofs.lemmas.Slice.Eq.{bytes_eq-Decides}
use Rattle.pat_base.specs.Bounded.{is_text-bytes}
use Rattle.pat_base.specs.MemberId.{member_of}
use Rattle.pat_base.specs.NameText.{is_name_byte}
use Rattle.pat_base.specs.declared.member_id.MemberId.{MemberId}
use Rattle.pat_base.proofs.Members.{number-injective, member_of-number}
use Rattle.pat_base.proofs.Names.{name_of-name_bytes}
use Rattle.script_words.specs.Numbers.{number}
use Rattle.script_words.specs.Lines.{first_at}
use Rattle.script_model.specs.Ranges.{commit_size_of, delay_of}
use Rattle.script_grammar.specs.Arguments.{number_in, switch_in, slowed_call_in, commit_size_in, delay_in, known_member, member_in, end_in, line_end, last_word, one_word, word_behind, two_words, words_behind, same_end, apart, two_ends, commit_in, stream_in, slow_in, command}
use Rattle.script_grammar.specs.Draft.{DraftText}
use Rattle.script_words.specs.Faults.{both, on_ok}
use Rattle.script_model.specs.Script.{end_word, switch_text, slowed_call_text, two_texts, AreDifferent, member_names, IsMember, IsEnd, IsLink, IsCommand, IsLine, line_text, IsRequest, request_text, rest_text, member_text, text_of_name}
use Rattle.script_model.specs.Spelling.{SpellsLine, OwnText, BlankBehind}
use Rattle.pat_base.specs.Name.{name_bytes, name_of}
use Rattle.pat_base.specs.declared.name.Name.{Name}
use Rattle.script_grammar.specs.Members.{place_of}
use Rattle.script_grammar.specs.Reading.{addition_of, with_addition, with_keyword, with_line}
use Rattle.script_grammar.specs.FirstWords.{keyword_of}
use Rattle.script_model.specs.Keywords.{spelled}
use Rattle.script_grammar.specs.declared.addition.Addition.{Addition}
use Rattle.script_grammar.specs.declared.addition.Addition.TheVariants as additions
use Rattle.script_words.specs.declared.fault.Fault.{Fault}
use Rattle.script_words.specs.declared.fault.Fault.TheVariants as faults
use Rattle.script_model.specs.declared.keyword.Keyword.{Keyword}
use Rattle.script_model.specs.declared.keyword.Keyword.TheVariants as words
use Rattle.script_model.specs.declared.line.End.{End}
use Rattle.script_model.specs.declared.line.End.TheVariants as ends
use Rattle.script_model.specs.declared.line.Command.{Command}
use Rattle.script_model.specs.declared.line.Command.TheVariants as commands
use Rattle.script_model.specs.declared.line.Line.{Line}
use Rattle.script_model.specs.declared.line.Line.TheVariants as lines
use Rattle.script_model.specs.declared.line.SlowedCall.{SlowedCall}
use Rattle.script_model.specs.declared.line.SlowedCall.TheVariants as slowed_calls
use Rattle.script_model.specs.declared.ranges.CommitSize.{CommitSize}
use Rattle.script_model.specs.declared.ranges.Delay.{Delay}
use Rattle.script_model.specs.declared.request_words.RequestWords.{RequestWords}
use Rattle.script_words.proofs.Outcomes.{err_is}
use Rattle.script_grammar.proofs.NameLaws.{place_of-Some, place_of-None}
use Rattle.script_words.proofs.NumberLaws.{number-decimal, first_at-decimal}
use Rattle.script_model.proofs.RangeLaws.{commit_size_of-Some, delay_of-Some}
use Rattle.script_grammar.proofs.BlankLaws.{first_at-all}
use Rattle.script_grammar.proofs.RequestLaws.{words_with, request_with, blank-text, request-again, own-again}
use Rattle.script_words.proofs.WordLaws.{cut_word-again, cut_word-alone}
use Rattle.script_law.proofs.FirstWords.{cut_word-spelled, keyword_of-word_of}

-- no blank stands in a name
pub first_at-name : (name : Name) → first_at 32 (name_bytes name) ≡ None
first_at-name name =
    first_at-all is_name_byte (name_bytes name) refl (is_text-bytes 32 is_name_byte (name_bytes name) name.legal)

first_at-some_name : (o : Option Name) → first_at 32 (text_of_name o) ≡ None
first_at-some_name None = refl
first_at-some_name (Some name) = first_at-name name

first_at-end : (members : List Name) (x : End) → first_at 32 (end_word members x) ≡ None
first_at-end members ends.Store = refl
first_at-end members (ends.Member m) = first_at-some_name (slice_get members m.number)

-- a member that is declared has its name's place
placed : (members : List Name) (name : Name) (i : ℕ) (o : Option ℕ) → AreDifferent members
    → slice_get members i ≡ Some name → place_of members name ≡ o → o ≡ Some i
placed members name i None h at e = absurd (place_of-None members name i e at)
placed members name i (Some j) h at e = ap Some (h j i name (place_of-Some members name j e) at)

past : {X : Type 0} (xs : List X) (i : ℕ) → slice_get xs i ≡ None → length xs ≤ i
past [] i e = omega arith
past (x ∷ xs) zero e = cc
past (x ∷ xs) (suc i) e = omega (arith, past xs i e)

named : (members : List Name) (m : MemberId) (o : Option Name) → AreDifferent members → m.number < length members
    → slice_get members m.number ≡ o → known_member members (name_of (text_of_name o)) ≡ Ok m
named members m None h small at = absurd (omega (arith, past members m.number at))
named members m (Some name) h small at =
    ap (known_member members) (name_of-name_bytes name)
    ∙ ap (λ o. ok_or (option_and_then member_of o) faults.UnknownName)
    (placed members name m.number (place_of members name) h at refl)
    ∙ ap (λ o. ok_or o faults.UnknownName) (member_of-number m)

pub member_in-again : (members : List Name) (m : MemberId) → AreDifferent members → IsMember members m
    → member_in members (member_text members m) ≡ Ok m
member_in-again members m h small = named members m (slice_get members m.number) h small refl

-- a body line ends where its words end
line_end-again : (members : List Name) → 0 < length members → line_end members None ≡ Ok tt
line_end-again [] h = absurd (omega arith)
line_end-again (m ∷ members) h = refl

last_word-again : {A : Type 0} (members : List Name) (x : A) → 0 < length members → last_word members (Ok x) None ≡ Ok x
last_word-again members x h = ap (λ r. on_ok r (λ _. Ok x)) (line_end-again members h)

one_word-again : {A : Type 0} (members : List Name) (read : List ℕ → Result A Fault) (word : List ℕ) (x : A)
    → 0 < length members → first_at 32 word ≡ None → read word ≡ Ok x → one_word members read (Some word) ≡ Ok x
one_word-again members read word x some plain value =
    ap (λ p. last_word members (read p.0) p.1) (cut_word-alone word plain)
    ∙ ap (λ r. last_word members r None) value
    ∙ last_word-again members x some

-- ends of links
unequal : (word : List ℕ) (t : Bool) → bytes_eq word (codes "store") ≡ t → word ≢ codes "store" → t ≡ false
unequal word true is other = absurd (other ((bytes_eq-Decides word (codes "store")).0 is))
unequal word false is other = refl

end_in-again : (members : List Name) (x : End) → AreDifferent members → IsEnd members x
    → end_in members (end_word members x) ≡ Ok x
end_in-again members ends.Store h is = refl
end_in-again members (ends.Member m) h is =
    ap (λ t. cond t (Ok ends.Store) (on_ok (member_in members (member_text members m)) (λ m. Ok (ends.Member m))))
    (unequal (member_text members m) (bytes_eq (member_text members m) (codes "store")) refl is.1)
    ∙ ap (λ r. on_ok r (λ m. Ok (ends.Member m))) (member_in-again members m h is.0)

same_end-is : (x y : End) → same_end x y ≡ true → x ≡ y
same_end-is ends.Store ends.Store e = refl
same_end-is ends.Store (ends.Member m) e = cc
same_end-is (ends.Member m) ends.Store e = cc
same_end-is (ends.Member m) (ends.Member k) e = ap ends.Member (number-injective m k (eqb-true m.number k.number e))

other_end : (x y : End) (t : Bool) → same_end x y ≡ t → x ≢ y → t ≡ false
other_end x y true is other = absurd (other (same_end-is x y is))
other_end x y false is other = refl

-- words behind others
word_behind-again : {A B : Type 0} (members : List Name) (x : A) (read : List ℕ → Result B Fault)
    (word : List ℕ) (y : B) → 0 < length members → first_at 32 word ≡ None → read word ≡ Ok y
    → word_behind members (Ok x) read (Some word) ≡ Ok (x, y)
word_behind-again members x read word y some plain value =
    ap (λ p. last_word members (both (Ok x) (read p.0)) p.1) (cut_word-alone word plain)
    ∙ ap (λ r. last_word members (both (Ok x) r) None) value
    ∙ last_word-again members (x, y) some

two_words-again : {A B : Type 0} (members : List Name) (first : List ℕ → Result A Fault)
    (second : List ℕ → Result B Fault) (word other : List ℕ) (x : A) (y : B) → 0 < length members
    → first_at 32 word ≡ None → first word ≡ Ok x → first_at 32 other ≡ None → second other ≡ Ok y
    → two_words members first second (Some (two_texts word other)) ≡ Ok (x, y)
two_words-again members first second word other x y some plain value other_plain other_value =
    ap (λ p. word_behind members (first p.0) second p.1) (cut_word-again word other plain)
    ∙ ap (λ r. word_behind members r second (Some other)) value
    ∙ word_behind-again members x second other y some other_plain other_value

words_behind-again : {A B C : Type 0} (members : List Name) (x : A) (read : List ℕ → Result B Fault)
    (last : List ℕ → Result C Fault) (word other : List ℕ) (y : B) (z : C) → 0 < length members
    → first_at 32 word ≡ None → read word ≡ Ok y → first_at 32 other ≡ None → last other ≡ Ok z
    → words_behind members (Ok x) read last (Some (two_texts word other)) ≡ Ok ((x, y), z)
words_behind-again members x read last word other y z some plain value other_plain other_value =
    ap (λ p. word_behind members (both (Ok x) (read p.0)) last p.1) (cut_word-again word other plain)
    ∙ ap (λ r. word_behind members (both (Ok x) r) last (Some other)) value
    ∙ word_behind-again members (x, y) last other z some other_plain other_value

two_ends-again : (members : List Name) (x y : End) → 0 < length members → AreDifferent members → IsLink members x y
    → two_ends members (Some (two_texts (end_word members x) (end_word members y))) ≡ Ok (x, y)
two_ends-again members x y some h link =
    ap (λ r. on_ok r apart)
    (two_words-again members (end_in members) (end_in members) (end_word members x)
    (end_word members y) x y some (first_at-end members x) (end_in-again members x h link.first_is)
    (first_at-end members y) (end_in-again members y h link.second_is))
    ∙ ap (λ t. cond t (Err faults.SameEnds) (Ok (x, y))) (other_end x y (same_end x y) refl link.apart)

-- lines of the body
number-again : (members : List Name) (n : ℕ) → 0 < length members → n < 2 ^ 64
    → one_word members number_in (Some (decimal n)) ≡ Ok n
number-again members n some fits = one_word-again members number_in (decimal n) n some
    (first_at-decimal 32 n (omega arith) fits) (ap (λ o. ok_or o faults.BadNumber) (number-decimal n fits))

member-again : (members : List Name) (m : MemberId) → 0 < length members → AreDifferent members
    → IsMember members m → one_word members (member_in members) (Some (member_text members m)) ≡ Ok m
member-again members m some h is = one_word-again members (member_in members) (member_text members m) m some
    (first_at-some_name (slice_get members m.number)) (member_in-again members m h is)

switch-again : (members : List Name) (on : Bool) → 0 < length members
    → one_word members switch_in (Some (switch_text on)) ≡ Ok on
switch-again members true some = one_word-again members switch_in (codes "on") true some refl refl
switch-again members false some = one_word-again members switch_in (codes "off") false some refl refl

-- numbers in a range
pub number_in-again : (n : ℕ) → n < 2 ^ 64 → number_in (decimal n) ≡ Ok n
number_in-again n fits = ap (λ o. ok_or o faults.BadNumber) (number-decimal n fits)

pub size-fits : (size : CommitSize) → size.bytes < 2 ^ 64
size-fits size = omega (arith, size.most)

pub delay-fits : (delay : Delay) → delay.ticks < 2 ^ 64
delay-fits delay = omega (arith, delay.most)

commit_size_in-again : (size : CommitSize) → commit_size_in (decimal size.bytes) ≡ Ok size
commit_size_in-again size =
    ap (λ r. on_ok r (λ n. ok_or (commit_size_of n) faults.BadNumber)) (number_in-again size.bytes (size-fits size))
    ∙ ap (λ o. ok_or o faults.BadNumber) (commit_size_of-Some size.bytes size refl)

delay_in-again : (delay : Delay) → delay_in (decimal delay.ticks) ≡ Ok delay
delay_in-again delay =
    ap (λ r. on_ok r (λ n. ok_or (delay_of n) faults.BadNumber)) (number_in-again delay.ticks (delay-fits delay))
    ∙ ap (λ o. ok_or o faults.BadNumber) (delay_of-Some delay.ticks delay refl)

slowed_call_in-again : (slowed : SlowedCall) → slowed_call_in (slowed_call_text slowed) ≡ Ok slowed
slowed_call_in-again slowed_calls.Stop = refl
slowed_call_in-again slowed_calls.Start = refl

first_at-slowed : (slowed : SlowedCall) → first_at 32 (slowed_call_text slowed) ≡ None
first_at-slowed slowed_calls.Stop = refl
first_at-slowed slowed_calls.Start = refl

first_at-member : (members : List Name) (m : MemberId) → first_at 32 (member_text members m) ≡ None
first_at-member members m = first_at-some_name (slice_get members m.number)

-- a member and how long its commit is
commit-again : (members : List Name) (m : MemberId) (size : CommitSize) → 0 < length members
    → AreDifferent members → IsMember members m
    → commit_in members (Some (two_texts (member_text members m) (decimal size.bytes))) ≡ Ok (commands.Commit m size)
commit-again members m size some h is =
    ap (λ r. on_ok r (λ said. Ok (commands.Commit said.0 said.1)))
    (two_words-again members (member_in members) commit_size_in (member_text members m)
    (decimal size.bytes) m size some (first_at-member members m) (member_in-again members m h is)
    (first_at-decimal 32 size.bytes (omega arith) (size-fits size)) (commit_size_in-again size))

-- a member and a number
stream-again : (members : List Name) (m : MemberId) (n : ℕ) → 0 < length members → AreDifferent members
    → IsMember members m → n < 2 ^ 64
    → stream_in members (Some (two_texts (member_text members m) (decimal n))) ≡ Ok (commands.Stream m n)
stream-again members m n some h is fits =
    ap (λ r. on_ok r (λ said. Ok (commands.Stream said.0 said.1)))
    (two_words-again members (member_in members) number_in (member_text members m) (decimal n) m n some
    (first_at-member members m) (member_in-again members m h is) (first_at-decimal 32 n (omega arith) fits)
    (number_in-again n fits))

-- a member, what is delayed, and by how long
slow-again : (members : List Name) (m : MemberId) (slowed : SlowedCall) (delay : Delay) → 0 < length members
    → AreDifferent members → IsMember members m
    → slow_in members
    (Some (two_texts (member_text members m) (two_texts (slowed_call_text slowed) (decimal delay.ticks))))
    ≡ Ok (commands.Slow m slowed delay)
slow-again members m slowed delay some h is =
    let words : List ℕ = two_texts (slowed_call_text slowed) (decimal delay.ticks) in
    ap (λ r. on_ok r (λ said. Ok (commands.Slow said.0.0 said.0.1 said.1)))
    (ap (λ p. words_behind members (member_in members p.0) slowed_call_in delay_in p.1)
    (cut_word-again (member_text members m) words (first_at-member members m))
    ∙ ap (λ r. words_behind members r slowed_call_in delay_in (Some words)) (member_in-again members m h is)
    ∙ words_behind-again members m slowed_call_in delay_in (slowed_call_text slowed)
    (decimal delay.ticks) slowed delay some (first_at-slowed slowed) (slowed_call_in-again slowed)
    (first_at-decimal 32 delay.ticks (omega arith) (delay-fits delay)) (delay_in-again delay))

-- a line with its first word and the words behind it
record IsSaid (members : List Name) (line : Line) : Type 0 where
  pub keyword : Keyword
  pub words : List ℕ
  pub text : line_text members line ≡ spelled keyword words
  pub in_body : (base : Option ℕ) (body : List Line)
      → addition_of base members body keyword (Some words) ≡ Ok (additions.Body line)

-- a line that was read is added to the body
added : (line : Line) (r : Result Line Fault) → r ≡ Ok line
    → on_ok r (λ l. Ok (additions.Body l)) ≡ Ok (additions.Body line)
added line r e = ap (λ r. on_ok r (λ l. Ok (additions.Body l))) e

command-IsSaid : (members : List Name) (c : Command) → 0 < length members → AreDifferent members
    → IsCommand members c → IsSaid members (lines.Command c)
command-IsSaid members (commands.Turn m) some h is = record {
  keyword = words.Turn;
  words = member_text members m;
  text = refl;
  in_body =
      λ base body. added _ _ (ap (λ r. on_ok r (λ m. command (commands.Turn m))) (member-again members m some h is));
}
command-IsSaid members (commands.Suspend m) some h is = record {
  keyword = words.Hold;
  words = member_text members m;
  text = refl;
  in_body =
      λ base body. added _ _ (ap (λ r. on_ok r (λ m. command (commands.Suspend m))) (member-again members m some h is));
}
command-IsSaid members (commands.Resume m) some h is = record {
  keyword = words.Resume;
  words = member_text members m;
  text = refl;
  in_body =
      λ base body. added _ _ (ap (λ r. on_ok r (λ m. command (commands.Resume m))) (member-again members m some h is));
}
command-IsSaid members (commands.Kill m) some h is = record {
  keyword = words.Kill;
  words = member_text members m;
  text = refl;
  in_body =
      λ base body. added _ _ (ap (λ r. on_ok r (λ m. command (commands.Kill m))) (member-again members m some h is));
}
command-IsSaid members (commands.StartAgent m) some h is = record {
  keyword = words.Restart;
  words = member_text members m;
  text = refl;
  in_body = λ base body.
      added _ _ (ap (λ r. on_ok r (λ m. command (commands.StartAgent m))) (member-again members m some h is));
}
command-IsSaid members (commands.Promote m) some h is = record {
  keyword = words.Promote;
  words = member_text members m;
  text = refl;
  in_body =
      λ base body. added _ _ (ap (λ r. on_ok r (λ m. command (commands.Promote m))) (member-again members m some h is));
}
command-IsSaid members (commands.Crash m) some h is = record {
  keyword = words.Crash;
  words = member_text members m;
  text = refl;
  in_body =
      λ base body. added _ _ (ap (λ r. on_ok r (λ m. command (commands.Crash m))) (member-again members m some h is));
}
command-IsSaid members (commands.Freeze m) some h is = record {
  keyword = words.Freeze;
  words = member_text members m;
  text = refl;
  in_body =
      λ base body. added _ _ (ap (λ r. on_ok r (λ m. command (commands.Freeze m))) (member-again members m some h is));
}
command-IsSaid members (commands.Thaw m) some h is = record {
  keyword = words.Thaw;
  words = member_text members m;
  text = refl;
  in_body =
      λ base body. added _ _ (ap (λ r. on_ok r (λ m. command (commands.Thaw m))) (member-again members m some h is));
}
command-IsSaid members (commands.Deliver n) some h is = record {
  keyword = words.Deliver;
  words = decimal n;
  text = refl;
  in_body =
      λ base body. added _ _ (ap (λ r. on_ok r (λ n. command (commands.Deliver n))) (number-again members n some is));
}
command-IsSaid members (commands.Lose n) some h is = record {
  keyword = words.Lose;
  words = decimal n;
  text = refl;
  in_body =
      λ base body. added _ _ (ap (λ r. on_ok r (λ n. command (commands.Lose n))) (number-again members n some is));
}
command-IsSaid members (commands.Commit m size) some h is = record {
  keyword = words.Commit;
  words = two_texts (member_text members m) (decimal size.bytes);
  text = refl;
  in_body = λ base body. added _ _ (ap (λ r. on_ok r command) (commit-again members m size some h is));
}
command-IsSaid members (commands.Stream m n) some h is = record {
  keyword = words.Stream;
  words = two_texts (member_text members m) (decimal n);
  text = refl;
  in_body = λ base body. added _ _ (ap (λ r. on_ok r command) (stream-again members m n some h is.0 is.1));
}
command-IsSaid members (commands.Slow m slowed delay) some h is = record {
  keyword = words.Slow;
  words = two_texts (member_text members m) (two_texts (slowed_call_text slowed) (decimal delay.ticks));
  text = refl;
  in_body = λ base body. added _ _ (ap (λ r. on_ok r command) (slow-again members m slowed delay some h is));
}
command-IsSaid members (commands.Cut x y) some h is = record {
  keyword = words.Cut;
  words = two_texts (end_word members x) (end_word members y);
  text = refl;
  in_body = λ base body. added _ _
      (ap (λ r. on_ok r (λ link. command (commands.Cut link.0 link.1))) (two_ends-again members x y some h is));
}
command-IsSaid members (commands.Join x y) some h is = record {
  keyword = words.Join;
  words = two_texts (end_word members x) (end_word members y);
  text = refl;
  in_body = λ base body. added _ _
      (ap (λ r. on_ok r (λ link. command (commands.Join link.0 link.1))) (two_ends-again members x y some h is));
}
command-IsSaid members (commands.Rest m request) some h is = record {
  keyword = words.Rest;
  words = two_texts (member_text members m) (request_text request);
  text = refl;
  in_body = λ base rest. added _ _
      (own-again members (member_text members m) m (first_at-member members m)
      (member_in-again members m h is.declared) request.method request.target is.method is.target request.body);
}
command-IsSaid members (commands.Ctl said) some h is = record {
  keyword = words.Ctl;
  words = said;
  text = refl;
  in_body = λ base body. added _ _ (ap (λ r. on_ok r (λ _. command (commands.Ctl said))) (line_end-again members some));
}
command-IsSaid members (commands.Trace on) some h is = record {
  keyword = words.Trace;
  words = switch_text on;
  text = refl;
  in_body =
      λ base body. added _ _ (ap (λ r. on_ok r (λ on. command (commands.Trace on))) (switch-again members on some));
}

line-IsSaid : (members : List Name) (line : Line) → 0 < length members → AreDifferent members
    → IsLine members line → IsSaid members line
line-IsSaid members (lines.Run n) some h is = record {
  keyword = words.Run;
  words = decimal n;
  text = refl;
  in_body = λ base body. added _ _ (ap (λ r. on_ok r (λ n. Ok (lines.Run n))) (number-again members n some is));
}
line-IsSaid members (lines.Tick n) some h is = record {
  keyword = words.Tick;
  words = decimal n;
  text = refl;
  in_body = λ base body. added _ _ (ap (λ r. on_ok r (λ n. Ok (lines.Tick n))) (number-again members n some is));
}
line-IsSaid members (lines.Command c) some h is = command-IsSaid members c some h is

-- what is added to a draft by a line of this first word and these words
pub spelled-again : (d : DraftText) (keyword : Keyword) (rest : List ℕ)
    → with_line d (spelled keyword rest) ≡ with_keyword d (Some keyword) (Some rest)
spelled-again d keyword rest =
    ap (λ p. with_keyword d (keyword_of p.0) p.1) (cut_word-spelled keyword rest)
    ∙ ap (λ k. with_keyword d k (Some rest)) (keyword_of-word_of keyword)

keyword-again : (d : DraftText) (keyword : Keyword) (rest : Option (List ℕ)) (a : Addition)
    → addition_of d.base (member_names d.members) d.body keyword rest ≡ Ok a
    → with_keyword d (Some keyword) rest ≡ Ok (with_addition d a)
keyword-again d words.Config rest a is = absurd (err_is _ a is)
keyword-again d _ rest a is = ap (λ r. on_ok r (λ added. Ok (with_addition d added))) is

pub addition-again : (d : DraftText) (keyword : Keyword) (rest : List ℕ) (a : Addition)
    → addition_of d.base (member_names d.members) d.body keyword (Some rest) ≡ Ok a
    → with_line d (spelled keyword rest) ≡ Ok (with_addition d a)
addition-again d keyword rest a is = spelled-again d keyword rest ∙ keyword-again d keyword (Some rest) a is

line-again : (d : DraftText) (line : Line) → 0 < length (member_names d.members)
    → AreDifferent (member_names d.members) → IsLine (member_names d.members) line
    → with_line d (line_text (member_names d.members) line) ≡ Ok (record d { body = d.body ++ line ∷ [] })
line-again d line some h is =
    let said = line-IsSaid (member_names d.members) line some h is in
    ap (with_line d) said.text
    ∙ addition-again d said.keyword said.words (additions.Body line) (said.in_body d.base d.body)

-- so is each text that spells the line
pub line_text-again : (d : DraftText) (text : List ℕ) (line : Line) → 0 < length (member_names d.members)
    → AreDifferent (member_names d.members) → IsLine (member_names d.members) line
    → SpellsLine (member_names d.members) text line
    → with_line d text ≡ Ok (record d { body = d.body ++ line ∷ [] })
line_text-again d text line some h is (OwnText own) = ap (with_line d) own ∙ line-again d line some h is
line_text-again d text line some h is (BlankBehind m request empty asks blank) =
    let members : List Name = member_names d.members in
    let asked : IsRequest members m request = subst (IsLine members) asks is in
    let behind : List ℕ = two_texts (member_text members m) (words_with request.method request.target (Some [])) in
    let bare : request_with request.method request.target None ≡ request =
    ap (λ (body : List ℕ). record request { body = body }) (sym empty) in
    let read = request-again members (member_text members m) m (first_at-member members m)
    (member_in-again members m h asked.declared) request.method request.target asked.method asked.target (Some []) in
    ap (with_line d)
    (blank ∙ ap (λ (r : RequestWords). rest_text members m r ++ 32 ∷ []) (sym bare)
    ∙ sym (blank-text members m request.method request.target))
    ∙ addition-again d words.Rest behind
    (additions.Body (lines.Command (commands.Rest m (request_with request.method request.target None))))
    (added _ _ read)
    ∙ ap (λ (r : RequestWords). Ok (record d { body = d.body ++ lines.Command (commands.Rest m r) ∷ [] })) bare
    ∙ ap (λ (l : Line). Ok (record d { body = d.body ++ l ∷ [] })) (sym asks)
