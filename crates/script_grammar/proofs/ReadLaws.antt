-- What is read as a script is one, and is spelled so.
use Rattle.std.proofs.Common.{◌≡◌, ℕ, ◌+◌, ◌≤◌, ◌<◌, ◌&&◌, ◌==◌, not, nat_le, Bool, true, false, cond, List, [], ◌∷◌, ◌++◌, length, map, Option, Some, None, Result, Ok, Err, refl, ◌∙◌, ap, sym, subst, arith, append_assoc, append-nil, length-append}
use Rattle.std.specs.Fmt.{decimal}
use Rattle.std.specs.List.{flat_map}
use Rattle.std.specs.Str.{is_utf8}
use Rattle.std.specs.Option.{option_to_list}
use Rattle.std.proofs.lemmas.Bool.{and_from}
use Rattle.std.proofs.lemmas.Bool.Decides.{nat_tests}
use Rattle.std.proofs.lemmas.Grind.{flat_map-append}
use Rattle.std.proofs.lemmas.List.{map-append, length-map}
use Rattle.pat_base.specs.Name.{name_bytes, name_of}
use Rattle.pat_base.specs.declared.name.Name.{Name}
use Rattle.pat_base.proofs.Names.{name_of-text}
use Rattle.store_keys.specs.Settings.{Settings}
use Rattle.cluster_config.specs.ConfigReading.{config_read}
use Rattle.cluster_config.specs.declared.config_fault.ConfigFault.{ConfigFault}
use Rattle.script_grammar.specs.Arguments.{number_in, line_of_words}
use Rattle.script_grammar.specs.Draft.{DraftText, script_so_far}
use Rattle.script_words.specs.Faults.{on_ok, both}
use Rattle.script_words.specs.Lines.{push_byte, lines_in, is_skipped, counted_lines, is_in_line, is_one_line}
use Rattle.script_grammar.specs.Members.{place_of}
use Rattle.member_options.specs.Options.{SayOnce, option_text, behind_blanks, options_or_default}
use Rattle.member_options.specs.OptionReading.{options_in}
use Rattle.script_grammar.specs.Reading.{name_in, declared_in_head, declared_once, named_member, new_member, next_member, ranged_base, base_in, head_end, base_end, next_base, addition_of, with_addition, config_if_read, next_config, is_config, with_config, with_other, with_line, alone, cluster_named, cluster_in, cluster_by_keyword, first_line, first_draft, after_counted, after_text, after_line, after_lines, at_line, with_some, finished, script_of}
use Rattle.script_model.specs.Bounds.{longest_line, greatest_base}
use Rattle.pat_base.specs.declared.member_id.TheConstants.{MOST_MEMBERS}
use Rattle.script_model.specs.Script.{AreDifferent, MemberText, ScriptText, member_names, names_of, member_of_entry, IsScript, IsLine, AllAreLines, cluster_text, base_text, config_text, base_or_default, IsInForm, IsWholeLine}
use Rattle.script_model.specs.Spelling.{MemberLine, member_of_line, member_line_text, HeadLine, ConfigLine, BaseLine, MembersLine, head_line_text, config_said, base_said, member_said, configs_said, bases_said, members_said, read_at_most_once, head_with, IsHeadLines, AllInForm, SpellsLine, SpellBody, Spells}
use Rattle.script_grammar.specs.FirstWords.{keyword_of}
use Rattle.script_model.specs.Keywords.{spelled}
use Rattle.script_words.specs.Words.{cut_word}
use Rattle.script_grammar.specs.declared.addition.Addition.{Addition}
use Rattle.script_grammar.specs.declared.addition.Addition.TheVariants as additions
use Rattle.script_words.specs.declared.fault.Fault.{Fault}
use Rattle.script_words.specs.declared.fault.Fault.TheVariants as faults
use Rattle.script_model.specs.declared.keyword.Keyword.{Keyword}
use Rattle.script_model.specs.declared.keyword.Keyword.TheVariants as words
use Rattle.member_options.specs.declared.member_option.MemberOptions.{MemberOptions}
use Rattle.script_model.specs.declared.line.Line.{Line}
use Rattle.member_options.specs.declared.member_option.MemberOption.{MemberOption}
use Rattle.member_options.specs.declared.member_option.SaidOptions.{SaidOptions}
use Rattle.script_grammar.proofs.ArgumentLaws.{number_in-Ok, line_of_words-Ok}
use Rattle.script_grammar.proofs.NameLaws.{AreDifferent-push}
use Rattle.script_words.proofs.NumberLaws.{number-is}
use Rattle.member_options.proofs.OptionReadLaws.{options_in-Ok}
use Rattle.member_options.proofs.OptionWords.{options-behind}
use Rattle.script_words.proofs.Outcomes.{none_is, ok_is, err_is, on_ok-Ok, on_ok-made, ok_or-Ok, both-Ok, cond-Ok, cond-Err}
use Rattle.script_words.proofs.WordLaws.{cut_word-None, cut_word-Some}
use Rattle.script_grammar.proofs.FirstWordLaws.{keyword_of-is}

pub at_line-Ok : {A : Type 0} (number : ℕ) (r : Result A Fault) (x : A) → at_line number r ≡ Ok x → r ≡ Ok x
at_line-Ok number (Ok y) x e = let same : y ≡ x = ok_is y x e in rw same refl
at_line-Ok number (Err f) x e = absurd (err_is (number, f) x e)

-- a line that declares a member
pub record DeclaredLine (line : List ℕ) (name : Name) (declared : MemberOptions) : Type 0 where
  pub is : MemberLine
  pub text : member_line_text is ≡ line
  pub declares : member_of_line is ≡ member_of_entry (name, declared)

-- what a line adds, and how it is spelled
abbrev IsAddition : Option ℕ → List Name → List Line → List ℕ → Addition → Type 0
IsAddition base members body line (additions.Member name declared) =
    DeclaredLine line name declared × (length members < MOST_MEMBERS) × (place_of members name ≡ None) × (body ≡ [])
IsAddition base members body line (additions.Base n) =
    (base_text n ≡ line) × (1 ≤ n) × (n ≤ greatest_base) × (base ≡ None) × (body ≡ [])
IsAddition base members body line (additions.Body l) = SpellsLine members line l × IsLine members l

-- the words of a member's line
record DeclaresMember (members : List Name) (body : List Line) (rest : Option (List ℕ))
    (member : Name × MemberOptions) : Type 0 where
  pub words : List ℕ
  pub is : rest ≡ Some words
  pub os : List MemberOption
  pub said : SaidOptions
  pub once : SayOnce os said
  pub declared : options_or_default said ≡ member.1
  pub text : name_bytes member.0 ++ behind_blanks (map option_text os) ≡ words
  pub few : length members < MOST_MEMBERS
  pub absent : place_of members member.0 ≡ None
  pub in_head : body ≡ []

in_head-Ok : (member x : Name × MemberOptions) (body : List Line) → declared_in_head member body ≡ Ok x
    → (member ≡ x) × (body ≡ [])
in_head-Ok member x [] e = (ok_is member x e, refl)
in_head-Ok member x (l ∷ body) e = absurd (err_is _ x e)

once-Ok : (members : List Name) (member x : Name × MemberOptions) (body : List Line) (o : Option ℕ)
    → place_of members member.0 ≡ o → declared_once member body o ≡ Ok x
    → (member ≡ x) × (place_of members member.0 ≡ None) × (body ≡ [])
once-Ok members member x body (Some place) is e = absurd (err_is _ x e)
once-Ok members member x body None is e = let p = in_head-Ok member x body e in (p.0, is, p.1)

not-many : (n : ℕ) → nat_le MOST_MEMBERS n ≡ false → n < MOST_MEMBERS
not-many n e = grind (arith, nat_tests)

next_member-Ok : (members : List Name) (body : List Line) (rest : Option (List ℕ)) (x : Name × MemberOptions)
    → next_member members body rest ≡ Ok x → DeclaresMember members body rest x
next_member-Ok members body rest x e =
    let p = cond-Err (nat_le MOST_MEMBERS (length members)) (new_member members body rest) faults.BadWord x e in
    words-Ok rest (not-many (length members) p.0) p.1
  where
    words-Ok : (rest : Option (List ℕ)) → length members < MOST_MEMBERS → new_member members body rest ≡ Ok x
        → DeclaresMember members body rest x
    words-Ok None few e = absurd (err_is _ x e)
    words-Ok (Some words) few e =
        let p =
        on_ok-Ok (both (name_in (cut_word words).0) (options_in (cut_word words).1)) (named_member members body) x e in
        let b = both-Ok (name_in (cut_word words).0) (options_in (cut_word words).1) p.0 p.1 in
        let q = once-Ok members p.0 x body (place_of members p.0.0) refl p.2 in
        let d = options_in-Ok (cut_word words).1 p.0.1 b.1 in
        let name : name_bytes p.0.0 ≡ (cut_word words).0 =
        name_of-text (cut_word words).0 p.0.0 (ok_or-Ok (name_of (cut_word words).0) faults.BadName p.0.0 b.0) in
        subst (DeclaresMember members body (Some words)) q.0 (record {
          words = words;
          is = refl;
          os = d.words;
          said = d.said;
          once = d.once;
          declared = d.is;
          text = options-behind words (name_bytes p.0.0) (cut_word words).1 d.words refl name d.text;
          few = few;
          absent = q.1;
          in_head = q.2;
        })

-- the words of a base's line
record DeclaresBase (said : Option ℕ) (body : List Line) (rest : Option (List ℕ)) (n : ℕ) : Type 0 where
  pub words : List ℕ
  pub is : rest ≡ Some words
  pub text : decimal n ≡ words
  pub least : 1 ≤ n
  pub most : n ≤ greatest_base
  pub first : said ≡ None
  pub in_head : body ≡ []

head_end-Ok : (body : List Line) (rest : Option (List ℕ)) (u : Unit {0}) → head_end body rest ≡ Ok u
    → (body ≡ []) × (rest ≡ None)
head_end-Ok [] None u e = (refl, refl)
head_end-Ok [] (Some words) u e = absurd (err_is _ u e)
head_end-Ok (l ∷ body) rest u e = absurd (err_is _ u e)

base_end-Ok : (said : Option ℕ) (body : List Line) (rest : Option (List ℕ)) (u : Unit {0})
    → base_end said body rest ≡ Ok u → (said ≡ None) × (body ≡ []) × (rest ≡ None)
base_end-Ok (Some n) body rest u e = absurd (err_is _ u e)
base_end-Ok None body rest u e = let p = head_end-Ok body rest u e in (refl, p.0, p.1)

in_range : (n : ℕ) → (nat_le 1 n && nat_le n greatest_base) ≡ true → (1 ≤ n) × (n ≤ greatest_base)
in_range n e = (grind (arith, nat_tests), grind (arith, nat_tests))

ranged_base-Ok : (n k : ℕ) → ranged_base n ≡ Ok k → (n ≡ k) × (1 ≤ n) × (n ≤ greatest_base)
ranged_base-Ok n k e =
    let p = cond-Ok (nat_le 1 n && nat_le n greatest_base) (Ok n) faults.BadNumber k e in
    let r = in_range n p.0 in
    (ok_is n k p.1, r.0, r.1)

base_in-Ok : (word : List ℕ) (n : ℕ) → base_in word ≡ Ok n → (decimal n ≡ word) × (1 ≤ n) × (n ≤ greatest_base)
base_in-Ok word n e =
    let p = on_ok-Ok (number_in word) ranged_base n e in
    let r = ranged_base-Ok p.0 n p.2 in (
      sym (ap decimal r.0) ∙ sym (number-is word p.0 (number_in-Ok word p.0 p.1)),
      subst (λ (k : ℕ). 1 ≤ k) r.0 r.1,
      subst (λ (k : ℕ). k ≤ greatest_base) r.0 r.2,
    )

next_base-Ok : (said : Option ℕ) (body : List Line) (rest : Option (List ℕ)) (n : ℕ)
    → next_base said body rest ≡ Ok n → DeclaresBase said body rest n
next_base-Ok said body None n e = absurd (err_is _ n e)
next_base-Ok said body (Some words) n e =
    let p =
    on_ok-Ok (base_in (cut_word words).0) (λ k. on_ok (base_end said body (cut_word words).1) (λ _. Ok k)) n e in
    let q = on_ok-Ok (base_end said body (cut_word words).1) (λ _. Ok p.0) n p.2 in
    let last = base_end-Ok said body (cut_word words).1 q.0 q.1 in
    let b = base_in-Ok (cut_word words).0 n (p.1 ∙ q.2) in
    record {
      words = words;
      is = refl;
      text = b.0 ∙ cut_word-None words last.2;
      least = b.1;
      most = b.2;
      first = last.0;
      in_head = last.1;
    }

-- a line of a known first word, and of the words behind its blank
line-is : (line : List ℕ) (keyword : Keyword) (words : List ℕ) → keyword_of (cut_word line).0 ≡ Some keyword
    → (cut_word line).1 ≡ Some words → spelled keyword words ≡ line
line-is line keyword words k r =
    sym (cut_word-Some line words r ∙ ap (λ t. t ++ (32 ∷ words)) (keyword_of-is (cut_word line).0 keyword k))

body-Ok : (base : Option ℕ) (members : List Name) (body : List Line) (line : List ℕ) (keyword : Keyword) (a : Addition)
    → IsWholeLine line → keyword_of (cut_word line).0 ≡ Some keyword
    → on_ok (line_of_words members keyword (cut_word line).1) (λ l. Ok (additions.Body l)) ≡ Ok a
    → IsAddition base members body line a
body-Ok base members body line keyword a may k e =
    on_ok-made (IsAddition base members body line)
    (line_of_words members keyword (cut_word line).1) additions.Body a e (λ l is.
    let s = line_of_words-Ok members keyword (cut_word line).1 l is in
    let same : spelled keyword s.words ≡ line = line-is line keyword s.words k s.is in
    (subst (λ (t : List ℕ). SpellsLine members t l) same s.text, s.fits (subst IsWholeLine (sym same) may)))

member-Ok : (base : Option ℕ) (members : List Name) (body : List Line) (line : List ℕ) (a : Addition)
    → keyword_of (cut_word line).0 ≡ Some words.Member
    → on_ok (next_member members body (cut_word line).1) (λ member. Ok (additions.Member member.0 member.1)) ≡ Ok a
    → IsAddition base members body line a
member-Ok base members body line a k e =
    on_ok-made (IsAddition base members body line) (next_member members body (cut_word line).1)
    (λ (member : Name × MemberOptions). additions.Member member.0 member.1) a e (λ member is.
    let s = next_member-Ok members body (cut_word line).1 member is in (
      record {
        is = record { name = member.0; words = s.os; said = s.said; once = s.once };
        text = ap (spelled words.Member) s.text ∙ line-is line words.Member s.words k s.is;
        declares = ap (λ (o : MemberOptions). member_of_entry (member.0, o)) s.declared;
      },
      s.few,
      s.absent,
      s.in_head,
    ))

base-Ok : (base : Option ℕ) (members : List Name) (body : List Line) (line : List ℕ) (a : Addition)
    → keyword_of (cut_word line).0 ≡ Some words.Base
    → on_ok (next_base base body (cut_word line).1) (λ n. Ok (additions.Base n)) ≡ Ok a
    → IsAddition base members body line a
base-Ok base members body line a k e =
    on_ok-made (IsAddition base members body line) (next_base base body (cut_word line).1) additions.Base a e (λ n is.
    let s = next_base-Ok base body (cut_word line).1 n is in
    (ap (spelled words.Base) s.text ∙ line-is line words.Base s.words k s.is, s.least, s.most, s.first, s.in_head))

of-Ok : (base : Option ℕ) (members : List Name) (body : List Line) (line : List ℕ) (keyword : Keyword) (a : Addition)
    → IsWholeLine line → keyword_of (cut_word line).0 ≡ Some keyword
    → addition_of base members body keyword (cut_word line).1 ≡ Ok a → IsAddition base members body line a
of-Ok base members body line words.Cluster a may k e = absurd (err_is _ a e)
of-Ok base members body line words.Base a may k e = base-Ok base members body line a k e
of-Ok base members body line words.Member a may k e = member-Ok base members body line a k e
of-Ok base members body line keyword a may k e = body-Ok base members body line keyword a may k e

-- a base that is said is in its range
abbrev IsBaseIfSaid : Option ℕ → Type 0
IsBaseIfSaid None = Unit {0}
IsBaseIfSaid (Some n) = (1 ≤ n) × (n ≤ greatest_base)

-- what holds of the lines so far
record IsBegun (d : DraftText) : Type 0 where
  pub base : IsBaseIfSaid d.base
  pub few : length d.members ≤ MOST_MEMBERS
  pub different : AreDifferent (member_names d.members)
  pub body : AllAreLines (member_names d.members) d.body

-- the lines so far, which say a draft: those of its head, and those of its body
record SayDraft (d : DraftText) (ls : List (List ℕ)) : Type 0 where
  pub said : List HeadLine
  pub configs : configs_said said ≡ read_at_most_once d.config
  pub bases : bases_said said ≡ option_to_list d.base
  pub members : members_said said ≡ d.members
  pub body : List (List ℕ)
  pub spells : SpellBody (member_names d.members) body d.body
  pub lines : ls ≡ head_with d.cluster said ++ body

-- lines that say a draft, and what holds of it
record Adds (d : DraftText) (ls : List (List ℕ)) : Type 0 where
  pub says : SayDraft d ls
  pub begun : IsBegun d

AllAreLines-push : (members : List Name) (body : List Line) (line : Line) → AllAreLines members body
    → IsLine members line → AllAreLines members (body ++ line ∷ [])
AllAreLines-push members [] line h k = (k, tt)
AllAreLines-push members (l ∷ body) line h k = (h.0, AllAreLines-push members body line h.1 k)

-- one more text spells one more line
SpellBody-push : (members : List Name) (texts : List (List ℕ)) (body : List Line) (text : List ℕ) (line : Line)
    → SpellBody members texts body → SpellsLine members text line
    → SpellBody members (texts ++ text ∷ []) (body ++ line ∷ [])
SpellBody-push members [] [] text line h k = (k, tt)
SpellBody-push members [] (l ∷ body) text line h k = absurd h
SpellBody-push members (t ∷ texts) [] text line h k = absurd h
SpellBody-push members (t ∷ texts) (l ∷ body) text line h k = (h.0, SpellBody-push members texts body text line h.1 k)

-- no text spells no line
no-texts : (members : List Name) (texts : List (List ℕ)) → SpellBody members texts [] → texts ≡ []
no-texts members [] h = refl
no-texts members (t ∷ texts) h = absurd h

-- what a single line says
flat_map-one : {X A : Type 0} (f : X → List A) (x : X) → flat_map f (x ∷ []) ≡ f x
flat_map-one f x = append-nil (f x)

-- where one more line goes
push-line : {X : Type 0} (f : List X) (l : X) → (f ++ []) ++ l ∷ [] ≡ (f ++ l ∷ []) ++ []
push-line f l = simp (append_assoc, append-nil)

-- a head alone
start : Name → Option Settings → Option ℕ → List MemberText → DraftText
start cluster config base members =
    record { cluster = cluster; config = config; base = base; members = members; body = [] }

-- one more line of a head says what it says, behind what those before it say
head-line : (cluster : Name) (line : HeadLine) (config config' : Option Settings) (base base' : Option ℕ)
    (members members' : List MemberText) (ls : List (List ℕ))
    → read_at_most_once config ++ config_said line ≡ read_at_most_once config'
    → option_to_list base ++ base_said line ≡ option_to_list base' → members ++ member_said line ≡ members'
    → SayDraft (start cluster config base members) ls
    → SayDraft (start cluster config' base' members') (ls ++ head_line_text line ∷ [])
unfolding start
head-line cluster line config config' base base' members members' ls configs bases declared h = record {
  said = h.said ++ line ∷ [];
  configs = flat_map-append config_said h.said (line ∷ []) ∙ ap (λ t. t ++ flat_map config_said (line ∷ [])) h.configs
      ∙ ap (λ t. read_at_most_once config ++ t) (flat_map-one config_said line) ∙ configs;
  bases = flat_map-append base_said h.said (line ∷ []) ∙ ap (λ t. t ++ flat_map base_said (line ∷ [])) h.bases
      ∙ ap (λ t. option_to_list base ++ t) (flat_map-one base_said line) ∙ bases;
  members = flat_map-append member_said h.said (line ∷ []) ∙ ap (λ t. t ++ flat_map member_said (line ∷ [])) h.members
      ∙ ap (λ t. members ++ t) (flat_map-one member_said line) ∙ declared;
  body = [];
  spells = tt;
  lines = ap (λ t. t ++ head_line_text line ∷ [])
      (h.lines ∙ ap (λ t. head_with cluster h.said ++ t) (no-texts (member_names members) h.body h.spells))
      ∙ ap (λ t. cluster_text cluster ∷ t)
      (push-line (map head_line_text h.said) (head_line_text line)
      ∙ ap (λ t. t ++ []) (sym (map-append head_line_text h.said (line ∷ []))));
}

body-line : (d : DraftText) (l : Line) (line : List ℕ) (ls : List (List ℕ)) → SpellsLine (member_names d.members) line l
    → SayDraft d ls → SayDraft (record d { body = d.body ++ l ∷ [] }) (ls ++ line ∷ [])
body-line d l line ls is h = record {
  said = h.said;
  configs = h.configs;
  bases = h.bases;
  members = h.members;
  body = h.body ++ line ∷ [];
  spells = SpellBody-push (member_names d.members) h.body d.body line l h.spells is;
  lines = ap (λ t. t ++ line ∷ []) h.lines ∙ append_assoc (head_with d.cluster h.said) h.body (line ∷ []);
}

member-Adds : (cluster : Name) (line : MemberLine) (config : Option Settings) (base : Option ℕ)
    (members : List MemberText) (body : List Line) (ls : List (List ℕ)) → body ≡ []
    → length (member_names members) < MOST_MEMBERS → place_of (member_names members) line.name ≡ None
    → Adds (record { cluster = cluster; config = config; base = base; members = members; body = body }) ls
    → Adds (record {
      cluster = cluster;
      config = config;
      base = base;
      members = members ++ member_of_line line ∷ [];
      body = body;
    }) (ls ++ member_line_text line ∷ [])
unfolding start
member-Adds cluster line config base members [] ls is few absent h = record {
  says = head-line cluster (MembersLine line) config config base base members (members ++ member_of_line line ∷ []) ls
      (append-nil (read_at_most_once config)) (append-nil (option_to_list base)) refl h.says;
  begun = record {
    base = h.begun.base;
    few = omega
        (arith, length-append members (member_of_line line ∷ []), length-map members (λ (m : MemberText). m.name));
    different = subst AreDifferent (sym (map-append (λ (m : MemberText). m.name) members (member_of_line line ∷ [])))
        (AreDifferent-push (member_names members) line.name h.begun.different absent);
    body = tt;
  };
}
member-Adds cluster line config base members (l ∷ body) ls is few absent h = cc

base-Adds : (cluster : Name) (n : ℕ) (config : Option Settings) (base : Option ℕ) (members : List MemberText)
    (body : List Line) (ls : List (List ℕ)) → base ≡ None → body ≡ [] → 1 ≤ n → n ≤ greatest_base
    → Adds (record { cluster = cluster; config = config; base = base; members = members; body = body }) ls
    → Adds (record { cluster = cluster; config = config; base = Some n; members = members; body = body })
    (ls ++ base_text n ∷ [])
unfolding start
base-Adds cluster n config None members [] ls first is least most h = record {
  says = head-line cluster (BaseLine n) config config None (Some n) members members ls
      (append-nil (read_at_most_once config)) refl (append-nil members) h.says;
  begun = record { base = (least, most); few = h.begun.few; different = h.begun.different; body = tt };
}
base-Adds cluster n config None members (l ∷ body) ls first is least most h = cc
base-Adds cluster n config (Some k) members body ls first is least most h = absurd (none_is k (sym first))

addition-Adds : (d : DraftText) (ls : List (List ℕ)) (line : List ℕ) (a : Addition) → Adds d ls
    → IsAddition d.base (member_names d.members) d.body line a → Adds (with_addition d a) (ls ++ line ∷ [])
addition-Adds d ls line (additions.Member name declared) h is =
    let one = is.0.is in
    let same : one.name ≡ name = ap (λ (m : MemberText). m.name) is.0.declares in
    let absent : place_of (member_names d.members) one.name ≡ None =
    ap (place_of (member_names d.members)) same ∙ is.2 in
    subst (λ (l : List ℕ). Adds (with_addition d (additions.Member name declared)) (ls ++ l ∷ [])) is.0.text
    (subst (λ (m : MemberText). Adds (record {
      cluster = d.cluster;
      config = d.config;
      base = d.base;
      members = d.members ++ m ∷ [];
      body = d.body;
    }) (ls ++ member_line_text one ∷ [])) is.0.declares
    (member-Adds d.cluster one d.config d.base d.members d.body ls is.3 is.1 absent h))
addition-Adds d ls line (additions.Base n) h is =
    subst (λ (l : List ℕ). Adds (with_addition d (additions.Base n)) (ls ++ l ∷ [])) is.0
    (base-Adds d.cluster n d.config d.base d.members d.body ls is.3 is.4 is.1 is.2 h)
addition-Adds d ls line (additions.Body l) h is = record {
  says = body-line d l line ls is.0 h.says;
  begun = record {
    base = h.begun.base;
    few = h.begun.few;
    different = h.begun.different;
    body = AllAreLines-push (member_names d.members) d.body l h.begun.body is.1;
  };
}

-- a configuration that is said in front of the body, and nowhere before
record DeclaresConfig (said : Option Settings) (body : List Line) (rest : Option (List ℕ)) (config : Settings) : Type
    0 where
  pub bytes : List ℕ
  pub is : rest ≡ Some bytes
  pub read : config_read bytes ≡ Ok config
  pub first : said ≡ None
  pub in_head : body ≡ []

config_if_read-Ok : (r : Result Settings ConfigFault) (config : Settings) → config_if_read r ≡ Ok config → r ≡ Ok config
config_if_read-Ok (Ok x) config e = let same : x ≡ config = ok_is x config e in rw same refl
config_if_read-Ok (Err refusal) config e = absurd (err_is _ config e)

next_config-Ok : (said : Option Settings) (body : List Line) (rest : Option (List ℕ)) (config : Settings)
    → next_config said body rest ≡ Ok config → DeclaresConfig said body rest config
next_config-Ok (Some x) body rest config e = absurd (err_is _ config e)
next_config-Ok None (l ∷ body) rest config e = absurd (err_is _ config e)
next_config-Ok None [] None config e = absurd (err_is _ config e)
next_config-Ok None [] (Some bytes) config e = record {
  bytes = bytes;
  is = refl;
  read = config_if_read-Ok (config_read bytes) config e;
  first = refl;
  in_head = refl;
}

config-Adds : (cluster : Name) (bytes : List ℕ) (config : Option Settings) (read : Settings) (base : Option ℕ)
    (members : List MemberText) (body : List Line) (ls : List (List ℕ)) → config_read bytes ≡ Ok read
    → config ≡ None → body ≡ []
    → Adds (record { cluster = cluster; config = config; base = base; members = members; body = body }) ls
    → Adds (record { cluster = cluster; config = Some read; base = base; members = members; body = body })
    (ls ++ config_text bytes ∷ [])
unfolding start
config-Adds cluster bytes None read base members [] ls is first in_head h = record {
  says = head-line cluster (ConfigLine bytes) None (Some read) base base members members ls
      (ap (λ r. r ∷ []) is) (append-nil (option_to_list base)) (append-nil members) h.says;
  begun = record { base = h.begun.base; few = h.begun.few; different = h.begun.different; body = tt };
}
config-Adds cluster bytes None read base members (l ∷ body) ls is first in_head h = cc
config-Adds cluster bytes (Some x) read base members body ls is first in_head h = absurd (none_is x (sym first))

-- a line of a known first word
config-line-Adds : (d e : DraftText) (ls : List (List ℕ)) (line : List ℕ) → Adds d ls
    → keyword_of (cut_word line).0 ≡ Some words.Config → with_config d (cut_word line).1 ≡ Ok e
    → Adds e (ls ++ line ∷ [])
config-line-Adds d e ls line h k is =
    let p =
    on_ok-Ok (next_config d.config d.body (cut_word line).1) (λ config. Ok (record d { config = Some config })) e is in
    let s = next_config-Ok d.config d.body (cut_word line).1 p.0 p.1 in
    subst (λ (x : DraftText). Adds x (ls ++ line ∷ [])) (ok_is (record d { config = Some p.0 }) e p.2)
    (subst (λ (l : List ℕ). Adds (record d { config = Some p.0 }) (ls ++ l ∷ []))
    (line-is line words.Config s.bytes k s.is)
    (config-Adds d.cluster s.bytes d.config p.0 d.base d.members d.body ls s.read s.first s.in_head h))

known-Adds : (d e : DraftText) (ls : List (List ℕ)) (line : List ℕ) (o : Option Keyword) → IsWholeLine line → Adds d ls
    → keyword_of (cut_word line).0 ≡ o → with_other d o (cut_word line).1 ≡ Ok e → Adds e (ls ++ line ∷ [])
known-Adds d e ls line None may h k is = absurd (err_is _ e is)
known-Adds d e ls line (Some keyword) may h k is =
    let p = on_ok-Ok (addition_of d.base (member_names d.members) d.body keyword (cut_word line).1)
    (λ added. Ok (with_addition d added)) e is in
    subst (λ (x : DraftText). Adds x (ls ++ line ∷ [])) (ok_is (with_addition d p.0) e p.2)
    (addition-Adds d ls line p.0 h (of-Ok d.base (member_names d.members) d.body line keyword p.0 may k p.1))

config-is : (o : Option Keyword) → is_config o ≡ true → o ≡ Some words.Config
config-is (Some words.Config) e = refl
config-is _ e = cc

keyword-Adds : (d e : DraftText) (ls : List (List ℕ)) (line : List ℕ) (t : Bool)
    → is_config (keyword_of (cut_word line).0) ≡ t → IsWholeLine line → Adds d ls
    → cond t (with_config d (cut_word line).1) (with_other d (keyword_of (cut_word line).0) (cut_word line).1) ≡ Ok e
    → Adds e (ls ++ line ∷ [])
keyword-Adds d e ls line true k may h is =
    config-line-Adds d e ls line h (config-is (keyword_of (cut_word line).0) k) is
keyword-Adds d e ls line false k may h is = known-Adds d e ls line (keyword_of (cut_word line).0) may h refl is

line-Adds : (d e : DraftText) (ls : List (List ℕ)) (line : List ℕ) → IsWholeLine line → Adds d ls
    → with_line d line ≡ Ok e → Adds e (ls ++ line ∷ [])
line-Adds d e ls line may h is = keyword-Adds d e ls line (is_config (keyword_of (cut_word line).0)) refl may h is

-- the first line
alone-Ok : (name x : Name) (rest : Option (List ℕ)) → alone name rest ≡ Ok x → (name ≡ x) × (rest ≡ None)
alone-Ok name x None e = (ok_is name x e, refl)
alone-Ok name x (Some words) e = absurd (err_is _ x e)

cluster_named-Ok : (word : List ℕ) (o : Option Name) (rest : Option (List ℕ)) (x : Name) → name_of word ≡ o
    → cluster_named o rest ≡ Ok x → (name_bytes x ≡ word) × (rest ≡ None)
cluster_named-Ok word None rest x is e = absurd (err_is _ x e)
cluster_named-Ok word (Some name) rest x is e =
    let p = alone-Ok name x rest e in
    (ap name_bytes (sym p.0) ∙ name_of-text word name is, p.1)

cluster_in-Ok : (rest : Option (List ℕ)) (x : Name) → cluster_in rest ≡ Ok x → rest ≡ Some (name_bytes x)
cluster_in-Ok None x e = absurd (err_is _ x e)
cluster_in-Ok (Some words) x e =
    let p = cluster_named-Ok (cut_word words).0 (name_of (cut_word words).0) (cut_word words).1 x refl e in
    ap Some (sym (p.0 ∙ cut_word-None words p.1))

cluster_by_keyword-Ok : (line : List ℕ) (o : Option Keyword) (x : Name) → keyword_of (cut_word line).0 ≡ o
    → cluster_by_keyword o (cut_word line).1 ≡ Ok x → cluster_text x ≡ line
cluster_by_keyword-Ok line (Some words.Cluster) x k e =
    line-is line words.Cluster (name_bytes x) k (cluster_in-Ok (cut_word line).1 x e)
cluster_by_keyword-Ok line _ x k e = absurd (err_is _ x e)

first_line-Ok : (line : List ℕ) (x : Name) → first_line line ≡ Ok x → cluster_text x ≡ line
first_line-Ok line x e = cluster_by_keyword-Ok line (keyword_of (cut_word line).0) x refl e

nothing-AreDifferent : AreDifferent []
nothing-AreDifferent i j name p q = cc

first_draft-Adds : (name : Name) → Adds (first_draft name) (cluster_text name ∷ [])
first_draft-Adds name = record {
  says = record { said = []; configs = refl; bases = refl; members = refl; body = []; spells = tt; lines = refl };
  begun = record { base = tt; few = omega arith; different = nothing-AreDifferent; body = tt };
}

-- the lines so far, which say a draft or are none
abbrev AddsIfAny : Option DraftText → List (List ℕ) → Type 0
AddsIfAny None ls = ls ≡ []
AddsIfAny (Some d) ls = Adds d ls

counted-Adds : (o p : Option DraftText) (ls : List (List ℕ)) (line : List ℕ) → IsWholeLine line
    → AddsIfAny o ls → after_counted o line ≡ Ok p → AddsIfAny p (ls ++ line ∷ [])
counted-Adds None p ls line may h e =
    let q = on_ok-Ok (first_line line) (λ name. Ok (Some (first_draft name))) p e in
    let all : cluster_text q.0 ∷ [] ≡ ls ++ line ∷ [] = ap (λ t. t ∷ []) (first_line-Ok line q.0 q.1)
    ∙ ap (λ t. t ++ line ∷ []) (sym h) in
    subst (λ (x : Option DraftText). AddsIfAny x (ls ++ line ∷ [])) (ok_is (Some (first_draft q.0)) p q.2)
    (subst (Adds (first_draft q.0)) all (first_draft-Adds q.0))
counted-Adds (Some d) p ls line may h e =
    let q = on_ok-Ok (with_line d line) (λ t. Ok (Some t)) p e in
    subst (λ (x : Option DraftText). AddsIfAny x (ls ++ line ∷ [])) (ok_is (Some q.0) p q.2)
    (line-Adds d q.0 ls line may h q.1)

text-Adds : (o p : Option DraftText) (ls : List (List ℕ)) (line : List ℕ) (t : Bool) → IsWholeLine line
    → AddsIfAny o ls → cond t (Ok o) (after_counted o line) ≡ Ok p → AddsIfAny p (ls ++ cond t [] (line ∷ []))
text-Adds o p ls line true may h e =
    subst (λ (x : Option DraftText). AddsIfAny x (ls ++ [])) (ok_is o p e) (subst (AddsIfAny o) (sym (append-nil ls)) h)
text-Adds o p ls line false may h e = counted-Adds o p ls line may h e

short : (line : List ℕ) → nat_le (length line) longest_line ≡ true → length line ≤ longest_line
short line e = grind (arith, nat_tests)

line-read : (o p : Option DraftText) (ls : List (List ℕ)) (line : List ℕ) → is_one_line line ≡ true → AddsIfAny o ls
    → after_line o line ≡ Ok p → IsInForm line × AddsIfAny p (ls ++ cond (is_skipped line) [] (line ∷ []))
line-read o p ls line one h e =
    let a = cond-Ok (is_utf8 line)
    (cond (nat_le (length line) longest_line) (after_text o line) (Err faults.TooLong)) faults.NotUtf8 p e in
    let b = cond-Ok (nat_le (length line) longest_line) (after_text o line) faults.TooLong p a.1 in
    let form : IsInForm line = record { text = a.0; short = short line b.0 } in
    (form, text-Adds o p ls line (is_skipped line) (record { form = form; one_line = one }) h b.1)

counted : (t : Bool) (line : List ℕ) (rest : List (List ℕ)) → cond t [] (line ∷ []) ++ rest ≡ cond t rest (line ∷ rest)
counted true line rest = refl
counted false line rest = refl

-- lines that end at their line feeds
abbrev pub AreLines : List (List ℕ) → Type 0
AreLines [] = Unit {0}
AreLines (line ∷ lines) = (is_one_line line ≡ true) × AreLines lines

push-cut : (b : ℕ) (lines : List (List ℕ)) → is_in_line b ≡ true → AreLines lines → AreLines (push_byte b lines)
push-cut b [] other h = (and_from (is_in_line b) true other refl, tt)
push-cut b (line ∷ lines) other h = (and_from (is_in_line b) (is_one_line line) other h.0, h.1)

byte-cut : (b : ℕ) (bs : List ℕ) (t : Bool) → (b == 10) ≡ t → AreLines (lines_in bs)
    → AreLines (cond t ([] ∷ lines_in bs) (push_byte b (lines_in bs)))
byte-cut b bs true is h = (refl, h)
byte-cut b bs false is h = push-cut b (lines_in bs) (ap not is) h

pub lines-cut : (bytes : List ℕ) → AreLines (lines_in bytes)
lines-cut [] = tt
lines-cut (b ∷ bs) = byte-cut b bs (b == 10) refl (lines-cut bs)

lines-Adds : (number : ℕ) (o p : Option DraftText) (ls lines : List (List ℕ)) → AreLines lines → AddsIfAny o ls
    → after_lines number o lines ≡ Ok p → AllInForm lines × AddsIfAny p (ls ++ counted_lines lines)
lines-Adds number o p ls [] cut h e = (
  tt,
  subst (λ (x : Option DraftText). AddsIfAny x (ls ++ [])) (ok_is o p e) (subst (AddsIfAny o) (sym (append-nil ls)) h),
)
lines-Adds number o p ls (line ∷ rest) cut h e =
    let q = on_ok-Ok (at_line number (after_line o line)) (λ t. after_lines (number + 1) t rest) p e in
    let a = line-read o q.0 ls line cut.0 h (at_line-Ok number (after_line o line) q.0 q.1) in
    let b = lines-Adds (number + 1) q.0 p (ls ++ cond (is_skipped line) [] (line ∷ [])) rest cut.1 a.1 q.2 in
    let all : (ls ++ cond (is_skipped line) [] (line ∷ [])) ++ counted_lines rest
    ≡ ls ++ cond (is_skipped line) (counted_lines rest) (line ∷ counted_lines rest) =
    append_assoc ls (cond (is_skipped line) [] (line ∷ [])) (counted_lines rest)
    ∙ ap (λ t. ls ++ t) (counted (is_skipped line) line (counted_lines rest))
    in
    ((a.0, b.0), subst (AddsIfAny p) all b.1)

-- a whole script
with_some-Ok : (s t : ScriptText) (members : List MemberText) → with_some s members ≡ Ok t
    → (s ≡ t) × (0 < length members)
with_some-Ok s t [] e = absurd (err_is _ t e)
with_some-Ok s t (m ∷ members) e = (ok_is s t e, omega arith)

finished-Ok : (o : Option DraftText) (t : ScriptText) → finished o ≡ Ok t
    → (d : DraftText) × (o ≡ Some d) × (script_so_far d ≡ t) × (0 < length d.members)
finished-Ok None t e = absurd (err_is _ t e)
finished-Ok (Some d) t e =
    let p = with_some-Ok (script_so_far d) t d.members e in
    (d, refl, p.0, p.1)

-- lines that are a script
pub record AreScript (text : ScriptText) (all : List (List ℕ)) : Type 0 where
  pub script : IsScript text
  pub head : List (List ℕ)
  pub says : IsHeadLines text.head head
  pub body : List (List ℕ)
  pub spells : SpellBody (names_of text.head) body text.body
  pub counted : counted_lines all ≡ head ++ body

base-range : (said : Option ℕ) → IsBaseIfSaid said → (1 ≤ base_or_default said) × (base_or_default said ≤ greatest_base)
base-range None h = (omega arith, omega arith)
base-range (Some n) h = h

draft-AreScript : (d : DraftText) (all : List (List ℕ)) → Adds d (counted_lines all) → 0 < length d.members
    → AreScript (script_so_far d) all
draft-AreScript d all h some =
    let range = base-range d.base h.begun.base in
    record {
      script = record {
        head = record {
          base_least = range.0;
          base_most = range.1;
          some = some;
          few = h.begun.few;
          different = h.begun.different;
        };
        body = h.begun.body;
      };
      head = head_with d.cluster h.says.said;
      says = record {
        said = h.says.said;
        config = d.config;
        base = d.base;
        configs = h.says.configs;
        bases = h.says.bases;
        members = h.says.members;
        config_is = refl;
        base_is = refl;
        order = refl;
      };
      body = h.says.body;
      spells = h.says.spells;
      counted = h.says.lines;
    }

lines-form : (lines : List (List ℕ)) (o : Option DraftText) → AreLines lines → after_lines 1 None lines ≡ Ok o
    → AllInForm lines × AddsIfAny o (counted_lines lines)
lines-form lines o cut e = lines-Adds 1 None o [] lines cut refl e

pub lines-read : (lines : List (List ℕ)) (o : Option DraftText) (text : ScriptText) → AreLines lines
    → after_lines 1 None lines ≡ Ok o → finished o ≡ Ok text → AreScript text lines
lines-read lines o text cut e f =
    let p = lines-form lines o cut e in
    let q = finished-Ok o text f in
    let h : AddsIfAny (Some q.0) (counted_lines lines) =
    subst (λ (x : Option DraftText). AddsIfAny x (counted_lines lines)) q.1 p.1 in
    subst (λ (t : ScriptText). AreScript t lines) q.2 (draft-AreScript q.0 lines h q.3)

pub read-is-spelled : (bytes : List ℕ) (text : ScriptText) → script_of bytes ≡ Ok text
    → IsScript text × Spells bytes text
read-is-spelled bytes text e =
    let p =
    on_ok-Ok (after_lines 1 None (lines_in bytes)) (λ d. at_line (length (lines_in bytes) + 1) (finished d)) text e in
    let q = lines-read (lines_in bytes) p.0 text (lines-cut bytes) p.1
    (at_line-Ok (length (lines_in bytes) + 1) (finished p.0) text p.2) in (
      q.script,
      record {
        form = (lines-form (lines_in bytes) p.0 (lines-cut bytes) p.1).0;
        head = q.head;
        says = q.says;
        body = q.body;
        spells = q.spells;
        lines = q.counted;
      },
    )
