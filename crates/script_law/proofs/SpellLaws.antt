-- What is spelled as a script is read as it.
use Rattle.std.proofs.Common.{◌≡◌, ℕ, ◌+◌, ◌≤◌, ◌<◌, nat_le, Bool, true, false, cond, List, ◌∷◌, ◌++◌, length, map, slice_get, Option, Some, None, Result, Ok, Err, refl, ◌∙◌, ap, sym, subst, zero, suc, arith, append_assoc, append-nil, length-append, []}
use Rattle.std.specs.Option.{option_to_list}
use Rattle.std.proofs.lemmas.Bool.Decides.{nat_tests}
use Rattle.std.proofs.lemmas.List.{map-append, length-map}
use Rattle.std.proofs.lemmas.Option.{slice_get_within}
use Rattle.pat_base.proofs.Names.{name_of-name_bytes}
use Rattle.store_keys.specs.Settings.{Settings}
use Rattle.cluster_config.specs.ConfigReading.{config_read}
use Rattle.cluster_config.specs.declared.config_fault.ConfigFault.{ConfigFault}
use Rattle.script_words.specs.Numbers.{number}
use Rattle.script_words.specs.Lines.{lines_in, is_skipped, counted_lines}
use Rattle.script_model.specs.Bounds.{longest_line, greatest_base}
use Rattle.pat_base.specs.declared.member_id.TheConstants.{MOST_MEMBERS}
use Rattle.script_grammar.specs.Arguments.{apart}
use Rattle.script_grammar.specs.Draft.{DraftText, script_so_far}
use Rattle.script_words.specs.Faults.{on_ok}
use Rattle.script_model.specs.Script.{base_text, config_text, config_or_default, base_or_default, AreDifferent, MemberText, ScriptText, member_names, names_of, IsScript, AllAreLines, cluster_text, IsInForm}
use Rattle.script_model.specs.Spelling.{HeadLine, ConfigLine, BaseLine, MembersLine, head_line_text, configs_said, bases_said, members_said, read_at_most_once, head_with, IsHeadLines, member_of_line, AllInForm, SpellBody, Spells}
use Rattle.pat_base.specs.Name.{name_bytes, name_of}
use Rattle.pat_base.specs.declared.name.Name.{Name}
use Rattle.script_grammar.specs.Members.{place_of}
use Rattle.script_grammar.specs.Reading.{cluster_named, cluster_by_keyword, first_line, first_draft, after_counted, after_text, after_line, after_lines, at_line, with_some, finished, script_of}
use Rattle.script_grammar.specs.FirstWords.{keyword_of}
use Rattle.script_words.specs.declared.fault.Fault.TheVariants as faults
use Rattle.script_model.specs.declared.keyword.Keyword.TheVariants as words
use Rattle.script_model.specs.declared.line.Line.{Line}
use Rattle.script_model.specs.declared.line.Line.TheVariants as lines
use Rattle.script_grammar.proofs.NameLaws.{place_of-Some}
use Rattle.script_words.proofs.WordLaws.{cut_word-alone}
use Rattle.script_law.proofs.FirstWords.{cut_word-spelled, keyword_of-word_of}
use Rattle.script_law.proofs.SpelledLines.{first_at-name, line_text-again}
use Rattle.script_law.proofs.SpelledHeads.{base_line-again, config_line-again, few, member_line-again, start}

-- lines that are read one after the other
Chain : Option DraftText → List (List ℕ) → Option DraftText → Type 0
Chain o [] p = o ≡ p
Chain o (line ∷ lines) p = (m : Option DraftText) × (after_counted o line ≡ Ok m) × Chain m lines p

chain-append : (o m p : Option DraftText) (front back : List (List ℕ)) → Chain o front m → Chain m back p
    → Chain o (front ++ back) p
unfolding Chain
chain-append o m p [] back a b = subst (λ (x : Option DraftText). Chain x back p) (sym a) b
chain-append o m p (line ∷ front) back a b = (a.0, a.1, chain-append a.0 m p front back a.2 b)

slice_get-seam : {X : Type 0} (front : List X) (x : X) (back : List X)
    → slice_get (front ++ x ∷ back) (length front) ≡ Some x
slice_get-seam [] x back = refl
slice_get-seam (y ∷ front) x back = slice_get-seam front x back

slice_get-front : {X : Type 0} (front back : List X) (i : ℕ) (x : X) → slice_get front i ≡ Some x
    → slice_get (front ++ back) i ≡ Some x
slice_get-front [] back i x e = cc
slice_get-front (y ∷ front) back zero x e = e
slice_get-front (y ∷ front) back (suc i) x e = slice_get-front front back i x e

-- a name of different ones isn't among those before it
new_name : (front : List Name) (name : Name) (back : List Name) (o : Option ℕ)
    → AreDifferent (front ++ name ∷ back) → place_of front name ≡ o → o ≡ None
new_name front name back None h e = refl
new_name front name back (Some i) h e =
    let at : slice_get front i ≡ Some name = place_of-Some front name i e in
    let same : i ≡ length front =
    h i (length front) name (slice_get-front front (name ∷ back) i name at) (slice_get-seam front name back) in
    absurd (omega (arith, slice_get_within front i name at))

member_names-append : (front back : List MemberText)
    → member_names (front ++ back) ≡ member_names front ++ member_names back
member_names-append front back = map-append (λ (m : MemberText). m.name) front back

count-names : (members : List MemberText) → length (member_names members) ≡ length members
count-names members = length-map members (λ (m : MemberText). m.name)

-- what is said at most once, and is said already
one-again : {A : Type 0} (x y : Option A) → option_to_list x ++ [] ≡ option_to_list y → x ≡ y
one-again None None e = refl
one-again None (Some y) e = cc
one-again (Some x) None e = cc
one-again (Some x) (Some y) e = cc

configuration-again : (x y : Option Settings) → read_at_most_once x ++ [] ≡ read_at_most_once y → x ≡ y
configuration-again None None e = refl
configuration-again None (Some y) e = cc
configuration-again (Some x) None e = cc
configuration-again (Some x) (Some y) e = cc

-- a base is said by one line, and no other before or behind
record IsOnlyBase (before : Option ℕ) (n : ℕ) (behind : List ℕ) (base : Option ℕ) : Type 0 where
  pub first : before ≡ None
  pub is : Some n ≡ base
  pub last : behind ≡ []

only-base : (before : Option ℕ) (n : ℕ) (behind : List ℕ) (base : Option ℕ)
    → option_to_list before ++ n ∷ behind ≡ option_to_list base → IsOnlyBase before n behind base
only-base None n behind None e = cc
only-base None n behind (Some k) e = record { first = refl; is = cc; last = cc }
only-base (Some m) n behind None e = cc
only-base (Some m) n behind (Some k) e = cc

-- so is a configuration
record IsOnlyConfig (before : Option Settings) (r : Result Settings ConfigFault)
    (behind : List (Result Settings ConfigFault)) (config : Option Settings) : Type 0 where
  pub settings : Settings
  pub first : before ≡ None
  pub is : Some settings ≡ config
  pub read : r ≡ Ok settings
  pub last : behind ≡ []

only-config : (before : Option Settings) (r : Result Settings ConfigFault)
    (behind : List (Result Settings ConfigFault)) (config : Option Settings)
    → read_at_most_once before ++ r ∷ behind ≡ read_at_most_once config → IsOnlyConfig before r behind config
only-config None r behind None e = cc
only-config None r behind (Some settings) e =
    record { settings = settings; first = refl; is = refl; read = cc; last = cc }
only-config (Some x) r behind None e = cc
only-config (Some x) r behind (Some y) e = cc

-- what the lines of a head are to say in the end, behind those that are read
record IsLeft (config : Option Settings) (base : Option ℕ) (members : List MemberText) (back : List HeadLine)
    (all_config : Option Settings) (all_base : Option ℕ) : Type 0 where
  pub configs : read_at_most_once config ++ configs_said back ≡ read_at_most_once all_config
  pub bases : option_to_list base ++ bases_said back ≡ option_to_list all_base
  pub different : AreDifferent (member_names (members ++ members_said back))
  pub few : length (members ++ members_said back) ≤ MOST_MEMBERS

module _ (cluster : Name) (all_config : Option Settings) (all_base : Option ℕ)
    (least : 1 ≤ base_or_default all_base) (most : base_or_default all_base ≤ greatest_base) where
  said-again : (config : Option Settings) (base : Option ℕ) (members : List MemberText) (back : List HeadLine)
      → IsLeft config base members back all_config all_base
      → Chain (Some (start cluster config base members)) (map head_line_text back)
      (Some (start cluster all_config all_base (members ++ members_said back)))
  unfolding Chain start
  said-again config base members [] h =
      rw (configuration-again config all_config h.configs, one-again base all_base h.bases)
      (ap (λ m. Some (start cluster all_config all_base m)) (sym (append-nil members)))
  said-again config base members (ConfigLine bytes ∷ back) h =
      let only = only-config config (config_read bytes) (configs_said back) all_config h.configs in
      let left : IsLeft (Some only.settings) base members back all_config all_base = record {
        configs = ap (λ t. Ok only.settings ∷ t) only.last ∙ ap read_at_most_once only.is;
        bases = h.bases;
        different = h.different;
        few = h.few;
      } in (
        Some (start cluster (Some only.settings) base members),
        subst (λ (c : Option Settings). after_counted (Some (start cluster c base members)) (config_text bytes)
            ≡ Ok (Some (start cluster (Some only.settings) base members)))
            (sym only.first)
            (ap (λ r. on_ok r (λ t. Ok (Some t)))
            (config_line-again cluster bytes only.settings base members only.read)),
        said-again (Some only.settings) base members back left,
      )
  said-again config base members (BaseLine n ∷ back) h =
      let only = only-base base n (bases_said back) all_base h.bases in
      let left : IsLeft config (Some n) members back all_config all_base = record {
        configs = h.configs;
        bases = ap (λ t. n ∷ t) only.last ∙ ap option_to_list only.is;
        different = h.different;
        few = h.few;
      } in
      let is : n ≡ base_or_default all_base = ap base_or_default only.is in (
        Some (start cluster config (Some n) members),
        subst (λ (b : Option ℕ). after_counted (Some (start cluster config b members)) (base_text n)
            ≡ Ok (Some (start cluster config (Some n) members)))
            (sym only.first)
            (ap (λ r. on_ok r (λ t. Ok (Some t)))
            (base_line-again cluster n config members (rw is least) (rw is most))),
        said-again config (Some n) members back left,
      )
  said-again config base members (MembersLine line ∷ back) h =
      let next : (members ++ member_of_line line ∷ []) ++ members_said back
      ≡ members ++ member_of_line line ∷ members_said back =
      append_assoc members (member_of_line line ∷ []) (members_said back) in
      let fits : length (member_names members) < MOST_MEMBERS =
      omega (arith, h.few, length-append members (member_of_line line ∷ members_said back), count-names members) in
      let apart : AreDifferent (member_names members ++ line.name ∷ member_names (members_said back)) =
      subst AreDifferent (member_names-append members (member_of_line line ∷ members_said back)) h.different in
      let left : IsLeft config base (members ++ member_of_line line ∷ []) back all_config all_base = record {
        configs = h.configs;
        bases = h.bases;
        different = rw next h.different;
        few = rw next h.few;
      } in (
        Some (start cluster config base (members ++ member_of_line line ∷ [])),
        ap (λ r. on_ok r (λ t. Ok (Some t)))
            (member_line-again cluster line config base members fits
            (new_name (member_names members) line.name (member_names (members_said back))
            (place_of (member_names members) line.name) apart refl)),
        subst (λ (m : List MemberText). Chain (Some (start cluster config base (members ++ member_of_line line ∷ [])))
            (map head_line_text back) (Some (start cluster all_config all_base m)))
            next
            (said-again config base (members ++ member_of_line line ∷ []) back left),
      )

body-again : (d : DraftText) (front back : List Line) (texts : List (List ℕ))
    → 0 < length (member_names d.members) → AreDifferent (member_names d.members)
    → AllAreLines (member_names d.members) back → SpellBody (member_names d.members) texts back
    → Chain (Some (record d { body = front })) texts (Some (record d { body = front ++ back }))
unfolding Chain
body-again d front [] [] some h is spell = ap (λ (b : List Line). Some (record d { body = b })) (sym (append-nil front))
body-again d front [] (text ∷ texts) some h is spell = absurd spell
body-again d front (line ∷ back) [] some h is spell = absurd spell
body-again d front (line ∷ back) (text ∷ texts) some h is spell = (
  Some (record d { body = front ++ line ∷ [] }),
  ap (λ r. on_ok r (λ t. Ok (Some t))) (line_text-again (record d { body = front }) text line some h is.0 spell.0),
  subst (λ (b : List Line). Chain (Some (record d { body = front ++ line ∷ [] })) texts (Some (record d { body = b })))
      (append_assoc front (line ∷ []) back)
      (body-again d (front ++ line ∷ []) back texts some h is.1 spell.1),
)

first-again : (cluster : Name) → first_line (cluster_text cluster) ≡ Ok cluster
first-again cluster =
    ap (λ p. cluster_by_keyword (keyword_of p.0) p.1) (cut_word-spelled words.Cluster (name_bytes cluster))
    ∙ ap (λ k. cluster_by_keyword k (Some (name_bytes cluster))) (keyword_of-word_of words.Cluster)
    ∙ ap (λ p. cluster_named (name_of p.0) p.1) (cut_word-alone (name_bytes cluster) (first_at-name cluster))
    ∙ ap (λ o. cluster_named o None) (name_of-name_bytes cluster)

-- what the lines of a script say, where they say this configuration and this base
draft : ScriptText → Option Settings → Option ℕ → DraftText
draft s config base =
    record { cluster = s.head.cluster; config = config; base = base; members = s.head.members; body = s.body }

head-again : (s : ScriptText) (head : List (List ℕ)) (says : IsHeadLines s.head head) → IsScript s
    → Chain None (head_with s.head.cluster says.said)
    (Some (start s.head.cluster says.config says.base (members_said says.said)))
unfolding Chain start
head-again s head says h =
    let left : IsLeft None None [] says.said says.config says.base = record {
      configs = says.configs;
      bases = says.bases;
      different = rw says.members h.head.different;
      few = rw says.members h.head.few;
    } in (
      Some (start s.head.cluster None None []),
      ap (λ r. on_ok r (λ name. Ok (Some (first_draft name)))) (first-again s.head.cluster),
      said-again s.head.cluster says.config says.base (rw says.base_is h.head.base_least)
          (rw says.base_is h.head.base_most) None None [] says.said left,
    )

all-again : (s : ScriptText) (head : List (List ℕ)) (says : IsHeadLines s.head head) (body : List (List ℕ))
    → SpellBody (names_of s.head) body s.body → IsScript s
    → Chain None (head ++ body) (Some (draft s says.config says.base))
unfolding start draft
all-again s head says body spell h =
    chain-append None (Some (start s.head.cluster says.config says.base s.head.members))
    (Some (draft s says.config says.base)) head body
    (subst (λ (ls : List (List ℕ)). Chain None ls (Some (start s.head.cluster says.config says.base s.head.members)))
    (sym says.order)
    (subst (λ (m : List MemberText).
    Chain None (head_with s.head.cluster says.said) (Some (start s.head.cluster says.config says.base m)))
    says.members (head-again s head says h)))
    (body-again (draft s says.config says.base) [] s.body body
    (omega (arith, h.head.some, count-names s.head.members)) h.head.different h.body spell)

-- lines among empty lines and comments
short-true : (line : List ℕ) → length line ≤ longest_line → nat_le (length line) longest_line ≡ true
short-true line h = grind (arith, nat_tests)

in-form : (o : Option DraftText) (line : List ℕ) → IsInForm line → after_line o line ≡ after_text o line
in-form o line h =
    ap (λ t.
    cond t (cond (nat_le (length line) longest_line) (after_text o line) (Err faults.TooLong)) (Err faults.NotUtf8))
    h.text
    ∙ ap (λ t. cond t (after_text o line) (Err faults.TooLong)) (short-true line h.short)

lines-step : (number : ℕ) (o p : Option DraftText) (line : List ℕ) (rest : List (List ℕ)) (t : Bool)
    → is_skipped line ≡ t → IsInForm line
    → ((m : Option DraftText) → Chain m (counted_lines rest) p → after_lines (number + 1) m rest ≡ Ok p)
    → Chain o (cond t (counted_lines rest) (line ∷ counted_lines rest)) p → after_lines number o (line ∷ rest) ≡ Ok p
unfolding Chain
lines-step number o p line rest true is form step chain =
    ap (λ r. on_ok (at_line number r) (λ t. after_lines (number + 1) t rest))
    (in-form o line form ∙ ap (λ t. cond t (Ok o) (after_counted o line)) is)
    ∙ step o chain
lines-step number o p line rest false is form step chain =
    ap (λ r. on_ok (at_line number r) (λ t. after_lines (number + 1) t rest))
    (in-form o line form ∙ ap (λ t. cond t (Ok o) (after_counted o line)) is ∙ chain.1)
    ∙ step chain.0 chain.2

lines-again : (number : ℕ) (o p : Option DraftText) (lines : List (List ℕ)) → AllInForm lines
    → Chain o (counted_lines lines) p → after_lines number o lines ≡ Ok p
unfolding Chain
lines-again number o p [] form chain = ap Ok chain
lines-again number o p (line ∷ rest) form chain =
    lines-step number o p line rest (is_skipped line) refl form.0
    (λ m c. lines-again (number + 1) m p rest form.1 c) chain

with_some-again : (s : ScriptText) (members : List MemberText) → 0 < length members → with_some s members ≡ Ok s
with_some-again s [] h = absurd (omega arith)
with_some-again s (m ∷ members) h = refl

finished-again : (s : ScriptText) (config : Option Settings) (base : Option ℕ) → 0 < length s.head.members
    → config_or_default config ≡ s.head.config → base_or_default base ≡ s.head.base
    → finished (Some (draft s config base)) ≡ Ok s
unfolding draft
finished-again s config base some config_is base_is =
    with_some-again (script_so_far (draft s config base)) s.head.members some
    ∙ ap (λ (c : Settings). Ok (record {
      head = record { cluster = s.head.cluster; config = c; base = base_or_default base; members = s.head.members };
      body = s.body;
    })) config_is
    ∙ ap (λ b. Ok (record {
      head = record { cluster = s.head.cluster; config = s.head.config; base = b; members = s.head.members };
      body = s.body;
    })) base_is

pub spelled-is-read : (bytes : List ℕ) (text : ScriptText) → IsScript text → Spells bytes text
    → script_of bytes ≡ Ok text
spelled-is-read bytes text h spells =
    let d : Option DraftText = Some (draft text spells.says.config spells.says.base) in
    ap (λ r. on_ok r (λ d. at_line (length (lines_in bytes) + 1) (finished d)))
    (lines-again 1 None d (lines_in bytes) spells.form
    (subst (λ (ls : List (List ℕ)). Chain None ls d) (sym spells.lines)
    (all-again text spells.head spells.says spells.body spells.spells h)))
    ∙ ap (at_line (length (lines_in bytes) + 1))
    (finished-again text spells.says.config spells.says.base h.head.some spells.says.config_is spells.says.base_is)
