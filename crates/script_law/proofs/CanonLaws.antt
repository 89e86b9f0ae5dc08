-- The lines of a script and nothing else spell it.
use Rattle.std.proofs.Common.{◌≡◌, ℕ, ◌+◌, ◌*◌, ◌^◌, ◌≤◌, ◌<◌, ◌==◌, Bool, true, false, cond, List, [], ◌∷◌, ◌++◌, length, map, slice_get, codes, Option, Some, None, Result, Ok, append-nil, refl, ◌∙◌, ap, sym, subst, arith}
use Rattle.std.specs.Fmt.{decimal}
use Rattle.std.specs.List.{list_all}
use Rattle.std.specs.Str.{is_utf8, bytes_eq}
use Rattle.std.specs.Option.{option_to_list}
use Rattle.std.proofs.lemmas.Bool.{eqb-true}
use Rattle.std.proofs.lemmas.List.Folds.{list_all-append}
use Rattle.std.proofs.lemmas.Grind.{flat_map-append}
use Rattle.std.proofs.lemmas.List.{map-append}
use Rattle.std.proofs.lemmas.Slice.Eq.{bytes_eq-Decides}
use Rattle.std.proofs.lemmas.Str.{IsUtf8-append, IsUtf8-from_is_utf8, is_utf8-from_IsUtf8}
use Rattle.pat_base.specs.Name.{name_bytes}
use Rattle.pat_base.specs.declared.name.Name.{Name}
use Rattle.pat_base.specs.declared.member_id.MemberId.{MemberId}
use Rattle.store_keys.specs.Defaults.{default_settings}
use Rattle.store_keys.specs.Settings.{Settings}
use Rattle.cluster_config.specs.ConfigReading.{config_read, IsConfiguration}
use Rattle.cluster_config.specs.declared.config_fault.ConfigFault.{ConfigFault}
use Rattle.cluster_config.proofs.LineLaws.{config_read-line, config_read-utf8, config_read-empty}
use Rattle.script_words.specs.Lines.{ended, lines_in, is_skipped, counted_lines, is_in_line}
use Rattle.member_options.specs.Options.{option_text, behind_blanks, options_to_say}
use Rattle.script_grammar.specs.Reading.{script_of}
use Rattle.script_model.specs.Bounds.{longest_line}
use Rattle.script_model.specs.Script.{MemberText, HeadText, ScriptText, names_of, cluster_text, shortest_line, IsScript, IsCommand, IsLine, AllAreLines, member_text, end_word, switch_text, slowed_call_text, two_texts, command_text, line_text, config_text, config_or_default, default_base, base_or_default, base_lines, base_to_say, config_lines, config_to_say, head_lines, body_lines, script_lines, spelling_of, IsShort, request_text, rest_text, IsRequest}
use Rattle.script_model.specs.Spelling.{MemberLine, HeadLine, ConfigLine, BaseLine, MembersLine, head_line_text, config_said, base_said, member_said, configs_said, bases_said, members_said, read_at_most_once, IsHeadLines, AllInForm, OwnText, SpellBody, Spells}
use Rattle.script_model.specs.Keywords.{spelled, word_of}
use Rattle.script_model.specs.declared.keyword.Keyword.{Keyword}
use Rattle.script_model.specs.declared.keyword.Keyword.TheVariants as words
use Rattle.script_model.specs.declared.line.End.{End}
use Rattle.script_model.specs.declared.line.End.TheVariants as ends
use Rattle.script_model.specs.declared.line.Command.{Command}
use Rattle.script_model.specs.declared.line.Command.TheVariants as commands
use Rattle.script_model.specs.declared.line.Line.{Line}
use Rattle.script_model.specs.declared.line.Line.TheVariants as lines
use Rattle.script_model.specs.declared.line.SlowedCall.{SlowedCall}
use Rattle.script_model.specs.declared.line.SlowedCall.TheVariants as slowed_calls
use Rattle.member_options.specs.declared.member_option.MemberOption.{MemberOption}
use Rattle.script_model.specs.declared.request_words.RequestWords.{RequestWords}
use Rattle.member_options.proofs.OptionCanonLaws.{few-options, options-enough}
use Rattle.member_options.proofs.OptionTexts.{options-IsPlain}
use Rattle.script_words.proofs.Cutting.{line-again}
use Rattle.script_words.proofs.PlainTexts.{IsPlain, IsPlain-append, IsPlain-most, blank-IsPlain, name-IsPlain, decimal-IsPlain, plain-is_utf8, no-feeds}
use Rattle.script_grammar.proofs.FirstWordLaws.{longest_word, some_name-IsPlain, word-IsPlain}
use Rattle.script_law.proofs.SpelledLines.{size-fits, delay-fits}
use Rattle.script_law.proofs.SpelledHeads.{base-fits}
use Rattle.script_law.proofs.SpellLaws.{spelled-is-read}
use Rattle.script_law.proofs.FirstWords.{spelled-counts}

-- a line that a script has
record IsLineText (line : List ℕ) : Type 0 where
  pub text : is_utf8 line ≡ true
  pub alone : list_all is_in_line line ≡ true
  pub short : length line ≤ longest_line
  pub counts : is_skipped line ≡ false

end-IsPlain : (members : List Name) (x : End) → IsPlain (end_word members x) 32
end-IsPlain members ends.Store = record { plain = refl; short = omega arith }
end-IsPlain members (ends.Member m) = some_name-IsPlain (slice_get members m.number)

spelled-IsLineText : (keyword : Keyword) (rest : List ℕ) → IsPlain rest 500 → IsLineText (spelled keyword rest)
spelled-IsLineText keyword rest h =
    let p : IsPlain (spelled keyword rest) (longest_word + (500 + 1)) = IsPlain-append (word_of keyword)
    (32 ∷ rest) longest_word (500 + 1) (word-IsPlain keyword) (blank-IsPlain rest 500 h) in
    record {
      text = plain-is_utf8 (spelled keyword rest) p.plain;
      alone = no-feeds (spelled keyword rest) p.plain;
      short = omega (arith, p.short);
      counts = spelled-counts keyword rest;
    }

-- the line of a configuration, whose text is as it was written
config-IsLineText : (config : Settings) → IsConfiguration config → IsShort (config_text config.text)
    → IsLineText (config_text config.text)
config-IsLineText config is short = record {
  text = is_utf8-from_IsUtf8 (config_text config.text)
      (IsUtf8-append (codes "config ") config.text
      (IsUtf8-from_is_utf8 (codes "config ") (plain-is_utf8 (codes "config ") refl))
      (IsUtf8-from_is_utf8 config.text (config_read-utf8 config.text config is.reads_back)));
  alone = list_all-append is_in_line (codes "config ") config.text ∙ config_read-line config.text config is.reads_back;
  short = short;
  counts = spelled-counts words.Config config.text;
}

link-IsPlain : (members : List Name) (x y : End) → IsPlain (two_texts (end_word members x) (end_word members y)) 500
link-IsPlain members x y =
    IsPlain-most (two_texts (end_word members x) (end_word members y)) (32 + (32 + 1)) 500 (omega arith)
    (IsPlain-append (end_word members x) (32 ∷ end_word members y) 32 (32 + 1) (end-IsPlain members x)
    (blank-IsPlain (end_word members y) 32 (end-IsPlain members y)))

switch-IsPlain : (on : Bool) → IsPlain (switch_text on) 500
switch-IsPlain true = record { plain = refl; short = omega arith }
switch-IsPlain false = record { plain = refl; short = omega arith }

number-IsPlain : (n : ℕ) → n < 2 ^ 64 → IsPlain (decimal n) 500
number-IsPlain n fits = IsPlain-most (decimal n) 20 500 (omega arith) (decimal-IsPlain n fits)

member-IsPlain : (members : List Name) (m : MemberId) → IsPlain (member_text members m) 500
member-IsPlain members m =
    IsPlain-most (member_text members m) 32 500 (omega arith) (some_name-IsPlain (slice_get members m.number))

slowed-IsPlain : (slowed : SlowedCall) → IsPlain (slowed_call_text slowed) 5
slowed-IsPlain slowed_calls.Stop = record { plain = refl; short = omega arith }
slowed-IsPlain slowed_calls.Start = record { plain = refl; short = omega arith }

-- a member's name and a number
member_number-IsPlain : (members : List Name) (m : MemberId) (n : ℕ) → n < 2 ^ 64
    → IsPlain (two_texts (member_text members m) (decimal n)) 500
member_number-IsPlain members m n fits =
    IsPlain-most (two_texts (member_text members m) (decimal n)) (32 + (20 + 1)) 500 (omega arith)
    (IsPlain-append (member_text members m) (32 ∷ decimal n) 32 (20 + 1)
    (some_name-IsPlain (slice_get members m.number)) (blank-IsPlain (decimal n) 20 (decimal-IsPlain n fits)))

-- a member's name, what is delayed and a number
delay-IsPlain : (members : List Name) (m : MemberId) (slowed : SlowedCall) (n : ℕ) → n < 2 ^ 64
    → IsPlain (two_texts (member_text members m) (two_texts (slowed_call_text slowed) (decimal n))) 500
delay-IsPlain members m slowed n fits =
    let behind : IsPlain (two_texts (slowed_call_text slowed) (decimal n)) (5 + (20 + 1)) =
    IsPlain-append (slowed_call_text slowed) (32 ∷ decimal n) 5 (20 + 1) (slowed-IsPlain slowed)
    (blank-IsPlain (decimal n) 20 (decimal-IsPlain n fits))
    in
    IsPlain-most (two_texts (member_text members m) (two_texts (slowed_call_text slowed) (decimal n)))
    (32 + ((5 + (20 + 1)) + 1)) 500 (omega arith)
    (IsPlain-append (member_text members m) (32 ∷ two_texts (slowed_call_text slowed) (decimal n)) 32
    ((5 + (20 + 1)) + 1) (some_name-IsPlain (slice_get members m.number))
    (blank-IsPlain (two_texts (slowed_call_text slowed) (decimal n)) (5 + (20 + 1)) behind))

-- the line of a request
request-IsLineText : (members : List Name) (m : MemberId) (request : RequestWords)
    → IsRequest members m request → IsLineText (rest_text members m request)
request-IsLineText members m request is = record {
  text = is.line.form.text;
  alone = is.line.one_line;
  short = is.line.form.short;
  counts = spelled-counts words.Rest (two_texts (member_text members m) (request_text request));
}

command-IsLineText : (members : List Name) (c : Command) → IsCommand members c → IsLineText (command_text members c)
command-IsLineText members (commands.Turn m) is =
    spelled-IsLineText words.Turn (member_text members m) (member-IsPlain members m)
command-IsLineText members (commands.Deliver n) is = spelled-IsLineText words.Deliver (decimal n) (number-IsPlain n is)
command-IsLineText members (commands.Lose n) is = spelled-IsLineText words.Lose (decimal n) (number-IsPlain n is)
command-IsLineText members (commands.Suspend m) is =
    spelled-IsLineText words.Hold (member_text members m) (member-IsPlain members m)
command-IsLineText members (commands.Resume m) is =
    spelled-IsLineText words.Resume (member_text members m) (member-IsPlain members m)
command-IsLineText members (commands.Kill m) is =
    spelled-IsLineText words.Kill (member_text members m) (member-IsPlain members m)
command-IsLineText members (commands.StartAgent m) is =
    spelled-IsLineText words.Restart (member_text members m) (member-IsPlain members m)
command-IsLineText members (commands.Promote m) is =
    spelled-IsLineText words.Promote (member_text members m) (member-IsPlain members m)
command-IsLineText members (commands.Crash m) is =
    spelled-IsLineText words.Crash (member_text members m) (member-IsPlain members m)
command-IsLineText members (commands.Commit m size) is =
    spelled-IsLineText words.Commit (two_texts (member_text members m) (decimal size.bytes))
    (member_number-IsPlain members m size.bytes (size-fits size))
command-IsLineText members (commands.Stream m n) is = spelled-IsLineText words.Stream
    (two_texts (member_text members m) (decimal n)) (member_number-IsPlain members m n is.1)
command-IsLineText members (commands.Freeze m) is =
    spelled-IsLineText words.Freeze (member_text members m) (member-IsPlain members m)
command-IsLineText members (commands.Thaw m) is =
    spelled-IsLineText words.Thaw (member_text members m) (member-IsPlain members m)
command-IsLineText members (commands.Slow m slowed delay) is = spelled-IsLineText words.Slow
    (two_texts (member_text members m) (two_texts (slowed_call_text slowed) (decimal delay.ticks)))
    (delay-IsPlain members m slowed delay.ticks (delay-fits delay))
command-IsLineText members (commands.Cut x y) is =
    spelled-IsLineText words.Cut (two_texts (end_word members x) (end_word members y)) (link-IsPlain members x y)
command-IsLineText members (commands.Join x y) is =
    spelled-IsLineText words.Join (two_texts (end_word members x) (end_word members y)) (link-IsPlain members x y)
command-IsLineText members (commands.Rest m request) is = request-IsLineText members m request is
command-IsLineText members (commands.Ctl said) is = record {
  text = is.line.form.text;
  alone = is.line.one_line;
  short = is.line.form.short;
  counts = spelled-counts words.Ctl said;
}
command-IsLineText members (commands.Trace on) is = spelled-IsLineText words.Trace (switch_text on) (switch-IsPlain on)

line-IsLineText : (members : List Name) (line : Line) → IsLine members line → IsLineText (line_text members line)
line-IsLineText members (lines.Run n) is = spelled-IsLineText words.Run (decimal n) (number-IsPlain n is)
line-IsLineText members (lines.Tick n) is = spelled-IsLineText words.Tick (decimal n) (number-IsPlain n is)
line-IsLineText members (lines.Command c) is = command-IsLineText members c is

name-line : (keyword : Keyword) (name : Name) → IsLineText (spelled keyword (name_bytes name))
name-line keyword name = spelled-IsLineText keyword (name_bytes name)
    (IsPlain-most (name_bytes name) 32 500 (omega arith) (name-IsPlain name))

-- the line of a member with its options
member-line : (m : MemberText) → IsLineText (shortest_line m)
member-line m =
    let os : List MemberOption = options_to_say m.options in
    spelled-IsLineText words.Member (name_bytes m.name ++ behind_blanks (map option_text os))
    (IsPlain-most (name_bytes m.name ++ behind_blanks (map option_text os)) (32 + length os * 46) 500
    (omega (arith, few-options m.options))
    (IsPlain-append (name_bytes m.name) (behind_blanks (map option_text os)) 32 (length os * 46)
    (name-IsPlain m.name) (options-IsPlain os)))

-- a member's line with the options that have to be said
canonical_line : MemberText → MemberLine
canonical_line m =
    let enough = options-enough m.options in
    record { name = m.name; words = options_to_say m.options; said = enough.said; once = enough.once }

canonical_lines : List MemberText → List HeadLine
canonical_lines members = map (λ m. MembersLine (canonical_line m)) members

canonical-texts : (members : List MemberText) → map head_line_text (canonical_lines members) ≡ map shortest_line members
unfolding canonical_line canonical_lines
canonical-texts [] = refl
canonical-texts (m ∷ members) = ap (λ t. shortest_line m ∷ t) (canonical-texts members)

canonical-members : (members : List MemberText) → members_said (canonical_lines members) ≡ members
unfolding canonical_line canonical_lines
canonical-members [] = refl
canonical-members (m ∷ members) =
    λ i. record { name = m.name; options = (options-enough m.options).is i } ∷ canonical-members members i

no-bases : (members : List MemberText) → bases_said (canonical_lines members) ≡ []
unfolding canonical_lines
no-bases [] = refl
no-bases (m ∷ members) = no-bases members

no-configs : (members : List MemberText) → configs_said (canonical_lines members) ≡ []
unfolding canonical_lines
no-configs [] = refl
no-configs (m ∷ members) = no-configs members

abbrev AllLineTexts : List (List ℕ) → Type 0
AllLineTexts [] = Unit {0}
AllLineTexts (line ∷ rest) = IsLineText line × AllLineTexts rest

AllLineTexts-append : (xs ys : List (List ℕ)) → AllLineTexts xs → AllLineTexts ys → AllLineTexts (xs ++ ys)
AllLineTexts-append [] ys h k = k
AllLineTexts-append (x ∷ xs) ys h k = (h.0, AllLineTexts-append xs ys h.1 k)

members-AllLineTexts : (members : List MemberText) → AllLineTexts (map shortest_line members)
members-AllLineTexts [] = tt
members-AllLineTexts (m ∷ members) = (member-line m, members-AllLineTexts members)

base-AllLineTexts : (said : Option ℕ) → base_or_default said < 2 ^ 64 → AllLineTexts (base_lines said)
base-AllLineTexts None fits = tt
base-AllLineTexts (Some n) fits = (spelled-IsLineText words.Base (decimal n) (number-IsPlain n fits), tt)

-- what is to be said of a base says it
base-to-say : (base : ℕ) (t : Bool) → (base == default_base) ≡ t → base_or_default (cond t None (Some base)) ≡ base
base-to-say base true is = sym (eqb-true base default_base is)
base-to-say base false is = refl

base-is-said : (base : ℕ) → base_or_default (base_to_say base) ≡ base
base-is-said base = base-to-say base (base == default_base) refl

body-AllLineTexts : (members : List Name) (body : List Line) → AllAreLines members body
    → AllLineTexts (body_lines members body)
body-AllLineTexts members [] is = tt
body-AllLineTexts members (line ∷ body) is = (line-IsLineText members line is.0, body-AllLineTexts members body is.1)

-- each line's own text spells it
own-SpellBody : (members : List Name) (body : List Line) → SpellBody members (body_lines members body) body
own-SpellBody members [] = tt
own-SpellBody members (line ∷ body) = (OwnText refl, own-SpellBody members body)

-- the line of a configuration, where it has to be said
config-AllLineTexts : (config : Settings) (t : Bool) → IsConfiguration config
    → IsShort (config_text config.text) → AllLineTexts (config_lines (cond t None (Some config.text)))
config-AllLineTexts config true is short = tt
config-AllLineTexts config false is short = (config-IsLineText config is short, tt)

script-AllLineTexts : (s : ScriptText) → IsScript s → IsConfiguration s.head.config
    → IsShort (config_text s.head.config.text) → AllLineTexts (script_lines s)
script-AllLineTexts s h is short =
    let fits : base_or_default (base_to_say s.head.base) < 2 ^ 64 =
    subst (λ (n : ℕ). n < 2 ^ 64) (sym (base-is-said s.head.base)) (base-fits s.head.base h.head.base_most) in (
      name-line words.Cluster s.head.cluster,
      AllLineTexts-append (config_lines (config_to_say s.head.config)
          ++ (base_lines (base_to_say s.head.base) ++ map shortest_line s.head.members))
          (body_lines (names_of s.head) s.body)
          (AllLineTexts-append (config_lines (config_to_say s.head.config))
          (base_lines (base_to_say s.head.base) ++ map shortest_line s.head.members)
          (config-AllLineTexts s.head.config (bytes_eq s.head.config.text default_settings.text) is short)
          (AllLineTexts-append (base_lines (base_to_say s.head.base)) (map shortest_line s.head.members)
          (base-AllLineTexts (base_to_say s.head.base) fits) (members-AllLineTexts s.head.members)))
          (body-AllLineTexts (names_of s.head) s.body h.body),
    )

-- such lines are cut again
lines-again : (lines : List (List ℕ)) → AllLineTexts lines → lines_in (ended lines) ≡ lines
lines-again [] h = refl
lines-again (line ∷ lines) h = line-again line (ended lines) h.0.alone ∙ ap (λ ls. line ∷ ls) (lines-again lines h.1)

all-count : (lines : List (List ℕ)) → AllLineTexts lines → counted_lines lines ≡ lines
all-count [] h = refl
all-count (line ∷ lines) h = rw (h.0.counts, all-count lines h.1) refl

all-in-form : (lines : List (List ℕ)) → AllLineTexts lines → AllInForm lines
all-in-form [] h = tt
all-in-form (line ∷ lines) h = (record { text = h.0.text; short = h.0.short }, all-in-form lines h.1)

-- the text that a configuration has to say says it
record SaysConfig (config : Settings) (text : Option (List ℕ)) : Type 0 where
  pub lines : List HeadLine
  pub settings : Option Settings
  pub texts : map head_line_text lines ≡ config_lines text
  pub configs : configs_said lines ≡ read_at_most_once settings
  pub bases : bases_said lines ≡ []
  pub members : members_said lines ≡ []
  pub is : config_or_default settings ≡ config

same-settings : (r : Result Settings ConfigFault) (x y : Settings) → r ≡ Ok x → r ≡ Ok y → x ≡ y
same-settings r x y e f = cc

config-says : (config : Settings) (t : Bool) → bytes_eq config.text default_settings.text ≡ t
    → IsConfiguration config → SaysConfig config (cond t None (Some config.text))
config-says config true same is =
    let empty : config.text ≡ default_settings.text = (bytes_eq-Decides config.text default_settings.text).0 same in
    record {
      lines = [];
      settings = None;
      texts = refl;
      configs = refl;
      bases = refl;
      members = refl;
      is = same-settings (config_read config.text) default_settings config
          (ap config_read empty ∙ config_read-empty) is.reads_back;
    }
config-says config false same is = record {
  lines = ConfigLine config.text ∷ [];
  settings = Some config;
  texts = refl;
  configs = ap (λ r. r ∷ []) is.reads_back;
  bases = refl;
  members = refl;
  is = refl;
}

-- the same of a base
base_line : Option ℕ → List HeadLine
base_line None = []
base_line (Some n) = BaseLine n ∷ []

base-texts : (base : Option ℕ) (rest : List HeadLine)
    → map head_line_text (base_line base ++ rest) ≡ base_lines base ++ map head_line_text rest
unfolding base_line
base-texts None rest = refl
base-texts (Some n) rest = refl

base-bases : (base : Option ℕ) (members : List MemberText)
    → bases_said (base_line base ++ canonical_lines members) ≡ option_to_list base
unfolding base_line
base-bases None members = no-bases members
base-bases (Some n) members = ap (λ ns. n ∷ ns) (no-bases members)

base-configs : (base : Option ℕ) (members : List MemberText)
    → configs_said (base_line base ++ canonical_lines members) ≡ []
unfolding base_line
base-configs None members = no-configs members
base-configs (Some n) members = no-configs members

base-members : (base : Option ℕ) (members : List MemberText)
    → members_said (base_line base ++ canonical_lines members) ≡ members
unfolding base_line
base-members None members = canonical-members members
base-members (Some n) members = canonical-members members

head-IsHeadLines : (head : HeadText) → IsConfiguration head.config → IsHeadLines head (head_lines head)
head-IsHeadLines head is =
    let base : Option ℕ = base_to_say head.base in
    let says = config-says head.config (bytes_eq head.config.text default_settings.text) refl is in
    let rest : List HeadLine = base_line base ++ canonical_lines head.members in record {
      said = says.lines ++ rest;
      config = says.settings;
      base = base;
      configs = flat_map-append config_said says.lines rest
          ∙ ap (λ t. configs_said says.lines ++ t) (base-configs base head.members)
          ∙ append-nil (configs_said says.lines) ∙ says.configs;
      bases = flat_map-append base_said says.lines rest ∙ ap (λ t. t ++ bases_said rest) says.bases
          ∙ base-bases base head.members;
      members = flat_map-append member_said says.lines rest ∙ ap (λ t. t ++ members_said rest) says.members
          ∙ base-members base head.members;
      config_is = says.is;
      base_is = base-is-said head.base;
      order = ap (λ t. cluster_text head.cluster ∷ t)
          (sym (map-append head_line_text says.lines rest
          ∙ ap (λ t. t ++ map head_line_text rest) says.texts
          ∙ ap (λ t. config_lines (config_to_say head.config) ++ t)
          (base-texts base (canonical_lines head.members)
          ∙ ap (λ t. base_lines base ++ t) (canonical-texts head.members))));
    }

pub spelling-Spells : (s : ScriptText) → IsScript s → IsConfiguration s.head.config
    → IsShort (config_text s.head.config.text) → Spells (spelling_of s) s
spelling-Spells s h is short =
    let texts : AllLineTexts (script_lines s) = script-AllLineTexts s h is short in
    record {
      form = subst AllInForm (sym (lines-again (script_lines s) texts)) (all-in-form (script_lines s) texts);
      head = head_lines s.head;
      says = head-IsHeadLines s.head is;
      body = body_lines (names_of s.head) s.body;
      spells = own-SpellBody (names_of s.head) s.body;
      lines = ap counted_lines (lines-again (script_lines s) texts) ∙ all-count (script_lines s) texts;
    }

pub spelling-is-read : (s : ScriptText) → IsScript s → IsConfiguration s.head.config
    → IsShort (config_text s.head.config.text) → script_of (spelling_of s) ≡ Ok s
spelling-is-read s h is short = spelled-is-read (spelling_of s) s h (spelling-Spells s h is short)
