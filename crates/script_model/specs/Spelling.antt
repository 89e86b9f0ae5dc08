-- Bytes that spell a script: the lines of a head and their options in
-- any order, and among them empty lines and comments.
use Rattle.std.specs.Prelude.{ℕ, ◌≡◌, List, [], ◌∷◌, ◌++◌, Option, Some, None, Result, Ok, map}
use Rattle.std.specs.List.{flat_map}
use Rattle.std.specs.Option.{option_to_list}
use Rattle.pat_base.specs.declared.name.Name.{Name}
use Rattle.pat_base.specs.declared.member_id.MemberId.{MemberId}
use Rattle.store_keys.specs.Settings.{Settings}
use Rattle.cluster_config.specs.ConfigReading.{config_read}
use Rattle.cluster_config.specs.declared.config_fault.ConfigFault.{ConfigFault}
use Rattle.script_words.specs.Lines.{lines_in, counted_lines}
use Rattle.member_options.specs.Options.{SayOnce, options_or_default}
use Rattle.member_options.specs.declared.member_option.MemberOption.{MemberOption}
use Rattle.member_options.specs.declared.member_option.SaidOptions.{SaidOptions}
use Rattle.script_model.specs.Script.{MemberText, HeadText, ScriptText, names_of, cluster_text, line_with_options, base_text, config_text, rest_text, line_text, config_or_default, base_or_default, IsInForm}
use Rattle.script_model.specs.declared.line.Command.TheVariants as commands
use Rattle.script_model.specs.declared.line.Line.{Line}
use Rattle.script_model.specs.declared.line.Line.TheVariants as lines
use Rattle.script_model.specs.declared.request_words.RequestWords.{RequestWords}

-- a line of a member: its name, its options in the line's order, and what they say, each at most once
pub record MemberLine : Type 0 where
  pub name : Name
  pub words : List MemberOption
  pub said : SaidOptions
  pub once : SayOnce words said

-- the member that a line declares
abbrev pub member_of_line : MemberLine → MemberText
member_of_line line = record { name = line.name; options = options_or_default line.said }

-- the text of such a line
abbrev pub member_line_text : MemberLine → List ℕ
member_line_text line = line_with_options line.name line.words

-- a line of a head behind that of its cluster: a configuration's with its bytes, a base's, or a member's
pub data HeadLine : Type 0 where
  ConfigLine : List ℕ → HeadLine
  BaseLine : ℕ → HeadLine
  MembersLine : MemberLine → HeadLine

-- the text of such a line
abbrev pub head_line_text : HeadLine → List ℕ
head_line_text (ConfigLine bytes) = config_text bytes
head_line_text (BaseLine base) = base_text base
head_line_text (MembersLine line) = member_line_text line

-- what the configuration's bytes are read as, of a line that has one
abbrev pub config_said : HeadLine → List (Result Settings ConfigFault)
config_said (ConfigLine bytes) = config_read bytes ∷ []
config_said (BaseLine base) = []
config_said (MembersLine line) = []

-- the base of a line that says one
abbrev pub base_said : HeadLine → List ℕ
base_said (ConfigLine bytes) = []
base_said (BaseLine base) = base ∷ []
base_said (MembersLine line) = []

-- the member of a line that declares one
abbrev pub member_said : HeadLine → List MemberText
member_said (ConfigLine bytes) = []
member_said (BaseLine base) = []
member_said (MembersLine line) = member_of_line line ∷ []

-- what lines say of configurations, in order
abbrev pub configs_said : List HeadLine → List (Result Settings ConfigFault)
configs_said lines = flat_map config_said lines

-- the bases that lines say, in order
abbrev pub bases_said : List HeadLine → List ℕ
bases_said lines = flat_map base_said lines

-- the members that lines declare, in order
abbrev pub members_said : List HeadLine → List MemberText
members_said lines = flat_map member_said lines

-- none, or one that was read
abbrev pub read_at_most_once : Option Settings → List (Result Settings ConfigFault)
read_at_most_once None = []
read_at_most_once (Some config) = Ok config ∷ []

-- a cluster's line, and the lines of a head behind it
abbrev pub head_with : Name → List HeadLine → List (List ℕ)
head_with cluster lines = cluster_text cluster ∷ map head_line_text lines

-- lines that say a head: behind its cluster its members in order, and
-- among them at most one configuration and at most one base, in any places
pub record IsHeadLines (head : HeadText) (lines : List (List ℕ)) : Type 0 where
  pub said : List HeadLine
  pub config : Option Settings
  pub base : Option ℕ
  pub configs : configs_said said ≡ read_at_most_once config
  pub bases : bases_said said ≡ option_to_list base
  pub members : members_said said ≡ head.members
  pub config_is : config_or_default config ≡ head.config
  pub base_is : base_or_default base ≡ head.base
  pub order : lines ≡ head_with head.cluster said

-- all of these lines are such
abbrev pub AllInForm : List (List ℕ) → Type 0
AllInForm [] = Unit {0}
AllInForm (line ∷ lines) = IsInForm line × AllInForm lines

-- a text that spells a line of a body: the line's own, or, of a
-- request with the empty body, that with one blank behind it
pub data SpellsLine (members : List Name) (text : List ℕ) (line : Line) : Type 0 where
  OwnText : (is : text ≡ line_text members line) → SpellsLine members text line
  BlankBehind : (member : MemberId) → (request : RequestWords) → (empty : request.body ≡ [])
      → (asks : line ≡ lines.Command (commands.Rest member request))
      → (is : text ≡ rest_text members member request ++ 32 ∷ []) → SpellsLine members text line

-- texts that spell the lines of a body, one for each, in order
abbrev pub SpellBody : List Name → List (List ℕ) → List Line → Type 0
SpellBody members [] [] = Unit {0}
SpellBody members [] (line ∷ body) = ⊥
SpellBody members (text ∷ texts) [] = ⊥
SpellBody members (text ∷ texts) (line ∷ body) = SpellsLine members text line × SpellBody members texts body

-- bytes that spell a script: behind its empty lines and comments are lines that say
-- its head, and then those that spell its body; the last may lack its line feed
pub record Spells (bytes : List ℕ) (s : ScriptText) : Type 0 where
  pub form : AllInForm (lines_in bytes)
  pub head : List (List ℕ)
  pub says : IsHeadLines s.head head
  pub body : List (List ℕ)
  pub spells : SpellBody (names_of s.head) body s.body
  pub lines : counted_lines (lines_in bytes) ≡ head ++ body
