-- What a script says, and how it is spelled.
use Rattle.std.specs.Prelude.{ℕ, ◌≡◌, ◌≢◌, ◌≤◌, ◌<◌, ◌^◌, ◌==◌, Bool, true, false, if◌then◌else◌, List, [], ◌∷◌, ◌++◌, Option, Some, None, codes, length, map, slice_get}
use Rattle.std.specs.Fmt.{decimal}
use Rattle.std.specs.Str.{is_utf8, bytes_eq, IsUtf8}
use Rattle.pat_base.specs.Name.{name_bytes}
use Rattle.pat_base.specs.declared.name.Name.{Name}
use Rattle.pat_base.specs.declared.member_id.MemberId.{MemberId}
use Rattle.store_keys.specs.Defaults.{default_settings}
use Rattle.store_keys.specs.Settings.{Settings}
use Rattle.script_words.specs.Lines.{ended, first_at, is_one_line}
use Rattle.member_options.specs.Options.{option_text, behind_blanks, options_to_say}
use Rattle.script_words.specs.Tokens.{is_token}
use Rattle.script_model.specs.Bounds.{longest_line, greatest_base}
use Rattle.pat_base.specs.declared.member_id.TheConstants.{MOST_MEMBERS}
use Rattle.script_model.specs.Keywords.{spelled}
use Rattle.member_options.specs.declared.member_option.MemberOptions.{MemberOptions}
use Rattle.script_model.specs.declared.keyword.Keyword.TheVariants as words
use Rattle.script_model.specs.declared.line.End.{End}
use Rattle.script_model.specs.declared.line.End.TheVariants as ends
use Rattle.script_model.specs.declared.line.Command.{Command}
use Rattle.script_model.specs.declared.line.Command.TheVariants as commands
use Rattle.script_model.specs.declared.line.SlowedCall.{SlowedCall}
use Rattle.script_model.specs.declared.line.SlowedCall.TheVariants as slowed_calls
use Rattle.script_model.specs.declared.line.Line.{Line}
use Rattle.script_model.specs.declared.line.Line.TheVariants as lines
use Rattle.script_model.specs.declared.request_words.RequestWords.{RequestWords}
use Rattle.member_options.specs.declared.member_option.MemberOption.{MemberOption}

-- what a script declares of a member
pub record MemberText : Type 0 where
  pub name : Name
  pub options : MemberOptions

-- the head of a script: the cluster's name, its configuration, the bytes
-- of data that each server's log begins with, and the members in order
pub record HeadText : Type 0 where
  pub cluster : Name
  pub config : Settings
  pub base : ℕ
  pub members : List MemberText

-- the names of members, in order
abbrev pub member_names : List MemberText → List Name
member_names members = map (λ member. member.name) members

-- the names of a head's members, in order
abbrev pub names_of : HeadText → List Name
names_of head = member_names head.members

-- a member of this name and these options
abbrev pub member_of_entry : Name × MemberOptions → MemberText
member_of_entry entry = record { name = entry.0; options = entry.1 }

-- the members of a table, in order
abbrev pub members_in : List (Name × MemberOptions) → List MemberText
members_in entries = map member_of_entry entries

-- a script: its head, and the lines of its body
pub record ScriptText : Type 0 where
  pub head : HeadText
  pub body : List Line

-- the bytes of a name, or none
abbrev pub text_of_name : Option Name → List ℕ
text_of_name None = []
text_of_name (Some name) = name_bytes name

-- the text of a member
abbrev pub member_text : List Name → MemberId → List ℕ
member_text members member = text_of_name (slice_get members member.number)

-- the text of an end of a link
abbrev pub end_word : List Name → End → List ℕ
end_word members ends.Store = codes "store"
end_word members (ends.Member member) = member_text members member

-- the word of a switch
abbrev pub switch_text : Bool → List ℕ
switch_text true = codes "on"
switch_text false = codes "off"

-- the word of a transition
abbrev pub slowed_call_text : SlowedCall → List ℕ
slowed_call_text slowed_calls.Stop = codes "stop"
slowed_call_text slowed_calls.Start = codes "start"

-- two words, with one blank between them
abbrev pub two_texts : List ℕ → List ℕ → List ℕ
two_texts first second = first ++ (32 ∷ second)

-- the line of a cluster; this line and those below are without their line feeds
abbrev pub cluster_text : Name → List ℕ
cluster_text name = spelled words.Cluster (name_bytes name)

-- the line of a member with these options behind its name
abbrev pub line_with_options : Name → List MemberOption → List ℕ
line_with_options name said = spelled words.Member (name_bytes name ++ behind_blanks (map option_text said))

-- the line of a member with the options that have to be said
abbrev pub shortest_line : MemberText → List ℕ
shortest_line member = line_with_options member.name (options_to_say member.options)

-- the line of a base
abbrev pub base_text : ℕ → List ℕ
base_text base = spelled words.Base (decimal base)

-- the line of a configuration, whose bytes are the rest of the line
abbrev pub config_text : List ℕ → List ℕ
config_text bytes = spelled words.Config bytes

-- the body of a request, with the blank before it; the empty body has none
abbrev pub body_text : List ℕ → List ℕ
body_text [] = []
body_text (b ∷ bs) = 32 ∷ b ∷ bs

-- the method, the target and the body of a request
abbrev pub request_text : RequestWords → List ℕ
request_text request = two_texts request.method (request.target ++ body_text request.body)

-- the line of a request to the agent of a member
abbrev pub rest_text : List Name → MemberId → RequestWords → List ℕ
rest_text members member request = spelled words.Rest (two_texts (member_text members member) (request_text request))

-- the line of patronictl, whose words are the rest of the line
abbrev pub ctl_text : List ℕ → List ℕ
ctl_text said = spelled words.Ctl said

-- the line of a command
abbrev pub command_text : List Name → Command → List ℕ
command_text members (commands.Turn member) = spelled words.Turn (member_text members member)
command_text members (commands.Deliver n) = spelled words.Deliver (decimal n)
command_text members (commands.Lose n) = spelled words.Lose (decimal n)
command_text members (commands.Suspend member) = spelled words.Hold (member_text members member)
command_text members (commands.Resume member) = spelled words.Resume (member_text members member)
command_text members (commands.Kill member) = spelled words.Kill (member_text members member)
command_text members (commands.StartAgent member) = spelled words.Restart (member_text members member)
command_text members (commands.Promote member) = spelled words.Promote (member_text members member)
command_text members (commands.Crash member) = spelled words.Crash (member_text members member)
command_text members (commands.Commit member size) =
    spelled words.Commit (two_texts (member_text members member) (decimal size.bytes))
command_text members (commands.Stream member n) =
    spelled words.Stream (two_texts (member_text members member) (decimal n))
command_text members (commands.Freeze member) = spelled words.Freeze (member_text members member)
command_text members (commands.Thaw member) = spelled words.Thaw (member_text members member)
command_text members (commands.Slow member slowed delay) = spelled words.Slow
    (two_texts (member_text members member) (two_texts (slowed_call_text slowed) (decimal delay.ticks)))
command_text members (commands.Cut first second) =
    spelled words.Cut (two_texts (end_word members first) (end_word members second))
command_text members (commands.Join first second) =
    spelled words.Join (two_texts (end_word members first) (end_word members second))
command_text members (commands.Rest member request) = rest_text members member request
command_text members (commands.Ctl said) = ctl_text said
command_text members (commands.Trace on) = spelled words.Trace (switch_text on)

-- a line of the body
abbrev pub line_text : List Name → Line → List ℕ
line_text members (lines.Run n) = spelled words.Run (decimal n)
line_text members (lines.Tick n) = spelled words.Tick (decimal n)
line_text members (lines.Command command) = command_text members command

-- the base of a script that says none: five files of 16 MiB
abbrev pub default_base : ℕ
default_base = 83886080

-- the configuration that is said, or the default
abbrev pub config_or_default : Option Settings → Settings
config_or_default None = default_settings
config_or_default (Some config) = config

-- the base that is said, or the default
abbrev pub base_or_default : Option ℕ → ℕ
base_or_default None = default_base
base_or_default (Some base) = base

-- the line 'base', where a base is said
abbrev pub base_lines : Option ℕ → List (List ℕ)
base_lines None = []
base_lines (Some base) = base_text base ∷ []

-- a base that has to be said: any but the default
abbrev pub base_to_say : ℕ → Option ℕ
base_to_say base = if base == default_base then None else Some base

-- the line 'config', where a configuration is said
abbrev pub config_lines : Option (List ℕ) → List (List ℕ)
config_lines None = []
config_lines (Some bytes) = config_text bytes ∷ []

-- the text of a configuration that has to be said: any but the default's
abbrev pub config_to_say : Settings → Option (List ℕ)
config_to_say config = if bytes_eq config.text default_settings.text then None else Some config.text

-- all lines of a head, in order: the configuration, the base, the
-- members; of configuration, base and options only what isn't the default
abbrev pub head_lines : HeadText → List (List ℕ)
head_lines head = cluster_text head.cluster
    ∷ (config_lines (config_to_say head.config)
    ++ (base_lines (base_to_say head.base) ++ map shortest_line head.members))

-- all lines of a body, in order
abbrev pub body_lines : List Name → List Line → List (List ℕ)
body_lines members body = map (line_text members) body

-- all lines of a script, in order: those of its head, then those of its body
abbrev pub script_lines : ScriptText → List (List ℕ)
script_lines s = head_lines s.head ++ body_lines (names_of s.head) s.body

-- the bytes of a script: its lines and nothing else
abbrev pub spelling_of : ScriptText → List ℕ
spelling_of s = ended (script_lines s)

-- no longer than a line may be
abbrev pub IsShort : List ℕ → Type 0
IsShort line = length line ≤ longest_line

-- lines that a script may have at all: text that is short
pub record IsInForm (line : List ℕ) : Type 0 where
  pub text : is_utf8 line ≡ true
  pub short : IsShort line

-- such a line, without a line feed
pub record IsWholeLine (line : List ℕ) : Type 0 where
  pub form : IsInForm line
  pub one_line : is_one_line line ≡ true

-- no name stands at two places
abbrev pub AreDifferent : List Name → Type 0
AreDifferent members =
    (i j : ℕ) (name : Name) → slice_get members i ≡ Some name → slice_get members j ≡ Some name → i ≡ j

-- a head that a script may have
pub record IsHead (head : HeadText) : Type 0 where
  pub base_least : 1 ≤ head.base
  pub base_most : head.base ≤ greatest_base
  pub some : 0 < length head.members
  pub few : length head.members ≤ MOST_MEMBERS
  pub different : AreDifferent (names_of head)

-- a member that is declared
abbrev pub IsMember : List Name → MemberId → Type 0
IsMember members member = member.number < length members

-- an end that a line may name: the word 'store' is the key store, also where a member has that name
abbrev pub IsEnd : List Name → End → Type 0
IsEnd members ends.Store = Unit {0}
IsEnd members (ends.Member member) = IsMember members member × (member_text members member ≢ codes "store")

-- the two ends of a link
pub record IsLink (members : List Name) (first second : End) : Type 0 where
  pub first_is : IsEnd members first
  pub second_is : IsEnd members second
  pub apart : first ≢ second

-- bytes between blanks: at least one, and no blank
pub record IsWord (word : List ℕ) : Type 0 where
  pub some : 0 < length word
  pub unbroken : first_at 32 word ≡ None

-- a request that a line may be: to the agent of a declared member, by a token of HTTP as
-- its method and a word of text as its target, all of it on one line, which is in form
pub record IsRequest (members : List Name) (member : MemberId) (request : RequestWords) : Type 0 where
  pub declared : IsMember members member
  pub method : is_token request.method ≡ true
  pub target : IsWord request.target
  pub target_text : IsUtf8 request.target
  pub line : IsWholeLine (rest_text members member request)

-- the words of patronictl's line: they are text, and all of it is one line, which is in form
pub record IsCtlLine (said : List ℕ) : Type 0 where
  pub text : IsUtf8 said
  pub line : IsWholeLine (ctl_text said)

-- a command that a line may be
abbrev pub IsCommand : List Name → Command → Type 0
IsCommand members (commands.Turn member) = IsMember members member
IsCommand members (commands.Deliver n) = n < 2 ^ 64
IsCommand members (commands.Lose n) = n < 2 ^ 64
IsCommand members (commands.Suspend member) = IsMember members member
IsCommand members (commands.Resume member) = IsMember members member
IsCommand members (commands.Kill member) = IsMember members member
IsCommand members (commands.StartAgent member) = IsMember members member
IsCommand members (commands.Promote member) = IsMember members member
IsCommand members (commands.Crash member) = IsMember members member
IsCommand members (commands.Commit member size) = IsMember members member
IsCommand members (commands.Stream member n) = IsMember members member × (n < 2 ^ 64)
IsCommand members (commands.Freeze member) = IsMember members member
IsCommand members (commands.Thaw member) = IsMember members member
IsCommand members (commands.Slow member slowed delay) = IsMember members member
IsCommand members (commands.Cut first second) = IsLink members first second
IsCommand members (commands.Join first second) = IsLink members first second
IsCommand members (commands.Rest member request) = IsRequest members member request
IsCommand members (commands.Ctl said) = IsCtlLine said
IsCommand members (commands.Trace on) = Unit {0}

-- a line that a body may have
abbrev pub IsLine : List Name → Line → Type 0
IsLine members (lines.Run n) = n < 2 ^ 64
IsLine members (lines.Tick n) = n < 2 ^ 64
IsLine members (lines.Command command) = IsCommand members command

-- all of these lines are such
abbrev pub AllAreLines : List Name → List Line → Type 0
AllAreLines members [] = Unit {0}
AllAreLines members (line ∷ body) = IsLine members line × AllAreLines members body

-- what holds of each script
pub record IsScript (s : ScriptText) : Type 0 where
  pub head : IsHead s.head
  pub body : AllAreLines (names_of s.head) s.body
