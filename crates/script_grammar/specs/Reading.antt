-- The script that bytes are, or the first line with a fault and its first fault.
use Rattle.std.specs.Prelude.{ℕ, ◌≡◌, ◌+◌, ◌<◌, nat_le, ◌&&◌, Bool, true, false, if◌then◌else◌, List, [], ◌∷◌, ◌++◌, Option, Some, None, Result, Ok, Err, length}
use Rattle.std.specs.Option.{ok_or}
use Rattle.std.specs.Str.{is_utf8}
use Rattle.pat_base.specs.Name.{name_of}
use Rattle.pat_base.specs.declared.name.Name.{Name}
use Rattle.store_keys.specs.Settings.{Settings}
use Rattle.cluster_config.specs.ConfigReading.{config_read}
use Rattle.cluster_config.specs.declared.config_fault.ConfigFault.{ConfigFault}
use Rattle.script_grammar.specs.Arguments.{number_in, line_of_words}
use Rattle.script_grammar.specs.Draft.{DraftText, script_so_far}
use Rattle.script_words.specs.Faults.{on_ok, both}
use Rattle.script_words.specs.Lines.{lines_in, is_skipped}
use Rattle.script_grammar.specs.Members.{place_of}
use Rattle.member_options.specs.OptionReading.{options_in}
use Rattle.script_model.specs.Bounds.{longest_line, greatest_base}
use Rattle.pat_base.specs.declared.member_id.TheConstants.{MOST_MEMBERS}
use Rattle.script_model.specs.Script.{MemberText, ScriptText, member_names, member_of_entry}
use Rattle.script_grammar.specs.FirstWords.{keyword_of}
use Rattle.script_words.specs.Words.{cut_word}
use Rattle.script_grammar.specs.declared.addition.Addition.{Addition}
use Rattle.script_grammar.specs.declared.addition.Addition.TheVariants as additions
use Rattle.script_words.specs.declared.fault.Fault.{Fault}
use Rattle.script_words.specs.declared.fault.Fault.TheVariants as faults
use Rattle.member_options.specs.declared.member_option.MemberOptions.{MemberOptions}
use Rattle.script_model.specs.declared.keyword.Keyword.{Keyword}
use Rattle.script_model.specs.declared.keyword.Keyword.TheVariants as words
use Rattle.script_model.specs.declared.line.Line.{Line}
use Rattle.script_grammar.specs.declared.script_fault.ScriptFault.{ScriptFault}
use Rattle.script_grammar.specs.declared.script_fault.ScriptFault.TheVariants as script_faults

-- a line of the head stands behind lines of the body
abbrev pub in_head : List Line → Fault → Fault
in_head [] fault = fault
in_head (line ∷ body) fault = faults.HeadLate

-- a member that is declared in front of the body
abbrev pub declared_in_head : Name × MemberOptions → List Line → Result (Name × MemberOptions) Fault
declared_in_head member [] = Ok member
declared_in_head member (line ∷ body) = Err faults.HeadLate

-- a member of a name whose place says whether it is declared already
abbrev pub declared_once : Name × MemberOptions → List Line → Option ℕ → Result (Name × MemberOptions) Fault
declared_once member body (Some place) = Err faults.Duplicate
declared_once member body None = declared_in_head member body

-- a member of a new name
abbrev pub named_member : List Name → List Line → Name × MemberOptions → Result (Name × MemberOptions) Fault
named_member members body member = declared_once member body (place_of members member.0)

-- a name
abbrev pub name_in : List ℕ → Result Name Fault
name_in word = ok_or (name_of word) faults.BadName

-- a line 'member': a name, and options behind it
abbrev pub new_member : List Name → List Line → Option (List ℕ) → Result (Name × MemberOptions) Fault
new_member members body None = Err (in_head body faults.WordCount)
new_member members body (Some words) =
    on_ok (both (name_in (cut_word words).0) (options_in (cut_word words).1)) (named_member members body)

-- the seventeenth line 'member' is unknown
abbrev pub next_member : List Name → List Line → Option (List ℕ) → Result (Name × MemberOptions) Fault
next_member members body rest =
    if nat_le MOST_MEMBERS (length members) then Err faults.BadWord else new_member members body rest

-- how many bytes a log may begin with: 1 to 2 ^ 40
abbrev pub ranged_base : ℕ → Result ℕ Fault
ranged_base n = if nat_le 1 n && nat_le n greatest_base then Ok n else Err faults.BadNumber

-- a base, in its range
abbrev pub base_in : List ℕ → Result ℕ Fault
base_in word = on_ok (number_in word) ranged_base

-- a line of the head stands before the body, and ends where its words end
abbrev pub head_end : List Line → Option (List ℕ) → Result (Unit {0}) Fault
head_end [] None = Ok tt
head_end [] (Some words) = Err faults.WordCount
head_end (line ∷ body) rest = Err faults.HeadLate

-- a base is said but once
abbrev pub base_end : Option ℕ → List Line → Option (List ℕ) → Result (Unit {0}) Fault
base_end (Some said) body rest = Err faults.Duplicate
base_end None body rest = head_end body rest

-- the fault of a line 'base' without a word behind it
abbrev pub base_missing : Option ℕ → List Line → Fault
base_missing (Some said) body = faults.Duplicate
base_missing None body = in_head body faults.WordCount

-- a line 'base', behind the base that is said already
abbrev pub next_base : Option ℕ → List Line → Option (List ℕ) → Result ℕ Fault
next_base said body None = Err (base_missing said body)
next_base said body (Some words) =
    on_ok (base_in (cut_word words).0) (λ n. on_ok (base_end said body (cut_word words).1) (λ _. Ok n))

-- the fault of a cluster that is declared again
abbrev pub named_twice : Option Name → Fault
named_twice None = faults.BadName
named_twice (Some name) = faults.Duplicate

-- a second line 'cluster'
abbrev pub second_cluster : Option (List ℕ) → Fault
second_cluster None = faults.Duplicate
second_cluster (Some words) = named_twice (name_of (cut_word words).0)

-- what a line 'base' adds
abbrev pub base_addition : Option ℕ → List Line → Option (List ℕ) → Result Addition Fault
base_addition base body rest = on_ok (next_base base body rest) (λ n. Ok (additions.Base n))

-- what a line 'member' adds
abbrev pub member_addition : List Name → List Line → Option (List ℕ) → Result Addition Fault
member_addition members body rest =
    on_ok (next_member members body rest) (λ member. Ok (additions.Member member.0 member.1))

-- what a line of the body adds
abbrev pub body_addition : List Name → Keyword → Option (List ℕ) → Result Addition Fault
body_addition members keyword rest = on_ok (line_of_words members keyword rest) (λ line. Ok (additions.Body line))

-- what a line of this first word adds, from the words behind it; that of a configuration is judged apart
abbrev pub addition_of : Option ℕ → List Name → List Line → Keyword → Option (List ℕ) → Result Addition Fault
addition_of base members body words.Cluster rest = Err (second_cluster rest)
addition_of base members body words.Base rest = base_addition base body rest
addition_of base members body words.Member rest = member_addition members body rest
addition_of base members body keyword rest = body_addition members keyword rest

-- what a line other than 'config' adds, if its first word is known
abbrev pub known_addition : Option ℕ → List Name → List Line → Option Keyword → Option (List ℕ) → Result Addition Fault
known_addition base members body None rest = Err faults.BadWord
known_addition base members body (Some keyword) rest = addition_of base members body keyword rest

-- the base behind what is added
abbrev pub base_after : Option ℕ → Addition → Option ℕ
base_after base (additions.Base n) = Some n
base_after base (additions.Member name options) = base
base_after base (additions.Body line) = base

-- the members behind what is added
abbrev pub members_after : List MemberText → Addition → List MemberText
members_after members (additions.Member name options) = members ++ member_of_entry (name, options) ∷ []
members_after members (additions.Base n) = members
members_after members (additions.Body line) = members

-- the body behind what is added
abbrev pub body_after : List Line → Addition → List Line
body_after body (additions.Member name options) = body
body_after body (additions.Base n) = body
body_after body (additions.Body line) = body ++ line ∷ []

-- what the lines say with one more
abbrev pub with_addition : DraftText → Addition → DraftText
with_addition d added = record {
  cluster = d.cluster;
  config = d.config;
  base = base_after d.base added;
  members = members_after d.members added;
  body = body_after d.body added;
}

-- a configuration that is read, or refused for whatever reason
abbrev pub config_if_read : Result Settings ConfigFault → Result Settings Fault
config_if_read (Ok config) = Ok config
config_if_read (Err refusal) = Err faults.BadConfig

-- a configuration: the whole rest of its line
abbrev pub config_in : Option (List ℕ) → Result Settings Fault
config_in None = Err faults.WordCount
config_in (Some bytes) = config_if_read (config_read bytes)

-- a configuration that is said in front of the body
abbrev pub config_in_head : List Line → Option (List ℕ) → Result Settings Fault
config_in_head [] rest = config_in rest
config_in_head (line ∷ body) rest = Err faults.HeadLate

-- a line 'config', behind the configuration that is said already
abbrev pub next_config : Option Settings → List Line → Option (List ℕ) → Result Settings Fault
next_config (Some said) body rest = Err faults.Duplicate
next_config None body rest = config_in_head body rest

-- the first word 'config'
abbrev pub is_config : Option Keyword → Bool
is_config (Some words.Config) = true
is_config _ = false

-- what the lines say with one more line 'config'
abbrev pub with_config : DraftText → Option (List ℕ) → Result DraftText Fault
with_config d rest = on_ok (next_config d.config d.body rest) (λ config. Ok (record d { config = Some config }))

-- what the lines say with one more line of another first word
abbrev pub with_other : DraftText → Option Keyword → Option (List ℕ) → Result DraftText Fault
with_other d keyword rest =
    on_ok (known_addition d.base (member_names d.members) d.body keyword rest) (λ added. Ok (with_addition d added))

-- what the lines say with one more, of this first word
abbrev pub with_keyword : DraftText → Option Keyword → Option (List ℕ) → Result DraftText Fault
with_keyword d keyword rest = if is_config keyword then with_config d rest else with_other d keyword rest

-- what the lines say with one more of them
abbrev pub with_line : DraftText → List ℕ → Result DraftText Fault
with_line d line = with_keyword d (keyword_of (cut_word line).0) (cut_word line).1

-- a name, behind which its line ends
abbrev pub alone : Name → Option (List ℕ) → Result Name Fault
alone name None = Ok name
alone name (Some words) = Err faults.WordCount

-- the name of the cluster, behind which its line ends
abbrev pub cluster_named : Option Name → Option (List ℕ) → Result Name Fault
cluster_named None rest = Err faults.BadName
cluster_named (Some name) rest = alone name rest

-- the line 'cluster'
abbrev pub cluster_in : Option (List ℕ) → Result Name Fault
cluster_in None = Err faults.WordCount
cluster_in (Some words) = cluster_named (name_of (cut_word words).0) (cut_word words).1

-- the cluster, from the first word of a line and what stands behind it
abbrev pub cluster_by_keyword : Option Keyword → Option (List ℕ) → Result Name Fault
cluster_by_keyword (Some words.Cluster) rest = cluster_in rest
cluster_by_keyword _ rest = Err faults.NoCluster

-- the cluster of the first line that counts
abbrev pub first_line : List ℕ → Result Name Fault
first_line line = cluster_by_keyword (keyword_of (cut_word line).0) (cut_word line).1

-- what the first line alone says
abbrev pub first_draft : Name → DraftText
first_draft name = record { cluster = name; config = None; base = None; members = []; body = [] }

-- a line that counts, behind those before it
abbrev pub after_counted : Option DraftText → List ℕ → Result (Option DraftText) Fault
after_counted None line = on_ok (first_line line) (λ name. Ok (Some (first_draft name)))
after_counted (Some d) line = on_ok (with_line d line) (λ e. Ok (Some e))

-- a line of text, behind those before it
abbrev pub after_text : Option DraftText → List ℕ → Result (Option DraftText) Fault
after_text d line = if is_skipped line then Ok d else after_counted d line

-- a line, behind those before it
abbrev pub after_line : Option DraftText → List ℕ → Result (Option DraftText) Fault
after_line d line = if is_utf8 line
    then (if nat_le (length line) longest_line then after_text d line else Err faults.TooLong) else Err faults.NotUtf8

-- a member that a line adds is one of no more than there may be, and no other has its name
abbrev pub IsNew : List MemberText → Addition → Type 0
IsNew members (additions.Member name options) =
    (length members < MOST_MEMBERS) × (place_of (member_names members) name ≡ None)
IsNew members (additions.Base n) = Unit {0}
IsNew members (additions.Body line) = Unit {0}

-- a fault and its line
abbrev pub at_line : {A : Type 0} → ℕ → Result A Fault → Result A (ℕ × Fault)
at_line number (Ok x) = Ok x
at_line number (Err fault) = Err (number, fault)

-- what lines say behind those before them, of which the first has this number
abbrev pub after_lines : ℕ → Option DraftText → List (List ℕ) → Result (Option DraftText) (ℕ × Fault)
after_lines number d [] = Ok d
after_lines number d (line ∷ lines) = on_ok (at_line number (after_line d line)) (λ e. after_lines (number + 1) e lines)

-- a script that has a member
abbrev pub with_some : ScriptText → List MemberText → Result ScriptText Fault
with_some s [] = Err faults.NoMember
with_some s (member ∷ members) = Ok s

-- a script has a cluster and a member
abbrev pub finished : Option DraftText → Result ScriptText Fault
finished None = Err faults.NoCluster
finished (Some d) = with_some (script_so_far d) d.members

-- the script that the lines are, or the first of them with a fault and its first fault
abbrev pub script_of_lines : List (List ℕ) → Result ScriptText (ℕ × Fault)
script_of_lines lines = on_ok (after_lines 1 None lines) (λ d. at_line (length lines + 1) (finished d))

-- the script that the bytes are, or the first line with a fault and its first fault
abbrev pub script_of : List ℕ → Result ScriptText (ℕ × Fault)
script_of bytes = script_of_lines (lines_in bytes)

-- what a reader answers, of what is to be read
abbrev pub Gives : {X Y : Type 0} → (X → Y) → Result X ScriptFault → Result Y (ℕ × Fault) → Type 0
Gives view (Ok x) read = read ≡ Ok (view x)
Gives view (Err script_faults.Memory) read = Unit {0}
Gives view (Err (script_faults.At line fault)) read = read ≡ Err (line, fault)
