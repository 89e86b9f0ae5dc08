-- What is spelled as a line of the head is read as it.
use Rattle.std.proofs.Common.{◌≡◌, ℕ, ◌+◌, ◌^◌, ◌≤◌, ◌<◌, ◌&&◌, nat_le, true, false, cond, List, ◌∷◌, ◌++◌, length, map, Option, Some, None, Ok, Err, ◌∙◌, ap, arith, []}
use Rattle.std.specs.Fmt.{decimal}
use Rattle.std.specs.Option.{ok_or}
use Rattle.std.proofs.lemmas.Bool.Decides.{nat_tests}
use Rattle.pat_base.proofs.Names.{name_of-name_bytes}
use Rattle.store_keys.specs.Settings.{Settings}
use Rattle.cluster_config.specs.ConfigReading.{config_read}
use Rattle.script_model.specs.Bounds.{greatest_base}
use Rattle.pat_base.specs.declared.member_id.TheConstants.{MOST_MEMBERS}
use Rattle.script_grammar.specs.Draft.{DraftText}
use Rattle.script_words.specs.Faults.{both, on_ok}
use Rattle.script_model.specs.Script.{base_text, config_text, MemberText, member_names}
use Rattle.script_model.specs.Spelling.{MemberLine, member_of_line, member_line_text}
use Rattle.pat_base.specs.Name.{name_bytes}
use Rattle.pat_base.specs.declared.name.Name.{Name}
use Rattle.script_grammar.specs.Members.{place_of}
use Rattle.member_options.specs.Options.{option_text, behind_blanks, options_or_default}
use Rattle.script_grammar.specs.Reading.{name_in, declared_once, named_member, new_member, next_member, ranged_base, base_in, base_end, next_base, config_if_read, with_line}
use Rattle.script_words.specs.Words.{cut_word}
use Rattle.script_grammar.specs.declared.addition.Addition.TheVariants as additions
use Rattle.script_words.specs.declared.fault.Fault.TheVariants as faults
use Rattle.member_options.specs.declared.member_option.MemberOptions.{MemberOptions}
use Rattle.script_model.specs.declared.keyword.Keyword.TheVariants as words
use Rattle.script_words.proofs.NumberLaws.{first_at-decimal}
use Rattle.member_options.proofs.OptionSpellLaws.{options_in-again}
use Rattle.member_options.proofs.OptionWords.{options-cut}
use Rattle.script_words.proofs.WordLaws.{cut_word-alone}
use Rattle.script_law.proofs.SpelledLines.{addition-again, first_at-name, number_in-again, spelled-again}

-- a member's line is read again
pub few : (n : ℕ) → n < MOST_MEMBERS → nat_le MOST_MEMBERS n ≡ false
few n h = grind (arith, nat_tests)

new-again : (members : List Name) (line : MemberLine) → length members < MOST_MEMBERS
    → place_of members line.name ≡ None
    → next_member members [] (Some (name_bytes line.name ++ behind_blanks (map option_text line.words)))
    ≡ Ok (line.name, options_or_default line.said)
new-again members line small absent =
    let text : List ℕ = name_bytes line.name ++ behind_blanks (map option_text line.words) in
    let declared : MemberOptions = options_or_default line.said in
    let cut = options-cut (name_bytes line.name) line.words (first_at-name line.name) in
    ap (λ t. cond t (Err faults.BadWord) (new_member members [] (Some text))) (few (length members) small)
    ∙ ap (λ r. on_ok (both (name_in (cut_word text).0) r) (named_member members []))
    (options_in-again (cut_word text).1 line.words line.said cut.words_are line.once)
    ∙ ap (λ w. on_ok (both (name_in w) (Ok declared)) (named_member members [])) cut.name_is
    ∙ ap (λ o. on_ok (both (ok_or o faults.BadName) (Ok declared)) (named_member members []))
    (name_of-name_bytes line.name)
    ∙ ap (declared_once (line.name, declared) []) absent

-- a base is read again
in_range : (n : ℕ) → 1 ≤ n → n ≤ greatest_base → (nat_le 1 n && nat_le n greatest_base) ≡ true
in_range n least most = grind (arith, nat_tests)

pub base-fits : (n : ℕ) → n ≤ greatest_base → n < 2 ^ 64
base-fits n most = omega arith

next_base-again : (n : ℕ) → 1 ≤ n → n ≤ greatest_base → next_base None [] (Some (decimal n)) ≡ Ok n
next_base-again n least most =
    ap (λ p. on_ok (base_in p.0) (λ k. on_ok (base_end None [] p.1) (λ _. Ok k)))
    (cut_word-alone (decimal n) (first_at-decimal 32 n (omega arith) (base-fits n most)))
    ∙ ap (λ r. on_ok (on_ok r ranged_base) (λ k. on_ok (base_end None [] None) (λ _. Ok k)))
    (number_in-again n (base-fits n most))
    ∙ ap (λ t. on_ok (cond t (Ok n) (Err faults.BadNumber)) (λ k. on_ok (base_end None [] None) (λ _. Ok k)))
    (in_range n least most)

-- a head alone
unfoldable pub start : Name → Option Settings → Option ℕ → List MemberText → DraftText
start cluster config base members =
    record { cluster = cluster; config = config; base = base; members = members; body = [] }

pub member_line-again : (cluster : Name) (line : MemberLine) (config : Option Settings) (base : Option ℕ)
    (members : List MemberText) → length (member_names members) < MOST_MEMBERS
    → place_of (member_names members) line.name ≡ None
    → with_line (start cluster config base members) (member_line_text line)
    ≡ Ok (start cluster config base (members ++ member_of_line line ∷ []))
unfolding start
member_line-again cluster line config base members small absent =
    addition-again (start cluster config base members) words.Member
    (name_bytes line.name ++ behind_blanks (map option_text line.words))
    (additions.Member line.name (options_or_default line.said))
    (ap (λ r. on_ok r (λ member. Ok (additions.Member member.0 member.1)))
    (new-again (member_names members) line small absent))

pub base_line-again : (cluster : Name) (n : ℕ) (config : Option Settings) (members : List MemberText) → 1 ≤ n
    → n ≤ greatest_base
    → with_line (start cluster config None members) (base_text n) ≡ Ok (start cluster config (Some n) members)
unfolding start
base_line-again cluster n config members least most =
    addition-again (start cluster config None members) words.Base (decimal n) (additions.Base n)
    (ap (λ r. on_ok r (λ n. Ok (additions.Base n))) (next_base-again n least most))

pub config_line-again : (cluster : Name) (bytes : List ℕ) (config : Settings) (base : Option ℕ)
    (members : List MemberText)
    → config_read bytes ≡ Ok config
    → with_line (start cluster None base members) (config_text bytes) ≡ Ok (start cluster (Some config) base members)
unfolding start
config_line-again cluster bytes config base members is =
    spelled-again (start cluster None base members) words.Config bytes
    ∙ ap (λ r. on_ok (config_if_read r) (λ config. Ok (start cluster (Some config) base members))) is
