-- Options as words.
use Rattle.std.specs.Prelude.{ℕ, List, map}
use Rattle.member_options.specs.Options.{option_text, behind_blanks}
use Rattle.member_options.specs.declared.member_option.MemberOption.{MemberOption}

-- the words of options, each behind one blank
abbrev pub words_of : List MemberOption → List ℕ
words_of said = behind_blanks (map option_text said)
