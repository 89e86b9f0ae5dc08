use Rattle.std.proofs.Common.{rules, lit<}
use borrow.Author.Tests.{tests}
use Rattle.std.proofs.lemmas.Iterator.Search.{any_from_yields_List}
use Rattle.std.proofs.lemmas.Iterator.Splits.{YieldsList-from_str_split}
use Rattle.ctl_command.specs.Settings.{is_empty_text}
use Rattle.ctl_command.proofs.setting_parts.has_empty_part.Goals as goal

pub returns : goal.returns
returns c = any_from_yields_List is_empty_text _ _ _ c.any.ensures.ran
    (YieldsList-from_str_split 46 c.args.key.now
    (lit< tt) c.split.ensures.text c.split.ensures.has_more c.split.ensures.pattern)
    (λ x b q k. search (rules, tests))
