use Rattle.std.proofs.Common.{◌+◌, ◌*◌, string_bytes}
use Rattle.svg.proofs.Growing.{grew_by_both}
use Rattle.picture.specs.Legend.{key_tree, square_tree, word_tree}
use Rattle.picture.specs.declared.legend.TheConstants.{KEY}
use Rattle.picture.proofs.legend.push_key.Goals as goal

pub returns : goal.returns
unfolding key_tree
returns c =
    grew_by_both (string_bytes c.args.out.now) (string_bytes c.push_square.new.out)
    (string_bytes c.push_word.new.out) (square_tree (8 + c.args.place * KEY) c.args.y c.args.paint)
    (word_tree (24 + c.args.place * KEY) (c.args.y + 10) c.args.paint) c.in_ok-push_square.ensures
    c.in_ok-push_word.ensures
