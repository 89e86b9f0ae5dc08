use Rattle.std.proofs.Common.{string_bytes}
use Rattle.picture.proofs.Whole.{picture-grew}
use Rattle.picture.proofs.drawing.picture_of.Goals as goal

pub returns : goal.returns
returns c =
    picture-grew c.args.run.now (string_bytes c.new-out.result) (string_bytes c.open_root.new.out)
    (string_bytes c.push_content.new.out) (string_bytes c.close.new.out) c.height_of.result c.names.result.now
    c.answers.result.now c.new-out.ensures.bytes c.names.ensures.value c.answers.ensures.value
    c.height_of.ensures c.in_ok-open_root.ensures c.in_ok-push_content.ensures c.in_ok-close.ensures
