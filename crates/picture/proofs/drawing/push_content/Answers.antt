use Rattle.std.proofs.Common.{◌∙◌, ap, length, string_bytes}
use Rattle.picture.specs.Pictures.{lanes_height}
use Rattle.picture.proofs.Whole.{content-grew}
use Rattle.picture.proofs.drawing.push_content.Goals as goal

pub returns : goal.returns
returns c =
    content-grew c.args.run.now (string_bytes c.args.out.now) (string_bytes c.push_upper.new.out)
    (string_bytes c.push_axis_with_alarms.new.out)
    (string_bytes c.push_legend.new.out) c.of-frame.result.end c.lanes_height-height.result c.names-2.result.now
    c.sights.result.now c.sights-2.result.now c.answers.result.now c.answers-2.result.now c.left_out.result (record {
      end_is = c.of-frame.ensures;
      height_is = c.lanes_height-height.ensures.value ∙ ap (λ names. lanes_height (length names)) c.names.ensures.value;
      names_are = c.names-2.ensures.value;
      sights_are = c.sights.ensures;
      others_are = c.sights-2.ensures;
      answers_are = c.answers.ensures.value;
      shown_are = c.answers-2.ensures.value;
      left_is = c.left_out.ensures;
      upper_is = c.in_ok-push_upper.ensures;
      lower_is = c.in_ok-push_axis_with_alarms.ensures;
      new_is = c.in_ok-push_legend.ensures;
    })
