use Rattle.std.proofs.Common.{◌∙◌, ap₂, ℕ, List, Bool}
use Rattle.live_page.specs.Wishes.{wish_of}
use Rattle.live_page.proofs.judging.judge.Goals as goal

pub returns : goal.returns
returns c = λ h rest reads. c.wish_of.ensures
    ∙ ap₂ (λ (target : List ℕ) (own : Bool). wish_of c.args.request.now.method target own) c.as_str.ensures.value
    (c.in_ok-own.ensures.whole h rest reads)
