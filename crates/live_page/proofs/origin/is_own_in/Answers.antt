use Rattle.std.proofs.Common.{◌∙◌, ap, refl, length}
use Rattle.live_page.specs.Origins.{is_from_own_page}
use Rattle.live_page.proofs.Heads.{have-places}
use Rattle.live_page.proofs.origin.is_own_in.Goals as goal

pub returns-in-Ok-Complete : goal.returns-in-Ok-Complete
returns-in-Ok-Complete c =
    let found = rw c.in-Ok-Complete.field-0-is at c.in-Ok-Complete.ensures.found in
    let complete = rw c.in-Ok-Complete.field-0-is at c.in-Ok-Complete.ensures.complete in
    record {
      whole = λ h rest reads. c.is_from_own_page.ensures
          ∙ ap (is_from_own_page c.args.hosts.now) (found h rest reads
          (have-places c.args.room.now (length c.args.headers.now) h rest c.requires reads)).fields;
      none = λ none. absurd (none complete.0 _ complete.1.reads);
    }

pub returns-in-Ok-Partial : goal.returns-in-Ok-Partial
returns-in-Ok-Partial c =
    let found = rw c.in-Ok-Partial.field-0-is at c.in-Ok-Partial.ensures.found in
    record {
      whole = λ h rest reads. absurd (found h rest reads
          (have-places c.args.room.now (length c.args.headers.now) h rest c.requires reads));
      none = λ none. refl;
    }

pub returns-in-Err : goal.returns-in-Err
returns-in-Err c = record {
  whole = λ h rest reads. absurd (c.in-Err.ensures.found h rest reads
      (have-places c.args.room.now (length c.args.headers.now) h rest c.requires reads));
  none = λ none. refl;
}
