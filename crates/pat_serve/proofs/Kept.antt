-- What an agent replies in the events of a step, it replies in those that are kept of them.
use Rattle.std.proofs.Common.{◌≡◌, Bool, true, false, true≢false, List, [], ◌∷◌, Option, None, refl, ap, sym, ◌∙◌}
use Rattle.std.specs.Option.{option_or}
use Rattle.pat_base.specs.declared.member_id.MemberId.{MemberId}
use Rattle.rest_message.specs.Replies.{ReplyText}
use Rattle.event_book.specs.declared.event.Event.{Event}
use Rattle.event_book.specs.declared.event.EventKind.{EventKind}
use Rattle.event_book.specs.declared.event.EventKind.TheVariants as kinds
use Rattle.event_list.specs.Kept.{kept_of, without_silent}
use Rattle.event_list.specs.Silence.{is_silent}
use Rattle.event_list.proofs.Printed.{silent-in, silent-out}
use Rattle.serve_model.specs.Connections.{reply_by, reply_in}

silent-reply : (traced : Bool) (id : MemberId) (kind : EventKind) → is_silent traced kind ≡ true
    → reply_by id kind ≡ None
silent-reply traced id (kinds.Note note) is = absurd (true≢false (sym is))
silent-reply traced id _ is = refl

without-reply : (traced : Bool) (id : MemberId) (events : List Event)
    → reply_in id (without_silent traced events) ≡ reply_in id events
without-reply traced id [] = refl
without-reply traced id (event ∷ events) = by-test (is_silent traced event.kind) refl (without-reply traced id events)
  where
    by-test : (test : Bool) → is_silent traced event.kind ≡ test
        → reply_in id (without_silent traced events) ≡ reply_in id events
        → reply_in id (without_silent traced (event ∷ events)) ≡ reply_in id (event ∷ events)
    by-test true is others =
        ap (reply_in id) (silent-out traced event events is) ∙ others
        ∙ ap (λ (reply : Option ReplyText). option_or reply (reply_in id events))
        (sym (silent-reply traced id event.kind is))
    by-test false is others =
        ap (reply_in id) (silent-in traced event events is) ∙ ap (option_or (reply_by id event.kind)) others

pub kept-reply : (traced : Bool) (id : MemberId) (events : List Event)
    → reply_in id (kept_of traced events) ≡ reply_in id events
kept-reply traced id [] = refl
kept-reply traced id (event ∷ events) = ap (option_or (reply_by id event.kind)) (without-reply traced id events)
