-- What the outputs of an input tell operators, as notes.
use Rattle.std.proofs.Common.{ℕ, ◌≡◌, ◌≢◌, ◌⊎◌, List, [], ◌∷◌, ◌++◌, Option, Some, None, refl, ◌∙◌, ap, sym, subst, inl, inr, append_assoc, eq-eqb, arith, ◌==◌, false}
use Rattle.std.proofs.lemmas.Option.{none-some, same_Some}
use Rattle.std.specs.Option.{option_or}
use Rattle.std.proofs.lemmas.Bool.Decides.{nat_tests}
use Rattle.pat_base.specs.declared.member_id.MemberId.{MemberId}
use Rattle.event_book.specs.declared.event.Event.{Event}
use Rattle.event_book.specs.declared.event.EventKind.{EventKind}
use Rattle.event_book.specs.declared.member.Member.{Member}
use Rattle.operator_answers.specs.declared.answer_text.Text.{Text}
use Rattle.operator_answers.specs.AnswerTexts.{answer_text}
use Rattle.rest_answer.specs.Replies.{text_of}
use Rattle.rest_message.specs.Replies.{ReplyText}
use Rattle.agent_model.specs.declared.operating.Told.{Told}
use Rattle.agent_model.specs.declared.operating.Told.TheVariants as tolds
use Rattle.agent_model.specs.declared.output.Output.{Output}
use Rattle.agent_model.specs.declared.output.Output.TheVariants as outputs
use Rattle.agent_model.specs.declared.output.Telling.TheVariants as tellings
use Rattle.agent_model.specs.Agents.{AgentFacts}
use Rattle.agent_answers.specs.OperatorAnswers.{told_in}
use Rattle.cluster_model.specs.declared.heard_message.HeardMessage.{HeardMessage}
use Rattle.cluster_model.specs.Cluster.{cluster_after, cluster_over}
use Rattle.cluster_model.specs.Commands.{kinds_of}
use Rattle.cluster_model.specs.Inputs.{agent_at}
use Rattle.cluster_model.specs.Messages.{output_events}
use Rattle.cluster_model.specs.Parts.{each, events_of}
use Rattle.cluster_model.specs.Requests.{replying, told_kind}
use Rattle.cluster_model.specs.State.{Cluster}
use Rattle.cluster_model.proofs.Founds.{told-holds}
use Rattle.cluster_model.proofs.Lists.{HoldsIf}
use Rattle.run_promise.proofs.Upholding.{over-append}
use Rattle.serve_model.specs.Connections.{reply_by, reply_in}
use Rattle.serve_model.proofs.Replies.{reply_in-append}
use Rattle.serve_law.proofs.Apart.{apart-silent, output-apart}

-- it is one of these
abbrev pub IsAmong : {X : Type 0} → X → List X → Type 0
IsAmong x [] = ⊥
IsAmong x (y ∷ ys) = (x ≡ y) ⊎ IsAmong x ys

pub among-behind : {X : Type 0} (x : X) (xs ys : List X) → IsAmong x ys → IsAmong x (xs ++ ys)
among-behind x [] ys is = is
among-behind x (y ∷ xs) ys is = inr (among-behind x xs ys is)

-- what an agent tells an operator is a reply of its member
abbrev IsReplyOf : Member → EventKind → Type 0
IsReplyOf member kind = (reply : ReplyText) × (kind ≡ replying member reply)

reply-of : (member : Member) (agent : Option AgentFacts) (told : Told) (kind : EventKind)
    → told_kind member agent told ≡ Some kind → IsReplyOf member kind
reply-of member agent told kind is =
    subst (HoldsIf (IsReplyOf member)) is (told-holds (IsReplyOf member) member agent told (λ reply. (reply, refl)))

eq-other : (m k : ℕ) → m ≢ k → (m == k) ≡ false
eq-other m k other = grind (arith, nat_tests)

-- the reply of a member is read by its number
pub own-reply : (id : MemberId) (member : Member) (reply : ReplyText) → member.id.number ≡ id.number
    → reply_by id (replying member reply) ≡ Some reply
own-reply id member reply same = rw (same, eq-eqb id.number id.number refl) refl

other-reply : (id : MemberId) (member : Member) (reply : ReplyText) → member.id.number ≢ id.number
    → reply_by id (replying member reply) ≡ None
other-reply id member reply other = rw (eq-other member.id.number id.number other) refl

module _ (id : MemberId) (member : Member) (heard : HeardMessage) where
  abbrev Brings : Cluster → List Output → List Event
  Brings cluster outs = each (output_events member heard) cluster outs

  -- what one output told an operator is replied, so far into the events
  pub record IsNoted (cluster : Cluster) (outs : List Output) (events : List Event) (reply : ReplyText) : Type 0 where
    pub meanwhile : List Event
    pub answer : Event
    pub later : List Event
    pub parts : meanwhile ++ answer ∷ later ≡ events
    pub told : ℕ × Told
    pub tells : IsAmong told (told_in outs)
    pub says : told_kind member (agent_at (cluster_over cluster meanwhile).agents member.id.number) told.1
        ≡ Some (replying member reply)
    pub notes : answer.kind ≡ replying member reply

  -- events without a reply stand before
  noted-behind : (cluster : Cluster) (outs more : List Output) (xs ys : List Event) (reply : ReplyText)
      → ((told : ℕ × Told) → IsAmong told (told_in more) → IsAmong told (told_in outs))
      → IsNoted (cluster_over cluster xs) more ys reply → IsNoted cluster outs (xs ++ ys) reply
  noted-behind cluster outs more xs ys reply among n = record {
    meanwhile = xs ++ n.meanwhile;
    answer = n.answer;
    later = n.later;
    parts = append_assoc xs n.meanwhile (n.answer ∷ n.later) ∙ ap (λ (es : List Event). xs ++ es) n.parts;
    told = n.told;
    tells = among n.told n.tells;
    says = subst
        (λ (c : Cluster). told_kind member (agent_at c.agents member.id.number) n.told.1 ≡ Some (replying member reply))
        (sym (over-append cluster xs n.meanwhile)) n.says;
    notes = n.notes;
  }

  -- where they reply nothing, what all reply is what those behind them do
  reply-later : (xs ys : List Event) (reply : ReplyText) → reply_in id xs ≡ None
      → reply_in id (xs ++ ys) ≡ Some reply → reply_in id ys ≡ Some reply
  reply-later xs ys reply none is =
      ap (λ (r : Option ReplyText). option_or r (reply_in id ys)) (sym none) ∙ (sym (reply_in-append id xs ys) ∙ is)

  module _ (same : member.id.number ≡ id.number) where
    -- what an output tells, if it is anything
    told-noted : (cluster : Cluster) (request : ℕ) (told : Told) (more : List Output) (reply : ReplyText)
        (found : Option EventKind) → told_kind member (agent_at cluster.agents member.id.number) told ≡ found
        → ((later : Cluster) → reply_in id (Brings later more) ≡ Some reply →
        IsNoted later more (Brings later more) reply)
        → reply_in id
        (events_of cluster (kinds_of found) ++ Brings (cluster_over cluster (events_of cluster (kinds_of found))) more)
        ≡ Some reply
        → IsNoted cluster (outputs.Tell (tellings.Told request told) ∷ more)
        (events_of cluster (kinds_of found) ++ Brings (cluster_over cluster (events_of cluster (kinds_of found))) more)
        reply
    told-noted cluster request told more reply None says others is =
        noted-behind cluster (outputs.Tell (tellings.Told request told) ∷ more) more [] (Brings cluster more) reply
        (λ t among. inr among) (others cluster is)
    told-noted cluster request told more reply (Some kind) says others is =
        let r = reply-of member (agent_at cluster.agents member.id.number) told kind says in
        let first : reply_by id kind ≡ Some r.0 = ap (reply_by id) r.1 ∙ own-reply id member r.0 same in
        let so : r.0 ≡ reply = same_Some _ _
        (ap (λ (o : Option ReplyText). option_or o (reply_in id (Brings (cluster_after cluster kind) more))) (sym first)
        ∙ is) in
        let replies : kind ≡ replying member reply = r.1 ∙ ap (replying member) so in
        record {
          meanwhile = [];
          answer = record { tick = record { 0 = (cluster_after cluster kind).facts.clock }; kind = kind };
          later = Brings (cluster_after cluster kind) more;
          parts = refl;
          told = (request, told);
          tells = inl refl;
          says = says ∙ ap Some replies;
          notes = replies;
        }

    -- a reply among what outputs bring is one that they tell
    pub each-noted : (cluster : Cluster) (outs : List Output) (reply : ReplyText)
        → reply_in id (Brings cluster outs) ≡ Some reply → IsNoted cluster outs (Brings cluster outs) reply
    each-noted cluster [] reply is = absurd (none-some _ is)
    each-noted cluster (outputs.Tell (tellings.Told request told) ∷ more) reply is =
        told-noted cluster request told more reply (told_kind member (agent_at cluster.agents member.id.number) told)
        refl (λ later so. each-noted later more reply so) is
    each-noted cluster (output ∷ more) reply is =
        let xs = output_events member heard cluster output in
        let none = apart-silent id xs (output-apart member heard cluster output tt) in
        noted-behind cluster (output ∷ more) more xs (Brings (cluster_over cluster xs) more) reply (λ t among. among)
        (each-noted (cluster_over cluster xs) more reply
        (reply-later xs (Brings (cluster_over cluster xs) more) reply none is))

    -- words that are told are replied
    text-replied : (cluster : Cluster) (request status : ℕ) (text : Text) (more : List Output)
        → reply_in id (Brings cluster (outputs.Tell (tellings.Told request (tolds.Text status text)) ∷ more)) ≢ None
    text-replied cluster request status text more none =
        let reply = text_of status (answer_text text) in
        none-some _
        (sym none
        ∙ ap (λ (o : Option ReplyText).
        option_or o (reply_in id (Brings (cluster_after cluster (replying member reply)) more)))
        (own-reply id member reply same))

    stays-none : (xs ys : List Event) → reply_in id (xs ++ ys) ≡ None → reply_in id ys ≡ None
    stays-none xs ys none = second (reply_in id xs) (sym (reply_in-append id xs ys) ∙ none)
      where
        second : (found : Option ReplyText) → option_or found (reply_in id ys) ≡ None → reply_in id ys ≡ None
        second None e = e
        second (Some reply) e = absurd (none-some _ (sym e))

    pub each-replied : (cluster : Cluster) (outs more : List Output) (request status : ℕ) (text : Text)
        → reply_in id (Brings cluster (outs ++ outputs.Tell (tellings.Told request (tolds.Text status text)) ∷ more))
        ≢ None
    each-replied cluster [] more request status text none = text-replied cluster request status text more none
    each-replied cluster (output ∷ outs) more request status text none =
        let xs = output_events member heard cluster output in
        let rest = outs ++ outputs.Tell (tellings.Told request (tolds.Text status text)) ∷ more in
        each-replied (cluster_over cluster xs) outs more request status text
        (stays-none xs (Brings (cluster_over cluster xs) rest) none)

  -- the agent of another member replies nothing here
  module _ (other : member.id.number ≢ id.number) where
    silent-found : (cluster : Cluster) (told : Told) (found : Option EventKind)
        → told_kind member (agent_at cluster.agents member.id.number) told ≡ found
        → reply_in id (events_of cluster (kinds_of found)) ≡ None
    silent-found cluster told None says = refl
    silent-found cluster told (Some kind) says =
        let r = reply-of member (agent_at cluster.agents member.id.number) told kind says in
        ap (λ (o : Option ReplyText). option_or o None) (ap (reply_by id) r.1 ∙ other-reply id member r.0 other)

    silent-then : (xs ys : List Event) → reply_in id xs ≡ None → reply_in id ys ≡ None → reply_in id (xs ++ ys) ≡ None
    silent-then xs ys first second =
        reply_in-append id xs ys ∙ (ap (λ (r : Option ReplyText). option_or r (reply_in id ys)) first ∙ second)

    pub each-silent : (cluster : Cluster) (outs : List Output) → reply_in id (Brings cluster outs) ≡ None
    each-silent cluster [] = refl
    each-silent cluster (outputs.Tell (tellings.Told request told) ∷ more) =
        let found = told_kind member (agent_at cluster.agents member.id.number) told in
        let xs = events_of cluster (kinds_of found) in
        silent-then xs (Brings (cluster_over cluster xs) more) (silent-found cluster told found refl)
        (each-silent (cluster_over cluster xs) more)
    each-silent cluster (output ∷ more) =
        let xs = output_events member heard cluster output in
        silent-then xs (Brings (cluster_over cluster xs) more)
        (apart-silent id xs (output-apart member heard cluster output tt)) (each-silent (cluster_over cluster xs) more)
