-- An input of a member that is asked by another: it answers that one, and the law's input covers what comes before it.
use Rattle.std.proofs.Common.{ℕ, ◌≡◌, ◌≤◌, ◌++◌, Bool, true, false, if◌then◌else◌, List, [], ◌∷◌, Option, Some, None, slice_get, All, refl, sym, ap, ◌∙◌, subst}
use Rattle.std.proofs.lemmas.List.Elements.{All-nil, All-push, All-weaker}
use Rattle.std.specs.Option.{ForSome}
use Rattle.pat_base.specs.declared.lsn.Lsn.{Lsn}
use Rattle.pat_base.specs.declared.member_id.MemberId.{MemberId}
use Rattle.pat_base.specs.declared.peer_answer.PeerAnswer.{PeerAnswer}
use Rattle.wal_model.specs.declared.entry.Entry.{Entry}
use Rattle.pg_model.specs.declared.status.ServerStatus.{ServerStatus}
use Rattle.event_book.specs.declared.event.Event.{Event}
use Rattle.event_book.specs.declared.member.Member.{Member}
use Rattle.script_model.specs.Script.{HeadText}
use Rattle.agent_model.specs.declared.heard.Heard.TheVariants.{Asked}
use Rattle.agent_model.specs.declared.output.Output.{Output}
use Rattle.agent_model.specs.declared.output.Output.TheVariants as outputs
use Rattle.agent_model.specs.declared.output.Outgoing.TheVariants as outgoing
use Rattle.agent_model.specs.Agents.{Outcome}
use Rattle.agent_model.specs.Answers.{peer_answer_of}
use Rattle.agent_model.specs.Reconciling.{reconciled}
use Rattle.agent_commit_law.specs.Committing.{IsCovered, IsEndOf}
use Rattle.agent_model.specs.Info.{runs}
use Rattle.agent_outputs.specs.Orders.{IsOfTable}
use Rattle.agent_model.specs.Table.{step}
use Rattle.agent_commit_law.proofs.CommitGrounds.{before-behind}
use Rattle.agent_commit_law.proofs.CommitInputs.{before-covered}
use Rattle.agent_commit_law.proofs.CommitQuiet.{IsUnasking, covered as covered-quiet, unasking}
use Rattle.cluster_model.specs.Cluster.{cluster_after, cluster_over}
use Rattle.cluster_model.specs.Inputs.{moment_of}
use Rattle.cluster_model.specs.Machines.{points_of}
use Rattle.cluster_model.specs.Parts.{each}
use Rattle.cluster_model.specs.State.{Cluster}
use Rattle.lease_model.proofs.Tools.{none-some, some-is}
use Rattle.commit_actions.specs.Actions.{Input, IsNumbered, act}
use Rattle.commit_actions.specs.Past.{Past, Setup, log_found, past_over, state_of}
use Rattle.commit_actions.specs.States.{State}
use Rattle.run_promise.specs.Members.{member_count}
use Rattle.commit_parts.specs.Bridged.{CommitsBridged}
use Rattle.commit_parts.specs.Reading.{past_of, setup_of, state_of_run, volatile_of}
use Rattle.commit_inputs.proofs.Bringing.{Lawful, all-front, each-last, front-page, given-none}
use Rattle.commit_outputs.proofs.Covering.{IsCarried, Told, carried}
use Rattle.commit_inputs.proofs.Inputs.{Acting, After, Before, Events, First, Open, Page, PageOf, Part, Theirs, front-told, page-moves, page-shown, stands, states-behind, table}
use Rattle.commit_parts.proofs.Moving.{moves-then}
use Rattle.commit_parts.specs.Moving.{Moves}
use Rattle.commit_parts.proofs.Numbers.{numbered-by}
use Rattle.commit_outputs.proofs.Page.{BeginsNone, PassesNone, RequiresNone, carried-begins, carried-requires, covered-passes, none-begins}
use Rattle.commit_outputs.proofs.Sending.{answer-moves}
use Rattle.commit_outputs.specs.Answering.{LogEndsAt}
use Rattle.pat_base.specs.declared.member_id.TheConstants.{MOST_MEMBERS}

if-some : (test : Bool) (found : Option Lsn) (end : Lsn) → (if test then found else None) ≡ Some end → found ≡ Some end
if-some true found end is = is
if-some false found end is = absurd (none-some end is)

-- where a log ends
log-ends : (s : State) (m : ℕ) (found : Option Lsn) (log : Option (List Entry)) (end : Lsn) → found ≡ Some end
    → (s.members m).log ≡ log → IsEndOf found log → LogEndsAt s m end
log-ends s m None log end is at ends = absurd (none-some end is)
log-ends s m (Some found) None end is at ends = absurd ends
log-ends s m (Some found) (Some log) end is at ends = record {
  log = record { entries = log; is = at };
  end_is = ap (λ (e : Lsn). e.position) (sym (some-is found end is)) ∙ ends;
}

-- members stay
members-over : (cluster : Cluster) (events : List Event)
    → (cluster_over cluster events).facts.members ≡ cluster.facts.members
members-over cluster [] = refl
members-over cluster (event ∷ events) = members-over (cluster_after cluster event.kind) events

module _ (head : HeadText) (book : List Event) (cluster : Cluster) (good : CommitsBridged head book cluster)
    (few : member_count head ≤ MOST_MEMBERS) (a : Acting head book cluster)
    (from : MemberId) (incarnation sequence : ℕ) (asked : a.heard ≡ Asked from incarnation sequence) where
  abbrev M : ℕ
  M = a.member.id.number

  abbrev Law : Setup
  Law = setup_of head

  abbrev P : Past
  P = past_of head book

  abbrev Outs : List Output
  Outs = (After head book cluster good a).outputs

  -- what comes before the input
  abbrev Stood : Outcome
  Stood = reconciled (moment_of cluster) (Before head book cluster good a)

  abbrev Reply : PeerAnswer
  Reply = peer_answer_of Stood.knows.who Stood.machine.server

  abbrev Answer : Output
  Answer = outputs.Message (outgoing.Answer from incarnation sequence Reply)

  abbrev whole : Stood.outputs ++ Answer ∷ [] ≡ Outs
  whole = ap
      (λ heard. (step (moment_of cluster) (points_of cluster a.member) heard (Before head book cluster good a)).outputs)
      (sym asked)

  abbrev covered : All IsCovered Stood.outputs
  covered = before-covered (moment_of cluster) (Before head book cluster good a) (All-nil IsCovered)

  abbrev of_table : All IsOfTable Stood.outputs
  of_table = all-front IsOfTable Stood.outputs (Answer ∷ []) Outs whole (table head book cluster good a)

  pub unasking-all : All (IsUnasking false) Outs
  unasking-all = subst (λ (l : List Output). All (IsUnasking false) l) whole
      (All-push (IsUnasking false) Stood.outputs Answer
      (unasking false Stood.outputs (covered-quiet false Stood.outputs covered)) tt)

  requires-none : All RequiresNone Outs
  requires-none = subst (λ (l : List Output). All RequiresNone l) whole
      (All-push RequiresNone Stood.outputs Answer
      (All-weaker IsCarried RequiresNone carried-requires Stood.outputs (carried Stood.outputs covered)) tt)

  begins-none : All BeginsNone Outs
  begins-none = subst (λ (l : List Output). All BeginsNone l) whole
      (All-push BeginsNone Stood.outputs Answer
      (All-weaker IsCarried BeginsNone carried-begins Stood.outputs (carried Stood.outputs covered)) tt)

  passes-none : All PassesNone Outs
  passes-none = subst (λ (l : List Output). All PassesNone l) whole
      (All-push PassesNone Stood.outputs Answer
      (All-weaker IsCovered PassesNone covered-passes Stood.outputs covered) tt)

  abbrev Upto : List Event
  Upto = Page head book cluster good a Stood.outputs (carried Stood.outputs covered) of_table

  abbrev Reached : Cluster
  Reached = cluster_over cluster Upto

  page : PageOf head book cluster good a Upto None
  page = front-page head book cluster good few a Stood.outputs covered of_table unasking-all requires-none passes-none

  abbrev Replying : List Event
  Replying = Part head book cluster good a Reached Answer

  whole-events : Events head book cluster good a ≡ Upto ++ Replying
  whole-events =
      ap (λ (l : List Output).
      Open head book cluster good a ∷ each (Part head book cluster good a) (First head book cluster good a) l)
      (sym whole)
      ∙ ap (λ (l : List Event). Open head book cluster good a ∷ l)
      (each-last (Part head book cluster good a) (First head book cluster good a) Stood.outputs Answer)

  -- the law's state behind the input
  abbrev Later : State
  Later = state_of Law (past_over P Upto) (volatile_of Reached)

  later-is : act (state_of_run head book cluster) (Input M (Theirs head book cluster good a None)) ≡ Later
  later-is = sym (page-shown head book cluster good a Upto None page)
      ∙ ap (state_of Law (past_over P Upto))
      (states-behind head book cluster good a Upto None page (none-begins Outs begins-none))

  numbered : (m : ℕ) → IsNumbered ((state_of_run head book cluster).members m) incarnation sequence
      → IsNumbered (Later.members m) incarnation sequence
  numbered m is = subst (λ (s : State). IsNumbered (s.members m) incarnation sequence) later-is
      (numbered-by (state_of_run head book cluster) (Input M (Theirs head book cluster good a None)) (
        (Lawful head book cluster good few a None page.sent).lawful,
        given-none head book cluster good few a page.sent,
      ) m incarnation sequence is)

  ends : ForSome Reply.end (LogEndsAt Later M)
  ends = λ end is. log-ends Later M a.machine.server.end (Later.members M).log end
      (ap (λ (s : ServerStatus). s.end)
      (sym (before-behind (moment_of cluster) (Before head book cluster good a)).server)
      ∙ if-some (runs Stood.machine.server.state) Stood.machine.server.end end is)
      refl
      (subst (λ (l : Option (List Entry)). IsEndOf a.machine.server.end l) log-same
      (stands head book cluster good a).end)
    where
      log-same : ((state_of_run head book cluster).members M).log ≡ (Later.members M).log
      log-same = ap (λ (t : Told). log_found (slice_get t.logs.members M))
          (sym (front-told head book cluster good a Stood.outputs (carried Stood.outputs covered) of_table))

  pub answers-moves : ((peer : Member) → slice_get cluster.facts.members from.number ≡ Some peer →
      IsNumbered ((state_of_run head book cluster).members peer.id.number) incarnation sequence)
      → Moves Law P cluster (Events head book cluster good a)
  answers-moves asks = subst (λ (l : List Event). Moves Law P cluster l) (sym whole-events)
      (moves-then Law P cluster Upto Replying
      (page-moves head book cluster good a Upto None page (none-begins Outs begins-none)
      (given-none head book cluster good few a page.sent))
      (λ fits. answer-moves Law a.member (past_over P Upto) Reached from incarnation sequence Reply fits
      (λ peer is. numbered peer.id.number (asks peer
      (ap (λ (members : List Member). slice_get members from.number) (sym (members-over cluster Upto)) ∙ is)))
      ends))
