-- Outputs of an agent, and what they leave of the cluster.
use Rattle.std.proofs.Common.{ℕ, ◌≡◌, ◌+◌, ◌<◌, ◌++◌, nat_le, Bool, false, List, [], ◌∷◌, length, Option, Some, None, slice_get, refl, sym, ap, ◌∙◌, arith}
use Rattle.std.proofs.lemmas.Bool.Decides.{nat_tests}
use Rattle.event_book.specs.declared.agent_process.AgentProcess.{AgentProcess}
use Rattle.event_book.specs.declared.event.Event.{Event}
use Rattle.event_book.specs.declared.event.EventKind.{EventKind}
use Rattle.event_book.specs.declared.event.EventKind.TheVariants as kinds
use Rattle.event_book.specs.declared.event.MessageEvent.TheVariants.{Sent}
use Rattle.event_book.specs.declared.link.LinkEnd.TheVariants as ends
use Rattle.event_book.specs.declared.member.Member.{Member}
use Rattle.event_book.specs.declared.message.Body.{Body}
use Rattle.event_book.specs.declared.message.Message.{Message}
use Rattle.event_book.specs.Flight.{InFlightFacts, in_flight, launched}
use Rattle.agent_model.specs.declared.output.Output.{Output}
use Rattle.agent_model.specs.declared.output.Output.TheVariants as outputs
use Rattle.agent_model.specs.declared.output.Outgoing.TheVariants as outgoing
use Rattle.agent_model.specs.declared.output.Telling.TheVariants as tellings
use Rattle.agent_model.specs.declared.output.Target.TheVariants as targets
use Rattle.agent_model.specs.Outputs.{with_output}
use Rattle.cluster_model.specs.declared.heard_message.HeardMessage.{HeardMessage}
use Rattle.cluster_model.specs.Cluster.{cluster_after, cluster_over}
use Rattle.cluster_model.specs.Commands.{kinds_of}
use Rattle.cluster_model.specs.Inputs.{agent_at}
use Rattle.cluster_model.specs.Limits.{most_in_flight}
use Rattle.cluster_model.specs.Messages.{agent_message, lost_at_once, output_events, send_events, sending_events}
use Rattle.cluster_model.specs.Parts.{each, events_of}
use Rattle.cluster_model.specs.Requests.{told_kind}
use Rattle.cluster_model.specs.State.{Cluster}
use Rattle.cluster_model.proofs.Founds.{told-holds}
use Rattle.cluster_model.proofs.Lists.{HoldsIf}
use Rattle.lease_model.proofs.Tools.{put-here, put-there}
use Rattle.lease_book.proofs.Entries.{in-with}
use Rattle.run_promise.proofs.Upholding.{over-append}
use Rattle.leading_law.specs.Leading.{AreTold, IsTold}
use Rattle.leading_law.specs.OwnInputs.{HasRoom, SendsOne}

-- ---- one message
abbrev pub Next : Cluster → Message → Cluster
Next cluster message = cluster_after cluster (kinds.Message (Sent (cluster.facts.sent + 1) message))

abbrev LostAfter : Cluster → Bool → ℕ → Cluster
LostAfter cluster test number = cluster_over cluster (events_of cluster (lost_at_once test number))

not-full : (most count : ℕ) → count < most → nat_le most count ≡ false
not-full most count less = grind (arith, nat_tests, less)

pub sent-whole : (cluster : Cluster) (message : Message) → HasRoom cluster
    → cluster_over cluster (send_events cluster message) ≡ Next cluster message
sent-whole cluster message room = ap (λ (b : Bool). LostAfter (Next cluster message) b (cluster.facts.sent + 1))
    (not-full most_in_flight (length cluster.facts.flight) room)

pub sends-one : (cluster : Cluster) (message : Message) → SendsOne message cluster (Next cluster message)
sends-one cluster message =
    let number : ℕ = cluster.facts.sent + 1 in
    let carried : InFlightFacts = launched cluster.facts.clock cluster.facts.keys message in
    record {
      carried = carried;
      is = in-with cluster.facts.flight number carried number
          ∙ put-here (in_flight cluster.facts.flight) number (Some carried);
      message_is = refl;
      at = refl;
      others = λ i other. in-with cluster.facts.flight number carried i
          ∙ put-there (in_flight cluster.facts.flight) number (Some carried) i other;
      sent = refl;
    }

-- ---- outputs, one after another
module _ (member : Member) (heard : HeardMessage) where
  abbrev pub Over : Cluster → List Output → Cluster
  Over cluster outputs = cluster_over cluster (each (output_events member heard) cluster outputs)

  pub over-both : (cluster : Cluster) (xs ys : List Output) → Over cluster (xs ++ ys) ≡ Over (Over cluster xs) ys
  over-both cluster [] ys = refl
  over-both cluster (x ∷ xs) ys =
      let first : List Event = output_events member heard cluster x in
      let later : Cluster = cluster_over cluster first in
      over-append cluster first (each (output_events member heard) later (xs ++ ys))
      ∙ over-both later xs ys
      ∙ ap (λ (c : Cluster). Over c ys) (sym (over-append cluster first (each (output_events member heard) later xs)))

  pub over-one : (cluster : Cluster) (output : Output)
      → Over cluster (output ∷ []) ≡ cluster_over cluster (output_events member heard cluster output)
  over-one cluster output = over-append cluster (output_events member heard cluster output) []

  pub over-with : (cluster : Cluster) (output : Output) (xs : List Output)
      → Over cluster (with_output output xs)
      ≡ cluster_over (Over cluster xs) (output_events member heard (Over cluster xs) output)
  over-with cluster output xs = over-both cluster xs (output ∷ []) ∙ over-one (Over cluster xs) output

  -- what an operator is told changes nothing
  abbrev Notes : EventKind → Type 0
  Notes kind = (cluster : Cluster) → cluster_after cluster kind ≡ cluster

  told-found : (cluster : Cluster) (found : Option EventKind) → HoldsIf Notes found
      → cluster_over cluster (events_of cluster (kinds_of found)) ≡ cluster
  told-found cluster None is = refl
  told-found cluster (Some kind) is = is cluster

  told-one : (cluster : Cluster) (output : Output) → IsTold output
      → cluster_over cluster (output_events member heard cluster output) ≡ cluster
  told-one cluster (outputs.Tell (tellings.Told request told)) is =
      let agent = agent_at cluster.agents member.id.number in
      told-found cluster (told_kind member agent told) (told-holds Notes member agent told (λ reply c. refl))
  told-one cluster _ is = absurd is

  pub told-same : (cluster : Cluster) (outputs : List Output) → AreTold outputs → Over cluster outputs ≡ cluster
  told-same cluster [] all = refl
  told-same cluster (output ∷ more) all =
      let first : List Event = output_events member heard cluster output in
      over-append cluster first (each (output_events member heard) (cluster_over cluster first) more)
      ∙ ap (λ (c : Cluster). Over c more) (told-one cluster output all.0)
      ∙ told-same cluster more all.1

  pub told-then : (cluster : Cluster) (output : Output) (xs : List Output) → AreTold xs
      → Over cluster (with_output output xs) ≡ cluster_over cluster (output_events member heard cluster output)
  told-then cluster output xs all = over-with cluster output xs
      ∙ ap (λ (c : Cluster). cluster_over c (output_events member heard c output)) (told-same cluster xs all)

  -- a question to the key store
  pub asks-store : (cluster : Cluster) (process : AgentProcess) (sequence : ℕ) (body : Body)
      → slice_get cluster.facts.processes member.id.number ≡ Some process → HasRoom cluster
      → cluster_over cluster
      (output_events member heard cluster (outputs.Message (outgoing.Send targets.Store sequence body)))
      ≡ Next cluster (agent_message member ends.Store process.incarnation sequence body)
  asks-store cluster process sequence body found room =
      ap (λ (p : Option AgentProcess).
      cluster_over cluster (sending_events cluster member p (Some ends.Store) sequence body))
      found
      ∙ sent-whole cluster (agent_message member ends.Store process.incarnation sequence body) room
