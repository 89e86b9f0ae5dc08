-- What a leader does in its own inputs: its server serves on, and there was room for what it sent to the key store.
use Rattle.std.proofs.Common.{ℕ, ◌≡◌, ◌+◌, ◌<◌, Bool, true, false, cond, List, [], ◌∷◌, length, Option, Some, None, option_map, option_and_then, slice_get, refl, sym, ap, subst}
use Rattle.pat_base.specs.declared.server_state.Required.{Required}
use Rattle.pat_base.specs.declared.ticks.Ticks.{Ticks}
use Rattle.pg_model.specs.Facts.{ServerFacts}
use Rattle.event_book.specs.declared.agent_process.AgentProcess.{AgentProcess}
use Rattle.event_book.specs.declared.event.Event.{Event}
use Rattle.event_book.specs.declared.event.EventKind.TheVariants as kinds
use Rattle.event_book.specs.declared.event.ReplicationEvent.TheVariants as replications
use Rattle.event_book.specs.declared.link.LinkEnd.{LinkEnd}
use Rattle.event_book.specs.declared.link.LinkEnd.TheVariants as ends
use Rattle.event_book.specs.declared.member.Member.{Member}
use Rattle.event_book.specs.declared.message.Body.{Body}
use Rattle.event_book.specs.declared.message.Body.TheVariants as bodies
use Rattle.event_book.specs.Kinds.{AllAre}
use Rattle.event_book.specs.Members.{server_of}
use Rattle.agent_model.specs.declared.heard.Heard.{Heard}
use Rattle.agent_model.specs.declared.output.Output.{Output}
use Rattle.agent_model.specs.declared.output.Output.TheVariants as outputs
use Rattle.agent_model.specs.declared.output.Feeding.TheVariants as feedings
use Rattle.agent_model.specs.declared.output.Outgoing.TheVariants as outgoing
use Rattle.agent_model.specs.declared.output.Telling.TheVariants as tellings
use Rattle.agent_model.specs.declared.output.Target.TheVariants as targets
use Rattle.agent_model.specs.Acting.{fed_until}
use Rattle.agent_model.specs.Agents.{Outcome}
use Rattle.agent_model.specs.Outputs.{with_output}
use Rattle.agent_model.specs.Table.{step}
use Rattle.cluster_model.specs.declared.heard_message.HeardMessage.{HeardMessage}
use Rattle.cluster_model.specs.Cluster.{cluster_over}
use Rattle.cluster_model.specs.Commands.{kinds_of}
use Rattle.cluster_model.specs.Inputs.{agent_at, moment_of, outcome_of, standing_of}
use Rattle.cluster_model.specs.Limits.{most_in_flight}
use Rattle.cluster_model.specs.Machines.{points_of}
use Rattle.cluster_model.specs.Messages.{agent_message, input_events, lost_at_once, output_events, receiver_of, replying_events, sending_events}
use Rattle.cluster_model.specs.Orders.{is_same_required, require_of, required_names, server_at}
use Rattle.cluster_model.specs.Parts.{each, events_of}
use Rattle.cluster_model.specs.Requests.{told_kind}
use Rattle.cluster_model.specs.State.{Cluster}
use Rattle.cluster_model.proofs.Founds.{told-holds}
use Rattle.cluster_model.proofs.Lists.{HoldsIf, all-both, all-kinds, one-kind}
use Rattle.run_promise.proofs.Upholding.{over-append}
use Rattle.leading_law.specs.Leading.{AreTold, IsAnswer, IsTold}
use Rattle.leading_law.proofs.Sending.{Over}
use Rattle.leading_parts.specs.Alone.{LeaveAlone}
use Rattle.leading_parts.specs.Aside.{ServesOn}
use Rattle.leading_parts.proofs.Answering.{alone-back, alone-front, room-for}

-- ---- outputs that order its server nothing but whom its commits wait for
abbrev pub IsMild : Output → Type 0
IsMild (outputs.Message (outgoing.Send to sequence body)) = Unit {0}
IsMild (outputs.Message (outgoing.Answer to incarnation sequence answer)) = Unit {0}
IsMild (outputs.Message (outgoing.FailsafeAnswer to incarnation sequence accepted)) = Unit {0}
IsMild (outputs.Tell (tellings.Told request told)) = Unit {0}
IsMild (outputs.Require required) = Unit {0}
IsMild (outputs.Watchdog (feedings.Fed until)) = Unit {0}
IsMild _ = ⊥

abbrev pub AreMild : List Output → Type 0
AreMild [] = Unit {0}
AreMild (output ∷ more) = IsMild output × AreMild more

pub mild-with : (output : Output) (xs : List Output) → IsMild output → AreMild xs → AreMild (with_output output xs)
mild-with output [] is all = (is, tt)
mild-with output (x ∷ xs) is all = (all.0, mild-with output xs is all.1)

told-one : (output : Output) → IsTold output → IsMild output
told-one (outputs.Tell (tellings.Told request told)) is = tt
told-one _ is = absurd is

pub told-mild : (xs : List Output) → AreTold xs → AreMild xs
told-mild [] all = tt
told-mild (x ∷ xs) all = (told-one x all.0, told-mild xs all.1)

pub answer-mild : (output : Output) → IsAnswer output → IsMild output
answer-mild (outputs.Message (outgoing.Answer to incarnation sequence answer)) is = tt
answer-mild (outputs.Message (outgoing.FailsafeAnswer to incarnation sequence accepted)) is = tt
answer-mild _ is = absurd is

pub fed-mild : (until : Option Ticks) (xs : List Output) → AreMild xs → AreMild (fed_until until xs)
fed-mild None xs all = all
fed-mild (Some until) xs all = mild-with (outputs.Watchdog (feedings.Fed until)) xs tt all

-- ---- by those it serves on
module _ (n : ℕ) (member : Member) (said : HeardMessage) where
  lost-serves : (cluster : Cluster) (test : Bool) (number : ℕ)
      → AllAre (ServesOn n) (events_of cluster (lost_at_once test number))
  lost-serves cluster true number = (tt, tt)
  lost-serves cluster false number = tt

  sending-serves : (cluster : Cluster) (found : Option AgentProcess) (to : Option LinkEnd) (sequence : ℕ) (body : Body)
      → AllAre (ServesOn n) (sending_events cluster member found to sequence body)
  sending-serves cluster None to sequence body = tt
  sending-serves cluster (Some process) None sequence body = tt
  sending-serves cluster (Some process) (Some to) sequence body = (tt, lost-serves _ _ (cluster.facts.sent + 1))

  replying-serves : (cluster : Cluster) (to : Option LinkEnd) (incarnation sequence : ℕ) (body : Body)
      → AllAre (ServesOn n) (replying_events cluster member to incarnation sequence body)
  replying-serves cluster None incarnation sequence body = tt
  replying-serves cluster (Some to) incarnation sequence body = (tt, lost-serves _ _ (cluster.facts.sent + 1))

  required-serves : (cluster : Cluster) (required : Required) (found : Option ServerFacts)
      → HoldsIf (ServesOn n) (option_and_then (require_of cluster.facts.members member required) found)
  required-serves cluster required None = tt
  required-serves cluster required (Some s) = by (is_same_required s.required required)
    where
      by : (same : Bool)
          → HoldsIf (ServesOn n)
          (cond same None
          (Some (kinds.Replication (replications.RequiredSet (server_of member) required
          (required_names cluster.facts.members required)))))
      by true = tt
      by false = tt

  output-serves : (output : Output) → IsMild output → (cluster : Cluster)
      → AllAre (ServesOn n) (output_events member said cluster output)
  output-serves (outputs.Message (outgoing.Send to sequence body)) is cluster =
      sending-serves cluster (slice_get cluster.facts.processes member.id.number)
      (receiver_of cluster.facts.members to) sequence body
  output-serves (outputs.Message (outgoing.Answer to incarnation sequence answer)) is cluster =
      replying-serves cluster (receiver_of cluster.facts.members (targets.Member to)) incarnation sequence
      (bodies.Answer answer)
  output-serves (outputs.Message (outgoing.FailsafeAnswer to incarnation sequence accepted)) is cluster =
      replying-serves cluster (receiver_of cluster.facts.members (targets.Member to)) incarnation sequence
      (bodies.FailsafeAnswer accepted)
  output-serves (outputs.Tell (tellings.Told request told)) is cluster =
      let agent = agent_at cluster.agents member.id.number in
      all-kinds (ServesOn n) cluster (kinds_of (told_kind member agent told))
      (one-kind (ServesOn n) (told_kind member agent told)
      (told-holds (ServesOn n) member agent told (λ reply. tt)))
  output-serves (outputs.Require required) is cluster =
      let found = option_and_then (require_of cluster.facts.members member required) (server_at cluster member) in
      all-kinds (ServesOn n) cluster (kinds_of found)
      (one-kind (ServesOn n) found (required-serves cluster required (server_at cluster member)))
  output-serves (outputs.Watchdog (feedings.Fed until)) is cluster = (tt, (tt, tt))
  output-serves _ is cluster = absurd is

  pub outputs-serve : (list : List Output) → AreMild list → (cluster : Cluster)
      → AllAre (ServesOn n) (each (output_events member said) cluster list)
  outputs-serve [] all cluster = tt
  outputs-serve (output ∷ more) all cluster =
      let first : List Event = output_events member said cluster output in
      let later : Cluster = cluster_over cluster first in
      all-both (ServesOn n) first (each (output_events member said) later more) (output-serves output all.0 cluster)
      (outputs-serve more all.1 later)

  pub input-serves : (cluster later : Cluster) (heard : Heard) (o : Outcome) → standing_of cluster member ≡ Some o
      → AreMild (step (moment_of cluster) (points_of cluster member) heard o).outputs
      → AllAre (ServesOn n) (input_events later member said (outcome_of cluster member heard))
  input-serves cluster later heard o stands mild =
      subst (λ (out : Option Outcome). AllAre (ServesOn n) (input_events later member said out))
      (sym (ap (option_map (step (moment_of cluster) (points_of cluster member) heard)) stands))
      (outputs-serve (step (moment_of cluster) (points_of cluster member) heard o).outputs mild later)

-- ---- there was room for its question
module _ (member : Member) (said : HeardMessage) where
  abbrev N : ℕ
  N = member.id.number

  -- what comes of the last output leaves it alone, where what comes of all does
  last-alone : (cluster : Cluster) (xs : List Output) (output : Output)
      → LeaveAlone N cluster (each (output_events member said) cluster (with_output output xs))
      → LeaveAlone N (Over member said cluster xs) (output_events member said (Over member said cluster xs) output)
  last-alone cluster [] output alone = alone-front N cluster (output_events member said cluster output) [] alone
  last-alone cluster (x ∷ xs) output alone =
      let first : List Event = output_events member said cluster x in
      let later : Cluster = cluster_over cluster first in
      subst (λ (c : Cluster). LeaveAlone N c (output_events member said c output))
      (sym (over-append cluster first (each (output_events member said) later xs)))
      (last-alone later xs output
      (alone-back N cluster first (each (output_events member said) later (with_output output xs)) alone))

  sent-room : (cluster : Cluster) (process : AgentProcess) (sequence : ℕ) (body : Body)
      → slice_get cluster.facts.processes N ≡ Some process
      → LeaveAlone N cluster
      (output_events member said cluster (outputs.Message (outgoing.Send targets.Store sequence body)))
      → length cluster.facts.flight < most_in_flight
  sent-room cluster process sequence body found alone =
      room-for N cluster (agent_message member ends.Store process.incarnation sequence body) refl
      (subst (λ (p : Option AgentProcess).
      LeaveAlone N cluster (sending_events cluster member p (Some ends.Store) sequence body))
      found alone)

  -- behind outputs that leave the flight and its process, its question is sent
  pub question-room : (cluster : Cluster) (process : AgentProcess) (xs : List Output) (sequence : ℕ) (body : Body)
      → slice_get (Over member said cluster xs).facts.processes N ≡ Some process
      → LeaveAlone N cluster
      (each (output_events member said) cluster
      (with_output (outputs.Message (outgoing.Send targets.Store sequence body)) xs))
      → length (Over member said cluster xs).facts.flight < most_in_flight
  question-room cluster process xs sequence body found alone =
      sent-room (Over member said cluster xs) process sequence body found
      (last-alone cluster xs (outputs.Message (outgoing.Send targets.Store sequence body)) alone)

  -- the outputs of an input
  pub input-outputs : (cluster later : Cluster) (heard : Heard) (o : Outcome) (outs : List Output)
      → standing_of cluster member ≡ Some o
      → (step (moment_of cluster) (points_of cluster member) heard o).outputs ≡ outs
      → LeaveAlone N later (input_events later member said (outcome_of cluster member heard))
      → LeaveAlone N later (each (output_events member said) later outs)
  input-outputs cluster later heard o outs stands same alone =
      subst (λ (xs : List Output). LeaveAlone N later (each (output_events member said) later xs)) same
      (subst (λ (out : Option Outcome). LeaveAlone N later (input_events later member said out))
      (ap (option_map (step (moment_of cluster) (points_of cluster member) heard)) stands) alone)
