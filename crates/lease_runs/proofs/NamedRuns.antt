-- Each run names who begins.
use Rattle.std.proofs.Common.{ℕ, ◌≡◌, ◌≤◌, ◌++◌, List, [], length, slice_get, Option, Some, None, option_map, refl, ◌∙◌, ap, sym, subst}
use Rattle.pat_base.specs.declared.member_id.TheConstants.{MOST_MEMBERS}
use Rattle.store_keys.specs.declared.action.OperatorAction.{OperatorAction}
use Rattle.cluster_model.specs.declared.step.Step.{Step}
use Rattle.script_model.specs.Script.{HeadText, IsHead, names_of}
use Rattle.event_book.specs.declared.event.AgentEvent.TheVariants.{Operated, Woken}
use Rattle.event_book.specs.declared.event.Event.{Event}
use Rattle.event_book.specs.declared.event.EventKind.{EventKind}
use Rattle.event_book.specs.declared.event.EventKind.TheVariants as kinds
use Rattle.event_book.specs.declared.event.MessageEvent.TheVariants.{Delivered}
use Rattle.event_book.specs.declared.link.LinkEnd.{LinkEnd}
use Rattle.event_book.specs.declared.link.LinkEnd.TheVariants as ends
use Rattle.event_book.specs.declared.member.Member.{Member}
use Rattle.event_book.specs.Kinds.{AllAre}
use Rattle.agent_model.specs.declared.heard.Heard.TheVariants.{Operated as HearsOperator, Wake}
use Rattle.agent_model.specs.declared.output.Output.{Output}
use Rattle.agent_model.specs.declared.output.Target.{Target}
use Rattle.agent_model.specs.declared.output.Target.TheVariants as targets
use Rattle.agent_model.specs.Agents.{Outcome}
use Rattle.cluster_model.specs.declared.heard_message.HeardMessage.{HeardMessage}
use Rattle.cluster_model.specs.Cluster.{cluster_after}
use Rattle.cluster_model.specs.Hearing.{heard_from}
use Rattle.cluster_model.specs.Inputs.{outcome_of, outcome_of_heard, outputs_of}
use Rattle.cluster_model.specs.Messages.{heard_message, input_events, no_message, output_events, receiver_of}
use Rattle.cluster_model.specs.Next.{run_events}
use Rattle.cluster_model.specs.Parts.{event_of}
use Rattle.cluster_model.specs.Requests.{action_of}
use Rattle.cluster_model.specs.Starting.{cluster_of}
use Rattle.cluster_model.specs.State.{Cluster}
use Rattle.cluster_model.proofs.Outputs.{HoldsOfOutputs, output-holds}
use Rattle.lease_model.proofs.Tools.{none-some}
use Rattle.run_promise.specs.Members.{declared_members, IsDeclared}
use Rattle.run_promise.specs.Parts.{PartsUphold}
use Rattle.run_promise.specs.Promise.{Upholds, UpholdsAlways}
use Rattle.run_promise.proofs.Members.{declared-at, declared-named, few-names, declared-in}
use Rattle.run_promise.proofs.Upholding.{upheld-then, upholds-all}
use Rattle.run_promise.proofs.Walking.{upholds-run}
use Rattle.summary_model.specs.Listed.{NamesServer}
use Rattle.lease_runs.proofs.NamedParts.{upheld-arrival, upholds-acknowledge, upholds-command, upholds-promote, upholds-receive, upholds-restart, upholds-tick}
use Rattle.lease_runs.proofs.Naming.{IsDeclaredEnd, IsOwn, NamesSoFar, composable, names_told, upheld-own}

module _ (head : HeadText) (few : length (names_of head) ≤ MOST_MEMBERS) where
  abbrev Own : EventKind → Type 0
  Own kind = IsOwn head kind

  -- whom an agent writes to, if that is declared
  abbrev IsOwnReceiver : Option LinkEnd → Type 0
  IsOwnReceiver None = Unit {0}
  IsOwnReceiver (Some to) = IsDeclaredEnd head to

  found-declared : (members : List Member) → members ≡ declared_members head → (i : ℕ) (found : Option Member)
      → slice_get members i ≡ found
      → IsOwnReceiver (option_map (λ (m : Member). ends.Member m) found)
  found-declared members same i None is = tt
  found-declared members same i (Some m) is =
      declared-at head few i m (sym (ap (λ (ms : List Member). slice_get ms i) same) ∙ is)

  receiver-declared : (members : List Member) → members ≡ declared_members head → (to : Target)
      → IsOwnReceiver (receiver_of members to)
  receiver-declared members same targets.Store = tt
  receiver-declared members same (targets.Member id) =
      found-declared members same id.number (slice_get members id.number) refl

  -- ---- an output of the agent of a declared member
  module _ (member : Member) (is : IsDeclared head member) where
    holds-own : (cluster : Cluster) → cluster.facts.members ≡ declared_members head
        → HoldsOfOutputs Own cluster member
    holds-own cluster members = record {
      messages = record {
        sent = λ target to found incarnation sequence body.
            (is, subst IsOwnReceiver found (receiver-declared cluster.facts.members members target));
        lost = tt;
      };
      orders = λ order. record {
        begins = λ lets timeline. declared-named head few member is;
        lacks = λ lets. tt;
        starts_as_primary = λ lets. tt;
        starts_as_replica = tt;
        follows = λ leader. tt;
        says = λ reason. tt;
        ends = λ lets. tt;
        stops = λ lets. tt;
        wiped = λ lets. tt;
        rewound = λ lets leader r. tt;
        copied = λ lets leader. tt;
      };
      feedings = record {
        measured = λ since. tt;
        armed = λ until answer. tt;
        fed = λ until basis. tt;
        disarmed = tt;
      };
      required = λ required names. tt;
      tellings = λ telling. record {
        answers = λ answers reply. tt;
        holds = λ until incarnation sequence from. tt;
        passes = λ passes. tt;
      };
      notes = λ note noted. tt;
    }

    upholds-output : (heard : HeardMessage) (output : Output)
        → UpholdsAlways (names_told head) (λ cluster. output_events member heard cluster output)
    upholds-output heard output book cluster good =
        upheld-own head book cluster (output_events member heard cluster output) good
        (output-holds Own cluster member heard (holds-own cluster good.members) output)

    -- what it does behind an event
    upheld-input : (book : List Event) (cluster : Cluster) (kind : EventKind) (heard : HeardMessage)
        (outcome : Option Outcome) → NamesSoFar head book cluster → Own kind
        → Upholds (names_told head) book cluster
        (event_of cluster kind ++ input_events (cluster_after cluster kind) member heard outcome)
    upheld-input book cluster kind heard outcome good own =
        upheld-then (names_told head) (composable head) book cluster (event_of cluster kind)
        (input_events (cluster_after cluster kind) member heard outcome)
        (upheld-own head book cluster _ good (own, tt))
        (upholds-all (names_told head) (composable head) (output_events member heard) (upholds-output heard)
        (outputs_of outcome)
        (book ++ event_of cluster kind) (cluster_after cluster kind))

  -- ---- every run
  parts : PartsUphold (IsDeclared head) (names_told head)
  parts = record {
    members = λ book cluster good. declared-in head few cluster good.members;
    inputs = record {
      wakes = λ book cluster member process good is found acts.
          upheld-input member is book cluster (kinds.Agent (Woken member)) no_message
          (outcome_of cluster member Wake) good tt;
      hears = λ book cluster number message member good found to through.
          upheld-input member (subst (IsDeclaredEnd head) to (good.flight.ends number message found).1) book cluster
          (kinds.Message (Delivered number))
          (heard_message number message) (outcome_of_heard cluster member (heard_from cluster message)) good tt;
      operates =
          λ book cluster member process o request asked good is found acts stands answers. let action : OperatorAction =
          action_of o asked in
          upheld-input member is book cluster (kinds.Agent (Operated member action)) no_message
          (outcome_of cluster member (HearsOperator action)) good tt;
    };
    arrivals =
        λ book cluster number message good found to. upheld-arrival head few book cluster number message good found;
    losses = λ number book cluster good. upheld-own head book cluster _ good (tt, tt);
    notes = λ note book cluster good. upheld-own head book cluster _ good (tt, tt);
    ticks = upholds-tick head few;
    receipts = upholds-receive head few;
    acknowledgements = upholds-acknowledge head few;
    restarts = upholds-restart head few;
    promotions = upholds-promote head few;
    commands = upholds-command head few;
  }

  -- before the first event nothing is in flight
  names-first : NamesSoFar head [] (cluster_of head)
  names-first = record {
    named = tt;
    members = refl;
    flight = record { order = tt; ends = λ i carried e. absurd (none-some carried e) };
  }

pub runs-name : (head : HeadText) (steps : List Step) → IsHead head
    → AllAre (NamesServer (slice_get (names_of head))) (run_events (cluster_of head) steps)
runs-name head steps is =
    let few = few-names head is in
    ((upholds-run (IsDeclared head) (names_told head) (composable head) (parts head few) steps []
    (cluster_of head) (names-first head few)).behind
    tt).named
