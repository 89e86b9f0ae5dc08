-- What an agent did is carried out, one after another.
use Rattle.std.proofs.Common.{◌≡◌, ℕ, ◌+◌, ◌*◌, ◌≤◌, List, [], ◌∷◌, ◌++◌, All, length, Option, Some, arith, refl, ◌∙◌, ap, sym, subst}
use Rattle.std.specs.Prelude.{option_to_list}
use Rattle.std.proofs.lemmas.List.Elements.{All-head, All-tail}
use Rattle.event_book.specs.declared.member.Member.{Member}
use Rattle.event_list.specs.Listed.{Listed}
use Rattle.agent_model.specs.declared.output.Output.{Output}
use Rattle.agent_model.specs.declared.output.ServerOrder.{ServerOrder}
use Rattle.agent_model.specs.Outputs.{most_outputs}
use Rattle.cluster_model.specs.declared.heard_message.HeardMessage.{HeardMessage}
use Rattle.cluster_model.specs.Messages.{order_events, output_events}
use Rattle.cluster_model.specs.Parts.{each}
use Rattle.cluster_model.specs.State.{Cluster}
use Rattle.world_model.specs.Emits.{Emits}
use Rattle.world_model.specs.Room.{HasRoom, output_cost, outputs_cost}
use Rattle.agent_model.specs.Asked.{AsksShortly}
use Rattle.world_model.proofs.Rest.{Left, Left-end, Left-more, Left-room}
use Rattle.world_model.proofs.Rooms.{HasRoom-fewer}
use Rattle.world_model.proofs.Taking.{Emits-weaker}

-- these outputs are left of those that there were
pub record IsCarrying (member : Member) (heard : HeardMessage) (start cluster : Cluster) (had has : Listed)
    (whole rest : List Output) : Type 0 where
  pub left : Left start cluster had has (each (output_events member heard) start whole)
      (each (output_events member heard) cluster rest) outputs_cost (output_cost * length rest)
  pub short : All AsksShortly rest

pub carrying-start : (member : Member) (heard : HeardMessage) (start : Cluster) (had : Listed) (whole : List Output)
    → length whole ≤ most_outputs → All AsksShortly whole → IsCarrying member heard start start had had whole whole
carrying-start member heard start had whole few short = record {
  left = record {
    state = refl;
    event = refl;
    room = λ more room.
        HasRoom-fewer start (outputs_cost + more) (output_cost * length whole + more) (omega (arith, few)) room;
  };
  short = short;
}

taken-is : (before after : List Output) (taken : Option Output) (output : Output)
    → before ≡ option_to_list taken ++ after → taken ≡ Some output → before ≡ output ∷ after
taken-is before after taken output is some = is ∙ ap (λ (o : Option Output). option_to_list o ++ after) some

-- the next one asks shortly, and there is room for it
pub carrying-short : (member : Member) (heard : HeardMessage) (start cluster : Cluster) (had has : Listed)
    (whole rest after : List Output) (taken : Option Output) (output : Output)
    → IsCarrying member heard start cluster had has whole rest → rest ≡ option_to_list taken ++ after
    → taken ≡ Some output → AsksShortly output
carrying-short member heard start cluster had has whole rest after taken output c is some =
    All-head AsksShortly output after
    (subst (λ (os : List Output). All AsksShortly os) (taken-is rest after taken output is some) c.short)

pub carrying-room : (member : Member) (heard : HeardMessage) (start cluster : Cluster) (had has : Listed)
    (whole rest after : List Output) (taken : Option Output) (output : Output)
    → IsCarrying member heard start cluster had has whole rest → rest ≡ option_to_list taken ++ after
    → taken ≡ Some output → HasRoom start outputs_cost → HasRoom cluster output_cost
carrying-room member heard start cluster had has whole rest after taken output c is some room =
    Left-room start cluster had has _ _ outputs_cost (output_cost * length rest) output_cost c.left room
    (omega (arith, ap length (taken-is rest after taken output is some)))

-- it is carried out
pub carrying-more : (member : Member) (heard : HeardMessage) (start cluster next : Cluster)
    (had has longer : Listed) (whole rest after : List Output) (taken : Option Output) (output : Output)
    → IsCarrying member heard start cluster had has whole rest → rest ≡ option_to_list taken ++ after
    → taken ≡ Some output → Emits cluster next has longer (output_events member heard cluster output) output_cost
    → IsCarrying member heard start next had longer whole after
carrying-more member heard start cluster next had has longer whole rest after taken output c is some took =
    let here = taken-is rest after taken output is some in record {
      left = Left-more start cluster next had has longer (each (output_events member heard) start whole)
          (output_events member heard cluster output) (λ later. each (output_events member heard) later after)
          (each (output_events member heard) cluster rest) outputs_cost
          (output_cost * length rest) output_cost (output_cost * length after) c.left
          (ap (each (output_events member heard) cluster) here) took (omega (arith, ap length here));
      short = All-tail AsksShortly output after (subst (λ (os : List Output). All AsksShortly os) here c.short);
    }

-- none is left
pub carrying-end : (member : Member) (heard : HeardMessage) (start cluster : Cluster) (had has : Listed)
    (whole rest : List Output)
    → IsCarrying member heard start cluster had has whole rest → rest ≡ []
    → Emits start cluster had has (each (output_events member heard) start whole) outputs_cost
carrying-end member heard start cluster had has whole rest c nothing =
    Left-end start cluster had has (each (output_events member heard) start whole) _ outputs_cost
    (output_cost * length rest) c.left (ap (each (output_events member heard) cluster) nothing)

-- an output is carried out by what carries out one that it is, and that brings no more than an output may
pub carried : (cluster after : Cluster) (had has : Listed) (member : Member) (heard : HeardMessage)
    (output this : Output) (cost : ℕ) → output ≡ this → cost ≤ output_cost
    → Emits cluster after had has (output_events member heard cluster this) cost
    → Emits cluster after had has (output_events member heard cluster output) output_cost
carried cluster after had has member heard output this cost is less took =
    Emits-weaker cluster after had has (output_events member heard cluster output) cost output_cost
    (subst (λ (o : Output). Emits cluster after had has (output_events member heard cluster o) cost) (sym is) took) less

-- so is an order of an agent to its server
pub obeyed : (cluster after : Cluster) (had has : Listed) (member : Member) (order this : ServerOrder) (cost : ℕ)
    → order ≡ this → cost ≤ output_cost → Emits cluster after had has (order_events cluster member this) cost
    → Emits cluster after had has (order_events cluster member order) output_cost
obeyed cluster after had has member order this cost is less took =
    Emits-weaker cluster after had has (order_events cluster member order) cost output_cost
    (subst (λ (o : ServerOrder). Emits cluster after had has (order_events cluster member o) cost) (sym is) took) less
