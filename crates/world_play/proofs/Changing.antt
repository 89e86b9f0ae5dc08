-- What commands change of agents.
use Rattle.std.proofs.Common.{◌≡◌, ℕ, ◌≤◌, List, Option, arith, ◌∙◌, ap, sym, subst}
use Rattle.event_book.specs.declared.event.Event.{Event}
use Rattle.event_book.specs.declared.event.EventKind.{EventKind}
use Rattle.event_list.specs.Listed.{Listed}
use Rattle.script_model.specs.declared.line.Command.{Command}
use Rattle.script_model.specs.declared.line.Command.TheVariants as commands
use Rattle.cluster_model.specs.State.{Cluster}
use Rattle.cluster_model.specs.Commands.{kinds_of}
use Rattle.cluster_view.specs.Snapshots.{SnapshotFacts}
use Rattle.patronictl.specs.Answers.{CtlTold, ctl_answer}
use Rattle.cluster_model.specs.Hearing.{snapshot_at}
use Rattle.cluster_model.specs.Next.{command_events, command_kind, ctl_events, ctl_told_at}
use Rattle.cluster_model.specs.Parts.{events_of}
use Rattle.world_model.specs.Room.{command_cost, request_cost}
use Rattle.world_model.specs.Emits.{Emits}
use Rattle.world_model.proofs.Taking.{Emits-weaker}

-- what a command comes to, of the command as it was read
pub commanded : (cluster after : Cluster) (had has : Listed) (read command : Command) (cost : ℕ)
    → read ≡ command → Emits cluster after had has (command_events cluster command) cost → cost ≤ command_cost
    → Emits cluster after had has (command_events cluster read) command_cost
commanded cluster after had has read command cost is took enough =
    subst (λ (d : Command). Emits cluster after had has (command_events cluster d) command_cost) (sym is)
    (Emits-weaker cluster after had has (command_events cluster command) cost command_cost took enough)

-- what a command comes to that brings one event at most
pub command_kind-took : (cluster after : Cluster) (had has : Listed) (command : Command) (found : Option EventKind)
    → command_events cluster command ≡ events_of cluster (kinds_of (command_kind cluster command))
    → found ≡ command_kind cluster command
    → Emits cluster after had has (events_of cluster (kinds_of found)) 1
    → Emits cluster after had has (command_events cluster command) command_cost
command_kind-took cluster after had has command found is kind took =
    subst (λ (es : List Event). Emits cluster after had has es command_cost) (sym is)
    (subst (λ (o : Option EventKind). Emits cluster after had has (events_of cluster (kinds_of o)) command_cost) kind
    (Emits-weaker cluster after had has (events_of cluster (kinds_of found)) 1 command_cost took (omega arith)))

-- what patronictl answers at this moment, by the snapshot that a read gives
pub told-now : (cluster : Cluster) (seen : SnapshotFacts) (said : List ℕ) (told : CtlTold)
    → seen ≡ snapshot_at cluster → told ≡ ctl_answer seen said → told ≡ ctl_told_at cluster said
unfolding ctl_told_at
told-now cluster seen said told is so = so ∙ ap (λ (s : SnapshotFacts). ctl_answer s said) is

-- what patronictl does, by what it answers
pub told-took : (cluster after : Cluster) (had has : Listed) (told now : CtlTold) (cost : ℕ) → told ≡ now
    → Emits cluster after had has (ctl_events cluster told) cost → cost ≤ request_cost
    → Emits cluster after had has (ctl_events cluster now) request_cost
told-took cluster after had has told now cost is took enough =
    subst (λ (t : CtlTold). Emits cluster after had has (ctl_events cluster t) request_cost) is
    (Emits-weaker cluster after had has (ctl_events cluster told) cost request_cost took enough)

-- the words of a line, by their text
pub ctl-took : (cluster after : Cluster) (had has : Listed) (said text : List ℕ) (cost : ℕ) → text ≡ said
    → Emits cluster after had has (ctl_events cluster (ctl_told_at cluster text)) cost
    → Emits cluster after had has (command_events cluster (commands.Ctl said)) cost
ctl-took cluster after had has said text cost is took = subst
    (λ (words : List ℕ). Emits cluster after had has (ctl_events cluster (ctl_told_at cluster words)) cost) is took
