-- Events that are found, if any are, of which something holds.
use Rattle.std.proofs.Common.{Bool, true, false, if◌then◌else◌, List, Option, Some, None, option_and_then, option_map}
use Rattle.pg_model.specs.Facts.{ServerFacts}
use Rattle.pg_cluster.specs.declared.answers.Rewound.{Rewound}
use Rattle.pg_cluster.specs.Rewinding.{may_clone_at, rewind_at}
use Rattle.event_book.specs.declared.event.EventKind.{EventKind}
use Rattle.event_book.specs.declared.member.Member.{Member}
use Rattle.event_book.specs.Links.{CutLinks, is_cut}
use Rattle.agent_model.specs.declared.operating.Told.{Told}
use Rattle.agent_model.specs.declared.operating.Told.TheVariants as tolds
use Rattle.agent_model.specs.declared.output.Repair.{Repair}
use Rattle.agent_model.specs.declared.output.Repair.TheVariants as repairs
use Rattle.agent_model.specs.Agents.{AgentFacts}
use Rattle.operator_answers.specs.Statuses.{ok}
use Rattle.operator_answers.specs.AnswerTexts.{answer_text}
use Rattle.rest_message.specs.Replies.{ReplyText}
use Rattle.rest_answer.specs.Replies.{json_of, text_of}
use Rattle.cluster_model.specs.Orders.{copying, repair_by, repair_over, rewinding}
use Rattle.cluster_model.specs.Requests.{replying, config_text_of, told_kind}
use Rattle.cluster_model.specs.Streaming.{link_of_members}
use Rattle.cluster_model.proofs.Lists.{HoldsIf}

pub holds-then : {X : Type 0} (P : EventKind → Type 0) (f : X → Option EventKind) (found : Option X)
    → ((x : X) → HoldsIf P (f x)) → HoldsIf P (option_and_then f found)
holds-then P f None all = tt
holds-then P f (Some x) all = all x

pub holds-if : (P : EventKind → Type 0) (test : Bool) (kind : EventKind) → P kind
    → HoldsIf P (if test then Some kind else None)
holds-if P true kind is = is
holds-if P false kind is = tt

pub holds-unless : (P : EventKind → Type 0) (test : Bool) (o : Option EventKind) → HoldsIf P o
    → HoldsIf P (if test then None else o)
holds-unless P true o is = tt
holds-unless P false o is = is

pub holds-mapped : {X : Type 0} (P : EventKind → Type 0) (f : X → EventKind) (found : Option X)
    → ((x : X) → P (f x)) → HoldsIf P (option_map f found)
holds-mapped P f None all = tt
holds-mapped P f (Some x) all = all x

-- what an agent answers an operator is an answer
pub told-holds : (P : EventKind → Type 0) (member : Member) (agent : Option AgentFacts) (told : Told)
    → ((reply : ReplyText) → P (replying member reply)) → HoldsIf P (told_kind member agent told)
told-holds P member agent (tolds.Text status text) answers = answers (text_of status (answer_text text))
told-holds P member agent tolds.Written answers = holds-mapped P (λ text. replying member (json_of ok text))
    (config_text_of agent) (λ text. answers (json_of ok text))

-- a repair of a log changes the log of its member's server alone
repair-holds : (P : EventKind → Type 0) (known : List ServerFacts) (member : Member) (repair : Repair) (leader : Member)
    → ((r : Rewound) → P (rewinding member leader r)) → P (copying member leader)
    → HoldsIf P (repair_by known member repair leader)
repair-holds P known member repairs.Rewind leader rewinds copies =
    holds-mapped P (rewinding member leader) (rewind_at known member.id.number leader.id.number) rewinds
repair-holds P known member repairs.Clone leader rewinds copies =
    holds-if P (may_clone_at known member.id.number leader.id.number) (copying member leader) copies

pub repaired-holds : (P : EventKind → Type 0) (cuts : CutLinks) (known : List ServerFacts) (member : Member)
    (repair : Repair) (found : Option Member) → ((leader : Member) (r : Rewound) → P (rewinding member leader r))
    → ((leader : Member) → P (copying member leader))
    → HoldsIf P (option_and_then (repair_over cuts known member repair) found)
repaired-holds P cuts known member repair found rewinds copies =
    holds-then P (repair_over cuts known member repair) found
    (λ leader. holds-unless P (is_cut cuts (link_of_members member leader)) (repair_by known member repair leader)
    (repair-holds P known member repair leader (rewinds leader) (copies leader)))
