-- What is received, confirmed and acknowledged keeps the law.
use Rattle.std.proofs.Common.{ℕ, Bool, ◌++◌, true, false, List, [], ◌∷◌, slice_get, Option, Some, None}
use Rattle.pat_base.specs.declared.lsn.Lsn.{Lsn}
use Rattle.pg_model.specs.declared.answers.Streamed.{Streamed}
use Rattle.pg_model.specs.declared.answers.Streamed.TheVariants as streams
use Rattle.pg_model.specs.Facts.{ServerFacts}
use Rattle.pg_cluster.specs.Servers.{news_at}
use Rattle.event_book.specs.declared.event.Event.{Event}
use Rattle.event_book.specs.declared.event.EventKind.{EventKind}
use Rattle.event_book.specs.declared.event.EventKind.TheVariants as kinds
use Rattle.event_book.specs.declared.event.LogEvent.TheVariants as logs
use Rattle.event_book.specs.declared.event.ServerEvent.TheVariants as servers
use Rattle.event_book.specs.declared.member.Member.{Member}
use Rattle.event_book.specs.Members.{server_of}
use Rattle.cluster_model.specs.Acknowledging.{acknowledge_kinds, acknowledgements, ready_commits}
use Rattle.cluster_model.specs.Losing.{is_lacking, loss_if, loss_of, losses_of}
use Rattle.cluster_model.specs.Cluster.{cluster_after}
use Rattle.cluster_model.specs.Commands.{kinds_of}
use Rattle.script_model.specs.Script.{HeadText}
use Rattle.cluster_model.specs.Next.{acknowledge_events, confirm_events, receive_events, receive_events_at_most}
use Rattle.cluster_model.specs.Parts.{event_of, events_of}
use Rattle.cluster_model.specs.State.{Cluster}
use Rattle.cluster_model.specs.Streaming.{confirm_of, source_of}
use Rattle.cluster_model.proofs.Lists.{AllKinds, HoldsIf, kinds-both, one-kind}
use Rattle.lease_parts.specs.Asides.{IsQuiet}
use Rattle.lease_parts.specs.Bridged.{Bridged}
use Rattle.lease_parts.specs.Kept.{IsKept, Keeps}
use Rattle.lease_parts.proofs.Composing.{kept-for_some, kept-none, kept-then}
use Rattle.lease_parts.proofs.Quiet.{kept-quiet, kept-quietly}

-- one such event, if one happens
abbrev pub IsQuietIf : Option EventKind → Type 0
IsQuietIf found = HoldsIf IsQuiet found

pub kept-quiet-if : (head : HeadText) (found : Option EventKind) → IsQuietIf found
    → Keeps head (λ cluster. events_of cluster (kinds_of found))
kept-quiet-if head found is book cluster good =
    kept-quietly head (kinds_of found) (one-kind IsQuiet found is) book cluster good

pub confirm-quiet : (member from : Member) (end : Option Lsn) → IsQuietIf (confirm_of member from end)
confirm-quiet member from None = tt
confirm-quiet member from (Some end) = tt

keeps-confirm : (head : HeadText) (member from : Member) → Keeps head (λ cluster. confirm_events cluster member from)
keeps-confirm head member from book cluster good =
    kept-quiet-if head (confirm_of member from _) (confirm-quiet member from _) book cluster good

kept-receive : (head : HeadText) (book : List Event) (cluster : Cluster) (member from : Member) (news : Option Streamed)
    → Bridged head book cluster → IsKept head book cluster (receive_events cluster member from news)
kept-receive head book cluster member from None good = keeps-confirm head member from book cluster good
kept-receive head book cluster member from (Some streams.NotConnected) good = kept-none head book cluster good
kept-receive head book cluster member from (Some (streams.Diverged at)) good =
    kept-quiet head book cluster (kinds.Server (servers.Diverged (server_of member) (server_of from) at)) tt good
kept-receive head book cluster member from (Some (streams.Received count)) good =
    let kind : EventKind = kinds.Log (logs.Received (server_of member) (server_of from) count) in
    kept-then head book cluster (event_of cluster kind)
    (confirm_events (cluster_after cluster kind) member from) (kept-quiet head book cluster kind tt good)
    (λ later. keeps-confirm head member from (book ++ event_of cluster kind) (cluster_after cluster kind) later)

pub keeps-receive-at-most : (head : HeadText) (most : ℕ) (member : Member)
    → Keeps head (λ cluster. receive_events_at_most cluster most member)
keeps-receive-at-most head most member book cluster good =
    kept-for_some head book cluster
    (source_of cluster.facts.members cluster.facts.servers cluster.facts.cuts member) _ good
    (λ from is. kept-receive head book cluster member from
    (news_at cluster.facts.servers member.id.number from.id.number most) good)

loss-quiet : (member : Member) (test : Bool) → AllKinds IsQuiet (kinds_of (loss_if member test))
loss-quiet member true = (tt, tt)
loss-quiet member false = tt

loss-now : (commit : ℕ) (member : Member) (s : Option ServerFacts) → AllKinds IsQuiet (loss_of commit member s)
loss-now commit member None = tt
loss-now commit member (Some s) = loss-quiet member (is_lacking commit s)

losses-quiet : (commit : ℕ) (known : List ServerFacts) (members : List Member)
    → AllKinds IsQuiet (losses_of commit known members)
losses-quiet commit known [] = tt
losses-quiet commit known (member ∷ members) =
    kinds-both IsQuiet (loss_of commit member (slice_get known member.id.number)) (losses_of commit known members)
    (loss-now commit member (slice_get known member.id.number)) (losses-quiet commit known members)

acknowledged-quiet : (known : List ServerFacts) (members : List Member) (member : Member) (commits : List ℕ)
    → AllKinds IsQuiet (acknowledgements known members member commits)
acknowledged-quiet known members member [] = tt
acknowledged-quiet known members member (commit ∷ commits) = (
  tt,
  kinds-both IsQuiet (losses_of commit known members) (acknowledgements known members member commits)
      (losses-quiet commit known members) (acknowledged-quiet known members member commits),
)

pub acknowledge-quiet : (known : List ServerFacts) (members : List Member) (member : Member) (s : Option ServerFacts)
    → AllKinds IsQuiet (acknowledge_kinds known members member s)
acknowledge-quiet known members member None = tt
acknowledge-quiet known members member (Some s) = acknowledged-quiet known members member (ready_commits s)

pub keeps-acknowledge : (head : HeadText) (member : Member) → Keeps head (λ cluster. acknowledge_events cluster member)
keeps-acknowledge head member book cluster good =
    kept-quietly head
    (acknowledge_kinds cluster.facts.servers cluster.facts.members member
    (slice_get cluster.facts.servers member.id.number))
    (acknowledge-quiet cluster.facts.servers cluster.facts.members member
    (slice_get cluster.facts.servers member.id.number))
    book cluster good
