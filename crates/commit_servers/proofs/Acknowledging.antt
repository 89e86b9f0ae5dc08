-- Commits that are acknowledged.
use Rattle.std.proofs.Common.{ℕ, ◌≡◌, Bool, true, false, cond, List, [], ◌∷◌, ◌++◌, drop, slice_get, Option, Some, None, refl, ap, sym, subst, append_assoc}
use Rattle.pat_base.specs.ServerState.{writes}
use Rattle.pg_model.specs.declared.waiting.Waiting.{Waiting}
use Rattle.pg_model.specs.Facts.{ServerFacts}
use Rattle.pg_model.specs.Replication.{is_met}
use Rattle.event_book.specs.declared.event.EventKind.{EventKind}
use Rattle.event_book.specs.declared.member.Member.{Member}
use Rattle.cluster_model.specs.Acknowledging.{acknowledge_kinds, acknowledgement, acknowledgements, confirmed_front}
use Rattle.cluster_model.specs.Cluster.{cluster_after}
use Rattle.cluster_model.specs.Commands.{kinds_of}
use Rattle.cluster_model.specs.Losing.{is_lacking, loss_if, loss_of, losses_of}
use Rattle.cluster_model.specs.Next.{acknowledge_events}
use Rattle.cluster_model.specs.Parts.{events_of}
use Rattle.cluster_model.specs.State.{Cluster}
use Rattle.commit_servers.specs.Happening.{MayFollow}
use Rattle.commit_servers.proofs.Places.{changed-here}

-- what may happen, may happen behind the news that a server lacks a commit, which changes nothing
loss-then : (cluster : Cluster) (member : Member) (test : Bool) (more : List EventKind)
    → MayFollow cluster.facts (events_of cluster more)
    → MayFollow cluster.facts (events_of cluster (kinds_of (loss_if member test) ++ more))
loss-then cluster member true more may = (tt, may)
loss-then cluster member false more may = may

loss-of-then : (cluster : Cluster) (commit : ℕ) (member : Member) (found : Option ServerFacts) (more : List EventKind)
    → MayFollow cluster.facts (events_of cluster more)
    → MayFollow cluster.facts (events_of cluster (loss_of commit member found ++ more))
loss-of-then cluster commit member None more may = may
loss-of-then cluster commit member (Some s) more may = loss-then cluster member (is_lacking commit s) more may

losses-then : (cluster : Cluster) (commit : ℕ) (known : List ServerFacts) (members : List Member)
    (more : List EventKind) → MayFollow cluster.facts (events_of cluster more)
    → MayFollow cluster.facts (events_of cluster (losses_of commit known members ++ more))
losses-then cluster commit known [] more may = may
losses-then cluster commit known (member ∷ members) more may =
    subst (λ (list : List EventKind). MayFollow cluster.facts (events_of cluster list))
    (sym (append_assoc (loss_of commit member (slice_get known member.id.number))
    (losses_of commit known members) more))
    (loss-of-then cluster commit member (slice_get known member.id.number)
    (losses_of commit known members ++ more) (losses-then cluster commit known members more may))

module _ (known : List ServerFacts) (members : List Member) (member : Member) where
  -- these commits, the first that wait at a server, are acknowledged as far as each is confirmed
  abbrev MayBeAcknowledged : Cluster → ServerFacts → List Waiting → Type 0
  MayBeAcknowledged cluster s waiting =
      slice_get cluster.facts.servers member.id.number ≡ Some s → writes s.state ≡ true → s.waiting ≡ waiting
      → MayFollow cluster.facts
      (events_of cluster (acknowledgements known members member (confirmed_front s.required s.confirmed waiting)))

  -- the first, and then the others
  first-may : (cluster : Cluster) (s : ServerFacts) (first : Waiting) (more : List Waiting) (test : Bool)
      → is_met s.required first.end s.confirmed ≡ test
      → ((later : Cluster) (t : ServerFacts) → MayBeAcknowledged later t more)
      → slice_get cluster.facts.servers member.id.number ≡ Some s → writes s.state ≡ true → s.waiting ≡ first ∷ more
      → MayFollow cluster.facts
      (events_of cluster
      (acknowledgements known members member
      (cond test (first.serial ∷ confirmed_front s.required s.confirmed more) [])))
  first-may cluster s first more false met others is writing e = tt
  first-may cluster s first more true met others is writing e =
      let later : Cluster = cluster_after cluster (acknowledgement member first.serial) in (
        record {
          server = s;
          is = is;
          is_writer = writing;
          first = first;
          more = more;
          waiting = e;
          commit_is = refl;
          met = met;
        },
        losses-then later first.serial known members
            (acknowledgements known members member (confirmed_front s.required s.confirmed more))
            (others later (record s { waiting = drop 1 s.waiting })
            (changed-here cluster.facts.servers member.id.number
            (λ (t : ServerFacts). record t { waiting = drop 1 t.waiting }) s is)
            writing (ap (drop 1) e)),
      )

  acknowledged-may : (waiting : List Waiting) (cluster : Cluster) (s : ServerFacts)
      → MayBeAcknowledged cluster s waiting
  acknowledged-may [] cluster s is writing e = tt
  acknowledged-may (first ∷ more) cluster s is writing e =
      first-may cluster s first more (is_met s.required first.end s.confirmed) refl (acknowledged-may more) is writing e

  ready-may : (cluster : Cluster) (s : ServerFacts) (test : Bool)
      → slice_get cluster.facts.servers member.id.number ≡ Some s → writes s.state ≡ test
      → MayFollow cluster.facts
      (events_of cluster
      (acknowledgements known members member (cond test (confirmed_front s.required s.confirmed s.waiting) [])))
  ready-may cluster s true is writing = acknowledged-may s.waiting cluster s is writing refl
  ready-may cluster s false is writing = tt

  kinds-may : (cluster : Cluster) (found : Option ServerFacts)
      → slice_get cluster.facts.servers member.id.number ≡ found
      → MayFollow cluster.facts (events_of cluster (acknowledge_kinds known members member found))
  kinds-may cluster None is = tt
  kinds-may cluster (Some s) is = ready-may cluster s (writes s.state) is refl

pub acknowledge-follow : (cluster : Cluster) (member : Member)
    → MayFollow cluster.facts (acknowledge_events cluster member)
acknowledge-follow cluster member = kinds-may cluster.facts.servers cluster.facts.members member cluster
    (slice_get cluster.facts.servers member.id.number) refl
