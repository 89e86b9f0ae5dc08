-- What messages say to agents.
use Rattle.std.specs.Prelude.{List, Option, Some, None, option_map}
use Rattle.pat_base.specs.declared.member_id.MemberId.{MemberId}
use Rattle.lease_store.specs.Answers.{present_pairs}
use Rattle.store_keys.specs.declared.key.Key.{Key}
use Rattle.store_keys.specs.declared.value.KeyEntry.{KeyEntry}
use Rattle.event_book.specs.declared.link.LinkEnd.{LinkEnd}
use Rattle.event_book.specs.declared.link.LinkEnd.TheVariants as link_ends
use Rattle.event_book.specs.declared.message.Body.{Body}
use Rattle.event_book.specs.declared.message.Body.TheVariants as bodies
use Rattle.event_book.specs.Flight.{InFlightFacts}
use Rattle.cluster_view.specs.Snapshots.{SnapshotFacts}
use Rattle.agent_model.specs.declared.heard.Heard.{Heard}
use Rattle.agent_model.specs.declared.heard.Heard.TheVariants as heard
use Rattle.cluster_model.specs.Machines.{hosts_of}
use Rattle.cluster_model.specs.State.{Cluster}

-- a snapshot with these entries
abbrev pub snapshot_with : Cluster → List (Key × KeyEntry) → SnapshotFacts
snapshot_with cluster entries =
    record { scope = cluster.scope; members = hosts_of cluster.options cluster.facts.members; entries = entries }

-- the snapshot that a message carries
abbrev pub snapshot_in : Cluster → InFlightFacts → SnapshotFacts
snapshot_in cluster message = snapshot_with cluster message.snapshot

-- the snapshot that a read at this moment gives
abbrev pub snapshot_at : Cluster → SnapshotFacts
snapshot_at cluster = snapshot_with cluster (present_pairs cluster.facts.clock cluster.facts.keys.pairs)

-- the member at this end of a link, if one is
abbrev pub member_at_end : LinkEnd → Option MemberId
member_at_end link_ends.Store = None
member_at_end (link_ends.Member member) = Some member.id

-- what a message with these words says to an agent: what the key store answers, and what other members ask and answer
abbrev pub heard_in : Cluster → InFlightFacts → Body → Option Heard
heard_in cluster message bodies.Snapshot =
    Some (heard.ReadAnswered message.message.sequence (snapshot_in cluster message))
heard_in cluster message (bodies.Granted request leased) =
    option_map (λ grant. heard.Granted message.message.sequence grant (snapshot_in cluster message)) message.grant
heard_in cluster message (bodies.Refused request key found) = Some (heard.Mismatch message.message.sequence key found)
heard_in cluster message bodies.Ask = option_map
    (λ from. heard.Asked from message.message.incarnation message.message.sequence) (member_at_end message.message.from)
heard_in cluster message (bodies.Answer answer) = Some (heard.Answered message.message.sequence answer)
heard_in cluster message (bodies.FailsafeRequest ttl) =
    option_map (λ from. heard.FailsafeAsked from message.message.incarnation message.message.sequence ttl)
    (member_at_end message.message.from)
heard_in cluster message (bodies.FailsafeAnswer accepted) =
    option_map (λ from. heard.FailsafeAnswered from message.message.sequence accepted message.sent)
    (member_at_end message.message.from)
heard_in cluster message _ = None

-- what a message says to an agent
abbrev pub heard_from : Cluster → InFlightFacts → Option Heard
heard_from cluster message = heard_in cluster message message.message.body
