-- A steady leader, between two steps: all that it needs to lead on is
-- there, and nothing of its last turn is on its way.
use Rattle.std.specs.Prelude.{ℕ, ◌≡◌, ◌≤◌, ◌*◌, ◌<◌, true, false, Option, Some, None, slice_get}
use Rattle.std.specs.FinMap.{find}
use Rattle.pat_base.specs.declared.ticks.TheConstants.{TICKS_OF_SECOND}
use Rattle.store_keys.specs.declared.config.Config.{Config}
use Rattle.store_keys.specs.declared.key.Key.TheVariants as keys
use Rattle.store_keys.specs.declared.value.KeyEntry.{KeyEntry}
use Rattle.store_keys.specs.Settings.{Settings}
use Rattle.store_keys.specs.declared.value.Value.TheVariants as values
use Rattle.lease_store.specs.KeyOrder.{key_cmp}
use Rattle.leader_key.specs.Watchdog.{is_armable, timeout_of}
use Rattle.member_options.specs.declared.member_option.MemberOptions.{MemberOptions}
use Rattle.member_options.specs.Options.{margin_span}
use Rattle.event_book.specs.declared.agent_process.AgentProcess.{AgentProcess}
use Rattle.event_book.specs.declared.link.LinkEnd.{LinkEnd}
use Rattle.event_book.specs.declared.link.LinkEnd.TheVariants as ends
use Rattle.event_book.specs.declared.member.Member.{Member}
use Rattle.event_book.specs.Flight.{Flight, InFlightFacts, in_flight}
use Rattle.agent_model.specs.Agents.{AgentFacts, Leader}
use Rattle.cluster_model.specs.Inputs.{agent_at, may_act}
use Rattle.cluster_model.specs.State.{Cluster}
use Rattle.lease_model.specs.Leases.{LeaderKey}
use Rattle.leading_parts.specs.Holding.{HasKey, IsUnasked, NoneAsks}
use Rattle.leading_parts.specs.Ticked.{FiresPast, IsPrimary}

-- the agent of a member runs, leads, and waits for nothing; no operator
-- waits for it, so no old answer to one counts; its next turn is to come
pub record IsLeading (member : Member) (cluster : Cluster) : Type 0 where
  pub process : AgentProcess
  pub process_is : slice_get cluster.facts.processes member.id.number ≡ Some process
  pub acts : may_act process ≡ true
  pub agent : AgentFacts
  pub agent_is : agent_at cluster.agents member.id.number ≡ Some agent
  pub revision : ℕ
  pub role : agent.role ≡ Leader revision
  pub waits : agent.knows.waited ≡ None
  pub unasked : agent.knows.operating ≡ None
  pub later : cluster.facts.clock < agent.knows.next_turn.0

-- the leader key is its own, and lasts past this moment
pub record HasKeyPast (moment : ℕ) (member : Member) (cluster : Cluster) : Type 0 where
  pub key : LeaderKey
  pub key_is : HasKey key cluster
  pub holder : key.holder ≡ member.id.number
  pub lasts : moment < key.expiry

-- the entry of the configuration's key is there, and sets this
pub record SetsConfig (config : Config) (found : Option KeyEntry) : Type 0 where
  pub entry : KeyEntry
  pub is : found ≡ Some entry
  pub settings : Settings
  pub value : entry.value ≡ values.Config settings
  pub config_is : settings.config ≡ config

-- the key store holds this configuration, which doesn't pause, and nothing that operators ask for
pub record IsUndisturbed (config : Config) (cluster : Cluster) : Type 0 where
  pub sets : SetsConfig config (find key_cmp keys.Config cluster.facts.keys.pairs)
  pub unpaused : config.pause ≡ false
  pub unasked : IsUnasked cluster.facts.keys.pairs

-- its watchdog is on and its device works, and turns come sooner than
-- the watchdog fires, and than a lease ends, by these settings
pub record TurnsInTime (config : Config) (options : MemberOptions) : Type 0 where
  pub watched : is_armable options.watchdog options.device_works ≡ true
  pub watchdog : TICKS_OF_SECOND * config.loop_wait
      < timeout_of (margin_span options.margin) (TICKS_OF_SECOND * config.ttl)
  pub lease : config.loop_wait < config.ttl

-- a message is a question of the member of this number to the key store in this
-- incarnation of its agent, or the key store's answer to one
abbrev pub IsOfRun : ℕ → ℕ → LinkEnd → LinkEnd → ℕ → Type 0
IsOfRun n run (ends.Member by) ends.Store incarnation = (n ≡ by.id.number) × (incarnation ≡ run)
IsOfRun n run ends.Store (ends.Member to) incarnation = (n ≡ to.id.number) × (incarnation ≡ run)
IsOfRun n run from to incarnation = ⊥

-- each of those that is in flight has a number that its agent gave
abbrev pub AreCounted : ℕ → ℕ → ℕ → Flight → Type 0
AreCounted n run last flight = (i : ℕ) (carried : InFlightFacts) → in_flight flight i ≡ Some carried
    → IsOfRun n run carried.message.from carried.message.to carried.message.incarnation
    → carried.message.sequence ≤ last

-- a member is a steady leader
pub record IsSteady (member : Member) (cluster : Cluster) : Type 0 where
  pub declared : slice_get cluster.facts.members member.id.number ≡ Some member
  pub options : MemberOptions
  pub options_are : slice_get cluster.options member.id.number ≡ Some options
  pub leads : IsLeading member cluster
  pub primary : IsPrimary member.id.number cluster
  pub key : HasKeyPast leads.agent.knows.next_turn.0 member cluster
  pub alone : NoneAsks key.key.revision cluster.facts.flight
  pub counted : AreCounted member.id.number leads.process.incarnation leads.agent.knows.sequence cluster.facts.flight
  pub guard : FiresPast leads.agent.knows.next_turn.0 (slice_get cluster.facts.deadlines member.id.number)
  pub settings : IsUndisturbed leads.agent.knows.settings cluster
  pub times : TurnsInTime leads.agent.knows.settings options
