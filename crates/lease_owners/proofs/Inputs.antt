-- An input of an agent keeps what a run keeps: what it asks of the leader key it had.
use Rattle.std.proofs.Common.{ℕ, ◌≡◌, ◌≤◌, ◌<◌, ◌++◌, ◌==◌, Bool, true, false, cond, List, [], ◌∷◌, All, length, slice_get, Option, Some, None, option_map, refl, sym, ap, subst, ◌∙◌, inl, inr}
use Rattle.pat_base.specs.Changes.{with_changed}
use Rattle.pat_base.specs.declared.member_id.TheConstants.{MOST_MEMBERS}
use Rattle.pat_base.specs.declared.ticks.Ticks.{Ticks}
use Rattle.lease_store.specs.declared.granted.Granted.{Granted}
use Rattle.lease_store.specs.Keys.{Keys}
use Rattle.script_model.specs.Script.{HeadText, names_of}
use Rattle.event_book.specs.declared.agent_process.AgentProcess.{AgentProcess}
use Rattle.event_book.specs.declared.event.AgentEvent.TheVariants as agents
use Rattle.event_book.specs.declared.event.Event.{Event}
use Rattle.event_book.specs.declared.event.EventKind.{EventKind}
use Rattle.event_book.specs.declared.event.EventKind.TheVariants as kinds
use Rattle.event_book.specs.declared.event.MessageEvent.TheVariants.{Delivered, Lost, Sent}
use Rattle.event_book.specs.declared.link.LinkEnd.{LinkEnd}
use Rattle.event_book.specs.declared.link.LinkEnd.TheVariants as ends
use Rattle.event_book.specs.declared.member.Member.{Member}
use Rattle.event_book.specs.declared.message.Body.{Body}
use Rattle.event_book.specs.declared.message.Body.TheVariants as bodies
use Rattle.event_book.specs.declared.message.Message.{Message}
use Rattle.event_book.specs.Facts.{Facts}
use Rattle.event_book.specs.Flight.{grant_for}
use Rattle.event_book.specs.Kinds.{AllAre}
use Rattle.agent_model.specs.declared.heard.Heard.{Heard}
use Rattle.agent_model.specs.declared.machine.Machine.{Machine}
use Rattle.agent_model.specs.declared.output.Output.{Output}
use Rattle.agent_model.specs.declared.output.Output.TheVariants as outputs
use Rattle.agent_model.specs.declared.output.Outgoing.TheVariants as outgoing
use Rattle.agent_model.specs.declared.output.Target.TheVariants as targets
use Rattle.agent_model.specs.declared.who.Who.{Who}
use Rattle.agent_model.specs.Agents.{AgentFacts, Outcome, outcome_from}
use Rattle.agent_model.specs.Table.{step}
use Rattle.agent_roles.specs.Asks.{IsAsk, IsQuestion}
use Rattle.agent_roles.specs.Seen.{leader_seen_if}
use Rattle.agent_roles.proofs.Knowing.{step-onward, told_by}
use Rattle.agent_roles.proofs.Staying.{input-ends}
use Rattle.agent_outputs.specs.Orders.{IsOfTable}
use Rattle.agent_outputs.proofs.Orders.{step-carried-out}
use Rattle.agent_questions.specs.Questions.{AsksAnew, SendsBetween}
use Rattle.agent_questions.proofs.Questions.{step-asks-anew}
use Rattle.cluster_model.specs.declared.heard_message.HeardMessage.{HeardMessage}
use Rattle.cluster_model.specs.Cluster.{agent_after, agent_facts_with, cluster_after, cluster_over}
use Rattle.cluster_model.specs.Inputs.{agent_at, moment_of, outcome_at, outcome_of}
use Rattle.cluster_model.specs.Machines.{machine_of, points_of}
use Rattle.cluster_model.specs.Messages.{agent_message, input_events, output_events}
use Rattle.cluster_model.specs.Parts.{each, event_of}
use Rattle.cluster_model.specs.State.{Cluster}
use Rattle.cluster_model.proofs.Places.{get-changed}
use Rattle.lease_book.specs.Groups.{AreNumberedAbove, IsNumberedAbove}
use Rattle.lease_model.specs.Leases.{LeaderSeen}
use Rattle.lease_model.proofs.Tools.{eq-from, none-some, some-is}
use Rattle.lease_parts.specs.Waiting.{IsAddressed, IsKnownEnd, IsPeerBody}
use Rattle.run_promise.proofs.Members.{numbered}
use Rattle.lease_inputs.specs.InputEvents.{IsMessageOf, IsOfInput, RunsAmong}
use Rattle.lease_inputs.specs.InputEvents.IsMessageOf.{Asks, AsksPeer, AnswersPeer, AnswersRequest}
use Rattle.lease_inputs.proofs.EveryInput.{agent-here, the-outcome, unchanged}
use Rattle.lease_inputs.proofs.InputBegun.{IsBegun, begun-by}
use Rattle.lease_inputs.proofs.InputKinds.{IsOpening}
use Rattle.lease_inputs.proofs.InputOutputs.{GoesBetween, each-between, each-numbered}
use Rattle.lease_inputs.proofs.InputStays.{Stays, each-mine, stays-over}
use Rattle.lease_owners.specs.Asking.{AsksFor, AsksOwn, Gives, HasRevision}
use Rattle.lease_owners.specs.Asking.HasRevision.{Given, Held, Read}
use Rattle.lease_owners.specs.Kept.{AgentsAreKept, IsOwned, KnowsItsRun}
use Rattle.lease_owners.specs.Owning.{HoldsOwn, IsOf}
use Rattle.lease_owners.proofs.Agents.{holds-on}
use Rattle.lease_owners.proofs.Arrivals.{owned-over}
use Rattle.lease_owners.proofs.Asking.{Retains, input-asks-own, input-keeps}
use Rattle.lease_owners.proofs.Flights.{AreTidy, IsTidy, SendsWell, of-over}

-- what an agent of this member hears gives it, and shows, only what these keys bear out
pub record HearsOwn (known : Keys) (m : ℕ) (heard : Heard) : Type 0 where
  pub gives : (o : Outcome) → o.knows.who.me.number ≡ m → (revision : ℕ) → Gives heard o revision
      → IsOf known m revision
  pub shows : (seen : LeaderSeen) → leader_seen_if (told_by heard) ≡ Some seen → IsOf known seen.holder seen.revision

both-all : (P Q : Output → Type 0) (outs : List Output) → All P outs → All Q outs → All (λ out. P out × Q out) outs
both-all P Q outs p q = λ k d h. (p k d h, q k d h)

-- ---- the event with which it begins
opening-tidy : (members : List Member) (facts : Facts) (hn : Option ℕ) (kind : EventKind) → IsOpening hn kind
    → IsTidy members facts kind
opening-tidy members facts hn (kinds.Agent (agents.Woken by)) is = tt
opening-tidy members facts hn (kinds.Agent (agents.Operated by action)) is = tt
opening-tidy members facts hn (kinds.Message (Delivered number)) is = tt
opening-tidy members facts hn _ is = absurd is

opening-keys : (cluster : Cluster) (hn : Option ℕ) (kind : EventKind) → IsOpening hn kind
    → (cluster_after cluster kind).facts.keys ≡ cluster.facts.keys
opening-keys cluster hn (kinds.Agent (agents.Woken by)) is = refl
opening-keys cluster hn (kinds.Agent (agents.Operated by action)) is = refl
opening-keys cluster hn (kinds.Message (Delivered number)) is = refl
opening-keys cluster hn _ is = absurd is

-- ---- what it sends
asks-peer : (body : Body) → IsAsk body → IsPeerBody body
asks-peer bodies.Ask is = tt
asks-peer (bodies.FailsafeRequest ttl) is = tt
asks-peer _ is = absurd is

peer-asks : (body : Body) (revision : ℕ) → IsAsk body → AsksFor revision body → ⊥
peer-asks bodies.Ask revision is asks = asks
peer-asks (bodies.FailsafeRequest ttl) revision is asks = asks
peer-asks _ revision is asks = absurd is

peer-grants : (body : Body) (to : LinkEnd) (revision : ℕ) → IsAsk body → grant_for body to revision ≡ None
peer-grants bodies.Ask to revision is = refl
peer-grants (bodies.FailsafeRequest ttl) to revision is = refl
peer-grants _ to revision is = absurd is

store-grants : (body : Body) (revision : ℕ) → grant_for body ends.Store revision ≡ None
store-grants (bodies.Granted request leased) revision = refl
store-grants _ revision = refl

same-member : (by member : Member) → ends.Member by ≡ ends.Member member → by ≡ member
same-member by member e = cc

ungranted : (known : Keys) (found : Option Granted) → found ≡ None → (granted : Granted) → found ≡ Some granted
    → granted.leased ≡ true → IsOf known granted.by.number granted.revision
ungranted known found none granted is leased = absurd (none-some granted (sym none ∙ is))

module _ (members : List Member) (known : Keys) (last : ℕ) (member : Member) (incarnation : ℕ) (Q : Output → Type 0)
    (questions : (sequence : ℕ) (body : Body) → Q (outputs.Message (outgoing.Send targets.Store sequence body))
    → IsQuestion body)
    (own : (sequence : ℕ) (body : Body) → Q (outputs.Message (outgoing.Send targets.Store sequence body))
    → (revision : ℕ) → AsksFor revision body → IsOf known member.id.number revision) where
  message-well : (number : ℕ) (message : Message) → last < number → IsKnownEnd members message.from
      → IsKnownEnd members message.to → IsMessageOf member incarnation Q message
      → SendsWell members known last number message
  message-well number message above from to (Asks question) = record {
    above = above;
    addressed = subst (λ (m : Message). IsAddressed m.from m.to m.body) (sym question.is)
        (questions question.sequence question.body question.from);
    from = from;
    to = to;
    asks = λ by revision sender asks.
        let same = same-member by member (sym sender ∙ ap (λ (m : Message). m.from) question.is) in
        subst (λ (x : Member). IsOf known x.id.number revision) (sym same)
        (own question.sequence question.body question.from revision
        (subst (λ (m : Message). AsksFor revision m.body) question.is asks));
    tells = ungranted known _
        (ap (λ (m : Message). grant_for m.body m.to known.revision) question.is
        ∙ store-grants question.body known.revision);
  }
  message-well number message above from to (AsksPeer peer id sequence body ask is output) = record {
    above = above;
    addressed = subst (λ (m : Message). IsAddressed m.from m.to m.body) (sym is) (asks-peer body ask);
    from = from;
    to = to;
    asks = λ by revision sender asks.
        absurd (peer-asks body revision ask (subst (λ (m : Message). AsksFor revision m.body) is asks));
    tells = ungranted known _
        (ap (λ (m : Message). grant_for m.body m.to known.revision) is
        ∙ peer-grants body (ends.Member peer) known.revision ask);
  }
  message-well number message above from to (AnswersPeer peer id asked sequence answer is output) = record {
    above = above;
    addressed = subst (λ (m : Message). IsAddressed m.from m.to m.body) (sym is) tt;
    from = from;
    to = to;
    asks = λ by revision sender asks. absurd (subst (λ (m : Message). AsksFor revision m.body) is asks);
    tells = ungranted known _ (ap (λ (m : Message). grant_for m.body m.to known.revision) is);
  }
  message-well number message above from to (AnswersRequest peer id asked sequence accepted at is output) = record {
    above = above;
    addressed = subst (λ (m : Message). IsAddressed m.from m.to m.body) (sym is) tt;
    from = from;
    to = to;
    asks = λ by revision sender asks. absurd (subst (λ (m : Message). AsksFor revision m.body) is asks);
    tells = ungranted known _ (ap (λ (m : Message). grant_for m.body m.to known.revision) is);
  }

-- ---- what its outputs bring
module _ (members : List Member) (known : Keys) (member : Member) (incarnation heard : ℕ) (Q : Output → Type 0)
    (questions : (sequence : ℕ) (body : Body) → Q (outputs.Message (outgoing.Send targets.Store sequence body))
    → IsQuestion body)
    (own : (sequence : ℕ) (body : Body) → Q (outputs.Message (outgoing.Send targets.Store sequence body))
    → (revision : ℕ) → AsksFor revision body → IsOf known member.id.number revision) where
  abbrev Mine : EventKind → Type 0
  Mine kind = IsOfInput member incarnation heard Q kind

  mine-tidy : (facts : Facts) (kind : EventKind) → facts.keys ≡ known → Mine kind → GoesBetween members kind
      → IsNumberedAbove facts.sent kind → IsTidy members facts kind
  mine-tidy facts (kinds.Message (Sent number message)) same is goes above =
      subst (λ (k : Keys). SendsWell members k facts.sent number message) (sym same)
      (message-well members known facts.sent member incarnation Q questions own number message above goes.0 goes.1 is)
  mine-tidy facts (kinds.Store happening) same is goes above = absurd is
  mine-tidy facts _ same is goes above = tt

  mine-keys : (cluster : Cluster) (kind : EventKind) → Mine kind
      → (cluster_after cluster kind).facts.keys ≡ cluster.facts.keys
  mine-keys cluster kinds.Tick is = absurd is
  mine-keys cluster (kinds.Store happening) is = absurd is
  mine-keys cluster _ is = refl

  all-tidy : (cluster : Cluster) (events : List Event) → cluster.facts.keys ≡ known → AllAre Mine events
      → AllAre (GoesBetween members) events → AreNumberedAbove cluster.facts.sent events
      → AreTidy members cluster.facts events
  all-tidy cluster [] same all goes above = tt
  all-tidy cluster (event ∷ events) same all goes above = (
    mine-tidy cluster.facts event.kind same all.0 goes.0 above.0,
    all-tidy (cluster_after cluster event.kind) events (mine-keys cluster event.kind all.0 ∙ same) all.1 goes.1 above.1,
  )

after-agent : (found : Option (Option AgentFacts)) (o : Outcome) (agent : AgentFacts)
    → option_map (agent_after (Some o)) found ≡ Some (Some agent)
    → ◌≡◌ {A = AgentFacts} (record { role = o.role; knows = o.knows }) agent
after-agent None o agent e = absurd (none-some (Some agent) e)
after-agent (Some found) o agent e =
    some-is (record { role = o.role; knows = o.knows }) agent
    (some-is (Some (record { role = o.role; knows = o.knows })) (Some agent) e)

-- ---- the input
module _ (head : HeadText) (few : length (names_of head) ≤ MOST_MEMBERS) (cluster : Cluster)
    (good : IsOwned head cluster) (member : Member)
    (stands : slice_get cluster.facts.members member.id.number ≡ Some member) (heard : Heard)
    (own : HearsOwn cluster.facts.keys member.id.number heard) (hn : Option ℕ) (message : HeardMessage)
    (opening : EventKind) (opens : IsOpening hn opening) where
  abbrev M : ℕ
  M = member.id.number

  abbrev Members : List Member
  Members = cluster.facts.members

  abbrev First : Cluster
  First = cluster_after cluster opening

  begun : IsBegun M cluster First
  begun = begun-by M cluster hn opening opens

  -- nobody acts
  module _ (same : First.agents ≡ cluster.agents) where
    pub idle-owned : IsOwned head First
    idle-owned = owned-over head cluster (event_of cluster opening)
        (opening-tidy Members cluster.facts hn opening opens, tt) begun.members
        (λ m agent is.
        let was = good.agents m agent (ap (λ (l : List (Option AgentFacts)). slice_get l m) (sym same) ∙ is) in (
          subst (λ (l : List AgentProcess). KnowsItsRun m (slice_get l m) agent) (sym begun.processes) was.0,
          subst (λ (k : Keys). HoldsOwn k m agent) (sym (opening-keys cluster hn opening opens)) was.1,
        )) good

  -- an agent that is there acts
  module _ (agent : AgentFacts) (machine : Machine) (here : slice_get cluster.agents M ≡ Some (Some agent)) where
    abbrev Before : Outcome
    Before = outcome_from agent.role agent.knows machine []

    abbrev Now : Ticks
    Now = moment_of cluster

    abbrev After : Outcome
    After = step Now (points_of cluster member) heard Before

    abbrev Rest : List Event
    Rest = each (output_events member message) First After.outputs

    abbrev Then : Cluster
    Then = cluster_over First Rest

    knows-it : KnowsItsRun M (slice_get cluster.facts.processes M) agent
    knows-it = (good.agents M agent here).0

    holds-it : HoldsOwn cluster.facts.keys M agent
    holds-it = (good.agents M agent here).1

    anew : AsksAnew Now agent.knows After.knows After.outputs
    anew = step-asks-anew Now (points_of cluster member) heard agent.role agent.knows machine

    table : All IsOfTable After.outputs
    table = (step-carried-out Now (points_of cluster member) heard agent.role agent.knows machine).kinds

    abbrev Q : Output → Type 0
    Q out = SendsBetween agent.knows.sequence After.knows.sequence out × AsksOwn heard Before After out

    runs : RunsAmong member agent.knows.incarnation First.facts
    runs = record {
      process = λ process is. sym (knows-it.incarnation process
          (ap (λ (l : List AgentProcess). slice_get l M) (sym begun.processes) ∙ is));
      numbered = λ n peer is. numbered head few n peer
          (ap (λ (l : List Member). slice_get l n) (sym (begun.members ∙ good.members)) ∙ is);
    }

    mine : AllAre (IsOfInput member agent.knows.incarnation message.number Q) Rest
    mine = each-mine member agent.knows.incarnation message.number Q First message refl runs After.outputs table
        (both-all (SendsBetween agent.knows.sequence After.knows.sequence) (AsksOwn heard Before After) After.outputs
        anew.sends (input-asks-own Now (points_of cluster member) heard agent.role agent.knows machine knows-it.ends))

    stays : Stays M First Then
    stays = stays-over member agent.knows.incarnation message.number Q First Rest mine

    -- ---- what it has
    me-after : After.knows.who.me.number ≡ M
    me-after = ap (λ (w : Who). w.me.number) anew.who ∙ knows-it.me

    read-own : (seen : LeaderSeen) → leader_seen_if After.knows.seen ≡ Some seen
        → IsOf cluster.facts.keys seen.holder seen.revision
    read-own seen is = elim ((step-onward Now (points_of cluster member) heard Before).leader seen is) [
      | inl was ↦ holds-it.read seen was
      | inr told ↦ own.shows seen told
    ]

    kept-own : (revision : ℕ) → Retains heard Before revision → IsOf cluster.facts.keys M revision
    kept-own revision (inl was) = holds-it.held revision was
    kept-own revision (inr gives) = own.gives Before knows-it.me revision gives

    has-own : (revision : ℕ) → HasRevision heard Before After revision → IsOf cluster.facts.keys M revision
    has-own revision (Read shown) = subst (λ (m : ℕ). IsOf cluster.facts.keys m revision) me-after
        (read-own (record { holder = After.knows.who.me.number; revision = revision }) shown)
    has-own revision (Held was) = kept-own revision (inl was)
    has-own revision (Given gives) = kept-own revision (inr gives)

    behind : HoldsOwn cluster.facts.keys M (record { role = After.role; knows = After.knows })
    behind = record {
      held = λ revision is.
          kept-own revision (input-keeps Now (points_of cluster member) heard Before revision is);
      read = read-own;
    }

    knows-after : KnowsItsRun M (slice_get cluster.facts.processes M)
        (record { role = After.role; knows = After.knows })
    knows-after = record {
      incarnation = λ process is. anew.incarnation ∙ knows-it.incarnation process is;
      me = me-after;
      ends = input-ends Now (points_of cluster member) heard Before knows-it.ends;
    }

    tidy : AreTidy Members cluster.facts (event_of cluster opening ++ Rest)
    tidy = (
      opening-tidy Members cluster.facts hn opening opens,
      all-tidy Members cluster.facts.keys member agent.knows.incarnation message.number Q
          (λ sequence body is. is.0.2) (λ sequence body is revision asks. has-own revision (is.1 revision asks))
          First Rest (opening-keys cluster hn opening opens) mine
          (subst (λ (l : List Member). AllAre (GoesBetween l) Rest) begun.members
          (each-between member agent.knows.incarnation message First After.outputs
          (ap (λ (l : List Member). slice_get l M) begun.members ∙ stands) runs table))
          (each-numbered member agent.knows.incarnation message First After.outputs runs table),
    )

    module _ (acts : First.agents ≡ with_changed cluster.agents M (agent_after (Some After))) where
      agents-by : (m : ℕ) (there : Bool) → (m == M) ≡ there → (one : AgentFacts)
          → cond there (option_map (agent_after (Some After)) (slice_get cluster.agents m))
          (slice_get cluster.agents m) ≡ Some (Some one)
          → KnowsItsRun m (slice_get cluster.facts.processes m) one × HoldsOwn cluster.facts.keys m one
      agents-by m true same one is =
          let whole = after-agent (slice_get cluster.agents m) After one is in
          subst (λ (n : ℕ).
          KnowsItsRun n (slice_get cluster.facts.processes n) one × HoldsOwn cluster.facts.keys n one)
          (sym (eq-from m M same)) (
            subst (KnowsItsRun M (slice_get cluster.facts.processes M)) whole knows-after,
            subst (HoldsOwn cluster.facts.keys M) whole behind,
          )
      agents-by m false same one is = good.agents m one is

      pub acting-owned : IsOwned head Then
      acting-owned = owned-over head cluster (event_of cluster opening ++ Rest) tidy (stays.members ∙ begun.members)
          (λ m one is.
          let found = ap (λ (l : List (Option AgentFacts)). slice_get l m) (sym (stays.agents ∙ acts)) ∙ is in
          let was = agents-by m (m == M) refl one
          (sym (get-changed cluster.agents M m (agent_after (Some After))) ∙ found) in (
            subst (λ (l : List AgentProcess). KnowsItsRun m (slice_get l m) one)
                (sym (stays.processes ∙ begun.processes)) was.0,
            holds-on cluster.facts.keys Then.facts.keys m one
                (of-over Members cluster (event_of cluster opening ++ Rest) tidy good.facts) was.1,
          )) good

  -- whoever acts or not
  module _ (acts : First.agents ≡ agent_facts_with cluster.agents member (outcome_of cluster member heard)) where
    abbrev OwnedBy : Option Outcome → Type 0
    OwnedBy outcome = IsOwned head (cluster_over First (input_events First member message outcome))

    none-owned : outcome_of cluster member heard ≡ None → IsOwned head First
    none-owned none = idle-owned (acts ∙ ap (agent_facts_with cluster.agents member) none
        ∙ unchanged cluster.agents M)

    owned-by : (agent : Option AgentFacts) (machine : Option Machine) → agent_at cluster.agents M ≡ agent
        → machine_of cluster member ≡ machine
        → OwnedBy (outcome_at (moment_of cluster) (points_of cluster member) heard agent machine)
    owned-by None machine a m = none-owned (the-outcome cluster member heard None machine a m)
    owned-by (Some agent) None a m = none-owned (the-outcome cluster member heard (Some agent) None a m)
    owned-by (Some agent) (Some machine) a m =
        acting-owned agent machine (agent-here cluster member agent a)
        (acts ∙ ap (agent_facts_with cluster.agents member)
        (the-outcome cluster member heard (Some agent) (Some machine) a m))

    pub input-owned : OwnedBy (outcome_of cluster member heard)
    input-owned = owned-by (agent_at cluster.agents M) (machine_of cluster member) refl refl
