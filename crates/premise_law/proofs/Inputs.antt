-- What an input of an agent tells of a watchdog that is fed, and of the sync key.
use Rattle.std.proofs.Common.{ℕ, ◌≡◌, ◌==◌, ◌||◌, ◌++◌, Bool, true, false, List, [], ◌∷◌, slice_get, Option, Some, None, refl, ◌∙◌, ap, sym, subst, append_assoc, append-nil, arith}
use Rattle.std.proofs.lemmas.Bool.Decides.{nat_tests}
use Rattle.pat_base.specs.declared.member_id.MemberId.{MemberId}
use Rattle.pat_base.specs.declared.ticks.Ticks.{Ticks}
use Rattle.lease_store.specs.declared.granted.Granted.{Granted}
use Rattle.cluster_view.specs.Naming.{is_named}
use Rattle.script_model.specs.Script.{HeadText}
use Rattle.event_book.specs.declared.event.AgentEvent.TheVariants as agents
use Rattle.event_book.specs.declared.event.Event.{Event}
use Rattle.event_book.specs.declared.event.EventKind.{EventKind}
use Rattle.event_book.specs.declared.event.EventKind.TheVariants as kinds
use Rattle.event_book.specs.declared.event.MessageEvent.TheVariants as messages
use Rattle.event_book.specs.declared.event.WatchdogEvent.TheVariants as watchdogs
use Rattle.event_book.specs.declared.member.Member.{Member}
use Rattle.event_book.specs.declared.message.Body.{Body}
use Rattle.event_book.specs.declared.message.Body.TheVariants as bodies
use Rattle.event_book.specs.declared.message.Message.{Message}
use Rattle.event_book.specs.declared.reason.Basis.{Basis}
use Rattle.event_book.specs.Kinds.{AllAre}
use Rattle.agent_model.specs.declared.knowledge.SyncRead.{SyncRead}
use Rattle.agent_model.specs.declared.output.Output.{Output}
use Rattle.agent_model.specs.Agents.{AgentFacts}
use Rattle.agent_model.specs.Synchronous.{is_named_if}
use Rattle.cluster_model.specs.Cluster.{cluster_over}
use Rattle.cluster_model.specs.Starting.{cluster_of}
use Rattle.commit_runs.specs.Runs.{start_in}
use Rattle.run_promise.proofs.Upholding.{over-append}
use Rattle.cluster_model.specs.State.{Cluster}
use Rattle.cluster_model.proofs.Lists.{all-both, all-more}
use Rattle.lease_inputs.specs.InputEvents.{AnswersPeer, AnswersRequest, Asks, AsksPeer, ByFailsafe, ByGrant, IsFeedOf, IsMessageOf, IsOfInput}
use Rattle.lease_inputs.proofs.InputStays.{stays-over}
use Rattle.sync_order.specs.Order.{has}
use Rattle.premise_law.specs.Feeding.{ActsOnItsGrant, BeginsNoInput, IsFedOnItsGrant}
use Rattle.premise_law.specs.Passing.{HasReadOthers}
use Rattle.premise_law.proofs.ReadKeys.{Knowing, knowing-over}
use Rattle.premise_law.proofs.Runs.{AreSaid, Says, TellsGrant}
use Rattle.premise_law.proofs.Telling.{IsInquiry, TellsOnly}

pub no-way : true ≡ false → ⊥
no-way e = cc

-- ---- whom a sync key doesn't name
not-one : (a b : Bool) → a || b ≡ false → (a ≡ false) × (b ≡ false)
not-one true b e = absurd (no-way e)
not-one false b e = (refl, e)

not-same : (n m : ℕ) → n == m ≡ false → n ≡ m → ⊥
not-same n m differs same = grind (arith, differs, same, nat_tests)

unnamed-read : (me : MemberId) (read : Option SyncRead) → is_named_if me read ≡ false
    → (found : SyncRead) × (read ≡ Some found) × (is_named me found.key ≡ false)
unnamed-read me None e = absurd (no-way e)
unnamed-read me (Some found) e = (found, refl, e)

-- ---- what a member sends tells of no grant
inquiry-tells : (front : List Event) (message : Message) (body : Body) → IsInquiry body → TellsGrant front message body
inquiry-tells front message (bodies.Granted request leased) is = absurd is
inquiry-tells front message _ is = tt

module _ (member : Member) (incarnation heard : ℕ) (U F : Type 0) where
  abbrev Q : Output → Type 0
  Q output = TellsOnly U F output

  abbrev Mine : EventKind → Type 0
  Mine kind = IsOfInput member incarnation heard Q kind

  sent-tells : (front : List Event) (message : Message) → IsMessageOf member incarnation Q message
      → TellsGrant front message message.body
  sent-tells front message (Asks question) =
      subst (λ (m : Message). TellsGrant front m m.body) (sym question.is)
      (inquiry-tells front _ question.body question.from)
  sent-tells front message (AsksPeer peer id sequence body asks is from) =
      subst (λ (m : Message). TellsGrant front m m.body) (sym is) (inquiry-tells front _ body from)
  sent-tells front message (AnswersPeer peer id asked sequence answer is from) =
      subst (λ (m : Message). TellsGrant front m m.body) (sym is) tt
  sent-tells front message (AnswersRequest peer id asked sequence accepted at is from) =
      subst (λ (m : Message). TellsGrant front m m.body) (sym is) tt

  -- no input begins among what an input brings
  mine-within : (kind : EventKind) → Mine kind → BeginsNoInput kind
  mine-within kinds.Tick is = absurd is
  mine-within (kinds.Message (messages.Delivered number)) is = absurd is
  mine-within (kinds.Agent (agents.Woken by)) is = absurd is
  mine-within (kinds.Agent (agents.Operated by action)) is = absurd is
  mine-within _ is = tt

  -- behind the event with which the input begins
  module _ (head : HeadText) (front : List Event) (cluster : Cluster)
      (knows : Knowing (start_in head) front cluster)
      (lease : (done : List Event) → AllAre BeginsNoInput done → F → ActsOnItsGrant (front ++ done) member heard)
      (outside : (done : List Event) → AllAre Mine done → U →
      HasReadOthers head (front ++ done) member.id.number) where
    fed-says : (done : List Event) → AllAre Mine done → (by : Member) (until : Ticks) (basis : Basis) → by ≡ member
        → IsFeedOf heard Q until basis → IsFedOnItsGrant (front ++ done) (watchdogs.Fed by until basis)
    fed-says done all by until basis is (ByGrant same from) =
        subst (λ (b : Basis). IsFedOnItsGrant (front ++ done) (watchdogs.Fed by until b)) (sym same)
        (subst (λ (m : Member). ActsOnItsGrant (front ++ done) m heard) (sym is)
        (lease done (all-more Mine BeginsNoInput done mine-within all) from))
    fed-says done all by until basis is (ByFailsafe members sequence since same from) =
        subst (λ (b : Basis). IsFedOnItsGrant (front ++ done) (watchdogs.Fed by until b)) (sym same) tt

    mine-says : (done : List Event) → AllAre Mine done → (kind : EventKind) → Mine kind
        → Says head (front ++ done) kind
    mine-says done all (kinds.Message (messages.Sent number message)) is =
        record { feeds = tt; passes = tt; sends = sent-tells (front ++ done) message is }
    mine-says done all (kinds.Watchdog (watchdogs.Armed by until answer)) is = record {
      feeds = subst (λ (n : ℕ). ActsOnItsGrant (front ++ done) by n) (sym is.1)
          (subst (λ (m : Member). ActsOnItsGrant (front ++ done) m heard) (sym is.0)
          (lease done (all-more Mine BeginsNoInput done mine-within all) is.2));
      passes = tt;
      sends = tt;
    }
    mine-says done all (kinds.Watchdog (watchdogs.Fed by until basis)) is =
        record { feeds = fed-says done all by until basis is.0 is.1; passes = tt; sends = tt }
    mine-says done all (kinds.Agent (agents.Passed by)) is = record {
      feeds = tt;
      passes = subst (λ (m : Member). HasReadOthers head (front ++ done) m.id.number) (sym is.0)
          (outside done all is.1);
      sends = tt;
    }
    mine-says done all _ is = record { feeds = tt; passes = tt; sends = tt }

    mine-said : (done events : List Event) → AllAre Mine done → AllAre Mine events
        → AreSaid head (front ++ done) events
    mine-said done [] all more = tt
    mine-said done (event ∷ events) all more = (
      mine-says done all event.kind more.0,
      subst (λ (l : List Event). AreSaid head l events) (sym (append_assoc front done (event ∷ [])))
          (mine-said (done ++ event ∷ []) events (all-both Mine done (event ∷ []) all (more.0, tt)) more.1),
    )

    pub input-said : (events : List Event) → AllAre Mine events → AreSaid head front events
    input-said events more =
        subst (λ (l : List Event). AreSaid head l events) (append-nil front) (mine-said [] events tt more)

  -- who passes has read that the sync key doesn't name it: the agent is as its input left it
  pub outside-read : (head : HeadText) (front : List Event) (cluster : Cluster)
      → Knowing (start_in head) front cluster → cluster ≡ cluster_over (cluster_of head) front
      → (agent : AgentFacts) → slice_get cluster.agents member.id.number ≡ Some (Some agent)
      → (done : List Event) → AllAre Mine done → is_named_if agent.knows.who.me agent.knows.turn_sync ≡ false
      → HasReadOthers head (front ++ done) member.id.number
  outside-read head front cluster knows left agent here done all outside =
      let later : Knowing (start_in head) (front ++ done) (cluster_over cluster done) =
      knowing-over (start_in head) front cluster done knows in
      let stays = stays-over member incarnation heard Q cluster done all in
      let there : slice_get (cluster_over cluster done).agents member.id.number ≡ Some (Some agent) =
      ap (λ (l : List (Option AgentFacts)). slice_get l member.id.number) stays.agents ∙ here in
      let its = later.known member.id.number agent there in
      let read = unnamed-read agent.knows.who.me agent.knows.turn_sync outside in
      let parts = not-one _ _ read.2 in
      record {
        agent = agent;
        stands = ap (λ (c : Cluster). slice_get c.agents member.id.number)
            (over-append (cluster_of head) front done ∙ ap (λ (c : Cluster). cluster_over c done) (sym left)) ∙ there;
        turn = read.0;
        is = read.1;
        read = its.read read.0 read.1;
        leader = λ same. not-same read.0.key.leader.number agent.knows.who.me.number parts.0 (same ∙ sym its.me);
        standbys = ap (has read.0.key.standbys) (sym its.me) ∙ parts.1;
      }
