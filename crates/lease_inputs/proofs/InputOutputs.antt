-- All outputs of an input, one after another: the numbers of its messages,
-- the machine that they leave, who begins in them, and what they feed.
use Rattle.run_promise.proofs.Upholding.{over-append}
use Rattle.std.proofs.Common.{◌≡◌, ◌⊎◌, ◌+◌, ◌++◌, ◌||◌, nat_le, ℕ, Bool, true, false, List, [], ◌∷◌, Option, Some, None, All, length, slice_get, option_map, refl, sym, subst, ap, ◌∙◌, arith, inl, inr}
use Rattle.std.proofs.lemmas.List.Elements.{All-head, All-tail}
use Rattle.pat_base.specs.declared.member_id.MemberId.{MemberId}
use Rattle.pat_base.specs.declared.member_set.MemberSet.{MemberSet}
use Rattle.pat_base.specs.declared.server_state.State.{State}
use Rattle.pat_base.specs.declared.server_state.State.TheVariants as states
use Rattle.pat_base.specs.declared.ticks.Ticks.{Ticks}
use Rattle.pat_base.specs.ServerState.{live}
use Rattle.pg_model.specs.Facts.{ServerFacts}
use Rattle.event_book.specs.declared.agent_process.AgentProcess.{AgentProcess}
use Rattle.event_book.specs.declared.event.Event.{Event}
use Rattle.event_book.specs.declared.event.EventKind.{EventKind}
use Rattle.event_book.specs.declared.event.EventKind.TheVariants as kinds
use Rattle.event_book.specs.declared.event.MessageEvent.TheVariants.{Sent}
use Rattle.event_book.specs.declared.event.ServerEvent.TheVariants as servers
use Rattle.event_book.specs.declared.event.WatchdogEvent.TheVariants as watchdogs
use Rattle.event_book.specs.declared.member.Member.{Member}
use Rattle.event_book.specs.declared.member.ServerOf.{ServerOf}
use Rattle.event_book.specs.declared.message.Body.{Body}
use Rattle.event_book.specs.declared.message.Body.TheVariants as bodies
use Rattle.event_book.specs.declared.message.Message.{Message}
use Rattle.event_book.specs.declared.link.LinkEnd.{LinkEnd}
use Rattle.event_book.specs.declared.link.LinkEnd.TheVariants as ends
use Rattle.event_book.specs.declared.reason.Basis.TheVariants as bases
use Rattle.event_book.specs.Facts.{Facts}
use Rattle.event_book.specs.Members.{server_id_of}
use Rattle.event_book.specs.Writers.{BeginsKind}
use Rattle.agent_model.specs.declared.machine.Machine.{Machine}
use Rattle.agent_model.specs.declared.output.Output.{Output}
use Rattle.agent_model.specs.declared.output.Output.TheVariants as outputs
use Rattle.agent_model.specs.declared.output.Feeding.TheVariants as feedings
use Rattle.agent_model.specs.declared.output.Outgoing.TheVariants as outgoing
use Rattle.agent_model.specs.declared.output.ServerOrder.TheVariants as orders
use Rattle.agent_model.specs.declared.output.Repair.{Repair}
use Rattle.agent_model.specs.declared.output.Target.TheVariants as targets
use Rattle.agent_model.specs.declared.output.Telling.TheVariants as tellings
use Rattle.agent_model.specs.Acting.{upstream_of}
use Rattle.agent_outputs.specs.Orders.{EndsRepairing, IsOfTable, RepairsLast, machine_after_output, machine_after_outputs}
use Rattle.agent_model.specs.Outputs.{is_arming, is_feeding, has_one, with_output, BeginsOnly, OutputsBeginBehind}
use Rattle.agent_model.specs.declared.output.Target.{Target}
use Rattle.cluster_model.specs.declared.heard_message.HeardMessage.{HeardMessage}
use Rattle.agent_roles.proofs.Living.{follow-live, restart-live, start-live, stop-live, wipe-live}
use Rattle.cluster_model.specs.Beginnings.{server_restart_in, server_restart_kinds}
use Rattle.cluster_model.specs.Cluster.{cluster_after, cluster_over}
use Rattle.cluster_model.specs.FailsafeDeadlines.{failsafe_deadlines_after}
use Rattle.cluster_model.specs.Limits.{most_in_flight}
use Rattle.cluster_model.specs.Messages.{agent_message, lost_at_once, send_events, sending_events, replying_events, receiver_of, output_events}
use Rattle.cluster_model.specs.Orders.{server_at}
use Rattle.cluster_model.specs.Parts.{each, events_of, for_some}
use Rattle.cluster_model.specs.State.{Cluster}
use Rattle.lease_model.specs.Claims.{BeginsBehind, IsArmedIn}
use Rattle.lease_model.specs.Feeds.{KeepsMomentOf, IsFedBy}
use Rattle.event_book.specs.Kinds.{AllAre}
use Rattle.lease_law.proofs.Runs.{assoc, none-more}
use Rattle.lease_model.proofs.Tools.{none-some, some-is}
use Rattle.lease_book.specs.Groups.{AreNumberedAbove}
use Rattle.cluster_model.proofs.Lists.{all-both, all-front, all-back, all-kinds}
use Rattle.cluster_model.proofs.Outputs.{HoldsOfOutputs, output-holds}
use Rattle.lease_inputs.specs.InputEvents.{ByGrant, ByFailsafe, IsFeedOf, IsOfInput, IsToBegin, RunsAmong}
use Rattle.lease_parts.specs.Machines.{live_in, live_now}
use Rattle.lease_parts.specs.Waiting.{IsKnownEnd}
use Rattle.lease_inputs.proofs.InputEvents.{again-mine, output-mine}
use Rattle.lease_inputs.proofs.InputServers.{Mirrors}
use Rattle.lease_inputs.proofs.InputMachines.{IsHeldFor, RepairsNone, Resembles, mirrored, output-here, repair-resembles}
use Rattle.lease_inputs.proofs.InputStays.{Stays, item-here, runs-over, stays-over}
use Rattle.lease_inputs.proofs.InputNumbers.{no_message, numbered-both, sent-is, unnumbered-all}

-- an output with which a server may come to accept writes has this
abbrev MayBegin : Type 0 → Output → Type 0
MayBegin X (outputs.Server orders.Begin) = X
MayBegin X (outputs.Server (orders.Restart as_primary)) = X
MayBegin X _ = Unit {0}

-- a message that is sent goes between these members and the key store
abbrev pub GoesBetween : List Member → EventKind → Type 0
GoesBetween members (kinds.Message (Sent number message)) =
    IsKnownEnd members message.from × IsKnownEnd members message.to
GoesBetween members _ = Unit {0}

-- no server starts again by this output
abbrev RestartsNone : Output → Type 0
RestartsNone (outputs.Server (orders.Restart as_primary)) = ⊥
RestartsNone _ = Unit {0}

-- ---- the outputs
module _ (member : Member) (incarnation : ℕ) (message : HeardMessage) where
  abbrev Runs : Facts → Type 0
  Runs facts = RunsAmong member incarnation facts

  abbrev Brings : Cluster → Output → List Event
  Brings cluster output = output_events member message cluster output

  abbrev Later : Cluster → Output → Cluster
  Later cluster output = cluster_over cluster (Brings cluster output)

  abbrev Any : Output → Type 0
  Any output = Unit {0}

  any-all : (outs : List Output) → All Any outs
  any-all outs = λ k d h. tt

  pub stays-output : (cluster : Cluster) (output : Output) → Runs cluster.facts → IsOfTable output
      → Stays member.id.number cluster (Later cluster output)
  stays-output cluster output runs table =
      stays-over member incarnation message.number Any cluster (Brings cluster output)
      (output-mine member incarnation message.number Any cluster message refl runs output table tt)

  pub runs-later : (cluster : Cluster) (output : Output) → Runs cluster.facts → IsOfTable output
      → Runs (Later cluster output).facts
  runs-later cluster output runs table = runs-over member incarnation message.number Any cluster
      (Later cluster output) (stays-output cluster output runs table) runs

  -- ---- numbers
  lost-numbered : (cluster : Cluster) (test : Bool) (number last : ℕ)
      → AreNumberedAbove last (events_of cluster (lost_at_once test number))
  lost-numbered cluster true number last = (tt, tt)
  lost-numbered cluster false number last = tt

  message-numbered : (cluster : Cluster) (sends : Message)
      → AreNumberedAbove cluster.facts.sent (send_events cluster sends)
  message-numbered cluster sends =
      let sent : EventKind = kinds.Message (Sent (cluster.facts.sent + 1) sends) in (
        omega arith,
        lost-numbered (cluster_after cluster sent) (nat_le most_in_flight (length cluster.facts.flight))
            (cluster.facts.sent + 1) (cluster.facts.sent + 1),
      )

  send-numbered : (cluster : Cluster) (to : Option LinkEnd) (sequence : ℕ) (body : Body) (found : Option AgentProcess)
      → AreNumberedAbove cluster.facts.sent (sending_events cluster member found to sequence body)
  send-numbered cluster to sequence body None = tt
  send-numbered cluster None sequence body (Some process) = tt
  send-numbered cluster (Some to) sequence body (Some process) =
      message-numbered cluster (agent_message member to process.incarnation sequence body)

  reply-numbered : (cluster : Cluster) (to : Option LinkEnd) (asked sequence : ℕ) (body : Body)
      → AreNumberedAbove cluster.facts.sent (replying_events cluster member to asked sequence body)
  reply-numbered cluster None asked sequence body = tt
  reply-numbered cluster (Some to) asked sequence body =
      message-numbered cluster (agent_message member to asked sequence body)

  other-numbered : (cluster : Cluster) (output : Output) → Runs cluster.facts → IsOfTable output
      → no_message output → AreNumberedAbove cluster.facts.sent (Brings cluster output)
  other-numbered cluster output runs table silent =
      unnumbered-all member incarnation message.number cluster.facts.sent (Brings cluster output)
      (output-mine member incarnation message.number no_message cluster message refl runs output table silent)

  pub output-numbered : (cluster : Cluster) (output : Output) → Runs cluster.facts → IsOfTable output
      → AreNumberedAbove cluster.facts.sent (Brings cluster output)
  output-numbered cluster (outputs.Message (outgoing.Send to sequence body)) runs table = send-numbered cluster
      (receiver_of cluster.facts.members to) sequence body (slice_get cluster.facts.processes member.id.number)
  output-numbered cluster (outputs.Message (outgoing.Answer to asked sequence answer)) runs table =
      reply-numbered cluster
      (receiver_of cluster.facts.members (targets.Member to)) asked sequence (bodies.Answer answer)
  output-numbered cluster (outputs.Message (outgoing.FailsafeAnswer to asked sequence accepted)) runs table =
      reply-numbered cluster
      (receiver_of cluster.facts.members (targets.Member to)) asked sequence (bodies.FailsafeAnswer accepted)
  output-numbered cluster output runs table = other-numbered cluster output runs table tt

  pub each-numbered : (cluster : Cluster) (outs : List Output) → Runs cluster.facts → All IsOfTable outs
      → AreNumberedAbove cluster.facts.sent (each (output_events member message) cluster outs)
  each-numbered cluster [] runs table = tt
  each-numbered cluster (output ∷ more) runs table =
      let one = All-head IsOfTable output more table in
      numbered-both cluster.facts.sent (Brings cluster output)
      (each (output_events member message) (Later cluster output) more) (output-numbered cluster output runs one)
      (subst (λ (n : ℕ). AreNumberedAbove n (each (output_events member message) (Later cluster output) more))
      (sent-is cluster (Brings cluster output))
      (each-numbered (Later cluster output) more (runs-later cluster output runs one)
      (All-tail IsOfTable output more table)))

  -- ---- between members
  -- a member that is found at this number stands at its own
  stands-there : (members : List Member)
      → ((n : ℕ) (peer : Member) → slice_get members n ≡ Some peer → peer.id.number ≡ n)
      → (n : ℕ) (peer : Member) → slice_get members n ≡ Some peer → slice_get members peer.id.number ≡ Some peer
  stands-there members numbered n peer is = ap (λ (k : ℕ). slice_get members k) (numbered n peer is) ∙ is

  known-peer : (members : List Member)
      → ((n : ℕ) (peer : Member) → slice_get members n ≡ Some peer → peer.id.number ≡ n)
      → (n : ℕ) (peer : Option Member) → slice_get members n ≡ peer → (end : LinkEnd)
      → option_map (λ (m : Member). ends.Member m) peer ≡ Some end → IsKnownEnd members end
  known-peer members numbered n None is end e = absurd (none-some end e)
  known-peer members numbered n (Some peer) is end e =
      subst (IsKnownEnd members) (some-is (ends.Member peer) end e) (stands-there members numbered n peer is)

  known-store : (members : List Member) (end : LinkEnd)
      → ◌≡◌ {A = Option LinkEnd} (Some ends.Store) (Some end) → IsKnownEnd members end
  known-store members end e = subst (IsKnownEnd members) (some-is ends.Store end e) tt

  known-end : (members : List Member)
      → ((n : ℕ) (peer : Member) → slice_get members n ≡ Some peer → peer.id.number ≡ n) → (target : Target)
      (to : LinkEnd) → receiver_of members target ≡ Some to → IsKnownEnd members to
  known-end members numbered targets.Store to is = known-store members to is
  known-end members numbered (targets.Member id) to is =
      known-peer members numbered id.number (slice_get members id.number) refl to is

  holds-between : (cluster : Cluster) → slice_get cluster.facts.members member.id.number ≡ Some member
      → Runs cluster.facts → HoldsOfOutputs (GoesBetween cluster.facts.members) cluster member
  holds-between cluster mine runs = record {
    messages = record {
      sent = λ target to is asked sequence body. (mine, known-end cluster.facts.members runs.numbered target to is);
      lost = tt;
    };
    orders = λ order. record {
      begins = λ lets timeline. tt;
      lacks = λ lets. tt;
      starts_as_primary = λ lets. tt;
      starts_as_replica = tt;
      follows = λ leader. tt;
      says = λ reason. tt;
      ends = λ lets. tt;
      stops = λ lets. tt;
      wiped = λ lets. tt;
      rewound = λ lets leader r. tt;
      copied = λ lets leader. tt;
    };
    feedings = record {
      measured = λ since. tt;
      armed = λ until answer. tt;
      fed = λ until basis. tt;
      disarmed = tt;
    };
    required = λ required names. tt;
    tellings = λ telling. record {
      answers = λ is reply. tt;
      holds = λ until asked sequence from. tt;
      passes = λ is. tt;
    };
    notes = λ note noted. tt;
  }

  -- each message of an input goes between members and the key store
  pub each-between : (cluster : Cluster) (outs : List Output)
      → slice_get cluster.facts.members member.id.number ≡ Some member → Runs cluster.facts → All IsOfTable outs
      → AllAre (GoesBetween cluster.facts.members) (each (output_events member message) cluster outs)
  each-between cluster [] mine runs table = tt
  each-between cluster (output ∷ more) mine runs table =
      let one = All-head IsOfTable output more table in let next = Later cluster output in
      let members : next.facts.members ≡ cluster.facts.members = (stays-output cluster output runs one).members in
      all-both (GoesBetween cluster.facts.members) (Brings cluster output)
      (each (output_events member message) next more)
      (output-holds (GoesBetween cluster.facts.members) cluster member message (holds-between cluster mine runs) output)
      (subst (λ (l : List Member). AllAre (GoesBetween l) (each (output_events member message) next more)) members
      (each-between next more (ap (λ (l : List Member). slice_get l member.id.number) members ∙ mine)
      (runs-later cluster output runs one) (All-tail IsOfTable output more table)))

  -- ---- the machine
  -- a repair comes last
  last-resembles : (cluster : Cluster) (machine : Machine) (leader : MemberId) (repair : Repair) (more : List Output)
      → more ≡ [] → Mirrors cluster member.id.number machine
      → Resembles (cluster_over cluster
      (each (output_events member message) cluster (outputs.Server (orders.Repair leader repair) ∷ more)))
      member.id.number machine
  last-resembles cluster machine leader repair more none old =
      subst (λ (l : List Output).
      Resembles (cluster_over cluster
      (each (output_events member message) cluster (outputs.Server (orders.Repair leader repair) ∷ l)))
      member.id.number machine)
      (sym none)
      (subst (λ (c : Cluster). Resembles c member.id.number machine)
      (sym (over-append cluster (Brings cluster (outputs.Server (orders.Repair leader repair))) []))
      (repair-resembles cluster member message machine leader repair (mirrored cluster member.id.number machine old)))

  -- one output is carried out, and then the others
  more-resemble : (now : Ticks) (cluster : Cluster) (machine : Machine) (output : Output) (more : List Output)
      → RepairsNone output → IsOfTable output → IsHeldFor cluster.facts.members output
      → cluster.facts.clock ≡ now.0 → Mirrors cluster member.id.number machine
      → (Mirrors (Later cluster output) member.id.number (machine_after_output now machine output)
      → Resembles (cluster_over (Later cluster output)
      (each (output_events member message) (Later cluster output) more))
      member.id.number (machine_after_outputs now (machine_after_output now machine output) more))
      → Resembles (cluster_over cluster (each (output_events member message) cluster (output ∷ more))) member.id.number
      (machine_after_outputs now (machine_after_output now machine output) more)
  more-resemble now cluster machine output more none table held clock old then =
      let next = Later cluster output in
      let made = output-here member cluster message machine output table none held old in
      subst (λ (c : Cluster).
      Resembles c member.id.number (machine_after_outputs now (machine_after_output now machine output) more))
      (sym (over-append cluster (Brings cluster output) (each (output_events member message) next more)))
      (then (subst (λ (n : ℕ). let t : Ticks = record { 0 = n } in
      Mirrors next member.id.number (machine_after_output t machine output))
      clock made))

  pub held-later : (cluster : Cluster) (output : Output) → Runs cluster.facts → IsOfTable output → (more : List Output)
      → All (IsHeldFor cluster.facts.members) more → All (IsHeldFor (Later cluster output).facts.members) more
  held-later cluster output runs table more held =
      subst (λ (l : List Member). All (IsHeldFor l) more) (sym (stays-output cluster output runs table).members) held

  repairs-none : (output : Output) (later : List Output) → EndsRepairing output later
      → RepairsNone output
      ⊎ ((leader : MemberId) ×
      ((repair : Repair) × ((output ≡ outputs.Server (orders.Repair leader repair)) × (later ≡ []))))
  repairs-none (outputs.Server (orders.Repair leader repair)) later ends = inr (leader, (repair, (refl, ends)))
  repairs-none _ later ends = inl tt

  pub each-resembles : (now : Ticks) (cluster : Cluster) (machine : Machine) (outs : List Output)
      → Runs cluster.facts → All IsOfTable outs → All (IsHeldFor cluster.facts.members) outs
      → RepairsLast outs → cluster.facts.clock ≡ now.0 → Mirrors cluster member.id.number machine
      → Resembles (cluster_over cluster (each (output_events member message) cluster outs)) member.id.number
      (machine_after_outputs now machine outs)
  each-resembles now cluster machine [] runs table held last clock old = mirrored cluster member.id.number machine old
  each-resembles now cluster machine (output ∷ more) runs table held last clock old =
      let one = All-head IsOfTable output more table in
      elim (repairs-none output more last.0) [
        | inl none ↦ more-resemble now cluster machine output more none one
            (All-head (IsHeldFor cluster.facts.members) output more held) clock old
            (each-resembles now (Later cluster output) (machine_after_output now machine output) more
            (runs-later cluster output runs one) (All-tail IsOfTable output more table)
            (held-later cluster output runs one more (All-tail (IsHeldFor cluster.facts.members) output more held))
            last.1 ((stays-output cluster output runs one).clock ∙ clock))
        | inr ends ↦ subst
            (λ (x : Output). Resembles (cluster_over cluster (each (output_events member message) cluster (x ∷ more)))
            member.id.number (machine_after_outputs now (machine_after_output now machine x) more))
            (sym ends.1.1.0)
            (subst (λ (l : List Output). Resembles
            (cluster_over cluster
            (each (output_events member message) cluster (outputs.Server (orders.Repair ends.0 ends.1.0) ∷ more)))
            member.id.number (machine_after_outputs now machine l))
            (sym ends.1.1.1)
            (last-resembles cluster machine ends.0 ends.1.0 more ends.1.1.1 old))
      ]

  -- ---- who begins
  abbrev Keeps : List Event → Type 0
  Keeps events = AllAre (KeepsMomentOf message.number) events

  abbrev ArmedIn : List Event → Type 0
  ArmedIn events = IsArmedIn member.id.number message.number events

  pub armed-more : (m number : ℕ) (events more : List Event) → IsArmedIn m number events
      → IsArmedIn m number (events ++ more)
  armed-more m number events more old = record {
    front = old.front;
    event = old.event;
    rest = old.rest ++ more;
    is = sym (assoc old.front (old.event ∷ old.rest) more) ∙ ap (λ (l : List Event). l ++ more) old.is;
    aside = old.aside;
    fed = old.fed;
  }

  begins-both : (R : List Event → ℕ → Type 0) (before xs ys : List Event) → BeginsBehind R before xs
      → BeginsBehind R (before ++ xs) ys → BeginsBehind R before (xs ++ ys)
  begins-both R before [] ys first second = subst (λ (l : List Event). BeginsBehind R l ys) (none-more before) second
  begins-both R before (x ∷ xs) ys first second = (
    first.0,
    begins-both R (before ++ x ∷ []) xs ys first.1
        (subst (λ (l : List Event). BeginsBehind R l ys) (sym (assoc before (x ∷ []) xs)) second),
  )

  -- in the events of one output
  to-begin : (X : Type 0) → IsToBegin (MayBegin X) → X
  to-begin X (inl x) = x
  to-begin X (inr again) = again.1

  one-begins : (X : Type 0) (P : ℕ → Type 0) (kind : EventKind) → (X → P member.id.number)
      → IsOfInput member incarnation message.number (MayBegin X) kind → BeginsKind P kind
  one-begins X P (kinds.Server (servers.Began server timeline)) may is =
      subst (λ (s : ServerOf). P s.id.number) (sym is.0) (may (to-begin X is.1))
  one-begins X P _ may is = tt

  output-begins : (X : Type 0) (R : List Event → ℕ → Type 0)
      → ((before more : List Event) → R before member.id.number → R (before ++ more) member.id.number)
      → (before events : List Event) → (X → R before member.id.number)
      → AllAre (IsOfInput member incarnation message.number (MayBegin X)) events → BeginsBehind R before events
  output-begins X R grow before [] may all = tt
  output-begins X R grow before (event ∷ events) may all = (
    one-begins X (R before) event.kind may all.0,
    output-begins X R grow (before ++ event ∷ []) events (λ x. grow before (event ∷ []) (may x)) all.1,
  )

  or-none : (b : Bool) → (b || false) ≡ true → b ≡ true
  or-none true e = refl
  or-none false e = e

  or-else : {X Y : Type 0} (b c : Bool) → (b ≡ true → X) → (c ≡ true → Y) → (b || c) ≡ true → X ⊎ Y
  or-else true c first second e = inl (first refl)
  or-else false c first second e = inr (second e)

  or-left : (b c : Bool) → b ≡ true → (b || c) ≡ true
  or-left true c e = refl
  or-left false c e = absurd (no-way e)
    where
      no-way : false ≡ true → ⊥
      no-way e = cc

  or-right : (b c : Bool) → c ≡ true → (b || c) ≡ true
  or-right true c e = refl
  or-right false c e = e

  arms-or : (outs : List Output) (output : Output) → has_one is_arming (outs ++ output ∷ []) ≡ true
      → (has_one is_arming outs ≡ true) ⊎ (is_arming output ≡ true)
  arms-or [] output e = inr (or-none (is_arming output) e)
  arms-or (one ∷ outs) output e =
      elim (or-else (is_arming one) (has_one is_arming (outs ++ output ∷ [])) (λ a. a) (λ b. b) e) [
        | inl here ↦ inl (or-left (is_arming one) (has_one is_arming outs) here)
        | inr later ↦ elim (arms-or outs output later) [
          | inl was ↦ inl (or-right (is_arming one) (has_one is_arming outs) was)
          | inr now ↦ inr now
        ]
      ]

  -- from when a feed is measured
  abbrev measured : Cluster → Event
  measured cluster = record {
    tick = record { 0 = cluster.facts.clock };
    kind = kinds.Watchdog (watchdogs.Measured member message.sent);
  }

  -- an arming is told
  arming-told : (cluster : Cluster) (output : Output) (before : List Event) → Keeps before
      → is_arming output ≡ true → ArmedIn (before ++ Brings cluster output)
  arming-told cluster (outputs.Watchdog (feedings.Armed until)) before kept e = record {
    front = before ++ measured cluster ∷ [];
    event = record {
      tick = record { 0 = cluster.facts.clock };
      kind = kinds.Watchdog (watchdogs.Armed member until message.number);
    };
    rest = [];
    is = assoc before (measured cluster ∷ []) _;
    aside = all-both (KeepsMomentOf message.number) before (measured cluster ∷ []) kept (tt, tt);
    fed = (refl, refl);
  }
  arming-told cluster _ before kept e = absurd (no-way e)
    where
      no-way : false ≡ true → ⊥
      no-way e = cc

  -- a server that starts again accepted writes before, if it does behind its start
  again-begins : (R : List Event → ℕ → Type 0)
      → ((before more : List Event) → R before member.id.number → R (before ++ more) member.id.number)
      → (cluster : Cluster) (before : List Event) (state : State) (s : ServerFacts)
      → (live state ≡ true → R before member.id.number)
      → BeginsBehind R before (events_of cluster (server_restart_in member cluster.facts.acknowledged state s))
  again-begins R grow cluster before states.Primary s may =
      let list = server_restart_in member cluster.facts.acknowledged states.Primary s in
      output-begins (R before member.id.number) R grow before (events_of cluster list) (λ begins. begins)
      (all-kinds (IsOfInput member incarnation message.number (MayBegin (R before member.id.number))) cluster list
      (again-mine member incarnation message.number
      (MayBegin (R before member.id.number)) cluster.facts.acknowledged states.Primary s (inl (may refl))))
  again-begins R grow cluster before states.Replica s may = (tt, tt)
  again-begins R grow cluster before _ s may = tt

  restart-begins : (R : List Event → ℕ → Type 0)
      → ((before more : List Event) → R before member.id.number → R (before ++ more) member.id.number)
      → (cluster : Cluster) (before : List Event) (found : Option ServerFacts)
      → ((s : ServerFacts) → found ≡ Some s → live s.state ≡ true → R before member.id.number)
      → BeginsBehind R before
      (for_some found (λ s. events_of cluster (server_restart_kinds member cluster.facts.acknowledged s)))
  restart-begins R grow cluster before None may = tt
  restart-begins R grow cluster before (Some s) may = again-begins R grow cluster before s.state s (may s refl)

  -- in those of any output: it begins by the order to, or was live before
  may-begin : (X : Type 0) (output : Output) → RestartsNone output → BeginsOnly X output → MayBegin X output
  may-begin X (outputs.Server orders.Begin) none is = is
  may-begin X (outputs.Server (orders.Restart as_primary)) none is = absurd none
  may-begin X _ none is = tt

  restarts-none : (output : Output)
      → RestartsNone output ⊎ ((as_primary : Bool) × (output ≡ outputs.Server (orders.Restart as_primary)))
  restarts-none (outputs.Server (orders.Restart as_primary)) = inr (as_primary, refl)
  restarts-none _ = inl tt

  brings-begin : (P : List Output → Type 0) (R : List Event → ℕ → Type 0)
      → ((before more : List Event) → R before member.id.number → R (before ++ more) member.id.number)
      → (cluster : Cluster) (done : List Output) (before : List Event) (output : Output) → Runs cluster.facts
      → IsOfTable output → BeginsOnly (P done) output → (P done → R before member.id.number)
      → (live_in cluster.facts.servers member.id.number ≡ true → R before member.id.number)
      → BeginsBehind R before (Brings cluster output)
  brings-begin P R grow cluster done before output runs table begin makes lives = elim (restarts-none output) [
    | inl none ↦ output-begins (P done) R grow before (Brings cluster output) makes
        (output-mine member incarnation message.number
        (MayBegin (P done)) cluster message refl runs output table (may-begin (P done) output none begin))
    | inr again ↦ subst (λ (x : Output). BeginsBehind R before (Brings cluster x)) (sym again.1)
        (restart-begins R grow cluster before (server_at cluster member) (λ s is alive. lives (ap live_now is ∙ alive)))
  ]

  -- behind an output that isn't the order to begin a server is live that was live before
  lives-on : {Y : Type 0} (now : Ticks) (machine : Machine) (X : Type 0) (output : Output)
      → BeginsOnly X output → (X → Y) → (live machine.server.state ≡ true → Y)
      → live (machine_after_output now machine output).server.state ≡ true → Y
  lives-on now machine X (outputs.Server orders.Begin) begin may lives e = may begin
  lives-on now machine X (outputs.Server (orders.StartReplica leader)) begin may lives e =
      lives (start-live now (upstream_of leader) machine.server e)
  lives-on now machine X (outputs.Server (orders.Stop reason)) begin may lives e =
      lives (stop-live now machine.server e)
  lives-on now machine X (outputs.Server orders.ShutDown) begin may lives e = lives (stop-live now machine.server e)
  lives-on now machine X (outputs.Server (orders.Restart as_primary)) begin may lives e =
      lives (restart-live now machine.server e)
  lives-on now machine X (outputs.Server orders.Wipe) begin may lives e = lives (wipe-live machine.server e)
  lives-on now machine X (outputs.Server (orders.Follow leader)) begin may lives e =
      lives (follow-live (server_id_of leader) machine.server e)
  lives-on now machine X (outputs.Watchdog feedings.Disarmed) begin may lives e = lives e
  lives-on now machine X (outputs.Tell tellings.ClaimsOutsideSync) begin may lives e = lives e
  lives-on now machine X _ begin may lives e = lives e

  pub each-begins : (P : List Output → Type 0) (R : List Event → ℕ → Type 0)
      → ((before more : List Event) → R before member.id.number → R (before ++ more) member.id.number)
      → ((outs : List Output) (before : List Event) → P outs →
      (has_one is_arming outs ≡ true → ArmedIn before) → R before member.id.number)
      → (cluster : Cluster) (machine : Machine) (done : List Output) (before : List Event) (outs : List Output)
      → Mirrors cluster member.id.number machine → (live machine.server.state ≡ true → R before member.id.number)
      → Runs cluster.facts → All IsOfTable outs → All (IsHeldFor cluster.facts.members) outs
      → RepairsLast outs → Keeps before → Keeps (each (output_events member message) cluster outs)
      → (has_one is_arming done ≡ true → ArmedIn before) → OutputsBeginBehind P done outs
      → BeginsBehind R before (each (output_events member message) cluster outs)
  each-begins P R grow makes cluster machine done before [] mirrors lives runs table held last kept all armed begin = tt
  each-begins P R grow makes cluster machine done before (output ∷ more) mirrors lives runs table held last kept all
      armed begin =
      let one = All-head IsOfTable output more table in
      let next = Later cluster output in
      let events = Brings cluster output in
      let rest = each (output_events member message) next more in
      let now : Ticks = record { 0 = cluster.facts.clock } in
      let may : P done → R before member.id.number = (λ p. makes done before p armed) in
      begins-both R before events rest
      (brings-begin P R grow cluster done before output runs one begin.0 may
      (λ alive. lives (sym (mirrored cluster member.id.number machine mirrors).lives ∙ alive)))
      (elim (repairs-none output more last.0) [
        | inl none ↦ each-begins P R grow makes next (machine_after_output now machine output)
            (with_output output done) (before ++ events) more
            (output-here member cluster message machine output one none
            (All-head (IsHeldFor cluster.facts.members) output more held) mirrors)
            (lives-on now machine (P done) output begin.0 (λ p. grow before events (may p))
            (λ alive. grow before events (lives alive)))
            (runs-later cluster output runs one) (All-tail IsOfTable output more table)
            (held-later cluster output runs one more (All-tail (IsHeldFor cluster.facts.members) output more held))
            last.1
            (all-both (KeepsMomentOf message.number) before events kept
            (all-front (KeepsMomentOf message.number) events rest all))
            (all-back (KeepsMomentOf message.number) events rest all)
            (λ e. elim (arms-or done output e) [
              | inl was ↦ armed-more member.id.number message.number before events (armed was)
              | inr here ↦ arming-told cluster output before kept here
            ])
            begin.1
        | inr ends ↦
            subst (λ (l : List Output). BeginsBehind R (before ++ events) (each (output_events member message) next l))
            (sym ends.1.1.1) tt
      ])

  -- ---- what is fed, on which basis
  -- the watchdog is fed in this event: by the grant that is heard, or by acknowledgements
  pub record IsFedHere (Q : Output → Type 0) (kind : EventKind) : Type 0 where
    pub until : Ticks
    pub acknowledging : MemberSet
    pub sequence : ℕ
    pub since : Ticks
    pub is : kind ≡ kinds.Watchdog (watchdogs.Fed member until (bases.Acknowledgements acknowledging sequence))
    pub from : Q (outputs.Watchdog (feedings.FedByFailsafe until acknowledging sequence since))

  abbrev pub IsFedAs : (Output → Type 0) → Bool → EventKind → Type 0
  IsFedAs Q false kind = IsFedBy member.id.number message.number kind
  IsFedAs Q true kind = IsFedHere Q kind

  pub record FedIn (Q : Output → Type 0) (by_failsafe : Bool) (events : List Event) : Type 0 where
    pub front : List Event
    pub event : Event
    pub rest : List Event
    pub is : front ++ event ∷ rest ≡ events
    pub fed : IsFedAs Q by_failsafe event.kind

  fed-later : (Q : Output → Type 0) (b : Bool) (events rest : List Event) → FedIn Q b rest → FedIn Q b (events ++ rest)
  fed-later Q b events rest old = record {
    front = events ++ old.front;
    event = old.event;
    rest = old.rest;
    is = assoc events old.front (old.event ∷ old.rest) ∙ ap (λ (l : List Event). events ++ l) old.is;
    fed = old.fed;
  }

  not-so : false ≡ true → ⊥
  not-so e = cc

  fed-now : (Q : Output → Type 0) (now : Ticks) (cluster : Cluster) (machine : Machine) (output : Output)
      (rest : List Event) → Q output → is_feeding output ≡ true
      → FedIn Q (machine_after_output now machine output).by_failsafe (Brings cluster output ++ rest)
  fed-now Q now cluster machine (outputs.Watchdog (feedings.Armed until)) rest may e = record {
    front = measured cluster ∷ [];
    event = record {
      tick = record { 0 = cluster.facts.clock };
      kind = kinds.Watchdog (watchdogs.Armed member until message.number);
    };
    rest = rest;
    is = refl;
    fed = (refl, refl);
  }
  fed-now Q now cluster machine (outputs.Watchdog (feedings.Fed until)) rest may e = record {
    front = measured cluster ∷ [];
    event = record {
      tick = record { 0 = cluster.facts.clock };
      kind = kinds.Watchdog (watchdogs.Fed member until (bases.Grant message.number));
    };
    rest = rest;
    is = refl;
    fed = (refl, refl);
  }
  fed-now Q now cluster machine (outputs.Watchdog (feedings.FedByFailsafe until acknowledging sequence since)) rest may
      e =
      record {
        front =
            record {
              tick = record { 0 = cluster.facts.clock };
              kind = kinds.Watchdog (watchdogs.Measured member since);
            }
            ∷ [];
        event = record {
          tick = record { 0 = cluster.facts.clock };
          kind = kinds.Watchdog (watchdogs.Fed member until (bases.Acknowledgements acknowledging sequence));
        };
        rest = rest;
        is = refl;
        fed = record {
          until = until;
          acknowledging = acknowledging;
          sequence = sequence;
          since = since;
          is = refl;
          from = may;
        };
      }
  fed-now Q now cluster machine _ rest may e = absurd (not-so e)

  -- who isn't fed has its deadline from where it had it
  unfed-one : (now : Ticks) (machine : Machine) (output : Output) → is_feeding output ≡ false
      → (machine_after_output now machine output).by_failsafe ≡ machine.by_failsafe
  unfed-one now machine (outputs.Watchdog (feedings.Armed until)) e = absurd (not-so (sym e))
  unfed-one now machine (outputs.Watchdog (feedings.Fed until)) e = absurd (not-so (sym e))
  unfed-one now machine (outputs.Watchdog (feedings.FedByFailsafe until acknowledging sequence since)) e =
      absurd (not-so (sym e))
  unfed-one now machine (outputs.Server orders.Begin) e = refl
  unfed-one now machine (outputs.Tell tellings.ClaimsOutsideSync) e = refl
  unfed-one now machine _ e = refl

  neither : (b c : Bool) → (b || c) ≡ false → (b ≡ false) × (c ≡ false)
  neither true c e = absurd (not-so (sym e))
  neither false c e = (refl, e)

  unfed-basis : (now : Ticks) (machine : Machine) (outs : List Output) → has_one is_feeding outs ≡ false
      → (machine_after_outputs now machine outs).by_failsafe ≡ machine.by_failsafe
  unfed-basis now machine [] e = refl
  unfed-basis now machine (output ∷ more) e =
      let none = neither (is_feeding output) (has_one is_feeding more) e in
      unfed-basis now (machine_after_output now machine output) more none.1 ∙ unfed-one now machine output none.0

  is-left : (b c : Bool) → c ≡ false → (b || c) ≡ true → b ≡ true
  is-left true c f e = refl
  is-left false c f e = sym f ∙ e

  fed-step : (Q : Output → Type 0) (now : Ticks) (cluster : Cluster) (machine : Machine) (output : Output)
      (more : List Output) (rest : List Event) → Q output → (is_feeding output || has_one is_feeding more) ≡ true
      → (has_one is_feeding more ≡ true →
      FedIn Q (machine_after_outputs now (machine_after_output now machine output) more).by_failsafe rest)
      → FedIn Q (machine_after_outputs now (machine_after_output now machine output) more).by_failsafe
      (Brings cluster output ++ rest)
  fed-step Q now cluster machine output more rest may e then = by (has_one is_feeding more) refl
    where
      after : Machine
      after = machine_after_output now machine output

      by : (test : Bool) → has_one is_feeding more ≡ test
          → FedIn Q (machine_after_outputs now after more).by_failsafe (Brings cluster output ++ rest)
      by true later =
          fed-later Q (machine_after_outputs now after more).by_failsafe (Brings cluster output) rest (then later)
      by false none =
          subst (λ (b : Bool). FedIn Q b (Brings cluster output ++ rest)) (sym (unfed-basis now after more none))
          (fed-now Q now cluster machine output rest may (is-left (is_feeding output) (has_one is_feeding more) none e))

  -- the last feed tells which basis the deadline has
  pub each-fed : (Q : Output → Type 0) (now : Ticks) (cluster : Cluster) (machine : Machine) (outs : List Output)
      → All Q outs → has_one is_feeding outs ≡ true
      → FedIn Q (machine_after_outputs now machine outs).by_failsafe (each (output_events member message) cluster outs)
  each-fed Q now cluster machine [] all e = absurd (not-so e)
  each-fed Q now cluster machine (output ∷ more) all e =
      fed-step Q now cluster machine output more
      (each (output_events member message) (Later cluster output) more) (All-head Q output more all) e
      (λ later. each-fed Q now (Later cluster output) (machine_after_output now machine output) more
      (All-tail Q output more all) later)

  -- ---- whose deadlines acknowledgements set last
  abbrev NoFeed : Output → Type 0
  NoFeed (outputs.Watchdog (feedings.Armed until)) = ⊥
  NoFeed (outputs.Watchdog (feedings.Fed until)) = ⊥
  NoFeed (outputs.Watchdog (feedings.FedByFailsafe until acknowledging sequence since)) = ⊥
  NoFeed _ = Unit {0}

  unset-one : (before : List Bool) (kind : EventKind) → IsOfInput member incarnation message.number NoFeed kind
      → failsafe_deadlines_after before kind ≡ before
  unset-one before (kinds.Watchdog (watchdogs.Armed by until answer)) is = absurd is.2
  unset-one before (kinds.Watchdog (watchdogs.Fed by until basis)) is = absurd (by-none is.1)
    where
      by-none : IsFeedOf message.number NoFeed until basis → ⊥
      by-none (ByGrant same from) = from
      by-none (ByFailsafe acknowledging sequence since same from) = from
  unset-one before (kinds.Watchdog _) is = refl
  unset-one before _ is = refl

  unset-all : (cluster : Cluster) (events : List Event)
      → AllAre (IsOfInput member incarnation message.number NoFeed) events
      → (cluster_over cluster events).failsafe_deadlines ≡ cluster.failsafe_deadlines
  unset-all cluster [] all = refl
  unset-all cluster (event ∷ events) all =
      unset-all (cluster_after cluster event.kind) events all.1 ∙ unset-one cluster.failsafe_deadlines event.kind all.0

  abbrev IsBasis : Cluster → Machine → Type 0
  IsBasis cluster machine = slice_get cluster.failsafe_deadlines member.id.number ≡ Some machine.by_failsafe

  unset-output : (now : Ticks) (cluster : Cluster) (machine : Machine) (output : Output) → Runs cluster.facts
      → IsOfTable output → NoFeed output → is_feeding output ≡ false → IsBasis cluster machine
      → IsBasis (Later cluster output) (machine_after_output now machine output)
  unset-output now cluster machine output runs table none unfed old =
      ap (λ (l : List Bool). slice_get l member.id.number)
      (unset-all cluster (Brings cluster output)
      (output-mine member incarnation message.number NoFeed cluster message refl runs output table none))
      ∙ old ∙ ap (λ (b : Bool). Some b) (sym (unfed-one now machine output unfed))

  output-basis : (now : Ticks) (cluster : Cluster) (machine : Machine) (output : Output) → Runs cluster.facts
      → IsOfTable output → IsBasis cluster machine
      → IsBasis (Later cluster output) (machine_after_output now machine output)
  output-basis now cluster machine (outputs.Watchdog (feedings.Armed until)) runs table old =
      item-here cluster.failsafe_deadlines member.id.number (λ was. false) machine.by_failsafe old
  output-basis now cluster machine (outputs.Watchdog (feedings.Fed until)) runs table old =
      item-here cluster.failsafe_deadlines member.id.number (λ was. false) machine.by_failsafe old
  output-basis now cluster machine (outputs.Watchdog (feedings.FedByFailsafe until acknowledging sequence since)) runs
      table old =
      item-here cluster.failsafe_deadlines member.id.number (λ was. true) machine.by_failsafe old
  output-basis now cluster machine output runs table old =
      unset-output now cluster machine output runs table tt refl old

  pub each-basis : (now : Ticks) (cluster : Cluster) (machine : Machine) (outs : List Output)
      → Runs cluster.facts → All IsOfTable outs → IsBasis cluster machine
      → IsBasis (cluster_over cluster (each (output_events member message) cluster outs))
      (machine_after_outputs now machine outs)
  each-basis now cluster machine [] runs table old = old
  each-basis now cluster machine (output ∷ more) runs table old =
      let one = All-head IsOfTable output more table in let next = Later cluster output in
      subst (λ (c : Cluster). IsBasis c (machine_after_outputs now (machine_after_output now machine output) more))
      (sym (over-append cluster (Brings cluster output) (each (output_events member message) next more)))
      (each-basis now next (machine_after_output now machine output) more (runs-later cluster output runs one)
      (All-tail IsOfTable output more table) (output-basis now cluster machine output runs one old))
