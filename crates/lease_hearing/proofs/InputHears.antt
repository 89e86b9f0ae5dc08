-- What an agent hears by a message that comes is what the law has of it.
use Rattle.std.proofs.Common.{◌≡◌, ◌==◌, ◌&&◌, ℕ, Bool, true, false, [], ◌∷◌, cond, Option, Some, None, slice_get, option_map, refl, sym, subst, ap, ◌∙◌, arith}
use Rattle.std.specs.BTreeMap.{is_at}
use Rattle.std.specs.FinMap.{find}
use Rattle.std.specs.Ordering.{nat_cmp}
use Rattle.std.proofs.lemmas.Bool.Decides.{nat_tests}
use Rattle.pat_base.specs.declared.ticks.Ticks.{Ticks}
use Rattle.lease_store.specs.declared.granted.Granted.{Granted}
use Rattle.store_keys.specs.declared.config.Config.{Config}
use Rattle.store_keys.specs.declared.key.Key.TheVariants as keys
use Rattle.store_keys.specs.declared.value.KeyEntry.{KeyEntry}
use Rattle.store_keys.specs.declared.value.Value.{Value}
use Rattle.store_keys.specs.declared.value.Value.TheVariants as values
use Rattle.store_keys.specs.Defaults.{default_config}
use Rattle.lease_store.specs.KeyOrder.{key_cmp}
use Rattle.cluster_view.specs.KeyValues.{config_in}
use Rattle.cluster_view.specs.Snapshots.{settings_by, settings_of_entry, found_by, leader_by}
use Rattle.event_book.specs.declared.link.LinkEnd.{LinkEnd}
use Rattle.event_book.specs.declared.link.LinkEnd.TheVariants as ends
use Rattle.event_book.specs.declared.member.Member.{Member}
use Rattle.event_book.specs.declared.message.Body.{Body}
use Rattle.event_book.specs.declared.message.Body.TheVariants as bodies
use Rattle.event_book.specs.declared.message.Message.{Message}
use Rattle.event_book.specs.Flight.{Flight, InFlightFacts, in_flight}
use Rattle.script_model.specs.Script.{HeadText}
use Rattle.agent_model.specs.declared.heard.Heard.{Heard}
use Rattle.agent_model.specs.declared.heard.Heard.TheVariants as heards
use Rattle.agent_model.specs.declared.knowledge.PendingQuestion.{PendingQuestion}
use Rattle.agent_model.specs.declared.machine.Machine.{Machine}
use Rattle.agent_model.specs.Agents.{AgentFacts, Outcome, outcome_from}
use Rattle.agent_model.specs.Decisions.{asks_lease, is_decision, is_lease_of}
use Rattle.agent_lease_law.specs.Lawful.{CanFeed, HearsAnswer, HearsGrant, HearsYes, Hears, request_in}
use Rattle.agent_sending.specs.Modes.{HearsMode, TellsMode}
use Rattle.lease_model.specs.Modes.{IsModeHeld, IsModeIn, IsModeTold, IsModeValue, TellMode}
use Rattle.agent_roles.specs.Seen.{leader_entry_seen, failsafe_entry_seen}
use Rattle.agent_roles.proofs.GoingOn.{tells_pause}
use Rattle.agent_roles.proofs.Knowing.{told_by}
use Rattle.pat_base.specs.declared.member_id.MemberId.{MemberId}
use Rattle.cluster_model.specs.Deliveries.{is_answer}
use Rattle.cluster_model.specs.Hearing.{member_at_end, heard_from, heard_in, snapshot_in}
use Rattle.cluster_model.specs.Messages.{heard_message}
use Rattle.cluster_model.specs.State.{Cluster}
use Rattle.lease_model.specs.Leases.{Acknowledged}
use Rattle.lease_model.specs.Outcomes.{seen_of}
use Rattle.lease_model.specs.Past.{Past, VolatileState, state_of, lease_span}
use Rattle.lease_model.specs.Pauses.{AreUnpaused, IsUnpausedHeld, IsUnpausedIn, IsUnpausedValue, NobodyPauses}
use Rattle.lease_model.specs.States.{State}
use Rattle.lease_model.specs.Stores.{IsLeased, leader_key_of, failsafe_key_of}
use Rattle.lease_model.proofs.Tools.{and-first, both, none-some, some-is}
use Rattle.lease_book.specs.Groups.{grant_if}
use Rattle.lease_book.proofs.Hearing.{heard-acknowledgement, heard-failsafe_request, heard-snapshot, heard-granted}
use Rattle.lease_parts.specs.Bridged.{IsMatched}
use Rattle.lease_parts.specs.Declaring.{declared_of}
use Rattle.lease_parts.specs.Waiting.{IsAnswer, IsKnownEnd, IsPeerBody}
use Rattle.lease_hearing.specs.Hearing.{IsHeardWell, IsRequestHeard}

-- ---- the keys of a snapshot, as agents and as the law see them
leader-by : (revision : ℕ) (value : Value) (expiry : Option Ticks)
    → IsLeased (Some (record { value = value; revision = revision; expiry = expiry }))
    → leader_entry_seen (found_by leader_by (Some (record { value = value; revision = revision; expiry = expiry })))
    ≡ seen_of (leader_key_of (Some (record { value = value; revision = revision; expiry = expiry })))
leader-by revision (values.Leader member) (Some expiry) leased = refl
leader-by revision (values.Leader member) None leased = absurd (both leased)
leader-by revision (values.Config config) expiry leased = refl
leader-by revision (values.Member info) expiry leased = refl
leader-by revision (values.Failover key) expiry leased = refl
leader-by revision (values.Sync key) expiry leased = refl
leader-by revision (values.Status end) expiry leased = refl
leader-by revision (values.History row) expiry leased = refl
leader-by revision (values.Failsafe members) expiry leased = refl
leader-by revision (values.Scheduled planned) expiry leased = refl

leader-is : (found : Option KeyEntry) → IsLeased found
    → leader_entry_seen (found_by leader_by found) ≡ seen_of (leader_key_of found)
leader-is None leased = refl
leader-is (Some found) leased = leader-by found.revision found.value found.expiry leased

failsafe-by : (revision : ℕ) (value : Value) (expiry : Option Ticks)
    → failsafe_entry_seen (Some (record { value = value; revision = revision; expiry = expiry }))
    ≡ failsafe_key_of (Some (record { value = value; revision = revision; expiry = expiry }))
failsafe-by revision (values.Failsafe members) expiry = refl
failsafe-by revision (values.Scheduled planned) expiry = refl
failsafe-by revision (values.Leader member) expiry = refl
failsafe-by revision (values.Config config) expiry = refl
failsafe-by revision (values.Member info) expiry = refl
failsafe-by revision (values.Failover key) expiry = refl
failsafe-by revision (values.Sync key) expiry = refl
failsafe-by revision (values.Status end) expiry = refl
failsafe-by revision (values.History row) expiry = refl

failsafe-is : (found : Option KeyEntry) → failsafe_entry_seen found ≡ failsafe_key_of found
failsafe-is None = refl
failsafe-is (Some found) = failsafe-by found.revision found.value found.expiry

-- ---- the parts of a message
pub message-is : (message : Message) (from to : LinkEnd) (body : Body) → message.from ≡ from → message.to ≡ to
    → message.body ≡ body
    → message
    ≡ record { from = from; to = to; incarnation = message.incarnation; sequence = message.sequence; body = body }
message-is message from to body a b c =
    ap (λ (f : LinkEnd). let m : Message = record {
      from = f;
      to = message.to;
      incarnation = message.incarnation;
      sequence = message.sequence;
      body = message.body;
    } in m) a
    ∙ ap (λ (t : LinkEnd). let m : Message = record {
      from = from;
      to = t;
      incarnation = message.incarnation;
      sequence = message.sequence;
      body = message.body;
    } in m) b
    ∙ ap (λ (x : Body). let m : Message =
    record { from = from; to = to; incarnation = message.incarnation; sequence = message.sequence; body = x } in m)
    c

-- ---- no snapshot in flight pauses
unpaused-at : (here : Bool) (first : InFlightFacts) (rest : Option InFlightFacts) (carried : InFlightFacts)
    → cond here (Some first) rest ≡ Some carried → IsUnpausedIn first.snapshot
    → (rest ≡ Some carried → IsUnpausedIn carried.snapshot) → IsUnpausedIn carried.snapshot
unpaused-at true first rest carried is here there =
    subst (λ (c : InFlightFacts). IsUnpausedIn c.snapshot) (some-is first carried is) here
unpaused-at false first rest carried is here there = there is

unpaused-flight : (number : ℕ) (flight : Flight) (carried : InFlightFacts) → AreUnpaused flight
    → in_flight flight number ≡ Some carried → IsUnpausedIn carried.snapshot
unpaused-flight number [] carried all is = absurd (none-some carried is)
unpaused-flight number (entry ∷ flight) carried all is =
    unpaused-at (is_at (nat_cmp number) entry.0) entry.1 (in_flight flight number) carried is all.0
    (λ there. unpaused-flight number flight carried all.1 there)

unpaused-value : (value : Value) → IsUnpausedValue value → (settings_by default_config value).pause ≡ false
unpaused-value (values.Config config) is = is
unpaused-value _ is = refl

unpaused-entry : (found : Option KeyEntry) → IsUnpausedHeld found
    → (settings_of_entry default_config found).pause ≡ false
unpaused-entry None is = refl
unpaused-entry (Some found) is = unpaused-value found.value is

pub unpaused-told : (cluster : Cluster) (number : ℕ) (carried : InFlightFacts) → NobodyPauses cluster.facts
    → in_flight cluster.facts.flight number ≡ Some carried → (config_in (snapshot_in cluster carried)).pause ≡ false
unpaused-told cluster number carried calm there = unpaused-entry (find key_cmp keys.Config carried.snapshot)
    (unpaused-flight number cluster.facts.flight carried calm.flight there)

-- so nobody reads of a pause
calm-granted : (cluster : Cluster) (carried : InFlightFacts) (given : Option Granted)
    → (config_in (snapshot_in cluster carried)).pause ≡ false → (heard : Heard)
    → option_map (λ grant. heards.Granted carried.message.sequence grant (snapshot_in cluster carried)) given
    ≡ Some heard
    → tells_pause (told_by heard) ≡ false
calm-granted cluster carried None calm heard e = absurd (none-some heard e)
calm-granted cluster carried (Some grant) calm heard e =
    subst (λ (h : Heard). tells_pause (told_by h) ≡ false) (some-is _ heard e) calm

calm-asked : (incarnation sequence : ℕ) (from : Option MemberId) (heard : Heard)
    → option_map (λ by. heards.Asked by incarnation sequence) from ≡ Some heard → tells_pause (told_by heard) ≡ false
calm-asked incarnation sequence None heard e = absurd (none-some heard e)
calm-asked incarnation sequence (Some by) heard e =
    subst (λ (h : Heard). tells_pause (told_by h) ≡ false) (some-is _ heard e) refl

calm-peer : (make : MemberId → Heard) → ((by : MemberId) → tells_pause (told_by (make by)) ≡ false)
    → (from : Option MemberId) (heard : Heard) → option_map make from ≡ Some heard → tells_pause (told_by heard) ≡ false
calm-peer make calm None heard e = absurd (none-some heard e)
calm-peer make calm (Some by) heard e =
    subst (λ (h : Heard). tells_pause (told_by h) ≡ false) (some-is _ heard e) (calm by)

calm-in : (cluster : Cluster) (carried : InFlightFacts) (body : Body)
    → (config_in (snapshot_in cluster carried)).pause ≡ false → (heard : Heard)
    → heard_in cluster carried body ≡ Some heard → tells_pause (told_by heard) ≡ false
calm-in cluster carried bodies.Snapshot calm heard e =
    subst (λ (h : Heard). tells_pause (told_by h) ≡ false) (some-is _ heard e) calm
calm-in cluster carried (bodies.Granted request leased) calm heard e =
    calm-granted cluster carried carried.grant calm heard e
calm-in cluster carried (bodies.Refused request key at) calm heard e =
    subst (λ (h : Heard). tells_pause (told_by h) ≡ false) (some-is _ heard e) refl
calm-in cluster carried bodies.Ask calm heard e =
    calm-asked carried.message.incarnation carried.message.sequence (member_at_end carried.message.from) heard e
calm-in cluster carried (bodies.Answer answer) calm heard e =
    subst (λ (h : Heard). tells_pause (told_by h) ≡ false) (some-is _ heard e) refl
calm-in cluster carried (bodies.FailsafeRequest ttl) calm heard e =
    calm-peer (λ by. heards.FailsafeAsked by carried.message.incarnation carried.message.sequence ttl)
    (λ by. refl) (member_at_end carried.message.from) heard e
calm-in cluster carried (bodies.FailsafeAnswer accepted) calm heard e =
    calm-peer (λ by. heards.FailsafeAnswered by carried.message.sequence accepted carried.sent) (λ by. refl)
    (member_at_end carried.message.from) heard e
calm-in cluster carried _ calm heard e = absurd (none-some heard e)

pub calm-from : (cluster : Cluster) (carried : InFlightFacts) → (config_in (snapshot_in cluster carried)).pause ≡ false
    → (heard : Heard) → heard_from cluster carried ≡ Some heard → tells_pause (told_by heard) ≡ false
calm-from cluster carried calm heard e = calm-in cluster carried carried.message.body calm heard e

-- ---- each snapshot in flight has failsafe mode as it is declared
mode-value : (mode : Bool) (settings : Config) (value : Value) → IsModeValue mode value
    → (settings_by settings value).failsafe_mode ≡ mode
mode-value mode settings (values.Config config) is = is
mode-value mode settings _ is = absurd is

mode-entry : (mode : Bool) (settings : Config) (found : Option KeyEntry) → IsModeHeld mode found
    → (settings_of_entry settings found).failsafe_mode ≡ mode
mode-entry mode settings None is = absurd is
mode-entry mode settings (Some found) is = mode-value mode settings found.value is

mode-at : (mode : Bool) (here : Bool) (first : InFlightFacts) (rest : Option InFlightFacts) (carried : InFlightFacts)
    → cond here (Some first) rest ≡ Some carried → IsModeTold mode first.message.body first.snapshot
    → (rest ≡ Some carried → IsModeTold mode carried.message.body carried.snapshot)
    → IsModeTold mode carried.message.body carried.snapshot
mode-at mode true first rest carried is here there =
    subst (λ (c : InFlightFacts). IsModeTold mode c.message.body c.snapshot) (some-is first carried is) here
mode-at mode false first rest carried is here there = there is

mode-flight : (mode : Bool) (number : ℕ) (flight : Flight) (carried : InFlightFacts) → TellMode mode flight
    → in_flight flight number ≡ Some carried → IsModeTold mode carried.message.body carried.snapshot
mode-flight mode number [] carried all is = absurd (none-some carried is)
mode-flight mode number (entry ∷ flight) carried all is =
    mode-at mode (is_at (nat_cmp number) entry.0) entry.1 (in_flight flight number) carried is all.0
    (λ there. mode-flight mode number flight carried all.1 there)

mode-told : (mode : Bool) (cluster : Cluster) (carried : InFlightFacts) → IsModeIn mode carried.snapshot
    → TellsMode mode (snapshot_in cluster carried)
mode-told mode cluster carried is settings = mode-entry mode settings (find key_cmp keys.Config carried.snapshot) is

-- ---- what is heard
module _ (head : HeadText) (past : Past) (cluster : Cluster) (matched : IsMatched head past cluster)
    (volatile_states : ℕ → VolatileState)
    (member : Member) (agent : AgentFacts) (machine : Machine) (feeds : CanFeed machine)
    (here : slice_get cluster.agents member.id.number ≡ Some (Some agent))
    (number : ℕ) (carried : InFlightFacts) (there : in_flight cluster.facts.flight number ≡ Some carried)
    (from : carried.message.from ≡ ends.Store) (to : carried.message.to ≡ ends.Member member)
    (incarnation : carried.message.incarnation ≡ agent.knows.incarnation) where
  abbrev Law : State
  Law = state_of (declared_of head) past volatile_states

  tells : (body : Body) → carried.message.body ≡ body → IsModeTold (declared_of head).failsafe body carried.snapshot
  tells body is = subst (λ (b : Body). IsModeTold (declared_of head).failsafe b carried.snapshot) is
      (mode-flight (declared_of head).failsafe number cluster.facts.flight carried matched.failsafe.told.flight there)

  abbrev Found : Option KeyEntry
  Found = find key_cmp keys.Leader carried.snapshot

  leased : IsLeased (find key_cmp keys.Leader carried.snapshot)
  leased = (matched.waiting.carried number carried there).leased

  snapshot-heard : carried.message.body ≡ bodies.Snapshot
      → HearsAnswer Law member.id.number (Some number) carried.message.sequence
      (snapshot_in cluster carried) agent.knows
  snapshot-heard body = record {
    number = number;
    answer = _;
    heard_is = refl;
    is = heard-snapshot past cluster.facts number carried member carried.message.incarnation carried.message.sequence
        matched.flight there (message-is carried.message ends.Store (ends.Member member) bodies.Snapshot from to body);
    member = refl;
    incarnation = incarnation;
    sequence_is = refl;
    leader = sym (leader-is (find key_cmp keys.Leader carried.snapshot) leased);
    failsafe = sym (failsafe-is (find key_cmp keys.Failsafe carried.snapshot));
    mode = mode-told (declared_of head).failsafe cluster carried (tells bodies.Snapshot body);
    unpaused = unpaused-told cluster number carried matched.unpaused there;
  }

  -- a grant
  is-leased : (grant : Granted) → is_lease_of agent.knows.who.me grant ≡ true → grant.leased ≡ true
  is-leased grant e = and-first grant.leased (grant.by.number == agent.knows.who.me.number) e

  asks-and : (waited : PendingQuestion) (sequence : ℕ) → is_decision waited sequence ≡ true
      → (asks_lease waited.question ≡ true) × (waited.sequence ≡ sequence)
  asks-and waited sequence e = (
    and-first (asks_lease waited.question) (waited.sequence == sequence) e,
    same (waited.sequence) sequence (and-second (asks_lease waited.question) (waited.sequence == sequence) e),
  )
    where
      and-second : (a b : Bool) → (a && b) ≡ true → b ≡ true
      and-second true b e = e
      and-second false b e = absurd (no-way e)
        where
          no-way : false ≡ true → ⊥
          no-way e = cc

      same : (a b : ℕ) → (a == b) ≡ true → a ≡ b
      same a b e = grind (arith, nat_tests)

  granted-heard : (request : ℕ) (leased_is : Bool) → carried.message.body ≡ bodies.Granted request leased_is
      → (grant : Granted) → carried.grant ≡ Some grant
      → HearsGrant Law member.id.number (Some number) carried.message.sequence grant
      (snapshot_in cluster carried) (outcome_from agent.role agent.knows machine [])
  granted-heard request leased_is body grant grant-is =
      let told = heard-granted past cluster.facts number carried member carried.message.incarnation
      carried.message.sequence request leased_is matched.flight there
      (message-is carried.message ends.Store (ends.Member member) (bodies.Granted request leased_is) from to body) in
      let same : grant ≡ record { revision = told.revision; by = member.id; leased = leased_is } =
      some-is grant _ (sym grant-is ∙ told.grant) in
      record {
        answer = record {
          number = number;
          answer = _;
          heard_is = refl;
          is = told.flying;
          member = refl;
          incarnation = incarnation;
          sequence_is = refl;
          leader = sym (leader-is (find key_cmp keys.Leader carried.snapshot) leased);
          failsafe = sym (failsafe-is (find key_cmp keys.Failsafe carried.snapshot));
          mode = mode-told (declared_of head).failsafe cluster carried (tells (bodies.Granted request leased_is) body);
          unpaused = unpaused-told cluster number carried matched.unpaused there;
        };
        lease = λ awaited.
            let sound = matched.waiting.agents member.id.number agent here in
            let known = sound.waits awaited.waited awaited.is in
            let asks = asks-and awaited.waited carried.message.sequence awaited.decision in
            let question = told.answers.question in
            let as_asked = known.as_asked asks.0 request question told.answers.is told.answers.asker
            (told.answers.in_run ∙ incarnation) (told.answers.numbered ∙ sym asks.1) in
            let leases : leased_is ≡ true = sym (ap (λ (g : Granted). g.leased) same) ∙ is-leased grant awaited.mine in
            record {
              told = record {
                revision = told.revision;
                sent = question.sent;
                moment = carried.sent.0;
                ttl = lease_span question.query;
                failsafe = failsafe_key_of (find key_cmp keys.Failsafe carried.snapshot);
              };
              is =
                  ap (λ (b : Bool). grant_if b told.revision carried.sent.0 question
                  (failsafe_key_of (find key_cmp keys.Failsafe carried.snapshot)))
                  leases;
              revision = sym (ap (λ (g : Granted). g.revision) same);
              ttl = as_asked.1;
              sent = as_asked.0;
              failsafe = sym (failsafe-is (find key_cmp keys.Failsafe carried.snapshot));
              feeds = feeds;
            };
      }

  granted-by : (request : ℕ) (leased_is : Bool) → carried.message.body ≡ bodies.Granted request leased_is
      → (given : Option Granted) → carried.grant ≡ given → (heard : Heard)
      → option_map (λ grant. heards.Granted carried.message.sequence grant (snapshot_in cluster carried)) given
      ≡ Some heard
      → Hears Law member.id.number (Some number) heard (outcome_from agent.role agent.knows machine [])
  granted-by request leased_is body None is heard e = absurd (none-some heard e)
  granted-by request leased_is body (Some grant) is heard e =
      subst (λ (h : Heard). Hears Law member.id.number (Some number) h (outcome_from agent.role agent.knows machine []))
      (some-is _ heard e) (granted-heard request leased_is body grant is)

  pub hears-by : (body : Body) → carried.message.body ≡ body → IsAnswer body → (heard : Heard)
      → heard_in cluster carried body ≡ Some heard
      → Hears Law member.id.number (Some number) heard (outcome_from agent.role agent.knows machine [])
  hears-by bodies.Snapshot body is heard e =
      subst (λ (h : Heard). Hears Law member.id.number (Some number) h (outcome_from agent.role agent.knows machine []))
      (some-is _ heard e) (snapshot-heard body)
  hears-by (bodies.Granted request leased_is) body is heard e =
      granted-by request leased_is body carried.grant refl heard e
  hears-by (bodies.Refused request key at) body is heard e =
      subst (λ (h : Heard). Hears Law member.id.number (Some number) h (outcome_from agent.role agent.knows machine []))
      (some-is _ heard e) tt
  hears-by _ body is heard e = absurd is

-- ---- what comes of another member
-- the law hears nothing of how far servers are, which members ask and answer
unheard : (law : State) (m : ℕ) (number : Option ℕ) (o : Outcome) (incarnation sequence : ℕ)
    (from : Option MemberId) (heard : Heard)
    → option_map (λ by. heards.Asked by incarnation sequence) from ≡ Some heard → Hears law m number heard o
unheard law m number o incarnation sequence None heard e = absurd (none-some heard e)
unheard law m number o incarnation sequence (Some by) heard e =
    subst (λ (h : Heard). Hears law m number h o) (some-is _ heard e) tt

module _ (head : HeadText) (past : Past) (cluster : Cluster) (matched : IsMatched head past cluster)
    (volatile_states : ℕ → VolatileState)
    (member : Member) (agent : AgentFacts) (machine : Machine) (feeds : CanFeed machine)
    (number : ℕ) (carried : InFlightFacts) (there : in_flight cluster.facts.flight number ≡ Some carried)
    (to : carried.message.to ≡ ends.Member member)
    (in_run : is_answer carried.message.body ≡ true → carried.message.incarnation ≡ agent.knows.incarnation) where
  abbrev Met : State
  Met = state_of (declared_of head) past volatile_states

  abbrev Stood : Outcome
  Stood = outcome_from agent.role agent.knows machine []

  abbrev HearsIt : Heard → Type 0
  HearsIt heard = Hears Met member.id.number (Some number) heard Stood

  request-by : (ttl : Ticks) → carried.message.body ≡ bodies.FailsafeRequest ttl → (from : LinkEnd)
      → carried.message.from ≡ from → (heard : Heard)
      → option_map (λ by. heards.FailsafeAsked by carried.message.incarnation carried.message.sequence ttl)
      (member_at_end from) ≡ Some heard
      → HearsIt heard
  request-by ttl body ends.Store from heard e = absurd (none-some heard e)
  request-by ttl body (ends.Member by) from heard e = subst HearsIt
      (some-is (heards.FailsafeAsked by.id carried.message.incarnation carried.message.sequence ttl) heard e) (record {
        number = number;
        sent = carried.sent.0;
        heard_is = refl;
        is = heard-failsafe_request past cluster.facts number carried by member carried.message.incarnation
            carried.message.sequence ttl matched.flight there
            (message-is carried.message (ends.Member by) (ends.Member member)
            (bodies.FailsafeRequest ttl) from to body);
      })

  yes-by : carried.message.body ≡ bodies.FailsafeAnswer true → (by : Member) → carried.message.from ≡ ends.Member by
      → HearsYes Met member.id.number (Some number) by.id carried.message.sequence Stood
  yes-by body by from = record {
    number = number;
    heard_is = refl;
    is = heard-acknowledgement past cluster.facts number carried by member carried.message.incarnation
        carried.message.sequence matched.flight there
        (message-is carried.message (ends.Member by) (ends.Member member) (bodies.FailsafeAnswer true) from to body)
        ∙ ap (λ (r : ℕ). Some (Acknowledged (record {
          member = member.id.number;
          incarnation = r;
          sequence = carried.message.sequence;
          by = by.id.number;
        }))) (in_run (ap (λ (b : Body). is_answer b) body));
    feeds = feeds;
  }

  said : (by : Member) → carried.message.from ≡ ends.Member by → (accepted : Bool)
      → carried.message.body ≡ bodies.FailsafeAnswer accepted → accepted ≡ true
      → HearsYes Met member.id.number (Some number) by.id carried.message.sequence Stood
  said by from true body so = yes-by body by from
  said by from false body so = absurd (no-way so)
    where
      no-way : false ≡ true → ⊥
      no-way e = cc

  answer-by : (accepted : Bool) → carried.message.body ≡ bodies.FailsafeAnswer accepted → (from : LinkEnd)
      → carried.message.from ≡ from → (heard : Heard)
      → option_map (λ by. heards.FailsafeAnswered by carried.message.sequence accepted carried.sent)
      (member_at_end from) ≡ Some heard
      → HearsIt heard
  answer-by accepted body ends.Store from heard e = absurd (none-some heard e)
  answer-by accepted body (ends.Member by) from heard e =
      subst HearsIt (some-is (heards.FailsafeAnswered by.id carried.message.sequence accepted carried.sent) heard e)
      (said by from accepted body)

  pub peers-hear : (body : Body) → carried.message.body ≡ body → IsPeerBody body → (heard : Heard)
      → heard_in cluster carried body ≡ Some heard → HearsIt heard
  peers-hear bodies.Ask body is heard e = unheard Met member.id.number (Some number) Stood
      carried.message.incarnation carried.message.sequence (member_at_end carried.message.from) heard e
  peers-hear (bodies.Answer answer) body is heard e = subst HearsIt (some-is _ heard e) tt
  peers-hear (bodies.FailsafeRequest ttl) body is heard e = request-by ttl body carried.message.from refl heard e
  peers-hear (bodies.FailsafeAnswer accepted) body is heard e =
      answer-by accepted body carried.message.from refl heard e
  peers-hear _ body is heard e = absurd is

-- ---- what failsafe mode is by what is heard, and of whom a failsafe request comes
mode-granted : (mode : Bool) (cluster : Cluster) (carried : InFlightFacts) (grant : Option Granted) (heard : Heard)
    → IsModeIn mode carried.snapshot
    → option_map (λ given. heards.Granted carried.message.sequence given (snapshot_in cluster carried)) grant
    ≡ Some heard
    → HearsMode mode heard
mode-granted mode cluster carried None heard is e = absurd (none-some heard e)
mode-granted mode cluster carried (Some grant) heard is e =
    subst (HearsMode mode) (some-is _ heard e) (mode-told mode cluster carried is)

mode-from : (mode : Bool) (from : Option MemberId) (says : MemberId → Heard) (heard : Heard)
    → ((by : MemberId) → HearsMode mode (says by)) → option_map says from ≡ Some heard → HearsMode mode heard
mode-from mode None says heard all e = absurd (none-some heard e)
mode-from mode (Some by) says heard all e = subst (HearsMode mode) (some-is (says by) heard e) (all by)

mode-in : (mode : Bool) (cluster : Cluster) (carried : InFlightFacts) (body : Body) (heard : Heard)
    → IsModeTold mode body carried.snapshot → heard_in cluster carried body ≡ Some heard → HearsMode mode heard
mode-in mode cluster carried bodies.Snapshot heard is e =
    subst (HearsMode mode) (some-is _ heard e) (mode-told mode cluster carried is)
mode-in mode cluster carried (bodies.Granted request leased_is) heard is e =
    mode-granted mode cluster carried carried.grant heard is e
mode-in mode cluster carried (bodies.Refused request key found) heard is e =
    subst (HearsMode mode) (some-is _ heard e) tt
mode-in mode cluster carried bodies.Ask heard is e = mode-from mode (member_at_end carried.message.from)
    (λ by. heards.Asked by carried.message.incarnation carried.message.sequence) heard (λ by. tt) e
mode-in mode cluster carried (bodies.Answer answer) heard is e = subst (HearsMode mode) (some-is _ heard e) tt
mode-in mode cluster carried (bodies.FailsafeRequest ttl) heard is e =
    mode-from mode (member_at_end carried.message.from)
    (λ by. heards.FailsafeAsked by carried.message.incarnation carried.message.sequence ttl) heard (λ by. tt) e
mode-in mode cluster carried (bodies.FailsafeAnswer accepted) heard is e =
    mode-from mode (member_at_end carried.message.from)
    (λ by. heards.FailsafeAnswered by carried.message.sequence accepted carried.sent) heard (λ by. tt) e
mode-in mode cluster carried _ heard is e = absurd (none-some heard e)

module _ (head : HeadText) (past : Past) (cluster : Cluster) (matched : IsMatched head past cluster) (member : Member)
    (number : ℕ) (carried : InFlightFacts) (there : in_flight cluster.facts.flight number ≡ Some carried)
    (to : carried.message.to ≡ ends.Member member) where
  abbrev IsHeardOf : MemberId → ℕ → ℕ → Type 0
  IsHeardOf from run sequence =
      IsRequestHeard cluster.facts.members past.flight (Some number) (heard_message number carried) from run sequence

  request-of : (ttl : Ticks) → carried.message.body ≡ bodies.FailsafeRequest ttl → (by : Member)
      → carried.message.from ≡ ends.Member by → IsHeardOf by.id carried.message.incarnation carried.message.sequence
  request-of ttl body by from = record {
    peer = by;
    there = subst (IsKnownEnd cluster.facts.members) from (matched.failsafe.between number carried there).0;
    incarnation = refl;
    counted = (matched.waiting.carried number carried there).numbered (ap (λ (b : Body). is_answer b) body);
    ttl = ttl.0;
    sent = carried.sent.0;
    is = ap request_in
        (heard-failsafe_request past cluster.facts number carried by member carried.message.incarnation
        carried.message.sequence ttl matched.flight there
        (message-is carried.message (ends.Member by) (ends.Member member) (bodies.FailsafeRequest ttl) from to body));
  }

  request-from : (ttl : Ticks) → carried.message.body ≡ bodies.FailsafeRequest ttl → (end : LinkEnd)
      → carried.message.from ≡ end → (from : MemberId) (run sequence : ℕ) (span : Ticks)
      → option_map (λ by. heards.FailsafeAsked by carried.message.incarnation carried.message.sequence ttl)
      (member_at_end end) ≡ Some (heards.FailsafeAsked from run sequence span)
      → IsHeardOf from run sequence
  request-from ttl body ends.Store is from run sequence span e = absurd (none-some _ e)
  request-from ttl body (ends.Member by) is from run sequence span e =
      let same =
      asked-is by.id from carried.message.incarnation run carried.message.sequence sequence ttl span (some-is _ _ e) in
      subst (λ (f : MemberId). IsHeardOf f run sequence) same.0
      (subst (λ (r : ℕ). IsHeardOf by.id r sequence) same.1
      (subst (λ (n : ℕ). IsHeardOf by.id carried.message.incarnation n) same.2 (request-of ttl body by is)))
    where
      asked-is : (a b : MemberId) (i j m n : ℕ) (s t : Ticks)
          → heards.FailsafeAsked a i m s ≡ heards.FailsafeAsked b j n t → (a ≡ b) × (i ≡ j) × (m ≡ n)
      asked-is a b i j m n s t e = (cc, cc, cc)

  request-in : (body : Body) → carried.message.body ≡ body → (from : MemberId) (run sequence : ℕ) (span : Ticks)
      → heard_in cluster carried body ≡ Some (heards.FailsafeAsked from run sequence span) → IsHeardOf from run sequence
  request-in (bodies.FailsafeRequest ttl) is from run sequence span e =
      request-from ttl is carried.message.from refl from run sequence span e
  request-in body is from run sequence span e = absurd (else-heard body refl from run sequence span e)
    where
      asks : Body → Bool
      asks (bodies.FailsafeRequest ttl) = true
      asks _ = false

      is_asked : Heard → Bool
      is_asked (heards.FailsafeAsked from run sequence ttl) = true
      is_asked _ = false

      heard-not : (heard : Heard) (from : MemberId) (run sequence : ℕ) (span : Ticks) → is_asked heard ≡ false
          → Some heard ≡ Some (heards.FailsafeAsked from run sequence span) → ⊥
      heard-not heard from run sequence span off e = both (sym off ∙ ap is_asked (some-is heard _ e))

      from-not : (end : Option MemberId) (says : MemberId → Heard) (from : MemberId) (run sequence : ℕ) (span : Ticks)
          → ((by : MemberId) → is_asked (says by) ≡ false)
          → option_map says end ≡ Some (heards.FailsafeAsked from run sequence span) → ⊥
      from-not None says from run sequence span all e = none-some _ e
      from-not (Some by) says from run sequence span all e = heard-not (says by) from run sequence span (all by) e

      else-granted : (grant : Option Granted) (from : MemberId) (run sequence : ℕ) (span : Ticks)
          → option_map (λ given. heards.Granted carried.message.sequence given (snapshot_in cluster carried)) grant
          ≡ Some (heards.FailsafeAsked from run sequence span)
          → ⊥
      else-granted None from run sequence span e = none-some _ e
      else-granted (Some grant) from run sequence span e = heard-not _ from run sequence span refl e

      else-heard : (body : Body) → asks body ≡ false → (from : MemberId) (run sequence : ℕ) (span : Ticks)
          → heard_in cluster carried body ≡ Some (heards.FailsafeAsked from run sequence span) → ⊥
      else-heard bodies.Snapshot off from run sequence span e = heard-not _ from run sequence span refl e
      else-heard (bodies.Refused request key found) off from run sequence span e =
          heard-not _ from run sequence span refl e
      else-heard bodies.Ask off from run sequence span e = from-not (member_at_end carried.message.from)
          (λ by. heards.Asked by carried.message.incarnation carried.message.sequence) from run sequence span
          (λ by. refl) e
      else-heard (bodies.Answer answer) off from run sequence span e = heard-not _ from run sequence span refl e
      else-heard (bodies.FailsafeAnswer accepted) off from run sequence span e =
          from-not (member_at_end carried.message.from)
          (λ by. heards.FailsafeAnswered by carried.message.sequence accepted carried.sent) from run sequence span
          (λ by. refl) e
      else-heard (bodies.FailsafeRequest ttl) off from run sequence span e = both (sym off)
      else-heard (bodies.Granted request leased_is) off from run sequence span e =
          else-granted carried.grant from run sequence span e
      else-heard _ off from run sequence span e = none-some _ e

  -- so what is heard by a message is told well
  pub heard-well : (heard : Heard) → heard_from cluster carried ≡ Some heard
      → IsHeardWell (declared_of head).failsafe cluster.facts.members past.flight member heard (Some number)
      (heard_message number carried)
  heard-well heard e = record {
    stands = subst (IsKnownEnd cluster.facts.members) to (matched.failsafe.between number carried there).1;
    told = mode-in (declared_of head).failsafe cluster carried carried.message.body heard
        (mode-flight (declared_of head).failsafe number cluster.facts.flight carried matched.failsafe.told.flight there)
        e;
    asked = λ from run sequence is. request-in carried.message.body refl from run sequence is.0 (e ∙ ap Some is.1);
  }
