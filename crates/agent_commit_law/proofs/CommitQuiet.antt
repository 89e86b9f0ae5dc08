-- Outputs of which kept commits read nothing, and the requests among others.
use Rattle.std.proofs.Common.{◌≡◌, ℕ, ◌||◌, Bool, true, false, List, [], ◌∷◌, Option, Some, None, All, zero, suc, refl, sym, subst, ap, ◌∙◌}
use Rattle.std.proofs.lemmas.List.Elements.{All-push, All-weaker, All-head, All-tail}
use Rattle.std.specs.List.{cons_option}
use Rattle.pat_base.specs.MemberId.{member_of}
use Rattle.pat_base.specs.declared.member_id.MemberId.{MemberId}
use Rattle.pat_base.specs.declared.lsn.Lsn.{Lsn}
use Rattle.pat_base.specs.declared.member_set.MemberSet.{MemberSet}
use Rattle.pat_base.specs.declared.server_state.Required.{Required}
use Rattle.pat_base.specs.declared.ticks.Ticks.{Ticks}
use Rattle.store_keys.specs.declared.txn.Expected.{Expected}
use Rattle.store_keys.specs.declared.txn.Txn.{Txn}
use Rattle.store_keys.specs.declared.txn.Txn.TheVariants as txns
use Rattle.store_keys.specs.declared.txn.LeaseTxn.TheVariants as lease_txns
use Rattle.store_keys.specs.declared.txn.SyncTxn.TheVariants as sync_txns
use Rattle.store_keys.specs.declared.value.HistoryRow.{HistoryRow}
use Rattle.store_keys.specs.declared.value.MemberInfo.{MemberInfo}
use Rattle.failsafe.specs.Asks.{has}
use Rattle.event_book.specs.declared.message.Body.{Body}
use Rattle.lease_model.proofs.Tools.{none-some, not-false}
use Rattle.event_book.specs.declared.message.Body.TheVariants as bodies
use Rattle.commit_actions.specs.Flights.{SyncRequest}
use Rattle.commit_actions.specs.Past.{create_query, renew_query, query_of}
use Rattle.agent_model.specs.declared.output.Output.{Output}
use Rattle.agent_model.specs.declared.output.Output.TheVariants as outputs
use Rattle.agent_model.specs.declared.output.Feeding.TheVariants as feedings
use Rattle.agent_model.specs.declared.output.Noting.TheVariants as notings
use Rattle.agent_model.specs.declared.output.Outgoing.TheVariants as outgoing
use Rattle.agent_model.specs.declared.output.ServerOrder.TheVariants as orders
use Rattle.agent_model.specs.declared.output.Telling.TheVariants as tellings
use Rattle.agent_model.specs.declared.output.Target.TheVariants as targets
use Rattle.agent_model.specs.declared.who.Who.{Who}
use Rattle.agent_model.specs.Acting.{armed, fed_until, disarmed}
use Rattle.agent_model.specs.Agents.{Outcome}
use Rattle.agent_model.specs.Answers.{is_other, asking_one, asking_first}
use Rattle.pat_base.specs.declared.member_id.TheConstants.{MOST_MEMBERS}
use Rattle.agent_model.specs.Claiming.{passing}
use Rattle.agent_commit_law.specs.Committing.{request_in, request_of_body, request_of, requests_of, IsOneAtMost, IsQuietTxn, IsQuietBody, IsCovered, StandsAlone, is_carrying, IsSynchronousTxn, IsSynchronousBody, IsSynchronousOutput, is_begin}
use Rattle.agent_model.specs.StayingPrimary.{fed_by_failsafe, requesting_first, requesting_one}
use Rattle.agent_model.specs.HandingOver.{asking_whom}
use Rattle.agent_model.specs.Outputs.{with_output, has_one}
use Rattle.agent_cases.proofs.Rows.{if-cases}
use Rattle.agent_cases.proofs.Grants.{passing-by}

-- a renewal carries a set for the failsafe key only where it may
abbrev pub MayCarrySet : Bool → Option MemberSet → Type 0
MayCarrySet carries None = Unit {0}
MayCarrySet carries (Some members) = carries ≡ true

-- a request that neither compares the sync key nor writes it; where it
-- may, a renewal carries a set for the failsafe key
abbrev pub QuietTxn : Bool → Txn → Type 0
QuietTxn carries (txns.Lease (lease_txns.Renew revision info ttl status row failsafe)) = MayCarrySet carries failsafe
QuietTxn carries (txns.Lease (lease_txns.Create info ttl failsafe sync)) = sync ≡ None
QuietTxn carries (txns.Sync (sync_txns.Claim revision sync)) = ⊥
QuietTxn carries (txns.Sync (sync_txns.SetSync revision sync standbys may_lack)) = ⊥
QuietTxn carries (txns.Sync (sync_txns.DropSync revision sync)) = ⊥
QuietTxn carries _ = Unit {0}

abbrev pub QuietBody : Bool → Body → Type 0
QuietBody carries (bodies.Request txn) = QuietTxn carries txn
QuietBody carries _ = Unit {0}

-- an output that stands alone, but that such a renewal may carry a set
abbrev pub Stands : Bool → Output → Type 0
Stands carries (outputs.Message (outgoing.Send to sequence body)) = QuietBody carries body
Stands carries (outputs.Require required) = ⊥
Stands carries (outputs.Server orders.Begin) = ⊥
Stands carries (outputs.Tell tellings.ClaimsOutsideSync) = ⊥
Stands carries _ = Unit {0}

no-set : (failsafe : Option MemberSet) → failsafe ≡ None → (leads : Bool) → MayCarrySet leads failsafe
no-set None is leads = tt
no-set (Some members) is leads = absurd (none-some members (sym is))

quieter-txn : (leads : Bool) (txn : Txn) → IsQuietTxn txn → QuietTxn leads txn
quieter-txn leads (txns.Lease (lease_txns.Renew revision info ttl status row failsafe)) quiet =
    no-set failsafe quiet leads
quieter-txn leads (txns.Lease (lease_txns.Create info ttl failsafe sync)) quiet = quiet
quieter-txn leads (txns.Sync (sync_txns.Claim revision sync)) quiet = quiet
quieter-txn leads (txns.Sync (sync_txns.SetSync revision sync standbys may_lack)) quiet = quiet
quieter-txn leads (txns.Sync (sync_txns.DropSync revision sync)) quiet = quiet
quieter-txn leads _ quiet = tt

quieter-body : (leads : Bool) (body : Body) → IsQuietBody body → QuietBody leads body
quieter-body leads (bodies.Request txn) quiet = quieter-txn leads txn quiet
quieter-body leads _ quiet = tt

none-carried : (failsafe : Option MemberSet) → MayCarrySet false failsafe → failsafe ≡ None
none-carried None may = refl
none-carried (Some members) may = absurd (not-false false refl may)

plain-txn : (txn : Txn) → QuietTxn false txn → IsQuietTxn txn
plain-txn (txns.Lease (lease_txns.Renew revision info ttl status row failsafe)) quiet = none-carried failsafe quiet
plain-txn (txns.Lease (lease_txns.Create info ttl failsafe sync)) quiet = quiet
plain-txn (txns.Sync (sync_txns.Claim revision sync)) quiet = quiet
plain-txn (txns.Sync (sync_txns.SetSync revision sync standbys may_lack)) quiet = quiet
plain-txn (txns.Sync (sync_txns.DropSync revision sync)) quiet = quiet
plain-txn _ quiet = tt

pub plain-body : (body : Body) → QuietBody false body → IsQuietBody body
plain-body (bodies.Request txn) quiet = plain-txn txn quiet
plain-body _ quiet = tt

plain-output : (output : Output) → Stands false output → StandsAlone output
plain-output (outputs.Message (outgoing.Send to sequence body)) quiet = plain-body body quiet
plain-output (outputs.Require required) quiet = quiet
plain-output (outputs.Server orders.Begin) quiet = quiet
plain-output (outputs.Tell tellings.ClaimsOutsideSync) quiet = quiet
plain-output _ quiet = tt

-- where none may carry a set, they stand alone
pub plain : (outs : List Output) → All (Stands false) outs → All StandsAlone outs
plain outs quiet = All-weaker (Stands false) StandsAlone plain-output outs quiet

-- an output that sends no other request, and by which no server comes
-- to accept writes: one that starts again is live before it
abbrev pub IsUnasking : Bool → Output → Type 0
IsUnasking leads (outputs.Message (outgoing.Send to sequence body)) = QuietBody leads body
IsUnasking leads (outputs.Server orders.Begin) = ⊥
IsUnasking leads _ = Unit {0}

-- one that stands alone asks for nothing
quiet-unasking : (leads : Bool) (output : Output) → Stands leads output → IsUnasking leads output
quiet-unasking leads (outputs.Message (outgoing.Send to sequence body)) quiet = quiet
quiet-unasking leads (outputs.Server orders.Begin) quiet = quiet
quiet-unasking leads _ quiet = tt

-- nothing is asked either by an output of the table that stands alone, or that the law's input covers
pub alone-unasking : (output : Output) → StandsAlone output → IsUnasking false output
alone-unasking (outputs.Message (outgoing.Send to sequence body)) alone = quieter-body false body alone
alone-unasking (outputs.Server orders.Begin) alone = alone
alone-unasking _ alone = tt

pub unasking : (leads : Bool) (outs : List Output) → All (Stands leads) outs → All (IsUnasking leads) outs
unasking leads outs quiet = All-weaker (Stands leads) (IsUnasking leads) (quiet-unasking leads) outs quiet

-- one that the law's input covers
covered-quiet : (leads : Bool) (output : Output) → IsCovered output → Stands leads output
covered-quiet leads (outputs.Message (outgoing.Send to sequence body)) covered = quieter-body leads body covered
covered-quiet leads (outputs.Server orders.Begin) covered = covered
covered-quiet leads (outputs.Require required) covered = covered
covered-quiet leads (outputs.Tell tellings.ClaimsOutsideSync) covered = covered
covered-quiet leads _ covered = tt

pub covered : (leads : Bool) (outs : List Output) → All IsCovered outs → All (Stands leads) outs
covered leads outs all = All-weaker IsCovered (Stands leads) (covered-quiet leads) outs all

create-none : (m incarnation sequence : ℕ) (sync : Option Expected) → sync ≡ None
    → request_in (create_query m incarnation sequence sync) ≡ None
create-none m incarnation sequence sync is =
    ap (λ (e : Option Expected). request_in (create_query m incarnation sequence e)) is

renew-none : (m revision : ℕ) (failsafe : Option MemberSet) → request_in (renew_query m revision failsafe) ≡ None
renew-none m revision None = refl
renew-none m revision (Some members) = refl

txn-none : (leads : Bool) (m incarnation sequence : ℕ) (txn : Txn) → QuietTxn leads txn
    → request_in (query_of m incarnation sequence txn) ≡ None
txn-none leads m incarnation sequence (txns.Lease (lease_txns.Create info ttl failsafe sync)) quiet =
    create-none m incarnation sequence sync quiet
txn-none leads m incarnation sequence (txns.Lease (lease_txns.Renew revision info ttl status row failsafe)) quiet =
    renew-none m revision failsafe
txn-none leads m incarnation sequence (txns.Sync (sync_txns.Claim revision sync)) quiet = absurd quiet
txn-none leads m incarnation sequence (txns.Sync (sync_txns.SetSync revision sync standbys may_lack)) quiet =
    absurd quiet
txn-none leads m incarnation sequence _ quiet = refl

body-none : (leads : Bool) (m incarnation sequence : ℕ) (body : Body) → QuietBody leads body
    → request_of_body m incarnation sequence body ≡ None
body-none leads m incarnation sequence (bodies.Request txn) quiet = txn-none leads m incarnation sequence txn quiet
body-none leads m incarnation sequence _ quiet = refl

output-none : (leads : Bool) (m incarnation : ℕ) (output : Output) → IsUnasking leads output
    → request_of m incarnation output ≡ None
output-none leads m incarnation (outputs.Message (outgoing.Send targets.Store sequence body)) quiet =
    body-none leads m incarnation sequence body quiet
output-none leads m incarnation (outputs.Message (outgoing.Send (targets.Member member) sequence body)) quiet = refl
output-none leads m incarnation _ quiet = refl

-- no request is among such outputs
pub asks-none : (leads : Bool) (m incarnation : ℕ) (outs : List Output) → All (IsUnasking leads) outs
    → requests_of m incarnation outs ≡ []
asks-none leads m incarnation [] all = refl
asks-none leads m incarnation (output ∷ outs) all =
    ap (λ (r : Option SyncRequest). cons_option r (requests_of m incarnation outs))
    (output-none leads m incarnation output (All-head (IsUnasking leads) output outs all))
    ∙ asks-none leads m incarnation outs (All-tail (IsUnasking leads) output outs all)

pub quiet-none : (leads : Bool) (m incarnation : ℕ) (outs : List Output) → All (Stands leads) outs
    → requests_of m incarnation outs ≡ []
quiet-none leads m incarnation outs quiet = asks-none leads m incarnation outs (unasking leads outs quiet)

-- behind them there is only that of the last one
pub asks-last : (leads : Bool) (m incarnation : ℕ) (outs : List Output) (output : Output) → All (IsUnasking leads) outs
    → requests_of m incarnation (with_output output outs) ≡ cons_option (request_of m incarnation output) []
asks-last leads m incarnation [] output all = refl
asks-last leads m incarnation (one ∷ outs) output all =
    ap (λ (r : Option SyncRequest). cons_option r (requests_of m incarnation (with_output output outs)))
    (output-none leads m incarnation one (All-head (IsUnasking leads) one outs all))
    ∙ asks-last leads m incarnation outs output (All-tail (IsUnasking leads) one outs all)

pub last-request : (leads : Bool) (m incarnation : ℕ) (outs : List Output) (output : Output) → All (Stands leads) outs
    → requests_of m incarnation (with_output output outs) ≡ cons_option (request_of m incarnation output) []
last-request leads m incarnation outs output quiet =
    asks-last leads m incarnation outs output (unasking leads outs quiet)

one-of : (request : Option SyncRequest) → IsOneAtMost (cons_option request [])
one-of None = tt
one-of (Some request) = tt

pub quiet-one : (leads : Bool) (m incarnation : ℕ) (outs : List Output) → All (Stands leads) outs
    → IsOneAtMost (requests_of m incarnation outs)
quiet-one leads m incarnation outs quiet = subst IsOneAtMost (sym (quiet-none leads m incarnation outs quiet)) tt

pub last-one : (leads : Bool) (m incarnation : ℕ) (outs : List Output) (output : Output)
    → All (IsUnasking leads) outs → IsOneAtMost (requests_of m incarnation (with_output output outs))
last-one leads m incarnation outs output all =
    subst IsOneAtMost (sym (asks-last leads m incarnation outs output all)) (one-of (request_of m incarnation output))

-- nobody begins by them
unbegun : (leads : Bool) (output : Output) → IsUnasking leads output → is_begin output ≡ false
unbegun leads (outputs.Server orders.Begin) all = absurd all
unbegun leads _ all = refl

pub asks-unbegun : (leads : Bool) (outs : List Output) → All (IsUnasking leads) outs → has_one is_begin outs ≡ false
asks-unbegun leads [] all = refl
asks-unbegun leads (output ∷ outs) all =
    ap (λ (b : Bool). b || has_one is_begin outs) (unbegun leads output (All-head (IsUnasking leads) output outs all))
    ∙ asks-unbegun leads outs (All-tail (IsUnasking leads) output outs all)

pub quiet-unbegun : (leads : Bool) (outs : List Output) → All (Stands leads) outs → has_one is_begin outs ≡ false
quiet-unbegun leads outs quiet = asks-unbegun leads outs (unasking leads outs quiet)

pub last-unbegun : (leads : Bool) (outs : List Output) (output : Output) → All (IsUnasking leads) outs
    → is_begin output ≡ false → has_one is_begin (with_output output outs) ≡ false
last-unbegun leads [] output all is = ap (λ (b : Bool). b || false) is
last-unbegun leads (one ∷ outs) output all is =
    ap (λ (b : Bool). b || has_one is_begin (with_output output outs))
    (unbegun leads one (All-head (IsUnasking leads) one outs all))
    ∙ last-unbegun leads outs output (All-tail (IsUnasking leads) one outs all) is

-- and each is as synchronous mode has it
create-kept : (count quorum : ℕ) (info : MemberInfo) (ttl : Ticks) (failsafe : Option Expected) (sync : Option Expected)
    → sync ≡ None → IsSynchronousTxn count quorum (txns.Lease (lease_txns.Create info ttl failsafe sync))
create-kept count quorum info ttl failsafe None is = tt
create-kept count quorum info ttl failsafe (Some sync) is = absurd (none-some sync (sym is))

kept-txn : (leads : Bool) (count quorum : ℕ) (txn : Txn) → QuietTxn leads txn → IsSynchronousTxn count quorum txn
kept-txn leads count quorum (txns.Lease (lease_txns.Create info ttl failsafe sync)) quiet =
    create-kept count quorum info ttl failsafe sync quiet
kept-txn leads count quorum (txns.Sync (sync_txns.SetSync revision sync standbys may_lack)) quiet = absurd quiet
kept-txn leads count quorum (txns.Sync (sync_txns.DropSync revision sync)) quiet = quiet
kept-txn leads count quorum _ quiet = tt

kept-body : (leads : Bool) (count quorum : ℕ) (body : Body) → QuietBody leads body → IsSynchronousBody count quorum body
kept-body leads count quorum (bodies.Request txn) quiet = kept-txn leads count quorum txn quiet
kept-body leads count quorum _ quiet = tt

kept-output : (leads : Bool) (count quorum : ℕ) (output : Output) → IsUnasking leads output
    → IsSynchronousOutput count quorum output
kept-output leads count quorum (outputs.Message (outgoing.Send to sequence body)) all =
    kept-body leads count quorum body all
kept-output leads count quorum _ all = tt

pub keeps-mode : (leads : Bool) (count quorum : ℕ) (outs : List Output) → All (IsUnasking leads) outs
    → All (IsSynchronousOutput count quorum) outs
keeps-mode leads count quorum outs all =
    All-weaker (IsUnasking leads) (IsSynchronousOutput count quorum) (kept-output leads count quorum) outs all

-- none of them carries a set for the failsafe key, but where it may
carried-txn : (leads : Bool) (failsafe : Option MemberSet) (sequence revision : ℕ) (info : MemberInfo)
    (ttl : Ticks) (status : Option Lsn) (row : Option HistoryRow) → MayCarrySet leads failsafe
    → is_carrying (outputs.Message (outgoing.Send targets.Store sequence
    (bodies.Request (txns.Lease (lease_txns.Renew revision info ttl status row failsafe)))))
    ≡ true
    → leads ≡ true
carried-txn leads (Some members) sequence revision info ttl status row may carries = may
carried-txn leads None sequence revision info ttl status row may carries = absurd (not-false false refl carries)

carried-output : (leads : Bool) (output : Output) → IsUnasking leads output → is_carrying output ≡ true → leads ≡ true
carried-output leads
    (outputs.Message (outgoing.Send targets.Store sequence
    (bodies.Request (txns.Lease (lease_txns.Renew revision info ttl status row failsafe)))))
    all
    carries =
    carried-txn leads failsafe sequence revision info ttl status row all carries
carried-output leads _ all carries = absurd (not-false false refl carries)

either-carries : (first rest leads : Bool) → (first ≡ true → leads ≡ true) → (rest ≡ true → leads ≡ true)
    → first || rest ≡ true → leads ≡ true
either-carries true rest leads one more is = one refl
either-carries false rest leads one more is = more is

-- no set is carried by outputs that may carry none
pub carries-none : (outs : List Output) → All (IsUnasking false) outs → has_one is_carrying outs ≡ false
carries-none [] all = refl
carries-none (output ∷ outs) all = neither (is_carrying output) (has_one is_carrying outs)
    (carried-output false output (All-head (IsUnasking false) output outs all))
    (carries-none outs (All-tail (IsUnasking false) output outs all))
  where
    neither : (first rest : Bool) → (first ≡ true → false ≡ true) → rest ≡ false → first || rest ≡ false
    neither true rest one more = sym (one refl)
    neither false rest one more = more

pub carried-leads : (leads : Bool) (outs : List Output) → All (IsUnasking leads) outs
    → has_one is_carrying outs ≡ true → leads ≡ true
carried-leads leads [] all carries = absurd (not-false false refl carries)
carried-leads leads (output ∷ outs) all carries =
    either-carries (is_carrying output) (has_one is_carrying outs) leads
    (carried-output leads output (All-head (IsUnasking leads) output outs all))
    (carried-leads leads outs (All-tail (IsUnasking leads) output outs all)) carries

is-false : (b : Bool) → (b ≡ true → false ≡ true) → b ≡ false
is-false true no-way = sym (no-way refl)
is-false false no-way = refl

pub uncarried : (output : Output) → IsUnasking false output → is_carrying output ≡ false
uncarried output all = is-false (is_carrying output) (carried-output false output all)

-- behind those that carry none
pub carried-last : (outs : List Output) (output : Output) → All (IsUnasking false) outs
    → is_carrying output ≡ false → has_one is_carrying (with_output output outs) ≡ false
carried-last [] output all is = ap (λ (b : Bool). b || false) is
carried-last (one ∷ outs) output all is =
    ap (λ (b : Bool). b || has_one is_carrying (with_output output outs))
    (uncarried one (All-head (IsUnasking false) one outs all))
    ∙ carried-last outs output (All-tail (IsUnasking false) one outs all) is

pub quietly : (leads : Bool) (outs : List Output) (output : Output) → All (Stands leads) outs
    → Stands leads output → All (Stands leads) (with_output output outs)
quietly leads outs output quiet more = All-push (Stands leads) outs output quiet more

-- so it is with a note of the sync key behind them
pub passing-unasked : (leads : Bool) (o : Outcome) → All (Stands leads) o.outputs
    → All (IsUnasking leads) (passing o).outputs
passing-unasked leads o quiet = let all : All (IsUnasking leads) o.outputs = unasking leads o.outputs quiet in
    passing-by (All (IsUnasking leads)) o all
    (All-push (IsUnasking leads) o.outputs (outputs.Tell tellings.ClaimsOutsideSync) all tt)

-- whom commits wait for is told behind them
pub unasked : (leads : Bool) (outs : List Output) (required : Required) → All (Stands leads) outs
    → All (IsUnasking leads) (with_output (outputs.Require required) outs)
unasked leads outs required quiet =
    All-push (IsUnasking leads) outs (outputs.Require required) (unasking leads outs quiet) tt

-- what is told of the watchdog has a property with all before it
module _ (P : Output → Type 0) (outs : List Output) (all : All P outs) where
  pub all-disarmed : (deadline : Option Ticks) → P (outputs.Watchdog feedings.Disarmed) → All P (disarmed deadline outs)
  all-disarmed None is = all
  all-disarmed (Some deadline) is = All-push P outs (outputs.Watchdog feedings.Disarmed) all is

  pub all-armed : (deadline : Option Ticks) → ((until : Ticks) → P (outputs.Watchdog (feedings.Armed until)))
      → All P (armed deadline outs)
  all-armed None is = all
  all-armed (Some deadline) is = All-push P outs (outputs.Watchdog (feedings.Armed deadline)) all (is deadline)

  pub all-fed : (deadline : Option Ticks) → ((until : Ticks) → P (outputs.Watchdog (feedings.Fed until)))
      → All P (fed_until deadline outs)
  all-fed None is = all
  all-fed (Some deadline) is = All-push P outs (outputs.Watchdog (feedings.Fed deadline)) all (is deadline)

pub quiet-disarmed : (leads : Bool) (deadline : Option Ticks) (outs : List Output) → All (Stands leads) outs
    → All (Stands leads) (disarmed deadline outs)
quiet-disarmed leads deadline outs quiet = all-disarmed (Stands leads) outs quiet deadline tt

pub quiet-armed : (leads : Bool) (deadline : Option Ticks) (outs : List Output) → All (Stands leads) outs
    → All (Stands leads) (armed deadline outs)
quiet-armed leads deadline outs quiet = all-armed (Stands leads) outs quiet deadline (λ until. tt)

pub quiet-fed : (leads : Bool) (deadline : Option Ticks) (outs : List Output) → All (Stands leads) outs
    → All (Stands leads) (fed_until deadline outs)
quiet-fed leads deadline outs quiet = all-fed (Stands leads) outs quiet deadline (λ until. tt)

-- the asks of other members
ask-quiet : (leads : Bool) (who : Who) (sequence : ℕ) (member : Option MemberId) (outs : List Output)
    → All (Stands leads) outs → All (Stands leads) (asking_one who sequence member outs)
ask-quiet leads who sequence None outs quiet = quiet
ask-quiet leads who sequence (Some member) outs quiet =
    if-cases (All (Stands leads)) (is_other who member)
    (with_output (outputs.Message (outgoing.Send (targets.Member member) sequence bodies.Ask)) outs) outs
    (λ _. quietly leads outs (outputs.Message (outgoing.Send (targets.Member member) sequence bodies.Ask)) quiet tt)
    (λ _. quiet)

pub asks-quiet : (leads : Bool) (who : Who) (sequence count : ℕ) (outs : List Output)
    → All (Stands leads) outs → All (Stands leads) (asking_first who sequence count outs)
asks-quiet leads who sequence zero outs quiet = quiet
asks-quiet leads who sequence (suc count) outs quiet = ask-quiet leads who sequence (member_of count)
    (asking_first who sequence count outs) (asks-quiet leads who sequence count outs quiet)

-- the asks of a leader, who may lead in its place
pub whom-quiet : (leads : Bool) (who : Who) (candidate : Option MemberId) (sequence : ℕ) (outs : List Output)
    → All (Stands leads) outs → All (Stands leads) (asking_whom who candidate sequence outs)
whom-quiet leads who None sequence outs quiet = asks-quiet leads who sequence MOST_MEMBERS outs quiet
whom-quiet leads who (Some candidate) sequence outs quiet = ask-quiet leads who sequence (Some candidate) outs quiet

-- the requests to all other members to stay primary
request-quiet : (leads : Bool) (members : MemberSet) (sequence : ℕ) (ttl : Ticks) (member : Option MemberId)
    (outs : List Output) → All (Stands leads) outs
    → All (Stands leads) (requesting_one members sequence ttl member outs)
request-quiet leads members sequence ttl None outs quiet = quiet
request-quiet leads members sequence ttl (Some member) outs quiet =
    if-cases (All (Stands leads)) (has members member.number)
    (with_output (outputs.Message (outgoing.Send (targets.Member member) sequence (bodies.FailsafeRequest ttl))) outs)
    outs
    (λ _. quietly leads outs
    (outputs.Message (outgoing.Send (targets.Member member) sequence (bodies.FailsafeRequest ttl))) quiet tt)
    (λ _. quiet)

pub requests-quiet : (leads : Bool) (members : MemberSet) (sequence : ℕ) (ttl : Ticks) (count : ℕ) (outs : List Output)
    → All (Stands leads) outs → All (Stands leads) (requesting_first members sequence ttl count outs)
requests-quiet leads members sequence ttl zero outs quiet = quiet
requests-quiet leads members sequence ttl (suc count) outs quiet =
    request-quiet leads members sequence ttl (member_of count) (requesting_first members sequence ttl count outs)
    (requests-quiet leads members sequence ttl count outs quiet)

-- a leader stays primary
fed-quiet : (leads : Bool) (deadline : Option Ticks) (members : MemberSet) (sequence : ℕ) (since : Ticks)
    (outs : List Output) → All (Stands leads) outs
    → All (Stands leads) (fed_by_failsafe deadline members sequence since outs)
fed-quiet leads None members sequence since outs quiet = quiet
fed-quiet leads (Some until) members sequence since outs quiet =
    quietly leads outs (outputs.Watchdog (feedings.FedByFailsafe until members sequence since)) quiet tt

pub staying-quiet : (leads : Bool) (deadline : Option Ticks) (members : MemberSet) (sequence : ℕ)
    (since : Ticks) (outs : List Output) → All (Stands leads) outs
    → All (Stands leads)
    (with_output (outputs.Note notings.StaysByFailsafe) (fed_by_failsafe deadline members sequence since outs))
staying-quiet leads deadline members sequence since outs quiet =
    quietly leads _ (outputs.Note notings.StaysByFailsafe)
    (fed-quiet leads deadline members sequence since outs quiet) tt
