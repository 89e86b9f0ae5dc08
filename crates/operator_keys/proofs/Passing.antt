-- What passes a check, and which rules don't apply then.
use Rattle.std.proofs.Common.{◌≡◌, ℕ, Bool, true, false, not, List, ◌∷◌, Option, Some, None, Result, Ok, Err, refl, sym, ◌∙◌, subst}
use Rattle.std.specs.Option.{option_copied}
use Rattle.store_keys.specs.declared.value.FailoverKey.{FailoverKey}
use Rattle.serde_json.specs.Data.{Data}
use Rattle.cluster_view.specs.declared.view.AgentView.{AgentView}
use Rattle.cluster_config.specs.ConfigReading.{json_of}
use Rattle.cluster_view.specs.Snapshots.{SnapshotFacts}
use Rattle.leader_race.proofs.Barring.{no, no-bar}
use Rattle.operator_answers.specs.declared.answer_text.Text.{Text}
use Rattle.operator_keys.specs.declared.asked.Asked.{Asked}
use Rattle.operator_keys.specs.declared.refusal.Refused.{Refused}
use Rattle.operator_keys.specs.Asking.{asked_by}
use Rattle.operator_keys.specs.Bodies.{is_request, bad_body, request_where, request_by, body_of}
use Rattle.operator_keys.specs.Checks.{seen_if, seen_by}
use Rattle.operator_keys.specs.Refusals.{refused_where, first_refusal, unless_refused, on_ok}

pub nobody-is : {X : Type 0} (x : X) → None ≡ Some x → ⊥
nobody-is x e = cc

pub same-some : {X : Type 0} (x y : X) → Some x ≡ Some y → x ≡ y
same-some x y e = cc

pub refused-ok : {A : Type 0} (refused : Refused) (x : A) → ◌≡◌ {A = Result A Refused} (Err refused) (Ok x) → ⊥
refused-ok refused x e = cc

pub same-ok : {A : Type 0} (x y : A) → ◌≡◌ {A = Result A Refused} (Ok x) (Ok y) → x ≡ y
same-ok x y e = cc

-- ---- rules that don't apply
pub first_refusal-none : (rule : Option Refused) (rules : List (Option Refused))
    → first_refusal (rule ∷ rules) ≡ None → (rule ≡ None) × (first_refusal rules ≡ None)
first_refusal-none None rules e = (refl, e)
first_refusal-none (Some refused) rules e = absurd (no-bar refused e)

pub refused_where-none : (applies : Bool) (status : ℕ) (text : Text)
    → refused_where applies status text ≡ None → applies ≡ false
refused_where-none false status text e = refl
refused_where-none true status text e = absurd (no-bar _ e)

pub not-false : (b : Bool) → not b ≡ false → b ≡ true
not-false true e = refl
not-false false e = absurd (no e)

-- ---- what follows what went well
on_ok-ok : {A B : Type 0} (r : Result A Refused) (next : A → Result B Refused) (y : B) → on_ok r next ≡ Ok y
    → (x : A) × (r ≡ Ok x) × (next x ≡ Ok y)
on_ok-ok (Ok x) next y e = (x, refl, e)
on_ok-ok (Err refused) next y e = absurd (refused-ok refused y e)

unless_refused-ok : {A : Type 0} (refusal : Option Refused) (x y : A) → unless_refused refusal x ≡ Ok y
    → (refusal ≡ None) × (x ≡ y)
unless_refused-ok None x y e = (refl, same-ok x y e)
unless_refused-ok (Some refused) x y e = absurd (refused-ok refused y e)

seen_if-ok : (o : Option SnapshotFacts) (waits : Bool) (s seen : SnapshotFacts) → seen_if o waits ≡ Ok s
    → o ≡ Some seen → (s ≡ seen) × (waits ≡ false)
seen_if-ok None waits s seen e is = absurd (nobody-is seen is)
seen_if-ok (Some x) false s seen e is = (sym (same-ok x s e) ∙ same-some x seen is, refl)
seen_if-ok (Some x) true s seen e is = absurd (refused-ok _ s e)

request_where-ok : (test : Bool) (body asked : Data) → request_where test body ≡ Ok asked → body ≡ asked
request_where-ok false body asked e = absurd (refused-ok bad_body asked e)
request_where-ok true body asked e = same-ok body asked e

json-asked : (o : Option Data) (body asked : Data) → request_by o ≡ Ok asked → o ≡ Some body → body ≡ asked
json-asked None body asked e is = absurd (nobody-is body is)
json-asked (Some x) body asked e is = sym (same-some x body is) ∙ request_where-ok (is_request x) x asked e

-- the JSON value of a body is the request that it is
pub body_of-json : (bytes : List ℕ) (body asked : Data) → body_of bytes ≡ Ok asked → json_of bytes ≡ Some body
    → body ≡ asked
body_of-json bytes body asked e is = json-asked (json_of bytes) body asked e is

-- a key that a check gave, of what refuses and of the key that is given to what is asked
pub record Passed (refusal : Asked → SnapshotFacts → Option Refused) (key_of : Asked → FailoverKey)
    (view : AgentView) (bytes : List ℕ) (seen : SnapshotFacts) (key : FailoverKey) : Type 0 where
  pub body : Data
  pub is : body_of bytes ≡ Ok body
  pub free : refusal (asked_by body seen.members) seen ≡ None
  pub gives : key_of (asked_by body seen.members) ≡ key
  pub alone : view.waits ≡ false

-- a request by the snapshot, unless something refuses it
abbrev pub asked_unless : (Asked → SnapshotFacts → Option Refused) → (Asked → FailoverKey) → Data
    → SnapshotFacts → Result FailoverKey Refused
asked_unless refusal key_of body seen =
    unless_refused (refusal (asked_by body seen.members) seen) (key_of (asked_by body seen.members))

pub passed : (refusal : Asked → SnapshotFacts → Option Refused) (key_of : Asked → FailoverKey)
    (view : AgentView) (bytes : List ℕ) (seen : SnapshotFacts) (key : FailoverKey)
    → on_ok (body_of bytes) (λ body. on_ok (seen_by view) (asked_unless refusal key_of body)) ≡ Ok key
    → option_copied view.seen ≡ Some seen → Passed refusal key_of view bytes seen key
passed refusal key_of view bytes seen key e is =
    let first = on_ok-ok (body_of bytes) (λ body. on_ok (seen_by view) (asked_unless refusal key_of body)) key e in
    let body = first.0 in
    let second = on_ok-ok (seen_by view) (asked_unless refusal key_of body) key first.2 in
    let found = seen_if-ok (option_copied view.seen) view.waits second.0 seen second.1 is in
    let here : asked_unless refusal key_of body seen ≡ Ok key =
    subst (λ (s : SnapshotFacts). asked_unless refusal key_of body s ≡ Ok key) found.0 second.2 in
    let last =
    unless_refused-ok (refusal (asked_by body seen.members) seen) (key_of (asked_by body seen.members)) key here in
    record { body = body; is = first.1; free = last.0; gives = last.1; alone = found.1 }

-- the key that a check gives is made of what was asked
pub passed-key : (refusal : Asked → SnapshotFacts → Option Refused) (key_of : Asked → FailoverKey)
    (view : AgentView) (bytes : List ℕ) (key : FailoverKey)
    → on_ok (body_of bytes) (λ body. on_ok (seen_by view) (asked_unless refusal key_of body)) ≡ Ok key
    → (asked : Asked) × (key_of asked ≡ key)
passed-key refusal key_of view bytes key e =
    let first = on_ok-ok (body_of bytes) (λ body. on_ok (seen_by view) (asked_unless refusal key_of body)) key e in
    let body = first.0 in
    let second = on_ok-ok (seen_by view) (asked_unless refusal key_of body) key first.2 in
    let s = second.0 in (
      asked_by body s.members,
      (unless_refused-ok (refusal (asked_by body s.members) s) (key_of (asked_by body s.members)) key second.2).1,
    )
