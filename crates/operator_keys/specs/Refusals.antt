-- What requests of operators are refused with, by rules of which the first that applies counts.
use Rattle.std.specs.Prelude.{◌≡◌, ◌≢◌, ℕ, Bool, true, false, List, [], ◌∷◌, Option, Some, None, Result, Ok, Err}
use Rattle.operator_answers.specs.declared.answer_text.Text.{Text}
use Rattle.operator_keys.specs.declared.refusal.CheckFault.{CheckFault}
use Rattle.operator_keys.specs.declared.refusal.CheckFault.TheVariants as faults
use Rattle.operator_keys.specs.declared.refusal.Refused.{Refused}

-- this refusal, where it is so
abbrev pub refused_where : Bool → ℕ → Text → Option Refused
refused_where false status text = None
refused_where true status text = Some (record { status = status; text = text })

-- what refuses by the first of these rules that applies, if one does
abbrev pub first_refusal : List (Option Refused) → Option Refused
first_refusal [] = None
first_refusal (None ∷ rules) = first_refusal rules
first_refusal (Some refused ∷ rules) = Some refused

-- this, unless something refuses it
abbrev pub unless_refused : {A : Type 0} → Option Refused → A → Result A Refused
unless_refused None x = Ok x
unless_refused (Some refused) x = Err refused

-- what follows what wasn't refused
abbrev pub on_ok : {A B : Type 0} → Result A Refused → (A → Result B Refused) → Result B Refused
on_ok (Ok x) next = next x
on_ok (Err refused) next = Err refused

-- a refusal as the fault of a check
abbrev pub with_fault : {A : Type 0} → Result A Refused → Result A CheckFault
with_fault (Ok x) = Ok x
with_fault (Err refused) = Err (faults.Refused refused)

-- a check answers this, unless there was no memory
abbrev pub Answers : {A : Type 0} → Result A CheckFault → Result A Refused → Type 0
Answers result answer = result ≢ Err faults.Memory → result ≡ with_fault answer
