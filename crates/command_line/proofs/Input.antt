-- Input that is read up to one byte more than a script may have.
use Rattle.std.proofs.Common.{◌≡◌, ℕ, ◌<◌, ◌+◌, ◌-◌, ◌^◌, min, nat_lt, List, [], length, take, drop, Option, Some, None, Result, Ok, Err, IsErrAnd, MatchResult, true, arith, refl, ◌∙◌, ap, sym, subst, take_all, inl, inr}
use Rattle.std.proofs.lemmas.List.{length-take, drop_all}
use Rattle.std.proofs.lemmas.Bool.Decides.{nat_tests}
use Rattle.std.proofs.lemmas.Bool.{cases_lt}
use Rattle.script_grammar.specs.Limits.{limit_of, most_bytes, most_ticks, ticks_in}
use Rattle.script_grammar.specs.Reading.{script_of}
use Rattle.script_words.specs.Lines.{lines_in}
use Rattle.script_model.specs.Script.{ScriptText}
use Rattle.command_line.specs.Limits.{KeepsLimits, most_read}
use Rattle.script_grammar.specs.declared.limit.Limit.TheVariants.{Bytes}
use Rattle.command_line.specs.declared.ending.Ending.{Ending}
use Rattle.command_line.specs.declared.ending.Ending.TheVariants as endings
use Rattle.command_line.specs.Status.{Refuses, ending_of_read}
use Rattle.pat_outside.specs.declared.transfer.ReadError.{ReadError}
use Rattle.pat_outside.specs.declared.transfer.ReadError.TheVariants as reads
use Rattle.pat_outside.specs.Outside.{Known}

too-long : (waited : ℕ) (bytes : List ℕ) → most_bytes < length bytes → limit_of waited bytes ≡ Some Bytes
too-long waited bytes long =
    let over : nat_lt most_bytes (length bytes) ≡ true = grind (arith, nat_tests) in
    rw over refl

-- one byte more than a script may have passes the limit that all bytes pass
pub limit_of-take : (waited : ℕ) (all : List ℕ) → limit_of waited (take most_read all) ≡ limit_of waited all
limit_of-take waited all = elim (cases_lt most_bytes (length all)) [
  | inl long ↦
      too-long waited (take most_read all) (omega (arith, length-take most_read all)) ∙ sym (too-long waited all long)
  | inr short ↦ ap (limit_of waited) (take_all most_read all (omega (arith, short)))
]

too-long-limits : (waited : ℕ) (bytes : List ℕ) → most_bytes < length bytes → limit_of waited bytes ≡ None → ⊥
too-long-limits waited bytes long none = clash (sym (too-long waited bytes long) ∙ none)
  where
    clash : Some Bytes ≡ None → ⊥
    clash e = cc

-- where no limit is passed, all bytes were read
pub reads-all : (waited : ℕ) (all : List ℕ) → limit_of waited (take most_read all) ≡ None
    → (take most_read all ≡ all) × (drop most_read all ≡ [])
reads-all waited all none = elim (cases_lt most_bytes (length all)) [
  | inl long ↦ absurd (too-long-limits waited (take most_read all) (omega (arith, length-take most_read all)) none)
  | inr short ↦ (take_all most_read all (omega (arith, short)), drop_all most_read all (omega (arith, short)))
]

refuses-front : (waited : ℕ) (ending : Ending) (all : List ℕ) → Refuses waited ending (take most_read all)
    → Refuses waited ending all
refuses-front waited (endings.NotScript line fault) all h =
    subst (λ (bytes : List ℕ). Refuses waited (endings.NotScript line fault) bytes) (reads-all waited all h.0).0 h
refuses-front waited (endings.Limit limit) all h = sym (limit_of-take waited all) ∙ h
refuses-front waited _ all h = tt

-- an ending that refuses those read refuses all
pub Refuses-all : (waited : ℕ) (ending : Ending) (read all : List ℕ) → read ≡ take most_read all
    → Refuses waited ending read → Refuses waited ending all
Refuses-all waited ending read all is h =
    refuses-front waited ending all (subst (λ (bytes : List ℕ). Refuses waited ending bytes) is h)

saturates : (ticks n : ℕ) → nat_lt most_ticks (ticks + min n (2 ^ 64 - 1)) ≡ nat_lt most_ticks (ticks + n)
saturates ticks n = elim (cases_lt (2 ^ 64 - 1) n) [
  | inl big ↦ over (ticks + min n (2 ^ 64 - 1)) (omega (arith, big)) ∙ sym (over (ticks + n) (omega (arith, big)))
  | inr small ↦ ap (λ (m : ℕ). nat_lt most_ticks (ticks + m)) (omega (arith, small))
]
  where
    over : (m : ℕ) → most_ticks < m → nat_lt most_ticks m ≡ true
    over m long = grind (arith, nat_tests)

-- so many ticks, or the most that can be counted
module _ (n waited : ℕ) (counted : waited ≡ min n (2 ^ 64 - 1)) where
  pub saturated : (bytes : List ℕ) → limit_of waited bytes ≡ limit_of n bytes
  saturated bytes = ap (λ (m : ℕ). limit_of m bytes) counted ∙ rw (saturates (ticks_in (lines_in bytes)) n) refl

  pub read-counted : (script : ScriptText) (bytes : List ℕ)
      → (limit_of waited bytes ≡ None) × (script_of bytes ≡ Ok script)
      → (limit_of n bytes ≡ None) × (script_of bytes ≡ Ok script)
  read-counted script bytes read = (sym (saturated bytes) ∙ read.0, read.1)

  pub refuses-counted : (ending : Ending) (bytes : List ℕ) → Refuses waited ending bytes → Refuses n ending bytes
  refuses-counted (endings.NotScript line fault) bytes h = (sym (saturated bytes) ∙ h.0, h.1)
  refuses-counted (endings.Limit limit) bytes h = sym (saturated bytes) ∙ h
  refuses-counted _ bytes h = tt

  -- a script within the limits by what is counted is so by all
  pub keeps-counted : (script : ScriptText) → KeepsLimits waited script → KeepsLimits n script
  keeps-counted script few = record { ticks = omega (arith, few.ticks, counted); lines = few.lines }

-- what holds of the bytes that a source tells, if it tells any, and of
-- those that were read, holds of some, which it tells then
pub some-bytes : (rest : Option (List ℕ)) (read : List ℕ) (P : List ℕ → Type 0) → Known rest P → P read
    → (bytes : List ℕ) × Known rest (λ all. bytes ≡ all) × P bytes
some-bytes None read P known own = (read, λ all is. absurd (nothing all is), own)
  where
    nothing : (all : List ℕ) → ◌≡◌ {A = Option (List ℕ)} None (Some all) → ⊥
    nothing all e = cc
some-bytes (Some told) read P known own = (told, λ all is. cc, known told refl)

-- a read that failed, or memory that was wanting for one, refuses no bytes
pub refuses-none : {T : Type 0} (waited : ℕ) (error : ReadError) (result : Result T Ending) (M : T → Type 0)
    (bytes : List ℕ) → IsErrAnd result (λ ending. ending ≡ ending_of_read error)
    → MatchResult result M (λ ending. Refuses waited ending bytes)
refuses-none waited error (Ok made) M bytes fails = absurd fails
refuses-none waited error (Err ending) M bytes fails =
    let same : ending ≡ ending_of_read error = fails in
    rw same (by-error error)
  where
    by-error : (error : ReadError) → Refuses waited (ending_of_read error) bytes
    by-error reads.Fault = tt
    by-error reads.Memory = tt
