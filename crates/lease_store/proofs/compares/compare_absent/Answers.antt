use Rattle.std.proofs.Common.{◌≡◌, ℕ, Bool, true, false, List, ◌++◌, Option, Some, None, Result, Ok, Err, sym, ◌∙◌, rules}
use Rattle.store_keys.specs.declared.key.Key.{Key}
use Rattle.store_keys.specs.declared.key.Key.TheVariants as keys
use Rattle.store_keys.specs.declared.value.KeyEntry.{KeyEntry}
use Rattle.lease_store.specs.declared.refusal.StoreRefusal.{StoreRefusal}
use Rattle.store_keys.specs.declared.txn.Expected.{Expected}
use Rattle.store_keys.specs.declared.txn.Expected.TheVariants.{Absent}
use Rattle.lease_store.specs.Answers.{check_result_of}
use Rattle.lease_store.specs.Decision.{Decision, Grant, decision_if, decision_by, compare_if, is_as_expected, found_in}
use Rattle.lease_store.specs.Keys.{key_in}
use Rattle.lease_store.proofs.compares.compare_absent.Goals as goal

-- a key that is refused by itself is refused before others
refused-if : (b : Bool) (key : Key) (found : Expected) (rest : Decision) (e : StoreRefusal)
    → Err e ≡ check_result_of (decision_if b key found Grant) → Err e ≡ check_result_of (decision_if b key found rest)
refused-if true key found rest e is = cc
refused-if false key found rest e is = is

-- behind one that isn't, what follows decides
passed-if : (b : Bool) (key : Key) (found : Expected) (rest : Decision) (r : Result (Unit {0}) StoreRefusal)
    → Ok tt ≡ check_result_of (decision_if b key found Grant) → r ≡ check_result_of rest
    → r ≡ check_result_of (decision_if b key found rest)
passed-if true key found rest r is follows = follows
passed-if false key found rest r is follows = cc

refused-read : (pairs : List (Key × KeyEntry)) (now : ℕ) (key : Key) (read : Option Expected)
    (rest : List (Key × Expected)) (e : StoreRefusal)
    → Err e ≡ check_result_of (decision_by pairs now (compare_if key read))
    → Err e ≡ check_result_of (decision_by pairs now (compare_if key read ++ rest))
refused-read pairs now key None rest e is = cc
refused-read pairs now key (Some expected) rest e is =
    refused-if (is_as_expected expected (found_in (key_in pairs now key))) key
    (found_in (key_in pairs now key)) (decision_by pairs now rest) e is

passed-read : (pairs : List (Key × KeyEntry)) (now : ℕ) (key : Key) (read : Option Expected)
    (rest : List (Key × Expected)) (r : Result (Unit {0}) StoreRefusal)
    → Ok tt ≡ check_result_of (decision_by pairs now (compare_if key read))
    → r ≡ check_result_of (decision_by pairs now rest)
    → r ≡ check_result_of (decision_by pairs now (compare_if key read ++ rest))
passed-read pairs now key None rest r is follows = follows
passed-read pairs now key (Some expected) rest r is follows =
    passed-if (is_as_expected expected (found_in (key_in pairs now key))) key
    (found_in (key_in pairs now key)) (decision_by pairs now rest) r is follows

pub returns-in_err-compare_key : goal.returns-in_err-compare_key
returns-in_err-compare_key c =
    let told : c.from_residual.result ≡ Err c.in_err-compare_key.field-0.0 = search rules in
    told
    ∙ refused-if (is_as_expected Absent (found_in (key_in c.args.entries.now c.args.now.0 keys.Leader))) keys.Leader
    (found_in (key_in c.args.entries.now c.args.now.0 keys.Leader))
    (decision_by c.args.entries.now c.args.now.0
    (compare_if keys.Failsafe c.args.failsafe ++ compare_if keys.Sync c.args.sync))
    c.in_err-compare_key.field-0.0 (sym (c.in_err-compare_key.was) ∙ c.compare_key.ensures)

pub returns-in_err-compare_read : goal.returns-in_err-compare_read
returns-in_err-compare_read c =
    let told : c.from_residual-in_err-compare_read.result ≡ Err c.in_err-compare_read.field-0.0 = search rules in
    passed-if (is_as_expected Absent (found_in (key_in c.args.entries.now c.args.now.0 keys.Leader))) keys.Leader
    (found_in (key_in c.args.entries.now c.args.now.0 keys.Leader))
    (decision_by c.args.entries.now c.args.now.0
    (compare_if keys.Failsafe c.args.failsafe ++ compare_if keys.Sync c.args.sync))
    _ (sym (c.in_ok-compare_key.was) ∙ c.compare_key.ensures)
    (told
    ∙ refused-read c.args.entries.now c.args.now.0 keys.Failsafe c.args.failsafe
    (compare_if keys.Sync c.args.sync) c.in_err-compare_read.field-0.0
    (sym (c.in_err-compare_read.was) ∙ c.compare_read.ensures))

pub returns : goal.returns
returns c =
    passed-if (is_as_expected Absent (found_in (key_in c.args.entries.now c.args.now.0 keys.Leader))) keys.Leader
    (found_in (key_in c.args.entries.now c.args.now.0 keys.Leader))
    (decision_by c.args.entries.now c.args.now.0
    (compare_if keys.Failsafe c.args.failsafe ++ compare_if keys.Sync c.args.sync))
    _ (sym (c.in_ok-compare_key.was) ∙ c.compare_key.ensures)
    (passed-read c.args.entries.now c.args.now.0 keys.Failsafe c.args.failsafe (compare_if keys.Sync c.args.sync) _
    (sym (c.in_ok-compare_read.was) ∙ c.compare_read.ensures) c.compare_read-2.ensures)
