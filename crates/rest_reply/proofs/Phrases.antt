-- Numbers that are no status have no phrase.
use Rattle.std.proofs.Common.{◌≡◌, ℕ, ◌==◌, ◌&&◌, nat_le, nat_lt, true, false, None, arith, refl}
use Rattle.std.proofs.lemmas.Bool.{false_from_ne_true}
use Rattle.std.proofs.lemmas.Bool.Decides.{nat_tests}
use Rattle.http.specs.StatusCode.{IsStatusCode, reason_phrase}

is-status : (k : ℕ) → (nat_le 100 k && nat_lt k 1000) ≡ true → IsStatusCode k
is-status k is = grind (arith, nat_tests)

-- such a number is none that is a status
differs : (n k : ℕ) → (IsStatusCode n → ⊥) → (nat_le 100 k && nat_lt k 1000) ≡ true → (n == k) ≡ false
differs n k none is =
    false_from_ne_true (n == k) (λ e. let same : n ≡ k = grind (arith, nat_tests) in none (rw same (is-status k is)))

pub no-phrase : (n : ℕ) → (IsStatusCode n → ⊥) → reason_phrase n ≡ None
no-phrase n none =
    let off : (k : ℕ) → (nat_le 100 k && nat_lt k 1000) ≡ true → (n == k) ≡ false = λ k is. differs n k none is in
    rw (
      off 100 refl,
      off 101 refl,
      off 102 refl,
      off 103 refl,
      off 200 refl,
      off 201 refl,
      off 202 refl,
      off 203 refl,
      off 204 refl,
      off 205 refl,
      off 206 refl,
      off 207 refl,
      off 208 refl,
      off 226 refl,
      off 300 refl,
      off 301 refl,
      off 302 refl,
      off 303 refl,
      off 304 refl,
      off 305 refl,
      off 307 refl,
      off 308 refl,
      off 400 refl,
      off 401 refl,
      off 402 refl,
      off 403 refl,
      off 404 refl,
      off 405 refl,
      off 406 refl,
      off 407 refl,
      off 408 refl,
      off 409 refl,
      off 410 refl,
      off 411 refl,
      off 412 refl,
      off 413 refl,
      off 414 refl,
      off 415 refl,
      off 416 refl,
      off 417 refl,
      off 418 refl,
      off 421 refl,
      off 422 refl,
      off 423 refl,
      off 424 refl,
      off 425 refl,
      off 426 refl,
      off 428 refl,
      off 429 refl,
      off 431 refl,
      off 451 refl,
      off 500 refl,
      off 501 refl,
      off 502 refl,
      off 503 refl,
      off 504 refl,
      off 505 refl,
      off 506 refl,
      off 507 refl,
      off 508 refl,
      off 510 refl,
      off 511 refl,
    )
    refl
