-- Output that is written piece by piece. All loops that print rest on these.
use Rattle.std.proofs.Common.{◌≡◌, ◌≢◌, ℕ, ◌-◌, ◌≤◌, List, [], ◌++◌, length, Result, Ok, Err, arith, append_assoc, append-nil, length-append, refl, ◌∙◌, ap, sym, subst}
use Rattle.pat_outside.specs.declared.outside.Sink.{Ghosts}
use Rattle.pat_outside.specs.Prints.{Prints}
use Rattle.pat_outside.proofs.Contents.{Grew-nothing, Grew-Grew, Grew-part, GrewByPrefix-more, GrewByPrefix-same, Rose-earlier}

-- a call that writes nothing
pub Prints-nothing : {K X E : Type 0} (sink : Ghosts K) (a : K) (fault : E) (x : X) → Prints sink a a fault (Ok x) []
Prints-nothing sink a fault x = record {
  ok = Grew-nothing (sink.content a);
  part = tt;
  write = λ e. cc;
  grows = omega arith;
  room = λ n can fits. let e : n - 0 ≡ n = omega arith in rw e can;
}

-- a call that fails by something else before it writes
pub Prints-none : {K X E : Type 0} (sink : Ghosts K) (a : K) (fault error : E) (result : Result X E) (bytes : List ℕ)
    → result ≡ Err error → error ≢ fault → Prints sink a a fault result bytes
Prints-none sink a fault error result bytes is other = rw is (record {
  ok = tt;
  part = GrewByPrefix-same (sink.content a) (sink.content a) bytes refl;
  write = λ e. absurd (other cc);
  grows = omega arith;
  room = λ n can fits. other;
})

-- what was written is written, whatever is answered of it
pub Prints-ok : {K X Y E F : Type 0} {sink : Ghosts K} {a b : K} {fault : E} {x : X} {bytes : List ℕ}
    (fault' : F) (y : Y) → Prints sink a b fault (Ok x) bytes → Prints sink a b fault' (Ok y) bytes
Prints-ok fault' y p = record { ok = p.ok; part = tt; write = λ e. cc; grows = p.grows; room = p.room }

-- one piece, and then another
pub Prints-then : {K X Y E : Type 0} {sink : Ghosts K} {a b c : K} {fault : E} {x : X} (second : Result Y E)
    {xs ys : List ℕ} → Prints sink a b fault (Ok x) xs → Prints sink b c fault second ys
    → Prints sink a c fault second (xs ++ ys)
Prints-then {sink = sink} {a = a} {b = b} {c = c} (Ok y) {xs = xs} {ys = ys} p q = record {
  ok = Grew-Grew (sink.content a) (sink.content b) (sink.content c) xs ys p.ok q.ok;
  part = tt;
  write = λ e. cc;
  grows = omega (arith, p.grows, q.grows);
  room = λ n can fits.
      let rest : (n - length xs) - length ys ≡ n - length (xs ++ ys) = omega (arith, length-append xs ys) in
      rw (← rest)
      (q.room (n - length xs) (p.room n can (omega (arith, length-append xs ys))) (omega (arith, length-append xs ys)));
}
Prints-then {sink = sink} {a = a} {b = b} {c = c} (Err e) {xs = xs} {ys = ys} p q = record {
  ok = tt;
  part = Grew-part (sink.content a) (sink.content b) (sink.content c) xs ys p.ok q.part;
  write = λ e. Rose-earlier _ _ _ p.grows (q.write e);
  grows = omega (arith, p.grows, q.grows);
  room = λ n can fits.
      q.room (n - length xs) (p.room n can (omega (arith, length-append xs ys))) (omega (arith, length-append xs ys));
}

-- a call that stops in the midst of a piece stops in the midst of the whole, with an error of the same kind
pub Prints-stop : {K X Y E F : Type 0} {sink : Ghosts K} {a b : K} {fault error : E} {xs : List ℕ}
    (fault' error' : F) (final : Result Y F) (ys : List ℕ) → Prints {X = X} sink a b fault (Err error) xs
    → final ≡ Err error' → (error' ≡ fault' → error ≡ fault)
    → Prints sink a b fault' final (xs ++ ys)
Prints-stop {X = X} {Y = Y} {sink = sink} {a = a} {b = b} {fault = fault} {error = error} {xs = xs} fault' error' final
    ys p is same =
    rw is (record {
      ok = tt;
      part = GrewByPrefix-more (sink.content a) (sink.content b) xs ys p.part;
      write = λ e. p.write (ap Err (same cc));
      grows = p.grows;
      room = λ n can fits e. p.room n can (omega (arith, length-append xs ys)) (same e);
    })

-- what was printed and what is left are the whole
pub record IsPrinting {K E : Type 0} (sink : Ghosts K) (before now : K) (fault : E) (whole left : List ℕ) : Type 0 where
  pub done : List ℕ
  pub parts : done ++ left ≡ whole
  pub printed : Prints {X = Unit {0}} sink before now fault (Ok tt) done

pub IsPrinting-start : {K E : Type 0} (sink : Ghosts K) (a : K) (fault : E) (whole : List ℕ)
    → IsPrinting sink a a fault whole whole
IsPrinting-start sink a fault whole = record { done = []; parts = refl; printed = Prints-nothing sink a fault tt }

pub IsPrinting-more : {K X E : Type 0} {sink : Ghosts K} {a b c : K} {fault : E} {x : X}
    {whole left piece : List ℕ} (rest : List ℕ) → IsPrinting sink a b fault whole left → left ≡ piece ++ rest
    → Prints sink b c fault (Ok x) piece → IsPrinting sink a c fault whole rest
IsPrinting-more {piece = piece} rest p is q = record {
  done = p.done ++ piece;
  parts = append_assoc p.done piece rest ∙ ap (λ t. p.done ++ t) (sym is) ∙ p.parts;
  printed = Prints-then (Ok tt) p.printed (Prints-ok _ tt q);
}

pub IsPrinting-end : {K E : Type 0} {sink : Ghosts K} {a b : K} {fault : E} {whole left : List ℕ}
    → IsPrinting sink a b fault whole left → left ≡ [] → Prints {X = Unit {0}} sink a b fault (Ok tt) whole
IsPrinting-end {sink = sink} {a = a} {b = b} {fault = fault} p none =
    subst (λ (t : List ℕ). Prints {X = Unit {0}} sink a b fault (Ok tt) t)
    (sym (append-nil p.done) ∙ ap (λ t. p.done ++ t) (sym none) ∙ p.parts) p.printed

-- a call that stops in the midst of the next piece
pub IsPrinting-stop : {K X Y E : Type 0} {sink : Ghosts K} {a b c : K} {fault error : E}
    {whole left piece : List ℕ} (final : Result Y E) (rest : List ℕ) → IsPrinting sink a b fault whole left
    → left ≡ piece ++ rest → Prints {X = X} sink b c fault (Err error) piece → final ≡ Err error
    → Prints sink a c fault final whole
IsPrinting-stop {sink = sink} {a = a} {b = b} {c = c} {fault = fault} {error = error} final rest p is q stops =
    subst (λ (t : List ℕ). Prints sink a c fault final t) (ap (λ t. p.done ++ t) (sym is) ∙ p.parts)
    (Prints-then final p.printed (Prints-stop fault error final rest q stops (λ e. e)))
