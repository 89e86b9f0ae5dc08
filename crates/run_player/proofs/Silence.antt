-- What is written into a sink that has room can't fail.
use Rattle.std.proofs.Common.{◌≡◌, ℕ, List, length, Err, arith, refl}
use Rattle.pat_outside.specs.declared.outside.Sink.{Ghosts}
use Rattle.pat_outside.specs.Prints.{Prints}
use Rattle.run_printing.specs.declared.print_error.PrintError.{PrintError}
use Rattle.run_printing.specs.declared.print_error.PrintError.TheVariants.{Memory, Write}

-- who stops there wants memory
pub no-write : {K X : Type 0} (sink : Ghosts K) (before after : K) (text : List ℕ) (error : PrintError)
    → sink.can_take before (length text) → Prints {X = X} sink before after Write (Err error) text → error ≡ Memory
no-write sink before after text Memory can p = refl
no-write sink before after text Write can p = absurd (p.room (length text) can (omega arith) refl)
