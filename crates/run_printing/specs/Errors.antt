-- Errors as other errors.
use Rattle.run_printing.specs.declared.print_error.PrintError.{PrintError}
use Rattle.run_printing.specs.declared.print_error.PrintError.TheVariants as prints
use Rattle.run_printing.specs.declared.serve_error.ServeError.{ServeError}
use Rattle.run_printing.specs.declared.serve_error.ServeError.TheVariants.{Memory, Write}

-- how serving ends where the output isn't whole
abbrev pub serve_error : PrintError → ServeError
serve_error prints.Memory = Memory
serve_error prints.Write = Write
