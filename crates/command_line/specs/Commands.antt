-- What the words of a command line ask for.
use Rattle.std.specs.Prelude.{ℕ, Bool, true, false, if◌then◌else◌, List, [], ◌∷◌, Option, Some, None, codes}
use Rattle.std.specs.Str.{bytes_eq}
use Rattle.script_words.specs.Numbers.{number}
use Rattle.command_line.specs.declared.order.Order.{Order}
use Rattle.command_line.specs.declared.order.Order.TheVariants as orders

-- a command: to play the script of the input, and for the second, to serve so many connections at
-- an address by the agent of a member then; to print that script as it is spelled canonically; to
-- make a script of a number with so many lines that are drawn, and for the last, to play it
pub data Command : Type 0 where
  Run : Command
  Serve : (member : List ℕ) → (address : List ℕ) → (count : ℕ) → Command
  Print : Command
  Generate : (seed : ℕ) → (count : ℕ) → Command
  Drill : (seed : ℕ) → (count : ℕ) → Command

-- the command of an order
abbrev pub order_command : Order → Command
order_command orders.Run = Run
order_command (orders.Serve member address count) = Serve member.now address.now count
order_command orders.Print = Print
order_command (orders.Generate seed count) = Generate seed count
order_command (orders.Drill seed count) = Drill seed count

-- what one word asks for
abbrev pub command_in : List ℕ → Option Command
command_in word =
    if bytes_eq word (codes "run") then Some Run else if bytes_eq word (codes "print") then Some Print else None

-- what a word and two numbers ask for
abbrev pub making_in : List ℕ → Option ℕ → Option ℕ → Option Command
making_in word (Some seed) (Some count) = if bytes_eq word (codes "gen") then Some (Generate seed count)
    else if bytes_eq word (codes "drill") then Some (Drill seed count) else None
making_in word _ _ = None

-- what a word, a member, an address and a number ask for
abbrev pub service_in : List ℕ → List ℕ → List ℕ → Option ℕ → Option Command
service_in word member address (Some count) =
    if bytes_eq word (codes "serve") then Some (Serve member address count) else None
service_in word member address None = None

-- what the words of a command line ask for, if they are a command
abbrev pub command_of : List (List ℕ) → Option Command
command_of (word ∷ []) = command_in word
command_of (word ∷ seed ∷ count ∷ []) = making_in word (number seed) (number count)
command_of (word ∷ member ∷ address ∷ count ∷ []) = service_in word member address (number count)
command_of _ = None

-- whether what words ask for goes by the bytes of the input
abbrev pub reads : Option Command → Bool
reads (Some Run) = true
reads (Some (Serve member address count)) = true
reads (Some Print) = true
reads _ = false

-- whether it plays a run
abbrev pub plays : Option Command → Bool
plays (Some Run) = true
plays (Some (Serve member address count)) = true
plays (Some (Drill seed count)) = true
plays _ = false

-- the bytes that a command goes by: those of the input where it is read, as far as they are told, and else none
abbrev pub heeded : Bool → Option (List ℕ) → Option (List ℕ)
heeded true rest = rest
heeded false rest = Some []
