-- The line that a draw gives.
use Rattle.std.specs.Prelude.{ℕ, ◌+◌, ◌*◌, ◌/◌, ◌%◌, ◌<◌, ◌≤◌, ◌==◌, nat_le, Bool, true, false, if◌then◌else◌}
use Rattle.std.proofs.Common.{arith, lit<}
use Rattle.std.proofs.lemmas.Nat.{mod_below}
use Rattle.pat_base.specs.declared.member_id.MemberId.{MemberId}
use Rattle.pat_base.specs.declared.member_id.TheConstants.{MOST_MEMBERS}
use Rattle.script_model.specs.Bounds.{longest_commit}
use Rattle.script_model.specs.declared.line.Command.{Command}
use Rattle.script_model.specs.declared.line.Command.TheVariants as commands
use Rattle.script_model.specs.declared.line.End.TheVariants as ends
use Rattle.script_model.specs.declared.line.Line.{Line}
use Rattle.script_model.specs.declared.line.Line.TheVariants as lines
use Rattle.script_model.specs.declared.ranges.CommitSize.{CommitSize}
use Rattle.generator_model.specs.declared.drawn_kind.DrawnKind.{DrawnKind}
use Rattle.generator_model.specs.declared.drawn_kind.DrawnKind.TheVariants as kinds

-- a draw is one of so many kinds
abbrev pub kind_count : ℕ
kind_count = 8

-- it is about one of so many members
abbrev pub member_count : ℕ
member_count = 3

-- it says an amount from 1 to this
abbrev pub greatest_amount : ℕ
greatest_amount = 400

-- the kind of a draw, by what is left when it is divided by their number: 0 and 1 are runs, and so on
abbrev pub kind_of_rest : ℕ → DrawnKind
kind_of_rest rest = if nat_le rest 1 then kinds.Run else if rest == 2 then kinds.Commit else if rest == 3
    then kinds.Suspend else if rest == 4 then kinds.Resume else if rest == 5 then kinds.Crash
    else if rest == 6 then kinds.StartAgent else kinds.Link

-- the kind of a draw
abbrev pub kind_of : ℕ → DrawnKind
kind_of draw = kind_of_rest (draw % kind_count)

-- the place of the member that a draw is about
abbrev pub drawn_place : ℕ → ℕ
drawn_place draw = draw / kind_count % member_count

pub drawn_place-below : (draw : ℕ) → drawn_place draw < member_count
drawn_place-below draw = mod_below (draw / kind_count) member_count (lit< tt)

pub drawn_place-few : (draw : ℕ) → drawn_place draw < MOST_MEMBERS
drawn_place-few draw = omega (arith, drawn_place-below draw)

-- the member that a draw is about
abbrev pub drawn_member : ℕ → MemberId
drawn_member draw = record { number = drawn_place draw; below = drawn_place-few draw }

-- the amount that a draw says
abbrev pub drawn_amount : ℕ → ℕ
drawn_amount draw = draw / (kind_count * member_count) % greatest_amount + 1

pub drawn_amount-least : (draw : ℕ) → 1 ≤ drawn_amount draw
drawn_amount-least draw = omega arith

pub drawn_amount-most : (draw : ℕ) → drawn_amount draw ≤ greatest_amount
drawn_amount-most draw = omega (arith, mod_below (draw / (kind_count * member_count)) greatest_amount (lit< tt))

pub drawn_amount-fits : (draw : ℕ) → drawn_amount draw ≤ longest_commit
drawn_amount-fits draw = omega (arith, drawn_amount-most draw)

-- a commit of that many bytes
abbrev pub drawn_size : ℕ → CommitSize
drawn_size draw = record { bytes = drawn_amount draw; least = drawn_amount-least draw; most = drawn_amount-fits draw }

-- an amount is even
abbrev pub is_even : ℕ → Bool
is_even amount = amount % 2 == 0

-- the line of the link of a member and the key store, which is cut or joined
abbrev pub link_command : Bool → MemberId → Command
link_command true member = commands.Cut (ends.Member member) ends.Store
link_command false member = commands.Join (ends.Member member) ends.Store

-- the line of a draw of this kind
abbrev pub line_of_kind : DrawnKind → ℕ → Line
line_of_kind kinds.Run draw = lines.Run (drawn_amount draw)
line_of_kind kinds.Commit draw = lines.Command (commands.Commit (drawn_member draw) (drawn_size draw))
line_of_kind kinds.Suspend draw = lines.Command (commands.Suspend (drawn_member draw))
line_of_kind kinds.Resume draw = lines.Command (commands.Resume (drawn_member draw))
line_of_kind kinds.Crash draw = lines.Command (commands.Crash (drawn_member draw))
line_of_kind kinds.StartAgent draw = lines.Command (commands.StartAgent (drawn_member draw))
line_of_kind kinds.Link draw = lines.Command (link_command (is_even (drawn_amount draw)) (drawn_member draw))

-- the line that a draw gives
abbrev pub drawn_line : ℕ → Line
drawn_line draw = line_of_kind (kind_of draw) draw
