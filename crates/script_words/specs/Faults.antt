-- The faults of lines, their texts and their order.
use Rattle.std.specs.Prelude.{ℕ, nat_le, if◌then◌else◌, List, codes, Result, Ok, Err}
use Rattle.script_words.specs.declared.fault.Fault.{Fault}
use Rattle.script_words.specs.declared.fault.Fault.TheVariants.{NotUtf8, TooLong, NoCluster, BadWord, BadName, BadNumber, BadOption, Duplicate, UnknownName, NoMember, HeadLate, WordCount, BadConfig, SameEnds}

-- what a fault is called
abbrev pub text_of : Fault → List ℕ
text_of NotUtf8 = codes "not UTF-8"
text_of TooLong = codes "line too long"
text_of NoCluster = codes "no cluster line"
text_of BadWord = codes "unknown line"
text_of BadName = codes "bad name"
text_of BadNumber = codes "bad number"
text_of BadOption = codes "bad option"
text_of Duplicate = codes "declared twice"
text_of UnknownName = codes "unknown name"
text_of NoMember = codes "no member"
text_of HeadLate = codes "head line after body"
text_of WordCount = codes "wrong number of words"
text_of BadConfig = codes "bad configuration"
text_of SameEnds = codes "same ends"

-- a line has its first fault in this order
abbrev pub rank_of : Fault → ℕ
rank_of NotUtf8 = 0
rank_of TooLong = 1
rank_of NoCluster = 2
rank_of BadWord = 3
rank_of BadName = 4
rank_of BadNumber = 5
rank_of BadOption = 6
rank_of Duplicate = 7
rank_of UnknownName = 8
rank_of NoMember = 9
rank_of HeadLate = 10
rank_of WordCount = 11
rank_of BadConfig = 12
rank_of SameEnds = 13

-- the fault that a line has of two
abbrev pub earlier : Fault → Fault → Fault
earlier first second = if nat_le (rank_of first) (rank_of second) then first else second

-- what follows what went well
abbrev pub on_ok : {A B E : Type 0} → Result A E → (A → Result B E) → Result B E
on_ok (Ok x) f = f x
on_ok (Err e) f = Err e

-- two things that are both wanted
abbrev pub both : {A B : Type 0} → Result A Fault → Result B Fault → Result (A × B) Fault
both (Ok x) (Ok y) = Ok (x, y)
both (Ok x) (Err f) = Err f
both (Err f) (Ok y) = Err f
both (Err f) (Err g) = Err (earlier f g)
