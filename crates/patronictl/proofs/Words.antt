-- The words of the table of roles.
use Rattle.std.proofs.Common.{◌≡◌, Bool, true, false, List, [], ◌∷◌, refl, unwrap_or}
use Rattle.pat_cases.specs.Cases.{first_answer}
use Rattle.pat_cases.specs.declared.case.Case.{Case}
use Rattle.patronictl.specs.Roles.{fact_word, role_word, word_of}
use Rattle.patronictl.specs.declared.role.TheConstants.{LEADER, LEADS, REPLICA, STANDBY, SYNC_STANDBY}

-- the rows of the table
abbrev pub role_rows : List Case
role_rows =
    record { mask = LEADS; wanted = LEADS; answer = LEADER }
    ∷ record { mask = STANDBY; wanted = STANDBY; answer = SYNC_STANDBY }
    ∷ record { mask = 0; wanted = 0; answer = REPLICA } ∷ []

-- what the table answers, as a word
pub table-words : (leads standby : Bool)
    → word_of (unwrap_or (first_answer (fact_word leads standby) role_rows) REPLICA) ≡ role_word leads standby
table-words true true = refl
table-words true false = refl
table-words false true = refl
table-words false false = refl
