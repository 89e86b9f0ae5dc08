-- The words for the roles of members (Patroni documentation, "patronictl", "patronictl list").
use Rattle.std.specs.Prelude.{ℕ, Bool, true, false, ◌==◌, if◌then◌else◌, List, codes, bit_or}
use Rattle.patronictl.specs.declared.role.TheConstants.{LEADS, STANDBY, LEADER, SYNC_STANDBY}

-- the word for the role of a member, by whether it leads and whether it is a synchronous standby
abbrev pub role_word : Bool → Bool → List ℕ
role_word true standby = codes "Leader"
role_word false true = codes "Sync Standby"
role_word false false = codes "Replica"

-- a bit, where it holds
abbrev pub bit_if : Bool → ℕ → ℕ
bit_if holds bit = if holds then bit else 0

-- the word that has the bits of just these facts
abbrev pub fact_word : Bool → Bool → ℕ
fact_word leads standby = bit_or (bit_if leads LEADS) (bit_if standby STANDBY)

-- the word of an answer of the table
abbrev pub word_of : ℕ → List ℕ
word_of answer = if answer == LEADER then codes "Leader"
    else (if answer == SYNC_STANDBY then codes "Sync Standby" else codes "Replica")
