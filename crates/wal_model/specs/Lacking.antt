-- Logs that lack commits.
use Rattle.std.specs.Prelude.{◌≡◌, ◌++◌, ℕ, ◌==◌, ◌||◌, not, Bool, false, List, [], ◌∷◌, Option, Some, None}
use Rattle.wal_model.specs.declared.entry.Entry.{Entry}

-- there is such an entry, and it is that of the commit of this serial
abbrev pub is_entry_of : Option Entry → ℕ → Bool
is_entry_of None serial = false
is_entry_of (Some entry) serial = entry.serial == serial

-- the log has an entry of the commit of this serial
abbrev pub has_serial : List Entry → ℕ → Bool
has_serial [] serial = false
has_serial (entry ∷ entries) serial = (entry.serial == serial) || has_serial entries serial

-- the log has no entry of one of these commits
abbrev pub lacks_in : List Entry → List ℕ → Bool
lacks_in log [] = false
lacks_in log (serial ∷ serials) = not (has_serial log serial) || lacks_in log serials

-- the log has an entry of the commit of this serial, somewhere
pub record HasEntryWith (log : List Entry) (serial : ℕ) : Type 0 where
  pub front : List Entry
  pub entry : Entry
  pub rest : List Entry
  pub whole : log ≡ front ++ entry ∷ rest
  pub serial_is : entry.serial ≡ serial
