-- The state of the cluster as the page shows it.
use Rattle.std.specs.Prelude.{ℕ, Bool, if◌then◌else◌, not, ◌&&◌, List, [], ◌++◌, Option, Some, None, codes, decimal}
use Rattle.std.specs.List.{flat_map}
use Rattle.live_page.specs.declared.state.Checks.{Checks}
use Rattle.live_page.specs.declared.state.MemberState.{MemberState}

-- a line
abbrev pub line_text : List ℕ → List ℕ
line_text line = line ++ codes "\n"

-- what stands behind a name, by whether the server accepts writes
abbrev pub writes_text : Bool → List ℕ
writes_text writes = if writes then codes ": accepts writes," else codes ":"

-- a text where something holds, and nothing else
abbrev pub path_text : Bool → List ℕ → List ℕ
path_text holds text = if holds then text else []

-- which checks are answered with 200
abbrev pub answered_text : Checks → List ℕ
answered_text checks =
    codes " answers"
    ++ (path_text checks.primary (codes " /primary")
    ++ (path_text checks.replica (codes " /replica")
    ++ (path_text checks.sync (codes " /sync")
    ++ path_text (not checks.primary && (not checks.replica && not checks.sync)) (codes " no balancer"))))

-- what a balancer would be answered, where the agent runs
abbrev pub checks_text : Option Checks → List ℕ
checks_text None = codes " no agent runs"
checks_text (Some checks) = answered_text checks

-- the line of a member
abbrev pub member_text : MemberState → List ℕ
member_text member =
    member.name.now ++ (writes_text member.writes ++ (checks_text member.checks ++ codes "\n"))

-- the clock, the lines of the table, an empty line, and a line for each member
abbrev pub state_text : ℕ → List (List ℕ) → List MemberState → List ℕ
state_text clock table members =
    decimal clock ++ codes "\n" ++ flat_map line_text table ++ codes "\n" ++ flat_map member_text members
