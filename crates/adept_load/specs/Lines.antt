-- The lines of a case: who works it, what is done to it, and its name.
use Rattle.std.specs.Prelude.{ℕ, ◌+◌, ◌-◌, ◌%◌, List, [], ◌++◌, codes, decimal}

-- eight workers take the cases in turn
abbrev pub worker : ℕ → ℕ
worker i = (i - 1) % 8 + 1

-- a line of the worker of a case: what is done to it, and what is said of that
unfoldable pub line : ℕ → List ℕ → List ℕ → List ℕ
line i step said = codes "w" ++ (decimal (worker i) ++ (codes " " ++ (step ++ (codes " c" ++ (decimal i ++ (said ++ codes "\n"))))))

-- a case is created
unfoldable pub create_line : ℕ → List ℕ
create_line i = line i (codes "create") []

-- an activity is begun, is ended, and is done from its begin to its end
unfoldable pub start_line : ℕ → List ℕ → List ℕ
start_line i act = line i (codes "start") (codes " " ++ act)

unfoldable pub end_line : ℕ → List ℕ → List ℕ
end_line i act = line i (codes "end") (codes " " ++ act)

unfoldable pub activity_lines : ℕ → List ℕ → List ℕ
activity_lines i act = start_line i act ++ end_line i act

-- an order is entered: its total is its number
unfoldable pub entry_lines : ℕ → List ℕ
entry_lines i = start_line i (codes "enter") ++ end_line i (codes "enter total=" ++ decimal i)

-- a case is changed by one operation
unfoldable pub change_lines : ℕ → List ℕ → List ℕ
change_lines i operation = line i (codes "change") [] ++ (operation ++ codes "\nend\n")
