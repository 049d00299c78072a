-- When a table gets new numbers.
use Rattle.std.specs.Prelude.{◌≡◌, ◌⊎◌, Bool, true, false, [], nat_le}
use Rattle.table_cell.specs.Histories.{CellState, begun_anew}
use Rattle.table_cell.specs.Renumbering.{renewed}

-- the next number of the table is 2^31 or more
abbrev pub is_spent : CellState → Bool
is_spent c = nat_le 2147483648 c.state.next

-- A table whose numbers are spent gets new ones if no session is open in it; else it waits, and stays as it is. So does a table whose
-- numbers aren't spent, which doesn't wait.
abbrev pub Renews : CellState → Bool → CellState → Type 0
Renews c true e = (is_spent c ≡ true) × (e ≡ c)
Renews c false e =
    ((is_spent c ≡ false) × (e ≡ c))
    ⊎ ((is_spent c ≡ true) × (c.state.sessions ≡ []) × (e ≡ begun_anew (renewed c)))
