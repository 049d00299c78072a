-- Rows of stick tables, and the row that an update teaches (HAProxy, doc/peers-v2.0.txt, "Update Messages"; the profile
-- chooses that a row ends after the smaller of the remaining life and the table's expire, and that a rate is stored
-- with the moment at which its current period began).
use Rattle.std.specs.Prelude.{ℕ, ◌+◌, ◌-◌, ◌^◌, Bool, true, ◌==◌, nat_lt, List, map, Option, Some, None, if◌then◌else◌}
use Rattle.table_types.specs.declared.row.Cell.{Cell}
use Rattle.table_types.specs.declared.row.Cell.TheVariants as cells
use Rattle.table_types.specs.declared.update.Value.{Value}
use Rattle.table_types.specs.declared.update.Value.TheVariants as values
use Rattle.table_types.specs.declared.update.Update.{Update}

-- what a table stores at a key: the number of the row's last update, the moment at which the row ends, if any, a cell
-- for each data type except the server's name, that name, and whether the row was learned from a peer
pub record StoredRow : Type 0 where
  pub number : ℕ
  pub ends : Option ℕ
  pub cells : List Cell
  pub name : Option (List ℕ)
  pub learned : Bool

-- a moment later by some milliseconds, or the greatest moment if that is past it
abbrev pub later_by : ℕ → ℕ → ℕ
later_by milliseconds now = if nat_lt (now + milliseconds) (2 ^ 63) then now + milliseconds else 2 ^ 63 - 1

abbrev pub smaller : ℕ → ℕ → ℕ
smaller a b = if nat_lt a b then a else b

-- how long a row lives: at most as long as the table's expire, whatever life was sent
abbrev pub life_within : ℕ → Option ℕ → ℕ
life_within expire None = expire
life_within expire (Some life) = smaller life expire

-- when a row ends: never in a table whose rows live forever
abbrev pub end_of : ℕ → ℕ → Option ℕ → Option ℕ
end_of now expire life = if expire == 0 then None else Some (later_by (life_within expire life) now)

-- the cell of a value: a count as it is, and a rate with the moment at which its current period began
abbrev pub cell_of : ℕ → Value → Cell
cell_of now (values.Count count) = cells.Count count
cell_of now (values.Rate elapsed current previous) = cells.Rate (now - elapsed) current previous

-- the row that an update teaches at a moment to a table with an expire
abbrev pub row_of : ℕ → ℕ → Update → StoredRow
row_of now expire u = record { number = u.number; ends = end_of now expire u.life; cells = map (cell_of now) u.values; name = u.name; learned = true }
