-- Rates, which count events in consecutive periods (HAProxy Configuration Manual, stick-table `store`; when the periods
-- rotate, and the value read from them, are the profile's choices).
use Rattle.std.specs.Prelude.{ℕ, ◌+◌, ◌-◌, ◌*◌, ◌/◌, nat_lt, Option, Some, None, if◌then◌else◌}
use Rattle.table_types.specs.declared.row.Cell.{Cell}
use Rattle.table_types.specs.declared.row.Cell.TheVariants as cells

-- a rate as of a moment: within its current period it is unchanged; in the period after that, the current count becomes
-- the previous one; later both counts are 0, and a period begins at the moment; a count has no periods
abbrev pub rotated : ℕ → ℕ → Cell → Cell
rotated period now (cells.Count count) = cells.Count count
rotated period now (cells.Rate start current previous) =
    if nat_lt (now - start) period then cells.Rate start current previous
    else (if nat_lt (now - start) (2 * period) then cells.Rate (start + period) 0 current
    else cells.Rate now 0 0)

-- the value of a rotated rate: its current count, plus the share of the previous one for which its period has still to
-- run
abbrev pub counted : ℕ → ℕ → Cell → ℕ
counted period now (cells.Count count) = count
counted period now (cells.Rate start current previous) = current + previous * (period - (now - start)) / period

-- the value of a rate at a moment
abbrev pub rate_at : ℕ → ℕ → Cell → ℕ
rate_at period now cell = counted period now (rotated period now cell)

-- a cell of a data type as of a moment: only rates have a period
abbrev pub turned : ℕ → Option ℕ → Cell → Cell
turned now (Some period) cell = rotated period now cell
turned now None cell = cell
