-- Rates as HAProxy's `show table` prints them (HAProxy, `freq_ctr_total` and `read_freq_ctr_period`).
use Rattle.std.specs.Prelude.{◌+◌, ◌-◌, ◌*◌, ◌/◌, ◌&&◌, ◌==◌, ℕ, if◌then◌else◌, nat_le}
use Rattle.table_types.specs.declared.row.Cell.{Cell}
use Rattle.table_types.specs.declared.row.Cell.TheVariants as cells

-- the current count, and the share of the previous one for which the period has still to run, rounded down; but if the current count
-- is 0 and the previous one at most 1, the previous count whole, so that the rate of rare events doesn't flap
abbrev pub smoothed : ℕ → ℕ → ℕ → ℕ → ℕ
smoothed period current previous left =
    if current == 0 && nat_le previous 1 then previous else current + previous * left / period

-- the rate when `elapsed` has passed since the start: up to the end of the period by both counts; past it, up to the end of a second
-- period, the current count is the previous one; past that both are 0
abbrev pub rate_after : ℕ → ℕ → ℕ → ℕ → ℕ
rate_after period elapsed current previous =
    if nat_le elapsed period then smoothed period current previous (period - elapsed)
    else (if nat_le elapsed (2 * period) then smoothed period 0 current (2 * period - elapsed) else smoothed period 0 0 0)

-- the value of a rate at a moment; that of a count is the count
abbrev pub shown_rate : ℕ → ℕ → Cell → ℕ
shown_rate period now (cells.Count count) = count
shown_rate period now (cells.Rate start current previous) = rate_after period (now - start) current previous
