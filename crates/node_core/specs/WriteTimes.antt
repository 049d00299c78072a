-- How long the writes of a turn may take.
use Rattle.std.specs.Prelude.{ℕ, ◌-◌, Option, None, Some}

-- when the first write of the turn began, if this one begins now
abbrev pub first_write : Option ℕ → ℕ → ℕ
first_write None now = now
first_write (Some begun) now = begun

-- of the 10 s that the writes of a turn have in all, from the first on, what is left
abbrev pub time_left : Option ℕ → ℕ → ℕ
time_left begun now = 10000 - (now - first_write begun now)
