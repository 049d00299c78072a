-- What a peer that was asked for all rows brings.
use Rattle.std.specs.Prelude.{ℕ, ◌-◌, ◌*◌, ◌^◌, Bool, not, ◌==◌, ◌&&◌, ◌||◌, min}
use Rattle.node_core.specs.declared.brought.Brought.{Brought}

-- before anything came
abbrev pub nothing_brought : Brought
nothing_brought = record { rows = 0; bytes = 0; acknowledged = 0 }

-- the bytes that were read, but for the control messages, each of two bytes
abbrev pub brought_in : ℕ → ℕ → ℕ → ℕ → Brought
brought_in rows read controls acknowledged = record { rows = rows; bytes = read - min (controls * 2) (2 ^ 64 - 1); acknowledged = acknowledged }

-- a row came, or bytes that may teach one and don't come with an acknowledgement of a further number
abbrev pub is_more : Brought → Brought → Bool
is_more before now = not (now.rows == before.rows) || (not (now.bytes == before.bytes) && now.acknowledged == before.acknowledged)
