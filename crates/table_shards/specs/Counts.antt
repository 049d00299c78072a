-- Counting receipts by their places, 512 places at a time (profile).
use Rattle.std.specs.Prelude.{◌≡◌, ℕ, ◌+◌, ◌<◌, ◌≤◌, ◌^◌, List, slice_index}
use Rattle.table_shards.specs.Receipts.{ReceiptState, SeatState, PlacesRise, all_receipts, times}

-- each place after the first `from`, up to `last`, is that of exactly one receipt of the table
abbrev pub AreOnce : ℕ → List SeatState → ℕ → ℕ → Type 0
AreOnce table seats from last = (place : ℕ) → from < place → place ≤ last → times place (all_receipts table seats) ≡ 1

-- the first receipt is of a place after `from`, and each other of a later place than the one before
abbrev pub RiseAfter : ℕ → List ReceiptState → Type 0
RiseAfter from rs = (seen : ℕ) × PlacesRise from rs seen

-- how many of the receipts are of each of the 512 places after `from`
abbrev pub AreCounts : ℕ → List ReceiptState → List ℕ → Type 0
AreCounts from rs counts = (index : ℕ) → index < 512 → slice_index counts index ≡ times (from + 1 + index) rs

-- the counts, with those of these receipts added
abbrev pub AreAdded : ℕ → List ReceiptState → List ℕ → List ℕ → Type 0
AreAdded from rs olds news = (index : ℕ) → index < 512 → slice_index news index ≡ slice_index olds index + times (from + 1 + index) rs

-- there is room for one more in each count
abbrev pub HaveRoom : List ℕ → Type 0
HaveRoom counts = (index : ℕ) → index < 512 → slice_index counts index + 1 < 2 ^ 64
