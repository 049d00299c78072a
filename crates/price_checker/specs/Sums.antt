-- Sums of prices from the start.
use Rattle.std.specs.Prelude.{◌≡◌, ℕ, ◌≤◌, List, length, take, slice_index}
use Rattle.known_state.specs.Plans.{sum_of}

-- at each index up to the number of prices, the sum of as many of the first prices
abbrev pub AreSums : List ℕ → List ℕ → Type 0
AreSums prices sums = (length sums ≡ 4097) × ((count : ℕ) → count ≤ length prices → slice_index sums count ≡ sum_of (take count prices))
