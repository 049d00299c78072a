-- How a lesson is printed (profile).
use Rattle.std.specs.Prelude.{◌++◌, ℕ, List, [], ◌∷◌, codes, flat_map, length}
use Rattle.std.specs.Fmt.{decimal}
use Rattle.node_text.specs.Bytes.{digits_of}
use Rattle.node_text.specs.Numbers.{spaced}

-- the line of a message
abbrev pub line_of : List ℕ → List ℕ
line_of message = flat_map digits_of message ++ 10 ∷ []

-- the number of bytes, and the prices
abbrev pub sums_of : ℕ → List ℕ → List ℕ
sums_of count prices = codes "bytes " ++ (decimal count ++ (codes "\nprices" ++ (flat_map spaced prices ++ 10 ∷ [])))

-- the bytes of messages one after another
abbrev pub joined : List (List ℕ) → List ℕ
joined messages = flat_map (λ message. message) messages

-- a line for each message, and then the sums
abbrev pub printed : List (List ℕ) → List ℕ → List ℕ
printed messages prices = flat_map line_of messages ++ sums_of (length (joined messages)) prices
