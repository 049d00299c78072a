-- Where a message ends, whatever its meaning (HAProxy, doc/peers-v2.0.txt, "Messages").
use Rattle.std.specs.Prelude.{◌≡◌, ◌<◌, ◌≤◌, ◌⊎◌, ℕ, List, [], ◌∷◌}
use Rattle.peers_msg.specs.Spelling.{counted}

-- an encoded length, and that many bytes
abbrev pub IsCounted : List ℕ → Type 0
IsCounted bytes = (body : List ℕ) × (bytes ≡ counted body)

-- class and type, and after a type of 128 or more an encoded length and that many bytes
abbrev pub IsFrame : List ℕ → Type 0
IsFrame [] = ⊥
IsFrame (class ∷ []) = ⊥
IsFrame (class ∷ message_type ∷ rest) = ((message_type < 128) × (rest ≡ [])) ⊎ ((128 ≤ message_type) × IsCounted rest)
