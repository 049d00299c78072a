-- Marks for as many requests as there are, all of them true.
use Rattle.std.proofs.Common.{◌≡◌, ℕ, zero, suc, ◌≤◌, Bool, true, List, [], ◌∷◌, length, take, refl, ap, arith}
use Rattle.std.specs.Prelude.{map, replicate}
use Rattle.known_state.specs.Requests.{Asked}

pub all_marks : (rs : List Asked) (most : ℕ) → length rs ≤ most → take (length rs) (replicate most true) ≡ map (λ r. true) rs
all_marks [] most le = refl
all_marks (r ∷ rs) zero le = absurd (omega arith)
all_marks (r ∷ rs) (suc most) le = ap (λ (marks : List Bool). true ∷ marks) (all_marks rs most (omega arith))
