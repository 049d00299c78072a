-- Lists whose elements are all the same.
use Rattle.std.proofs.Common.{◌≡◌, ℕ, ◌<◌, List, length, get_or, replicate, arith}
use Rattle.std.proofs.lemmas.List.{ext_get_or, length-replicate, get_or-replicate}

-- a list of length n whose elements are all x is n copies of x
pub all_same : {A : Type 0} → (n : ℕ) (x : A) (xs : List A) → length xs ≡ n → ((k : ℕ) → k < n → get_or xs k x ≡ x) → xs ≡ replicate n x
all_same n x xs long same =
    let each : (k : ℕ) → k < length xs → get_or xs k x ≡ get_or (replicate n x) k x = λ k below.
    let within : k < n = omega arith in rw (get_or-replicate n k x x within) (same k within) in
    ext_get_or x xs (replicate n x) (rw (length-replicate n x) long) each
