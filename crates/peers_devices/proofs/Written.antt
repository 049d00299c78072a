-- What several writes wrote.
use Rattle.std.proofs.Common.{◌+◌, ◌-◌, ◌≤◌, ℕ, List, arith, length, length-drop, take, drop, subst, sym}
use Rattle.std.specs.Prelude.{Option}
use Rattle.std.specs.Io.KnownBytes.{Appends}
use Rattle.std.proofs.KnownBytes.{Appends-trans}
use Rattle.std.proofs.lemmas.List.{take_rest}
use Rattle.std.proofs.Math.Seq.{take-add}

-- what is left to write
abbrev pub rest_of : ℕ → List ℕ → List ℕ
rest_of sent bytes = take (length bytes - sent) (drop sent bytes)

-- the first bytes, and then the first of the rest
pub writes_on : (a b c : Option (List ℕ)) (sent count : ℕ) (bytes : List ℕ) → Appends a b (take sent bytes)
    → Appends b c (take count (rest_of sent bytes)) → Appends a c (take (sent + count) bytes)
writes_on a b c sent count bytes before after =
    let more : Appends b c (take count (drop sent bytes)) = subst (λ r. Appends b c (take count r)) (take_rest bytes sent) after in
    subst (Appends a c) (sym (take-add sent count bytes)) (Appends-trans a b c _ _ before more)

pub stays_within : (sent count : ℕ) (bytes : List ℕ) → sent ≤ length bytes → count ≤ length (rest_of sent bytes)
    → sent + count ≤ length bytes
stays_within sent count bytes so_far more =
    let left : count ≤ length (drop sent bytes) = subst (λ r. count ≤ length r) (take_rest bytes sent) more in
    omega (arith, length-drop sent bytes)
