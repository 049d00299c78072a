-- Words that stand for numbers and bytes.
use Rattle.std.proofs.Common.{◌≡◌, ◌∙◌, ◌+◌, ◌-◌, ◌*◌, ◌<◌, ◌≤◌, ◌++◌, ◌&&◌, Bool, true, false, ℕ, List, [], ◌∷◌, ap, append_assoc, arith, drop, drop-cons, get_or, length, refl, sym, suc, take}
use Rattle.std.specs.Prelude.{Option, None, Some, nat_le, option_map}
use Rattle.std.specs.List.{list_all}
use Rattle.std.proofs.lemmas.List.{take_rest}
use Rattle.node_text.specs.Bytes.{byte_before, bytes_of, digit_of}
use Rattle.node_text.specs.Numbers.{digits_from, is_digit, is_without_needless_zero, number_of}

-- more digits make no smaller number
grows : (n : ℕ) (digits : List ℕ) → n ≤ digits_from n digits
grows n [] = omega arith
grows n (digit ∷ digits) = let more = grows (n * 10 + (digit - 48)) digits in omega arith

-- a number that is above the greatest with one more digit is above it with all
pub grows_above : (word : List ℕ) (most n place : ℕ) → place < length word → digits_from n (drop place word) ≡ digits_from 0 word
    → most < n * 10 + (get_or word place 0 - 48) → most < digits_from 0 word
grows_above word most n place here same above =
    let one = drop-cons word place 0 here in
    let next = grows (n * 10 + (get_or word place 0 - 48)) (drop (suc place) word) in
    let all = sym (ap (digits_from n) one) ∙ same in
    omega (arith, all)

refused : (a b c : Bool) → c ≡ false → (a && (b && c)) ≡ false
refused true true c no_more = no_more
refused true false c no_more = refl
refused false b c no_more = refl

not_below : (a b : ℕ) → b < a → nat_le a b ≡ false
not_below a b below = grind arith

pub none_above : (word : List ℕ) (most : ℕ) → most < digits_from 0 word → number_of word most ≡ None
none_above word most above =
    rw (refused (is_without_needless_zero word) (list_all is_digit word) _ (not_below (digits_from 0 word) most above)) refl

longer : (bytes : List ℕ) (next : Option (List ℕ)) (high low : ℕ)
    → option_map (λ rest. bytes ++ rest) (byte_before (Some high) (Some low) next)
    ≡ option_map (λ rest. (bytes ++ (high * 16 + low) ∷ []) ++ rest) next
longer bytes (Some rest) high low = ap Some (sym (append_assoc bytes ((high * 16 + low) ∷ []) rest))
longer bytes None high low = refl

-- what is read with two digits more
two_read : (bytes word rest : List ℕ) (high low : ℕ) (d e : ℕ) → 2 ≤ length rest → digit_of (get_or rest 0 d) ≡ Some high
    → digit_of (get_or rest 1 e) ≡ Some low → option_map (λ more. bytes ++ more) (bytes_of rest) ≡ bytes_of word
    → option_map (λ more. (bytes ++ (high * 16 + low) ∷ []) ++ more) (bytes_of (drop 2 rest)) ≡ bytes_of word
two_read bytes word [] high low d e long first second so_far = absurd (omega arith)
two_read bytes word (x ∷ []) high low d e long first second so_far = absurd (omega arith)
two_read bytes word (x ∷ y ∷ rest) high low d e long first second so_far =
    let same : byte_before (digit_of x) (digit_of y) (bytes_of rest) ≡ byte_before (Some high) (Some low) (bytes_of rest)
    = ap (λ a. byte_before a (digit_of y) (bytes_of rest)) first ∙ ap (λ b. byte_before (Some high) b (bytes_of rest)) second in
    sym (longer bytes (bytes_of rest) high low) ∙ ap (option_map (λ more. bytes ++ more)) (sym same) ∙ so_far

pub two_more : (bytes word rest all : List ℕ) (high low : ℕ) (d e : ℕ) → 2 ≤ length rest → digit_of (get_or rest 0 d) ≡ Some high
    → digit_of (get_or rest 1 e) ≡ Some low → option_map (λ more. bytes ++ more) (bytes_of rest) ≡ bytes_of word
    → all ≡ bytes ++ (high * 16 + low) ∷ []
    → option_map (λ more. all ++ more) (bytes_of (take (length rest - 2) (drop 2 rest))) ≡ bytes_of word
two_more bytes word rest all high low d e long first second so_far pushed =
    rw (pushed, take_rest rest 2) (two_read bytes word rest high low d e long first second so_far)
