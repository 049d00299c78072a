-- Lines and their parts, if the byte that ends them is known.
use Rattle.std.proofs.Common.{◌≡◌, ◌-◌, ◌<◌, ◌≤◌, ◌++◌, true, false, not, ℕ, zero, suc, List, [], ◌∷◌, arith, drop, length, refl}
use Rattle.std.specs.Prelude.{◌==◌, None}
use Rattle.std.specs.List.{list_all}
use Rattle.std.proofs.lemmas.Bool.{le-ltb, lt-ltb}
use Rattle.std.proofs.lemmas.Bool.Decides.{nat_tests}
use Rattle.std.proofs.lemmas.List.{length-append}
use Rattle.peers_hello.specs.Lines.{is_same, until, past, without_cr, line, no_line}

-- no byte is `stop`
abbrev pub Lacks : ℕ → List ℕ → Type 0
Lacks stop xs = list_all (λ byte. not (byte == stop)) xs ≡ true

pub until_stop : (stop : ℕ) (xs rest : List ℕ) → Lacks stop xs → until stop (xs ++ stop ∷ rest) ≡ xs
until_stop stop [] rest lacks = grind (arith, nat_tests)
until_stop stop (x ∷ xs) rest lacks = grind (arith, nat_tests, until_stop stop xs rest)

pub past_stop : (stop : ℕ) (xs rest : List ℕ) → Lacks stop xs → past stop (xs ++ stop ∷ rest) ≡ rest
past_stop stop [] rest lacks = grind (arith, nat_tests)
past_stop stop (x ∷ xs) rest lacks = grind (arith, nat_tests, past_stop stop xs rest)

lacks_drop : (stop count : ℕ) (xs : List ℕ) → Lacks stop xs → Lacks stop (drop count xs)
lacks_drop stop zero xs lacks = lacks
lacks_drop stop (suc count) [] lacks = refl
lacks_drop stop (suc count) (x ∷ xs) lacks = lacks_drop stop count xs (grind (arith, nat_tests))

not_cr : (xs : List ℕ) → Lacks 13 xs → is_same xs (13 ∷ []) ≡ false
not_cr [] lacks = refl
not_cr (x ∷ xs) lacks = grind (arith, nat_tests)

without_no_cr : (xs : List ℕ) → Lacks 13 xs → without_cr xs ≡ xs
without_no_cr xs lacks = rw (not_cr (drop (length xs - 1) xs) (lacks_drop 13 (length xs - 1) xs lacks)) refl

-- a line of at most 512 bytes
pub record IsLine (xs : List ℕ) : Type 0 where
  pub lf : Lacks 10 xs
  pub cr : Lacks 13 xs
  pub short : length xs ≤ 512

pub line_ended : (xs rest : List ℕ) → IsLine xs → line (xs ++ 10 ∷ rest) ≡ xs
line_ended xs rest is = rw (until_stop 10 xs rest is.lf) (without_no_cr xs is.cr)

pub stands : (xs rest : List ℕ) → IsLine xs → no_line (xs ++ 10 ∷ rest) ≡ None
stands xs rest is =
    let long = length-append xs (10 ∷ rest) in
    let short = is.short in
    let ended : length xs < length (xs ++ 10 ∷ rest) = omega (arith, long) in
    rw (until_stop 10 xs rest is.lf, le-ltb 512 (length xs) short, lt-ltb (length xs) (length (xs ++ 10 ∷ rest)) ended) refl
