-- One turn of the loop that appends the spelling of a number.
use Rattle.std.proofs.Common.{◌≡◌, ℕ, zero, suc, ◌+◌, ◌-◌, ◌*◌, ◌/◌, ◌%◌, ◌^◌, ◌<◌, ◌≤◌, List, [], ◌∷◌, ◌++◌, length, sym, ap, ◌∙◌, append_assoc, arith}
use Rattle.peers_encint.specs.Integers.{spelling, tail_of}
use Rattle.peers_encint.proofs.OneTail.{tail_of-last, tail_of-more, length-tail_of-last, length-tail_of-more, some_tail, room_for-suc}
use Rattle.peers_encint.proofs.OneSpelling.{spelling-high, length-high}

-- later bytes spell the rest of the number: with `bytes` they make `whole`, and with `count` their number makes `total`
abbrev pub Remains : List ℕ → ℕ → ℕ → List ℕ → ℕ → Type 0
Remains bytes count rest whole total =
    (most : ℕ)
    × (rest < 2 ^ (7 * most + 7))
    × (bytes ++ tail_of most rest ≡ whole)
    × (count + length (tail_of most rest) ≡ total)

pub remains-first : (bytes : List ℕ) (count n f : ℕ) → 240 ≤ n → n < 2 ^ 64 → f ≡ 240 + n % 16 → Remains (bytes ++ f ∷ []) (count + 1) ((n - 240) / 16) (bytes ++ spelling n) (count + length (spelling n))
remains-first bytes count n f long fits first =
    let tail : List ℕ = tail_of 8 ((n - 240) / 16) in (
      8,
      omega arith,
      append_assoc bytes (f ∷ []) tail ∙ ap (λ (b : ℕ). bytes ++ b ∷ tail) first ∙ ap (λ (l : List ℕ). bytes ++ l) (sym (spelling-high n long)),
      omega (arith, length-high n long),
    )

pub remains-room : (bytes : List ℕ) (count rest : ℕ) (whole : List ℕ) (total : ℕ) → Remains bytes count rest whole total → count + 1 ≤ total
remains-room bytes count rest whole total (most, below, is, long) = omega (arith, long, some_tail most rest)

pub remains-more : (bytes : List ℕ) (count rest c : ℕ) (whole : List ℕ) (total : ℕ) → 128 ≤ rest → c ≡ 128 + rest % 128 → Remains bytes count rest whole total → Remains (bytes ++ c ∷ []) (count + 1) ((rest - 128) / 128) whole total
remains-more bytes count rest c whole total more byte (zero, below, is, long) = absurd (omega arith)
remains-more bytes count rest c whole total more byte (suc most, below, is, long) =
    let tail : List ℕ = tail_of most ((rest - 128) / 128) in
    let here : bytes ++ c ∷ tail ≡ whole = rw (byte, ← tail_of-more most rest more) is in (
      most,
      omega (arith, room_for-suc most),
      append_assoc bytes (c ∷ []) tail ∙ here,
      omega (arith, long, length-tail_of-more most rest more),
    )

pub remains-last : (bytes : List ℕ) (count rest : ℕ) (whole : List ℕ) (total : ℕ) → rest < 128 → Remains bytes count rest whole total → (bytes ++ rest ∷ [] ≡ whole) × (count + 1 ≡ total)
remains-last bytes count rest whole total last (most, below, is, long) =
    (ap (λ (l : List ℕ). bytes ++ l) (sym (tail_of-last most rest last)) ∙ is, omega (arith, long, length-tail_of-last most rest last))
