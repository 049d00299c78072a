-- One turn of the loop that spells a number.
use Rattle.std.proofs.Common.{◌≡◌, ℕ, suc, ◌+◌, ◌-◌, ◌*◌, ◌/◌, ◌%◌, ◌^◌, ◌<◌, ◌≤◌, List, [], ◌∷◌, ◌++◌, length, take, sym, ap, ◌∙◌, append_assoc, arith, inl, inr}
use Rattle.std.proofs.Math.ListN.{set}
use Rattle.std.specs.Int.Bits.{bit_and, bit_or}
use Rattle.std.proofs.lemmas.Bool.{cases_lt}
use Rattle.std.proofs.lemmas.Nat.{and_mask, or_shifted, or_comm, or_block, pow-add}
use Rattle.std.proofs.lemmas.List.{take_more_set}
use Rattle.peers_encint.specs.Integers.{tail_of, spelling}
use Rattle.peers_encint.proofs.OneTail.{tail_of-more}
use Rattle.peers_encint.proofs.OneSpelling.{spelling-low, spelling-high}

-- ---- bytes

pub first_byte : (n : ℕ) → bit_or 240 (bit_and n 15) ≡ 240 + n % 16
first_byte n = ap (bit_or 240) (and_mask n 4) ∙ or_shifted 15 4 (n % 16) (omega arith)

marked : (r : ℕ) → r < 256 → bit_or r 128 ≡ 128 + r % 128
marked r h =
    elim (cases_lt r 128) [
      | inl lt ↦ let e : r % 128 ≡ r = omega arith in or_comm r 128 ∙ or_shifted 1 7 r lt ∙ ap (λ (k : ℕ). 128 + k) (sym e)
      | inr le ↦
          let e : r ≡ 1 * 2 ^ 7 + r % 128 = omega arith in
          or_comm r 128 ∙ ap (bit_or 128) e ∙ or_block 7 1 1 0 (r % 128) (omega arith) (omega arith)
    ]

pub later_byte : (i : ℕ) → bit_or (bit_and i 255) 128 ≡ 128 + i % 128
later_byte i =
    let e : (i % 256) % 128 ≡ i % 128 = omega arith in
    ap (λ (r : ℕ). bit_or r 128) (and_mask i 8) ∙ marked (i % 256) (omega arith) ∙ ap (λ (k : ℕ). 128 + k) e

-- ---- the bytes written

pub written-low : (n : ℕ) (out : List ℕ) → n < 240 → 0 < length out → take 1 (set out 0 n) ≡ spelling n
written-low n out lt some = take_more_set out 0 n some ∙ sym (spelling-low n lt)

pub written-first : (n : ℕ) (out : List ℕ) (f : ℕ) → 240 ≤ n → 0 < length out → f ≡ 240 + n % 16 → take 1 (set out 0 f) ++ tail_of 8 ((n - 240) / 16) ≡ spelling n
written-first n out f le some e =
    ap (λ (t : List ℕ). t ++ tail_of 8 ((n - 240) / 16)) (take_more_set out 0 f some)
    ∙ ap (λ (b : ℕ). b ∷ tail_of 8 ((n - 240) / 16)) e
    ∙ sym (spelling-high n le)

pub written-more : (out all : List ℕ) (p i c : ℕ) → p < 9 → p < length out → 128 ≤ i → c ≡ 128 + i % 128 → take p out ++ tail_of (9 - p) i ≡ all → take (p + 1) (set out p c) ++ tail_of (9 - (p + 1)) ((i - 128) / 128) ≡ all
written-more out all p i c lt fits le byte h =
    let e : 9 - p ≡ suc (9 - (p + 1)) = omega arith in
    let h' : take p out ++ (c ∷ tail_of (9 - (p + 1)) ((i - 128) / 128)) ≡ all = rw (byte, ← tail_of-more (9 - (p + 1)) i le, ← e) h in
    ap (λ (t : List ℕ). t ++ tail_of (9 - (p + 1)) ((i - 128) / 128)) (take_more_set out p c fits)
    ∙ append_assoc (take p out) (c ∷ []) (tail_of (9 - (p + 1)) ((i - 128) / 128))
    ∙ h'

pub written-last : (out all : List ℕ) (p i most : ℕ) → p < length out → tail_of most i ≡ i ∷ [] → take p out ++ tail_of most i ≡ all → take (p + 1) (set out p i) ≡ all
written-last out all p i most fits last h = take_more_set out p i fits ∙ ap (λ (t : List ℕ). take p out ++ t) (sym last) ∙ h

-- seven bits fewer are left
pub left-more : (p i : ℕ) → p < 9 → i < 2 ^ (67 - 7 * p) → (i - 128) / 128 < 2 ^ (67 - 7 * (p + 1))
left-more p i lt h =
    let e : 67 - 7 * p ≡ (67 - 7 * (p + 1)) + 7 = omega arith in
    let room : 2 ^ (67 - 7 * p) ≡ 2 ^ (67 - 7 * (p + 1)) * 128 = ap (λ (k : ℕ). 2 ^ k) e ∙ pow-add 2 (67 - 7 * (p + 1)) 7 in
    omega arith
